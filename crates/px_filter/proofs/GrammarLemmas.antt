-- What the grammar derives is read.
use Rattle.std.proofs.Common.{◌≡◌, ◌<◌, ◌≤◌, ◌+◌, ◌∙◌, ℕ, zero, suc, Bool, true, false, cond, not, List, [], ◌∷◌, ◌++◌, length, Option, Some, None, Result, Ok, Err, refl, sym, ap, subst, inl, inr, arith, append_assoc}
use Rattle.std.proofs.Math.Dec.{leb}
use Rattle.std.proofs.lemmas.Bool.{cases_Bool, leb-true}
use Rattle.std.proofs.lemmas.List.{append-nil}
use Rattle.px_filter.specs.Expression.{Expression, asked, all_of, any_of}
use Rattle.px_filter.specs.Grammar.{IsBoth, IsChoice, IsChoices, IsFilter, IsUnary, alone, at, bare, group, more_boths, more_choices, more_unaries, negation, one_both, one_choice, one_unary, sought, status}
use Rattle.px_filter.specs.Parsing.{closes, earlier, parse, unclosed}
use Rattle.px_filter.specs.Reading.{Frame, Level, State, bang, begins_operand, choice_of, choice_whole, coded, empty_level, ended, is_followed, joint, opened, operand, paren, read, read_on, start, with_unary}
use Rattle.px_filter.specs.Stands.{IsNoNegation}
use Rattle.px_filter.specs.Tokens.{tokens_of}
use Rattle.px_filter.specs.declared.filter.FilterError.{FilterError}
use Rattle.px_filter.specs.declared.filter.FilterError.TheVariants as refusals
use Rattle.px_filter.specs.declared.operator.Argued.TheVariants as argued
use Rattle.px_filter.specs.declared.operator.Part.TheVariants as parts
use Rattle.px_filter.specs.declared.state.Awaits.TheVariants as awaits
use Rattle.px_filter.specs.declared.token.Token.{Token}
use Rattle.px_filter.specs.declared.token.Token.TheVariants as token
use Rattle.px_filter.specs.declared.token.Placed.{Placed}
use Rattle.px_filter.specs.declared.tree.Test.TheVariants as tests

abbrev opening : List Frame → Level → State
opening frames level = record { frames = frames; level = level; awaits = awaits.Operand }

abbrev behind : List Frame → Level → State
behind frames level = record { frames = frames; level = level; awaits = awaits.Joint }

abbrev lists : List Expression → List Expression → List Expression → Level
lists choices boths unaries = record { choices = choices; boths = boths; unaries = unaries }

-- an operand stands in front
abbrev Begins : List Placed → Type 0
Begins ts = is_followed begins_operand ts ≡ true

unary_begins : {depth : ℕ} {ts : List Placed} {e : Expression} → IsUnary depth ts e → (us : List Placed) → Begins (ts ++ us)
unary_begins (negation u) us = refl
unary_begins (group q k) us = refl
unary_begins alone us = refl
unary_begins (status h) us = refl
unary_begins (sought h) us = refl
unary_begins (bare h) us = refl

both_begins : {depth : ℕ} {ts : List Placed} {es : List Expression} → IsBoth depth ts es → (us : List Placed) → Begins (ts ++ us)
both_begins (one_unary u) us = unary_begins u us
both_begins (more_unaries {ts = ts} {us = vs} place u b) us =
    subst Begins (sym (append_assoc ts (at place token.And ∷ vs) us)) (unary_begins u ((at place token.And ∷ vs) ++ us))

choice_begins : {depth : ℕ} {ts : List Placed} {es : List Expression} → IsChoice depth ts es → (us : List Placed) → Begins (ts ++ us)
choice_begins (one_both b) us = both_begins b us
choice_begins (more_boths {ts = ts} {us = vs} place b c) us =
    subst Begins (sym (append_assoc ts (at place token.Or ∷ vs) us)) (both_begins b ((at place token.Or ∷ vs) ++ us))

choices_begin : {depth : ℕ} {ts : List Placed} {es : List Expression} → IsChoices depth ts es → (us : List Placed) → Begins (ts ++ us)
choices_begin (one_choice c) us = choice_begins c us
choices_begin (more_choices {ts = ts} {us = vs} c k) us = subst Begins (sym (append_assoc ts vs us)) (choice_begins c (vs ++ us))

not_deep : (n : ℕ) → n < 64 → leb 64 n ≡ false
not_deep n h = elim (cases_Bool (leb 64 n)) [
  | inl deep ↦ let le = leb-true 64 n deep in absurd (omega arith)
  | inr other ↦ other
]

opens_by : (place : ℕ) (followed deep : Bool) (s : State) → followed ≡ true → deep ≡ false →
    cond {A = Result State FilterError} followed (cond deep (Err (refusals.TooDeep place)) (Ok s)) (Err (refusals.MissingArgument place)) ≡ Ok s
opens_by place true true s h k = cc
opens_by place true false s h k = refl
opens_by place false deep s h k = cc

opens : (place : ℕ) (rest : List Placed) (frames : List Frame) (s : State) → Begins rest → length frames < 64 →
    opened place rest frames s ≡ Ok s
opens place rest frames s h k = opens_by place (is_followed begins_operand rest) (leb 64 (length frames)) s h (not_deep (length frames) k)

joins_by : (place : ℕ) (followed : Bool) (s : State) → followed ≡ true →
    cond {A = Result State FilterError} followed (Ok s) (Err (refusals.MissingArgument place)) ≡ Ok s
joins_by place true s h = refl
joins_by place false s h = cc

-- where no negation is open, an operand that ends is one more
plain_ended : (frames : List Frame) (level : Level) (e : Expression) → IsNoNegation frames →
    ended (opening frames level) e ≡ behind frames (with_unary level e)
plain_ended [] level e h = refl
plain_ended (bang ∷ frames) level e h = absurd h
plain_ended (paren outer ∷ frames) level e h = refl

-- an operand that no sign joins begins a choice
joint_is : (place : ℕ) (kind : Token) (rest : List Placed) (s : State) → begins_operand kind ≡ true →
    joint place kind rest s ≡ operand place kind rest (opening s.frames (choice_whole s.level))
joint_is place token.Not rest s h = refl
joint_is place token.And rest s h = cc
joint_is place token.Or rest s h = cc
joint_is place token.Open rest s h = refl
joint_is place token.Close rest s h = cc
joint_is place (token.Operator o) rest s h = refl
joint_is place (token.Word w) rest s h = refl
joint_is place token.Unclosed rest s h = refl

next_choice : (ts : List Placed) (frames : List Frame) (level : Level) → Begins ts →
    read ts (behind frames level) ≡ read ts (opening frames (choice_whole level))
next_choice [] frames level h = cc
next_choice (t ∷ rest) frames level h = ap (read_on (read rest)) (joint_is t.place t.token rest (behind frames level) h)

mutual
  unary_read : {depth : ℕ} {ts : List Placed} {e : Expression} → IsUnary depth ts e → (frames : List Frame) (level : Level) (us : List Placed) →
      length frames + depth ≤ 64 → read (ts ++ us) (opening frames level) ≡ read us (ended (opening frames level) e)
  unary_read (negation {depth = d} {place = p} {ts = ts} u) frames level us h =
      ap (read_on (read (ts ++ us))) (opens p (ts ++ us) frames (opening (bang ∷ frames) level) (unary_begins u us) (omega arith))
      ∙ unary_read u (bang ∷ frames) level us (omega arith)
  unary_read (group {depth = d} {place = p} {ts = ts} {es = es} q k) frames level us h =
      let rest = (ts ++ (at q token.Close ∷ [])) ++ us in
      let same : rest ≡ ts ++ (at q token.Close ∷ us) = append_assoc ts (at q token.Close ∷ []) us in
      let r = choices_read k (paren level ∷ frames) [] (at q token.Close ∷ us) (omega arith) tt in
      ap (read_on (read rest))
      (opens p rest frames (opening (paren level ∷ frames) empty_level) (subst Begins (sym same) (choices_begin k (at q token.Close ∷ us))) (omega arith))
      ∙ ap (λ ts. read ts (opening (paren level ∷ frames) empty_level)) same ∙ r.2
      ∙ ap (λ es. read us (ended (opening frames level) (all_of es))) r.1
  unary_read alone frames level us h = refl
  unary_read (status {behind = q} {word = word} e) frames level us h =
      ap (λ o. read_on (read us) (coded q o (record { frames = frames; level = level; awaits = awaits.Argument argued.Code }))) e
  unary_read (sought {behind = q} {part = part} {word = word} e) frames level us h =
      ap (λ b. read_on (read us) (cond b (Ok (ended (opening frames level) (asked (tests.Part part word)))) (Err (refusals.BadPattern q)))) e
  unary_read (bare {place = p} {word = word} e) frames level us h =
      ap (λ b. read_on (read us) (cond b (Ok (ended (opening frames level) (asked (tests.Part parts.Url word)))) (Err (refusals.BadPattern p)))) e

  both_read : {depth : ℕ} {ts : List Placed} {es : List Expression} → IsBoth depth ts es → (frames : List Frame) (level : Level)
      (us : List Placed) → length frames + depth ≤ 64 → IsNoNegation frames →
      read (ts ++ us) (opening frames level) ≡ read us (behind frames (record level { unaries = level.unaries ++ es }))
  both_read (one_unary {e = e} u) frames level us h plain =
      unary_read u frames level us h ∙ ap (read us) (plain_ended frames level e plain)
  both_read (more_unaries {ts = ts} {us = vs} {e = e} {es = es} p u b) frames level us h plain =
      let next = with_unary level e in
      ap (λ ts. read ts (opening frames level)) (append_assoc ts (at p token.And ∷ vs) us)
      ∙ unary_read u frames level (at p token.And ∷ (vs ++ us)) h
      ∙ ap (read (at p token.And ∷ (vs ++ us))) (plain_ended frames level e plain)
      ∙ ap (read_on (read (vs ++ us))) (joins_by p (is_followed begins_operand (vs ++ us)) (opening frames next) (both_begins b us))
      ∙ both_read b frames next us h plain
      ∙ ap (λ x. read us (behind frames (record level { unaries = x }))) (append_assoc level.unaries (e ∷ []) es)

  choice_read : {depth : ℕ} {ts : List Placed} {es : List Expression} → IsChoice depth ts es → (frames : List Frame)
      (choices boths : List Expression) (us : List Placed) → length frames + depth ≤ 64 → IsNoNegation frames →
      (front : List Expression) × (last : List Expression) × (front ++ (all_of last ∷ []) ≡ boths ++ es)
      × (read (ts ++ us) (opening frames (lists choices boths [])) ≡ read us (behind frames (lists choices front last)))
  choice_read (one_both {es = es} b) frames choices boths us h plain =
      (boths, es, refl, both_read b frames (lists choices boths []) us h plain)
  choice_read (more_boths {ts = ts} {us = vs} {es = es} {fs = fs} p b c) frames choices boths us h plain =
      let whole = boths ++ (all_of es ∷ []) in
      let r = choice_read c frames choices whole us h plain in (
        r.0,
        r.1,
        r.2 ∙ append_assoc boths (all_of es ∷ []) fs,
        ap (λ ts. read ts (opening frames (lists choices boths []))) (append_assoc ts (at p token.Or ∷ vs) us)
            ∙ both_read b frames (lists choices boths []) (at p token.Or ∷ (vs ++ us)) h plain
            ∙ ap (read_on (read (vs ++ us)))
            (joins_by p (is_followed begins_operand (vs ++ us)) (opening frames (lists choices whole [])) (choice_begins c us))
            ∙ r.3,
      )

  choices_read : {depth : ℕ} {ts : List Placed} {es : List Expression} → IsChoices depth ts es → (frames : List Frame)
      (choices : List Expression) (us : List Placed) → length frames + depth ≤ 64 → IsNoNegation frames →
      (level : Level) × (level.choices ++ (choice_of level ∷ []) ≡ choices ++ es)
      × (read (ts ++ us) (opening frames (lists choices [] [])) ≡ read us (behind frames level))
  choices_read (one_choice {es = es} c) frames choices us h plain =
      let r = choice_read c frames choices [] us h plain in
      (lists choices r.0 r.1, ap (λ x. choices ++ (any_of x ∷ [])) r.2, r.3)
  choices_read (more_choices {ts = ts} {us = vs} {es = es} {fs = fs} c k) frames choices us h plain =
      let r = choice_read c frames choices [] (vs ++ us) h plain in
      let first = lists choices r.0 r.1 in
      let n = choices_read k frames (choices ++ (choice_of first ∷ [])) us h plain in (
        n.0,
        n.1 ∙ append_assoc choices (choice_of first ∷ []) fs ∙ ap (λ x. choices ++ (any_of x ∷ fs)) r.2,
        ap (λ ts. read ts (opening frames (lists choices [] []))) (append_assoc ts vs us) ∙ r.3
            ∙ next_choice (vs ++ us) frames first (choices_begin k us) ∙ n.2,
      )

-- every parenthesis of it is closed
abbrev pub IsClosed : List Placed → Type 0
IsClosed ts = (us : List Placed) → ((n : ℕ) → closes (ts ++ us) n ≡ closes us n) × (unclosed (ts ++ us) ≡ unclosed us)

closed_append : (ts vs : List Placed) → IsClosed ts → IsClosed vs → IsClosed (ts ++ vs)
closed_append ts vs h k us =
    let same = append_assoc ts vs us in (
      (λ n. ap (λ l. closes l n) same ∙ (h (vs ++ us)).0 n ∙ (k us).0 n),
      ap unclosed same ∙ (h (vs ++ us)).1 ∙ (k us).1,
    )

closed_and : (p : ℕ) (vs : List Placed) → IsClosed vs → IsClosed (at p token.And ∷ vs)
closed_and p vs k us = k us

closed_or : (p : ℕ) (vs : List Placed) → IsClosed vs → IsClosed (at p token.Or ∷ vs)
closed_or p vs k us = k us

closed_by : (b : Bool) (place : ℕ) (rest : Option ℕ) → b ≡ true → cond (not b) (Some place) rest ≡ rest
closed_by true place rest h = refl
closed_by false place rest h = cc

closed_group : (p q : ℕ) (ts : List Placed) → IsClosed ts → IsClosed (at p token.Open ∷ (ts ++ (at q token.Close ∷ [])))
closed_group p q ts h us =
    let rest = (ts ++ (at q token.Close ∷ [])) ++ us in
    let same : rest ≡ ts ++ (at q token.Close ∷ us) = append_assoc ts (at q token.Close ∷ []) us in
    let inner = h (at q token.Close ∷ us) in (
      (λ n. ap (λ l. closes l (suc n)) same ∙ inner.0 (suc n)),
      closed_by (closes rest zero) p (unclosed rest) (ap (λ l. closes l zero) same ∙ inner.0 zero) ∙ ap unclosed same ∙ inner.1,
    )

mutual
  unary_closed : {depth : ℕ} {ts : List Placed} {e : Expression} → IsUnary depth ts e → IsClosed ts
  unary_closed (negation u) us = unary_closed u us
  unary_closed (group {place = p} {ts = ts} q k) us = closed_group p q ts (choices_closed k) us
  unary_closed alone us = ((λ n. refl), refl)
  unary_closed (status h) us = ((λ n. refl), refl)
  unary_closed (sought h) us = ((λ n. refl), refl)
  unary_closed (bare h) us = ((λ n. refl), refl)

  both_closed : {depth : ℕ} {ts : List Placed} {es : List Expression} → IsBoth depth ts es → IsClosed ts
  both_closed (one_unary u) us = unary_closed u us
  both_closed (more_unaries {ts = ts} {us = vs} p u b) us =
      closed_append ts (at p token.And ∷ vs) (unary_closed u) (closed_and p vs (both_closed b)) us

  choice_closed : {depth : ℕ} {ts : List Placed} {es : List Expression} → IsChoice depth ts es → IsClosed ts
  choice_closed (one_both b) us = both_closed b us
  choice_closed (more_boths {ts = ts} {us = vs} p b c) us =
      closed_append ts (at p token.Or ∷ vs) (both_closed b) (closed_or p vs (choice_closed c)) us

  pub choices_closed : {depth : ℕ} {ts : List Placed} {es : List Expression} → IsChoices depth ts es → IsClosed ts
  choices_closed (one_choice c) us = choice_closed c us
  choices_closed (more_choices {ts = ts} {us = vs} c k) us = closed_append ts vs (choice_closed c) (choices_closed k) us

-- what the grammar derives is read as that
pub filter_read : (text : List ℕ) (e : Expression) → IsFilter text e → parse text ≡ Ok e
filter_read text e (es, derived, is) =
    let ts = tokens_of text in
    let whole = append-nil ts in
    let r = choices_read derived [] [] [] (omega arith) tt in
    let closed : unclosed ts ≡ None = ap unclosed (sym whole) ∙ (choices_closed derived []).1 in
    let done : read ts start ≡ Ok e =
    ap (λ l. read l start) (sym whole) ∙ r.2 ∙ ap (λ x. Ok (all_of x)) r.1 ∙ ap Ok (sym is) in
    ap (λ o. earlier o (read ts start)) closed ∙ done

pub one_expression : (text : List ℕ) (e other : Expression) → IsFilter text e → IsFilter text other → e ≡ other
one_expression text e other h k =
    let same : ◌≡◌ {A = Result Expression FilterError} (Ok e) (Ok other) = sym (filter_read text e h) ∙ filter_read text other k in cc
