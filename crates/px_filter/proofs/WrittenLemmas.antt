-- What is written out is read as itself.
use Rattle.std.proofs.Common.{◌≡◌, ◌≤◌, ◌+◌, ◌∙◌, ◌==◌, ℕ, zero, suc, List, [], ◌∷◌, ◌++◌, length, drop, decimal, Option, Some, Ok, refl, sym, ap, subst, inl, inr, arith, append_assoc, length-append}
use Rattle.std.proofs.Math.Seq.{drop-append-add}
use Rattle.std.proofs.lemmas.Bool.{cases_Bool}
use Rattle.std.proofs.lemmas.List.{append-nil}
use Rattle.px_filter.specs.Expression.{Expression, Expressions, asked, negated, every, some_of, no_more, more, row, all_of, any_of}
use Rattle.px_filter.specs.Grammar.{IsBoth, IsChoice, IsChoices, IsUnary, alone, at, group, more_boths, more_unaries, negation, one_both, one_choice, one_unary, sought, status}
use Rattle.px_filter.specs.Parsing.{parse}
use Rattle.px_filter.specs.Reading.{most_deep}
use Rattle.px_filter.specs.Tokens.{put, quoted, quoted_token, skip, tokens_of, tokens_within}
use Rattle.px_filter.specs.Written.{AllMayBeWritten, HasTwo, IsTest, MayBeWritten, fact_name, joined, part_name, test_text, word_text, written}
use Rattle.px_filter.specs.declared.operator.Argued.TheVariants as argued
use Rattle.px_filter.specs.declared.operator.Fact.{Fact}
use Rattle.px_filter.specs.declared.operator.Fact.TheVariants as facts
use Rattle.px_filter.specs.declared.operator.Operator.TheVariants as operators
use Rattle.px_filter.specs.declared.operator.Part.{Part}
use Rattle.px_filter.specs.declared.operator.Part.TheVariants as parts
use Rattle.px_filter.specs.declared.token.Token.{Token}
use Rattle.px_filter.specs.declared.token.Token.TheVariants as token
use Rattle.px_filter.specs.declared.token.Placed.{Placed}
use Rattle.px_filter.specs.declared.tree.Test.{Test}
use Rattle.px_filter.specs.declared.tree.Test.TheVariants as tests
use Rattle.px_filter.proofs.GrammarLemmas.{filter_read}
use Rattle.px_filter.proofs.TokenLemmas.{none_left}

-- the text is tokens of this kind, whatever follows
abbrev Reads : (List Placed → Type 0) → List ℕ → Type 0
Reads P text =
    (rest : List ℕ) (n p : ℕ) → length (text ++ rest) ≤ n →
    (us : List Placed) × (m : ℕ) × (q : ℕ) × (length rest ≤ m) × (tokens_within n p (text ++ rest) ≡ us ++ tokens_within m q rest) × P us

reads_both : (P Q R : List Placed → Type 0) (a b : List ℕ) → Reads P a → Reads Q b →
    ((us vs : List Placed) → P us → Q vs → R (us ++ vs)) → Reads R (a ++ b)
reads_both P Q R a b f g both rest n p h =
    let same = append_assoc a b rest in
    let fits : length (a ++ (b ++ rest)) ≤ n = subst (λ l. length l ≤ n) same h in
    let r = f (b ++ rest) n p fits in
    let s = g rest r.1 r.2 r.3 in (
      r.0 ++ s.0,
      s.1,
      s.2,
      s.3,
      ap (tokens_within n p) same ∙ r.4 ∙ ap (λ l. r.0 ++ l) s.4 ∙ sym (append_assoc r.0 s.0 (tokens_within s.1 s.2 rest)),
      both r.0 s.0 r.5 s.5,
    )

reads_as : (P R : List Placed → Type 0) (a : List ℕ) → Reads P a → ((us : List Placed) → P us → R us) → Reads R a
reads_as P R a f g rest n p h = let r = f rest n p h in (r.0, r.1, r.2, r.3, r.4, g r.0 r.5)

-- a sign is one byte
abbrev IsSign : ℕ → Token → Type 0
IsSign c kind = (n p : ℕ) (rest : List ℕ) → tokens_within (suc n) p (c ∷ rest) ≡ at p kind ∷ tokens_within n (p + 1) rest

abbrev Alone : Token → List Placed → Type 0
Alone kind us = (p : ℕ) × (us ≡ at p kind ∷ [])

reads_sign : (c : ℕ) (kind : Token) → IsSign c kind → Reads (Alone kind) (c ∷ [])
reads_sign c kind is rest zero p h = absurd (omega arith)
reads_sign c kind is rest (suc m) p h = (at p kind ∷ [], m, p + 1, omega arith, is m p rest, (p, refl))

is_not : IsSign 33 token.Not
unfolding tokens_within
is_not n p rest = refl

is_and : IsSign 38 token.And
unfolding tokens_within
is_and n p rest = refl

is_or : IsSign 124 token.Or
unfolding tokens_within
is_or n p rest = refl

is_open_sign : IsSign 40 token.Open
unfolding tokens_within
is_open_sign n p rest = refl

is_close : IsSign 41 token.Close
unfolding tokens_within
is_close n p rest = refl

-- a word in quotes
quoted_text : (word rest : List ℕ) → quoted 39 (word_text word ++ rest) ≡ Some (word, length (word_text word))
quoted_text [] rest = refl
quoted_text (c ∷ word) rest =
    let own = quoted_text word rest in
    let long : 1 + (1 + length (word_text word)) ≡ length (92 ∷ c ∷ word_text word) = omega arith in
    let short : 1 + length (word_text word) ≡ length (c ∷ word_text word) = omega arith in
    elim (cases_Bool (c == 39)) [
      | inl quote ↦ (rw quote (ap (λ o. skip (put c o)) own ∙ ap (λ k. Some (c ∷ word, k)) long))
      | inr other ↦ elim (cases_Bool (c == 92)) [
        | inl slash ↦ (rw (other, slash) (ap (λ o. skip (put c o)) own ∙ ap (λ k. Some (c ∷ word, k)) long))
        | inr plain ↦ (rw (other, plain) (rw (other, plain) (ap (λ o. put c o) own ∙ ap (λ k. Some (c ∷ word, k)) short)))
      ]
    ]

word_taken : (m p : ℕ) (word rest : List ℕ) →
    tokens_within (suc m) p (39 ∷ (word_text word ++ rest))
    ≡ at p (token.Word word) ∷ tokens_within m (p + (length (word_text word) + 1)) rest
unfolding tokens_within
word_taken m p word rest =
    let behind = word_text word ++ rest in
    let along : Option (List ℕ × ℕ) → List Placed =
    λ o. at p ((quoted_token o (length behind)).0)
    ∷ tokens_within m (p + (quoted_token o (length behind)).1) (drop ((quoted_token o (length behind)).1) (39 ∷ behind)) in
    let size : length (word_text word) + 1 ≡ length (39 ∷ word_text word) + 0 = omega arith in
    let cut : drop (length (word_text word) + 1) (39 ∷ behind) ≡ rest =
    ap (λ k. drop k (39 ∷ behind)) size ∙ drop-append-add (39 ∷ word_text word) rest 0 in
    ap along (quoted_text word rest)
    ∙ ap (λ l. at p (token.Word word) ∷ tokens_within m (p + (length (word_text word) + 1)) l) cut

reads_word : (word : List ℕ) → Reads (Alone (token.Word word)) (39 ∷ word_text word)
reads_word word rest zero p h = absurd (omega arith)
reads_word word rest (suc m) p h =
    let size = length-append (word_text word) rest in
    (at p (token.Word word) ∷ [], m, p + (length (word_text word) + 1), omega arith, word_taken m p word rest, (p, refl))

-- operators with something behind them that is no letter
fact_taken : (fact : Fact) (m p : ℕ) (rest : List ℕ) → (q : ℕ)
    × (tokens_within (suc m) p (126 ∷ (fact_name fact ++ (32 ∷ rest))) ≡ at p (token.Operator (Some (operators.Alone fact))) ∷ tokens_within m q (32 ∷ rest))
unfolding tokens_within
fact_taken facts.Always m p rest = (p + 4, refl)
fact_taken facts.Asset m p rest = (p + 2, refl)
fact_taken facts.Error m p rest = (p + 2, refl)
fact_taken facts.Marked m p rest = (p + 7, refl)
fact_taken facts.NoResponse m p rest = (p + 2, refl)
fact_taken facts.Response m p rest = (p + 2, refl)
fact_taken facts.Replayed m p rest = (p + 7, refl)
fact_taken facts.ReplayedRequest m p rest = (p + 8, refl)
fact_taken facts.ReplayedResponse m p rest = (p + 8, refl)
fact_taken facts.Websocket m p rest = (p + 10, refl)

part_taken : (part : Part) (m p : ℕ) (rest : List ℕ) → (q : ℕ)
    × (tokens_within (suc m) p (126 ∷ (part_name part ++ (39 ∷ rest)))
    ≡ at p (token.Operator (Some (operators.Argued (argued.Part part)))) ∷ tokens_within m q (39 ∷ rest))
unfolding tokens_within
part_taken parts.Body m p rest = (p + 2, refl)
part_taken parts.RequestBody m p rest = (p + 3, refl)
part_taken parts.ResponseBody m p rest = (p + 3, refl)
part_taken parts.Host m p rest = (p + 2, refl)
part_taken parts.Server m p rest = (p + 4, refl)
part_taken parts.Header m p rest = (p + 2, refl)
part_taken parts.RequestHeader m p rest = (p + 3, refl)
part_taken parts.ResponseHeader m p rest = (p + 3, refl)
part_taken parts.Method m p rest = (p + 2, refl)
part_taken parts.Client m p rest = (p + 4, refl)
part_taken parts.Type m p rest = (p + 2, refl)
part_taken parts.RequestType m p rest = (p + 3, refl)
part_taken parts.ResponseType m p rest = (p + 3, refl)
part_taken parts.Url m p rest = (p + 2, refl)

code_taken : (m p : ℕ) (rest : List ℕ) →
    tokens_within (suc m) p (126 ∷ 99 ∷ 39 ∷ rest) ≡ at p (token.Operator (Some (operators.Argued argued.Code))) ∷ tokens_within m (p + 2) (39 ∷ rest)
unfolding tokens_within
code_taken m p rest = refl

blank_taken : (m p : ℕ) (rest : List ℕ) → tokens_within (suc m) p (32 ∷ rest) ≡ tokens_within m (p + 1) rest
unfolding tokens_within
blank_taken m p rest = refl

reads_fact : (depth : ℕ) (fact : Fact) → Reads (λ us. IsUnary depth us (asked (tests.Fact fact))) (test_text (tests.Fact fact))
reads_fact depth fact rest zero p h = absurd (omega arith)
reads_fact depth fact rest (suc m) p h =
    let name = fact_name fact in
    let same = append_assoc name (32 ∷ []) rest in
    let size : length ((name ++ (32 ∷ [])) ++ rest) ≡ length name + length (32 ∷ rest) = ap length same ∙ length-append name (32 ∷ rest) in
    let s = fact_taken fact m p rest in
    blank_behind m (omega arith) s.0 (ap (λ l. tokens_within (suc m) p (126 ∷ l)) same ∙ s.1)
  where
    sign : Placed
    sign = at p (token.Operator (Some (operators.Alone fact)))

    blank_behind : (k : ℕ) → length (32 ∷ rest) ≤ k → (q : ℕ) →
        tokens_within (suc m) p (126 ∷ ((fact_name fact ++ (32 ∷ [])) ++ rest)) ≡ at p (token.Operator (Some (operators.Alone fact))) ∷ tokens_within k q (32 ∷ rest) →
        (us : List Placed) × (j : ℕ) × (x : ℕ) × (length rest ≤ j)
        × (tokens_within (suc m) p (126 ∷ ((fact_name fact ++ (32 ∷ [])) ++ rest)) ≡ us ++ tokens_within j x rest)
        × IsUnary depth us (asked (tests.Fact fact))
    blank_behind zero fits q e = absurd (omega arith)
    blank_behind (suc k) fits q e = (
      at p (token.Operator (Some (operators.Alone fact))) ∷ [],
      k,
      q + 1,
      omega arith,
      e ∙ ap (λ l. at p (token.Operator (Some (operators.Alone fact))) ∷ l) (blank_taken k q rest),
      alone,
    )

reads_code : (depth code : ℕ) → IsTest (tests.Code code) → Reads (λ us. IsUnary depth us (asked (tests.Code code))) (test_text (tests.Code code))
reads_code depth code is rest zero p h = absurd (omega arith)
reads_code depth code is rest (suc m) p h =
    let word = decimal code in
    let sign = at p (token.Operator (Some (operators.Argued argued.Code))) in
    let r = reads_word word rest m (p + 2) (omega arith) in (
      sign ∷ r.0,
      r.1,
      r.2,
      r.3,
      code_taken m p (word_text word ++ rest) ∙ ap (λ l. sign ∷ l) r.4,
      subst (λ us. IsUnary depth (sign ∷ us) (asked (tests.Code code))) (sym r.5.1) (status {place = p} {behind = r.5.0} {word = word} is),
    )

reads_part : (depth : ℕ) (part : Part) (word : List ℕ) → IsTest (tests.Part part word) →
    Reads (λ us. IsUnary depth us (asked (tests.Part part word))) (test_text (tests.Part part word))
reads_part depth part word is rest zero p h = absurd (omega arith)
reads_part depth part word is rest (suc m) p h =
    let name = part_name part in
    let text = 39 ∷ word_text word in
    let same = append_assoc name text rest in
    let size : length ((name ++ text) ++ rest) ≡ length name + length (text ++ rest) = ap length same ∙ length-append name (text ++ rest) in
    let sign = at p (token.Operator (Some (operators.Argued (argued.Part part)))) in
    let s = part_taken part m p (word_text word ++ rest) in
    let r = reads_word word rest m s.0 (omega arith) in (
      sign ∷ r.0,
      r.1,
      r.2,
      r.3,
      ap (λ l. tokens_within (suc m) p (126 ∷ l)) same ∙ s.1 ∙ ap (λ l. sign ∷ l) r.4,
      subst (λ us. IsUnary depth (sign ∷ us) (asked (tests.Part part word))) (sym r.5.1)
          (sought {place = p} {behind = r.5.0} {part = part} {word = word} is),
    )

reads_test : (depth : ℕ) (t : Test) → IsTest t → Reads (λ us. IsUnary depth us (asked t)) (test_text t)
reads_test depth (tests.Fact fact) is = reads_fact depth fact
reads_test depth (tests.Code code) is = reads_code depth code is
reads_test depth (tests.Part part word) is = reads_part depth part word is

abbrev listed : Expressions → List Expression
listed no_more = []
listed (more e es) = e ∷ listed es

row_listed : (es : Expressions) → row (listed es) ≡ es
row_listed no_more = refl
row_listed (more e es) = ap (more e) (row_listed es)

every_listed : (es : Expressions) → HasTwo es → all_of (listed es) ≡ every es
every_listed no_more h = absurd h
every_listed (more e no_more) h = absurd h
every_listed (more e (more f es)) h = ap every (row_listed (more e (more f es)))

some_listed : (es : Expressions) → HasTwo es → any_of (listed es) ≡ some_of es
some_listed no_more h = absurd h
some_listed (more e no_more) h = absurd h
some_listed (more e (more f es)) h = ap some_of (row_listed (more e (more f es)))

abbrev HasOne : Expressions → Type 0
HasOne no_more = ⊥
HasOne (more e es) = Unit {0}

one_of_two : (es : Expressions) → HasTwo es → HasOne es
one_of_two no_more h = h
one_of_two (more e es) h = tt

-- in parentheses
reads_group : (depth : ℕ) (es : List Expression) (text : List ℕ) → Reads (λ us. IsChoices depth us es) text →
    Reads (λ us. IsUnary (suc depth) us (all_of es)) (40 ∷ (text ++ (41 ∷ [])))
reads_group depth es text f =
    reads_both (Alone token.Open) (λ us. (vs : List Placed) × (q : ℕ) × (us ≡ vs ++ (at q token.Close ∷ [])) × IsChoices depth vs es)
    (λ us. IsUnary (suc depth) us (all_of es)) (40 ∷ []) (text ++ (41 ∷ [])) (reads_sign 40 token.Open is_open_sign)
    (reads_both (λ us. IsChoices depth us es) (Alone token.Close)
    (λ us. (vs : List Placed) × (q : ℕ) × (us ≡ vs ++ (at q token.Close ∷ [])) × IsChoices depth vs es) text (41 ∷ []) f
    (reads_sign 41 token.Close is_close) (λ us vs k close. (us, close.0, ap (λ l. us ++ l) close.1, k)))
    (λ us vs begin k. subst (λ l. IsUnary (suc depth) (l ++ vs) (all_of es)) (sym begin.1)
    (subst (λ l. IsUnary (suc depth) (at begin.0 token.Open ∷ l) (all_of es)) (sym k.2) (group k.1 k.3)))

mutual
  reads_unary : (e : Expression) (depth : ℕ) → MayBeWritten e depth → Reads (λ us. IsUnary depth us e) (written e)
  reads_unary (asked t) depth h = reads_test depth t h
  reads_unary (negated e) zero h = absurd h
  reads_unary (negated e) (suc depth) h =
      reads_both (Alone token.Not) (λ us. IsUnary depth us e) (λ us. IsUnary (suc depth) us (negated e)) (33 ∷ []) (written e)
      (reads_sign 33 token.Not is_not) (reads_unary e depth h)
      (λ us vs sign u. subst (λ l. IsUnary (suc depth) (l ++ vs) (negated e)) (sym sign.1) (negation u))
  reads_unary (every es) zero h = absurd h.1
  reads_unary (every es) (suc depth) h =
      subst (λ e. Reads (λ us. IsUnary (suc depth) us e) (40 ∷ (joined 38 es ++ (41 ∷ [])))) (every_listed es h.0)
      (reads_group depth (all_of (listed es) ∷ []) (joined 38 es)
      (reads_as (λ us. IsBoth depth us (listed es)) (λ us. IsChoices depth us (all_of (listed es) ∷ [])) (joined 38 es)
      (reads_ands es depth (one_of_two es h.0) h.1) (λ us b. one_choice (one_both b))))
  reads_unary (some_of es) zero h = absurd h.1
  reads_unary (some_of es) (suc depth) h =
      subst (λ e. Reads (λ us. IsUnary (suc depth) us e) (40 ∷ (joined 124 es ++ (41 ∷ [])))) (some_listed es h.0)
      (reads_group depth (any_of (listed es) ∷ []) (joined 124 es)
      (reads_as (λ us. IsChoice depth us (listed es)) (λ us. IsChoices depth us (any_of (listed es) ∷ [])) (joined 124 es)
      (reads_ors es depth (one_of_two es h.0) h.1) (λ us c. one_choice c)))

  reads_ands : (es : Expressions) (depth : ℕ) → HasOne es → AllMayBeWritten es depth → Reads (λ us. IsBoth depth us (listed es)) (joined 38 es)
  reads_ands no_more depth one h = absurd one
  reads_ands (more e no_more) depth one h =
      subst (λ l. Reads (λ us. IsBoth depth us (e ∷ [])) l) (sym (append-nil (written e)))
      (reads_as (λ us. IsUnary depth us e) (λ us. IsBoth depth us (e ∷ [])) (written e) (reads_unary e depth h.0) (λ us u. one_unary u))
  reads_ands (more e (more f es)) depth one h =
      reads_both (λ us. IsUnary depth us e)
      (λ us. (p : ℕ) × (vs : List Placed) × (us ≡ at p token.And ∷ vs) × IsBoth depth vs (f ∷ listed es))
      (λ us. IsBoth depth us (e ∷ f ∷ listed es)) (written e) (38 ∷ joined 38 (more f es)) (reads_unary e depth h.0)
      (reads_both (Alone token.And) (λ us. IsBoth depth us (f ∷ listed es))
      (λ us. (p : ℕ) × (vs : List Placed) × (us ≡ at p token.And ∷ vs) × IsBoth depth vs (f ∷ listed es)) (38 ∷ []) (joined 38 (more f es))
      (reads_sign 38 token.And is_and) (reads_ands (more f es) depth tt h.1)
      (λ us vs sign b. (sign.0, vs, ap (λ l. l ++ vs) sign.1, b)))
      (λ us vs u k. subst (λ l. IsBoth depth (us ++ l) (e ∷ f ∷ listed es)) (sym k.2) (more_unaries k.0 u k.3))

  reads_ors : (es : Expressions) (depth : ℕ) → HasOne es → AllMayBeWritten es depth → Reads (λ us. IsChoice depth us (listed es)) (joined 124 es)
  reads_ors no_more depth one h = absurd one
  reads_ors (more e no_more) depth one h =
      subst (λ l. Reads (λ us. IsChoice depth us (e ∷ [])) l) (sym (append-nil (written e)))
      (reads_as (λ us. IsUnary depth us e) (λ us. IsChoice depth us (e ∷ [])) (written e) (reads_unary e depth h.0)
      (λ us u. one_both (one_unary u)))
  reads_ors (more e (more f es)) depth one h =
      reads_both (λ us. IsUnary depth us e)
      (λ us. (p : ℕ) × (vs : List Placed) × (us ≡ at p token.Or ∷ vs) × IsChoice depth vs (f ∷ listed es))
      (λ us. IsChoice depth us (e ∷ f ∷ listed es)) (written e) (124 ∷ joined 124 (more f es)) (reads_unary e depth h.0)
      (reads_both (Alone token.Or) (λ us. IsChoice depth us (f ∷ listed es))
      (λ us. (p : ℕ) × (vs : List Placed) × (us ≡ at p token.Or ∷ vs) × IsChoice depth vs (f ∷ listed es)) (124 ∷ []) (joined 124 (more f es))
      (reads_sign 124 token.Or is_or) (reads_ors (more f es) depth tt h.1)
      (λ us vs sign b. (sign.0, vs, ap (λ l. l ++ vs) sign.1, b)))
      (λ us vs u k. subst (λ l. IsChoice depth (us ++ l) (e ∷ f ∷ listed es)) (sym k.2) (more_boths k.0 (one_unary u) k.3))

-- what is written out is read as itself
pub written_read : (e : Expression) → MayBeWritten e most_deep → parse (written e) ≡ Ok e
written_read e h =
    let text = written e in
    let whole = append-nil text in
    let r = reads_unary e most_deep h [] (length text) 0 (omega (arith, ap length whole)) in
    let tokens : tokens_of text ≡ r.0 =
    ap (λ l. tokens_within (length text) 0 l) (sym whole) ∙ r.4 ∙ ap (λ l. r.0 ++ l) (none_left r.1 r.2 [] (omega arith)) ∙ append-nil r.0 in
    filter_read text e (e ∷ [], subst (λ l. IsChoices most_deep l (e ∷ [])) (sym tokens) (one_choice (one_both (one_unary r.5))), refl)
