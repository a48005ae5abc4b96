-- What is read is derived by the grammar.
use Rattle.std.proofs.Common.{◌≡◌, ◌<◌, ◌+◌, ◌∙◌, ℕ, zero, suc, Bool, true, false, cond, not, ◌&&◌, List, [], ◌∷◌, ◌++◌, length, Option, Some, None, Result, Ok, Err, refl, sym, ap, subst, inl, inr, arith, append_assoc}
use Rattle.std.proofs.Math.Dec.{leb}
use Rattle.std.proofs.lemmas.Bool.{cases_lt, le-leb}
use Rattle.std.proofs.lemmas.List.{append-nil}
use Rattle.px_filter.specs.Expression.{Expression, asked, negated, all_of}
use Rattle.px_filter.specs.Grammar.{IsBoth, IsChoice, IsChoices, IsFilter, IsUnary, alone, at, bare, group, more_boths, more_choices, more_unaries, negation, one_both, one_choice, one_unary, sought, status}
use Rattle.px_filter.specs.Parsing.{closes, earlier, is_open, parse, place_of, unclosed}
use Rattle.px_filter.specs.Pattern.{is_pattern}
use Rattle.px_filter.specs.Reading.{Frame, Level, State, argument, bang, begins_operand, begins_word, behind_negations, both_whole, choice_of, choice_whole, closed, code_of, coded, empty_level, ended, finished, is_followed, joint, negate, operand, paren, read, read_on, start, step, step_by, value, with_unary}
use Rattle.px_filter.specs.Tokens.{tokens_of}
use Rattle.px_filter.specs.declared.filter.FilterError.{FilterError}
use Rattle.px_filter.specs.declared.filter.FilterError.TheVariants as refusals
use Rattle.px_filter.specs.declared.operator.Argued.{Argued}
use Rattle.px_filter.specs.declared.operator.Argued.TheVariants as argued
use Rattle.px_filter.specs.declared.operator.Operator.{Operator}
use Rattle.px_filter.specs.declared.operator.Operator.TheVariants as operators
use Rattle.px_filter.specs.declared.operator.Part.TheVariants as parts
use Rattle.px_filter.specs.declared.state.Awaits.{Awaits}
use Rattle.px_filter.specs.declared.state.Awaits.TheVariants as awaits
use Rattle.px_filter.specs.declared.token.Token.{Token}
use Rattle.px_filter.specs.declared.token.Token.TheVariants as token
use Rattle.px_filter.specs.declared.token.Placed.{Placed}
use Rattle.px_filter.specs.declared.tree.Test.TheVariants as tests
use Rattle.px_filter.proofs.GrammarLemmas.{choices_closed}

both_more : {depth : ℕ} {ts us : List Placed} {es fs : List Expression} (place : ℕ) → IsBoth depth ts es → IsBoth depth us fs →
    IsBoth depth (ts ++ (at place token.And ∷ us)) (es ++ fs)
both_more place (one_unary u) k = more_unaries place u k
both_more {depth} {ts} {us} {es} {fs} place (more_unaries {ts = vs} {us = ws} {e = e} {es = gs} p u b) k =
    subst (λ l. IsBoth depth l (e ∷ (gs ++ fs))) (sym (append_assoc vs (at p token.And ∷ ws) (at place token.And ∷ us)))
    (more_unaries p u (both_more place b k))

-- what stands in front of the operand that is awaited: whole choices, whole parts with their `|`, operands with their `&`
record Open (depth : ℕ) (ts : List Placed) (level : Level) : Type 0 where
  choices_in : List Placed
  boths_in : List Placed
  unaries_in : List Placed
  is : ts ≡ choices_in ++ (boths_in ++ unaries_in)
  choices : (us : List Placed) (es : List Expression) → IsChoices depth us es → IsChoices depth (choices_in ++ us) (level.choices ++ es)
  boths : (us : List Placed) (es : List Expression) → IsChoice depth us es → IsChoice depth (boths_in ++ us) (level.boths ++ es)
  unaries : (us : List Placed) (es : List Expression) → IsBoth depth us es → IsBoth depth (unaries_in ++ us) (level.unaries ++ es)

-- the same behind an operand
record Closed (depth : ℕ) (ts : List Placed) (level : Level) : Type 0 where
  choices_in : List Placed
  boths_in : List Placed
  unaries_in : List Placed
  is : ts ≡ choices_in ++ (boths_in ++ unaries_in)
  choices : (us : List Placed) (es : List Expression) → IsChoices depth us es → IsChoices depth (choices_in ++ us) (level.choices ++ es)
  boths : (us : List Placed) (es : List Expression) → IsChoice depth us es → IsChoice depth (boths_in ++ us) (level.boths ++ es)
  both : IsBoth depth unaries_in level.unaries

open_empty : (depth : ℕ) → Open depth [] empty_level
open_empty depth = record {
  choices_in = [];
  boths_in = [];
  unaries_in = [];
  is = refl;
  choices = λ us es h. h;
  boths = λ us es h. h;
  unaries = λ us es h. h;
}

appended : (ts cs bs us vs : List Placed) → ts ≡ cs ++ (bs ++ us) → ts ++ vs ≡ cs ++ (bs ++ (us ++ vs))
appended ts cs bs us vs is =
    ap (λ l. l ++ vs) is ∙ append_assoc cs (bs ++ us) vs ∙ ap (λ l. cs ++ l) (append_assoc bs us vs)

end_unary : {depth : ℕ} {ts vs : List Placed} {level : Level} {e : Expression} → Open depth ts level → IsUnary depth vs e →
    Closed depth (ts ++ vs) (with_unary level e)
end_unary {depth} {ts} {vs} {level} {e} o u = record {
  choices_in = o.choices_in;
  boths_in = o.boths_in;
  unaries_in = o.unaries_in ++ vs;
  is = appended ts o.choices_in o.boths_in o.unaries_in vs o.is;
  choices = o.choices;
  boths = o.boths;
  both = o.unaries vs (e ∷ []) (one_unary u);
}

with_and : {depth : ℕ} {ts : List Placed} {level : Level} (p : ℕ) → Closed depth ts level → Open depth (ts ++ (at p token.And ∷ [])) level
with_and {depth} {ts} {level} p c = record {
  choices_in = c.choices_in;
  boths_in = c.boths_in;
  unaries_in = c.unaries_in ++ (at p token.And ∷ []);
  is = appended ts c.choices_in c.boths_in c.unaries_in (at p token.And ∷ []) c.is;
  choices = c.choices;
  boths = c.boths;
  unaries = λ us es h.
      subst (λ l. IsBoth depth l (level.unaries ++ es)) (sym (append_assoc c.unaries_in (at p token.And ∷ []) us)) (both_more p c.both h);
}

choice_of_both : {depth : ℕ} {ts us : List Placed} {es fs : List Expression} → ts ≡ us → es ≡ fs → IsChoice depth ts es → IsChoice depth us fs
choice_of_both {depth} {ts} {us} {es} {fs} same same_es h = subst (λ l. IsChoice depth us l) same_es (subst (λ l. IsChoice depth l es) same h)

choices_of_both : {depth : ℕ} {ts us : List Placed} {es fs : List Expression} → ts ≡ us → es ≡ fs → IsChoices depth ts es → IsChoices depth us fs
choices_of_both {depth} {ts} {us} {es} {fs} same same_es h = subst (λ l. IsChoices depth us l) same_es (subst (λ l. IsChoices depth l es) same h)

with_or : {depth : ℕ} {ts : List Placed} {level : Level} (p : ℕ) → Closed depth ts level →
    Open depth (ts ++ (at p token.Or ∷ [])) (both_whole level)
with_or {depth} {ts} {level} p c =
    let sign = at p token.Or ∷ [] in
    let own = c.boths_in ++ (c.unaries_in ++ sign) in record {
      choices_in = c.choices_in;
      boths_in = own;
      unaries_in = [];
      is = appended ts c.choices_in c.boths_in c.unaries_in sign c.is ∙ ap (λ l. c.choices_in ++ l) (sym (append-nil own));
      choices = c.choices;
      boths = λ us es h. choice_of_both
          (sym (append_assoc c.boths_in (c.unaries_in ++ sign) us ∙ ap (λ l. c.boths_in ++ l) (append_assoc c.unaries_in sign us)))
          (sym (append_assoc level.boths (all_of level.unaries ∷ []) es))
          (c.boths (c.unaries_in ++ (at p token.Or ∷ us)) (all_of level.unaries ∷ es) (more_boths p c.both h));
      unaries = λ us es h. h;
    }

choice_ended : {depth : ℕ} {ts : List Placed} {level : Level} (c : Closed depth ts level) →
    IsChoice depth (c.boths_in ++ c.unaries_in) (level.boths ++ (all_of level.unaries ∷ []))
choice_ended {level = level} c = c.boths c.unaries_in (all_of level.unaries ∷ []) (one_both c.both)

with_choice : {depth : ℕ} {ts : List Placed} {level : Level} → Closed depth ts level → Open depth ts (choice_whole level)
with_choice {depth} {ts} {level} c =
    let own = c.choices_in ++ (c.boths_in ++ c.unaries_in) in record {
      choices_in = own;
      boths_in = [];
      unaries_in = [];
      is = c.is ∙ sym (append-nil own);
      choices = λ us es h. choices_of_both
          (sym (append_assoc c.choices_in (c.boths_in ++ c.unaries_in) us))
          (sym (append_assoc level.choices (choice_of level ∷ []) es))
          (c.choices ((c.boths_in ++ c.unaries_in) ++ us) (choice_of level ∷ es) (more_choices (choice_ended c) h));
      boths = λ us es h. h;
      unaries = λ us es h. h;
    }

level_ended : {depth : ℕ} {ts : List Placed} {level : Level} → Closed depth ts level →
    IsChoices depth ts (level.choices ++ (choice_of level ∷ []))
level_ended {depth} {ts} {level} c =
    subst (λ l. IsChoices depth l (level.choices ++ (choice_of level ∷ []))) (sym c.is)
    (c.choices (c.boths_in ++ c.unaries_in) (choice_of level ∷ []) (one_choice (choice_ended c)))

-- the tokens so far where an operand is awaited, and where one has ended
abbrev InOperand : List Frame → ℕ → List Placed → Level → Type 0
InOperand [] depth ts level = (depth ≡ 64) × Open depth ts level
InOperand (bang ∷ frames) depth ts level =
    (us : List Placed) × (p : ℕ) × (ts ≡ us ++ (at p token.Not ∷ [])) × InOperand frames (suc depth) us level
InOperand (paren outer ∷ frames) depth ts level =
    (us : List Placed) × (vs : List Placed) × (p : ℕ) × (ts ≡ us ++ (at p token.Open ∷ vs)) × Open depth vs level
    × InOperand frames (suc depth) us outer

abbrev InJoint : List Frame → ℕ → List Placed → Level → Type 0
InJoint [] depth ts level = (depth ≡ 64) × Closed depth ts level
InJoint (bang ∷ frames) depth ts level = ⊥
InJoint (paren outer ∷ frames) depth ts level =
    (us : List Placed) × (vs : List Placed) × (p : ℕ) × (ts ≡ us ++ (at p token.Open ∷ vs)) × Closed depth vs level
    × InOperand frames (suc depth) us outer

operand_ends : (frames : List Frame) (depth : ℕ) (ts vs : List Placed) (level : Level) (e : Expression) → InOperand frames depth ts level →
    IsUnary depth vs e → (k : ℕ) × InJoint (behind_negations frames) k (ts ++ vs) (with_unary level (negate frames e))
operand_ends [] depth ts vs level e h u = (depth, (h.0, end_unary h.1 u))
operand_ends (bang ∷ frames) depth ts vs level e h u =
    let r = operand_ends frames (suc depth) h.0 (at h.1 token.Not ∷ vs) level (negated e) h.3 (negation u) in
    let same = ap (λ l. l ++ vs) h.2 ∙ append_assoc h.0 (at h.1 token.Not ∷ []) vs in
    (r.0, subst (λ l. InJoint (behind_negations frames) r.0 l (with_unary level (negate frames (negated e)))) (sym same) r.1)
operand_ends (paren outer ∷ frames) depth ts vs level e h u =
    (depth, (h.0, h.1 ++ vs, h.2, ap (λ l. l ++ vs) h.3 ∙ append_assoc h.0 (at h.2 token.Open ∷ h.1) vs, end_unary h.4 u, h.5))

depth_left : (frames : List Frame) (depth : ℕ) (ts : List Placed) (level : Level) → InOperand frames depth ts level →
    depth + length frames ≡ 64
depth_left [] depth ts level h = let e = h.0 in omega arith
depth_left (bang ∷ frames) depth ts level h = let e = depth_left frames (suc depth) h.0 level h.3 in omega arith
depth_left (paren outer ∷ frames) depth ts level h = let e = depth_left frames (suc depth) h.0 outer h.5 in omega arith

push_bang : (frames : List Frame) (depth p : ℕ) (ts : List Placed) (level : Level) → InOperand frames depth ts level → length frames < 64 →
    (k : ℕ) × InOperand (bang ∷ frames) k (ts ++ (at p token.Not ∷ [])) level
push_bang frames zero p ts level h few = let e = depth_left frames zero ts level h in absurd (omega arith)
push_bang frames (suc k) p ts level h few = (k, (ts, p, refl, h))

push_paren : (frames : List Frame) (depth p : ℕ) (ts : List Placed) (level : Level) → InOperand frames depth ts level → length frames < 64 →
    (k : ℕ) × InOperand (paren level ∷ frames) k (ts ++ (at p token.Open ∷ [])) empty_level
push_paren frames zero p ts level h few = let e = depth_left frames zero ts level h in absurd (omega arith)
push_paren frames (suc k) p ts level h few = (k, (ts, [], p, refl, open_empty k, h))

joint_through : (frames : List Frame) (depth : ℕ) (ts vs : List Placed) (level next : Level) →
    ((us : List Placed) → Closed depth us level → Open depth (us ++ vs) next) → InJoint frames depth ts level →
    InOperand frames depth (ts ++ vs) next
joint_through [] depth ts vs level next f h = (h.0, f ts h.1)
joint_through (bang ∷ frames) depth ts vs level next f h = absurd h
joint_through (paren outer ∷ frames) depth ts vs level next f h =
    (h.0, h.1 ++ vs, h.2, ap (λ l. l ++ vs) h.3 ∙ append_assoc h.0 (at h.2 token.Open ∷ h.1) vs, f h.1 h.4, h.5)

-- what a state says of the tokens so far
abbrev Says : Awaits → List Frame → Level → List Placed → Type 0
Says awaits.Operand frames level ts = (depth : ℕ) × InOperand frames depth ts level
Says awaits.Joint frames level ts = (depth : ℕ) × InJoint frames depth ts level
Says (awaits.Argument kind) frames level ts =
    (us : List Placed) × (p : ℕ) × (ts ≡ us ++ (at p (token.Operator (Some (operators.Argued kind))) ∷ []))
    × ((depth : ℕ) × InOperand frames depth us level)

abbrev Keeps : List Placed → Result State FilterError → Type 0
Keeps ts (Ok s) = Says s.awaits s.frames s.level ts
Keeps ts (Err refusal) = Unit {0}

keeps_where : (ts : List Placed) (b : Bool) (s : State) (refusal : FilterError) → (b ≡ true → Keeps ts (Ok s)) →
    Keeps ts (cond b (Ok s) (Err refusal))
keeps_where ts true s refusal h = h refl
keeps_where ts false s refusal h = tt

keeps_open : (ts : List Placed) (place : ℕ) (followed deep : Bool) (s : State) → (deep ≡ false → Keeps ts (Ok s)) →
    Keeps ts (cond followed (cond deep (Err (refusals.TooDeep place)) (Ok s)) (Err (refusals.MissingArgument place)))
keeps_open ts place true true s h = tt
keeps_open ts place true false s h = h refl
keeps_open ts place false deep s h = tt

few : (n : ℕ) → leb 64 n ≡ false → n < 64
few n h = elim (cases_lt n 64) [
  | inl less ↦ less
  | inr more ↦ let e = le-leb 64 n more in absurd cc
]

operated_keeps : (place : ℕ) (operator : Option Operator) (rest ts : List Placed) (s : State) →
    ((depth : ℕ) × InOperand s.frames depth ts s.level) →
    Keeps (ts ++ (at place (token.Operator operator) ∷ [])) (operand place (token.Operator operator) rest s)
operated_keeps place None rest ts s h = tt
operated_keeps place (Some (operators.Alone fact)) rest ts s h =
    operand_ends s.frames h.0 ts (at place (token.Operator (Some (operators.Alone fact))) ∷ []) s.level (asked (tests.Fact fact)) h.1 alone
operated_keeps place (Some (operators.Argued kind)) rest ts s h =
    keeps_where (ts ++ (at place (token.Operator (Some (operators.Argued kind))) ∷ [])) (is_followed begins_word rest)
    (record s { awaits = awaits.Argument kind }) (refusals.MissingArgument place) (λ _. (ts, place, refl, h))

operand_keeps : (place : ℕ) (kind : Token) (rest ts : List Placed) (s : State) → ((depth : ℕ) × InOperand s.frames depth ts s.level) →
    Keeps (ts ++ (at place kind ∷ [])) (operand place kind rest s)
operand_keeps place token.Not rest ts s h =
    keeps_open (ts ++ (at place token.Not ∷ [])) place (is_followed begins_operand rest) (leb 64 (length s.frames))
    (record { frames = bang ∷ s.frames; level = s.level; awaits = awaits.Operand })
    (λ less. push_bang s.frames h.0 place ts s.level h.1 (few (length s.frames) less))
operand_keeps place token.Open rest ts s h =
    keeps_open (ts ++ (at place token.Open ∷ [])) place (is_followed begins_operand rest) (leb 64 (length s.frames))
    (record { frames = paren s.level ∷ s.frames; level = empty_level; awaits = awaits.Operand })
    (λ less. push_paren s.frames h.0 place ts s.level h.1 (few (length s.frames) less))
operand_keeps place (token.Operator operator) rest ts s h = operated_keeps place operator rest ts s h
operand_keeps place (token.Word word) rest ts s h =
    keeps_where (ts ++ (at place (token.Word word) ∷ [])) (is_pattern word) (ended s (asked (tests.Part parts.Url word))) (refusals.BadPattern place)
    (λ good. operand_ends s.frames h.0 ts (at place (token.Word word) ∷ []) s.level (asked (tests.Part parts.Url word)) h.1 (bare good))
operand_keeps place token.Unclosed rest ts s h = tt
operand_keeps place token.And rest ts s h = tt
operand_keeps place token.Or rest ts s h = tt
operand_keeps place token.Close rest ts s h = tt

-- an operator with its argument ends
argued_ends : (kind : Argued) (place : ℕ) (word : List ℕ) (ts : List Placed) (s : State) (e : Expression) →
    ((depth p : ℕ) → IsUnary depth (at p (token.Operator (Some (operators.Argued kind))) ∷ at place (token.Word word) ∷ []) e) →
    Says (awaits.Argument kind) s.frames s.level ts → Keeps (ts ++ (at place (token.Word word) ∷ [])) (Ok (ended s e))
argued_ends kind place word ts s e u h =
    let sign = at h.1 (token.Operator (Some (operators.Argued kind))) in
    let r = operand_ends s.frames h.3.0 h.0 (sign ∷ at place (token.Word word) ∷ []) s.level e h.3.1 (u h.3.0 h.1) in
    let same = ap (λ l. l ++ (at place (token.Word word) ∷ [])) h.2 ∙ append_assoc h.0 (sign ∷ []) (at place (token.Word word) ∷ []) in
    (r.0, subst (λ l. InJoint (behind_negations s.frames) r.0 l (with_unary s.level (negate s.frames e))) (sym same) r.1)

coded_keeps : (place : ℕ) (word : List ℕ) (ts : List Placed) (s : State) (code : Option ℕ) → code_of word ≡ code →
    Says (awaits.Argument argued.Code) s.frames s.level ts → Keeps (ts ++ (at place (token.Word word) ∷ [])) (coded place code s)
coded_keeps place word ts s None is h = tt
coded_keeps place word ts s (Some code) is h =
    argued_ends argued.Code place word ts s (asked (tests.Code code)) (λ depth p. status is) h

argument_keeps : (place : ℕ) (kind : Argued) (t : Token) (ts : List Placed) (s : State) → Says (awaits.Argument kind) s.frames s.level ts →
    Keeps (ts ++ (at place t ∷ [])) (argument place kind t s)
argument_keeps place argued.Code (token.Word word) ts s h = coded_keeps place word ts s (code_of word) refl h
argument_keeps place (argued.Part part) (token.Word word) ts s h =
    keeps_where (ts ++ (at place (token.Word word) ∷ [])) (is_pattern word) (ended s (asked (tests.Part part word))) (refusals.BadPattern place)
    (λ good. argued_ends (argued.Part part) place word ts s (asked (tests.Part part word)) (λ depth p. sought good) h)
argument_keeps place argued.Code token.Unclosed ts s h = tt
argument_keeps place argued.Code token.Not ts s h = tt
argument_keeps place argued.Code token.And ts s h = tt
argument_keeps place argued.Code token.Or ts s h = tt
argument_keeps place argued.Code token.Open ts s h = tt
argument_keeps place argued.Code token.Close ts s h = tt
argument_keeps place argued.Code (token.Operator o) ts s h = tt
argument_keeps place (argued.Part part) token.Unclosed ts s h = tt
argument_keeps place (argued.Part part) token.Not ts s h = tt
argument_keeps place (argued.Part part) token.And ts s h = tt
argument_keeps place (argued.Part part) token.Or ts s h = tt
argument_keeps place (argued.Part part) token.Open ts s h = tt
argument_keeps place (argued.Part part) token.Close ts s h = tt
argument_keeps place (argued.Part part) (token.Operator o) ts s h = tt

closed_keeps : (place : ℕ) (frames : List Frame) (level : Level) (ts : List Placed) → ((depth : ℕ) × InJoint frames depth ts level) →
    Keeps (ts ++ (at place token.Close ∷ [])) (closed place frames level)
closed_keeps place [] level ts h = tt
closed_keeps place (bang ∷ frames) level ts h = tt
closed_keeps place (paren outer ∷ frames) level ts h =
    let g = h.1 in
    let sign = at place token.Close ∷ [] in
    let r = operand_ends frames (suc h.0) g.0 (at g.2 token.Open ∷ (g.1 ++ sign)) outer (value level) g.5 (group place (level_ended g.4)) in
    let same = ap (λ l. l ++ sign) g.3 ∙ append_assoc g.0 (at g.2 token.Open ∷ g.1) sign in
    (r.0, subst (λ l. InJoint (behind_negations frames) r.0 l (with_unary outer (negate frames (value level)))) (sym same) r.1)

-- before an operand that no sign joins
abbrev next : State → State
next s = record { frames = s.frames; level = choice_whole s.level; awaits = awaits.Operand }

next_operand : (frames : List Frame) (level : Level) (ts : List Placed) → ((depth : ℕ) × InJoint frames depth ts level) →
    ((depth : ℕ) × InOperand frames depth ts (choice_whole level))
next_operand frames level ts h = (
  h.0,
  subst (λ l. InOperand frames h.0 l (choice_whole level)) (append-nil ts)
      (joint_through frames h.0 ts [] level (choice_whole level)
      (λ us c. subst (λ l. Open h.0 l (choice_whole level)) (sym (append-nil us)) (with_choice c)) h.1),
)

joint_keeps : (place : ℕ) (kind : Token) (rest ts : List Placed) (s : State) → ((depth : ℕ) × InJoint s.frames depth ts s.level) →
    Keeps (ts ++ (at place kind ∷ [])) (joint place kind rest s)
joint_keeps place token.And rest ts s h =
    keeps_where (ts ++ (at place token.And ∷ [])) (is_followed begins_operand rest)
    (record { frames = s.frames; level = s.level; awaits = awaits.Operand }) (refusals.MissingArgument place)
    (λ _. (h.0, joint_through s.frames h.0 ts (at place token.And ∷ []) s.level s.level (λ us c. with_and place c) h.1))
joint_keeps place token.Or rest ts s h =
    keeps_where (ts ++ (at place token.Or ∷ [])) (is_followed begins_operand rest)
    (record { frames = s.frames; level = both_whole s.level; awaits = awaits.Operand }) (refusals.MissingArgument place)
    (λ _. (h.0, joint_through s.frames h.0 ts (at place token.Or ∷ []) s.level (both_whole s.level) (λ us c. with_or place c) h.1))
joint_keeps place token.Close rest ts s h = closed_keeps place s.frames s.level ts h
joint_keeps place token.Not rest ts s h = operand_keeps place token.Not rest ts (next s) (next_operand s.frames s.level ts h)
joint_keeps place token.Open rest ts s h = operand_keeps place token.Open rest ts (next s) (next_operand s.frames s.level ts h)
joint_keeps place (token.Operator o) rest ts s h =
    operand_keeps place (token.Operator o) rest ts (next s) (next_operand s.frames s.level ts h)
joint_keeps place (token.Word w) rest ts s h = operand_keeps place (token.Word w) rest ts (next s) (next_operand s.frames s.level ts h)
joint_keeps place token.Unclosed rest ts s h = tt

step_keeps : (a : Awaits) (place : ℕ) (kind : Token) (rest ts : List Placed) (s : State) → Says a s.frames s.level ts →
    Keeps (ts ++ (at place kind ∷ [])) (step_by a place kind rest s)
step_keeps awaits.Operand place kind rest ts s h = operand_keeps place kind rest ts s h
step_keeps (awaits.Argument k) place kind rest ts s h = argument_keeps place k kind ts s h
step_keeps awaits.Joint place kind rest ts s h = joint_keeps place kind rest ts s h

-- at the end
abbrev Ends : List Placed → Result Expression FilterError → Type 0
Ends ts (Ok e) = (frames : List Frame) × (level : Level) × (depth : ℕ) × InJoint frames depth ts level × (e ≡ value level)
Ends ts (Err refusal) = Unit {0}

finished_ends : (a : Awaits) (frames : List Frame) (level : Level) (ts : List Placed) → Says a frames level ts → Ends ts (finished a level)
finished_ends awaits.Operand frames level ts h = tt
finished_ends (awaits.Argument k) frames level ts h = tt
finished_ends awaits.Joint frames level ts h = (frames, level, h.0, h.1, refl)

on_ends : (ts us : List Placed) (again : State → Result Expression FilterError) (r : Result State FilterError) → Keeps ts r →
    ((s : State) → Says s.awaits s.frames s.level ts → Ends us (again s)) → Ends us (read_on again r)
on_ends ts us again (Ok s) h f = f s h
on_ends ts us again (Err refusal) h f = tt

read_ends : (rest ts : List Placed) (s : State) → Says s.awaits s.frames s.level ts → Ends (ts ++ rest) (read rest s)
read_ends [] ts s h =
    subst (λ l. Ends l (finished s.awaits s.level)) (sym (append-nil ts)) (finished_ends s.awaits s.frames s.level ts h)
read_ends (t ∷ rest) ts s h =
    on_ends (ts ++ (t ∷ [])) (ts ++ (t ∷ rest)) (read rest) (step s t rest) (step_keeps s.awaits t.place t.token rest ts s h)
    (λ n k. subst (λ l. Ends l (read rest n)) (append_assoc ts (t ∷ []) rest) (read_ends rest (ts ++ (t ∷ [])) n k))

-- a parenthesis that the tokens behind it do not close is found
unclosed_by : (b : Bool) (place : ℕ) (rest : Option ℕ) → ((x : ℕ) × (rest ≡ Some x)) → (x : ℕ) × (cond b (Some place) rest ≡ Some x)
unclosed_by true place rest h = (place, refl)
unclosed_by false place rest h = h

unclosed_some : (ts us : List Placed) (place : ℕ) → closes us zero ≡ false → (x : ℕ) × (unclosed (ts ++ (at place token.Open ∷ us)) ≡ Some x)
unclosed_some [] us place h = (place, ap (λ b. cond (not b) (Some place) (unclosed us)) h)
unclosed_some (t ∷ ts) us place h =
    unclosed_by (is_open t.token && not (closes (ts ++ (at place token.Open ∷ us)) zero)) t.place (unclosed (ts ++ (at place token.Open ∷ us)))
    (unclosed_some ts us place h)

never_closed : {depth : ℕ} {us : List Placed} {es : List Expression} → IsChoices depth us es → closes us zero ≡ false
never_closed {us = us} k = ap (λ l. closes l zero) (sym (append-nil us)) ∙ (choices_closed k []).0 zero

no_ok : (b : Bool) (x y : FilterError) (e : Expression) → ¬ (cond {A = Result Expression FilterError} b (Err x) (Err y) ≡ Ok e)
no_ok true x y e h = cc
no_ok false x y e h = cc

earlier_ok : (o : Option ℕ) (r : Result Expression FilterError) (e : Expression) → earlier o r ≡ Ok e → (o ≡ None) × (r ≡ Ok e)
earlier_ok None r e h = (refl, h)
earlier_ok (Some place) (Ok other) e h = absurd cc
earlier_ok (Some place) (Err refusal) e h = absurd (no_ok (leb (place_of refusal) place) refusal (refusals.Unclosed place) e h)

derived : (text : List ℕ) (e : Expression) (frames : List Frame) (level : Level) (depth : ℕ) → unclosed (tokens_of text) ≡ None →
    InJoint frames depth (tokens_of text) level → e ≡ value level → IsFilter text e
derived text e [] level depth none h is =
    let es = level.choices ++ (choice_of level ∷ []) in
    (es, subst (λ d. IsChoices d (tokens_of text) es) h.0 (level_ended h.1), is)
derived text e (bang ∷ frames) level depth none h is = absurd h
derived text e (paren outer ∷ frames) level depth none h is =
    let found = unclosed_some h.0 h.1 h.2 (never_closed (level_ended h.4)) in
    let other : unclosed (tokens_of text) ≡ Some found.0 = ap unclosed h.3 ∙ found.1 in
    absurd cc

ends_ok : (ts : List Placed) (r : Result Expression FilterError) (e : Expression) → r ≡ Ok e → Ends ts r → Ends ts (Ok e)
ends_ok ts r e is h = subst (Ends ts) is h

-- what is read is derived
pub read_filter : (text : List ℕ) (e : Expression) → parse text ≡ Ok e → IsFilter text e
read_filter text e h =
    let both = earlier_ok (unclosed (tokens_of text)) (read (tokens_of text) start) e h in
    let begins : Says awaits.Operand [] empty_level [] = (64, (refl, open_empty 64)) in
    let r = ends_ok (tokens_of text) (read (tokens_of text) start) e both.1 (read_ends (tokens_of text) [] start begins) in
    derived text e r.0 r.1 r.2 both.0 r.3 r.4
