-- Each refusal stands at a token of the text, or at 0.
use Rattle.std.proofs.Common.{◌≡◌, ◌<◌, ◌≤◌, ◌+◌, ◌⊎◌, ℕ, zero, suc, Bool, true, false, cond, not, ◌&&◌, List, [], ◌∷◌, length, drop, Option, Some, None, Result, Ok, Err, refl, inl, inr, subst, arith, length-drop}
use Rattle.std.proofs.Math.Dec.{leb}
use Rattle.px_filter.specs.Expression.{Expression}
use Rattle.px_filter.specs.Parsing.{closes, earlier, is_open, parse, place_of, unclosed}
use Rattle.px_filter.specs.Pattern.{is_pattern}
use Rattle.px_filter.specs.Reading.{Frame, Level, State, argument, bang, begins_operand, begins_word, choice_whole, closed, code_of, coded, finished, is_followed, joint, operand, operated, paren, read, read_on, start, step, step_by}
use Rattle.px_filter.specs.Tokens.{front_token, is_blank, tokens_of, tokens_within}
use Rattle.px_filter.specs.declared.filter.FilterError.{FilterError}
use Rattle.px_filter.specs.declared.filter.FilterError.TheVariants as refusals
use Rattle.px_filter.specs.declared.operator.Argued.{Argued}
use Rattle.px_filter.specs.declared.operator.Argued.TheVariants as argued
use Rattle.px_filter.specs.declared.operator.Operator.{Operator}
use Rattle.px_filter.specs.declared.operator.Operator.TheVariants as operators
use Rattle.px_filter.specs.declared.state.Awaits.{Awaits}
use Rattle.px_filter.specs.declared.state.Awaits.TheVariants as awaits
use Rattle.px_filter.specs.declared.token.Token.{Token}
use Rattle.px_filter.specs.declared.token.Token.TheVariants as token
use Rattle.px_filter.specs.declared.token.Placed.{Placed}

-- each token stands below the bound
abbrev Within : ℕ → List Placed → Type 0
Within bound [] = Unit {0}
Within bound (t ∷ ts) = (t.place < bound) × Within bound ts

token_within : (blank : Bool) (bound : ℕ) (t : Placed) (ts us : List Placed) → t.place < bound → (blank ≡ true → Within bound us) →
    Within bound ts → Within bound (cond blank us (t ∷ ts))
token_within true bound t ts us here blanks rest = blanks refl
token_within false bound t ts us here blanks rest = (here, rest)

tokens_are_within : (n place bound : ℕ) (text : List ℕ) → (0 < length text → place + length text ≤ bound) →
    Within bound (tokens_within n place text)
unfolding tokens_within
tokens_are_within zero place bound text h = tt
tokens_are_within (suc n) place bound [] h = tt
tokens_are_within (suc n) place bound (c ∷ text) h =
    let used = (front_token c text).1 in
    let most : place + length (c ∷ text) ≤ bound = h (omega arith) in
    let short = length-drop used (c ∷ text) in
    token_within (is_blank c) bound (record { place = place; token = (front_token c text).0 })
    (tokens_within n (place + used) (drop used (c ∷ text))) (tokens_within n (place + 1) text) (omega arith)
    (λ blank. tokens_are_within n (place + 1) bound text (λ some. omega arith))
    (tokens_are_within n (place + used) bound (drop used (c ∷ text)) (λ some. omega (arith, short)))

-- a refusal is about the token at the place, or stands at 0
abbrev IsAbout : ℕ → Result State FilterError → Type 0
IsAbout place (Ok s) = Unit {0}
IsAbout place (Err refusal) = (place_of refusal ≡ 0) ⊎ (place_of refusal ≡ place)

checked : (place : ℕ) (good : Bool) (s : State) (refusal : FilterError) → place_of refusal ≡ place →
    IsAbout place (cond good (Ok s) (Err refusal))
checked place true s refusal h = tt
checked place false s refusal h = inr h

opened_about : (place : ℕ) (followed deep : Bool) (s : State) →
    IsAbout place (cond followed (cond deep (Err (refusals.TooDeep place)) (Ok s)) (Err (refusals.MissingArgument place)))
opened_about place true true s = inr refl
opened_about place true false s = tt
opened_about place false deep s = inr refl

coded_about : (place : ℕ) (code : Option ℕ) (s : State) → IsAbout place (coded place code s)
coded_about place None s = inr refl
coded_about place (Some code) s = tt

operated_about : (place : ℕ) (operator : Option Operator) (rest : List Placed) (s : State) → IsAbout place (operated place operator rest s)
operated_about place None rest s = inr refl
operated_about place (Some (operators.Alone fact)) rest s = tt
operated_about place (Some (operators.Argued kind)) rest s = checked place (is_followed begins_word rest) _ _ refl

operand_about : (place : ℕ) (kind : Token) (rest : List Placed) (s : State) → IsAbout place (operand place kind rest s)
operand_about place token.Not rest s = opened_about place (is_followed begins_operand rest) (leb 64 (length s.frames)) _
operand_about place token.Open rest s = opened_about place (is_followed begins_operand rest) (leb 64 (length s.frames)) _
operand_about place (token.Operator operator) rest s = operated_about place operator rest s
operand_about place (token.Word word) rest s = checked place (is_pattern word) _ _ refl
operand_about place token.Unclosed rest s = inr refl
operand_about place token.And rest s = inl refl
operand_about place token.Or rest s = inl refl
operand_about place token.Close rest s = inl refl

argument_about : (place : ℕ) (kind : Argued) (t : Token) (s : State) → IsAbout place (argument place kind t s)
argument_about place argued.Code (token.Word word) s = coded_about place (code_of word) s
argument_about place (argued.Part part) (token.Word word) s = checked place (is_pattern word) _ _ refl
argument_about place argued.Code token.Unclosed s = inr refl
argument_about place (argued.Part part) token.Unclosed s = inr refl
argument_about place argued.Code token.Not s = inl refl
argument_about place argued.Code token.And s = inl refl
argument_about place argued.Code token.Or s = inl refl
argument_about place argued.Code token.Open s = inl refl
argument_about place argued.Code token.Close s = inl refl
argument_about place argued.Code (token.Operator o) s = inl refl
argument_about place (argued.Part part) token.Not s = inl refl
argument_about place (argued.Part part) token.And s = inl refl
argument_about place (argued.Part part) token.Or s = inl refl
argument_about place (argued.Part part) token.Open s = inl refl
argument_about place (argued.Part part) token.Close s = inl refl
argument_about place (argued.Part part) (token.Operator o) s = inl refl

closed_about : (place : ℕ) (frames : List Frame) (level : Level) → IsAbout place (closed place frames level)
closed_about place [] level = inr refl
closed_about place (bang ∷ frames) level = inr refl
closed_about place (paren outer ∷ frames) level = tt

-- an operand that no sign joins
abbrev next : State → State
next s = record { frames = s.frames; level = choice_whole s.level; awaits = awaits.Operand }

joint_about : (place : ℕ) (kind : Token) (rest : List Placed) (s : State) → IsAbout place (joint place kind rest s)
joint_about place token.And rest s = checked place (is_followed begins_operand rest) _ _ refl
joint_about place token.Or rest s = checked place (is_followed begins_operand rest) _ _ refl
joint_about place token.Close rest s = closed_about place s.frames s.level
joint_about place token.Not rest s = operand_about place token.Not rest (next s)
joint_about place token.Open rest s = operand_about place token.Open rest (next s)
joint_about place (token.Operator o) rest s = operand_about place (token.Operator o) rest (next s)
joint_about place (token.Word w) rest s = operand_about place (token.Word w) rest (next s)
joint_about place token.Unclosed rest s = operand_about place token.Unclosed rest (next s)

step_about : (a : Awaits) (place : ℕ) (kind : Token) (rest : List Placed) (s : State) → IsAbout place (step_by a place kind rest s)
step_about awaits.Operand place kind rest s = operand_about place kind rest s
step_about (awaits.Argument k) place kind rest s = argument_about place k kind s
step_about awaits.Joint place kind rest s = joint_about place kind rest s

-- a refusal stands below the bound, or at 0
abbrev IsBelow : ℕ → Result Expression FilterError → Type 0
IsBelow bound (Ok e) = Unit {0}
IsBelow bound (Err refusal) = (place_of refusal ≡ 0) ⊎ (place_of refusal < bound)

on_below : (bound place : ℕ) (again : State → Result Expression FilterError) (r : Result State FilterError) → place < bound →
    IsAbout place r → ((s : State) → IsBelow bound (again s)) → IsBelow bound (read_on again r)
on_below bound place again (Ok s) here about rest = rest s
on_below bound place again (Err refusal) here about rest = elim about [ inl first ↦ inl first | inr at ↦ inr (omega arith) ]

finished_below : (bound : ℕ) (a : Awaits) (level : Level) → IsBelow bound (finished a level)
finished_below bound awaits.Joint level = tt
finished_below bound awaits.Operand level = inl refl
finished_below bound (awaits.Argument k) level = inl refl

read_below : (ts : List Placed) (bound : ℕ) (s : State) → Within bound ts → IsBelow bound (read ts s)
read_below [] bound s h = finished_below bound s.awaits s.level
read_below (t ∷ rest) bound s h =
    on_below bound t.place (read rest) (step s t rest) h.0 (step_about s.awaits t.place t.token rest s)
    (λ next. read_below rest bound next h.1)

-- where a parenthesis that is not closed stands
abbrev IsPlaceBelow : ℕ → Option ℕ → Type 0
IsPlaceBelow bound None = Unit {0}
IsPlaceBelow bound (Some place) = place < bound

unclosed_by : (bound place : ℕ) (b : Bool) (rest : Option ℕ) → place < bound → IsPlaceBelow bound rest →
    IsPlaceBelow bound (cond b (Some place) rest)
unclosed_by bound place true rest here h = here
unclosed_by bound place false rest here h = h

unclosed_below : (ts : List Placed) (bound : ℕ) → Within bound ts → IsPlaceBelow bound (unclosed ts)
unclosed_below [] bound h = tt
unclosed_below (t ∷ ts) bound h =
    unclosed_by bound t.place (is_open t.token && not (closes ts zero)) (unclosed ts) h.0 (unclosed_below ts bound h.1)

first_below : (bound place : ℕ) (b : Bool) (refusal : FilterError) → place < bound → IsBelow bound (Err refusal) →
    IsBelow bound (cond b (Err refusal) (Err (refusals.Unclosed place)))
first_below bound place true refusal here h = h
first_below bound place false refusal here h = inr here

earlier_below : (bound : ℕ) (o : Option ℕ) (r : Result Expression FilterError) → IsPlaceBelow bound o → IsBelow bound r →
    IsBelow bound (earlier o r)
earlier_below bound None r here h = h
earlier_below bound (Some place) (Ok e) here h = inr here
earlier_below bound (Some place) (Err refusal) here h = first_below bound place (leb (place_of refusal) place) refusal here h

below : (text : List ℕ) → IsBelow (length text) (parse text)
below text =
    let within = tokens_are_within (length text) 0 (length text) text (λ some. omega arith) in
    earlier_below (length text) (unclosed (tokens_of text)) (read (tokens_of text) start) (unclosed_below (tokens_of text) (length text) within)
    (read_below (tokens_of text) (length text) start within)

told : (bound : ℕ) (refusal : FilterError) (r : Result Expression FilterError) → r ≡ Err refusal → IsBelow bound r →
    (place_of refusal ≡ 0) ⊎ (place_of refusal < bound)
told bound refusal (Ok e) is h = absurd cc
told bound refusal (Err other) is h =
    let same : other ≡ refusal = cc in
    subst (λ e. (place_of e ≡ 0) ⊎ (place_of e < bound)) same h

pub refused_within : (text : List ℕ) (refusal : FilterError) → parse text ≡ Err refusal →
    (place_of refusal ≡ 0) ⊎ (place_of refusal < length text)
refused_within text refusal is = told (length text) refusal (parse text) is (below text)
