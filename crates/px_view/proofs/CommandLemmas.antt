-- The words of a line, and the two numbers of a flow, by the place of the first space and of the full stop.
use Rattle.std.proofs.Common.{◌≡◌, ◌∙◌, ◌⊎◌, ℕ, ◌+◌, ◌-◌, ◌<◌, Bool, true, false, List, [], ◌∷◌, length, take, drop, position, Option, Some, None, Result, Ok, Err, IfOk, IfErr, option_map, option_and_then, All, nat_lt, cond, refl, sym, ap, subst, arith, length-drop, inl, inr}
use Rattle.std.specs.List.{slice_split, position_or_len, onto_first}
use Rattle.std.proofs.lemmas.Bool.{ltb-true, ltb-false}
use Rattle.std.proofs.lemmas.List.{take_all}
use Rattle.std.proofs.lemmas.List.Splits.{slice_split_none, slice_split_first}
use Rattle.std.proofs.lemmas.List.Sums.{fails_before_first}
use Rattle.std.proofs.lemmas.Grind.{common_steps}
use Rattle.px_view.specs.declared.command.Order.{Order}
use Rattle.px_view.specs.declared.command.CommandError.{CommandError}
use Rattle.px_view.specs.declared.command.CommandError.TheVariants as error
use Rattle.px_view.specs.Commands.{flow_id, id_around, id_with, is_blank, is_dot, lone_order, order_of, order_of_words, plain_order, small_number}

-- a slice that goes to the end
pub tail_is : (text : List ℕ) (n : ℕ) → take (length text - n) (drop n text) ≡ drop n text
tail_is text n = take_all (length text - n) (drop n text) (omega (arith, length-drop n text))

none_by : (line : List ℕ) (b : Bool) → nat_lt (position_or_len is_blank line) (length line) ≡ b
    → cond b (Some (position_or_len is_blank line)) None ≡ None → slice_split is_blank line ≡ line ∷ []
none_by line true is none = cc
none_by line false is none =
    let past = ltb-false (position_or_len is_blank line) (length line) is in
    let all : All (λ x. is_blank x ≡ false) line =
    λ k e m. let here = fails_before_first is_blank line k e (omega arith) in grind (arith, common_steps) in
    slice_split_none is_blank line all

-- without a space the line is its one word
pub words_none : (line : List ℕ) (r : Option ℕ) → r ≡ position is_blank line → r ≡ None → slice_split is_blank line ≡ line ∷ []
words_none line r found none = none_by line _ refl (sym found ∙ none)

some_by : (line : List ℕ) (at : ℕ) (b : Bool) → nat_lt (position_or_len is_blank line) (length line) ≡ b
    → cond b (Some (position_or_len is_blank line)) None ≡ Some at
    → slice_split is_blank line ≡ take at line ∷ slice_split is_blank (drop (at + 1) line)
some_by line at true is some =
    let here : position_or_len is_blank line ≡ at = cc in
    let P : ℕ → Type 0 = λ n. slice_split is_blank line ≡ take n line ∷ slice_split is_blank (drop (n + 1) line) in
    subst P here (slice_split_first is_blank line 0 (ltb-true (position_or_len is_blank line) (length line) is))
some_by line at false is some = cc

-- the first word, and the words behind the space
pub words_some : (line : List ℕ) (r : Option ℕ) (at : ℕ) → r ≡ position is_blank line → r ≡ Some at
    → slice_split is_blank line ≡ take at line ∷ slice_split is_blank (take (length line - (at + 1)) (drop (at + 1) line))
words_some line r at found some =
    some_by line at _ refl (sym found ∙ some)
    ∙ ap (λ (t : List ℕ). take at line ∷ slice_split is_blank t) (sym (tail_is line (at + 1)))

four_words : (word name place : List ℕ) (words : List (List ℕ)) → 0 < length words → plain_order word name (place ∷ words) ≡ Err error.UnknownCommand
four_words word name place [] some = absurd (omega arith)
four_words word name place (more ∷ others) some = refl

parts_some : (b : ℕ) (t : Bool) (parts : List (List ℕ)) → 0 < length parts → 0 < length (cond t ([] ∷ parts) (onto_first b parts))
parts_some b true parts some = omega arith
parts_some b false [] some = absurd (omega arith)
parts_some b false (part ∷ parts) some = omega arith

split_some : (text : List ℕ) → 0 < length (slice_split is_blank text)
split_some [] = omega arith
split_some (b ∷ text) = parts_some b (is_blank b) (slice_split is_blank text) (split_some text)

-- a word more is no command
pub more_words : (word name rest : List ℕ) (r : Option ℕ) (at : ℕ) → r ≡ position is_blank rest → r ≡ Some at
    → plain_order word name (slice_split is_blank rest) ≡ Err error.UnknownCommand
more_words word name rest r at found some =
    ap (λ (words : List (List ℕ)). plain_order word name words) (words_some rest r at found some)
    ∙ four_words word name (take at rest) (slice_split is_blank (take (length rest - (at + 1)) (drop (at + 1) rest))) (split_some (take (length rest - (at + 1)) (drop (at + 1) rest)))

-- what a reader of one definition gives is that of an equal one
pub ok_by : (due other : Result Order CommandError) (given : Result Order CommandError) → other ≡ due
    → IfOk given (λ order. due ≡ Ok order) → IfOk given (λ order. other ≡ Ok order)
ok_by due other (Ok order) is h = is ∙ h
ok_by due other (Err e) is h = tt

pub err_by : (due other : Result Order CommandError) (given : Result Order CommandError) → other ≡ due
    → IfErr given (λ e. (e ≡ error.NoMemory) ⊎ (due ≡ Err e)) → IfErr given (λ e. (e ≡ error.NoMemory) ⊎ (other ≡ Err e))
err_by due other (Ok order) is h = tt
err_by due other (Err e) is (inl memory) = inl memory
err_by due other (Err e) is (inr h) = inr (is ∙ h)

-- what is given equals one definition, and so an equal one
pub ok_same : (due other : Result Order CommandError) (given : Result Order CommandError) → other ≡ due → given ≡ due → IfOk given (λ order. other ≡ Ok order)
ok_same due other (Ok order) is same = is ∙ sym same
ok_same due other (Err e) is same = tt

pub err_same : (due other : Result Order CommandError) (given : Result Order CommandError) → other ≡ due → given ≡ due
    → IfErr given (λ e. (e ≡ error.NoMemory) ⊎ (other ≡ Err e))
err_same due other (Ok order) is same = tt
err_same due other (Err e) is same = inr (is ∙ sym same)

-- a line of one word that is no command
pub lone_err : (line : List ℕ) (given : Result Order CommandError) → given ≡ lone_order line → slice_split is_blank line ≡ line ∷ []
    → IfErr given (λ e. (e ≡ error.NoMemory) ⊎ (order_of line ≡ Err e))
lone_err line (Ok order) is one = tt
lone_err line (Err e) is one = inr (ap order_of_words one ∙ sym is)

-- the two numbers of a flow
pub id_none : (text : List ℕ) (r : Option ℕ) (dot : ℕ) → r ≡ position is_dot text → r ≡ Some dot → small_number (take dot text) ≡ None → flow_id text ≡ None
id_none text r dot found some none =
    ap (option_and_then (id_around text)) (sym found ∙ some) ∙ ap (option_and_then (id_with (drop (dot + 1) text))) none

pub id_some : (text : List ℕ) (r : Option ℕ) (dot conv : ℕ) (index : Option ℕ) → r ≡ position is_dot text → r ≡ Some dot → small_number (take dot text) ≡ Some conv
    → index ≡ small_number (take (length text - (dot + 1)) (drop (dot + 1) text))
    → flow_id text ≡ option_map (λ i. record { conv = conv; index = i }) index
id_some text r dot conv index found some first second =
    ap (option_and_then (id_around text)) (sym found ∙ some) ∙ ap (option_and_then (id_with (drop (dot + 1) text))) first
    ∙ ap (λ t. option_map (λ i. record { conv = conv; index = i }) (small_number t)) (sym (tail_is text (dot + 1)))
    ∙ ap (option_map (λ i. record { conv = conv; index = i })) (sym second)
