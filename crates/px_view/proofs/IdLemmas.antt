-- The number of a flow, as it is shown, is read back.
use Rattle.std.proofs.Common.{◌≡◌, ◌∙◌, ℕ, suc, ◌+◌, ◌<◌, ◌^◌, false, List, [], ◌∷◌, ◌++◌, length, take, drop, position, codes, decimal, Some, Ok, option_and_then, option_map, refl, sym, ap, arith, length-append, append_assoc}
use Rattle.std.specs.List.{slice_split, position_or_len, onto_first}
use Rattle.std.specs.Str.Parse.{AllDigits, IsNumeral, digits_value}
use Rattle.std.proofs.lemmas.Bool.{lt-ltb}
use Rattle.std.proofs.lemmas.Fmt.{decimal_is_IsNumeral}
use Rattle.std.proofs.lemmas.List.Splits.{slice_split-cons_no}
use Rattle.std.proofs.lemmas.Slice.Eq.{bytes_eq-Decides}
use Rattle.std.proofs.lemmas.Str.Parse.{digit_from_value}
use Rattle.px_text.specs.Number.{decimal_value}
use Rattle.px_text.proofs.NumberLemmas.{number_value-Some}
use Rattle.px_message.specs.declared.flow.FlowId.{FlowId}
use Rattle.px_view.specs.declared.command.Order.{Order}
use Rattle.px_view.specs.declared.command.Order.TheVariants as order
use Rattle.px_core.specs.declared.operation.Operation.TheVariants as operation
use Rattle.px_view.specs.Commands.{flow_id, id_around, id_with, is_blank, is_dot, order_of, order_of_flow, order_of_words, part_order, place_number, small_number, spelled_as, written_as}
use Rattle.px_view.specs.Laws.{WrittenIdIsRead}
use Rattle.px_view.specs.Line.{id_text}

not_dot : (c : ℕ) → 47 < c → is_dot c ≡ false
not_dot c h = grind arith

not_blank : (c : ℕ) → 32 < c → is_blank c ≡ false
not_blank c h = grind arith

seam : (a b : List ℕ) → AllDigits 10 a → position_or_len is_dot (a ++ 46 ∷ b) ≡ length a
seam [] b d = refl
seam (c ∷ a) b d =
    let other : is_dot c ≡ false = not_dot c (let r = digit_from_value c d.0 in omega arith) in
    rw other (rw (seam a b d.1) (omega arith))

dot_at : (a b : List ℕ) → AllDigits 10 a → position is_dot (a ++ 46 ∷ b) ≡ Some (length a)
dot_at a b d = rw (seam a b d, length-append) (grind arith)

take_front : (a b : List ℕ) → take (length a) (a ++ 46 ∷ b) ≡ a
take_front [] b = refl
take_front (c ∷ a) b = ap (λ (l : List ℕ). c ∷ l) (take_front a b)

drop_front : (a b : List ℕ) → drop (suc (length a)) (a ++ 46 ∷ b) ≡ b
drop_front [] b = refl
drop_front (c ∷ a) b = drop_front a b

drop_behind : (a b : List ℕ) → drop (length a + 1) (a ++ 46 ∷ b) ≡ b
drop_behind a b =
    let next : suc (length a) ≡ length a + 1 = omega arith in
    ap (λ n. drop n (a ++ 46 ∷ b)) (sym next) ∙ drop_front a b

-- digits belong to the word that they stand in front of
no_blank : (a rest word : List ℕ) (words : List (List ℕ)) → AllDigits 10 a → slice_split is_blank rest ≡ word ∷ words → slice_split is_blank (a ++ rest) ≡ (a ++ word) ∷ words
no_blank [] rest word words d split = split
no_blank (c ∷ a) rest word words d split =
    slice_split-cons_no is_blank c (a ++ rest) (not_blank c (let r = digit_from_value c d.0 in omega arith)) ∙ ap (onto_first c) (no_blank a rest word words d.1 split)

-- a number in front of a space is a word
word_more : (a rest : List ℕ) → AllDigits 10 a → slice_split is_blank (a ++ 32 ∷ rest) ≡ a ∷ slice_split is_blank rest
word_more [] rest d = refl
word_more (c ∷ a) rest d =
    slice_split-cons_no is_blank c (a ++ 32 ∷ rest) (not_blank c (let r = digit_from_value c d.0 in omega arith)) ∙ ap (onto_first c) (word_more a rest d.1)

digits_of : (n : ℕ) → n < 2 ^ 32 → IsNumeral 10 (decimal n) × (digits_value 10 (decimal n) ≡ n)
digits_of n h = decimal_is_IsNumeral n (omega arith)

alone : (a : List ℕ) → AllDigits 10 a → slice_split is_blank a ≡ a ∷ []
alone [] d = refl
alone (c ∷ a) d =
    slice_split-cons_no is_blank c a (not_blank c (let r = digit_from_value c d.0 in omega arith)) ∙ ap (onto_first c) (alone a d.1)

one_word : (id : FlowId) → id.conv < 2 ^ 32 → id.index < 2 ^ 32 → slice_split is_blank (id_text id) ≡ id_text id ∷ []
one_word id first second =
    no_blank (decimal id.conv) (46 ∷ decimal id.index) (46 ∷ decimal id.index) [] (digits_of id.conv first).0.1
    (ap (onto_first 46) (alone (decimal id.index) (digits_of id.index second).0.1))

-- and what stands behind a space are further words
id_more : (id : FlowId) (rest : List ℕ) → id.conv < 2 ^ 32 → id.index < 2 ^ 32 → slice_split is_blank (id_text id ++ 32 ∷ rest) ≡ id_text id ∷ slice_split is_blank rest
id_more id rest first second =
    ap (slice_split is_blank) (append_assoc (decimal id.conv) (46 ∷ decimal id.index) (32 ∷ rest))
    ∙ no_blank (decimal id.conv) (46 ∷ (decimal id.index ++ 32 ∷ rest)) (46 ∷ decimal id.index) (slice_split is_blank rest) (digits_of id.conv first).0.1
    (ap (onto_first 46) (word_more (decimal id.index) rest (digits_of id.index second).0.1))

small_back : (n : ℕ) → n < 2 ^ 32 → small_number (decimal n) ≡ Some n
small_back n h =
    let d = digits_of n h in
    let found : decimal_value (decimal n) ≡ Some n = number_value-Some 10 (decimal n) (d.0, rw d.1 (omega arith)) ∙ ap Some d.1 in
    ap (option_and_then (written_as (decimal n))) found
    ∙ rw (lt-ltb n (2 ^ 32) h, (bytes_eq-Decides (decimal n) (decimal n)).1 refl) refl

place_back : (n : ℕ) → n < 2 ^ 64 → place_number (decimal n) ≡ Some n
place_back n h =
    let d = decimal_is_IsNumeral n h in
    let found : decimal_value (decimal n) ≡ Some n = number_value-Some 10 (decimal n) (d.0, rw d.1 (omega (arith, h))) ∙ ap Some d.1 in
    ap (option_and_then (spelled_as (decimal n))) found
    ∙ rw ((bytes_eq-Decides (decimal n) (decimal n)).1 refl) refl

id_back : (id : FlowId) → id.conv < 2 ^ 32 → id.index < 2 ^ 32 → flow_id (id_text id) ≡ Some id
id_back id first second =
    let a = decimal id.conv in let b = decimal id.index in
    ap (option_and_then (id_around (a ++ 46 ∷ b))) (dot_at a b (digits_of id.conv first).0.1)
    ∙ ap (λ t. option_and_then (id_with (drop (length a + 1) (a ++ 46 ∷ b))) (small_number t)) (take_front a b)
    ∙ ap (option_and_then (id_with (drop (length a + 1) (a ++ 46 ∷ b)))) (small_back id.conv first)
    ∙ ap (λ t. id_with t id.conv) (drop_behind a b)
    ∙ ap (option_map (λ index. record { conv = id.conv; index = index })) (small_back id.index second)

-- a word, and the number behind a space
ordered : (make : FlowId → Order) (line : List ℕ) (word : List ℕ) (id : FlowId) → id.conv < 2 ^ 32 → id.index < 2 ^ 32
    → order_of line ≡ order_of_words (word ∷ slice_split is_blank (id_text id))
    → order_of_words (word ∷ id_text id ∷ []) ≡ order_of_flow make (flow_id (id_text id))
    → order_of line ≡ Ok (make id)
ordered make line word id first second split read =
    split ∙ ap (λ (words : List (List ℕ)). order_of_words (word ∷ words)) (one_word id first second)
    ∙ read ∙ ap (order_of_flow make) (id_back id first second)

-- a word, the number behind a space, and a place behind another
placed : (line word : List ℕ) (id : FlowId) (from : ℕ) → id.conv < 2 ^ 32 → id.index < 2 ^ 32 → from < 2 ^ 64
    → order_of line ≡ order_of_words (word ∷ slice_split is_blank (id_text id ++ 32 ∷ decimal from))
    → order_of_words (word ∷ id_text id ∷ decimal from ∷ []) ≡ part_order (flow_id (id_text id)) (place_number (decimal from))
    → order_of line ≡ Ok (order.Entry id from)
placed line word id from first second third split read =
    split ∙ ap (λ (words : List (List ℕ)). order_of_words (word ∷ words)) (id_more id (decimal from) first second)
    ∙ ap (λ (words : List (List ℕ)). order_of_words (word ∷ id_text id ∷ words)) (alone (decimal from) (decimal_is_IsNumeral from third).0.1)
    ∙ read ∙ ap (λ flow. part_order flow (place_number (decimal from))) (id_back id first second) ∙ ap (part_order (Some id)) (place_back from third)

pub read_back : WrittenIdIsRead
read_back id first second = record {
  show = ordered order.Show (codes "show " ++ id_text id) (codes "show") id first second refl refl;
  entry = λ from third. placed (codes "entry " ++ (id_text id ++ 32 ∷ decimal from)) (codes "entry") id from first second third refl refl;
  resume = ordered (λ i. order.Act (operation.Resume i)) (codes "resume " ++ id_text id) (codes "resume") id first second refl refl;
  kill = ordered (λ i. order.Act (operation.Kill i)) (codes "kill " ++ id_text id) (codes "kill") id first second refl refl;
  mark = ordered (λ i. order.Act (operation.Mark i)) (codes "mark " ++ id_text id) (codes "mark") id first second refl refl;
}
