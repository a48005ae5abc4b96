-- Parts of a text.
use Rattle.std.proofs.Common.{◌≡◌, ◌∙◌, ◌<◌, ◌≤◌, ℕ, zero, suc, ◌+◌, ◌-◌, ◌*◌, List, [], ◌∷◌, ◌++◌, length, take, drop, refl, sym, ap, arith, length-take, length-drop, take-append-drop}
use Rattle.std.proofs.lemmas.List.{take_all, take_rest, drop-drop, drop_all, drop_min}
use Rattle.px_entry.specs.Parts.{most, part_of}
use Rattle.px_entry.specs.Laws.{PartsMakeTheEntry, parts}

take_sum : (n m : ℕ) (text : List ℕ) → take (n + m) text ≡ take n text ++ take m (drop n text)
take_sum zero m text = let same : zero + m ≡ m = omega arith in ap (λ k. take k text) same
take_sum (suc n) m [] = take_all (suc n + m) [] (omega arith) ∙ sym (take_all m [] (omega arith))
take_sum (suc n) m (b ∷ text) =
    let next : suc n + m ≡ suc (n + m) = omega arith in
    ap (λ k. take k (b ∷ text)) next ∙ ap (λ (l : List ℕ). b ∷ l) (take_sum n m text)

-- the front of a text, and as many bytes behind it as a part has
part_more : (size count : ℕ) (text : List ℕ) → take (count * size) text ++ take size (drop (count * size) text) ≡ take (suc count * size) text
part_more size count text =
    let next : count * size + size ≡ suc count * size = omega arith in
    sym (take_sum (count * size) size text) ∙ ap (λ n. take n text) next

fronts : (text : List ℕ) (count : ℕ) → parts count text ≡ take (count * most) text
fronts text zero = refl
fronts text (suc count) = ap (λ (l : List ℕ). l ++ part_of (count * most) text) (fronts text count) ∙ part_more most count text

-- of any size of parts
next_of : (size from : ℕ) (text : List ℕ) → take size (drop from text) ++ drop (from + length (take size (drop from text))) text ≡ drop from text
next_of size from text =
    let rest = drop from text in
    ap (λ (l : List ℕ). take size rest ++ l)
    (sym (drop-drop (length (take size rest)) from text) ∙ ap (λ n. drop n rest) (length-take size rest) ∙ drop_min size rest)
    ∙ take-append-drop size rest

small_of : (size from : ℕ) (text : List ℕ) → length (take size (drop from text)) ≤ size
small_of size from text = omega (arith, length-take size (drop from text))

none_of : (size from : ℕ) (text : List ℕ) → 0 < size → take size (drop from text) ≡ [] → length text ≤ from
none_of size from text some none =
    let no : length (take size (drop from text)) ≡ 0 = ap length none in
    omega (arith, some, no, length-take size (drop from text), length-drop from text)

end_of : (size from : ℕ) (text : List ℕ) → length text ≤ from → take size (drop from text) ≡ []
end_of size from text past = ap (take size) (drop_all from text past) ∙ take_all size [] (omega arith)

-- at the end of a text and behind it there is nothing
pub past_end : (from : ℕ) (text : List ℕ) → length text ≤ from → [] ≡ take most (drop from text)
past_end from text past = sym (end_of most from text past)

-- the part of what is left of a text
pub tail_part : (from : ℕ) (text : List ℕ) → take most (take (length text - from) (drop from text)) ≡ take most (drop from text)
tail_part from text = ap (take most) (take_rest text from)

pub short_part : (text : List ℕ) → length text ≤ most → take most text ≡ text
short_part text short = take_all most text short

pub parts_make : PartsMakeTheEntry
parts_make text = record {
  front = fronts text;
  whole = λ count all. fronts text count ∙ take_all (count * most) text all;
  next = λ from. next_of most from text;
  small = λ from. small_of most from text;
  empty = λ from. (none_of most from text (omega arith), end_of most from text);
}
