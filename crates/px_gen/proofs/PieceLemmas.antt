-- A text and its pieces.
use Rattle.std.proofs.Common.{◌≡◌, ℕ, zero, suc, ◌+◌, ◌-◌, ◌*◌, ◌<◌, ◌≤◌, min, List, [], ◌++◌, length, get_or, take, drop, sym, ap, ◌∙◌, subst, arith}
use Rattle.std.specs.Int.{div_ceil}
use Rattle.std.specs.List.{concat, flat_map}
use Rattle.std.proofs.lemmas.Grind.{div_ceil_times}
use Rattle.std.proofs.lemmas.List.{length-drop, length-take, take_all}
use Rattle.std.proofs.lemmas.List.Concat.{concat_is}
use Rattle.std.proofs.lemmas.List.Folds.{flat_map-map}
use Rattle.std.proofs.lemmas.List.FromFn.{get_or-map-range_with_len, length-map-range_with_len}
use Rattle.std.proofs.Math.Seq.{take-add}
use Rattle.px_gen.specs.Script.{ArePiecesOf, cut, numbers_below, piece_at, pieces_of}
use Rattle.px_gen.proofs.ScriptLemmas.{all_of_more}

-- so many pieces, joined
front_is : (most : ℕ) (text : List ℕ) (n : ℕ) → flat_map (piece_at most text) (numbers_below n) ≡ take (most * n) text
front_is most text zero = let none : most * 0 ≡ 0 = omega arith in ap (λ m. take m text) (sym none)
front_is most text (suc n) =
    let next : suc n ≡ n + 1 = omega arith in
    let longer : most * suc n ≡ most * n + most = omega arith in
    ap (λ m. flat_map (piece_at most text) (numbers_below m)) next
    ∙ all_of_more (piece_at most text) n
    ∙ ap (λ l. l ++ piece_at most text n) (front_is most text n)
    ∙ sym (take-add (most * n) most text)
    ∙ ap (λ m. take m text) (sym longer)

-- as many pieces as there are
abbrev many : List ℕ → ℕ
many text = div_ceil (length text) 1000

covered : (text : List ℕ) → length text ≤ 1000 * many text
covered text = let bounds = div_ceil_times (length text) 1000 (omega arith) in omega (arith, bounds.0)

within : (text : List ℕ) (k : ℕ) → k < many text → 1000 * k < length text
within text k less = let bounds = div_ceil_times (length text) 1000 (omega arith) in omega (arith, bounds.1)

joined : (text : List ℕ) → concat (cut 1000 text) ≡ text
joined text =
    concat_is (cut 1000 text)
    ∙ flat_map-map (λ piece. piece) (piece_at 1000 text) (numbers_below (many text))
    ∙ front_is 1000 text (many text)
    ∙ take_all (1000 * many text) text (covered text)

count_is : (text : List ℕ) → length (cut 1000 text) ≡ many text
count_is text = length-map-range_with_len (piece_at 1000 text) 0 (many text)

length_is : (text : List ℕ) (k : ℕ) → k < length (cut 1000 text) →
    (length (get_or (cut 1000 text) k []) ≡ min 1000 (length text - 1000 * k)) × (1000 * k < length text)
length_is text k less =
    let there : k < many text = subst (λ n. k < n) (count_is text) less in (
      ap length (get_or-map-range_with_len (piece_at 1000 text) 0 (many text) k k [] there (omega arith))
          ∙ length-take 1000 (drop (1000 * k) text)
          ∙ ap (λ n. min 1000 n) (length-drop (1000 * k) text),
      within text k there,
    )

some : (text : List ℕ) (k : ℕ) → k < length (cut 1000 text) → 0 < length (get_or (cut 1000 text) k [])
some text k less = let is = length_is text k less in omega (arith, is.0, is.1)

most : (text : List ℕ) (k : ℕ) → k < length (cut 1000 text) → length (get_or (cut 1000 text) k []) ≤ 1000
most text k less = let is = length_is text k less in omega (arith, is.0)

full : (text : List ℕ) (k : ℕ) → k + 1 < length (cut 1000 text) → length (get_or (cut 1000 text) k []) ≡ 1000
full text k less =
    let is = length_is text k (omega arith) in
    let next = length_is text (k + 1) less in
    omega (arith, is.0, next.1)

pub are_pieces : (text : List ℕ) → ArePiecesOf text (pieces_of text)
unfolding pieces_of
are_pieces text = record { joined = joined text; some = some text; most = most text; full = full text }
