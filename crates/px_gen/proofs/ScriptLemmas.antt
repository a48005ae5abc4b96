-- Lists over the numbers below a number, one number further.
use Rattle.std.proofs.Common.{◌≡◌, ℕ, zero, suc, ◌+◌, ◌-◌, min, List, [], ◌∷◌, ◌++◌, length, take, drop, map, sym, ap, ◌∙◌, append_assoc, arith}
use Rattle.std.specs.List.{flat_map, range_with_len}
use Rattle.std.proofs.lemmas.List.{append-nil, map-append, length-drop, take_all, take_min}
use Rattle.std.proofs.lemmas.List.Concat.{flat_map-append}
use Rattle.std.proofs.lemmas.List.FromFn.{map-range_with_len_more}
use Rattle.px_text.specs.Blank.{crlf}
use Rattle.px_gen.specs.Script.{numbers_below}

range_more : (a n j : ℕ) → a + n ≡ j → range_with_len a (suc n) ≡ range_with_len a n ++ j ∷ []
range_more a zero j is = let same : a ≡ j = omega arith in ap (λ m. m ∷ []) same
range_more a (suc n) j is = ap (λ l. a ∷ l) (range_more (a + 1) n j (omega arith))

-- each number with a list of its own
pub all_of_more : {A : Type 0} (f : ℕ → List A) (n : ℕ) → flat_map f (numbers_below (n + 1)) ≡ flat_map f (numbers_below n) ++ f n
all_of_more f n =
    let next : n + 1 ≡ suc n = omega arith in
    ap (λ m. flat_map f (numbers_below m)) next
    ∙ ap (λ l. flat_map f l) (range_more 0 n n (omega arith))
    ∙ flat_map-append f (numbers_below n) (n ∷ [])
    ∙ ap (λ l. flat_map f (numbers_below n) ++ l) (append-nil (f n))

pub flows_further : {A : Type 0} (f : ℕ → List A) (first : A) (n : ℕ) (before after : List A) →
    before ≡ first ∷ flat_map f (numbers_below n) → after ≡ before ++ f n → after ≡ first ∷ flat_map f (numbers_below (n + 1))
flows_further f first n before after so_far more =
    more ∙ ap (λ l. l ++ f n) so_far ∙ ap (λ l. first ∷ l) (sym (all_of_more f n))

-- each number with one thing
map_further : {A : Type 0} (f : ℕ → A) (n : ℕ) (start before after : List A) →
    before ≡ start ++ map f (numbers_below n) → after ≡ before ++ f n ∷ [] → after ≡ start ++ map f (numbers_below (n + 1))
map_further f n start before after so_far more =
    more ∙ ap (λ l. l ++ f n ∷ []) so_far ∙ append_assoc start (map f (numbers_below n)) (f n ∷ [])
    ∙ ap (λ l. start ++ l) (sym (map-range_with_len_more f 0 n n (omega arith)))

pub bytes_further : (f : ℕ → ℕ) (n given : ℕ) (start before after : List ℕ) → before ≡ start ++ map f (numbers_below n) →
    after ≡ before ++ given ∷ [] → given ≡ f n → after ≡ start ++ map f (numbers_below (n + 1))
bytes_further f n given start before after so_far more is = map_further f n start before after so_far (more ∙ ap (λ g. before ++ g ∷ []) is)

pub pieces_further : {X A : Type 0} (h : X → A) (g : ℕ → X) (n : ℕ) (piece : X) (start before after : List A) →
    before ≡ start ++ map h (map g (numbers_below n)) → after ≡ before ++ h piece ∷ [] → piece ≡ g n →
    after ≡ start ++ map h (map g (numbers_below (n + 1)))
pieces_further h g n piece start before after so_far more is =
    more ∙ ap (λ l. l ++ h piece ∷ []) so_far
    ∙ append_assoc start (map h (map g (numbers_below n))) (h piece ∷ [])
    ∙ ap (λ l. start ++ l) (
    ap (λ p. map h (map g (numbers_below n)) ++ h p ∷ []) is
    ∙ sym (map-append h (map g (numbers_below n)) (g n ∷ []))
    ∙ ap (λ l. map h l) (sym (map-range_with_len_more g 0 n n (omega arith)))
    )

-- a piece, taken of the rest
pub piece_is : (most at shorter : ℕ) (text : List ℕ) → shorter ≡ min (length (take (length text - at) (drop at text))) most →
    take shorter (take (length text - at) (drop at text)) ≡ take most (drop at text)
piece_is most at shorter text is =
    let long = length-drop at text in
    let whole : take (length text - at) (drop at text) ≡ drop at text = take_all (length text - at) (drop at text) (omega arith) in
    let least : shorter ≡ min most (length (drop at text)) = omega (arith, is, ap length whole) in
    ap (λ l. take shorter l) whole ∙ ap (λ m. take m (drop at text)) least ∙ take_min most (drop at text)

-- a head is written in four parts
pub head_is : (old first second digits one two three all : List ℕ) → one ≡ old ++ first → two ≡ one ++ second → three ≡ two ++ digits →
    all ≡ three ++ (crlf ++ crlf) → all ≡ old ++ (first ++ second ++ digits ++ crlf ++ crlf)
head_is old first second digits one two three all e f g h =
    h ∙ ap (λ l. l ++ (crlf ++ crlf)) (g ∙ ap (λ l. l ++ digits) (f ∙ ap (λ l. l ++ second) e)) ∙ in_parts
  where
    in_parts : (((old ++ first) ++ second) ++ digits) ++ (crlf ++ crlf) ≡ old ++ (first ++ second ++ digits ++ crlf ++ crlf)
    in_parts = simp append_assoc
