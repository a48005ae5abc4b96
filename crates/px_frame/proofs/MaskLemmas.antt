-- Laws of masking.
use Rattle.std.proofs.Common.{◌≡◌, ◌∙◌, ℕ, zero, suc, ◌+◌, ◌-◌, ◌%◌, ◌<◌, ◌≤◌, List, [], ◌∷◌, ◌++◌, append_assoc, append-nil, length, take, drop, get_or, refl, sym, ap, ap₂, subst, arith, Result, Ok, Err, OnErr, Option, Some, None}
use Rattle.std.specs.Prelude.{bit_xor, slice_index}
use Rattle.std.specs.Int.Bits.{xor_assoc, xor_self, xor_zero_r}
use Rattle.std.proofs.lemmas.List.{drop_more, take_more, take-append-drop, length-drop}
use Rattle.px_text.specs.Prefix.{AddsPrefixOf}
use Rattle.px_frame.specs.Mask.{under, under_key}

pub length-under : (key : List ℕ) (at : ℕ) (bytes : List ℕ) → length (under key at bytes) ≡ length bytes
length-under key at [] = refl
length-under key at (byte ∷ bytes) = ap (λ (n : ℕ). suc n) (length-under key (at + 1) bytes)

pub length-under_key : (key : Option (List ℕ)) (payload : List ℕ) → length (under_key key payload) ≡ length payload
length-under_key None payload = refl
length-under_key (Some key) payload = length-under key 0 payload

shifted : (at n : ℕ) → (at + 1) + n ≡ at + suc n
shifted at n = omega arith

pub under-append : (key : List ℕ) (at : ℕ) (a b : List ℕ) → under key at (a ++ b) ≡ under key at a ++ under key (at + length a) b
under-append key at [] b = ap (λ (n : ℕ). under key n b) (unmoved at)
  where
    unmoved : (n : ℕ) → n ≡ n + 0
    unmoved n = omega arith
under-append key at (byte ∷ a) b =
    ap (λ (bytes : List ℕ). bit_xor byte (slice_index key (at % 4)) ∷ bytes)
    (under-append key (at + 1) a b ∙ ap (λ (n : ℕ). under key (at + 1) a ++ under key n b) (shifted at (length a)))

taken : (payload : List ℕ) (i : ℕ) → i ≤ length payload → 0 + length (take i payload) ≡ i
taken payload zero h = refl
taken [] (suc i) h = absurd (omega arith)
taken (byte ∷ payload) (suc i) h = let t = taken payload i (omega arith) in omega arith

-- one byte more
pub under_more : (key payload : List ℕ) (i : ℕ) → i < length payload
    → under key 0 (take (i + 1) payload) ≡ under key 0 (take i payload) ++ bit_xor (get_or payload i 0) (get_or key (i % 4) 0) ∷ []
under_more key payload i h =
    ap (λ (bytes : List ℕ). under key 0 bytes) (take_more payload i 0 h)
    ∙ under-append key 0 (take i payload) (get_or payload i 0 ∷ [])
    ∙ ap (λ (n : ℕ). under key 0 (take i payload) ++ bit_xor (get_or payload i 0) (get_or key (n % 4) 0) ∷ [])
    (taken payload i (omega arith))

-- all bytes
pub take_whole : (payload : List ℕ) → take (length payload) payload ≡ payload
take_whole [] = refl
take_whole (byte ∷ payload) = ap (λ (bytes : List ℕ). byte ∷ bytes) (take_whole payload)

-- the bytes from a place on, as a slice has them
pub whole_tail : (at : ℕ) (bytes : List ℕ) → take (length bytes - at) (drop at bytes) ≡ drop at bytes
whole_tail at bytes =
    ap (λ (n : ℕ). take n (drop at bytes)) (sym (length-drop at bytes)) ∙ take_whole (drop at bytes)

-- those so far, and nothing of the next
pub under_before : (key payload : List ℕ) (i : ℕ) (old middle new : List ℕ) → middle ≡ old ++ under key 0 (take i payload) → new ≡ middle
    → AddsPrefixOf (under key 0 payload) old new
under_before key payload i old middle new before same = (
  under key 0 (take i payload),
  (
    under key (0 + length (take i payload)) (drop i payload),
    sym (ap (λ (bytes : List ℕ). under key 0 bytes) (take-append-drop i payload))
        ∙ under-append key 0 (take i payload) (drop i payload),
  ),
  same ∙ before,
)

-- ---- eight bytes at a time: the key begins again

under_turn : (key : List ℕ) (at : ℕ) (bytes : List ℕ) → under key (at + 4) bytes ≡ under key at bytes
under_turn key at [] = refl
under_turn key at (byte ∷ bytes) =
    ap₂ (λ (n : ℕ) (rest : List ℕ). bit_xor byte (slice_index key n) ∷ rest) (turned at)
    (ap (λ n. under key n bytes) (moved at) ∙ under_turn key (at + 1) bytes)
  where
    turned : (n : ℕ) → (n + 4) % 4 ≡ n % 4
    turned n = omega arith

    moved : (n : ℕ) → (n + 4) + 1 ≡ (n + 1) + 4
    moved n = omega arith

under_eight : (key bytes : List ℕ) → under key 8 bytes ≡ under key 0 bytes
under_eight key bytes = under_turn key 4 bytes ∙ under_turn key 0 bytes

-- the payload up to here was added under the key, and the key begins again behind it
pub record Masked (key payload rest old out : List ℕ) : Type 0 where
  pub done : List ℕ
  pub all : under key 0 payload ≡ done ++ under key 0 rest
  pub out_is : out ≡ old ++ done

pub masked_first : (key payload old out : List ℕ) → out ≡ old → Masked key payload payload old out
masked_first key payload old out same = record { done = []; all = refl; out_is = same ∙ sym (append-nil old) }

masked_more : (key payload old out next more eight : List ℕ) (a b c d e f g h : ℕ) → next ≡ out ++ eight →
    eight ≡ bit_xor a (slice_index key 0) ∷ bit_xor b (slice_index key 1) ∷ bit_xor c (slice_index key 2) ∷ bit_xor d (slice_index key 3)
    ∷ bit_xor e (slice_index key 0) ∷ bit_xor f (slice_index key 1) ∷ bit_xor g (slice_index key 2) ∷ bit_xor h (slice_index key 3) ∷ [] →
    Masked key payload (a ∷ b ∷ c ∷ d ∷ e ∷ f ∷ g ∷ h ∷ more) old out → Masked key payload more old next
masked_more key payload old out next more eight a b c d e f g h grown is m = record {
  done = m.done ++ eight;
  all = m.all
      ∙ (ap (λ (l : List ℕ). m.done ++ l) (ap (λ (l : List ℕ). front ++ l) (under_eight key more) ∙ ap (λ (l : List ℕ). l ++ under key 0 more) (sym is))
      ∙ sym (append_assoc m.done eight (under key 0 more)));
  out_is = grown ∙ (ap (λ (l : List ℕ). l ++ eight) m.out_is ∙ append_assoc old m.done eight);
}
  where
    front : List ℕ
    front = bit_xor a (slice_index key 0) ∷ bit_xor b (slice_index key 1) ∷ bit_xor c (slice_index key 2) ∷ bit_xor d (slice_index key 3)
        ∷ bit_xor e (slice_index key 0) ∷ bit_xor f (slice_index key 1) ∷ bit_xor g (slice_index key 2) ∷ bit_xor h (slice_index key 3) ∷ []

first_eight : (bytes : List ℕ) → 8 ≤ length bytes → bytes ≡ get_or bytes 0 0 ∷ get_or bytes 1 0 ∷ get_or bytes 2 0 ∷ get_or bytes 3 0
    ∷ get_or bytes 4 0 ∷ get_or bytes 5 0 ∷ get_or bytes 6 0 ∷ get_or bytes 7 0 ∷ drop 8 bytes
first_eight bytes long =
    drop_more bytes 0 0 (omega (arith, long))
    ∙ ap (λ (l : List ℕ). get_or bytes 0 0 ∷ l) (drop_more bytes 1 0 (omega (arith, long))
    ∙ ap (λ (l : List ℕ). get_or bytes 1 0 ∷ l) (drop_more bytes 2 0 (omega (arith, long))
    ∙ ap (λ (l : List ℕ). get_or bytes 2 0 ∷ l) (drop_more bytes 3 0 (omega (arith, long))
    ∙ ap (λ (l : List ℕ). get_or bytes 3 0 ∷ l) (drop_more bytes 4 0 (omega (arith, long))
    ∙ ap (λ (l : List ℕ). get_or bytes 4 0 ∷ l) (drop_more bytes 5 0 (omega (arith, long))
    ∙ ap (λ (l : List ℕ). get_or bytes 5 0 ∷ l) (drop_more bytes 6 0 (omega (arith, long))
    ∙ ap (λ (l : List ℕ). get_or bytes 6 0 ∷ l) (drop_more bytes 7 0 (omega (arith, long)))))))))

-- the first eight of what is left
pub masked_eight : (key payload rest old out next eight : List ℕ) → 8 ≤ length rest → next ≡ out ++ eight →
    eight ≡ bit_xor (get_or rest 0 0) (slice_index key 0) ∷ bit_xor (get_or rest 1 0) (slice_index key 1) ∷ bit_xor (get_or rest 2 0) (slice_index key 2)
    ∷ bit_xor (get_or rest 3 0) (slice_index key 3) ∷ bit_xor (get_or rest 4 0) (slice_index key 0) ∷ bit_xor (get_or rest 5 0) (slice_index key 1)
    ∷ bit_xor (get_or rest 6 0) (slice_index key 2) ∷ bit_xor (get_or rest 7 0) (slice_index key 3) ∷ [] →
    Masked key payload rest old out → Masked key payload (take (length rest - 8) (drop 8 rest)) old next
masked_eight key payload rest old out next eight long grown is m =
    subst (λ (l : List ℕ). Masked key payload l old next) (sym (whole_tail 8 rest))
    (masked_more key payload old out next (drop 8 rest) eight _ _ _ _ _ _ _ _ grown is
    (subst (λ (l : List ℕ). Masked key payload l old out) (first_eight rest long) m))

pub masked_stops : (key payload rest old out new : List ℕ) → new ≡ out → Masked key payload rest old out → AddsPrefixOf (under key 0 payload) old new
masked_stops key payload rest old out new same m = (m.done, (under key 0 rest, m.all), same ∙ m.out_is)

pub masked_ends : (key payload rest old out new : List ℕ) → new ≡ out ++ under key 0 rest → Masked key payload rest old out → new ≡ old ++ under key 0 payload
masked_ends key payload rest old out new grown m =
    grown
    ∙ (ap (λ (l : List ℕ). l ++ under key 0 rest) m.out_is
    ∙ (append_assoc old m.done (under key 0 rest) ∙ ap (λ (l : List ℕ). old ++ l) (sym m.all)))

pub masked_breaks : (key payload rest old out new : List ℕ) → AddsPrefixOf (under key 0 rest) out new → Masked key payload rest old out →
    AddsPrefixOf (under key 0 payload) old new
masked_breaks key payload rest old out new (given, (later, is), grown) m = (
  m.done ++ given,
  (later, m.all ∙ (ap (λ (l : List ℕ). m.done ++ l) is ∙ sym (append_assoc m.done given later))),
  grown ∙ (ap (λ (l : List ℕ). l ++ given) m.out_is ∙ append_assoc old m.done given),
)

pub masked_breaks_on : {E : Type 0} (result : Result (Unit {0}) E) (key payload rest old out new : List ℕ) →
    OnErr result (AddsPrefixOf (under key 0 rest) out new) → Masked key payload rest old out → OnErr result (AddsPrefixOf (under key 0 payload) old new)
masked_breaks_on (Ok _) key payload rest old out new h m = tt
masked_breaks_on (Err _) key payload rest old out new h m = masked_breaks key payload rest old out new h m

-- ---- twice

xor_twice : (b k : ℕ) → bit_xor (bit_xor b k) k ≡ b
xor_twice b k = xor_assoc b k k ∙ ap (λ (n : ℕ). bit_xor b n) (xor_self k) ∙ xor_zero_r b

pub under_twice : (key : List ℕ) (at : ℕ) (bytes : List ℕ) → under key at (under key at bytes) ≡ bytes
under_twice key at [] = refl
under_twice key at (byte ∷ bytes) =
    ap₂ (λ (b : ℕ) (rest : List ℕ). b ∷ rest) (xor_twice byte (slice_index key (at % 4))) (under_twice key (at + 1) bytes)

pub under_key_twice : (key : Option (List ℕ)) (payload : List ℕ) → under_key key (under_key key payload) ≡ payload
under_key_twice None payload = refl
under_key_twice (Some key) payload = under_twice key 0 payload
