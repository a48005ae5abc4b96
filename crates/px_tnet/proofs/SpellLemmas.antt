-- What is read is what is written, and the other way round.
use Rattle.std.proofs.Common.{◌≡◌, ◌∙◌, ◌<◌, ◌^◌, ℕ, zero, suc, ℤ, Bool, true, false, IsTrue, if◌then◌else◌, List, [], ◌++◌, length, refl, sym, ap, subst, arith, append_assoc, append-nil}
use Rattle.std.proofs.lemmas.Fmt.{length_signed_le}
use Rattle.std.specs.Fmt.{signed_decimal}
use Rattle.std.specs.Int.Signed.{mag}
use Rattle.std.specs.Str.{IsUtf8}
use Rattle.px_tnet.specs.Frame.{Framed, framed, too_many}
use Rattle.px_tnet.specs.Items.{IsItem, Joins, Reading, Within}
use Rattle.px_tnet.specs.Kinds.{Holds, tag_of, truth}
use Rattle.px_tnet.specs.Tree.{Key, Tree, blob, int, float, bool, null, list, dict, Trees, no_tree, tree, Pairs, no_pair, pair, in_turn, key_tree, keys}
use Rattle.px_tnet.specs.Written.{AreSound, AreSoundPairs, IsSound, kind_of, payload, written, written_key, written_pairs, written_trees}
use Rattle.px_tnet.specs.Tree as of
use Rattle.px_tnet.specs.declared.kind.Kind.{Kind}
use Rattle.px_tnet.specs.declared.kind.Kind.TheVariants as kind

key_payload_by : (b : Bool) (xs : List ℕ) → payload (if b then of.text xs else blob xs) ≡ xs
key_payload_by true xs = refl
key_payload_by false xs = refl

key_payload : (key : Key) → payload (key_tree key) ≡ key.bytes
key_payload key = key_payload_by key.text key.bytes

written_in_turn : (pairs : Pairs) → written_trees (in_turn pairs) ≡ written_pairs pairs
written_in_turn no_pair = refl
written_in_turn (pair key value pairs) =
    (λ i. framed (key_payload key i) (tag_of (kind_of (key_tree key))) ++ (written value ++ written_trees (in_turn pairs)))
    ∙ ap (λ (l : List ℕ). written_key key ++ (written value ++ l)) (written_in_turn pairs)

sound_key_by : (b : Bool) (xs : List ℕ) (depth : ℕ) → length xs < too_many → (IsTrue b → IsUtf8 xs) → IsSound (if b then of.text xs else blob xs) depth
sound_key_by true xs depth short utf8 = (short, utf8 refl)
sound_key_by false xs depth short utf8 = short

key_sound_by : (b : Bool) (xs : List ℕ) (depth : ℕ) → IsSound (if b then of.text xs else blob xs) depth → (length xs < too_many) × (IsTrue b → IsUtf8 xs)
key_sound_by true xs depth h = (h.0, λ _. h.1)
key_sound_by false xs depth h = (h, λ e. absurd (let f : IsTrue false = e in cc))

sound_in_turn : (pairs : Pairs) (depth : ℕ) → AreSoundPairs pairs depth → AreSound (in_turn pairs) depth
sound_in_turn no_pair depth h = tt
sound_in_turn (pair key value pairs) depth h = (sound_key_by key.text key.bytes depth h.0.0 h.0.1, (h.1, sound_in_turn pairs depth h.2))

in_turn_sound : (pairs : Pairs) (depth : ℕ) → AreSound (in_turn pairs) depth → AreSoundPairs pairs depth
in_turn_sound no_pair depth h = tt
in_turn_sound (pair key value pairs) depth h = (key_sound_by key.text key.bytes depth h.0, h.1.0, in_turn_sound pairs depth h.1.1)

-- each item stands for what is written
Spells : Reading → ℕ → Type 0
Spells R depth = (t : Tree) (text rest : List ℕ) → R t text rest → (text ≡ written t ++ rest) × IsSound t depth

spelled_joins : (R : Reading) (depth : ℕ) → Spells R depth → (ts : Trees) (text rest : List ℕ) → Joins R ts text rest
    → (text ≡ written_trees ts ++ rest) × AreSound ts depth
unfolding Spells
spelled_joins R depth spells no_tree text rest h = (h, tt)
spelled_joins R depth spells (tree t ts) text rest h =
    let first = spells t text h.0 h.1 in
    let more = spelled_joins R depth spells ts h.0 rest h.2 in
    (first.0 ∙ ap (λ (l : List ℕ). written t ++ l) more.0 ∙ sym (append_assoc (written t) (written_trees ts) rest), (first.1, more.1))

-- the tree of a payload, in a frame
item_along : (depth : ℕ) (t u : Tree) (text rest : List ℕ) → t ≡ u → (text ≡ written u ++ rest) × IsSound u depth → (text ≡ written t ++ rest) × IsSound t depth
item_along depth t u text rest e h = let P : Tree → Type 0 = λ x. (text ≡ written x ++ rest) × IsSound x depth in subst P (sym e) h

SpellsWithin : (Trees → List ℕ → Type 0) → ℕ → Type 0
SpellsWithin W zero = (ts : Trees) (p : List ℕ) → W ts p → ⊥
SpellsWithin W (suc depth) = (ts : Trees) (p : List ℕ) → W ts p → (p ≡ written_trees ts) × AreSound ts depth

short_along : (p q : List ℕ) → p ≡ q → length p < too_many → length q < too_many
short_along p q e h = let P : List ℕ → Type 0 = λ l. length l < too_many in subst P e h

spelled_holds : (W : Trees → List ℕ → Type 0) (depth : ℕ) → SpellsWithin W depth → (k : Kind) (p : List ℕ) (t : Tree) (text rest : List ℕ)
    → Framed p (tag_of k) rest text → Holds W k p t → (text ≡ written t ++ rest) × IsSound t depth
unfolding SpellsWithin
spelled_holds W depth spells kind.Blob p t text rest f h = item_along depth t (blob p) text rest h (f.1, f.0)
spelled_holds W depth spells kind.Text p t text1 rest f h = item_along depth t (of.text p) text1 rest h.1 (f.1, (f.0, h.0))
spelled_holds W depth spells kind.Int p t text rest f h =
    item_along depth t (int h.0) text rest h.2 (f.1 ∙ ap (λ (l : List ℕ). framed l 35 ++ rest) h.1.1, h.1.0)
spelled_holds W depth spells kind.Float p t text rest f h = item_along depth t (float p) text rest h (f.1, f.0)
spelled_holds W depth spells kind.Bool p t text rest f h =
    item_along depth t (bool h.0) text rest h.2 (f.1 ∙ ap (λ (l : List ℕ). framed l 33 ++ rest) h.1, tt)
spelled_holds W depth spells kind.Null p t text rest f h =
    item_along depth t null text rest h.1 (f.1 ∙ ap (λ (l : List ℕ). framed l 126 ++ rest) h.0, tt)
spelled_holds W zero spells kind.List p t text rest f h = absurd (spells h.0 p h.1)
spelled_holds W (suc depth) spells kind.List p t text rest f h =
    let s = spells h.0 p h.1 in
    item_along (suc depth) t (list h.0) text rest h.2
    (f.1 ∙ ap (λ (l : List ℕ). framed l 93 ++ rest) s.0, (short_along p (written_trees h.0) s.0 f.0, s.1))
spelled_holds W zero spells kind.Dict p t text rest f h = absurd (spells (in_turn h.0) p h.1)
spelled_holds W (suc depth) spells kind.Dict p t text rest f h =
    let s = spells (in_turn h.0) p h.1 in
    let e = s.0 ∙ written_in_turn h.0 in
    item_along (suc depth) t (dict h.0) text rest h.3
    (f.1 ∙ ap (λ (l : List ℕ). framed l 125 ++ rest) e, (short_along p (written_pairs h.0) e f.0, h.2, in_turn_sound h.0 depth s.1))

spelled_within : (depth : ℕ) → SpellsWithin (Within depth) depth
unfolding SpellsWithin Spells
spelled_within zero = λ ts p h. h
spelled_within (suc depth) = λ ts p h.
    let s = spelled_joins (IsItem depth) depth (λ t text rest i. spelled_holds (Within depth) depth (spelled_within depth) i.0 i.1 t text rest i.2 i.3) ts p [] h in
    (s.0 ∙ append-nil (written_trees ts), s.1)

-- each tree has one spelling
pub spelled : (depth : ℕ) (t : Tree) (text rest : List ℕ) → IsItem depth t text rest → (text ≡ written t ++ rest) × IsSound t depth
spelled depth t text rest h = spelled_holds (Within depth) depth (spelled_within depth) h.0 h.1 t text rest h.2 h.3

-- and the other way round
Reads : Reading → ℕ → Type 0
Reads R depth = (t : Tree) → IsSound t depth → (rest : List ℕ) → R t (written t ++ rest) rest

read_joins : (R : Reading) (depth : ℕ) → Reads R depth → (ts : Trees) → AreSound ts depth → (rest : List ℕ) → Joins R ts (written_trees ts ++ rest) rest
unfolding Reads
read_joins R depth reads no_tree sound rest = refl
read_joins R depth reads (tree t ts) sound rest =
    let P : List ℕ → Type 0 = λ l. R t l (written_trees ts ++ rest) in (
      written_trees ts ++ rest,
      subst P (sym (append_assoc (written t) (written_trees ts) rest)) (reads t sound.0 (written_trees ts ++ rest)),
      read_joins R depth reads ts sound.1 rest,
    )

read_all : (R : Reading) (depth : ℕ) → Reads R depth → (ts : Trees) → AreSound ts depth → Joins R ts (written_trees ts) []
read_all R depth reads ts sound =
    let P : List ℕ → Type 0 = λ l. Joins R ts l [] in subst P (append-nil (written_trees ts)) (read_joins R depth reads ts sound [])

short_truth : (b : Bool) → length (truth b) < too_many
short_truth true = omega arith
short_truth false = omega arith

short_digits : (n : ℤ) → mag n < 2 ^ 63 → length (signed_decimal n) < too_many
short_digits n small = let l = length_signed_le 20 n (omega arith) small in omega arith

pub read_written : (depth : ℕ) → (t : Tree) → IsSound t depth → (rest : List ℕ) → IsItem depth t (written t ++ rest) rest
unfolding Reads
read_written depth (blob b) sound rest = (kind.Blob, b, (sound, refl), refl)
read_written depth (of.text b) sound rest = (kind.Text, b, (sound.0, refl), (sound.1, refl))
read_written depth (int n) sound rest = (kind.Int, signed_decimal n, (short_digits n sound, refl), (n, (sound, refl), refl))
read_written depth (float b) sound rest = (kind.Float, b, (sound, refl), refl)
read_written depth (bool b) sound rest = (kind.Bool, truth b, (short_truth b, refl), (b, refl, refl))
read_written depth null sound rest = (kind.Null, [], (omega arith, refl), (refl, refl))
read_written zero (list ts) sound rest = absurd sound
read_written (suc depth) (list ts) sound rest =
    (kind.List, written_trees ts, (sound.0, refl), (ts, read_all (IsItem depth) depth (read_written depth) ts sound.1, refl))
read_written zero (dict ps) sound rest = absurd sound
read_written (suc depth) (dict ps) sound rest =
    let P : List ℕ → Type 0 = λ l. Joins (IsItem depth) (in_turn ps) l [] in (
      kind.Dict,
      written_pairs ps,
      (sound.0, refl),
      (
        ps,
        subst P (written_in_turn ps) (read_all (IsItem depth) depth (read_written depth) (in_turn ps) (sound_in_turn ps depth sound.2)),
        sound.1,
        refl,
      ),
    )
