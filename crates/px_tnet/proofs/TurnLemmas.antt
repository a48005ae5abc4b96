-- Texts from their ends.
use Rattle.std.proofs.Common.{◌≡◌, ◌∙◌, ◌≤◌, ℕ, List, [], ◌∷◌, ◌++◌, length, take, drop, reverse, decimal, sym, ap, subst, arith, length-append, append_assoc}
use Rattle.std.proofs.Math.Seq.{take-append_seam, drop-append_seam}
use Rattle.std.proofs.lemmas.List.{reverse-append, reverse-reverse}
use Rattle.px_tnet.specs.Frame.{colon, framed, too_many}
use Rattle.px_tnet.specs.Kinds.{tag_of}
use Rattle.px_tnet.specs.Tree.{key_tree}
use Rattle.px_tnet.specs.View.{pairs_view, trees_view, view}
use Rattle.px_tnet.specs.Written.{IsTooLong, kind_of, payload, written, written_key, written_pairs, written_trees}
use Rattle.px_tnet.specs.View.{key_view}
use Rattle.px_tnet.specs.declared.tree.Tnet.{Tnet}
use Rattle.px_tnet.proofs.DictLemmas.{Entry}

-- tag, payload and length from the end are the frame from its end
pub turned_frame : (old p : List ℕ) (t : ℕ)
    → ((old ++ (t ∷ [])) ++ reverse p) ++ (colon ∷ reverse (decimal (length p))) ≡ old ++ reverse (framed p t)
turned_frame old p t =
    let d = reverse (decimal (length p)) in
    append_assoc (old ++ (t ∷ [])) (reverse p) (colon ∷ d) ∙ append_assoc old (t ∷ []) (reverse p ++ (colon ∷ d))
    ∙ ap (λ (l : List ℕ). old ++ l) (sym (
    reverse-append (decimal (length p)) (colon ∷ (p ++ (t ∷ [])))
    ∙ ap (λ (l : List ℕ). l ++ d) (reverse-append (colon ∷ []) (p ++ (t ∷ [])) ∙ ap (λ (l : List ℕ). l ++ (colon ∷ [])) (reverse-append p (t ∷ [])))
    ∙ append_assoc (t ∷ reverse p) (colon ∷ []) d))

-- one text in front of those that stand from the end
pub turned_more : (old text more : List ℕ) → (old ++ reverse more) ++ reverse text ≡ old ++ reverse (text ++ more)
turned_more old text more = append_assoc old (reverse more) (reverse text) ∙ ap (λ (l : List ℕ). old ++ l) (sym (reverse-append text more))

pub turned_back : (old text : List ℕ) → take (length old) (old ++ reverse text) ++ reverse (drop (length old) (old ++ reverse text)) ≡ old ++ text
turned_back old text =
    ap (λ (l : List ℕ). l ++ reverse (drop (length old) (old ++ reverse text))) (take-append_seam old (reverse text))
    ∙ ap (λ (l : List ℕ). old ++ reverse l) (drop-append_seam old (reverse text)) ∙ ap (λ (l : List ℕ). old ++ l) (reverse-reverse text)

pub turned_new : (old text : List ℕ) → take (length old) (old ++ text) ++ reverse (drop (length old) (old ++ text)) ≡ old ++ reverse text
turned_new old text =
    ap (λ (l : List ℕ). l ++ reverse (drop (length old) (old ++ text))) (take-append_seam old text)
    ∙ ap (λ (l : List ℕ). old ++ reverse l) (drop-append_seam old text)

payload_in_frame : (p : List ℕ) (t : ℕ) → length p ≤ length (framed p t)
payload_in_frame p t =
    let a = length-append (decimal (length p)) (colon ∷ (p ++ (t ∷ []))) in
    let b = length-append p (t ∷ []) in
    omega arith

-- a payload that is too long makes the one around it too long
pub long_within : (before after : List Tnet) (t : Tnet) → IsTooLong (view t) → too_many ≤ length (written_trees (trees_view (before ++ t ∷ after)))
long_within [] after t long =
    let a = length-append (written (view t)) (written_trees (trees_view after)) in
    let b = payload_in_frame (payload (view t)) (tag_of (kind_of (view t))) in
    omega (arith, long)
long_within (x ∷ before) after t long =
    let a = length-append (written (view x)) (written_trees (trees_view (before ++ t ∷ after))) in
    let b = long_within before after t long in
    omega arith

pub long_value_within : (before after : List Entry) (e : Entry) → IsTooLong (view e.1) → too_many ≤ length (written_pairs (pairs_view (before ++ e ∷ after)))
long_value_within [] after e long =
    let a = length-append (written_key (key_view e.0)) (written (view e.1) ++ written_pairs (pairs_view after)) in
    let b = length-append (written (view e.1)) (written_pairs (pairs_view after)) in
    let d = payload_in_frame (payload (view e.1)) (tag_of (kind_of (view e.1))) in
    omega (arith, long)
long_value_within (x ∷ before) after e long =
    let a = length-append (written_key (key_view x.0)) (written (view x.1) ++ written_pairs (pairs_view (before ++ e ∷ after))) in
    let b = length-append (written (view x.1)) (written_pairs (pairs_view (before ++ e ∷ after))) in
    let d = long_value_within before after e long in
    omega arith

pub all_split : {X : Type 0} (all left more pushed : List X) (x : X) → all ≡ left ++ pushed → left ≡ more ++ x ∷ [] → all ≡ more ++ x ∷ pushed
all_split {X} all left more pushed x so step = so ∙ ap (λ (l : List X). l ++ pushed) step ∙ append_assoc more (x ∷ []) pushed

pub too_long_tree : (all left more pushed : List Tnet) (t : Tnet) → all ≡ left ++ pushed → left ≡ more ++ t ∷ [] → IsTooLong (view t)
    → too_many ≤ length (written_trees (trees_view all))
too_long_tree all left more pushed t so step long =
    let P : List Tnet → Type 0 = λ l. too_many ≤ length (written_trees (trees_view l)) in
    subst P (sym (all_split all left more pushed t so step)) (long_within more pushed t long)

pub too_long_value : (all left more pushed : List Entry) (e : Entry) → all ≡ left ++ pushed → left ≡ more ++ e ∷ [] → IsTooLong (view e.1)
    → too_many ≤ length (written_pairs (pairs_view all))
too_long_value all left more pushed e so step long =
    let P : List Entry → Type 0 = λ l. too_many ≤ length (written_pairs (pairs_view l)) in
    subst P (sym (all_split all left more pushed e so step)) (long_value_within more pushed e long)

long_key_within : (before after : List Entry) (e : Entry) → too_many ≤ length e.0.bytes → too_many ≤ length (written_pairs (pairs_view (before ++ e ∷ after)))
long_key_within [] after e long =
    let a = length-append (written_key (key_view e.0)) (written (view e.1) ++ written_pairs (pairs_view after)) in
    let d = payload_in_frame e.0.bytes (tag_of (kind_of (key_tree (key_view e.0)))) in
    omega (arith, long)
long_key_within (x ∷ before) after e long =
    let a = length-append (written_key (key_view x.0)) (written (view x.1) ++ written_pairs (pairs_view (before ++ e ∷ after))) in
    let b = length-append (written (view x.1)) (written_pairs (pairs_view (before ++ e ∷ after))) in
    let d = long_key_within before after e long in
    omega arith

pub too_long_key : (all left more pushed : List Entry) (e : Entry) → all ≡ left ++ pushed → left ≡ more ++ e ∷ [] → too_many ≤ length e.0.bytes
    → too_many ≤ length (written_pairs (pairs_view all))
too_long_key all left more pushed e so step long =
    let P : List Entry → Type 0 = λ l. too_many ≤ length (written_pairs (pairs_view l)) in
    subst P (sym (all_split all left more pushed e so step)) (long_key_within more pushed e long)

-- a key and a tree in front of those that are pushed
pub pushed_entry : (out start mid new : List ℕ) (pushed : List Entry) (e : Entry) → out ≡ start ++ reverse (written_pairs (pairs_view pushed))
    → mid ≡ out ++ reverse (written (view e.1)) → new ≡ mid ++ reverse (written_key (key_view e.0))
    → new ≡ start ++ reverse (written_pairs (pairs_view (e ∷ pushed)))
pushed_entry out start mid new pushed e so value key =
    key ∙ ap (λ (l : List ℕ). l ++ reverse (written_key (key_view e.0)))
    (value ∙ ap (λ (l : List ℕ). l ++ reverse (written (view e.1))) so ∙ turned_more start (written (view e.1)) (written_pairs (pairs_view pushed)))
    ∙ turned_more start (written_key (key_view e.0)) (written (view e.1) ++ written_pairs (pairs_view pushed))
