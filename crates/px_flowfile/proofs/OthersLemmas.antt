-- Pairs that are kept one by one.
use Rattle.std.proofs.Common.{◌≡◌, ◌∙◌, ℕ, zero, suc, Bool, true, false, List, [], ◌∷◌, ◌++◌, length, refl, sym, ap, subst, arith, if◌then◌else◌}
use Rattle.std.specs.List.{Contains}
use Rattle.px_tnet.specs.Items.{most_deep}
use Rattle.px_tnet.specs.Kinds.{AreApart}
use Rattle.px_tnet.specs.Tree.{Key, Tree, dict, Pairs, no_pair, pair, keys}
use Rattle.px_tnet.specs.View.{key_view, pairs_view, view}
use Rattle.px_tnet.specs.declared.tree.Tnet.{Tnet}
use Rattle.px_tnet.specs.declared.tree.TnetKey.{TnetKey}
use Rattle.px_flowfile.specs.FlowTable.{is_known, unknown}
use Rattle.px_tnet.specs.Written.{AreSoundPairs, IsSound}
use Rattle.px_flowfile.specs.Unknown.{AreOthers, AreUnknown, joined}

joined_push : (done : List (TnetKey × Tnet)) (key : TnetKey) (t : Tnet) (more : Pairs)
    → joined (pairs_view (done ++ (key, t) ∷ [])) more ≡ joined (pairs_view done) (pair (key_view key) (view t) more)
joined_push [] key t more = refl
joined_push (p ∷ done) key t more = ap (pair (key_view p.0) (view p.1)) (joined_push done key t more)

pub joined_end : (ps : Pairs) → joined ps no_pair ≡ ps
joined_end no_pair = refl
joined_end (pair k v ps) = ap (pair k v) (joined_end ps)

-- a copy of a pair is put at the end
pub one_kept : (done after : List (TnetKey × Tnet)) (key old : TnetKey) (t was : Tnet) → after ≡ done ++ (key, t) ∷ [] → key.text ≡ old.text
    → key.bytes ≡ old.bytes → view t ≡ view was → (more : Pairs)
    → joined (pairs_view after) more ≡ joined (pairs_view done) (pair (key_view old) (view was) more)
one_kept done after key old t was pushed same_text same_bytes same more =
    ap (λ ps. joined (pairs_view ps) more) pushed ∙ joined_push done key t more
    ∙ (λ j. joined (pairs_view done) (pair (record { text = same_text j; bytes = same_bytes j }) (same j) more))

-- nothing is left to look at
pub all_kept : (kept rest : List (TnetKey × Tnet)) (all : Pairs) → length rest ≡ 0 → joined (pairs_view kept) (unknown (pairs_view rest)) ≡ all
    → pairs_view kept ≡ all
all_kept kept [] all none so = sym (joined_end (pairs_view kept)) ∙ so
all_kept kept (p ∷ rest) all none so = absurd (omega arith)

not_in_more : (ks : List (List ℕ)) (k other : List ℕ) → ¬ (Contains (other ∷ ks) k) → ¬ (Contains ks k)
not_in_more ks k other lacks h = lacks (suc h.0, omega (arith, h.1), h.2)

in_either : (ks ls : List (List ℕ)) (k other : List ℕ) → ¬ (Contains (other ∷ ks) k) → ¬ (Contains ls k) → ¬ (Contains (other ∷ ls) k)
in_either ks ls k other lacks none (zero, less, same) = lacks (zero, omega arith, same)
in_either ks ls k other lacks none (suc n, less, same) = none (n, omega arith, same)

by_test : (P : Pairs → Type 0) (a b : Pairs) (test : Bool) → (test ≡ true → P a) → (test ≡ false → P b) → P (if test then a else b)
by_test P a b true keep other = keep refl
by_test P a b false keep other = other refl

-- a pair is kept exactly where its key is unknown
kept_or_not : (P : Pairs → Type 0) (key : Key) (v : Tree) (ps : Pairs) → P (unknown ps) → (is_known key.bytes ≡ false → P (pair key v (unknown ps)))
    → P (unknown (pair key v ps))
kept_or_not P key v ps known other = by_test P (unknown ps) (pair key v (unknown ps)) (is_known key.bytes) (λ _. known) other

not_in_unknown : (ps : Pairs) (k : List ℕ) → ¬ (Contains (keys ps) k) → ¬ (Contains (keys (unknown ps)) k)
not_in_unknown no_pair k lacks = lacks
not_in_unknown (pair key v ps) k lacks =
    let rest = not_in_unknown ps k (not_in_more (keys ps) k key.bytes lacks) in
    kept_or_not (λ qs. ¬ (Contains (keys qs) k)) key v ps rest (λ _. in_either (keys ps) (keys (unknown ps)) k key.bytes lacks rest)

unknown_apart : (ps : Pairs) → AreApart (keys ps) → AreApart (keys (unknown ps))
unknown_apart no_pair h = tt
unknown_apart (pair key v ps) h =
    let rest = unknown_apart ps h.1 in
    kept_or_not (λ qs. AreApart (keys qs)) key v ps rest (λ _. (not_in_unknown ps key.bytes h.0, rest))

unknown_sound : (ps : Pairs) (depth : ℕ) → AreSoundPairs ps depth → AreSoundPairs (unknown ps) depth
unknown_sound no_pair depth h = tt
unknown_sound (pair key v ps) depth h =
    let rest = unknown_sound ps depth h.2 in
    kept_or_not (λ qs. AreSoundPairs qs depth) key v ps rest (λ _. (h.0, h.1, rest))

unknown_unknown : (ps : Pairs) → AreUnknown (unknown ps)
unknown_unknown no_pair = tt
unknown_unknown (pair key v ps) =
    let rest = unknown_unknown ps in
    kept_or_not AreUnknown key v ps rest (λ other. (other, rest))

-- the unknown pairs of a dictionary that was read may stand behind a flow's own
pub unknown_are_others : (ps : Pairs) → IsSound (dict ps) most_deep → AreOthers (unknown ps)
unknown_are_others ps h =
    record { unknown = unknown_unknown ps; apart = unknown_apart ps h.1; sound = unknown_sound ps 63 h.2 }

pub kept_are_others : (kept seen all : List (TnetKey × Tnet)) → seen ≡ all → pairs_view kept ≡ unknown (pairs_view seen)
    → IsSound (dict (pairs_view all)) most_deep → AreOthers (pairs_view kept)
kept_are_others kept seen all same are sound =
    let so : pairs_view kept ≡ unknown (pairs_view all) = are ∙ ap (λ ps. unknown (pairs_view ps)) same in
    subst AreOthers (sym so) (unknown_are_others (pairs_view all) sound)
