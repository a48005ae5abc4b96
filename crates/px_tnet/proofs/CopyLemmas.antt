-- Pairs that are copied one by one.
use Rattle.std.proofs.Common.{◌≡◌, ◌∙◌, ◌<◌, ◌+◌, ℕ, List, [], ◌∷◌, ◌++◌, length, take, get_or, refl, sym, ap}
use Rattle.px_tnet.specs.Tree.{Pairs, no_pair, pair}
use Rattle.px_tnet.specs.View.{key_view, pairs_view, view}
use Rattle.px_tnet.specs.declared.tree.Tnet.{Tnet}
use Rattle.px_tnet.specs.declared.tree.TnetKey.{TnetKey}
use Rattle.px_tnet.proofs.ApartLemmas.{taken_more}
use Rattle.px_tnet.proofs.DictLemmas.{Entry}

abbrev then : Pairs → Pairs → Pairs
then no_pair qs = qs
then (pair k v ps) qs = pair k v (then ps qs)

joined : (ps qs : List Entry) → pairs_view (ps ++ qs) ≡ then (pairs_view ps) (pairs_view qs)
joined [] qs = refl
joined (p ∷ ps) qs = ap (pair (key_view p.0) (view p.1)) (joined ps qs)

pub one_copied : (copies pairs : List Entry) (i : ℕ) (key : TnetKey) (t : Tnet) (e : Entry) → pairs_view copies ≡ pairs_view (take i pairs)
    → i < length pairs → e ≡ get_or pairs i e → key.text ≡ e.0.text → key.bytes ≡ e.0.bytes → view t ≡ view e.1
    → pairs_view (copies ++ (key, t) ∷ []) ≡ pairs_view (take (i + 1) pairs)
one_copied copies pairs i key t e so within is same_text same_bytes same =
    joined copies ((key, t) ∷ [])
    ∙ (λ j. then (so j) (pair (record { text = same_text j; bytes = same_bytes j }) (same j) no_pair))
    ∙ sym (joined (take i pairs) (e ∷ [])) ∙ ap pairs_view (sym (taken_more pairs i e within is))
