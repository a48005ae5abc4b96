-- Items one behind the other.
use Rattle.std.proofs.Common.{◌≡◌, ◌∙◌, ◌<◌, ℕ, List, [], ◌∷◌, ◌++◌, length, length-append, decimal, zero, suc, ◌-◌, refl, sym, ap, subst, arith}
use Rattle.px_tnet.specs.Frame.{colon, framed}
use Rattle.px_tnet.specs.Items.{First, FirstRefused, IsItem, IsRefused, Joins, Reading, Within}
use Rattle.px_tnet.specs.Tree.{Trees}
use Rattle.px_tnet.specs.declared.error.TnetError.{TnetError}
use Rattle.px_tnet.specs.Kinds.{tag_of}
use Rattle.px_tnet.specs.View.{trees_view, view}
use Rattle.px_tnet.specs.declared.tree.Tnet.{Tnet}

pub joins_push : (R : Reading) (ts : List Tnet) (t : Tnet) (text middle rest : List ℕ) → Joins R (trees_view ts) text middle → R (view t) middle rest
    → Joins R (trees_view (ts ++ t ∷ [])) text rest
joins_push R [] t text middle rest joins item = (rest, subst (λ x. R (view t) x rest) (sym joins) item, refl)
joins_push R (x ∷ ts) t text middle rest joins item = (joins.0, joins.1, joins_push R ts t joins.0 middle rest joins.2 item)

-- a frame has a tag at least
framed_is_some : (payload : List ℕ) (tag : ℕ) → 0 < length (framed payload tag)
framed_is_some payload tag =
    let a = length-append (decimal (length payload)) (colon ∷ (payload ++ (tag ∷ []))) in
    omega arith

pub item_takes : (depth : ℕ) (t : Tnet) (text rest : List ℕ) → IsItem depth (view t) text rest → length rest < length text
item_takes depth t text rest h =
    let l = ap length (h.2.1) ∙ length-append (framed h.1 (tag_of h.0)) rest in
    let s = framed_is_some h.1 (tag_of h.0) in
    omega arith

-- one list or dictionary less may stand around the items
pub within_deeper : (depth : ℕ) (trees : Trees) (payload : List ℕ) → ¬ (depth ≡ 0) → Joins (IsItem (depth - 1)) trees payload [] → Within depth trees payload
within_deeper zero trees payload some joins = absurd (some refl)
within_deeper (suc depth) trees payload some joins =
    let e : suc depth - 1 ≡ depth = omega arith in
    let P : ℕ → Type 0 = λ d. Joins (IsItem d) trees payload [] in
    subst P e joins

pub first_deeper : (depth : ℕ) (payload : List ℕ) (cause : TnetError) → ¬ (depth ≡ 0)
    → FirstRefused (IsItem (depth - 1)) (IsRefused (depth - 1)) payload cause → First depth payload cause
first_deeper zero payload cause some first = absurd (some refl)
first_deeper (suc depth) payload cause some first =
    let e : suc depth - 1 ≡ depth = omega arith in
    let P : ℕ → Type 0 = λ d. FirstRefused (IsItem d) (IsRefused d) payload cause in
    subst P e first
