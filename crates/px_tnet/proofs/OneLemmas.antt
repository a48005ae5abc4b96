-- A text begins with one item at most, or has one refusal, and never both.
use Rattle.std.proofs.Common.{◌≡◌, ◌∙◌, ◌<◌, ◌==◌, ℕ, zero, suc, Bool, true, false, if◌then◌else◌, List, [], ◌∷◌, ◌++◌, length, length-append, decimal, refl, sym, ap, ap₂, subst, arith, inl, inr}
use Rattle.std.proofs.lemmas.Fmt.{signed_decimal_injective}
use Rattle.px_tnet.specs.Frame.{colon, framed}
use Rattle.px_tnet.specs.Items.{First, IsItem, IsRefused, ItemOf, Joins, RefusalOf, Refusing, Within, inside}
use Rattle.px_tnet.specs.Kinds.{AreApart, Holds, Lacks, tag_of, truth}
use Rattle.px_tnet.specs.Tree.{Key, Tree, blob, int, float, bool, null, list, dict, Trees, no_tree, tree, Pairs, no_pair, pair, in_turn, key_tree, keys}
use Rattle.px_tnet.specs.Tree as of
use Rattle.px_tnet.specs.declared.kind.Kind.{Kind}
use Rattle.px_tnet.specs.declared.kind.Kind.TheVariants as kind
use Rattle.px_tnet.specs.declared.error.TnetError.{TnetError}
use Rattle.px_tnet.proofs.FrameLemmas.{cut_not_bad, framed_not_bad, framed_not_cut, one_frame}

abbrev kind_at : ℕ → Kind
kind_at tag =
    if tag == 44 then kind.Blob else if tag == 59 then kind.Text else if tag == 35 then kind.Int else if tag == 94 then kind.Float
    else if tag == 33 then kind.Bool else if tag == 126 then kind.Null else if tag == 93 then kind.List else kind.Dict

kind_at-tag_of : (k : Kind) → kind_at (tag_of k) ≡ k
kind_at-tag_of kind.Blob = refl
kind_at-tag_of kind.Text = refl
kind_at-tag_of kind.Int = refl
kind_at-tag_of kind.Float = refl
kind_at-tag_of kind.Bool = refl
kind_at-tag_of kind.Null = refl
kind_at-tag_of kind.List = refl
kind_at-tag_of kind.Dict = refl

one_kind : (k l : Kind) → tag_of k ≡ tag_of l → k ≡ l
one_kind k l h = sym (kind_at-tag_of k) ∙ ap kind_at h ∙ kind_at-tag_of l

one_truth : (a b : Bool) → truth a ≡ truth b → a ≡ b
one_truth true true h = refl
one_truth false false h = refl
one_truth true false h = absurd (let l = ap length h in omega arith)
one_truth false true h = absurd (let l = ap length h in omega arith)

abbrev bytes_of : Tree → List ℕ
bytes_of (blob b) = b
bytes_of (of.text b) = b
bytes_of t = []

abbrev is_text : Tree → Bool
is_text (of.text b) = true
is_text t = false

one_key_by : (a b : Bool) (xs ys : List ℕ) → (if a then of.text xs else blob xs) ≡ (if b then of.text ys else blob ys) → (a ≡ b) × (xs ≡ ys)
one_key_by true true xs ys h = (refl, ap bytes_of h)
one_key_by false false xs ys h = (refl, ap bytes_of h)
one_key_by true false xs ys h = absurd (let e = ap is_text h in cc)
one_key_by false true xs ys h = absurd (let e = ap is_text h in cc)

one_key : (k l : Key) → key_tree k ≡ key_tree l → k ≡ l
one_key k l h = let e = one_key_by k.text l.text k.bytes l.bytes h in λ i. record { text = e.0 i; bytes = e.1 i }

abbrev first_tree : Trees → Tree
first_tree no_tree = null
first_tree (tree t ts) = t

abbrev rest_trees : Trees → Trees
rest_trees no_tree = no_tree
rest_trees (tree t ts) = ts

abbrev is_none : Trees → Bool
is_none no_tree = true
is_none (tree t ts) = false

pub one_in_turn : (ps qs : Pairs) → in_turn ps ≡ in_turn qs → ps ≡ qs
one_in_turn no_pair no_pair h = refl
one_in_turn no_pair (pair k v qs) h = absurd (let e = ap is_none h in cc)
one_in_turn (pair k v ps) no_pair h = absurd (let e = ap is_none h in cc)
one_in_turn (pair k v ps) (pair l w qs) h =
    let key = one_key k l (ap first_tree h) in
    let value = ap (λ ts. first_tree (rest_trees ts)) h in
    let rest = one_in_turn ps qs (ap (λ ts. rest_trees (rest_trees ts)) h) in
    λ i. pair (key i) (value i) (rest i)

-- which trees a payload joins, and which refusal is its first
pub record Sure (W : Trees → List ℕ → Type 0) (F : Refusing) : Type 0 where
  pub one : (ts us : Trees) (p : List ℕ) → W ts p → W us p → ts ≡ us
  pub never : (ts : Trees) (p : List ℕ) (c : TnetError) → W ts p → F p c → ⊥
  pub cause : (p : List ℕ) (c d : TnetError) → F p c → F p d → c ≡ d

module _ (W : Trees → List ℕ → Type 0) (F : Refusing) (sure : Sure W F) where
  one_holds : (k : Kind) (p : List ℕ) (t u : Tree) → Holds W k p t → Holds W k p u → t ≡ u
  one_holds kind.Blob p t u h g = h ∙ sym g
  one_holds kind.Text p t u h g = h.1 ∙ sym g.1
  one_holds kind.Int p t u h g = h.2 ∙ ap int (signed_decimal_injective h.0 g.0 h.1.0 g.1.0 (sym h.1.1 ∙ g.1.1)) ∙ sym g.2
  one_holds kind.Float p t u h g = h ∙ sym g
  one_holds kind.Bool p t u h g = h.2 ∙ ap bool (one_truth h.0 g.0 (sym h.1 ∙ g.1)) ∙ sym g.2
  one_holds kind.Null p t u h g = h.1 ∙ sym g.1
  one_holds kind.List p t u h g = h.2 ∙ ap list (sure.one h.0 g.0 p h.1 g.1) ∙ sym g.2
  one_holds kind.Dict p t u h g = h.3 ∙ ap dict (one_in_turn h.0 g.0 (sure.one (in_turn h.0) (in_turn g.0) p h.1 g.1)) ∙ sym g.3

  apart_along : (ps qs : Pairs) → ps ≡ qs → AreApart (keys ps) → AreApart (keys qs)
  apart_along ps qs e h = let P : Pairs → Type 0 = λ x. AreApart (keys x) in subst P e h

  lacks_not_holds : (k : Kind) (p : List ℕ) (t : Tree) (c : TnetError) → Holds W k p t → Lacks W F k p c → ⊥
  lacks_not_holds kind.Blob p t c h l = l
  lacks_not_holds kind.Text p t c h l = l.1 h.0
  lacks_not_holds kind.Int p t c h l = l.1 h.0 h.1
  lacks_not_holds kind.Float p t c h l = l
  lacks_not_holds kind.Bool p t c h l = l.1 h.0 h.1
  lacks_not_holds kind.Null p t c h l = l.1 h.0
  lacks_not_holds kind.List p t c h l = sure.never h.0 p c h.1 l
  lacks_not_holds kind.Dict p t c h (inl first) = sure.never (in_turn h.0) p c h.1 first
  lacks_not_holds kind.Dict p t c h (inr (inl odd)) = odd.3 h.0 (sure.one odd.0 (in_turn h.0) p odd.1 h.1)
  lacks_not_holds kind.Dict p t c h (inr (inr twins)) =
      twins.3 (apart_along h.0 twins.0 (one_in_turn h.0 twins.0 (sure.one (in_turn h.0) (in_turn twins.0) p h.1 twins.1)) h.2)

  one_lack : (k : Kind) (p : List ℕ) (c d : TnetError) → Lacks W F k p c → Lacks W F k p d → c ≡ d
  one_lack kind.Blob p c d h g = absurd h
  one_lack kind.Text p c d h g = h.0 ∙ sym g.0
  one_lack kind.Int p c d h g = h.0 ∙ sym g.0
  one_lack kind.Float p c d h g = absurd h
  one_lack kind.Bool p c d h g = h.0 ∙ sym g.0
  one_lack kind.Null p c d h g = h.0 ∙ sym g.0
  one_lack kind.List p c d h g = sure.cause p c d h g
  one_lack kind.Dict p c d (inl h) (inl g) = sure.cause p c d h g
  one_lack kind.Dict p c d (inl h) (inr (inl g)) = absurd (sure.never g.0 p c g.1 h)
  one_lack kind.Dict p c d (inl h) (inr (inr g)) = absurd (sure.never (in_turn g.0) p c g.1 h)
  one_lack kind.Dict p c d (inr (inl h)) (inl g) = absurd (sure.never h.0 p d h.1 g)
  one_lack kind.Dict p c d (inr (inl h)) (inr (inl g)) = h.2 ∙ sym g.2
  one_lack kind.Dict p c d (inr (inl h)) (inr (inr g)) = absurd (h.3 g.0 (sure.one h.0 (in_turn g.0) p h.1 g.1))
  one_lack kind.Dict p c d (inr (inr h)) (inl g) = absurd (sure.never (in_turn h.0) p d h.1 g)
  one_lack kind.Dict p c d (inr (inr h)) (inr (inl g)) = absurd (g.3 h.0 (sure.one g.0 (in_turn h.0) p g.1 h.1))
  one_lack kind.Dict p c d (inr (inr h)) (inr (inr g)) = h.2 ∙ sym g.2

  pub one_item : (t u : Tree) (text r s : List ℕ) → ItemOf W t text r → ItemOf W u text s → (t ≡ u) × (r ≡ s)
  one_item t u text r s h g =
      let f = one_frame h.1 g.1 (tag_of h.0) (tag_of g.0) r s text h.2 g.2 in
      let same = one_kind h.0 g.0 f.1 in
      let P : Kind → Type 0 = λ k. Holds W k g.1 u in
      let Q : List ℕ → Type 0 = λ p. Holds W h.0 p u in
      (one_holds h.0 h.1 t u h.3 (subst Q (sym f.0) (subst P (sym same) g.3)), f.2)

  pub never_both : (t : Tree) (text r : List ℕ) (c : TnetError) → ItemOf W t text r → RefusalOf W F text c → ⊥
  never_both t text r c h (inl cut) = framed_not_cut h.1 (tag_of h.0) r text h.2 cut.1
  never_both t text r c h (inr (inl bad)) = framed_not_bad h.1 (tag_of h.0) r text h.2 bad.1
  never_both t text r c h (inr (inr g)) =
      let f = one_frame h.1 g.0 (tag_of h.0) g.1 r g.2 text h.2 g.3 in
      elim g.4 [
        | inl none ↦ none.1 h.0 (sym f.1)
        | inr lack ↦ (
            let same = one_kind h.0 lack.0 (f.1 ∙ lack.1) in
            let P : Kind → Type 0 = λ k. Lacks W F k g.0 c in
            let Q : List ℕ → Type 0 = λ p. Lacks W F h.0 p c in
            lacks_not_holds h.0 h.1 t c h.3 (subst Q (sym f.0) (subst P (sym same) lack.2)))
      ]

  pub one_refusal : (text : List ℕ) (c d : TnetError) → RefusalOf W F text c → RefusalOf W F text d → c ≡ d
  one_refusal text c d (inl h) (inl g) = h.0 ∙ sym g.0
  one_refusal text c d (inl h) (inr (inl g)) = absurd (cut_not_bad text h.1 g.1)
  one_refusal text c d (inl h) (inr (inr g)) = absurd (framed_not_cut g.0 g.1 g.2 text g.3 h.1)
  one_refusal text c d (inr (inl h)) (inl g) = absurd (cut_not_bad text g.1 h.1)
  one_refusal text c d (inr (inl h)) (inr (inl g)) = h.0 ∙ sym g.0
  one_refusal text c d (inr (inl h)) (inr (inr g)) = absurd (framed_not_bad g.0 g.1 g.2 text g.3 h.1)
  one_refusal text c d (inr (inr h)) (inl g) = absurd (framed_not_cut h.0 h.1 h.2 text h.3 g.1)
  one_refusal text c d (inr (inr h)) (inr (inl g)) = absurd (framed_not_bad h.0 h.1 h.2 text h.3 g.1)
  one_refusal text c d (inr (inr h)) (inr (inr g)) =
      let f = one_frame h.0 g.0 h.1 g.1 h.2 g.2 text h.3 g.3 in
      elim h.4 [
        | inl a ↦ elim g.4 [ inl b ↦ a.0 ∙ sym b.0 | inr b ↦ absurd (a.1 b.0 (f.1 ∙ b.1)) ]
        | inr a ↦ elim g.4 [
          | inl b ↦ absurd (b.1 a.0 (sym f.1 ∙ a.1))
          | inr b ↦ (
              let same = one_kind a.0 b.0 (sym a.1 ∙ f.1 ∙ b.1) in
              let P : Kind → Type 0 = λ k. Lacks W F k g.0 d in
              let Q : List ℕ → Type 0 = λ p. Lacks W F a.0 p d in
              one_lack a.0 h.0 c d a.2 (subst Q (sym f.0) (subst P (sym same) b.2)))
        ]
      ]

takes : (W : Trees → List ℕ → Type 0) (t : Tree) (text rest : List ℕ) → ItemOf W t text rest → length rest < length text
takes W t text rest h =
    let l = ap length h.2.1 ∙ length-append (framed h.1 (tag_of h.0)) rest in
    let s = length-append (decimal (length h.1)) (colon ∷ (h.1 ++ (tag_of h.0 ∷ []))) in
    omega arith

module _ (W : Trees → List ℕ → Type 0) (F : Refusing) (sure : Sure W F) where
  one_joined : (ts us : Trees) (text : List ℕ) → Joins (ItemOf W) ts text [] → Joins (ItemOf W) us text [] → ts ≡ us
  one_joined no_tree no_tree text h g = refl
  one_joined no_tree (tree u us) text h g = absurd (let l = takes W u text g.0 g.1 in let m = ap length h in omega arith)
  one_joined (tree t ts) no_tree text h g = absurd (let l = takes W t text h.0 h.1 in let m = ap length g in omega arith)
  one_joined (tree t ts) (tree u us) text h g =
      let o = one_item W F sure t u text h.0 g.0 h.1 g.1 in
      let P : List ℕ → Type 0 = λ x. Joins (ItemOf W) us x [] in
      ap₂ (λ x xs. tree x xs) o.0 (one_joined ts us h.0 h.2 (subst P (sym o.1) g.2))

  joined_not_refused : (ts before : Trees) (text rest : List ℕ) (own : TnetError) → Joins (ItemOf W) ts text [] → Joins (ItemOf W) before text rest
      → ¬ (rest ≡ []) → RefusalOf W F rest own → ⊥
  joined_not_refused no_tree no_tree text rest own h b some refused = some (sym b ∙ h)
  joined_not_refused no_tree (tree u us) text rest own h b some refused = absurd (let l = takes W u text b.0 b.1 in let m = ap length h in omega arith)
  joined_not_refused (tree t ts) no_tree text rest own h b some refused =
      let P : List ℕ → Type 0 = λ x. RefusalOf W F x own in
      never_both W F sure t text h.0 own h.1 (subst P (sym b) refused)
  joined_not_refused (tree t ts) (tree u us) text rest own h b some refused =
      let o = one_item W F sure t u text h.0 b.0 h.1 b.1 in
      let P : List ℕ → Type 0 = λ x. Joins (ItemOf W) us x rest in
      joined_not_refused ts us h.0 rest own h.2 (subst P (sym o.1) b.2) some refused

  one_first : (bs cs : Trees) (text r s : List ℕ) (c d : TnetError) → Joins (ItemOf W) bs text r → RefusalOf W F r c → Joins (ItemOf W) cs text s
      → RefusalOf W F s d → c ≡ d
  one_first no_tree no_tree text r s c d h x g y =
      let P : List ℕ → Type 0 = λ l. RefusalOf W F l d in
      one_refusal W F sure r c d x (subst P (sym g ∙ h) y)
  one_first no_tree (tree u us) text r s c d h x g y =
      let P : List ℕ → Type 0 = λ l. RefusalOf W F l c in
      absurd (never_both W F sure u text g.0 c g.1 (subst P (sym h) x))
  one_first (tree t ts) no_tree text r s c d h x g y =
      let P : List ℕ → Type 0 = λ l. RefusalOf W F l d in
      absurd (never_both W F sure t text h.0 d h.1 (subst P (sym g) y))
  one_first (tree t ts) (tree u us) text r s c d h x g y =
      let o = one_item W F sure t u text h.0 g.0 h.1 g.1 in
      let P : List ℕ → Type 0 = λ l. Joins (ItemOf W) us l s in
      one_first ts us h.0 r s c d h.2 x (subst P (sym o.1) g.2) y

sure : (depth : ℕ) → Sure (Within depth) (First depth)
sure zero = record { one = λ ts us p h g. absurd h; never = λ ts p c h g. h; cause = λ p c d h g. h ∙ sym g }
sure (suc depth) =
    let below = sure depth in record {
      one = λ ts us p h g. one_joined (Within depth) (First depth) below ts us p h g;
      never = λ ts p c h g. joined_not_refused (Within depth) (First depth) below ts g.0 p g.1 g.2 h g.3 g.4 g.5;
      cause = λ p c d h g. h.6 ∙ ap inside (one_first (Within depth) (First depth) below h.0 g.0 p h.1 g.1 h.2 g.2 h.3 h.5 g.3 g.5) ∙ sym g.6;
    }

pub one_tree : (depth : ℕ) (t u : Tree) (text r s : List ℕ) → IsItem depth t text r → IsItem depth u text s → (t ≡ u) × (r ≡ s)
one_tree depth t u text r s h g = one_item (Within depth) (First depth) (sure depth) t u text r s h g

pub read_or_refused : (depth : ℕ) (t : Tree) (text r : List ℕ) (c : TnetError) → IsItem depth t text r → ¬ (IsRefused depth text c)
read_or_refused depth t text r c h g = never_both (Within depth) (First depth) (sure depth) t text r c h g

pub one_cause : (depth : ℕ) (text : List ℕ) (c d : TnetError) → IsRefused depth text c → IsRefused depth text d → c ≡ d
one_cause depth text c d h g = one_refusal (Within depth) (First depth) (sure depth) text c d h g
