-- Fields and lines that are put one by one.
use Rattle.std.proofs.Common.{◌≡◌, ◌∙◌, ℕ, suc, ◌+◌, List, [], ◌∷◌, ◌++◌, length, take, Some, refl, sym, ap, ap₂, arith}
use Rattle.std.specs.List.{slice_get}
use Rattle.std.proofs.Math.Seq.{take-suc}
use Rattle.std.proofs.lemmas.Option.{slice_get_within, get_or_from_slice_get}
use Rattle.px_tnet.specs.Tree.{Key, Tree, Trees, no_tree, tree, Pairs, no_pair, pair}
use Rattle.px_tnet.specs.View.{pairs_view, trees_view, view}
use Rattle.px_tnet.specs.declared.tree.Tnet.{Tnet}
use Rattle.px_tnet.specs.declared.tree.TnetKey.{TnetKey}
use Rattle.px_flowfile.specs.Kind.{Kind}
use Rattle.px_flowfile.specs.Message.{row_of}
use Rattle.px_flowfile.specs.Unknown.{joined}

abbrev snoc : Trees → Tree → Trees
snoc no_tree t = tree t no_tree
snoc (tree u ts) t = tree u (snoc ts t)

view_push : (trees : List Tnet) (t : Tnet) → trees_view (trees ++ t ∷ []) ≡ snoc (trees_view trees) (view t)
view_push [] t = refl
view_push (u ∷ trees) t = ap (tree (view u)) (view_push trees t)

module _ {A : Type 0} (kind : Kind A) where
  row_push : (xs : List A) (a : A) → row_of kind (xs ++ a ∷ []) ≡ snoc (row_of kind xs) (kind.write a)
  row_push [] a = refl
  row_push (b ∷ xs) a = ap (tree (kind.write b)) (row_push xs a)

  taken : (xs : List A) (i : ℕ) (a : A) → slice_get xs i ≡ Some a → take (i + 1) xs ≡ take i xs ++ a ∷ []
  taken xs i a at =
      let next : suc i ≡ i + 1 = omega arith in
      ap (λ n. take n xs) (sym next) ∙ take-suc xs i a (slice_get_within xs i a at)
      ∙ ap (λ (b : A). take i xs ++ b ∷ []) (get_or_from_slice_get xs i a a at)

  -- the tree of one more value is put behind those of the values before it
  pub one_more : (trees new : List Tnet) (xs : List A) (i : ℕ) (a b : A) (t : Tnet) → trees_view trees ≡ row_of kind (take i xs)
      → slice_get xs i ≡ Some a → b ≡ a → view t ≡ kind.write b → new ≡ trees ++ t ∷ [] → trees_view new ≡ row_of kind (take (i + 1) xs)
  one_more trees new xs i a b t so at same is pushed =
      ap trees_view pushed ∙ view_push trees t ∙ ap₂ snoc so (is ∙ ap kind.write same) ∙ sym (row_push (take i xs) a)
      ∙ ap (row_of kind) (sym (taken xs i a at))

joined_end : (ps : Pairs) → joined ps no_pair ≡ ps
joined_end no_pair = refl
joined_end (pair k v ps) = ap (pair k v) (joined_end ps)

-- lines that were put behind nothing
pub all_put : (start done : List (TnetKey × Tnet)) (all : Pairs) → start ≡ [] → joined (pairs_view done) no_pair ≡ joined (pairs_view start) all
    → pairs_view done ≡ all
all_put start done all none h =
    sym (joined_end (pairs_view done)) ∙ h ∙ ap (λ (ps : List (TnetKey × Tnet)). joined (pairs_view ps) all) none

-- a line whose tree is another's
pub line_of : (old new : Pairs) (key : Key) (v w : Tree) → ((more : Pairs) → joined new more ≡ joined old (pair key v more)) → v ≡ w → (more : Pairs)
    → joined new more ≡ joined old (pair key w more)
line_of old new key v w puts same more = puts more ∙ ap (λ t. joined old (pair key t more)) same

-- nothing is left to put
pub rest_put : (done rest : List (TnetKey × Tnet)) (all : Pairs) → length rest ≡ 0 → joined (pairs_view done) (pairs_view rest) ≡ all
    → pairs_view done ≡ all
rest_put done [] all none so = sym (joined_end (pairs_view done)) ∙ so
rest_put done (p ∷ rest) all none so = absurd (omega arith)
