-- Lists of two trees, and fields one by one.
use Rattle.std.proofs.Common.{◌≡◌, ◌∙◌, ℕ, suc, Bool, true, false, ◌&&◌, List, [], ◌∷◌, ◌++◌, length, get_or, refl, sym, ap, ap₂, subst, arith, ◌⊎◌, inl, inr, append-nil, Result, Ok, Err, IfErr, IsErrAnd}
use Rattle.std.proofs.lemmas.List.{append_assoc}
use Rattle.httparse.specs.Grammar.{is_token}
use Rattle.px_message.specs.Value.{is_value}
use Rattle.px_message.specs.Valid.{is_field}
use Rattle.px_tnet.specs.Tree.{Tree, list, Trees, no_tree, tree}
use Rattle.px_tnet.specs.View.{trees_view, view}
use Rattle.px_tnet.specs.declared.tree.Tnet.{Tnet}
use Rattle.px_flowfile.specs.Kind.{Kind}
use Rattle.px_flowfile.specs.Message.{AreRead, FirstIsRefused, field, field_tree}
use Rattle.px_flowfile.specs.declared.key.Key.{Key}
use Rattle.px_flowfile.specs.declared.error.FlowFileError.{FlowFileError}
use Rattle.px_flowfile.specs.declared.error.FlowFileError.TheVariants as error

abbrev count : Trees → ℕ
count no_tree = 0
count (tree t ts) = suc (count ts)

counted : (items : List Tnet) → count (trees_view items) ≡ length items
counted [] = refl
counted (t ∷ ts) = ap suc (counted ts)

abbrev trees_in : Tree → Trees
trees_in (list ts) = ts
trees_in t = no_tree

-- a list of two is of two items
pub two_long : (items : List Tnet) (t a b : Tree) → t ≡ list (trees_view items) → t ≡ list (tree a (tree b no_tree)) → length items ≡ 2
two_long items t a b is h = sym (counted items) ∙ ap (λ x. count (trees_in x)) (sym is ∙ h)

pub two_items : (items : List Tnet) (t : Tree) (x y : Tnet) → t ≡ list (trees_view items) → length items ≡ 2 → x ≡ get_or items 0 x → y ≡ get_or items 1 y
    → t ≡ list (tree (view x) (tree (view y) no_tree))
two_items [] t x y is two first second = absurd (omega arith)
two_items (a ∷ []) t x y is two first second = absurd (omega arith)
two_items (a ∷ b ∷ c ∷ rest) t x y is two first second = absurd (omega arith)
two_items (a ∷ b ∷ []) t x y is two first second =
    is ∙ sym (ap₂ (λ p q. list (tree (view p) (tree (view q) no_tree))) first second)

-- a name that is no token, and a value that ends a line
pub bad_name : (t : Tree) (n v : List ℕ) → t ≡ field_tree (n, v) → is_token n ≡ false → (f : List ℕ × List ℕ) × (t ≡ field_tree f) × (¬ (is_field f ≡ true))
bad_name t n v is bad = ((n, v), is, λ h. let e : false ≡ true = sym (ap (λ b. b && is_value v) bad) ∙ h in cc)

and_false : (b : Bool) → (b && false) ≡ false
and_false true = refl
and_false false = refl

pub bad_value : (t : Tree) (n v : List ℕ) → t ≡ field_tree (n, v) → is_value v ≡ false → (f : List ℕ × List ℕ) × (t ≡ field_tree f) × (¬ (is_field f ≡ true))
bad_value t n v is bad =
    ((n, v), is, λ h. let e : false ≡ true = sym (ap (λ b. is_token n && b) bad ∙ and_false (is_token n)) ∙ h in cc)

pub name_refused : (name : Key) (t : Tree) (n v : List ℕ) (e : FlowFileError) → t ≡ field_tree (n, v)
    → (e ≡ error.NoMemory) ⊎ ((e ≡ error.BadMessage name) × (is_token n ≡ false)) → (e ≡ error.NoMemory) ⊎ field.Refuses name t e
name_refused name t n v e is (inl full) = inl full
name_refused name t n v e is (inr bad) = inr (inr (bad.0, bad_name t n v is bad.1))

pub value_refused : (name : Key) (t : Tree) (n v : List ℕ) (e : FlowFileError) → t ≡ field_tree (n, v)
    → (e ≡ error.NoMemory) ⊎ ((e ≡ error.BadMessage name) × (is_value v ≡ false)) → (e ≡ error.NoMemory) ⊎ field.Refuses name t e
value_refused name t n v e is (inl full) = inl full
value_refused name t n v e is (inr bad) = inr (inr (bad.0, bad_value t n v is bad.1))

-- nothing is left to read
pub all_read : {A : Type 0} (kind : Kind A) (read : List A) (rest : List Tnet) (all : Trees) → length rest ≡ 0
    → ((more : List A) → AreRead kind (trees_view rest) more → AreRead kind all (read ++ more)) → AreRead kind all read
all_read kind read [] all none step = subst (λ xs. AreRead kind all xs) (append-nil read) (step [] tt)
all_read kind read (t ∷ ts) all none step = absurd (omega arith)

module _ {A : Type 0} (kind : Kind A) (all : Trees) (tree : Tnet) (rest others : List Tnet) (is : rest ≡ tree ∷ others) where
  -- one more is read, and what is left is read behind it
  pub one_read : (read next : List A) (a : A) → kind.Reads (view tree) a → next ≡ read ++ a ∷ []
      → ((more : List A) → AreRead kind (trees_view rest) more → AreRead kind all (read ++ more))
      → (more : List A) → AreRead kind (trees_view others) more → AreRead kind all (next ++ more)
  one_read read next a reads pushed step more left =
      let P : List Tnet → Type 0 = λ ts. AreRead kind (trees_view ts) (a ∷ more) in
      let Q : List A → Type 0 = λ xs. AreRead kind all xs in
      subst Q (sym (append_assoc read (a ∷ []) more) ∙ ap (λ xs. xs ++ more) (sym pushed)) (step (a ∷ more) (subst P (sym is) (reads, left)))

  -- one more is read, and the first that is refused of what is left is the first of all
  pub none_refused : (name : Key) (a : A) → kind.Reads (view tree) a
      → ((e : FlowFileError) → FirstIsRefused kind name (trees_view rest) e → FirstIsRefused kind name all e)
      → (e : FlowFileError) → FirstIsRefused kind name (trees_view others) e → FirstIsRefused kind name all e
  none_refused name a reads step e bad =
      let P : List Tnet → Type 0 = λ ts. FirstIsRefused kind name (trees_view ts) e in step e (subst P (sym is) (inr ((a, reads), bad)))

  -- one more is refused
  pub one_refused : (name : Key) (e : FlowFileError) → (e ≡ error.NoMemory) ⊎ kind.Refuses name (view tree) e
      → ((e : FlowFileError) → FirstIsRefused kind name (trees_view rest) e → FirstIsRefused kind name all e)
      → (e ≡ error.NoMemory) ⊎ FirstIsRefused kind name all e
  one_refused name e (inl full) step = inl full
  one_refused name e (inr bad) step =
      let P : List Tnet → Type 0 = λ ts. FirstIsRefused kind name (trees_view ts) e in inr (step e (subst P (sym is) (inl bad)))

-- what holds of an error holds where it is handed on
pub error_as : {T : Type 0} (r : Result T FlowFileError) (e : FlowFileError) (P : FlowFileError → Type 0) → IsErrAnd r (λ d. d ≡ e) → P e → IfErr r P
error_as (Ok _) e P is holds = tt
error_as (Err d) e P is holds = subst P (sym is) holds
