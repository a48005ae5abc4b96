-- Kinds of values: how a value is written as a tree, which trees are read as which value, and why a tree is refused.
use Rattle.std.specs.Prelude.{◌≡◌, ◌⊎◌, Option, Some, None}
use Rattle.px_tnet.specs.Tree.{Tree, null}
use Rattle.px_flowfile.specs.declared.key.Key.{Key}
use Rattle.px_flowfile.specs.declared.error.FlowFileError.{FlowFileError}
use Rattle.px_flowfile.specs.declared.error.FlowFileError.TheVariants as error

pub record Kind (A : Type 0) : Type 1 where
  -- the values that come back from their trees
  pub Good : A → Type 0
  -- the tree of a value
  pub write : A → Tree
  -- the tree is read as the value
  pub Reads : Tree → A → Type 0
  -- the tree under that key is refused for that cause
  pub Refuses : Key → Tree → FlowFileError → Type 0

-- values of one shape of tree, which are what stands in it; some of them are good
abbrev pub plain : {A : Type 0} → (A → Tree) → (A → Type 0) → Kind A
plain {A} shape Good = record {
  Good = Good;
  write = shape;
  Reads = λ t a. (t ≡ shape a) × Good a;
  Refuses = λ name t e.
      ((e ≡ error.WrongKind name) × ((a : A) → ¬ (t ≡ shape a)))
      ⊎ ((e ≡ error.BadMessage name) × ((a : A) × (t ≡ shape a) × (¬ (Good a))));
}

-- values of one shape of tree in which they are shown; some of them are good
abbrev pub shown : {A B : Type 0} → (B → Tree) → (A → B) → (A → Type 0) → Kind A
shown {A} {B} shape show Good = record {
  Good = Good;
  write = λ a. shape (show a);
  Reads = λ t a. (t ≡ shape (show a)) × Good a;
  Refuses = λ name t e.
      ((e ≡ error.WrongKind name) × ((b : B) → ¬ (t ≡ shape b)))
      ⊎ ((e ≡ error.BadMessage name) × ((b : B) × (t ≡ shape b) × ((a : A) → Good a → ¬ (b ≡ show a))));
}

abbrev written_or_null : {A : Type 0} → Kind A → Option A → Tree
written_or_null kind None = null
written_or_null kind (Some a) = kind.write a

abbrev ReadsOrNull : {A : Type 0} → Kind A → Tree → Option A → Type 0
ReadsOrNull kind t None = t ≡ null
ReadsOrNull kind t (Some a) = kind.Reads t a

abbrev IsGoodOrNone : {A : Type 0} → Kind A → Option A → Type 0
IsGoodOrNone kind None = Unit {0}
IsGoodOrNone kind (Some a) = kind.Good a

-- the value, or nothing
abbrev pub or_null : {A : Type 0} → Kind A → Kind (Option A)
or_null kind = record {
  Good = IsGoodOrNone kind;
  write = written_or_null kind;
  Reads = ReadsOrNull kind;
  Refuses = λ name t e. (¬ (t ≡ null)) × kind.Refuses name t e;
}
