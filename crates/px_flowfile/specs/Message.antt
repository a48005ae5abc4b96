-- The kinds that requests and responses share: their fields, trailers and bodies.
use Rattle.std.specs.Prelude.{◌≡◌, ◌≢◌, ℕ, ◌⊎◌, Bool, true, false, List, [], ◌∷◌, codes}
use Rattle.httparse.specs.Grammar.{is_token}
use Rattle.px_message.specs.Host.{IsHost}
use Rattle.px_message.specs.Path.{is_path}
use Rattle.px_message.specs.Valid.{is_field}
use Rattle.px_message.specs.Value.{is_value}
use Rattle.px_tnet.specs.Tree.{Tree, blob, list, null, Trees, no_tree, tree}
use Rattle.px_flowfile.specs.Kind.{Kind, plain}
use Rattle.px_flowfile.specs.declared.held.Held.{Held}
use Rattle.px_flowfile.specs.declared.key.Key.{Key}
use Rattle.px_flowfile.specs.declared.error.FlowFileError.{FlowFileError}
use Rattle.px_flowfile.specs.declared.error.FlowFileError.TheVariants as error

-- a list of a name's and a value's bytes
abbrev pub field_tree : List ℕ × List ℕ → Tree
field_tree f = list (tree (blob f.0) (tree (blob f.1) no_tree))

-- a name that is a token, and a value that ends no line
abbrev pub field : Kind (List ℕ × List ℕ)
field = plain field_tree (λ f. is_field f ≡ true)

-- the trees are read as these, in order
abbrev pub AreRead : {A : Type 0} → Kind A → Trees → List A → Type 0
AreRead kind no_tree [] = Unit {0}
AreRead kind no_tree (a ∷ rest) = ⊥
AreRead kind (tree t trees) [] = ⊥
AreRead kind (tree t trees) (a ∷ rest) = kind.Reads t a × AreRead kind trees rest

-- the first of the trees that is refused, is so for that cause
abbrev pub FirstIsRefused : {A : Type 0} → Kind A → Key → Trees → FlowFileError → Type 0
FirstIsRefused kind name no_tree e = ⊥
FirstIsRefused {A} kind name (tree t trees) e =
    kind.Refuses name t e ⊎ (((a : A) × kind.Reads t a) × FirstIsRefused kind name trees e)

abbrev pub row_of : {A : Type 0} → Kind A → List A → Trees
row_of kind [] = no_tree
row_of kind (a ∷ rest) = tree (kind.write a) (row_of kind rest)

abbrev AreGood : {A : Type 0} → Kind A → List A → Type 0
AreGood kind [] = Unit {0}
AreGood kind (a ∷ rest) = kind.Good a × AreGood kind rest

-- a list of values of the kind
abbrev pub each : {A : Type 0} → Kind A → Kind (List A)
each kind = record {
  Good = AreGood kind;
  write = λ values. list (row_of kind values);
  Reads = λ t values. (trees : Trees) × (t ≡ list trees) × AreRead kind trees values;
  Refuses = λ name t e.
      ((e ≡ error.WrongKind name) × ((trees : Trees) → ¬ (t ≡ list trees)))
      ⊎ ((trees : Trees) × (t ≡ list trees) × FirstIsRefused kind name trees e);
}

-- the fields of a head, in order
abbrev pub headers : Kind (List (List ℕ × List ℕ))
headers = each field

abbrev trailers_tree : List (List ℕ × List ℕ) → Tree
trailers_tree [] = null
trailers_tree (f ∷ fields) = headers.write (f ∷ fields)

-- the fields behind a body, or nothing where there are none
abbrev pub trailers : Kind (List (List ℕ × List ℕ))
trailers = record {
  Good = headers.Good;
  write = trailers_tree;
  Reads = λ t fields. ((t ≡ null) × (fields ≡ [])) ⊎ headers.Reads t fields;
  Refuses = λ name t e. (¬ (t ≡ null)) × headers.Refuses name t e;
}

abbrev content_tree : Bool → List ℕ → Tree
content_tree true body = null
content_tree false body = blob body

-- the body, or nothing where it passed by
abbrev pub content : Kind Held
content = record {
  Good = λ held. held.streamed ≡ true → held.body ≡ [];
  write = λ held. content_tree held.streamed held.body;
  Reads = λ t held. ((t ≡ null) × (held.streamed ≡ true) × (held.body ≡ [])) ⊎ ((t ≡ blob held.body) × (held.streamed ≡ false));
  Refuses = λ name t e. (e ≡ error.WrongKind name) × (¬ (t ≡ null)) × ((b : List ℕ) → ¬ (t ≡ blob b));
}

-- a method is a token and no CONNECT, which asks for a tunnel
abbrev pub IsMethod : List ℕ → Type 0
IsMethod name = (is_token name ≡ true) × (name ≢ codes "CONNECT")

abbrev pub method : Kind (List ℕ)
method = plain blob IsMethod

abbrev pub host : Kind (List ℕ)
host = plain blob IsHost

abbrev pub path : Kind (List ℕ)
path = plain blob (λ p. is_path p ≡ true)

abbrev pub reason : Kind (List ℕ)
reason = plain blob (λ v. is_value v ≡ true)
