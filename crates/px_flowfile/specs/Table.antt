-- Dictionaries as tables: a line for each key, with the kind of its value and what of the whole it holds. Writer and reader go by
-- one table.
use Rattle.std.specs.Prelude.{◌≡◌, ℕ, ◌⊎◌, List, [], ◌∷◌, true, bytes_eq, if◌then◌else◌, Option, Some, None, IsSomeAnd}
use Rattle.px_tnet.specs.Tree.{Key, Tree, dict, Pairs, no_pair, pair}
use Rattle.px_flowfile.specs.Keys.{name_of}
use Rattle.px_flowfile.specs.Kind.{Kind}
use Rattle.px_flowfile.specs.declared.key.Key as of
use Rattle.px_flowfile.specs.declared.error.FlowFileError.{FlowFileError}
use Rattle.px_flowfile.specs.declared.error.FlowFileError.TheVariants as error

-- the tree under the key of that name, whether bytes or a text
abbrev pub lookup : List ℕ → Pairs → Option Tree
lookup name no_pair = None
lookup name (pair key value pairs) = if bytes_eq key.bytes name then Some value else lookup name pairs

-- a line of the table of `S`
pub record Line (S : Type 0) : Type 1 where
  pub key : of.Key
  -- what the whole holds comes back from its tree
  pub IsGood : S → Type 0
  -- the tree that is written under the key
  pub write : S → Tree
  -- what stands under the key is read as what the whole holds
  pub Reads : Pairs → S → Type 0
  -- what stands under the key is read as some value
  pub IsRead : Pairs → Type 0
  -- the key is missing, or what stands under it is refused
  pub Refuses : Pairs → FlowFileError → Type 0

-- what stands under the key is read as the value
abbrev pub ReadsAt : {A : Type 0} → of.Key → Kind A → Pairs → A → Type 0
ReadsAt key kind pairs a = IsSomeAnd (lookup (name_of key) pairs) (λ t. kind.Reads t a)

-- the key is missing, or what stands under it is refused
abbrev pub RefusesAt : {A : Type 0} → of.Key → Kind A → Pairs → FlowFileError → Type 0
RefusesAt key kind pairs e =
    ((e ≡ error.MissingKey key) × (lookup (name_of key) pairs ≡ None))
    ⊎ IsSomeAnd (lookup (name_of key) pairs) (λ t. kind.Refuses key t e)

-- the line of a key, of a kind, and of what the whole holds there
abbrev pub line : {S A : Type 0} → of.Key → Kind A → (S → A) → Line S
line {S} {A} key kind get = record {
  key = key;
  IsGood = λ s. kind.Good (get s);
  write = λ s. kind.write (get s);
  Reads = λ pairs s. ReadsAt key kind pairs (get s);
  IsRead = λ pairs. (a : A) × ReadsAt key kind pairs a;
  Refuses = RefusesAt key kind;
}

-- the key of a line, as it is written
abbrev pub text_key : of.Key → Key
text_key key = record { text = true; bytes = name_of key }

-- the lines in order, each key a text, with more pairs behind them
abbrev pub lines : {S : Type 0} → List (Line S) → S → Pairs → Pairs
lines [] s behind = behind
lines (l ∷ table) s behind = pair (text_key l.key) (l.write s) (lines table s behind)

-- each key is there, in whatever order, and is read as what the whole holds; other keys are read over
abbrev pub Meets : {S : Type 0} → List (Line S) → Pairs → S → Type 0
Meets [] pairs s = Unit {0}
Meets (l ∷ table) pairs s = l.Reads pairs s × Meets table pairs s

-- the first line, in the order of the table, whose key is missing or refused, is so for that cause
abbrev pub IsRefusedBy : {S : Type 0} → List (Line S) → Pairs → FlowFileError → Type 0
IsRefusedBy [] pairs e = ⊥
IsRefusedBy (l ∷ table) pairs e = l.Refuses pairs e ⊎ (l.IsRead pairs × IsRefusedBy table pairs e)

-- what each line holds comes back from its tree
abbrev pub IsGoodBy : {S : Type 0} → List (Line S) → S → Type 0
IsGoodBy [] s = Unit {0}
IsGoodBy (l ∷ table) s = l.IsGood s × IsGoodBy table s

-- a dictionary by a table
abbrev pub dictionary : {S : Type 0} → List (Line S) → Kind S
dictionary {S} table = record {
  Good = IsGoodBy table;
  write = λ s. dict (lines table s no_pair);
  Reads = λ t s. (pairs : Pairs) × (t ≡ dict pairs) × Meets table pairs s;
  Refuses = λ name t e.
      ((e ≡ error.WrongKind name) × ((pairs : Pairs) → ¬ (t ≡ dict pairs)))
      ⊎ ((pairs : Pairs) × (t ≡ dict pairs) × IsRefusedBy table pairs e);
}
