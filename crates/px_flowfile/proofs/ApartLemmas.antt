-- The keys of a table are apart, and other pairs that stand behind it have other keys.
use Rattle.std.proofs.Common.{◌≡◌, ◌∙◌, ℕ, zero, suc, ◌<◌, Bool, true, false, ◌||◌, List, [], ◌∷◌, length, bytes_eq, refl, sym, ap, subst, arith}
use Rattle.std.specs.List.{Contains}
use Rattle.std.proofs.lemmas.Slice.Eq.{bytes_eq-Decides}
use Rattle.px_tnet.specs.Kinds.{AreApart}
use Rattle.px_tnet.specs.Tree.{Pairs, no_pair, pair, keys}
use Rattle.px_flowfile.specs.FlowTable.{flow_table, is_known, is_known_in}
use Rattle.px_flowfile.specs.Keys.{name_of}
use Rattle.px_flowfile.specs.Table.{Line, lines}
use Rattle.px_flowfile.specs.Unknown.{AreUnknown}
use Rattle.px_flowfile.specs.declared.form.Form.TheVariants as forms

-- no line has the name of a later one
abbrev pub HasApart : {S : Type 0} → List (Line S) → Type 0
HasApart [] = Unit {0}
HasApart (l ∷ table) = (is_known_in table (name_of l.key) ≡ false) × HasApart table

-- no key of the pairs is a name of the table
abbrev pub AreStrange : {S : Type 0} → List (Line S) → Pairs → Type 0
AreStrange table pairs = (name : List ℕ) → Contains (keys pairs) name → is_known_in table name ≡ false

first_none : (a b : Bool) → (a || b) ≡ false → a ≡ false
first_none false b h = refl
first_none true b h = absurd (let e : true ≡ false = h in cc)

second_none : (a b : Bool) → (a || b) ≡ false → b ≡ false
second_none false b h = h
second_none true b h = absurd (let e : true ≡ false = h in cc)

pub nothing_in_none : (name : List ℕ) → ¬ (Contains [] name)
nothing_in_none name (i, within, is) = absurd (omega arith)

same_is_known : (name other : List ℕ) → bytes_eq name other ≡ false → ¬ (other ≡ name)
same_is_known name other differs same =
    let e = sym ((bytes_eq-Decides name other).1 (sym same)) ∙ differs in let f : true ≡ false = e in cc

not_among_lines : {S : Type 0} (table : List (Line S)) (s : S) (behind : Pairs) (name : List ℕ) → is_known_in table name ≡ false
    → ¬ (Contains (keys behind) name) → ¬ (Contains (keys (lines table s behind)) name)
not_among_lines [] s behind name none lacks h = lacks h
not_among_lines (l ∷ table) s behind name none lacks (zero, within, is) =
    same_is_known name (name_of l.key) (first_none (bytes_eq name (name_of l.key)) (is_known_in table name) none) is
not_among_lines (l ∷ table) s behind name none lacks (suc i, within, is) =
    not_among_lines table s behind name (second_none (bytes_eq name (name_of l.key)) (is_known_in table name) none) lacks
    (i, omega (arith, within), is)

not_behind : (name other : List ℕ) (known : Bool) → (bytes_eq name other || known) ≡ false → other ≡ name → ⊥
not_behind name other known none same = same_is_known name other (first_none (bytes_eq name other) known none) same

pub lines_apart : {S : Type 0} (table : List (Line S)) (s : S) (behind : Pairs) → HasApart table → AreStrange table behind
    → AreApart (keys behind) → AreApart (keys (lines table s behind))
lines_apart [] s behind own strange apart = apart
lines_apart (l ∷ table) s behind own strange apart = (
  not_among_lines table s behind (name_of l.key) own.0
      (λ h. not_behind (name_of l.key) (name_of l.key) (is_known_in table (name_of l.key)) (strange (name_of l.key) h) refl),
  lines_apart table s behind own.1
      (λ name h. second_none (bytes_eq name (name_of l.key)) (is_known_in table name) (strange name h)) apart,
)

pub none_strange : {S : Type 0} (table : List (Line S)) → AreStrange table no_pair
none_strange table name h = absurd (nothing_in_none name h)

pub unknown_strange : (pairs : Pairs) → AreUnknown pairs → AreStrange (flow_table forms.Second) pairs
unknown_strange no_pair unknown name h = absurd (nothing_in_none name h)
unknown_strange (pair key v pairs) unknown name (zero, within, is) = subst (λ n. is_known n ≡ false) is unknown.0
unknown_strange (pair key v pairs) unknown name (suc i, within, is) = unknown_strange pairs unknown.1 name (i, omega (arith, within), is)
