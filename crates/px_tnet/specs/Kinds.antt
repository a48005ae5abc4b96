-- The kinds of payloads, each with its tag and with the tree that a payload of it is.
use Rattle.std.specs.Prelude.{◌≡◌, ℕ, ◌^◌, ◌<◌, ◌⊎◌, ℤ, Bool, if◌then◌else◌, List, [], ◌∷◌}
use Rattle.std.specs.Fmt.{signed_decimal}
use Rattle.std.specs.Int.Signed.{mag}
use Rattle.std.specs.List.{Contains}
use Rattle.std.specs.Str.{IsUtf8}
use Rattle.px_tnet.specs.Tree.{Tree, blob, text, int, float, bool, null, list, dict, Trees, Pairs, in_turn, keys}
use Rattle.px_tnet.specs.declared.kind.Kind.{Kind}
use Rattle.px_tnet.specs.declared.kind.Kind.TheVariants as kind
use Rattle.px_tnet.specs.declared.error.TnetError.{TnetError}
use Rattle.px_tnet.specs.declared.error.TnetError.TheVariants as error

-- , ; # ^ ! ~ ] and }
abbrev pub tag_of : Kind → ℕ
tag_of kind.Blob = 44
tag_of kind.Text = 59
tag_of kind.Int = 35
tag_of kind.Float = 94
tag_of kind.Bool = 33
tag_of kind.Null = 126
tag_of kind.List = 93
tag_of kind.Dict = 125

-- `true` and `false`
abbrev pub truth : Bool → List ℕ
truth b = if b then 116 ∷ 114 ∷ 117 ∷ 101 ∷ [] else 102 ∷ 97 ∷ 108 ∷ 115 ∷ 101 ∷ []

-- the digits of a number from -2^63 to 2^63 - 1, with `-` in front of a negative one: no leading zero, and no `-0`
abbrev pub IsInt : ℤ → List ℕ → Type 0
IsInt n digits = (mag n < 2 ^ 63) × (digits ≡ signed_decimal n)

-- no two are equal
abbrev pub AreApart : List (List ℕ) → Type 0
AreApart [] = Unit {0}
AreApart (key ∷ rest) = (¬ (Contains rest key)) × AreApart rest

-- the tree that a payload of a kind is, where `Within` says which trees a payload joins
abbrev pub Holds : (Trees → List ℕ → Type 0) → Kind → List ℕ → Tree → Type 0
Holds Within kind.Blob payload tree = tree ≡ blob payload
Holds Within kind.Text payload tree = IsUtf8 payload × (tree ≡ text payload)
Holds Within kind.Int payload tree = (n : ℤ) × IsInt n payload × (tree ≡ int n)
Holds Within kind.Float payload tree = tree ≡ float payload
Holds Within kind.Bool payload tree = (b : Bool) × (payload ≡ truth b) × (tree ≡ bool b)
Holds Within kind.Null payload tree = (payload ≡ []) × (tree ≡ null)
Holds Within kind.List payload tree = (trees : Trees) × Within trees payload × (tree ≡ list trees)
Holds Within kind.Dict payload tree =
    (pairs : Pairs) × Within (in_turn pairs) payload × AreApart (keys pairs) × (tree ≡ dict pairs)

-- why a payload of a kind is refused, where `First` says which refusal of what a payload joins is the first
abbrev pub Lacks : (Trees → List ℕ → Type 0) → (List ℕ → TnetError → Type 0) → Kind → List ℕ → TnetError → Type 0
Lacks Within First kind.Blob payload cause = ⊥
Lacks Within First kind.Text payload cause = (cause ≡ error.BadPayload) × (¬ (IsUtf8 payload))
Lacks Within First kind.Int payload cause = (cause ≡ error.BadPayload) × ((n : ℤ) → ¬ (IsInt n payload))
Lacks Within First kind.Float payload cause = ⊥
Lacks Within First kind.Bool payload cause = (cause ≡ error.BadPayload) × ((b : Bool) → ¬ (payload ≡ truth b))
Lacks Within First kind.Null payload cause = (cause ≡ error.BadPayload) × (¬ (payload ≡ []))
Lacks Within First kind.List payload cause = First payload cause
Lacks Within First kind.Dict payload cause =
    First payload cause
    ⊎ ((trees : Trees) × Within trees payload × (cause ≡ error.BadPayload) × ((pairs : Pairs) → ¬ (trees ≡ in_turn pairs)))
    ⊎ ((pairs : Pairs) × Within (in_turn pairs) payload × (cause ≡ error.DuplicateKey) × (¬ (AreApart (keys pairs))))
