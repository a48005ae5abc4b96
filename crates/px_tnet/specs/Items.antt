-- Items: a payload in its frame, whose tag tells its kind. Lists and dictionaries hold items, and may stand inside one
-- another up to a depth.
use Rattle.std.specs.Prelude.{◌≡◌, ℕ, zero, suc, ◌⊎◌, List, []}
use Rattle.px_tnet.specs.Frame.{Framed, IsBadLength, IsCut}
use Rattle.px_tnet.specs.Kinds.{Holds, Lacks, tag_of}
use Rattle.px_tnet.specs.Tree.{Tree, Trees, no_tree, tree}
use Rattle.px_tnet.specs.declared.kind.Kind.{Kind}
use Rattle.px_tnet.specs.declared.error.TnetError.{TnetError}
use Rattle.px_tnet.specs.declared.error.TnetError.TheVariants as error

-- what an item is in a text with a rest behind it
abbrev pub Reading : Type 1
Reading = Tree → List ℕ → List ℕ → Type 0

-- why a text begins with no item
abbrev pub Refusing : Type 1
Refusing = List ℕ → TnetError → Type 0

-- the text is these items, one behind the other, with a rest behind them
abbrev pub Joins : Reading → Trees → List ℕ → List ℕ → Type 0
Joins IsItem no_tree text rest = text ≡ rest
Joins IsItem (tree first trees) text rest = (behind : List ℕ) × IsItem first text behind × Joins IsItem trees behind rest

-- an item that is cut by the end of the payload around it is a bad payload
abbrev pub inside : TnetError → TnetError
inside error.Cut = error.BadPayload
inside error.BadLength = error.BadLength
inside error.BadTag = error.BadTag
inside error.TooDeep = error.TooDeep
inside error.BadPayload = error.BadPayload
inside error.DuplicateKey = error.DuplicateKey
inside error.NoMemory = error.NoMemory

-- the first item of the payload that is refused, and its refusal
abbrev pub FirstRefused : Reading → Refusing → List ℕ → TnetError → Type 0
FirstRefused IsItem IsRefused payload cause =
    (before : Trees) × (rest : List ℕ) × (own : TnetError) × Joins IsItem before payload rest × (¬ (rest ≡ []))
    × IsRefused rest own × (cause ≡ inside own)

-- an item whose payload joins the trees that `Within` tells
abbrev pub ItemOf : (Trees → List ℕ → Type 0) → Reading
ItemOf Within item text rest =
    (kind : Kind) × (payload : List ℕ) × Framed payload (tag_of kind) rest text × Holds Within kind payload item

-- the refusals, in the order in which they are judged
abbrev pub RefusalOf : (Trees → List ℕ → Type 0) → Refusing → Refusing
RefusalOf Within First text cause =
    ((cause ≡ error.Cut) × IsCut text)
    ⊎ ((cause ≡ error.BadLength) × IsBadLength text)
    ⊎ ((payload : List ℕ) × (tag : ℕ) × (rest : List ℕ) × Framed payload tag rest text
    × (((cause ≡ error.BadTag) × ((kind : Kind) → ¬ (tag ≡ tag_of kind)))
    ⊎ ((kind : Kind) × (tag ≡ tag_of kind) × Lacks Within First kind payload cause)))

-- the trees that a payload joins, where at most so many lists and dictionaries stand inside one another
abbrev pub Within : ℕ → Trees → List ℕ → Type 0
Within zero trees payload = ⊥
Within (suc depth) trees payload = Joins (ItemOf (Within depth)) trees payload []

-- an item, where at most so many lists and dictionaries stand inside one another
abbrev pub IsItem : ℕ → Reading
IsItem depth = ItemOf (Within depth)

-- why a payload joins no trees: it is too deep, which is judged before its items, or one of its items is refused
abbrev pub First : ℕ → Refusing
First zero payload cause = cause ≡ error.TooDeep
First (suc depth) payload cause = FirstRefused (IsItem depth) (RefusalOf (Within depth) (First depth)) payload cause

-- why a text begins with no item
abbrev pub IsRefused : ℕ → Refusing
IsRefused depth = RefusalOf (Within depth) (First depth)

-- a list or a dictionary may stand inside 63 others, and not inside 64
abbrev pub most_deep : ℕ
most_deep = 64
