-- Lists that are shared: none at all is a list without items.
use Rattle.std.specs.Prelude.{Option, Some, None, List, []}

-- the items of what may stand
abbrev pub items_in : {A B : Type 0} → (A → List B) → Option A → List B
items_in items None = []
items_in items (Some shared) = items shared
