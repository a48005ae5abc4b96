use Rattle.std.proofs.Common.{◌≡◌, Some, map, string_bytes, take}
use Rattle.toml.specs.View.{items_view}
use Rattle.px_options.specs.Rules.{texts_in}
use Rattle.px_options.proofs.texts.copy_texts.Given as goal

-- the texts so far are those of the values so far
abbrev pub invariant-loop-value : goal.invariant-loop-value
invariant-loop-value l = texts_in (items_view (take l.value-index l.values)) ≡ Some (map string_bytes l.texts.items)
