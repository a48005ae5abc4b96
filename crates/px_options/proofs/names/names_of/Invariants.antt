use Rattle.std.proofs.Common.{◌≡◌, map, string_bytes, take}
use Rattle.px_options.proofs.names.names_of.Given as goal

-- the names so far are the texts so far
abbrev pub invariant-loop-text : goal.invariant-loop-text
invariant-loop-text l = l.items.items ≡ map string_bytes (take l.text-index l.texts)
