use Rattle.std.proofs.Common.{◌≡◌, ◌++◌, take}
use Rattle.std.specs.List.{flat_map}
use Rattle.px_obey.specs.Obeyed.{state_text}
use Rattle.px_obey.proofs.text.push_states.Given as goal

-- the lines of the flows so far
abbrev pub invariant-loop-one : goal.invariant-loop-one
invariant-loop-one l = l.text.items ≡ l.fn.text.items ++ flat_map state_text (take l.one-index l.list)
