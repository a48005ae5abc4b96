-- What an operator is given of the entry of a flow: a part of it, on a line of its own.
use Rattle.std.specs.Prelude.{ℕ, List, [], ◌∷◌, ◌++◌}
use Rattle.px_message.specs.declared.flow.Flow.{Flow}
use Rattle.px_entry.specs.Parts.{part}

-- the line of the part from that byte on; at the end of the entry, and behind it, an empty line
abbrev pub entry_line : ℕ → Flow → List ℕ
entry_line from flow = part from flow ++ 10 ∷ []
