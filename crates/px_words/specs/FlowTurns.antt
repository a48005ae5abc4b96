-- One turn through the text of a file of flows: what comes next is read, and printed where the filter holds on it.
use Rattle.std.specs.Prelude.{◌≡◌, ℕ, ◌-◌, if◌then◌else◌, List, [], length, Option}
use Rattle.px_message.specs.declared.flow.Flow.{Flow}
use Rattle.px_outside.specs.Sink.{Writes, WritesPart}
use Rattle.px_flowfile.specs.Reader.{BeginsWith}
use Rattle.px_flowfile.specs.declared.entry.Entry.{Entry}
use Rattle.px_filter.specs.Expression.{Expression}
use Rattle.px_filter.specs.Holds.{holds}
use Rattle.px_view.specs.Line.{flow_line}
use Rattle.px_words.specs.FlowFile.{BeginsWithNone, IsBadPlace}
use Rattle.px_words.specs.declared.flows.FlowTurn.{FlowTurn}
use Rattle.px_words.specs.declared.flows.FlowTurn.TheVariants as turns

-- what is printed of a flow: its line, where the filter holds on it
abbrev pub line_where : Expression → Flow → List ℕ
line_where expression flow = if holds flow expression then flow_line flow else []

-- what came of printing this text
abbrev pub PrintsSo : Type 0 → List ℕ → Option (List ℕ) → Option (List ℕ) → FlowTurn → Type 0
PrintsSo out_failed text before after turns.Went = Writes text before after
PrintsSo out_failed text before after turns.NotPrinted = out_failed × WritesPart text before after
PrintsSo out_failed text before after turns.NoMemory = after ≡ before
PrintsSo out_failed text before after turns.AtEnd = ⊥
PrintsSo out_failed text before after (turns.AtBadPlace offset) = ⊥

-- what came of a place that has no entry, or of out of memory
abbrev pub IsFaultTurn : List ℕ → ℕ → FlowTurn → Type 0
IsFaultTurn rest offset turns.Went = ⊥
IsFaultTurn rest offset turns.NotPrinted = ⊥
IsFaultTurn rest offset turns.NoMemory = Unit {0}
IsFaultTurn rest offset turns.AtEnd = ⊥
IsFaultTurn rest offset (turns.AtBadPlace at) = BeginsWithNone rest × (at ≡ offset)

-- What a turn came to, by the text that was left of a file before it and after it: a flow was gone past, which was printed by the
-- filter; or that was the end; or there is no entry, behind so many bytes; or a write failed; or memory ran out.
abbrev pub Turns : Type 0 → Expression → ℕ → List ℕ → List ℕ → Option (List ℕ) → Option (List ℕ) → FlowTurn → Type 0
Turns out_failed expression len rest next before after turns.Went = (entry : Entry) × BeginsWith entry rest next × Writes (line_where expression entry.flow) before after
Turns out_failed expression len rest next before after turns.NotPrinted =
    (entry : Entry) × BeginsWith entry rest next × (out_failed × WritesPart (line_where expression entry.flow) before after)
Turns out_failed expression len rest next before after turns.NoMemory = after ≡ before
Turns out_failed expression len rest next before after turns.AtEnd = (rest ≡ []) × (after ≡ before)
Turns out_failed expression len rest next before after (turns.AtBadPlace at) = (IsBadPlace rest × (at ≡ len - length rest)) × (after ≡ before)
