-- What is printed of a run, but for the line of its status.
use Rattle.std.specs.Prelude.{ℕ, List}
use Rattle.std.specs.List.{flat_map}
use Rattle.px_event.specs.Trace.{Trace}
use Rattle.px_core.specs.Run.{done_of}
use Rattle.px_view.specs.Line.{flow_line}

-- the line of each flow that the trace finishes, in their order
abbrev pub listed : Trace → List ℕ
listed trace = flat_map flow_line (flat_map done_of trace)
