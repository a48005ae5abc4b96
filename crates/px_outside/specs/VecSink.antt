-- A sink in memory: what was written, which writes fail, and how many did.
use Rattle.std.specs.Prelude.{ℕ, ◌<◌, nat_lt, List, ◌++◌, length, if◌then◌else◌}
use Rattle.px_outside.specs.Count.{one_more, Plan, FailsNext, after_call}

pub record SinkState : Type 0 where
  pub written : List ℕ
  pub writes : Plan
  pub faults : ℕ

-- a write of this piece fails: it has a byte, and its number is listed
abbrev pub WriteFails : SinkState → List ℕ → Type 0
WriteFails sink piece = (0 < length piece) × FailsNext sink.writes

-- the sink after the piece was written; a write of no bytes is not counted
abbrev pub after_write : SinkState → List ℕ → SinkState
after_write sink piece = record sink {
  written = sink.written ++ piece;
  writes = if nat_lt 0 (length piece) then after_call sink.writes else sink.writes;
}

-- the sink after a write that failed
abbrev pub after_fault : SinkState → SinkState
after_fault sink = record sink { writes = after_call sink.writes; faults = one_more sink.faults }
