use Rattle.std.proofs.Common.{◌≡◌, take}
use Rattle.px_event.specs.Trace.{sent}
use Rattle.px_outside.proofs.script_net.ScriptNet.sent.Given as goal

-- the bytes that the steps so far sent
abbrev pub invariant-loop-step : goal.invariant-loop-step
invariant-loop-step l = l.bytes.items ≡ sent (take l.step-index l.self.trace) l.conv l.side
