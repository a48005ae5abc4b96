use Rattle.px_event.specs.declared.heard.Heard.TheVariants.{Accepted}
use Rattle.px_event.specs.declared.side.Door.TheVariants.{Proxy}
use Rattle.px_gen.specs.Peer.{peer}
use Rattle.px_gen.specs.Script.{heard_of}
use Rattle.px_gen.proofs.ScriptLemmas.{flows_further}
use Rattle.px_gen.proofs.flows.script.Goals as goal

pub loop-flow-preserved : goal.loop-flow-preserved
loop-flow-preserved c = flows_further heard_of (0, Accepted 0 Proxy peer) c.loop-flow.flow _ _ c.loop-flow.invariant c.in_ok-push_flow.ensures
