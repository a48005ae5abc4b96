-- A network that hears generated flows: what contracts see of it, and what holds of the network in memory that it is made of.
use Rattle.std.specs.Prelude.{◌≡◌, ℕ, [], ◌++◌}
use Rattle.px_event.specs.Trace.{Trace}
use Rattle.px_outside.specs.Net.{Listening}
use Rattle.px_outside.specs.ScriptNet.{NetState}
use Rattle.px_gen.specs.Heard.{all_heard, ends}
use Rattle.px_gen.specs.Script.{script}

pub record GeneratedState : Type 0 where
  pub trace : Trace
  pub listening : Listening

abbrev pub state_of : NetState → GeneratedState
state_of net = record { trace = net.trace; listening = net.listening }

-- no call fails; what was heard, followed by what is left, is the script with the ends that were heard; and the last moment was 0
pub record IsGenerated (count : ℕ) (net : NetState) : Type 0 where
  pub never_fails : net.plan.fails ≡ []
  pub last : net.last ≡ 0
  pub many : ℕ
  pub heard : all_heard net.trace ++ net.script ≡ script count ++ ends many
