-- A network that follows a script: what is still to be heard, its trace, which calls fail, and where it listens.
use Rattle.std.specs.Prelude.{ℕ, List, [], ◌∷◌, ◌++◌, Option}
use Rattle.px_message.specs.declared.address.Address.{Address}
use Rattle.px_event.specs.Trace.{Trace}
use Rattle.px_event.specs.declared.heard.Heard.{Heard}
use Rattle.px_event.specs.declared.heard.Heard.TheVariants.{End}
use Rattle.px_event.specs.declared.step.Step.{Step}
use Rattle.px_event.specs.declared.step.Step.TheVariants as steps
use Rattle.px_outside.specs.Count.{one_more, Plan, after_call}
use Rattle.px_outside.specs.Net.{Listening, idle, failed, at}
use Rattle.px_outside.specs.declared.script_net.Listening.{Listening as Where}
use Rattle.px_outside.specs.declared.script_net.Listening.TheVariants.{Idle, Failed, At}

pub record NetState : Type 0 where
  pub script : List (ℕ × Heard)
  pub last : ℕ
  pub trace : Trace
  pub plan : Plan
  pub faults : ℕ
  pub listening : Listening

-- what is heard next: the script's first, and after its end `End` at the last moment that was given
abbrev pub front_of : ℕ → List (ℕ × Heard) → ℕ × Heard
front_of last [] = (last, End)
front_of last (first ∷ rest) = first

abbrev pub next_heard : NetState → ℕ × Heard
next_heard net = front_of net.last net.script

-- what is left of a script when its first was given
abbrev pub rest_of : List (ℕ × Heard) → List (ℕ × Heard)
rest_of [] = []
rest_of (first ∷ rest) = rest

-- the trace has this step at its end
abbrev pub after_step : NetState → Step → NetState
after_step net step = record net { trace = net.trace ++ step ∷ [] }

-- the network after it gave what is next
abbrev pub after_next : NetState → NetState
after_next net = let given = next_heard net in record (after_step net (steps.Heard given.0 given.1)) {
  script = rest_of net.script;
  last = given.0;
  plan = after_call net.plan;
}

-- after a call that failed
abbrev pub after_fault : NetState → NetState
after_fault net = record net { plan = after_call net.plan; faults = one_more net.faults }

-- after it began to listen
abbrev pub after_listen : NetState → Address → Option Address → NetState
after_listen net proxy control = record net { plan = after_call net.plan; listening = at proxy control }

-- it was asked to listen, and does not
abbrev pub not_listening : NetState → NetState
not_listening net = record net { listening = failed }

-- where code says that it listens
abbrev pub listening_of : Where → Listening
listening_of Idle = idle
listening_of Failed = failed
listening_of (At proxy control) = at proxy control
