-- Flows without the mark of an operator. No event and no reply tells a conversation of a mark, so what is due is compared without
-- marks; who hands on what a conversation gives sets them.
use Rattle.std.specs.Prelude.{ℕ, Bool, false, List, map}
use Rattle.px_message.specs.declared.flow.Flow.{Flow}
use Rattle.px_event.specs.declared.command.Command.{Command}
use Rattle.px_event.specs.declared.command.Command.TheVariants as commands
use Rattle.px_event.specs.View.{Atom, about, done}

-- the flow, marked or not
abbrev pub with_mark : Bool → Flow → Flow
with_mark mark flow = record flow { marked = mark }

abbrev pub unmarked : Flow → Flow
unmarked flow = with_mark false flow

abbrev pub unmarked_atom : Atom → Atom
unmarked_atom (done flow) = done (unmarked flow)
unmarked_atom (about ask flow) = about ask (unmarked flow)
unmarked_atom atom = atom

-- what a view has, with no flow marked
abbrev pub all_unmarked : List Atom → List Atom
all_unmarked atoms = map unmarked_atom atoms

-- a command, with its flow marked where the test of the flow's index says so
abbrev pub mark_on : (ℕ → Bool) → Command → Command
mark_on marks (commands.Ask ask flow) = commands.Ask ask (with_mark (marks flow.id.index) flow)
mark_on marks (commands.Done flow) = commands.Done (with_mark (marks flow.id.index) flow)
mark_on marks command = command

-- so are all of them
abbrev pub all_marked : (ℕ → Bool) → List Command → List Command
all_marked marks given = map (mark_on marks) given

-- no flow is marked
abbrev pub none_marked : List Command → List Command
none_marked given = all_marked (λ index. false) given
