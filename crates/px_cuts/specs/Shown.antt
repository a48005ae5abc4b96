-- What a place shows, a place being a stage that stands over a prefix: its stage and its sight, their moments seen so. All that a
-- stage finds, owes and turns to hangs on that alone.
use Rattle.std.specs.Prelude.{ℕ, List, Option}
use Rattle.px_event.specs.declared.command.Command.{Command}
use Rattle.px_event.specs.declared.event.Event.{Event}
use Rattle.px_event.specs.Chain.{Look, Timed}
use Rattle.px_exchange.specs.declared.terms.Terms.{Terms}
use Rattle.px_cuts.specs.Cuts.{retimed_flow}
use Rattle.px_chain.specs.Chain.{behind, look, passed, so_far}
use Rattle.px_chain.specs.Sights.{Sight, Standing, sight_over, sight_with}
use Rattle.px_chain.specs.Stages.{Stage, busy, idle, next, over}

-- the stage, its moments seen so
abbrev pub retimed_stage : (ℕ → ℕ) → Stage → Stage
retimed_stage see (idle at) = idle at
retimed_stage see (busy at flow doing) = busy at (retimed_flow see flow) doing
retimed_stage see (next at) = next at
retimed_stage see over = over

-- the sight, its moment seen so
abbrev pub retimed_sight : (ℕ → ℕ) → Sight → Sight
retimed_sight see seen = record seen { now = see seen.now }

-- the moment that a stage shows, seen so: at the end nothing is told of it, and none is shown
abbrev pub moment_at : (ℕ → ℕ) → Stage → ℕ → ℕ
moment_at see over moment = 0
moment_at see stage moment = see moment

-- the sight that a stage shows
abbrev pub shown_sight : (ℕ → ℕ) → Stage → Sight → Sight
shown_sight see stage seen = record seen { now = moment_at see stage seen.now }

-- the sight with one event more, while the moment stays as it is
abbrev pub hears : Option ℕ → Sight → Event → Sight
hears side seen event = sight_with side seen event seen.now

-- ---- a place over a prefix: what it finds and owes, and what it passes to

abbrev pub look_over : Terms → Standing → List (Timed Event) → Look Command
look_over terms place prefix = look terms place.stage (sight_over place prefix)

abbrev pub so_far_over : Terms → Standing → List (Timed Event) → List Command
so_far_over terms place prefix = so_far terms place.stage (sight_over place prefix)

abbrev pub behind_over : Standing → List (Timed Event) → List Command
behind_over place prefix = behind place.stage (sight_over place prefix)

-- the sight of a place, as it is shown
abbrev pub shown_over : (ℕ → ℕ) → Standing → List (Timed Event) → Sight
shown_over see place prefix = shown_sight see place.stage (sight_over place prefix)

abbrev pub passed_over : (Stage → Stage) → Terms → Standing → List (Timed Event) → Standing
passed_over onward terms place prefix = passed onward terms place (sight_over place prefix)
