-- What is heard in a run, and that it is what generated flows have to tell.
use Rattle.std.specs.Prelude.{ℕ, Bool, true, false, not, List, [], ◌∷◌, ◌++◌, replicate}
use Rattle.std.specs.List.{filter, flat_map}
use Rattle.px_text.specs.Prefix.{IsPrefixOf}
use Rattle.px_event.specs.declared.heard.Heard.{Heard}
use Rattle.px_event.specs.declared.heard.Heard.TheVariants.{End}
use Rattle.px_event.specs.declared.step.Step.{Step}
use Rattle.px_event.specs.declared.step.Step.TheVariants as steps
use Rattle.px_event.specs.Trace.{Trace}
use Rattle.px_gen.specs.Script.{script}

-- what the step hears, with its moment
abbrev pub heard_by : Step → List (ℕ × Heard)
heard_by (steps.Heard moment heard) = (moment, heard) ∷ []
heard_by _ = []

-- all that is heard in the run, in its order
abbrev pub all_heard : Trace → List (ℕ × Heard)
all_heard trace = flat_map heard_by trace

-- the end is heard, at whichever moment
abbrev pub is_end : ℕ × Heard → Bool
is_end (moment, End) = true
is_end _ = false

-- what is heard in the run, the ends left out
abbrev pub heard_in : Trace → List (ℕ × Heard)
heard_in trace = filter (λ given. not (is_end given)) (all_heard trace)

-- so many ends, at moment 0
abbrev pub ends : ℕ → List (ℕ × Heard)
ends many = replicate many (0, End)

-- What is heard in the run begins the script of so many flows, with ends behind it: the script's things in their order, each once and at
-- its moment, and the end only when all of them were heard.
abbrev pub Hears : ℕ → Trace → Type 0
Hears count trace = (many : ℕ) × IsPrefixOf (all_heard trace) (script count ++ ends many)

-- whether the last of these things is the end; where there are none, as it was
abbrev pub ends_by : Bool → List (ℕ × Heard) → Bool
ends_by ended [] = ended
ends_by ended (given ∷ rest) = ends_by (is_end given) rest

-- the last thing that is heard in the run is the end
abbrev pub is_ended : Trace → Bool
is_ended trace = ends_by false (all_heard trace)
