-- Steps are numbers in a run, and only their order counts: events and replies with other steps, of which each event is worked
-- off at the same moment behind each reply, owe the same.
use Rattle.std.specs.Prelude.{◌≡◌, ℕ, List, [], ◌∷◌}
use Rattle.px_event.specs.Chain.{Stamp, Stamped, worked_off, at_its_step}

-- the same events, each worked off at the same moment where this or the other was the last reply's step
abbrev pub WorkedOffAlike : {E : Type 0} → Stamp → Stamp → List (Stamped E) → List (Stamped E) → Type 0
WorkedOffAlike last other [] [] = Unit {0}
WorkedOffAlike last other (e ∷ es) (x ∷ xs) = (worked_off last e ≡ worked_off other x) × WorkedOffAlike last other es xs
WorkedOffAlike last other _ _ = ⊥

-- the same behind each of the replies too, and these are the same at the same moments
abbrev pub StampedAlike : {E R : Type 0} → Stamp → Stamp → List (Stamped E) → List (Stamped E) → List (Stamped R) → List (Stamped R) → Type 0
StampedAlike last other es xs [] [] = WorkedOffAlike last other es xs
StampedAlike last other es xs (r ∷ rs) (q ∷ qs) =
    WorkedOffAlike last other es xs × (at_its_step r ≡ at_its_step q) × StampedAlike r.stamp q.stamp es xs rs qs
StampedAlike last other es xs _ _ = ⊥

-- the step has another number
abbrev pub renumbered : {A : Type 0} → (ℕ → ℕ) → Stamped A → Stamped A
renumbered number a = record { stamp = record { step = number a.stamp.step; moment = a.stamp.moment }; value = a.value }
