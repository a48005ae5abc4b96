-- The digits of a length, byte by byte.
use Rattle.std.specs.Prelude.{◌≡◌, ℕ, ◌<◌, List, [], ◌∷◌, ◌++◌, decimal, Option, Some, None}
use Rattle.px_tnet.specs.Frame.{BeginsLength, IsLength, colon, too_many}
use Rattle.px_tnet.specs.declared.length.Step.{Step}
use Rattle.px_tnet.specs.declared.length.Step.TheVariants as step

-- the bytes so far: none, or the digits of a length
abbrev pub IsFront : Option ℕ → List ℕ → Type 0
IsFront None front = front ≡ []
IsFront (Some count) front = (count < too_many) × (front ≡ decimal count)

-- what one byte more is
abbrev pub IsStep : List ℕ → ℕ → Step → Type 0
IsStep front byte (step.More count) = (count < too_many) × (front ++ (byte ∷ []) ≡ decimal count)
IsStep front byte (step.End count) = (byte ≡ colon) × (count < too_many) × (front ≡ decimal count)
IsStep front byte step.Bad = (¬ (BeginsLength (front ++ (byte ∷ [])))) × (¬ (IsLength front × (byte ≡ colon)))
