-- A copy of an option equals it where a copy of its value does.
use Rattle.std.proofs.Common.{◌≡◌, Option, None, Some, ap, refl}

-- what the copy of an option says, where a copy of a value equals it
abbrev pub IsCopied : {T : Type 0} → Option T → Option T → Type 0
IsCopied None None = Unit {0}
IsCopied None (Some y) = ⊥
IsCopied (Some x) None = ⊥
IsCopied (Some x) (Some y) = y ≡ x

pub same_option : {T : Type 0} (o p : Option T) → IsCopied o p → p ≡ o
same_option None None h = refl
same_option None (Some y) h = absurd h
same_option (Some x) None h = absurd h
same_option (Some x) (Some y) h = ap Some h
