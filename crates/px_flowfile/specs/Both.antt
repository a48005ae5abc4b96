-- Two answers joined: the first that is an error, or else both.
use Rattle.std.specs.Prelude.{Result, Ok, Err}

abbrev pub both_of : {A B E : Type 0} → Result A E → Result B E → Result (A × B) E
both_of (Err e) second = Err e
both_of (Ok a) (Err e) = Err e
both_of (Ok a) (Ok b) = Ok (a, b)
