-- What a client greets with (RFC 1928 section 3): 05, the number of its methods, and so many methods, a byte each.
use Rattle.std.specs.Prelude.{ℕ, zero, suc, ◌+◌, Bool, false, ◌||◌, ◌==◌, if◌then◌else◌, List, [], ◌∷◌}
use Rattle.px_socks.specs.declared.greeting.Greeting.{Greeting}
use Rattle.px_socks.specs.declared.greeting.Greeting.TheVariants.{More, Methods, NotSocks}

-- so many methods are still to come; `free`: 00, no authentication, was among those in front; `used`: how many bytes came in front
unfoldable pub methods_step : (left : ℕ) (free : Bool) (used : ℕ) → List ℕ → Greeting
methods_step zero free used bytes = Methods free used
methods_step (suc left) free used [] = More
methods_step (suc left) free used (method ∷ rest) = methods_step left (free || method == 0) (used + 1) rest

-- the number of methods is to come
abbrev pub count_step : List ℕ → Greeting
count_step [] = More
count_step (count ∷ rest) = methods_step count false 2 rest

-- what the bytes of a client are as a greeting, each judged as it comes
abbrev pub greeting_of : List ℕ → Greeting
greeting_of [] = More
greeting_of (version ∷ rest) = if version == 5 then count_step rest else NotSocks
