-- Laws of greetings and requests.
use Rattle.std.specs.Prelude.{◌≡◌, ◌≢◌, ℕ, ◌≤◌, Bool, List, ◌++◌, length}
use Rattle.px_socks.specs.declared.greeting.Greeting.TheVariants.{More, Methods}
use Rattle.px_socks.specs.Greeting.{greeting_of}
use Rattle.px_socks.specs.Request.{more, connect, request_of}

-- what is decided stays, whatever follows
abbrev pub GreetingsStay : Type 0
GreetingsStay = (bytes later : List ℕ) → greeting_of bytes ≢ More → greeting_of (bytes ++ later) ≡ greeting_of bytes

abbrev pub RequestsStay : Type 0
RequestsStay = (bytes later : List ℕ) → request_of bytes ≢ more → request_of (bytes ++ later) ≡ request_of bytes

-- more is awaited only where nothing was decided by any of the bytes in front
abbrev pub GreetingsWait : Type 0
GreetingsWait = (bytes later : List ℕ) → greeting_of (bytes ++ later) ≡ More → greeting_of bytes ≡ More

abbrev pub RequestsWait : Type 0
RequestsWait = (bytes later : List ℕ) → request_of (bytes ++ later) ≡ more → request_of bytes ≡ more

-- the bytes that are used are there
abbrev pub GreetingsAreWithin : Type 0
GreetingsAreWithin = (bytes : List ℕ) (free : Bool) (used : ℕ) → greeting_of bytes ≡ Methods free used → used ≤ length bytes

abbrev pub RequestsAreWithin : Type 0
RequestsAreWithin = (bytes host : List ℕ) (port used : ℕ) → request_of bytes ≡ connect host port used → used ≤ length bytes
