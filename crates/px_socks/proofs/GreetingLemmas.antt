-- Greetings: what a run of methods tells, and that what is decided stays.
use Rattle.std.proofs.Common.{◌≡◌, ◌≢◌, ◌∙◌, ℕ, zero, suc, ◌+◌, ◌<◌, ◌≤◌, Bool, true, false, ◌||◌, List, [], ◌∷◌, ◌++◌, length, take, refl, sym, ap₂, subst, arith, add-zero}
use Rattle.std.specs.Prelude.{◌==◌, if◌then◌else◌}
use Rattle.std.specs.List.{list_any}
use Rattle.px_socks.specs.declared.greeting.Greeting.{Greeting}
use Rattle.px_socks.specs.declared.greeting.Greeting.TheVariants.{More, Methods, NotSocks}
use Rattle.px_socks.specs.Greeting.{methods_step, count_step, greeting_of}

or_nothing : (b : Bool) → b ≡ (b || false)
or_nothing true = refl
or_nothing false = refl

or_joined : (a b c : Bool) → ((a || b) || c) ≡ (a || (b || c))
or_joined true b c = refl
or_joined false b c = refl

-- so many methods are there
pub methods_whole : (left : ℕ) (free : Bool) (used : ℕ) (bytes : List ℕ) → left ≤ length bytes
    → methods_step left free used bytes ≡ Methods (free || list_any (λ method. method == 0) (take left bytes)) (used + left)
unfolding methods_step
methods_whole zero free used bytes h = ap₂ (λ (f : Bool) (n : ℕ). Methods f n) (or_nothing free) (sym (add-zero used))
methods_whole (suc left) free used [] h = absurd (omega arith)
methods_whole (suc left) free used (method ∷ rest) h =
    let count : used + 1 + left ≡ used + suc left = omega arith in
    methods_whole left (free || method == 0) (used + 1) rest (omega arith)
    ∙ ap₂ (λ (f : Bool) (n : ℕ). Methods f n) (or_joined free (method == 0) (list_any (λ x. x == 0) (take left rest))) count

-- fewer are there
pub methods_short : (left : ℕ) (free : Bool) (used : ℕ) (bytes : List ℕ) → length bytes < left → methods_step left free used bytes ≡ More
unfolding methods_step
methods_short zero free used bytes h = absurd (omega arith)
methods_short (suc left) free used [] h = refl
methods_short (suc left) free used (method ∷ rest) h = methods_short left (free || method == 0) (used + 1) rest (omega arith)

-- ---- what is decided stays

-- a greeting over so many bytes, and over more
abbrev Keeps : ℕ → Greeting → Greeting → Type 0
Keeps count More later = Unit {0}
Keeps count (Methods free used) later = (later ≡ Methods free used) × (used ≤ count)
Keeps count NotSocks later = later ≡ NotSocks

keeps_methods : (left : ℕ) (free : Bool) (used : ℕ) (bytes more : List ℕ) (count : ℕ) → used + length bytes ≤ count
    → Keeps count (methods_step left free used bytes) (methods_step left free used (bytes ++ more))
unfolding methods_step
keeps_methods zero free used bytes more count h = (refl, omega arith)
keeps_methods (suc left) free used [] more count h = tt
keeps_methods (suc left) free used (method ∷ rest) more count h = keeps_methods left (free || method == 0) (used + 1) rest more count (omega arith)

keeps_count : (bytes more : List ℕ) (count : ℕ) → 1 + length bytes ≤ count → Keeps count (count_step bytes) (count_step (bytes ++ more))
keeps_count [] more count h = tt
keeps_count (methods ∷ rest) more count h = keeps_methods methods false 2 rest more count (omega arith)

keeps_if : (b : Bool) (now later : Greeting) (count : ℕ) → Keeps count now later
    → Keeps count (if b then now else NotSocks) (if b then later else NotSocks)
keeps_if true now later count h = h
keeps_if false now later count h = refl

keeps : (bytes more : List ℕ) → Keeps (length bytes) (greeting_of bytes) (greeting_of (bytes ++ more))
keeps [] more = tt
keeps (version ∷ rest) more =
    keeps_if (version == 5) (count_step rest) (count_step (rest ++ more)) (length (version ∷ rest)) (keeps_count rest more (length (version ∷ rest)) (omega arith))

stays : (count : ℕ) (now later : Greeting) → Keeps count now later → now ≢ More → later ≡ now
stays count More later h some = absurd (some refl)
stays count (Methods free used) later h some = h.0
stays count NotSocks later h some = h

waits : (count : ℕ) (now later : Greeting) → Keeps count now later → later ≡ More → now ≡ More
waits count More later h e = refl
waits count (Methods free used) later h e = sym h.0 ∙ e
waits count NotSocks later h e = sym h ∙ e

pub greetings_stay : (bytes later : List ℕ) → greeting_of bytes ≢ More → greeting_of (bytes ++ later) ≡ greeting_of bytes
greetings_stay bytes later some = stays (length bytes) (greeting_of bytes) (greeting_of (bytes ++ later)) (keeps bytes later) some

pub greetings_wait : (bytes later : List ℕ) → greeting_of (bytes ++ later) ≡ More → greeting_of bytes ≡ More
greetings_wait bytes later e = waits (length bytes) (greeting_of bytes) (greeting_of (bytes ++ later)) (keeps bytes later) e

pub greetings_within : (bytes : List ℕ) (free : Bool) (used : ℕ) → greeting_of bytes ≡ Methods free used → used ≤ length bytes
greetings_within bytes free used e =
    (subst (λ (now : Greeting). Keeps (length bytes) now (greeting_of (bytes ++ []))) e (keeps bytes [])).1
