-- What a sink means: the bytes written, where it tells them.
use Rattle.std.specs.Prelude.{◌≡◌, ℕ, List, ◌++◌, Option, Some, None}
use Rattle.px_text.specs.Prefix.{AddsPrefixOf}

-- the bytes have grown by this piece, where they are told
abbrev pub Writes : List ℕ → Option (List ℕ) → Option (List ℕ) → Type 0
Writes piece None new = new ≡ None
Writes piece (Some written) new = new ≡ Some (written ++ piece)

-- the bytes have grown by a prefix of this piece, where they are told
abbrev pub WritesPart : List ℕ → Option (List ℕ) → Option (List ℕ) → Type 0
WritesPart piece None new = new ≡ None
WritesPart piece (Some written) new = (after : List ℕ) × (new ≡ Some after) × AddsPrefixOf piece written after
