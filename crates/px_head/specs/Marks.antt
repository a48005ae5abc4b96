-- How far the search for a block has come, what is known up to there, and what a search that finds none makes of it.
use Rattle.std.specs.Prelude.{ℕ, ◌≡◌, ◌≤◌, ◌+◌, ◌-◌, max, List, length, take, false}
use Rattle.px_text.specs.Blank.{ends_blank}
use Rattle.px_head.specs.declared.front.Front.{Front}
use Rattle.px_head.specs.declared.front.Front.TheVariants.{Nothing, TooLong, BadHead, Stands}
use Rattle.px_head.specs.declared.place.Marks.{Marks}
use Rattle.px_head.specs.declared.place.BlockPlace.{BlockPlace}
use Rattle.px_head.specs.declared.place.BlockPlace.TheVariants.{Missing, Exceeded, Block}
use Rattle.px_head.specs.Front.{blank_lines}

-- no block that begins at `start` ends at `reached` or before
abbrev pub HasNoEnd : List ℕ → ℕ → ℕ → Type 0
HasNoEnd bytes start reached = (end : ℕ) → end ≤ reached → ends_blank bytes start end ≡ false

pub record AreMarks (bytes : List ℕ) (m : Marks) : Type 0 where
  pub skipped_within : m.skipped ≤ length bytes
  pub skipped : blank_lines (take m.skipped bytes) ≡ m.skipped
  pub reached_within : m.reached ≤ length bytes
  pub reached : HasNoEnd bytes m.skipped m.reached

-- nothing was looked at
abbrev pub no_marks : Marks
no_marks = record { skipped = 0; reached = 0; looked = 0 }

-- All bytes were searched. The search looked at the empty lines behind those that were skipped, and for an end from two bytes
-- before the place on where it stopped, since an end shows in three bytes.
abbrev pub searched : List ℕ → Marks → Marks
searched bytes m = record {
  skipped = blank_lines bytes;
  reached = length bytes;
  looked = (blank_lines bytes - m.skipped) + (length bytes - max (blank_lines bytes) (m.reached - 2));
}

-- the marks behind a search: others only where it found nothing
abbrev pub noted : BlockPlace → Marks → Marks → Marks
noted Missing found m = found
noted Exceeded found m = m
noted (Block start end) found m = m

abbrev pub left_by : Front → Marks → Marks → Marks
left_by Nothing found m = found
left_by TooLong found m = m
left_by BadHead found m = m
left_by (Stands raw used) found m = m
