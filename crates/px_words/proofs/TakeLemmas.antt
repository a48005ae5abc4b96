-- A file that is read, once, or is not.
use Rattle.std.proofs.Common.{◌≡◌, ◌≤◌, ◌⊎◌, inl, ℕ, List, [], ◌∷◌, Some, None, refl}
use Rattle.px_outside.specs.Count.{Rose}
use Rattle.px_outside.specs.Files.{Lists, SameContents, Stands, Told}
use Rattle.px_outside.specs.declared.files.FileCall.TheVariants.{Read, Missed, ReadFailed}
use Rattle.px_map.specs.Reads.{Made, Seen}
use Rattle.px_map.proofs.ReadsLemmas.{lists_none, lists_one, rose_none}
use Rattle.px_addons.specs.Mapped.{seen_of}
use Rattle.px_words.specs.Converts.{Taken, nothing_taken, takes_of, was_absent, was_unread}
use Rattle.px_words.specs.Lines.{cannot_read}
use Rattle.px_words.specs.Outside.{IsTold, Outside}
use Rattle.px_words.specs.Takes.{StopsUnread}
use Rattle.px_words.proofs.PrintLemmas.{writes_none}
use Rattle.px_words.proofs.ToldLemmas.{told_nothing}

-- ---- one read

pub one_read : (path bytes : List ℕ) (before after : Seen) → Lists (Read path bytes) before.calls after.calls → Stands path (Some bytes) before.contents → Told SameContents before.contents after.contents →
    before.misses ≤ after.misses → before.faults ≤ after.faults → after.losses ≡ before.losses → Made (Read path bytes ∷ []) before after
one_read path bytes before after listed stood kept misses faults losses = record {
  listed = lists_one (Read path bytes) before.calls after.calls listed;
  stood = (stood, tt);
  contents = kept;
  misses = rose_none before.misses after.misses misses;
  faults = rose_none before.faults after.faults faults;
  losses = losses;
}

pub one_miss : (path : List ℕ) (before after : Seen) → Lists (Missed path) before.calls after.calls → Stands path None before.contents → Told SameContents before.contents after.contents →
    Rose before.misses after.misses → before.faults ≤ after.faults → after.losses ≡ before.losses → Made (Missed path ∷ []) before after
one_miss path before after listed stood kept missed faults losses = record {
  listed = lists_one (Missed path) before.calls after.calls listed;
  stood = (stood, tt);
  contents = kept;
  misses = missed;
  faults = rose_none before.faults after.faults faults;
  losses = losses;
}

pub one_failure : (path : List ℕ) (before after : Seen) → Lists (ReadFailed path) before.calls after.calls → Told SameContents before.contents after.contents → before.misses ≤ after.misses →
    Rose before.faults after.faults → after.losses ≡ before.losses → Made (ReadFailed path ∷ []) before after
one_failure path before after listed kept misses failed losses = record {
  listed = lists_one (ReadFailed path) before.calls after.calls listed;
  stood = tt;
  contents = kept;
  misses = rose_none before.misses after.misses misses;
  faults = failed;
  losses = losses;
}

pub no_read : (before after : Seen) → after.calls ≡ before.calls → Told SameContents before.contents after.contents → before.misses ≤ after.misses → before.faults ≤ after.faults → after.losses ≡ before.losses →
    Made [] before after
no_read before after none kept misses faults losses = record {
  listed = lists_none before.calls after.calls none;
  stood = tt;
  contents = kept;
  misses = rose_none before.misses after.misses misses;
  faults = rose_none before.faults after.faults faults;
  losses = losses;
}

-- ---- the run stops

module _ (same out notes : Type 0) (path : List ℕ) (before after : Outside) (status : ℕ) where
  abbrev pub IsUnread : Type 0
  IsUnread = (what : Taken) × Made (takes_of path what) (seen_of before.files) (seen_of after.files) × StopsUnread same out notes path what after.files before after status

  pub stops_absent : same → (status ≡ 3) ⊎ (status ≡ 8) → IsTold out status (cannot_read path) before.written after.written → IsTold notes status [] before.noted after.noted →
      Made (Missed path ∷ []) (seen_of before.files) (seen_of after.files) → IsUnread
  stops_absent is_same is printed noted made = (was_absent, made, record { is = is; net = is_same; kept = refl; prints = printed; notes = noted })

  pub stops_unread : same → (status ≡ 3) ⊎ (status ≡ 8) → IsTold out status (cannot_read path) before.written after.written → IsTold notes status [] before.noted after.noted →
      Made (ReadFailed path ∷ []) (seen_of before.files) (seen_of after.files) → IsUnread
  stops_unread is_same is printed noted made = (was_unread, made, record { is = is; net = is_same; kept = refl; prints = printed; notes = noted })

  -- memory ran out before the file was read
  pub stops_untaken : same → status ≡ 8 → after.written ≡ before.written → after.noted ≡ before.noted → Made [] (seen_of before.files) (seen_of after.files) → IsUnread
  stops_untaken is_same eight quiet silent made = (
    nothing_taken,
    made,
    record {
      is = inl eight;
      net = is_same;
      kept = refl;
      prints = told_nothing out status before.written after.written (writes_none before.written after.written quiet);
      notes = told_nothing notes status before.noted after.noted (writes_none before.noted after.noted silent);
    },
  )
