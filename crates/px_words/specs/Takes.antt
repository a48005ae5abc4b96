-- The file that the words name first: it is read, once, or the run stops.
use Rattle.std.specs.Prelude.{ℕ, List, []}
use Rattle.px_core.specs.Answers.{FilesMeaning}
use Rattle.px_words.specs.Converts.{Taken, nothing_taken, was_absent, was_unread, taken}
use Rattle.px_words.specs.Lines.{cannot_read}
use Rattle.px_words.specs.Outside.{Outside}
use Rattle.px_words.specs.Stops.{Stops}

-- How a run stops that did not read the file, by what came of it, where these are the files behind the read.
abbrev pub StopsUnread : Type 0 → Type 0 → Type 0 → List ℕ → Taken → FilesMeaning → Outside → Outside → ℕ → Type 0
StopsUnread net_is_same out_failed notes_failed path nothing_taken read before after status = Stops net_is_same out_failed notes_failed 8 [] [] read before after status
StopsUnread net_is_same out_failed notes_failed path was_absent read before after status = Stops net_is_same out_failed notes_failed 3 (cannot_read path) [] read before after status
StopsUnread net_is_same out_failed notes_failed path was_unread read before after status = Stops net_is_same out_failed notes_failed 3 (cannot_read path) [] read before after status
StopsUnread net_is_same out_failed notes_failed path (taken bytes) read before after status = ⊥
