-- What a block rule makes of a draft.
use Rattle.std.specs.Prelude.{ℕ, ◌==◌, if◌then◌else◌, Option, Some, None}
use Rattle.px_core.specs.declared.answerer.Draft.{Draft}
use Rattle.px_core.specs.declared.answerer.Verdict.{Verdict}
use Rattle.px_core.specs.declared.answerer.Verdict.TheVariants as verdicts
use Rattle.px_write.specs.Short.{short_response}

-- how a status blocks: 444 closes the connection without a response; any other is said by a response with no more than it
abbrev pub blocked_with : ℕ → Verdict
blocked_with status = if status == 444 then verdicts.Kill else verdicts.Respond (short_response status)

-- the draft, blocked by a status, if one is told
abbrev pub blocked : Option ℕ → Draft → Draft
blocked None draft = draft
blocked (Some status) draft = record draft { verdict = blocked_with status }
