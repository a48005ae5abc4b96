-- What server replay makes of a draft and of its recorded list.
use Rattle.std.specs.Prelude.{◌≡◌, ℕ, Bool, map, Option, None, Some, slice_get, if◌then◌else◌}
use Rattle.std.specs.Option.{unwrap_or}
use Rattle.px_core.specs.declared.answerer.Draft.{Draft}
use Rattle.px_core.specs.declared.answerer.Verdict.TheVariants as verdicts
use Rattle.px_message.specs.declared.flow.Flow.{Flow}
use Rattle.px_message.specs.declared.response.Response.{Response}
use Rattle.px_refresh.specs.Refresh.{refreshed, shift_to}
use Rattle.px_replay.specs.Replaying as replaying
use Rattle.px_replay.specs.Replaying.{IsAnswer, Replaying, got}
use Rattle.px_replay.specs.declared.replay.Extra.{Extra}
use Rattle.px_replay.specs.declared.replay.Extra.TheVariants as extras
use Rattle.px_replay.specs.declared.replay.Replay.{Replay}
use Rattle.px_replay.specs.declared.replay.Replay.TheVariants as replays
use Rattle.px_write.specs.Short.{short_response}

-- the draft of a request that no recorded one answers: it goes on, its conversation ends, or a response says no more than a status
abbrev pub unmatched : Extra → Draft → Draft
unmatched extras.Forward draft = draft
unmatched extras.Kill draft = record draft { verdict = verdicts.Kill }
unmatched (extras.Code status) draft = record draft { verdict = verdicts.Respond (short_response status) }

-- of which moment the recorded flow at a place is, in microseconds since 1970
abbrev pub moment_at : Replaying → ℕ → ℕ
moment_at s place = unwrap_or (slice_get (map (λ r. r.moment) s.recordings) place) 0

-- A recorded response of a moment as it answers a flow: its dates are moved from that moment to the end of the flow's request, where that is wished; else it is
-- as it was recorded.
abbrev pub sent_as : Bool → Flow → ℕ → Response → Response
sent_as refresh flow moment response = if refresh then refreshed response (shift_to flow.times.request_end moment) else response

-- the draft by what its request got
abbrev pub replayed_by : Bool → Replaying → Replay → Draft → Draft
replayed_by refresh s (replays.Found place response) draft =
    record draft { verdict = verdicts.Respond (sent_as refresh draft.flow (moment_at s place) response) }
replayed_by refresh s (replays.Extra extra) draft = unmatched extra draft

-- The draft's request is asked of the recorded list, once: what it got makes the draft, and the place that it got, if any, is used.
pub record AsksRecorded (refresh : Bool) (draft : Draft) (old : Replaying) (left : Draft) (new : Option Replaying) : Type 0 where
  pub answer : Replay
  pub answers : IsAnswer old draft.flow.request answer
  pub drafted : left ≡ replayed_by refresh old answer draft
  pub used : new ≡ Some (replaying.after old (got answer))

-- what is made of a draft and of a recorded list, if there is one; without it nothing
abbrev pub Replays : Bool → Draft → Option Replaying → Draft → Option Replaying → Type 0
Replays refresh draft None left new = (left ≡ draft) × (new ≡ None)
Replays refresh draft (Some recorded) left new = AsksRecorded refresh draft recorded left new
