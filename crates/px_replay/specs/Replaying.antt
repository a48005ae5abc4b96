-- The recorded list, and what one ask does with it.
use Rattle.std.specs.Prelude.{◌≡◌, ℕ, zero, suc, Bool, true, false, not, ◌&&◌, ◌||◌, List, [], ◌∷◌, map, Option, None, Some, slice_get}
use Rattle.std.specs.List.{flat_map, position}
use Rattle.std.specs.Option.{unwrap_or}
use Rattle.px_message.specs.declared.flow.Flow.{Flow}
use Rattle.px_message.specs.declared.flow.Times.{Times}
use Rattle.px_message.specs.declared.request.Request.{Request}
use Rattle.px_message.specs.declared.response.Response.{Response}
use Rattle.px_replay.specs.declared.key.MatchKey.{MatchKey}
use Rattle.px_replay.specs.declared.options.KeyOptions.{KeyOptions}
use Rattle.px_replay.specs.declared.recorded.Recording.{Recording}
use Rattle.px_replay.specs.declared.replay.Extra.{Extra}
use Rattle.px_replay.specs.declared.replay.Replay.{Replay}
use Rattle.px_replay.specs.declared.replay.Replay.TheVariants as replays
use Rattle.px_replay.specs.Key.{key_of}
use Rattle.px_replay.specs.Same.{is_same_key}

-- what counts, whether a place may answer again, what answers where no place does, and the recorded list
pub record Replaying : Type 0 where
  pub how : KeyOptions
  pub reuse : Bool
  pub extra : Extra
  pub recordings : List Recording

-- the moment that a recorded flow is taken to be of, in microseconds since 1970: when its response began, or where that is not known its request
abbrev pub moment_of : Times → ℕ
moment_of times = unwrap_or times.response_start times.request_start

-- a flow in the recorded list: one without a response is not in it
abbrev pub with_response : MatchKey → ℕ → Option Response → List Recording
with_response key moment None = []
with_response key moment (Some response) = (record { key = key; moment = moment; response = response; used = false }) ∷ []

abbrev pub recording : KeyOptions → Flow → List Recording
recording how flow = with_response (key_of how flow.request) (moment_of flow.times) flow.response

-- the recorded list of these flows, in their order
abbrev pub recordings : KeyOptions → List Flow → List Recording
recordings how flows = flat_map (recording how) flows

-- before the first ask
abbrev pub started : KeyOptions → Bool → Extra → List Flow → Replaying
started how reuse extra flows = record { how = how; reuse = reuse; extra = extra; recordings = recordings how flows }

-- no ask got it, or each may
abbrev pub is_free : Bool → Recording → Bool
is_free reuse recording = reuse || not recording.used

-- it is free, and has this key
abbrev pub may_answer : Bool → MatchKey → Recording → Bool
may_answer reuse key recording = is_free reuse recording && is_same_key recording.key key

-- the least place that may answer the request
abbrev pub place_of : Replaying → Request → Option ℕ
place_of s request = position (may_answer s.reuse (key_of s.how request)) s.recordings

-- the list with the place used
abbrev pub use_at : ℕ → List Recording → List Recording
use_at place [] = []
use_at zero (r ∷ rs) = (record r { used = true }) ∷ rs
use_at (suc place) (r ∷ rs) = r ∷ use_at place rs

-- after an ask that got this place, or none
abbrev pub after : Replaying → Option ℕ → Replaying
after s None = s
after s (Some place) = record s { recordings = use_at place s.recordings }

-- the place that an answer has
abbrev pub got : Replay → Option ℕ
got (replays.Found place response) = Some place
got (replays.Extra extra) = None

-- the answer to the request: the response at the least place, or the extra answer
abbrev pub IsAnswer : Replaying → Request → Replay → Type 0
IsAnswer s request (replays.Found place response) =
    (place_of s request ≡ Some place) × (slice_get (map (λ r. r.response) s.recordings) place ≡ Some response)
IsAnswer s request (replays.Extra extra) = (place_of s request ≡ None) × (extra ≡ s.extra)

-- whether an ask got the place
abbrev pub used_in : Option Recording → Bool
used_in None = false
used_in (Some recording) = recording.used

abbrev pub is_used : ℕ → List Recording → Bool
is_used place recordings = used_in (slice_get recordings place)
