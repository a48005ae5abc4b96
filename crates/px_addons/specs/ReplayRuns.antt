-- Server replay over answers of chains, one behind the other.
use Rattle.std.specs.Prelude.{◌≡◌, ℕ, Bool, List, [], ◌∷◌, map, Option, None, Some, slice_get}
use Rattle.std.specs.List.{flat_map}
use Rattle.px_message.specs.declared.request.Request.{Request}
use Rattle.px_message.specs.declared.response.Response.{Response}
use Rattle.px_event.specs.declared.reply.Reply.TheVariants as replies
use Rattle.px_core.specs.declared.answerer.Answer.{Answer}
use Rattle.px_core.specs.declared.answerer.Answer.TheVariants as answers
use Rattle.px_replay.specs.Key.{key_of}
use Rattle.px_replay.specs.Replayed.{AreReplayed, keys_in}
use Rattle.px_replay.specs.Replaying.{Replaying}
use Rattle.px_replay.specs.declared.replay.Extra.{Extra}
use Rattle.px_replay.specs.declared.replay.Extra.TheVariants as extras
use Rattle.px_write.specs.Short.{short_response}
use Rattle.px_addons.specs.Replays.{moment_at, sent_as}
use Rattle.px_addons.specs.Turns.{Given, of_whole_request}

-- the answers about whole requests
abbrev pub of_whole_requests : List Given → List Given
of_whole_requests made = flat_map (λ (given : Given). of_whole_request given.hook (given ∷ [])) made

-- their requests
abbrev pub whole_requests : List Given → List Request
whole_requests made = map (λ (given : Given). given.flow.request) (of_whole_requests made)

-- the answer where no recorded request is the same: of one that goes on nothing is said
abbrev pub IsExtra : Extra → Answer → Type 0
IsExtra extras.Forward answer = Unit {0}
IsExtra extras.Kill answer = answer ≡ answers.Reply replies.Kill
IsExtra (extras.Code status) answer = answer ≡ answers.Reply (replies.Respond (short_response status))

-- the answer by the place that a request got: the response there, with its dates moved where that is wished; or where it got none, the extra answer
abbrev pub IsOfPlace : Bool → Replaying → Option ℕ → Given → Type 0
IsOfPlace refresh s None given = IsExtra s.extra given.answer
IsOfPlace refresh s (Some place) given =
    (response : Response) × (slice_get (map (λ r. r.response) s.recordings) place ≡ Some response)
    × (given.answer ≡ answers.Reply (replies.Respond (sent_as refresh given.flow (moment_at s place) response)))

-- so are all, in their order
abbrev pub AreOfPlaces : Bool → Replaying → List (Option ℕ) → List Given → Type 0
AreOfPlaces refresh s [] [] = Unit {0}
AreOfPlaces refresh s [] (_ ∷ _) = ⊥
AreOfPlaces refresh s (_ ∷ _) [] = ⊥
AreOfPlaces refresh s (place ∷ places) (given ∷ others) = IsOfPlace refresh s place given × AreOfPlaces refresh s places others

-- Each whole request got the least place with its key that no whole request before it got, and was answered by it.
pub record AreOfRecorded (refresh : Bool) (s : Replaying) (made : List Given) : Type 0 where
  pub places : List (Option ℕ)
  pub least : AreReplayed s.reuse (keys_in s) (map (key_of s.how) (whole_requests made)) places
  pub answered : AreOfPlaces refresh s places (of_whole_requests made)
