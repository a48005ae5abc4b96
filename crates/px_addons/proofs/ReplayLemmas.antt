-- What an answer makes of the recorded list, and what answers one behind the other say by it.
use Rattle.std.proofs.Common.{◌≡◌, ◌≢◌, ◌∙◌, ◌<◌, arith, length, ℕ, Bool, true, false, zero, suc, List, [], ◌∷◌, ◌++◌, map, Option, None, Some, refl, sym, ap, subst}
use Rattle.std.specs.Option.{unwrap_or}
use Rattle.std.specs.Prelude.{slice_get}
use Rattle.std.proofs.lemmas.List.{append-nil}
use Rattle.std.proofs.lemmas.List.Concat.{flat_map-append}
use Rattle.px_message.specs.declared.flow.Flow.{Flow}
use Rattle.px_message.specs.declared.request.Request.{Request}
use Rattle.px_message.specs.declared.response.Response.{Response}
use Rattle.px_event.specs.declared.ask.Hook.{Hook}
use Rattle.px_event.specs.declared.ask.Hook.TheVariants as hooks
use Rattle.px_event.specs.declared.reply.Reply.TheVariants as replies
use Rattle.px_core.specs.Answers.{FilesMeaning}
use Rattle.px_core.specs.declared.answerer.Answer.{Answer}
use Rattle.px_core.specs.declared.answerer.Answer.TheVariants as answers
use Rattle.px_core.specs.declared.answerer.Draft.{Draft}
use Rattle.px_core.specs.declared.answerer.Verdict.TheVariants as verdicts
use Rattle.px_replay.proofs.RunLemmas.{replayed}
use Rattle.px_replay.specs.Replayed.{after_all, places}
use Rattle.px_replay.specs.Replaying as replaying
use Rattle.px_replay.specs.Replaying.{IsAnswer, Replaying, got, place_of, started, use_at}
use Rattle.px_replay.specs.declared.options.KeyOptions.{KeyOptions}
use Rattle.px_replay.specs.declared.recorded.Recording.{Recording}
use Rattle.px_replay.specs.declared.replay.Extra.{Extra}
use Rattle.px_replay.specs.declared.replay.Extra.TheVariants as extras
use Rattle.px_replay.specs.declared.replay.Replay.{Replay}
use Rattle.px_replay.specs.declared.replay.Replay.TheVariants as replays
use Rattle.px_addons.specs.Moving.{Moves}
use Rattle.px_core.specs.Drafts.{reply_of}
use Rattle.px_addons.specs.Chain.{Movers, PartsMove, ChainAnswers, allowed, answer_by, begun, is_going}
use Rattle.px_addons.specs.Parts.{parts}
use Rattle.px_addons.specs.Replays.{AsksRecorded, Replays, moment_at, replayed_by, sent_as, unmatched}
use Rattle.px_addons.specs.ReplayRuns.{AreOfPlaces, AreOfRecorded, IsExtra, IsOfPlace, of_whole_requests, whole_requests}
use Rattle.px_addons.specs.Turns.{Given, InTurn, next_given, none_given, of_whole_request}
use Rattle.px_addons.specs.declared.parts.Part.{Part}
use Rattle.px_addons.specs.declared.parts.Part.TheVariants as part
use Rattle.px_addons.specs.declared.rules.Rules.{Rules}
use Rattle.px_addons.proofs.BlockLemmas.{all_passed}
use Rattle.px_addons.proofs.StillLemmas.{IsNone, first_of, parts_still, replay_moved}
use Rattle.px_addons.proofs.WaitLemmas.{ended_allowed}

-- ---- one request more

all_after : (earlier : List Request) (request : Request) (s : Replaying) →
    after_all s (earlier ++ request ∷ []) ≡ replaying.after (after_all s earlier) (place_of (after_all s earlier) request)
all_after [] request s = refl
all_after (first ∷ earlier) request s = all_after earlier request (replaying.after s (place_of s first))

one_place_more : (earlier : List Request) (request : Request) (s : Replaying) →
    places s (earlier ++ request ∷ []) ≡ places s earlier ++ place_of (after_all s earlier) request ∷ []
one_place_more [] request s = refl
one_place_more (first ∷ earlier) request s =
    ap (λ l. place_of s first ∷ l) (one_place_more earlier request (replaying.after s (place_of s first)))

asks_with : (earlier : List Given) (given : Given) →
    of_whole_requests (earlier ++ given ∷ []) ≡ of_whole_requests earlier ++ of_whole_request given.hook (given ∷ [])
asks_with earlier given =
    flat_map-append (λ (g : Given). of_whole_request g.hook (g ∷ [])) earlier (given ∷ [])
    ∙ ap (λ l. of_whole_requests earlier ++ l) (append-nil (of_whole_request given.hook (given ∷ [])))

abbrev requests_in : List Given → List Request
requests_in asks = map (λ (g : Given). g.flow.request) asks

requests_more : (asks : List Given) (given : Given) → requests_in (asks ++ given ∷ []) ≡ requests_in asks ++ given.flow.request ∷ []
requests_more [] given = refl
requests_more (ask ∷ asks) given = ap (λ l. ask.flow.request ∷ l) (requests_more asks given)

-- ---- responses, moments and the extra answer stay

abbrev responses_of : Replaying → List Response
responses_of s = map (λ (r : Recording). r.response) s.recordings

same_responses : (place : ℕ) (rs : List Recording) → map (λ (r : Recording). r.response) (use_at place rs) ≡ map (λ (r : Recording). r.response) rs
same_responses place [] = refl
same_responses zero (r ∷ rs) = refl
same_responses (suc place) (r ∷ rs) = ap (λ l. r.response ∷ l) (same_responses place rs)

responses_stay : (s : Replaying) (place : Option ℕ) → responses_of (replaying.after s place) ≡ responses_of s
responses_stay s None = refl
responses_stay s (Some place) = same_responses place s.recordings

abbrev moments_of : Replaying → List ℕ
moments_of s = map (λ (r : Recording). r.moment) s.recordings

same_moments : (place : ℕ) (rs : List Recording) → map (λ (r : Recording). r.moment) (use_at place rs) ≡ map (λ (r : Recording). r.moment) rs
same_moments place [] = refl
same_moments zero (r ∷ rs) = refl
same_moments (suc place) (r ∷ rs) = ap (λ l. r.moment ∷ l) (same_moments place rs)

pub moments_stay : (s : Replaying) (place : Option ℕ) → moments_of (replaying.after s place) ≡ moments_of s
moments_stay s None = refl
moments_stay s (Some place) = same_moments place s.recordings

all_moments_stay : (asked : List Request) (s : Replaying) → moments_of (after_all s asked) ≡ moments_of s
all_moments_stay [] s = refl
all_moments_stay (request ∷ requests) s = all_moments_stay requests (replaying.after s (place_of s request)) ∙ moments_stay s (place_of s request)

extra_stays : (s : Replaying) (place : Option ℕ) → (replaying.after s place).extra ≡ s.extra
extra_stays s None = refl
extra_stays s (Some place) = refl

all_responses_stay : (asked : List Request) (s : Replaying) → responses_of (after_all s asked) ≡ responses_of s
all_responses_stay [] s = refl
all_responses_stay (request ∷ requests) s = all_responses_stay requests (replaying.after s (place_of s request)) ∙ responses_stay s (place_of s request)

all_extra_stays : (asked : List Request) (s : Replaying) → (after_all s asked).extra ≡ s.extra
all_extra_stays [] s = refl
all_extra_stays (request ∷ requests) s = all_extra_stays requests (replaying.after s (place_of s request)) ∙ extra_stays s (place_of s request)

-- ---- what one ask makes

pub got_within : {A B : Type 0} (of : A → B) (list : List A) (place : ℕ) (there : B) → slice_get (map of list) place ≡ Some there → place < length list
got_within of [] zero there is = absurd cc
got_within of [] (suc place) there is = absurd cc
got_within of (x ∷ xs) zero there is = omega arith
got_within of (x ∷ xs) (suc place) there is = omega (arith, got_within of xs place there is)

pub is_within : (s now : Replaying) (place : ℕ) (response : Response) → slice_get (responses_of s) place ≡ Some response → now ≡ replaying.after s (Some place) →
    place < length now.recordings
is_within s now place response there is =
    got_within (λ (r : Recording). r.response) now.recordings place response
    (subst (λ l. slice_get l place ≡ Some response) (sym (ap responses_of is ∙ responses_stay s (Some place))) there)

told_moment : (s now : Replaying) (place moment : ℕ) → now ≡ replaying.after s (Some place) → slice_get (moments_of now) place ≡ Some moment → moment ≡ moment_at s place
told_moment s now place moment is told =
    sym (ap (λ l. unwrap_or (slice_get l place) 0) (sym (ap moments_of is ∙ moments_stay s (Some place))) ∙ ap (λ m. unwrap_or m 0) told)

abbrev replied_with : Draft → Response → Draft
replied_with draft response = record draft { verdict = verdicts.Respond response }

pub found_within : (s now : Replaying) (request : Request) (answer : Replay) (place : ℕ) (response : Response) → answer ≡ replays.Found place response →
    IsAnswer s request answer → now ≡ replaying.after s (got answer) → place < length now.recordings
found_within s now request answer place response found is used =
    is_within s now place response (subst (λ a. IsAnswer s request a) found is).1 (used ∙ ap (λ a. replaying.after s (got a)) found)

pub asks_found : (refresh : Bool) (s now : Replaying) (request : Request) (answer : Replay) (draft left : Draft) (place moment : ℕ) (response : Response) →
    answer ≡ replays.Found place response → request ≡ draft.flow.request → IsAnswer s request answer → now ≡ replaying.after s (got answer) →
    slice_get (moments_of now) place ≡ Some moment → left ≡ replied_with draft (sent_as refresh draft.flow moment response) → AsksRecorded refresh draft s left (Some now)
asks_found refresh s now request answer draft left place moment response found same is used told made =
    let used_so : now ≡ replaying.after s (Some place) = used ∙ ap (λ a. replaying.after s (got a)) found in
    record {
      answer = replays.Found place response;
      answers = subst (λ r. IsAnswer s r (replays.Found place response)) same (subst (λ a. IsAnswer s request a) found is);
      drafted = made ∙ ap (λ m. replied_with draft (sent_as refresh draft.flow m response)) (told_moment s now place moment used_so told);
      used = ap Some used_so;
    }

pub asks_extra : (refresh : Bool) (s now : Replaying) (request : Request) (answer : Replay) (draft left : Draft) (extra : Extra) →
    answer ≡ replays.Extra extra → request ≡ draft.flow.request → IsAnswer s request answer → now ≡ replaying.after s (got answer) → left ≡ unmatched extra draft →
    AsksRecorded refresh draft s left (Some now)
asks_extra refresh s now request answer draft left extra found same is used made = record {
  answer = replays.Extra extra;
  answers = subst (λ r. IsAnswer s r (replays.Extra extra)) same (subst (λ a. IsAnswer s request a) found is);
  drafted = made;
  used = ap Some (used ∙ ap (λ a. replaying.after s (got a)) found);
}

-- ---- what a request got, and the answer

got_place : (s : Replaying) (request : Request) (replay : Replay) → IsAnswer s request replay → got replay ≡ place_of s request
got_place s request (replays.Found place response) is = sym is.0
got_place s request (replays.Extra extra) is = sym is.0

found_ends : (refresh : Bool) (s : Replaying) (replay : Replay) (place : ℕ) (draft left : Draft) → got replay ≡ Some place → left ≡ replayed_by refresh s replay draft →
    is_going left.verdict ≡ false
found_ends refresh s (replays.Found other response) place draft left is drafted = ap (λ (d : Draft). is_going d.verdict) drafted
found_ends refresh s (replays.Extra extra) place draft left is drafted = absurd cc

-- what a draft says that ended the order
abbrev SaysAtEnd : Draft → Answer → Type 0
SaysAtEnd left answer = is_going left.verdict ≡ false → answer ≡ answers.Reply (reply_of left)

ends_so : (made left : Draft) (answer : Answer) → left ≡ made → is_going made.verdict ≡ false → SaysAtEnd left answer → answer ≡ answers.Reply (reply_of made)
ends_so made left answer drafted over says =
    says (ap (λ (d : Draft). is_going d.verdict) drafted ∙ over) ∙ ap (λ d. answers.Reply (reply_of d)) drafted

of_extra : (extra : Extra) (draft left : Draft) (answer : Answer) → left ≡ unmatched extra draft → SaysAtEnd left answer → IsExtra extra answer
of_extra extras.Forward draft left answer drafted says = tt
of_extra extras.Kill draft left answer drafted says = ends_so _ left answer drafted refl says
of_extra (extras.Code status) draft left answer drafted says = ends_so _ left answer drafted refl says

of_place : (refresh : Bool) (s : Replaying) (replay : Replay) (draft left : Draft) (given : Given) → draft.flow ≡ given.flow → IsAnswer s given.flow.request replay →
    left ≡ replayed_by refresh s replay draft → SaysAtEnd left given.answer → IsOfPlace refresh s (got replay) given
of_place refresh s (replays.Found place response) draft left given same is drafted says = (
  response,
  is.1,
  ends_so _ left given.answer drafted refl says
      ∙ ap (λ flow. answers.Reply (replies.Respond (sent_as refresh flow (moment_at s place) response))) same,
)
of_place refresh s (replays.Extra extra) draft left given same is drafted says =
    subst (λ e. IsExtra e given.answer) is.1 (of_extra extra draft left given.answer drafted says)

same_place : (refresh : Bool) (s now : Replaying) (place : Option ℕ) (given : Given) → now.extra ≡ s.extra → responses_of now ≡ responses_of s → moments_of now ≡ moments_of s →
    IsOfPlace refresh now place given → IsOfPlace refresh s place given
same_place refresh s now None given extra same moments is = subst (λ e. IsExtra e given.answer) extra is
same_place refresh s now (Some place) given extra same moments is = (
  is.0,
  subst (λ l. slice_get l place ≡ Some is.0) same is.1,
  is.2 ∙ ap (λ l. answers.Reply (replies.Respond (sent_as refresh given.flow (unwrap_or (slice_get l place) 0) is.0))) moments,
)

one_answer_more : (refresh : Bool) (s : Replaying) (got_places : List (Option ℕ)) (asks : List Given) (place : Option ℕ) (given : Given) → AreOfPlaces refresh s got_places asks →
    IsOfPlace refresh s place given → AreOfPlaces refresh s (got_places ++ place ∷ []) (asks ++ given ∷ [])
one_answer_more refresh s [] [] place given all is = (is, tt)
one_answer_more refresh s [] (other ∷ others) place given all is = absurd all
one_answer_more refresh s (other ∷ others) [] place given all is = absurd all
one_answer_more refresh s (p ∷ ps) (a ∷ asks) place given all is = (all.0, one_answer_more refresh s ps asks place given all.1 is)

module _ {B : Type 0} (title state : B → List ℕ) (moves : B → Moves) where
  -- ---- one answer

  pub stays_elsewhere : (hook : Hook) (flow : Flow) (rules new_rules : Rules) (old new : Movers B) (files new_files : FilesMeaning) (answer : Answer) →
      hook ≢ hooks.RequestBody → ChainAnswers title state moves hook flow rules old files new_rules new new_files answer → new.replay ≡ old.replay
  stays_elsewhere hooks.RequestHead flow rules new_rules old new files new_files answer other given =
      parts_still title state moves part.ServerReplay (λ m. m.replay) replay_moved rules hooks.RequestHead (parts hooks.RequestHead) (begun flow rules.stream) given.left old new files new_files
      ((λ e. cc), ((λ e. cc), ((λ e. cc), ((λ e. cc), ((λ e. cc), ((λ e. cc), ((λ e. cc), ((λ e. cc), ((λ e. cc), tt))))))))) given.moved
  stays_elsewhere hooks.RequestBody flow rules new_rules old new files new_files answer other given = absurd (other refl)
  stays_elsewhere hooks.ResponseHead flow rules new_rules old new files new_files answer other given =
      parts_still title state moves part.ServerReplay (λ m. m.replay) replay_moved rules hooks.ResponseHead (parts hooks.ResponseHead) (begun flow rules.stream) given.left old new files new_files
      ((λ e. cc), ((λ e. cc), ((λ e. cc), tt))) given.moved
  stays_elsewhere hooks.ResponseBody flow rules new_rules old new files new_files answer other given =
      parts_still title state moves part.ServerReplay (λ m. m.replay) replay_moved rules hooks.ResponseBody (parts hooks.ResponseBody) (begun flow rules.stream) given.left old new files new_files
      ((λ e. cc), ((λ e. cc), tt)) given.moved
  stays_elsewhere (hooks.WsMessage side) flow rules new_rules old new files new_files answer other given =
      parts_still title state moves part.ServerReplay (λ m. m.replay) replay_moved rules (hooks.WsMessage side) (parts (hooks.WsMessage side)) (begun flow rules.stream) given.left old new files new_files
      ((λ e. cc), ((λ e. cc), tt)) given.moved

  -- what came of it that a whole request was asked of the recorded list
  pub record WasAsked (refresh : Bool) (recorded : Replaying) (given : Given) (old new : Movers B) (files new_files : FilesMeaning) : Type 0 where
    pub replay : Replay
    pub is : IsAnswer recorded given.flow.request replay
    pub used : new.replay ≡ Some (replaying.after recorded (got replay))
    pub said : IsOfPlace refresh recorded (got replay) given
    pub alone : (place : ℕ) → got replay ≡ Some place → (new.addons ≡ old.addons) × (new_files ≡ files)

  parts_asked : (rules : Rules) (hook : Hook) (recorded : Replaying) (others : List Part) (draft end : Draft) (old new : Movers B) (files new_files : FilesMeaning) (given : Given) →
      is_going draft.verdict ≡ true → draft.flow ≡ given.flow → old.replay ≡ Some recorded → IsNone part.ServerReplay others → given.answer ≡ answer_by rules hook (allowed rules old.replay end) →
      PartsMove title state moves rules hook (part.ServerReplay ∷ others) draft old files end new new_files →
      WasAsked rules.refresh recorded given old new files new_files
  parts_asked rules hook recorded others draft end old new files new_files given going same has are answered parted =
      let first = first_of title state moves rules hook part.ServerReplay others draft end old new files new_files parted in
      let moved = first.moved going in
      let asked : AsksRecorded rules.refresh draft recorded first.after first.mid.replay = subst (λ r. Replays rules.refresh draft r first.after first.mid.replay) has moved.0 in
      let passed = λ (over : is_going first.after.verdict ≡ false).
      all_passed title state moves rules hook others first.after end first.mid new first.mid_files new_files first.behind over in
      let is : IsAnswer recorded given.flow.request asked.answer = subst (λ (f : Flow). IsAnswer recorded f.request asked.answer) same asked.answers in
      record {
        replay = asked.answer;
        is = is;
        used = parts_still title state moves part.ServerReplay (λ m. m.replay) replay_moved rules hook others first.after end first.mid new first.mid_files new_files are first.behind ∙ asked.used;
        said = of_place rules.refresh recorded asked.answer draft first.after given same is asked.drafted
            (λ over. answered ∙ ap (λ d. answer_by rules hook (allowed rules old.replay d)) (passed over).0 ∙ ended_allowed rules hook old.replay first.after over);
        alone = λ place found.
            let last = passed (found_ends rules.refresh recorded asked.answer place draft first.after found asked.drafted) in
            (ap (λ (m : Movers B). m.addons) (last.1 ∙ moved.1), last.2 ∙ moved.2);
      }

  pub whole_asked : (flow : Flow) (rules new_rules : Rules) (old new : Movers B) (files new_files : FilesMeaning) (recorded : Replaying) (answer : Answer) →
      old.replay ≡ Some recorded → ChainAnswers title state moves hooks.RequestBody flow rules old files new_rules new new_files answer →
      WasAsked rules.refresh recorded (record { hook = hooks.RequestBody; flow = flow; answer = answer }) old new files new_files
  whole_asked flow rules new_rules old new files new_files recorded answer has given =
      parts_asked rules hooks.RequestBody recorded (part.ModifyBody ∷ part.Addons ∷ []) (begun flow rules.stream) given.left old new files new_files
      (record { hook = hooks.RequestBody; flow = flow; answer = answer }) refl refl has ((λ e. cc), ((λ e. cc), tt))
      (given.answered ∙ ap (λ d. answer_by rules hooks.RequestBody d) given.limited) given.moved

  pub found_answers : (flow : Flow) (rules new_rules : Rules) (old new : Movers B) (files new_files : FilesMeaning) (recorded : Replaying) (place : ℕ) (answer : Answer) →
      old.replay ≡ Some recorded → place_of recorded flow.request ≡ Some place →
      ChainAnswers title state moves hooks.RequestBody flow rules old files new_rules new new_files answer →
      IsOfPlace rules.refresh recorded (Some place) (record { hook = hooks.RequestBody; flow = flow; answer = answer })
      × (new.replay ≡ Some (replaying.after recorded (Some place))) × (new.addons ≡ old.addons) × (new_files ≡ files)
  found_answers flow rules new_rules old new files new_files recorded place answer has found given =
      let this : Given = record { hook = hooks.RequestBody; flow = flow; answer = answer } in
      let asked = whole_asked flow rules new_rules old new files new_files recorded answer has given in
      let is : got asked.replay ≡ Some place = got_place recorded flow.request asked.replay asked.is ∙ found in
      let alone = asked.alone place is in (
        subst (λ p. IsOfPlace rules.refresh recorded p this) is asked.said,
        asked.used ∙ ap (λ p. Some (replaying.after recorded p)) is,
        alone.0,
        alone.1,
      )

  -- ---- answers one behind the other

  record Stands (refresh : Bool) (s : Replaying) (asks : List Given) (last : Option Replaying) : Type 0 where
    is : last ≡ Some (after_all s (requests_in asks))
    said : AreOfPlaces refresh s (places s (requests_in asks)) asks

  stays : (refresh : Bool) (s : Replaying) (asks : List Given) (replay new_replay : Option Replaying) → Stands refresh s asks replay → new_replay ≡ replay →
      Stands refresh s (asks ++ []) new_replay
  stays refresh s asks replay new_replay so same =
      subst (λ l. Stands refresh s l new_replay) (sym (append-nil asks)) (record { is = same ∙ so.is; said = so.said })

  grows : (refresh : Bool) (s : Replaying) (asks : List Given) (replay : Option Replaying) (given : Given) (old new : Movers B) (files new_files : FilesMeaning) →
      Stands refresh s asks replay → WasAsked refresh (after_all s (requests_in asks)) given old new files new_files →
      Stands refresh s (asks ++ given ∷ []) new.replay
  grows refresh s asks replay given old new files new_files so asked =
      let requests = requests_in asks in
      let now = after_all s requests in
      let place : got asked.replay ≡ place_of now given.flow.request = got_place now given.flow.request asked.replay asked.is in
      record {
        is = asked.used ∙ ap (λ p. Some (replaying.after now p)) place ∙ ap Some (sym (all_after requests given.flow.request s))
            ∙ ap (λ l. Some (after_all s l)) (sym (requests_more asks given));
        said = subst (λ l. AreOfPlaces refresh s l (asks ++ given ∷ [])) (sym (ap (places s) (requests_more asks given) ∙ one_place_more requests given.flow.request s))
            (one_answer_more refresh s (places s requests) asks (place_of now given.flow.request) given so.said
            (same_place refresh s now (place_of now given.flow.request) given (all_extra_stays requests s) (all_responses_stay requests s) (all_moments_stay requests s)
            (subst (λ p. IsOfPlace refresh now p given) place asked.said)));
      }

  next_stands : (s : Replaying) (asks : List Given) (hook : Hook) (flow : Flow) (rules new_rules : Rules) (old new : Movers B)
      (files new_files : FilesMeaning) (answer : Answer) → Stands rules.refresh s asks old.replay →
      ChainAnswers title state moves hook flow rules old files new_rules new new_files answer →
      Stands rules.refresh s (asks ++ of_whole_request hook ((record { hook = hook; flow = flow; answer = answer }) ∷ [])) new.replay
  next_stands s asks hooks.RequestHead flow rules new_rules old new files new_files answer so by =
      stays rules.refresh s asks old.replay new.replay so (stays_elsewhere hooks.RequestHead flow rules new_rules old new files new_files answer (λ e. cc) by)
  next_stands s asks hooks.RequestBody flow rules new_rules old new files new_files answer so by =
      grows rules.refresh s asks old.replay (record { hook = hooks.RequestBody; flow = flow; answer = answer }) old new files new_files so
      (whole_asked flow rules new_rules old new files new_files (after_all s (requests_in asks)) answer so.is by)
  next_stands s asks hooks.ResponseHead flow rules new_rules old new files new_files answer so by =
      stays rules.refresh s asks old.replay new.replay so (stays_elsewhere hooks.ResponseHead flow rules new_rules old new files new_files answer (λ e. cc) by)
  next_stands s asks hooks.ResponseBody flow rules new_rules old new files new_files answer so by =
      stays rules.refresh s asks old.replay new.replay so (stays_elsewhere hooks.ResponseBody flow rules new_rules old new files new_files answer (λ e. cc) by)
  next_stands s asks (hooks.WsMessage side) flow rules new_rules old new files new_files answer so by =
      stays rules.refresh s asks old.replay new.replay so (stays_elsewhere (hooks.WsMessage side) flow rules new_rules old new files new_files answer (λ e. cc) by)

  all_stand : (s : Replaying) (rules : Rules) (first last : Movers B) (made : List Given) → first.replay ≡ Some s → InTurn title state moves rules first made last →
      Stands rules.refresh s (of_whole_requests made) last.replay
  all_stand s rules first last made has none_given = record { is = has; said = tt }
  all_stand s rules first last made has (next_given earlier _ hook flow new_rules old _ addons files new_files answer before by split) =
      let given : Given = record { hook = hook; flow = flow; answer = answer } in
      let next = next_stands s (of_whole_requests earlier) hook flow rules new_rules (record old { addons = addons }) last files new_files answer
      (all_stand s rules first old earlier has before) by in
      subst (λ l. Stands rules.refresh s (of_whole_requests l) last.replay) (sym split)
      (subst (λ l. Stands rules.refresh s l last.replay) (sym (asks_with earlier given)) next)

  pub least_places : (how : KeyOptions) (reuse : Bool) (extra : Extra) (flows : List Flow) (rules : Rules) (first last : Movers B) (made : List Given) →
      first.replay ≡ Some (started how reuse extra flows) → InTurn title state moves rules first made last → AreOfRecorded rules.refresh (started how reuse extra flows) made
  least_places how reuse extra flows rules first last made has by = record {
    places = places (started how reuse extra flows) (whole_requests made);
    least = replayed how reuse extra flows (whole_requests made);
    answered = (all_stand (started how reuse extra flows) rules first last made has by).said;
  }
