-- What the closed form says of a request where something was heard of the parked side: the same as if none were parked. So a stage may forget it.
use Rattle.std.proofs.Common.{◌≡◌, ℕ, ◌+◌, Bool, true, false, List, [], ◌∷◌, ◌++◌, length, Option, Some, None, refl, ap, sym, ◌∙◌}
use Rattle.std.specs.Prelude.{◌&&◌, take}
use Rattle.px_message.specs.declared.fault.Fault.{Fault}
use Rattle.px_message.specs.declared.request.Request.{Request}
use Rattle.px_event.specs.declared.command.Command.{Command}
use Rattle.px_event.specs.declared.command.Command.TheVariants as commands
use Rattle.px_event.specs.declared.event.Event.{Event}
use Rattle.px_event.specs.Chain.{Timed}
use Rattle.px_read.specs.Items.{Answers, Body, Item, missing, part, complete, bad_head, bad_body}
use Rattle.px_read.specs.Laws.{head_in}
use Rattle.px_read.specs.declared.head.RequestHead.{RequestHead}
use Rattle.px_read.specs.declared.head.ResponseHead.{ResponseHead}
use Rattle.px_read.proofs.AnswerLemmas.{AnswersCarry}
use Rattle.px_exchange.specs.declared.asked.Judged.{Judged}
use Rattle.px_exchange.specs.declared.asked.Judged.TheVariants.{Refused, Accepted, Connects}
use Rattle.px_exchange.specs.declared.terms.Terms.{Terms}
use Rattle.px_exchange.specs.Endings.{read_persists, sent_persists}
use Rattle.px_exchange.specs.Places.{dialled_for, server_for}
use Rattle.px_exchange.specs.Requests.{expects, judged}
use Rattle.px_exchange.specs.Texts.{meets_expectation}
use Rattle.px_chain.specs.Behind.{used_behind}
use Rattle.px_chain.specs.Chain.{parked_for}
use Rattle.px_chain.specs.Keeping.{is_silent, keeps_side, parks, unspoilt_at, unspoilt_by}
use Rattle.px_chain.specs.Sights.{Sight, UsedBytes, answers_in, left_by_answers, sight_of, used_by_answers}
use Rattle.px_chain.specs.Stages.{At, Parked, side_parked, unparked}
use Rattle.px_chain.specs.Streams.{Since}
use Rattle.px_said.specs.ClosedForm.{Point, Served, behind_request, connected_at, next_point, parked_behind, parked_if, request_is_whole, said_asked, said_by, said_connected, said_dialled, said_from, said_judged, said_whole, still_parked, whole_request}
use Rattle.px_said.proofs.ClosedFronts.{IsFront, Waits, same_taken}
use Rattle.px_said.proofs.ClosedStages.{standing}
use Rattle.px_said.proofs.ParkedFronts.{gone_later, least_behind, left_told, still_same}
use Rattle.px_text.proofs.LeastLemmas.{least-Some}

-- the same place, with no side parked
abbrev pub bare : Point → Point
bare point = record point { parked = None; used = 0 }

module _ (terms : Terms) (events : List (Timed Event)) where
  -- ---- where none is parked by the time that the request goes on

  dialled_bare : (point : Point) (request : Request) (come : ℕ) (dials : List (Option Fault)) (further : Point → List Command) →
      said_dialled terms events point request come dials further ≡ said_dialled terms events (bare point) request come dials further
  dialled_bare point request come [] further = refl
  dialled_bare point request come (Some fault ∷ dials) further = refl
  dialled_bare point request come (None ∷ dials) further = refl

  pub by_bare : (point : Point) (request : Request) (come : ℕ) (further : Point → List Command) →
      said_by terms events point request come None further ≡ said_by terms events (bare point) request come None further
  by_bare point request come further =
      let dial : Command = commands.Dial point.server (dialled_for terms.place request) None in ap (λ l. dial ∷ l) (dialled_bare point request come point.dials further)

  abbrev IsGoneAt : Point → ℕ → Type 0
  IsGoneAt point come = still_parked (take come events) point.parked point.opened point.used ≡ None

  abbrev IsGone : Point → Option ℕ → Type 0
  IsGone point connected = (come : ℕ) → connected ≡ Some come → IsGoneAt point come

  connected_bare : (point : Point) (request : Request) (connected : Option ℕ) (further : Point → List Command) → IsGone point connected →
      said_connected terms events point request connected further ≡ said_connected terms events (bare point) request connected further
  connected_bare point request None further gone = refl
  connected_bare point request (Some come) further gone =
      ap (λ parked. said_by terms events point request come (parked_for terms.place request parked) further) (gone come refl) ∙ by_bare point request come further

  pub whole_bare : (point : Point) (request : Request) (item : Item RequestHead) (further : Point → List Command) → IsGone point (connected_at events point) →
      said_whole terms events point request item further ≡ said_whole terms events (bare point) request item further
  whole_bare point request missing further gone = refl
  whole_bare point request (part head body) further gone = refl
  whole_bare point request (complete head body trailers used) further gone =
      connected_bare (behind_request point used) (whole_request request body trailers) (connected_at events point) further gone
  whole_bare point request (bad_head fault) further gone = refl
  whole_bare point request (bad_body fault head body) further gone = refl

  judged_bare : (point : Point) (head : RequestHead) (made : Judged) (item : Item RequestHead) (further : Point → List Command) → IsGone point (connected_at events point) →
      said_judged terms events point head made item further ≡ said_judged terms events (bare point) head made item further
  judged_bare point head (Refused fault) item further gone = refl
  judged_bare point head (Connects address) item further gone = refl
  judged_bare point head (Accepted request) item further gone = ap (λ l. meets_expectation (expects head) ++ l) (whole_bare point request item further gone)

  asked_bare : (point : Point) (head : Option RequestHead) (item : Item RequestHead) (further : Point → List Command) → IsGone point (connected_at events point) →
      said_asked terms events point head item further ≡ said_asked terms events (bare point) head item further
  asked_bare point None item further gone = refl
  asked_bare point (Some head) item further gone = judged_bare point head (judged terms.place head) item further gone

  pub from_bare : (point : Point) (items : List (Item RequestHead)) → IsGone point (connected_at events point) →
      said_from terms events point items ≡ said_from terms events (bare point) items
  from_bare point [] gone = refl
  from_bare point (item ∷ items) gone = asked_bare point (head_in item) item (λ next. said_from terms events next items) gone

  -- ---- a stage that forgets a side of which something was heard

  module _ (since : Since) (opened : ℕ) (used : UsedBytes) (up : ℕ) (prefix : List (Timed Event)) (is_front : IsFront prefix events) where
    -- with this side parked
    abbrev seen_with : Option Parked → Sight
    seen_with parked = sight_of (side_parked parked) since opened used up prefix

    module _ (at : At) (from : ℕ) (dials : List (Option Fault)) where
      abbrev here_with : Option Parked → Point
      here_with parked = standing (record at { parked = parked }) opened used from dials

      module _ (request : Request) (item : Item RequestHead) (further : Point → List Command) where
        abbrev whole_with : Option Parked → List Command
        whole_with parked = said_whole terms events (here_with parked) request item further

        none_forgotten : (silent : Bool) → whole_with None ≡ whole_with (unspoilt_by silent None)
        none_forgotten true = refl
        none_forgotten false = refl

        some_forgotten : (silent : Bool) (parked : Parked) → let seen = seen_with (Some parked) in is_silent seen.server seen.shut ≡ silent →
            Waits (request_is_whole events used.client) from (length prefix) → whole_with (Some parked) ≡ whole_with (unspoilt_by silent (Some parked))
        some_forgotten true parked is waits = refl
        some_forgotten false parked is waits =
            whole_bare (here_with (Some parked)) request item further
            (λ come connected. gone_later (Some parked) opened used.server prefix events come is_front
            (least_behind (request_is_whole events used.client) from (length prefix) (length events + 1) come waits connected) (ap (λ b. parked_if b parked) is))

        forgotten_with : (parked : Option Parked) → Waits (request_is_whole events used.client) from (length prefix) →
            let seen = seen_with parked in whole_with parked ≡ whole_with (unspoilt_by (is_silent seen.server seen.shut) parked)
        forgotten_with None waits = none_forgotten _
        forgotten_with (Some parked) waits = some_forgotten _ parked refl waits

        -- that is said of its request, where that is not whole over fewer events
        pub forgotten : Waits (request_is_whole events used.client) from (length prefix) →
            whole_with at.parked ≡ said_whole terms events (standing (unspoilt_at at (seen_with at.parked)) opened used from dials) request item further
        forgotten waits = forgotten_with at.parked waits

      -- ---- a request that goes on over the prefix

      module _ (size : ℕ) (request : Request) (further : Point → List Command) where
        abbrev said_to : Option Parked → Option Parked → List Command
        said_to parked to = said_by terms events (behind_request (here_with parked) size) request (length prefix) (parked_for terms.place request to) further

        -- what is still parked over so many of all events
        abbrev now_parked : Option Parked → Option Parked
        now_parked parked = still_parked (take (length prefix) events) parked opened (used_behind false (side_parked parked) used.server)

        none_now : (silent : Bool) → said_to None None ≡ said_to (unspoilt_by silent None) (unspoilt_by silent None)
        none_now true = refl
        none_now false = refl

        some_now : (silent : Bool) (parked : Parked) →
            said_to (Some parked) (parked_if silent parked) ≡ said_to (unspoilt_by silent (Some parked)) (unspoilt_by silent (Some parked))
        some_now true parked = refl
        some_now false parked = by_bare (behind_request (here_with (Some parked)) size) request (length prefix) further

        now_with : (parked : Option Parked) → let seen = seen_with parked in let kept = unspoilt_by (is_silent seen.server seen.shut) parked in
            said_to parked (now_parked parked) ≡ said_to kept kept
        now_with None = none_now _
        now_with (Some parked) =
            ap (said_to (Some parked)) (sym (still_same (Some parked) opened used.server prefix (take (length prefix) events) (same_taken prefix events is_front)))
            ∙ some_now _ parked

        -- it goes to the side that its stage has kept
        pub goes_now : let there = unspoilt_at at (seen_with at.parked) in
            said_to at.parked (now_parked at.parked)
            ≡ said_by terms events (behind_request (standing there opened used from dials) size) request (length prefix) (parked_for terms.place request there.parked) further
        goes_now = now_with at.parked

    -- ---- behind a response

    module _ (at : At) (from : ℕ) (dials : List (Option Fault)) (request : Request) (side went : ℕ) (items : List (Item RequestHead)) where
      abbrev seen_there : Sight
      seen_there = sight_of (Some side) since opened used up prefix

      abbrev found_there : Answers
      found_there = answers_in request seen_there

      abbrev used_there : ℕ
      used_there = used_by_answers found_there used.server

      abbrev parked_there : Parked
      parked_there = record { server = side; address = server_for terms.place request }

      -- where the next request stands in the closed form, and the walk
      abbrev next_with : Option Parked → Point
      next_with parked =
          record { flow = at.flow + 1; server = at.dials; bytes = used.client; events = length prefix; dials = dials; parked = parked; opened = opened; used = used_there }

      abbrev next_at : Bool → At
      next_at kept = let parked = parks kept terms.place at request side in record parked { flow = parked.flow + 1 }

      abbrev used_at : Bool → UsedBytes
      used_at kept = record { client = used.client; server = used_behind false (side_parked (next_at kept).parked) used_there }

      abbrev Parks : Bool → Bool → Type 0
      Parks persist kept =
          said_from terms events (next_with (parked_if persist parked_there)) items ≡ said_from terms events (standing (next_at kept) opened (used_at kept) (length prefix) dials) items

      parks_by : (silent persist : Bool) → is_silent (left_by_answers found_there seen_there.server) seen_there.shut ≡ silent → Parks persist (silent && persist)
      parks_by true true is = refl
      parks_by true false is = from_bare (next_with None) items (λ come connected. refl)
      parks_by false false is = from_bare (next_with None) items (λ come connected. refl)
      parks_by false true is =
          from_bare (next_with (Some parked_there)) items
          (λ come connected. gone_later (Some parked_there) opened used_there prefix events come is_front
          (least-Some (request_is_whole events used.client) (length prefix) (length events + 1) come connected).from
          (ap (λ b. parked_if b parked_there) (sym (left_told request side since opened used up prefix) ∙ is)))

      -- the responses that are seen are those of all events, where they are whole
      pub parks_said : (all : Answers) (head : ResponseHead) (body : Body) (trailers : List (List ℕ × List ℕ)) (size : ℕ) → all ≡ found_there →
          found_there.final ≡ complete head body trailers size →
          let kept = keeps_side request seen_there head in
          said_from terms events (next_point terms.place (standing (unparked at) opened used from dials) (record { server = side; opened = opened; used = used.server; went = went }) request all (length prefix)) items
          ≡ said_from terms events (standing (next_at kept) opened (used_at kept) (length prefix) dials) items
      parks_said all head body trailers size same is =
          let served : Served = record { server = side; opened = opened; used = used.server; went = went } in
          let here : Point = standing (unparked at) opened used from dials in
          let next : Answers → Item ResponseHead → List Command = λ answers item.
          said_from terms events (record (next_point terms.place here served request answers (length prefix)) { parked = parked_behind terms.place request item side }) items in
          ap (λ (answers : Answers). next answers answers.final) same
          ∙ (ap (next found_there) is ∙ parks_by _ (sent_persists request && read_persists request head) refl)

-- the responses over a prefix that has the whole final one are those over all events
pub all_there : (found all : Answers) (head : ResponseHead) (body : Body) (trailers : List (List ℕ × List ℕ)) (size : ℕ) → AnswersCarry found all →
    found.final ≡ complete head body trailers size → all ≡ found
all_there found all head body trailers size carried is =
    let begun = carried.begun (rw is refl) in
    let final : all.final ≡ found.final = carried.final.stays (rw is refl) in
    λ i. record { interim = begun.0 i; used = begun.1 i; final = final i }
