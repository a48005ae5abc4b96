-- Where something is found behind passing, a stage passes with a piece more as it does without it, and leaves the piece.
use Rattle.std.proofs.Common.{◌≡◌, ℕ, Bool, true, false, List, [], ◌++◌, Option, Some, None, refl, ap, sym, ◌∙◌, subst}
use Rattle.std.specs.Prelude.{◌&&◌, ◌||◌, ◌∷◌, ⊤}
use Rattle.std.proofs.lemmas.List.{append-nil}
use Rattle.px_message.specs.declared.flow.Flow.{Flow}
use Rattle.px_message.specs.declared.request.Request.{Request}
use Rattle.px_message.specs.declared.response.Response.{Response}
use Rattle.px_event.specs.declared.command.Command.{Command}
use Rattle.px_event.specs.declared.command.Command.TheVariants as commands
use Rattle.px_event.specs.declared.event.Event.{Event}
use Rattle.px_event.specs.declared.event.Event.TheVariants as events
use Rattle.px_event.specs.declared.side.Side.{Side}
use Rattle.px_event.specs.declared.side.Side.TheVariants.{Client, Server}
use Rattle.px_event.specs.Chain.{Turn}
use Rattle.px_event.specs.Laws.{IsFound}
use Rattle.px_event.specs.Sides.{piece_of}
use Rattle.px_read.specs.Items.{answer_list, Item, missing, part, complete, bad_head, bad_body, request_item}
use Rattle.px_read.specs.Laws.{head_in, is_begun, is_decided}
use Rattle.px_read.specs.declared.head.RequestHead.{RequestHead as ReadRequest}
use Rattle.px_read.specs.declared.head.ResponseHead.{ResponseHead as ReadResponse}
use Rattle.px_read.proofs.ItemLemmas.{request_used}
use Rattle.px_read.proofs.LawLemmas.{chunk_laws}
use Rattle.px_write.specs.Error.{fault_message}
use Rattle.px_exchange.specs.declared.ending.Used.{Used}
use Rattle.px_exchange.specs.declared.ending.Used.TheVariants.{ByServer, NoServer}
use Rattle.px_exchange.specs.declared.place.Place.{Place}
use Rattle.px_exchange.specs.declared.terms.Terms.{Terms}
use Rattle.px_exchange.specs.Endings.{closed_message, ends_by_fault, ends_early, shut_server, shut_unless, unless_kept, without_response}
use Rattle.px_exchange.specs.Finds.{look_answer, look_body, look_returned, or_leaves}
use Rattle.px_exchange.specs.Flows.{with_end}
use Rattle.px_exchange.specs.Places.{form_at, is_same_address, server_for}
use Rattle.px_exchange.specs.Requests.{is_head}
use Rattle.px_parts.specs.Texts.{left_of}
use Rattle.px_chain.specs.Chain.{IsOnward, bad_or, behind_flow, come_down, end_up, goes_to, goes_up_by, keeps_came, look, look_coming, parked_for, pass, pass_came, pass_given, pass_going, pass_kept, past_came, past_gone, past_kept, reached, side_if, sight_come, sight_ended, sight_past}
use Rattle.px_chain.specs.Coming.{Came, came_by, came_in, coming_by, coming_text, goes_on_behind, streaming, streams_by, streams_in}
use Rattle.px_chain.specs.Going.{goes_up, going_by, is_sent, sending_on, sends_going, sends_up, whole_by, whole_in, with_whole}
use Rattle.px_chain.specs.Sights.{Sight, answers_in, left_by, server_parked, server_with, shut_with}
use Rattle.px_chain.specs.Stages.{At, Doing, Parked, Sent, Stage, all_sent, busy, coming_down, connection, given_body, given_head, going_up, idle, next, over, request_body, response_body, response_head, side_of, side_parked, unparked, upgraded}
use Rattle.px_chain.proofs.ChainLaws.{behind_turn, leaves_by, passes_by}
use Rattle.px_chain.proofs.GoingLaws.{goes_up_stays}
use Rattle.px_cuts.specs.Alike.{IsBeside, MayBeFollowed, WaitsBeside, apart, ends_here, has_ended, unkept}
use Rattle.px_cuts.specs.Cuts.{is_of, keeps_by}
use Rattle.px_chain.specs.Keeping.{is_silent, keeps_side, parks, unspoilt_at, unspoilt_by}
use Rattle.px_cuts.proofs.FollowLaws.{Aside, OwnAside, and_false, body_aside, came_keeps, coming_aside, keeps_same, later_server, left_more, not_its, not_kept_so, not_silent, other_side, piece_apart, rest_same, rests_aside}
use Rattle.px_cuts.specs.Shown.{hears}
use Rattle.px_cuts.proofs.BesideLaws.{FoundUp, RequestSame, decided_request, ended_decided, ends_ended, found_up, is_answered, is_refused, not_both, silent_beside, streams_same, waits_more, waits_request, whole_decided}
use Rattle.px_cuts.proofs.ComingLaws.{came_stays, streams_stay, text_stays}
use Rattle.px_cuts.proofs.PlaceLaws.{busy_on, make, now_at, sight_on}
use Rattle.px_cuts.proofs.ItemLaws.{ReadersStay, answer_begun, body_found, coming_ends, or_found, request_stays, returned_ended}
use Rattle.px_cuts.proofs.StayLaws.{still_open}

none_is : {A : Type 0} {P : Type 0} (x : A) → None ≡ Some x → P
none_is x is = absurd (let e : None ≡ Some x = is in cc)

-- a response that came is whole
pub came_ended : (given : Option Response) (item : Item ReadResponse) (came : Came) → came_by given item ≡ Some came → has_ended item ≡ true
came_ended None item came is = none_is came is
came_ended (Some response) missing came is = none_is came is
came_ended (Some response) (part head body) came is = none_is came is
came_ended (Some response) (complete head body trailers size) came is = refl
came_ended (Some response) (bad_head fault) came is = none_is came is
came_ended (Some response) (bad_body fault head body) came is = none_is came is

pub came_ends : (given : Option Response) (item : Item ReadResponse) (came : Came) → came_by given item ≡ Some came → ends_here given item ≡ true
came_ends None item came is = none_is came is
came_ends (Some response) item came is = came_ended (Some response) item came is

-- what passes behind where a request began to go up, and what is left then
abbrev pub passes_begun : Terms → Stage → Sight → Turn Stage Command
passes_begun terms to seen = behind_turn (end_up terms to seen) (come_down terms (end_up terms to seen).stage (sight_ended to seen))

abbrev pub left_begun : Terms → Stage → Sight → Sight
left_begun terms to seen = sight_come (end_up terms to seen).stage (sight_ended to seen)

-- of a request that goes up, what is told of it
abbrev pub UpSame : Place → Sent → Request → List ℕ → List ℕ → Type 0
UpSame place all_sent request later l = ⊤
UpSame place going_up request later l = going_by (head_in (request_item later)) request (form_at place) later ≡ going_by (head_in (request_item l)) request (form_at place) l

-- what was found there: of the response alone, or of the request too
abbrev pub FoundOf : Sent → Bool → Item ReadRequest → Type 0
FoundOf all_sent answered item = answered ≡ true
FoundOf going_up answered item = FoundUp answered item

found_more : (how : Sent) (answered ended : Bool) (item : Item ReadRequest) → (answered ≡ true → ended ≡ true) → FoundOf how answered item → FoundOf how ended item
found_more all_sent answered ended item ends found = ends found
found_more going_up answered ended item ends (is_answered holds) = is_answered (ends holds)
found_more going_up answered ended item ends (is_refused bad) = is_refused bad

answered_of : (how : Sent) (answered : Bool) (item : Item ReadRequest) → answered ≡ true → FoundOf how answered item
answered_of all_sent answered item is = is
answered_of going_up answered item is = is_answered is

abbrev pub BesideOf : Side → ℕ → Sent → Item ReadRequest → Bool → Type 0
BesideOf side own all_sent item answered = ⊤
BesideOf side own going_up item answered = IsBeside side own item answered

module _ (terms : Terms) (readers : ReadersStay) (side : Side) (bytes : List ℕ) where
  abbrev piece : Event
  piece = events.Piece side bytes

  -- what passing does with the piece is what it does without it
  pub record PassesWith (stage : Stage) (v : Sight) : Type 0 where
    pub stays : pass terms stage (hears (side_of stage) v piece) ≡ pass terms stage v
    pub leaves : sight_past terms stage (hears (side_of stage) v piece) ≡ hears (side_of (pass terms stage v).stage) (sight_past terms stage v) piece

  -- so where a response comes down, at a stage with this side
  pub record ComesWith (from : Option ℕ) (stage : Stage) (v : Sight) : Type 0 where
    pub stays : come_down terms stage (hears from v piece) ≡ come_down terms stage v
    pub leaves : sight_come stage (hears from v piece) ≡ hears (side_of (come_down terms stage v).stage) (sight_come stage v) piece

  -- of a response the same is told, by the bytes of its server's side
  pub record TellsSame (message : Request) (shut : Bool) (server : List ℕ) (later_shut : Bool) (later : List ℕ) : Type 0 where
    pub streams : (given : Option Response) (allowed : Option ℕ) → streams_by given message allowed later_shut later ≡ streams_by given message allowed shut server
    pub text : (given : Option Response) → coming_by given (head_in (answer_list (is_head message.method) later_shut later).final) message later_shut later
        ≡ coming_by given (head_in (answer_list (is_head message.method) shut server).final) message shut server
    pub came : (given : Option Response) → came_by given (answer_list (is_head message.method) later_shut later).final ≡ came_by given (answer_list (is_head message.method) shut server).final

  pub tells_ended : (message : Request) (own : ℕ) (server : List ℕ) (shut : Bool) → has_ended (answer_list (is_head message.method) shut server).final ≡ true →
      TellsSame message shut server (shut_with (Some own) shut piece) (server_with (Some own) shut server piece)
  tells_ended message own server true ended = record { streams = λ given allowed. refl; text = λ given. refl; came = λ given. refl }
  tells_ended message own server false ended =
      let decided = ended_decided (answer_list (is_head message.method) false server).final ended in
      record {
        streams = λ given allowed. streams_stay message server (piece_of (Server own) piece) decided given allowed;
        text = λ given. text_stays message server (piece_of (Server own) piece) decided given;
        came = λ given. came_stays message server (piece_of (Server own) piece) decided given;
      }

  pub tells_quiet : (message : Request) (own : ℕ) (server : List ℕ) (shut : Bool) → piece_of (Server own) piece ≡ [] →
      TellsSame message shut server (shut_with (Some own) shut piece) (server_with (Some own) shut server piece)
  tells_quiet message own server true none = record { streams = λ given allowed. refl; text = λ given. refl; came = λ given. refl }
  tells_quiet message own server false none =
      let same : server ++ piece_of (Server own) piece ≡ server = ap (λ l. server ++ l) none ∙ append-nil server in
      record {
        streams = λ given allowed. ap (λ l. streams_by given message allowed false l) same;
        text = λ given. ap (λ l. coming_by given (head_in (answer_list (is_head message.method) false l).final) message false l) same;
        came = λ given. ap (λ l. came_by given (answer_list (is_head message.method) false l).final) same;
      }

  module _ (message : Request) (own : ℕ) (client server : List ℕ) (shut : Bool) where
    abbrev ended : Bool
    ended = has_ended (answer_list (is_head message.method) shut server).final

    pub tells_of : (how : Sent) (answered : Bool) → (answered ≡ true → ended ≡ true) → FoundOf how answered (request_item client) → BesideOf side own how (request_item client) answered →
        TellsSame message shut server (shut_with (Some own) shut piece) (server_with (Some own) shut server piece)
    tells_of all_sent answered ends found beside = tells_ended message own server shut (ends found)
    tells_of going_up answered ends (is_answered holds) beside = tells_ended message own server shut (ends holds)
    tells_of going_up answered ends (is_refused bad) beside = tells_quiet message own server shut (waits_more side bytes own (request_item client) answered beside bad)

  pub up_of : (how : Sent) (flow : Flow) (own : ℕ) (client : List ℕ) (answered : Bool) → FoundOf how answered (request_item client) → BesideOf side own how (request_item client) answered →
      UpSame terms.place how flow.request (client ++ piece_of Client piece) client
  up_of all_sent flow own client answered found beside = tt
  up_of going_up flow own client answered found beside = (waits_request terms.place flow side bytes client own answered beside found).text

  module _ (at : At) (own : ℕ) (client server : List ℕ) (shut : Bool) (told now : ℕ) where
    abbrev without_it : Sight
    without_it = make client false server shut told now

    abbrev with_it : Sight
    with_it = hears (Some own) without_it piece

    sends_same : (how : Sent) (flow : Flow) → UpSame terms.place how flow.request (client ++ piece_of Client piece) client →
        sends_up terms.place flow own how with_it ≡ sends_up terms.place flow own how without_it
    sends_same all_sent flow up = refl
    sends_same going_up flow up = ap (λ text. (let one : List Command = commands.Send (Server own) (left_of told text) ∷ [] in one)) up

    -- what passes is told by the texts, the closes, whether the side is kept, and the moment
    abbrev came_turn : Sent → Flow → List Command → List ℕ → Bool → Bool → Came → Turn Stage Command
    came_turn how flow up text its_shut keeps came =
        let goes_on : Bool = is_sent how && goes_on_behind at.flow flow.request came in
        let kept : Bool = goes_on && keeps in record {
          owed = up ++ ((commands.Send Client text ∷ commands.Done (with_end flow now) ∷ shut_server (unless_kept kept (ByServer own its_shut))) ++ shut_unless goes_on NoServer false);
          stage = behind_flow goes_on (parks kept terms.place at flow.request own);
        }

    -- where the piece may follow the response
    abbrev MayCome : Flow → Type 0
    MayCome flow = (came : Came) → came_in flow without_it ≡ Some came → OwnAside side bytes flow.request own server shut

    -- by the bytes of the side and the close
    keeps_heard : (message : Request) (item : Item ReadResponse) → keeps_by message with_it item
        ≡ keeps_by message (make [] false (later_server shut server (piece_of (Server own) piece)) shut 0 0) item
    keeps_heard message item = heard_by shut
      where
        heard_by : (b : Bool) → keeps_by message (make [] false (server_with (Some own) b server piece) (shut_with (Some own) b piece) 0 0) item
            ≡ keeps_by message (make [] false (later_server b server (piece_of (Server own) piece)) b 0 0) item
        heard_by true = refl
        heard_by false = refl

    -- its side is kept as without it
    came_same : (flow : Flow) (came : Came) → came_in flow without_it ≡ Some came → OwnAside side bytes flow.request own server shut →
        keeps_side flow.request with_it came.head ≡ keeps_side flow.request without_it came.head
    came_same flow came is aside =
        let item = (answers_in flow.request without_it).final in
        sym (came_keeps flow.response item came is flow.request with_it)
        ∙ (keeps_heard flow.request item
        ∙ (keeps_same flow.request side bytes own shut server aside ∙ came_keeps flow.response item came is flow.request without_it))

    came_reads : (how : Sent) (flow : Flow) (came : Option Came) → came_in flow without_it ≡ came → MayCome flow → coming_text flow with_it ≡ coming_text flow without_it →
        sends_up terms.place flow own how with_it ≡ sends_up terms.place flow own how without_it →
        pass_came terms.place at flow own how with_it came ≡ pass_came terms.place at flow own how without_it came
    came_reads how flow None is aside text up = refl
    came_reads how flow (Some came) is aside text up =
        let its_shut : Bool = shut_with (Some own) shut piece in
        let keeps : Bool = keeps_side flow.request with_it came.head in
        ap (λ u. came_turn how flow u (coming_text flow with_it) its_shut keeps came) up
        ∙ (ap (λ t. came_turn how flow (sends_up terms.place flow own how without_it) t its_shut keeps came) text
        ∙ (ap (λ b. came_turn how flow (sends_up terms.place flow own how without_it) (coming_text flow without_it) b keeps came) (still_open shut)
        ∙ ap (λ k. came_turn how flow (sends_up terms.place flow own how without_it) (coming_text flow without_it) shut k came) (came_same flow came is (aside came is))))

    -- of a side that is kept the piece brings nothing
    kept_quiet : (goes_on : Bool) (flow : Flow) (came : Came) → came_in flow without_it ≡ Some came → OwnAside side bytes flow.request own server shut →
        (goes_on && keeps_side flow.request without_it came.head) ≡ true → piece_of (Server own) piece ≡ []
    kept_quiet goes_on flow came is (other_side apart_it) kept = piece_apart side bytes own apart_it
    kept_quiet goes_on flow came is (not_kept_so none) kept =
        let item = (answers_in flow.request without_it).final in
        absurd (not_both (goes_on && keeps_side flow.request without_it came.head)
        (and_false goes_on (keeps_side flow.request without_it came.head) (sym (came_keeps flow.response item came is flow.request without_it) ∙ none)) kept)

    behind_hears : (goes_on kept : Bool) (request : Request) (past : Sight) → past.server ≡ [] → past.shut ≡ false → (kept ≡ true → piece_of (Server own) piece ≡ []) →
        hears None past piece ≡ hears (side_of (behind_flow goes_on (parks kept terms.place at request own))) past piece
    behind_hears true true request past none open_side quiet =
        let P : List ℕ → Bool → Type 0 = λ l b. hears None (record past { server = l; shut = b }) piece ≡ hears (Some own) (record past { server = l; shut = b }) piece in
        let there : P [] false = ap (λ l. make (past.client ++ piece_of Client piece) (past.closed || false) l false past.told past.now) (sym (quiet refl)) in
        subst (λ l. P l past.shut) (sym none) (subst (λ b. P [] b) (sym open_side) there)
    behind_hears true false request past none open_side quiet = refl
    behind_hears false kept request past none open_side quiet = refl

    came_leaves : (how : Sent) (flow : Flow) (came : Option Came) → came_in flow without_it ≡ came → MayCome flow →
        past_came came with_it ≡ hears (side_of (pass_came terms.place at flow own how without_it came).stage) (past_came came without_it) piece
    came_leaves how flow None is aside = refl
    came_leaves how flow (Some came) is aside =
        let goes_on : Bool = is_sent how && goes_on_behind at.flow flow.request came in
        behind_hears goes_on (keeps_came at flow how without_it came) flow.request (past_came (Some came) without_it) refl refl (kept_quiet goes_on flow came is (aside came is))

    -- one that comes down
    pub came_comes : (how : Sent) (flow : Flow) → MayCome flow → UpSame terms.place how flow.request (client ++ piece_of Client piece) client →
        TellsSame flow.request shut server (shut_with (Some own) shut piece) (server_with (Some own) shut server piece) →
        ComesWith (Some own) (busy at flow (coming_down own how)) without_it
    came_comes how flow aside up tells = record {
      stays = ap (λ c. pass_came terms.place at flow own how with_it c) (tells.came flow.response)
          ∙ came_reads how flow (came_in flow without_it) refl aside (tells.text flow.response) (sends_same how flow up);
      leaves = ap (λ c. past_came c with_it) (tells.came flow.response) ∙ came_leaves how flow (came_in flow without_it) refl aside;
    }

    kept_by : (how : Sent) (flow : Flow) (most : Option ℕ) (streams : Bool) → OwnAside side bytes flow.request own server shut →
        UpSame terms.place how flow.request (client ++ piece_of Client piece) client →
        TellsSame flow.request shut server (shut_with (Some own) shut piece) (server_with (Some own) shut server piece) →
        (pass_kept streams terms.place at flow own how most with_it ≡ pass_kept streams terms.place at flow own how most without_it)
        × (past_kept streams (came_in (streaming flow) with_it) with_it
        ≡ hears (side_of (pass_kept streams terms.place at flow own how most without_it).stage) (past_kept streams (came_in (streaming flow) without_it) without_it) piece)
    kept_by how flow most true aside up tells =
        let comes : ComesWith (Some own) (busy at (streaming flow) (coming_down own how)) without_it =
        came_comes how (streaming flow) (λ came is. aside) up (record { streams = tells.streams; text = tells.text; came = tells.came }) in (comes.stays, comes.leaves)
    kept_by how flow most false aside up tells = (refl, refl)

    -- or one of which it is not told yet whether it is streamed
    pub kept_comes : (how : Sent) (flow : Flow) (most : Option ℕ) → OwnAside side bytes flow.request own server shut →
        UpSame terms.place how flow.request (client ++ piece_of Client piece) client →
        TellsSame flow.request shut server (shut_with (Some own) shut piece) (server_with (Some own) shut server piece) →
        ComesWith (Some own) (busy at flow (response_body own how most)) without_it
    kept_comes how flow most aside up tells =
        let streams : Bool = streams_in flow most without_it in
        let both = kept_by how flow most streams aside up tells in
        record {
          stays = ap (λ b. pass_kept b terms.place at flow own how most with_it) (tells.streams flow.response most) ∙ both.0;
          leaves = ap (λ b. past_kept b (came_in (streaming flow) with_it) with_it) (tells.streams flow.response most) ∙ both.1;
        }

  -- ---- a request that goes up

  module _ (at : At) (flow : Flow) (own : ℕ) (client server : List ℕ) (shut : Bool) (told now : ℕ) where
    abbrev v : Sight
    v = make client false server shut told now

    abbrev w : Sight
    w = hears (Some own) v piece

    -- which is not whole
    none_passes : (stage : Stage) → ComesWith (Some own) stage v →
        (behind_turn (goes_to stage) (come_down terms stage w) ≡ behind_turn (goes_to stage) (come_down terms stage v))
        × (sight_come stage w ≡ hears (side_of (come_down terms stage v).stage) (sight_come stage v) piece)
    none_passes stage comes = (ap (λ down. behind_turn (goes_to stage) down) comes.stays, comes.leaves)

    -- or is: what is left behind it has the piece
    pub past_heard : RequestSame terms.place flow client (piece_of Client piece) → past_gone (Some own) w ≡ hears (Some own) (past_gone (Some own) v) piece
    past_heard same =
        ap (λ l. make l false (server_with (Some own) shut server piece) (shut_with (Some own) shut piece) told now)
        (ap (λ i. left_by i (client ++ piece_of Client piece)) same.item
        ∙ left_more (request_item client) client (piece_of Client piece) (λ head body trailers size is. (request_used chunk_laws client head body trailers size is).1))

    abbrev gone_to : Stage → Sight → Turn Stage Command
    gone_to to seen = behind_turn (record { owed = sends_going terms.place flow own seen; stage = to }) (come_down terms to (past_gone (Some own) seen))

    pub text_heard : RequestSame terms.place flow client (piece_of Client piece) → sends_going terms.place flow own w ≡ sends_going terms.place flow own v
    text_heard same = ap (λ text. (let one : List Command = commands.Send (Server own) (left_of told text) ∷ [] in one)) same.text

    some_passes : (to : Stage) → RequestSame terms.place flow client (piece_of Client piece) → ComesWith (Some own) to (past_gone (Some own) v) →
        (gone_to to w ≡ gone_to to v) × (sight_come to (past_gone (Some own) w) ≡ hears (side_of (come_down terms to (past_gone (Some own) v)).stage) (sight_come to (past_gone (Some own) v)) piece)
    some_passes to same comes = (
      ap (λ owed. behind_turn (record { owed = owed; stage = to }) (come_down terms to (past_gone (Some own) w))) (text_heard same)
          ∙ ap (λ down. behind_turn (record { owed = sends_going terms.place flow own v; stage = to }) down) (ap (λ s. come_down terms to s) (past_heard same) ∙ comes.stays),
      ap (λ s. sight_come to s) (past_heard same) ∙ comes.leaves,
    )

    abbrev whole : Flow
    whole = with_whole flow now

  module _ (onward : Stage → Stage) (goes : IsOnward onward) where
    -- where a flow goes on by itself, that is found there
    found_busy : (at : At) (flow : Flow) (doing : Doing) (past : Sight) → IsFound (look terms (onward (busy at flow doing)) (record past { now = now_at (onward (busy at flow doing)) past.now })) →
        IsFound (look terms (busy at flow doing) past)
    found_busy at flow doing past found =
        let P : Stage → Type 0 = λ s. IsFound (look terms s (record past { now = now_at s past.now })) in subst P (busy_on onward goes at flow doing) found

    -- what is found where a response came down
    abbrev FoundOn : Stage → Sight → Type 0
    FoundOn stage v = IsFound (look terms (onward (come_down terms stage v).stage) (record (sight_come stage v) { now = now_at (onward (come_down terms stage v).stage) v.now }))

    module _ (at : At) (own : ℕ) (client server : List ℕ) (shut : Bool) (told now : ℕ) where
      abbrev seen : Sight
      seen = make client false server shut told now

      coming_found : (how : Sent) (flow : Flow) → IsFound (look terms (busy at flow (coming_down own how)) seen) → FoundOf how (ends_here flow.response (answer_list (is_head flow.request.method) shut server).final) (request_item client)
      coming_found all_sent flow found =
          let item = (answer_list (is_head flow.request.method) shut server).final in
          let used : Used = ByServer own shut in
          coming_ends flow item now used false flow.response (or_found (ends_early flow closed_message now used true) (look_coming flow item now used false) found)
      coming_found going_up flow found =
          let item = (answer_list (is_head flow.request.method) shut server).final in
          let used : Used = ByServer own shut in
          found_up (request_item client) (λ fault. ends_early flow (fault_message fault) now used false) (look_coming flow item now used false) (ends_here flow.response item) (λ is. coming_ends flow item now used false flow.response is)
          (or_found (ends_early flow closed_message now used true) (bad_or (request_item client) (λ fault. ends_early flow (fault_message fault) now used false) (look_coming flow item now used false)) found)

      body_found_so : (how : Sent) (flow : Flow) (most : Option ℕ) → IsFound (look terms (busy at flow (response_body own how most)) seen) →
          FoundOf how (has_ended (answer_list (is_head flow.request.method) shut server).final) (request_item client)
      body_found_so all_sent flow most found =
          let item = (answer_list (is_head flow.request.method) shut server).final in
          let used : Used = ByServer own shut in
          returned_ended flow item now used false (or_found (ends_early (without_response flow) closed_message now used true) (look_returned flow item now used false) found)
      body_found_so going_up flow most found =
          let item = (answer_list (is_head flow.request.method) shut server).final in
          let used : Used = ByServer own shut in
          found_up (request_item client) (λ fault. ends_by_fault flow fault now used false) (look_returned flow item now used false) (has_ended item) (λ is. returned_ended flow item now used false is)
          (or_found (ends_early (without_response flow) closed_message now used true) (bad_or (request_item client) (λ fault. ends_by_fault flow fault now used false) (look_returned flow item now used false)) found)

      came_found : (how : Sent) (flow : Flow) (came : Option Came) → came_in flow seen ≡ came →
          IsFound (look terms (onward (pass_came terms.place at flow own how seen came).stage) (record (past_came came seen) { now = now_at (onward (pass_came terms.place at flow own how seen came).stage) now })) →
          FoundOf how (ends_here flow.response (answer_list (is_head flow.request.method) shut server).final) (request_item client)
      came_found how flow None is found = coming_found how flow (found_busy at flow (coming_down own how) seen found)
      came_found how flow (Some came) is found =
          answered_of how (ends_here flow.response (answer_list (is_head flow.request.method) shut server).final) (request_item client)
          (came_ends flow.response (answer_list (is_head flow.request.method) shut server).final came is)

      kept_found : (how : Sent) (flow : Flow) (most : Option ℕ) (streams : Bool) →
          IsFound (look terms (onward (pass_kept streams terms.place at flow own how most seen).stage)
          (record (past_kept streams (came_in (streaming flow) seen) seen) { now = now_at (onward (pass_kept streams terms.place at flow own how most seen).stage) now })) →
          FoundOf how (has_ended (answer_list (is_head flow.request.method) shut server).final) (request_item client)
      kept_found how flow most true found =
          let item = (answer_list (is_head flow.request.method) shut server).final in
          found_more how (ends_here (streaming flow).response item) (has_ended item) (request_item client) (λ is. ends_ended (streaming flow).response item is)
          (came_found how (streaming flow) (came_in (streaming flow) seen) refl found)
      kept_found how flow most false found = body_found_so how flow most (found_busy at flow (response_body own how most) seen found)

      -- so it comes down with the piece as without it
      pub coming_passes : (how : Sent) (flow : Flow) → MayBeFollowed side (busy at flow (coming_down own how)) seen → BesideOf side own how (request_item client) (ends_here flow.response (answer_list (is_head flow.request.method) shut server).final) →
          FoundOn (busy at flow (coming_down own how)) seen → ComesWith (Some own) (busy at flow (coming_down own how)) seen
      coming_passes how flow follows beside found =
          let there = came_found how flow (came_in flow seen) refl found in
          let item = (answer_list (is_head flow.request.method) shut server).final in
          came_comes at own client server shut told now how flow (coming_aside side bytes at flow own how client server shut told now follows) (up_of how flow own client (ends_here flow.response item) there beside)
          (tells_of flow.request own client server shut how (ends_here flow.response item) (λ is. ends_ended flow.response item is) there beside)

      pub body_passes : (how : Sent) (flow : Flow) (most : Option ℕ) → MayBeFollowed side (busy at flow (response_body own how most)) seen → BesideOf side own how (request_item client) (has_ended (answer_list (is_head flow.request.method) shut server).final) →
          FoundOn (busy at flow (response_body own how most)) seen → ComesWith (Some own) (busy at flow (response_body own how most)) seen
      body_passes how flow most follows beside found =
          let there = kept_found how flow most (streams_in flow most seen) found in
          kept_comes at own client server shut told now how flow most (body_aside side bytes at flow own how most client server shut told now follows) (up_of how flow own client (has_ended (answer_list (is_head flow.request.method) shut server).final) there beside)
          (tells_of flow.request own client server shut how (has_ended (answer_list (is_head flow.request.method) shut server).final) (λ is. is) there beside)

    -- ---- where a request goes up

    module _ (at : At) (own : ℕ) (client server : List ℕ) (shut : Bool) (told now : ℕ) where
      abbrev before : Sight
      before = make client false server shut told now

      abbrev heard : Sight
      heard = hears (Some own) before piece

      -- by whether it is whole
      abbrev FoundBy : Flow → Doing → Option ℕ → Type 0
      FoundBy flow doing size =
          IsFound (look terms (onward (passes_by size terms at flow doing before).stage) (record (leaves_by size terms at flow doing before) { now = now_at (onward (passes_by size terms at flow doing before).stage) now }))

      record UpWith (flow : Flow) (doing : Doing) (size : Option ℕ) : Type 0 where
        same : RequestSame terms.place flow client (piece_of Client piece)
        both : (passes_by size terms at flow doing heard ≡ passes_by size terms at flow doing before)
            × (leaves_by size terms at flow doing heard ≡ hears (side_of (passes_by size terms at flow doing before).stage) (leaves_by size terms at flow doing before) piece)

      -- so it may where the request is whole
      followed_whole : (flow : Flow) (most : Option ℕ) → MayBeFollowed side (busy at flow (response_body own going_up most)) before →
          MayBeFollowed side (busy at (with_whole flow now) (response_body own all_sent most)) (make (left_by (request_item client) client) false server shut told now)
      followed_whole flow most (apart is) = apart is
      followed_whole flow most (unkept is) = unkept is

      coming_whole : (flow : Flow) → MayBeFollowed side (busy at flow (coming_down own going_up)) before →
          MayBeFollowed side (busy at (with_whole flow now) (coming_down own all_sent)) (make (left_by (request_item client) client) false server shut told now)
      coming_whole flow (apart is) = apart is
      coming_whole flow (unkept is) = unkept is

      whole_same : (flow : Flow) (size : ℕ) → whole_in before ≡ Some size → RequestSame terms.place flow client (piece_of Client piece)
      whole_same flow size is = decided_request terms.place flow client (piece_of Client piece) (whole_decided (request_item client) size is)

      head_up : (flow : Flow) (size : Option ℕ) → whole_in before ≡ size → WaitsBeside side (busy at flow (response_head own going_up)) before → FoundBy flow (response_head own going_up) size →
          UpWith flow (response_head own going_up) size
      head_up flow None is beside found =
          let item = (answer_list (is_head flow.request.method) shut server).final in
          let used : Used = ByServer own shut in
          let there = found_busy at flow (response_head own going_up) before found in
          let up = found_up (request_item client) (λ fault. ends_by_fault flow fault now used false) (look_answer flow item now used false) (is_begun item) (λ is. answer_begun flow item now used false is)
          (or_found (ends_early flow closed_message now used true) (bad_or (request_item client) (λ fault. ends_by_fault flow fault now used false) (look_answer flow item now used false)) there) in
          record { same = waits_request terms.place flow side bytes client own (is_begun item) beside up; both = (refl, refl) }
      head_up flow (Some size) is beside found =
          let same = whole_same flow size is in
          record { same = same; both = some_passes at flow own client server shut told now (busy at (with_whole flow now) (response_head own all_sent)) same (record { stays = refl; leaves = refl }) }

      body_up : (flow : Flow) (most : Option ℕ) (size : Option ℕ) → whole_in before ≡ size → MayBeFollowed side (busy at flow (response_body own going_up most)) before → WaitsBeside side (busy at flow (response_body own going_up most)) before →
          FoundBy flow (response_body own going_up most) size → UpWith flow (response_body own going_up most) size
      body_up flow most None is follows beside found =
          let there = kept_found at own client server shut told now going_up flow most (streams_in flow most before) found in
          record {
            same = waits_request terms.place flow side bytes client own (has_ended (answer_list (is_head flow.request.method) shut server).final) beside there;
            both = none_passes at flow own client server shut told now (busy at flow (response_body own going_up most)) (body_passes at own client server shut told now going_up flow most follows beside found);
          }
      body_up flow most (Some size) is follows beside found =
          let same = whole_same flow size is in
          let comes = body_passes at own (left_by (request_item client) client) server shut told now all_sent (with_whole flow now) most (followed_whole flow most follows) tt found in
          record { same = same; both = some_passes at flow own client server shut told now (busy at (with_whole flow now) (response_body own all_sent most)) same comes }

      coming_up : (flow : Flow) (size : Option ℕ) → whole_in before ≡ size → MayBeFollowed side (busy at flow (coming_down own going_up)) before → WaitsBeside side (busy at flow (coming_down own going_up)) before →
          FoundBy flow (coming_down own going_up) size → UpWith flow (coming_down own going_up) size
      coming_up flow None is follows beside found =
          let there = came_found at own client server shut told now going_up flow (came_in flow before) refl found in
          record {
            same = waits_request terms.place flow side bytes client own (ends_here flow.response (answer_list (is_head flow.request.method) shut server).final) beside there;
            both = none_passes at flow own client server shut told now (busy at flow (coming_down own going_up)) (coming_passes at own client server shut told now going_up flow follows beside found);
          }
      coming_up flow (Some size) is follows beside found =
          let same = whole_same flow size is in
          let comes = coming_passes at own (left_by (request_item client) client) server shut told now all_sent (with_whole flow now) (coming_whole flow follows) tt found in
          record { same = same; both = some_passes at flow own client server shut told now (busy at (with_whole flow now) (coming_down own all_sent)) same comes }

      -- and so by what is whole of it
      up_with : (flow : Flow) (doing : Doing) → UpWith flow doing (whole_in before) →
          (passes_by (whole_in heard) terms at flow doing heard ≡ passes_by (whole_in before) terms at flow doing before)
          × (leaves_by (whole_in heard) terms at flow doing heard ≡ hears (side_of (passes_by (whole_in before) terms at flow doing before).stage) (leaves_by (whole_in before) terms at flow doing before) piece)
      up_with flow doing up =
          let size : whole_in heard ≡ whole_in before = ap (λ i. whole_by i) up.same.item in
          (ap (λ n. passes_by n terms at flow doing heard) size ∙ up.both.0, ap (λ n. leaves_by n terms at flow doing heard) size ∙ up.both.1)

    -- ---- where a response is given

    pub given_goes : (at : At) (flow : Flow) (response : Response) (most : Option ℕ) (item : Item ReadRequest) (now : ℕ) (s : Sight) →
        passes_begun terms (pass_given at flow response most item now) s ≡ goes_to (pass_given at flow response most item now)
    given_goes at flow response most missing now s = refl
    given_goes at flow response most (part head body) now s = refl
    given_goes at flow response most (complete head body trailers used) now s = refl
    given_goes at flow response most (bad_head fault) now s = refl
    given_goes at flow response most (bad_body fault head body) now s = refl

    pub given_left : (at : At) (flow : Flow) (response : Response) (most : Option ℕ) (item : Item ReadRequest) (now : ℕ) (s : Sight) →
        left_begun terms (pass_given at flow response most item now) s ≡ s
    given_left at flow response most missing now s = refl
    given_left at flow response most (part head body) now s = refl
    given_left at flow response most (complete head body trailers used) now s = refl
    given_left at flow response most (bad_head fault) now s = refl
    given_left at flow response most (bad_body fault head body) now s = refl

    given_side : (at : At) (flow : Flow) (response : Response) (most : Option ℕ) (item : Item ReadRequest) (now : ℕ) → side_of (pass_given at flow response most item now) ≡ side_parked at.parked
    given_side at flow response most missing now = refl
    given_side at flow response most (part head body) now = refl
    given_side at flow response most (complete head body trailers used) now = refl
    given_side at flow response most (bad_head fault) now = refl
    given_side at flow response most (bad_body fault head body) now = refl

    module _ (at : At) (flow : Flow) (response : Response) (most : Option ℕ) (client server : List ℕ) (shut : Bool) (told now : ℕ) where
      abbrev stage_given : Stage
      stage_given = busy at flow (request_body (Some response) most)

      abbrev to_given : Item ReadRequest → Stage
      to_given item = pass_given at flow response most item now

      abbrev left_given : Item ReadRequest → Sight
      left_given item = make (left_by item client) false server shut told now

      given_decided : (item : Item ReadRequest) → request_item client ≡ item → IsFound (look terms (onward (to_given item)) (record (left_given item) { now = now_at (onward (to_given item)) now })) →
          is_decided item ≡ true
      given_decided missing is found =
          let used : Used = server_parked (unspoilt_at at (make client false server shut told now)).parked (make client false server shut told now) in
          let Q : Item ReadRequest → Type 0 = λ i. IsFound (or_leaves false (ends_early flow closed_message now used true) (look_body flow i now used false)) in
          let there : Q (request_item client) = found_busy at flow (request_body (Some response) most) (make client false server shut told now) found in
          absurd (subst Q is there)
      given_decided (part head body) is found =
          let used : Used = server_parked (unspoilt_at at (make client false server shut told now)).parked (make client false server shut told now) in
          let Q : Item ReadRequest → Type 0 = λ i. IsFound (or_leaves false (ends_early flow closed_message now used true) (look_body flow i now used false)) in
          let there : Q (request_item client) = found_busy at flow (request_body (Some response) most) (make client false server shut told now) found in
          absurd (subst Q is there)
      given_decided (complete head body trailers used) is found = refl
      given_decided (bad_head fault) is found = refl
      given_decided (bad_body fault head body) is found = refl

      given_passes : IsFound (look terms (onward (pass terms stage_given (make client false server shut told now)).stage) (sight_on onward terms stage_given (make client false server shut told now))) →
          PassesWith stage_given (make client false server shut told now)
      given_passes found =
          let v : Sight = make client false server shut told now in
          let more : List ℕ = piece_of Client piece in
          let item = request_item client in
          let later = request_item (client ++ more) in
          let R : Turn Stage Command → Sight → Type 0 = λ t x. IsFound (look terms (onward t.stage) (record x { now = now_at (onward t.stage) now })) in
          let goes_so = given_goes at flow response most item now (left_given item) in
          let left_so = given_left at flow response most item now (left_given item) in
          let there : R (goes_to (to_given item)) (left_given item) =
          subst (λ x. R (goes_to (to_given item)) x) left_so (subst (λ t. R t (left_begun terms (to_given item) (left_given item))) goes_so found) in
          let same : later ≡ item = (request_stays readers client more).decided (given_decided item refl there) in
          let w_left : Sight = make (left_by later (client ++ more)) false (server_with (side_parked at.parked) shut server piece) (shut_with (side_parked at.parked) shut piece) told now in
          record {
            stays = given_goes at flow response most later now w_left ∙ (ap (λ i. goes_to (to_given i)) same ∙ sym goes_so);
            leaves = given_left at flow response most later now w_left
                ∙ (ap (λ l. make l false (server_with (side_parked at.parked) shut server piece) (shut_with (side_parked at.parked) shut piece) told now)
                (ap (λ i. left_by i (client ++ more)) same
                ∙ left_more item client more (λ head body trailers size is. (request_used chunk_laws client head body trailers size is).1))
                ∙ (ap (λ l. hears l (left_given item) piece) (sym (given_side at flow response most item now) ∙ ap (λ t. side_of t.stage) (sym goes_so))
                ∙ ap (λ x. hears (side_of (pass terms stage_given v).stage) x piece) (sym left_so)));
          }

    -- ---- where a request may begin to go up

    module _ (at : At) (flow : Flow) (most : Option ℕ) (client server : List ℕ) (shut : Bool) (told now : ℕ) where
      abbrev stage_kept : Stage
      stage_kept = busy at flow (request_body None most)

      abbrev seen_kept : Sight
      seen_kept = make client false server shut told now

      abbrev heard_kept : Sight
      heard_kept = hears (side_parked at.parked) seen_kept piece

      -- by whether it does
      abbrev to_by : Bool → Stage
      to_by up = pass_going up terms.place at flow most seen_kept

      abbrev KeptBy : Stage → Type 0
      KeptBy to = (passes_begun terms to heard_kept ≡ passes_begun terms to seen_kept)
          × (left_begun terms to heard_kept ≡ hears (side_of (passes_begun terms to seen_kept).stage) (left_begun terms to seen_kept) piece)

      abbrev FoundTo : Stage → Type 0
      FoundTo to =
          let turned : Turn Stage Command = passes_begun terms to seen_kept in
          IsFound (look terms (onward turned.stage) (record (left_begun terms to seen_kept) { now = now_at (onward turned.stage) now }))

      -- with this side parked, to a side or to none
      abbrev up_at : Option Parked → Option ℕ → Stage
      up_at parked to = goes_up_by to terms.place (record at { parked = parked }) (sending_on flow)

      abbrev UpTo : Option Parked → Option ℕ → Type 0
      UpTo parked to = (passes_begun terms (up_at parked to) (hears (side_parked parked) seen_kept piece) ≡ passes_begun terms (up_at parked to) seen_kept)
          × (left_begun terms (up_at parked to) (hears (side_parked parked) seen_kept piece)
          ≡ hears (side_of (passes_begun terms (up_at parked to) seen_kept).stage) (left_begun terms (up_at parked to) seen_kept) piece)

      up_to : (there : Bool) (parked : Parked) → is_of (Some parked.server) side ≡ false → is_silent server shut ≡ true → FoundTo (up_at (Some parked) (side_if there parked.server)) →
          UpTo (Some parked) (side_if there parked.server)
      up_to true parked other_piece silent found =
          let other : Flow = reached terms.place (sending_on flow) in
          up_with (unparked at) parked.server client server shut told now other (response_head parked.server going_up)
          (head_up (unparked at) parked.server client server shut told now other (whole_in seen_kept) refl (silent_beside side parked.server other.request seen_kept other_piece silent) found)
      up_to false parked other_piece silent found = (refl, refl)

      up_parked : (parked : Option Parked) → is_of (side_parked parked) side ≡ false → is_silent server shut ≡ true →
          FoundTo (up_at parked (parked_for terms.place flow.request parked)) → UpTo parked (parked_for terms.place flow.request parked)
      up_parked None other_piece silent found = (refl, refl)
      up_parked (Some parked) other_piece silent found = up_to (is_same_address parked.address (server_for terms.place flow.request)) parked other_piece silent found

      -- to the side that is not spoilt
      up_unspoilt : (silent : Bool) → is_silent server shut ≡ silent → Aside side bytes at.parked server shut →
          FoundTo (up_at at.parked (parked_for terms.place flow.request (unspoilt_by silent at.parked))) → KeptBy (up_at at.parked (parked_for terms.place flow.request (unspoilt_by silent at.parked)))
      up_unspoilt true is (not_its other_piece) found = up_parked at.parked other_piece is found
      up_unspoilt true is (not_silent none) found = absurd (not_both (is_silent server shut) none is)
      up_unspoilt false is aside found = (refl, refl)

      kept_so : (up : Bool) → Aside side bytes at.parked server shut → FoundTo (to_by up) → KeptBy (to_by up)
      kept_so true aside found = up_unspoilt (is_silent server shut) refl aside found
      kept_so false aside found = (refl, refl)

      -- the parked side is as silent with the piece
      to_same : (up : Bool) → Aside side bytes at.parked server shut → pass_going up terms.place at flow most heard_kept ≡ to_by up
      to_same true aside =
          ap (λ b. goes_up_by (parked_for terms.place flow.request (unspoilt_by b at.parked)) terms.place at (sending_on flow)) (rest_same side bytes at.parked server shut aside).silent
      to_same false aside = refl

      -- with the piece it goes up as without it
      goes_same : (up : Bool) → goes_up most seen_kept ≡ up → FoundTo (to_by up) → goes_up most heard_kept ≡ up
      goes_same true is found = goes_up_stays most seen_kept heard_kept (piece_of Client piece, refl) is
      goes_same false is found =
          let item = request_item client in
          let used : Used = server_parked (unspoilt_at at seen_kept).parked seen_kept in
          let there = or_found (ends_early flow closed_message now used true) (look_body flow item now used false) (found_busy at flow (request_body None most) seen_kept found) in
          streams_same most client (client ++ piece_of Client piece) (body_found flow item (request_item (client ++ piece_of Client piece)) now used false (request_stays readers client (piece_of Client piece)) there) ∙ is

      kept_with : (up : Bool) → goes_up most seen_kept ≡ up → goes_up most heard_kept ≡ up → Aside side bytes at.parked server shut → KeptBy (to_by up) → PassesWith stage_kept seen_kept
      kept_with up is heard aside both = record {
        stays = ap (λ b. passes_begun terms (pass_going b terms.place at flow most heard_kept) heard_kept) heard
            ∙ (ap (λ to. passes_begun terms to heard_kept) (to_same up aside)
            ∙ (both.0 ∙ sym (ap (λ b. passes_begun terms (to_by b) seen_kept) is)));
        leaves = ap (λ b. left_begun terms (pass_going b terms.place at flow most heard_kept) heard_kept) heard
            ∙ (ap (λ to. left_begun terms to heard_kept) (to_same up aside)
            ∙ (both.1 ∙ sym (ap (λ b. hears (side_of (passes_begun terms (to_by b) seen_kept).stage) (left_begun terms (to_by b) seen_kept) piece) is)));
      }

      kept_passes : (up : Bool) → goes_up most seen_kept ≡ up → Aside side bytes at.parked server shut → FoundTo (to_by up) → PassesWith stage_kept seen_kept
      kept_passes up is aside found = kept_with up is (goes_same up is found) aside (kept_so up aside found)

    -- ---- whatever stage it is

    -- what is found behind passing, in the sight that is left
    abbrev IsFoundBehind : Stage → Sight → Type 0
    IsFoundBehind stage v = IsFound (look terms (onward (pass terms stage v).stage) (sight_on onward terms stage v))

    passes_so : (stage : Stage) (client server : List ℕ) (shut : Bool) (told now : ℕ) → MayBeFollowed side stage (make client false server shut told now) → WaitsBeside side stage (make client false server shut told now) →
        IsFoundBehind stage (make client false server shut told now) → PassesWith stage (make client false server shut told now)
    passes_so (idle at) client server shut told now follows beside found = record { stays = refl; leaves = refl }
    passes_so (busy at flow (request_body None most)) client server shut told now follows beside found =
        kept_passes at flow most client server shut told now (goes_up most (make client false server shut told now)) refl
        (rests_aside side bytes (busy at flow (request_body None most)) at.parked server shut client told now refl refl follows) found
    passes_so (busy at flow (request_body (Some response) most)) client server shut told now follows beside found = given_passes at flow response most client server shut told now found
    passes_so (busy at flow (connection how)) client server shut told now follows beside found = record { stays = refl; leaves = refl }
    passes_so (busy at flow (response_head own all_sent)) client server shut told now follows beside found = record { stays = refl; leaves = refl }
    passes_so (busy at flow (response_head own going_up)) client server shut told now follows beside found =
        let v : Sight = make client false server shut told now in
        let both = up_with at own client server shut told now flow (response_head own going_up) (head_up at own client server shut told now flow (whole_in v) refl beside found) in
        record { stays = both.0; leaves = both.1 }
    passes_so (busy at flow (response_body own all_sent most)) client server shut told now follows beside found =
        let comes = body_passes at own client server shut told now all_sent flow most follows tt found in
        record { stays = ap (λ down. behind_turn (goes_to (busy at flow (response_body own all_sent most))) down) comes.stays; leaves = comes.leaves }
    passes_so (busy at flow (response_body own going_up most)) client server shut told now follows beside found =
        let v : Sight = make client false server shut told now in
        let both = up_with at own client server shut told now flow (response_body own going_up most) (body_up at own client server shut told now flow most (whole_in v) refl follows beside found) in
        record { stays = both.0; leaves = both.1 }
    passes_so (busy at flow (coming_down own all_sent)) client server shut told now follows beside found =
        let comes = coming_passes at own client server shut told now all_sent flow follows tt found in
        record { stays = ap (λ down. behind_turn (goes_to (busy at flow (coming_down own all_sent))) down) comes.stays; leaves = comes.leaves }
    passes_so (busy at flow (coming_down own going_up)) client server shut told now follows beside found =
        let v : Sight = make client false server shut told now in
        let both = up_with at own client server shut told now flow (coming_down own going_up) (coming_up at own client server shut told now flow (whole_in v) refl follows beside found) in
        record { stays = both.0; leaves = both.1 }
    passes_so (busy at flow (upgraded own)) client server shut told now follows beside found = record { stays = refl; leaves = refl }
    passes_so (busy at flow given_head) client server shut told now follows beside found = record { stays = refl; leaves = refl }
    passes_so (busy at flow given_body) client server shut told now follows beside found = record { stays = refl; leaves = refl }
    passes_so (next at) client server shut told now follows beside found = record { stays = refl; leaves = refl }
    passes_so over client server shut told now follows beside found = record { stays = refl; leaves = refl }

    -- Where something is found behind passing, it passes with the piece as without it, and leaves the piece.
    pub passes_with : (stage : Stage) (v : Sight) → v.closed ≡ false → MayBeFollowed side stage v → WaitsBeside side stage v → IsFoundBehind stage v → PassesWith stage v
    passes_with stage v open_client follows beside found =
        let P : Bool → Type 0 = λ b. MayBeFollowed side stage (make v.client b v.server v.shut v.told v.now) → WaitsBeside side stage (make v.client b v.server v.shut v.told v.now) → IsFoundBehind stage (make v.client b v.server v.shut v.told v.now) →
        PassesWith stage (make v.client b v.server v.shut v.told v.now) in
        subst P (sym open_client) (passes_so stage v.client v.server v.shut v.told v.now) follows beside found
