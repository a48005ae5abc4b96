-- An answer to what was asked leads where the chain leads, and the readers are there.
use Rattle.std.proofs.Common.{◌≡◌, ℕ, ◌+◌, ◌≤◌, Bool, true, false, ◌&&◌, List, [], ◌∷◌, ◌++◌, length, drop, Option, Some, None, refl, ap, sym, ◌∙◌, subst, arith}
use Rattle.std.specs.Prelude.{◌==◌, ⊤}
use Rattle.std.proofs.lemmas.List.{append-nil}
use Rattle.px_message.specs.declared.flow.Flow.{Flow}
use Rattle.px_message.specs.declared.request.Request.{Request}
use Rattle.px_message.specs.declared.response.Response.{Response}
use Rattle.px_message.specs.declared.version.Version.{Version}
use Rattle.px_message.specs.declared.version.Version.TheVariants as versions
use Rattle.px_event.specs.declared.command.Command.{Command}
use Rattle.px_event.specs.declared.reply.Reply.{Reply}
use Rattle.px_event.specs.declared.reply.Reply.TheVariants as reply
use Rattle.px_event.specs.Chain.{Timed, Turn}
use Rattle.px_read.specs.Items.{Item, missing, part, complete, bad_head, bad_body}
use Rattle.px_read.specs.Laws.{head_in}
use Rattle.px_read.specs.Marks.{asks, answers}
use Rattle.px_read.specs.Reader.{request, State, before_all, Reads}
use Rattle.px_read.specs.declared.head.RequestHead.{RequestHead as ReadRequest}
use Rattle.px_read.specs.declared.head.ResponseHead.{ResponseHead as ReadResponse}
use Rattle.px_exchange.specs.declared.asked.Judged.{Judged}
use Rattle.px_exchange.specs.declared.asked.Judged.TheVariants.{Refused, Accepted, Connects}
use Rattle.px_exchange.specs.declared.ending.Used.{Used}
use Rattle.px_exchange.specs.declared.taken.Taken.{Taken}
use Rattle.px_exchange.specs.declared.taken.Taken.TheVariants.{GoesOn, Responds, Kills}
use Rattle.px_exchange.specs.declared.place.Place.{Place}
use Rattle.px_exchange.specs.declared.terms.Terms.{Terms}
use Rattle.px_exchange.specs.Endings.{connection_goes_on, read_persists, sent_persists}
use Rattle.px_exchange.specs.Flows.{response_of, with_answer, with_body, with_returned}
use Rattle.px_exchange.specs.Places.{is_same_address, server_for}
use Rattle.px_exchange.specs.Replies.{taken_at_request_body, taken_at_request_head, taken_at_response_body, taken_at_response_head}
use Rattle.px_exchange.specs.Requests.{expects, flow_of, is_head, judged}
use Rattle.px_exchange.specs.Texts.{interim_commands}
use Rattle.px_chain.specs.Behind.{dials_at, server_behind, shut_behind, sight_behind}
use Rattle.px_chain.specs.Chain.{behind_flow, dial_leads, finish_by, given_at, gone_by, goes_on_by, parked_for, reached, sequence, side_if, turn, turn_answer, turn_answer_head, turn_body, turn_head, turn_judged, turn_response, turn_returned, turn_taken_answer, turn_taken_body, turn_taken_given, turn_taken_head, turn_taken_returned, turn_taken_whole, turns}
use Rattle.px_chain.specs.Coming.{allowed_by}
use Rattle.px_chain.specs.Keeping.{is_silent, keeps_side, parks, unspoilt_at, unspoilt_by}
use Rattle.px_chain.specs.Going.{allowed_up_by, framed_up, going_text, is_sent, told_up}
use Rattle.px_chain.specs.Sights.{Sight, answers_in, client_left, request_in, server_in, server_left, server_parked}
use Rattle.px_chain.specs.Stages.{At, Doing, Parked, Sent, Stage, all_sent, busy, coming_down, connection, given_body, given_head, going_up, idle, next, over, place_of, request_body, response_body, response_head, side_parked, unparked, upgraded}
use Rattle.px_chain.proofs.KeepingLaws.{IsNothing, silent_nothing}
use Rattle.px_stream.specs.declared.going.Going.{Going}
use Rattle.px_stream.specs.declared.going.Sending.{Sending}
use Rattle.px_stream.specs.declared.going.Sending.TheVariants as sending
use Rattle.px_stream.specs.declared.link.Link.{Link}
use Rattle.px_stream.specs.declared.phase.Asked.{Asked}
use Rattle.px_stream.specs.declared.phase.Asked.TheVariants as asked
use Rattle.px_stream.specs.declared.phase.Wanted.{Wanted}
use Rattle.px_stream.specs.declared.phase.Wanted.TheVariants as ready
use Rattle.px_stream.specs.Goings.{sends_to, sends_while, sent_by, sent_of, up_text}
use Rattle.px_stream.specs.Stands.{AskedRequestFor, AskedSide, AskedUp, GoesOnUp, HasPlace, HasRequest, HasSide, Holds, IsAsked, IsLink, IsOpen, IsRead, Keeps, LinkEnds, LinkKeeps, ReadsFinal, ReadsLink, ReadsReturn, SentOn, WaitsUp, answer_asked, asked_for, bare, content_in, going_asked, going_in, head_asked, held_in, judged_asked, marks_at, none_sent, parked_link, sent_asked, sent_at, sent_doing, sent_on, silent_link, stage_of, unread_link, up_asked, up_in}
use Rattle.px_stream.specs.Turns.{FirstHeld, GoesUpFrom, HeldFirst, HeldUpFirst, KeepsUp, SideTurned, Turned, connected_up, dialled_sends, first_sent, going_sent, is_dial, new_side, opened_side, requests_behind, side_behind, unless_parked}
use Rattle.px_stream.proofs.AskLemmas.{dial_asked, returns, returns_at, whole_asked}
use Rattle.px_stream.proofs.FirstLemmas.{all_going, all_up, body_first, body_from, head_from, how_is, judged_read, return_first}
use Rattle.px_stream.proofs.UnreadLemmas.{reads_first, unread_reads}
use Rattle.px_stream.proofs.WentUpLemmas.{all_text}

-- the next request begins with what waits
again_reads : (bytes : List ℕ) (requests : State) → Keeps bytes requests → Reads request [] bytes false (before_all request requests.rest false)
again_reads bytes requests keeps = subst (λ l. Reads request [] l false (before_all request requests.rest false)) keeps.rest (reads_first request requests.rest false)

-- no interim responses are no commands
no_commands_by : (version : Version) (message : Request) → message.version ≡ version → interim_commands message [] ≡ []
no_commands_by versions.Http10 message is = rw is refl
no_commands_by versions.Http11 message is = rw is refl

pub no_commands : (message : Request) → interim_commands message [] ≡ []
no_commands message = no_commands_by message.version message refl

pub sent_none : (stage : Stage) → sent_on stage none_sent ≡ []
sent_none (idle at) = refl
sent_none (busy at flow (request_body given most)) = refl
sent_none (busy at flow (connection how)) = refl
sent_none (busy at flow (response_head server all_sent)) = no_commands flow.request
sent_none (busy at flow (response_head server going_up)) = no_commands flow.request
sent_none (busy at flow (response_body server all_sent most)) = refl
sent_none (busy at flow (response_body server going_up most)) = refl
sent_none (busy at flow (coming_down server all_sent)) = refl
sent_none (busy at flow (coming_down server going_up)) = refl
sent_none (busy at flow (upgraded server)) = refl
sent_none (busy at flow given_head) = refl
sent_none (busy at flow given_body) = refl
sent_none (next at) = refl
sent_none over = refl

-- ---- the readers where it leads

-- in the sight behind the reply they are where the stage looks
abbrev LedTo : Terms → Stage → Sight → ℕ → State → Option Link → Wanted → SentOn → Stage → Type 0
LedTo terms from seen moment requests side looked sent to =
    HasRequest terms to (sight_behind terms.place from seen moment to) sent.up looked (requests_behind to requests) × HasSide to (sight_behind terms.place from seen moment to) sent looked (side_behind (dials_at from) to side)

-- where that is, its side is new behind a whole response, and else as it was
abbrev pub WentTo : (returned : Bool) → Stage → Option Link → Option Link → Type 0
WentTo true (idle at) side later = later ≡ new_side side
WentTo returned over side later = ⊤
WentTo returned to side later = later ≡ side

went_to : (found : Asked) (looked : Wanted) (at : At) (side later : Option Link) → SideTurned found looked side later → WentTo (returns found) (stage_of at looked) side later
went_to (asked.ResponseBody flow server up) ready.Idle at side later is = is
went_to found ready.Over at side later is = tt
went_to found looked at side later is = is

-- the parked side stays, unless its keeping has ended
kept_by : (silent : Bool) (parked : Option Parked) (seen : Sight) (side later : Option Link) (client : List ℕ) (closed : Bool) (told now : ℕ) → side ≡ parked_link parked seen → later ≡ side →
    let stays : Option Parked = unspoilt_by silent parked in unless_parked stays later
    ≡ parked_link stays (record { client = client; closed = closed; server = server_behind false (side_parked stays) seen.server; shut = shut_behind false (side_parked stays) seen.shut; told = told; now = now })
kept_by true None seen side later client closed told now is same = refl
kept_by true (Some parked) seen side later client closed told now is same = same ∙ is
kept_by false parked seen side later client closed told now is same = refl

kept_parked : (at : At) (seen : Sight) (side later : Option Link) (client : List ℕ) (closed : Bool) (told now : ℕ) → side ≡ parked_link at.parked seen → later ≡ side →
    let stays : Option Parked = (unspoilt_at at seen).parked in unless_parked stays later
    ≡ parked_link stays (record { client = client; closed = closed; server = server_behind false (side_parked stays) seen.server; shut = shut_behind false (side_parked stays) seen.shut; told = told; now = now })
kept_parked at seen side later client closed told now is same = kept_by (is_silent seen.server seen.shut) at.parked seen side later client closed told now is same

-- of one that is there nothing was heard
unspoilt_there : (silent : Bool) (parked : Option Parked) (there : Parked) → unspoilt_by silent parked ≡ Some there → (silent ≡ true) × (parked ≡ Some there)
unspoilt_there true parked there is = (refl, is)
unspoilt_there false parked there is = absurd (let no : None ≡ Some there = is in cc)

nothing_read : (asked_head : Bool) (number : ℕ) (bytes : List ℕ) (shut : Bool) → IsNothing bytes shut → ReadsLink asked_head number bytes shut [] [] (unread_link number asked_head [] false)
nothing_read asked_head number bytes shut none =
    let P : List ℕ → Bool → Type 0 = λ l h. ReadsLink asked_head number l h [] [] (unread_link number asked_head [] false) in
    subst (λ l. P l shut) (sym none.empty) (subst (P []) (sym none.is_open) (unread_reads asked_head number [] false))

-- a side of which the whole response was read
ends_link : (message : Request) (number : ℕ) (bytes : List ℕ) (seen : Sight) (side : Option Link) → IsOpen (LinkEnds message number bytes seen) side → IsOpen (LinkKeeps number bytes seen.shut) side
ends_link message number bytes seen None is = absurd is
ends_link message number bytes seen (Some link) is = is.keeps

ends_new : (message : Request) (number : ℕ) (bytes : List ℕ) (seen : Sight) (side : Option Link) → IsOpen (LinkEnds message number bytes seen) side → new_side side ≡ Some (unread_link number false [] false)
ends_new message number bytes seen None is = absurd is
ends_new message number bytes seen (Some link) is = ap (λ n. Some (unread_link n false [] false)) is.keeps.server

first_of : (a b : Bool) → (a && b) ≡ true → a ≡ true
first_of true b is = refl
first_of false b is = is

second_of : (a b : Bool) → (a && b) ≡ true → b ≡ true
second_of true b is = is
second_of false b is = absurd (let no : false ≡ true = is in cc)

-- a question, but for how the request stands
idle_same : (found : Asked) (flow : Flow) (expects : Bool) (looked : Wanted) → asked.Idle flow expects ≡ bare found → FirstHeld found looked → HeldUpFirst flow.request looked
idle_same (asked.Idle own waits) flow expects looked is first = let one : own ≡ flow = cc in subst (λ (f : Flow). HeldUpFirst f.request looked) one first
idle_same (asked.RequestBody own) flow expects looked is first = absurd (cc)
idle_same (asked.Connection own server up) flow expects looked is first = absurd (let no : asked.Idle flow expects ≡ asked.Connection own server None = is in cc)
idle_same (asked.ResponseHead own server up) flow expects looked is first = absurd (let no : asked.Idle flow expects ≡ asked.ResponseHead own server sending.All = is in cc)
idle_same (asked.ResponseBody own server up) flow expects looked is first = absurd (let no : asked.Idle flow expects ≡ asked.ResponseBody own server sending.All = is in cc)
idle_same (asked.GivenHead own) flow expects looked is first = absurd (cc)
idle_same (asked.GivenBody own) flow expects looked is first = absurd (cc)

answer_same : (found : Asked) (flow : Flow) (server : ℕ) (looked : Wanted) → asked.ResponseHead flow server sending.All ≡ bare found → FirstHeld found looked → KeepsUp found looked →
    HeldFirst flow.response looked × GoesUpFrom (up_asked found) looked
answer_same (asked.ResponseHead own number up) flow server looked is first goes =
    let e : asked.ResponseHead flow server sending.All ≡ asked.ResponseHead own number sending.All = is in
    let one : own ≡ flow = cc in (subst (λ (f : Flow). HeldFirst f.response looked) one first, goes)
answer_same (asked.Idle own waits) flow server looked is first goes = absurd (cc)
answer_same (asked.RequestBody own) flow server looked is first goes = absurd (cc)
answer_same (asked.Connection own number up) flow server looked is first goes = absurd (let no : asked.ResponseHead flow server sending.All ≡ asked.Connection own number None = is in cc)
answer_same (asked.ResponseBody own number up) flow server looked is first goes = absurd (let no : asked.ResponseHead flow server sending.All ≡ asked.ResponseBody own number sending.All = is in cc)
answer_same (asked.GivenHead own) flow server looked is first goes = absurd (cc)
answer_same (asked.GivenBody own) flow server looked is first goes = absurd (cc)

dial_same : (found : Asked) (flow : Flow) (server : ℕ) (looked : Wanted) → asked.Connection flow server None ≡ bare found → KeepsUp found looked → GoesUpFrom (connected_up (going_asked found)) looked
dial_same (asked.Connection own number up) flow server looked is goes = goes
dial_same (asked.Idle own waits) flow server looked is goes = absurd (cc)
dial_same (asked.RequestBody own) flow server looked is goes = absurd (cc)
dial_same (asked.ResponseHead own number up) flow server looked is goes = absurd (let no : asked.Connection flow server None ≡ asked.ResponseHead own number sending.All = is in cc)
dial_same (asked.ResponseBody own number up) flow server looked is goes = absurd (let no : asked.Connection flow server None ≡ asked.ResponseBody own number sending.All = is in cc)
dial_same (asked.GivenHead own) flow server looked is goes = absurd (cc)
dial_same (asked.GivenBody own) flow server looked is goes = absurd (cc)

-- where the server of a request is connected that goes up, its text is sent
abbrev text_going : Option Going → List ℕ
text_going None = []
text_going (Some going) = going.text.items

abbrev text_first : Option Going → Reply → List ℕ
text_first up reply.Dialled = text_going up
text_first up answer = []

no_less : (n : ℕ) → 0 ≤ n
no_less n = omega arith

none_more : (n m : ℕ) → n ≡ m → n ≤ m
none_more n m is = omega arith

drop_all : (l : List ℕ) → drop (length l) l ≡ []
drop_all [] = refl
drop_all (b ∷ l) = drop_all l

some_asked : (one other : Asked) → Some one ≡ Some other → one ≡ other
some_asked one other is = cc

bare_dial : (found : Asked) → is_dial (bare found) ≡ true → is_dial found ≡ true
bare_dial (asked.Idle flow expects) is = is
bare_dial (asked.RequestBody flow) is = is
bare_dial (asked.Connection flow server up) is = refl
bare_dial (asked.ResponseHead flow server up) is = is
bare_dial (asked.ResponseBody flow server up) is = is
bare_dial (asked.GivenHead flow) is = is
bare_dial (asked.GivenBody flow) is = is

sent_up : (found : Asked) → is_dial found ≡ false → sent_asked found ≡ sent_of (up_asked found)
sent_up (asked.Idle flow expects) none = refl
sent_up (asked.RequestBody flow) none = refl
sent_up (asked.Connection flow server up) none = absurd (let no : true ≡ false = none in cc)
sent_up (asked.ResponseHead flow server up) none = refl
sent_up (asked.ResponseBody flow server up) none = refl
sent_up (asked.GivenHead flow) none = refl
sent_up (asked.GivenBody flow) none = refl

-- where no server is connected nothing is sent at first
none_first : (at : At) (found : Asked) (answer : Reply) → is_dial found ≡ false → first_sent at found answer ≡ []
none_first at (asked.Idle flow expects) answer none = refl
none_first at (asked.RequestBody flow) answer none = refl
none_first at (asked.Connection flow server up) answer none = absurd (let no : true ≡ false = none in cc)
none_first at (asked.ResponseHead flow server up) answer none = refl
none_first at (asked.ResponseBody flow server up) answer none = refl
none_first at (asked.GivenHead flow) answer none = refl
none_first at (asked.GivenBody flow) answer none = refl

-- and what is sent where one is
dial_text : (message : Request) (server : ℕ) (up : Option Going) → sends_while (sent_by up) server (text_going up) ++ interim_commands message [] ≡ going_sent server up
dial_text message server None = no_commands message
dial_text message server (Some going) = ap (λ l. sends_to server going.text.items ++ l) (no_commands message) ∙ append-nil (sends_to server going.text.items)

dial_sent : (place : Place) (at : At) (flow : Flow) (up : Option Going) (answer : Reply) →
    sent_on (sequence (dial_leads place at flow (sent_by up) answer)) (record none_sent { up = text_first up answer }) ≡ dialled_sends at.dials up answer
dial_sent place at flow up reply.Dialled = dial_text flow.request at.dials up
dial_sent place at flow up (reply.Refused fault) = refl
dial_sent place at flow up (reply.Go told stream) = refl
dial_sent place at flow up (reply.Respond given) = refl
dial_sent place at flow up reply.Kill = refl
dial_sent place at flow up reply.Discard = refl

module _ (terms : Terms) (seen : Sight) (answer : Timed Reply) (requests : State) (side later : Option Link) (looked : Wanted) (no_content : content_in looked ≡ []) (here : At) where
  abbrev Led : Stage → Turn Stage Command → Type 0
  Led from turned =
      stage_of here looked ≡ sequence turned.stage → WentTo (returns_at from) (sequence turned.stage) side later → LedTo terms from seen answer.moment requests later looked none_sent (sequence turned.stage)

  -- where a parked side that is kept no more is forgotten
  abbrev apart : At → At
  apart at = unspoilt_at at seen

  -- all of the request was sent
  waits_all : (at : At) (told : Flow) (sees : Sight) (rests : State) → stage_of here looked ≡ busy at told (connection all_sent) → Keeps sees.client rests → WaitsUp terms told sees (going_in looked) rests
  waits_all at told sees rests leads keeps =
      subst (λ o. WaitsUp terms told sees o rests) (sym (all_going looked (sym (how_is here looked) ∙ ap sent_at leads))) keeps

  goes_all : (to : Stage) (told : Flow) (sees : Sight) (rests : State) → stage_of here looked ≡ to → sent_at to ≡ all_sent → Keeps sees.client rests → GoesOnUp terms told sees (up_in looked) [] rests
  goes_all to told sees rests leads all keeps =
      subst (λ u. GoesOnUp terms told sees u [] rests) (sym (all_up looked (sym (how_is here looked) ∙ (ap sent_at leads ∙ all)))) keeps

  taken_head_led : (at : At) (flow : Flow) (expected : Bool) (most : Option ℕ) (taken : Taken Request) (head : ReadRequest) → IsRead head flow.request → HeldUpFirst flow.request looked →
      Reads request (asks head ∷ []) seen.client false requests → side ≡ parked_link at.parked seen → Led (idle at) (turn_taken_head (apart at) flow expected most taken answer.moment seen)
  taken_head_led at flow expected most (GoesOn message) head was first reads parked leads went = (
    record {
      head = head;
      marks = [];
      is_content = no_content;
      holds = body_first looked here (apart at) (record flow { request = message }) None most head flow.request was leads first;
      untold = refl;
      reads = reads;
    },
    kept_parked at seen side later seen.client seen.closed 0 answer.moment parked went,
  )
  taken_head_led at flow expected most (Responds given) head was first reads parked leads went = (
    record {
      head = head;
      marks = [];
      is_content = no_content;
      holds = body_first looked here (apart at) flow (Some given) None head flow.request was leads first;
      untold = refl;
      reads = reads;
    },
    kept_parked at seen side later seen.client seen.closed 0 answer.moment parked went,
  )
  taken_head_led at flow expected most Kills head was first reads parked leads went = (tt, tt)

  judged_led : (at : At) (head : ReadRequest) (made : Judged) (found : Asked) → judged terms.place head ≡ made → judged_asked terms at head made seen.now ≡ Some (bare found) → FirstHeld found looked →
      Reads request (asks head ∷ []) seen.client false requests → side ≡ parked_link at.parked seen → Led (idle at) (turn_judged terms (apart at) head made seen answer)
  judged_led at head (Refused fault) found made is first reads parked leads went = (tt, tt)
  judged_led at head (Connects address) found made is first reads parked leads went = (tt, tt)
  judged_led at head (Accepted message) found made is first reads parked leads went =
      let flow : Flow = flow_of terms at.flow message seen.now in
      let one : asked.Idle flow (expects head) ≡ bare found = (let e : Some (asked.Idle flow (expects head)) ≡ Some (bare found) = is in cc) in
      taken_head_led at flow (expects head) (allowed_up_by terms.streams answer.value) (taken_at_request_head message answer.value) head (judged_read terms.place head message made) (idle_same found flow (expects head) looked one first)
      reads parked leads went

  head_led : (at : At) (item : Item ReadRequest) (found : Asked) → head_asked terms at (head_in item) seen.now ≡ Some (bare found) → FirstHeld found looked → Reads request (marks_at (head_in item)) seen.client false requests →
      side ≡ parked_link at.parked seen → Led (idle at) (turn_head terms (apart at) item seen answer)
  head_led at missing found is first reads parked leads went = (tt, tt)
  head_led at (part head body) found is first reads parked leads went = judged_led at head (judged terms.place head) found refl is first reads parked leads went
  head_led at (complete head body trailers size) found is first reads parked leads went = judged_led at head (judged terms.place head) found refl is first reads parked leads went
  head_led at (bad_head fault) found is first reads parked leads went = (tt, tt)
  head_led at (bad_body fault head body) found is first reads parked leads went = judged_led at head (judged terms.place head) found refl is first reads parked leads went

  module _ (at : At) (flow : Flow) (given : Option Response) (most : Option ℕ) (keeps : Keeps (client_left (busy at flow (request_body given most)) seen) requests) (parked : side ≡ parked_link at.parked seen) where
    abbrev bodies : Stage
    bodies = busy at flow (request_body given most)

    goes_to : (to_it : Bool) (there : Parked) (told : Flow) → (apart at).parked ≡ Some there → Led bodies (goes_on_by (side_if to_it there.server) terms.place (apart at) told)
    goes_to true there told is leads went =
        let asked_head : Bool = is_head told.request.method in
        let to : Stage = busy (unparked (apart at)) (reached terms.place told) (response_head there.server all_sent) in
        let (silent, stands) = unspoilt_there (is_silent seen.server seen.shut) at.parked there is in
        let opened : later ≡ Some (unread_link there.server false [] false) = went ∙ (parked ∙ (ap (λ o. parked_link o seen) stands ∙ ap (λ b. silent_link b there.server) silent)) in (
          goes_all to (reached terms.place told) (sight_behind terms.place bodies seen answer.moment to) requests leads refl keeps,
          subst (λ s. IsOpen (ReadsLink asked_head there.server seen.server seen.shut [] []) (opened_side false there.server asked_head s)) (sym opened)
              (nothing_read asked_head there.server seen.server seen.shut (silent_nothing seen.server seen.shut silent)),
        )
    goes_to false there told is leads went = (
      waits_all (apart at) told (sight_behind terms.place bodies seen answer.moment (busy (apart at) told (connection all_sent))) requests leads keeps,
      kept_parked at seen side later (client_left bodies seen) seen.closed 0 answer.moment parked went,
    )

    goes_on_led : (there : Option Parked) (message : Request) (told : Flow) → (apart at).parked ≡ there → Led bodies (goes_on_by (parked_for terms.place message there) terms.place (apart at) told)
    goes_on_led None message told is leads went = (
      waits_all (apart at) told (sight_behind terms.place bodies seen answer.moment (busy (apart at) told (connection all_sent))) requests leads keeps,
      kept_parked at seen side later (client_left bodies seen) seen.closed 0 answer.moment parked went,
    )
    goes_on_led (Some there) message told is leads went = goes_to (is_same_address there.address (server_for terms.place message)) there told is leads went

    taken_body_led : (told : Flow) (taken : Taken Request) → Led bodies (turn_taken_body terms.place (apart at) told taken answer.moment seen)
    taken_body_led told (GoesOn message) leads went = goes_on_led (apart at).parked message (record told { request = message }) refl leads went
    taken_body_led told (Responds instead) leads went =
        (record { rest = keeps.rest; open_still = keeps.open_still; behind = keeps.behind }, kept_parked at seen side later (client_left bodies seen) seen.closed 0 answer.moment parked went)
    taken_body_led told Kills leads went = (tt, tt)

    body_led : (item : Item ReadRequest) → Led bodies (turn_body terms.place (apart at) flow item seen answer)
    body_led missing leads went = (tt, tt)
    body_led (part head body) leads went = (tt, tt)
    body_led (complete head body trailers size) leads went =
        let told : Flow = with_body flow body.content trailers seen.now in taken_body_led told (taken_at_request_body told.request answer.value) leads went
    body_led (bad_head fault) leads went = (tt, tt)
    body_led (bad_body fault head body) leads went = (tt, tt)

  -- ---- the server is connected

  module _ (at : At) (flow : Flow) (how : Sent) where
    abbrev dials : Stage
    dials = busy at flow (connection how)

    abbrev sees_dialled : Sight
    sees_dialled = sight_behind terms.place dials seen answer.moment (busy (record (apart at) { dials = at.dials + 1; parked = None }) (reached terms.place flow) (response_head at.dials how))

    dialled_up : (up : Option Going) → WaitsUp terms flow seen up requests → GoesOnUp terms (reached terms.place flow) sees_dialled (connected_up up) (text_going up) requests
    dialled_up None waits = waits
    dialled_up (Some going) waits = record {
      marks = waits.marks;
      going_on = record { head = waits.going_on.head; sent_as = waits.going_on.sent_as; reads = waits.going_on.reads };
      within = no_less (length (up_text terms.place (Some going.sent) waits.marks));
      is_text = waits.is_text;
    }

    dial_led : (up : Option Going) (value : Reply) → WaitsUp terms flow seen up requests → GoesUpFrom (connected_up up) looked → stage_of here looked ≡ sequence (dial_leads terms.place (apart at) flow how value) →
        LedTo terms dials seen answer.moment requests later looked (record none_sent { up = text_first up value }) (sequence (dial_leads terms.place (apart at) flow how value))
    dial_led up reply.Dialled waits goes leads = (
      subst (λ u. GoesOnUp terms (reached terms.place flow) sees_dialled u (text_going up) requests) (sym (head_from looked here (record (apart at) { dials = at.dials + 1; parked = None }) (reached terms.place flow) at.dials how (connected_up up) leads goes))
          (dialled_up up waits),
      unread_reads (is_head flow.request.method) at.dials [] false,
    )
    dial_led up (reply.Refused fault) waits goes leads = (tt, tt)
    dial_led up (reply.Go told stream) waits goes leads = (tt, tt)
    dial_led up (reply.Respond given) waits goes leads = (tt, tt)
    dial_led up reply.Kill waits goes leads = (tt, tt)
    dial_led up reply.Discard waits goes leads = (tt, tt)

  -- ---- a response's head

  module _ (at : At) (flow : Flow) (server : ℕ) (how : Sent) where
    abbrev heads : Stage
    heads = busy at flow (response_head server how)

    behind_head : (size : Option ℕ) (head : ReadResponse) (told : Flow) → told.request ≡ flow.request → head_in (answers_in flow.request seen).final ≡ Some head → HeldFirst (Some (response_of head)) looked →
        stage_of here looked ≡ busy (apart at) told (response_body server how size) → (s : Option Link) → IsOpen (ReadsFinal flow.request server seen) s →
        IsOpen (ReadsReturn told server size (sight_behind terms.place heads seen answer.moment (busy (apart at) told (response_body server how size))) (content_in looked) (held_in looked)) s
    behind_head size head told same stands first leads None is = absurd is
    behind_head size head told same stands first leads (Some link) is =
        let one : head ≡ is.head = (let e : Some head ≡ Some is.head = sym stands ∙ is.stands in cc) in record {
          sent = is.sent;
          head = is.head;
          marks = [];
          is_content = no_content;
          holds = subst (λ h. Holds told size h [] (held_in looked)) one (return_first looked here (apart at) told server how size head leads first);
          final = is.final;
          lasts = is.lasts ∙ ap (λ (m : Request). read_persists m is.head) (sym same);
          is_link = subst (λ (m : Request). IsLink m server seen is.sent (answers is.head ∷ []) link) (sym same) is.is_link;
        }

    -- a request that goes up goes on
    asked_up : (up : Sending) (told : Flow) (size : Option ℕ) → told.request ≡ flow.request → sent_of up ≡ how → AskedUp flow heads seen up requests →
        GoesOnUp terms told (sight_behind terms.place heads seen answer.moment (busy (apart at) told (response_body server how size))) up [] requests
    asked_up sending.All told size same is keeps = keeps
    asked_up (sending.GoingUp goes) told size same is up =
        let text : List ℕ = up_text terms.place (Some goes) up.marks in
        let all : text ≡ going_text terms.place flow seen = all_text terms flow server seen goes up.marks requests up.going_on up.all_read (ap (gone_by (Some server)) up.not_whole) in
        let told_is : told_up terms.place flow how seen ≡ length text = ap (λ s. told_up terms.place flow s seen) (sym is) ∙ ap length (sym all) in
        record {
          marks = up.marks;
          going_on = record {
            head = up.going_on.head;
            sent_as = up.going_on.sent_as ∙ ap (λ (r : Request). Some (framed_up up.going_on.head r)) (sym same);
            reads = up.going_on.reads;
          };
          within = none_more (told_up terms.place flow how seen) (length text) told_is;
          is_text = sym (ap (λ n. drop n text) told_is ∙ drop_all text);
        }

    taken_answer_led : (size : Option ℕ) (head : ReadResponse) (taken : Taken Response) (used : Used) (closed : Bool) (up : Sending) → sent_of up ≡ how → AskedUp flow heads seen up requests → GoesUpFrom up looked →
        head_in (answers_in flow.request seen).final ≡ Some head → HeldFirst (Some (response_of head)) looked →
        IsOpen (ReadsFinal flow.request server seen) side → Led heads (turn_taken_answer (apart at) (with_answer flow (response_of head) seen.now) server how size taken answer.moment used closed)
    taken_answer_led size head (GoesOn message) used closed up is ups goes stands first is_open leads went =
        let told : Flow = record (with_answer flow (response_of head) seen.now) { response = Some message } in
        let sees : Sight = sight_behind terms.place heads seen answer.moment (busy (apart at) told (response_body server how size)) in (
          subst (λ u. GoesOnUp terms told sees u [] requests) (sym (body_from looked here (apart at) told server how size up leads goes)) (asked_up up told size refl is ups),
          behind_head size head told refl stands first leads later (subst (IsOpen (ReadsFinal flow.request server seen)) (sym went) is_open),
        )
    taken_answer_led size head (Responds given) used closed up is ups goes stands first is_open leads went = (tt, tt)
    taken_answer_led size head Kills used closed up is ups goes stands first is_open leads went = (tt, tt)

    head_answered : (head : ReadResponse) (found : Asked) → sent_of (up_asked found) ≡ how → AskedUp flow heads seen (up_asked found) requests → head_in (answers_in flow.request seen).final ≡ Some head →
        answer_asked flow server (Some head) seen.now ≡ Some (bare found) → FirstHeld found looked → KeepsUp found looked → IsOpen (ReadsFinal flow.request server seen) side → Led heads (turn_answer_head terms (apart at) flow server how head seen answer)
    head_answered head found is ups stands found_is first keeps is_open leads went =
        let told : Flow = with_answer flow (response_of head) seen.now in
        let one : asked.ResponseHead told server sending.All ≡ bare found = (let e : Some (asked.ResponseHead told server sending.All) ≡ Some (bare found) = found_is in cc) in
        let (held, goes) = answer_same found told server looked one first keeps in
        taken_answer_led (allowed_by terms.streams answer.value) head (taken_at_response_head (response_of head) answer.value) (server_in server seen) seen.closed (up_asked found) is ups goes stands held is_open leads went

    answer_led : (item : Item ReadResponse) (found : Asked) → sent_of (up_asked found) ≡ how → AskedUp flow heads seen (up_asked found) requests → (answers_in flow.request seen).final ≡ item →
        answer_asked flow server (head_in item) seen.now ≡ Some (bare found) → FirstHeld found looked → KeepsUp found looked → IsOpen (ReadsFinal flow.request server seen) side → Led heads (turn_answer terms (apart at) flow server how item seen answer)
    answer_led missing found is ups same found_is first keeps is_open leads went = (tt, tt)
    answer_led (part head body) found is ups same found_is first keeps is_open leads went = head_answered head found is ups (ap head_in same) found_is first keeps is_open leads went
    answer_led (complete head body trailers size) found is ups same found_is first keeps is_open leads went = head_answered head found is ups (ap head_in same) found_is first keeps is_open leads went
    answer_led (bad_head fault) found is ups same found_is first keeps is_open leads went = (tt, tt)
    answer_led (bad_body fault head body) found is ups same found_is first keeps is_open leads went = head_answered head found is ups (ap head_in same) found_is first keeps is_open leads went

  -- ---- a whole response

  module _ (at : At) (flow : Flow) (server : ℕ) (most : Option ℕ) (how : Sent) (keeps : how ≡ all_sent → Keeps seen.client requests)
      (ends : IsOpen (LinkEnds flow.request server (server_left (busy at flow (response_body server how most)) seen) seen) side) where
    abbrev whole : Stage
    whole = busy at flow (response_body server how most)

    abbrev left : List ℕ
    left = server_left whole seen

    -- a side is kept of which nothing more came
    finish_led : (stays kept : Bool) (owed : List Command) (message : Request) → (stays ≡ true → Keeps seen.client requests) → (kept ≡ true → is_silent left seen.shut ≡ true) →
        Led whole (record { owed = owed; stage = behind_flow stays (parks kept terms.place (apart at) message server) })
    finish_led true true owed message rests silent leads went =
        (again_reads seen.client requests (rests refl), went ∙ (ends_new flow.request server left seen side ends ∙ ap (λ b. silent_link b server) (sym (silent refl))))
    finish_led true false owed message rests silent leads went = (again_reads seen.client requests (rests refl), refl)
    finish_led false kept owed message rests silent leads went = (tt, tt)

    module _ (may : Bool) (silent : may ≡ true → is_silent left seen.shut ≡ true) where
      upgrade_led : (sent : Sent) (is_switch : Bool) (told : Flow) (message : Response) (used : Used) (closed : Bool) → how ≡ sent →
          Led whole (finish_by (is_sent sent && is_switch) terms.place (apart at) told sent message may server used closed)
      upgrade_led all_sent true told message used closed is leads went =
          (record { rest = (keeps is).rest; open_still = (keeps is).open_still; behind = (keeps is).behind }, subst (IsOpen (LinkKeeps server left seen.shut)) (sym went) (ends_link flow.request server left seen side ends))
      upgrade_led all_sent false told message used closed is leads went =
          let stays : Bool = connection_goes_on at.flow told.request message in
          finish_led stays (stays && may) (finish_by false terms.place (apart at) told all_sent message may server used closed).owed told.request (λ b. keeps is) (λ b. silent (second_of stays may b)) leads went
      upgrade_led going_up is_switch told message used closed is leads went = (tt, tt)

      taken_whole_led : (told : Flow) (taken : Taken Response) (used : Used) (closed : Bool) → Led whole (turn_taken_whole terms.place (apart at) told server how may taken answer.moment used closed)
      taken_whole_led told (GoesOn message) used closed leads went = upgrade_led how (message.status == 101) told message used closed refl leads went
      taken_whole_led told (Responds given) used closed leads went = (tt, tt)
      taken_whole_led told Kills used closed leads went = (tt, tt)

      whole_led : (o : Option Response) (told : Flow) (used : Used) (closed : Bool) →
          Led whole (turn_response o (λ message. taken_at_response_body message answer.value) (λ taken. turn_taken_whole terms.place (apart at) told server how may taken answer.moment used closed))
      whole_led None told used closed leads went = (tt, tt)
      whole_led (Some message) told used closed leads went = taken_whole_led told (taken_at_response_body message answer.value) used closed leads went

    returned_led : (item : Item ReadResponse) → Led whole (turn_returned terms.place (apart at) flow server how item seen answer)
    returned_led missing leads went = (tt, tt)
    returned_led (part head body) leads went = (tt, tt)
    returned_led (complete head body trailers size) leads went =
        let told : Flow = with_returned flow body.content trailers seen.now in
        whole_led (keeps_side flow.request seen head) (first_of (is_silent left seen.shut) (sent_persists flow.request && read_persists flow.request head)) told.response told (server_in server seen) seen.closed leads went
    returned_led (bad_head fault) leads went = (tt, tt)
    returned_led (bad_body fault head body) leads went = (tt, tt)

  module _ (at : At) (flow : Flow) (keeps : Keeps seen.client requests) (parked : side ≡ parked_link at.parked seen) where
    taken_given_led : (told : Flow) (taken : Taken Response) (used : Used) (closed : Bool) → Led (busy at flow given_head) (turn_taken_given (apart at) told taken answer.moment used closed)
    taken_given_led told (GoesOn message) used closed leads went =
        (record { rest = keeps.rest; open_still = keeps.open_still; behind = keeps.behind }, kept_parked at seen side later seen.client seen.closed 0 answer.moment parked went)
    taken_given_led told (Responds given) used closed leads went = (tt, tt)
    taken_given_led told Kills used closed leads went = (tt, tt)

    given_led : (o : Option Response) (told : Flow) (used : Used) (closed : Bool) →
        Led (busy at flow given_head) (turn_response o (λ message. taken_at_response_head message answer.value) (λ taken. turn_taken_given (apart at) told taken answer.moment used closed))
    given_led None told used closed leads went = (tt, tt)
    given_led (Some message) told used closed leads went = taken_given_led told (taken_at_response_head message answer.value) used closed leads went

    last_led : (stays : Bool) (owed : List Command) → Led (busy at flow given_body) (record { owed = owed; stage = behind_flow stays (apart at) })
    last_led true owed leads went = (again_reads seen.client requests keeps, kept_parked at seen side later seen.client seen.closed 0 answer.moment parked went)
    last_led false owed leads went = (tt, tt)

    taken_last_led : (told : Flow) (taken : Taken Response) (used : Used) (closed : Bool) → Led (busy at flow given_body) (turn_taken_returned (apart at) told taken answer.moment used closed)
    taken_last_led told (GoesOn message) used closed leads went =
        last_led (is_sent all_sent && connection_goes_on at.flow told.request message) (turn_taken_returned (apart at) told (GoesOn message) answer.moment used closed).owed leads went
    taken_last_led told (Responds given) used closed leads went = (tt, tt)
    taken_last_led told Kills used closed leads went = (tt, tt)

    given_body_led : (o : Option Response) (told : Flow) (used : Used) (closed : Bool) →
        Led (busy at flow given_body) (turn_response o (λ message. taken_at_response_body message answer.value) (λ taken. turn_taken_returned (apart at) told taken answer.moment used closed))
    given_body_led None told used closed leads went = (tt, tt)
    given_body_led (Some message) told used closed leads went = taken_last_led told (taken_at_response_body message answer.value) used closed leads went

  -- ---- whatever was asked: this was sent of where it leads

  abbrev First : Stage → Asked → SentOn
  First stage found = record none_sent { up = text_first (going_asked found) answer.value }

  keeps_where : (flow : Flow) (stage : Stage) (up : Sending) (how : Sent) → sent_of up ≡ how → AskedUp flow stage seen up requests → how ≡ all_sent → Keeps (client_left stage seen) requests
  keeps_where flow stage sending.All how is keeps all = keeps
  keeps_where flow stage (sending.GoingUp goes) how is up all = absurd (let no : going_up ≡ all_sent = is ∙ all in cc)

  led_for : (at : At) (flow : Flow) (doing : Doing) (found : Asked) → is_dial found ≡ false → asked_for at flow doing seen ≡ Some (bare found) → sent_asked found ≡ sent_doing doing →
      AskedRequestFor terms at flow doing seen found requests → AskedSide (busy at flow doing) seen side → FirstHeld found looked → KeepsUp found looked → Led (busy at flow doing) (turns terms (apart at) flow doing seen answer)
  led_for at flow (request_body given most) found none is how keeps parked first goes leads went = body_led at flow given most keeps parked (request_in seen) leads went
  led_for at flow (connection how) found none is shows waits parked first goes leads went =
      absurd (let no : true ≡ false = sym (bare_dial found (let e : Some (asked.Connection flow at.dials None) ≡ Some (bare found) = is in ap is_dial (sym (some_asked (asked.Connection flow at.dials None) (bare found) e)))) ∙ none in cc)
  led_for at flow (response_head server how) found none is shows ups is_open first goes leads went =
      answer_led at flow server how (answers_in flow.request seen).final found (sym (sent_up found none) ∙ shows) ups refl is first goes is_open leads went
  led_for at flow (response_body server how most) found none is shows ups is_open first goes leads went =
      returned_led at flow server most how (keeps_where flow (busy at flow (response_body server how most)) (up_asked found) how (sym (sent_up found none) ∙ shows) ups) is_open (answers_in flow.request seen).final leads went
  led_for at flow (coming_down server how) found none is shows keeps is_open first goes leads went = absurd (let no : None ≡ Some (bare found) = is in cc)
  led_for at flow (upgraded server) found none is shows keeps is_open first goes leads went = absurd (let no : None ≡ Some (bare found) = is in cc)
  led_for at flow given_head found none is shows keeps parked first goes leads went = given_led at flow keeps parked (given_at flow seen.now).response (given_at flow seen.now) (server_parked (apart at).parked seen) seen.closed leads went
  led_for at flow given_body found none is shows keeps parked first goes leads went = given_body_led at flow keeps parked flow.response flow (server_parked (apart at).parked seen) seen.closed leads went

  pub led_plain : (stage : Stage) (found : Asked) → is_dial found ≡ false → IsAsked terms requests side found stage seen → FirstHeld found looked → KeepsUp found looked → Led stage (turn terms stage seen answer)
  led_plain (idle at) found none is first goes leads went = head_led at (request_in seen) found is.asks first is.request is.has_side leads went
  led_plain (busy at flow doing) found none is first goes leads went = led_for at flow doing found none is.asks is.how is.request is.has_side first goes leads went
  led_plain (next at) found none is first goes leads went = absurd (let no : None ≡ Some (bare found) = is.asks in cc)
  led_plain over found none is first goes leads went = absurd (let no : None ≡ Some (bare found) = is.asks in cc)

-- what is looked for has its place
placed_at : (at : At) (looked : Wanted) (sees : Sight) (closed : Bool) → closed ≡ sees.closed → HasPlace (stage_of at looked) sees at closed
placed_at at ready.Idle sees closed is = record { is_here = refl; client = is }
placed_at at (ready.RequestBody flow given most body held) sees closed is = record { is_here = refl; client = is }
placed_at at (ready.Connection flow up) sees closed is = record { is_here = refl; client = is }
placed_at at (ready.ResponseHead flow server up) sees closed is = record { is_here = refl; client = is }
placed_at at (ready.ResponseBody flow server up most body held) sees closed is = record { is_here = refl; client = is }
placed_at at (ready.ComingDown flow server up sent) sees closed is = record { is_here = refl; client = is }
placed_at at (ready.Upgraded flow server) sees closed is = record { is_here = refl; client = is }
placed_at at (ready.GivenHead flow) sees closed is = record { is_here = refl; client = is }
placed_at at (ready.GivenBody flow) sees closed is = record { is_here = refl; client = is }
placed_at at (ready.Connects address) sees closed is = record { is_here = refl; client = is }
placed_at at ready.Over sees closed is = tt

-- An answer leads where the chain leads, in the sight that the walk has behind it.
module _ (terms : Terms) (seen : Sight) (answer : Timed Reply) (requests : State) (side later : Option Link) (found : Asked) (at : At) (looked : Wanted) (closed : Bool) (content : content_in looked ≡ [])
    (first : FirstHeld found looked) (goes : KeepsUp found looked) (shut : closed ≡ seen.closed) (went : SideTurned found looked side later) where
  abbrev To : Stage → Bool → List Command → Type 0
  To stage dials given =
      let to : Stage = sequence (turn terms stage seen answer).stage in
      Turned terms to (sight_behind terms.place stage seen answer.moment to) at (requests_behind (stage_of at looked) requests) (side_behind dials (stage_of at looked) later) looked closed given

  from_led : (stage : Stage) (dials : Bool) (sent : SentOn) (given : List Command) → dials ≡ dials_at stage → (leads : stage_of at looked ≡ sequence (turn terms stage seen answer).stage) →
      LedTo terms stage seen answer.moment requests later looked sent (sequence (turn terms stage seen answer).stage) → sent_on (sequence (turn terms stage seen answer).stage) sent ≡ given → To stage dials given
  from_led stage dials sent given is leads (has_request, has_side) sent_is =
      let to : Stage = sequence (turn terms stage seen answer).stage in
      let sees : Sight = sight_behind terms.place stage seen answer.moment to in record {
        sent = sent;
        sent_is = sent_is;
        is_ready = record {
          is_stage = leads;
          request = subst (λ s. HasRequest terms to sees sent.up looked (requests_behind s requests)) (sym leads) has_request;
          has_side = subst (λ s. HasSide to sees sent looked (side_behind dials s later)) (sym leads) (subst (λ d. HasSide to sees sent looked (side_behind d to later)) (sym is) has_side);
        };
        place = subst (λ s. HasPlace s sees at closed) leads (placed_at at looked sees closed shut);
      }

  turned_plain : (stage : Stage) → is_dial found ≡ false → IsAsked terms requests side found stage seen → stage_of at looked ≡ sequence (turn terms stage seen answer).stage →
      To stage (is_dial found) (first_sent (place_of stage) found answer.value)
  turned_plain stage none is leads =
      let to : Stage = sequence (turn terms stage seen answer).stage in
      let there : WentTo (returns_at stage) to side later =
      subst (λ b. WentTo b to side later) (whole_asked terms stage seen found is.asks) (subst (λ s. WentTo (returns found) s side later) leads (went_to found looked at side later went)) in
      from_led stage (is_dial found) none_sent (first_sent (place_of stage) found answer.value) (dial_asked terms stage seen found is.asks) leads
      (led_plain terms seen answer requests side later looked content at stage found none is first goes leads there)
      (sent_none (sequence (turn terms stage seen answer).stage) ∙ sym (none_first (place_of stage) found answer.value none))

  -- where a server is dialled
  turned_dial : (stage : Stage) (own : Flow) (number : ℕ) (up : Option Going) → found ≡ asked.Connection own number up → IsAsked terms requests side found stage seen →
      stage_of at looked ≡ sequence (turn terms stage seen answer).stage → To stage (is_dial found) (first_sent (place_of stage) found answer.value)
  turned_dial (busy here flow (connection how)) own number up same is leads =
      let shows : sent_by up ≡ how = ap sent_asked (sym same) ∙ is.how in
      let goes_on : GoesUpFrom (connected_up up) looked = subst (λ f. KeepsUp f looked) same goes in
      let waits : WaitsUp terms flow seen up requests = subst (λ f. AskedRequestFor terms here flow (connection how) seen f requests) same is.request in
      let text : dialled_sends here.dials up answer.value ≡ first_sent here found answer.value = ap (λ f. first_sent here f answer.value) (sym same) in
      from_led (busy here flow (connection how)) (is_dial found) (record none_sent { up = text_first up answer.value }) (first_sent here found answer.value) (dial_asked terms (busy here flow (connection how)) seen found is.asks) leads
      (dial_led terms seen answer requests side later looked content at here flow how up answer.value waits goes_on leads)
      (ap (λ h. sent_on (sequence (dial_leads terms.place (unspoilt_at here seen) flow h answer.value)) (record none_sent { up = text_first up answer.value })) (sym shows) ∙ (dial_sent terms.place (unspoilt_at here seen) flow up answer.value ∙ text))
  turned_dial (idle here) own number up same is leads = absurd (let no : true ≡ false = sym (ap is_dial same) ∙ dial_asked terms (idle here) seen found is.asks in cc)
  turned_dial (busy here flow (request_body given most)) own number up same is leads = absurd (let no : true ≡ false = sym (ap is_dial same) ∙ dial_asked terms (busy here flow (request_body given most)) seen found is.asks in cc)
  turned_dial (busy here flow (response_head server how)) own number up same is leads = absurd (let no : true ≡ false = sym (ap is_dial same) ∙ dial_asked terms (busy here flow (response_head server how)) seen found is.asks in cc)
  turned_dial (busy here flow (response_body server how most)) own number up same is leads = absurd (let no : true ≡ false = sym (ap is_dial same) ∙ dial_asked terms (busy here flow (response_body server how most)) seen found is.asks in cc)
  turned_dial (busy here flow (coming_down server how)) own number up same is leads = absurd (let no : true ≡ false = sym (ap is_dial same) ∙ dial_asked terms (busy here flow (coming_down server how)) seen found is.asks in cc)
  turned_dial (busy here flow (upgraded server)) own number up same is leads = absurd (let no : true ≡ false = sym (ap is_dial same) ∙ dial_asked terms (busy here flow (upgraded server)) seen found is.asks in cc)
  turned_dial (busy here flow given_head) own number up same is leads = absurd (let no : true ≡ false = sym (ap is_dial same) ∙ dial_asked terms (busy here flow given_head) seen found is.asks in cc)
  turned_dial (busy here flow given_body) own number up same is leads = absurd (let no : true ≡ false = sym (ap is_dial same) ∙ dial_asked terms (busy here flow given_body) seen found is.asks in cc)
  turned_dial (next here) own number up same is leads = absurd (let no : true ≡ false = sym (ap is_dial same) ∙ dial_asked terms (next here) seen found is.asks in cc)
  turned_dial over own number up same is leads = absurd (let no : true ≡ false = sym (ap is_dial same) ∙ dial_asked terms over seen found is.asks in cc)

  turned_by : (one : Asked) (stage : Stage) → found ≡ one → IsAsked terms requests side found stage seen → stage_of at looked ≡ sequence (turn terms stage seen answer).stage →
      To stage (is_dial found) (first_sent (place_of stage) found answer.value)
  turned_by (asked.Connection own number up) stage same is leads = turned_dial stage own number up same is leads
  turned_by (asked.Idle own expects) stage same is leads = turned_plain stage (ap is_dial same) is leads
  turned_by (asked.RequestBody own) stage same is leads = turned_plain stage (ap is_dial same) is leads
  turned_by (asked.ResponseHead own number up) stage same is leads = turned_plain stage (ap is_dial same) is leads
  turned_by (asked.ResponseBody own number up) stage same is leads = turned_plain stage (ap is_dial same) is leads
  turned_by (asked.GivenHead own) stage same is leads = turned_plain stage (ap is_dial same) is leads
  turned_by (asked.GivenBody own) stage same is leads = turned_plain stage (ap is_dial same) is leads

pub turned : (terms : Terms) (stage : Stage) (seen : Sight) (answer : Timed Reply) (requests : State) (side later : Option Link) (found : Asked) (at : At) (looked : Wanted) (closed : Bool) →
    IsAsked terms requests side found stage seen → stage_of at looked ≡ sequence (turn terms stage seen answer).stage → content_in looked ≡ [] → FirstHeld found looked → KeepsUp found looked → closed ≡ seen.closed →
    SideTurned found looked side later →
    Turned terms (sequence (turn terms stage seen answer).stage) (sight_behind terms.place stage seen answer.moment (sequence (turn terms stage seen answer).stage)) at
    (requests_behind (stage_of at looked) requests) (side_behind (is_dial found) (stage_of at looked) later) looked closed (first_sent (place_of stage) found answer.value)
turned terms stage seen answer requests side later found at looked closed is leads content first goes shut went =
    turned_by terms seen answer requests side later found at looked closed content first goes shut went found stage refl is leads
