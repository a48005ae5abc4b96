-- One event more, where no answer is awaited: the readers have heard it, and the flow stands where it stood.
use Rattle.std.proofs.Common.{◌≡◌, ℕ, ◌==◌, Bool, true, false, List, [], ◌∷◌, ◌++◌, Option, Some, None, refl, ap, sym, ◌∙◌, subst, arith, append_assoc, eqb-true, length-append}
use Rattle.std.specs.Prelude.{◌+◌, ◌||◌, if◌then◌else◌}
use Rattle.std.proofs.lemmas.List.{append-nil, drop-append-le}
use Rattle.px_event.specs.declared.command.Command.TheVariants as commands
use Rattle.px_event.specs.declared.event.Event.{Event}
use Rattle.px_event.specs.declared.event.Event.TheVariants as events
use Rattle.px_event.specs.declared.side.Side.TheVariants.{Client, Server}
use Rattle.px_event.specs.Chain.{NotYet, Ends}
use Rattle.px_event.specs.Sides.{closes, piece_of}
use Rattle.px_read.specs.Items.{answer_list}
use Rattle.px_read.specs.Marks.{Mark, asks, answers}
use Rattle.px_read.specs.Reader.{Message, request, response, State, Reads}
use Rattle.px_read.specs.declared.head.ResponseHead.{ResponseHead}
use Rattle.px_message.specs.declared.flow.Flow.{Flow}
use Rattle.px_message.specs.declared.request.Request.{Request}
use Rattle.px_exchange.specs.Endings.{read_persists}
use Rattle.px_exchange.specs.Finds.{or_leaves}
use Rattle.px_exchange.specs.Requests.{is_head}
use Rattle.px_exchange.specs.declared.terms.Terms.{Terms}
use Rattle.px_chain.specs.Chain.{look}
use Rattle.px_chain.specs.Keeping.{is_silent, shut_by_byte, shut_stray, strays}
use Rattle.px_chain.specs.Sights.{Sight, sight_with}
use Rattle.px_chain.specs.Stages.{At, Parked, Stage, busy, coming_down, connection, given_body, given_head, idle, next, over, request_body, response_body, response_head, side_in, side_of, side_parked, upgraded}
use Rattle.px_stream.specs.declared.going.Going.{Going}
use Rattle.px_stream.specs.declared.going.Sending.{Sending}
use Rattle.px_stream.specs.declared.going.Sending.TheVariants as sending
use Rattle.px_stream.specs.declared.link.Link.{Link}
use Rattle.px_stream.specs.declared.phase.Phase.TheVariants as phase
use Rattle.px_stream.specs.declared.phase.Wanted.{Wanted}
use Rattle.px_stream.specs.declared.phase.Wanted.TheVariants as ready
use Rattle.px_stream.specs.Heard.{closes_client, feeds, link_closes, link_hears, parked_stray, parked_takes, requests_take, shut_if, side_takes, stray_in, stray_of, unless_of, used_takes}
use Rattle.px_stream.specs.Stands.{IsBehind, Passes, ReadsLink, IsLink, IsOpen, GoesOnUp, Keeps, HasRequest, HasSide, IsReady, IsPlaced, HasPlace, ReadsDown, ReadsGoing, ReadsReturn, SentOn, WaitsUp, going_in, up_in, parked_link, silent_link, stage_of}
use Rattle.px_stream.specs.Tells.{uses_side}
use Rattle.px_stream.proofs.ReadLemmas.{fed_on, shut_on, shuts}

-- what an open side hears
abbrev link_takes : Event → Link → Link
link_takes (events.Piece (Server server) bytes) link = link_hears server bytes link
link_takes (events.Closed (Server server)) link = link_closes server link
link_takes _ link = link

pub side_took : (event : Event) (link : Link) → used_takes event (Some link) ≡ Some (link_takes event link)
side_took events.Begun link = refl
side_took (events.Piece Client bytes) link = refl
side_took (events.Piece (Server server) bytes) link = refl
side_took (events.Closed Client) link = refl
side_took (events.Closed (Server server)) link = refl
side_took (events.Answered ask reply) link = refl

-- ---- the server's side

module _ (asked_head : Bool) (number : ℕ) (sent : List ResponseHead) (told : List Mark) where
  passes_more : (bytes fed more : List ℕ) → Passes asked_head bytes fed sent → Passes asked_head (bytes ++ more) (fed ++ more) sent
  passes_more bytes fed more is = record {
    used = is.used;
    within = let size = length-append bytes more in let some = is.within in omega arith;
    behind = ap (λ l. l ++ more) is.behind ∙ sym (drop-append-le is.used bytes more is.within);
    counts = λ closed later.
        ap (λ l. (answer_list asked_head closed l).used) (append_assoc bytes more later)
        ∙ (is.counts closed (more ++ later) ∙ ap (λ l. is.used + (answer_list asked_head closed l).used) (sym (append_assoc fed more later)));
    interim = λ closed later.
        ap (λ l. (answer_list asked_head closed l).interim) (append_assoc bytes more later)
        ∙ (is.interim closed (more ++ later) ∙ ap (λ l. sent ++ (answer_list asked_head closed l).interim) (sym (append_assoc fed more later)));
    final = λ closed later.
        ap (λ l. (answer_list asked_head closed l).final) (append_assoc bytes more later)
        ∙ (is.final closed (more ++ later) ∙ ap (λ l. (answer_list asked_head closed l).final) (sym (append_assoc fed more later)));
  }

  keeps_more : (bytes more : List ℕ) (kept : Link) → ReadsLink asked_head number bytes false sent told kept →
      ReadsLink asked_head number (bytes ++ more) false sent told (record kept { responses = feeds more kept.responses })
  keeps_more bytes more kept is = record {
    server = is.server;
    is_asked = is.is_asked;
    closed = is.closed;
    fed = is.fed ++ more;
    passes = passes_more bytes is.fed more is.passes;
    reads = fed_on (response asked_head) told is.fed more kept.responses is.reads;
  }

  keeps_shut : (bytes : List ℕ) (shut : Bool) (kept : Link) → ReadsLink asked_head number bytes shut sent told kept →
      ReadsLink asked_head number bytes true sent told (record kept { responses = shuts kept.responses; closed = true })
  keeps_shut bytes shut kept is = record {
    server = is.server;
    is_asked = is.is_asked;
    closed = refl;
    fed = is.fed;
    passes = is.passes;
    reads = shut_on (response asked_head) told is.fed shut kept.responses is.reads;
  }

  -- the bytes of a side that was closed or not, with these behind them
  abbrev heard_more : Bool → List ℕ → List ℕ → List ℕ
  heard_more was bytes more = if was then bytes else (bytes ++ more)

  same_bytes : (was : Bool) (bytes : List ℕ) → heard_more was bytes [] ≡ bytes
  same_bytes true bytes = refl
  same_bytes false bytes = append-nil bytes

  -- nothing of this side
  keeps_same : (bytes : List ℕ) (was : Bool) (kept : Link) → ReadsLink asked_head number bytes was sent told kept →
      ReadsLink asked_head number (heard_more was bytes []) (was || false) sent told kept
  keeps_same bytes true kept is = is
  keeps_same bytes false kept is =
      let P : List ℕ → Type 0 = λ l. ReadsLink asked_head number l false sent told kept in subst P (sym (append-nil bytes)) is

  hears_by : (bytes more : List ℕ) (was mine : Bool) (kept : Link) → ReadsLink asked_head number bytes was sent told kept →
      ReadsLink asked_head number (heard_more was bytes (if mine then more else [])) (was || false) sent told
      (if mine then (if was then kept else record kept { responses = feeds more kept.responses }) else kept)
  hears_by bytes more was false kept is = keeps_same bytes was kept is
  hears_by bytes more true true kept is = is
  hears_by bytes more false true kept is = keeps_more bytes more kept is

  closes_by : (bytes : List ℕ) (was mine : Bool) (kept : Link) → ReadsLink asked_head number bytes was sent told kept →
      ReadsLink asked_head number (heard_more was bytes []) (was || mine) sent told
      (if mine then record kept { responses = shuts kept.responses; closed = true } else kept)
  closes_by bytes was false kept is = keeps_same bytes was kept is
  closes_by bytes true true kept is = keeps_shut bytes true kept is
  closes_by bytes false true kept is =
      let P : List ℕ → Type 0 = λ l. ReadsLink asked_head number l true sent told (record kept { responses = shuts kept.responses; closed = true }) in
      subst P (sym (append-nil bytes)) (keeps_shut bytes false kept is)

  link_heard : (bytes : List ℕ) (was : Bool) (kept : Link) (server : ℕ) (more : List ℕ) → ReadsLink asked_head number bytes was sent told kept →
      ReadsLink asked_head number (heard_more was bytes (if server == number then more else [])) (was || false) sent told (link_hears server more kept)
  link_heard bytes was kept server more is =
      let P : ℕ → Bool → Type 0 = λ n w. ReadsLink asked_head number (heard_more was bytes (if server == number then more else [])) (was || false) sent told
      (if server == n then (if w then kept else record kept { responses = feeds more kept.responses }) else kept) in
      let Q : Bool → Type 0 = λ w. P number w in
      let R : ℕ → Type 0 = λ n. P n kept.closed in
      subst R (sym is.server) (subst Q (sym is.closed) (hears_by bytes more was (server == number) kept is))

  link_shut : (bytes : List ℕ) (was : Bool) (kept : Link) (server : ℕ) → ReadsLink asked_head number bytes was sent told kept →
      ReadsLink asked_head number (heard_more was bytes []) (was || (server == number)) sent told (link_closes server kept)
  link_shut bytes was kept server is =
      let R : ℕ → Type 0 = λ n. ReadsLink asked_head number (heard_more was bytes []) (was || (server == number)) sent told
      (if server == n then record kept { responses = shuts kept.responses; closed = true } else kept) in
      subst R (sym is.server) (closes_by bytes was (server == number) kept is)

  link_took : (bytes : List ℕ) (was : Bool) (kept : Link) (event : Event) → ReadsLink asked_head number bytes was sent told kept →
      ReadsLink asked_head number (heard_more was bytes (piece_of (Server number) event)) (was || closes (Server number) event) sent told (link_takes event kept)
  link_took bytes was kept events.Begun is = keeps_same bytes was kept is
  link_took bytes was kept (events.Piece Client more) is = keeps_same bytes was kept is
  link_took bytes was kept (events.Piece (Server server) more) is = link_heard bytes was kept server more is
  link_took bytes was kept (events.Closed Client) is = keeps_same bytes was kept is
  link_took bytes was kept (events.Closed (Server server)) is = link_shut bytes was kept server is
  link_took bytes was kept (events.Answered ask reply) is = keeps_same bytes was kept is

link_on : (message : Request) (server : ℕ) (seen : Sight) (event : Event) (now : ℕ) (sent : List ResponseHead) (told : List Mark) (link : Link) →
    IsLink message server seen sent told link → IsLink message server (sight_with (Some server) seen event now) sent told (link_takes event link)
link_on message server seen event now sent told link is = link_took (is_head message.method) server sent told seen.server seen.shut link event is

-- what is heard of it says nothing of whether it persists
hears_persists : (server : ℕ) (bytes : List ℕ) (link : Link) (mine was : Bool) →
    (if mine then (if was then link else record link { responses = feeds bytes link.responses }) else link).persists ≡ link.persists
hears_persists server bytes link true true = refl
hears_persists server bytes link true false = refl
hears_persists server bytes link false was = refl

closes_persists : (link : Link) (mine : Bool) → (if mine then record link { responses = shuts link.responses; closed = true } else link).persists ≡ link.persists
closes_persists link true = refl
closes_persists link false = refl

took_persists : (event : Event) (link : Link) → (link_takes event link).persists ≡ link.persists
took_persists events.Begun link = refl
took_persists (events.Piece Client bytes) link = refl
took_persists (events.Piece (Server server) bytes) link = hears_persists server bytes link (server == link.server) link.closed
took_persists (events.Closed Client) link = refl
took_persists (events.Closed (Server server)) link = closes_persists link (server == link.server)
took_persists (events.Answered ask reply) link = refl

lasts_on : (message : Request) (head : ResponseHead) (event : Event) (link : Link) → link.persists ≡ read_persists message head → (link_takes event link).persists ≡ read_persists message head
lasts_on message head event link is = took_persists event link ∙ is

-- ---- the parked side: at its first byte, or at its close, it is kept no more

none_took : (event : Event) → parked_takes event None ≡ None
none_took events.Begun = refl
none_took (events.Piece Client bytes) = refl
none_took (events.Piece (Server server) []) = refl
none_took (events.Piece (Server server) (byte ∷ more)) = refl
none_took (events.Closed Client) = refl
none_took (events.Closed (Server server)) = refl
none_took (events.Answered ask reply) = refl

none_strays : (event : Event) → parked_stray event None ≡ None
none_strays events.Begun = refl
none_strays (events.Piece Client bytes) = refl
none_strays (events.Piece (Server server) []) = refl
none_strays (events.Piece (Server server) (byte ∷ more)) = refl
none_strays (events.Closed side) = refl
none_strays (events.Answered ask reply) = refl

module _ (number : ℕ) where
  -- one of which nothing was heard, by whether the event is its own
  empty_took : (mine : Bool) → silent_link true number ≡ silent_link (is_silent (let none : List ℕ = [] in if mine then none else none) false) number
  empty_took true = refl
  empty_took false = refl

  byte_took : (byte : ℕ) (more : List ℕ) (mine : Bool) → unless_of mine (silent_link true number) ≡ silent_link (is_silent (if mine then byte ∷ more else []) false) number
  byte_took byte more true = refl
  byte_took byte more false = refl

  close_took : (mine : Bool) → unless_of mine (silent_link true number) ≡ silent_link (is_silent [] mine) number
  close_took true = refl
  close_took false = refl

  silent_took : (event : Event) → parked_takes event (silent_link true number) ≡ silent_link (is_silent (piece_of (Server number) event) (closes (Server number) event)) number
  silent_took events.Begun = refl
  silent_took (events.Piece Client more) = refl
  silent_took (events.Piece (Server server) []) = empty_took (server == number)
  silent_took (events.Piece (Server server) (byte ∷ more)) = byte_took byte more (server == number)
  silent_took (events.Closed Client) = refl
  silent_took (events.Closed (Server server)) = close_took (server == number)
  silent_took (events.Answered ask reply) = refl

  silent_heard : (bytes : List ℕ) (was : Bool) (event : Event) → parked_takes event (silent_link (is_silent bytes was) number)
      ≡ silent_link (is_silent (if was then bytes else (bytes ++ piece_of (Server number) event)) (was || closes (Server number) event)) number
  silent_heard [] true event = none_took event
  silent_heard [] false event = silent_took event
  silent_heard (byte ∷ more) true event = none_took event
  silent_heard (byte ∷ more) false event = none_took event

  -- the close of one of which a byte came, by whether it is this one
  empty_strays : (mine : Bool) → [] ≡ shut_by_byte number (let none : List ℕ = [] in if mine then none else none)
  empty_strays true = refl
  empty_strays false = refl

  byte_strays : (server byte : ℕ) (more : List ℕ) (mine : Bool) → (server == number) ≡ mine → shut_if (stray_of mine server) ≡ shut_by_byte number (if mine then byte ∷ more else [])
  byte_strays server byte more true is = ap (λ n. commands.Close (Server n) ∷ []) (eqb-true server number is)
  byte_strays server byte more false is = refl

  silent_strays : (event : Event) → shut_if (parked_stray event (silent_link true number)) ≡ shut_by_byte number (piece_of (Server number) event)
  silent_strays events.Begun = refl
  silent_strays (events.Piece Client more) = refl
  silent_strays (events.Piece (Server server) []) = empty_strays (server == number)
  silent_strays (events.Piece (Server server) (byte ∷ more)) = byte_strays server byte more (server == number) refl
  silent_strays (events.Closed side) = refl
  silent_strays (events.Answered ask reply) = refl

  strays_heard : (bytes : List ℕ) (was : Bool) (event : Event) → shut_by_byte number bytes ++ shut_if (parked_stray event (silent_link (is_silent bytes was) number))
      ≡ shut_by_byte number (if was then bytes else (bytes ++ piece_of (Server number) event))
  strays_heard [] true event = ap shut_if (none_strays event)
  strays_heard [] false event = silent_strays event
  strays_heard (byte ∷ more) true event = ap (λ o. shut_by_byte number (byte ∷ more) ++ shut_if o) (none_strays event)
  strays_heard (byte ∷ more) false event = ap (λ o. shut_by_byte number (byte ∷ more) ++ shut_if o) (none_strays event)

parked_by : (parked : Option Parked) (seen : Sight) (event : Event) (now : ℕ) → parked_takes event (parked_link parked seen) ≡ parked_link parked (sight_with (side_parked parked) seen event now)
parked_by None seen event now = none_took event
parked_by (Some parked) seen event now = silent_heard parked.server seen.server seen.shut event

-- It has heard the event too.
pub parked_took : (parked : Option Parked) (seen : Sight) (event : Event) (now : ℕ) (side : Option Link) → side ≡ parked_link parked seen →
    parked_takes event side ≡ parked_link parked (sight_with (side_parked parked) seen event now)
parked_took parked seen event now side is = ap (parked_takes event) is ∙ parked_by parked seen event now

parked_strays_by : (parked : Option Parked) (seen : Sight) (event : Event) (now : ℕ) →
    shut_stray parked seen ++ shut_if (parked_stray event (parked_link parked seen)) ≡ shut_stray parked (sight_with (side_parked parked) seen event now)
parked_strays_by None seen event now = ap shut_if (none_strays event)
parked_strays_by (Some parked) seen event now = strays_heard parked.server seen.server seen.shut event

-- And it is closed at its first byte.
pub parked_strays : (parked : Option Parked) (seen : Sight) (event : Event) (now : ℕ) (side : Option Link) → side ≡ parked_link parked seen →
    shut_stray parked seen ++ shut_if (parked_stray event side) ≡ shut_stray parked (sight_with (side_parked parked) seen event now)
parked_strays parked seen event now side is = ap (λ s. shut_stray parked seen ++ shut_if (parked_stray event s)) is ∙ parked_strays_by parked seen event now

-- ---- the client's side

feeds_nothing : (told : List Mark) (message : Message) (fed : List ℕ) (state : State) → Reads message told fed false state → Reads message told (fed ++ []) false state
feeds_nothing told message fed state reads = let P : List ℕ → Type 0 = λ l. Reads message told l false state in subst P (sym (append-nil fed)) reads

requests_took : (told : List Mark) (message : Message) (fed : List ℕ) (state : State) (event : Event) → Reads message told fed false state →
    Reads message told (fed ++ piece_of Client event) false (requests_take event state)
requests_took told message fed state events.Begun reads = feeds_nothing told message fed state reads
requests_took told message fed state (events.Piece Client bytes) reads = fed_on message told fed bytes state reads
requests_took told message fed state (events.Piece (Server server) bytes) reads = feeds_nothing told message fed state reads
requests_took told message fed state (events.Closed side) reads = feeds_nothing told message fed state reads
requests_took told message fed state (events.Answered ask reply) reads = feeds_nothing told message fed state reads

-- what a reader keeps, and whether it was told of a close
rest_took : (state : State) (event : Event) → (requests_take event state).rest ≡ state.rest ++ piece_of Client event
rest_took state events.Begun = sym (append-nil state.rest)
rest_took state (events.Piece Client bytes) = refl
rest_took state (events.Piece (Server server) bytes) = sym (append-nil state.rest)
rest_took state (events.Closed side) = sym (append-nil state.rest)
rest_took state (events.Answered ask reply) = sym (append-nil state.rest)

shut_took : (state : State) (event : Event) → (requests_take event state).closed ≡ state.closed
shut_took state events.Begun = refl
shut_took state (events.Piece Client bytes) = refl
shut_took state (events.Piece (Server server) bytes) = refl
shut_took state (events.Closed side) = refl
shut_took state (events.Answered ask reply) = refl

place_took : (state : State) (event : Event) → (requests_take event state).place ≡ state.place
place_took state events.Begun = refl
place_took state (events.Piece Client bytes) = refl
place_took state (events.Piece (Server server) bytes) = refl
place_took state (events.Closed side) = refl
place_took state (events.Answered ask reply) = refl

pub keeps_took : (bytes : List ℕ) (state : State) (event : Event) → Keeps bytes state → Keeps (bytes ++ piece_of Client event) (requests_take event state)
keeps_took bytes state event is = record { rest = rest_took state event ∙ ap (λ l. l ++ piece_of Client event) is.rest; open_still = shut_took state event ∙ is.open_still; behind = subst IsBehind (sym (place_took state event)) is.behind }

-- ---- all of it

-- an open side stays one
open_took : (event : Event) (P Q : Link → Type 0) → ((link : Link) → P link → Q (link_takes event link)) → (side : Option Link) → IsOpen P side → IsOpen Q (used_takes event side)
open_took event P Q on None is = absurd is
open_took event P Q on (Some link) is = subst (IsOpen Q) (sym (side_took event link)) (on link is)

module _ (made : Terms) (seen : Sight) (event : Event) (now : ℕ) (requests : State) (side : Option Link) (sent : SentOn) (looked : Wanted) where
  -- what has ended finds something
  ended : (shut : Bool) → or_leaves shut [] (Ends []) ≡ NotYet → ⊥
  ended true is = let no : Ends [] ≡ NotYet = is in cc
  ended false is = let no : Ends [] ≡ NotYet = is in cc

  -- a request that is streamed
  going_on : (flow : Flow) (is_sent : Option Request) (marks : List Mark) (opened : Option ℕ) → ReadsGoing flow seen is_sent marks requests →
      ReadsGoing flow (sight_with opened seen event now) is_sent marks (requests_take event requests)
  going_on flow is_sent marks opened is =
      record { head = is.head; sent_as = is.sent_as; reads = requests_took (asks is.head ∷ marks) request seen.client requests event is.reads }

  pub waits_on : (flow : Flow) (up : Option Going) (opened : Option ℕ) → WaitsUp made flow seen up requests → WaitsUp made flow (sight_with opened seen event now) up (requests_take event requests)
  waits_on flow None opened is = keeps_took seen.client requests event is
  waits_on flow (Some going) opened is =
      record { marks = is.marks; going_on = going_on flow (Some going.sent) is.marks opened is.going_on; is_text = is.is_text }

  up_on : (flow : Flow) (up : Sending) (text : List ℕ) (opened : Option ℕ) → GoesOnUp made flow seen up text requests →
      GoesOnUp made flow (sight_with opened seen event now) up text (requests_take event requests)
  up_on flow sending.All text opened is = keeps_took seen.client requests event is
  up_on flow (sending.GoingUp goes) text opened is =
      record { marks = is.marks; going_on = going_on flow (Some goes) is.marks opened is.going_on; within = is.within; is_text = is.is_text }

  request_on : (stage : Stage) → HasRequest made stage seen sent.up looked requests →
      HasRequest made stage (sight_with (side_of stage) seen event now) sent.up looked (requests_take event requests)
  request_on (idle at) is = requests_took [] request seen.client requests event is
  request_on (busy at flow (request_body given most)) is =
      record { head = is.head; marks = is.marks; is_content = is.is_content; holds = is.holds; untold = is.untold; reads = requests_took (asks is.head ∷ is.marks) request seen.client requests event is.reads }
  request_on (busy at flow (connection how)) is = waits_on flow (going_in looked) (side_of (busy at flow (connection how))) is
  request_on (busy at flow (response_head server how)) is = up_on flow (up_in looked) sent.up (Some server) is
  request_on (busy at flow (response_body server how most)) is = up_on flow (up_in looked) sent.up (Some server) is
  request_on (busy at flow (coming_down server how)) is = up_on flow (up_in looked) sent.up (Some server) is
  request_on (busy at flow (upgraded server)) is = keeps_took seen.client requests event is
  request_on (busy at flow given_head) is = keeps_took seen.client requests event is
  request_on (busy at flow given_body) is = keeps_took seen.client requests event is
  request_on (next at) is = absurd is
  request_on over is = tt

  abbrev SideOn : At → Wanted → Type 0
  SideOn at wanted = HasSide (stage_of at wanted) (sight_with (side_of (stage_of at wanted)) seen event now) sent wanted (side_takes (uses_side (phase.Ready wanted)) event side)

  side_on : (at : At) (wanted : Wanted) → look made (stage_of at wanted) seen ≡ NotYet → HasSide (stage_of at wanted) seen sent wanted side → SideOn at wanted
  side_on at ready.Idle waits is = parked_took at.parked seen event now side is
  side_on at (ready.RequestBody flow given most body held) waits is = parked_took at.parked seen event now side is
  side_on at (ready.Connection flow up) waits is = parked_took at.parked seen event now side is
  side_on at (ready.ResponseHead flow server up) waits is =
      open_took event (IsLink flow.request server seen sent.interim []) (IsLink flow.request server (sight_with (Some server) seen event now) sent.interim [])
      (λ link has. link_on flow.request server seen event now sent.interim [] link has) side is
  side_on at (ready.ResponseBody flow server up most body held) waits is =
      open_took event (ReadsReturn flow server most seen body held) (ReadsReturn flow server most (sight_with (Some server) seen event now) body held)
      (λ link has. record {
        sent = has.sent;
        head = has.head;
        marks = has.marks;
        is_content = has.is_content;
        holds = has.holds;
        final = has.final;
        lasts = lasts_on flow.request has.head event link has.lasts;
        is_link = link_on flow.request server seen event now has.sent (answers has.head ∷ has.marks) link has.is_link;
      }) side is
  side_on at (ready.ComingDown flow server up goes) waits is =
      open_took event (ReadsDown flow server seen (Some goes) sent.text) (ReadsDown flow server (sight_with (Some server) seen event now) (Some goes) sent.text)
      (λ link has. record {
        sent = has.sent;
        head = has.head;
        marks = has.marks;
        is_text = has.is_text;
        streamed = has.streamed;
        final = has.final;
        lasts = lasts_on flow.request has.head event link has.lasts;
        is_link = link_on flow.request server seen event now has.sent (answers has.head ∷ has.marks) link has.is_link;
      }) side is
  side_on at (ready.Upgraded flow server) waits is = absurd (ended seen.closed waits)
  side_on at (ready.GivenHead flow) waits is = parked_took at.parked seen event now side is
  side_on at (ready.GivenBody flow) waits is = parked_took at.parked seen event now side is
  side_on at (ready.Connects address) waits is = tt
  side_on at ready.Over waits is = tt

  abbrev StraysOn : At → Wanted → Type 0
  StraysOn at wanted =
      let stage : Stage = stage_of at wanted in
      strays stage seen ++ shut_if (stray_in (uses_side (phase.Ready wanted)) event side) ≡ strays stage (sight_with (side_of stage) seen event now)

  strays_by : (at : At) (wanted : Wanted) → look made (stage_of at wanted) seen ≡ NotYet → HasSide (stage_of at wanted) seen sent wanted side → StraysOn at wanted
  strays_by at ready.Idle waits is = parked_strays at.parked seen event now side is
  strays_by at (ready.RequestBody flow given most body held) waits is = parked_strays at.parked seen event now side is
  strays_by at (ready.Connection flow up) waits is = parked_strays at.parked seen event now side is
  strays_by at (ready.ResponseHead flow server up) waits is = refl
  strays_by at (ready.ResponseBody flow server up most body held) waits is = refl
  strays_by at (ready.ComingDown flow server up goes) waits is = refl
  strays_by at (ready.Upgraded flow server) waits is = refl
  strays_by at (ready.GivenHead flow) waits is = parked_strays at.parked seen event now side is
  strays_by at (ready.GivenBody flow) waits is = parked_strays at.parked seen event now side is
  strays_by at (ready.Connects address) waits is = absurd (ended seen.closed waits)
  strays_by at ready.Over waits is = absurd (ended seen.closed waits)

-- The flow stands where it stood, if nothing was found, and its readers have heard the event.
pub ready_on : (made : Terms) (seen : Sight) (event : Event) (now : ℕ) (stage : Stage) (at : At) (requests : State) (side : Option Link) (looked : Wanted) (sent : SentOn) →
    look made stage seen ≡ NotYet → IsReady made at requests side looked stage seen sent →
    IsReady made at (requests_take event requests) (side_takes (uses_side (phase.Ready looked)) event side) looked stage (sight_with (side_of stage) seen event now) sent
ready_on made seen event now stage at requests side looked sent waits is = record {
  is_stage = is.is_stage;
  request = request_on made seen event now requests side sent looked stage is.request;
  has_side =
      subst (λ s. HasSide s (sight_with (side_of s) seen event now) sent looked (side_takes (uses_side (phase.Ready looked)) event side)) is.is_stage
      (side_on made seen event now requests side sent looked at looked (ap (λ s. look made s seen) is.is_stage ∙ waits) (subst (λ s. HasSide s seen sent looked side) (sym is.is_stage) is.has_side));
}

-- The close of a parked side is owed at its first byte.
pub strays_on : (made : Terms) (seen : Sight) (event : Event) (now : ℕ) (stage : Stage) (at : At) (requests : State) (side : Option Link) (looked : Wanted) (sent : SentOn) →
    look made stage seen ≡ NotYet → IsReady made at requests side looked stage seen sent →
    strays stage seen ++ shut_if (stray_in (uses_side (phase.Ready looked)) event side) ≡ strays stage (sight_with (side_of stage) seen event now)
strays_on made seen event now stage at requests side looked sent waits is =
    subst (λ s. strays s seen ++ shut_if (stray_in (uses_side (phase.Ready looked)) event side) ≡ strays s (sight_with (side_of s) seen event now)) is.is_stage
    (strays_by made seen event now requests side sent looked at looked (ap (λ s. look made s seen) is.is_stage ∙ waits) (subst (λ s. HasSide s seen sent looked side) (sym is.is_stage) is.has_side))

closes_by_event : (event : Event) (was : Bool) → closes_client event was ≡ (was || closes Client event)
closes_by_event events.Begun true = refl
closes_by_event events.Begun false = refl
closes_by_event (events.Piece side bytes) true = refl
closes_by_event (events.Piece side bytes) false = refl
closes_by_event (events.Closed Client) true = refl
closes_by_event (events.Closed Client) false = refl
closes_by_event (events.Closed (Server server)) true = refl
closes_by_event (events.Closed (Server server)) false = refl
closes_by_event (events.Answered ask reply) true = refl
closes_by_event (events.Answered ask reply) false = refl

pub placed_on : (here : At) (side : Option ℕ) (seen : Sight) (event : Event) (now : ℕ) (at : At) (closed : Bool) →
    IsPlaced here seen at closed → IsPlaced here (sight_with side seen event now) at (closes_client event closed)
placed_on here side seen event now at closed place =
    record { is_here = place.is_here; client = closes_by_event event closed ∙ ap (λ b. b || closes Client event) place.client }

-- and its place is the same
pub place_on : (stage : Stage) (seen : Sight) (event : Event) (now : ℕ) (at : At) (closed : Bool) →
    HasPlace stage seen at closed → HasPlace stage (sight_with (side_of stage) seen event now) at (closes_client event closed)
place_on (idle here) seen event now at closed place = placed_on here (side_parked here.parked) seen event now at closed place
place_on (busy here flow doing) seen event now at closed place = placed_on here (side_in here doing) seen event now at closed place
place_on (next here) seen event now at closed place = placed_on here (side_parked here.parked) seen event now at closed place
place_on over seen event now at closed place = tt
