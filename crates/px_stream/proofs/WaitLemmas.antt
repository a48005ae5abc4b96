-- A stream whose server is dialled: it hears what comes meanwhile, and is connected by others.
use Rattle.std.proofs.Common.{◌≡◌, ℕ, ◌+◌, ◌<◌, ◌≤◌, Bool, true, false, List, [], ◌∷◌, ◌++◌, length, drop, Option, Some, None, refl, ap, sym, ◌∙◌, subst, arith, append_assoc, length-append}
use Rattle.std.specs.Prelude.{◌||◌, if◌then◌else◌}
use Rattle.std.proofs.lemmas.Grind.{flat_map-append}
use Rattle.std.proofs.lemmas.List.{drop-append-le}
use Rattle.std.specs.List.{flat_map}
use Rattle.px_message.specs.declared.flow.Flow.{Flow}
use Rattle.px_event.specs.declared.command.Command.{Command}
use Rattle.px_event.specs.declared.event.Event.{Event}
use Rattle.px_event.specs.declared.reply.Reply.{Reply}
use Rattle.px_event.specs.declared.reply.Reply.TheVariants as reply
use Rattle.px_event.specs.declared.side.Side.{Side}
use Rattle.px_event.specs.declared.side.Side.TheVariants.{Client, Server}
use Rattle.px_event.specs.Chain.{Timed}
use Rattle.px_event.specs.Laws.{owed_over}
use Rattle.px_event.specs.Layer.{AsksOnly, asks_in}
use Rattle.px_event.specs.Sides.{closes, piece_of}
use Rattle.px_event.specs.View.{questions, seen_of}
use Rattle.px_event.proofs.Seen.{seen_append}
use Rattle.px_exchange.specs.declared.terms.Terms.{Terms}
use Rattle.px_read.specs.Items.{answer_list}
use Rattle.px_read.specs.Marks as marking
use Rattle.px_read.specs.Reader.{State, Reads, request}
use Rattle.px_read.specs.declared.head.ResponseHead.{ResponseHead as ReadResponse}
use Rattle.px_parts.specs.Texts.{left_of}
use Rattle.px_exchange.specs.Requests.{is_head}
use Rattle.px_exchange.specs.Texts.{interim_commands}
use Rattle.px_exchange.specs.declared.place.Place.{Place}
use Rattle.px_chain.specs.Behind.{dials_at, sight_behind}
use Rattle.px_chain.specs.Chain.{dial_owes_by, http_chain, reached, sequence}
use Rattle.px_chain.specs.Keeping.{strays}
use Rattle.px_chain.specs.Left.{stages_left}
use Rattle.px_chain.specs.Sights.{Sight, Standing, UsedBytes, bytes_over, shut_over, sight_of, sight_over, sight_with}
use Rattle.px_chain.specs.Stages.{At, Doing, Parked, Sent, Stage, all_sent, busy, coming_down, connection, given_body, given_head, going_up, idle, next, over, request_body, response_body, response_head, side_of, side_parked, upgraded}
use Rattle.px_chain.specs.Streams.{Since, bytes_of, client_closed, is_closed}
use Rattle.px_chain.proofs.FrontLaws.{now_more}
use Rattle.px_chain.proofs.SightLaws.{sight_more, within_more}
use Rattle.px_stream.specs.declared.going.Going.{Going}
use Rattle.px_stream.specs.declared.going.Sending.{Sending}
use Rattle.px_stream.specs.declared.going.Sending.TheVariants as sending
use Rattle.px_stream.specs.declared.link.Link.{Link}
use Rattle.px_stream.specs.declared.phase.Asked.{Asked}
use Rattle.px_stream.specs.declared.phase.Asked.TheVariants as asked
use Rattle.px_stream.specs.declared.phase.Phase.{Phase}
use Rattle.px_stream.specs.declared.phase.Phase.TheVariants as phase
use Rattle.px_stream.specs.declared.phase.Wanted.{Wanted}
use Rattle.px_stream.specs.declared.phase.Wanted.TheVariants as ready
use Rattle.px_stream.specs.declared.stream.Stream.{Stream}
use Rattle.px_stream.specs.Anywhere.{HearsWaiting, IsFew, IsInSequence, MayReach, OpensInTime, Reaches, ReachesThere, Somewhere, reached_owes}
use Rattle.px_stream.specs.GoingUp.{MayGoUp}
use Rattle.px_stream.specs.Goings.{sends_to, sends_while, up_text}
use Rattle.px_stream.specs.Heard.{IsUnshut, SideAgrees, feeds, side_takes, side_with}
use Rattle.px_stream.specs.Looks.{MayLook}
use Rattle.px_stream.specs.Passes.{Advances, MayPass}
use Rattle.px_stream.specs.Stands.{GoesOnUp, IsIn, IsLink, IsOpen, IsPlaced, IsReady, IsSome, Passes, ReadsLink, SentOn, WaitsUp, awaited_in, awaits, going_asked, none_sent, parked_link, sent_on, stage_of, unread_link, up_in}
use Rattle.px_stream.specs.Tells.{IsDialling, sequence_left, uses_side}
use Rattle.px_stream.specs.Turns.{Hears, TurnsTo, first_sent, going_sent, is_dial, side_behind}
use Rattle.px_stream.proofs.AnywhereLemmas.{PassesNone, gives_all, looked_asks, none_passes}
use Rattle.px_stream.proofs.AskLemmas.{dial_asked}
use Rattle.px_stream.proofs.AdvanceLemmas.{AdvancedTo, advances_to, passed_to}
use Rattle.px_stream.proofs.CallLemmas.{asked_at, at_walked, may_go_up, may_look, parked_agrees, same_tail, turns_in, waits_unclosed}
use Rattle.px_stream.proofs.HearLemmas.{parked_took, placed_on, waits_on}
use Rattle.px_stream.proofs.MoveLemmas.{ask_atoms, asks_seen, at_most, left_asks, pass_few, pass_stages}
use Rattle.px_stream.proofs.UnreadLemmas.{unread_reads}

-- ---- where a dial is awaited

pub dial_in : (found : Phase) → IsDialling found → (here : Asked) × (found ≡ phase.Asked here)
dial_in (phase.Asked here) dials = (here, refl)
dial_in (phase.Ready looked) dials = absurd dials

pub dial_awaited : (found : Phase) → IsDialling found → IsSome (awaited_in found)
dial_awaited (phase.Asked here) dials = tt
dial_awaited (phase.Ready looked) dials = absurd dials

-- no flow uses a side there
uses_none : (found : Phase) → IsDialling found → uses_side found ≡ false
uses_none (phase.Asked (asked.Connection flow server up)) dials = refl
uses_none (phase.Asked (asked.Idle flow expects)) dials = absurd dials
uses_none (phase.Asked (asked.RequestBody flow)) dials = absurd dials
uses_none (phase.Asked (asked.ResponseHead flow server up)) dials = absurd dials
uses_none (phase.Asked (asked.ResponseBody flow server up)) dials = absurd dials
uses_none (phase.Asked (asked.GivenHead flow)) dials = absurd dials
uses_none (phase.Asked (asked.GivenBody flow)) dials = absurd dials
uses_none (phase.Ready looked) dials = absurd dials

asks_dial : (here : Asked) → IsDialling (phase.Asked here) → is_dial here ≡ true
asks_dial (asked.Idle flow expects) dials = absurd dials
asks_dial (asked.RequestBody flow) dials = absurd dials
asks_dial (asked.Connection flow server up) dials = refl
asks_dial (asked.ResponseHead flow server up) dials = absurd dials
asks_dial (asked.ResponseBody flow server up) dials = absurd dials
asks_dial (asked.GivenHead flow) dials = absurd dials
asks_dial (asked.GivenBody flow) dials = absurd dials

-- the flow's connection is awaited there
pub record IsAtDial (stage : Stage) : Type 0 where
  pub at : At
  pub flow : Flow
  pub sent : Sent
  pub stage_is : stage ≡ busy at flow (connection sent)

dialling_for : (at : At) (flow : Flow) (doing : Doing) → dials_at (busy at flow doing) ≡ true → IsAtDial (busy at flow doing)
dialling_for at flow (request_body given most) is = absurd (let no : false ≡ true = is in cc)
dialling_for at flow (connection sent) is = record { at = at; flow = flow; sent = sent; stage_is = refl }
dialling_for at flow (response_head server how) is = absurd (let no : false ≡ true = is in cc)
dialling_for at flow (coming_down server how) is = absurd (let no : false ≡ true = is in cc)
dialling_for at flow (response_body server how most) is = absurd (let no : false ≡ true = is in cc)
dialling_for at flow (upgraded server) is = absurd (let no : false ≡ true = is in cc)
dialling_for at flow given_head is = absurd (let no : false ≡ true = is in cc)
dialling_for at flow given_body is = absurd (let no : false ≡ true = is in cc)

dialling : (stage : Stage) → dials_at stage ≡ true → IsAtDial stage
dialling (idle at) is = absurd (let no : false ≡ true = is in cc)
dialling (busy at flow doing) is = dialling_for at flow doing is
dialling (next at) is = absurd (let no : false ≡ true = is in cc)
dialling over is = absurd (let no : false ≡ true = is in cc)

pub is_at_dial : (made : Terms) (state : Stream) (stage : Stage) (seen : Sight) → IsDialling state.phase → IsIn made state stage seen → IsAtDial stage
is_at_dial made state stage seen dials is =
    let (here, live) = dial_in state.phase dials in
    let asks = asked_at made state stage seen here live is in
    dialling stage (sym (dial_asked made stage seen here asks.2.asks) ∙ asks_dial here (subst IsDialling live dials))

-- what its readers keep there
pub record Dialled (made : Terms) (state : Stream) (at : At) (flow : Flow) (sent : Sent) (seen : Sight) : Type 0 where
  pub place : IsPlaced at seen state.at state.client_closed
  pub here : Asked
  pub waits : WaitsUp made flow seen (going_asked here) state.requests
  pub side : state.side ≡ parked_link at.parked seen

pub dialled_at : (made : Terms) (state : Stream) (at : At) (flow : Flow) (sent : Sent) (seen : Sight) → IsIn made state (busy at flow (connection sent)) seen → Dialled made state at flow sent seen
dialled_at made state at flow sent seen is = let (here, same, asks) = is.phase in record { place = is.place; here = here; waits = asks.request; side = asks.has_side }

-- what its readers may hear there
pub waits_open : (state : Stream) → IsDialling state.phase → Somewhere state → state.requests.closed ≡ false
waits_open state dials (made, ahead, place, prefix, there) =
    let seen : Sight = sight_over place prefix in
    let dial = is_at_dial made state place.stage seen dials there.is_at.is_in in
    let is = dialled_at made state dial.at dial.flow dial.sent seen (subst (λ s. IsIn made state s seen) dial.stage_is there.is_at.is_in) in
    waits_unclosed made dial.flow seen (going_asked is.here) state.requests is.waits

pub waits_agree : (state : Stream) → IsDialling state.phase → Somewhere state → SideAgrees state.side
waits_agree state dials (made, ahead, place, prefix, there) =
    let seen : Sight = sight_over place prefix in
    let dial = is_at_dial made state place.stage seen dials there.is_at.is_in in
    let is = dialled_at made state dial.at dial.flow dial.sent seen (subst (λ s. IsIn made state s seen) dial.stage_is there.is_at.is_in) in
    parked_agrees dial.at.parked seen state.side is.side

-- ---- behind the client's close nothing is heard

past_by : (c s more : Bool) (piece rest rest' : List ℕ) → (if c then true else (if c then false else more)) ≡ true → (more ≡ true → rest' ≡ rest) →
    (if c || s then [] else (piece ++ rest')) ≡ (if c || s then [] else (piece ++ rest))
past_by true s more piece rest rest' closed on = refl
past_by false true more piece rest rest' closed on = refl
past_by false false more piece rest rest' closed on = ap (λ l. piece ++ l) (on closed)

bytes_past : (side : Side) (prefix : List (Timed Event)) (e : Timed Event) → client_closed prefix ≡ true → bytes_of side (prefix ++ e ∷ []) ≡ bytes_of side prefix
bytes_past side [] e closed = absurd (let no : false ≡ true = closed in cc)
bytes_past side (f ∷ prefix) e closed =
    past_by (closes Client f.value) (closes side f.value) (client_closed prefix) (piece_of side f.value) (bytes_of side prefix) (bytes_of side (prefix ++ e ∷ [])) closed (bytes_past side prefix e)

shut_by : (c s more shut shut' : Bool) → (if c then true else (if c then false else more)) ≡ true → (more ≡ true → shut' ≡ shut) →
    (if s then true else (if c then false else shut')) ≡ (if s then true else (if c then false else shut))
shut_by c true more shut shut' closed on = refl
shut_by true false more shut shut' closed on = refl
shut_by false false more shut shut' closed on = on closed

shut_past : (side : Side) (prefix : List (Timed Event)) (e : Timed Event) → client_closed prefix ≡ true → is_closed side (prefix ++ e ∷ []) ≡ is_closed side prefix
shut_past side [] e closed = absurd (let no : false ≡ true = closed in cc)
shut_past side (f ∷ prefix) e closed =
    shut_by (closes Client f.value) (closes side f.value) (client_closed prefix) (is_closed side prefix) (is_closed side (prefix ++ e ∷ [])) closed (shut_past side prefix e)

-- nor of the parked side
parked_bytes : (parked : Option Parked) (opened : ℕ) (prefix : List (Timed Event)) (e : Timed Event) → opened ≤ length prefix → OpensInTime parked opened prefix → client_closed prefix ≡ true →
    bytes_over (side_parked parked) opened (prefix ++ e ∷ []) ≡ bytes_over (side_parked parked) opened prefix
parked_bytes None opened prefix e within in_time closed = refl
parked_bytes (Some parked) opened prefix e within in_time closed =
    let side : Side = Server parked.server in
    ap (λ l. bytes_of side l) (drop-append-le opened prefix (e ∷ []) within) ∙ bytes_past side (drop opened prefix) e (in_time closed)

parked_shut : (parked : Option Parked) (opened : ℕ) (prefix : List (Timed Event)) (e : Timed Event) → opened ≤ length prefix → OpensInTime parked opened prefix → client_closed prefix ≡ true →
    shut_over (side_parked parked) opened (prefix ++ e ∷ []) ≡ shut_over (side_parked parked) opened prefix
parked_shut None opened prefix e within in_time closed = refl
parked_shut (Some parked) opened prefix e within in_time closed =
    let side : Side = Server parked.server in
    ap (λ l. is_closed side l) (drop-append-le opened prefix (e ∷ []) within) ∙ shut_past side (drop opened prefix) e (in_time closed)

abbrev sees : List ℕ → Bool → List ℕ → Bool → ℕ → ℕ → Sight
sees client closed server shut told now = record { client = client; closed = closed; server = server; shut = shut; told = told; now = now }

sees_eq : (client client' : List ℕ) (closed closed' : Bool) (server server' : List ℕ) (shut shut' : Bool) (told now now' : ℕ) → client' ≡ client → closed' ≡ closed → server' ≡ server → shut' ≡ shut → now' ≡ now →
    sees client' closed' server' shut' told now' ≡ sees client closed server shut told now
sees_eq client client' closed closed' server server' shut shut' told now now' a b c d f = rw (a, b, c, d, f) refl

-- but the moment goes on
sight_late : (parked : Option Parked) (since : Since) (opened : ℕ) (used : UsedBytes) (told : ℕ) (prefix : List (Timed Event)) (e : Timed Event) → since.events ≤ length prefix →
    opened ≤ length prefix → OpensInTime parked opened prefix → client_closed prefix ≡ true →
    sight_of (side_parked parked) since opened used told (prefix ++ e ∷ []) ≡ record (sight_of (side_parked parked) since opened used told prefix) { now = e.moment }
sight_late parked since opened used told prefix e within opened_within in_time closed =
    sees_eq _ _ _ _ _ _ _ _ _ _ _ (ap (λ l. drop used.client l) (bytes_past Client prefix e closed)) (shut_past Client prefix e closed)
    (ap (λ l. drop used.server l) (parked_bytes parked opened prefix e opened_within in_time closed))
    (parked_shut parked opened prefix e opened_within in_time closed) (now_more since prefix e within)

-- ---- one event more

-- the parked side is the same at another moment
moved_parked : (parked : Option Parked) (seen : Sight) (moment : ℕ) → parked_link parked seen ≡ parked_link parked (record seen { now = moment })
moved_parked None seen moment = refl
moved_parked (Some parked) seen moment = refl

-- and a request waits so as well
moved_up : (made : Terms) (flow : Flow) (seen : Sight) (moment : ℕ) (up : Option Going) (requests : State) → WaitsUp made flow seen up requests → WaitsUp made flow (record seen { now = moment }) up requests
moved_up made flow seen moment None requests is = record { rest = is.rest; open_still = is.open_still; behind = is.behind }
moved_up made flow seen moment (Some going) requests is =
    record { marks = is.marks; going_on = record { head = is.going_on.head; sent_as = is.going_on.sent_as; reads = is.going_on.reads }; is_text = is.is_text }

module _ (made : Terms) (before after : Stream) (at : At) (flow : Flow) (sent : Sent) (terms : after.terms ≡ before.terms) (same_at : after.at ≡ before.at) (same : after.phase ≡ before.phase) where
  abbrev waits : Stage
  waits = busy at flow (connection sent)

  -- a state whose request waits in another sight as it did, waits there
  waits_in : (seen later : Sight) → IsIn made before waits seen → after.client_closed ≡ later.closed →
      ((up : Option Going) → WaitsUp made flow seen up before.requests → WaitsUp made flow later up after.requests) → after.side ≡ parked_link at.parked later → IsIn made after waits later
  waits_in seen later is client on parked =
      let (here, live, asks) = is.phase in
      record {
        terms = terms ∙ is.terms;
        apart = tt;
        place = record { is_here = same_at ∙ is.place.is_here; client = client };
        phase = (here, same ∙ live, record { asks = asks.asks; how = asks.how; request = on (going_asked here) asks.request; has_side = parked });
      }

  -- and over one event more
  waits_over : (ahead : ℕ) (place : Standing) (prefix : List (Timed Event)) (e : Timed Event) → place.stage ≡ waits → IsInSequence made ahead before place prefix →
      (later : Sight) → sight_over place (prefix ++ e ∷ []) ≡ later → IsIn made after waits later → IsInSequence made ahead after place (prefix ++ e ∷ [])
  waits_over ahead place prefix e stands there later over_later is = record {
    is_at = record {
      within = within_more place prefix e there.is_at.within;
      is_in = subst (λ s. IsIn made after s (sight_over place (prefix ++ e ∷ []))) (sym stands) (subst (λ s. IsIn made after waits s) (sym over_later) is);
    };
    few = there.few;
    small = there.small;
  }

module _ (before : Stream) (event : Event) where
  -- behind the client's close
  pub hears_past : before.client_closed ≡ true → HearsWaiting before before event
  hears_past is_closed_there = record {
    hears = λ made ahead place prefix moment at flow sent stands in_time there.
        let e : Timed Event = record { moment = moment; value = event } in
        let seen : Sight = sight_over place prefix in
        let here : IsIn made before (busy at flow (connection sent)) seen = subst (λ s. IsIn made before s seen) stands there.is_at.is_in in
        let is = dialled_at made before at flow sent seen here in
        let closed : client_closed prefix ≡ true = sym is.place.client ∙ is_closed_there in
        let within = there.is_at.within in
        let side : side_of place.stage ≡ side_parked at.parked = ap side_of stands in
        let late : sight_over place (prefix ++ e ∷ []) ≡ record seen { now = moment } =
        subst (λ s. sight_of s place.since place.opened place.used place.told (prefix ++ e ∷ []) ≡ record (sight_of s place.since place.opened place.used place.told prefix) { now = moment }) (sym side)
        (sight_late at.parked place.since place.opened place.used place.told prefix e within.since within.opened in_time closed) in
        waits_over made before before at flow sent refl refl refl ahead place prefix e stands there (record seen { now = moment }) late
        (waits_in made before before at flow sent refl refl refl seen (record seen { now = moment }) here is.place.client (λ up waiting. moved_up made flow seen moment up before.requests waiting)
        (is.side ∙ moved_parked at.parked seen moment));
  }

  -- while the client has not closed
  pub hears_on : (after : Stream) → IsDialling before.phase → after.phase ≡ before.phase → Hears (uses_side before.phase) before after event → before.client_closed ≡ false → HearsWaiting before after event
  hears_on after dials same heard is_open = record {
    hears = λ made ahead place prefix moment at flow sent stands in_time there.
        let e : Timed Event = record { moment = moment; value = event } in
        let seen : Sight = sight_over place prefix in
        let later : Sight = sight_with (side_parked at.parked) seen event moment in
        let here : IsIn made before (busy at flow (connection sent)) seen = subst (λ s. IsIn made before s seen) stands there.is_at.is_in in
        let is = dialled_at made before at flow sent seen here in
        let open_client : client_closed prefix ≡ false = sym is.place.client ∙ is_open in
        let grows : sight_over place (prefix ++ e ∷ []) ≡ later = sight_more place prefix e open_client there.is_at.within ∙ ap (λ s. sight_with (side_of s) seen event moment) stands in
        waits_over made before after at flow sent heard.terms heard.at same ahead place prefix e stands there later grows
        (waits_in made before after at flow sent heard.terms heard.at same seen later here
        (heard.client ∙ (placed_on at (side_parked at.parked) seen event moment before.at before.client_closed is.place).client)
        (λ up waiting. subst (WaitsUp made flow later up) (sym heard.requests) (waits_on made seen event moment before.requests before.side none_sent ready.Idle flow up (side_parked at.parked) waiting))
        (heard.side ∙ (ap (λ u. side_takes u event before.side) (uses_none before.phase dials) ∙ parked_took at.parked seen event moment before.side is.side)));
  }

-- ---- it is connected

-- where a list with another before it is that list, the other is empty
none_before : (xs ys : List ReadResponse) → xs ≡ ys ++ xs → ys ≡ []
none_before xs [] is = refl
none_before xs (y ∷ ys) is = absurd (let same = ap length is in let size = length-append (y ∷ ys) xs in omega arith)

-- before nothing no interim response was sent on
no_interim : (asked_head : Bool) (fed : List ℕ) (sent : List ReadResponse) → Passes asked_head [] fed sent → sent ≡ []
no_interim asked_head fed sent is =
    let zero : is.used ≡ 0 = (let within = is.within in omega arith) in
    let none : fed ≡ [] = is.behind ∙ ap (λ n. drop n []) zero in
    none_before (answer_list asked_head false []).interim sent (is.interim false [] ∙ ap (λ l. sent ++ (answer_list asked_head false (l ++ [])).interim) none)

-- what the answer to the dial owes
reach_owes : (sent : Sent) (place : Place) (flow : Flow) (server moment : ℕ) (closed : Bool) → dial_owes_by sent place flow server reply.Dialled moment closed ≡ reached_owes sent place flow server
reach_owes all_sent place flow server moment closed = refl
reach_owes going_up place flow server moment closed = refl

-- a request goes on so in any sight of the same bytes
up_moved : (made : Terms) (flow : Flow) (seen later : Sight) (up : Sending) (text : List ℕ) (requests : State) → later.client ≡ seen.client → later.told ≡ seen.told → GoesOnUp made flow seen up text requests →
    GoesOnUp made flow later up text requests
up_moved made flow seen later sending.All text requests client told is = record { rest = is.rest ∙ sym client; open_still = is.open_still; behind = is.behind }
up_moved made flow seen later (sending.GoingUp goes) text requests client told is = record {
  marks = is.marks;
  going_on = record {
    head = is.going_on.head;
    sent_as = is.going_on.sent_as;
    reads = subst (λ l. Reads request (marking.asks is.going_on.head ∷ is.marks) l false requests) (sym client) is.going_on.reads;
  };
  within = subst (λ n. n ≤ length (up_text made.place (Some goes) is.marks)) (sym told) is.within;
  is_text = is.is_text ∙ ap (λ n. left_of n (up_text made.place (Some goes) is.marks)) (sym told);
}

-- what is sent of a request asks nothing
sends_silent : (server : ℕ) (text : List ℕ) → seen_of questions (sends_to server text) ≡ []
sends_silent server [] = refl
sends_silent server (byte ∷ more) = refl

going_silent : (server : ℕ) (up : Option Going) → seen_of questions (going_sent server up) ≡ []
going_silent server None = refl
going_silent server (Some going) = sends_silent server going.text.items

first_silent : (at : At) (found : Asked) → seen_of questions (first_sent at found reply.Dialled) ≡ []
first_silent at (asked.Idle flow expects) = refl
first_silent at (asked.RequestBody flow) = refl
first_silent at (asked.Connection flow server up) = going_silent at.dials up
first_silent at (asked.ResponseHead flow server up) = refl
first_silent at (asked.ResponseBody flow server up) = refl
first_silent at (asked.GivenHead flow) = refl
first_silent at (asked.GivenBody flow) = refl

module _ (before turned : Stream) (moment : ℕ) (found : Asked) (looked : Wanted) (out between : List Command) (dials : IsDialling before.phase) (live : before.phase ≡ phase.Asked found)
    (call : TurnsTo before turned moment reply.Dialled found looked out between) where
  abbrev answer : Timed Reply
  answer = record { moment = moment; value = reply.Dialled }

  -- where its request was sent, or goes up
  abbrev answering : Terms → At → Flow → Sent → Stage
  answering made at flow sent = busy (record at { dials = at.dials + 1; parked = None }) (reached made.place flow) (response_head at.dials sent)

  -- what was sent of one that goes up
  abbrev first : At → List Command
  first at = first_sent at found reply.Dialled

  record Connected (made : Terms) (at : At) (flow : Flow) (sent : Sent) (seen : Sight) : Type 0 where
    owes : between ≡ out ++ (reached_owes sent made.place flow at.dials ++ first at)
    terms : turned.terms ≡ made
    stage : stage_of turned.at looked ≡ answering made at flow sent
    place : turned.at ≡ record at { dials = at.dials + 1; parked = None }
    client : turned.client_closed ≡ seen.closed
    text : List ℕ
    is_first : sent_on (answering made at flow sent) (record none_sent { up = text }) ≡ first at
    goes : GoesOnUp made (reached made.place flow) (record seen { told = 0 }) (up_in looked) text turned.requests
    side : turned.side ≡ Some (unread_link at.dials (is_head flow.request.method) [] false)

  connected : (made : Terms) (at : At) (flow : Flow) (sent : Sent) (seen : Sight) → IsIn made before (busy at flow (connection sent)) seen → Connected made at flow sent seen
  connected made at flow sent seen is =
      let (owes, there) = turns_in before moment reply.Dialled found live made (busy at flow (connection sent)) seen is turned looked out between call in
      let asks = asked_at made before (busy at flow (connection sent)) seen found live is in
      let opened : turned.side ≡ Some (unread_link at.dials (is_head flow.request.method) [] false) =
      call.side ∙ (ap (λ d. side_behind d (stage_of turned.at looked) call.middle) (dial_asked made (busy at flow (connection sent)) seen found asks.2.asks)
      ∙ ap (λ s. side_behind true s call.middle) there.is_ready.is_stage) in
      let behind : Sight = sight_behind made.place (busy at flow (connection sent)) seen moment (answering made at flow sent) in
      let link = subst (IsOpen (IsLink (reached made.place flow).request at.dials behind there.sent.interim [])) opened there.is_ready.has_side in
      let none : there.sent.interim ≡ [] = no_interim (is_head flow.request.method) link.fed there.sent.interim link.passes in
      record {
        owes = owes ∙ ap (λ l. out ++ (l ++ first at)) (reach_owes sent made.place flow at.dials moment seen.closed);
        terms = call.terms ∙ is.terms;
        stage = there.is_ready.is_stage;
        place = there.place.is_here;
        client = there.place.client;
        text = there.sent.up;
        is_first = ap (λ l. sends_while sent at.dials there.sent.up ++ interim_commands (reached made.place flow).request l) (sym none) ∙ there.sent_is;
        goes = up_moved made (reached made.place flow) behind (record seen { told = 0 }) (up_in looked) there.sent.up turned.requests refl refl there.is_ready.request;
        side = opened;
      }

  record AtConnected : Type 0 where
    made : Terms
    at : At
    flow : Flow
    sent : Sent
    seen : Sight
    was : IsIn made before (busy at flow (connection sent)) seen
    few : Connected made at flow sent seen

  somewhere : Somewhere before → AtConnected
  somewhere (made, ahead, place, prefix, there) =
      let seen : Sight = sight_over place prefix in
      let dial = is_at_dial made before place.stage seen dials there.is_at.is_in in
      let was = subst (λ s. IsIn made before s seen) dial.stage_is there.is_at.is_in in
      record { made = made; at = dial.at; flow = dial.flow; sent = dial.sent; seen = seen; was = was; few = connected made dial.at dial.flow dial.sent seen was }

  -- its side was told of no close
  pub reach_unshut : Somewhere before → IsUnshut turned.side
  reach_unshut stands = subst IsUnshut (sym (somewhere stands).few.side) refl

  module _ (side : Option Link) (rest : List ℕ) (fed : side ≡ side_with (λ link. record link { responses = feeds rest link.responses }) turned.side) where
    abbrev given : Stream
    given = record turned { side = side }

    -- what was sent of where it leads
    abbrev of_text : List ℕ → SentOn
    of_text text = record none_sent { up = text }

    ready_in : (made : Terms) (at : At) (flow : Flow) (sent : Sent) (seen later : Sight) → (is : Connected made at flow sent seen) → later.client ≡ seen.client → later.told ≡ 0 → later.server ≡ rest → later.shut ≡ false →
        IsReady made turned.at turned.requests side looked (answering made at flow sent) later (of_text is.text)
    ready_in made at flow sent seen later is client told come unshut =
        let asked_head : Bool = is_head flow.request.method in
        let opened : side ≡ Some (unread_link at.dials asked_head rest false) = fed ∙ ap (side_with (λ link. record link { responses = feeds rest link.responses })) is.side in
        record {
          is_stage = is.stage;
          request = up_moved made (reached made.place flow) (record seen { told = 0 }) later (up_in looked) is.text turned.requests client told is.goes;
          has_side = subst (IsOpen (IsLink (reached made.place flow).request at.dials later [] [])) (sym opened)
              (subst (λ l. ReadsLink asked_head at.dials l later.shut [] [] (unread_link at.dials asked_head rest false)) (sym come)
              (subst (λ b. ReadsLink asked_head at.dials rest b [] [] (unread_link at.dials asked_head rest false)) (sym unshut) (unread_reads asked_head at.dials rest false)));
        }

    -- in a sight of the same bytes of the client, and of these of the server
    abbrev later_of : Sight → Sight
    later_of seen = record { client = seen.client; closed = seen.closed; server = rest; shut = false; told = 0; now = moment }

    ready_somewhere : (is : AtConnected) → IsReady is.made turned.at turned.requests side looked (answering is.made is.at is.flow is.sent) (later_of is.seen) (of_text is.few.text)
    ready_somewhere is = ready_in is.made is.at is.flow is.sent is.seen (later_of is.seen) is.few refl refl refl refl

    pub reach_up : Somewhere before → MayGoUp looked turned.requests
    reach_up stands =
        let is = somewhere stands in
        may_go_up is.made turned.at turned.requests side looked (answering is.made is.at is.flow is.sent) (later_of is.seen) (of_text is.few.text) (ready_somewhere is)

    pub reach_passes : Somewhere before → MayPass turned.at looked side
    reach_passes stands = none_passes turned.at looked side (subst PassesNone (sym (somewhere stands).few.stage) tt)

    pub reach_looks : Somewhere before → MayLook looked turned.requests side
    reach_looks stands =
        let is = somewhere stands in
        may_look is.made turned.at turned.requests side looked (answering is.made is.at is.flow is.sent) (later_of is.seen) (of_text is.few.text) (ready_somewhere is)

    module _ (after : Stream) (longer : List Command) (once : Advances given after moment looked between longer) where
      reached_in : (made : Terms) (at : At) (flow : Flow) (sent : Sent) (seen later : Sight) → (is : Connected made at flow sent seen) → later.client ≡ seen.client → later.closed ≡ seen.closed → later.told ≡ 0 →
          later.server ≡ rest → later.shut ≡ false → moment ≡ later.now → AdvancedTo made after (answering made at flow sent) later (of_text is.text) between longer
      reached_in made at flow sent seen later is client shut told come unshut now =
          advances_to made given after moment looked between longer (answering made at flow sent) later (of_text is.text) refl is.terms now (ready_in made at flow sent seen later is client told come unshut)
          (record { is_here = is.place; client = is.client ∙ sym shut }) once

      -- as far as one place tells it
      record Somehow : Type 0 where
        is : AtConnected
        got : AdvancedTo is.made after (answering is.made is.at is.flow is.sent) (later_of is.seen) (of_text is.few.text) between longer

      somehow : Somewhere before → Somehow
      somehow stands =
          let is = somewhere stands in
          record { is = is; got = reached_in is.made is.at is.flow is.sent is.seen (later_of is.seen) is.few refl refl refl refl refl refl }

      abbrev adds : (here : Somehow) → List Command
      adds here = reached_owes here.is.sent here.is.made.place here.is.flow here.is.at.dials ++ (first here.is.at ++ here.got.more)

      joined : (owed one more : List Command) → between ≡ out ++ (owed ++ one) → longer ≡ between ++ more → longer ≡ out ++ (owed ++ (one ++ more))
      joined owed one more owes grown = grown ∙ (ap (λ l. l ++ more) owes ∙ (append_assoc out (owed ++ one) more ∙ ap (λ l. out ++ l) (append_assoc owed one more)))

      grown_by : (here : Somehow) → longer ≡ out ++ adds here
      grown_by here =
          joined (reached_owes here.is.sent here.is.made.place here.is.flow here.is.at.dials) (first here.is.at) here.got.more here.is.few.owes here.got.grown

      reaches_to : (made : Terms) (ahead : ℕ) (from to : Standing) (prefix : List (Timed Event)) (more : List Command) → longer ≡ out ++ more →
          (may : MayReach made ahead before moment rest from to prefix) → ReachesThere made ahead after more to prefix may.at may.flow may.sent
      reaches_to made ahead from to prefix more grown may =
          let seen : Sight = sight_over from prefix in
          let later : Sight = sight_over to prefix in
          let owed : List Command = reached_owes may.sent made.place may.flow may.at.dials in
          let was : IsIn made before (busy may.at may.flow (connection may.sent)) seen = subst (λ s. IsIn made before s seen) may.dialling may.there.is_at.is_in in
          let is = connected made may.at may.flow may.sent seen was in
          let got = subst (λ s. AdvancedTo made after s later (of_text is.text) between longer) (sym may.stage)
          (reached_in made may.at may.flow may.sent seen later is (ap (λ n. drop n (bytes_of Client prefix)) may.client) refl may.told may.come may.unshut may.now) in
          let sent_there : sent_on to.stage (of_text is.text) ≡ first may.at = ap (λ s. sent_on s (of_text is.text)) may.stage ∙ is.is_first in
          let none : strays to.stage later ≡ [] = ap (λ s. strays s later) may.stage in
          let parts : more ≡ owed ++ (first may.at ++ got.more) = same_tail out more (owed ++ (first may.at ++ got.more)) (sym grown ∙ joined owed (first may.at) got.more is.owes got.grown) in
          let few : IsFew ahead (busy may.at may.flow (connection may.sent)) = subst (IsFew ahead) may.dialling may.there.few in
          let few_there : IsFew ahead (answering made may.at may.flow may.sent) = (let d = few.dials in record { few = few.few; dials = omega arith }) in
          record {
            is_there = record {
              is_at = at_walked made to prefix later refl after may.within got.is_in;
              few = pass_few ahead made to.stage later (subst (IsFew ahead) (sym may.stage) few_there);
              small = may.there.small;
            };
            gives = λ view. ap (seen_of view) parts ∙ (seen_append view owed (first may.at ++ got.more)
                ∙ (ap (λ l. seen_of view owed ++ l) (gives_all made after to prefix (of_text is.text) between longer (first may.at ++ got.more) got
                (ap (λ l. l ++ (sent_on to.stage (of_text is.text) ++ got.more)) none ∙ ap (λ l. l ++ got.more) sent_there) view)
                ∙ sym (seen_append view owed (owed_over (http_chain sequence made) to prefix))));
          }

      pub reach_goes : Somewhere before → Reaches before after moment rest out longer
      reach_goes stands =
          let here = somehow stands in
          record { more = adds here; grown = grown_by here; reaches = λ made ahead from to prefix may. reaches_to made ahead from to prefix (adds here) (grown_by here) may }

      -- what the chain owes asks nothing before it looks
      owes_silent : (sent : Sent) (place : Place) (flow : Flow) (server : ℕ) → flat_map asks_in (reached_owes sent place flow server) ≡ []
      owes_silent all_sent place flow server = refl
      owes_silent going_up place flow server = refl

      first_asks : (at : At) → flat_map asks_in (first at) ≡ []
      first_asks at = asks_seen (first at) ∙ ap (flat_map ask_atoms) (first_silent at found)

      -- what it asked is awaited
      pub reach_asks : Somewhere before → AsksOnly (awaits after) out longer
      reach_asks stands =
          let here = somehow stands in
          let owed : List Command = reached_owes here.is.sent here.is.made.place here.is.flow here.is.at.dials in (
            adds here,
            grown_by here,
            flat_map-append asks_in owed (first here.is.at ++ here.got.more)
                ∙ (ap (λ l. l ++ flat_map asks_in (first here.is.at ++ here.got.more)) (owes_silent here.is.sent here.is.made.place here.is.flow here.is.at.dials)
                ∙ (flat_map-append asks_in (first here.is.at) here.got.more
                ∙ (ap (λ l. l ++ flat_map asks_in here.got.more) (first_asks here.is.at)
                ∙ looked_asks here.is.made after _ _ (of_text here.is.few.text) between longer here.got (ap (seen_of questions) here.is.few.is_first ∙ first_silent here.is.at found)))),
          )

      -- one answer less is left
      pub reach_left : Somewhere before → sequence_left after < sequence_left before
      reach_left stands =
          let here = somehow stands in
          let same : sequence_left before ≡ stages_left (busy here.is.at here.is.flow (connection here.is.sent)) =
          left_asks here.is.made before (busy here.is.at here.is.flow (connection here.is.sent)) here.is.seen here.is.was _ refl in
          let most : sequence_left after ≤ stages_left (passed_to here.is.made (answering here.is.made here.is.at here.is.flow here.is.sent) (later_of here.is.seen)) = at_most here.is.made after _ _ here.got.is_in in
          let passing : stages_left (passed_to here.is.made (answering here.is.made here.is.at here.is.flow here.is.sent) (later_of here.is.seen)) ≤ stages_left (answering here.is.made here.is.at here.is.flow here.is.sent) =
          pass_stages here.is.made (answering here.is.made here.is.at here.is.flow here.is.sent) (later_of here.is.seen) tt in
          omega arith
