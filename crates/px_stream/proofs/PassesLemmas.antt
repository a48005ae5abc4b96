-- Where a body is read that may be streamed, or is, the machine passes as the chain does.
use Rattle.std.proofs.Common.{◌≡◌, ℕ, ◌+◌, Bool, true, false, ◌&&◌, List, [], ◌∷◌, ◌++◌, length, drop, Option, Some, None, refl, ap, sym, ◌∙◌, subst, arith, append_assoc}
use Rattle.std.proofs.lemmas.Grind.{flat_map-append}
use Rattle.std.proofs.lemmas.List.{append-nil}
use Rattle.px_message.specs.Length.{has_no_body}
use Rattle.px_message.specs.declared.flow.Flow.{Flow}
use Rattle.px_message.specs.declared.request.Request.{Request}
use Rattle.px_message.specs.declared.response.Response.{Response}
use Rattle.px_event.proofs.Seen.{seen_append}
use Rattle.px_event.specs.Chain.{Turn}
use Rattle.px_event.specs.View.{View, course, flows, line, order, questions, seen_of}
use Rattle.px_event.specs.declared.command.Command.{Command}
use Rattle.px_event.specs.declared.command.Command.TheVariants as commands
use Rattle.px_event.specs.declared.side.Side.TheVariants.{Client, Server}
use Rattle.px_read.specs.Chunks.{Finish, goes_on, whole, fails, Reading}
use Rattle.px_read.specs.Heads.{is_interim}
use Rattle.px_read.specs.Items.{body_of, content_in as content_at, item_behind}
use Rattle.px_read.specs.Laws.{head_in}
use Rattle.px_read.specs.Marks.{Mark, answers}
use Rattle.px_read.specs.Readings.{behind_bytes, response_reading}
use Rattle.px_read.specs.Reader.{Message, Reads, State, before_all, reading_from, request, response, to_come}
use Rattle.px_read.specs.declared.head.ResponseHead.{ResponseHead as ReadResponse}
use Rattle.px_write.specs.Text.{response_head_text}
use Rattle.px_exchange.specs.Bodies.{HasCome, content_of}
use Rattle.px_exchange.specs.Endings.{finished_streamed, read_persists, shut_unless, unless_kept}
use Rattle.px_exchange.specs.Flows.{response_of}
use Rattle.px_exchange.specs.Requests.{is_head}
use Rattle.px_exchange.specs.declared.body.Progress.{Progress}
use Rattle.px_exchange.specs.declared.body.Progress.TheVariants as progress
use Rattle.px_exchange.specs.declared.ending.Used.{Used}
use Rattle.px_exchange.specs.declared.place.Place.{Place}
use Rattle.px_exchange.specs.declared.terms.Terms.{Terms}
use Rattle.px_exchange.specs.declared.ending.Used.TheVariants.{NoServer}
use Rattle.px_parts.proofs.TextLemmas.{marks_both}
use Rattle.px_parts.specs.Texts.{final_so_far, last_text, marks_text}
use Rattle.px_chain.proofs.ComingLaws.{in_two}
use Rattle.px_chain.specs.Chain.{behind_flow, come_down, going_at, gone_by, pass_came, pass_down, pass_kept, past_came, past_kept, sequence, sight_come}
use Rattle.px_chain.specs.Coming.{Came, as_streamed, came_by, came_in, coming_by, coming_text, framed_as, streaming, streams_in}
use Rattle.px_chain.specs.Keeping.{is_silent, keeps_side, parks}
use Rattle.px_chain.specs.Sights.{Sight, answers_in, left_by_answers, server_in}
use Rattle.px_chain.specs.Going.{is_sent, sends_up, whole_in}
use Rattle.px_chain.specs.Stages.{At, Sent, Stage, busy, coming_down, idle, over, response_body}
use Rattle.px_stream.specs.declared.coming.Held.{Held}
use Rattle.px_stream.specs.declared.going.Sending.{Sending}
use Rattle.px_stream.specs.declared.going.Sending.TheVariants as sending
use Rattle.px_stream.specs.declared.link.Link.{Link}
use Rattle.px_stream.specs.declared.phase.Wanted.{Wanted}
use Rattle.px_stream.specs.declared.phase.Wanted.TheVariants as ready
use Rattle.px_stream.specs.Comings.{framed_by, sends_text}
use Rattle.px_stream.specs.Goings.{sends_while, sent_of}
use Rattle.px_stream.specs.GoingUp.{HasNoMoreUp, IsGone, NoMoreUp}
use Rattle.px_stream.specs.Passes.{CameTo, DownPassed, HasNoMore, HeldPassed, HeldWent, HoldsMore, IsPassed, Passed, SaysMore, SideCame, WentDown, ended_gives, ended_leads, is_passing, stays_behind, streams_by}
use Rattle.px_stream.specs.Stands.{GoesOnUp, HasPlace, HasRequest, HasSide, IsLink, IsOpen, IsReady, Keeps, ReadsDown, ReadsLink, ReadsReturn, SentOn, StaysOpen, none_sent, parked_link, sent_on, silent_link, stage_of, unread_link, used_in}
use Rattle.px_stream.specs.Turns.{keeps_on, new_side, requests_behind, side_behind, unless_parked}
use Rattle.px_stream.proofs.CameLemmas.{finish_of, head_is, item_is, judged, left_is, none_left, read_as, streams_has_body, text_is}
use Rattle.px_stream.proofs.TurnLemmas.{WentTo}
use Rattle.px_stream.proofs.UpViewLemmas.{server_atoms, to_seen}
use Rattle.px_stream.proofs.WentUpLemmas.{all_sent_of}

-- ---- texts, as the views see them

-- an empty text is not seen
nothing_sent : (view : View) (rest : List Command) → seen_of view (commands.Send Client [] ∷ rest) ≡ seen_of view rest
nothing_sent (line Client) rest = refl
nothing_sent (line (Server side)) rest = refl
nothing_sent questions rest = refl
nothing_sent course rest = refl
nothing_sent flows rest = refl
nothing_sent order rest = refl

text_sent : (view : View) (text : List ℕ) (rest : List Command) → seen_of view (sends_text text ++ rest) ≡ seen_of view (commands.Send Client text ∷ rest)
text_sent view [] rest = sym (nothing_sent view rest)
text_sent view (b ∷ text) rest = refl

-- a text in two sends is seen as in one
texts_sent : (view : View) (was text : List ℕ) (rest : List Command) → seen_of view (sends_text was ++ (sends_text text ++ rest)) ≡ seen_of view (sends_text (was ++ text) ++ rest)
texts_sent view [] text rest = refl
texts_sent view (b ∷ was) [] rest = ap (λ l. seen_of view (commands.Send Client (b ∷ l) ∷ rest)) (sym (append-nil was))
texts_sent view (b ∷ was) (c ∷ text) rest =
    seen_append view (commands.Send Client (b ∷ was) ∷ []) (commands.Send Client (c ∷ text) ∷ rest) ∙ sym (in_two view (b ∷ was) (c ∷ text) rest)

-- ---- where a finished flow leads

-- a reader that begins, with these bytes
no_bytes_by : (f : Finish) → f ≡ behind_bytes 0 f
no_bytes_by goes_on = refl
no_bytes_by (whole trailers used) = let e : used ≡ 0 + used = omega arith in ap (λ n. whole trailers n) e
no_bytes_by (fails fault) = refl

begins_here : (message : Message) (bytes : List ℕ) → Reads message [] bytes false (before_all message bytes false)
begins_here message bytes = record {
  closed = refl;
  used = [];
  bytes = refl;
  reading = λ more later follows.
      let r : Reading = reading_from (before_all message bytes false).place later (bytes ++ more) in
      ap (λ f. read_as r.marks f) (no_bytes_by r.finish);
}

-- nothing is read there of a message
none_idle : (at there : At) (next : Wanted) (requests : State) (side : Option Link) → stage_of at next ≡ idle there → HasNoMore next requests side
none_idle at there ready.Idle requests side is = record { up = tt; down = tt }
none_idle at there (ready.RequestBody flow given most body held) requests side is = absurd (let no : stage_of at (ready.RequestBody flow given most body held) ≡ idle there = is in cc)
none_idle at there (ready.Connection flow up) requests side is = record { up = tt; down = tt }
none_idle at there (ready.ResponseHead flow server up) requests side is = absurd (let no : stage_of at (ready.ResponseHead flow server up) ≡ idle there = is in cc)
none_idle at there (ready.ResponseBody flow server up most body held) requests side is = absurd (let no : stage_of at (ready.ResponseBody flow server up most body held) ≡ idle there = is in cc)
none_idle at there (ready.ComingDown flow server up sent) requests side is = absurd (let no : stage_of at (ready.ComingDown flow server up sent) ≡ idle there = is in cc)
none_idle at there (ready.Upgraded flow server) requests side is = record { up = tt; down = tt }
none_idle at there (ready.GivenHead flow) requests side is = record { up = tt; down = tt }
none_idle at there (ready.GivenBody flow) requests side is = record { up = tt; down = tt }
none_idle at there (ready.Connects address) requests side is = record { up = tt; down = tt }
none_idle at there ready.Over requests side is = record { up = tt; down = tt }

none_over : (at : At) (next : Wanted) (requests : State) (side : Option Link) → stage_of at next ≡ over → HasNoMore next requests side
none_over at ready.Idle requests side is = record { up = tt; down = tt }
none_over at (ready.RequestBody flow given most body held) requests side is = absurd (let no : stage_of at (ready.RequestBody flow given most body held) ≡ over = is in cc)
none_over at (ready.Connection flow up) requests side is = record { up = tt; down = tt }
none_over at (ready.ResponseHead flow server up) requests side is = absurd (let no : stage_of at (ready.ResponseHead flow server up) ≡ over = is in cc)
none_over at (ready.ResponseBody flow server up most body held) requests side is = absurd (let no : stage_of at (ready.ResponseBody flow server up most body held) ≡ over = is in cc)
none_over at (ready.ComingDown flow server up sent) requests side is = absurd (let no : stage_of at (ready.ComingDown flow server up sent) ≡ over = is in cc)
none_over at (ready.Upgraded flow server) requests side is = record { up = tt; down = tt }
none_over at (ready.GivenHead flow) requests side is = record { up = tt; down = tt }
none_over at (ready.GivenBody flow) requests side is = record { up = tt; down = tt }
none_over at (ready.Connects address) requests side is = record { up = tt; down = tt }
none_over at ready.Over requests side is = record { up = tt; down = tt }

none_behind : (stays : Bool) (there at : At) (next : Wanted) (requests : State) (side : Option Link) → stage_of at next ≡ sequence (behind_flow stays there) → HasNoMore next requests side
none_behind true there at next requests side is = none_idle at (record there { flow = there.flow + 1 }) next requests side is
none_behind false there at next requests side is = none_over at next requests side is

passed_behind : (place : Place) (stays : Bool) (there : At) (past : Sight) → IsPassed place (sequence (behind_flow stays there)) past
passed_behind place true there past = record { gone = tt; come = tt }
passed_behind place false there past = record { gone = tt; come = tt }

sent_behind : (stays : Bool) (there : At) → sent_on (sequence (behind_flow stays there)) none_sent ≡ []
sent_behind true there = refl
sent_behind false there = refl

-- ---- from what is passed to

-- passing owes this and leads there, and this is left of the sight
pub record GoesTo (terms : Terms) (turn : Turn Stage Command) (past : Sight) (at : At) (requests : State) (side : Option Link) (looked : Wanted) (before out longer : List Command) : Type 0 where
  pub sent : SentOn
  pub more : List Command
  pub grown : longer ≡ out ++ more
  pub owes : (view : View) → seen_of view (before ++ more) ≡ seen_of view (turn.owed ++ sent_on (sequence turn.stage) sent)
  pub is_ready : IsReady terms at requests side looked (sequence turn.stage) past sent
  pub is_passed : IsPassed terms.place (sequence turn.stage) past
  pub no_more : HasNoMore looked requests side

goes_to_there : (terms : Terms) (stage : Stage) (seen : Sight) (at : At) (requests : State) (side : Option Link) (looked : Wanted) (before out longer : List Command) →
    GoesTo terms (come_down terms stage seen) (sight_come stage seen) at requests side looked before out longer → CameTo terms stage seen at requests side looked before out longer
goes_to_there terms stage seen at requests side looked before out longer goes = record {
  sent = goes.sent;
  more = goes.more;
  grown = goes.grown;
  owes = goes.owes;
  is_ready = goes.is_ready;
  is_passed = goes.is_passed;
  no_more = goes.no_more;
}

-- the text of what came, of a flow whose response is there
text_of : (flow : Flow) (seen : Sight) (answer : Response) (head : ReadResponse) → flow.response ≡ Some answer → head_in (answers_in flow.request seen).final ≡ Some head →
    coming_text flow seen ≡ final_so_far (framed_as head answer) (is_head flow.request.method) seen.shut seen.server
text_of flow seen answer head is there =
    ap (λ given. coming_by given (head_in (answers_in flow.request seen).final) flow.request seen.shut seen.server) is
    ∙ ap (λ h. coming_by (Some answer) h flow.request seen.shut seen.server) there

some_same : {A : Type 0} (x y : A) → Some x ≡ Some y → x ≡ y
some_same x y is = cc

-- a side whose reader gave more
abbrev link_on : (asked_head : Bool) (server : ℕ) (bytes : List ℕ) (shut : Bool) (interim : List ReadResponse) (told more : List Mark) (link further : Link)
    (is_link : ReadsLink asked_head server bytes shut interim told link) → further ≡ record link { responses = further.responses } →
    Reads (response asked_head) (told ++ more) is_link.fed shut further.responses → ReadsLink asked_head server bytes shut interim (told ++ more) further
link_on asked_head server bytes shut interim told more link further is_link same reads = record {
  server = ap (λ (l : Link). l.server) same ∙ is_link.server;
  is_asked = ap (λ (l : Link). l.asked_head) same ∙ is_link.is_asked;
  closed = ap (λ (l : Link). l.closed) same ∙ is_link.closed;
  fed = is_link.fed;
  passes = is_link.passes;
  reads = reads;
}

-- what is streamed has a body, as the flow says it
given_has_body : (flow : Flow) (given : Option Response) (answer read : Response) (most : Option ℕ) (heard : ℕ) → as_streamed given ≡ Some answer → streams_by flow given read most heard ≡ true →
    has_no_body answer.status (is_head flow.request.method) ≡ false
given_has_body flow None answer read most heard is streams = absurd (let no : None ≡ Some answer = is in cc)
given_has_body flow (Some own) answer read most heard is streams =
    subst (λ (r : Response). has_no_body r.status (is_head flow.request.method) ≡ false) (some_same (record own { streamed = true }) answer is)
    (streams_has_body (is_head flow.request.method) read own most heard streams)

both_first : (a b : Bool) → (a && b) ≡ true → a ≡ true
both_first true b is = refl
both_first false b is = is

-- How the request stands meanwhile, in a flow: it goes up on, and all that came of it was sent, which was this behind what earlier asks owed; or it is whole.
pub record Beside (terms : Terms) (flow : Flow) (seen : Sight) (up : Sending) (was_up : List ℕ) (old : State) : Type 0 where
  pub reads : GoesOnUp terms flow seen up was_up old
  pub none_up : NoMoreUp up old
  pub gone : (server : ℕ) → gone_by (going_at (coming_down server (sent_of up))) (whole_in seen) ≡ None

-- what follows a whole request waits
keeps_all : (terms : Terms) (flow : Flow) (seen : Sight) (up : Sending) (was_up : List ℕ) (old : State) → is_sent (sent_of up) ≡ true → GoesOnUp terms flow seen up was_up old → Keeps seen.client old
keeps_all terms flow seen sending.All was_up old all reads = reads
keeps_all terms flow seen (sending.GoingUp goes) was_up old all reads = absurd (let no : false ≡ true = all in cc)

-- what was sent of one that goes up is what is owed of it
up_owed : (terms : Terms) (flow : Flow) (server : ℕ) (seen : Sight) (up : Sending) (was_up : List ℕ) (old : State) → Beside terms flow seen up was_up old → (view : View) →
    seen_of view (sends_while (sent_of up) server was_up) ≡ seen_of view (sends_up terms.place flow server (sent_of up) seen)
up_owed terms flow server seen sending.All was_up old beside view = refl
up_owed terms flow server seen (sending.GoingUp goes) was_up old beside view =
    to_seen view server was_up ∙ (sym (append-nil (server_atoms view server was_up)) ∙ ap (λ l. seen_of view (commands.Send (Server server) l ∷ [])) (all_sent_of terms flow server seen goes was_up old beside.reads beside.none_up (beside.gone server)))

-- a flow that says that its response is streamed has the same request
streaming_beside : (terms : Terms) (flow : Flow) (seen : Sight) (up : Sending) (was_up : List ℕ) (old : State) → Beside terms flow seen up was_up old → Beside terms (streaming flow) seen up was_up old
streaming_beside terms flow seen sending.All was_up old beside = record { reads = beside.reads; none_up = beside.none_up; gone = beside.gone }
streaming_beside terms flow seen (sending.GoingUp goes) was_up old beside =
    let on = beside.reads.going_on in record {
      reads = record { marks = beside.reads.marks; going_on = record { head = on.head; sent_as = on.sent_as; reads = on.reads }; within = beside.reads.within; is_text = beside.reads.is_text };
      none_up = beside.none_up;
      gone = beside.gone;
    }

-- where the machine goes, the side that was used is new behind the end of the flow
came_to : (looked : Wanted) (at : At) (side later : Option Link) → SideCame looked side later → WentTo true (stage_of at looked) side later
came_to ready.Idle at side later is = is
came_to ready.Over at side later is = tt
came_to looked at side later is = is

-- One passage of the machine, beside a request that stands so, and with this side behind it.
module _ (terms : Terms) (at new : At) (seen : Sight) (old : State) (next : Wanted) (out longer : List Command) (up : Sending) (was_up : List ℕ) (later : Option Link) where
  -- with what was sent before
  abbrev Goes : Turn Stage Command → Sight → At → Wanted → List Command → Type 0
  Goes turn past there looked before = GoesTo terms turn past there (requests_behind (stage_of there looked) old) (side_behind false (stage_of there looked) later) looked before out longer

  -- the side of this server is kept behind the flow, and the next one reads it from its beginning
  parked_behind : (kept : Bool) (message : Request) (server : ℕ) (further : Link) (past : Sight) → further.server ≡ server → past.server ≡ [] → past.shut ≡ false → later ≡ new_side (Some further) →
      let here : At = parks kept terms.place at message server in unless_parked here.parked later ≡ parked_link here.parked past
  parked_behind true message server further past its empty is_open is =
      is ∙ (ap (λ n. Some (unread_link n false [] false)) its ∙ (ap (λ l. silent_link (is_silent l false) server) (sym empty) ∙ ap (λ h. silent_link (is_silent past.server h) server) (sym is_open)))
  parked_behind false message server further past its empty is_open is = refl

  -- a finished flow leads to a head of a request of which nothing was read, or to the end
  ready_behind : (stays kept : Bool) (message : Request) (server : ℕ) (further : Link) → further.server ≡ server → SideCame next (Some further) later → (stays ≡ true → Keeps seen.client old) →
      let there : Stage = sequence (behind_flow stays (parks kept terms.place at message server)) in stage_of new next ≡ there →
      IsReady terms new (requests_behind (stage_of new next) old) (side_behind false (stage_of new next) later) next there (record seen { server = []; shut = false }) none_sent
  ready_behind true kept message server further its came keeps leads =
      let there : Stage = sequence (behind_flow true (parks kept terms.place at message server)) in record {
        is_stage = leads;
        request = (let first : Reads request [] seen.client false (before_all request old.rest false) =
            subst (λ l. Reads request [] l false (before_all request old.rest false)) (keeps refl).rest (begins_here request old.rest) in
            subst (λ s. Reads request [] seen.client false (requests_behind s old)) (sym leads) first);
        has_side = ap (λ s. side_behind false s later) leads
            ∙ parked_behind kept message server further (record seen { server = []; shut = false }) its refl refl (subst (λ s. WentTo true s (Some further) later) leads (came_to next new (Some further) later came));
      }
  ready_behind false kept message server further its came keeps leads = record { is_stage = leads; request = tt; has_side = tt }

  -- ---- a response that is streamed: its head and all that came of it, of which this was said before

  module _ (flow : Flow) (server : ℕ) (answer : Response) (interim : List ReadResponse) (head : ReadResponse) (all : List Mark) (further : Link) (was text : List ℕ) (given : flow.response ≡ Some answer)
      (has_body : has_no_body answer.status (is_head flow.request.method) ≡ false) (final : is_interim head ≡ false) (lasts : further.persists ≡ read_persists flow.request head) (is_link : IsLink flow.request server seen interim (answers head ∷ all) further)
      (said : was ++ text ≡ response_head_text (framed_by (response_of head) answer) ++ marks_text all) (beside : Beside terms flow seen up was_up old) where
    abbrev how : Sent
    how = sent_of up

    -- what was sent before
    abbrev before : List Command
    before = sends_while how server was_up ++ sends_text was

    abbrev sent_as : Response
    sent_as = framed_by (response_of head) answer

    abbrev reading : Reading
    reading = response_reading (is_head flow.request.method) seen.shut is_link.fed

    abbrev GoesDown : Option Came → Type 0
    GoesDown came = Goes (pass_came terms.place at flow server how seen came) (past_came came seen) new next before

    -- it is not whole
    comes_on : (to_come further.responses).marks ≡ [] → came_in flow seen ≡ None → longer ≡ out ++ sends_text text → new ≡ at → next ≡ ready.ComingDown flow server up sent_as → SideCame next (Some further) later → GoesDown None
    comes_on none came grown here there side =
        let P : At → Wanted → Type 0 = λ a n. SideCame n (Some further) later → Goes (pass_came terms.place at flow server how seen None) seen a n before in
        let stays : P at (ready.ComingDown flow server up sent_as) = λ (same : later ≡ Some further). record {
          sent = record { interim = []; text = was ++ text; up = was_up };
          more = sends_text text;
          grown = grown;
          owes = λ view.
              ap (seen_of view) (append_assoc (sends_while how server was_up) (sends_text was) (sends_text text))
              ∙ (seen_append view (sends_while how server was_up) (sends_text was ++ sends_text text)
              ∙ (ap (λ l. seen_of view (sends_while how server was_up) ++ l)
              (ap (λ l. seen_of view (sends_text was ++ l)) (sym (append-nil (sends_text text))) ∙ (texts_sent view was text [] ∙ ap (seen_of view) (append-nil (sends_text (was ++ text)))))
              ∙ sym (seen_append view (sends_while how server was_up) (sends_text (was ++ text)))));
          is_ready = record {
            is_stage = refl;
            request = beside.reads;
            has_side = subst (IsOpen (ReadsDown flow server seen (Some sent_as) (was ++ text))) (sym same) (record {
              sent = interim;
              head = head;
              marks = all;
              is_text = said;
              streamed = record { response = answer; is_given = given; is_sent = refl; has_body = has_body };
              final = final;
              lasts = lasts;
              is_link = is_link;
            });
          };
          is_passed = record { gone = beside.gone server; come = came };
          no_more = record { up = beside.none_up; down = subst (IsOpen (λ link. (to_come link.responses).marks ≡ [])) (sym same) none };
        } in
        subst (λ a. P a next) (sym here) (subst (λ n. P at n) (sym there) stays) side

    -- all of it came
    abbrev came_here : Came
    came_here = record { response = answer; head = head }

    abbrev goes_further : Bool
    goes_further = stays_behind at.flow flow up answer sent_as

    -- its side is kept as the chain keeps it
    abbrev kept : Bool
    kept = goes_further && keeps_side flow.request seen head

    abbrev ending : List Command
    ending = finished_streamed flow seen.now (unless_kept kept (server_in server seen)) ++ shut_unless goes_further NoServer seen.closed

    abbrev behind : Stage
    behind = sequence (behind_flow goes_further (parks kept terms.place at flow.request server))

    keeps_so : (trailers : List (List ℕ × List ℕ)) (used : ℕ) → reading ≡ read_as (answers head ∷ all) (whole trailers used) → further.responses.rest ≡ drop used is_link.fed →
        keeps_on flow.request (Some further) ≡ keeps_side flow.request seen head
    keeps_so trailers used is rest =
        let left = left_is (is_head flow.request.method) seen.shut seen.server is_link.fed interim is_link.passes head final all (whole trailers used) is in
        let stands : further.responses.rest ≡ left_by_answers (answers_in flow.request seen) seen.server = rest ∙ sym left in
        rw (stands, is_link.closed, lasts) refl

    whole_text : (trailers : List (List ℕ × List ℕ)) (used : ℕ) → reading ≡ read_as (answers head ∷ all) (whole trailers used) →
        was ++ (text ++ last_text sent_as.fields trailers) ≡ coming_text flow seen
    whole_text trailers used is =
        sym (append_assoc was text (last_text sent_as.fields trailers))
        ∙ (ap (λ l. l ++ last_text sent_as.fields trailers) said
        ∙ (append_assoc (response_head_text sent_as) (marks_text all) (last_text sent_as.fields trailers)
        ∙ (sym (text_is (is_head flow.request.method) seen.shut seen.server is_link.fed interim is_link.passes head final all (whole trailers used) is sent_as has_body)
        ∙ sym (text_of flow seen answer head given (head_is (is_head flow.request.method) seen.shut seen.server is_link.fed interim is_link.passes head final all (whole trailers used) is)))))

    comes_whole : (trailers : List (List ℕ × List ℕ)) (used : ℕ) → reading ≡ read_as (answers head ∷ all) (whole trailers used) →
        longer ≡ out ++ (sends_text (text ++ last_text sent_as.fields trailers) ++ ending) → stage_of new next ≡ behind → SideCame next (Some further) later → GoesDown (Some came_here)
    comes_whole trailers used is grown leads side =
        let last : List ℕ = text ++ last_text sent_as.fields trailers in
        let here : At = parks kept terms.place at flow.request server in
        record {
          sent = none_sent;
          more = sends_text last ++ ending;
          grown = grown;
          owes = λ view.
              let first : List Command = sends_while how server was_up in
              let owed : List Command = sends_up terms.place flow server how seen in
              let rest : List Command = commands.Send Client (coming_text flow seen) ∷ ending in
              ap (seen_of view) (append_assoc first (sends_text was) (sends_text last ++ ending))
              ∙ (seen_append view first (sends_text was ++ (sends_text last ++ ending))
              ∙ (ap (λ l. seen_of view first ++ l)
              (texts_sent view was last ending ∙ (text_sent view (was ++ last) ending ∙ ap (λ t. seen_of view (commands.Send Client t ∷ ending)) (whole_text trailers used is)))
              ∙ (ap (λ l. l ++ seen_of view rest) (up_owed terms flow server seen up was_up old beside view)
              ∙ (sym (seen_append view owed rest)
              ∙ ap (seen_of view) (sym (ap (λ l. (owed ++ rest) ++ l) (sent_behind goes_further here) ∙ append-nil (owed ++ rest)))))));
          is_ready = ready_behind goes_further kept flow.request server further is_link.server side (λ stays. keeps_all terms flow seen up was_up old (both_first (is_sent (sent_of up)) _ stays) beside.reads) leads;
          is_passed = passed_behind terms.place goes_further here (record seen { server = []; shut = false });
          no_more = none_behind goes_further here new next (requests_behind (stage_of new next) old) (side_behind false (stage_of new next) later) leads;
        }

    -- its item there, by how the reading ended
    item_here : (finish : Finish) → reading ≡ read_as (answers head ∷ all) finish → (answers_in flow.request seen).final ≡ item_behind head (body_of all) finish
    item_here finish is = item_is (is_head flow.request.method) seen.shut seen.server is_link.fed interim is_link.passes head final all finish is

    came_as : (finish : Finish) → reading ≡ read_as (answers head ∷ all) finish → came_in flow seen ≡ came_by (Some answer) (item_behind head (body_of all) finish)
    came_as finish is = ap (λ o. came_by o (answers_in flow.request seen).final) given ∙ ap (came_by (Some answer)) (item_here finish is)

    goes_down_by : (came : Option Came) → came_in flow seen ≡ came → GoesDown came → GoesDown (came_in flow seen)
    goes_down_by came is goes = subst GoesDown (sym is) goes

    goes_down : (got : Progress) → HasCome got reading (answers head ∷ all) is_link.fed further.responses →
        WentDown terms.place at new seen.now (server_in server seen) seen.closed flow server up sent_as got text next (Some further) later out longer → GoesDown (came_in flow seen)
    goes_down progress.Missing come went =
        let came = came_as goes_on come in
        goes_down_by None came
        (comes_on (none_left progress.Missing (response (is_head flow.request.method)) (answers head ∷ all) is_link.fed seen.shut further.responses is_link.reads come) came went.gives went.leads.0 went.leads.1 went.is_side)
    goes_down (progress.Bad fault) come went =
        let came = came_as (fails fault) come in
        goes_down_by None came
        (comes_on (none_left (progress.Bad fault) (response (is_head flow.request.method)) (answers head ∷ all) is_link.fed seen.shut further.responses is_link.reads come) came went.gives went.leads.0 went.leads.1 went.is_side)
    goes_down (progress.Whole trailers) come went =
        let last : List ℕ = text ++ last_text sent_as.fields trailers in
        goes_down_by (Some came_here) (came_as (whole trailers come.0) come.1)
        (comes_whole trailers come.0 come.1
        (went.gives
        ∙ (ap (λ o. out ++ (sends_text last ++ ended_gives at.flow flow up o sent_as (keeps_on flow.request (Some further)) seen.now (server_in server seen) seen.closed)) given
        ∙ ap (λ k. out ++ (sends_text last ++ ended_gives at.flow flow up (Some answer) sent_as k seen.now (server_in server seen) seen.closed)) (keeps_so trailers come.0 come.1 come.2)))
        (went.leads
        ∙ (ap (λ o. ended_leads terms.place at flow server up o sent_as (keeps_on flow.request (Some further))) given
        ∙ ap (ended_leads terms.place at flow server up (Some answer) sent_as) (keeps_so trailers come.0 come.1 come.2)))
        went.is_side)

  -- ---- a response that is streamed already

  down_at : (flow : Flow) (server : ℕ) (is_sent : Response) (was : List ℕ) (link further : Link) → ReadsDown flow server seen (Some is_sent) was link → (got : Progress) (text : List ℕ) →
      SaysMore got [] text link further → WentDown terms.place at new seen.now (server_in server seen) seen.closed flow server up is_sent got text next (Some further) later out longer →
      Beside terms flow seen up was_up old →
      Goes (come_down terms (busy at flow (coming_down server (sent_of up))) seen) (sight_come (busy at flow (coming_down server (sent_of up))) seen) new next (sends_while (sent_of up) server was_up ++ sends_text was)
  down_at flow server is_sent was link further read got text more went beside =
      let asked_head : Bool = is_head flow.request.method in
      let told : List Mark = answers read.head ∷ read.marks in
      let over = more.read.held.over in
      let all : List Mark = read.marks ++ over.marks in
      let framed : is_sent ≡ framed_by (response_of read.head) read.streamed.response = some_same is_sent (framed_by (response_of read.head) read.streamed.response) read.streamed.is_sent in
      let head_text : List ℕ = response_head_text is_sent in
      let said : was ++ text ≡ response_head_text (framed_by (response_of read.head) read.streamed.response) ++ marks_text all =
      ap (λ l. l ++ text) read.is_text
      ∙ (ap (λ l. (head_text ++ marks_text read.marks) ++ l) over.says
      ∙ (append_assoc head_text (marks_text read.marks) (marks_text over.marks)
      ∙ (ap (λ l. head_text ++ l) (sym (marks_both read.marks over.marks))
      ∙ ap (λ s. response_head_text s ++ marks_text all) framed))) in
      goes_down flow server read.streamed.response read.sent read.head all further was text read.streamed.is_given read.streamed.has_body read.final
      (ap (λ (l : Link). l.persists) more.same ∙ read.lasts)
      (link_on asked_head server seen.server seen.shut read.sent told over.marks link further read.is_link more.same (over.reads (response asked_head) told read.is_link.fed seen.shut read.is_link.reads))
      said beside got (more.read.held.come (response asked_head) told read.is_link.fed seen.shut read.is_link.reads)
      (subst (λ s. WentDown terms.place at new seen.now (server_in server seen) seen.closed flow server up s got text next (Some further) later out longer) framed went)

  -- ---- one that may yet be

  module _ (flow : Flow) (server : ℕ) (most : Option ℕ) (body : List ℕ) (held : Held) (link further : Link) (read : ReadsReturn flow server most seen body (Some held) link)
      (got : Progress) (content : List ℕ) (more : Held) (same : more.read ≡ held.read) (over : HoldsMore got body held.said.items content more.said.items link further)
      (beside : Beside terms flow seen up was_up old) (gone : IsGone terms.place (busy at flow (response_body server (sent_of up) most)) seen) where
    abbrev first : List Command
    first = sends_while (sent_of up) server was_up

    abbrev asked_head : Bool
    asked_head = is_head flow.request.method

    abbrev told : List Mark
    told = answers read.head ∷ read.marks

    abbrev all : List Mark
    all = read.marks ++ over.read.over.marks

    abbrev is_link : IsLink flow.request server seen read.sent (answers read.head ∷ all) further
    is_link = link_on asked_head server seen.server seen.shut read.sent told over.read.over.marks link further read.is_link over.same
        (over.read.over.reads (response asked_head) told read.is_link.fed seen.shut read.is_link.reads)

    persists_on : further.persists ≡ read_persists flow.request read.head
    persists_on = ap (λ (l : Link). l.persists) over.same ∙ read.lasts

    come_to : HasCome got (response_reading asked_head seen.shut read.is_link.fed) (answers read.head ∷ all) read.is_link.fed further.responses
    come_to = over.read.come (response asked_head) told read.is_link.fed seen.shut read.is_link.reads

    content_is : content ≡ content_of all
    content_is =
        over.read.over.grown
        ∙ (ap (λ l. l ++ content_of over.read.over.marks) read.is_content ∙ sym (flat_map-append content_at read.marks over.read.over.marks))

    read_is : more.read ≡ response_of read.head
    read_is = same ∙ read.holds.1

    said_is : more.said.items ≡ marks_text all
    said_is =
        over.read.over.says
        ∙ (ap (λ l. l ++ marks_text over.read.over.marks) read.holds.2 ∙ sym (marks_both read.marks over.read.over.marks))

    streams_as : streams_in flow most seen ≡ streams_by flow flow.response held.read most (length content)
    streams_as =
        let ended = finish_of got (response_reading asked_head seen.shut read.is_link.fed) (answers read.head ∷ all) read.is_link.fed further.responses come_to in
        judged flow flow.response seen.shut seen.server read.is_link.fed read.sent read.is_link.passes read.head read.final all ended.0 ended.1 most
        ∙ (ap (λ r. streams_by flow flow.response r most (length (content_of all))) (sym read.holds.1)
        ∙ ap (λ l. streams_by flow flow.response held.read most (length l)) (sym content_is))

    abbrev GoesBy : Bool → Type 0
    GoesBy b = Goes (pass_kept b terms.place at flow server (sent_of up) most seen) (past_kept b (came_in (streaming flow) seen) seen) new next first

    -- it is held on
    holds_on : streams_in flow most seen ≡ false → HeldWent false terms.place at new seen.now (server_in server seen) seen.closed flow server up most content more got next (Some further) later out longer → GoesBy false
    holds_on streams (went, side) =
        let P : At → Wanted → Type 0 = λ a n. Goes (pass_kept false terms.place at flow server (sent_of up) most seen) seen a n first in
        let stays : P at (ready.ResponseBody flow server up most content (Some more)) = record {
          sent = record none_sent { up = was_up };
          more = [];
          grown = went.gives ∙ sym (append-nil out);
          owes = λ view. ap (seen_of view) (append-nil first);
          is_ready = record {
            is_stage = refl;
            request = beside.reads;
            has_side = subst (IsOpen (ReadsReturn flow server most seen content (Some more))) (sym side) (record {
              sent = read.sent;
              head = read.head;
              marks = all;
              is_content = content_is;
              holds = (read.holds.0, read_is, said_is);
              final = read.final;
              lasts = persists_on;
              is_link = is_link;
            });
          };
          is_passed = record { gone = gone; come = streams };
          no_more = record {
            up = beside.none_up;
            down = subst (IsOpen (λ link. (to_come link.responses).marks ≡ [])) (sym side)
                (none_left got (response asked_head) (answers read.head ∷ all) read.is_link.fed seen.shut further.responses is_link.reads come_to);
          };
        } in
        subst (λ a. P a next) (sym went.same) (subst (λ n. P at n) (sym went.is_there) stays)

    -- it is streamed from here on
    starts_down : streams_by flow flow.response held.read most (length content) ≡ true →
        HeldWent true terms.place at new seen.now (server_in server seen) seen.closed flow server up most content more got next (Some further) later out longer → GoesBy true
    starts_down streams went =
        let head_text : List ℕ = response_head_text (framed_by (response_of read.head) went.response) in
        let P : Response → List ℕ → Type 0 = λ r l.
        WentDown terms.place at new seen.now (server_in server seen) seen.closed (streaming flow) server up (framed_by r went.response) got (response_head_text (framed_by r went.response) ++ l) next (Some further) later out longer in
        subst (Goes (pass_down terms.place at (streaming flow) server (sent_of up) seen) (past_came (came_in (streaming flow) seen) seen) new next) (append-nil first)
        (goes_down (streaming flow) server went.response read.sent read.head all further [] (head_text ++ marks_text all) went.is_given
        (given_has_body flow flow.response went.response held.read most (length content) went.is_given streams) read.final persists_on is_link refl (streaming_beside terms flow seen up was_up old beside) got come_to
        (subst (λ l. P (response_of read.head) l) said_is (subst (λ r. P r more.said.items) read_is went.went)))

    held_by : (b : Bool) → streams_by flow flow.response held.read most (length content) ≡ b →
        HeldWent b terms.place at new seen.now (server_in server seen) seen.closed flow server up most content more got next (Some further) later out longer →
        GoesBy b
    held_by true is went = starts_down is went
    held_by false is went = holds_on (streams_as ∙ is) went

    held_at : HeldWent (streams_by flow flow.response held.read most (length content)) terms.place at new seen.now (server_in server seen) seen.closed flow server up most content more got next (Some further) later out longer →
        GoesBy (streams_in flow most seen)
    held_at went = subst GoesBy (sym streams_as) (held_by (streams_by flow flow.response held.read most (length content)) refl went)

-- ---- all that is looked for

passed_in : (place : Place) (at new : At) (looked next : Wanted) (side middle : Option Link) (out longer : List Command) (used there : Used) (moment now : ℕ) (closed shut : Bool) → used ≡ there → moment ≡ now → closed ≡ shut →
    Passed place at new moment used closed looked next side middle out longer → Passed place at new now there shut looked next side middle out longer
passed_in place at new looked next side middle out longer used there moment now closed shut one two three is =
    subst (λ u. Passed place at new now u shut looked next side middle out longer) one
    (subst (λ m. Passed place at new m used shut looked next side middle out longer) two
    (subst (λ c. Passed place at new moment used c looked next side middle out longer) three is))

-- how the request stands meanwhile
beside_for : (terms : Terms) (flow : Flow) (seen : Sight) (up : Sending) (text : List ℕ) (old : State) → GoesOnUp terms flow seen up text old → NoMoreUp up old →
    ((server : ℕ) → gone_by (going_at (coming_down server (sent_of up))) (whole_in seen) ≡ None) → Beside terms flow seen up text old
beside_for terms flow seen up text old reads none gone = record { reads = reads; none_up = none; gone = gone }

-- it is not whole whichever server it goes to
gone_any : (one server : ℕ) (o : Option ℕ) → gone_by (Some one) o ≡ None → gone_by (Some server) o ≡ None
gone_any one server None is = refl
gone_any one server (Some size) is = absurd (let no : Some one ≡ None = is in cc)

body_gone : (place : Place) (at : At) (flow : Flow) (server : ℕ) (most : Option ℕ) (up : Sending) (seen : Sight) → IsGone place (busy at flow (response_body server (sent_of up) most)) seen →
    (other : ℕ) → gone_by (going_at (coming_down other (sent_of up))) (whole_in seen) ≡ None
body_gone place at flow server most sending.All seen gone other = refl
body_gone place at flow server most (sending.GoingUp goes) seen gone other = gone_any server other (whole_in seen) gone

down_gone : (place : Place) (at : At) (flow : Flow) (server : ℕ) (up : Sending) (seen : Sight) → IsGone place (busy at flow (coming_down server (sent_of up))) seen →
    (other : ℕ) → gone_by (going_at (coming_down other (sent_of up))) (whole_in seen) ≡ None
down_gone place at flow server sending.All seen gone other = refl
down_gone place at flow server (sending.GoingUp goes) seen gone other = gone_any server other (whole_in seen) gone

module _ (terms : Terms) (at new : At) (seen : Sight) (old : State) (moment : ℕ) (closed : Bool) (out longer : List Command) (sent : SentOn) (now : moment ≡ seen.now) (next : Wanted) where
  -- the server of an open side is that of the stage
  open_used : (server : ℕ) (link : Link) → link.server ≡ server → link.closed ≡ seen.shut → used_in (Some link) ≡ server_in server seen
  open_used server link one two = rw (one, two) refl

  abbrev PassedOn : Option Link → Stage → Type 0
  PassedOn middle stage =
      CameTo terms stage seen new (requests_behind (stage_of new next) old) (side_behind false (stage_of new next) middle) next (sent_on stage sent) out longer

  body_from : (flow : Flow) (server : ℕ) (up : Sending) (most : Option ℕ) (body : List ℕ) (held : Held) (link : Link) (middle heard : Option Link) (got : Progress) (content : List ℕ) (more : Held) →
      Beside terms flow seen up sent.up old → IsGone terms.place (busy at flow (response_body server (sent_of up) most)) seen → ReadsReturn flow server most seen body (Some held) link → more.read ≡ held.read →
      StaysOpen (HoldsMore got body held.said.items content more.said.items) (Some link) heard →
      HeldWent (streams_by flow flow.response held.read most (length content)) terms.place at new seen.now (server_in server seen) seen.closed flow server up most content more got next heard middle out longer →
      PassedOn middle (busy at flow (response_body server (sent_of up) most))
  body_from flow server up most body held link middle None got content more beside gone reads same reading went = absurd reading
  body_from flow server up most body held link middle (Some further) got content more beside gone reads same reading went =
      let stage : Stage = busy at flow (response_body server (sent_of up) most) in
      goes_to_there terms stage seen new (requests_behind (stage_of new next) old) (side_behind false (stage_of new next) middle) next (sent_on stage sent) out longer
      (held_at terms at new seen old next out longer up sent.up middle flow server most body held link further reads got content more same reading beside gone went)

  body_passed : (flow : Flow) (server : ℕ) (up : Sending) (most : Option ℕ) (body : List ℕ) (held : Held) (side middle : Option Link) → GoesOnUp terms flow seen up sent.up old → NoMoreUp up old →
      IsGone terms.place (busy at flow (response_body server (sent_of up) most)) seen → closed ≡ seen.closed →
      IsOpen (ReadsReturn flow server most seen body (Some held)) side → HeldPassed terms.place at new moment (used_in side) closed flow server up most body held next side middle out longer →
      PassedOn middle (busy at flow (response_body server (sent_of up) most))
  body_passed flow server up most body held None middle reads none gone shut is_open it = absurd is_open
  body_passed flow server up most body held (Some link) middle reads none gone shut is_open it =
      let here : HeldPassed terms.place at new seen.now (server_in server seen) seen.closed flow server up most body held next (Some link) middle out longer =
      passed_in terms.place at new (ready.ResponseBody flow server up most body (Some held)) next (Some link) middle out longer (used_in (Some link)) (server_in server seen) moment seen.now closed seen.closed
      (open_used server link is_open.is_link.server is_open.is_link.closed) now shut it in
      body_from flow server up most body held link middle here.heard here.got here.body here.more
      (beside_for terms flow seen up sent.up old reads none (body_gone terms.place at flow server most up seen gone)) gone is_open here.same here.read here.went

  down_from : (flow : Flow) (server : ℕ) (up : Sending) (sends : Response) (link : Link) (middle heard : Option Link) (got : Progress) (text : List ℕ) → Beside terms flow seen up sent.up old →
      ReadsDown flow server seen (Some sends) sent.text link → StaysOpen (SaysMore got [] text) (Some link) heard →
      WentDown terms.place at new seen.now (server_in server seen) seen.closed flow server up sends got text next heard middle out longer → PassedOn middle (busy at flow (coming_down server (sent_of up)))
  down_from flow server up sends link middle None got text beside reads reading went = absurd reading
  down_from flow server up sends link middle (Some further) got text beside reads reading went =
      let stage : Stage = busy at flow (coming_down server (sent_of up)) in
      goes_to_there terms stage seen new (requests_behind (stage_of new next) old) (side_behind false (stage_of new next) middle) next (sent_on stage sent) out longer
      (down_at terms at new seen old next out longer up sent.up middle flow server sends sent.text link further reads got text reading went beside)

  down_passed : (flow : Flow) (server : ℕ) (up : Sending) (sends : Response) (side middle : Option Link) → GoesOnUp terms flow seen up sent.up old → NoMoreUp up old →
      IsGone terms.place (busy at flow (coming_down server (sent_of up))) seen → closed ≡ seen.closed →
      IsOpen (ReadsDown flow server seen (Some sends) sent.text) side → DownPassed terms.place at new moment (used_in side) closed flow server up sends next side middle out longer →
      PassedOn middle (busy at flow (coming_down server (sent_of up)))
  down_passed flow server up sends None middle reads none gone shut is_open it = absurd is_open
  down_passed flow server up sends (Some link) middle reads none gone shut is_open it =
      let here : DownPassed terms.place at new seen.now (server_in server seen) seen.closed flow server up sends next (Some link) middle out longer =
      passed_in terms.place at new (ready.ComingDown flow server up sends) next (Some link) middle out longer (used_in (Some link)) (server_in server seen) moment seen.now closed seen.closed
      (open_used server link is_open.is_link.server is_open.is_link.closed) now shut it in
      down_from flow server up sends link middle here.heard here.got here.text (beside_for terms flow seen up sent.up old reads none (down_gone terms.place at flow server up seen gone)) is_open here.read here.went

  passes_by : (looked : Wanted) (side middle : Option Link) → HasRequest terms (stage_of at looked) seen sent.up looked old → HasNoMoreUp looked old → IsGone terms.place (stage_of at looked) seen →
      HasSide (stage_of at looked) seen sent looked side → HasPlace (stage_of at looked) seen at closed →
      is_passing looked ≡ true → Passed terms.place at new moment (used_in side) closed looked next side middle out longer → PassedOn middle (stage_of at looked)
  passes_by (ready.ResponseBody flow server up most body (Some held)) side middle reads none gone is_open place passing it = body_passed flow server up most body held side middle reads none gone place.client is_open it
  passes_by (ready.ComingDown flow server up is_sent) side middle reads none gone is_open place passing it = down_passed flow server up is_sent side middle reads none gone place.client is_open it
  passes_by (ready.ResponseBody flow server up most body None) side middle reads none gone is_open place passing it = absurd (let no : false ≡ true = passing in cc)
  passes_by ready.Idle side middle reads none gone parked place passing it = absurd (let no : false ≡ true = passing in cc)
  passes_by (ready.RequestBody flow given most body held) side middle reads none gone parked place passing it = absurd (let no : false ≡ true = passing in cc)
  passes_by (ready.Connection flow up) side middle reads none gone parked place passing it = absurd (let no : false ≡ true = passing in cc)
  passes_by (ready.ResponseHead flow server up) side middle reads none gone is_open place passing it = absurd (let no : false ≡ true = passing in cc)
  passes_by (ready.Upgraded flow server) side middle reads none gone is_open place passing it = absurd (let no : false ≡ true = passing in cc)
  passes_by (ready.GivenHead flow) side middle reads none gone parked place passing it = absurd (let no : false ≡ true = passing in cc)
  passes_by (ready.GivenBody flow) side middle reads none gone parked place passing it = absurd (let no : false ≡ true = passing in cc)
  passes_by (ready.Connects address) side middle reads none gone is_open place passing it = absurd (let no : false ≡ true = passing in cc)
  passes_by ready.Over side middle reads none gone is_open place passing it = absurd (let no : false ≡ true = passing in cc)

-- What is given is what is owed where it comes down, with what is sent of where it leads, and the flow is there.
pub passes_follow : (made : Terms) (at new : At) (seen : Sight) (old later : State) (side middle : Option Link) (moment : ℕ) (closed : Bool) (out longer : List Command) (sent : SentOn) →
    moment ≡ seen.now → (stage : Stage) (looked next : Wanted) → IsReady made at old side looked stage seen sent → HasPlace stage seen at closed → IsGone made.place stage seen → HasNoMoreUp looked old → is_passing looked ≡ true →
    Passed made.place at new moment (used_in side) closed looked next side middle out longer → later ≡ requests_behind (stage_of new next) old →
    CameTo made stage seen new later (side_behind false (stage_of new next) middle) next (sent_on stage sent) out longer
passes_follow made at new seen old later side middle moment closed out longer sent now stage looked next is place gone none passing it follows =
    let same : stage_of at looked ≡ stage = is.is_stage in
    let passed : PassedOn made at new seen old moment closed out longer sent now next middle (stage_of at looked) =
    passes_by made at new seen old moment closed out longer sent now next looked side middle
    (subst (λ s. HasRequest made s seen sent.up looked old) (sym same) is.request) none (subst (λ s. IsGone made.place s seen) (sym same) gone) (subst (λ s. HasSide s seen sent looked side) (sym same) is.has_side)
    (subst (λ s. HasPlace s seen at closed) (sym same) place) passing it in
    subst (λ s. CameTo made s seen new later (side_behind false (stage_of new next) middle) next (sent_on s sent) out longer) same
    (subst (λ r. CameTo made (stage_of at looked) seen new r (side_behind false (stage_of new next) middle) next (sent_on (stage_of at looked) sent) out longer) (sym follows) passed)
