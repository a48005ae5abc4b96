-- The calls of a stream, wherever it stands: what it does is what the chain does there.
use Rattle.std.proofs.Common.{◌≡◌, ℕ, ◌<◌, ◌≤◌, Bool, true, false, List, [], ◌∷◌, ◌++◌, Option, Some, None, refl, ap, sym, ◌∙◌, subst, append_assoc, arith}
use Rattle.std.proofs.lemmas.List.{append-nil}
use Rattle.px_event.specs.declared.ask.Ask.{Ask}
use Rattle.px_event.specs.declared.command.Command.{Command}
use Rattle.px_event.specs.declared.event.Event.{Event}
use Rattle.px_event.specs.declared.reply.Reply.{Reply}
use Rattle.px_event.specs.Chain.{Timed, Look, NotYet, Asks, Ends, Turn, found_with}
use Rattle.px_event.specs.Laws.{owed_over}
use Rattle.px_event.specs.Layer.{AsksOnly, MayAnswer}
use Rattle.px_event.specs.View.{View, seen_of}
use Rattle.px_event.proofs.Seen.{seen_append}
use Rattle.px_event.proofs.Steps.{Takes, onward, past_end, Resumes}
use Rattle.px_message.specs.declared.flow.Flow.{Flow}
use Rattle.px_message.specs.declared.request.Request.{Request}
use Rattle.px_message.specs.declared.response.Response.{Response}
use Rattle.px_read.specs.Marks.{Mark, asks, answers}
use Rattle.px_read.specs.Reader.{State, request, response}
use Rattle.px_read.specs.declared.head.ResponseHead.{ResponseHead as ReadResponse}
use Rattle.px_exchange.specs.declared.terms.Terms.{Terms}
use Rattle.px_exchange.specs.Requests.{is_head}
use Rattle.px_chain.specs.Chain.{behind, http_chain, is_sequence, look, pass, passed, sequence, sight_past, so_far, stands, turn, waits_at}
use Rattle.px_chain.specs.Keeping.{is_silent, strays, unspoilt, unspoilt_at, unspoilt_by}
use Rattle.px_chain.specs.Behind.{sight_behind}
use Rattle.px_chain.specs.Sights.{IsWithin, Sight, Standing, server_in, server_parked, sight_over, sight_with}
use Rattle.px_chain.specs.Stages.{At, Parked, Stage, busy, coming_down, connection, given_body, given_head, idle, next, over, place_of, request_body, response_body, response_head, side_of, upgraded}
use Rattle.px_chain.proofs.ChainLaws.{open_still}
use Rattle.px_chain.proofs.SightLaws.{onward_from, sight_more, sight_passed, sight_turned, within_more, within_passed, within_stood}
use Rattle.px_exchange.specs.Bodies.{IsReading}
use Rattle.px_stream.specs.declared.coming.Held.{Held}
use Rattle.px_stream.specs.declared.going.Going.{Going}
use Rattle.px_stream.specs.declared.going.Sending.{Sending}
use Rattle.px_stream.specs.declared.going.Sending.TheVariants as sending
use Rattle.px_stream.specs.declared.link.Link.{Link}
use Rattle.px_stream.specs.declared.phase.Asked.{Asked}
use Rattle.px_stream.specs.declared.phase.Asked.TheVariants as asked
use Rattle.px_stream.specs.declared.phase.Phase.{Phase}
use Rattle.px_stream.specs.declared.phase.Phase.TheVariants as phase
use Rattle.px_stream.specs.declared.phase.Wanted.{Wanted}
use Rattle.px_stream.specs.declared.phase.Wanted.TheVariants as ready
use Rattle.px_stream.specs.declared.stream.Stream.{Stream}
use Rattle.px_stream.specs.Anywhere.{IsCounted, IsFew, IsInSequence, ResumesAnywhere, Somewhere, TakesAnywhere}
use Rattle.px_stream.specs.GoingUp.{MayGoUp, MayReadUp}
use Rattle.px_stream.specs.Heard.{SideAgrees, requests_take, shut_if, side_takes, stray_in}
use Rattle.px_stream.specs.Looks.{MayLook}
use Rattle.px_stream.specs.Passes.{Advances, MayPass, is_passing}
use Rattle.px_stream.specs.Stands.{AskedSide, GoesOnUp, HasPlace, HasRequest, HasSide, IsAsked, IsAt, IsIn, IsLink, IsOpen, IsPlaced, IsReady, IsSome, LinkEnds, NoneParked, PhaseAt, ReadsDown, ReadsFinal, ReadsGoing, ReadsReturn, SentOn, WaitsUp, asked_in, asked_of, awaited_in, awaits, bare, is_last, parked_link, sent_on, silent_link, stage_of, used_in}
use Rattle.px_stream.proofs.StateLaws.{ends_last, ends_where_it_ends}
use Rattle.px_stream.specs.Tells.{sequence_left, uses_side}
use Rattle.px_stream.specs.Turns.{Hears, Shows, Turned, TurnsTo, asked_turn, first_sent, requests_behind, turn_gives, used_at, with_open}
use Rattle.px_stream.proofs.AdvanceLemmas.{AdvancedTo, advances_to, all_owed, owed_in, passed_to}
use Rattle.px_stream.proofs.AskLemmas.{used_asked, used_of}
use Rattle.px_stream.proofs.ClearLemmas.{IsClear, turn_clear}
use Rattle.px_stream.proofs.HearLemmas.{place_on, ready_on, strays_on}
use Rattle.px_stream.proofs.MoveLemmas.{pass_few, resumes_asks, resumes_left, sequence_few, takes_asks, takes_left, turn_few}
use Rattle.px_stream.proofs.ParkedLemmas.{open_as, parked_used}
use Rattle.px_stream.proofs.TurnAskedLemmas.{turn_asked}
use Rattle.px_stream.proofs.TurnLemmas.{turned}

-- ---- the calls

-- It took this answer, and then went on and looked once.
pub record Answers (before after : Stream) (moment : ℕ) (reply : Reply) (found : Asked) (out longer : List Command) : Type 0 where
  pub between : Stream
  pub looked : Wanted
  pub given : List Command
  pub turns : TurnsTo before between moment reply found looked out given
  pub advances : Advances between after moment looked given longer

-- It may go on from here, and look.
pub record MayAdvance (at : At) (requests : State) (side : Option Link) (looked : Wanted) : Type 0 where
  pub goes_up : MayGoUp looked requests
  pub passes : MayPass at looked side
  pub looks : is_passing looked ≡ false → MayLook looked requests side

-- Wherever this answer leads, it may go on from there.
abbrev pub MayTurn : Stream → ℕ → Reply → Asked → Type 0
MayTurn before moment reply found = (between : Stream) (looked : Wanted) (out longer : List Command) → TurnsTo before between moment reply found looked out longer →
    MayAdvance between.at between.requests between.side looked

-- Its readers may hear this event, and then it may go on.
pub record MayHear (at : At) (event : Event) (requests : State) (side : Option Link) (looked : Wanted) : Type 0 where
  pub agrees : SideAgrees side
  pub open_still : requests.closed ≡ false
  pub advances : MayAdvance at (requests_take event requests) (side_takes (uses_side (phase.Ready looked)) event side) looked

-- What it does with an event, where no answer is awaited: where it has ended nothing, and else it hears it, closes a parked side of which a byte came, goes on
-- and looks once.
pub data TakesEvent (before after : Stream) (moment : ℕ) (event : Event) (out longer : List Command) : Type 0 where
  ended : is_last before.phase ≡ true → after ≡ before → longer ≡ out → TakesEvent before after moment event out longer
  hears : (looked : Wanted) (between : Stream) (given : List Command) → before.phase ≡ phase.Ready looked → is_last (phase.Ready looked) ≡ false →
      Hears (uses_side (phase.Ready looked)) before between event → given ≡ out ++ shut_if (stray_in (uses_side (phase.Ready looked)) event before.side) →
      Advances between after moment looked given longer → TakesEvent before after moment event out longer

-- behind one list the rest is one
pub same_tail : (xs ys zs : List Command) → xs ++ ys ≡ xs ++ zs → ys ≡ zs
same_tail [] ys zs is = is
same_tail (x ∷ xs) ys zs is = same_tail xs ys zs (let e : x ∷ (xs ++ ys) ≡ x ∷ (xs ++ zs) = is in cc)

-- ---- from a stage in a sight to the walk that stopped there

module _ (made : Terms) (place : Standing) (prefix : List (Timed Event)) (seen : Sight) (same : sight_over place prefix ≡ seen) where
  -- a state that is at the stage passed to, in what is left of the sight, is there
  pub at_walked : (state : Stream) → IsWithin place prefix → IsIn made state (passed_to made place.stage seen) (sight_past made place.stage seen) →
      IsAt made state (passed sequence made place (sight_over place prefix)) prefix
  at_walked state within is = record {
    within = within_passed sequence (is_sequence refl) made place prefix within;
    is_in = subst (λ s. IsIn made state (passed_to made place.stage (sight_over place prefix)) s) (sym (sight_passed sequence (is_sequence refl) made place prefix))
        (subst (λ s. IsIn made state (passed_to made place.stage s) (sight_past made place.stage s)) (sym same) is);
  }

  -- what is added behind what was owed is what is owed now
  pub gives_walked : (view : View) (before more : List Command) → seen_of view (before ++ more) ≡ seen_of view (strays place.stage seen ++ owed_in made place.stage seen) →
      seen_of view before ++ seen_of view more ≡ seen_of view (owed_over (http_chain sequence made) place prefix)
  gives_walked view before more owes =
      let sees : Sight = sight_over place prefix in
      let to : Stage = passed_to made place.stage sees in
      sym (seen_append view before more)
      ∙ (owes
      ∙ ap (seen_of view) (ap (λ s. strays place.stage s ++ owed_in made place.stage s) (sym same)
      ∙ (sym (all_owed made place.stage sees)
      ∙ ap (λ s. (pass made place.stage sees).owed ++ (so_far made to s ++ found_with (behind to s) (look made to s))) (sym (sight_passed sequence (is_sequence refl) made place prefix)))))

-- ---- what the readers may hear, and look for

-- a side that holds such a link has it
open_to : (P Q : Link → Type 0) → ((link : Link) → P link → Q link) → (side : Option Link) → IsOpen P side → IsOpen Q side
open_to P Q goes None is = absurd is
open_to P Q goes (Some link) is = goes link is

reads_return : (flow : Flow) (server : ℕ) (most : Option ℕ) (seen : Sight) (content : List ℕ) (held : Option Held) (side : Option Link) → IsOpen (ReadsReturn flow server most seen content held) side →
    IsOpen (λ link. IsReading link.responses) side
reads_return flow server most seen content held side has =
    open_to (ReadsReturn flow server most seen content held) (λ link. IsReading link.responses)
    (λ link is. record { message = response (is_head flow.request.method); told = answers is.head ∷ is.marks; fed = is.is_link.fed; closed = seen.shut; reads = is.is_link.reads }) side has

reads_down : (flow : Flow) (server : ℕ) (seen : Sight) (is_sent : Option Response) (text : List ℕ) (side : Option Link) → IsOpen (ReadsDown flow server seen is_sent text) side →
    IsOpen (λ link. IsReading link.responses) side
reads_down flow server seen is_sent text side has =
    open_to (ReadsDown flow server seen is_sent text) (λ link. IsReading link.responses)
    (λ link is. record { message = response (is_head flow.request.method); told = answers is.head ∷ is.marks; fed = is.is_link.fed; closed = seen.shut; reads = is.is_link.reads }) side has

may_look_by : (terms : Terms) (at : At) (looked : Wanted) (seen : Sight) (sent : SentOn) (requests : State) (side : Option Link) → HasRequest terms (stage_of at looked) seen sent.up looked requests →
    HasSide (stage_of at looked) seen sent looked side → MayLook looked requests side
may_look_by terms at ready.Idle seen sent requests side reads has = tt
may_look_by terms at (ready.RequestBody flow given most body held) seen sent requests side reads has =
    record { message = request; told = asks reads.head ∷ reads.marks; fed = seen.client; closed = false; reads = reads.reads }
may_look_by terms at (ready.Connection flow up) seen sent requests side reads has = tt
may_look_by terms at (ready.ResponseHead flow server up) seen sent requests side reads has =
    open_to (IsLink flow.request server seen sent.interim []) _
    (λ link is. record { asked_head = is_head flow.request.method; number = server; bytes = seen.server; shut = seen.shut; sent = sent.interim; keeps = is }) side has
may_look_by terms at (ready.ResponseBody flow server up most body held) seen sent requests side reads has = reads_return flow server most seen body held side has
may_look_by terms at (ready.ComingDown flow server up its) seen sent requests side reads has = reads_down flow server seen (Some its) sent.text side has
may_look_by terms at (ready.Upgraded flow server) seen sent requests side reads has = tt
may_look_by terms at (ready.GivenHead flow) seen sent requests side reads has = tt
may_look_by terms at (ready.GivenBody flow) seen sent requests side reads has = tt
may_look_by terms at (ready.Connects address) seen sent requests side reads has = tt
may_look_by terms at ready.Over seen sent requests side reads has = tt

pub may_look : (terms : Terms) (at : At) (requests : State) (side : Option Link) (looked : Wanted) (stage : Stage) (seen : Sight) (sent : SentOn) → IsReady terms at requests side looked stage seen sent → MayLook looked requests side
may_look terms at requests side looked stage seen sent is =
    may_look_by terms at looked seen sent requests side (subst (λ s. HasRequest terms s seen sent.up looked requests) (sym is.is_stage) is.request)
    (subst (λ s. HasSide s seen sent looked side) (sym is.is_stage) is.has_side)

-- where a body may be streamed, or is, its response is there
held_given : (flow : Flow) (server : ℕ) (most : Option ℕ) (seen : Sight) (content : List ℕ) (held : Held) (side : Option Link) → IsOpen (ReadsReturn flow server most seen content (Some held)) side → IsSome flow.response
held_given flow server most seen content held None is = absurd is
held_given flow server most seen content held (Some link) is = is.holds.0

down_given : (flow : Flow) (server : ℕ) (seen : Sight) (is_sent : Option Response) (text : List ℕ) (side : Option Link) → IsOpen (ReadsDown flow server seen is_sent text) side → IsSome flow.response
down_given flow server seen is_sent text None is = absurd is
down_given flow server seen is_sent text (Some link) is = let P : Option Response → Type 0 = IsSome in subst P (sym is.streamed.is_given) tt

may_pass_by : (ahead : ℕ) (at : At) (looked : Wanted) (seen : Sight) (sent : SentOn) (side : Option Link) → IsFew ahead (stage_of at looked) → HasSide (stage_of at looked) seen sent looked side → MayPass at looked side
may_pass_by ahead at ready.Idle seen sent side few has = tt
may_pass_by ahead at (ready.RequestBody flow given most body held) seen sent side few has = tt
may_pass_by ahead at (ready.Connection flow up) seen sent side few has = tt
may_pass_by ahead at (ready.ResponseHead flow server up) seen sent side few has = tt
may_pass_by ahead at (ready.ResponseBody flow server up most body None) seen sent side few has = tt
may_pass_by ahead at (ready.ResponseBody flow server up most body (Some held)) seen sent side few has =
    record { few = few.few; given = held_given flow server most seen body held side has; reads = reads_return flow server most seen body (Some held) side has }
may_pass_by ahead at (ready.ComingDown flow server up its) seen sent side few has =
    record { few = few.few; given = down_given flow server seen (Some its) sent.text side has; reads = reads_down flow server seen (Some its) sent.text side has }
may_pass_by ahead at (ready.Upgraded flow server) seen sent side few has = tt
may_pass_by ahead at (ready.GivenHead flow) seen sent side few has = tt
may_pass_by ahead at (ready.GivenBody flow) seen sent side few has = tt
may_pass_by ahead at (ready.Connects address) seen sent side few has = tt
may_pass_by ahead at ready.Over seen sent side few has = tt

-- a request that goes up is read on, and one that may yet go up
reads_on : (flow : Flow) (seen : Sight) (is_sent : Option Request) (marks : List Mark) (requests : State) → ReadsGoing flow seen is_sent marks requests → IsReading requests
reads_on flow seen is_sent marks requests is = record { message = request; told = asks is.head ∷ marks; fed = seen.client; closed = false; reads = is.reads }

reads_up : (terms : Terms) (flow : Flow) (seen : Sight) (up : Sending) (text : List ℕ) (requests : State) → GoesOnUp terms flow seen up text requests → MayReadUp up requests
reads_up terms flow seen sending.All text requests is = tt
reads_up terms flow seen (sending.GoingUp sent) text requests is = reads_on flow seen (Some sent) is.marks requests is.going_on

may_go_up_by : (terms : Terms) (at : At) (looked : Wanted) (seen : Sight) (sent : SentOn) (requests : State) → HasRequest terms (stage_of at looked) seen sent.up looked requests → MayGoUp looked requests
may_go_up_by terms at ready.Idle seen sent requests reads = tt
may_go_up_by terms at (ready.RequestBody flow given most body None) seen sent requests reads = tt
may_go_up_by terms at (ready.RequestBody flow given most body (Some held)) seen sent requests reads =
    record { message = request; told = asks reads.head ∷ reads.marks; fed = seen.client; closed = false; reads = reads.reads }
may_go_up_by terms at (ready.Connection flow up) seen sent requests reads = tt
may_go_up_by terms at (ready.ResponseHead flow server up) seen sent requests reads = reads_up terms flow seen up sent.up requests reads
may_go_up_by terms at (ready.ResponseBody flow server up most body held) seen sent requests reads = reads_up terms flow seen up sent.up requests reads
may_go_up_by terms at (ready.ComingDown flow server up its) seen sent requests reads = reads_up terms flow seen up sent.up requests reads
may_go_up_by terms at (ready.Upgraded flow server) seen sent requests reads = tt
may_go_up_by terms at (ready.GivenHead flow) seen sent requests reads = tt
may_go_up_by terms at (ready.GivenBody flow) seen sent requests reads = tt
may_go_up_by terms at (ready.Connects address) seen sent requests reads = tt
may_go_up_by terms at ready.Over seen sent requests reads = tt

pub may_go_up : (terms : Terms) (at : At) (requests : State) (side : Option Link) (looked : Wanted) (stage : Stage) (seen : Sight) (sent : SentOn) → IsReady terms at requests side looked stage seen sent → MayGoUp looked requests
may_go_up terms at requests side looked stage seen sent is = may_go_up_by terms at looked seen sent requests (subst (λ s. HasRequest terms s seen sent.up looked requests) (sym is.is_stage) is.request)

-- It may go on, and look, where the flow is one of a few.
pub may_advance : (ahead : ℕ) (terms : Terms) (at : At) (requests : State) (side : Option Link) (looked : Wanted) (stage : Stage) (seen : Sight) (sent : SentOn) → IsFew ahead stage →
    IsReady terms at requests side looked stage seen sent → MayAdvance at requests side looked
may_advance ahead terms at requests side looked stage seen sent few is = record {
  goes_up = may_go_up terms at requests side looked stage seen sent is;
  passes = may_pass_by ahead at looked seen sent side (subst (IsFew ahead) (sym is.is_stage) few) (subst (λ s. HasSide s seen sent looked side) (sym is.is_stage) is.has_side);
  looks = λ none. may_look terms at requests side looked stage seen sent is;
}

pub parked_agrees : (parked : Option Parked) (seen : Sight) (side : Option Link) → side ≡ parked_link parked seen → SideAgrees side
parked_agrees parked seen side is = subst SideAgrees (sym is) (by parked)
  where
    silent : (b : Bool) (server : ℕ) → SideAgrees (silent_link b server)
    silent true server = refl
    silent false server = tt

    by : (parked : Option Parked) → SideAgrees (parked_link parked seen)
    by None = tt
    by (Some parked) = silent (is_silent seen.server seen.shut) parked.server

link_agrees : (message : Request) (server : ℕ) (seen : Sight) (sent : List ReadResponse) (told : List Mark) (side : Option Link) → IsOpen (IsLink message server seen sent told) side → SideAgrees side
link_agrees message server seen sent told None is = absurd is
link_agrees message server seen sent told (Some link) is = is.reads.closed ∙ sym is.closed

return_agrees : (flow : Flow) (server : ℕ) (most : Option ℕ) (seen : Sight) (content : List ℕ) (held : Option Held) (side : Option Link) → IsOpen (ReadsReturn flow server most seen content held) side → SideAgrees side
return_agrees flow server most seen content held None is = absurd is
return_agrees flow server most seen content held (Some link) is = is.is_link.reads.closed ∙ sym is.is_link.closed

down_agrees : (flow : Flow) (server : ℕ) (seen : Sight) (is_sent : Option Response) (text : List ℕ) (side : Option Link) → IsOpen (ReadsDown flow server seen is_sent text) side → SideAgrees side
down_agrees flow server seen is_sent text None is = absurd is
down_agrees flow server seen is_sent text (Some link) is = is.is_link.reads.closed ∙ sym is.is_link.closed

-- what is still to be told of the client, and of the side
pub record MayHearMore (requests : State) (side : Option Link) : Type 0 where
  pub open_still : requests.closed ≡ false
  pub agrees : SideAgrees side

-- a request that goes up is open still
pub waits_unclosed : (terms : Terms) (flow : Flow) (seen : Sight) (up : Option Going) (requests : State) → WaitsUp terms flow seen up requests → requests.closed ≡ false
waits_unclosed terms flow seen None requests is = is.open_still
waits_unclosed terms flow seen (Some going) requests is = is.going_on.reads.closed

up_open : (terms : Terms) (flow : Flow) (seen : Sight) (up : Sending) (text : List ℕ) (requests : State) → GoesOnUp terms flow seen up text requests → requests.closed ≡ false
up_open terms flow seen sending.All text requests is = is.open_still
up_open terms flow seen (sending.GoingUp sent) text requests is = is.going_on.reads.closed

hears_by : (terms : Terms) (at : At) (looked : Wanted) (seen : Sight) (sent : SentOn) (requests : State) (side : Option Link) → is_last (phase.Ready looked) ≡ false →
    HasRequest terms (stage_of at looked) seen sent.up looked requests → HasSide (stage_of at looked) seen sent looked side → MayHearMore requests side
hears_by terms at ready.Idle seen sent requests side goes reads has = record { open_still = reads.closed; agrees = parked_agrees at.parked seen side has }
hears_by terms at (ready.RequestBody flow given most body held) seen sent requests side goes reads has = record { open_still = reads.reads.closed; agrees = parked_agrees at.parked seen side has }
hears_by terms at (ready.Connection flow up) seen sent requests side goes reads has = record { open_still = waits_unclosed terms flow seen up requests reads; agrees = parked_agrees at.parked seen side has }
hears_by terms at (ready.ResponseHead flow server up) seen sent requests side goes reads has =
    record { open_still = up_open terms flow seen up sent.up requests reads; agrees = link_agrees flow.request server seen sent.interim [] side has }
hears_by terms at (ready.ResponseBody flow server up most body held) seen sent requests side goes reads has =
    record { open_still = up_open terms flow seen up sent.up requests reads; agrees = return_agrees flow server most seen body held side has }
hears_by terms at (ready.ComingDown flow server up its) seen sent requests side goes reads has =
    record { open_still = up_open terms flow seen up sent.up requests reads; agrees = down_agrees flow server seen (Some its) sent.text side has }
hears_by terms at (ready.Upgraded flow server) seen sent requests side goes reads has = absurd (let no : true ≡ false = goes in cc)
hears_by terms at (ready.GivenHead flow) seen sent requests side goes reads has = record { open_still = reads.open_still; agrees = parked_agrees at.parked seen side has }
hears_by terms at (ready.GivenBody flow) seen sent requests side goes reads has = record { open_still = reads.open_still; agrees = parked_agrees at.parked seen side has }
hears_by terms at (ready.Connects address) seen sent requests side goes reads has = absurd (let no : true ≡ false = goes in cc)
hears_by terms at ready.Over seen sent requests side goes reads has = absurd (let no : true ≡ false = goes in cc)

may_hear : (terms : Terms) (at : At) (requests : State) (side : Option Link) (looked : Wanted) (stage : Stage) (seen : Sight) (sent : SentOn) → is_last (phase.Ready looked) ≡ false →
    IsReady terms at requests side looked stage seen sent → MayHearMore requests side
may_hear terms at requests side looked stage seen sent goes is =
    hears_by terms at looked seen sent requests side goes (subst (λ s. HasRequest terms s seen sent.up looked requests) (sym is.is_stage) is.request)
    (subst (λ s. HasSide s seen sent looked side) (sym is.is_stage) is.has_side)

-- where a state that looks for something stands
pub record LooksAt (made : Terms) (state : Stream) (looked : Wanted) (stage : Stage) (seen : Sight) : Type 0 where
  pub waits : look made stage seen ≡ NotYet
  pub sent : SentOn
  pub ready : IsReady made state.at state.requests state.side looked stage seen sent
  pub gave : (view : View) → seen_of view (waits_at made stage seen) ≡ seen_of view (sent_on stage sent)

module _ (made : Terms) (state : Stream) (stage : Stage) (seen : Sight) where
  abbrev Found : Look Command → Type 0
  Found l = PhaseAt l made state.at state.requests state.side state.phase stage seen

  looks_by : (looked : Wanted) → state.phase ≡ phase.Ready looked → is_last (phase.Ready looked) ≡ false → (l : Look Command) → look made stage seen ≡ l → Found l → LooksAt made state looked stage seen
  looks_by looked live goes NotYet is (known, sent, same, there, gave, rests) =
      let one : phase.Ready known ≡ phase.Ready looked = sym same ∙ live in
      let same_looked : known ≡ looked = cc in
      record { waits = is; sent = sent; ready = subst (λ r. IsReady made state.at state.requests state.side r stage seen sent) same_looked there; gave = gave }
  looks_by looked live goes (Asks ask) is (here, same, there) = absurd (let e : phase.Asked here ≡ phase.Ready looked = sym same ∙ live in cc)
  looks_by looked live goes (Ends owed) is (last, same, there) =
      absurd (let no : true ≡ false = sym (ends_last made stage seen state.requests state.side last there) ∙ (ap is_last (sym same ∙ live) ∙ goes) in cc)

  pub looks_at : (looked : Wanted) → state.phase ≡ phase.Ready looked → is_last (phase.Ready looked) ≡ false → IsIn made state stage seen → LooksAt made state looked stage seen
  looks_at looked live goes is = looks_by looked live goes (look made stage seen) refl is.phase

  asked_by : (found : Asked) → state.phase ≡ phase.Asked found → (l : Look Command) → look made stage seen ≡ l → Found l →
      (ask : Command) × (look made stage seen ≡ Asks ask) × IsAsked made state.requests state.side found stage seen
  asked_by found live NotYet is (known, sent, same, there, gave, rests) = absurd (let e : phase.Ready known ≡ phase.Asked found = sym same ∙ live in cc)
  asked_by found live (Asks ask) is (here, same, there) =
      let e : phase.Asked here ≡ phase.Asked found = sym same ∙ live in
      let same_asked : here ≡ found = cc in
      (ask, is, subst (λ a. IsAsked made state.requests state.side a stage seen) same_asked there)
  asked_by found live (Ends owed) is (last, same, there) = absurd (let e : phase.Ready last ≡ phase.Asked found = sym same ∙ live in cc)

  -- and where one that asked something does
  pub asked_at : (found : Asked) → state.phase ≡ phase.Asked found → IsIn made state stage seen →
      (ask : Command) × (look made stage seen ≡ Asks ask) × IsAsked made state.requests state.side found stage seen
  asked_at found live is = asked_by found live (look made stage seen) refl is.phase

-- ---- an event

-- a flow that uses a side closes no parked one, and where none does nothing was sent on
sent_first : (at : At) (looked : Wanted) (sent : SentOn) (event : Event) (side : Option Link) →
    sent_on (stage_of at looked) sent ++ shut_if (stray_in (uses_side (phase.Ready looked)) event side) ≡ shut_if (stray_in (uses_side (phase.Ready looked)) event side) ++ sent_on (stage_of at looked) sent
sent_first at ready.Idle sent event side = sym (append-nil (shut_if (stray_in false event side)))
sent_first at (ready.RequestBody flow given most body held) sent event side = sym (append-nil (shut_if (stray_in false event side)))
sent_first at (ready.Connection flow up) sent event side = sym (append-nil (shut_if (stray_in false event side)))
sent_first at (ready.ResponseHead flow server up) sent event side = append-nil (sent_on (stage_of at (ready.ResponseHead flow server up)) sent)
sent_first at (ready.ResponseBody flow server up most body held) sent event side = append-nil (sent_on (stage_of at (ready.ResponseBody flow server up most body held)) sent)
sent_first at (ready.ComingDown flow server up its) sent event side = append-nil (sent_on (stage_of at (ready.ComingDown flow server up its)) sent)
sent_first at (ready.Upgraded flow server) sent event side = refl
sent_first at (ready.GivenHead flow) sent event side = sym (append-nil (shut_if (stray_in false event side)))
sent_first at (ready.GivenBody flow) sent event side = sym (append-nil (shut_if (stray_in false event side)))
sent_first at (ready.Connects address) sent event side = sym (append-nil (shut_if (stray_in false event side)))
sent_first at ready.Over sent event side = sym (append-nil (shut_if (stray_in false event side)))

-- so the close of a parked side stands in front of what was sent on
in_order : (stray sent shut more : List Command) → sent ++ shut ≡ shut ++ sent → (stray ++ sent) ++ (shut ++ more) ≡ (stray ++ shut) ++ (sent ++ more)
in_order stray sent shut more same =
    sym (append_assoc (stray ++ sent) shut more)
    ∙ (ap (λ l. l ++ more) (append_assoc stray sent shut ∙ (ap (λ l. stray ++ l) same ∙ sym (append_assoc stray shut sent))) ∙ append_assoc (stray ++ shut) sent more)

module _ (before after : Stream) (moment : ℕ) (event : Event) (out longer : List Command) where
  -- it heard the event, went on and looked
  heard_in : (made : Terms) (stage : Stage) (seen : Sight) (looked : Wanted) (between : Stream) → IsIn made before stage seen → LooksAt made before looked stage seen →
      Hears (uses_side (phase.Ready looked)) before between event → (given : List Command) → Advances between after moment looked given longer → (sent : SentOn) →
      IsReady made before.at before.requests before.side looked stage seen sent → AdvancedTo made after stage (sight_with (side_of stage) seen event moment) sent given longer
  heard_in made stage seen looked between is there heard given once sent ready =
      let later : Sight = sight_with (side_of stage) seen event moment in
      let on = ready_on made seen event moment stage before.at before.requests before.side looked sent there.waits ready in
      advances_to made between after moment looked given longer stage later sent is.apart (heard.terms ∙ is.terms) refl
      (subst (λ a. IsReady made a between.requests between.side looked stage later sent) (sym heard.at)
      (subst (λ r. IsReady made before.at r between.side looked stage later sent) (sym heard.requests)
      (subst (λ s. IsReady made before.at (requests_take event before.requests) s looked stage later sent) (sym heard.side) on)))
      (subst (λ a. HasPlace stage later a between.client_closed) (sym heard.at)
      (subst (λ c. HasPlace stage later before.at c) (sym heard.client) (place_on stage seen event moment before.at before.client_closed is.place)))
      once

  behind_close : (given shut more : List Command) → given ≡ out ++ shut → longer ≡ given ++ more → longer ≡ out ++ (shut ++ more)
  behind_close given shut more gives grown = grown ∙ (ap (λ l. l ++ more) gives ∙ append_assoc out shut more)

  take_adds : (made : Terms) (stage : Stage) (seen : Sight) → IsIn made before stage seen → TakesEvent before after moment event out longer → (more : List Command) × (longer ≡ out ++ more)
  take_adds made stage seen is (ended last same none) = ([], none ∙ sym (append-nil out))
  take_adds made stage seen is (hears looked between given live goes heard gives once) =
      let there = looks_at made before stage seen looked live goes is in
      let got = heard_in made stage seen looked between is there heard given once there.sent there.ready in
      let shut : List Command = shut_if (stray_in (uses_side (phase.Ready looked)) event before.side) in
      (shut ++ got.more, behind_close given shut got.more gives got.grown)

  nothing_added : (more : List Command) → longer ≡ out → longer ≡ out ++ more → more ≡ []
  nothing_added more none grown = same_tail out more [] (sym grown ∙ (none ∙ sym (append-nil out)))

  -- where it goes, and what it adds
  takes : (made : Terms) (more : List Command) → TakesEvent before after moment event out longer → longer ≡ out ++ more → (place : Standing) (prefix : List (Timed Event)) →
      IsAt made before place prefix → Takes (http_chain sequence made) (IsAt made) after moment event more place prefix
  takes made more (ended last same none) grown place prefix at =
      let end = (ends_where_it_ends sequence made).ends before place prefix at last in
      past_end end.0 end.1 (subst (λ s. IsAt made s place prefix) (sym same) at) (λ view. ap (seen_of view) (nothing_added more none grown))
  takes made more (hears looked between given live goes heard gives once) grown place prefix at =
      let now : Timed Event = record { moment = moment; value = event } in
      let seen : Sight = sight_over place prefix in
      let later : Sight = sight_with (side_of place.stage) seen event moment in
      let there = looks_at made before place.stage seen looked live goes at.is_in in
      let got = heard_in made place.stage seen looked between at.is_in there heard given once there.sent there.ready in
      let shut : List Command = shut_if (stray_in (uses_side (phase.Ready looked)) event before.side) in
      let stray : List Command = strays place.stage seen in
      let sent : List Command = sent_on place.stage there.sent in
      let on : stray ++ shut ≡ strays place.stage later = strays_on made seen event moment place.stage before.at before.requests before.side looked there.sent there.waits there.ready in
      let first : sent ++ shut ≡ shut ++ sent = subst (λ s. sent_on s there.sent ++ shut ≡ shut ++ sent_on s there.sent) there.ready.is_stage (sent_first before.at looked there.sent event before.side) in
      let order : (stray ++ sent) ++ (shut ++ got.more) ≡ strays place.stage later ++ (sent ++ got.more) = in_order stray sent shut got.more first ∙ ap (λ l. l ++ (sent ++ got.more)) on in
      let same : sight_over place (prefix ++ now ∷ []) ≡ later = sight_more place prefix now (open_still made place.stage seen there.waits) at.within in
      let same_more : shut ++ got.more ≡ more = same_tail out (shut ++ got.more) more (sym (behind_close given shut got.more gives got.grown) ∙ grown) in
      onward there.waits (at_walked made place (prefix ++ now ∷ []) later same after (within_more place prefix now at.within) got.is_in)
      (λ view. ap (λ l. l ++ seen_of view more)
      (seen_append view stray (waits_at made place.stage seen) ∙ (ap (λ l. seen_of view stray ++ l) (there.gave view) ∙ sym (seen_append view stray sent)))
      ∙ gives_walked made place (prefix ++ now ∷ []) later same view (stray ++ sent) more
      (ap (λ l. seen_of view ((stray ++ sent) ++ l)) (sym same_more)
      ∙ (ap (seen_of view) order
      ∙ (seen_append view (strays place.stage later) (sent ++ got.more)
      ∙ (ap (λ l. seen_of view (strays place.stage later) ++ l) (got.owes view) ∙ sym (seen_append view (strays place.stage later) (owed_in made place.stage later)))))))

  few_takes : (made : Terms) (ahead : ℕ) (more : List Command) (place : Standing) (prefix : List (Timed Event)) → IsFew ahead place.stage → ahead ≤ 1 →
      Takes (http_chain sequence made) (IsAt made) after moment event more place prefix → Takes (http_chain sequence made) (IsInSequence made ahead) after moment event more place prefix
  few_takes made ahead more place prefix few small (onward is at gives) =
      onward is (record { is_at = at; few = pass_few ahead made place.stage (sight_over place (prefix ++ record { moment = moment; value = event } ∷ [])) few; small = small }) gives
  few_takes made ahead more place prefix few small (past_end owed is at gives) = past_end owed is (record { is_at = at; few = few; small = small }) gives

  -- wherever it stood
  pub take_somewhere : Somewhere before → TakesEvent before after moment event out longer → TakesAnywhere before after moment event out longer
  take_somewhere (made, ahead, place, prefix, at) call =
      let added = take_adds made place.stage (sight_over place prefix) at.is_at.is_in call in
      record {
        more = added.0;
        grown = added.1;
        takes = λ terms most there front is. few_takes terms most added.0 there front is.few is.small (takes terms added.0 call added.1 there front is.is_at);
      }

  pub take_somewhere_asks : Somewhere before → TakesEvent before after moment event out longer → AsksOnly (awaits after) out longer
  take_somewhere_asks (made, ahead, place, prefix, at) call =
      let added = take_adds made place.stage (sight_over place prefix) at.is_at.is_in call in
      (added.0, added.1, takes_asks made after moment added.0 event place prefix (takes made added.0 call added.1 place prefix at.is_at))

  pub take_somewhere_left : Somewhere before → TakesEvent before after moment event out longer → sequence_left after ≤ sequence_left before
  take_somewhere_left (made, ahead, place, prefix, at) call =
      let added = take_adds made place.stage (sight_over place prefix) at.is_at.is_in call in
      takes_left made before after moment event added.0 place prefix at.is_at (takes made added.0 call added.1 place prefix at.is_at)

-- its readers may hear the event, wherever it stood
pub hears_anywhere : (state : Stream) (event : Event) → Somewhere state → (looked : Wanted) → state.phase ≡ phase.Ready looked → is_last (phase.Ready looked) ≡ false →
    MayHear state.at event state.requests state.side looked
hears_anywhere state event (made, ahead, place, prefix, stands) looked live goes =
    let seen : Sight = sight_over place prefix in
    let there = looks_at made state place.stage seen looked live goes stands.is_at.is_in in
    let more = may_hear made state.at state.requests state.side looked place.stage seen there.sent goes there.ready in
    record {
      agrees = more.agrees;
      open_still = more.open_still;
      advances = may_advance ahead made state.at (requests_take event state.requests) (side_takes (uses_side (phase.Ready looked)) event state.side) looked place.stage (sight_with (side_of place.stage) seen event 0) there.sent stands.few
          (ready_on made seen event 0 place.stage state.at state.requests state.side looked there.sent there.waits there.ready);
    }

-- ---- an answer

-- the next flow is one of a few as well
few_onward : (ahead : ℕ) (stage : Stage) → IsFew ahead stage → IsFew ahead (sequence stage)
few_onward ahead (idle at) is = is
few_onward ahead (busy at flow doing) is = is
few_onward ahead (next at) is = is
few_onward ahead over is = is

-- something is awaited where it may be answered
pub is_awaited : (here : Option Ask) (reply : Reply) → MayAnswer here reply → IsSome here
is_awaited None reply may = may
is_awaited (Some ask) reply may = tt

-- the side that is used where something was asked is the one that the sight shows
parked_shows : (parked : Option Parked) (seen : Sight) (side : Option Link) → side ≡ parked_link parked seen → server_parked (unspoilt_by (is_silent seen.server seen.shut) parked) seen ≡ used_in side
parked_shows parked seen side is = sym (parked_used parked seen) ∙ sym (ap used_in is)

link_shows : (server : ℕ) (seen : Sight) (link : Link) → link.server ≡ server → link.closed ≡ seen.shut → server_in server seen ≡ used_in (Some link)
link_shows server seen link one two = rw (one, two) refl

final_shows : (message : Request) (server : ℕ) (seen : Sight) (side : Option Link) → IsOpen (ReadsFinal message server seen) side → server_in server seen ≡ used_in side
final_shows message server seen None is = absurd is
final_shows message server seen (Some link) is = link_shows server seen link is.is_link.server is.is_link.closed

ends_shows : (message : Request) (server : ℕ) (bytes : List ℕ) (seen : Sight) (side : Option Link) → IsOpen (LinkEnds message server bytes seen) side → server_in server seen ≡ used_in side
ends_shows message server bytes seen None is = absurd is
ends_shows message server bytes seen (Some link) is = link_shows server seen link is.keeps.server is.keeps.closed

shows_for : (terms : Terms) (stage : Stage) (seen : Sight) (side : Option Link) (found : Asked) → asked_in terms stage seen ≡ Some (bare found) → AskedSide stage seen side → used_of (unspoilt stage seen) seen ≡ used_in side
shows_for terms (idle at) seen side found is_asked is = parked_shows at.parked seen side is
shows_for terms (busy at flow (request_body given most)) seen side found is_asked is = parked_shows at.parked seen side is
shows_for terms (busy at flow (connection how)) seen side found is_asked is = parked_shows at.parked seen side is
shows_for terms (busy at flow (response_head server how)) seen side found is_asked is = final_shows flow.request server seen side is
shows_for terms (busy at flow (response_body server how most)) seen side found is_asked is = ends_shows flow.request server _ seen side is
shows_for terms (busy at flow (coming_down server how)) seen side found is_asked is = absurd (let no : None ≡ Some (bare found) = is_asked in cc)
shows_for terms (busy at flow (upgraded server)) seen side found is_asked is = parked_shows at.parked seen side is
shows_for terms (busy at flow given_head) seen side found is_asked is = parked_shows at.parked seen side is
shows_for terms (busy at flow given_body) seen side found is_asked is = parked_shows at.parked seen side is
shows_for terms (next at) seen side found is_asked is = absurd (let no : None ≡ Some (bare found) = is_asked in cc)
shows_for terms over seen side found is_asked is = absurd (let no : None ≡ Some (bare found) = is_asked in cc)

placed : (terms : Terms) (stage : Stage) (seen : Sight) (found : Asked) (at : At) (closed : Bool) → asked_in terms stage seen ≡ Some (bare found) → HasPlace stage seen at closed → IsPlaced (place_of stage) seen at closed
placed terms (idle here) seen found at closed is_asked is = is
placed terms (busy here flow doing) seen found at closed is_asked is = is
placed terms (next here) seen found at closed is_asked is = is
placed terms over seen found at closed is_asked is = absurd (let no : None ≡ Some (bare found) = is_asked in cc)

-- the place without a parked side that is kept no more is that of the stage
none_there : (at : At) (seen : Sight) (silent : Bool) → at.parked ≡ None → at ≡ (let a : At = record at { parked = unspoilt_by silent at.parked } in a)
none_there at seen silent is = ap (λ (o : Option Parked). let a : At = record at { parked = o } in a) (is ∙ (none_both silent ∙ ap (unspoilt_by silent) (sym is)))
  where
    none_both : (silent : Bool) → None ≡ unspoilt_by silent None
    none_both true = refl
    none_both false = refl

open_own : (P : Link → Type 0) (at : At) (seen : Sight) (side : Option Link) → at.parked ≡ None → IsOpen P side → with_open at side ≡ unspoilt_at at seen
open_own P at seen None none is = absurd is
open_own P at seen (Some link) none is = none_there at seen (is_silent seen.server seen.shut) none

open_for : (terms : Terms) (stage : Stage) (seen : Sight) (side : Option Link) (found : Asked) → asked_in terms stage seen ≡ Some (bare found) → NoneParked stage → AskedSide stage seen side →
    with_open (place_of stage) side ≡ place_of (unspoilt stage seen)
open_for terms (idle at) seen side found is_asked none is = open_as at seen side is
open_for terms (busy at flow (request_body given most)) seen side found is_asked none is = open_as at seen side is
open_for terms (busy at flow (connection how)) seen side found is_asked none is = open_as at seen side is
open_for terms (busy at flow (response_head server how)) seen side found is_asked none is = open_own _ at seen side none is
open_for terms (busy at flow (response_body server how most)) seen side found is_asked none is = open_own _ at seen side none is
open_for terms (busy at flow (coming_down server how)) seen side found is_asked none is = open_as at seen side is
open_for terms (busy at flow (upgraded server)) seen side found is_asked none is = open_as at seen side is
open_for terms (busy at flow given_head) seen side found is_asked none is = open_as at seen side is
open_for terms (busy at flow given_body) seen side found is_asked none is = open_as at seen side is
open_for terms (next at) seen side found is_asked none is = absurd (let no : None ≡ Some (bare found) = is_asked in cc)
open_for terms over seen side found is_asked none is = absurd (let no : None ≡ Some (bare found) = is_asked in cc)

-- what is given in all is what is owed, and then that
gives_first : (at : At) (found : Asked) (reply : Reply) (owed : List Command) → turn_gives at found reply owed ≡ owed ++ first_sent at found reply
gives_first at (asked.Idle flow expects) reply owed = sym (append-nil owed)
gives_first at (asked.RequestBody flow) reply owed = sym (append-nil owed)
gives_first at (asked.Connection flow server up) reply owed = refl
gives_first at (asked.ResponseHead flow server up) reply owed = sym (append-nil owed)
gives_first at (asked.ResponseBody flow server up) reply owed = sym (append-nil owed)
gives_first at (asked.GivenHead flow) reply owed = sym (append-nil owed)
gives_first at (asked.GivenBody flow) reply owed = sym (append-nil owed)

module _ (before : Stream) (moment : ℕ) (reply : Reply) (found : Asked) (live : before.phase ≡ phase.Asked found) where
  abbrev answer : Timed Reply
  answer = record { moment = moment; value = reply }

  module _ (made : Terms) (stage : Stage) (seen : Sight) (is : IsIn made before stage seen) where
    abbrev asking : (ask : Command) × (look made stage seen ≡ Asks ask) × IsAsked made before.requests before.side found stage seen
    asking = asked_at made before stage seen found live is

    abbrev to : Stage
    to = sequence (turn made stage seen answer).stage

    abbrev sees : Sight
    sees = sight_behind made.place stage seen moment to

    place_is : IsPlaced (place_of stage) seen before.at before.client_closed
    place_is = placed made stage seen found before.at before.client_closed asking.2.asks is.place

    abbrev still : Stage
    still = unspoilt stage seen

    -- a parked side that is kept no more is forgotten
    open_is : with_open before.at before.side ≡ place_of still
    open_is = ap (λ a. with_open a before.side) place_is.is_here ∙ open_for made stage seen before.side found asking.2.asks is.apart asking.2.has_side

    -- the sight shows what the calls are made with
    pub shows : Shows (with_open before.at before.side) found (used_in before.side) before.client_closed seen
    shows = record {
      is_used = ap (λ a. used_at a found seen) open_is ∙ (used_asked made stage seen found asking.2.asks ∙ shows_for made stage seen before.side found asking.2.asks asking.2.has_side);
      is_closed = sym place_is.client;
    }

    turn_is : asked_turn before.terms (with_open before.at before.side) found seen before.side (used_in before.side) before.client_closed answer ≡ turn made stage seen answer
    turn_is =
        ap (λ (t : Terms). asked_turn t (with_open before.at before.side) found seen before.side (used_in before.side) before.client_closed answer) is.terms
        ∙ (ap (λ a. asked_turn made a found seen before.side (used_in before.side) before.client_closed answer) open_is
        ∙ (ap (λ u. asked_turn made (place_of still) found seen before.side u before.client_closed answer) (sym (shows_for made stage seen before.side found asking.2.asks asking.2.has_side))
        ∙ (ap (λ c. asked_turn made (place_of still) found seen before.side (used_of still seen) c answer) place_is.client
        ∙ sym (turn_asked made before.side seen answer stage found asking.2.asks asking.2.how asking.2.has_side))))

    -- what a server is sent that is connected
    abbrev first : List Command
    first = first_sent (place_of stage) found reply

    -- where a turn led
    pub turns_in : (between : Stream) (looked : Wanted) (out given : List Command) → TurnsTo before between moment reply found looked out given →
        (given ≡ out ++ ((turn made stage seen answer).owed ++ first)) × Turned made to sees between.at between.requests between.side looked between.client_closed first
    turns_in between looked out given call =
        let leads : stage_of between.at looked ≡ to = call.leads seen shows ∙ ap (λ (t : Turn Stage Command). sequence t.stage) turn_is in
        let there = turned made stage seen answer before.requests before.side call.middle found between.at looked between.client_closed asking.2 leads call.content call.held call.up (call.client ∙ place_is.client) call.turned_side in (
          call.gives seen shows
              ∙ (ap (λ (t : Turn Stage Command). out ++ turn_gives before.at found reply t.owed) turn_is
              ∙ (ap (λ a. out ++ turn_gives a found reply (turn made stage seen answer).owed) place_is.is_here
              ∙ ap (λ l. out ++ l) (gives_first (place_of stage) found reply (turn made stage seen answer).owed))),
          subst (λ r. Turned made to sees between.at r between.side looked between.client_closed first) (sym call.requests)
              (subst (λ s. Turned made to sees between.at (requests_behind (stage_of between.at looked) before.requests) s looked between.client_closed first) (sym call.side) there),
        )

    -- it may go on there, and look
    pub turned_advances : (ahead : ℕ) → IsFew ahead stage → (between : Stream) (looked : Wanted) (out given : List Command) → TurnsTo before between moment reply found looked out given →
        MayAdvance between.at between.requests between.side looked
    turned_advances ahead few between looked out given call =
        let there = (turns_in between looked out given call).1 in
        let few_there = few_onward ahead (turn made stage seen answer).stage (turn_few ahead made stage seen answer asking.0 asking.1 few) in
        may_advance ahead made between.at between.requests between.side looked to sees there.sent few_there there.is_ready

    -- beside a flow that uses a side none is parked there, and nothing is owed of one
    clear : IsClear (λ further. sight_behind made.place stage seen moment further) to
    clear = turn_clear made seen answer stage is.apart

    -- and where it looked then
    record AnsweredIn (after : Stream) (out longer : List Command) : Type 0 where
      more : List Command
      grown : longer ≡ out ++ ((turn made stage seen answer).owed ++ more)
      owes : (view : View) → seen_of view more ≡ seen_of view (strays to sees ++ owed_in made to sees)
      is_in : IsIn made after (passed_to made to sees) (sight_past made to sees)

    answered_in : (after : Stream) (out longer : List Command) → Answers before after moment reply found out longer → AnsweredIn after out longer
    answered_in after out longer call =
        let (owes, there) = turns_in call.between call.looked out call.given call.turns in
        let got = advances_to made call.between after moment call.looked call.given longer to sees there.sent clear.apart (call.turns.terms ∙ is.terms) refl there.is_ready there.place call.advances in
        let owed : List Command = (turn made stage seen answer).owed in
        record {
          more = first ++ got.more;
          grown = got.grown ∙ (ap (λ l. l ++ got.more) owes ∙ (append_assoc out (owed ++ first) got.more ∙ ap (λ l. out ++ l) (append_assoc owed first got.more)));
          owes = λ view. ap (λ l. seen_of view (l ++ got.more)) (sym there.sent_is) ∙ (got.owes view ∙ ap (λ l. seen_of view (l ++ owed_in made to sees)) (sym clear.strays));
          is_in = got.is_in;
        }

  module _ (after : Stream) (out longer : List Command) (call : Answers before after moment reply found out longer) where
    -- where it goes, and what it adds
    resumes : (made : Terms) (place : Standing) (prefix : List (Timed Event)) (more : List Command) → longer ≡ out ++ more → IsAt made before place prefix →
        Resumes (http_chain sequence made) (IsAt made) after moment reply more place prefix
    resumes made place prefix more grown at =
        let seen : Sight = sight_over place prefix in
        let owed : List Command = (turn made place.stage seen answer).owed in
        let further : Stage = to made place.stage seen at.is_in in
        let later : Sight = sees made place.stage seen at.is_in in
        let got = answered_in made place.stage seen at.is_in after out longer call in
        let here = asking made place.stage seen at.is_in in
        let stood : Standing = stands made place moment prefix further in
        let same : sight_over stood prefix ≡ later = sight_turned sequence (is_sequence refl) made place prefix answer in
        let within : IsWithin stood prefix = within_stood made place moment prefix further (onward_from sequence (is_sequence refl) made place.stage seen answer) at.within in
        let parts : more ≡ owed ++ got.more = same_tail out more _ (sym grown ∙ got.grown) in
        record {
          ask = here.0;
          asked = here.1;
          place = at_walked made stood prefix later same after within got.is_in;
          gives = λ view. ap (seen_of view) parts ∙ (seen_append view owed got.more
              ∙ (ap (λ l. seen_of view owed ++ l) (gives_walked made stood prefix later same view [] got.more (got.owes view))
              ∙ sym (seen_append view owed (owed_over (http_chain sequence made) stood prefix))));
        }

    resume_adds : (made : Terms) (place : Standing) (prefix : List (Timed Event)) → IsAt made before place prefix → (more : List Command) × (longer ≡ out ++ more)
    resume_adds made place prefix at =
        let got = answered_in made place.stage (sight_over place prefix) at.is_in after out longer call in
        ((turn made place.stage (sight_over place prefix) answer).owed ++ got.more, got.grown)

    few_resumes : (made : Terms) (ahead : ℕ) (place : Standing) (prefix : List (Timed Event)) (more : List Command) → longer ≡ out ++ more → IsInSequence made ahead before place prefix →
        Resumes (http_chain sequence made) (IsInSequence made ahead) after moment reply more place prefix
    few_resumes made ahead place prefix more grown counted =
        let is = resumes made place prefix more grown counted.is_at in
        let seen : Sight = sight_over place prefix in
        let further : Stage = to made place.stage seen counted.is_at.is_in in
        record {
          ask = is.ask;
          asked = is.asked;
          place = record {
            is_at = is.place;
            few = sequence_few ahead made place.stage seen (sight_over (stands made place moment prefix further) prefix) answer is.ask is.asked counted.few;
            small = counted.small;
          };
          gives = is.gives;
        }

    pub resume_somewhere : Somewhere before → ResumesAnywhere before after moment reply out longer
    resume_somewhere (made, ahead, place, prefix, at) =
        let added = resume_adds made place prefix at.is_at in
        record { more = added.0; grown = added.1; resumes = λ terms most there front is. few_resumes terms most there front added.0 added.1 is }

    pub resume_somewhere_asks : Somewhere before → AsksOnly (awaits after) out longer
    resume_somewhere_asks (made, ahead, place, prefix, at) =
        let added = resume_adds made place prefix at.is_at in
        (added.0, added.1, resumes_asks made after moment added.0 reply place prefix (resumes made place prefix added.0 added.1 at.is_at))

    pub resume_somewhere_left : Somewhere before → sequence_left after < sequence_left before
    resume_somewhere_left (made, ahead, place, prefix, at) =
        let added = resume_adds made place prefix at.is_at in
        resumes_left made before after moment reply added.0 place prefix at.is_at (resumes made place prefix added.0 added.1 at.is_at)

  -- wherever this answer leads, it may go on from there
  pub may_turn : Somewhere before → MayTurn before moment reply found
  may_turn (made, ahead, place, prefix, at) between looked out given call = turned_advances made place.stage (sight_over place prefix) at.is_at.is_in ahead at.few between looked out given call

few_at : (ahead : ℕ) (stage : Stage) (found : Asked) (terms : Terms) (seen : Sight) → asked_in terms stage seen ≡ Some (bare found) → ahead ≤ 1 → IsFew ahead stage → IsCounted 2 (place_of stage)
few_at ahead (idle at) found terms seen is_asked small is = let d = is.dials in record { few = is.few; dials = omega arith }
few_at ahead (busy at flow (request_body given most)) found terms seen is_asked small is = let d = is.dials in record { few = is.few; dials = omega arith }
few_at ahead (busy at flow (connection how)) found terms seen is_asked small is = let d = is.dials in record { few = is.few; dials = omega arith }
few_at ahead (busy at flow (response_head server how)) found terms seen is_asked small is = let d = is.dials in record { few = is.few; dials = omega arith }
few_at ahead (busy at flow (response_body server how most)) found terms seen is_asked small is = let d = is.dials in record { few = is.few; dials = omega arith }
few_at ahead (busy at flow (coming_down server how)) found terms seen is_asked small is = absurd (let no : None ≡ Some (bare found) = is_asked in cc)
few_at ahead (busy at flow (upgraded server)) found terms seen is_asked small is = let d = is.dials in record { few = is.few; dials = omega arith }
few_at ahead (busy at flow given_head) found terms seen is_asked small is = let d = is.dials in record { few = is.few; dials = omega arith }
few_at ahead (busy at flow given_body) found terms seen is_asked small is = let d = is.dials in record { few = is.few; dials = omega arith }
few_at ahead (next at) found terms seen is_asked small is = let d = is.dials in record { few = is.few; dials = omega arith }
few_at ahead over found terms seen is_asked small is = absurd (let no : None ≡ Some (bare found) = is_asked in cc)

-- its numbers are small where something was asked
pub few_asked : (state : Stream) (found : Asked) → state.phase ≡ phase.Asked found → Somewhere state → IsCounted 2 state.at
few_asked state found live (made, ahead, place, prefix, stands) =
    let seen : Sight = sight_over place prefix in
    let here = asked_at made state place.stage seen found live stands.is_at.is_in in
    subst (IsCounted 2) (sym (placed made place.stage seen found state.at state.client_closed here.2.asks stands.is_at.is_in.place).is_here)
    (few_at ahead place.stage found made seen here.2.asks stands.small stands.few)

-- ---- from the fields that the calls change

pub turn_taken : (before between : Stream) (taken : Phase) (moment : ℕ) (reply : Reply) (found : Asked) (looked : Wanted) (out longer : List Command) →
    TurnsTo (record before { phase = taken }) between moment reply found looked out longer → TurnsTo before between moment reply found looked out longer
turn_taken before between taken moment reply found looked out longer is = record {
  terms = is.terms;
  client = is.client;
  gives = is.gives;
  leads = is.leads;
  content = is.content;
  held = is.held;
  up = is.up;
  requests = is.requests;
  middle = is.middle;
  turned_side = is.turned_side;
  side = is.side;
}

pub taken_answer : (before : Stream) (taken : Phase) (between after : Stream) (moment : ℕ) (reply : Reply) (found : Asked) (looked : Wanted) (out given longer : List Command) →
    TurnsTo (record before { phase = taken }) between moment reply found looked out given → Advances between after moment looked given longer → Answers before after moment reply found out longer
taken_answer before taken between after moment reply found looked out given longer call once =
    record { between = between; looked = looked; given = given; turns = turn_taken before between taken moment reply found looked out given call; advances = once }

-- what it looks for, where it awaits no answer
looks_in : (found : Phase) → awaited_in found ≡ None → (looked : Wanted) × (found ≡ phase.Ready looked)
looks_in (phase.Ready looked) is = (looked, refl)
looks_in (phase.Asked here) is = absurd (let no : Some (asked_of here) ≡ None = is in cc)

-- its readers may hear an event there
pub may_hear_now : (state : Stream) (event : Event) → Somewhere state → awaits state ≡ None → is_last state.phase ≡ false → MayHearMore state.requests state.side
may_hear_now state event stands free goes =
    let (looked, live) = looks_in state.phase free in
    let may = hears_anywhere state event stands looked live (ap is_last (sym live) ∙ goes) in
    record { open_still = may.open_still; agrees = may.agrees }

-- and then it may go on, where what was looked for is taken out
pub heard_may : (before between : Stream) (event : Event) (looked : Wanted) → Somewhere before → before.phase ≡ phase.Ready looked → is_last before.phase ≡ false → Hears (uses_side before.phase) before between event →
    MayAdvance between.at between.requests between.side looked
heard_may before between event looked stands live goes is =
    let may = hears_anywhere before event stands looked live (ap is_last (sym live) ∙ goes) in
    subst (λ a. MayAdvance a between.requests between.side looked) (sym is.at)
    (subst (λ r. MayAdvance before.at r between.side looked) (sym is.requests)
    (subst (λ s. MayAdvance before.at (requests_take event before.requests) s looked) (sym (is.side ∙ ap (λ p. side_takes (uses_side p) event before.side) live)) may.advances))

pub heard_event : (before between after : Stream) (taken : Phase) (moment : ℕ) (event : Event) (looked : Wanted) (out given longer : List Command) → before.phase ≡ phase.Ready looked → is_last before.phase ≡ false →
    Hears (uses_side before.phase) before between event → given ≡ out ++ shut_if (stray_in (uses_side before.phase) event before.side) → Advances (record between { phase = taken }) after moment looked given longer →
    TakesEvent before after moment event out longer
heard_event before between after taken moment event looked out given longer live goes heard gives once =
    let uses : uses_side before.phase ≡ uses_side (phase.Ready looked) = ap uses_side live in
    hears looked (record between { phase = taken }) given live (ap is_last (sym live) ∙ goes)
    (record { terms = heard.terms; at = heard.at; client = heard.client; requests = heard.requests; side = heard.side ∙ ap (λ u. side_takes u event before.side) uses })
    (gives ∙ ap (λ u. out ++ shut_if (stray_in u event before.side)) uses) once
