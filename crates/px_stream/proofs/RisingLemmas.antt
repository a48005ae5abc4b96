-- Behind what was sent on of a request the stream may pass, and look.
use Rattle.std.proofs.Common.{◌≡◌, ◌<◌, ℕ, Bool, true, false, ◌||◌, List, [], ◌++◌, length, Option, Some, None, refl, ap, sym, ◌∙◌, subst}
use Rattle.px_message.specs.declared.flow.Flow.{Flow}
use Rattle.px_message.specs.declared.request.Request.{Request}
use Rattle.px_message.specs.declared.response.Response.{Response}
use Rattle.px_event.specs.declared.command.Command.{Command}
use Rattle.px_read.specs.Reader.{State}
use Rattle.px_exchange.specs.declared.body.Progress.{Progress}
use Rattle.px_exchange.specs.declared.body.Progress.TheVariants as progress
use Rattle.px_exchange.specs.declared.place.Place.{Place}
use Rattle.px_exchange.specs.Bodies.{IsReading}
use Rattle.px_exchange.specs.Requests.{is_head}
use Rattle.px_chain.specs.Chain.{parked_for}
use Rattle.px_chain.specs.Going.{sending_on}
use Rattle.px_chain.specs.Stages.{At}
use Rattle.px_stream.specs.declared.going.HeldRequest.{HeldRequest}
use Rattle.px_stream.specs.declared.going.Sending.{Sending}
use Rattle.px_stream.specs.declared.going.Sending.TheVariants as sending
use Rattle.px_stream.specs.declared.link.Link.{Link}
use Rattle.px_stream.specs.declared.phase.Wanted.{Wanted}
use Rattle.px_stream.specs.declared.phase.Wanted.TheVariants as ready
use Rattle.px_stream.specs.declared.stream.Stream.{Stream}
use Rattle.px_stream.specs.Comings.{CollectsHeld}
use Rattle.px_stream.specs.GoingUp.{GoesUp, GoesUpOnce, HeldUpWent, LedUp, MayGoUp, RaisedBy, is_rising, up_flow}
use Rattle.px_stream.specs.Goings.{goes_up_with}
use Rattle.px_stream.specs.Looks.{MayLook}
use Rattle.px_stream.specs.Passes.{Advances, MayPass, MayRead, PassedBy, is_passing}
use Rattle.px_stream.specs.Responses.{IsKept}
use Rattle.px_stream.specs.Stands.{IsOpen, IsSome}
use Rattle.px_stream.specs.Turns.{LooksOnce, opened_side, with_open}
use Rattle.px_stream.proofs.UnreadLemmas.{unread_reads}

-- it may pass, and look where nothing is passed
pub record MayGoOn (at : At) (next : Wanted) (requests : State) (side : Option Link) : Type 0 where
  pub passes : MayPass at next side
  pub looks : is_passing next ≡ false → MayLook next requests side

-- the flow has the response that it had
told_response : (got : Progress) (flow : Flow) (moment : ℕ) → (up_flow got flow moment).response ≡ flow.response
told_response (progress.Whole trailers) flow moment = refl
told_response progress.Missing flow moment = refl
told_response (progress.Bad fault) flow moment = refl

raised_response : (up : Sending) (moment : ℕ) (flow : Flow) (server : ℕ) (told : Flow) (next : Sending) (old new : State) (out longer : List Command) → RaisedBy up moment flow server told next old new out longer →
    told.response ≡ flow.response
raised_response sending.All moment flow server told next old new out longer is = ap (λ (f : Flow). f.response) is.is_told
raised_response (sending.GoingUp sent) moment flow server told next old new out longer is =
    ap (λ (f : Flow). f.response) is.went.is_told ∙ told_response is.got flow moment

-- so its response may be read on
reads_on : (at now : At) (flow told : Flow) (side later : Option Link) → now ≡ at → later ≡ side → told.response ≡ flow.response → MayRead at flow side → MayRead now told later
reads_on at now flow told side later same beside is may = record {
  few = subst (λ (a : At). a.flow < 1000000) (sym same) may.few;
  given = subst (λ (o : Option Response). IsSome o) (sym is) may.given;
  reads = subst (λ s. IsOpen (λ link. IsReading link.responses) s) (sym beside) may.reads;
}

-- the side that was parked is one of which all is to be read
opened_kept : (server : ℕ) (asked_head : Bool) (side : Option Link) → IsSome side → IsOpen IsKept (opened_side false server asked_head side)
opened_kept server asked_head None is = absurd is
opened_kept server asked_head (Some link) is = record {
  asked_head = asked_head;
  number = link.server;
  bytes = link.responses.rest;
  shut = link.closed;
  sent = [];
  keeps = unread_reads asked_head link.server link.responses.rest link.closed;
}

-- it is open where the request goes there
parked_there : (place : Place) (message : Request) (at : At) (server : ℕ) (side : Option Link) → parked_for place message (with_open at side).parked ≡ Some server → IsSome side
parked_there place message at server None is = absurd (let no : None ≡ Some server = is in cc)
parked_there place message at server (Some link) is = tt

led_on : (o : Option ℕ) (place : Place) (at now : At) (moment : ℕ) (flow : Flow) (message sent : Request) (got : Progress) (text : List ℕ) (next : Wanted) (requests : State) (side later : Option Link) (out longer : List Command) →
    parked_for place message (with_open at side).parked ≡ o → LedUp o place at now moment flow sent got text next side later out longer → MayGoOn now next requests later
led_on None place at now moment flow message sent got text next requests side later out longer is led =
    let P : Wanted → Type 0 = λ n. MayGoOn now n requests later in subst P (sym led.is_there) (record { passes = tt; looks = λ none. tt })
led_on (Some server) place at now moment flow message sent got text next requests side later out longer is led =
    let P : Wanted → Type 0 = λ n. MayGoOn now n requests later in
    subst P (sym led.is_there) (record {
      passes = tt;
      looks = λ none. subst (IsOpen IsKept) (sym led.opens) (opened_kept server (is_head flow.request.method) side (parked_there place message at server side is));
    })

collected : (old new : State) (content said body longer : List ℕ) → CollectsHeld old content said new body longer → IsReading old → IsReading new
collected old new content said body longer held is = record {
  message = is.message;
  told = is.told ++ held.marks;
  fed = is.fed;
  closed = is.closed;
  reads = held.reads is.message is.told is.fed is.closed is.reads;
}

held_on : (b : Bool) (place : Place) (at now : At) (moment : ℕ) (flow : Flow) (given : Option Response) (most : Option ℕ) (body : List ℕ) (held : HeldRequest) (got : Progress) (next : Wanted) (requests : State)
    (side later : Option Link) (out longer : List Command) → IsReading requests →
    HeldUpWent b place at now moment flow given most body held got next side later out longer → MayGoOn now next requests later
held_on true place at now moment flow given most body held got next requests side later out longer reading went =
    led_on (parked_for place flow.request (with_open at side).parked) place at now moment (sending_on flow) flow.request went.sent got _ next requests side later out longer refl went.led
held_on false place at now moment flow given most body held got next requests side later out longer reading went =
    let P : Wanted → Type 0 = λ n. MayGoOn now n requests later in subst P (sym went.is_there) (record { passes = tt; looks = λ none. reading })

module _ (place : Place) (at now : At) (moment : ℕ) (next : Wanted) (old new : State) (side later : Option Link) (out longer : List Command) where
  abbrev Goes : Wanted → Type 0
  Goes looked = GoesUp place at now moment looked next old new side later out longer

  rests_on : (looked : Wanted) → now ≡ at → next ≡ looked → later ≡ side → new ≡ old → MayPass at looked side → (is_passing looked ≡ false → MayLook looked old side) → MayGoOn now next new later
  rests_on looked one two three four passes looks =
      let P : Wanted → Type 0 = λ n. MayGoOn now n new later in
      subst P (sym two) (record {
        passes = subst (λ a. MayPass a looked later) (sym one) (subst (λ s. MayPass at looked s) (sym three) passes);
        looks = λ none. subst (λ r. MayLook looked r later) (sym four) (subst (λ s. MayLook looked old s) (sym three) (looks none));
      })

  goes_on : (looked : Wanted) → MayGoUp looked old → MayPass at looked side → (is_passing looked ≡ false → MayLook looked old side) → Goes looked → MayGoOn now next new later
  goes_on (ready.RequestBody flow given most body (Some held)) reads passes looks goes =
      held_on (goes_up_with held.read most (length goes.body)) place at now moment flow given most goes.body goes.more goes.got next new side later out longer
      (collected old new body held.said.items goes.body goes.more.said.items goes.read.over reads) goes.went
  goes_on (ready.ResponseHead flow server up) reads passes looks goes =
      let P : Wanted → Type 0 = λ n. MayGoOn now n new later in
      subst P (sym goes.is_there) (record { passes = tt; looks = λ none. subst (IsOpen IsKept) (sym goes.same_side) (looks refl) })
  goes_on (ready.ResponseBody flow server up most body (Some held)) reads passes looks goes =
      let P : Wanted → Type 0 = λ n. MayGoOn now n new later in
      subst P (sym goes.is_there) (record {
        passes = reads_on at now flow goes.told side later goes.same goes.same_side (raised_response up moment flow server goes.told goes.goes old new out longer goes.raised) passes;
        looks = λ none. absurd (let no : true ≡ false = none in cc);
      })
  goes_on (ready.ResponseBody flow server up most body None) reads passes looks goes =
      let P : Wanted → Type 0 = λ n. MayGoOn now n new later in
      subst P (sym goes.is_there) (record { passes = tt; looks = λ none. subst (λ s. IsOpen (λ link. IsReading link.responses) s) (sym goes.same_side) (looks refl) })
  goes_on (ready.ComingDown flow server up its) reads passes looks goes =
      let P : Wanted → Type 0 = λ n. MayGoOn now n new later in
      subst P (sym goes.is_there) (record {
        passes = reads_on at now flow goes.told side later goes.same goes.same_side (raised_response up moment flow server goes.told goes.goes old new out longer goes.raised) passes;
        looks = λ none. absurd (let no : true ≡ false = none in cc);
      })
  goes_on ready.Idle reads passes looks (rests, same) = rests_on ready.Idle rests.same rests.is_there rests.same_side same passes looks
  goes_on (ready.RequestBody flow given most body None) reads passes looks (rests, same) =
      rests_on (ready.RequestBody flow given most body None) rests.same rests.is_there rests.same_side same passes looks
  goes_on (ready.Connection flow up) reads passes looks (rests, same) = rests_on (ready.Connection flow up) rests.same rests.is_there rests.same_side same passes looks
  goes_on (ready.Upgraded flow server) reads passes looks (rests, same) = rests_on (ready.Upgraded flow server) rests.same rests.is_there rests.same_side same passes looks
  goes_on (ready.GivenHead flow) reads passes looks (rests, same) = rests_on (ready.GivenHead flow) rests.same rests.is_there rests.same_side same passes looks
  goes_on (ready.GivenBody flow) reads passes looks (rests, same) = rests_on (ready.GivenBody flow) rests.same rests.is_there rests.same_side same passes looks
  goes_on (ready.Connects address) reads passes looks (rests, same) = rests_on (ready.Connects address) rests.same rests.is_there rests.same_side same passes looks
  goes_on ready.Over reads passes looks (rests, same) = rests_on ready.Over rests.same rests.is_there rests.same_side same passes looks

-- It may pass, and look.
pub may_go_on : (before after : Stream) (moment : ℕ) (looked next : Wanted) (out longer : List Command) → MayGoUp looked before.requests → MayPass before.at looked before.side →
    (is_passing looked ≡ false → MayLook looked before.requests before.side) → GoesUpOnce before after moment looked next out longer → MayGoOn after.at next after.requests after.side
may_go_on before after moment looked next out longer reads passes looks once =
    goes_on before.terms.place before.at after.at moment next before.requests after.requests before.side after.side out longer looked reads passes looks once.goes

-- ---- where nothing is sent on of a request or a response it only looks

up_none : (place : Place) (at : At) (moment : ℕ) (looked : Wanted) (requests : State) (side : Option Link) (out : List Command) → is_rising looked ≡ false →
    GoesUp place at at moment looked looked requests requests side side out out
up_none place at moment (ready.RequestBody flow given most body (Some held)) requests side out is = absurd (let no : true ≡ false = is in cc)
up_none place at moment (ready.RequestBody flow given most body None) requests side out is = (record { same = refl; is_there = refl; same_side = refl; gives = refl }, refl)
up_none place at moment (ready.ResponseHead flow server (sending.GoingUp sent)) requests side out is = absurd (let no : true ≡ false = is in cc)
up_none place at moment (ready.ResponseHead flow server sending.All) requests side out is = record {
  told = flow;
  goes = sending.All;
  raised = record { is_told = refl; is_next = refl; same = refl; gives = refl };
  is_there = refl;
  same = refl;
  same_side = refl;
}
up_none place at moment (ready.ResponseBody flow server (sending.GoingUp sent) most body held) requests side out is = absurd (let no : true ≡ false = is in cc)
up_none place at moment (ready.ResponseBody flow server sending.All most body held) requests side out is = record {
  told = flow;
  goes = sending.All;
  raised = record { is_told = refl; is_next = refl; same = refl; gives = refl };
  is_there = refl;
  same = refl;
  same_side = refl;
}
up_none place at moment (ready.ComingDown flow server (sending.GoingUp sent) its) requests side out is = absurd (let no : true ≡ false = is in cc)
up_none place at moment (ready.ComingDown flow server sending.All its) requests side out is = record {
  told = flow;
  goes = sending.All;
  raised = record { is_told = refl; is_next = refl; same = refl; gives = refl };
  is_there = refl;
  same = refl;
  same_side = refl;
}
up_none place at moment ready.Idle requests side out is = (record { same = refl; is_there = refl; same_side = refl; gives = refl }, refl)
up_none place at moment (ready.Connection flow up) requests side out is = (record { same = refl; is_there = refl; same_side = refl; gives = refl }, refl)
up_none place at moment (ready.Upgraded flow server) requests side out is = (record { same = refl; is_there = refl; same_side = refl; gives = refl }, refl)
up_none place at moment (ready.GivenHead flow) requests side out is = (record { same = refl; is_there = refl; same_side = refl; gives = refl }, refl)
up_none place at moment (ready.GivenBody flow) requests side out is = (record { same = refl; is_there = refl; same_side = refl; gives = refl }, refl)
up_none place at moment (ready.Connects address) requests side out is = (record { same = refl; is_there = refl; same_side = refl; gives = refl }, refl)
up_none place at moment ready.Over requests side out is = (record { same = refl; is_there = refl; same_side = refl; gives = refl }, refl)

first_none : (a b : Bool) → (a || b) ≡ false → a ≡ false
first_none false b is = refl
first_none true b is = is

pub second_none : (a b : Bool) → (a || b) ≡ false → b ≡ false
second_none false b is = is
second_none true b is = absurd (let no : true ≡ false = is in cc)

pub looks_alone : (before after : Stream) (moment : ℕ) (looked : Wanted) (out longer : List Command) → (is_rising looked || is_passing looked) ≡ false → LooksOnce before after moment looked out longer →
    Advances before after moment looked out longer
looks_alone before after moment looked out longer none looks = record {
  risen = before;
  gone = looked;
  raised = out;
  rises = record { terms = refl; client = refl; goes = up_none before.terms.place before.at moment looked before.requests before.side out (first_none (is_rising looked) (is_passing looked) none) };
  between = before;
  next = looked;
  given = out;
  passes = record {
    terms = refl;
    client = refl;
    middle = before.side;
    passes = subst (λ b. PassedBy b before before moment looked looked before.side out out) (sym (second_none (is_rising looked) (is_passing looked) none)) (record { same = refl; is_there = refl; gives = refl }, refl, refl);
  };
  looks = looks;
}
