-- What is passed where a body may be streamed, or is.
use Rattle.std.proofs.Common.{◌≡◌, ℕ, ◌+◌, Bool, true, false, List, [], ◌++◌, ◌&&◌, length, Option, Some, None, Result, Ok, Err, refl, ap, sym, subst}
use Rattle.std.specs.Prelude.{IfOk, OnOk}
use Rattle.px_event.specs.declared.command.Command.{Command}
use Rattle.px_exchange.specs.declared.body.Progress.{Progress}
use Rattle.px_exchange.specs.declared.ending.Used.{Used}
use Rattle.px_exchange.specs.declared.place.Place.{Place}
use Rattle.px_chain.specs.Stages.{At, idle, over}
use Rattle.px_message.specs.declared.flow.Flow.{Flow}
use Rattle.px_message.specs.declared.response.Response.{Response}
use Rattle.px_read.specs.Reader.{State}
use Rattle.px_exchange.specs.declared.body.Progress.TheVariants as progress
use Rattle.px_exchange.specs.Bodies.{IsReading}
use Rattle.px_chain.specs.Chain.{behind_flow, sequence}
use Rattle.px_chain.specs.Coming.{streaming}
use Rattle.px_chain.specs.Keeping.{parks}
use Rattle.px_stream.specs.declared.coming.Held.{Held}
use Rattle.px_stream.specs.declared.going.Sending.{Sending}
use Rattle.px_stream.specs.Comings.{CollectsHeld, framed_by}
use Rattle.px_stream.specs.Looks.{MayLook}
use Rattle.px_stream.specs.declared.link.Link.{Link}
use Rattle.px_stream.specs.declared.passing.Undecided.{Undecided}
use Rattle.px_stream.specs.declared.phase.Wanted.{Wanted}
use Rattle.px_stream.specs.declared.phase.Wanted.TheVariants as ready
use Rattle.px_stream.specs.declared.stream.Stream.{Stream}
use Rattle.px_stream.specs.Passes.{DownLeads, HeldPassed, HeldWent, HoldsMore, MayPass, Passed, PassedBy, PassesOnce, SaysMore, SideCame, StartedDown, ended_leads, is_passing, stays_behind, streams_by}
use Rattle.px_stream.specs.Stands.{IsOpen, StaysOpen, stage_of, used_in}
use Rattle.px_stream.specs.Turns.{keeps_on, requests_behind, side_behind}

-- the same, of which more was read
abbrev pub IsOf : Undecided → Undecided → Type 0
IsOf old now = now ≡ record old { body = now.body; held = record old.held { said = now.held.said } }

module _ (place : Place) (at new : At) (moment : ℕ) (used : Used) (closed : Bool) (old now : Undecided) (got : Progress) (side heard later : Option Link) (out longer : List Command)
    (same : IsOf old now) (read : StaysOpen (HoldsMore got old.body old.held.said.items now.body now.held.said.items) side heard) where
  judged : (b : Bool) → streams_by now.flow now.flow.response now.held.read now.most (length now.body) ≡ b →
      streams_by old.flow old.flow.response old.held.read old.most (length now.body) ≡ b
  judged b is = let P : Undecided → Type 0 = λ u. streams_by u.flow u.flow.response u.held.read u.most (length now.body) ≡ b in subst P same is

  -- where it is streamed
  pub held_started : {E : Type 0} (result : Result Wanted E) → streams_by now.flow now.flow.response now.held.read now.most (length now.body) ≡ true →
      IfOk result (λ next. StartedDown place at new moment used closed now.flow now.server now.up now.held.read got now.held.said.items next heard later out longer) →
      IfOk result (λ next. HeldPassed place at new moment used closed old.flow old.server old.up old.most old.body old.held next side later out longer)
  held_started (Ok next) streams started =
      let P : Undecided → Type 0 = λ u. StartedDown place at new moment used closed u.flow u.server u.up now.held.read got now.held.said.items next heard later out longer in
      let Q : Bool → Type 0 = λ b. HeldWent b place at new moment used closed old.flow old.server old.up old.most now.body now.held got next heard later out longer in record {
        got = got;
        body = now.body;
        more = now.held;
        same = ap (λ (u : Undecided). u.held.read) same;
        heard = heard;
        read = read;
        went = subst Q (sym (judged true streams)) (subst P same started);
      }
  held_started (Err e) streams started = tt

-- and where it is not, so far
pub held_on : (place : Place) (at : At) (moment : ℕ) (used : Used) (closed : Bool) (old now : Undecided) (got : Progress) (side later : Option Link) (out : List Command) → IsOf old now →
    StaysOpen (HoldsMore got old.body old.held.said.items now.body now.held.said.items) side later → streams_by now.flow now.flow.response now.held.read now.most (length now.body) ≡ false →
    HeldPassed place at at moment used closed old.flow old.server old.up old.most old.body old.held (ready.ResponseBody now.flow now.server now.up now.most now.body (Some now.held)) side later out out
held_on place at moment used closed old now got side later out same read streams =
    let next : Wanted = ready.ResponseBody now.flow now.server now.up now.most now.body (Some now.held) in
    let Q : Bool → Type 0 = λ b. HeldWent b place at at moment used closed old.flow old.server old.up old.most now.body now.held got next later later out out in record {
      got = got;
      body = now.body;
      more = now.held;
      same = ap (λ (u : Undecided). u.held.read) same;
      heard = later;
      read = read;
      went = subst Q (sym (judged place at at moment used closed old now got side later later out out same read false streams)) (
        record {
          same = refl;
          is_there = ap (λ (u : Undecided). ready.ResponseBody u.flow u.server u.up u.most now.body (Some now.held)) same;
          gives = refl;
        },
        refl,
      );
    }

-- A stream passed, and its readers followed.
module _ (before after : Stream) (moment now : ℕ) (used : Used) (closed : Bool) (looked there : Wanted) (at : At) (middle : Option Link) (out longer : List Command)
    (is_now : now ≡ moment) (is_used : used ≡ used_in before.side) (is_closed : closed ≡ before.client_closed) (passing : is_passing looked ≡ true)
    (passed : Passed before.terms.place before.at at now used closed looked there before.side middle out longer) where
  passed_here : Passed before.terms.place before.at at moment (used_in before.side) before.client_closed looked there before.side middle out longer
  passed_here =
      let P : ℕ → Used → Bool → Type 0 = λ m u c. Passed before.terms.place before.at at m u c looked there before.side middle out longer in
      subst (λ m. P m (used_in before.side) before.client_closed) is_now (subst (λ u. P now u before.client_closed) is_used (subst (λ c. P now used c) is_closed passed))

  pub passes_by : {E : Type 0} (result : Result Wanted E) → IfOk result (λ next. next ≡ there) → OnOk result (after.terms ≡ before.terms) → OnOk result (after.at ≡ at) →
      OnOk result (after.client_closed ≡ before.client_closed) → OnOk result (after.requests ≡ requests_behind (stage_of at there) before.requests) →
      OnOk result (after.side ≡ side_behind false (stage_of at there) middle) → IfOk result (λ next. PassesOnce before after moment looked next out longer)
  passes_by (Ok next) is terms is_at client requests side =
      let P : At → Wanted → Type 0 = λ a n. Passed before.terms.place before.at a moment (used_in before.side) before.client_closed looked n before.side middle out longer
      × (after.requests ≡ requests_behind (stage_of a n) before.requests) × (after.side ≡ side_behind false (stage_of a n) middle) in
      let Q : Bool → Type 0 = λ b. PassedBy b before after moment looked next middle out longer in record {
        terms = terms;
        client = client;
        middle = middle;
        passes = subst Q (sym passing) (subst (λ a. P a next) (sym is_at) (subst (λ n. P at n) (sym is) (passed_here, requests, side)));
      }
  passes_by (Err e) is terms is_at client requests side = tt

-- ---- behind passing it may look

may_idle : (at : At) (next : Wanted) (requests : State) (side : Option Link) (there : At) → stage_of at next ≡ idle there → MayLook next requests side
may_idle at ready.Idle requests side there is = tt
may_idle at (ready.RequestBody flow given most body held) requests side there is = absurd (let no : stage_of at (ready.RequestBody flow given most body held) ≡ idle there = is in cc)
may_idle at (ready.Connection flow up) requests side there is = tt
may_idle at (ready.ResponseHead flow server up) requests side there is = absurd (let no : stage_of at (ready.ResponseHead flow server up) ≡ idle there = is in cc)
may_idle at (ready.ResponseBody flow server up most body held) requests side there is = absurd (let no : stage_of at (ready.ResponseBody flow server up most body held) ≡ idle there = is in cc)
may_idle at (ready.ComingDown flow server up sent) requests side there is = absurd (let no : stage_of at (ready.ComingDown flow server up sent) ≡ idle there = is in cc)
may_idle at (ready.Upgraded flow server) requests side there is = tt
may_idle at (ready.GivenHead flow) requests side there is = tt
may_idle at (ready.GivenBody flow) requests side there is = tt
may_idle at (ready.Connects address) requests side there is = tt
may_idle at ready.Over requests side there is = tt

may_over : (at : At) (next : Wanted) (requests : State) (side : Option Link) (there : At) → stage_of at next ≡ over → MayLook next requests side
may_over at ready.Idle requests side there is = tt
may_over at (ready.RequestBody flow given most body held) requests side there is = absurd (let no : stage_of at (ready.RequestBody flow given most body held) ≡ over = is in cc)
may_over at (ready.Connection flow up) requests side there is = tt
may_over at (ready.ResponseHead flow server up) requests side there is = absurd (let no : stage_of at (ready.ResponseHead flow server up) ≡ over = is in cc)
may_over at (ready.ResponseBody flow server up most body held) requests side there is = absurd (let no : stage_of at (ready.ResponseBody flow server up most body held) ≡ over = is in cc)
may_over at (ready.ComingDown flow server up sent) requests side there is = absurd (let no : stage_of at (ready.ComingDown flow server up sent) ≡ over = is in cc)
may_over at (ready.Upgraded flow server) requests side there is = tt
may_over at (ready.GivenHead flow) requests side there is = tt
may_over at (ready.GivenBody flow) requests side there is = tt
may_over at (ready.Connects address) requests side there is = tt
may_over at ready.Over requests side there is = tt

may_behind : (stays : Bool) (at there : At) (next : Wanted) (requests : State) (side : Option Link) → stage_of at next ≡ sequence (behind_flow stays there) → MayLook next requests side
may_behind true at there next requests side is = may_idle at next requests side (record there { flow = there.flow + 1 }) is
may_behind false at there next requests side is = may_over at next requests side there is

may_ended : (place : Place) (at new : At) (flow : Flow) (server : ℕ) (up : Sending) (o : Option Response) (sent : Response) (keeps : Bool) (next : Wanted) (requests : State) (side : Option Link) →
    stage_of new next ≡ ended_leads place at flow server up o sent keeps → MayLook next requests side
may_ended place at new flow server up None sent keeps next requests side is = may_over new next requests side at is
may_ended place at new flow server up (Some answer) sent keeps next requests side is =
    may_behind (stays_behind at.flow flow up answer sent) new (parks (stays_behind at.flow flow up answer sent && keeps) place at flow.request server) next requests side is

abbrev Reading : Option Link → Type 0
Reading side = IsOpen (λ link. IsReading link.responses) side

-- a side whose reader gave more is one still
open_on : (P : Link → Link → Type 0) → ((old new : Link) → P old new → IsReading old.responses → IsReading new.responses) → (side later : Option Link) → StaysOpen P side later → Reading side → Reading later
open_on P goes None later stays is = absurd is
open_on P goes (Some old) None stays is = absurd stays
open_on P goes (Some old) (Some new) stays is = goes old new stays is

collected : (old new : State) (content said body longer : List ℕ) → CollectsHeld old content said new body longer → IsReading old → IsReading new
collected old new content said body longer held is = record {
  message = is.message;
  told = is.told ++ held.marks;
  fed = is.fed;
  closed = is.closed;
  reads = held.reads is.message is.told is.fed is.closed is.reads;
}

-- what comes down goes on
on_down : (at new : At) (flow : Flow) (server : ℕ) (up : Sending) (sent : Response) (next : Wanted) (requests : State) (heard middle : Option Link) → (new ≡ at) × (next ≡ ready.ComingDown flow server up sent) →
    SideCame next heard middle → Reading heard → MayLook next requests (side_behind false (stage_of new next) middle)
on_down at new flow server up sent next requests heard middle leads came is =
    let P : Wanted → Type 0 = λ n. SideCame n heard middle → MayLook n requests (side_behind false (stage_of new n) middle) in
    subst P (sym leads.1) (λ (same : middle ≡ heard). subst Reading (sym same) is) came

may_down : (got : Progress) (place : Place) (at new : At) (flow : Flow) (server : ℕ) (up : Sending) (sent : Response) (keeps : Bool) (next : Wanted) (requests : State) (heard middle : Option Link) →
    DownLeads got place at new flow server up sent keeps next → SideCame next heard middle → Reading heard → MayLook next requests (side_behind false (stage_of new next) middle)
may_down (progress.Whole trailers) place at new flow server up sent keeps next requests heard middle leads came is =
    may_ended place at new flow server up flow.response sent keeps next requests (side_behind false (stage_of new next) middle) leads
may_down (progress.Bad fault) place at new flow server up sent keeps next requests heard middle leads came is = on_down at new flow server up sent next requests heard middle leads came is
may_down progress.Missing place at new flow server up sent keeps next requests heard middle leads came is = on_down at new flow server up sent next requests heard middle leads came is

may_held : (b : Bool) (place : Place) (at new : At) (moment : ℕ) (used : Used) (closed : Bool) (flow : Flow) (server : ℕ) (up : Sending) (most : Option ℕ) (body : List ℕ) (held : Held) (got : Progress) (next : Wanted)
    (out longer : List Command) (requests : State) (heard middle : Option Link) → HeldWent b place at new moment used closed flow server up most body held got next heard middle out longer → Reading heard →
    MayLook next requests (side_behind false (stage_of new next) middle)
may_held true place at new moment used closed flow server up most body held got next out longer requests heard middle went is =
    let sent : Response = framed_by held.read went.response in
    may_down got place at new (streaming flow) server up sent (keeps_on flow.request heard) next requests heard middle went.went.leads went.went.is_side is
may_held false place at new moment used closed flow server up most body held got next out longer requests heard middle (went, same) is =
    let P : Wanted → Type 0 = λ n. MayLook n requests (side_behind false (stage_of new n) middle) in subst P (sym went.is_there) (subst Reading (sym same) is)

module _ (before after : Stream) (moment : ℕ) (next : Wanted) (middle : Option Link) (out longer : List Command) (requests : State) where
  may_passed : (looked : Wanted) → is_passing looked ≡ true → MayPass before.at looked before.side →
      Passed before.terms.place before.at after.at moment (used_in before.side) before.client_closed looked next before.side middle out longer → MayLook next requests (side_behind false (stage_of after.at next) middle)
  may_passed (ready.ResponseBody flow server up most body (Some held)) passing may passed =
      may_held (streams_by flow flow.response held.read most (length passed.body)) before.terms.place before.at after.at moment (used_in before.side) before.client_closed flow server up most passed.body passed.more passed.got next out longer requests
      passed.heard middle
      passed.went
      (open_on (HoldsMore passed.got body held.said.items passed.body passed.more.said.items)
      (λ old new more is. collected old.responses new.responses body held.said.items passed.body passed.more.said.items more.read.over is) before.side passed.heard passed.read may.reads)
  may_passed (ready.ComingDown flow server up sent) passing may passed =
      may_down passed.got before.terms.place before.at after.at flow server up sent (keeps_on flow.request passed.heard) next requests passed.heard middle passed.went.leads passed.went.is_side
      (open_on (SaysMore passed.got [] passed.text)
      (λ old new more is. collected old.responses new.responses [] [] more.read.body passed.text more.read.held.over is) before.side passed.heard passed.read may.reads)
  may_passed (ready.ResponseBody flow server up most body None) passing may passed = absurd (let no : false ≡ true = passing in cc)
  may_passed ready.Idle passing may passed = absurd (let no : false ≡ true = passing in cc)
  may_passed (ready.RequestBody flow given most body held) passing may passed = absurd (let no : false ≡ true = passing in cc)
  may_passed (ready.Connection flow up) passing may passed = absurd (let no : false ≡ true = passing in cc)
  may_passed (ready.ResponseHead flow server up) passing may passed = absurd (let no : false ≡ true = passing in cc)
  may_passed (ready.Upgraded flow server) passing may passed = absurd (let no : false ≡ true = passing in cc)
  may_passed (ready.GivenHead flow) passing may passed = absurd (let no : false ≡ true = passing in cc)
  may_passed (ready.GivenBody flow) passing may passed = absurd (let no : false ≡ true = passing in cc)
  may_passed (ready.Connects address) passing may passed = absurd (let no : false ≡ true = passing in cc)
  may_passed ready.Over passing may passed = absurd (let no : false ≡ true = passing in cc)

may_by : (b : Bool) (before after : Stream) (moment : ℕ) (looked next : Wanted) (middle : Option Link) (out longer : List Command) → is_passing looked ≡ b → MayPass before.at looked before.side →
    (is_passing looked ≡ false → MayLook looked before.requests before.side) → PassedBy b before after moment looked next middle out longer → MayLook next after.requests after.side
may_by false before after moment looked next middle out longer is may looks (held, requests, side) =
    let P : Wanted → State → Option Link → Type 0 = λ n r s. MayLook n r s in
    subst (λ n. P n after.requests after.side) (sym held.is_there) (subst (λ r. P looked r after.side) (sym requests) (subst (λ s. P looked before.requests s) (sym side) (looks is)))
may_by true before after moment looked next middle out longer is may looks (passed, requests, side) =
    let P : Option Link → Type 0 = λ s. MayLook next after.requests s in
    subst P (sym side) (may_passed before after moment next middle out longer after.requests looked is may passed)

-- Behind passing it may look.
pub may_look_on : (before after : Stream) (moment : ℕ) (looked next : Wanted) (out longer : List Command) → MayPass before.at looked before.side →
    (is_passing looked ≡ false → MayLook looked before.requests before.side) → PassesOnce before after moment looked next out longer → MayLook next after.requests after.side
may_look_on before after moment looked next out longer may looks once =
    may_by (is_passing looked) before after moment looked next once.middle out longer refl may looks once.passes
