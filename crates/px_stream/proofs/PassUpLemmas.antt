-- What is sent on of a request, from what each step of it does.
use Rattle.std.proofs.Common.{◌≡◌, ℕ, Bool, true, false, List, ◌++◌, length, Option, Some, Result, Ok, Err, refl, ap, sym, ◌∙◌, subst}
use Rattle.std.specs.Prelude.{IfOk}
use Rattle.px_message.specs.declared.flow.Flow.{Flow}
use Rattle.px_message.specs.declared.request.Request.{Request}
use Rattle.px_event.specs.declared.command.Command.{Command}
use Rattle.px_read.specs.Reader.{State}
use Rattle.px_write.specs.Text.{request_head_text}
use Rattle.px_exchange.specs.declared.body.Progress.{Progress}
use Rattle.px_exchange.specs.declared.place.Place.{Place}
use Rattle.px_exchange.specs.Places.{form_at}
use Rattle.px_exchange.specs.Requests.{is_head}
use Rattle.px_chain.specs.Chain.{parked_for, reached}
use Rattle.px_chain.specs.Going.{sending_on}
use Rattle.px_chain.specs.Stages.{At, unparked}
use Rattle.px_stream.specs.declared.going.Sending.{Sending}
use Rattle.px_stream.specs.declared.link.Link.{Link}
use Rattle.px_stream.specs.declared.passing.request.Undecided.{Undecided}
use Rattle.px_stream.specs.declared.phase.Wanted.{Wanted}
use Rattle.px_stream.specs.declared.phase.Wanted.TheVariants as ready
use Rattle.px_stream.specs.Comings.{GoesOverHeld}
use Rattle.px_stream.specs.Goings.{framed_up_by, goes_up_with}
use Rattle.px_stream.specs.GoingUp.{HeldUpPassed, HeldUpWent, LedUp, Raised, RaisedTo, StartedUp, TakesSide, WentUp}
use Rattle.px_stream.specs.Turns.{opened_side, with_open}

-- the side that was parked is taken
pub takes_by : (place : Place) (at : At) (moment : ℕ) (flow connected : Flow) (server : ℕ) (sent : Request) (got : Progress) (text : List ℕ) (told : Flow) (goes : Sending) (side later : Option Link) (out longer : List Command) →
    connected ≡ reached place flow → later ≡ opened_side false server (is_head flow.request.method) side → WentUp moment connected server sent got text told goes out longer →
    TakesSide place at (unparked at) moment flow server sent got text (ready.ResponseHead told server goes) side later out longer
takes_by place at moment flow connected server sent got text told goes side later out longer is opens went = record {
  told = told;
  goes = goes;
  went = subst (λ f. WentUp moment f server sent got text told goes out longer) is went;
  is_there = refl;
  unparks = refl;
  opens = opens;
}

pub led_to_side : {E : Type 0} (result : Result Wanted E) (place : Place) (at now : At) (moment : ℕ) (flow : Flow) (server : ℕ) (sent : Request) (got : Progress) (text : List ℕ) (side later : Option Link) (out longer : List Command) →
    now ≡ unparked at → IfOk result (λ next. (at : At) → TakesSide place at (unparked at) moment flow server sent got text next side later out longer) →
    IfOk result (λ next. LedUp (Some server) place at now moment flow sent got text next side later out longer)
led_to_side (Ok next) place at now moment flow server sent got text side later out longer is takes =
    subst (λ a. TakesSide place at a moment flow server sent got text next side later out longer) (sym is) (takes at)
led_to_side (Err e) place at now moment flow server sent got text side later out longer is takes = tt

-- it begins
pub started_by : {E : Type 0} (result : Result Wanted E) (place : Place) (at now : At) (moment : ℕ) (flow told : Flow) (read framed sent : Request) (got : Progress) (said text : List ℕ) (parked : Option ℕ) (side later : Option Link)
    (out longer : List Command) → parked ≡ parked_for place flow.request (with_open at side).parked → told ≡ sending_on flow → framed ≡ framed_up_by read told.request → text ≡ request_head_text framed (form_at place) ++ said → sent ≡ framed →
    IfOk result (λ next. LedUp parked place at now moment told sent got text next side later out longer) →
    IfOk result (λ next. StartedUp place at now moment flow read got said next side later out longer)
started_by (Ok next) place at now moment flow told read framed sent got said text parked side later out longer is_parked is_told is_framed is_text is_sent led = record {
  sent = framed;
  sent_as = is_framed ∙ ap (λ (f : Flow). framed_up_by read f.request) is_told;
  led = subst (λ o. LedUp o place at now moment (sending_on flow) framed got (request_head_text framed (form_at place) ++ said) next side later out longer) is_parked
      (subst (λ f. LedUp parked place at now moment f framed got (request_head_text framed (form_at place) ++ said) next side later out longer) is_told
      (subst (λ l. LedUp parked place at now moment told framed got l next side later out longer) is_text
      (subst (λ g. LedUp parked place at now moment told g got text next side later out longer) is_sent led)));
}
started_by (Err e) place at now moment flow told read framed sent got said text parked side later out longer is_parked is_told is_framed is_text is_sent led = tt

-- the same, of which more was read
abbrev pub IsOf : Undecided → Undecided → Type 0
IsOf old more = more ≡ record old { body = more.body; held = record old.held { said = more.held.said } }

module _ (place : Place) (at now : At) (moment : ℕ) (old more : Undecided) (got : Progress) (before after : State) (side later : Option Link) (out longer : List Command) (same : IsOf old more)
    (read : GoesOverHeld got before old.body old.held.said.items after more.body more.held.said.items) where
  judged : (b : Bool) → goes_up_with more.held.read more.most (length more.body) ≡ b →
      goes_up_with old.held.read old.most (length more.body) ≡ b
  judged b is = let P : Undecided → Type 0 = λ u. goes_up_with u.held.read u.most (length more.body) ≡ b in subst P same is

  -- where it is streamed
  pub up_started : {E : Type 0} (result : Result Wanted E) → goes_up_with more.held.read more.most (length more.body) ≡ true →
      IfOk result (λ next. StartedUp place at now moment more.flow more.held.read got more.held.said.items next side later out longer) →
      IfOk result (λ next. HeldUpPassed place at now moment old.flow old.given old.most old.body old.held next before after side later out longer)
  up_started (Ok next) streams started =
      let P : Undecided → Type 0 = λ u. StartedUp place at now moment u.flow more.held.read got more.held.said.items next side later out longer in
      let Q : Bool → Type 0 = λ b. HeldUpWent b place at now moment old.flow old.given old.most more.body more.held got next side later out longer in record {
        got = got;
        body = more.body;
        more = more.held;
        same = ap (λ (u : Undecided). u.held.read) same;
        read = read;
        went = subst Q (sym (judged true streams)) (subst P same started);
      }
  up_started (Err e) streams started = tt

-- and where it is not, so far
pub up_held : (place : Place) (at : At) (moment : ℕ) (old more : Undecided) (got : Progress) (before after : State) (side : Option Link) (out : List Command) → IsOf old more →
    GoesOverHeld got before old.body old.held.said.items after more.body more.held.said.items →
    goes_up_with more.held.read more.most (length more.body) ≡ false →
    HeldUpPassed place at at moment old.flow old.given old.most old.body old.held (ready.RequestBody more.flow more.given more.most more.body (Some more.held)) before after side side out out
up_held place at moment old more got before after side out same read streams =
    let next : Wanted = ready.RequestBody more.flow more.given more.most more.body (Some more.held) in
    let Q : Bool → Type 0 = λ b. HeldUpWent b place at at moment old.flow old.given old.most more.body more.held got next side side out out in record {
      got = got;
      body = more.body;
      more = more.held;
      same = ap (λ (u : Undecided). u.held.read) same;
      read = read;
      went = subst Q (sym (judged place at at moment old more got before after side side out out same read false streams)) (record {
        same = refl;
        is_there = ap (λ (u : Undecided). ready.RequestBody u.flow u.given u.most more.body (Some more.held)) same;
        same_side = refl;
        gives = refl;
      });
    }

-- whatever is looked for
pub raised_by : {E : Type 0} (result : Result Wanted E) (there : Flow → Sending → Wanted) (at : At) (moment : ℕ) (flow : Flow) (server : ℕ) (up : Sending) (old new : State) (side : Option Link) (out longer : List Command) →
    IfOk result (λ next. RaisedTo there moment flow server up next old new out longer) → IfOk result (λ next. Raised there at at moment flow server up next old new side side out longer)
raised_by (Ok next) there at moment flow server up old new side out longer is =
    record { told = is.told; goes = is.goes; raised = is.raised; is_there = is.is_there; same = refl; same_side = refl }
raised_by (Err e) there at moment flow server up old new side out longer is = tt
