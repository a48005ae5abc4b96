-- Where a request's body is read that may be streamed, or one goes up, the machine sends on what came of it as the chain does.
use Rattle.std.proofs.Common.{◌≡◌, ℕ, Bool, true, false, List, [], length, Option, Some, None, ap, sym, ◌∙◌, subst}
use Rattle.px_message.specs.declared.flow.Flow.{Flow}
use Rattle.px_message.specs.declared.request.Request.{Request}
use Rattle.px_message.specs.declared.response.Response.{Response}
use Rattle.px_event.specs.declared.command.Command.{Command}
use Rattle.px_read.specs.Reader.{State}
use Rattle.px_exchange.specs.declared.terms.Terms.{Terms}
use Rattle.px_chain.specs.Chain.{begin_up, end_up, pass_going, sight_begun, sight_ended}
use Rattle.px_chain.specs.Going.{goes_up}
use Rattle.px_chain.specs.Sights.{Sight}
use Rattle.px_chain.specs.Stages.{At, Stage, busy, request_body}
use Rattle.px_stream.specs.declared.going.HeldRequest.{HeldRequest}
use Rattle.px_stream.specs.declared.going.Sending.TheVariants as sending
use Rattle.px_stream.specs.declared.link.Link.{Link}
use Rattle.px_stream.specs.declared.phase.Wanted.{Wanted}
use Rattle.px_stream.specs.declared.phase.Wanted.TheVariants as ready
use Rattle.px_stream.specs.Goings.{goes_up_with}
use Rattle.px_stream.specs.GoingUp.{GoesUp, GoneTo, is_rising}
use Rattle.px_stream.specs.Stands.{HasPlace, HasRequest, HasSide, IsReady, SentOn, sent_on, stage_of}
use Rattle.px_stream.proofs.BegunLemmas.{begins_by, judged}
use Rattle.px_stream.proofs.GoneLemmas.{GoesBy, body_rises, down_rises, head_rises, rises_by}
use Rattle.px_stream.proofs.WentUpLemmas.{up_to}

gone_to : (terms : Terms) (stage : Stage) (seen : Sight) (at : At) (requests : State) (side : Option Link) (looked : Wanted) (before out longer : List Command) →
    GoesBy terms (end_up terms (begin_up terms stage seen) (sight_begun stage seen)) (sight_ended (begin_up terms stage seen) (sight_begun stage seen)) at requests side looked before out longer →
    GoneTo terms stage seen at requests side looked before out longer
gone_to terms stage seen at requests side looked before out longer goes = record {
  sent = goes.sent;
  more = goes.more;
  grown = goes.grown;
  owes = goes.owes;
  is_ready = goes.is_ready;
  is_gone = goes.is_gone;
  no_more = goes.no_more;
}

module _ (terms : Terms) (at now : At) (seen : Sight) (old new : State) (side later : Option Link) (moment : ℕ) (out longer : List Command) (sent : SentOn) (at_now : moment ≡ seen.now) (next : Wanted) where
  abbrev To : Stage → Type 0
  To stage = GoneTo terms stage seen now new later next (sent_on stage sent) out longer

  -- a body that may yet be streamed
  body_goes : (flow : Flow) (given : Option Response) (most : Option ℕ) (body : List ℕ) (held : HeldRequest) → HasRequest terms (stage_of at (ready.RequestBody flow given most body (Some held))) seen sent.up (ready.RequestBody flow given most body (Some held)) old →
      HasSide (stage_of at (ready.RequestBody flow given most body (Some held))) seen sent (ready.RequestBody flow given most body (Some held)) side →
      GoesUp terms.place at now moment (ready.RequestBody flow given most body (Some held)) next old new side later out longer → To (busy at flow (request_body given most))
  body_goes flow None most body held reads has goes =
      let begins : Bool = goes_up_with held.read most (length goes.body) in
      let is : goes_up most seen ≡ begins =
      judged terms at now flow most seen held body old new side later next out longer reads has goes.got goes.body goes.more goes.same goes.read
      ∙ ap (λ (r : Request). goes_up_with r most (length goes.body)) goes.same in
      gone_to terms (busy at flow (request_body None most)) seen now new later next [] out longer
      (subst (λ b. GoesBy terms (end_up terms (pass_going b terms.place at flow most seen) seen) (sight_ended (pass_going b terms.place at flow most seen) seen) now new later next [] out longer) (sym is)
      (begins_by terms at now flow most seen held body old new side later next out longer reads has goes.got goes.body goes.more goes.same goes.read begins moment at_now is goes.went))
  body_goes flow (Some given) most body held reads has goes = absurd (let no : Some given ≡ None = reads.holds.0 in cc)

  goes_for : (looked : Wanted) → is_rising looked ≡ true → HasRequest terms (stage_of at looked) seen sent.up looked old → HasSide (stage_of at looked) seen sent looked side →
      GoesUp terms.place at now moment looked next old new side later out longer → To (stage_of at looked)
  goes_for (ready.RequestBody flow given most body (Some held)) rising reads has goes = body_goes flow given most body held reads has goes
  goes_for (ready.ResponseHead flow server (sending.GoingUp its)) rising reads has goes =
      let there : Flow → _ → Wanted = λ told up. ready.ResponseHead told server up in
      let stage : Stage = stage_of at (ready.ResponseHead flow server (sending.GoingUp its)) in
      let P : At → Option Link → Wanted → Type 0 = λ a s n. GoneTo terms stage seen a new s n (sent_on stage sent) out longer in
      subst (λ a. P a later next) (sym goes.same) (subst (λ s. P at s next) (sym goes.same_side) (subst (P at side) (sym goes.is_there)
      (gone_to terms stage seen at new side (ready.ResponseHead goes.told server goes.goes) (sent_on stage sent) out longer
      (rises_by terms at flow server _ _ sent (λ told up. ready.ResponseHead told server up) side seen (head_rises terms at flow server sent seen side its has) its goes.raised.text new out longer
      moment goes.raised.got goes.told goes.goes at_now (up_to goes.raised.got terms flow seen its sent.up old new reads goes.raised.text goes.raised.read) goes.raised.went))))
  goes_for (ready.ResponseBody flow server (sending.GoingUp its) most body held) rising reads has goes =
      let stage : Stage = stage_of at (ready.ResponseBody flow server (sending.GoingUp its) most body held) in
      let P : At → Option Link → Wanted → Type 0 = λ a s n. GoneTo terms stage seen a new s n (sent_on stage sent) out longer in
      subst (λ a. P a later next) (sym goes.same) (subst (λ s. P at s next) (sym goes.same_side) (subst (P at side) (sym goes.is_there)
      (gone_to terms stage seen at new side (ready.ResponseBody goes.told server goes.goes most body held) (sent_on stage sent) out longer
      (rises_by terms at flow server _ _ sent (λ told up. ready.ResponseBody told server up most body held) side seen (body_rises terms at flow server sent seen side its most body held has) its goes.raised.text new out longer
      moment goes.raised.got goes.told goes.goes at_now (up_to goes.raised.got terms flow seen its sent.up old new reads goes.raised.text goes.raised.read) goes.raised.went))))
  goes_for (ready.ComingDown flow server (sending.GoingUp its) response) rising reads has goes =
      let stage : Stage = stage_of at (ready.ComingDown flow server (sending.GoingUp its) response) in
      let P : At → Option Link → Wanted → Type 0 = λ a s n. GoneTo terms stage seen a new s n (sent_on stage sent) out longer in
      subst (λ a. P a later next) (sym goes.same) (subst (λ s. P at s next) (sym goes.same_side) (subst (P at side) (sym goes.is_there)
      (gone_to terms stage seen at new side (ready.ComingDown goes.told server goes.goes response) (sent_on stage sent) out longer
      (rises_by terms at flow server _ _ sent (λ told up. ready.ComingDown told server up response) side seen (down_rises terms at flow server sent seen side its response has) its goes.raised.text new out longer
      moment goes.raised.got goes.told goes.goes at_now (up_to goes.raised.got terms flow seen its sent.up old new reads goes.raised.text goes.raised.read) goes.raised.went))))
  goes_for (ready.RequestBody flow given most body None) rising reads has goes = absurd (let no : false ≡ true = rising in cc)
  goes_for (ready.ResponseHead flow server sending.All) rising reads has goes = absurd (let no : false ≡ true = rising in cc)
  goes_for (ready.ResponseBody flow server sending.All most body held) rising reads has goes = absurd (let no : false ≡ true = rising in cc)
  goes_for (ready.ComingDown flow server sending.All response) rising reads has goes = absurd (let no : false ≡ true = rising in cc)
  goes_for ready.Idle rising reads has goes = absurd (let no : false ≡ true = rising in cc)
  goes_for (ready.Connection flow up) rising reads has goes = absurd (let no : false ≡ true = rising in cc)
  goes_for (ready.Upgraded flow server) rising reads has goes = absurd (let no : false ≡ true = rising in cc)
  goes_for (ready.GivenHead flow) rising reads has goes = absurd (let no : false ≡ true = rising in cc)
  goes_for (ready.GivenBody flow) rising reads has goes = absurd (let no : false ≡ true = rising in cc)
  goes_for (ready.Connects address) rising reads has goes = absurd (let no : false ≡ true = rising in cc)
  goes_for ready.Over rising reads has goes = absurd (let no : false ≡ true = rising in cc)

-- What is given is what is owed there, with what is sent of where it leads, and the flow is there.
pub requests_go_up : (made : Terms) (at now : At) (seen : Sight) (old later : State) (side beside : Option Link) (moment : ℕ) (closed : Bool) (out longer : List Command) (sent : SentOn) →
    moment ≡ seen.now → (stage : Stage) (looked next : Wanted) → IsReady made at old side looked stage seen sent → HasPlace stage seen at closed → is_rising looked ≡ true →
    GoesUp made.place at now moment looked next old later side beside out longer → GoneTo made stage seen now later beside next (sent_on stage sent) out longer
requests_go_up made at now seen old later side beside moment closed out longer sent at_now stage looked next is here rising goes =
    subst (λ s. GoneTo made s seen now later beside next (sent_on s sent) out longer) is.is_stage
    (goes_for made at now seen old later side beside moment out longer sent at_now next looked rising
    (subst (λ s. HasRequest made s seen sent.up looked old) (sym is.is_stage) is.request) (subst (λ s. HasSide s seen sent looked side) (sym is.is_stage) is.has_side) goes)
