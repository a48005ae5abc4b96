-- What one step of a stream is in its own fields: a look, a turn, what is sent on of a request, and an event.
use Rattle.std.proofs.Common.{◌≡◌, ℕ, Bool, List, [], ◌++◌, Option, Some, None, Result, Ok, Err, refl, ap, sym, ◌∙◌, subst}
use Rattle.std.specs.Prelude.{IfOk, OnOk}
use Rattle.px_event.specs.declared.command.Command.{Command}
use Rattle.px_event.specs.declared.event.Event.{Event}
use Rattle.px_event.specs.declared.reply.Reply.{Reply}
use Rattle.px_event.specs.Chain.{Turn}
use Rattle.px_read.specs.Reader.{State}
use Rattle.px_exchange.specs.declared.ending.Used.{Used}
use Rattle.px_exchange.specs.declared.terms.Terms.{Terms}
use Rattle.px_chain.specs.Chain.{sequence}
use Rattle.px_chain.specs.Sights.{Sight}
use Rattle.px_chain.specs.Stages.{At, Stage}
use Rattle.px_stream.specs.declared.link.Link.{Link}
use Rattle.px_stream.specs.declared.phase.Asked.{Asked}
use Rattle.px_stream.specs.declared.phase.Asked.TheVariants as asked
use Rattle.px_stream.specs.declared.phase.Phase.{Phase}
use Rattle.px_stream.specs.declared.phase.Wanted.{Wanted}
use Rattle.px_stream.specs.declared.stream.Stream.{Stream}
use Rattle.px_stream.specs.GoingUp.{GoesUp, GoesUpOnce}
use Rattle.px_stream.specs.Heard.{closes_client, requests_take, side_takes, stray_in}
use Rattle.px_stream.specs.Looks.{LookFound}
use Rattle.px_stream.specs.Stands.{content_in, stage_of, used_in}
use Rattle.px_stream.specs.Turns.{FirstHeld, Hears, KeepsUp, Shows, SideTurned, TurnsTo, asked_turn, dialled_sends, is_dial, requests_behind, side_behind, turn_gives, with_open}

-- one look, from what it was told
pub look_as : (terms : Terms) (at : At) (used there : Used) (moment now : ℕ) (closed shut : Bool) (looked : Wanted) (old new : State) (side later : Option Link) (out longer : List Command) (found is_now : Phase) →
    used ≡ there → now ≡ moment → shut ≡ closed → found ≡ is_now → LookFound terms at used now shut looked old new side later out longer found →
    LookFound terms at there moment closed looked old new side later out longer is_now
look_as terms at used there moment now closed shut looked old new side later out longer found is_now one two three four is =
    subst (λ u. LookFound terms at u moment closed looked old new side later out longer is_now) one
    (subst (λ m. LookFound terms at used m closed looked old new side later out longer is_now) two
    (subst (λ c. LookFound terms at used now c looked old new side later out longer is_now) three
    (subst (λ p. LookFound terms at used now shut looked old new side later out longer p) four is)))

-- what is given behind a dial is of its number, whatever is parked
open_dials : (at : At) (side : Option Link) → (with_open at side).dials ≡ at.dials
open_dials at None = refl
open_dials at (Some link) = refl

open_gives : (at : At) (side : Option Link) (found : Asked) (reply : Reply) (owed : List Command) → turn_gives (with_open at side) found reply owed ≡ turn_gives at found reply owed
open_gives at side (asked.Connection flow server up) reply owed = ap (λ n. owed ++ dialled_sends n up reply) (open_dials at side)
open_gives at side (asked.Idle flow expects) reply owed = refl
open_gives at side (asked.RequestBody flow) reply owed = refl
open_gives at side (asked.ResponseHead flow server up) reply owed = refl
open_gives at side (asked.ResponseBody flow server up) reply owed = refl
open_gives at side (asked.GivenHead flow) reply owed = refl
open_gives at side (asked.GivenBody flow) reply owed = refl

-- a turn: what was asked is answered, and the readers follow
module _ (before mid after : Stream) (moment now : ℕ) (reply : Reply) (found : Asked) (ready : Wanted) (here : At) (used : Used) (closed dialled : Bool) (out longer : List Command) where
  abbrev Turns : At → Used → Bool → ℕ → Sight → Turn Stage Command
  Turns at those shut m seen = asked_turn before.terms at found seen before.side those shut (record { moment = m; value = reply })

  abbrev Gives : At → Used → Bool → ℕ → Type 0
  Gives at those shut m = (seen : Sight) → Shows at found those shut seen → longer ≡ out ++ turn_gives at found reply (Turns at those shut m seen).owed

  abbrev Leads : At → Used → Bool → ℕ → Type 0
  Leads at those shut m = (seen : Sight) → Shows at found those shut seen → stage_of mid.at ready ≡ sequence (Turns at those shut m seen).stage

  -- from what it was told
  from_told : (P : At → Used → Bool → ℕ → Type 0) → here ≡ with_open before.at before.side → now ≡ moment → closed ≡ before.client_closed → used ≡ used_in before.side → P here used closed now →
      P (with_open before.at before.side) (used_in before.side) before.client_closed moment
  from_told P is at_now shut uses it =
      subst (λ a. P a (used_in before.side) before.client_closed moment) is (subst (λ u. P here u before.client_closed moment) uses (subst (λ b. P here used b moment) shut (subst (λ m. P here used closed m) at_now it)))

  pub turns_by : {E : Type 0} (result : Result Wanted E) → here ≡ with_open before.at before.side → now ≡ moment → closed ≡ before.client_closed → used ≡ used_in before.side → dialled ≡ is_dial found →
      Gives here used closed now → Leads here used closed now → SideTurned found ready before.side mid.side → content_in ready ≡ [] → FirstHeld found ready → KeepsUp found ready →
      IfOk result (λ leads_to. leads_to ≡ ready) → OnOk result (after.terms ≡ before.terms) → OnOk result (after.at ≡ mid.at) → OnOk result (after.client_closed ≡ before.client_closed) →
      OnOk result (after.requests ≡ requests_behind (stage_of mid.at ready) before.requests) → OnOk result (after.side ≡ side_behind dialled (stage_of mid.at ready) mid.side) →
      IfOk result (λ leads_to. TurnsTo before after moment reply found leads_to out longer)
  turns_by (Ok there) is at_now shut uses dials gives leads turned content held up same terms at client requests side =
      let stage : stage_of after.at there ≡ stage_of mid.at ready = ap (λ a. stage_of a there) at ∙ ap (stage_of mid.at) same in
      let apart : At = with_open before.at before.side in record {
        terms = terms;
        client = client;
        gives = λ seen shows. from_told Gives is at_now shut uses gives seen shows
            ∙ ap (λ l. out ++ l) (open_gives before.at before.side found reply (Turns apart (used_in before.side) before.client_closed moment seen).owed);
        leads = λ seen shows. stage ∙ from_told Leads is at_now shut uses leads seen shows;
        content = ap content_in same ∙ content;
        held = subst (FirstHeld found) (sym same) held;
        up = subst (KeepsUp found) (sym same) up;
        requests = requests ∙ ap (λ s. requests_behind s before.requests) (sym stage);
        middle = mid.side;
        turned_side = subst (λ n. SideTurned found n before.side mid.side) (sym same) turned;
        side = side ∙ (ap (λ d. side_behind d (stage_of mid.at ready) mid.side) dials ∙ ap (λ s. side_behind (is_dial found) s mid.side) (sym stage));
      }
  turns_by (Err e) is at_now shut uses dials gives leads turned content held up same terms at client requests side = tt

-- what came of a request is sent on
pub goes_up_by : {E : Type 0} (result : Result Wanted E) (before : Stream) (moment now : ℕ) (looked : Wanted) (at : At) (requests : State) (side : Option Link) (out longer : List Command) → now ≡ moment →
    IfOk result (λ next. GoesUp before.terms.place before.at at now looked next before.requests requests before.side side out longer) →
    IfOk result (λ next. GoesUpOnce before (record before { at = at; requests = requests; side = side }) moment looked next out longer)
goes_up_by (Ok next) before moment now looked at requests side out longer is goes = record {
  terms = refl;
  client = refl;
  goes = subst (λ m. GoesUp before.terms.place before.at at m looked next before.requests requests before.side side out longer) is goes;
}
goes_up_by (Err e) before moment now looked at requests side out longer is goes = tt

-- the event, from the fields that heard it
pub heard_by : {T E : Type 0} (result : Result T E) (before : Stream) (event : Event) (requests : State) (closed : Bool) (side : Option Link) (uses there : Bool) → uses ≡ there →
    OnOk result (requests ≡ requests_take event before.requests) → OnOk result (closed ≡ closes_client event before.client_closed) → OnOk result (side ≡ side_takes uses event before.side) →
    OnOk result (Hears there before (record before { requests = requests; client_closed = closed; side = side }) event)
heard_by (Ok x) before event requests closed side uses there is one two three =
    record { terms = refl; at = refl; client = two; requests = one; side = three ∙ ap (λ b. side_takes b event before.side) is }
heard_by (Err e) before event requests closed side uses there is one two three = tt

-- and a side of which a byte came
pub stray_by : {E : Type 0} (result : Result (Option ℕ) E) (event : Event) (side : Option Link) (uses there : Bool) → uses ≡ there →
    IfOk result (λ stray. stray ≡ stray_in uses event side) → IfOk result (λ stray. stray ≡ stray_in there event side)
stray_by (Ok x) event side uses there is one = one ∙ ap (λ b. stray_in b event side) is
stray_by (Err e) event side uses there is one = tt
