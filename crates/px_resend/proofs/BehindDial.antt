-- A flow that goes on, where its server is dialled and behind that.
use Rattle.std.proofs.Common.{◌≡◌, ◌+◌, ◌≤◌, ◌<◌, ℕ, [], refl, arith}
use Rattle.std.specs.Prelude.{⊤}
use Rattle.px_message.specs.declared.flow.Flow.{Flow}
use Rattle.px_event.specs.declared.reply.Reply.{Reply}
use Rattle.px_event.specs.Chain.{Timed}
use Rattle.px_exchange.specs.declared.terms.Terms.{Terms}
use Rattle.px_chain.specs.Chain.{behind, pass, sequence, turn}
use Rattle.px_chain.specs.Left.{doing_left, stage_left}
use Rattle.px_chain.specs.Sights.{Sight}
use Rattle.px_chain.specs.Stages.{At, Doing, Sent, Stage, busy, coming_down, connection, given_body, given_head, idle, next, over, request_body, response_body, response_head, upgraded}
use Rattle.px_chain.proofs.Quiet.{IsBehind, any_flow}
use Rattle.px_chain.proofs.QuietLemmas.{pass_led, turn_behind}
use Rattle.px_resend.specs.Stands.{ByDial}
use Rattle.px_resend.proofs.OwedLemmas.{IsBusy, busy_goes}

abbrev pub IsBehindDial : Stage → Type 0
IsBehindDial stage = ByDial (λ at. ⊥) ⊤ stage

-- it asks three things more at most, and nothing is owed behind an ask
pub record IsPast (stage : Stage) : Type 0 where
  pub few : IsBusy stage → stage_left stage ≤ 3
  pub quiet : (seen : Sight) → behind stage seen ≡ []

pub past : (stage : Stage) → IsBehindDial stage → IsPast stage
past (idle at) is = record { few = λ flows. absurd flows; quiet = λ seen. refl }
past (busy at flow (request_body given most)) is = absurd is
past (busy at flow (connection how)) is = absurd is
past (busy at flow (response_head server sent)) is = record { few = λ flows. omega arith; quiet = λ seen. refl }
past (busy at flow (response_body server sent most)) is = record { few = λ flows. omega arith; quiet = λ seen. refl }
past (busy at flow (coming_down server sent)) is = record { few = λ flows. omega arith; quiet = λ seen. refl }
past (busy at flow (upgraded server)) is = record { few = λ flows. omega arith; quiet = λ seen. refl }
past (busy at flow given_head) is = record { few = λ flows. omega arith; quiet = λ seen. refl }
past (busy at flow given_body) is = record { few = λ flows. omega arith; quiet = λ seen. refl }
past (next at) is = record { few = λ flows. absurd flows; quiet = λ seen. refl }
past over is = record { few = λ flows. absurd flows; quiet = λ seen. refl }

module _ (dialling : At → Type 0) (beyond : Type 0) where
  -- its server is dialled, or was
  pub by_dial : (P : Stage → Type 0) (stage : Stage) → ByDial dialling beyond stage → ((at : At) (flow : Flow) (how : Sent) → dialling at → P (busy at flow (connection how))) →
      (IsBehindDial stage → beyond → P stage) → P stage
  by_dial P (idle at) is dials goes = goes tt is
  by_dial P (busy at flow (request_body given most)) is dials goes = absurd is
  by_dial P (busy at flow (connection how)) is dials goes = dials at flow how is
  by_dial P (busy at flow (response_head server sent)) is dials goes = goes tt is
  by_dial P (busy at flow (response_body server sent most)) is dials goes = goes tt is
  by_dial P (busy at flow (coming_down server sent)) is dials goes = goes tt is
  by_dial P (busy at flow (upgraded server)) is dials goes = goes tt is
  by_dial P (busy at flow given_head) is dials goes = goes tt is
  by_dial P (busy at flow given_body) is dials goes = goes tt is
  by_dial P (next at) is dials goes = goes tt is
  by_dial P over is dials goes = goes tt is

  few_by : (stage : Stage) → ByDial dialling beyond stage → IsBusy stage → stage_left stage ≤ 3
  few_by stage is flows =
      let P : Stage → Type 0 = λ s. IsBusy s → stage_left s ≤ 3 in
      by_dial P stage is (λ at flow how dials going. omega arith) (λ past_it goes. (past stage past_it).few) flows

  -- Behind a stage that may ask three things more at most, nothing is dialled.
  pub led_by : (flow_now dials count : ℕ) (stage : Stage) → IsBehind flow_now dials count stage → count ≤ 3 → beyond → ByDial dialling beyond (sequence stage)
  led_by flow_now dials count (idle at) leads few goes = goes
  led_by flow_now dials count (busy at flow (request_body given most)) leads few goes = let more : 4 < count = leads.1 in absurd (let no : ⊥ = omega arith in no)
  led_by flow_now dials count (busy at flow (connection how)) leads few goes = let more : 3 < count = leads.1 in absurd (let no : ⊥ = omega arith in no)
  led_by flow_now dials count (busy at flow (response_head server sent)) leads few goes = goes
  led_by flow_now dials count (busy at flow (response_body server sent most)) leads few goes = goes
  led_by flow_now dials count (busy at flow (coming_down server sent)) leads few goes = goes
  led_by flow_now dials count (busy at flow (upgraded server)) leads few goes = goes
  led_by flow_now dials count (busy at flow given_head) leads few goes = goes
  led_by flow_now dials count (busy at flow given_body) leads few goes = goes
  led_by flow_now dials count (next at) leads few goes = goes
  led_by flow_now dials count over leads few goes = goes

  -- so is it where it passes
  passed_on : (terms : Terms) (at : At) (flow : Flow) (doing : Doing) (seen : Sight) → doing_left doing ≤ 2 → beyond → ByDial dialling beyond (sequence (pass terms (busy at flow doing) seen).stage)
  passed_on terms at flow doing seen few goes =
      led_by at.flow at.dials (doing_left doing + 1) (pass terms (busy at flow doing) seen).stage (pass_led terms any_flow at flow doing seen tt).behind (omega arith) goes

  pub passed_by : (terms : Terms) (stage : Stage) (seen : Sight) → ByDial dialling beyond stage → ByDial dialling beyond (sequence (pass terms stage seen).stage)
  passed_by terms (idle at) seen is = is
  passed_by terms (busy at flow (request_body given most)) seen is = absurd is
  passed_by terms (busy at flow (connection how)) seen is = is
  passed_by terms (busy at flow (response_head server sent)) seen is = passed_on terms at flow (response_head server sent) seen (omega arith) is
  passed_by terms (busy at flow (response_body server sent most)) seen is = passed_on terms at flow (response_body server sent most) seen (omega arith) is
  passed_by terms (busy at flow (coming_down server sent)) seen is = passed_on terms at flow (coming_down server sent) seen (omega arith) is
  passed_by terms (busy at flow (upgraded server)) seen is = is
  passed_by terms (busy at flow given_head) seen is = is
  passed_by terms (busy at flow given_body) seen is = is
  passed_by terms (next at) seen is = is
  passed_by terms over seen is = is

  -- and behind a reply
  pub turned_by : (terms : Terms) (stage : Stage) (seen : Sight) (answer : Timed Reply) → ByDial dialling beyond stage → IsBusy stage → beyond →
      ByDial dialling beyond (sequence (turn terms stage seen answer).stage)
  turned_by terms stage seen answer is flows goes =
      led_by _ _ (stage_left stage) (turn terms stage seen answer).stage (turn_behind terms stage seen answer (busy_goes stage flows)) (few_by stage is flows) goes
