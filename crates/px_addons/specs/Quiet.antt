-- Chains that change nothing: no rule, no recorded flow, nothing that is kept for later requests, no flow that waits, and each addon's relation leaves every draft as it is.
use Rattle.std.specs.Prelude.{◌≡◌, false, List, [], ◌∷◌, None}
use Rattle.px_message.specs.declared.flow.Flow.{Flow}
use Rattle.px_event.specs.declared.ask.Hook.{Hook}
use Rattle.px_event.specs.declared.reply.Reply.TheVariants as replies
use Rattle.px_core.specs.declared.answerer.Answer.{Answer}
use Rattle.px_core.specs.declared.answerer.Answer.TheVariants as answers
use Rattle.px_map.specs.View.{block_views, local_views, remote_views}
use Rattle.px_rule.specs.View.{body_views, header_views}
use Rattle.px_addons.specs.Chain.{Movers}
use Rattle.px_addons.specs.Moving.{KeepsDrafts, Moves}
use Rattle.px_addons.specs.declared.rules.Rules.{Rules}

-- no rule, no wish, no recorded flow, nothing is kept or streamed, and no flow waits
pub record NoRules (rules : Rules) : Type 0 where
  pub block : block_views rules.block ≡ []
  pub local : local_views rules.local ≡ []
  pub remote : remote_views rules.remote ≡ []
  pub headers : header_views rules.headers ≡ []
  pub bodies : body_views rules.bodies ≡ []
  pub anticache : rules.anticache ≡ false
  pub anticomp : rules.anticomp ≡ false
  pub replay : rules.replay ≡ None
  pub refresh : rules.refresh ≡ false
  pub cookies : rules.cookies ≡ None
  pub auth : rules.auth ≡ None
  pub stream : rules.stream ≡ None
  pub intercept : rules.intercept ≡ None

-- each of the addons leaves every draft as it is
abbrev pub AllKeepDrafts : {B : Type 0} → (B → Moves) → List B → Type 0
AllKeepDrafts moves [] = Unit {0}
AllKeepDrafts moves (addon ∷ others) = KeepsDrafts (moves addon) × AllKeepDrafts moves others

-- there is no recorded list, no cookies and no authorizations are kept, and each addon leaves every draft as it is
pub record AreQuiet {B : Type 0} (moves : B → Moves) (movers : Movers B) : Type 0 where
  pub unrecorded : movers.replay ≡ None
  pub no_cookies : movers.cookies ≡ None
  pub no_auth : movers.auth ≡ None
  pub keep : AllKeepDrafts moves movers.addons

-- a chain of these rules, and of what moves, changes nothing
pub record ChangesNothing {B : Type 0} (moves : B → Moves) (rules : Rules) (movers : Movers B) : Type 0 where
  pub no_rules : NoRules rules
  pub quiet : AreQuiet moves movers

-- the flow goes on as it was asked about, and nothing is streamed
abbrev pub goes_on_unchanged : Hook → Flow → Answer → Type 0
goes_on_unchanged hook flow answer = answer ≡ answers.Reply (replies.Go flow None)
