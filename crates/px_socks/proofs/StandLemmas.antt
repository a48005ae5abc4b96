-- The laws of the layer's two calls, from what they do wherever they stand.
use Rattle.std.proofs.Common.{◌≡◌, ◌≢◌, ◌∙◌, ℕ, Bool, true, false, List, [], ◌∷◌, ◌++◌, Some, None, refl, sym, ap, subst}
use Rattle.px_message.specs.declared.address.Address.{Address}
use Rattle.px_event.specs.declared.command.Command.{Command}
use Rattle.px_event.specs.declared.command.Command.TheVariants as commands
use Rattle.px_event.specs.declared.event.Event.{Event}
use Rattle.px_event.specs.declared.reply.Reply.{Reply}
use Rattle.px_event.specs.declared.reply.Reply.TheVariants as replies
use Rattle.px_event.specs.Chain.{Timed, Turn, found}
use Rattle.px_event.specs.Layer.{Goes, MayAnswer, Replied, Took}
use Rattle.px_event.specs.View.{seen_of}
use Rattle.px_event.proofs.Steps.{Resumes, Takes, onward, past_end, resume_goes, take_goes}
use Rattle.px_socks.specs.declared.layer.SocksLayer.{SocksLayer}
use Rattle.px_socks.specs.Chain.{look, pass, pass_by, socks_chain, turn, turn_dial}
use Rattle.px_socks.specs.LayerLaws.{settles, stays_at}
use Rattle.px_socks.specs.Stages.{Sight, Stage, dialling, greeting, nothing_seen, opened, over, requesting, sight_from, sight_over, sight_with}
use Rattle.px_socks.specs.Stands.{Answers, Hears, IsAt, IsReading, Leads, SocksStands, awaits, awaits_in, is_over}

-- ---- what is seen over one event more

sight_append : (seen : Sight) (prefix : List (Timed Event)) (e : Timed Event) → sight_from seen (prefix ++ e ∷ []) ≡ sight_with (sight_from seen prefix) e.value
sight_append seen [] e = refl
sight_append seen (f ∷ prefix) e = sight_append (sight_with seen f.value) prefix e

-- ---- an event

module _ (before after : SocksLayer) (moment : ℕ) (event : Event) (out longer : List Command) (hears : Hears event before after out longer) where
  reading_takes : (stage : Stage) (prefix : List (Timed Event)) → IsReading stage → look stage ≡ look greeting → IsAt before stage prefix →
      Takes socks_chain IsAt after moment event hears.more stage prefix
  reading_takes stage prefix reading waits is =
      let e : Timed Event = record { moment = moment; value = event } in
      let now = sym (sight_append nothing_seen prefix e) in
      let P : Sight → Type 0 = λ seen. Leads (pass stage seen) seen after hears.more in
      let leads = subst P now (hears.leads stage (sight_over prefix) reading is) in
      onward waits leads.is_in (λ view. ap (seen_of view) leads.gives)

  ended_takes : (stage : Stage) (prefix : List (Timed Event)) → look stage ≡ look over → is_over before.phase ≡ true → IsAt before stage prefix →
      Takes socks_chain IsAt after moment event hears.more stage prefix
  ended_takes stage prefix ends ended is =
      let same = hears.past_end ended in
      past_end [] ends (subst (λ state. IsAt state stage prefix) (sym same.0) is) (λ view. ap (seen_of view) same.1)

  event_takes : awaits before ≡ None → (stage : Stage) (prefix : List (Timed Event)) → IsAt before stage prefix → Takes socks_chain IsAt after moment event hears.more stage prefix
  event_takes free greeting prefix is = reading_takes greeting prefix tt refl is
  event_takes free (requesting used) prefix is = reading_takes (requesting used) prefix tt refl is
  event_takes free (dialling used address) prefix is = absurd (let no : Some _ ≡ None = ap awaits_in (sym is.phase_is) ∙ free in cc)
  event_takes free (opened used address) prefix is = ended_takes (opened used address) prefix refl (ap is_over is.phase_is) is
  event_takes free over prefix is = ended_takes over prefix refl (ap is_over is) is

  pub event_goes : awaits before ≡ None → Goes SocksStands before after (Took moment event) out longer
  event_goes free =
      take_goes (λ (made : SocksLayer). socks_chain) (λ made. settles) (λ made. greeting) (λ made. IsAt) before after moment event hears.more out longer hears.grown
      (λ made stage prefix _ is. event_takes free stage prefix is)

-- ---- a reply

-- behind an answer nothing passes
opened_stays : (used : ℕ) (address : Address) (closed : Bool) (text : List ℕ) → pass_by closed (opened used address) text ≡ stays_at (opened used address)
opened_stays used address true text = refl
opened_stays used address false text = refl

over_stays : (closed : Bool) (text : List ℕ) → pass_by closed over text ≡ stays_at over
over_stays true text = refl
over_stays false text = refl

turn_stays : (used : ℕ) (address : Address) (closed : Bool) (reply : Reply) (seen : Sight) →
    pass (turn_dial used address closed reply).stage seen ≡ stays_at (turn_dial used address closed reply).stage
turn_stays used address closed replies.Dialled seen = opened_stays used address seen.closed seen.client
turn_stays used address closed (replies.Refused fault) seen = over_stays seen.closed seen.client
turn_stays used address closed (replies.Go flow stream) seen = over_stays seen.closed seen.client
turn_stays used address closed (replies.Respond response) seen = over_stays seen.closed seen.client
turn_stays used address closed replies.Kill seen = over_stays seen.closed seen.client
turn_stays used address closed replies.Discard seen = over_stays seen.closed seen.client

module _ (before after : SocksLayer) (moment : ℕ) (reply : Reply) (out longer : List Command) (answers : Answers reply before after out longer) where
  reply_resumes : awaits before ≢ None → (stage : Stage) (prefix : List (Timed Event)) → IsAt before stage prefix →
      Resumes socks_chain IsAt after moment reply answers.more stage prefix
  reply_resumes asked greeting prefix is = absurd (asked (ap awaits_in is.phase_is))
  reply_resumes asked (requesting used) prefix is = absurd (asked (ap awaits_in is.phase_is))
  reply_resumes asked (dialling used address) prefix is =
      let seen : Sight = sight_over prefix in
      let to : Turn Stage Command = turn (dialling used address) seen.closed reply in
      let leads = answers.leads used address seen is in
      let stays : pass to.stage seen ≡ stays_at to.stage = turn_stays used address seen.closed reply seen in
      let P : Turn Stage Command → Type 0 = λ t. IsAt after t.stage prefix in
      let Q : Turn Stage Command → Type 0 = λ t. answers.more ≡ to.owed ++ (t.owed ++ found (look t.stage)) in
      let gives : answers.more ≡ to.owed ++ ((pass to.stage seen).owed ++ found (look (pass to.stage seen).stage)) = subst Q (sym stays) leads.gives in
      record {
        ask = commands.Dial 0 address None;
        asked = refl;
        place = subst P (sym stays) leads.is_in;
        gives = λ view. ap (seen_of view) gives;
      }
  reply_resumes asked (opened used address) prefix is = absurd (asked (ap awaits_in is.phase_is))
  reply_resumes asked over prefix is = absurd (asked (ap awaits_in is))

  pub reply_goes : awaits before ≢ None → Goes SocksStands before after (Replied moment reply) out longer
  reply_goes asked =
      resume_goes (λ (made : SocksLayer). socks_chain) (λ made. settles) (λ made. greeting) (λ made. IsAt) before after moment reply answers.more out longer answers.grown
      (λ made stage prefix _ is. reply_resumes asked stage prefix is)

-- what may be answered is awaited
pub may_answer : (state : SocksLayer) (reply : Reply) → MayAnswer (awaits state) reply → awaits state ≢ None
may_answer state reply may none = subst (λ a. MayAnswer a reply) none may
