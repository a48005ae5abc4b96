-- A piece without bytes changes nothing of what is due: the places are the same without it.
use Rattle.std.proofs.Common.{◌≡◌, ℕ, false, List, [], ◌∷◌, ◌++◌, map, refl, ap, sym, ◌∙◌, subst}
use Rattle.std.proofs.lemmas.List.{append-nil}
use Rattle.px_event.specs.declared.command.Command.{Command}
use Rattle.px_event.specs.declared.event.Event.{Event}
use Rattle.px_event.specs.declared.event.Event.TheVariants as events
use Rattle.px_event.specs.declared.reply.Reply.{Reply}
use Rattle.px_event.specs.declared.side.Side.{Side}
use Rattle.px_event.specs.Alike.{MayCome, TurnsAlike, Unhurried, front_with, passes_over}
use Rattle.px_event.specs.Chain.{Chain, NotYet, Stamp, Stamped, Timed, at_its_step, due, later, walk_from, worked_off}
use Rattle.px_event.specs.Laws.{IsSettled}
use Rattle.px_event.proofs.Likeness.{anywhere, early_owed, two_for_one}
use Rattle.px_exchange.specs.declared.terms.Terms.{Terms}
use Rattle.px_chain.specs.Chain.{IsOnward, http_chain, pass}
use Rattle.px_chain.specs.Sights.{Sight, Standing, sight_over, sight_with}
use Rattle.px_chain.specs.Stages.{Stage, side_of}
use Rattle.px_chain.specs.Streams.{client_closed, now_over}
use Rattle.px_chain.proofs.ChainLaws.{open_still, settles}
use Rattle.px_chain.proofs.FrontLaws.{now_here}
use Rattle.px_cuts.specs.Alike.{PlacesAlike, is_like}
use Rattle.px_cuts.specs.Cuts.{AlikeSeen, EqualButForMoments, HttpStop, MayStand, MayWaitFor, no_moment, piece_at, retimed}
use Rattle.px_cuts.specs.Shown.{look_over, moment_at, passed_over, shown_over}
use Rattle.px_cuts.proofs.AlikeLaws.{alike, owed_alike, owes_alike, pass_alike, turn_alike}
use Rattle.px_cuts.proofs.PieceLemmas.{any_may_come, empty_sight, still_open}
use Rattle.px_cuts.proofs.PlaceLaws.{may_more, may_passed, moment_alike, moment_led, shown_more}

-- places that show the same, where a piece waits whose moment makes no difference
record WaitsEmpty (see : ℕ → ℕ) (terms : Terms) (event : Stamped Event) (last : Stamp) (s : Standing) (f : List (Timed Event)) (t : Standing) (g : List (Timed Event)) : Type 0 where
  place : PlacesAlike see terms s f t g
  open_client : client_closed f ≡ false
  comes : moment_at see s.stage (later last event.stamp).moment ≡ moment_at see s.stage (now_over s.since f)

both_alike : (see : ℕ → ℕ) (terms : Terms) (s : Standing) (f : List (Timed Event)) (t : Standing) (g : List (Timed Event)) (u : Standing) (h : List (Timed Event)) → PlacesAlike see terms s f t g →
    PlacesAlike see terms t g u h → PlacesAlike see terms s f u h
both_alike see terms s f t g u h one two =
    record { stages = one.stages ∙ two.stages; sights = one.sights ∙ two.sights; may = one.may; other_may = two.other_may }

module _ (see : ℕ → ℕ) (onward : Stage → Stage) (goes : IsOnward onward) (terms : Terms) (stamp : Stamp) (side : Side) where
  abbrev chain : Chain Standing Event Reply Command
  chain = http_chain onward terms

  abbrev event : Stamped Event
  event = piece_at stamp side []

  empty_passes : (last : Stamp) (s : Standing) (f : List (Timed Event)) (t : Standing) (g : List (Timed Event)) → WaitsEmpty see terms event last s f t g →
      TurnsAlike (AlikeSeen see) (λ a b. WaitsEmpty see terms event last a f b g) (chain.pass s f) (chain.pass t g)
  empty_passes last s f t g waits = record {
    owed = owed_alike see onward goes terms s f t g waits.place;
    stage = record {
      place = pass_alike see onward goes terms s f t g waits.place;
      open_client = waits.open_client;
      comes = moment_led see onward goes terms s.stage (sight_over s f) (later last event.stamp).moment (now_over s.since f) waits.comes;
    };
  }

  empty_turns : (last : Stamp) (s : Standing) (f : List (Timed Event)) (t : Standing) (g : List (Timed Event)) → WaitsEmpty see terms event last s f t g → (reply : Stamped Reply) → MayWaitFor see event reply →
      TurnsAlike (AlikeSeen see) (λ a b. WaitsEmpty see terms event reply.stamp a f b g) (chain.turn s f (at_its_step reply)) (chain.turn t g (at_its_step reply))
  empty_turns last s f t g waits reply may_wait =
      let answer : Timed Reply = at_its_step reply in
      let turned = turn_alike see onward goes terms s f t g waits.place answer answer (record { value = refl; moment = refl }) in
      let to : Stage = (chain.turn s f answer).stage.stage in
      record {
        owed = turned.owed;
        stage = record {
          place = turned.stage;
          open_client = waits.open_client;
          comes = moment_alike see to to (later reply.stamp event.stamp).moment answer.moment refl may_wait ∙ sym (ap (λ n. moment_at see to n) (now_here answer.moment f));
        };
      }

  -- it is worked off, and nothing more is seen
  empty_works : (last : Stamp) (s : Standing) (f : List (Timed Event)) (t : Standing) (g : List (Timed Event)) → WaitsEmpty see terms event last s f t g →
      let prefix = f ++ worked_off last event ∷ [] in
      TurnsAlike (AlikeSeen see) (λ a b. PlacesAlike see terms a prefix b g) (passes_over chain (chain.pass s f) prefix) (chain.pass t g)
  empty_works last s f t g waits =
      let e : Timed Event = worked_off last event in
      let prefix : List (Timed Event) = f ++ e ∷ [] in
      let there : Standing = passed_over onward terms s f in
      let own = side_of there.stage in
      let v : Sight = shown_over see there f in
      let moment : ℕ = moment_at see there.stage e.moment in
      let may : MayStand terms there f = may_passed terms onward goes s f waits.place.may in
      let same : shown_over see there prefix ≡ v =
      shown_more see terms there f e may waits.open_client
      ∙ empty_sight own v side [] moment v.now refl (moment_led see onward goes terms s.stage (sight_over s f) e.moment (now_over s.since f) waits.comes) in
      let here : PlacesAlike see terms there prefix there f = record { stages = refl; sights = same; may = may_more terms there f e may; other_may = may } in
      let settled : IsSettled chain there f = (settles onward goes terms).at s f in
      let P : Standing → Type 0 = λ x. PlacesAlike see terms (passed_over onward terms there prefix) prefix x f in
      let passed : P there = subst P settled.stays (pass_alike see onward goes terms there prefix there f here) in
      let owed : List Command = (pass terms s.stage (sight_over s f)).owed in
      let more : List Command = (pass terms there.stage (sight_over there prefix)).owed in
      let none : AlikeSeen see more [] = owed_alike see onward goes terms there prefix there f here ∙ ap (λ l. map (retimed see) l) settled.owes_nothing in
      record {
        owed = (is_like see).joins owed owed more [] refl none ∙ (ap (λ l. map (retimed see) l) (append-nil owed) ∙ owed_alike see onward goes terms s f t g waits.place);
        stage = both_alike see terms (passed_over onward terms there prefix) prefix there f (passed_over onward terms t g) g passed (pass_alike see onward goes terms s f t g waits.place);
      }

  unhurried_empty : Unhurried chain (AlikeSeen see) (PlacesAlike see terms) (MayWaitFor see event) event (WaitsEmpty see terms event)
  unhurried_empty = record {
    passes = λ last s f t g waits is. empty_passes last s f t g waits;
    owes = λ last s f t g waits settled other is. owes_alike see onward goes terms s f t g waits.place;
    turns = λ last s f t g waits settled other ask is reply may_wait. empty_turns last s f t g waits reply may_wait;
    works_off = λ last s f t g waits is. empty_works last s f t g waits;
  }

  -- A piece is cut behind its last byte.
  pub empty_half : (start : Standing) (before after : List (Stamped Event)) (replies : List (Stamped Reply)) (first whole : Stamp) (bytes : List ℕ) →
      let w = walk_from (http_chain onward terms) start before replies in
      MayStand terms w.stage w.prefix → MayCome (MayWaitFor see event) w.unused →
      see (later w.last first).moment ≡ see (later w.last whole).moment → see (later w.last stamp).moment ≡ see (later w.last first).moment →
      AlikeSeen see (due (http_chain onward terms) start (before ++ piece_at first side bytes ∷ piece_at stamp side [] ∷ after) replies)
      (due (http_chain onward terms) start (before ++ piece_at whole side bytes ∷ after) replies)
  empty_half start before after replies first whole bytes may waits same half =
      let w = walk_from (http_chain onward terms) start before replies in
      two_for_one chain (AlikeSeen see) (is_like see) (settles onward goes terms) (PlacesAlike see terms) (alike see onward goes terms)
      (MayWaitFor see event) event (WaitsEmpty see terms event) unhurried_empty
      start before after (piece_at first side bytes) (piece_at whole side bytes) replies
      (λ is. record { place = empty_early w first whole bytes may is same half; replies = waits })
    where
      empty_early : (w : HttpStop) (first whole : Stamp) (bytes : List ℕ) → MayStand terms w.stage w.prefix → look_over terms w.stage w.prefix ≡ NotYet →
          see (later w.last first).moment ≡ see (later w.last whole).moment → see (later w.last stamp).moment ≡ see (later w.last first).moment →
          WaitsEmpty see terms event w.last w.stage (front_with w (piece_at first side bytes)) w.stage (front_with w (piece_at whole side bytes))
      empty_early w first whole bytes may is same half =
          let stage : Stage = w.stage.stage in
          let open_client : client_closed w.prefix ≡ false = open_still terms stage (sight_over w.stage w.prefix) is in
          let e : Timed Event = worked_off w.last (piece_at first side bytes) in
          let e' : Timed Event = worked_off w.last (piece_at whole side bytes) in
          let v : Sight = shown_over see w.stage w.prefix in
          let shows = shown_more see terms w.stage w.prefix e may open_client in
          record {
            place = record {
              stages = refl;
              sights = shows
                  ∙ (ap (λ n. sight_with (side_of stage) v (events.Piece side bytes) n) (moment_alike see stage stage e.moment e'.moment refl same)
                  ∙ sym (shown_more see terms w.stage w.prefix e' may open_client));
              may = may_more terms w.stage w.prefix e may;
              other_may = may_more terms w.stage w.prefix e' may;
            };
            open_client = still_open w.prefix e.moment side bytes open_client;
            comes = moment_alike see stage stage (later w.last stamp).moment e.moment refl half ∙ sym (ap (λ (x : Sight). x.now) shows);
          }

-- A piece without bytes may be left out, but for moments.
pub left_out : (onward : Stage → Stage) (goes : IsOnward onward) (terms : Terms) (start : Standing) (before after : List (Stamped Event)) (replies : List (Stamped Reply)) (stamp : Stamp) (side : Side) →
    (let w = walk_from (http_chain onward terms) start before replies in MayStand terms w.stage w.prefix) →
    EqualButForMoments (due (http_chain onward terms) start (before ++ piece_at stamp side [] ∷ after) replies) (due (http_chain onward terms) start (before ++ after) replies)
left_out onward goes terms start before after replies stamp side may =
    let event : Stamped Event = piece_at stamp side [] in
    let w = walk_from (http_chain onward terms) start before replies in
    anywhere (http_chain onward terms) EqualButForMoments (is_like no_moment) (settles onward goes terms) start before (event ∷ after) after replies
    (λ is.
    let stage : Stage = w.stage.stage in
    early_owed (http_chain onward terms) EqualButForMoments (is_like no_moment) (PlacesAlike no_moment terms) (alike no_moment onward goes terms) (settles onward goes terms)
    (MayWaitFor no_moment event) event (WaitsEmpty no_moment terms event) (unhurried_empty no_moment onward goes terms stamp side)
    w.unused w.last w.before w.before w.stage w.prefix w.stage w.prefix after (any_may_come event w.unused) refl
    (record {
      place = record { stages = refl; sights = refl; may = may; other_may = may };
      open_client = open_still terms stage (sight_over w.stage w.prefix) is;
      comes = moment_alike no_moment stage stage (later w.last stamp).moment (now_over w.stage.since w.prefix) refl refl;
    }))
