-- Places that show the same look alike, and a piece that waits may be taken early: what px_event's laws of walks ask for.
use Rattle.std.proofs.Common.{◌≡◌, ℕ, false, List, [], ◌∷◌, ◌++◌, map, refl, ap, sym, ◌∙◌, subst}
use Rattle.px_event.specs.declared.command.Command.{Command}
use Rattle.px_event.specs.declared.event.Event.{Event}
use Rattle.px_event.specs.declared.event.Event.TheVariants as events
use Rattle.px_event.specs.declared.reply.Reply.{Reply}
use Rattle.px_event.specs.declared.side.Side.{Side}
use Rattle.px_event.specs.declared.side.Side.TheVariants.{Client, Server}
use Rattle.px_event.specs.Alike.{Alike, FoundAlike, OwesAlike, passes_over, TurnsAlike, Unhurried}
use Rattle.px_event.specs.Chain.{Asks, at_its_step, Chain, Ends, found, later, Look, NotYet, Stamp, Stamped, Timed, worked_off}
use Rattle.px_event.specs.Laws.{IsFound, IsSettled}
use Rattle.px_exchange.specs.declared.terms.Terms.{Terms}
use Rattle.px_chain.specs.Chain.{behind, http_chain, look, pass, sight_past, so_far, stands, turn, IsOnward}
use Rattle.px_chain.specs.Behind.{sight_behind}
use Rattle.px_chain.specs.Sights.{Sight, Standing, sight_over, sight_with}
use Rattle.px_chain.specs.Stages.{Stage, side_of}
use Rattle.px_chain.specs.Streams.{client_closed, now_over}
use Rattle.px_chain.proofs.ChainLaws.{open_still}
use Rattle.px_chain.proofs.FrontLaws.{now_here}
use Rattle.px_chain.proofs.SightLaws.{IsSideFrom, onward_from, sight_turned, side_onward}
use Rattle.px_cuts.specs.Alike.{HeardEarly, MayBeFollowed, MayWait, PlacesAlike, for_nothing, on_from}
use Rattle.px_cuts.proofs.FollowLaws.{followed_passed, followed_retimed, followed_turned}
use Rattle.px_cuts.specs.Cuts.{AlikeSeen, IsDialled, MayBeHeard, MayWaitFor, retimed, MayStand}
use Rattle.px_cuts.specs.Shown.{hears, look_over, moment_at, passed_over, retimed_stage, shown_over, shown_sight}
use Rattle.px_cuts.proofs.PlaceLaws.{behind_late, behind_retimed, hears_behind, may_more, may_passed, may_turned, moment_alike, moment_led, now_at, onward_leads, passed_leads, passed_shown, passed_stage, retimed_on, shown_more, side_retimed, sight_on}
use Rattle.px_cuts.proofs.ShownLaws.{behind_shown, look_shown, pass_shown, retimed_look, retimed_reply, retimed_turn, so_far_shown, turn_shown}
use Rattle.px_cuts.proofs.ItemLaws.{ReadersStay}
use Rattle.px_cuts.proofs.StayLaws.{FindsAlike, finds_alike, leaves_more}
use Rattle.px_cuts.proofs.PassLaws.{PassesWith, passes_with}
use Rattle.px_cuts.proofs.NextLaws.{beside_on, beside_passed, beside_retimed, beside_turned}
use Rattle.std.proofs.lemmas.List.{map-append}
use Rattle.px_cuts.proofs.QuietLaws.{none_retimed}
use Rattle.px_cuts.proofs.WorkLaws.{MayWork, begins_not, may_follow, works}

-- two changed at once
both : {A B C : Type 0} (f : A → B → C) (a a' : A) (b b' : B) → a ≡ a' → b ≡ b' → f a b ≡ f a' b'
both f a a' b b' one two = ap (λ x. f x b) one ∙ ap (λ y. f a' y) two

-- a turn and the stages that lead on, seen so
module _ (see : ℕ → ℕ) where
  -- stages that are the same, seen so, use the same side
  same_sides : (s t : Stage) → retimed_stage see s ≡ retimed_stage see t → side_of s ≡ side_of t
  same_sides s t is = sym (side_retimed see s) ∙ (ap side_of is ∙ side_retimed see t)

  -- ---- what is found

  pub is_found_seen : (l : Look Command) → IsFound l → IsFound (retimed_look see l)
  is_found_seen NotYet is = absurd is
  is_found_seen (Asks ask) is = tt
  is_found_seen (Ends owed) is = tt

  found_alike : (l m : Look Command) → retimed_look see l ≡ retimed_look see m → FoundAlike (AlikeSeen see) l m
  found_alike NotYet NotYet is = tt
  found_alike NotYet (Asks b) is = let P : Look Command → Type 0 = IsFound in absurd (subst P (sym is) tt)
  found_alike NotYet (Ends b) is = let P : Look Command → Type 0 = IsFound in absurd (subst P (sym is) tt)
  found_alike (Asks a) NotYet is = let P : Look Command → Type 0 = IsFound in absurd (subst P is tt)
  found_alike (Asks a) (Asks b) is = ap (λ l. found l) is
  found_alike (Asks a) (Ends b) is = absurd (let e : Asks (retimed see a) ≡ Ends (map (retimed see) b) = is in cc)
  found_alike (Ends a) NotYet is = let P : Look Command → Type 0 = IsFound in absurd (subst P is tt)
  found_alike (Ends a) (Asks b) is = absurd (let e : Ends (map (retimed see) a) ≡ Asks (retimed see b) = is in cc)
  found_alike (Ends a) (Ends b) is = ap (λ l. found l) is

  module _ (onward : Stage → Stage) (goes : IsOnward onward) (terms : Terms) where
    abbrev chain : Chain Standing Event Reply Command
    chain = http_chain onward terms

    abbrev shown : Standing → List (Timed Event) → Sight
    shown s f = shown_over see s f

    -- ---- places that show the same

    pub owed_alike : (s : Standing) (f : List (Timed Event)) (t : Standing) (g : List (Timed Event)) → PlacesAlike see terms s f t g →
        AlikeSeen see (pass terms s.stage (sight_over s f)).owed (pass terms t.stage (sight_over t g)).owed
    owed_alike s f t g place =
        ap (λ turned. turned.owed)
        (pass_shown see terms s.stage (sight_over s f)
        ∙ (both (pass terms) (retimed_stage see s.stage) (retimed_stage see t.stage) (shown s f) (shown t g) place.stages place.sights ∙ sym (pass_shown see terms t.stage (sight_over t g))))

    pub pass_alike : (s : Standing) (f : List (Timed Event)) (t : Standing) (g : List (Timed Event)) → PlacesAlike see terms s f t g →
        PlacesAlike see terms (passed_over onward terms s f) f (passed_over onward terms t g) g
    pass_alike s f t g place = record {
      stages = passed_stage see onward goes terms s.stage (sight_over s f)
          ∙ (both (λ a v. onward (pass terms a v).stage) (retimed_stage see s.stage) (retimed_stage see t.stage) (shown s f) (shown t g) place.stages place.sights
          ∙ sym (passed_stage see onward goes terms t.stage (sight_over t g)));
      sights = passed_shown see onward goes terms s f
          ∙ (both (sight_on onward terms) (retimed_stage see s.stage) (retimed_stage see t.stage) (shown s f) (shown t g) place.stages place.sights ∙ sym (passed_shown see onward goes terms t g));
      may = may_passed terms onward goes s f place.may;
      other_may = may_passed terms onward goes t g place.other_may;
    }

    pub owes_alike : (s : Standing) (f : List (Timed Event)) (t : Standing) (g : List (Timed Event)) → PlacesAlike see terms s f t g → OwesAlike chain (AlikeSeen see) s f t g
    owes_alike s f t g place = record {
      look = found_alike (look_over terms s f) (look_over terms t g)
          (look_shown see terms s.stage (sight_over s f)
          ∙ (both (look terms) (retimed_stage see s.stage) (retimed_stage see t.stage) (shown s f) (shown t g) place.stages place.sights ∙ sym (look_shown see terms t.stage (sight_over t g))));
      so_far = so_far_shown see terms s.stage (sight_over s f)
          ∙ (both (so_far terms) (retimed_stage see s.stage) (retimed_stage see t.stage) (shown s f) (shown t g) place.stages place.sights ∙ sym (so_far_shown see terms t.stage (sight_over t g)));
      behind = behind_shown see s.stage (sight_over s f)
          ∙ (both behind (retimed_stage see s.stage) (retimed_stage see t.stage) (shown s f) (shown t g) place.stages place.sights ∙ sym (behind_shown see t.stage (sight_over t g)));
    }

    -- two replies, the same and at the same moment, seen so
    pub record RepliesAlike (answer other : Timed Reply) : Type 0 where
      pub value : answer.value ≡ other.value
      pub moment : see answer.moment ≡ see other.moment

    same_replies : (answer other : Timed Reply) → RepliesAlike answer other → retimed_reply see answer ≡ retimed_reply see other
    same_replies answer other same = rw (same.value, same.moment) refl

    -- where a reply leads
    abbrev led : Standing → List (Timed Event) → Timed Reply → Stage
    led s f answer = onward (turn terms s.stage (sight_over s f) answer).stage

    -- what is shown there
    led_shows : (s : Standing) (f : List (Timed Event)) (answer : Timed Reply) →
        shown (stands terms s answer.moment f (led s f answer)) f ≡ sight_behind terms.place s.stage (shown s f) (moment_at see (led s f answer) answer.moment) (led s f answer)
    led_shows s f answer =
        let seen : Sight = sight_over s f in
        let there : Stage = led s f answer in
        ap (λ v. shown_sight see there v) (sight_turned onward goes terms s f answer)
        ∙ sym (behind_late terms.place s.stage there seen (moment_at see s.stage seen.now) (moment_at see there answer.moment))

    led_alike : (s : Standing) (f : List (Timed Event)) (t : Standing) (g : List (Timed Event)) (answer other : Timed Reply) →
        retimed_turn see (turn terms s.stage (sight_over s f) answer) ≡ retimed_turn see (turn terms t.stage (sight_over t g) other) →
        retimed_stage see (led s f answer) ≡ retimed_stage see (led t g other)
    led_alike s f t g answer other turned =
        retimed_on see onward goes (turn terms s.stage (sight_over s f) answer).stage
        ∙ (ap (λ x. onward x.stage) turned ∙ sym (retimed_on see onward goes (turn terms t.stage (sight_over t g) other).stage))

    -- behind the same stages, seen so, and the same sights, at the same moment
    behind_alike : (a a' : Stage) (v w : Sight) (now other : ℕ) (b b' : Stage) → retimed_stage see a ≡ retimed_stage see a' → v ≡ w → now ≡ other → retimed_stage see b ≡ retimed_stage see b' →
        sight_behind terms.place a v now b ≡ sight_behind terms.place a' w other b'
    behind_alike a a' v w now other b b' one two three four =
        sym (behind_retimed see terms.place a b v now)
        ∙ (ap (λ x. sight_behind terms.place x v now (retimed_stage see b)) one
        ∙ (ap (λ x. sight_behind terms.place (retimed_stage see a') x now (retimed_stage see b)) two
        ∙ (ap (λ n. sight_behind terms.place (retimed_stage see a') w n (retimed_stage see b)) three
        ∙ (ap (λ x. sight_behind terms.place (retimed_stage see a') w other x) four ∙ behind_retimed see terms.place a' b' w other))))

    pub turn_alike : (s : Standing) (f : List (Timed Event)) (t : Standing) (g : List (Timed Event)) → PlacesAlike see terms s f t g → (answer other : Timed Reply) → RepliesAlike answer other →
        TurnsAlike (AlikeSeen see) (λ a b. PlacesAlike see terms a f b g) (chain.turn s f answer) (chain.turn t g other)
    turn_alike s f t g place answer other same =
        let turned : retimed_turn see (turn terms s.stage (sight_over s f) answer) ≡ retimed_turn see (turn terms t.stage (sight_over t g) other) =
        turn_shown see terms s.stage (sight_over s f) answer
        ∙ (both (λ a b. turn terms a b (retimed_reply see answer)) (retimed_stage see s.stage) (retimed_stage see t.stage) (shown s f) (shown t g) place.stages place.sights
        ∙ (ap (λ r. turn terms (retimed_stage see t.stage) (shown t g) r) (same_replies answer other same) ∙ sym (turn_shown see terms t.stage (sight_over t g) other))) in
        let stages : retimed_stage see (led s f answer) ≡ retimed_stage see (led t g other) = led_alike s f t g answer other turned in
        record {
          owed = ap (λ x. x.owed) turned;
          stage = record {
            stages = stages;
            sights = led_shows s f answer
                ∙ (behind_alike s.stage t.stage (shown s f) (shown t g) (moment_at see (led s f answer) answer.moment) (moment_at see (led t g other) other.moment) (led s f answer) (led t g other)
                place.stages place.sights (moment_alike see (led s f answer) (led t g other) answer.moment other.moment stages same.moment) stages ∙ sym (led_shows t g other));
            may = may_turned terms onward goes s f answer place.may;
            other_may = may_turned terms onward goes t g other place.other_may;
          };
        }

    pub more_alike : (s : Standing) (f : List (Timed Event)) (t : Standing) (g : List (Timed Event)) → PlacesAlike see terms s f t g → look_over terms s f ≡ NotYet → (e other : Timed Event) →
        e.value ≡ other.value → see e.moment ≡ see other.moment → PlacesAlike see terms s (f ++ e ∷ []) t (g ++ other ∷ [])
    more_alike s f t g place is e other same once =
        let open_client : client_closed f ≡ false = open_still terms s.stage (sight_over s f) is in
        record {
          stages = place.stages;
          sights = shown_more see terms s f e place.may open_client
              ∙ (both (λ a v. sight_with a v e.value (moment_at see s.stage e.moment)) (side_of s.stage) (side_of t.stage) (shown s f) (shown t g) (same_sides s.stage t.stage place.stages) place.sights
              ∙ (ap (λ x. sight_with (side_of t.stage) (shown t g) x (moment_at see s.stage e.moment)) same
              ∙ (ap (λ n. sight_with (side_of t.stage) (shown t g) other.value n) (moment_alike see s.stage t.stage e.moment other.moment place.stages once)
              ∙ sym (shown_more see terms t g other place.other_may (sym (ap (λ v. v.closed) place.sights) ∙ open_client)))));
          may = may_more terms s f e place.may;
          other_may = may_more terms t g other place.other_may;
        }

    -- Places that show the same look alike.
    pub alike : Alike chain (AlikeSeen see) (PlacesAlike see terms)
    alike = record {
      passes = λ s f t g place. record { owed = owed_alike s f t g place; stage = pass_alike s f t g place };
      owes = λ s f t g place settled other. owes_alike s f t g place;
      turns = λ s f t g place settled other ask is answer. turn_alike s f t g place answer answer (record { value = refl; moment = refl });
      more = λ s f t g place settled other is e. more_alike s f t g place is e e refl refl;
    }

    -- ---- a piece that waits behind the one place, and was heard in the other

    heard_on : (side : Side) (s t : Stage) → ((server : ℕ) → IsDialled server s → IsDialled server t) → MayBeHeard side s → MayBeHeard side t
    heard_on Client s t on is = tt
    heard_on (Server server) s t on is = on server is

    -- where something is found, it may follow what is seen there
    waits_on : (side : Side) (s : Standing) (f : List (Timed Event)) → MayWait see onward terms side s f → IsFound (look_over terms (passed_over onward terms s f) f) →
        MayBeFollowed side s.stage (shown s f)
    waits_on side s f (on_from follows) found = follows
    waits_on side s f (for_nothing nothing none) found = absurd (nothing found)

    waits_work : (side : Side) (s : Standing) (f : List (Timed Event)) → MayWait see onward terms side s f → MayWork side (retimed_stage see s.stage) (shown s f)
    waits_work side s f (on_from follows) = may_follow (followed_retimed see side s.stage (shown s f) follows)
    waits_work side s f (for_nothing nothing none) = begins_not (none_retimed see s.stage (shown s f) none)

    module _ (readers : ReadersStay) (event : Stamped Event) where
      -- by the side of the stage seen so
      heard_so : (last : Stamp) (s : Standing) (f : List (Timed Event)) (t : Standing) (g : List (Timed Event)) (place : HeardEarly see onward terms event last s f t g) →
          hears (side_of (retimed_stage see s.stage)) (shown s f) (events.Piece place.side place.bytes) ≡ shown t g
      heard_so last s f t g place = ap (λ x. hears x (shown s f) (events.Piece place.side place.bytes)) (side_retimed see s.stage) ∙ place.hears

      -- where something is found behind passing, seen so
      passed_finds : (s : Standing) (f : List (Timed Event)) → retimed_look see (look_over terms (passed_over onward terms s f) f)
          ≡ look terms (onward (pass terms (retimed_stage see s.stage) (shown s f)).stage) (sight_on onward terms (retimed_stage see s.stage) (shown s f))
      passed_finds s f =
          let v : Sight = sight_over s f in
          let there : Standing = passed_over onward terms s f in
          look_shown see terms there.stage (sight_over there f)
          ∙ both (look terms) (retimed_stage see there.stage) (onward (pass terms (retimed_stage see s.stage) (shown s f)).stage) (shown there f) (sight_on onward terms (retimed_stage see s.stage) (shown s f))
          (passed_stage see onward goes terms s.stage v) (passed_shown see onward goes terms s f)

      -- the piece behind passing
      heard_behind : (last : Stamp) (s : Standing) (f : List (Timed Event)) (t : Standing) (g : List (Timed Event)) (place : HeardEarly see onward terms event last s f t g) →
          let first = onward (pass terms (retimed_stage see s.stage) (shown s f)).stage in
          hears (side_of (passed_over onward terms s f).stage) (shown (passed_over onward terms s f) f) (events.Piece place.side place.bytes)
          ≡ hears (side_of first) (sight_on onward terms (retimed_stage see s.stage) (shown s f)) (events.Piece place.side place.bytes)
      heard_behind last s f t g place =
          let there : Standing = passed_over onward terms s f in
          both (λ a x. hears a x (events.Piece place.side place.bytes)) (side_of there.stage) (side_of (onward (pass terms (retimed_stage see s.stage) (shown s f)).stage))
          (shown there f) (sight_on onward terms (retimed_stage see s.stage) (shown s f))
          (sym (side_retimed see there.stage) ∙ ap side_of (passed_stage see onward goes terms s.stage (sight_over s f))) (passed_shown see onward goes terms s f)

      early_pass : (last : Stamp) (s : Standing) (f : List (Timed Event)) (t : Standing) (g : List (Timed Event)) (place : HeardEarly see onward terms event last s f t g) →
          IsFound (look_over terms (passed_over onward terms s f) f) → PassesWith terms readers place.side place.bytes (retimed_stage see s.stage) (shown s f)
      early_pass last s f t g place is =
          let P : Look Command → Type 0 = IsFound in
          passes_with terms readers place.side place.bytes onward goes (retimed_stage see s.stage) (shown s f) place.open_client
          (followed_retimed see place.side s.stage (shown s f) (waits_on place.side s f place.waits is)) (beside_retimed see place.side s.stage (shown s f) place.beside)
          (subst P (passed_finds s f) (is_found_seen (look_over terms (passed_over onward terms s f) f) is))

      early_passes : (last : Stamp) (s : Standing) (f : List (Timed Event)) (t : Standing) (g : List (Timed Event)) → HeardEarly see onward terms event last s f t g →
          IsFound (look_over terms (passed_over onward terms s f) f) →
          TurnsAlike (AlikeSeen see) (λ a b. HeardEarly see onward terms event last a f b g) (chain.pass s f) (chain.pass t g)
      early_passes last s f t g place is =
          let v : Sight = sight_over s f in
          let stage : Stage = retimed_stage see s.stage in
          let piece : Event = events.Piece place.side place.bytes in
          let more : Sight = hears (side_of stage) (shown s f) piece in
          let first : Stage = onward (pass terms stage (shown s f)).stage in
          let same = early_pass last s f t g place is in
          let follows = waits_on place.side s f place.waits is in
          let turned : retimed_turn see (pass terms s.stage v) ≡ retimed_turn see (pass terms t.stage (sight_over t g)) =
          pass_shown see terms s.stage v
          ∙ (sym same.stays
          ∙ (both (pass terms) stage (retimed_stage see t.stage) more (shown t g) place.stages (heard_so last s f t g place) ∙ sym (pass_shown see terms t.stage (sight_over t g)))) in
          record {
            owed = ap (λ x. x.owed) turned;
            stage = record {
              side = place.side;
              bytes = place.bytes;
              is_piece = place.is_piece;
              stages = retimed_on see onward goes (pass terms s.stage v).stage
                  ∙ (ap (λ x. onward x.stage) turned ∙ sym (retimed_on see onward goes (pass terms t.stage (sight_over t g)).stage));
              hears = heard_behind last s f t g place
                  ∙ (ap (λ x. hears x (sight_on onward terms stage (shown s f)) piece) (side_onward onward goes (pass terms stage (shown s f)).stage)
                  ∙ (ap (λ l. (let there : Sight = record l { now = now_at first (shown s f).now } in there)) (sym same.leaves)
                  ∙ (ap (λ x. (let there : Sight = record (sight_past terms stage more) { now = now_at (onward x.stage) (shown s f).now } in there)) (sym same.stays)
                  ∙ (both (sight_on onward terms) stage (retimed_stage see t.stage) more (shown t g) place.stages (heard_so last s f t g place) ∙ sym (passed_shown see onward goes terms t g)))));
              open_client = place.open_client;
              comes = moment_led see onward goes terms s.stage v (later last event.stamp).moment (now_over s.since f) place.comes;
              heard = λ again. heard_on place.side s.stage (onward (pass terms s.stage v).stage) (passed_leads terms onward goes s.stage v).dialled (place.heard is);
              beside = beside_passed see terms onward goes place.side s f follows place.beside;
              waits = on_from (followed_passed see terms onward goes place.side s f follows);
              may = may_passed terms onward goes s f place.may;
              other_may = may_passed terms onward goes t g place.other_may;
            };
          }

      finds : (last : Stamp) (s : Standing) (f : List (Timed Event)) (t : Standing) (g : List (Timed Event)) (place : HeardEarly see onward terms event last s f t g) → IsSettled chain s f → IsFound (look_over terms s f) →
          FindsAlike terms (retimed_stage see s.stage) (shown s f) (hears (side_of (retimed_stage see s.stage)) (shown s f) (events.Piece place.side place.bytes))
      finds last s f t g place settled is =
          let P : Look Command → Type 0 = IsFound in
          let Q : Standing → Type 0 = λ x. IsFound (look_over terms x f) in
          let follows = waits_on place.side s f place.waits (subst Q (sym settled.stays) is) in
          finds_alike terms readers place.side place.bytes (retimed_stage see s.stage) (shown s f) place.open_client (followed_retimed see place.side s.stage (shown s f) follows)
          (beside_retimed see place.side s.stage (shown s f) place.beside)
          (subst P (look_shown see terms s.stage (sight_over s f)) (is_found_seen (look_over terms s f) is))

      early_owes : (last : Stamp) (s : Standing) (f : List (Timed Event)) (t : Standing) (g : List (Timed Event)) → HeardEarly see onward terms event last s f t g → IsSettled chain s f → IsFound (look_over terms s f) →
          OwesAlike chain (AlikeSeen see) s f t g
      early_owes last s f t g place settled is =
          let same = finds last s f t g place settled is in
          let stage : Stage = retimed_stage see s.stage in
          let more : Sight = hears (side_of stage) (shown s f) (events.Piece place.side place.bytes) in
          record {
            look = found_alike (look_over terms s f) (look_over terms t g)
                (look_shown see terms s.stage (sight_over s f)
                ∙ (sym same.look ∙ (both (look terms) stage (retimed_stage see t.stage) more (shown t g) place.stages (heard_so last s f t g place) ∙ sym (look_shown see terms t.stage (sight_over t g)))));
            so_far = so_far_shown see terms s.stage (sight_over s f)
                ∙ (sym same.so_far ∙ (both (so_far terms) stage (retimed_stage see t.stage) more (shown t g) place.stages (heard_so last s f t g place) ∙ sym (so_far_shown see terms t.stage (sight_over t g))));
            behind = behind_shown see s.stage (sight_over s f)
                ∙ (sym same.behind ∙ (both behind stage (retimed_stage see t.stage) more (shown t g) place.stages (heard_so last s f t g place) ∙ sym (behind_shown see t.stage (sight_over t g))));
          }

      early_turns : (last : Stamp) (s : Standing) (f : List (Timed Event)) (t : Standing) (g : List (Timed Event)) → HeardEarly see onward terms event last s f t g → IsSettled chain s f →
          (ask : Command) → look_over terms s f ≡ Asks ask → (reply : Stamped Reply) → MayWaitFor see event reply →
          TurnsAlike (AlikeSeen see) (λ a b. HeardEarly see onward terms event reply.stamp a f b g) (chain.turn s f (at_its_step reply)) (chain.turn t g (at_its_step reply))
      early_turns last s f t g place settled ask is reply waits =
          let P : Look Command → Type 0 = IsFound in
          let piece : Event = events.Piece place.side place.bytes in
          let answer : Timed Reply = at_its_step reply in
          let stage : Stage = retimed_stage see s.stage in
          let more : Sight = hears (side_of stage) (shown s f) piece in
          let there = subst P (sym is) tt in
          let same = finds last s f t g place settled there in
          let Q : Standing → Type 0 = λ x. IsFound (look_over terms x f) in
          let found = subst Q (sym settled.stays) there in
          let heard : MayBeHeard place.side s.stage = place.heard found in
          let follows = waits_on place.side s f place.waits found in
          let turned : retimed_turn see (turn terms s.stage (sight_over s f) answer) ≡ retimed_turn see (turn terms t.stage (sight_over t g) answer) =
          turn_shown see terms s.stage (sight_over s f) answer
          ∙ (sym (same.turn (retimed_reply see answer))
          ∙ (both (λ a b. turn terms a b (retimed_reply see answer)) stage (retimed_stage see t.stage) more (shown t g) place.stages (heard_so last s f t g place)
          ∙ sym (turn_shown see terms t.stage (sight_over t g) answer))) in
          let s' : Stage = led s f answer in
          let t' : Stage = led t g answer in
          let stages : retimed_stage see s' ≡ retimed_stage see t' = led_alike s f t g answer answer turned in
          let from : IsSideFrom s.stage (side_of s') = onward_from onward goes terms s.stage (sight_over s f) answer in
          let leaves = leaves_more terms readers place.side place.bytes s.stage (sight_over s f) (shown s f).now place.open_client
          (beside_on place.side s.stage (shown s f) (sight_over s f).now place.beside) there in
          record {
            owed = ap (λ x. x.owed) turned;
            stage = record {
              side = place.side;
              bytes = place.bytes;
              is_piece = place.is_piece;
              stages = stages;
              hears = ap (λ x. hears (side_of s') x piece) (led_shows s f answer)
                  ∙ (hears_behind terms.place s.stage s' (shown s f) place.side place.bytes (moment_at see s' answer.moment) from heard leaves
                  ∙ (behind_alike s.stage t.stage (hears (side_of s.stage) (shown s f) piece) (shown t g) (moment_at see s' answer.moment) (moment_at see t' answer.moment) s' t'
                  place.stages place.hears (moment_alike see s' t' answer.moment answer.moment stages refl) stages ∙ sym (led_shows t g answer)));
              open_client = place.open_client;
              comes = moment_alike see s' s' (later reply.stamp event.stamp).moment answer.moment refl waits ∙ sym (ap (λ n. moment_at see s' n) (now_here answer.moment f));
              heard = λ again. heard_on place.side s.stage s' (onward_leads terms onward goes s.stage (sight_over s f) answer).dialled heard;
              beside = beside_turned see terms onward goes place.side s f answer ask place.open_client place.beside heard is;
              waits = on_from (followed_turned see terms onward goes place.side s f answer follows heard);
              may = may_turned terms onward goes s f answer place.may;
              other_may = may_turned terms onward goes t g answer place.other_may;
            };
          }

      -- where nothing is found without it, it is worked off
      early_works_off : (last : Stamp) (s : Standing) (f : List (Timed Event)) (t : Standing) (g : List (Timed Event)) → HeardEarly see onward terms event last s f t g →
          look_over terms (passed_over onward terms s f) f ≡ NotYet →
          let prefix = f ++ worked_off last event ∷ [] in
          TurnsAlike (AlikeSeen see) (λ a b. PlacesAlike see terms a prefix b g) (passes_over chain (chain.pass s f) prefix) (chain.pass t g)
      early_works_off last s f t g place is =
          let e : Timed Event = worked_off last event in
          let prefix : List (Timed Event) = f ++ e ∷ [] in
          let there : Standing = passed_over onward terms s f in
          let stage : Stage = retimed_stage see s.stage in
          let piece : Event = events.Piece place.side place.bytes in
          let first : Stage = onward (pass terms stage (shown s f)).stage in
          let left : Sight = sight_on onward terms stage (shown s f) in
          let more : Sight = hears (side_of stage) (shown s f) piece in
          let done = works terms readers place.side place.bytes onward goes stage (shown s f) place.open_client (waits_work place.side s f place.waits) (sym (passed_finds s f) ∙ ap (λ l. retimed_look see l) is) in
          let to : retimed_stage see there.stage ≡ first = passed_stage see onward goes terms s.stage (sight_over s f) in
          let may : MayStand terms there f = may_passed terms onward goes s f place.may in
          let comes = moment_led see onward goes terms s.stage (sight_over s f) e.moment (now_over s.since f) place.comes in
          let seen : shown there prefix ≡ hears (side_of first) left piece =
          shown_more see terms there f e may place.open_client
          ∙ (ap (λ x. sight_with (side_of there.stage) (shown there f) x (moment_at see there.stage e.moment)) place.is_piece
          ∙ (ap (λ n. sight_with (side_of there.stage) (shown there f) piece n) comes ∙ heard_behind last s f t g place)) in
          let again : retimed_turn see (pass terms there.stage (sight_over there prefix)) ≡ pass terms first (hears (side_of first) left piece) =
          pass_shown see terms there.stage (sight_over there prefix) ∙ both (pass terms) (retimed_stage see there.stage) first (shown there prefix) (hears (side_of first) left piece) to seen in
          let whole : pass terms stage more ≡ retimed_turn see (pass terms t.stage (sight_over t g)) =
          both (pass terms) stage (retimed_stage see t.stage) more (shown t g) place.stages (heard_so last s f t g place) ∙ sym (pass_shown see terms t.stage (sight_over t g)) in
          record {
            owed = map-append (retimed see) (pass terms s.stage (sight_over s f)).owed (pass terms there.stage (sight_over there prefix)).owed
                ∙ (ap (λ x. x.owed ++ map (retimed see) (pass terms there.stage (sight_over there prefix)).owed) (pass_shown see terms s.stage (sight_over s f))
                ∙ (ap (λ x. (pass terms stage (shown s f)).owed ++ x.owed) again
                ∙ (done.owes ∙ ap (λ x. x.owed) whole)));
            stage = record {
              stages = retimed_on see onward goes (pass terms there.stage (sight_over there prefix)).stage
                  ∙ (ap (λ x. onward x.stage) again
                  ∙ (done.leads ∙ (ap (λ x. onward x.stage) whole ∙ sym (retimed_on see onward goes (pass terms t.stage (sight_over t g)).stage))));
              sights = passed_shown see onward goes terms there prefix
                  ∙ (both (sight_on onward terms) (retimed_stage see there.stage) first (shown there prefix) (hears (side_of first) left piece) to seen
                  ∙ (done.leaves
                  ∙ (both (sight_on onward terms) stage (retimed_stage see t.stage) more (shown t g) place.stages (heard_so last s f t g place) ∙ sym (passed_shown see onward goes terms t g))));
              may = may_passed terms onward goes there prefix (may_more terms there f e may);
              other_may = may_passed terms onward goes t g place.other_may;
            };
          }

      -- A piece that waits may be taken early.
      pub unhurried : Unhurried chain (AlikeSeen see) (PlacesAlike see terms) (MayWaitFor see event) event (HeardEarly see onward terms event)
      unhurried = record {
        passes = λ last s f t g place is. early_passes last s f t g place is;
        owes = λ last s f t g place settled other is. early_owes last s f t g place settled is;
        turns = λ last s f t g place settled other ask is reply waits. early_turns last s f t g place settled ask is reply waits;
        works_off = λ last s f t g place is. early_works_off last s f t g place is;
      }
