-- The law: a server that is connected before a conversation, or is dialled in it, or neither.
use Rattle.std.proofs.Common.{◌≡◌, ℕ, ◌<◌, ◌≤◌, Bool, true, false, nat_lt, List, [], ◌∷◌, ◌++◌, length, drop, Option, Some, None, refl, ap, sym, ◌∙◌, subst, arith}
use Rattle.std.specs.Prelude.{◌==◌, if◌then◌else◌}
use Rattle.std.proofs.lemmas.Bool.{eqb-true, lt-ltb, ltb-true}
use Rattle.px_message.specs.declared.address.Address.{Address}
use Rattle.px_message.specs.declared.flow.Flow.{Flow}
use Rattle.px_event.specs.declared.command.Command.{Command}
use Rattle.px_event.specs.declared.event.Event.{Event}
use Rattle.px_event.specs.declared.reply.Reply.{Reply}
use Rattle.px_event.specs.declared.reply.Reply.TheVariants as reply
use Rattle.px_event.specs.declared.side.Side.TheVariants.{Server}
use Rattle.px_event.specs.Chain.{Stamp, Stamped, Timed, Look, NotYet, Asks, Ends, Turn, Reached, Chain, worked_off, at_its_step, never, reach, stop_at, walk, walk_by, found, found_at, owed_at}
use Rattle.px_event.specs.Layer.{Move}
use Rattle.px_event.specs.Stands.{due_by, events_in, replies_in}
use Rattle.px_event.specs.View.{bytes_in, line, seen_of}
use Rattle.px_exchange.specs.declared.terms.Terms.{Terms}
use Rattle.px_exchange.specs.Places.{server_for}
use Rattle.px_chain.specs.Behind.{sight_behind}
use Rattle.px_chain.specs.Chain.{IsOnward, begin, behind, http_chain, look, pass, stands, turn}
use Rattle.px_chain.specs.Going.{told_behind}
use Rattle.px_chain.specs.Keeping.{unspoilt_at}
use Rattle.px_chain.specs.Sights.{IsWithin, Sight, Standing, bytes_over, sight_over}
use Rattle.px_chain.specs.Silent.{ParkedBelow}
use Rattle.px_chain.specs.Stages.{At, Parked, Sent, Stage, busy, connection, idle, side_of, side_parked}
use Rattle.px_chain.specs.Streams.{bytes_of}
use Rattle.px_chain.proofs.BelowLemmas.{http_counts, onward_same, so_far_far, turns_counted}
use Rattle.px_chain.proofs.CountedLemmas.{IsSilent, silent_both, silent_found}
use Rattle.px_chain.proofs.NotUp.{IsNotUpBy}
use Rattle.px_chain.proofs.OnceLemmas.{sent_to}
use Rattle.px_chain.proofs.SentLemmas.{turn_sent, untold_onward, untold_turned}
use Rattle.px_chain.proofs.SightLaws.{behind_onward, onward_from, sight_turned, within_more, within_passed, within_stood}
use Rattle.px_chain.proofs.SilentLemmas.{AreBelow, behind_silent, dialled, looks_silent, parked_below, so_far_silent}
use Rattle.px_turns.specs.Turns.{IsInTurn, IsOfParked, behind_answer, behind_by, by_turns, bytes_among, connects_to, heard_of, is_sent_nothing}
use Rattle.px_turns.proofs.ExchangeLemmas.{none_answered}
use Rattle.px_turns.proofs.PassLemmas.{TurnsAt, at_rest}
use Rattle.px_turns.proofs.PlaceLemmas.{off_not_up, same_self}
use Rattle.px_turns.proofs.OffLemmas.{IsConnected, IsDialled, connected_is, dialled_onward, dialled_passed, dialled_turned, few_turned, new_turn, off_onward, off_pass, off_passed, off_turn, off_turned}
use Rattle.px_turns.proofs.WalkLemmas.{KeepsAll, Splits, drop_all, reach_kept, same_reach, walk_kept}
use Rattle.px_turns.proofs.StandLemmas.{There, connected_turns, onward_turns, walk_there}

module _ (onward : Stage → Stage) (goes : IsOnward onward) (terms : Terms) (server : ℕ) where
  abbrev chain : Chain Standing Event Reply Command
  chain = http_chain onward terms

  -- what is found is silent, with what is owed behind it
  quiet_found : (place : Standing) (prefix : List (Timed Event)) → IsSilent server (found_at chain place prefix)
  quiet_found place prefix =
      let seen : Sight = sight_over place prefix in
      silent_found server (behind place.stage seen) (look terms place.stage seen) (behind_silent server place.stage seen) (looks_silent server terms place.stage seen)

  quiet_ask : (place : Standing) (prefix : List (Timed Event)) (ask : Command) → chain.look place prefix ≡ Asks ask → IsSilent server (ask ∷ [])
  quiet_ask place prefix ask asked =
      ap (λ l. bytes_in (seen_of (line (Server server)) (found l))) (sym asked) ∙ looks_silent server terms place.stage (sight_over place prefix)

  -- nothing was sent, and nothing while it waits: so only what the reply brings is
  reply_sent : (place : Standing) (prefix : List (Timed Event)) (before : List Command) (ask : Command) (owed : List Command) → chain.look place prefix ≡ Asks ask → IsSilent server before →
      IsSilent server (chain.so_far place prefix) → sent_to server (before ++ (chain.so_far place prefix ++ ask ∷ (chain.behind place prefix ++ owed))) ≡ sent_to server owed
  reply_sent place prefix before ask owed asked none waits =
      turn_sent onward goes terms None 0 server before (chain.so_far place prefix) ask (chain.behind place prefix) owed (quiet_ask place prefix ask asked) (behind_silent server place.stage (sight_over place prefix))
      ∙ ap (λ l. l ++ sent_to server owed) (ap (λ l. l ++ sent_to server (chain.so_far place prefix)) none ∙ waits)

  -- ---- a server that was connected before the conversation, and is not that of its parked side

  pub record OffThere (place : Standing) (prefix : List (Timed Event)) (es : List (Stamped Event)) (before : List Command) : Type 0 where
    below : AreBelow place
    known : IsDialled server place.stage
    off : IsNotUpBy server (side_of place.stage)
    silent : IsSilent server before

  abbrev Quiet : List Command → Type 0
  Quiet owed = IsSilent server owed

  off_keeps : KeepsAll chain OffThere Quiet
  off_keeps = record {
    passes = λ place prefix es before is.
        let seen : Sight = sight_over place prefix in
        let to : Stage = (pass terms place.stage seen).stage in
        record {
          below = ((http_counts onward goes terms).passes place prefix is.below).stays;
          known = dialled_onward server onward goes to (dialled_passed server terms place.stage seen is.known);
          off = off_onward server onward goes to (off_passed server terms place.stage seen is.off);
          silent = silent_both server before (chain.pass place prefix).owed is.silent (off_pass server terms place.stage seen is.off);
        };
    hears = λ last place prefix e es before is. record { below = is.below; known = is.known; off = is.off; silent = is.silent };
    turns = λ place prefix es before ask answer asked is.
        let seen : Sight = sight_over place prefix in
        let turned : Turn Stage Command = turn terms place.stage seen answer in
        record {
          below = (turns_counted onward goes terms place prefix answer is.below).stays;
          known = dialled_onward server onward goes turned.stage (dialled_turned server terms place.stage seen answer is.below is.known);
          off = off_onward server onward goes turned.stage (off_turned server terms place.stage seen answer is.known is.off);
          silent = reply_sent place prefix before ask turned.owed asked is.silent (so_far_silent server terms place.stage seen (off_not_up server place.stage is.off))
              ∙ off_turn server terms place.stage seen answer is.below is.known is.off;
        };
    stops = λ place prefix es before is.
        silent_both server before (chain.so_far place prefix ++ found_at chain place prefix) is.silent
        (silent_both server (chain.so_far place prefix) (found_at chain place prefix) (so_far_silent server terms place.stage (sight_over place prefix) (off_not_up server place.stage is.off))
        (quiet_found place prefix));
  }

  pub walk_off : (rs : List (Stamped Reply)) (last : Stamp) (before : List Command) (place : Standing) (prefix : List (Timed Event)) (es : List (Stamped Event)) → AreBelow place → IsDialled server place.stage →
      IsNotUpBy server (side_of place.stage) → IsSilent server before → IsSilent server (owed_at chain (walk chain rs last before place prefix es))
  walk_off rs last before place prefix es below known off silent =
      walk_kept chain OffThere Quiet off_keeps rs last before place prefix es (record { below = below; known = known; off = off; silent = silent })

  -- ---- one that was not dialled yet

  pub record NewThere (place : Standing) (prefix : List (Timed Event)) (es : List (Stamped Event)) (before : List Command) : Type 0 where
    below : AreBelow place
    within : IsWithin place prefix
    few : dialled place.stage ≤ server
    silent : IsSilent server before

  new_passed : (place : Standing) (prefix : List (Timed Event)) (es : List (Stamped Event)) (before : List Command) → NewThere place prefix es before →
      NewThere (chain.pass place prefix).stage prefix es (before ++ (chain.pass place prefix).owed)
  new_passed place prefix es before is =
      let on = (http_counts onward goes terms).passes place prefix is.below in
      let fewer = on.few in
      let few = is.few in
      record {
        below = on.stays;
        within = within_passed onward goes terms place prefix is.within;
        few = omega arith;
        silent = silent_both server before (chain.pass place prefix).owed is.silent (on.silent server is.few);
      }

  new_heard : (last : Stamp) (place : Standing) (prefix : List (Timed Event)) (e : Stamped Event) (es : List (Stamped Event)) (before : List Command) → NewThere place prefix (e ∷ es) before →
      NewThere place (prefix ++ worked_off last e ∷ []) es before
  new_heard last place prefix e es before is = record { below = is.below; within = within_more place prefix (worked_off last e) is.within; few = is.few; silent = is.silent }

  new_turned : (place : Standing) (prefix : List (Timed Event)) (es : List (Stamped Event)) (before : List Command) (ask : Command) (answer : Timed Reply) → chain.look place prefix ≡ Asks ask →
      connects_to server place.stage answer.value ≡ false → NewThere place prefix es before →
      NewThere (chain.turn place prefix answer).stage prefix es (before ++ (chain.so_far place prefix ++ ask ∷ (chain.behind place prefix ++ (chain.turn place prefix answer).owed)))
  new_turned place prefix es before ask answer asked other is =
      let seen : Sight = sight_over place prefix in
      let turned : Turn Stage Command = turn terms place.stage seen answer in
      let same = onward_same onward goes turned.stage in
      let few = few_turned server terms place.stage seen answer is.few other in
      record {
        below = (turns_counted onward goes terms place prefix answer is.below).stays;
        within = within_stood terms place answer.moment prefix (onward turned.stage) (onward_from onward goes terms place.stage seen answer) is.within;
        few = omega arith;
        silent = reply_sent place prefix before ask turned.owed asked is.silent (so_far_far server terms place.stage seen is.below is.few)
            ∙ new_turn server terms place.stage seen answer is.below is.few other;
      }

  new_stops : (place : Standing) (prefix : List (Timed Event)) (es : List (Stamped Event)) (before : List Command) → NewThere place prefix es before →
      IsSilent server (before ++ (chain.so_far place prefix ++ found_at chain place prefix))
  new_stops place prefix es before is =
      silent_both server before (chain.so_far place prefix ++ found_at chain place prefix) is.silent
      (silent_both server (chain.so_far place prefix) (found_at chain place prefix) (so_far_far server terms place.stage (sight_over place prefix) is.below is.few) (quiet_found place prefix))

  -- ---- its dial is answered with the connection

  module _ (prefix : List (Timed Event)) (es : List (Stamped Event)) (before : List Command) (ask : Command) where
    abbrev ConnectsAt : Address → Standing → Timed Reply → Type 0
    ConnectsAt address place answer =
        chain.look place prefix ≡ Asks ask → NewThere place prefix es before →
        There onward goes terms server address (length prefix) es (chain.turn place prefix answer).stage prefix es
        (sent_to server (before ++ (chain.so_far place prefix ++ ask ∷ (chain.behind place prefix ++ (chain.turn place prefix answer).owed))))

    connects_here : (at : At) (flow : Flow) (how : Sent) (was : Standing) (moment : ℕ) → (at.dials == server) ≡ true →
        ConnectsAt (server_for terms.place flow.request) (record was { stage = busy at flow (connection how) }) (record { moment = moment; value = reply.Dialled })
    connects_here at flow how was moment number asked is =
        let place : Standing = record was { stage = busy at flow (connection how) } in
        let answer : Timed Reply = record { moment = moment; value = reply.Dialled } in
        let address : Address = server_for terms.place flow.request in
        let seen : Sight = sight_over place prefix in
        let turned : Turn Stage Command = turn terms place.stage seen answer in
        let there : Standing = stands terms place moment prefix (onward turned.stage) in
        let past : Sight = sight_behind terms.place place.stage seen moment turned.stage in
        let same = eqb-true at.dials server number in
        let all = drop_all prefix in
        let sight = sight_turned onward goes terms place prefix answer ∙ behind_onward onward goes terms.place place.stage seen moment turned.stage in
        record {
          below = (turns_counted onward goes terms place prefix answer is.below).stays;
          untold = untold_onward onward goes turned.stage (told_behind terms.place place.stage seen) (untold_turned terms place.stage seen answer);
          within = within_stood terms place moment prefix (onward turned.stage) (onward_from onward goes terms place.stage seen answer) is.within;
          known = dialled_onward server onward goes turned.stage (omega arith);
          come = omega arith;
          splits = subst (λ l. Splits l es es) (sym all) refl;
          since = λ side. refl;
          turns = subst (λ s. TurnsAt server terms address there.stage (sight_over there prefix) s (bytes_of (Server server) (drop (length prefix) prefix)))
              (sym (reply_sent place prefix before ask turned.owed asked is.silent (so_far_silent server terms place.stage seen tt)))
              (subst (λ h. TurnsAt server terms address there.stage (sight_over there prefix) (sent_to server turned.owed) (bytes_of (Server server) h)) (sym all)
              (subst (λ v. TurnsAt server terms address there.stage v (sent_to server turned.owed) []) (sym sight)
              (onward_turns server terms address onward goes turned.stage past (sent_to server turned.owed) []
              (connected_turns server terms address how (unspoilt_at at seen) flow past moment seen.closed number refl refl refl))));
        }

    connects_there : (place : Standing) (answer : Timed Reply) (c : IsConnected server place.stage answer.value) → ConnectsAt (server_for terms.place c.flow.request) place answer
    connects_there place answer c =
        let address : Address = server_for terms.place c.flow.request in
        subst (λ v. ConnectsAt address place (record { moment = answer.moment; value = v })) (sym c.value)
        (subst (λ s. ConnectsAt address (record place { stage = s }) (record { moment = answer.moment; value = reply.Dialled })) (sym c.there)
        (connects_here c.at c.flow c.how place answer.moment c.number))

  -- ---- from there on, or never

  module _ (parked : Option Parked) (dials : ℕ) (later : dials ≤ server) where
    abbrev Result : List Command → List (Stamped Event) → Type 0
    Result owed es = IsInTurn terms.place parked dials server (sent_to server owed) (bytes_among server es)

    never_before : (address : Address) → server < dials → IsOfParked parked server address
    never_before address low = absurd (let no : ⊥ = omega arith in no)

    module _ (last : Stamp) (r : Stamped Reply) (rs : List (Stamped Reply)) (here : Reached Standing Event Command) (there : NewThere here.stage here.prefix here.rest here.before)
        (on : (before : List Command) (place : Standing) (prefix : List (Timed Event)) (es : List (Stamped Event)) → NewThere place prefix es before →
        Result (owed_at chain (walk chain rs r.stamp before place prefix es)) (behind_answer chain server rs r.stamp place prefix es)) where
      abbrev at : Turn Standing Command
      at = chain.turn here.stage here.prefix (at_its_step r)

      abbrev behind_it : List (Stamped Event)
      behind_it = behind_answer chain server rs r.stamp at.stage here.prefix here.rest

      abbrev owed_then : Command → List Command
      owed_then ask = here.before ++ (chain.so_far here.stage here.prefix ++ ask ∷ (chain.behind here.stage here.prefix ++ at.owed))

      asked_by : (connects : Bool) → connects_to server here.stage.stage r.value ≡ connects → (ask : Command) → chain.look here.stage here.prefix ≡ Asks ask →
          Result (owed_at chain (walk chain rs r.stamp (owed_then ask) at.stage here.prefix here.rest)) (behind_by (Asks ask) connects here.rest behind_it)
      asked_by true is ask asked =
          let c = connected_is server here.stage.stage r.value is in
          let address : Address = server_for terms.place c.flow.request in
          by_turns address (never_before address)
          (walk_there onward goes terms server address (length here.prefix) here.rest rs r.stamp (owed_then ask) at.stage here.prefix here.rest
          (connects_there here.prefix here.rest here.before ask here.stage (at_its_step r) c asked there))
      asked_by false is ask asked =
          on (owed_then ask) at.stage here.prefix here.rest (new_turned here.stage here.prefix here.rest here.before ask (at_its_step r) asked is there)

      look_by : (l : Look Command) → chain.look here.stage here.prefix ≡ l →
          Result (owed_at chain (walk_by l (λ ask. walk chain rs r.stamp (owed_then ask) at.stage here.prefix here.rest) (stop_at last here (r ∷ rs))))
          (behind_by l (connects_to server here.stage.stage r.value) here.rest behind_it)
      look_by NotYet is = is_sent_nothing (new_stops here.stage here.prefix here.rest here.before there)
      look_by (Asks ask) is = asked_by (connects_to server here.stage.stage r.value) refl ask is
      look_by (Ends owed) is = is_sent_nothing (new_stops here.stage here.prefix here.rest here.before there)

    pub walk_new : (rs : List (Stamped Reply)) (last : Stamp) (before : List Command) (place : Standing) (prefix : List (Timed Event)) (es : List (Stamped Event)) → NewThere place prefix es before →
        Result (owed_at chain (walk chain rs last before place prefix es)) (behind_answer chain server rs last place prefix es)
    walk_new [] last before place prefix es is =
        let here : Reached Standing Event Command = reach chain last before place prefix es in
        is_sent_nothing (new_stops here.stage here.prefix here.rest here.before (reach_kept chain NewThere new_passed new_heard last before place prefix es is))
    walk_new (r ∷ rs) last before place prefix es is =
        let here : Reached Standing Event Command = reach chain last before place prefix es in
        let there = reach_kept chain NewThere new_passed new_heard last before place prefix es is in
        let heard_at : Reached Standing Event Command → List (Stamped Event) = λ h.
        behind_by (chain.look h.stage h.prefix) (connects_to server h.stage.stage r.value) h.rest
        (behind_answer chain server rs r.stamp (chain.turn h.stage h.prefix (at_its_step r)).stage h.prefix h.rest) in
        subst (λ l. Result (owed_at chain (walk chain (r ∷ rs) last before place prefix es)) l) (ap heard_at (same_reach chain last before [] place prefix es))
        (look_by last r rs here there (λ b p q e holds. walk_new rs r.stamp b p q e holds) (chain.look here.stage here.prefix) refl)

-- ---- the start

nothing_heard : (side : Option ℕ) → bytes_over side 0 [] ≡ []
nothing_heard None = refl
nothing_heard (Some side) = refl

not_below : (a b : ℕ) → nat_lt a b ≡ false → b ≤ a
not_below a b is = by_order (λ low. let e : true ≡ false = sym (lt-ltb a b low) ∙ is in cc)
  where
    by_order : (a < b → ⊥) → b ≤ a
    by_order apart = omega arith

module _ (onward : Stage → Stage) (goes : IsOnward onward) (terms : Terms) (at : At) (below : ParkedBelow at.parked at.dials) (server : ℕ) (moves : List Move) where
  abbrev chain_of : Chain Standing Event Reply Command
  chain_of = http_chain onward terms

  abbrev due_there : List Command
  due_there = due_by chain_of (begin (idle at)) moves

  abbrev InTurn : List (Stamped Event) → Type 0
  InTurn es = IsInTurn terms.place at.parked at.dials server (sent_to server due_there) (bytes_among server es)

  sides_below : AreBelow (begin (idle at))
  sides_below = parked_below at.parked at.dials below

  begins_within : IsWithin (begin (idle at)) []
  begins_within = record { since = omega arith; opened = omega arith; client = omega arith; server = omega arith }

  off_start : server < at.dials → IsNotUpBy server (side_parked at.parked) → InTurn (events_in 1 moves)
  off_start low off = is_sent_nothing (walk_off onward goes terms server (replies_in 1 moves) never [] (begin (idle at)) [] (events_in 1 moves) sides_below low off refl)

  parked_start : server < at.dials → (parked : Parked) → at.parked ≡ Some parked → (same : Bool) → (parked.server == server) ≡ same → InTurn (events_in 1 moves)
  parked_start low parked is true number =
      let own = eqb-true parked.server server number in
      let seen : Sight = sight_over (begin (idle at)) [] in
      let none : seen.server ≡ [] = nothing_heard (side_parked at.parked) in
      by_turns parked.address (λ earlier. record { side = parked; there = is; number = own; same = refl })
      (walk_there onward goes terms server parked.address 0 (events_in 1 moves) (replies_in 1 moves) never [] (begin (idle at)) [] (events_in 1 moves) (record {
        below = sides_below;
        untold = tt;
        within = begins_within;
        known = low;
        come = omega arith;
        splits = refl;
        since = λ side. refl;
        turns = at_rest [] (none_answered terms.place parked.address) (sym none) (record { side = parked; there = is; number = own; same = same_self parked.address });
      }))
  parked_start low parked is false other = off_start low (subst (λ p. IsNotUpBy server (side_parked p)) (sym is) other)

  start_by : server < at.dials → (parked : Option Parked) → at.parked ≡ parked → InTurn (events_in 1 moves)
  start_by low None is = off_start low (subst (λ p. IsNotUpBy server (side_parked p)) (sym is) tt)
  start_by low (Some parked) is = parked_start low parked is (parked.server == server) refl

  by_number : (before : Bool) → nat_lt server at.dials ≡ before →
      InTurn (if before then events_in 1 moves else behind_answer chain_of server (replies_in 1 moves) never (begin (idle at)) [] (events_in 1 moves))
  by_number true is = start_by (ltb-true server at.dials is) at.parked refl
  by_number false is =
      let later = not_below server at.dials is in
      walk_new onward goes terms server at.parked at.dials later (replies_in 1 moves) never [] (begin (idle at)) [] (events_in 1 moves)
      (record { below = sides_below; within = begins_within; few = later; silent = refl })

  -- A server is sent requests to one address, each behind the whole answer to the one before.
  pub sent_in_turn : IsInTurn terms.place at.parked at.dials server (sent_to server due_there) (heard_of onward terms at server moves)
  sent_in_turn = by_number (nat_lt server at.dials) refl
