-- What a server is sent, against what it says, along a walk of the chain: from where the server is connected, and before that nothing.
use Rattle.std.proofs.Common.{◌≡◌, ℕ, ◌<◌, ◌≤◌, Bool, true, List, [], ◌∷◌, ◌++◌, length, drop, Option, Some, None, refl, ap, sym, ◌∙◌, subst, arith, length-append}
use Rattle.std.specs.Prelude.{◌==◌}
use Rattle.std.proofs.lemmas.List.{append-nil, drop-append-le}
use Rattle.px_message.specs.declared.address.Address.{Address}
use Rattle.px_message.specs.declared.flow.Flow.{Flow}
use Rattle.px_event.specs.declared.command.Command.{Command}
use Rattle.px_event.specs.declared.event.Event.{Event}
use Rattle.px_event.specs.declared.reply.Reply.{Reply}
use Rattle.px_event.specs.declared.reply.Reply.TheVariants as reply
use Rattle.px_event.specs.declared.side.Side.TheVariants.{Server}
use Rattle.px_event.specs.Chain.{Stamp, Stamped, Timed, Asks, Turn, Chain, worked_off, walk, found, found_at, owed_at}
use Rattle.px_event.specs.View.{bytes_in, line, seen_of}
use Rattle.px_exchange.specs.declared.terms.Terms.{Terms}
use Rattle.px_exchange.specs.Places.{is_same_address, server_for}
use Rattle.px_chain.specs.Behind.{dials_at, sight_behind}
use Rattle.px_chain.specs.Chain.{IsOnward, behind, dial_leads, dial_owes_by, http_chain, is_alone, is_sequence, look, opened_by, pass, passed, reached, sequence, sight_past, so_far, stands, turn}
use Rattle.px_chain.specs.Going.{going_text, told_behind}
use Rattle.px_chain.specs.Sights.{IsWithin, Sight, Standing, bytes_over, sight_over}
use Rattle.px_chain.specs.Stages.{At, Sent, Stage, all_sent, busy, going_up, idle, next, over, side_of}
use Rattle.px_chain.specs.Streams.{bytes_of}
use Rattle.px_chain.proofs.BelowLemmas.{http_counts, turns_counted}
use Rattle.px_chain.proofs.CountedLemmas.{IsSilent, silent_found}
use Rattle.px_chain.proofs.GoingLaws.{client_grows}
use Rattle.px_chain.proofs.OnceLemmas.{sent_join, sent_to}
use Rattle.px_chain.proofs.SentLemmas.{connected_said, turn_sent, untold_onward, untold_passed, untold_turned}
use Rattle.px_chain.proofs.SightLaws.{IsSideFrom, behind_onward, is_new, no_side, onward_from, same_server, side_onward, sight_passed, sight_turned, within_more, within_passed, within_stood}
use Rattle.px_chain.proofs.SilentLemmas.{AreBelow, behind_silent, looks_silent}
use Rattle.px_chain.proofs.TellLemmas.{IsUntold, TellsBy}
use Rattle.px_turns.specs.Turns.{Exchanges, bytes_among, is_settled}
use Rattle.px_turns.proofs.ExchangeLemmas.{exchanges_more, none_answered}
use Rattle.px_turns.proofs.PassLemmas.{TurnsAt, at_rest, awaits_one, goes_on, hears_turns, is_off, pass_turns, switched}
use Rattle.px_turns.proofs.PlaceLemmas.{same_self}
use Rattle.px_turns.proofs.ReplyLemmas.{waited_ends, waited_turns}
use Rattle.px_turns.proofs.OffLemmas.{IsDialled, dialled_onward, dialled_passed, dialled_turned, side_before}
use Rattle.px_turns.proofs.TurnLemmas.{turn_turns}
use Rattle.px_turns.proofs.WalkLemmas.{KeepsAll, Splits, bytes_on, split_bytes, splits_more, walk_kept}

module _ (server : ℕ) (terms : Terms) (address : Address) where
  abbrev Turns : Stage → Sight → List ℕ → List ℕ → Type 0
  Turns stage seen sent heard = TurnsAt server terms address stage seen sent heard

  -- where the next flow begins
  sequence_turns : (stage : Stage) (seen : Sight) (sent heard : List ℕ) → Turns stage seen sent heard → Turns (sequence stage) seen sent heard
  sequence_turns (idle at) seen sent heard turns = turns
  sequence_turns (busy at flow doing) seen sent heard turns = turns
  sequence_turns (next at) seen sent heard (at_rest said all come rests) = at_rest said all come rests
  sequence_turns (next at) seen sent heard (awaits_one before text said all same come awaits) = absurd awaits
  sequence_turns (next at) seen sent heard (goes_on before now said all same come tells goes) = absurd tells
  sequence_turns (next at) seen sent heard (is_off ends off) = is_off ends off
  sequence_turns (next at) seen sent heard (switched ends up) = absurd up
  sequence_turns over seen sent heard turns = turns

  pub onward_turns : (onward : Stage → Stage) → IsOnward onward → (stage : Stage) (seen : Sight) (sent heard : List ℕ) → Turns stage seen sent heard → Turns (onward stage) seen sent heard
  onward_turns onward (is_alone same) stage seen sent heard turns = rw same turns
  onward_turns onward (is_sequence same) stage seen sent heard turns = rw same (sequence_turns stage seen sent heard turns)

  -- it is connected: the first request is sent to it, or begins to go up
  first_tells : (flow : Flow) (seen : Sight) → seen.told ≡ 0 → TellsBy server terms None 0 flow seen []
  first_tells flow seen told = record { told = sym told; begins = (going_text terms.place flow seen, refl); goes_there = λ before. absurd (omega arith) }

  pub connected_turns : (how : Sent) (at : At) (flow : Flow) (past : Sight) (moment : ℕ) (closed : Bool) → (at.dials == server) ≡ true → address ≡ server_for terms.place flow.request → past.told ≡ 0 → past.server ≡ [] →
      Turns (dial_leads terms.place at flow how reply.Dialled) past (sent_to server (dial_owes_by how terms.place flow at.dials reply.Dialled moment closed)) []
  connected_turns all_sent at flow past moment closed number is told none =
      let goes = subst (λ a. is_same_address address a ≡ true) is (same_self address) in
      awaits_one [] _ [] (none_answered terms.place address) refl (sym none)
      (number, record { request = flow.request; method = refl; goes = goes; own = goes; is_text = is_settled (connected_said server terms flow at.dials number) })
  connected_turns going_up at flow past moment closed number is told none =
      goes_on [] [] [] (none_answered terms.place address) refl (sym none) (number, first_tells (reached terms.place flow) past told)
      (subst (λ a. is_same_address address a ≡ true) is (same_self address))

-- ---- a server that is connected

module _ (onward : Stage → Stage) (goes : IsOnward onward) (terms : Terms) (server : ℕ) where
  abbrev chain : Chain Standing Event Reply Command
  chain = http_chain onward terms

  -- what was heard of it: behind so many events
  abbrev heard_over : ℕ → List (Timed Event) → List ℕ
  heard_over opened prefix = bytes_of (Server server) (drop opened prefix)

  module _ (address : Address) (opened : ℕ) (events : List (Stamped Event)) where
    -- A place of a conversation, where this was sent to the server, which was connected over so many events, with these to come then.
    pub record There (place : Standing) (prefix : List (Timed Event)) (es : List (Stamped Event)) (sent : List ℕ) : Type 0 where
      pub below : AreBelow place
      pub untold : IsUntold place.stage place.told
      pub within : IsWithin place prefix
      pub known : IsDialled server place.stage
      pub come : opened ≤ length prefix
      pub splits : Splits (drop opened prefix) es events
      pub since : side_of place.stage ≡ Some server → place.opened ≡ opened
      pub turns : TurnsAt server terms address place.stage (sight_over place prefix) sent (heard_over opened prefix)

    abbrev pub Holds : Standing → List (Timed Event) → List (Stamped Event) → List Command → Type 0
    Holds place prefix es before = There place prefix es (sent_to server before)

    abbrev pub EndsSo : List Command → Type 0
    EndsSo owed = Exchanges terms.place address (sent_to server owed) (bytes_among server events)

    there_passed : (place : Standing) (prefix : List (Timed Event)) (es : List (Stamped Event)) (before : List Command) → Holds place prefix es before →
        Holds (chain.pass place prefix).stage prefix es (before ++ (chain.pass place prefix).owed)
    there_passed place prefix es before is =
        let seen : Sight = sight_over place prefix in
        let to : Stage = (pass terms place.stage seen).stage in
        let owed : List Command = (pass terms place.stage seen).owed in
        let there : Standing = passed onward terms place seen in
        let sent : List ℕ = sent_to server before ++ sent_to server owed in
        let heard : List ℕ = heard_over opened prefix in
        record {
          below = ((http_counts onward goes terms).passes place prefix is.below).stays;
          untold = untold_onward onward goes to place.told (untold_passed terms place.stage seen place.told is.untold);
          within = within_passed onward goes terms place prefix is.within;
          known = dialled_onward server onward goes to (dialled_passed server terms place.stage seen is.known);
          come = is.come;
          splits = is.splits;
          since = λ side. is.since (side_before server terms place.stage seen (sym (side_onward onward goes to) ∙ side));
          turns = subst (λ s. TurnsAt server terms address there.stage (sight_over there prefix) s heard) (sym (sent_join server before owed))
              (subst (λ past. TurnsAt server terms address there.stage past sent heard) (sym (sight_passed onward goes terms place prefix))
              (onward_turns server terms address onward goes to (sight_past terms place.stage seen) sent heard (pass_turns server terms address place.stage seen (sent_to server before) heard is.untold is.turns)));
        }

    -- what is seen of it
    seen_of_it : (place : Standing) (prefix : List (Timed Event)) → side_of place.stage ≡ Some server → place.opened ≡ opened →
        bytes_over (side_of place.stage) place.opened prefix ≡ heard_over opened prefix
    seen_of_it place prefix side since = ap (λ s. bytes_over s place.opened prefix) side ∙ ap (λ n. heard_over n prefix) since

    more_seen : (place : Standing) (prefix : List (Timed Event)) (event : Timed Event) (more : List ℕ) → IsWithin place prefix → side_of place.stage ≡ Some server → place.opened ≡ opened →
        heard_over opened (prefix ++ event ∷ []) ≡ heard_over opened prefix ++ more → (sight_over place (prefix ++ event ∷ [])).server ≡ (sight_over place prefix).server ++ more
    more_seen place prefix event more within side since grown =
        let before = seen_of_it place prefix side since in
        let after = seen_of_it place (prefix ++ event ∷ []) side since in
        let fits = within.server in
        let same : length (bytes_over (side_of place.stage) place.opened prefix) ≡ length (heard_over opened prefix) = ap length before in
        ap (drop place.used.server) (after ∙ grown)
        ∙ (drop-append-le place.used.server (heard_over opened prefix) more (omega arith)
        ∙ ap (λ l. drop place.used.server l ++ more) (sym before))

    there_heard : (last : Stamp) (place : Standing) (prefix : List (Timed Event)) (e : Stamped Event) (es : List (Stamped Event)) (before : List Command) → Holds place prefix (e ∷ es) before →
        Holds place (prefix ++ worked_off last e ∷ []) es before
    there_heard last place prefix e es before is =
        let event : Timed Event = worked_off last e in
        let longer = length-append prefix (event ∷ []) in
        let fits = is.come in
        let behind = drop-append-le opened prefix (event ∷ []) is.come in
        let on = bytes_on server (drop opened prefix) event in
        let grown : heard_over opened (prefix ++ event ∷ []) ≡ heard_over opened prefix ++ on.0 = ap (bytes_of (Server server)) behind ∙ on.1 in
        record {
          below = is.below;
          untold = is.untold;
          within = within_more place prefix event is.within;
          known = is.known;
          come = omega arith;
          splits = subst (λ l. Splits l es events) (sym behind) (splits_more last e (drop opened prefix) es events is.splits);
          since = is.since;
          turns = hears_turns server terms address place.stage (sight_over place prefix) (sight_over place (prefix ++ event ∷ [])) (sent_to server before) (heard_over opened prefix)
              (heard_over opened (prefix ++ event ∷ [])) on.0 (client_grows place.used.client prefix event) refl grown
              (λ side. more_seen place prefix event on.0 is.within side (is.since side) grown) is.turns;
        }

    -- no new side is its
    since_by : (place : Standing) (side : Option ℕ) (come : ℕ) → IsDialled server place.stage → IsSideFrom place.stage side → (side_of place.stage ≡ Some server → place.opened ≡ opened) → side ≡ Some server →
        opened_by (dials_at place.stage) place.opened come ≡ opened
    since_by place side come known (no_side none) since is = absurd (let e : None ≡ Some server = sym none ∙ is in cc)
    since_by place side come known (is_new at flow how there new) since is =
        let low : server < at.dials = subst (IsDialled server) there known in
        let e : Some at.dials ≡ Some server = sym new ∙ is in
        let same : at.dials ≡ server = cc in
        absurd (let no : ⊥ = omega arith in no)
    since_by place side come known (same_server none same) since is = ap (λ d. opened_by d place.opened come) none ∙ since (sym same ∙ is)

    there_turned : (place : Standing) (prefix : List (Timed Event)) (es : List (Stamped Event)) (before : List Command) (ask : Command) (answer : Timed Reply) → chain.look place prefix ≡ Asks ask →
        Holds place prefix es before →
        Holds (chain.turn place prefix answer).stage prefix es (before ++ (chain.so_far place prefix ++ ask ∷ (chain.behind place prefix ++ (chain.turn place prefix answer).owed)))
    there_turned place prefix es before ask answer asked is =
        let seen : Sight = sight_over place prefix in
        let turned : Turn Stage Command = turn terms place.stage seen answer in
        let there : Standing = stands terms place answer.moment prefix (onward turned.stage) in
        let waits : List Command = so_far terms place.stage seen in
        let parts : List Command = behind place.stage seen in
        let one : IsSilent server (ask ∷ []) = ap (λ l. bytes_in (seen_of (line (Server server)) (found l))) (sym asked) ∙ looks_silent server terms place.stage seen in
        let past : Sight = sight_behind terms.place place.stage seen answer.moment turned.stage in
        let sent : List ℕ = sent_to server before ++ sent_to server waits in
        let heard : List ℕ = heard_over opened prefix in
        let ends = waited_ends server terms address place.stage seen (sent_to server before) heard is.turns in
        let told = waited_turns server terms address place.stage seen (sent_to server before) heard is.turns in
        let sight = sight_turned onward goes terms place prefix answer ∙ behind_onward onward goes terms.place place.stage seen answer.moment turned.stage in
        let from = onward_from onward goes terms place.stage seen answer in
        record {
          below = (turns_counted onward goes terms place prefix answer is.below).stays;
          untold = untold_onward onward goes turned.stage (told_behind terms.place place.stage seen) (untold_turned terms place.stage seen answer);
          within = within_stood terms place answer.moment prefix (onward turned.stage) from is.within;
          known = dialled_onward server onward goes turned.stage (dialled_turned server terms place.stage seen answer is.below is.known);
          come = is.come;
          splits = is.splits;
          since = λ side. since_by place (side_of (onward turned.stage)) (length prefix) is.known from is.since side;
          turns = subst (λ s. TurnsAt server terms address there.stage (sight_over there prefix) s heard)
              (sym (turn_sent onward goes terms None 0 server before waits ask parts turned.owed one (behind_silent server place.stage seen)))
              (subst (λ v. TurnsAt server terms address there.stage v (sent ++ sent_to server turned.owed) heard) (sym sight)
              (onward_turns server terms address onward goes turned.stage past (sent ++ sent_to server turned.owed) heard
              (turn_turns server terms address place.stage seen past answer sent heard ends is.below is.known refl told)));
        }

    there_stops : (place : Standing) (prefix : List (Timed Event)) (es : List (Stamped Event)) (before : List Command) → Holds place prefix es before →
        EndsSo (before ++ (chain.so_far place prefix ++ found_at chain place prefix))
    there_stops place prefix es before is =
        let seen : Sight = sight_over place prefix in
        let waits : List Command = so_far terms place.stage seen in
        let none : IsSilent server (found_at chain place prefix) =
        silent_found server (behind place.stage seen) (look terms place.stage seen) (behind_silent server place.stage seen) (looks_silent server terms place.stage seen) in
        let same = sent_join server before (waits ++ found_at chain place prefix)
        ∙ ap (λ l. sent_to server before ++ l) (sent_join server waits (found_at chain place prefix)
        ∙ (ap (λ l. sent_to server waits ++ l) none ∙ append-nil (sent_to server waits))) in
        let all = split_bytes server (drop opened prefix) es events is.splits in
        let ends = waited_ends server terms address place.stage seen (sent_to server before) (heard_over opened prefix) is.turns in
        subst (λ s. Exchanges terms.place address s (bytes_among server events)) (sym same)
        (subst (λ h. Exchanges terms.place address (sent_to server before ++ sent_to server waits) h) (sym all.1)
        (exchanges_more terms.place address (sent_to server before ++ sent_to server waits) (heard_over opened prefix) all.0 ends))

    there_keeps : KeepsAll chain Holds EndsSo
    there_keeps = record { passes = there_passed; hears = there_heard; turns = there_turned; stops = there_stops }

    -- So all that is due is exchanged.
    pub walk_there : (rs : List (Stamped Reply)) (last : Stamp) (before : List Command) (place : Standing) (prefix : List (Timed Event)) (es : List (Stamped Event)) → Holds place prefix es before →
        EndsSo (owed_at chain (walk chain rs last before place prefix es))
    walk_there rs last before place prefix es is = walk_kept chain Holds EndsSo there_keeps rs last before place prefix es is
