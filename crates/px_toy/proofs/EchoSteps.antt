-- One move of the server that echoes lines, where it is: an event taken, and a reply given.
use Rattle.std.proofs.Common.{◌≡◌, ℕ, ◌+◌, ◌<◌, ◌≤◌, Bool, true, false, List, [], ◌∷◌, ◌++◌, length, take, drop, Option, Some, None, refl, ap, sym, ◌∙◌, subst, arith, length-append, length-drop}
use Rattle.std.proofs.lemmas.List.{append-nil, drop-drop}
use Rattle.px_message.specs.declared.flow.Flow.{Flow}
use Rattle.px_event.specs.declared.event.Event.{Event}
use Rattle.px_event.specs.declared.event.Event.TheVariants as events
use Rattle.px_event.specs.declared.reply.Reply.{Reply}
use Rattle.px_event.specs.declared.command.Command.{Command}
use Rattle.px_event.specs.declared.command.Command.TheVariants as commands
use Rattle.px_event.specs.declared.side.Side.TheVariants.{Client, Server}
use Rattle.px_event.specs.Chain.{Timed, Turn, found}
use Rattle.px_event.specs.Laws.{owed_here, owed_over}
use Rattle.px_event.specs.View.{seen_of}
use Rattle.px_event.proofs.Steps.{Takes, onward, past_end, Resumes}
use Rattle.px_toy.specs.declared.echo.LineEcho.{LineEcho}
use Rattle.px_toy.specs.declared.echo.Phase.TheVariants as phases
use Rattle.px_toy.specs.Echo.{piece_in, client_bytes, closes_client, is_closed, first_line, EchoStage, Reading, Over, unread, pass_by, pass, ask_about, look_by, is_kill, echoed, turn_by, turn, echo_chain}
use Rattle.px_toy.specs.Stands.{phase_at, asks_at, awaited_in, IsReading, IsAt}
use Rattle.px_toy.specs.Laws.{line_within, client_append, still_open, now_closed, unread_append}

-- what a phase says of the first line
no_line : (flow : Flow) (line : Option ℕ) → awaited_in flow (phase_at line) ≡ None → line ≡ None
no_line flow None is = refl
no_line flow (Some size) is = absurd (let no : Some (ask_about flow) ≡ None = is in cc)

a_line : (line : Option ℕ) (size : ℕ) → phase_at line ≡ phases.Asked size → line ≡ Some size
a_line None size is = absurd (let no : phases.Reading ≡ phases.Asked size = is in cc)
a_line (Some other) size is = let same : phases.Asked other ≡ phases.Asked size = is in let e : other ≡ size = cc in ap Some e

not_over : (line : Option ℕ) → phase_at line ≡ phases.Over → ⊥
not_over None is = let no : phases.Reading ≡ phases.Over = is in cc
not_over (Some size) is = let no : phases.Asked size ≡ phases.Over = is in cc

-- what is asked is what is found
asks_found : (flow : Flow) (line : Option ℕ) → asks_at flow line ≡ found (look_by flow line)
asks_found flow None = refl
asks_found flow (Some size) = refl

-- a close has no bytes
no_piece : (event : Event) → closes_client event ≡ true → piece_in event ≡ []
no_piece events.Begun is = refl
no_piece (events.Piece Client bytes) is = absurd (let no : false ≡ true = is in cc)
no_piece (events.Piece (Server n) bytes) is = refl
no_piece (events.Closed side) is = refl
no_piece (events.Answered ask reply) is = refl

module _ (flow : Flow) (before after : LineEcho) (moment : ℕ) (event : Event) (more : List Command) where
  -- where it is over nothing follows
  pub over_takes : after ≡ before → more ≡ [] → before.phase ≡ phases.Over → (stage : EchoStage) (prefix : List (Timed Event)) → IsAt flow before stage prefix →
      Takes (echo_chain flow) (IsAt flow) after moment event more stage prefix
  over_takes same none over (Reading used) prefix at = absurd (not_over (first_line (unread used prefix)) (sym at.phase ∙ over))
  over_takes same none over Over prefix at =
      let P : LineEcho → Type 0 = λ s. IsAt flow s Over prefix in
      past_end [] refl (subst P (sym same) at) (λ view. ap (seen_of view) none)

  -- an event that is no close
  pub piece_takes : after.flow ≡ before.flow → (before.phase ≡ phases.Over → ⊥) → awaited_in before.flow before.phase ≡ None → closes_client event ≡ false →
      after.unread.items ≡ before.unread.items ++ piece_in event → after.phase ≡ phase_at (first_line (before.unread.items ++ piece_in event)) →
      more ≡ asks_at before.flow (first_line (before.unread.items ++ piece_in event)) →
      (stage : EchoStage) (prefix : List (Timed Event)) → IsAt flow before stage prefix → Takes (echo_chain flow) (IsAt flow) after moment event more stage prefix
  piece_takes same live free no_close keeps phase gives Over prefix at = absurd (live at.phase)
  piece_takes same live free no_close keeps phase gives (Reading used) prefix at =
      let chain = echo_chain flow in
      let e : Timed Event = record { moment = moment; value = event } in
      let longer : List (Timed Event) = prefix ++ e ∷ [] in
      let line : Option ℕ = first_line (unread used longer) in
      let no : first_line (unread used prefix) ≡ None = no_line before.flow _ (ap (λ p. awaited_in before.flow p) (sym at.phase) ∙ free) in
      let open_now : is_closed longer ≡ false = still_open prefix e at.open_still no_close in
      let bytes : before.unread.items ++ piece_in event ≡ unread used longer = ap (λ l. l ++ piece_in event) at.keeps ∙ sym (unread_append used prefix e at.within) in
      let place : IsReading flow after used longer = record {
        same_flow = same ∙ at.same_flow;
        keeps = keeps ∙ bytes;
        phase = phase ∙ ap (λ l. phase_at (first_line l)) bytes;
        open_still = open_now;
        within = let w = at.within in let l = length-append (client_bytes prefix) (piece_in event) in rw (client_append prefix e) (omega arith);
      } in
      let P : Bool → Type 0 = λ b. IsAt flow after (pass_by b line used).stage longer in
      let Q : Bool → Type 0 = λ b. more ≡ (pass_by b line used).owed ++ owed_here chain (pass_by b line used).stage longer in
      let owes : more ≡ found (look_by flow line) = gives ∙ (ap (λ f. asks_at f (first_line (before.unread.items ++ piece_in event))) at.same_flow ∙ (ap (λ l. asks_at flow (first_line l)) bytes ∙ asks_found flow line)) in
      onward (rw no refl) (subst P (sym open_now) place) (λ view. ap (seen_of view) (subst Q (sym open_now) owes))

  -- the client's close
  pub close_takes : after.flow ≡ before.flow → (before.phase ≡ phases.Over → ⊥) → awaited_in before.flow before.phase ≡ None → closes_client event ≡ true →
      after.unread.items ≡ [] → after.phase ≡ phases.Over → more ≡ commands.Close Client ∷ [] →
      (stage : EchoStage) (prefix : List (Timed Event)) → IsAt flow before stage prefix → Takes (echo_chain flow) (IsAt flow) after moment event more stage prefix
  close_takes same live free close keeps phase gives Over prefix at = absurd (live at.phase)
  close_takes same live free close keeps phase gives (Reading used) prefix at =
      let chain = echo_chain flow in
      let e : Timed Event = record { moment = moment; value = event } in
      let longer : List (Timed Event) = prefix ++ e ∷ [] in
      let no : first_line (unread used prefix) ≡ None = no_line before.flow _ (ap (λ p. awaited_in before.flow p) (sym at.phase) ∙ free) in
      let bytes : unread used longer ≡ unread used prefix = unread_append used prefix e at.within ∙ (ap (λ l. unread used prefix ++ l) (no_piece event close) ∙ append-nil (unread used prefix)) in
      let none : first_line (unread used longer) ≡ None = ap first_line bytes ∙ no in
      let closed : is_closed longer ≡ true = now_closed prefix e close in
      let passes : pass (Reading used) longer ≡ record { owed = commands.Close Client ∷ []; stage = Over } = rw (closed, none) refl in
      let P : Turn EchoStage Command → Type 0 = λ t. IsAt flow after t.stage longer in
      let Q : Turn EchoStage Command → Type 0 = λ t. more ≡ t.owed ++ owed_here chain t.stage longer in
      onward (rw no refl) (subst P (sym passes) (record { same_flow = same ∙ at.same_flow; keeps = keeps; phase = phase })) (λ view. ap (seen_of view) (subst Q (sym passes) gives))

asked_at : (flow : Flow) (before : LineEcho) (size : ℕ) (stage : EchoStage) (prefix : List (Timed Event)) → before.phase ≡ phases.Asked size → IsAt flow before stage prefix →
    (used : ℕ) × IsReading flow before used prefix × (first_line (unread used prefix) ≡ Some size)
asked_at flow before size (Reading used) prefix asked at = (used, at, a_line _ size (sym at.phase ∙ asked))
asked_at flow before size Over prefix asked at = absurd (let no : phases.Over ≡ phases.Asked size = sym at.phase ∙ asked in cc)

-- the line that is asked about is within what it keeps
pub asked_within : (flow : Flow) (before : LineEcho) (size : ℕ) (stage : EchoStage) (prefix : List (Timed Event)) → before.phase ≡ phases.Asked size → IsAt flow before stage prefix →
    (0 < size) × (size ≤ length before.unread.items)
asked_within flow before size stage prefix asked at =
    let there = asked_at flow before size stage prefix asked at in
    rw (there.1.keeps) (line_within (unread there.0 prefix) size there.2)

module _ (flow : Flow) (before after : LineEcho) (moment : ℕ) (reply : Reply) (size : ℕ) (more : List Command) where
  turned : (used : ℕ) (prefix : List (Timed Event)) (kill : Bool) → first_line (unread used prefix) ≡ Some size → is_kill reply ≡ kill →
      turn (Reading used) prefix (record { moment = moment; value = reply }) ≡ turn_by kill reply size (unread used prefix) used
  turned used prefix kill line is = rw (line, is) refl

  -- a reply that ends it
  pub kill_resumes : after.flow ≡ before.flow → before.phase ≡ phases.Asked size → is_kill reply ≡ true → after.unread.items ≡ [] → after.phase ≡ phases.Over → more ≡ commands.Close Client ∷ [] →
      (stage : EchoStage) (prefix : List (Timed Event)) → IsAt flow before stage prefix → Resumes (echo_chain flow) (IsAt flow) after moment reply more stage prefix
  kill_resumes same asked kill keeps phase gives Over prefix at = absurd (let no : phases.Over ≡ phases.Asked size = sym at.phase ∙ asked in cc)
  kill_resumes same asked kill keeps phase gives (Reading used) prefix at =
      let chain = echo_chain flow in
      let line : first_line (unread used prefix) ≡ Some size = a_line _ size (sym at.phase ∙ asked) in
      let turns = turned used prefix true line kill in
      let P : Turn EchoStage Command → Type 0 = λ t. IsAt flow after (pass t.stage prefix).stage prefix in
      let Q : Turn EchoStage Command → Type 0 = λ t. more ≡ t.owed ++ owed_over chain t.stage prefix in
      record {
        ask = commands.Ask (ask_about flow) flow;
        asked = rw line refl;
        place = subst P (sym turns) (record { same_flow = same ∙ at.same_flow; keeps = keeps; phase = phase });
        gives = λ view. ap (seen_of view) (subst Q (sym turns) gives);
      }

  -- and one that does not
  pub line_resumes : after.flow ≡ before.flow → before.phase ≡ phases.Asked size → is_kill reply ≡ false → after.unread.items ≡ drop size before.unread.items →
      after.phase ≡ phase_at (first_line (drop size before.unread.items)) →
      more ≡ echoed reply (take size before.unread.items) ++ asks_at before.flow (first_line (drop size before.unread.items)) →
      (stage : EchoStage) (prefix : List (Timed Event)) → IsAt flow before stage prefix → Resumes (echo_chain flow) (IsAt flow) after moment reply more stage prefix
  line_resumes same asked kill keeps phase gives Over prefix at = absurd (let no : phases.Over ≡ phases.Asked size = sym at.phase ∙ asked in cc)
  line_resumes same asked kill keeps phase gives (Reading used) prefix at =
      let chain = echo_chain flow in
      let line : first_line (unread used prefix) ≡ Some size = a_line _ size (sym at.phase ∙ asked) in
      let turns = turned used prefix false line kill in
      let rest : drop size before.unread.items ≡ unread (used + size) prefix = ap (λ l. drop size l) at.keeps ∙ drop-drop size used (client_bytes prefix) in
      let short = line_within (unread used prefix) size line in
      let next : Option ℕ = first_line (unread (used + size) prefix) in
      let place : IsReading flow after (used + size) prefix = record {
        same_flow = same ∙ at.same_flow;
        keeps = keeps ∙ rest;
        phase = phase ∙ ap (λ l. phase_at (first_line l)) rest;
        open_still = at.open_still;
        within = let l = length-drop used (client_bytes prefix) in let w = at.within in let s = short.1 in omega arith;
      } in
      let owes : more ≡ echoed reply (take size (unread used prefix)) ++ found (look_by flow next) =
      gives ∙ (ap (λ l. echoed reply (take size l) ++ asks_at before.flow (first_line (drop size before.unread.items))) at.keeps
      ∙ ap (λ l. echoed reply (take size (unread used prefix)) ++ l) (ap (λ f. asks_at f (first_line (drop size before.unread.items))) at.same_flow ∙ (ap (λ l. asks_at flow (first_line l)) rest ∙ asks_found flow next))) in
      let P : Turn EchoStage Command → Type 0 = λ t. IsAt flow after (pass t.stage prefix).stage prefix in
      let Q : Turn EchoStage Command → Type 0 = λ t. more ≡ t.owed ++ owed_over chain t.stage prefix in
      let R : Bool → Type 0 = λ b. IsAt flow after (pass_by b next (used + size)).stage prefix in
      let T : Bool → Type 0 = λ b. more ≡ echoed reply (take size (unread used prefix)) ++ ((pass_by b next (used + size)).owed ++ owed_here chain (pass_by b next (used + size)).stage prefix) in
      record {
        ask = commands.Ask (ask_about flow) flow;
        asked = rw line refl;
        place = subst P (sym turns) (subst R (sym at.open_still) place);
        gives = λ view. ap (seen_of view) (subst Q (sym turns) (subst T (sym at.open_still) owes));
      }
