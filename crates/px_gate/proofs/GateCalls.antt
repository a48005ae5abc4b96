-- What a gate before a layer whose due is a chain owes: it is a function of the gate's calls that only grows, ends where the
-- layer ends, and has ended for good.
use Rattle.std.proofs.Common.{◌≡◌, ◌+◌, Bool, true, false, List, [], ◌∷◌, ◌++◌, length, Option, Some, None, refl, ap, sym, ◌∙◌, subst}
use Rattle.std.proofs.lemmas.List.{append-nil}
use Rattle.px_text.specs.Prefix.{IsPrefixOf}
use Rattle.px_event.specs.declared.ask.Ask.{Ask}
use Rattle.px_event.specs.declared.event.Event.{Event}
use Rattle.px_event.specs.declared.reply.Reply.{Reply}
use Rattle.px_event.specs.declared.command.Command.{Command}
use Rattle.px_event.specs.Chain.{Stamp, Stamped, Timed, never, Chain, Look, NotYet, Asks, Ends, is_end, Stop, stop_at, walk, walk_from, owed_at, due}
use Rattle.px_event.specs.Laws.{IsSettled, Settles, IsFound, SoFarGrows, with_replies}
use Rattle.px_event.specs.Layer.{Move, Took, Replied, Standing}
use Rattle.px_event.specs.Stands.{events_in, replies_in, stop_of, has_ended, due_by, StandsAt, AwaitsWhatItAsks, EndsWhereItEnds}
use Rattle.px_event.specs.View.{View, seen_of}
use Rattle.px_event.proofs.Growth.{grows_by_events, grows_by_replies}
use Rattle.px_event.proofs.Moves.{events_in-append, replies_in-append}
use Rattle.px_event.proofs.Reach.{reach_found}
use Rattle.px_event.proofs.Seen.{seen_is_view}
use Rattle.px_event.proofs.Stops.{behind_found}
use Rattle.px_event.proofs.Walk.{more_replies, stopped}
use Rattle.px_gate.specs.declared.gate.Gate.{Gate}
use Rattle.px_gate.specs.Gate.{Serves, GateStands}
use Rattle.px_gate.proofs.GateDue.{gate_gave, calls_as}

-- a look that is an end is the end with what is owed there
what_ends : (l : Look Command) → is_end l ≡ true → (owed : List Command) × (l ≡ Ends owed)
what_ends NotYet over = absurd (cc)
what_ends (Asks ask) over = absurd (cc)
what_ends (Ends owed) over = (owed, refl)

-- where a walk stops, with more events and replies behind
abbrev pub with_rest : {S E R A : Type 0} → Stop S E R A → List (Stamped E) → List (Stamped R) → Stop S E R A
with_rest w events replies = record { last = w.last; before = w.before; stage = w.stage; prefix = w.prefix; rest = w.rest ++ events; unused = w.unused ++ replies }

-- a walk from an end stops there
stays_there : {S E R A : Type 0} (chain : Chain S E R A) (unused : List (Stamped R)) (last : Stamp) (before : List A) (s : S) (f : List (Timed E)) (rest : List (Stamped E)) (owed : List A) →
    IsSettled chain s f → chain.look s f ≡ Ends owed →
    walk chain unused last before s f rest ≡ record { last = last; before = before; stage = s; prefix = f; rest = rest; unused = unused }
stays_there {A = A} chain [] last before s f rest owed settled looks =
    let P : Look A → Type 0 = IsFound in ap (λ here. stop_at last here []) (reach_found chain last before s f rest settled (subst P (sym looks) tt))
stays_there {A = A} chain (r ∷ rs) last before s f rest owed settled looks =
    let P : Look A → Type 0 = IsFound in rw (reach_found chain last before s f rest settled (subst P (sym looks) tt), looks) refl

module _ {S : Type 0} (chain : Chain S Event Reply Command) (law : Settles chain) (start : S) where
  event_grows : (moves : List Move) (view : View) → SoFarGrows chain (seen_of view) → (more : List (Stamped Event)) (moves' : List Move) →
      events_in 1 moves' ≡ events_in 1 moves ++ more → replies_in 1 moves' ≡ replies_in 1 moves →
      IsPrefixOf (seen_of view (due_by chain start moves)) (seen_of view (due_by chain start moves'))
  event_grows moves view grows more moves' events replies =
      let P : List (Stamped Event) → List (Stamped Reply) → Type 0 = λ es rs. IsPrefixOf (seen_of view (due_by chain start moves)) (seen_of view (due chain start es rs)) in
      let Q : List (Stamped Reply) → Type 0 = λ rs. P (events_in 1 moves') rs in
      let R : List (Stamped Event) → Type 0 = λ es. P es (replies_in 1 moves) in
      subst Q (sym replies) (subst R (sym events)
      (grows_by_events chain (seen_of view) (seen_is_view view) grows law (replies_in 1 moves) never [] start [] (events_in 1 moves) more))

  reply_grows : (moves : List Move) (view : View) → SoFarGrows chain (seen_of view) → (more : List (Stamped Reply)) (moves' : List Move) →
      events_in 1 moves' ≡ events_in 1 moves → replies_in 1 moves' ≡ replies_in 1 moves ++ more →
      IsPrefixOf (seen_of view (due_by chain start moves)) (seen_of view (due_by chain start moves'))
  reply_grows moves view grows more moves' events replies =
      let P : List (Stamped Event) → List (Stamped Reply) → Type 0 = λ es rs. IsPrefixOf (seen_of view (due_by chain start moves)) (seen_of view (due chain start es rs)) in
      let Q : List (Stamped Event) → Type 0 = λ es. P es (replies_in 1 moves') in
      let R : List (Stamped Reply) → Type 0 = λ rs. P (events_in 1 moves) rs in
      subst Q (sym events) (subst R (sym replies)
      (grows_by_replies chain (seen_of view) (seen_is_view view) grows law (replies_in 1 moves) more never [] start [] (events_in 1 moves)))

  -- one call more takes nothing back
  pub calls_grow : (grows : (view : View) → SoFarGrows chain (seen_of view)) (moves : List Move) (move : Move) (view : View) →
      IsPrefixOf (seen_of view (due_by chain start moves)) (seen_of view (due_by chain start (moves ++ move ∷ [])))
  calls_grow grows moves (Took moment event) view =
      event_grows moves view (grows view) (events_in (1 + length moves) (Took moment event ∷ [])) (moves ++ Took moment event ∷ [])
      (events_in-append 1 moves (Took moment event ∷ [])) (replies_in-append 1 moves (Took moment event ∷ []) ∙ append-nil (replies_in 1 moves))
  calls_grow grows moves (Replied moment reply) view =
      reply_grows moves view (grows view) (replies_in (1 + length moves) (Replied moment reply ∷ [])) (moves ++ Replied moment reply ∷ [])
      (events_in-append 1 moves (Replied moment reply ∷ []) ∙ append-nil (events_in 1 moves)) (replies_in-append 1 moves (Replied moment reply ∷ []))

  -- where the walk over the calls has ended it stops at the same place, whatever is called behind
  ends_at : (calls : List Move) (owed : List Command) → chain.look (stop_of chain start calls).stage (stop_of chain start calls).prefix ≡ Ends owed → (more : List Move) →
      stop_of chain start (calls ++ more) ≡ with_rest (stop_of chain start calls) (events_in (1 + length calls) more) (replies_in (1 + length calls) more)
  ends_at calls owed looks more =
      let events = events_in (1 + length calls) more in
      let replies = replies_in (1 + length calls) more in
      let w = stop_of chain start calls in
      let P : Look Command → Type 0 = IsFound in
      ap (λ es. walk_from chain start es (replies_in 1 (calls ++ more))) (events_in-append 1 calls more)
      ∙ (ap (λ rs. walk_from chain start (events_in 1 calls ++ events) rs) (replies_in-append 1 calls more)
      ∙ (more_replies chain law (replies_in 1 calls) replies never [] start [] (events_in 1 calls ++ events)
      ∙ (ap (λ v. with_replies chain v replies) (behind_found chain law (replies_in 1 calls) never [] start [] (events_in 1 calls) events (subst P (sym looks) tt))
      ∙ stays_there chain (w.unused ++ replies) w.last w.before w.stage w.prefix (w.rest ++ events) owed (stopped chain law (replies_in 1 calls) never [] start [] (events_in 1 calls)).settled looks)))

  -- there no call changes what is due
  pub calls_over : (calls : List Move) → has_ended chain start calls ≡ true → (more : List Move) (view : View) →
      seen_of view (due_by chain start (calls ++ more)) ≡ seen_of view (due_by chain start calls)
  calls_over calls over more view =
      let end = what_ends (chain.look (stop_of chain start calls).stage (stop_of chain start calls).prefix) over in
      ap (λ w. seen_of view (owed_at chain w)) (ends_at calls end.0 end.1 more)

  -- and the walk over more calls has ended too
  pub calls_last : (calls : List Move) → has_ended chain start calls ≡ true → (more : List Move) → has_ended chain start (calls ++ more) ≡ true
  calls_last calls over more =
      let end = what_ends (chain.look (stop_of chain start calls).stage (stop_of chain start calls).prefix) over in
      ap (λ w. is_end (chain.look w.stage w.prefix)) (ends_at calls end.0 end.1 more) ∙ over

  module _ {M : Type 0} (is_at : M → S → List (Timed Event) → Type 0) (awaited : M → Option Ask) (ties : AwaitsWhatItAsks chain is_at awaited)
      (standing : Standing M) (made : M) (stands_at : (state : M) (moves : List Move) (given : List Command) → standing made state moves given → StandsAt chain start is_at state moves given) where
    -- what the gate gave is what is due by its calls
    pub calls_gave : (first gate : Gate M) (calls : List Move) (given : List Command) → first.layer ≡ made → GateStands standing awaited first gate calls given →
        (view : View) → seen_of view given ≡ seen_of view (due_by chain start calls)
    calls_gave first gate calls given is stands view =
        gate_gave chain law start is_at awaited ties standing made stands_at first gate calls given is stands view

    -- its layer has ended exactly where the walk over the gate's calls has
    pub calls_ended : (ended : M → Bool) → EndsWhereItEnds chain is_at ended → (first gate : Gate M) (calls : List Move) (given : List Command) →
        first.layer ≡ made → GateStands standing awaited first gate calls given → ended gate.layer ≡ has_ended chain start calls
    calls_ended ended ends first gate calls given is stands =
        let P : M → Type 0 = λ m. Serves standing awaited m calls stands.moves gate.queue.items in
        let Q : M → Type 0 = λ m. standing m gate.layer stands.moves given in
        let like = (calls_as chain law start is_at awaited ties standing made stands_at calls stands.moves gate.queue.items (subst P is stands.serves)).as_moves in
        let place = (stands_at gate.layer stands.moves given (subst Q is stands.stands)).place in
        let same : chain.look (stop_of chain start calls).stage (stop_of chain start calls).prefix
        ≡ chain.look (stop_of chain start stands.moves).stage (stop_of chain start stands.moves).prefix =
        ap (λ s. chain.look s (stop_of chain start calls).prefix) like.stage ∙ ap (λ f. chain.look (stop_of chain start stands.moves).stage f) like.prefix in
        exact (ended gate.layer) (chain.look (stop_of chain start calls).stage (stop_of chain start calls).prefix)
        (λ over. let end = ends.ends gate.layer _ _ place over in (end.0, same ∙ end.1))
        (λ owed looks. ends.there gate.layer _ _ owed place (sym same ∙ looks))
      where
        exact : (over : Bool) (l : Look Command) → (over ≡ true → (owed : List Command) × (l ≡ Ends owed)) → ((owed : List Command) → l ≡ Ends owed → over ≡ true) → over ≡ is_end l
        exact true l here there = sym (ap is_end (here refl).1)
        exact false NotYet here there = refl
        exact false (Asks ask) here there = refl
        exact false (Ends owed) here there = there owed refl

    -- where its layer has ended it awaits nothing
    pub calls_rest : (ended : M → Bool) → EndsWhereItEnds chain is_at ended → (first gate : Gate M) (calls : List Move) (given : List Command) →
        first.layer ≡ made → GateStands standing awaited first gate calls given → ended gate.layer ≡ true → awaited gate.layer ≡ None
    calls_rest ended ends first gate calls given is stands over =
        let Q : M → Type 0 = λ m. standing m gate.layer stands.moves given in
        let place = (stands_at gate.layer stands.moves given (subst Q is stands.stands)).place in
        rests (awaited gate.layer) (stop_of chain start stands.moves).stage (stop_of chain start stands.moves).prefix refl place
      where
        rests : (awaits : Option Ask) (stage : S) (prefix : List (Timed Event)) → awaited gate.layer ≡ awaits → is_at gate.layer stage prefix → awaits ≡ None
        rests None stage prefix same place = refl
        rests (Some ask) stage prefix same place =
            let asked = ties.asks gate.layer stage prefix ask place same in
            let end = ends.ends gate.layer stage prefix place over in
            absurd (let no : Asks asked.0 ≡ Ends end.0 = sym asked.1 ∙ end.1 in cc)
