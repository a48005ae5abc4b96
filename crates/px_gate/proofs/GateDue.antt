-- The walk over a gate's calls stops where the walk over its layer's moves stops, with the queue behind it.
use Rattle.std.proofs.Common.{◌≡◌, ℕ, ◌+◌, ◌<◌, List, [], ◌∷◌, ◌++◌, length, Bool, true, false, Option, Some, None, nat_lt, refl, ap, sym, ◌∙◌, subst, arith}
use Rattle.std.proofs.lemmas.List.{append-nil, map-append}
use Rattle.std.proofs.lemmas.Bool.{ltb-true}
use Rattle.px_event.specs.declared.ask.Ask.{Ask}
use Rattle.px_event.specs.declared.event.Event.{Event}
use Rattle.px_event.specs.declared.reply.Reply.{Reply}
use Rattle.px_event.specs.declared.command.Command.{Command}
use Rattle.px_event.specs.Chain.{Stamp, Stamped, Timed, never, worked_off, Chain, Look, NotYet, Asks, Ends, Reached, reach, Stop, walk, owed_at}
use Rattle.px_event.specs.Laws.{IsSettled, Settles, IsFound, waiting_values}
use Rattle.px_event.specs.Layer.{Move, Took, Replied, Standing, MayAnswer}
use Rattle.px_event.specs.View.{View, seen_of}
use Rattle.px_event.specs.Stands.{events_in, replies_in, stop_of, due_by, StandsAt, AwaitsWhatItAsks}
use Rattle.px_event.proofs.Reach.{reach_found, reach_pass, settled_stop}
use Rattle.px_event.proofs.Walk.{stopped}
use Rattle.px_event.proofs.Moves.{AllBelow, events_below, rest_below}
use Rattle.px_event.proofs.Steps.{next_event, next_behind, next_reply}
use Rattle.px_gate.specs.declared.gate.Gate.{Gate}
use Rattle.px_gate.specs.Gate.{IsFree, WorksOff, emptied, stopped as halted, one, Serves, none, at_once, queued, freed, GateStands}

-- what may be answered is awaited
may_answer : (awaited : Option Ask) (reply : Reply) → MayAnswer awaited reply → (ask : Ask) × (awaited ≡ Some ask)
may_answer None reply may = absurd may
may_answer (Some ask) reply may = (ask, refl)

not_before : (a b : ℕ) (test : Bool) → nat_lt a b ≡ test → b < a → test ≡ false
not_before a b true is below = absurd (let before = ltb-true a b is in omega arith)
not_before a b false is below = refl

-- an event of a step before the last reply is worked off at the reply's moment
worked_off_then : {E : Type 0} (last : Stamp) (e : Stamped E) → e.stamp.step < last.step → worked_off last e ≡ record { moment = last.moment; value = e.value }
worked_off_then last e before = rw (not_before last.step e.stamp.step (nat_lt last.step e.stamp.step) refl before) refl

no_values : {E : Type 0} (es : List (Stamped E)) → waiting_values es ≡ [] → es ≡ []
no_values [] is = refl
no_values (e ∷ es) is = absurd (let no : e.value ∷ waiting_values es ≡ [] = is in cc)

found_asks : {A : Type 0} (l : Look A) (ask : A) → l ≡ Asks ask → IsFound l
found_asks l ask is = let P : Look _ → Type 0 = IsFound in subst P (sym is) tt

module _ {M S : Type 0} (chain : Chain S Event Reply Command) (law : Settles chain) (start : S) (is_at : M → S → List (Timed Event) → Type 0)
    (awaited : M → Option Ask) (ties : AwaitsWhatItAsks chain is_at awaited) (standing : Standing M) (made : M)
    (stands_at : (state : M) (moves : List Move) (given : List Command) → standing made state moves given → StandsAt chain start is_at state moves given) where
  abbrev stop : List Move → Stop S Event Reply Command
  stop moves = stop_of chain start moves

  abbrev looks : List Move → Look Command
  looks moves = chain.look (stop moves).stage (stop moves).prefix

  settled_at : (moves : List Move) → IsSettled chain (stop moves).stage (stop moves).prefix
  settled_at moves = (stopped chain law (replies_in 1 moves) never [] start [] (events_in 1 moves)).settled

  free_at : (moves : List Move) → IsFree standing awaited made moves → ((ask : Command) → looks moves ≡ Asks ask → ⊥) × ((stop moves).unused ≡ [])
  free_at moves (state, given, stands, is) =
      let at = stands_at state moves given stands in (λ ask asks. ties.free state _ _ ask at.place is asks, at.used)

  -- where the walk over the calls is, when the walk over the moves is there
  pub record AsMoves (here : Reached S Event Command) (moves : List Move) (waiting : List Event) : Type 0 where
    pub before : here.before ≡ (stop moves).before
    pub stage : here.stage ≡ (stop moves).stage
    pub prefix : here.prefix ≡ (stop moves).prefix
    pub waits : (ask : Command) → looks moves ≡ Asks ask → waiting_values here.rest ≡ waiting
    pub free : ((ask : Command) → looks moves ≡ Asks ask → ⊥) → waiting ≡ []

  -- the search from where the walk over the moves is
  abbrev search_from : Stamp → List Move → List (Stamped Event) → Reached S Event Command
  search_from last moves rest = reach chain last (stop moves).before (stop moves).stage (stop moves).prefix rest

  still : (moves : List Move) (rest : List (Stamped Event)) → Reached S Event Command
  still moves rest = record { before = (stop moves).before; stage = (stop moves).stage; prefix = (stop moves).prefix; rest = rest }

  -- events behind an end change nothing
  one_behind : (moment : ℕ) (last : Stamp) (moves after : List Move) (event : Event) (e : Stamped Event) (rest : List (Stamped Event)) (waiting : List Event) (owed : List Command) →
      looks moves ≡ Ends owed →
      AsMoves (search_from last (moves ++ Took moment event ∷ []) rest) after waiting → AsMoves (search_from last moves (e ∷ rest)) after waiting
  one_behind moment last moves after event e rest waiting owed is there =
      let P : Look Command → Type 0 = IsFound in
      let found = subst P (sym is) tt in
      let w = stop moves in
      let w' = next_behind chain law start is_at moves moment event found in
      let far = reach_found chain last w.before w.stage w.prefix (e ∷ rest) (settled_at moves) found in
      let near = reach_found chain last w.before w.stage w.prefix rest (settled_at moves) found in
      let same : search_from last (moves ++ Took moment event ∷ []) rest ≡ record { before = w.before; stage = w.stage; prefix = w.prefix; rest = rest } =
      ap (λ (v : Stop S Event Reply Command). reach chain last v.before v.stage v.prefix rest) w' ∙ near in
      let stage : w.stage ≡ (stop after).stage = sym (ap (λ h. h.stage) same) ∙ there.stage in
      let prefix : w.prefix ≡ (stop after).prefix = sym (ap (λ h. h.prefix) same) ∙ there.prefix in
      let ended : looks after ≡ Ends owed = ap (λ s. chain.look s (stop after).prefix) (sym stage) ∙ (ap (λ f. chain.look w.stage f) (sym prefix) ∙ is) in
      record {
        before = ap (λ h. h.before) far ∙ (sym (ap (λ h. h.before) same) ∙ there.before);
        stage = ap (λ h. h.stage) far ∙ stage;
        prefix = ap (λ h. h.prefix) far ∙ prefix;
        waits = λ ask asks. absurd (let no : Ends owed ≡ Asks ask = sym ended ∙ asks in cc);
        free = there.free;
      }

  -- an event where nothing is found
  one_onward : (moment : ℕ) (last : Stamp) (moves after : List Move) (event : Event) (e : Stamped Event) (rest : List (Stamped Event)) (waiting : List Event) →
      last.moment ≡ moment → e.value ≡ event → e.stamp.step < last.step → (stop moves).unused ≡ [] → looks moves ≡ NotYet →
      AsMoves (search_from last (moves ++ Took moment event ∷ []) rest) after waiting → AsMoves (search_from last moves (e ∷ rest)) after waiting
  one_onward moment last moves after event e rest waiting at is_event below used is there =
      let w = stop moves in
      let settled = settled_at moves in
      let prefix = w.prefix ++ record { moment = moment; value = event } ∷ [] in
      let now : worked_off last e ≡ record { moment = moment; value = event } = worked_off_then last e below ∙ rw (at, is_event) refl in
      let on : search_from last moves (e ∷ rest) ≡ reach chain last w.before w.stage prefix rest =
      rw (settled.stays, settled.owes_nothing, append-nil, is) (ap (λ t. reach chain last w.before w.stage (w.prefix ++ t ∷ []) rest) now) in
      let same : search_from last (moves ++ Took moment event ∷ []) rest ≡ reach chain last w.before w.stage prefix rest =
      ap (λ (v : Stop S Event Reply Command). reach chain last v.before v.stage v.prefix rest) (next_event chain law start is_at moves moment event used is)
      ∙ sym (reach_pass chain law last w.before w.stage prefix rest) in
      let P : Reached S Event Command → Type 0 = λ h. AsMoves h after waiting in
      subst P (same ∙ sym on) there

  one_by : (moment : ℕ) (last : Stamp) (moves after : List Move) (event : Event) (e : Stamped Event) (rest : List (Stamped Event)) (waiting : List Event) →
      last.moment ≡ moment → e.value ≡ event → e.stamp.step < last.step → (stop moves).unused ≡ [] →
      AsMoves (search_from last (moves ++ Took moment event ∷ []) rest) after waiting →
      (l : Look Command) → looks moves ≡ l → ((ask : Command) → looks moves ≡ Asks ask → ⊥) → AsMoves (search_from last moves (e ∷ rest)) after waiting
  one_by moment last moves after event e rest waiting at is_event below used there NotYet is free = one_onward moment last moves after event e rest waiting at is_event below used is there
  one_by moment last moves after event e rest waiting at is_event below used there (Asks ask) is free = absurd (free ask is)
  one_by moment last moves after event e rest waiting at is_event below used there (Ends owed) is free = one_behind moment last moves after event e rest waiting owed is there

  works_as : (moment : ℕ) (moves : List Move) (queue : List Event) (after : List Move) (waiting : List Event) → WorksOff standing awaited made moment moves queue after waiting →
      (last : Stamp) (rest : List (Stamped Event)) → last.moment ≡ moment → waiting_values rest ≡ queue → AllBelow last.step rest →
      AsMoves (search_from last moves rest) after waiting
  works_as moment moves queue after waiting (emptied there) last rest at values below =
      let none_left = no_values rest values in
      let w = stop there in
      let P : List (Stamped Event) → Type 0 = λ es. AsMoves (search_from last there es) there [] in
      let here : search_from last there [] ≡ record { before = w.before; stage = w.stage; prefix = w.prefix; rest = [] } = settled_stop chain w.before w.stage w.prefix [] (settled_at there) in
      subst P (sym none_left) (record {
        before = ap (λ h. h.before) here;
        stage = ap (λ h. h.stage) here;
        prefix = refl;
        waits = λ ask asks. refl;
        free = λ no. refl;
      })
  works_as moment moves queue after waiting (halted there events (state, given, ask, stands, is)) last rest at values below =
      let w = stop there in
      let asks = ties.asks state _ _ ask (stands_at state there given stands).place is in
      let here = reach_found chain last w.before w.stage w.prefix rest (settled_at there) (found_asks (looks there) asks.0 asks.1) in
      record {
        before = ap (λ h. h.before) here;
        stage = ap (λ h. h.stage) here;
        prefix = ap (λ h. h.prefix) here;
        waits = λ _ _. ap (λ (h : Reached S Event Command). waiting_values h.rest) here ∙ values;
        free = λ no. absurd (no asks.0 asks.1);
      }
  works_as moment moves queue after waiting (one there event events then last_waiting free works) last [] at values below =
      absurd (let no : [] ≡ event ∷ events = values in cc)
  works_as moment moves queue after waiting (one there event events then last_waiting free works) last (e ∷ rest) at values (here, below) =
      let whole : e.value ∷ waiting_values rest ≡ event ∷ events = values in
      let is_event : e.value ≡ event = cc in
      let others : waiting_values rest ≡ events = cc in
      let at_free = free_at there free in
      one_by moment last there then event e rest last_waiting at is_event here at_free.1
      (works_as moment (there ++ Took moment event ∷ []) events then last_waiting works last rest at others below)
      (looks there) refl at_free.0

  -- where the walk over the calls stops
  abbrev there : List Move → Reached S Event Command
  there calls = record { before = (stop calls).before; stage = (stop calls).stage; prefix = (stop calls).prefix; rest = (stop calls).rest }

  pub record CallsAs (calls moves : List Move) (queue : List Event) : Type 0 where
    pub used : (stop calls).unused ≡ []
    pub as_moves : AsMoves (there calls) moves queue

  same_looks : (calls moves : List Move) (queue : List Event) → AsMoves (there calls) moves queue → looks calls ≡ looks moves
  same_looks calls moves queue like = ap (λ s. chain.look s (stop calls).prefix) like.stage ∙ ap (λ f. chain.look (stop moves).stage f) like.prefix

  -- an event that both take
  both_onward : (calls moves : List Move) (moment : ℕ) (event : Event) → CallsAs calls moves [] → (stop moves).unused ≡ [] → looks moves ≡ NotYet →
      CallsAs (calls ++ Took moment event ∷ []) (moves ++ Took moment event ∷ []) []
  both_onward calls moves moment event is used not_yet =
      let like = is.as_moves in
      let c = next_event chain law start is_at calls moment event is.used (same_looks calls moves [] like ∙ not_yet) in
      let m = next_event chain law start is_at moves moment event used not_yet in
      let longer : List (Timed Event) → List (Timed Event) = λ f. f ++ record { moment = moment; value = event } ∷ [] in
      record {
        used = ap (λ w. w.unused) c;
        as_moves = record {
          before = ap (λ w. w.before) c
              ∙ (ap (λ b. b ++ (chain.pass (stop calls).stage (longer (stop calls).prefix)).owed) like.before
              ∙ (ap (λ s. (stop moves).before ++ (chain.pass s (longer (stop calls).prefix)).owed) like.stage
              ∙ (ap (λ f. (stop moves).before ++ (chain.pass (stop moves).stage (longer f)).owed) like.prefix ∙ sym (ap (λ w. w.before) m))));
          stage = ap (λ w. w.stage) c
              ∙ (ap (λ s. (chain.pass s (longer (stop calls).prefix)).stage) like.stage
              ∙ (ap (λ f. (chain.pass (stop moves).stage (longer f)).stage) like.prefix ∙ sym (ap (λ w. w.stage) m)));
          prefix = ap (λ w. w.prefix) c ∙ (ap longer like.prefix ∙ sym (ap (λ w. w.prefix) m));
          waits = λ ask asks. ap (λ (w : Stop S Event Reply Command). waiting_values w.rest) c;
          free = λ no. refl;
        };
      }

  both_behind : (calls moves : List Move) (moment : ℕ) (event : Event) (owed : List Command) → CallsAs calls moves [] → looks moves ≡ Ends owed →
      CallsAs (calls ++ Took moment event ∷ []) (moves ++ Took moment event ∷ []) []
  both_behind calls moves moment event owed is ends =
      let like = is.as_moves in
      let P : Look Command → Type 0 = IsFound in
      let c = next_behind chain law start is_at calls moment event (subst P (sym (same_looks calls moves [] like ∙ ends)) tt) in
      let m = next_behind chain law start is_at moves moment event (subst P (sym ends) tt) in
      let same : looks (moves ++ Took moment event ∷ []) ≡ looks moves = ap (λ (w : Stop S Event Reply Command). chain.look w.stage w.prefix) m in
      record {
        used = ap (λ w. w.unused) c ∙ is.used;
        as_moves = record {
          before = ap (λ w. w.before) c ∙ (like.before ∙ sym (ap (λ w. w.before) m));
          stage = ap (λ w. w.stage) c ∙ (like.stage ∙ sym (ap (λ w. w.stage) m));
          prefix = ap (λ w. w.prefix) c ∙ (like.prefix ∙ sym (ap (λ w. w.prefix) m));
          waits = λ ask asks. absurd (let no : Ends owed ≡ Asks ask = sym ends ∙ (sym same ∙ asks) in cc);
          free = λ no. refl;
        };
      }

  both_by : (calls moves : List Move) (moment : ℕ) (event : Event) → CallsAs calls moves [] → (stop moves).unused ≡ [] →
      (l : Look Command) → looks moves ≡ l → ((ask : Command) → looks moves ≡ Asks ask → ⊥) → CallsAs (calls ++ Took moment event ∷ []) (moves ++ Took moment event ∷ []) []
  both_by calls moves moment event like used NotYet is free = both_onward calls moves moment event like used is
  both_by calls moves moment event like used (Asks ask) is free = absurd (free ask is)
  both_by calls moves moment event like used (Ends owed) is free = both_behind calls moves moment event owed like is

  -- an event that waits
  one_waits : (calls moves : List Move) (queue : List Event) (moment : ℕ) (event : Event) (ask : Command) → CallsAs calls moves queue → looks moves ≡ Asks ask →
      CallsAs (calls ++ Took moment event ∷ []) moves (queue ++ event ∷ [])
  one_waits calls moves queue moment event ask is asks =
      let like = is.as_moves in
      let c = next_behind chain law start is_at calls moment event (found_asks (looks calls) ask (same_looks calls moves queue like ∙ asks)) in
      let e : Stamped Event = record { stamp = record { step = 1 + length calls; moment = moment }; value = event } in
      record {
        used = ap (λ w. w.unused) c ∙ is.used;
        as_moves = record {
          before = ap (λ w. w.before) c ∙ like.before;
          stage = ap (λ w. w.stage) c ∙ like.stage;
          prefix = ap (λ w. w.prefix) c ∙ like.prefix;
          waits = λ other is_other. ap (λ (w : Stop S Event Reply Command). waiting_values w.rest) c
              ∙ (map-append (λ (s : Stamped Event). s.value) (stop calls).rest (e ∷ []) ∙ ap (λ l. l ++ event ∷ []) (like.waits other is_other));
          free = λ no. absurd (no ask asks);
        };
      }

  -- a reply, and the events that it frees
  freed_as : (calls moves : List Move) (queue : List Event) (moment : ℕ) (reply : Reply) (after : List Move) (waiting : List Event) (ask : Command) →
      CallsAs calls moves queue → looks moves ≡ Asks ask → (stop moves).rest ≡ [] →
      WorksOff standing awaited made moment (moves ++ Replied moment reply ∷ []) queue after waiting →
      CallsAs (calls ++ Replied moment reply ∷ []) after waiting
  freed_as calls moves queue moment reply after waiting ask is asks none_left works =
      let like = is.as_moves in
      let wc = stop calls in
      let wm = stop moves in
      let r : Timed Reply = record { moment = moment; value = reply } in
      let last : Stamp = record { step = 1 + length calls; moment = moment } in
      let owed : S → List (Timed Event) → List Command → List Command = λ s f b. b ++ (chain.so_far s f ++ ask ∷ (chain.behind s f ++ (chain.turn s f r).owed)) in
      let turn : S = (chain.turn wm.stage wm.prefix r).stage in
      let c = next_reply chain law start is_at calls moment reply ask (same_looks calls moves queue like ∙ asks) in
      let m = next_reply chain law start is_at moves moment reply ask asks in
      let c' : reach chain last (owed wc.stage wc.prefix wc.before) (chain.turn wc.stage wc.prefix r).stage wc.prefix wc.rest ≡ reach chain last (owed wm.stage wm.prefix wm.before) turn wm.prefix wc.rest =
      ap (λ s. reach chain last (owed s wc.prefix wc.before) (chain.turn s wc.prefix r).stage wc.prefix wc.rest) like.stage
      ∙ (ap (λ f. reach chain last (owed wm.stage f wc.before) (chain.turn wm.stage f r).stage f wc.rest) like.prefix
      ∙ ap (λ b. reach chain last (owed wm.stage wm.prefix b) turn wm.prefix wc.rest) like.before) in
      let m' : stop (moves ++ Replied moment reply ∷ [])
      ≡ record { last = record { step = 1 + length moves; moment = moment }; before = owed wm.stage wm.prefix wm.before ++ (chain.pass turn wm.prefix).owed; stage = (chain.pass turn wm.prefix).stage; prefix = wm.prefix; rest = []; unused = [] } =
      m ∙ ap (λ (es : List (Stamped Event)). walk chain [] (record { step = 1 + length moves; moment = moment }) (owed wm.stage wm.prefix wm.before) turn wm.prefix es) none_left in
      let from : search_from last (moves ++ Replied moment reply ∷ []) wc.rest ≡ reach chain last (owed wm.stage wm.prefix wm.before) turn wm.prefix wc.rest =
      ap (λ (w : Stop S Event Reply Command). reach chain last w.before w.stage w.prefix wc.rest) m' ∙ sym (reach_pass chain law last (owed wm.stage wm.prefix wm.before) turn wm.prefix wc.rest) in
      let below = rest_below chain (1 + length calls) (replies_in 1 calls) never [] start [] (events_in 1 calls) (events_below 1 calls) in
      let found = works_as moment (moves ++ Replied moment reply ∷ []) queue after waiting works last wc.rest refl (like.waits ask asks) below in
      let P : Reached S Event Command → Type 0 = λ h. AsMoves h after waiting in
      let at : AsMoves (reach chain last (owed wc.stage wc.prefix wc.before) (chain.turn wc.stage wc.prefix r).stage wc.prefix wc.rest) after waiting = subst P (from ∙ sym c') found in
      record {
        used = ap (λ w. w.unused) c;
        as_moves = let Q : Stop S Event Reply Command → Type 0 = λ w. AsMoves (record { before = w.before; stage = w.stage; prefix = w.prefix; rest = w.rest }) after waiting in subst Q (sym c) at;
      }

  pub calls_as : (calls moves : List Move) (queue : List Event) → Serves standing awaited made calls moves queue → CallsAs calls moves queue
  calls_as calls moves queue none = record {
    used = refl;
    as_moves = record { before = refl; stage = refl; prefix = refl; waits = λ ask asks. refl; free = λ no. refl };
  }
  calls_as calls moves queue (at_once earlier made_moves moment event serves free) =
      let at = free_at made_moves free in
      both_by earlier made_moves moment event (calls_as earlier made_moves [] serves) at.1 (looks made_moves) refl at.0
  calls_as calls moves queue (queued earlier made_moves waiting moment event serves (state, given, ask, stands, is)) =
      let asks = ties.asks state _ _ ask (stands_at state made_moves given stands).place is in
      one_waits earlier made_moves waiting moment event asks.0 (calls_as earlier made_moves waiting serves) asks.1
  calls_as calls moves queue (freed earlier made_moves before moment reply after waiting serves (state, given, stands, may) works) =
      let at = stands_at state made_moves given stands in
      let ask = may_answer (awaited state) reply may in
      let asks = ties.asks state _ _ ask.0 at.place ask.1 in
      freed_as earlier made_moves before moment reply after waiting asks.0 (calls_as earlier made_moves before serves) asks.1 (at.seen asks.0 asks.1) works

  -- what the gate gave is what is due by its calls
  pub gate_gave : (first gate : Gate M) (calls : List Move) (given : List Command) → first.layer ≡ made → GateStands standing awaited first gate calls given →
      (view : View) → seen_of view given ≡ seen_of view (due_by chain start calls)
  gate_gave first gate calls given is stands view =
      let P : M → Type 0 = λ m. Serves standing awaited m calls stands.moves gate.queue.items in
      let like = (calls_as calls stands.moves gate.queue.items (subst P is stands.serves)).as_moves in
      let owed : List Command → S → List (Timed Event) → Stop S Event Reply Command = λ b s f. record { last = never; before = b; stage = s; prefix = f; rest = []; unused = [] } in
      let same : due_by chain start stands.moves ≡ due_by chain start calls =
      ap (λ b. owed_at chain (owed b (stop stands.moves).stage (stop stands.moves).prefix)) (sym like.before)
      ∙ (ap (λ s. owed_at chain (owed (stop calls).before s (stop stands.moves).prefix)) (sym like.stage)
      ∙ ap (λ f. owed_at chain (owed (stop calls).before (stop calls).stage f)) (sym like.prefix)) in
      let Q : M → Type 0 = λ m. standing m gate.layer stands.moves given in
      (stands_at gate.layer stands.moves given (subst Q is stands.stands)).gave view ∙ ap (λ l. seen_of view l) same

  -- and the events that wait are those behind the place where the walk over its calls stops
  pub gate_waits : (first gate : Gate M) (calls : List Move) (given : List Command) → first.layer ≡ made → GateStands standing awaited first gate calls given →
      (ask : Command) → looks calls ≡ Asks ask → waiting_values (stop calls).rest ≡ gate.queue.items
  gate_waits first gate calls given is stands ask asks =
      let P : M → Type 0 = λ m. Serves standing awaited m calls stands.moves gate.queue.items in
      let like = (calls_as calls stands.moves gate.queue.items (subst P is stands.serves)).as_moves in
      like.waits ask (sym (same_looks calls stands.moves gate.queue.items like) ∙ asks)
