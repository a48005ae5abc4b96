-- One move more of a layer whose due is a chain: from what its machine does where the walk stopped, the layer's law.
use Rattle.std.proofs.Common.{◌≡◌, ℕ, ◌+◌, ◌<◌, List, [], ◌∷◌, ◌++◌, length, refl, ap, sym, ◌∙◌, subst, arith, append_assoc}
use Rattle.std.proofs.lemmas.List.{append-nil}
use Rattle.px_event.specs.declared.event.Event.{Event}
use Rattle.px_event.specs.declared.reply.Reply.{Reply}
use Rattle.px_event.specs.declared.command.Command.{Command}
use Rattle.px_event.specs.Chain.{Stamped, Timed, never, worked_off, Chain, Look, NotYet, Asks, Ends, Stop, walk, owed_at}
use Rattle.px_event.specs.Laws.{IsSettled, Settles, IsFound, owed_here, owed_over}
use Rattle.px_event.specs.Layer.{Move, Took, Replied, Standing, IsSound, Goes}
use Rattle.px_event.specs.View.{View, seen_of}
use Rattle.px_event.specs.Stands.{events_in, replies_in, stop_of, StandsAt}
use Rattle.px_event.proofs.Seen.{seen_append}
use Rattle.px_event.proofs.Walk.{stopped}
use Rattle.px_event.proofs.Stops.{event_on, reply_on, behind, one_event, behind_found, one_reply, reply_goes_on, owed_reply_on}
use Rattle.px_event.proofs.Moves.{events_in-append, replies_in-append, replies_below, last_below, worked_off_now}

-- What a machine does with an event where the walk stopped at this stage and over this prefix: it goes one event on, or the
-- event stands behind the end. `more` are the commands that it gives.
pub data Takes {M S : Type 0} (chain : Chain S Event Reply Command) (is_at : M → S → List (Timed Event) → Type 0)
    (after : M) (moment : ℕ) (event : Event) (more : List Command) (stage : S) (prefix : List (Timed Event)) : Type 0 where
  onward :
      chain.look stage prefix ≡ NotYet →
      is_at after (chain.pass stage (prefix ++ record { moment = moment; value = event } ∷ [])).stage (prefix ++ record { moment = moment; value = event } ∷ []) →
      ((view : View) → seen_of view (chain.so_far stage prefix) ++ seen_of view more
      ≡ seen_of view (owed_over chain stage (prefix ++ record { moment = moment; value = event } ∷ []))) →
      Takes chain is_at after moment event more stage prefix
  past_end : (owed : List Command) →
      chain.look stage prefix ≡ Ends owed → is_at after stage prefix → ((view : View) → seen_of view more ≡ []) →
      Takes chain is_at after moment event more stage prefix

-- What it does with a reply there.
pub record Resumes {M S : Type 0} (chain : Chain S Event Reply Command) (is_at : M → S → List (Timed Event) → Type 0)
    (after : M) (moment : ℕ) (reply : Reply) (more : List Command) (stage : S) (prefix : List (Timed Event)) : Type 0 where
  pub ask : Command
  pub asked : chain.look stage prefix ≡ Asks ask
  pub place : is_at after (chain.pass (chain.turn stage prefix (record { moment = moment; value = reply })).stage prefix).stage prefix
  pub gives : (view : View) → seen_of view more
      ≡ seen_of view ((chain.turn stage prefix (record { moment = moment; value = reply })).owed
      ++ owed_over chain (chain.turn stage prefix (record { moment = moment; value = reply })).stage prefix)

module _ {M S : Type 0} (chain : Chain S Event Reply Command) (law : Settles chain) (start : S) (is_at : M → S → List (Timed Event) → Type 0) where
  -- what is true of a place is true of an equal one
  placed : (state : M) (moves : List Move) (given : List Command) (w : Stop S Event Reply Command) → stop_of chain start moves ≡ w →
      is_at state w.stage w.prefix → w.unused ≡ [] →
      ((ask : Command) → chain.look w.stage w.prefix ≡ Asks ask → w.rest ≡ []) →
      ((view : View) → seen_of view given ≡ seen_of view (owed_at chain w)) →
      StandsAt chain start is_at state moves given
  placed state moves given w is place used seen gave = record {
    place = let P : Stop S Event Reply Command → Type 0 = λ v. is_at state v.stage v.prefix in subst P (sym is) place;
    used = ap (λ v. v.unused) is ∙ used;
    seen = let P : Stop S Event Reply Command → Type 0 = λ v. (ask : Command) → chain.look v.stage v.prefix ≡ Asks ask → v.rest ≡ [] in subst P (sym is) seen;
    gave = λ view. gave view ∙ ap (λ v. seen_of view (owed_at chain v)) (sym is);
  }

  -- a new state, at the start
  pub begins : (state : M) → is_at state (chain.pass start []).stage [] → ((view : View) → seen_of view (owed_over chain start []) ≡ []) →
      StandsAt chain start is_at state [] []
  begins state place gives = placed state [] [] (stop_of chain start []) refl place refl (λ ask asked. refl) (λ view. sym (gives view))

  stamped : ℕ → ℕ → Event → Stamped Event
  stamped step moment event = record { stamp = record { step = step; moment = moment }; value = event }

  below_now : (moves : List Move) → (stop_of chain start moves).last.step < 1 + length moves
  below_now moves = last_below chain (1 + length moves) (replies_in 1 moves) never [] start [] (events_in 1 moves) (omega arith) (replies_below 1 moves)

  after_event : (moves : List Move) (moment : ℕ) (event : Event) →
      stop_of chain start (moves ++ Took moment event ∷ [])
      ≡ walk chain (replies_in 1 moves) never [] start [] (events_in 1 moves ++ record { stamp = record { step = 1 + length moves; moment = moment }; value = event } ∷ [])
  after_event moves moment event =
      let es = events_in-append 1 moves (Took moment event ∷ []) in
      let rs = replies_in-append 1 moves (Took moment event ∷ []) ∙ append-nil (replies_in 1 moves) in
      rw (es, rs) refl

  after_reply : (moves : List Move) (moment : ℕ) (reply : Reply) →
      stop_of chain start (moves ++ Replied moment reply ∷ [])
      ≡ walk chain (replies_in 1 moves ++ record { stamp = record { step = 1 + length moves; moment = moment }; value = reply } ∷ []) never [] start [] (events_in 1 moves)
  after_reply moves moment reply =
      let es = events_in-append 1 moves (Replied moment reply ∷ []) ∙ append-nil (events_in 1 moves) in
      let rs = replies_in-append 1 moves (Replied moment reply ∷ []) in
      rw (es, rs) refl

  -- where the walk stops after one move more: an event where nothing is found, an event behind what is found, and a reply
  pub next_event : (moves : List Move) (moment : ℕ) (event : Event) →
      (stop_of chain start moves).unused ≡ [] → chain.look (stop_of chain start moves).stage (stop_of chain start moves).prefix ≡ NotYet →
      let w = stop_of chain start moves in
      let prefix = w.prefix ++ record { moment = moment; value = event } ∷ [] in
      stop_of chain start (moves ++ Took moment event ∷ [])
      ≡ record { last = w.last; before = w.before ++ (chain.pass w.stage prefix).owed; stage = (chain.pass w.stage prefix).stage; prefix = prefix; rest = []; unused = [] }
  next_event moves moment event used is =
      let w = stop_of chain start moves in
      let e : Stamped Event = record { stamp = record { step = 1 + length moves; moment = moment }; value = event } in
      let now : worked_off w.last e ≡ record { moment = moment; value = event } = worked_off_now w.last (1 + length moves) moment event (below_now moves) in
      let prefix = w.prefix ++ record { moment = moment; value = event } ∷ [] in
      let on = chain.pass w.stage prefix in
      let there : Stop S Event Reply Command = record { last = w.last; before = w.before ++ on.owed; stage = on.stage; prefix = prefix; rest = []; unused = [] } in
      let same : event_on chain w e ≡ there = rw now refl in
      after_event moves moment event ∙ (one_event chain law (replies_in 1 moves) never [] start [] (events_in 1 moves) e used is ∙ same)

  pub next_behind : (moves : List Move) (moment : ℕ) (event : Event) →
      IsFound (chain.look (stop_of chain start moves).stage (stop_of chain start moves).prefix) →
      stop_of chain start (moves ++ Took moment event ∷ [])
      ≡ behind (stop_of chain start moves) (record { stamp = record { step = 1 + length moves; moment = moment }; value = event } ∷ [])
  next_behind moves moment event is =
      after_event moves moment event ∙ behind_found chain law (replies_in 1 moves) never [] start [] (events_in 1 moves)
      (record { stamp = record { step = 1 + length moves; moment = moment }; value = event } ∷ []) is

  pub next_reply : (moves : List Move) (moment : ℕ) (reply : Reply) (ask : Command) →
      chain.look (stop_of chain start moves).stage (stop_of chain start moves).prefix ≡ Asks ask →
      let w = stop_of chain start moves in
      let turn = chain.turn w.stage w.prefix (record { moment = moment; value = reply }) in
      stop_of chain start (moves ++ Replied moment reply ∷ [])
      ≡ walk chain [] (record { step = 1 + length moves; moment = moment }) (w.before ++ (chain.so_far w.stage w.prefix ++ ask ∷ (chain.behind w.stage w.prefix ++ turn.owed))) turn.stage w.prefix w.rest
  next_reply moves moment reply ask is =
      after_reply moves moment reply ∙ reply_goes_on chain law (replies_in 1 moves) never [] start [] (events_in 1 moves) ask
      (record { stamp = record { step = 1 + length moves; moment = moment }; value = reply }) is

  -- what was given, and this more, is what is owed now
  gave_more : (view : View) (given more before so_far over : List Command) →
      seen_of view given ≡ seen_of view (before ++ so_far) → seen_of view so_far ++ seen_of view more ≡ seen_of view over →
      seen_of view (given ++ more) ≡ seen_of view (before ++ over)
  gave_more view given more before so_far over gave gives =
      seen_append view given more
      ∙ (ap (λ l. l ++ seen_of view more) (gave ∙ seen_append view before so_far)
      ∙ (append_assoc (seen_of view before) (seen_of view so_far) (seen_of view more)
      ∙ (ap (λ l. seen_of view before ++ l) gives ∙ sym (seen_append view before over))))

  take_stands : (before after : M) (moment : ℕ) (event : Event) (more : List Command) (moves : List Move) (given : List Command) →
      StandsAt chain start is_at before moves given →
      Takes chain is_at after moment event more (stop_of chain start moves).stage (stop_of chain start moves).prefix →
      StandsAt chain start is_at after (moves ++ Took moment event ∷ []) (given ++ more)
  take_stands before after moment event more moves given stands (onward is place gives) =
      let w = stop_of chain start moves in
      let prefix = w.prefix ++ record { moment = moment; value = event } ∷ [] in
      let on = chain.pass w.stage prefix in
      let stop = next_event moves moment event stands.used is in
      let there : Stop S Event Reply Command = record { last = w.last; before = w.before ++ on.owed; stage = on.stage; prefix = prefix; rest = []; unused = [] } in
      let so_far : owed_at chain w ≡ w.before ++ chain.so_far w.stage w.prefix = rw (is, append-nil) refl in
      placed after (moves ++ Took moment event ∷ []) (given ++ more) there stop place refl (λ ask asked. refl)
      (λ view. gave_more view given more w.before (chain.so_far w.stage w.prefix) (owed_over chain w.stage prefix)
      (stands.gave view ∙ ap (λ l. seen_of view l) so_far) (gives view)
      ∙ ap (λ l. seen_of view l) (sym (append_assoc w.before on.owed (owed_here chain on.stage prefix))))
  take_stands before after moment event more moves given stands (past_end owed is place gives) =
      let w = stop_of chain start moves in
      let e : Stamped Event = record { stamp = record { step = 1 + length moves; moment = moment }; value = event } in
      let P : Look Command → Type 0 = IsFound in
      let stop = next_behind moves moment event (subst P (sym is) tt) in
      placed after (moves ++ Took moment event ∷ []) (given ++ more) (behind w (e ∷ [])) stop place stands.used
      (λ ask asked. absurd (let no : Ends owed ≡ Asks ask = sym is ∙ asked in cc))
      (λ view. seen_append view given more ∙ (ap (λ l. seen_of view given ++ l) (gives view) ∙ (append-nil (seen_of view given) ∙ stands.gave view)))

  resume_stands : (before after : M) (moment : ℕ) (reply : Reply) (more : List Command) (moves : List Move) (given : List Command) →
      StandsAt chain start is_at before moves given →
      Resumes chain is_at after moment reply more (stop_of chain start moves).stage (stop_of chain start moves).prefix →
      StandsAt chain start is_at after (moves ++ Replied moment reply ∷ []) (given ++ more)
  resume_stands before after moment reply more moves given stands resumes =
      let w = stop_of chain start moves in
      let r : Stamped Reply = record { stamp = record { step = 1 + length moves; moment = moment }; value = reply } in
      let turn = chain.turn w.stage w.prefix (record { moment = moment; value = reply }) in
      let so_far = chain.so_far w.stage w.prefix in
      let behind_it = chain.behind w.stage w.prefix in
      let over = owed_over chain turn.stage w.prefix in
      let ask = resumes.ask in
      let stop = after_reply moves moment reply
      ∙ one_reply chain law (replies_in 1 moves) never [] start [] (events_in 1 moves) ask r (stands.seen ask resumes.asked) resumes.asked in
      let asked : owed_at chain w ≡ w.before ++ (so_far ++ ask ∷ behind_it) = rw resumes.asked refl in
      let regroup : w.before ++ ((so_far ++ ask ∷ behind_it) ++ (turn.owed ++ over)) ≡ (w.before ++ (so_far ++ ask ∷ (behind_it ++ turn.owed))) ++ over = simp append_assoc in
      placed after (moves ++ Replied moment reply ∷ []) (given ++ more) (reply_on chain w ask r) stop resumes.place refl (λ ask asked. refl)
      (λ view. gave_more view given more w.before (so_far ++ ask ∷ behind_it) ((so_far ++ ask ∷ behind_it) ++ (turn.owed ++ over))
      (stands.gave view ∙ ap (λ l. seen_of view l) asked)
      (ap (λ l. seen_of view (so_far ++ ask ∷ behind_it) ++ l) (resumes.gives view) ∙ sym (seen_append view (so_far ++ ask ∷ behind_it) (turn.owed ++ over)))
      ∙ ap (λ l. seen_of view l) (regroup ∙ sym (owed_reply_on chain w ask r)))

-- The chain, its start and the places hang on how the layer was made.
module _ {M S : Type 0} (chain : M → Chain S Event Reply Command) (law : (made : M) → Settles (chain made)) (start : M → S)
    (is_at : M → M → S → List (Timed Event) → Type 0) where
  -- what a state stands for
  abbrev pub stands_at : M → M → List Move → List Command → Type 0
  stands_at made = StandsAt (chain made) (start made) (is_at made)

  settled_there : (made : M) (moves : List Move) → IsSettled (chain made) (stop_of (chain made) (start made) moves).stage (stop_of (chain made) (start made) moves).prefix
  settled_there made moves = (stopped (chain made) (law made) (replies_in 1 moves) never [] (start made) [] (events_in 1 moves)).settled

  -- the law of a `take`
  pub take_goes : (before after : M) (moment : ℕ) (event : Event) (more out new_out : List Command) → new_out ≡ out ++ more →
      ((made : M) (stage : S) (prefix : List (Timed Event)) → IsSettled (chain made) stage prefix → is_at made before stage prefix →
      Takes (chain made) (is_at made) after moment event more stage prefix) →
      Goes stands_at before after (Took moment event) out new_out
  take_goes before after moment event more out new_out grown takes = record {
    more = more;
    grown = grown;
    stands = λ made moves given stands. take_stands (chain made) (law made) (start made) (is_at made) before after moment event more moves given stands
        (takes made (stop_of (chain made) (start made) moves).stage (stop_of (chain made) (start made) moves).prefix (settled_there made moves) stands.place);
  }

  -- the law of a `resume`
  pub resume_goes : (before after : M) (moment : ℕ) (reply : Reply) (more out new_out : List Command) → new_out ≡ out ++ more →
      ((made : M) (stage : S) (prefix : List (Timed Event)) → IsSettled (chain made) stage prefix → is_at made before stage prefix →
      Resumes (chain made) (is_at made) after moment reply more stage prefix) →
      Goes stands_at before after (Replied moment reply) out new_out
  resume_goes before after moment reply more out new_out grown resumes = record {
    more = more;
    grown = grown;
    stands = λ made moves given stands. resume_stands (chain made) (law made) (start made) (is_at made) before after moment reply more moves given stands
        (resumes made (stop_of (chain made) (start made) moves).stage (stop_of (chain made) (start made) moves).prefix (settled_there made moves) stands.place);
  }

-- after a call a state stands for something again
pub sound_after : {M : Type 0} (standing : Standing M) (before after : M) (move : Move) (out new_out : List Command) →
    IsSound standing before → Goes standing before after move out new_out → IsSound standing after
sound_after standing before after move out new_out (made, past, given, stands) goes = (made, _, _, goes.stands made past given stands)
