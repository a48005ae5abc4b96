-- What a chain owes that leaves its flows behind has no ask of a flow behind its end.
use Rattle.std.proofs.Common.{◌≡◌, ◌⊎◌, inl, inr, ℕ, Bool, true, List, [], ◌∷◌, ◌++◌, refl}
use Rattle.px_event.specs.declared.ask.Ask.TheVariants as asks
use Rattle.px_event.specs.declared.command.Command.{Command}
use Rattle.px_event.specs.declared.command.Command.TheVariants as commands
use Rattle.px_event.specs.Chain.{Stamp, Stamped, Timed, worked_off, at_its_step, Chain, Look, NotYet, Asks, Ends, Reached, reach, reach_by, Stop, walk, walk_by, found_at, owed_at, never, due}
use Rattle.px_core.specs.Ordered.{AsksNoneOf, EndsOneOf, AsksBeforeEnds, LeavesBehind, LeavesFlows}

none_append : (index : ℕ) (xs ys : List Command) → AsksNoneOf index xs → AsksNoneOf index ys → AsksNoneOf index (xs ++ ys)
none_append index [] ys a b = b
none_append index (commands.Ask (asks.Hook number hook) flow ∷ xs) ys (apart, a) b = (apart, none_append index xs ys a b)
none_append index (commands.Ask (asks.Dial server) flow ∷ xs) ys a b = none_append index xs ys a b
none_append index (commands.Send side text ∷ xs) ys a b = none_append index xs ys a b
none_append index (commands.Close side ∷ xs) ys a b = none_append index xs ys a b
none_append index (commands.Dial server address inside ∷ xs) ys a b = none_append index xs ys a b
none_append index (commands.Done flow ∷ xs) ys a b = none_append index xs ys a b

ends_append : (index : ℕ) (xs ys : List Command) → EndsOneOf index (xs ++ ys) → EndsOneOf index xs ⊎ EndsOneOf index ys
ends_append index [] ys e = inr e
ends_append index (commands.Done flow ∷ xs) ys (inl is) = inl (inl is)
ends_append index (commands.Done flow ∷ xs) ys (inr e) = later (ends_append index xs ys e)
  where
    later : EndsOneOf index xs ⊎ EndsOneOf index ys → EndsOneOf index (commands.Done flow ∷ xs) ⊎ EndsOneOf index ys
    later (inl a) = inl (inr a)
    later (inr b) = inr b
ends_append index (commands.Send side text ∷ xs) ys e = ends_append index xs ys e
ends_append index (commands.Close side ∷ xs) ys e = ends_append index xs ys e
ends_append index (commands.Dial server address inside ∷ xs) ys e = ends_append index xs ys e
ends_append index (commands.Ask ask flow ∷ xs) ys e = ends_append index xs ys e

ordered_append : (xs ys : List Command) → AsksBeforeEnds xs → AsksBeforeEnds ys → ((index : ℕ) → EndsOneOf index xs → AsksNoneOf index ys) → AsksBeforeEnds (xs ++ ys)
ordered_append [] ys a b none = b
ordered_append (commands.Done flow ∷ xs) ys (here, a) b none =
    (none_append flow.id.index xs ys here (none flow.id.index (inl refl)), ordered_append xs ys a b (λ index e. none index (inr e)))
ordered_append (commands.Send side text ∷ xs) ys a b none = ordered_append xs ys a b none
ordered_append (commands.Close side ∷ xs) ys a b none = ordered_append xs ys a b none
ordered_append (commands.Dial server address inside ∷ xs) ys a b none = ordered_append xs ys a b none
ordered_append (commands.Ask ask flow ∷ xs) ys a b none = ordered_append xs ys a b none

module _ {S E R : Type 0} (chain : Chain S E R Command) (is_stage : S → Bool) (past : S → ℕ → Bool) (leaves : LeavesFlows chain is_stage past) where
  -- so far all is in order, and the stage is past each flow that was ended
  record IsPast (before : List Command) (s : S) : Type 0 where
    ordered : AsksBeforeEnds before
    ends : (index : ℕ) → EndsOneOf index before → past s index ≡ true
    leads : is_stage s ≡ true

  on : (before owed : List Command) (s next : S) → IsPast before s → LeavesBehind is_stage past s owed next → IsPast (before ++ owed) next
  on before owed s next at l = record {
    ordered = ordered_append before owed at.ordered l.ordered (λ index e. l.asks_none index (at.ends index e));
    ends = λ index e. by index (ends_append index before owed e);
    leads = l.leads;
  }
    where
      by : (index : ℕ) → EndsOneOf index before ⊎ EndsOneOf index owed → past next index ≡ true
      by index (inl a) = l.keeps index (at.ends index a)
      by index (inr b) = l.ends index b

  reach_by_past : (l : Look Command) (further here : Reached S E Command) → IsPast further.before further.stage → IsPast here.before here.stage →
      IsPast (reach_by l further here).before (reach_by l further here).stage
  reach_by_past NotYet further here a b = a
  reach_by_past (Asks ask) further here a b = b
  reach_by_past (Ends owed) further here a b = b

  reach_past : (last : Stamp) (before : List Command) (s : S) (f : List (Timed E)) (es : List (Stamped E)) → IsPast before s →
      IsPast (reach chain last before s f es).before (reach chain last before s f es).stage
  reach_past last before s f [] at = on before (chain.pass s f).owed s (chain.pass s f).stage at (leaves.passes s f at.leads)
  reach_past last before s f (e ∷ es) at =
      let here = on before (chain.pass s f).owed s (chain.pass s f).stage at (leaves.passes s f at.leads) in
      reach_by_past (chain.look (chain.pass s f).stage f) _ _
      (reach_past last (before ++ (chain.pass s f).owed) (chain.pass s f).stage (f ++ worked_off last e ∷ []) es here) here

  stop_past : (before : List Command) (s : S) (f : List (Timed E)) → IsPast before s → AsksBeforeEnds (before ++ (chain.so_far s f ++ found_at chain s f))
  stop_past before s f at =
      let l = leaves.stops s f at.leads in ordered_append before _ at.ordered l.ordered (λ index e. l.asks_none index (at.ends index e))

  walk_by_past : (l : Look Command) (onward : Command → Stop S E R Command) (stop : Stop S E R Command) →
      ((ask : Command) → l ≡ Asks ask → AsksBeforeEnds (owed_at chain (onward ask))) → AsksBeforeEnds (owed_at chain stop) →
      AsksBeforeEnds (owed_at chain (walk_by l onward stop))
  walk_by_past NotYet onward stop asked here = here
  walk_by_past (Asks ask) onward stop asked here = asked ask refl
  walk_by_past (Ends owed) onward stop asked here = here

  walk_past : (rs : List (Stamped R)) (last : Stamp) (before : List Command) (s : S) (f : List (Timed E)) (es : List (Stamped E)) → IsPast before s →
      AsksBeforeEnds (owed_at chain (walk chain rs last before s f es))
  walk_past [] last before s f es at =
      let here = reach chain last before s f es in stop_past here.before here.stage here.prefix (reach_past last before s f es at)
  walk_past (r ∷ rs) last before s f es at =
      let here = reach chain last before s f es in
      let there = reach_past last before s f es at in
      let turn = chain.turn here.stage here.prefix (at_its_step r) in
      let owed : Command → List Command = λ ask. chain.so_far here.stage here.prefix ++ ask ∷ (chain.behind here.stage here.prefix ++ turn.owed) in
      walk_by_past (chain.look here.stage here.prefix) _ _
      (λ ask is. walk_past rs r.stamp (here.before ++ owed ask) turn.stage here.prefix here.rest
      (on here.before (owed ask) here.stage turn.stage there (leaves.turns here.stage here.prefix ask there.leads is (at_its_step r))))
      (stop_past here.before here.stage here.prefix there)

  -- What is due has no ask of a flow behind its end.
  pub leaving_ordered : (start : S) → is_stage start ≡ true → (events : List (Stamped E)) (replies : List (Stamped R)) → AsksBeforeEnds (due chain start events replies)
  leaving_ordered start first events replies = walk_past replies never [] start [] events (record { ordered = tt; ends = λ index e. absurd e; leads = first })
