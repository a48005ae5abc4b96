-- What is due of a chain whose stages are among others is what is due of the chain, and it keeps the laws of a chain.
use Rattle.std.proofs.Common.{◌≡◌, List, [], ◌∷◌, ◌++◌, Option, Some, None, refl, ap, sym, ◌∙◌, subst}
use Rattle.px_text.specs.Prefix.{IsPrefixOf}
use Rattle.px_event.specs.declared.command.Command.{Command}
use Rattle.px_event.specs.declared.event.Event.{Event}
use Rattle.px_event.specs.declared.reply.Reply.{Reply}
use Rattle.px_event.specs.Chain.{Stamp, Stamped, Timed, worked_off, at_its_step, Chain, Look, NotYet, Asks, Ends, Turn, Reached, reach, reach_by, Stop, stop_at, walk, walk_by, found_with, owed_at, never, due}
use Rattle.px_event.specs.Laws.{IsSettled, Settles, SoFarGrows, owed_here, owed_over}
use Rattle.px_event.specs.Layer.{Move}
use Rattle.px_event.specs.Stands.{StandsAt, due_by, events_in, replies_in, stop_of}
use Rattle.px_event.specs.View.{seen_of}
use Rattle.px_event.proofs.Walk.{walk_on, walk_is}
use Rattle.px_resend.specs.Lifted.{behind_by, lifted, look_by, pass_by, so_far_by, turn_by, turn_into}

-- where a search and a walk stopped, with the stage that its own is
abbrev reached_into : {S U E A : Type 0} → (S → U) → Reached S E A → Reached U E A
reached_into into here = record { before = here.before; stage = into here.stage; prefix = here.prefix; rest = here.rest }

abbrev pub stop_into : {S U E R A : Type 0} → (S → U) → Stop S E R A → Stop U E R A
stop_into into w = record { last = w.last; before = w.before; stage = into w.stage; prefix = w.prefix; rest = w.rest; unused = w.unused }

module _ {S U E R A : Type 0} (into : S → U) (back : U → Option S) (kept : (s : S) → back (into s) ≡ Some s) (chain : Chain S E R A) where
  -- ---- its parts at its own stages

  pass_into : (s : S) (f : List (Timed E)) → (lifted into back chain).pass (into s) f ≡ turn_into into (chain.pass s f)
  pass_into s f = ap (λ o. pass_by into chain o (into s) f) (kept s)

  look_into : (s : S) (f : List (Timed E)) → (lifted into back chain).look (into s) f ≡ chain.look s f
  look_into s f = ap (λ o. look_by chain o f) (kept s)

  so_far_into : (s : S) (f : List (Timed E)) → (lifted into back chain).so_far (into s) f ≡ chain.so_far s f
  so_far_into s f = ap (λ o. so_far_by chain o f) (kept s)

  behind_into : (s : S) (f : List (Timed E)) → (lifted into back chain).behind (into s) f ≡ chain.behind s f
  behind_into s f = ap (λ o. behind_by chain o f) (kept s)

  turn_is_into : (s : S) (f : List (Timed E)) (answer : Timed R) → (lifted into back chain).turn (into s) f answer ≡ turn_into into (chain.turn s f answer)
  turn_is_into s f answer = ap (λ o. turn_by into chain o (into s) f answer) (kept s)

  -- ---- the walk

  reach_by_into : (l m : Look A) (further here : Reached U E A) (own_further own_here : Reached S E A) → l ≡ m → further ≡ reached_into into own_further →
      here ≡ reached_into into own_here → reach_by l further here ≡ reached_into into (reach_by m own_further own_here)
  reach_by_into l NotYet further here own_further own_here is a b = ap (λ k. reach_by k further here) is ∙ a
  reach_by_into l (Asks ask) further here own_further own_here is a b = ap (λ k. reach_by k further here) is ∙ b
  reach_by_into l (Ends owed) further here own_further own_here is a b = ap (λ k. reach_by k further here) is ∙ b

  -- the search from where it passed to
  abbrev passed : Stamp → List A → List (Timed E) → Stamped E → List (Stamped E) → Turn U A → Reached U E A
  passed last before f e es on =
      reach_by ((lifted into back chain).look on.stage f)
      (reach (lifted into back chain) last (before ++ on.owed) on.stage (f ++ worked_off last e ∷ []) es)
      (record { before = before ++ on.owed; stage = on.stage; prefix = f; rest = e ∷ es })

  reach_into : (last : Stamp) (before : List A) (s : S) (f : List (Timed E)) (es : List (Stamped E)) →
      reach (lifted into back chain) last before (into s) f es ≡ reached_into into (reach chain last before s f es)
  reach_into last before s f [] =
      ap (λ (on : Turn U A). record { before = before ++ on.owed; stage = on.stage; prefix = f; rest = [] }) (pass_into s f)
  reach_into last before s f (e ∷ es) =
      let on = chain.pass s f in
      ap (passed last before f e es) (pass_into s f)
      ∙ reach_by_into _ (chain.look on.stage f) _ _ _ (record { before = before ++ on.owed; stage = on.stage; prefix = f; rest = e ∷ es })
      (look_into on.stage f) (reach_into last (before ++ on.owed) on.stage (f ++ worked_off last e ∷ []) es) refl

  walk_by_into : (l m : Look A) (onward : A → Stop U E R A) (own_onward : A → Stop S E R A) (stop : Stop U E R A) (own_stop : Stop S E R A) → l ≡ m →
      ((ask : A) → onward ask ≡ stop_into into (own_onward ask)) → stop ≡ stop_into into own_stop →
      walk_by l onward stop ≡ stop_into into (walk_by m own_onward own_stop)
  walk_by_into l NotYet onward own_onward stop own_stop is a b = ap (λ k. walk_by k onward stop) is ∙ b
  walk_by_into l (Asks ask) onward own_onward stop own_stop is a b = ap (λ k. walk_by k onward stop) is ∙ a ask
  walk_by_into l (Ends owed) onward own_onward stop own_stop is a b = ap (λ k. walk_by k onward stop) is ∙ b

  -- the walk behind a reply
  abbrev replied : List (Stamped R) → Stamp → Reached S E A → A → List A → List A → Turn U A → Stop U E R A
  replied rs last here ask so_far behind on =
      walk (lifted into back chain) rs last (here.before ++ (so_far ++ ask ∷ (behind ++ on.owed))) on.stage here.prefix here.rest

  walk_into : (rs : List (Stamped R)) (last : Stamp) (before : List A) (s : S) (f : List (Timed E)) (es : List (Stamped E)) →
      walk (lifted into back chain) rs last before (into s) f es ≡ stop_into into (walk chain rs last before s f es)
  walk_into [] last before s f es = ap (λ h. stop_at last h []) (reach_into last before s f es)
  walk_into (r ∷ rs) last before s f es =
      let here = reach chain last before s f es in
      let on = chain.turn here.stage here.prefix (at_its_step r) in
      let so_far = chain.so_far here.stage here.prefix in
      let behind = chain.behind here.stage here.prefix in
      let lifted_on = (lifted into back chain).turn (into here.stage) here.prefix (at_its_step r) in
      let lifted_behind = (lifted into back chain).behind (into here.stage) here.prefix in
      walk_is (lifted into back chain) (r ∷ rs) last before (into s) f es
      ∙ ap (walk_on (lifted into back chain) (r ∷ rs) last) (reach_into last before s f es)
      ∙ walk_by_into _ (chain.look here.stage here.prefix) _ (λ ask. walk chain rs r.stamp (here.before ++ (so_far ++ ask ∷ (behind ++ on.owed))) on.stage here.prefix here.rest)
      _ (stop_at last here (r ∷ rs)) (look_into here.stage here.prefix)
      (λ ask. ap (λ owed. replied rs r.stamp here ask owed lifted_behind lifted_on) (so_far_into here.stage here.prefix)
      ∙ ap (λ owed. replied rs r.stamp here ask so_far owed lifted_on) (behind_into here.stage here.prefix)
      ∙ ap (replied rs r.stamp here ask so_far behind) (turn_is_into here.stage here.prefix (at_its_step r))
      ∙ walk_into rs r.stamp (here.before ++ (so_far ++ ask ∷ (behind ++ on.owed))) on.stage here.prefix here.rest)
      refl

  -- ---- what is owed

  owed_here_into : (s : S) (f : List (Timed E)) → owed_here (lifted into back chain) (into s) f ≡ owed_here chain s f
  owed_here_into s f = ap (λ o. so_far_by chain o f ++ found_with (behind_by chain o f) (look_by chain o f)) (kept s)

  pub owed_into : (w : Stop S E R A) → owed_at (lifted into back chain) (stop_into into w) ≡ owed_at chain w
  owed_into w = ap (λ o. w.before ++ (so_far_by chain o w.prefix ++ found_with (behind_by chain o w.prefix) (look_by chain o w.prefix))) (kept w.stage)

  pub due_into : (start : S) (events : List (Stamped E)) (replies : List (Stamped R)) → due (lifted into back chain) (into start) events replies ≡ due chain start events replies
  due_into start events replies =
      ap (owed_at (lifted into back chain)) (walk_into replies never [] start [] events) ∙ owed_into (walk chain replies never [] start [] events)

  -- ---- the laws of a chain

  settled_by : Settles chain → (own : Option S) (stage : U) (f : List (Timed E)) → back stage ≡ own → IsSettled (lifted into back chain) (pass_by into chain own stage f).stage f
  settled_by law None stage f is = record {
    stays = ap (λ o. (pass_by into chain o stage f).stage) is;
    owes_nothing = ap (λ o. (pass_by into chain o stage f).owed) is;
  }
  settled_by law (Some own) stage f is =
      let there = (chain.pass own f).stage in
      let settled = law.at own f in
      record {
        stays = ap (λ (on : Turn U A). on.stage) (pass_into there f) ∙ ap into settled.stays;
        owes_nothing = ap (λ (on : Turn U A). on.owed) (pass_into there f) ∙ settled.owes_nothing;
      }

  pub settles_into : Settles chain → Settles (lifted into back chain)
  settles_into law = record { at = λ stage f. settled_by law (back stage) stage f refl }

  -- what is owed at a stage that is one of its own
  abbrev owed_from : List (Timed E) → Turn U A → List A
  owed_from f on = on.owed ++ owed_here (lifted into back chain) on.stage f

  owed_over_into : (stage : U) (own : S) (f : List (Timed E)) → back stage ≡ Some own → owed_over (lifted into back chain) stage f ≡ owed_over chain own f
  owed_over_into stage own f is =
      ap (λ o. owed_from f (pass_by into chain o stage f)) is ∙ ap (λ owed. (chain.pass own f).owed ++ owed) (owed_here_into (chain.pass own f).stage f)

  module _ {V : Type 0} (view : List A → List V) (nothing : view [] ≡ []) where
    grows_by : SoFarGrows chain view → (own : Option S) (stage : U) (f : List (Timed E)) (event : Timed E) → back stage ≡ own → look_by chain own f ≡ NotYet →
        IsPrefixOf (view (so_far_by chain own f)) (view (owed_over (lifted into back chain) stage (f ++ event ∷ [])))
    grows_by law None stage f event is not_yet =
        let longer = view (owed_over (lifted into back chain) stage (f ++ event ∷ [])) in
        let P : List V → Type 0 = λ l. IsPrefixOf l longer in
        subst P (sym nothing) (longer, refl)
    grows_by law (Some own) stage f event is not_yet =
        let P : List A → Type 0 = λ l. IsPrefixOf (view (chain.so_far own f)) (view l) in
        subst P (sym (owed_over_into stage own (f ++ event ∷ []) is)) (law.grows own f event not_yet)

    pub grows_into : SoFarGrows chain view → SoFarGrows (lifted into back chain) view
    grows_into law = record { grows = λ stage f event not_yet. grows_by law (back stage) stage f event refl not_yet }

-- ---- a layer that stands at one of its own stages

module _ {S U : Type 0} (into : S → U) (back : U → Option S) (kept : (s : S) → back (into s) ≡ Some s) (chain : Chain S Event Reply Command) (start : S) where
  pub stop_of_into : (moves : List Move) → stop_of (lifted into back chain) (into start) moves ≡ stop_into into (stop_of chain start moves)
  stop_of_into moves = walk_into into back kept chain (replies_in 1 moves) never [] start [] (events_in 1 moves)

  pub due_by_into : (moves : List Move) → due_by (lifted into back chain) (into start) moves ≡ due_by chain start moves
  due_by_into moves = due_into into back kept chain start (events_in 1 moves) (replies_in 1 moves)

  module _ {M N : Type 0} (is_at : M → S → List (Timed Event) → Type 0) (is_in : N → U → List (Timed Event) → Type 0) (own : M) (state : N)
      (there : (s : S) (f : List (Timed Event)) → is_at own s f → is_in state (into s) f) (moves : List Move) (given : List Command) where
    -- what is true of where a walk stopped
    stands_by : (w : Stop U Event Reply Command) → w ≡ stop_into into (stop_of chain start moves) → StandsAt chain start is_at own moves given →
        is_in state w.stage w.prefix
        × (w.unused ≡ [])
        × ((ask : Command) → (lifted into back chain).look w.stage w.prefix ≡ Asks ask → w.rest ≡ [])
    stands_by w is stands =
        let at = stop_of chain start moves in
        let P : Stop U Event Reply Command → Type 0 = λ v. is_in state v.stage v.prefix in
        let Q : Stop U Event Reply Command → Type 0 = λ v. (ask : Command) → (lifted into back chain).look v.stage v.prefix ≡ Asks ask → v.rest ≡ [] in (
          subst P (sym is) (there at.stage at.prefix stands.place),
          ap (λ v. v.unused) is ∙ stands.used,
          subst Q (sym is) (λ ask asks. stands.seen ask (sym (look_into into back kept chain at.stage at.prefix) ∙ asks)),
        )

    pub stands_into : StandsAt chain start is_at own moves given → StandsAt (lifted into back chain) (into start) is_in state moves given
    stands_into stands =
        let at = stands_by (stop_of (lifted into back chain) (into start) moves) (stop_of_into moves) stands in
        record { place = at.0; used = at.1; seen = at.2; gave = λ view. stands.gave view ∙ ap (seen_of view) (sym (due_by_into moves)) }
