-- A chain whose parts name flows of one conversation alone, at all its stages or at those that it comes to: then so does all
-- that is due.
use Rattle.std.proofs.Common.{◌≡◌, ℕ, List, [], ◌∷◌, ◌++◌, refl, subst}
use Rattle.px_event.specs.declared.command.Command.{Command}
use Rattle.px_event.specs.declared.event.Event.{Event}
use Rattle.px_event.specs.declared.reply.Reply.{Reply}
use Rattle.px_event.specs.Chain.{Stamp, Stamped, Timed, worked_off, at_its_step, never, Chain, Look, NotYet, Asks, Ends, Reached, reach, reach_by, Stop, stop_at, walk, walk_by, found, found_with, owed_at}
use Rattle.px_event.specs.Layer.{Move}
use Rattle.px_event.specs.Stands.{events_in, replies_in, due_by}
use Rattle.px_core.specs.Conversation.{IsNamed, AllNamed}

-- each part owes only asks and ends of flows of the conversation of this number
pub record OwesNamed {S E R : Type 0} (conv : ℕ) (chain : Chain S E R Command) : Type 0 where
  pub pass : (stage : S) (prefix : List (Timed E)) → AllNamed conv (chain.pass stage prefix).owed
  pub look : (stage : S) (prefix : List (Timed E)) → AllNamed conv (found (chain.look stage prefix))
  pub so_far : (stage : S) (prefix : List (Timed E)) → AllNamed conv (chain.so_far stage prefix)
  pub behind : (stage : S) (prefix : List (Timed E)) → AllNamed conv (chain.behind stage prefix)
  pub turn : (stage : S) (prefix : List (Timed E)) (reply : Timed R) → AllNamed conv (chain.turn stage prefix reply).owed

-- Each part at the stages of this kind does, and no part leads to another stage.
pub record StaysNamed {S E R : Type 0} (conv : ℕ) (chain : Chain S E R Command) (kind : S → Type 0) : Type 0 where
  pub pass : (stage : S) (prefix : List (Timed E)) → kind stage → AllNamed conv (chain.pass stage prefix).owed × kind (chain.pass stage prefix).stage
  pub look : (stage : S) (prefix : List (Timed E)) → kind stage → AllNamed conv (found (chain.look stage prefix))
  pub so_far : (stage : S) (prefix : List (Timed E)) → kind stage → AllNamed conv (chain.so_far stage prefix)
  pub behind : (stage : S) (prefix : List (Timed E)) → kind stage → AllNamed conv (chain.behind stage prefix)
  pub turn : (stage : S) (prefix : List (Timed E)) (reply : Timed R) → kind stage → AllNamed conv (chain.turn stage prefix reply).owed × kind (chain.turn stage prefix reply).stage

named_append : (conv : ℕ) (xs ys : List Command) → AllNamed conv xs → AllNamed conv ys → AllNamed conv (xs ++ ys)
named_append conv [] ys all more = more
named_append conv (x ∷ xs) ys (here, all) more = (here, named_append conv xs ys all more)

module _ {S E R : Type 0} (conv : ℕ) (chain : Chain S E R Command) (kind : S → Type 0) (named : StaysNamed conv chain kind) where
  -- what was owed before a place names the conversation, and its stage is of the kind
  abbrev Here : Reached S E Command → Type 0
  Here here = AllNamed conv here.before × kind here.stage

  reach_by_named : (l : Look Command) (further here : Reached S E Command) → Here further → Here here → Here (reach_by l further here)
  reach_by_named NotYet further here a b = a
  reach_by_named (Asks ask) further here a b = b
  reach_by_named (Ends owed) further here a b = b

  reach_named : (last : Stamp) (before : List Command) (s : S) (f : List (Timed E)) (es : List (Stamped E)) → AllNamed conv before → kind s → Here (reach chain last before s f es)
  reach_named last before s f [] all is = let on = named.pass s f is in (named_append conv before (chain.pass s f).owed all on.0, on.1)
  reach_named last before s f (e ∷ es) all is =
      let on = named.pass s f is in
      let here = named_append conv before (chain.pass s f).owed all on.0 in
      reach_by_named (chain.look (chain.pass s f).stage f) _ _
      (reach_named last (before ++ (chain.pass s f).owed) (chain.pass s f).stage (f ++ worked_off last e ∷ []) es here on.1) (here, on.1)

  found_named : (behind : List Command) (l : Look Command) → AllNamed conv behind → AllNamed conv (found l) → AllNamed conv (found_with behind l)
  found_named behind NotYet all here = tt
  found_named behind (Asks ask) all here = (here.0, all)
  found_named behind (Ends owed) all here = here

  there_named : (w : Stop S E R Command) → AllNamed conv w.before → kind w.stage → AllNamed conv (owed_at chain w)
  there_named w all is =
      named_append conv w.before _ all (named_append conv (chain.so_far w.stage w.prefix) _ (named.so_far w.stage w.prefix is)
      (found_named (chain.behind w.stage w.prefix) (chain.look w.stage w.prefix) (named.behind w.stage w.prefix is) (named.look w.stage w.prefix is)))

  asked_named : (l : Look Command) (ask : Command) → l ≡ Asks ask → AllNamed conv (found l) → IsNamed conv ask
  asked_named l ask is all = let Q : Look Command → Type 0 = λ k. AllNamed conv (found k) in let one : AllNamed conv (found (Asks ask)) = subst Q is all in one.0

  walk_by_named : (l : Look Command) (onward : Command → Stop S E R Command) (stop : Stop S E R Command) → ((ask : Command) → l ≡ Asks ask → AllNamed conv (owed_at chain (onward ask))) →
      AllNamed conv (owed_at chain stop) → AllNamed conv (owed_at chain (walk_by l onward stop))
  walk_by_named NotYet onward stop a b = b
  walk_by_named (Asks ask) onward stop a b = a ask refl
  walk_by_named (Ends owed) onward stop a b = b

  walk_named : (rs : List (Stamped R)) (last : Stamp) (before : List Command) (s : S) (f : List (Timed E)) (es : List (Stamped E)) → AllNamed conv before → kind s →
      AllNamed conv (owed_at chain (walk chain rs last before s f es))
  walk_named [] last before s f es all is =
      let here = reach_named last before s f es all is in there_named (stop_at last (reach chain last before s f es) []) here.0 here.1
  walk_named (r ∷ rs) last before s f es all is =
      let here = reach chain last before s f es in
      let on = chain.turn here.stage here.prefix (at_its_step r) in
      let so_far = chain.so_far here.stage here.prefix in
      let behind = chain.behind here.stage here.prefix in
      let at_here = reach_named last before s f es all is in
      let turned = named.turn here.stage here.prefix (at_its_step r) at_here.1 in
      walk_by_named (chain.look here.stage here.prefix) _ _
      (λ ask asks. walk_named rs r.stamp (here.before ++ (so_far ++ ask ∷ (behind ++ on.owed))) on.stage here.prefix here.rest
      (named_append conv here.before _ at_here.0 (named_append conv so_far (ask ∷ (behind ++ on.owed)) (named.so_far here.stage here.prefix at_here.1) (
        asked_named (chain.look here.stage here.prefix) ask asks (named.look here.stage here.prefix at_here.1),
        named_append conv behind on.owed (named.behind here.stage here.prefix at_here.1) turned.0,
      ))) turned.1)
      (there_named (stop_at last here (r ∷ rs)) at_here.0 at_here.1)

-- what is due from a stage of the kind names the conversation
pub stays_named : {S : Type 0} (conv : ℕ) (chain : Chain S Event Reply Command) (kind : S → Type 0) (start : S) → StaysNamed conv chain kind → kind start → (moves : List Move) →
    AllNamed conv (due_by chain start moves)
stays_named conv chain kind start named is moves = walk_named conv chain kind named (replies_in 1 moves) never [] start [] (events_in 1 moves) tt is

-- and so does what is due of a chain whose every part does
pub all_named : {S : Type 0} (conv : ℕ) (chain : Chain S Event Reply Command) (start : S) → OwesNamed conv chain → (moves : List Move) → AllNamed conv (due_by chain start moves)
all_named {S} conv chain start named moves =
    let kind : S → Type 0 = λ s. Unit {0} in
    let stays : StaysNamed conv chain kind = record {
      pass = λ stage prefix is. (named.pass stage prefix, tt);
      look = λ stage prefix is. named.look stage prefix;
      so_far = λ stage prefix is. named.so_far stage prefix;
      behind = λ stage prefix is. named.behind stage prefix;
      turn = λ stage prefix reply is. (named.turn stage prefix reply, tt);
    } in
    stays_named conv chain kind start stays tt moves
