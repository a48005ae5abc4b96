-- What holds of all that a chain owed so far, at each stage and over each prefix that a walk comes by, and so of all that is due.
use Rattle.std.proofs.Common.{◌≡◌, ℕ, List, [], ◌∷◌, ◌++◌, refl, ap, ◌∙◌}
use Rattle.std.specs.Prelude.{⊤}
use Rattle.px_event.specs.declared.command.Command.{Command}
use Rattle.px_event.specs.declared.event.Event.{Event}
use Rattle.px_event.specs.declared.reply.Reply.{Reply}
use Rattle.px_event.specs.declared.side.Side.TheVariants.{Server}
use Rattle.px_event.specs.Chain.{Stamp, Stamped, Timed, Look, NotYet, Asks, Ends, Turn, Reached, Stop, Chain, worked_off, at_its_step, never, reach, reach_by, walk, walk_by, found_at, owed_at}
use Rattle.px_event.specs.Layer.{Move}
use Rattle.px_event.specs.Stands.{due_by, events_in, replies_in}
use Rattle.px_event.specs.View.{bytes_in, line, seen_of}
use Rattle.px_event.proofs.LineLemmas.{bytes_join}
use Rattle.px_event.proofs.Seen.{seen_append}

-- the bytes that are sent to the server
abbrev pub sent_to : ℕ → List Command → List ℕ
sent_to server owed = bytes_in (seen_of (line (Server server)) owed)

pub sent_join : (server : ℕ) (xs ys : List Command) → sent_to server (xs ++ ys) ≡ sent_to server xs ++ sent_to server ys
sent_join server xs ys =
    ap bytes_in (seen_append (line (Server server)) xs ys) ∙ bytes_join (seen_of (line (Server server)) xs) (seen_of (line (Server server)) ys)

-- the events are such
abbrev pub AllMay : (Event → Type 0) → List (Stamped Event) → Type 0
AllMay may [] = ⊤
AllMay may (e ∷ es) = may e.value × AllMay may es

-- It holds of what was owed before, where a stage passes, hears an event and is answered, where the events are such; and so something holds of all where it stops.
pub record Keeps {S : Type 0} (chain : Chain S Event Reply Command) (may : Event → Type 0) (holds : S → List (Timed Event) → List Command → Type 0) (all : List Command → Type 0) : Type 0 where
  pub passes : (stage : S) (prefix : List (Timed Event)) (before : List Command) → holds stage prefix before →
      holds (chain.pass stage prefix).stage prefix (before ++ (chain.pass stage prefix).owed)
  pub hears : (stage : S) (prefix : List (Timed Event)) (before : List Command) (event : Timed Event) → may event.value → holds stage prefix before → holds stage (prefix ++ event ∷ []) before
  pub turns : (stage : S) (prefix : List (Timed Event)) (before : List Command) (ask : Command) (answer : Timed Reply) → chain.look stage prefix ≡ Asks ask → holds stage prefix before →
      holds (chain.turn stage prefix answer).stage prefix (before ++ (chain.so_far stage prefix ++ ask ∷ (chain.behind stage prefix ++ (chain.turn stage prefix answer).owed)))
  pub stops : (stage : S) (prefix : List (Timed Event)) (before : List Command) → holds stage prefix before → all (before ++ (chain.so_far stage prefix ++ found_at chain stage prefix))

module _ {S : Type 0} (chain : Chain S Event Reply Command) (may : Event → Type 0) (holds : S → List (Timed Event) → List Command → Type 0) (all : List Command → Type 0) (keeps : Keeps chain may holds all) where
  abbrev Here : Reached S Event Command → Type 0
  Here here = holds here.stage here.prefix here.before × AllMay may here.rest

  reach_by_kept : (l : Look Command) (further here : Reached S Event Command) → Here further → Here here → Here (reach_by l further here)
  reach_by_kept NotYet further here a b = a
  reach_by_kept (Asks ask) further here a b = b
  reach_by_kept (Ends owed) further here a b = b

  reach_kept : (last : Stamp) (before : List Command) (stage : S) (prefix : List (Timed Event)) (es : List (Stamped Event)) → AllMay may es → holds stage prefix before →
      Here (reach chain last before stage prefix es)
  reach_kept last before stage prefix [] are is = (keeps.passes stage prefix before is, tt)
  reach_kept last before stage prefix (e ∷ es) are is =
      let on : Turn S Command = chain.pass stage prefix in
      let here = keeps.passes stage prefix before is in
      reach_by_kept (chain.look on.stage prefix) _ _
      (reach_kept last (before ++ on.owed) on.stage (prefix ++ worked_off last e ∷ []) es are.1 (keeps.hears on.stage prefix (before ++ on.owed) (worked_off last e) are.0 here)) (here, are)

  walk_by_kept : (l : Look Command) (on : Command → Stop S Event Reply Command) (stop : Stop S Event Reply Command) →
      ((ask : Command) → l ≡ Asks ask → all (owed_at chain (on ask))) → all (owed_at chain stop) → all (owed_at chain (walk_by l on stop))
  walk_by_kept NotYet on stop asked here = here
  walk_by_kept (Asks ask) on stop asked here = asked ask refl
  walk_by_kept (Ends owed) on stop asked here = here

  walk_kept : (rs : List (Stamped Reply)) (last : Stamp) (before : List Command) (stage : S) (prefix : List (Timed Event)) (es : List (Stamped Event)) → AllMay may es → holds stage prefix before →
      all (owed_at chain (walk chain rs last before stage prefix es))
  walk_kept [] last before stage prefix es are is =
      let here : Reached S Event Command = reach chain last before stage prefix es in
      keeps.stops here.stage here.prefix here.before (reach_kept last before stage prefix es are is).0
  walk_kept (r ∷ rs) last before stage prefix es are is =
      let here : Reached S Event Command = reach chain last before stage prefix es in
      let there = reach_kept last before stage prefix es are is in
      let at : Turn S Command = chain.turn here.stage here.prefix (at_its_step r) in
      walk_by_kept (chain.look here.stage here.prefix) _ _
      (λ ask asked.
      walk_kept rs r.stamp (here.before ++ (chain.so_far here.stage here.prefix ++ ask ∷ (chain.behind here.stage here.prefix ++ at.owed))) at.stage here.prefix here.rest there.1
      (keeps.turns here.stage here.prefix here.before ask (at_its_step r) asked there.0))
      (keeps.stops here.stage here.prefix here.before there.0)

  -- So it holds of all that is due.
  pub kept_due : (start : S) (moves : List Move) → AllMay may (events_in 1 moves) → holds start [] [] → all (due_by chain start moves)
  kept_due start moves are is = walk_kept (replies_in 1 moves) never [] start [] (events_in 1 moves) are is
