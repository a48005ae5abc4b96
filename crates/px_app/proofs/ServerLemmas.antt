-- A chain whose dials are numbered by their order: so are those that are due, and those of a trace within what is due.
use Rattle.std.proofs.Common.{◌≡◌, ℕ, ◌+◌, Bool, true, false, cond, List, [], ◌∷◌, ◌++◌, length, Option, Some, None, refl, sym, ap, ◌∙◌, subst, arith, zero-add}
use Rattle.std.specs.Prelude.{◌==◌}
use Rattle.std.specs.List.{flat_map}
use Rattle.std.proofs.lemmas.List.{append-nil, length-append}
use Rattle.std.proofs.lemmas.Grind.{flat_map-append}
use Rattle.px_message.specs.declared.address.Address.{Address}
use Rattle.px_event.specs.declared.command.Command.{Command}
use Rattle.px_event.specs.declared.command.Command.TheVariants as commands
use Rattle.px_event.specs.declared.event.Event.{Event}
use Rattle.px_event.specs.declared.reply.Reply.{Reply}
use Rattle.px_event.specs.declared.said.Said.{Said}
use Rattle.px_event.specs.declared.said.Said.TheVariants as said
use Rattle.px_event.specs.declared.step.Step.{Step}
use Rattle.px_event.specs.declared.step.Step.TheVariants as steps
use Rattle.px_event.specs.Chain.{Stamp, Stamped, Timed, worked_off, at_its_step, never, Chain, Look, NotYet, Asks, Ends, Reached, reach, reach_by, Stop, stop_at, walk, walk_by, found, found_with, owed_at}
use Rattle.px_event.specs.Layer.{Move}
use Rattle.px_event.specs.Stands.{events_in, replies_in, due_by}
use Rattle.px_event.specs.Trace.{Trace, Always, said_in}
use Rattle.px_event.specs.View.{Atom, about, asked, byte, close, dialled, done, questions, seen_of, seen_in, command_atoms, step_atoms, said_atoms}
use Rattle.px_core.specs.Due.{Due, IsWithinDue, due_at}
use Rattle.px_core.specs.Calls.{calls}
use Rattle.px_core.specs.Unmarked.{all_unmarked}
use Rattle.px_resend.specs.Dialled.{dial_in, dials_in}
use Rattle.px_app.specs.Servers.{server_of, dialled_in, CountsFrom, CountsServers}

-- ---- numbers that count

pub counts_more : (n : ℕ) (xs ys : List ℕ) → CountsFrom n xs → CountsFrom (n + length xs) ys → CountsFrom n (xs ++ ys)
counts_more n [] ys all more = let P : ℕ → Type 0 = λ k. CountsFrom k ys in let same : n + 0 ≡ n = omega arith in subst P same more
counts_more n (x ∷ xs) ys (here, all) more =
    let P : ℕ → Type 0 = λ k. CountsFrom k ys in
    let same : n + length (x ∷ xs) ≡ (n + 1) + length xs = omega arith in
    (here, counts_more (n + 1) xs ys all (subst P same more))

pub counts_front : (n : ℕ) (xs ys : List ℕ) → CountsFrom n (xs ++ ys) → CountsFrom n xs
counts_front n [] ys all = tt
counts_front n (x ∷ xs) ys (here, all) = (here, counts_front (n + 1) xs ys all)

-- ---- the dials among commands

pub dials_more : (xs ys : List Command) → dials_in (xs ++ ys) ≡ dials_in xs ++ dials_in ys
dials_more xs ys = flat_map-append dial_in xs ys

none_behind : (xs ys : List Command) → dials_in ys ≡ [] → dials_in (xs ++ ys) ≡ dials_in xs
none_behind xs ys none = dials_more xs ys ∙ (ap (λ l. dials_in xs ++ l) none ∙ append-nil (dials_in xs))

-- what is owed behind an ask, and dials nothing, leaves its dials as they were
found_dials : (behind : List Command) (l : Look Command) → dials_in behind ≡ [] → dials_in (found_with behind l) ≡ dials_in (found l)
found_dials behind NotYet none = refl
found_dials behind (Asks ask) none = none_behind (ask ∷ []) behind none
found_dials behind (Ends owed) none = refl

-- A chain whose stages know how many servers were dialled: what a stage finds dials the next one or none, and nothing else
-- dials.
pub record CountsDials {S E R : Type 0} (chain : Chain S E R Command) (dialled_so : ℕ → S → Type 0) : Type 0 where
  pub pass : (n : ℕ) (stage : S) (prefix : List (Timed E)) → dialled_so n stage → (dials_in (chain.pass stage prefix).owed ≡ []) × dialled_so n (chain.pass stage prefix).stage
  pub so_far : (stage : S) (prefix : List (Timed E)) → dials_in (chain.so_far stage prefix) ≡ []
  pub behind : (stage : S) (prefix : List (Timed E)) → dials_in (chain.behind stage prefix) ≡ []
  pub look : (n : ℕ) (stage : S) (prefix : List (Timed E)) → dialled_so n stage → CountsFrom n (dials_in (found (chain.look stage prefix)))
  pub turn : (n : ℕ) (stage : S) (prefix : List (Timed E)) (ask : Command) (reply : Timed R) → dialled_so n stage → chain.look stage prefix ≡ Asks ask →
      (dials_in (chain.turn stage prefix reply).owed ≡ []) × dialled_so (n + length (dials_in (ask ∷ []))) (chain.turn stage prefix reply).stage

module _ {S E R : Type 0} (chain : Chain S E R Command) (dialled_so : ℕ → S → Type 0) (law : CountsDials chain dialled_so) where
  -- what was owed before a place counts its dials, and its stage knows them
  abbrev Counted : List Command → S → Type 0
  Counted before stage = CountsFrom 0 (dials_in before) × dialled_so (length (dials_in before)) stage

  passes : (before : List Command) (s : S) (prefix : List (Timed E)) → Counted before s → Counted (before ++ (chain.pass s prefix).owed) (chain.pass s prefix).stage
  passes before s prefix (counts, knows) =
      let on = law.pass (length (dials_in before)) s prefix knows in
      let same = none_behind before (chain.pass s prefix).owed on.0 in
      let P : List ℕ → Type 0 = λ l. CountsFrom 0 l × dialled_so (length l) (chain.pass s prefix).stage in
      subst P (sym same) (counts, on.1)

  abbrev Here : Reached S E Command → Type 0
  Here here = Counted here.before here.stage

  reach_by_counted : (l : Look Command) (further here : Reached S E Command) → Here further → Here here → Here (reach_by l further here)
  reach_by_counted NotYet further here a b = a
  reach_by_counted (Asks ask) further here a b = b
  reach_by_counted (Ends owed) further here a b = b

  reach_counted : (last : Stamp) (before : List Command) (s : S) (f : List (Timed E)) (es : List (Stamped E)) → Counted before s → Here (reach chain last before s f es)
  reach_counted last before s f [] c = passes before s f c
  reach_counted last before s f (e ∷ es) c =
      let on = passes before s f c in
      reach_by_counted (chain.look (chain.pass s f).stage f) _ _
      (reach_counted last (before ++ (chain.pass s f).owed) (chain.pass s f).stage (f ++ worked_off last e ∷ []) es on) on

  there_counted : (w : Stop S E R Command) → Counted w.before w.stage → CountsFrom 0 (dials_in (owed_at chain w))
  there_counted w (counts, knows) =
      let P : List ℕ → Type 0 = CountsFrom 0 in
      let so_far = chain.so_far w.stage w.prefix in
      let looks = chain.look w.stage w.prefix in
      let behind = chain.behind w.stage w.prefix in
      let ends = found looks in
      let all = found_with behind looks in
      let same : dials_in (owed_at chain w) ≡ dials_in w.before ++ dials_in ends =
      dials_more w.before (so_far ++ all)
      ∙ ap (λ l. dials_in w.before ++ l)
      (dials_more so_far all ∙ (ap (λ l. l ++ dials_in all) (law.so_far w.stage w.prefix) ∙ found_dials behind looks (law.behind w.stage w.prefix))) in
      let Q : ℕ → Type 0 = λ k. CountsFrom k (dials_in ends) in
      subst P (sym same) (counts_more 0 (dials_in w.before) (dials_in ends) counts (subst Q (sym (zero-add (length (dials_in w.before)))) (law.look (length (dials_in w.before)) w.stage w.prefix knows)))

  turned : (before : List Command) (s : S) (prefix : List (Timed E)) (ask : Command) (reply : Timed R) → Counted before s → chain.look s prefix ≡ Asks ask →
      Counted (before ++ (chain.so_far s prefix ++ ask ∷ (chain.behind s prefix ++ (chain.turn s prefix reply).owed))) (chain.turn s prefix reply).stage
  turned before s prefix ask reply (counts, knows) asks =
      let n = length (dials_in before) in
      let on = law.turn n s prefix ask reply knows asks in
      let one = dials_in (ask ∷ []) in
      let owed = (chain.turn s prefix reply).owed in
      let rest = chain.behind s prefix ++ owed in
      let none : dials_in rest ≡ [] = dials_more (chain.behind s prefix) owed ∙ (ap (λ l. l ++ dials_in owed) (law.behind s prefix) ∙ on.0) in
      let asked : dials_in (ask ∷ rest) ≡ one = none_behind (ask ∷ []) rest none in
      let same : dials_in (before ++ (chain.so_far s prefix ++ ask ∷ rest)) ≡ dials_in before ++ one =
      dials_more before (chain.so_far s prefix ++ ask ∷ rest)
      ∙ ap (λ l. dials_in before ++ l) (dials_more (chain.so_far s prefix) (ask ∷ rest) ∙ (ap (λ l. l ++ dials_in (ask ∷ rest)) (law.so_far s prefix) ∙ asked)) in
      let Q : Look Command → Type 0 = λ l. CountsFrom n (dials_in (found l)) in
      let P : List ℕ → Type 0 = λ l. CountsFrom 0 l × dialled_so (length l) (chain.turn s prefix reply).stage in
      let Z : ℕ → Type 0 = λ k. CountsFrom k one in
      let R' : ℕ → Type 0 = λ k. dialled_so k (chain.turn s prefix reply).stage in
      subst P (sym same) (counts_more 0 (dials_in before) one counts (subst Z (sym (zero-add n)) (subst Q asks (law.look n s prefix knows))), subst R' (sym (length-append (dials_in before) one)) on.1)

  walk_by_counted : (l : Look Command) (onward : Command → Stop S E R Command) (stop : Stop S E R Command) →
      ((ask : Command) → l ≡ Asks ask → CountsFrom 0 (dials_in (owed_at chain (onward ask)))) → CountsFrom 0 (dials_in (owed_at chain stop)) →
      CountsFrom 0 (dials_in (owed_at chain (walk_by l onward stop)))
  walk_by_counted NotYet onward stop a b = b
  walk_by_counted (Asks ask) onward stop a b = a ask refl
  walk_by_counted (Ends owed) onward stop a b = b

  walk_counted : (rs : List (Stamped R)) (last : Stamp) (before : List Command) (s : S) (f : List (Timed E)) (es : List (Stamped E)) → Counted before s →
      CountsFrom 0 (dials_in (owed_at chain (walk chain rs last before s f es)))
  walk_counted [] last before s f es c = there_counted (stop_at last (reach chain last before s f es) []) (reach_counted last before s f es c)
  walk_counted (r ∷ rs) last before s f es c =
      let here = reach chain last before s f es in
      let at_here = reach_counted last before s f es c in
      walk_by_counted (chain.look here.stage here.prefix) _ _
      (λ ask asks. walk_counted rs r.stamp _ _ here.prefix here.rest (turned here.before here.stage here.prefix ask (at_its_step r) at_here asks))
      (there_counted (stop_at last here (r ∷ rs)) at_here)

-- the dials that are due are numbered by their order
pub due_counts : {S : Type 0} (chain : Chain S Event Reply Command) (dialled_so : ℕ → S → Type 0) (start : S) → CountsDials chain dialled_so → dialled_so 0 start → (moves : List Move) →
    CountsFrom 0 (dials_in (due_by chain start moves))
due_counts chain dialled_so start law knows moves = walk_counted chain dialled_so law (replies_in 1 moves) never [] start [] (events_in 1 moves) (tt, knows)

-- ---- from the view of the questions

abbrev atom_server : Atom → List ℕ
atom_server (dialled server address) = server ∷ []
atom_server _ = []

abbrev servers_in : List Atom → List ℕ
servers_in atoms = flat_map atom_server atoms

-- marks are of no server
servers_unmarked : (atoms : List Atom) → servers_in (all_unmarked atoms) ≡ servers_in atoms
servers_unmarked [] = refl
servers_unmarked (byte value ∷ atoms) = servers_unmarked atoms
servers_unmarked (close side ∷ atoms) = servers_unmarked atoms
servers_unmarked (asked ask ∷ atoms) = servers_unmarked atoms
servers_unmarked (dialled server address ∷ atoms) = ap (λ l. server ∷ l) (servers_unmarked atoms)
servers_unmarked (done flow ∷ atoms) = servers_unmarked atoms
servers_unmarked (about ask flow ∷ atoms) = servers_unmarked atoms

command_servers : (command : Command) → servers_in (command_atoms questions command) ≡ dial_in command
command_servers (commands.Send side text) = refl
command_servers (commands.Close side) = refl
command_servers (commands.Dial server address inside) = refl
command_servers (commands.Ask ask flow) = refl
command_servers (commands.Done flow) = refl

seen_servers : (list : List Command) → servers_in (seen_of questions list) ≡ dials_in list
seen_servers [] = refl
seen_servers (command ∷ list) =
    flat_map-append atom_server (command_atoms questions command) (seen_of questions list)
    ∙ (ap (λ l. l ++ servers_in (seen_of questions list)) (command_servers command) ∙ ap (λ l. dial_in command ++ l) (seen_servers list))

said_servers : (mine : Bool) (what : Said) → servers_in (cond mine (said_atoms questions what) []) ≡ flat_map server_of (cond mine (what ∷ []) [])
said_servers false what = refl
said_servers true (said.Send side text) = refl
said_servers true (said.Close side) = refl
said_servers true (said.Dial server address) = refl

asked_servers : (mine : Bool) (atom : Atom) → atom_server atom ≡ [] → servers_in (cond mine (atom ∷ []) []) ≡ []
asked_servers false atom none = refl
asked_servers true atom none = ap (λ l. l ++ []) none

step_servers : (conv : ℕ) (step : Step) → servers_in (step_atoms questions conv step) ≡ flat_map server_of (said_in conv step)
step_servers conv (steps.Heard moment what) = refl
step_servers conv (steps.Asked other ask) = asked_servers (other == conv) (asked ask) refl
step_servers conv (steps.Answered other ask reply) = refl
step_servers conv (steps.Said other what) = said_servers (other == conv) what
step_servers conv (steps.Done flow) = refl
step_servers conv (steps.Begun number) = refl

trace_servers : (conv : ℕ) (trace : Trace) → servers_in (seen_in questions conv trace) ≡ dialled_in trace conv
trace_servers conv [] = refl
trace_servers conv (step ∷ trace) =
    flat_map-append atom_server (step_atoms questions conv step) (seen_in questions conv trace)
    ∙ (ap (λ l. l ++ servers_in (seen_in questions conv trace)) (step_servers conv step)
    ∙ (ap (λ l. flat_map server_of (said_in conv step) ++ l) (trace_servers conv trace)
    ∙ sym (flat_map-append server_of (said_in conv step) (flat_map (said_in conv) trace))))

-- what is due is numbered so, in every conversation
abbrev pub CountsDue : Due → Type 0
CountsDue due = (conv : ℕ) (peer : Option Address) (moves : List Move) → CountsFrom 0 (dials_in (due conv peer moves))

counts_at : (due : Due) → CountsDue due → (conv : ℕ) (peer : Option (Option Address)) (moves : List Move) → CountsFrom 0 (dials_in (due_at due conv peer moves))
counts_at due counts conv None moves = tt
counts_at due counts conv (Some peer) moves = counts conv peer moves

within_counts : (due : Due) → CountsDue due → (trace : Trace) → IsWithinDue due trace → CountsServers trace
within_counts due counts trace within conv =
    let prefix = within conv questions tt in
    let c = calls conv trace in
    let P : List ℕ → Type 0 = CountsFrom 0 in
    let all : dials_in (due_at due conv c.peer c.moves) ≡ dialled_in trace conv ++ servers_in prefix.0 =
    sym (seen_servers (due_at due conv c.peer c.moves))
    ∙ (sym (servers_unmarked (seen_of questions (due_at due conv c.peer c.moves)))
    ∙ (ap servers_in prefix.1
    ∙ (flat_map-append atom_server (all_unmarked (seen_in questions conv trace)) prefix.0
    ∙ ap (λ l. l ++ servers_in prefix.0) (servers_unmarked (seen_in questions conv trace) ∙ trace_servers conv trace)))) in
    counts_front 0 (dialled_in trace conv) (servers_in prefix.0) (subst P all (counts_at due counts conv c.peer c.moves))

-- at every moment
pub always_counts : (due : Due) → CountsDue due → (trace : Trace) → Always (IsWithinDue due) trace → Always CountsServers trace
always_counts due counts trace within = record { at = λ prefix rest is. within_counts due counts prefix (within.at prefix rest is) }
