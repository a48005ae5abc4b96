-- A gate before a layer whose chain names one conversation gives only what names it: what a view of flows has tells it.
use Rattle.std.proofs.Common.{◌≡◌, ℕ, List, [], ◌∷◌, ◌++◌, Option, Some, None, refl, ap, sym, ◌∙◌, subst}
use Rattle.std.proofs.lemmas.List.{append-nil}
use Rattle.px_event.specs.declared.ask.Ask.{Ask}
use Rattle.px_event.specs.declared.event.Event.{Event}
use Rattle.px_event.specs.declared.reply.Reply.{Reply}
use Rattle.px_event.specs.declared.command.Command.{Command}
use Rattle.px_event.specs.declared.command.Command.TheVariants as commands
use Rattle.px_event.specs.Chain.{Chain}
use Rattle.px_event.specs.Layer.{Move, Standing, IsSound, Goes}
use Rattle.px_event.specs.Stands.{due_by}
use Rattle.px_event.specs.View.{View, Atom, about, course, done, flows, seen_of}
use Rattle.px_gate.specs.declared.gate.Gate.{Gate}
use Rattle.px_gate.specs.Gate.{GateStands, TakeAsksWhere}
use Rattle.px_core.specs.Conversation.{AsksWhile, IsHookOf, AllNamed, NamesOnly}

-- the flow of what a view has is the conversation's
abbrev IsNamedAtom : ℕ → Atom → Type 0
IsNamedAtom conv (about ask flow) = (flow.id.conv ≡ conv) × IsHookOf flow.id.index ask
IsNamedAtom conv (done flow) = flow.id.conv ≡ conv
IsNamedAtom conv _ = Unit {0}

abbrev AtomsNamed : ℕ → List Atom → Type 0
AtomsNamed conv [] = Unit {0}
AtomsNamed conv (atom ∷ rest) = IsNamedAtom conv atom × AtomsNamed conv rest

flows_named : (conv : ℕ) (l : List Command) → AllNamed conv l → AtomsNamed conv (seen_of flows l)
flows_named conv [] all = tt
flows_named conv (commands.Send side bytes ∷ rest) (here, all) = flows_named conv rest all
flows_named conv (commands.Close side ∷ rest) (here, all) = flows_named conv rest all
flows_named conv (commands.Dial server address inside ∷ rest) (here, all) = flows_named conv rest all
flows_named conv (commands.Ask ask flow ∷ rest) (here, all) = (here, flows_named conv rest all)
flows_named conv (commands.Done flow ∷ rest) (here, all) = flows_named conv rest all

ends_named : (conv : ℕ) (l : List Command) → AllNamed conv l → AtomsNamed conv (seen_of course l)
ends_named conv [] all = tt
ends_named conv (commands.Send side bytes ∷ rest) (here, all) = ends_named conv rest all
ends_named conv (commands.Close side ∷ rest) (here, all) = ends_named conv rest all
ends_named conv (commands.Dial server address inside ∷ rest) (here, all) = ends_named conv rest all
ends_named conv (commands.Ask ask flow ∷ rest) (here, all) = (tt, ends_named conv rest all)
ends_named conv (commands.Done flow ∷ rest) (here, all) = (here, ends_named conv rest all)

views_named : (conv : ℕ) (l : List Command) → AtomsNamed conv (seen_of flows l) → AtomsNamed conv (seen_of course l) → AllNamed conv l
views_named conv [] asks ends = tt
views_named conv (commands.Send side bytes ∷ rest) asks ends = (tt, views_named conv rest asks ends)
views_named conv (commands.Close side ∷ rest) asks ends = (tt, views_named conv rest asks ends)
views_named conv (commands.Dial server address inside ∷ rest) asks ends = (tt, views_named conv rest asks ends)
views_named conv (commands.Ask ask flow ∷ rest) (here, asks) (hook, ends) = (here, views_named conv rest asks ends)
views_named conv (commands.Done flow ∷ rest) asks (here, ends) = (here, views_named conv rest asks ends)

behind_named : (conv : ℕ) (xs ys : List Command) → AllNamed conv (xs ++ ys) → AllNamed conv ys
behind_named conv [] ys all = all
behind_named conv (x ∷ xs) ys (here, all) = behind_named conv xs ys all

-- what has the views of what names the conversation names it
same_views : (conv : ℕ) (given due : List Command) → ((view : View) → seen_of view given ≡ seen_of view due) → AllNamed conv due → AllNamed conv given
same_views conv given due same named =
    let P : List Atom → Type 0 = AtomsNamed conv in
    views_named conv given (subst P (sym (same flows)) (flows_named conv due named)) (subst P (sym (same course)) (ends_named conv due named))

-- what a gate gave names the conversation
gate_named : {S : Type 0} (conv : ℕ) (chain : Chain S Event Reply Command) (start : S) (calls : List Move) (given : List Command) →
    AllNamed conv (due_by chain start calls) → ((view : View) → seen_of view given ≡ seen_of view (due_by chain start calls)) → AllNamed conv given
gate_named conv chain start calls given named gave = same_views conv given (due_by chain start calls) gave named

module _ {M : Type 0} (standing : Standing M) (awaited : M → Option Ask) (number : M → ℕ)
    (keeps : (made state : M) (moves : List Move) (given : List Command) → standing made state moves given → number state ≡ number made) where
  same_number : (made gate : Gate M) (calls : List Move) (given : List Command) → GateStands standing awaited made gate calls given → number gate.layer ≡ number made.layer
  same_number made gate calls given stands = keeps made.layer gate.layer stands.moves given stands.stands

  -- a call changes no number
  pub number_after : (before after : Gate M) (move : Move) (out new_out : List Command) → IsSound (GateStands standing awaited) before →
      Goes (GateStands standing awaited) before after move out new_out → number after.layer ≡ number before.layer
  number_after before after move out new_out (made, past, given, stands) goes =
      same_number made after (past ++ move ∷ []) (given ++ goes.more) (goes.stands made past given stands) ∙ sym (same_number made before past given stands)

  -- a call gives only what names the conversation
  pub names_after : {S : Type 0} (chain : M → Chain S Event Reply Command) (start : M → S) → ((made : M) (moves : List Move) → AllNamed (number made) (due_by (chain made) (start made) moves)) →
      (gave : (made gate : Gate M) (calls : List Move) (given : List Command) → GateStands standing awaited made gate calls given →
      (view : View) → seen_of view given ≡ seen_of view (due_by (chain made.layer) (start made.layer) calls)) →
      (before after : Gate M) (move : Move) (out new_out : List Command) → IsSound (GateStands standing awaited) before →
      Goes (GateStands standing awaited) before after move out new_out → NamesOnly (number before.layer) out new_out
  names_after chain start names gave before after move out new_out (made, past, given, stands) goes =
      let calls = past ++ move ∷ [] in
      let all = gate_named (number made.layer) (chain made.layer) (start made.layer) calls (given ++ goes.more) (names made.layer calls)
      (gave made after calls (given ++ goes.more) (goes.stands made past given stands)) in
      let P : ℕ → Type 0 = λ n. AllNamed n goes.more in
      record { more = goes.more; grown = goes.grown; named = subst P (sym (same_number made before past given stands)) (behind_named (number made.layer) given goes.more all) }

-- nothing is asked while something is awaited
pub while_awaited : {M : Type 0} (awaited : M → Option Ask) (before after : M) (out new_out : List Command) (awaits : Option Ask) → awaited before ≡ awaits →
    TakeAsksWhere awaits (awaited after) before after out new_out → AsksWhile awaits (awaited after) out new_out
while_awaited awaited before after out new_out None is asks = asks
while_awaited awaited before after out new_out (Some ask) is (same, none) = (ap awaited same ∙ is, ([], none ∙ sym (append-nil out), refl))

-- nothing was given
pub names_nothing : (conv : ℕ) (out new_out : List Command) → new_out ≡ out → NamesOnly conv out new_out
names_nothing conv out new_out same = record { more = []; grown = same ∙ sym (append-nil out); named = tt }
