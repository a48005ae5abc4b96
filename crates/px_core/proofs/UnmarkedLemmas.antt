-- Commands and what views have of them, where flows get or lose their marks.
use Rattle.std.specs.Prelude.{if◌then◌else◌}
use Rattle.std.proofs.Common.{◌≡◌, ℕ, Bool, true, false, List, [], ◌∷◌, ◌++◌, map, Option, Some, refl, ap, sym, ◌∙◌}
use Rattle.std.specs.List.{flat_map}
use Rattle.std.proofs.lemmas.List.{map-append}
use Rattle.px_text.specs.Prefix.{IsPrefixOf}
use Rattle.px_event.specs.declared.ask.Ask.{Ask}
use Rattle.px_event.specs.declared.command.Command.{Command}
use Rattle.px_event.specs.declared.command.Command.TheVariants as commands
use Rattle.px_event.specs.declared.side.Side.{Side}
use Rattle.px_event.specs.declared.side.Side.TheVariants.{Client, Server}
use Rattle.px_event.specs.Layer.{asks_in}
use Rattle.px_event.specs.Trace.{is_same_side}
use Rattle.px_event.specs.View.{View, Atom, line, questions, course, flows, order, byte, close, asked, dialled, done, about, bytes_in, seen_of, command_atoms}
use Rattle.px_core.specs.Conversation.{AllNamed}
use Rattle.px_core.specs.Held.{dial_from}
use Rattle.px_core.specs.Hooks.{AsksInTurn}
use Rattle.px_core.specs.Unmarked.{unmarked_atom, all_unmarked, mark_on, all_marked, none_marked}

pub unmarked_append : (a b : List Atom) → all_unmarked (a ++ b) ≡ all_unmarked a ++ all_unmarked b
unmarked_append a b = map-append unmarked_atom a b

pub marked_append : (marks : ℕ → Bool) (a b : List Command) → all_marked marks (a ++ b) ≡ all_marked marks a ++ all_marked marks b
marked_append marks a b = map-append (mark_on marks) a b

pub unmarked_prefix : (a b : List Atom) → IsPrefixOf a b → IsPrefixOf (all_unmarked a) (all_unmarked b)
unmarked_prefix a b (rest, whole) = (all_unmarked rest, ap all_unmarked whole ∙ unmarked_append a rest)

-- marks are no bytes
pub bytes_unmarked : (atoms : List Atom) → bytes_in (all_unmarked atoms) ≡ bytes_in atoms
bytes_unmarked [] = refl
bytes_unmarked (byte value ∷ atoms) = ap (λ l. value ∷ l) (bytes_unmarked atoms)
bytes_unmarked (close side ∷ atoms) = bytes_unmarked atoms
bytes_unmarked (asked ask ∷ atoms) = bytes_unmarked atoms
bytes_unmarked (dialled server address ∷ atoms) = bytes_unmarked atoms
bytes_unmarked (done flow ∷ atoms) = bytes_unmarked atoms
bytes_unmarked (about ask flow ∷ atoms) = bytes_unmarked atoms

bytes_kept : (text : List ℕ) → all_unmarked (map byte text) ≡ map byte text
bytes_kept [] = refl
bytes_kept (b ∷ text) = ap (λ l. byte b ∷ l) (bytes_kept text)

-- a view has of a command without its mark what it has of the command, without the mark
one_unmarked : (view : View) (command : Command) → all_unmarked (command_atoms view command) ≡ command_atoms view (mark_on (λ index. false) command)
one_unmarked view command = by view command
  where
    sent : (t : Bool) (text : List ℕ) → all_unmarked (if t then map byte text else []) ≡ (if t then map byte text else [])
    sent true text = bytes_kept text
    sent false text = refl

    closed : (t : Bool) (side : Side) → all_unmarked (if t then close side ∷ [] else []) ≡ (if t then close side ∷ [] else [])
    closed true side = refl
    closed false side = refl

    by : (view : View) (command : Command) → all_unmarked (command_atoms view command) ≡ command_atoms view (mark_on (λ index. false) command)
    by (line side) (commands.Send other text) = sent (is_same_side other side) text
    by (line side) (commands.Close other) = closed (is_same_side other side) other
    by (line side) (commands.Dial server address inside) = refl
    by (line side) (commands.Ask ask flow) = refl
    by (line side) (commands.Done flow) = refl
    by questions (commands.Send other text) = refl
    by questions (commands.Close other) = refl
    by questions (commands.Dial server address inside) = refl
    by questions (commands.Ask ask flow) = refl
    by questions (commands.Done flow) = refl
    by course (commands.Send other text) = refl
    by course (commands.Close other) = refl
    by course (commands.Dial server address inside) = refl
    by course (commands.Ask ask flow) = refl
    by course (commands.Done flow) = refl
    by flows (commands.Send other text) = refl
    by flows (commands.Close other) = refl
    by flows (commands.Dial server address inside) = refl
    by flows (commands.Ask ask flow) = refl
    by flows (commands.Done flow) = refl
    by order (commands.Send Client text) = bytes_kept text
    by order (commands.Send (Server number) text) = refl
    by order (commands.Close other) = refl
    by order (commands.Dial server address inside) = refl
    by order (commands.Ask ask flow) = refl
    by order (commands.Done flow) = refl

pub seen_unmarked : (view : View) (given : List Command) → all_unmarked (seen_of view given) ≡ seen_of view (none_marked given)
seen_unmarked view [] = refl
seen_unmarked view (command ∷ given) =
    unmarked_append (command_atoms view command) (seen_of view given)
    ∙ (ap (λ l. l ++ all_unmarked (seen_of view given)) (one_unmarked view command)
    ∙ ap (λ l. command_atoms view (mark_on (λ index. false) command) ++ l) (seen_unmarked view given))

-- what is alike but for marks looks alike but for marks
pub alike_seen : (view : View) (a b : List Command) → none_marked a ≡ none_marked b → all_unmarked (seen_of view a) ≡ all_unmarked (seen_of view b)
alike_seen view a b same = seen_unmarked view a ∙ (ap (seen_of view) same ∙ sym (seen_unmarked view b))

marked_again : (marks : ℕ → Bool) (command : Command) → mark_on (λ index. false) (mark_on marks command) ≡ mark_on (λ index. false) command
marked_again marks (commands.Send side text) = refl
marked_again marks (commands.Close side) = refl
marked_again marks (commands.Dial server address inside) = refl
marked_again marks (commands.Ask ask flow) = refl
marked_again marks (commands.Done flow) = refl

pub alike_marked : (marks : ℕ → Bool) (given : List Command) → none_marked (all_marked marks given) ≡ none_marked given
alike_marked marks [] = refl
alike_marked marks (command ∷ given) =
    ap (λ c. c ∷ none_marked (all_marked marks given)) (marked_again marks command) ∙ ap (λ l. mark_on (λ index. false) command ∷ l) (alike_marked marks given)

-- marks change nothing of what is asked, dialled and named
pub asks_marked : (marks : ℕ → Bool) (given : List Command) → flat_map asks_in (all_marked marks given) ≡ flat_map asks_in given
asks_marked marks [] = refl
asks_marked marks (commands.Send side text ∷ given) = asks_marked marks given
asks_marked marks (commands.Close side ∷ given) = asks_marked marks given
asks_marked marks (commands.Dial server address inside ∷ given) = ap (λ l. asks_in (commands.Dial server address inside) ++ l) (asks_marked marks given)
asks_marked marks (commands.Ask ask flow ∷ given) = ap (λ l. ask ∷ l) (asks_marked marks given)
asks_marked marks (commands.Done flow ∷ given) = asks_marked marks given

pub dial_marked : (marks : ℕ → Bool) (dial : Option ℕ) (given : List Command) → dial_from dial (all_marked marks given) ≡ dial_from dial given
dial_marked marks dial [] = refl
dial_marked marks dial (commands.Send side text ∷ given) = dial_marked marks dial given
dial_marked marks dial (commands.Close side ∷ given) = dial_marked marks dial given
dial_marked marks dial (commands.Dial server address inside ∷ given) = dial_marked marks _ given
dial_marked marks dial (commands.Ask ask flow ∷ given) = dial_marked marks dial given
dial_marked marks dial (commands.Done flow ∷ given) = dial_marked marks dial given

pub named_marked : (marks : ℕ → Bool) (conv : ℕ) (given : List Command) → AllNamed conv given → AllNamed conv (all_marked marks given)
named_marked marks conv [] named = tt
named_marked marks conv (commands.Send side text ∷ given) (here, named) = (tt, named_marked marks conv given named)
named_marked marks conv (commands.Close side ∷ given) (here, named) = (tt, named_marked marks conv given named)
named_marked marks conv (commands.Dial server address inside ∷ given) (here, named) = (tt, named_marked marks conv given named)
named_marked marks conv (commands.Ask ask flow ∷ given) (here, named) = (here, named_marked marks conv given named)
named_marked marks conv (commands.Done flow ∷ given) (here, named) = (here, named_marked marks conv given named)

pub turn_marked : (marks : ℕ → Bool) (first : Option Ask) (given : List Command) (last : Option Ask) → AsksInTurn first given last → AsksInTurn first (all_marked marks given) last
turn_marked marks first [] last turn = turn
turn_marked marks first (commands.Send side text ∷ given) last turn = turn_marked marks first given last turn
turn_marked marks first (commands.Close side ∷ given) last turn = turn_marked marks first given last turn
turn_marked marks first (commands.Dial server address inside ∷ given) last turn = turn_marked marks first given last turn
turn_marked marks first (commands.Ask ask flow ∷ given) last (none, turn) = (none, turn_marked marks (Some ask) given last turn)
turn_marked marks first (commands.Done flow ∷ given) last turn = turn_marked marks first given last turn

-- each flow has the mark that the test says
abbrev pub IsMarkedOn : (ℕ → Bool) → Command → Type 0
IsMarkedOn marks (commands.Ask ask flow) = flow.marked ≡ marks flow.id.index
IsMarkedOn marks (commands.Done flow) = flow.marked ≡ marks flow.id.index
IsMarkedOn marks _ = Unit {0}

abbrev pub AllMarkedOn : (ℕ → Bool) → List Command → Type 0
AllMarkedOn marks [] = Unit {0}
AllMarkedOn marks (command ∷ rest) = IsMarkedOn marks command × AllMarkedOn marks rest

pub all_are_marked : (marks : ℕ → Bool) (given : List Command) → AllMarkedOn marks (all_marked marks given)
all_are_marked marks [] = tt
all_are_marked marks (commands.Send side text ∷ given) = (tt, all_are_marked marks given)
all_are_marked marks (commands.Close side ∷ given) = (tt, all_are_marked marks given)
all_are_marked marks (commands.Dial server address inside ∷ given) = (tt, all_are_marked marks given)
all_are_marked marks (commands.Ask ask flow ∷ given) = (refl, all_are_marked marks given)
all_are_marked marks (commands.Done flow ∷ given) = (refl, all_are_marked marks given)
