-- What a view sees of two lists of commands, one behind the other, and of what is owed behind an ask.
use Rattle.std.proofs.Common.{◌≡◌, List, [], ◌++◌, refl, ap}
use Rattle.std.proofs.lemmas.Grind.{flat_map-append}
use Rattle.px_event.specs.declared.command.Command.{Command}
use Rattle.px_event.specs.Chain.{Look, NotYet, Asks, Ends, found, found_with}
use Rattle.px_event.specs.Laws.{IsView}
use Rattle.px_event.specs.View.{View, seen_of, command_atoms}

pub seen_append : (view : View) (a b : List Command) → seen_of view (a ++ b) ≡ seen_of view a ++ seen_of view b
seen_append view a b = flat_map-append (command_atoms view) a b

pub seen_is_view : (view : View) → IsView (seen_of view)
seen_is_view view = record { joins = seen_append view }

-- a view that sees nothing of what is owed behind the ask sees what is found alone
pub seen_alone : (view : View) (behind : List Command) (look : Look Command) → seen_of view behind ≡ [] → seen_of view (found_with behind look) ≡ seen_of view (found look)
seen_alone view behind NotYet none = refl
seen_alone view behind (Asks ask) none = ap (λ l. command_atoms view ask ++ l) none
seen_alone view behind (Ends owed) none = refl
