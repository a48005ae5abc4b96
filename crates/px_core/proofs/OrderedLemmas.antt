-- No hook of a flow is asked behind the flow's end, in what is due and in a trace.
use Rattle.std.proofs.Common.{◌≡◌, ℕ, Bool, true, List, [], ◌∷◌, ◌++◌, Option, Some, None, subst}
use Rattle.px_message.specs.declared.address.Address.{Address}
use Rattle.px_event.specs.declared.ask.Ask.TheVariants as asks
use Rattle.px_event.specs.declared.command.Command.{Command}
use Rattle.px_event.specs.declared.command.Command.TheVariants as commands
use Rattle.px_event.specs.Chain.{Stamped, Chain, due}
use Rattle.px_event.specs.Layer.{Move}
use Rattle.px_event.specs.Trace.{Trace}
use Rattle.px_event.specs.View.{Atom, about, asked, byte, close, course, dialled, done, seen_in, seen_of}
use Rattle.px_core.specs.Calls.{calls, calls_of}
use Rattle.px_core.specs.Due.{Due, due_at, IsWithinDue}
use Rattle.px_core.proofs.LeavingLemmas.{leaving_ordered}
use Rattle.px_core.specs.Unmarked.{all_unmarked}
use Rattle.px_core.specs.Ordered.{AsksNoneOf, AsksBeforeEnds, HooksNoneOf, HooksBeforeEnds, IsInOrder, LeavesFlows}

-- what is due of a chain that leaves its flows behind
pub due_ordered : {S E R : Type 0} (chain : Chain S E R Command) (is_stage : S → Bool) (past : S → ℕ → Bool) → LeavesFlows chain is_stage past →
    (start : S) → is_stage start ≡ true → (events : List (Stamped E)) (replies : List (Stamped R)) → AsksBeforeEnds (due chain start events replies)
due_ordered chain is_stage past leaves start first events replies = leaving_ordered chain is_stage past leaves start first events replies

hooks_none : (index : ℕ) (l : List Command) → AsksNoneOf index l → HooksNoneOf index (seen_of course l)
hooks_none index [] none = tt
hooks_none index (commands.Ask (asks.Hook number hook) flow ∷ l) (apart, none) = (apart, hooks_none index l none)
hooks_none index (commands.Ask (asks.Dial server) flow ∷ l) none = hooks_none index l none
hooks_none index (commands.Send side text ∷ l) none = hooks_none index l none
hooks_none index (commands.Close side ∷ l) none = hooks_none index l none
hooks_none index (commands.Dial server address inside ∷ l) none = hooks_none index l none
hooks_none index (commands.Done flow ∷ l) none = hooks_none index l none

hooks_ordered : (l : List Command) → AsksBeforeEnds l → HooksBeforeEnds (seen_of course l)
hooks_ordered [] ordered = tt
hooks_ordered (commands.Done flow ∷ l) (none, ordered) = (hooks_none flow.id.index l none, hooks_ordered l ordered)
hooks_ordered (commands.Ask ask flow ∷ l) ordered = hooks_ordered l ordered
hooks_ordered (commands.Send side text ∷ l) ordered = hooks_ordered l ordered
hooks_ordered (commands.Close side ∷ l) ordered = hooks_ordered l ordered
hooks_ordered (commands.Dial server address inside ∷ l) ordered = hooks_ordered l ordered

none_front : (index : ℕ) (xs ys : List Atom) → HooksNoneOf index (xs ++ ys) → HooksNoneOf index xs
none_front index [] ys none = tt
none_front index (asked (asks.Hook number hook) ∷ xs) ys (apart, none) = (apart, none_front index xs ys none)
none_front index (asked (asks.Dial server) ∷ xs) ys none = none_front index xs ys none
none_front index (byte value ∷ xs) ys none = none_front index xs ys none
none_front index (close side ∷ xs) ys none = none_front index xs ys none
none_front index (dialled server address ∷ xs) ys none = none_front index xs ys none
none_front index (done flow ∷ xs) ys none = none_front index xs ys none
none_front index (about ask flow ∷ xs) ys none = none_front index xs ys none

ordered_front : (xs ys : List Atom) → HooksBeforeEnds (xs ++ ys) → HooksBeforeEnds xs
ordered_front [] ys ordered = tt
ordered_front (done flow ∷ xs) ys (none, ordered) = (none_front flow.id.index xs ys none, ordered_front xs ys ordered)
ordered_front (asked ask ∷ xs) ys ordered = ordered_front xs ys ordered
ordered_front (byte value ∷ xs) ys ordered = ordered_front xs ys ordered
ordered_front (close side ∷ xs) ys ordered = ordered_front xs ys ordered
ordered_front (dialled server address ∷ xs) ys ordered = ordered_front xs ys ordered
ordered_front (about ask flow ∷ xs) ys ordered = ordered_front xs ys ordered

-- marks change no order
none_unmarked : (index : ℕ) (l : List Atom) → HooksNoneOf index l → HooksNoneOf index (all_unmarked l)
none_unmarked index [] none = tt
none_unmarked index (asked (asks.Hook number hook) ∷ l) (apart, none) = (apart, none_unmarked index l none)
none_unmarked index (asked (asks.Dial server) ∷ l) none = none_unmarked index l none
none_unmarked index (byte value ∷ l) none = none_unmarked index l none
none_unmarked index (close side ∷ l) none = none_unmarked index l none
none_unmarked index (dialled server address ∷ l) none = none_unmarked index l none
none_unmarked index (done flow ∷ l) none = none_unmarked index l none
none_unmarked index (about ask flow ∷ l) none = none_unmarked index l none

none_marked : (index : ℕ) (l : List Atom) → HooksNoneOf index (all_unmarked l) → HooksNoneOf index l
none_marked index [] none = tt
none_marked index (asked (asks.Hook number hook) ∷ l) (apart, none) = (apart, none_marked index l none)
none_marked index (asked (asks.Dial server) ∷ l) none = none_marked index l none
none_marked index (byte value ∷ l) none = none_marked index l none
none_marked index (close side ∷ l) none = none_marked index l none
none_marked index (dialled server address ∷ l) none = none_marked index l none
none_marked index (done flow ∷ l) none = none_marked index l none
none_marked index (about ask flow ∷ l) none = none_marked index l none

ordered_unmarked : (l : List Atom) → HooksBeforeEnds l → HooksBeforeEnds (all_unmarked l)
ordered_unmarked [] ordered = tt
ordered_unmarked (done flow ∷ l) (none, ordered) = (none_unmarked flow.id.index l none, ordered_unmarked l ordered)
ordered_unmarked (asked ask ∷ l) ordered = ordered_unmarked l ordered
ordered_unmarked (byte value ∷ l) ordered = ordered_unmarked l ordered
ordered_unmarked (close side ∷ l) ordered = ordered_unmarked l ordered
ordered_unmarked (dialled server address ∷ l) ordered = ordered_unmarked l ordered
ordered_unmarked (about ask flow ∷ l) ordered = ordered_unmarked l ordered

ordered_marked : (l : List Atom) → HooksBeforeEnds (all_unmarked l) → HooksBeforeEnds l
ordered_marked [] ordered = tt
ordered_marked (done flow ∷ l) (none, ordered) = (none_marked flow.id.index l none, ordered_marked l ordered)
ordered_marked (asked ask ∷ l) ordered = ordered_marked l ordered
ordered_marked (byte value ∷ l) ordered = ordered_marked l ordered
ordered_marked (close side ∷ l) ordered = ordered_marked l ordered
ordered_marked (dialled server address ∷ l) ordered = ordered_marked l ordered
ordered_marked (about ask flow ∷ l) ordered = ordered_marked l ordered

-- what is within what is due is in order
pub in_order : (due : Due) → ((conv : ℕ) (peer : Option Address) (moves : List Move) → AsksBeforeEnds (due conv peer moves)) →
    (trace : Trace) → IsWithinDue due trace → IsInOrder trace
in_order due ordered trace within conv =
    let prefix = within conv course tt in
    let P : List Atom → Type 0 = HooksBeforeEnds in
    ordered_marked (seen_in course conv trace) (ordered_front (all_unmarked (seen_in course conv trace)) prefix.0 (subst P prefix.1 (here (calls conv trace).peer)))
  where
    here : (at : Option (Option Address)) → HooksBeforeEnds (all_unmarked (seen_of course (due_at due conv at (calls_of conv trace))))
    here None = tt
    here (Some peer) =
        ordered_unmarked (seen_of course (due conv peer (calls_of conv trace))) (hooks_ordered (due conv peer (calls_of conv trace)) (ordered conv peer (calls_of conv trace)))
