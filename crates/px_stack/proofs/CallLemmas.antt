-- The calls of a conversation, by what it keeps: a tunnel that is not read, and the end; and what they do for one client.
use Rattle.std.proofs.Common.{◌≡◌, ℕ, Bool, true, false, List, [], refl, sym, subst}
use Rattle.std.specs.Prelude.{◌||◌, IfOk, Result, Ok, Err}
use Rattle.px_event.specs.declared.command.Command.{Command}
use Rattle.px_event.specs.declared.event.Event.{Event}
use Rattle.px_event.specs.Chain.{Timed, Look, NotYet, Asks, Ends}
use Rattle.px_event.proofs.Steps.{Takes, past_end}
use Rattle.px_tunnel.specs.Stands.{has_ended}
use Rattle.px_chain.specs.Streams.{client_closed}
use Rattle.px_stack.specs.declared.child.Child.{Child}
use Rattle.px_stack.specs.declared.child.Child.TheVariants as children
use Rattle.px_stack.specs.declared.child.Relay.{Relay}
use Rattle.px_stack.specs.Chain.{is_shut, stack_chain, tunnel_found}
use Rattle.px_stack.specs.Stages.{Ends as TunnelEnds, Stage, Visitor, asking, connecting, http, over, raw, reaching, socket, undecided}
use Rattle.px_stack.specs.Stands.{IsChild, IsRelay, IsSomewhere, Keeps, KeepsBy}
use Rattle.px_stack.specs.Steps.{Adds, RelayTakes, TakesChild}

-- ---- a tunnel that is not read

-- what was kept is a tunnel, so the stage is one, and it goes on
record IsKeptRelay (kept : Relay) (stage : Stage) (prefix : List (Timed Event)) : Type 0 where
  ends : TunnelEnds
  is : stage ≡ raw ends
  relay : IsRelay ends prefix kept

same_relay : (a b : Relay) → children.Raw a ≡ children.Raw b → a ≡ b
same_relay a b is = cc

keeps_relay : (conv : ℕ) (client : Visitor) (kept : Relay) (stage : Stage) (prefix : List (Timed Event)) → Keeps conv client (children.Raw kept) stage prefix →
    IsKeptRelay kept stage prefix
keeps_relay conv client kept (asking front) prefix is = absurd (let no : children.Raw kept ≡ children.Asking is.layer = is.is in cc)
keeps_relay conv client kept (http place standing) prefix is = absurd (let no : children.Raw kept ≡ children.Http is.flows = is.is in cc)
keeps_relay conv client kept (connecting tunnel) prefix is = absurd (let no : children.Raw kept ≡ children.Connecting is.kept is.closed = is.is in cc)
keeps_relay conv client kept (reaching goal link since) prefix is = absurd (let no : children.Raw kept ≡ children.Reaching is.kept = is.is in cc)
keeps_relay conv client kept (undecided tunnel link since) prefix is = absurd (let no : children.Raw kept ≡ children.Undecided is.kept is.server = is.is in cc)
keeps_relay conv client kept (raw ends) prefix is =
    let P : Relay → Type 0 = λ r. IsRelay ends prefix r in
    record { ends = ends; is = refl; relay = subst P (sym (same_relay kept is.kept is.is)) is.relay }
keeps_relay conv client kept (socket ends flow frames) prefix is = absurd (let no : children.Raw kept ≡ children.Socket is.layer = is.is in cc)
keeps_relay conv client kept over prefix is = absurd is

keeps_by : (l : Look Command) (conv : ℕ) (client : Visitor) (kept : Relay) (stage : Stage) (prefix : List (Timed Event)) →
    KeepsBy l conv client (children.Raw kept) stage prefix → Keeps conv client (children.Raw kept) stage prefix
keeps_by NotYet conv client kept stage prefix is = is
keeps_by (Asks ask) conv client kept stage prefix is = is
keeps_by (Ends owed) conv client kept stage prefix is = absurd (let no : children.Raw kept ≡ children.Over = is in cc)

kept_relay : (conv : ℕ) (client : Visitor) (kept : Relay) (stage : Stage) (prefix : List (Timed Event)) → IsChild conv client (children.Raw kept) stage prefix →
    IsKeptRelay kept stage prefix
kept_relay conv client kept stage prefix is =
    keeps_relay conv client kept stage prefix (keeps_by ((stack_chain conv client).look stage prefix) conv client kept stage prefix is)

-- its tunnel has not ended
pub relay_open : (conv : ℕ) (client : Visitor) (kept : Relay) → IsSomewhere conv client (children.Raw kept) → has_ended kept.tunnel ≡ false
relay_open conv client kept (stage, prefix, is) = (kept_relay conv client kept stage prefix is).relay.goes_on

-- nothing was found there
not_yet : (conv : ℕ) (client : Visitor) (kept : Relay) (ends : TunnelEnds) (prefix : List (Timed Event)) (closes : Bool) (owed : List Command) →
    KeepsBy (tunnel_found closes owed) conv client (children.Raw kept) (raw ends) prefix → tunnel_found closes owed ≡ NotYet
not_yet conv client kept ends prefix false owed is = refl
not_yet conv client kept ends prefix true owed is = absurd (let no : children.Raw kept ≡ children.Over = is in cc)

pub raw_takes : (conv : ℕ) (client : Visitor) (kept : Relay) (child : Child) (moment : ℕ) (event : Event) (more : List Command) → RelayTakes kept child event more →
    TakesChild conv client (children.Raw kept) child moment event more
raw_takes conv client kept child moment event more takes stage prefix is =
    let there = kept_relay conv client kept stage prefix is in
    let P : Stage → Type 0 = λ s. IsChild conv client (children.Raw kept) s prefix → Takes (stack_chain conv client) (IsChild conv client) child moment event more s prefix in
    subst P (sym there.is)
    (λ here. takes conv client moment there.ends prefix
    (not_yet conv client kept there.ends prefix (client_closed prefix || is_shut there.ends.link prefix) _ here) there.relay) is

-- ---- the end

-- nothing is kept but there
keeps_over : (conv : ℕ) (client : Visitor) (stage : Stage) (prefix : List (Timed Event)) → Keeps conv client children.Over stage prefix → ⊥
keeps_over conv client (asking front) prefix is = let no : children.Over ≡ children.Asking is.layer = is.is in cc
keeps_over conv client (http place standing) prefix is = let no : children.Over ≡ children.Http is.flows = is.is in cc
keeps_over conv client (connecting tunnel) prefix is = let no : children.Over ≡ children.Connecting is.kept is.closed = is.is in cc
keeps_over conv client (reaching goal link since) prefix is = let no : children.Over ≡ children.Reaching is.kept = is.is in cc
keeps_over conv client (undecided tunnel link since) prefix is = let no : children.Over ≡ children.Undecided is.kept is.server = is.is in cc
keeps_over conv client (raw ends) prefix is = let no : children.Over ≡ children.Raw is.kept = is.is in cc
keeps_over conv client (socket ends flow frames) prefix is = let no : children.Over ≡ children.Socket is.layer = is.is in cc
keeps_over conv client over prefix is = is

ends_there : (l : Look Command) (conv : ℕ) (client : Visitor) (stage : Stage) (prefix : List (Timed Event)) → KeepsBy l conv client children.Over stage prefix →
    (owed : List Command) × (l ≡ Ends owed)
ends_there NotYet conv client stage prefix is = absurd (keeps_over conv client stage prefix is)
ends_there (Asks ask) conv client stage prefix is = absurd (keeps_over conv client stage prefix is)
ends_there (Ends owed) conv client stage prefix is = (owed, refl)

-- behind it nothing follows
pub over_takes : (conv : ℕ) (client : Visitor) (moment : ℕ) (event : Event) → TakesChild conv client children.Over children.Over moment event []
over_takes conv client moment event stage prefix is =
    let (owed, there) = ends_there ((stack_chain conv client).look stage prefix) conv client stage prefix is in past_end owed there is (λ view. refl)

-- ---- what a call does for whoever has its key

pub with_its_key : {E : Type 0} (result : Result Child E) (key : List ℕ) (conv : ℕ) (client : Visitor) (P : ℕ → Visitor → Child → List Command → Type 0) (out given : List Command) →
    client.key ≡ key → IfOk result (λ next. Adds (λ more. (c : ℕ) (v : Visitor) → v.key ≡ key → P c v next more) out given) →
    IfOk result (λ next. Adds (P conv client next) out given)
with_its_key (Ok next) key conv client P out given keyed adds = record { more = adds.more; grown = adds.grown; holds = adds.holds conv client keyed }
with_its_key (Err error) key conv client P out given keyed adds = tt
