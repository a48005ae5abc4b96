-- The dials that are due in a run are numbered by their order: in conversations with a client, and in those of requests that are sent again, which dial server 0 alone.
use Rattle.std.proofs.Common.{inl, inr, ℕ, ◌-◌, List, refl, sym, subst, Some, None}
use Rattle.px_message.specs.declared.flow.Flow.{Flow}
use Rattle.px_core.specs.Calls.{number_end}
use Rattle.px_exchange.specs.declared.mode.Mode.{Mode}
use Rattle.px_resend.specs.Chain.{proxy_in}
use Rattle.px_resend.specs.Dialled.{IsFirstAlone}
use Rattle.px_resend.specs.Due.{request_at}
use Rattle.px_resend.proofs.DialLemmas.{resend_dials}
use Rattle.px_app.specs.Dues.{run_due}
use Rattle.px_app.specs.Servers.{CountsFrom}
use Rattle.px_app.proofs.ServerLemmas.{CountsDue}
use Rattle.px_app.proofs.StackServers.{mode_counts}

first_counts : (servers : List ℕ) → IsFirstAlone servers → CountsFrom 0 servers
first_counts servers (inl none) = let P : List ℕ → Type 0 = CountsFrom 0 in subst P (sym none) tt
first_counts servers (inr one) = let P : List ℕ → Type 0 = CountsFrom 0 in subst P (sym one) (refl, tt)

pub run_counts : (mode : Mode) (key : List ℕ) (resent : List Flow) → CountsDue (run_due mode key resent)
run_counts mode key resent conv (Some peer) moves = mode_counts mode key conv (Some peer) moves
run_counts mode key resent conv None moves = first_counts _ (resend_dials (proxy_in mode) conv (request_at resent (conv - number_end)) moves)
