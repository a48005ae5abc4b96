use Rattle.std.proofs.Common.{sym, subst}
use Rattle.px_message.specs.Host.{IsHost}
use Rattle.px_message.specs.BadHost.{IsRefused}
use Rattle.px_gen.proofs.places.host.Goals as goal

pub unreachable-requires : goal.unreachable-requires
unreachable-requires c =
    let refused = subst (λ e. IsRefused c.in_ok-from_slice.field-0.items e) c.in-Err-Malformed.field-0-is c.in-Err-Malformed.ensures.refused in
    refused.1 (subst IsHost (sym c.in_ok-from_slice.ensures.items) c.requires)
