use Rattle.std.proofs.Common.{refl}
use Rattle.px_message.proofs.AddressLemmas.{address_eq}
use Rattle.px_message.proofs.address.AddressClone.clone.Goals as goal

pub returns : goal.returns
returns c = record { cases = address_eq _ _ c.in_ok-clone.ensures.cases refl }
