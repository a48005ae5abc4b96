use Rattle.px_message.proofs.AddressTextLemmas.{address_is_authority, authority_has_address}
use Rattle.px_message.proofs.authority.address_is_authority.Goals as goal

pub returns : goal.returns
returns c = λ text host port. (address_is_authority text host port, authority_has_address text host port)
