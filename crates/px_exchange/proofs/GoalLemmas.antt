-- Where a request goes, and where a CONNECT asks for a tunnel to.
use Rattle.std.proofs.Common.{◌≡◌, ℕ, Bool, true, false, List, Some, refl, ap}
use Rattle.std.specs.Prelude.{◌==◌}
use Rattle.std.proofs.lemmas.Bool.{eqb-true}
use Rattle.px_message.specs.declared.address.Address.{Address}
use Rattle.px_message.proofs.AddressLemmas.{address_eq}
use Rattle.px_exchange.specs.Requests.{address_with, with_path}

-- the address of its own host and port
pub own_address : (address : Address) (zero : Bool) (is : (address.port == 0) ≡ zero) → Some address ≡ address_with address.host address.port zero is
own_address address true is = absurd (address.port_not_zero (eqb-true address.port 0 is))
own_address address false is = ap (λ a. Some a) (address_eq address _ refl refl)

-- with a path
pub own_goal : (address : Address) (path : List ℕ) (zero : Bool) (is : (address.port == 0) ≡ zero) →
    Some (address, path) ≡ with_path (address_with address.host address.port zero is) (Some path)
own_goal address path zero is = ap (λ a. with_path a (Some path)) (own_address address zero is)
