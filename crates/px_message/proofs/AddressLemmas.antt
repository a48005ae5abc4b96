-- Two addresses of one host and port are one value, whatever the proofs in them.
use Rattle.std.proofs.Common.{◌≡◌, ◌≢◌, ◌∙◌, ℕ, ap, subst}
use Rattle.px_message.specs.declared.host.Host.{Host}
use Rattle.px_message.specs.declared.address.Address.{Address}

address_by_proof : (host : Host) (port : ℕ) (one two : port ≢ 0) →
    (let a : Address = record { host = host; port = port; port_not_zero = one } in a)
    ≡ record { host = host; port = port; port_not_zero = two }
address_by_proof host port one two =
    let only_one : IsProp (port ≢ 0) = hlevel in
    let same : one ≡ two = only_one one two in
    ap (λ (proof : port ≢ 0). record { host = host; port = port; port_not_zero = proof }) same

pub address_eq : (a b : Address) → a.host ≡ b.host → a.port ≡ b.port → a ≡ b
address_eq a b host port =
    let P : ℕ → Type 0 = λ n. (proof : n ≢ 0) → a ≡ record { host = b.host; port = n; port_not_zero = proof } in
    subst P port (λ (proof : a.port ≢ 0).
    ap (λ (h : Host). record { host = h; port = a.port; port_not_zero = a.port_not_zero }) host
    ∙ address_by_proof b.host a.port a.port_not_zero proof) b.port_not_zero
