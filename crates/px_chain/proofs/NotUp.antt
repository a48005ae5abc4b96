-- The request of a stage goes up to another server, or to none.
use Rattle.std.proofs.Common.{◌≡◌, ℕ, ◌+◌, ◌≤◌, Bool, true, false, Option, Some, None, refl, arith, subst}
use Rattle.std.specs.Prelude.{⊤, ◌==◌}
use Rattle.std.proofs.lemmas.Bool.{eqb-true}
use Rattle.px_chain.specs.Chain.{going_at, gone, gone_by}
use Rattle.px_chain.specs.Stages.{Doing, Stage, busy, coming_down, connection, given_body, given_head, request_body, response_body, response_head, upgraded}

-- the request of the stage goes up to no such server
abbrev pub IsNotUpBy : ℕ → Option ℕ → Type 0
IsNotUpBy server None = ⊤
IsNotUpBy server (Some side) = (side == server) ≡ false

abbrev pub IsNotUp : ℕ → Stage → Type 0
IsNotUp server (busy at flow doing) = IsNotUpBy server (going_at doing)
IsNotUp server stage = ⊤

-- a server behind those that were dialled is another one
pub other_server : (server number : ℕ) → number + 1 ≤ server → (other : Bool) → (number == server) ≡ other → other ≡ false
other_server server number before false is = refl
other_server server number before true is = let same = eqb-true number server is in absurd (let no : ⊥ = omega arith in no)

-- one that is whole goes up to none
pub gone_not_up : (server : ℕ) (doing : Doing) → IsNotUpBy server (going_at (gone doing))
gone_not_up server (request_body given size) = tt
gone_not_up server (connection how) = tt
gone_not_up server (response_head side how) = tt
gone_not_up server (response_body side how most) = tt
gone_not_up server (coming_down side how) = tt
gone_not_up server (upgraded side) = tt
gone_not_up server given_head = tt
gone_not_up server given_body = tt

-- the server that a request goes up to which is whole
pub gone_other : (server : ℕ) (going size : Option ℕ) (side : ℕ) → gone_by going size ≡ Some side → IsNotUpBy server going → (side == server) ≡ false
gone_other server None size side is other = absurd (let e : None ≡ Some side = is in cc)
gone_other server (Some to) None side is other = absurd (let e : None ≡ Some side = is in cc)
gone_other server (Some to) (Some size) side is other = subst (λ n. (n == server) ≡ false) (let e : Some to ≡ Some side = is in (let same : to ≡ side = cc in same)) other
