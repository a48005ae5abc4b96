-- What is due of a recorded request that is sent again, by its place among all.
use Rattle.std.proofs.Common.{◌≡◌, ℕ, ◌+◌, ◌-◌, ◌<◌, ◌≤◌, zero, suc, List, [], ◌∷◌, length, get_or, Option, Some, ap, sym, ◌∙◌, arith}
use Rattle.px_message.specs.declared.address.Address.{Address}
use Rattle.px_message.specs.declared.flow.Flow.{Flow}
use Rattle.px_message.specs.declared.request.Request.{Request}
use Rattle.px_event.specs.Layer.{Move}
use Rattle.px_event.specs.Stands.{due_by}
use Rattle.px_resend.specs.Chain.{resend_chain, terms_by, waiting}
use Rattle.px_resend.specs.Due.{request_at, resend_due}
use Rattle.px_resend.specs.Stands.{chain_of}
use Rattle.px_resend.specs.declared.resend.Resend.{Resend}

-- the flow of a place tells the request of that place
pub request_of_place : (flows : List Flow) (place : ℕ) (flow : Flow) → place < length flows → flow ≡ get_or flows place flow → request_at flows place ≡ Some flow.request
request_of_place [] place flow within is = absurd (omega arith)
request_of_place (first ∷ flows) zero flow within is = ap (λ (it : Flow). Some it.request) (sym is)
request_of_place (first ∷ flows) (suc place) flow within is = request_of_place flows place flow (omega arith) is

-- a number from here on is this one and what is behind it
pub number_is : (from number conv : ℕ) → from ≤ conv → number ≡ from + (conv - from) → number ≡ conv
number_is from number conv first is = omega arith

module _ (made : Resend) (proxy : Option Address) (request : Request) (number : ℕ) where
  -- what was made of the request of a place owes what is due of that place
  pub resends : made.conv ≡ number → made.proxy ≡ proxy → made.request ≡ request → (found : Option Request) → found ≡ Some request → (moves : List Move) →
      due_by (chain_of made) waiting moves ≡ resend_due proxy number found moves
  resends conv_is proxy_is request_is found found_is moves =
      ap (λ n. due_by (resend_chain (terms_by n made.proxy) made.request) waiting moves) conv_is
      ∙ ap (λ p. due_by (resend_chain (terms_by number p) made.request) waiting moves) proxy_is
      ∙ ap (λ r. due_by (resend_chain (terms_by number proxy) r) waiting moves) request_is
      ∙ ap (λ o. resend_due proxy number o moves) (sym found_is)
