-- The authority form, as the target of CONNECT; and the host that the proxy listens at where no other is named.
use Rattle.std.proofs.Common.{◌≡◌, ℕ, List, codes, Option, Some, None, IfSome, option_map, refl, sym, subst, ◌∙◌, rules}
use Rattle.px_message.specs.Host.{IsHost}
use Rattle.px_message.specs.Target.{Form, authority, authority_form, form_of, target_form}
use Rattle.px_message.specs.declared.target.Target.{Target}
use Rattle.px_options.specs.Parts.{authority_in}

abbrev as_form : List ℕ × ℕ → Form
as_form a = authority a.0 a.1

connect_form : (text : List ℕ) → target_form (codes "CONNECT") text ≡ option_map as_form (authority_form text)
unfolding target_form
connect_form text = refl

said : (r : Option (List ℕ × ℕ)) (f : Form) → option_map as_form r ≡ Some f → r ≡ authority_in f
said None f e = absurd (cc)
said (Some a) f e = let P : Option Form → Type 0 = λ o. IfSome o (λ f. Some a ≡ authority_in f) in subst P e refl

unsaid : (r : Option (List ℕ × ℕ)) → option_map as_form r ≡ None → r ≡ None
unsaid None e = refl
unsaid (Some a) e = absurd (cc)

-- the address of a target of CONNECT
pub connect_said : (text : List ℕ) (t : Target) → target_form (codes "CONNECT") text ≡ Some (form_of t) → authority_form text ≡ authority_in (form_of t)
connect_said text t e = said (authority_form text) (form_of t) (sym (connect_form text) ∙ e)

pub connect_unsaid : (text : List ℕ) → target_form (codes "CONNECT") text ≡ None → authority_form text ≡ None
connect_unsaid text e = unsaid (authority_form text) (sym (connect_form text) ∙ e)

-- the text of the loopback address is a host
pub loopback_is_host : IsHost (codes "127.0.0.1")
loopback_is_host = search rules
