-- The parts of a head as the types of messages: none is refused.
use Rattle.std.proofs.Common.{ℕ, ◌≡◌, true, List, refl, inl, inr}
use Rattle.std.proofs.lemmas.Bool.Decides.{eqb_tells}
use Rattle.std.proofs.lemmas.List.Elements.{All-weaker}
use Rattle.std.proofs.lemmas.List.Sums.{list_all-from_AllPass}
use Rattle.px_head.specs.Laws.{IsPlainByte, IsValueText}
use Rattle.px_message.specs.Value.{is_value, is_value_byte}

value_byte : (b : ℕ) → IsPlainByte b → is_value_byte b ≡ true
value_byte b plain = elim (eqb_tells b 0) [
  | inl zero ↦ absurd (plain.2 zero.1)
  | inr nz ↦ elim (eqb_tells b 10) [
    | inl lf ↦ absurd (plain.1 lf.1)
    | inr nl ↦ elim (eqb_tells b 13) [
      | inl cr ↦ absurd (plain.0 cr.1)
      | inr nc ↦ rw (nz.0, nl.0, nc.0) refl
    ]
  ]
]

pub value_passes : (text : List ℕ) → IsValueText text → is_value text ≡ true
value_passes text v = list_all-from_AllPass is_value_byte text (All-weaker IsPlainByte (λ b. is_value_byte b ≡ true) value_byte text v.plain)
