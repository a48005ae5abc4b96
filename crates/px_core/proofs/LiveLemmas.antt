-- A table that holds no conversation that has ended, one change further.
use Rattle.std.proofs.Common.{◌≡◌, inl, inr, ℕ, Bool, false, Option, Some, None, ap, sym, ◌∙◌}
use Rattle.std.proofs.lemmas.Bool.Decides.{eqb_tells}
use Rattle.slab.specs.Slab as slab
use Rattle.px_core.specs.declared.held.Held.{Held}
use Rattle.px_core.specs.declared.table.Conversations.{Conversations}
use Rattle.px_core.specs.Router.{HoldsNoEnded}

module _ {C : Type 0} (ended : C → Bool) where
  -- what is put at a key goes on
  pub updated : (before after : Conversations C) (key : ℕ) (held : Held C) → slab.Updates before.live after.live key (Some held) → ended held.conversation ≡ false →
      HoldsNoEnded ended before → HoldsNoEnded ended after
  updated before after key held update on all other found is = elim (eqb_tells other key) [
    | inl same ↦
        let one : Some held ≡ Some found = sym update.changed ∙ (ap (slab.get after.live) (sym same.1) ∙ is) in
        let it : found ≡ held = cc in ap (λ (h : Held C). ended h.conversation) it ∙ on
    | inr apart ↦ all other found (sym (update.others other apart.1) ∙ is)
  ]

  -- what is put at a key is taken away again
  pub removed : (before between after : Conversations C) (key : ℕ) (slot : Option (Held C)) → slab.Updates before.live between.live key slot → slab.Updates between.live after.live key None →
      HoldsNoEnded ended before → HoldsNoEnded ended after
  removed before between after key slot update remove all other found is = elim (eqb_tells other key) [
    | inl same ↦ absurd (let no : None ≡ Some found = sym remove.changed ∙ (ap (slab.get after.live) (sym same.1) ∙ is) in cc)
    | inr apart ↦ all other found (sym (update.others other apart.1) ∙ (sym (remove.others other apart.1) ∙ is))
  ]

  -- nothing is put or taken away
  pub same_live : (before after : Conversations C) → after.live ≡ before.live → HoldsNoEnded ended before → HoldsNoEnded ended after
  same_live before after same all key found is = all key found (ap (λ (s : slab.Slab (Held C)). slab.get s key) (sym same) ∙ is)

  -- nothing is held
  pub none_held : (table : Conversations C) → ((key : ℕ) → slab.get table.live key ≡ None) → HoldsNoEnded ended table
  none_held table none key found is = absurd (let no : None ≡ Some found = sym (none key) ∙ is in cc)
