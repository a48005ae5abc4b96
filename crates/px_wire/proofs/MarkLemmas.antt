-- Which conversations are marked.
use Rattle.std.proofs.Common.{◌≡◌, ◌⊎◌, inl, inr, ℕ, sym, subst, List, [], ◌∷◌, ◌++◌, Option, Some}
use Rattle.px_wire.specs.declared.endpoint.Endpoint.{Endpoint}
use Rattle.px_wire.specs.declared.endpoints.Endpoints.{Endpoints}
use Rattle.px_wire.specs.Holds.{IsIn, IsOf, MarksOnly}
use Rattle.px_wire.proofs.InLemmas.{in_append}

-- one was marked, and no other
pub marked_only : (conv : ℕ) (old new : List ℕ) → new ≡ old ++ conv ∷ [] → (other : ℕ) → IsIn other new → IsIn other old ⊎ (other ≡ conv)
marked_only conv old new is other there =
    let P : List ℕ → Type 0 = λ ls. IsIn other ls in elim (in_append other old (conv ∷ []) (subst P is there)) [
      | inl before ↦ inl before
      | inr (inl e) ↦ inr (sym e)
      | inr (inr nowhere) ↦ absurd nowhere
    ]

-- none was
pub marked_none : (Q : ℕ → Type 0) (old new : Endpoints) → new.marked.items ≡ old.marked.items → MarksOnly Q old new
marked_none Q old new same conv is = inl (let P : List ℕ → Type 0 = λ ls. IsIn conv ls in subst P same is)

-- none was before, or none behind
pub marks_from : (Q : ℕ → Type 0) (old mid new : Endpoints) → mid.marked.items ≡ old.marked.items → MarksOnly Q mid new → MarksOnly Q old new
marks_from Q old mid new same only conv is = let P : List ℕ → Type 0 = λ ls. IsIn conv ls ⊎ Q conv in subst P same (only conv is)

pub marks_to : (Q : ℕ → Type 0) (old mid new : Endpoints) → new.marked.items ≡ mid.marked.items → MarksOnly Q old mid → MarksOnly Q old new
marks_to Q old mid new same only conv is = let P : List ℕ → Type 0 = λ ls. IsIn conv ls in only conv (subst P same is)

-- what is said of those that were marked
pub marks_by : (Q R : ℕ → Type 0) (old new : Endpoints) → ((conv : ℕ) → Q conv → R conv) → MarksOnly Q old new → MarksOnly R old new
marks_by Q R old new by only conv is = elim (only conv is) [
  | inl before ↦ inl before
  | inr so ↦ inr (by conv so)
]

-- they are of a slot that is in use
pub marks_of : (at : ℕ → Option Endpoint) (old new : Endpoints) (slot : ℕ) (endpoint : Endpoint) → at slot ≡ Some endpoint → MarksOnly (λ conv. conv ≡ endpoint.conv) old new
    → MarksOnly (λ conv. IsOf at conv slot) old new
marks_of at old new slot endpoint is =
    marks_by (λ conv. conv ≡ endpoint.conv) (λ conv. IsOf at conv slot) old new (λ conv e. record { endpoint = endpoint; at_is = is; conv_is = sym e })

-- one call and then another
pub marks_both : (Q R : ℕ → Type 0) (old mid new : Endpoints) → MarksOnly Q old mid → MarksOnly R mid new → MarksOnly (λ conv. R conv ⊎ Q conv) old new
marks_both Q R old mid new first last conv is = by (last conv is)
  where
    by : IsIn conv mid.marked.items ⊎ R conv → IsIn conv old.marked.items ⊎ (R conv ⊎ Q conv)
    by (inr so) = inr (inl so)
    by (inl there) = elim (first conv there) [
      | inl before ↦ inl before
      | inr so ↦ inr (inr so)
    ]
