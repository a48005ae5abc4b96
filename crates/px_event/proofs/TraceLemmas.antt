-- Facts of every prefix of a trace, from step to step.
use Rattle.std.proofs.Common.{◌≡◌, ◌⊎◌, inl, inr, ℕ, List, [], ◌∷◌, ◌++◌, refl, sym, ap, ◌∙◌, subst}
use Rattle.std.proofs.lemmas.List.{append-nil}
use Rattle.px_event.specs.declared.heard.Heard.{Heard}
use Rattle.px_event.specs.declared.said.Said.{Said}
use Rattle.px_event.specs.declared.step.Step.{Step}
use Rattle.px_event.specs.declared.step.Step.TheVariants as steps
use Rattle.px_event.specs.Trace.{Trace, Always, BeforeEachHeard}

-- a prefix of a list with one more element is that list, or a prefix of the list without it
abbrev pub IsFrontOfMore : List Step → Step → List Step → List Step → Type 0
IsFrontOfMore xs x prefix rest = ((prefix ≡ xs ++ x ∷ []) × (rest ≡ [])) ⊎ ((most : List Step) × (xs ≡ prefix ++ most) × (rest ≡ most ++ x ∷ []))

nothing_left : (prefix rest : List Step) → [] ≡ prefix ++ rest → (prefix ≡ []) × (rest ≡ [])
nothing_left [] rest e = (refl, sym e)
nothing_left (f ∷ prefix) rest e = absurd (cc)

front_more : (y x : Step) (xs prefix rest : List Step) → IsFrontOfMore xs x prefix rest → IsFrontOfMore (y ∷ xs) x (y ∷ prefix) rest
front_more y x xs prefix rest (inl h) = inl (ap (λ l. y ∷ l) h.0, h.1)
front_more y x xs prefix rest (inr h) = inr (h.0, ap (λ l. y ∷ l) h.1, h.2)

front_tail : (a b : Step) (xs ys : List Step) → a ∷ xs ≡ b ∷ ys → (a ≡ b) × (xs ≡ ys)
front_tail a b xs ys e = (cc, cc)

pub front_of_more : (xs : List Step) (x : Step) (prefix rest : List Step) → xs ++ x ∷ [] ≡ prefix ++ rest → IsFrontOfMore xs x prefix rest
front_of_more xs x [] rest e = inr (xs, refl, sym e)
front_of_more [] x (f ∷ prefix) rest e =
    let parts = front_tail x f [] (prefix ++ rest) e in
    let none = nothing_left prefix rest parts.1 in
    inl (ap (λ (l : List Step). f ∷ l) none.0 ∙ ap (λ (s : Step). s ∷ []) (sym parts.0), none.1)
front_of_more (y ∷ xs) x (f ∷ prefix) rest e =
    let parts = front_tail y f (xs ++ x ∷ []) (prefix ++ rest) e in
    subst (λ (s : Step). IsFrontOfMore (y ∷ xs) x (s ∷ prefix) rest) parts.0 (front_more y x xs prefix rest (front_of_more xs x prefix rest parts.1))

module _ (P : Trace → Type 0) where
  pub always_empty : P [] → Always P []
  always_empty now = record { at = λ prefix rest e. subst P (sym (nothing_left prefix rest e).0) now }

  always_more_at : (trace : Trace) (step : Step) → Always P trace → P (trace ++ step ∷ []) → (prefix rest : Trace) →
      IsFrontOfMore trace step prefix rest → P prefix
  always_more_at trace step before now prefix rest (inl h) = subst P (sym h.0) now
  always_more_at trace step before now prefix rest (inr h) = before.at prefix h.0 h.1

  pub always_more : (trace : Trace) (step : Step) → Always P trace → P (trace ++ step ∷ []) → Always P (trace ++ step ∷ [])
  always_more trace step before now = record {
    at = λ prefix rest e. always_more_at trace step before now prefix rest (front_of_more trace step prefix rest e);
  }

  pub before_empty : BeforeEachHeard P []
  before_empty = record { at = λ prefix rest moment heard e. absurd (no_rest (nothing_left prefix _ e).1) }
    where
      no_rest : {step : Step} {rest : Trace} → step ∷ rest ≡ [] → ⊥
      no_rest e = cc

  before_more_in : (trace : Trace) (step : Step) (prefix rest most : Trace) (moment : ℕ) (heard : Heard) → BeforeEachHeard P trace →
      (step ≡ steps.Heard moment heard → P trace) → trace ≡ prefix ++ most → steps.Heard moment heard ∷ rest ≡ most ++ step ∷ [] → P prefix
  before_more_in trace step prefix rest [] moment heard before now e split =
      subst P (e ∙ append-nil prefix) (now (sym (front_tail _ _ rest [] split).0))
  before_more_in trace step prefix rest (m ∷ most) moment heard before now e split =
      before.at prefix most moment heard (e ∙ ap (λ (s : Step). prefix ++ s ∷ most) (sym (front_tail _ _ rest (most ++ step ∷ []) split).0))

  before_more_at : (trace : Trace) (step : Step) (prefix rest : Trace) (moment : ℕ) (heard : Heard) → BeforeEachHeard P trace →
      (step ≡ steps.Heard moment heard → P trace) → IsFrontOfMore trace step prefix (steps.Heard moment heard ∷ rest) → P prefix
  before_more_at trace step prefix rest moment heard before now (inl h) = absurd (no_rest h.1)
    where
      no_rest : {step : Step} {rest : Trace} → step ∷ rest ≡ [] → ⊥
      no_rest e = cc
  before_more_at trace step prefix rest moment heard before now (inr h) =
      before_more_in trace step prefix rest h.0 moment heard before now h.1 h.2

  pub before_heard : (trace : Trace) (moment : ℕ) (heard : Heard) → BeforeEachHeard P trace → P trace →
      BeforeEachHeard P (trace ++ steps.Heard moment heard ∷ [])
  before_heard trace moment heard before now = record {
    at = λ prefix rest m h e. before_more_at trace (steps.Heard moment heard) prefix rest m h before (λ _. now) (front_of_more trace _ prefix _ e);
  }

  pub before_said : (trace : Trace) (conv : ℕ) (said : Said) → BeforeEachHeard P trace → BeforeEachHeard P (trace ++ steps.Said conv said ∷ [])
  before_said trace conv said before = record {
    at = λ prefix rest m h e. before_more_at trace (steps.Said conv said) prefix rest m h before (λ (other : steps.Said conv said ≡ steps.Heard m h). absurd (cc)) (front_of_more trace _ prefix _ e);
  }

  -- a step by which nothing is heard
  pub before_other : (trace : Trace) (step : Step) → ((moment : ℕ) (heard : Heard) → step ≡ steps.Heard moment heard → ⊥) →
      BeforeEachHeard P trace → BeforeEachHeard P (trace ++ step ∷ [])
  before_other trace step other before = record {
    at = λ prefix rest m h e. before_more_at trace step prefix rest m h before (λ is. absurd (other m h is)) (front_of_more trace step prefix _ e);
  }
