-- What the program's number says of how serving ended.
use Rattle.std.proofs.Common.{◌≡◌, ◌≢◌, ◌⊎◌, inl, inr, ℕ, refl, sym, ap, ◌∙◌, arith}
use Rattle.px_app.specs.declared.printing.Printing.{Printing}
use Rattle.px_app.specs.declared.printing.Printing.TheVariants.{Whole, Failed}
use Rattle.px_app.specs.declared.status.Status.{Status}
use Rattle.px_app.specs.declared.status.Status.TheVariants.{Ended, NetFault, BudgetSpent, OutputFailed, NoMemory}
use Rattle.px_app.specs.Printed.{at_end}
use Rattle.px_app.specs.Statuses.{code_of}

-- the number is that of the end, or that of out of memory
pub code_by : (printing : Printing) (status printed : Status) (code : ℕ) → (printed ≡ at_end printing status) ⊎ (printed ≡ NoMemory) → code ≡ code_of printed →
    (code ≡ code_of (at_end printing status)) ⊎ (code ≡ 8)
code_by printing status printed code (inl is) code_is = inl (code_is ∙ ap code_of is)
code_by printing status printed code (inr is) code_is = inr (code_is ∙ ap code_of is)

module _ (printing : Printing) (status : Status) (code : ℕ) (is : (code ≡ code_of (at_end printing status)) ⊎ (code ≡ 8)) where
  zero_at : (s : Status) (p : Printing) → code_of (at_end p s) ≡ 0 → (s ≡ Ended) × (p ≡ Whole)
  zero_at Ended Whole e = (refl, refl)
  zero_at Ended Failed e = absurd (omega arith)
  zero_at NetFault p e = absurd (omega arith)
  zero_at BudgetSpent p e = absurd (omega arith)
  zero_at OutputFailed p e = absurd (omega arith)
  zero_at NoMemory p e = absurd (omega arith)

  pub zero_says : code ≡ 0 → (status ≡ Ended) × (printing ≡ Whole)
  zero_says zero = elim is [ inl e ↦ zero_at status printing (sym e ∙ zero) | inr e ↦ absurd (omega arith) ]

  five_at : (s : Status) (p : Printing) → code_of (at_end p s) ≡ 5 → s ≡ NetFault
  five_at Ended Whole e = absurd (omega arith)
  five_at Ended Failed e = absurd (omega arith)
  five_at NetFault p e = refl
  five_at BudgetSpent p e = absurd (omega arith)
  five_at OutputFailed p e = absurd (omega arith)
  five_at NoMemory p e = absurd (omega arith)

  pub five_says : code ≡ 5 → status ≡ NetFault
  five_says five = elim is [ inl e ↦ five_at status printing (sym e ∙ five) | inr e ↦ absurd (omega arith) ]

  six_at : (s : Status) (p : Printing) → code_of (at_end p s) ≡ 6 → s ≡ BudgetSpent
  six_at Ended Whole e = absurd (omega arith)
  six_at Ended Failed e = absurd (omega arith)
  six_at NetFault p e = absurd (omega arith)
  six_at BudgetSpent p e = refl
  six_at OutputFailed p e = absurd (omega arith)
  six_at NoMemory p e = absurd (omega arith)

  pub six_says : code ≡ 6 → status ≡ BudgetSpent
  six_says six = elim is [ inl e ↦ six_at status printing (sym e ∙ six) | inr e ↦ absurd (omega arith) ]

  -- a cause outside of what was heard is one of the status
  pub causes_of : (code ≡ 5) ⊎ (code ≡ 6) → (code_of status ≡ 5) ⊎ (code_of status ≡ 6)
  causes_of (inl five) = inl (ap code_of (five_says five))
  causes_of (inr six) = inr (ap code_of (six_says six))

  seven_at : (s : Status) (p : Printing) → s ≢ OutputFailed → code_of (at_end p s) ≡ 7 → (s ≡ Ended) × (p ≡ Failed)
  seven_at Ended Whole not e = absurd (omega arith)
  seven_at Ended Failed not e = (refl, refl)
  seven_at NetFault p not e = absurd (omega arith)
  seven_at BudgetSpent p not e = absurd (omega arith)
  seven_at OutputFailed p not e = absurd (not refl)
  seven_at NoMemory p not e = absurd (omega arith)

  pub seven_says : status ≢ OutputFailed → code ≡ 7 → (status ≡ Ended) × (printing ≡ Failed)
  seven_says not seven = elim is [ inl e ↦ seven_at status printing not (sym e ∙ seven) | inr e ↦ absurd (omega arith) ]

  -- 0 and 7 are those of the end
  pub ended_either : status ≢ OutputFailed → (code ≡ 0) ⊎ (code ≡ 7) → status ≡ Ended
  ended_either not (inl zero) = (zero_says zero).0
  ended_either not (inr seven) = (seven_says not seven).0

  ended_at : (s : Status) (p : Printing) → s ≡ Ended → code ≡ code_of (at_end p s) → (code ≡ 0) ⊎ ((code ≡ 7) ⊎ (code ≡ 8))
  ended_at Ended Whole same e = inl e
  ended_at Ended Failed same e = inr (inl e)
  ended_at NetFault p same e = absurd (cc)
  ended_at BudgetSpent p same e = absurd (cc)
  ended_at OutputFailed p same e = absurd (cc)
  ended_at NoMemory p same e = absurd (cc)

  pub ended_gives : status ≡ Ended → (code ≡ 0) ⊎ ((code ≡ 7) ⊎ (code ≡ 8))
  ended_gives same = elim is [ inl e ↦ ended_at status printing same e | inr e ↦ inr (inr e) ]

  pub spent_gives : status ≡ BudgetSpent → (code ≡ 6) ⊎ (code ≡ 8)
  spent_gives same = elim is [ inl e ↦ inl (e ∙ ap (λ (s : Status). code_of (at_end printing s)) same) | inr e ↦ inr e ]

  pub memory_gives : status ≡ NoMemory → code ≡ 8
  memory_gives same = elim is [ inl e ↦ e ∙ ap (λ (s : Status). code_of (at_end printing s)) same | inr e ↦ e ]

  -- another number than 8
  pub other_says : code ≢ 8 → status ≢ NoMemory
  other_says other same = other (memory_gives same)

  one_of : (s : Status) (p : Printing) → code ≡ code_of (at_end p s) → (code ≡ 0) ⊎ ((code ≡ 5) ⊎ ((code ≡ 6) ⊎ ((code ≡ 7) ⊎ (code ≡ 8))))
  one_of Ended Whole e = inl e
  one_of Ended Failed e = inr (inr (inr (inl e)))
  one_of NetFault p e = inr (inl e)
  one_of BudgetSpent p e = inr (inr (inl e))
  one_of OutputFailed p e = inr (inr (inr (inl e)))
  one_of NoMemory p e = inr (inr (inr (inr e)))

  pub all_codes : (code ≡ 0) ⊎ ((code ≡ 5) ⊎ ((code ≡ 6) ⊎ ((code ≡ 7) ⊎ (code ≡ 8))))
  all_codes = elim is [ inl e ↦ one_of status printing e | inr e ↦ inr (inr (inr (inr e))) ]

-- where the run ended well, or not when out of memory, the number is not 8
pub not_eight : (code : ℕ) (Q : Type 0) → (code ≡ 0) ⊎ ((code ≢ 8) × Q) → code ≢ 8
not_eight code Q (inl zero) eight = absurd (omega arith)
not_eight code Q (inr (other, q)) eight = other eight

zero_is : (shown : Status) → code_of shown ≡ 0 → shown ≡ Ended
zero_is Ended e = refl
zero_is NetFault e = absurd (omega arith)
zero_is BudgetSpent e = absurd (omega arith)
zero_is OutputFailed e = absurd (omega arith)
zero_is NoMemory e = absurd (omega arith)

-- by the status with which the number is told
pub ended_or : (shown : Status) (code : ℕ) (Q : Type 0) → code ≡ code_of shown → (code ≡ 0) ⊎ ((code ≢ 8) × Q) → (shown ≡ Ended) ⊎ Q
ended_or shown code Q is (inl zero) = inl (zero_is shown (sym is ∙ zero))
ended_or shown code Q is (inr (other, q)) = inr q

-- without a cause of 5 and 7
pub complete_by : (code : ℕ) → (code ≡ 0) ⊎ ((code ≡ 5) ⊎ ((code ≡ 6) ⊎ ((code ≡ 7) ⊎ (code ≡ 8)))) →
    (code ≡ 5 → ⊥) → (code ≡ 7 → ⊥) → (code ≡ 0) ⊎ ((code ≡ 6) ⊎ (code ≡ 8))
complete_by code (inl zero) five seven = inl zero
complete_by code (inr (inl is)) five seven = absurd (five is)
complete_by code (inr (inr (inl six))) five seven = inr (inl six)
complete_by code (inr (inr (inr (inl is)))) five seven = absurd (seven is)
complete_by code (inr (inr (inr (inr eight)))) five seven = inr (inr eight)
