-- What is printed when a run ends.
use Rattle.std.proofs.Common.{◌≡◌, ◌≢◌, ◌≤◌, ◌⊎◌, inl, inr, ℕ, List, [], ◌++◌, Option, refl, sym, ap, ◌∙◌, subst, arith}
use Rattle.px_outside.specs.Count.{Rose}
use Rattle.px_outside.specs.Sink.{Writes, WritesPart}
use Rattle.px_app.specs.Lines.{line_of}
use Rattle.px_app.specs.Printed.{Has, Ends}
use Rattle.px_app.specs.Statuses.{code_of}
use Rattle.px_app.specs.declared.printing.Printing.{Printing}
use Rattle.px_app.specs.declared.printing.Printing.TheVariants.{Whole, Failed}
use Rattle.px_app.specs.declared.status.Status.{Status}
use Rattle.px_app.specs.declared.status.Status.TheVariants.{Ended, NetFault, BudgetSpent, OutputFailed, NoMemory}
use Rattle.px_app.proofs.PrintLemmas.{has_still, has_part}
use Rattle.px_words.proofs.PrintLemmas.{part_longer}

-- ---- statuses without a line

pub no_line_ended : line_of (code_of Ended) ≡ []
unfolding line_of
no_line_ended = refl

pub no_line_output : line_of (code_of OutputFailed) ≡ []
unfolding line_of
no_line_output = refl

pub no_line_memory : line_of (code_of NoMemory) ≡ []
unfolding line_of
no_line_memory = refl

-- one of these two
pub no_line_either : (status : Status) → (status ≡ OutputFailed) ⊎ (status ≡ NoMemory) → line_of (code_of status) ≡ []
no_line_either status (inl is) = ap (λ (s : Status). line_of (code_of s)) is ∙ no_line_output
no_line_either status (inr is) = ap (λ (s : Status). line_of (code_of s)) is ∙ no_line_memory

pub not_ended_either : (status : Status) → (status ≡ OutputFailed) ⊎ (status ≡ NoMemory) → status ≢ Ended
not_ended_either status (inl is) ended = let wrong : OutputFailed ≡ Ended = sym is ∙ ended in cc
not_ended_either status (inr is) ended = let wrong : NoMemory ≡ Ended = sym is ∙ ended in cc

pub rose_later : (first old new : ℕ) → old ≤ new → Rose first old → Rose first new
rose_later first old new later rose = omega (arith, later, rose)

-- a run that ended is not out of memory
pub ended_not_lost : Ended ≢ NoMemory
ended_not_lost is = cc

-- nothing more is printed
pub ends_still : (printing : Printing) (text : List ℕ) (start now new : Option (List ℕ)) (old later : ℕ) (status : Status) → line_of (code_of status) ≡ [] → new ≡ now → old ≤ later →
    (status ≡ Ended → printing ≡ Whole) → Has printing text start now → Ends printing (text ++ line_of (code_of status)) start new old later status
ends_still printing text start now new old later status none same after whole has = record {
  printing = printing;
  has = has_still printing text (line_of (code_of status)) start now new none same has;
  whole = whole;
  failed = λ first low was failed. rose_later first old later after (was failed);
}

-- the status's line is printed
pub ends_line : (before printing : Printing) (text line : List ℕ) (start new : Option (List ℕ)) (old later : ℕ) (status : Status) → line ≡ line_of (code_of status) → status ≢ Ended →
    Has printing (text ++ line) start new → ((first : ℕ) → first ≤ old → (before ≡ Failed → Rose first old) → printing ≡ Failed → Rose first later) →
    Ends before (text ++ line_of (code_of status)) start new old later status
ends_line before printing text line start new old later status is other has failed = record {
  printing = printing;
  has = let P : List ℕ → Type 0 = λ l. Has printing (text ++ l) start new in subst P is has;
  whole = λ ended. absurd (other ended);
  failed = failed;
}

-- ---- behind the lines of the flows

memory_or : (status : Status) → (status ≡ NoMemory) ⊎ (status ≢ NoMemory)
memory_or Ended = inr (λ (e : Ended ≡ NoMemory). cc)
memory_or NetFault = inr (λ (e : NetFault ≡ NoMemory). cc)
memory_or BudgetSpent = inr (λ (e : BudgetSpent ≡ NoMemory). cc)
memory_or OutputFailed = inr (λ (e : OutputFailed ≡ NoMemory). cc)
memory_or NoMemory = inl refl

-- a prefix of all is printed
pub printed_part : (status shown : Status) (printing : Printing) (lines : List ℕ) (start mid new : Option (List ℕ)) (old later : ℕ) →
    (status ≢ NoMemory → Has printing lines start mid) → WritesPart lines start mid → (status ≡ NoMemory → new ≡ mid) →
    (Has printing lines start mid → Ends printing (lines ++ line_of (code_of shown)) start new old later shown) → WritesPart (lines ++ line_of (code_of shown)) start new
printed_part status shown printing lines start mid new old later has part still ends = elim (memory_or status) [
  | inl is ↦
      let P : Option (List ℕ) → Type 0 = λ o. WritesPart (lines ++ line_of (code_of shown)) start o in
      subst P (sym (still is)) (part_longer lines (line_of (code_of shown)) start mid part)
  | inr other ↦ let e = ends (has other) in has_part e.printing (lines ++ line_of (code_of shown)) start new e.has
]

whole_by : (printing : Printing) (text : List ℕ) (start new : Option (List ℕ)) → printing ≢ Failed → Has printing text start new → Writes text start new
whole_by Whole text start new not has = has
whole_by Failed text start new not has = absurd (not refl)

pub not_failed : (printing : Printing) → printing ≡ Whole → printing ≢ Failed
not_failed printing is failed = let wrong : Whole ≡ Failed = sym is ∙ failed in cc

-- all is printed where the run ended well, or nothing failed
pub printed_whole : (failed : Type 0) (shown : Status) (printing : Printing) (lines : List ℕ) (start mid new : Option (List ℕ)) (first old later : ℕ) →
    Has printing lines start mid → (Has printing lines start mid → Ends printing (lines ++ line_of (code_of shown)) start new old later shown) →
    first ≤ old → (printing ≡ Failed → failed) → (Rose first later → failed) → (shown ≡ Ended) ⊎ (failed → ⊥) → Writes (lines ++ line_of (code_of shown)) start new
printed_whole failed shown printing lines start mid new first old later has ends low was rose (inl is) =
    let e = ends has in whole_by e.printing _ start new (not_failed e.printing (e.whole is)) e.has
printed_whole failed shown Failed lines start mid new first old later has ends low was rose (inr quiet) = absurd (quiet (was refl))
printed_whole failed shown Whole lines start mid new first old later has ends low was rose (inr quiet) =
    let e = ends has in
    whole_by e.printing _ start new (λ lost. quiet (rose (e.failed first low (λ (wrong : Whole ≡ Failed). absurd (cc)) lost))) e.has
