-- What is told to a sink.
use Rattle.std.proofs.Common.{◌≡◌, ◌⊎◌, inl, inr, ℕ, List, [], Option, Some, None, refl, sym, ap, ◌∙◌, subst, arith}
use Rattle.px_outside.specs.Sink.{Writes, WritesPart}
use Rattle.px_outside.specs.Net.{Listening}
use Rattle.px_outside.specs.Net as net
use Rattle.px_words.specs.Outside.{IsTold}
use Rattle.px_app.specs.Run.{ListensAt}
use Rattle.px_app.specs.Serves.{where_listening}
use Rattle.px_app.specs.Statuses.{code_of}
use Rattle.px_app.specs.declared.status.Status.{Status}
use Rattle.px_app.specs.declared.status.Status.TheVariants.{Ended, NetFault, BudgetSpent, OutputFailed, NoMemory}
use Rattle.px_words.proofs.PrintLemmas.{writes_none}
use Rattle.px_words.proofs.ToldLemmas.{told_by, told_none, told_nothing}

-- where it listens
pub listens_there : (place : List ℕ × ℕ) (control : Option (List ℕ × ℕ)) (listening : Listening) (text : List ℕ) → ListensAt place control listening → where_listening listening text ≡ text
listens_there place control listening text there = let P : Listening → Type 0 = λ l. where_listening l text ≡ text in subst P (sym there.here) refl

eight_is : (status : Status) → code_of status ≡ 8 → status ≡ NoMemory
eight_is Ended e = absurd (omega arith)
eight_is NetFault e = absurd (omega arith)
eight_is BudgetSpent e = absurd (omega arith)
eight_is OutputFailed e = absurd (omega arith)
eight_is NoMemory e = refl

-- so it is with the program's number, which is 8 where the status is out of memory
pub told_code : (failed : Type 0) (status : Status) (code : ℕ) (text : List ℕ) (start now : Option (List ℕ)) → (status ≡ NoMemory → code ≡ 8) →
    IsTold failed (code_of status) text start now → IsTold failed code text start now
told_code failed status code text start now memory told = record {
  begun = told.begun;
  whole = λ other quiet. told.whole (λ eight. other (memory (eight_is status eight))) quiet;
}

-- a run that did not begin told nothing: it does not listen, or memory ran out
pub begun_not : (failed_is : Type 0) (status : Status) (listening : Listening) (text : List ℕ) (start now : Option (List ℕ)) → (status ≡ NetFault) ⊎ (status ≡ NoMemory) →
    (status ≡ NetFault → listening ≡ net.failed) → now ≡ start → IsTold failed_is (code_of status) (where_listening listening text) start now
begun_not failed_is status listening text start now (inl fault) deaf same =
    let P : Listening → Type 0 = λ l. IsTold failed_is (code_of status) (where_listening l text) start now in
    subst P (sym (deaf fault)) (told_nothing failed_is (code_of status) start now (writes_none start now same))
begun_not failed_is status listening text start now (inr memory) deaf same =
    let P : Status → Type 0 = λ s. IsTold failed_is (code_of s) (where_listening listening text) start now in
    subst P (sym memory) (told_none failed_is (where_listening listening text) start now same)

-- a run that listens told where, or the sink failed
pub begun_told : (failed_is : Type 0) (status : ℕ) (place : List ℕ × ℕ) (control : Option (List ℕ × ℕ)) (old listening : Listening) (text : List ℕ) (start now : Option (List ℕ)) → ListensAt place control old → listening ≡ old →
    Writes text start now ⊎ (failed_is × WritesPart text start now) → IsTold failed_is status (where_listening listening text) start now
begun_told failed_is status place control old listening text start now there same told =
    let P : List ℕ → Type 0 = λ t. IsTold failed_is status t start now in
    subst P (sym (ap (λ l. where_listening l text) same ∙ listens_there place control old text there)) (told_by failed_is status text start now told)
