-- What is said of a run by its setup, said by its options.
use Rattle.std.proofs.Common.{◌≡◌, ◌≢◌, ◌⊎◌, inl, inr, ℕ, Bool, Option, List, subst}
use Rattle.px_event.specs.Trace.{Trace}
use Rattle.px_outside.specs.Net.{Listening}
use Rattle.px_options.specs.Mode.{ModeIs}
use Rattle.px_options.specs.Values.{Place}
use Rattle.px_app.specs.Lines.{start_note}
use Rattle.px_words.specs.Outside.{IsTold}
use Rattle.px_app.specs.Promises.{EndsSo}
use Rattle.px_app.specs.Printed.{at_end}
use Rattle.px_app.specs.Run.{IsEnd, ListensAt}
use Rattle.px_app.specs.Serves.{where_listening}
use Rattle.px_app.specs.Statuses.{code_of}
use Rattle.px_app.specs.declared.printing.Printing.{Printing}
use Rattle.px_app.specs.declared.status.Status.{Status}
use Rattle.px_app.specs.declared.status.Status.TheVariants.{OutputFailed}
use Rattle.px_app.proofs.CodeLemmas.{ended_either, ended_gives, memory_gives, six_says, spent_gives}

pub listens_by : {here there : Place} {control other : Option Place} {listening : Listening} → here ≡ there → control ≡ other → ListensAt here control listening → ListensAt there other listening
listens_by {here} {there} {control} {other} {listening} same same_control listens =
    let P : Place → Type 0 = λ at. ListensAt at control listening in
    let Q : Option Place → Type 0 = λ at. ListensAt there at listening in
    subst Q same_control (subst P same listens)

pub ends_by : {here there status : ℕ} {over : Bool} {told : Trace} → here ≡ there → EndsSo here status over told → EndsSo there status over told
ends_by {status = status} {over = over} {told = told} same = let P : ℕ → Type 0 = λ most. EndsSo most status over told in subst P same

-- the number's causes are those of the status
pub ends_so : (printing : Printing) (status : Status) (code : ℕ) → (code ≡ code_of (at_end printing status)) ⊎ (code ≡ 8) → status ≢ OutputFailed → (most : ℕ) (over : Bool) (told : Trace) →
    IsEnd most status over told → EndsSo most code over told
ends_so printing status code is not most over told end = record {
  ended = λ either. end.ended (ended_either printing status code is not either);
  ends = λ last. elim (end.ends last) [ inl ended ↦ ended_gives printing status code is ended | inr memory ↦ inr (inr (memory_gives printing status code is memory)) ];
  within = end.within;
  budget = λ six. let spent = six_says printing status code is six in (end.count spent, end.goes_on spent);
  spent = λ some count goes_on. elim (end.spent some count goes_on) [ inl spent ↦ spent_gives printing status code is spent | inr memory ↦ inr (memory_gives printing status code is memory) ];
}

pub notes_by : {failed : Type 0} {status : ℕ} (listening : Listening) {start now : Option (List ℕ)} {here there : Place} {mode other : ModeIs} → here ≡ there → mode ≡ other →
    IsTold failed status (where_listening listening (start_note here mode)) start now → IsTold failed status (where_listening listening (start_note there other)) start now
notes_by {failed} {status} listening {start} {now} {here} {there} {mode} {other} same same_mode told =
    let P : Place → Type 0 = λ at. IsTold failed status (where_listening listening (start_note at mode)) start now in
    let Q : ModeIs → Type 0 = λ m. IsTold failed status (where_listening listening (start_note there m)) start now in
    subst Q same_mode (subst P same told)
