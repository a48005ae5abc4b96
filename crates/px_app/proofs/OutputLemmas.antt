-- What a run printed and saved, as its promises say it.
use Rattle.std.proofs.Common.{◌≡◌, ◌≢◌, ◌≤◌, ◌⊎◌, inl, inr, ℕ, List, Option, subst, arith}
use Rattle.px_event.specs.Trace.{Trace}
use Rattle.px_outside.specs.Count.{Rose}
use Rattle.px_core.specs.Answers.{Answering, AnswererState, Failing, FilesMeaning}
use Rattle.px_core.specs.Course.{Change}
use Rattle.px_app.specs.Listed.{listed}
use Rattle.px_app.specs.Over.{LeavesBehind, Reaches, ReachesPart}
use Rattle.px_app.specs.Printed.{Has}
use Rattle.px_app.specs.Promises.{Outputs}
use Rattle.px_app.specs.Saved.{SavesTo}
use Rattle.px_words.specs.Appends.{Append}
use Rattle.px_app.specs.declared.printing.Printing.{Printing}
use Rattle.px_app.specs.declared.printing.Printing.TheVariants.{Whole, Failed}
use Rattle.px_app.proofs.SavedLemmas.{came_part}

-- how far the lines were printed
pub has_of : {S : Type 0} {to : Option SavesTo} {printing : Printing} {changes : List (Change S)} {made : List Append} {trace : Trace} {start now : Option (List ℕ)} →
    Reaches to printing changes made trace start now → Has printing (listed trace) start now
has_of {to = to} {printing = Whole} r = r.came.0
has_of {to = to} {printing = Failed} {made = made} {start = start} {now = now} r = came_part Failed to _ start now made r.came

-- what rose is risen later too
pub first_later : (first old new : ℕ) {Q : Type 0} → old ≤ new → Rose first old ⊎ Q → Rose first new ⊎ Q
first_later first old new later (inl rose) = inl (omega (arith, later, rose))
first_later first old new later (inr q) = inr q

-- by where the options have flows saved
pub leaves_at : {S : Type 0} (answers : Answering S) (drops : List ℕ → S → S → Type 0) (fails : Failing S) (first : AnswererState S) (files : FilesMeaning) {here there : Option SavesTo} → here ≡ there →
    LeavesBehind answers drops fails here first files → LeavesBehind answers drops fails there first files
leaves_at answers drops fails first files same = let P : Option SavesTo → Type 0 = λ to. LeavesBehind answers drops fails to first files in subst P same

pub outputs_at : {S : Type 0} (failed : Type 0) (changes : List (Change S)) (there : Option SavesTo) {here : Option SavesTo} (status : ℕ) (trace : Trace) (start mid now : Option (List ℕ)) → here ≡ there →
    (made : List Append) → ReachesPart here changes made trace start mid → (reached : Printing) → (status ≢ 8 → Reaches here reached changes made trace start mid) →
    (reached ≡ Failed → now ≡ mid) → (reached ≡ Failed → failed) → (status ≡ 0 → reached ≡ Whole) → (status ≡ 7 → reached ≡ Failed) → Outputs failed there changes status trace start now
outputs_at failed changes there status trace start mid now same made part reached reaches silent cause ended lost =
    let P : Option SavesTo → Type 0 = λ to. ReachesPart to changes made trace start mid in
    let Q : Option SavesTo → Type 0 = λ to. Reaches to reached changes made trace start mid in
    record {
      made = made;
      part = (mid, subst P same part);
      reached = reached;
      printed = mid;
      reaches = λ other. subst Q same (reaches other);
      silent = λ other is. silent is;
      cause = λ other is. cause is;
      ended = ended;
      lost = lost;
    }
