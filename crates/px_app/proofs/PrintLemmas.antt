-- What is printed so far.
use Rattle.std.proofs.Common.{◌≡◌, ℕ, List, [], ◌++◌, Option, Result, Ok, Err, IfOk, sym, ap, ◌∙◌, subst}
use Rattle.std.proofs.lemmas.List.{append-nil}
use Rattle.px_outside.specs.Sink.{WritesPart}
use Rattle.px_app.specs.declared.printing.Printing.{Printing}
use Rattle.px_app.specs.declared.printing.Printing.TheVariants.{Whole, Failed}
use Rattle.px_app.specs.Printed.{Has}
use Rattle.px_words.proofs.PrintLemmas.{whole_part}

pub has_part : (printing : Printing) (text : List ℕ) (start now : Option (List ℕ)) → Has printing text start now → WritesPart text start now
has_part Whole text start now has = whole_part text start now has
has_part Failed text start now has = has

-- nothing more
pub has_still : (printing : Printing) (text more : List ℕ) (start now new : Option (List ℕ)) → more ≡ [] → new ≡ now → Has printing text start now → Has printing (text ++ more) start new
has_still printing text more start now new none same has =
    let P : List ℕ → Type 0 = λ l. Has printing l start new in
    let Q : Option (List ℕ) → Type 0 = λ o. Has printing text start o in
    subst P (sym (append-nil text) ∙ ap (λ l. text ++ l) (sym none)) (subst Q (sym same) has)

pub at_ok : {T E : Type 0} (result : Result T E) (P Q : T → Type 0) → ((t : T) → P t → Q t) → IfOk result P → IfOk result Q
at_ok (Ok t) P Q f p = f t p
at_ok (Err e) P Q f p = tt
