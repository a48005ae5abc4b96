-- What is told to a sink.
use Rattle.std.proofs.Common.{◌≡◌, ◌⊎◌, inl, inr, ℕ, List, [], ◌∷◌, ◌++◌, Option, Some, None, refl, sym, ap, ◌∙◌, subst}
use Rattle.std.proofs.lemmas.List.{append-nil}
use Rattle.px_outside.specs.Sink.{Writes, WritesPart}
use Rattle.px_words.specs.Outside.{IsTold}
use Rattle.px_words.proofs.PrintLemmas.{whole_part}

-- nothing of it
pub none_part : (text : List ℕ) (start now : Option (List ℕ)) → now ≡ start → WritesPart text start now
none_part text None now same = same
none_part text (Some before) now same = (before, same, ([], (text, refl), sym (append-nil before)))

-- all of it, or a beginning where the sink failed
pub told_by : (failed : Type 0) (status : ℕ) (text : List ℕ) (start now : Option (List ℕ)) → Writes text start now ⊎ (failed × WritesPart text start now) → IsTold failed status text start now
told_by failed status text start now (inl whole) = record { begun = whole_part text start now whole; whole = λ _ _. whole }
told_by failed status text start now (inr (is, part)) = record { begun = part; whole = λ _ quiet. absurd (quiet is) }

-- a beginning, when out of memory
pub told_part : (failed : Type 0) (text : List ℕ) (start now : Option (List ℕ)) → WritesPart text start now → IsTold failed 8 text start now
told_part failed text start now part = record { begun = part; whole = λ other _. absurd (other refl) }

-- nothing of it, when out of memory
pub told_none : (failed : Type 0) (text : List ℕ) (start now : Option (List ℕ)) → now ≡ start → IsTold failed 8 text start now
told_none failed text start now same = told_part failed text start now (none_part text start now same)

-- no text
pub told_nothing : (failed : Type 0) (status : ℕ) (start now : Option (List ℕ)) → Writes [] start now → IsTold failed status [] start now
told_nothing failed status start now whole = told_by failed status [] start now (inl whole)

-- a beginning of no text is nothing
pub part_of_none : (start now : Option (List ℕ)) → WritesPart [] start now → now ≡ start
part_of_none None now part = part
part_of_none (Some before) now (after, is, (given, (rest, whole), grown)) =
    let P : List ℕ → Type 0 = λ l. after ≡ before ++ l in
    is ∙ ap Some (subst P (none_in given rest (sym whole)) grown ∙ append-nil before)
  where
    none_in : (given rest : List ℕ) → given ++ rest ≡ [] → given ≡ []
    none_in [] rest whole = refl
    none_in (byte ∷ given) rest whole = absurd (cc)
