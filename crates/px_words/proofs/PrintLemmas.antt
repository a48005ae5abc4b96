-- Texts printed one behind the other.
use Rattle.std.proofs.Common.{◌≡◌, ℕ, List, [], ◌++◌, Option, Some, None, refl, sym, ap, ◌∙◌, subst, append_assoc}
use Rattle.std.proofs.lemmas.List.{append-nil}
use Rattle.px_text.specs.Prefix.{AddsPrefixOf}
use Rattle.px_outside.specs.Sink.{Writes, WritesPart}

-- nothing was written
pub writes_none : (start now : Option (List ℕ)) → now ≡ start → Writes [] start now
writes_none None now same = same
writes_none (Some text) now same = same ∙ ap Some (sym (append-nil text))

-- two texts, the second whole
pub writes_more : (a b : List ℕ) (old mid new : Option (List ℕ)) → Writes a old mid → Writes b mid new → Writes (a ++ b) old new
writes_more a b None mid new w v = let P : Option (List ℕ) → Type 0 = λ m. Writes b m new in subst P w v
writes_more a b (Some x) mid new w v =
    let P : Option (List ℕ) → Type 0 = λ m. Writes b m new in
    let more : new ≡ Some ((x ++ a) ++ b) = subst P w v in
    more ∙ ap Some (append_assoc x a b)

part_behind : (a b x after : List ℕ) → AddsPrefixOf b (x ++ a) after → AddsPrefixOf (a ++ b) x after
part_behind a b x after (given, (rest, whole), grown) =
    (a ++ given, (rest, ap (λ l. a ++ l) whole ∙ sym (append_assoc a given rest)), grown ∙ append_assoc x a given)

-- two texts, the second in part
pub writes_part : (a b : List ℕ) (old mid new : Option (List ℕ)) → Writes a old mid → WritesPart b mid new → WritesPart (a ++ b) old new
writes_part a b None mid new w v = let P : Option (List ℕ) → Type 0 = λ m. WritesPart b m new in subst P w v
writes_part a b (Some x) mid new w v =
    let P : Option (List ℕ) → Type 0 = λ m. WritesPart b m new in
    let part : (after : List ℕ) × (new ≡ Some after) × AddsPrefixOf b (x ++ a) after = subst P w v in
    (part.0, part.1, part_behind a b x part.0 part.2)

-- the whole is a part
pub whole_part : (a : List ℕ) (old new : Option (List ℕ)) → Writes a old new → WritesPart a old new
whole_part a None new w = w
whole_part a (Some x) new w = (x ++ a, w, (a, ([], sym (append-nil a)), refl))

part_within : (a b x after : List ℕ) → AddsPrefixOf a x after → AddsPrefixOf (a ++ b) x after
part_within a b x after (given, (rest, whole), grown) = (given, (rest ++ b, ap (λ l. l ++ b) whole ∙ append_assoc given rest b), grown)

-- a part of a text is a part of a longer one
pub part_longer : (a b : List ℕ) (old new : Option (List ℕ)) → WritesPart a old new → WritesPart (a ++ b) old new
part_longer a b None new v = v
part_longer a b (Some x) new (after, is, part) = (after, is, part_within a b x after part)
