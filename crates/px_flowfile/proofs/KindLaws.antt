-- Each kind reads a tree as one value at most, or refuses it for one cause, and never both.
use Rattle.std.proofs.Common.{◌≡◌, ◌∙◌, ◌⊎◌, Bool, true, false, List, [], ◌∷◌, Option, Some, None, IsSomeAnd, refl, sym, ap, subst, inl, inr}
use Rattle.px_tnet.specs.Tree.{Tree, null, dict, Pairs, no_pair}
use Rattle.px_flowfile.specs.Keys.{name_of}
use Rattle.px_flowfile.specs.Kind.{Kind, plain, shown, or_null}
use Rattle.px_flowfile.specs.Table.{Line, line, lookup, Meets, IsRefusedBy, ReadsAt, dictionary}
use Rattle.px_flowfile.specs.declared.key.Key.{Key}
use Rattle.px_flowfile.specs.declared.error.FlowFileError.{FlowFileError}
use Rattle.px_flowfile.specs.declared.error.FlowFileError.TheVariants as error

pub record Sure {A : Type 0} (kind : Kind A) : Type 0 where
  pub one : (t : Tree) (a b : A) → kind.Reads t a → kind.Reads t b → a ≡ b
  pub apart : (name : Key) (t : Tree) (a : A) (e : FlowFileError) → kind.Reads t a → ¬ (kind.Refuses name t e)
  pub cause : (name : Key) (t : Tree) (e d : FlowFileError) → kind.Refuses name t e → kind.Refuses name t d → e ≡ d

Injective : {A B : Type 0} → (A → B) → Type 0
Injective {A} f = (a b : A) → f a ≡ f b → a ≡ b

module _ {A : Type 0} (shape : A → Tree) (Good : A → Type 0) (inj : (a b : A) → shape a ≡ shape b → a ≡ b) where
  plain_apart : (name : Key) (t : Tree) (a : A) (e : FlowFileError) → (plain shape Good).Reads t a → ¬ ((plain shape Good).Refuses name t e)
  plain_apart name t a e h (inl bad) = bad.1 a h.0
  plain_apart name t a e h (inr bad) = bad.1.2 (subst Good (sym (inj bad.1.0 a (sym bad.1.1 ∙ h.0))) h.1)

  plain_cause : (name : Key) (t : Tree) (e d : FlowFileError) → (plain shape Good).Refuses name t e → (plain shape Good).Refuses name t d → e ≡ d
  plain_cause name t e d (inl h) (inl g) = h.0 ∙ sym g.0
  plain_cause name t e d (inl h) (inr g) = absurd (h.1 g.1.0 g.1.1)
  plain_cause name t e d (inr h) (inl g) = absurd (g.1 h.1.0 h.1.1)
  plain_cause name t e d (inr h) (inr g) = h.0 ∙ sym g.0

  pub sure_plain : Sure (plain shape Good)
  sure_plain = record { one = λ t a b h g. inj a b (sym h.0 ∙ g.0); apart = plain_apart; cause = plain_cause }

module _ {A B : Type 0} (shape : B → Tree) (show : A → B) (Good : A → Type 0) (inj : (a b : B) → shape a ≡ shape b → a ≡ b) where
  pub shown_apart : (name : Key) (t : Tree) (a : A) (e : FlowFileError) → (shown shape show Good).Reads t a → ¬ ((shown shape show Good).Refuses name t e)
  shown_apart name t a e h (inl bad) = bad.1 (show a) h.0
  shown_apart name t a e h (inr bad) = bad.1.2 a h.1 (inj bad.1.0 (show a) (sym bad.1.1 ∙ h.0))

  pub shown_cause : (name : Key) (t : Tree) (e d : FlowFileError) → (shown shape show Good).Refuses name t e → (shown shape show Good).Refuses name t d → e ≡ d
  shown_cause name t e d (inl h) (inl g) = h.0 ∙ sym g.0
  shown_cause name t e d (inl h) (inr g) = absurd (h.1 g.1.0 g.1.1)
  shown_cause name t e d (inr h) (inl g) = absurd (g.1 h.1.0 h.1.1)
  shown_cause name t e d (inr h) (inr g) = h.0 ∙ sym g.0

  pub sure_shown : ((a b : A) → Good a → Good b → show a ≡ show b → a ≡ b) → Sure (shown shape show Good)
  sure_shown told = record {
    one = λ t a b h g. told a b h.1 g.1 (inj (show a) (show b) (sym h.0 ∙ g.0));
    apart = shown_apart;
    cause = shown_cause;
  }

module _ {A : Type 0} (kind : Kind A) (sure : Sure kind) (none : (a : A) → ¬ (kind.Reads null a)) where
  null_one : (t : Tree) (a b : Option A) → (or_null kind).Reads t a → (or_null kind).Reads t b → a ≡ b
  null_one t None None h g = refl
  null_one t None (Some b) h g = absurd (none b (let P : Tree → Type 0 = λ u. kind.Reads u b in subst P h g))
  null_one t (Some a) None h g = absurd (none a (let P : Tree → Type 0 = λ u. kind.Reads u a in subst P g h))
  null_one t (Some a) (Some b) h g = ap (λ x. Some x) (sure.one t a b h g)

  null_apart : (name : Key) (t : Tree) (a : Option A) (e : FlowFileError) → (or_null kind).Reads t a → ¬ ((or_null kind).Refuses name t e)
  null_apart name t None e h bad = bad.0 h
  null_apart name t (Some a) e h bad = sure.apart name t a e h bad.1

  pub sure_or_null : Sure (or_null kind)
  sure_or_null = record { one = null_one; apart = null_apart; cause = λ name t e d h g. sure.cause name t e d h.1 g.1 }

pub record SureLine {S : Type 0} (l : Line S) : Type 0 where
  pub read : (pairs : Pairs) (s : S) → l.Reads pairs s → l.IsRead pairs
  pub apart : (pairs : Pairs) (e : FlowFileError) → l.IsRead pairs → ¬ (l.Refuses pairs e)
  pub cause : (pairs : Pairs) (e d : FlowFileError) → l.Refuses pairs e → l.Refuses pairs d → e ≡ d

none_is_some : (t : Tree) → ¬ (Some t ≡ None)
none_is_some t h = cc

module _ {A : Type 0} (key : Key) (kind : Kind A) (sure : Sure kind) where
  found_one : (found : Option Tree) (a b : A) → IsSomeAnd found (λ t. kind.Reads t a) → IsSomeAnd found (λ t. kind.Reads t b) → a ≡ b
  found_one (Some t) a b h g = sure.one t a b h g
  found_one None a b h g = absurd h

  found_apart : (found : Option Tree) (a : A) (e : FlowFileError) → IsSomeAnd found (λ t. kind.Reads t a)
      → ((e ≡ error.MissingKey key) × (found ≡ None)) ⊎ IsSomeAnd found (λ t. kind.Refuses key t e) → ⊥
  found_apart (Some t) a e h (inl bad) = none_is_some t bad.1
  found_apart (Some t) a e h (inr bad) = sure.apart key t a e h bad
  found_apart None a e h bad = h

  found_cause : (found : Option Tree) (e d : FlowFileError) → ((e ≡ error.MissingKey key) × (found ≡ None)) ⊎ IsSomeAnd found (λ t. kind.Refuses key t e)
      → ((d ≡ error.MissingKey key) × (found ≡ None)) ⊎ IsSomeAnd found (λ t. kind.Refuses key t d) → e ≡ d
  found_cause (Some t) e d (inl h) g = absurd (none_is_some t h.1)
  found_cause (Some t) e d (inr h) (inl g) = absurd (none_is_some t g.1)
  found_cause (Some t) e d (inr h) (inr g) = sure.cause key t e d h g
  found_cause None e d (inl h) (inl g) = h.0 ∙ sym g.0
  found_cause None e d (inl h) (inr g) = absurd g
  found_cause None e d (inr h) g = absurd h

  pub one_at : (pairs : Pairs) (a b : A) → ReadsAt key kind pairs a → ReadsAt key kind pairs b → a ≡ b
  one_at pairs a b h g = found_one (lookup (name_of key) pairs) a b h g

  pub sure_line : {S : Type 0} (get : S → A) → SureLine (line key kind get)
  sure_line get = record {
    read = λ pairs s h. (get s, h);
    apart = λ pairs e h bad. found_apart (lookup (name_of key) pairs) h.0 e h.1 bad;
    cause = λ pairs e d h g. found_cause (lookup (name_of key) pairs) e d h g;
  }

abbrev pub AllSure : {S : Type 0} → List (Line S) → Type 0
AllSure [] = Unit {0}
AllSure (l ∷ table) = SureLine l × AllSure table

pub table_apart : {S : Type 0} (table : List (Line S)) → AllSure table → (pairs : Pairs) (s : S) (e : FlowFileError) → Meets table pairs s → ¬ (IsRefusedBy table pairs e)
table_apart [] sure pairs s e h bad = bad
table_apart (l ∷ table) sure pairs s e h (inl bad) = sure.0.apart pairs e (sure.0.read pairs s h.0) bad
table_apart (l ∷ table) sure pairs s e h (inr bad) = table_apart table sure.1 pairs s e h.1 bad.1

pub table_cause : {S : Type 0} (table : List (Line S)) → AllSure table → (pairs : Pairs) (e d : FlowFileError) → IsRefusedBy table pairs e → IsRefusedBy table pairs d → e ≡ d
table_cause [] sure pairs e d h g = absurd h
table_cause (l ∷ table) sure pairs e d (inl h) (inl g) = sure.0.cause pairs e d h g
table_cause (l ∷ table) sure pairs e d (inl h) (inr g) = absurd (sure.0.apart pairs e g.0 h)
table_cause (l ∷ table) sure pairs e d (inr h) (inl g) = absurd (sure.0.apart pairs d h.0 g)
table_cause (l ∷ table) sure pairs e d (inr h) (inr g) = table_cause table sure.1 pairs e d h.1 g.1

abbrev pub pairs_in : Tree → Pairs
pairs_in (dict ps) = ps
pairs_in t = no_pair

abbrev is_dict : Tree → Bool
is_dict (dict ps) = true
is_dict t = false

pub not_null : (ps : Pairs) → ¬ (null ≡ dict ps)
not_null ps h = let e : false ≡ true = ap is_dict h in cc

module _ {S : Type 0} (table : List (Line S)) (sure : AllSure table) where
  dict_apart : (name : Key) (t : Tree) (s : S) (e : FlowFileError) → (dictionary table).Reads t s → ¬ ((dictionary table).Refuses name t e)
  dict_apart name t s e h (inl bad) = bad.1 h.0 h.1
  dict_apart name t s e h (inr bad) =
      let P : Pairs → Type 0 = λ ps. IsRefusedBy table ps e in
      table_apart table sure h.0 s e h.2 (subst P (ap pairs_in (sym bad.1 ∙ h.1)) bad.2)

  dict_cause : (name : Key) (t : Tree) (e d : FlowFileError) → (dictionary table).Refuses name t e → (dictionary table).Refuses name t d → e ≡ d
  dict_cause name t e d (inl h) (inl g) = h.0 ∙ sym g.0
  dict_cause name t e d (inl h) (inr g) = absurd (h.1 g.0 g.1)
  dict_cause name t e d (inr h) (inl g) = absurd (g.1 h.0 h.1)
  dict_cause name t e d (inr h) (inr g) =
      let P : Pairs → Type 0 = λ ps. IsRefusedBy table ps d in
      table_cause table sure h.0 e d h.2 (subst P (ap pairs_in (sym g.1 ∙ h.1)) g.2)

  pub sure_dictionary : ((pairs : Pairs) (s u : S) → Meets table pairs s → Meets table pairs u → s ≡ u) → Sure (dictionary table)
  sure_dictionary one = record {
    one = λ t s u h g. one h.0 s u h.2 (let P : Pairs → Type 0 = λ ps. Meets table ps u in subst P (ap pairs_in (sym g.1 ∙ h.1)) g.2);
    apart = dict_apart;
    cause = dict_cause;
  }

  pub dictionary_no_null : (s : S) → ¬ ((dictionary table).Reads null s)
  dictionary_no_null s h = not_null h.0 h.1
