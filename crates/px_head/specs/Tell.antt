-- Telling whether a text begins with a piece of a grammar: a tree with its proof, or a proof that there is none.
use Rattle.std.proofs.Common.{ℕ, zero, suc, ◌<◌, ◌≤◌, ◌≡◌, Bool, true, false, List, [], ◌∷◌, ◌++◌, length, refl, sym, ap, ◌∙◌, subst, arith, inl, inr, append-nil}
use Rattle.std.specs.Prelude.{◌⊎◌}
use Rattle.std.proofs.lemmas.List.Elements.{All-cons, All-nil}
use Rattle.std.proofs.lemmas.Bool.Decides.{eqb_tells, leb_tells}
use Rattle.httparse.specs.Grammar.{AllPass}
use Rattle.httparse.specs.Pieces.{Piece, Begins, Then, Stops}
use Rattle.httparse.proofs.PieceLemmas.{IsDeterministic}
use Rattle.httparse.proofs.RunLemmas.{run_unique, run_unstopped}

-- the fact with its proof, or a proof that it is false
abbrev pub Decided : Type 0 → Type 0
Decided P = P ⊎ (P → ⊥)

-- of every text one can tell whether it begins with the piece
pub record CanTell {A : Type 0} (G : Piece A) : Type 0 where
  pub tell : (text : List ℕ) → Decided (Begins G text)

pub decided_by : {P Q : Type 0} → (P → Q) → (Q → P) → Decided P → Decided Q
decided_by there back (inl p) = inl (there p)
decided_by there back (inr none) = inr (λ q. none (back q))

pub decided_either : {P Q R : Type 0} → (P → R) → (Q → R) → (R → P ⊎ Q) → Decided P → Decided Q → Decided R
decided_either left right back (inl p) other = inl (left p)
decided_either left right back (inr none) (inl q) = inl (right q)
decided_either left right back (inr none) (inr nor) = inr (λ r. elim (back r) [ inl p ↦ none p | inr q ↦ nor q ])

pub decided_both : {P Q : Type 0} → Decided P → Decided Q → Decided (P × Q)
decided_both (inl p) (inl q) = inl (p, q)
decided_both (inl p) (inr none) = inr (λ x. none x.1)
decided_both (inr none) other = inr (λ x. none x.0)

pub decided_test : (b : Bool) → Decided (b ≡ true)
decided_test true = inl refl
decided_test false = inr (λ e. cc)

pub decided_eq : (a b : ℕ) → Decided (a ≡ b)
decided_eq a b = elim (eqb_tells a b) [ inl h ↦ inl h.1 | inr h ↦ inr h.1 ]

pub decided_le : (a b : ℕ) → Decided (a ≤ b)
decided_le a b = elim (leb_tells a b) [ inl h ↦ inl h.1 | inr h ↦ inr (λ le. absurd (omega arith)) ]

pub decided_nil : (xs : List ℕ) → Decided (xs ≡ [])
decided_nil [] = inl refl
decided_nil (x ∷ xs) = inr (λ e. cc)

-- ---- one piece after another

then_next : {A B : Type 0} (G : Piece A) (H : Piece B) → IsDeterministic G → (text : List ℕ) (w : Begins G text)
    → Decided (Begins H w.1) → Decided (Begins (Then G H) text)
then_next G H det text w (inl v) = inl ((w.0, v.0), v.1, (w.1, w.2, v.2))
then_next G H det text w (inr none) = inr (λ x.
    none (x.0.1, x.1, subst (λ (m : List ℕ). H x.0.1 m x.1) (det.unique x.0.0 w.0 text _ _ x.2.1 w.2).1 x.2.2))

then_by : {A B : Type 0} (G : Piece A) (H : Piece B) → IsDeterministic G → CanTell H → (text : List ℕ)
    → Decided (Begins G text) → Decided (Begins (Then G H) text)
then_by G H det h text (inl w) = then_next G H det text w (h.tell w.1)
then_by G H det h text (inr none) = inr (λ x. none (x.0.0, x.2.0, x.2.1))

pub Then_tell : {A B : Type 0} {G : Piece A} {H : Piece B} → IsDeterministic G → CanTell G → CanTell H
    → CanTell (Then G H)
Then_tell {G} {H} det g h = record { tell = λ text. then_by G H det h text (g.tell text) }

-- ---- a piece under a condition on its tree and the rest

abbrev pub Where : {A : Type 0} → Piece A → (A → List ℕ → Type 0) → Piece A
Where G P a text rest = G a text rest × P a rest

where_by : {A : Type 0} (G : Piece A) (P : A → List ℕ → Type 0) → IsDeterministic G
    → ((a : A) (rest : List ℕ) → Decided (P a rest)) → (text : List ℕ) → Decided (Begins G text)
    → Decided (Begins (Where G P) text)
where_by {A} G P det holds text (inl w) = decided_by
    (λ p. (w.0, w.1, (w.2, p)))
    (λ x. let same = det.unique x.0 w.0 text x.1 w.1 x.2.0 w.2 in
    subst (λ (t : A × List ℕ). P t.0 t.1) (λ i. (same.0 i, same.1 i)) x.2.1)
    (holds w.0 w.1)
where_by G P det holds text (inr none) = inr (λ x. none (x.0, x.1, x.2.0))

pub Where_tell : {A : Type 0} {G : Piece A} {P : A → List ℕ → Type 0} → IsDeterministic G → CanTell G
    → ((a : A) (rest : List ℕ) → Decided (P a rest)) → CanTell (Where G P)
Where_tell {G} {P} det g holds = record { tell = λ text. where_by G P det holds text (g.tell text) }

-- ---- a piece that is told of a text where it is told of each shorter one

abbrev pub Shorter : {A : Type 0} → Piece A → List ℕ → Type 0
Shorter G text = (other : List ℕ) → length other < length text → Decided (Begins G other)

told_below : {A : Type 0} (G : Piece A) → ((text : List ℕ) → Shorter G text → Decided (Begins G text))
    → (n : ℕ) (text : List ℕ) → length text ≤ n → Decided (Begins G text)
told_below G step zero text fits = step text (λ other below. absurd (omega arith))
told_below G step (suc n) text fits = step text (λ other below. told_below G step n other (omega arith))

pub By_length : {A : Type 0} (G : Piece A) → ((text : List ℕ) → Shorter G text → Decided (Begins G text)) → CanTell G
By_length G step = record { tell = λ text. told_below G step (length text) text (omega arith) }

-- ---- the longest run of bytes that pass a test

pub record RunOf (test : ℕ → Bool) (text : List ℕ) : Type 0 where
  pub run : List ℕ
  pub rest : List ℕ
  pub pass : AllPass test run
  pub is : text ≡ run ++ rest
  pub stops : Stops test rest ⊎ (rest ≡ [])

run_by : (test : ℕ → Bool) (b : ℕ) (text : List ℕ) (v : Bool) → test b ≡ v → RunOf test text → RunOf test (b ∷ text)
run_by test b text true passes r = record {
  run = b ∷ r.run;
  rest = r.rest;
  pass = All-cons (λ c. test c ≡ true) b r.run passes r.pass;
  is = ap (λ (t : List ℕ). b ∷ t) r.is;
  stops = r.stops;
}
run_by test b text false fails r = record {
  run = [];
  rest = b ∷ text;
  pass = All-nil (λ c. test c ≡ true);
  is = refl;
  stops = inl fails;
}

pub run_of : (test : ℕ → Bool) (text : List ℕ) → RunOf test text
run_of test [] = record { run = []; rest = []; pass = All-nil (λ c. test c ≡ true); is = refl; stops = inr refl }
run_of test (b ∷ text) = run_by test b text (test b) refl (run_of test text)

-- a run of the text that ends before a byte which fails the test is the longest one
pub run_meets : (test : ℕ → Bool) (text : List ℕ) (r : RunOf test text) (word rest : List ℕ)
    → AllPass test word → Stops test rest → text ≡ word ++ rest → (r.run ≡ word) × (r.rest ≡ rest)
run_meets test text r word rest pass stops is = elim r.stops [
  | inl ends ↦ run_unique test r.run word r.rest rest r.pass pass ends stops (sym r.is ∙ is)
  | inr none ↦
      let whole : r.run ≡ word ++ rest = sym (append-nil r.run) ∙ ap (λ (t : List ℕ). r.run ++ t) (sym none) ∙ sym r.is ∙ is in
      absurd (run_unstopped test word rest (subst (λ (t : List ℕ). AllPass test t) whole r.pass) stops)
]
