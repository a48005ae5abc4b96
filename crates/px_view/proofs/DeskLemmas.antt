-- A loop over the bytes of a connection.
use Rattle.std.proofs.Common.{◌≡◌, ◌∙◌, ℕ, zero, suc, ◌+◌, ◌<◌, ◌≤◌, List, [], ◌∷◌, ◌++◌, length, drop, get_or, refl, sym, ap, arith, append_assoc, append-nil}
use Rattle.px_text.specs.Prefix.{IsPrefixOf}
use Rattle.px_view.specs.declared.desk.Line.{Line}
use Rattle.px_view.specs.Desk.{Stand, stand_by, stands, told, told_by}

-- What is left of the bytes tells what is still to come behind the lines that were pushed.
pub record Going (bytes left : List ℕ) (old new : Stand) (start now : List Line) : Type 0 where
  pub lines : now ++ told left new ≡ start ++ told bytes old
  pub place : stands left new ≡ stands bytes old
  pub before : IsPrefixOf start now

pub going_start : (bytes : List ℕ) (old : Stand) (start : List Line) → Going bytes bytes old old start start
going_start bytes old start = record { lines = refl; place = refl; before = ([], sym (append-nil start)) }

next_left : (bytes : List ℕ) (i d : ℕ) → i < length bytes → drop i bytes ≡ get_or bytes i d ∷ drop (suc i) bytes
next_left [] i d below = absurd (omega arith)
next_left (b ∷ bytes) zero d below = refl
next_left (b ∷ bytes) (suc i) d below = next_left bytes i d (omega arith)

next_place : (bytes : List ℕ) (i d : ℕ) → i < length bytes → drop i bytes ≡ get_or bytes i d ∷ drop (i + 1) bytes
next_place bytes i d below =
    let next : suc i ≡ i + 1 = omega arith in
    next_left bytes i d below ∙ ap (λ n. get_or bytes i d ∷ drop n bytes) next

pub going_on : (bytes : List ℕ) (i d : ℕ) (old now next : Stand) (start lines more : List Line) → i < length bytes
    → Going bytes (drop i bytes) old now start lines
    → more ≡ lines ++ told_by now (get_or bytes i d) → next ≡ stand_by now (get_or bytes i d)
    → Going bytes (drop (i + 1) bytes) old next start more
going_on bytes i d old now next start lines more below going is to =
    let b = get_or bytes i d in let left = drop (i + 1) bytes in
    record {
      lines =
          ap (λ (l : List Line). l ++ told left next) is ∙ ap (λ s. (lines ++ told_by now b) ++ told left s) to
          ∙ append_assoc lines (told_by now b) (told left (stand_by now b))
          ∙ ap (λ (l : List ℕ). lines ++ told l now) (sym (next_place bytes i d below)) ∙ going.lines;
      place = ap (stands left) to ∙ ap (λ (l : List ℕ). stands l now) (sym (next_place bytes i d below)) ∙ going.place;
      before = (
        going.before.0 ++ told_by now b,
        is ∙ ap (λ (l : List Line). l ++ told_by now b) going.before.1 ∙ append_assoc start going.before.0 (told_by now b),
      );
    }

drop_all : (bytes : List ℕ) (n : ℕ) → length bytes ≤ n → drop n bytes ≡ []
drop_all [] zero past = refl
drop_all [] (suc n) past = refl
drop_all (b ∷ bytes) zero past = absurd (omega arith)
drop_all (b ∷ bytes) (suc n) past = drop_all bytes n (omega arith)

module _ (bytes : List ℕ) (n : ℕ) (old new : Stand) (start now : List Line) (going : Going bytes (drop n bytes) old new start now) where
  pub end_lines : length bytes ≤ n → now ≡ start ++ told bytes old
  end_lines past = sym (append-nil now) ∙ ap (λ (l : List ℕ). now ++ told l new) (sym (drop_all bytes n past)) ∙ going.lines

  pub end_place : length bytes ≤ n → new ≡ stands bytes old
  end_place past = ap (λ (l : List ℕ). stands l new) (sym (drop_all bytes n past)) ∙ going.place

  -- where a byte was not taken
  pub cut_lines : (out : List Line) → out ≡ now → IsPrefixOf out (start ++ told bytes old)
  cut_lines out is = (told (drop n bytes) new, sym going.lines ∙ ap (λ (l : List Line). l ++ told (drop n bytes) new) (sym is))

  pub cut_before : (out : List Line) → out ≡ now → IsPrefixOf start out
  cut_before out is = (going.before.0, is ∙ going.before.1)
