-- What the first bytes decide stays decided.
use Rattle.std.proofs.Common.{◌≡◌, ◌⊎◌, inl, inr, ℕ, Bool, true, false, List, [], ◌∷◌, ◌++◌, length, take, drop, refl, ap, sym, ◌∙◌, append_assoc}
use Rattle.std.specs.Prelude.{◌||◌, ◌&&◌, not}
use Rattle.std.specs.List.{list_any}
use Rattle.std.proofs.Math.Seq.{take-append_seam}
use Rattle.std.proofs.lemmas.List.{take-append-drop}
use Rattle.std.proofs.lemmas.Slice.Eq.{bytes_eq-Decides}
use Rattle.px_stack.specs.Decides.{beginnings, begins_with, decided, decided_by, has_method, is_http, is_raw, may_have_method, still}

-- ---- lists of tests

either_true : (a b c : Bool) → (a || b) ≡ true → (a ≡ true → c ≡ true) → (b ≡ true → c ≡ true) → c ≡ true
either_true true b c is first later = first refl
either_true false b c is first later = later is

on_left : (a b : Bool) → a ≡ true → (a || b) ≡ true
on_left true b is = refl
on_left false b is = absurd (let no : false ≡ true = is in cc)

on_right : (a b : Bool) → b ≡ true → (a || b) ≡ true
on_right true b is = refl
on_right false b is = is

some_other : (f g h : List ℕ → Bool) (fronts : List (List ℕ)) → ((front : List ℕ) → f front ≡ true → (g front || h front) ≡ true) →
    list_any f fronts ≡ true → (list_any g fronts || list_any h fronts) ≡ true
some_other f g h [] leads is = absurd (let no : false ≡ true = is in cc)
some_other f g h (front ∷ fronts) leads is =
    either_true (f front) (list_any f fronts) ((g front || list_any g fronts) || (h front || list_any h fronts)) is
    (λ here. spread (g front) (h front) (list_any g fronts) (list_any h fronts) (leads front here))
    (λ there. widen (g front) (h front) (list_any g fronts) (list_any h fronts) (some_other f g h fronts leads there))
  where
    spread : (a b c d : Bool) → (a || b) ≡ true → ((a || c) || (b || d)) ≡ true
    spread true b c d is = refl
    spread false true c d is = on_right c true refl
    spread false false c d is = absurd (let no : false ≡ true = is in cc)

    widen : (a b c d : Bool) → (c || d) ≡ true → ((a || c) || (b || d)) ≡ true
    widen true b c d is = refl
    widen false b true d is = refl
    widen false b false d is = on_right b d is

-- ---- beginnings

front_of : (text front : List ℕ) → begins_with text front ≡ true → (rest : List ℕ) × (text ≡ front ++ rest)
front_of text front is =
    let same : front ≡ take (length front) text = (bytes_eq-Decides front (take (length front) text)).0 is in
    (drop (length front) text, sym (ap (λ l. l ++ drop (length front) text) same ∙ take-append-drop (length front) text))

is_front : (text front rest : List ℕ) → text ≡ front ++ rest → begins_with text front ≡ true
is_front text front rest is =
    (bytes_eq-Decides front (take (length front) text)).1 (sym (ap (take (length front)) is ∙ take-append_seam front rest))

-- of two beginnings of one text the one begins the other
which : (a b more rest : List ℕ) → a ++ more ≡ b ++ rest → (begins_with a b || begins_with b a) ≡ true
which a b more rest is = by (one a b more rest is)
  where
    one : (a b more rest : List ℕ) → a ++ more ≡ b ++ rest → ((x : List ℕ) × (a ≡ b ++ x)) ⊎ ((x : List ℕ) × (b ≡ a ++ x))
    one [] b more rest is = inr (b, refl)
    one (x ∷ a) [] more rest is = inl (x ∷ a, refl)
    one (x ∷ a) (y ∷ b) more rest is = let head : x ≡ y = cc in let tail : a ++ more ≡ b ++ rest = cc in under x y head (one a b more rest tail)
      where
        under : (x y : ℕ) → x ≡ y → ((z : List ℕ) × (a ≡ b ++ z)) ⊎ ((z : List ℕ) × (b ≡ a ++ z)) → ((z : List ℕ) × (x ∷ a ≡ y ∷ (b ++ z))) ⊎ ((z : List ℕ) × (y ∷ b ≡ x ∷ (a ++ z)))
        under x y same (inl (z, is)) = inl (z, let e : x ∷ a ≡ y ∷ (b ++ z) = cc in e)
        under x y same (inr (z, is)) = inr (z, let e : y ∷ b ≡ x ∷ (a ++ z) = cc in e)

    by : ((x : List ℕ) × (a ≡ b ++ x)) ⊎ ((x : List ℕ) × (b ≡ a ++ x)) → (begins_with a b || begins_with b a) ≡ true
    by (inl (x, is)) = on_left (begins_with a b) (begins_with b a) (is_front a b x is)
    by (inr (x, is)) = on_right (begins_with a b) (begins_with b a) (is_front b a x is)

-- ---- what is decided

by_http : (a b : Bool) → decided_by a b ≡ is_http → a ≡ true
by_http true b is = refl
by_http false true is = absurd (let no : still ≡ is_http = is in cc)
by_http false false is = absurd (let no : is_raw ≡ is_http = is in cc)

by_raw : (a b : Bool) → decided_by a b ≡ is_raw → (a ≡ false) × (b ≡ false)
by_raw true b is = absurd (let no : is_http ≡ is_raw = is in cc)
by_raw false true is = absurd (let no : still ≡ is_raw = is in cc)
by_raw false false is = (refl, refl)

both_same : (a : Bool) → (a || a) ≡ true → a ≡ true
both_same true is = refl
both_same false is = is

-- HTTP stays HTTP
pub http_stays : (text more : List ℕ) (answered later : Bool) → decided text answered ≡ is_http → decided (text ++ more) later ≡ is_http
http_stays text more answered later is =
    let here : has_method text ≡ true = by_http (has_method text) (not answered && may_have_method text) is in
    let there : has_method (text ++ more) ≡ true = both_same (has_method (text ++ more))
    (some_other (λ front. begins_with text front) (λ front. begins_with (text ++ more) front) (λ front. begins_with (text ++ more) front) beginnings
    (λ front begins. on_left (begins_with (text ++ more) front) (begins_with (text ++ more) front) (longer front (front_of text front begins))) here) in
    ap (λ b. decided_by b (not later && may_have_method (text ++ more))) there
  where
    longer : (front : List ℕ) → (rest : List ℕ) × (text ≡ front ++ rest) → begins_with (text ++ more) front ≡ true
    longer front (rest, is) = is_front (text ++ more) front (rest ++ more) (ap (λ l. l ++ more) is ∙ append_assoc front rest more)

-- what the client's bytes alone say is none stays so
none_of : (a b c : Bool) → a ≡ false → b ≡ false → (c ≡ true → (a || b) ≡ true) → c ≡ false
none_of a b false is not_b leads = refl
none_of true b true is not_b leads = absurd (let e : true ≡ false = is in cc)
none_of false true true is not_b leads = absurd (let e : true ≡ false = not_b in cc)
none_of false false true is not_b leads = absurd (let e : false ≡ true = leads refl in cc)

raw_by : (a b later : Bool) → a ≡ false → b ≡ false → decided_by a (not later && b) ≡ is_raw
raw_by a b true is not_b = ap (λ c. decided_by c false) is
raw_by a b false is not_b = ap (λ c. decided_by c b) is ∙ ap (decided_by false) not_b

pub raw_stays : (text more : List ℕ) (later : Bool) → decided text false ≡ is_raw → decided (text ++ more) later ≡ is_raw
raw_stays text more later is =
    let none = by_raw (has_method text) (may_have_method text) is in
    raw_by (has_method (text ++ more)) (may_have_method (text ++ more)) later
    (none_of (has_method text) (may_have_method text) (has_method (text ++ more)) none.0 none.1
    (some_other (λ front. begins_with (text ++ more) front) (λ front. begins_with text front) (λ front. begins_with front text) beginnings
    (λ front begins. either front (front_of (text ++ more) front begins))))
    (none_of (has_method text) (may_have_method text) (may_have_method (text ++ more)) none.0 none.1
    (some_other (λ front. begins_with front (text ++ more)) (λ front. begins_with text front) (λ front. begins_with front text) beginnings
    (λ front begins. shorter front (front_of front (text ++ more) begins))))
  where
    either : (front : List ℕ) → (rest : List ℕ) × (text ++ more ≡ front ++ rest) → (begins_with text front || begins_with front text) ≡ true
    either front (rest, is) = which text front more rest is

    shorter : (front : List ℕ) → (rest : List ℕ) × (front ≡ (text ++ more) ++ rest) → (begins_with text front || begins_with front text) ≡ true
    shorter front (rest, is) =
        on_right (begins_with text front) (begins_with front text) (is_front front text (more ++ rest) (is ∙ append_assoc text more rest))

-- a byte of the server decides
by_still : (a : Bool) → decided_by a false ≡ still → ⊥
by_still true is = let no : is_http ≡ still = is in cc
by_still false is = let no : is_raw ≡ still = is in cc

pub answer_decides : (text : List ℕ) → decided text true ≡ still → ⊥
answer_decides text is = by_still (has_method text) is
