-- The path of a target that is UTF-8 is UTF-8: it is the target, or begins at a `/` or `?` in it.
use Rattle.std.proofs.Common.{ℕ, zero, suc, ◌+◌, ◌<◌, ◌≤◌, ◌≡◌, ◌==◌, ◌||◌, Bool, true, false, not, List, [], ◌∷◌, length, drop, take, get_or, refl, sym, ap, ◌∙◌, subst, arith, inl, inr, Option, Some, None, drop-drop, get_or-drop, length-drop}
use Rattle.std.specs.Prelude.{IsUtf8, codes, bytes_eq, slice_index, if◌then◌else◌}
use Rattle.std.specs.Str.{IsAscii, IsCharBoundary}
use Rattle.std.specs.Option.{option_map}
use Rattle.std.proofs.lemmas.Bool.Decides.{eqb_tells, leb_tells}
use Rattle.std.proofs.lemmas.List.{nil_from_length}
use Rattle.std.proofs.lemmas.List.Sums.{prefix_len-le-length, prefix_len_stops}
use Rattle.std.proofs.lemmas.Str.{IsCharBoundary-before_ascii, IsCharBoundary-end, IsUtf8-append, IsUtf8-drop, IsUtf8-from_ascii, IsUtf8-nil}
use Rattle.http_uri.specs.ByteClasses.{question_mark, slash}
use Rattle.px_message.specs.Path.{is_path}
use Rattle.px_message.specs.Authority.{address_of}
use Rattle.px_message.specs.Target.{origin, absolute, authority, asterisk, has_http_scheme, authority_len, rooted, path_form, located, absolute_form, authority_form, target_form}
use Rattle.px_write.specs.TargetPath.{path_said}

-- ---- the end of the authority

stops_low : (b : ℕ) → not (b == slash || b == question_mark) ≡ false → b < 128
stops_low b is = elim (eqb_tells b 47) [
  | inl t ↦ (let e = t.1 in omega arith)
  | inr f ↦ elim (eqb_tells b 63) [
    | inl t ↦ (let e = t.1 in omega arith)
    | inr g ↦ absurd (let e : true ≡ false = rw (f.0, g.0) at is in cc)
  ]
]

tail_at : (text : List ℕ) (end : ℕ) → 7 ≤ length text → end ≤ length (drop 7 text)
    → (end < length (drop 7 text) → get_or (drop 7 text) end 0 < 128) → IsUtf8 text → IsUtf8 (drop end (drop 7 text))
tail_at text end long fits low utf8 =
    let left = length-drop 7 text in
    let same : drop end (drop 7 text) ≡ drop (7 + end) text =
    drop-drop end 7 text ∙ ap (λ (n : ℕ). drop n text) (omega arith) in
    let boundary : IsCharBoundary text (7 + end) = elim (leb_tells (length (drop 7 text)) end) [
      | inl t ↦
          let high = t.1 in
          let all : length text ≡ 7 + end = omega arith in
          subst (λ (n : ℕ). IsCharBoundary text n) all (IsCharBoundary-end text)
      | inr f ↦
          let inside = f.1 in
          IsCharBoundary-before_ascii text (7 + end) (omega arith)
          (subst (λ (b : ℕ). b < 128) (get_or-drop 7 text end 0) (low inside))
    ]
    in
    subst IsUtf8 (sym same) (IsUtf8-drop text (7 + end) utf8 boundary)

tail_utf8 : (text : List ℕ) → IsUtf8 text → IsUtf8 (drop (authority_len (drop 7 text)) (drop 7 text))
tail_utf8 text utf8 = elim (leb_tells 7 (length text)) [
  | inl t ↦ tail_at text (authority_len (drop 7 text)) t.1
      (prefix_len-le-length (λ b. not (b == slash || b == question_mark)) (drop 7 text))
      (λ inside. stops_low (get_or (drop 7 text) (authority_len (drop 7 text)) 0)
      (prefix_len_stops (λ b. not (b == slash || b == question_mark)) (drop 7 text) 0 inside)) utf8
  | inr f ↦
      let short = f.1 in
      let left = length-drop 7 text in
      let none : drop 7 text ≡ [] = nil_from_length (drop 7 text) (omega arith) in
      subst (λ (l : List ℕ). IsUtf8 (drop (authority_len l) l)) (sym none) IsUtf8-nil
]

slash_ascii : IsAscii (slash ∷ [])
slash_ascii i = by_place i
  where
    by_place : (i : ℕ) → get_or (slash ∷ []) i 0 < 128
    by_place zero = omega arith
    by_place (suc i) = omega arith

rooted_utf8 : (tail : List ℕ) → IsUtf8 tail → IsUtf8 (rooted tail)
rooted_utf8 tail utf8 = by_test (slice_index tail 0 == slash)
  where
    by_test : (b : Bool) → IsUtf8 (if b then tail else slash ∷ tail)
    by_test true = utf8
    by_test false = IsUtf8-append (slash ∷ []) tail (IsUtf8-from_ascii (slash ∷ []) slash_ascii) utf8

-- ---- forms

path_form-is : (text path : List ℕ) → path_form text ≡ Some path → text ≡ path
unfolding path_form
path_form-is text path is = by_test (is_path text) is
  where
    by_test : (b : Bool) → (if b then Some text else None) ≡ Some path → text ≡ path
    by_test true is = let e = is in cc
    by_test false is = absurd (let e = is in cc)

located-path : (address : Option (List ℕ × ℕ)) (path : Option (List ℕ)) (a : List ℕ × ℕ × List ℕ) → located address path ≡ Some a
    → path ≡ Some a.2
unfolding located
located-path None path a is = absurd (let e = is in cc)
located-path (Some address) None a is = absurd (let e = is in cc)
located-path (Some address) (Some path) a is =
    let same : (address.0, address.1, path) ≡ a = (let e = is in cc) in ap (λ (t : List ℕ × ℕ × List ℕ). Some t.2) same

absolute-path : (text : List ℕ) (a : List ℕ × ℕ × List ℕ) → absolute_form text ≡ Some a → IsUtf8 text → IsUtf8 a.2
unfolding absolute_form
absolute-path text a is utf8 = by_test (has_http_scheme text) is
  where
    by_test : (b : Bool)
        → (if b then located (address_of (take (authority_len (drop 7 text)) (drop 7 text))) (path_form (rooted (drop (authority_len (drop 7 text)) (drop 7 text)))) else None) ≡ Some a
        → IsUtf8 a.2
    by_test true is =
        let found = located-path (address_of (take (authority_len (drop 7 text)) (drop 7 text)))
        (path_form (rooted (drop (authority_len (drop 7 text)) (drop 7 text)))) a is in
        subst IsUtf8 (path_form-is (rooted (drop (authority_len (drop 7 text)) (drop 7 text))) a.2 found)
        (rooted_utf8 (drop (authority_len (drop 7 text)) (drop 7 text)) (tail_utf8 text utf8))
    by_test false is = absurd (let e = is in cc)

star_ascii : IsAscii (codes "*")
star_ascii i = by_place i
  where
    by_place : (i : ℕ) → get_or (codes "*") i 0 < 128
    by_place zero = omega arith
    by_place (suc i) = omega arith

-- ---- targets

some_same : {A : Type 0} (a b : A) → Some a ≡ Some b → a ≡ b
some_same a b e = cc

pub authority_none : (address : Option (List ℕ × ℕ)) (path : List ℕ) → path_said (option_map (λ a. authority a.0 a.1) address) ≡ Some path → ⊥
authority_none None path is = let e = is in cc
authority_none (Some address) path is = let e = is in cc

origin_said : (found : Option (List ℕ)) (path : List ℕ) → path_said (option_map origin found) ≡ Some path → found ≡ Some path
origin_said None path is = absurd (let e = is in cc)
origin_said (Some p) path is = is

absolute_said : (found : Option (List ℕ × ℕ × List ℕ)) (path : List ℕ) → path_said (option_map (λ a. absolute a.0 a.1 a.2) found) ≡ Some path
    → (a : List ℕ × ℕ × List ℕ) × (found ≡ Some a) × (a.2 ≡ path)
absolute_said None path is = absurd (let e = is in cc)
absolute_said (Some a) path is = (a, refl, some_same a.2 path is)

pub target_path-text : (method target path : List ℕ) → path_said (target_form method target) ≡ Some path → IsUtf8 target → IsUtf8 path
unfolding target_form
target_path-text method target path is utf8 =
    by_tests (bytes_eq method (codes "CONNECT")) (bytes_eq target (codes "*")) (slice_index target 0 == slash) is
  where
    by_tests : (connects all rooted : Bool)
        → path_said (if connects then option_map (λ a. authority a.0 a.1) (authority_form target)
        else (if all then Some asterisk
        else (if rooted then option_map origin (path_form target)
        else option_map (λ a. absolute a.0 a.1 a.2) (absolute_form target)))) ≡ Some path
        → IsUtf8 path
    by_tests true all rooted is = absurd (authority_none (authority_form target) path is)
    by_tests false true rooted is = subst IsUtf8 (some_same (codes "*") path is) (IsUtf8-from_ascii (codes "*") star_ascii)
    by_tests false false true is = subst IsUtf8 (path_form-is target path (origin_said (path_form target) path is)) utf8
    by_tests false false false is =
        let found = absolute_said (absolute_form target) path is in
        subst IsUtf8 found.2 (absolute-path target found.0 found.1 utf8)
