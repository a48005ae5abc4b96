-- The path of the last attribute that gives one.
use Rattle.std.proofs.Common.{◌≡◌, ◌∙◌, ℕ, ◌+◌, ◌<◌, Bool, true, false, List, [], ◌∷◌, length, take, drop, map, filter, refl, sym, ap, arith, if◌then◌else◌}
use Rattle.std.specs.List.{position_or_len, slice_split}
use Rattle.std.proofs.lemmas.Bool.{cond-false, cond-true}
use Rattle.std.proofs.lemmas.List.Elements.{All-from_get_or}
use Rattle.std.proofs.lemmas.List.Splits.{slice_split_first, slice_split_none}
use Rattle.std.proofs.lemmas.List.Sums.{fails_before_first}
use Rattle.px_message.specs.Fields.{trim_blanks}
use Rattle.px_refresh.specs.Cookies.{attributes_in, gives_path, is_semicolon, last_or, paths_in}

-- the path of one attribute, or else this one
abbrev pub path_or : List ℕ → List ℕ → List ℕ
path_or attribute other = if gives_path attribute then drop 5 attribute else other

-- of one attribute and those behind it
one_more : (path attribute : List ℕ) (attributes : List (List ℕ)) →
    last_or path (map (drop 5) (filter gives_path (attribute ∷ attributes))) ≡ last_or (path_or attribute path) (map (drop 5) (filter gives_path attributes))
one_more path attribute attributes = by_test (gives_path attribute) refl
  where
    by_test : (t : Bool) → gives_path attribute ≡ t →
        last_or path (map (drop 5) (filter gives_path (attribute ∷ attributes))) ≡ last_or (path_or attribute path) (map (drop 5) (filter gives_path attributes))
    by_test true is =
        ap (λ l. last_or path (map (drop 5) l)) (cond-true (gives_path attribute) (attribute ∷ filter gives_path attributes) _ is)
        ∙ sym (ap (λ p. last_or p (map (drop 5) (filter gives_path attributes))) (cond-true (gives_path attribute) (drop 5 attribute) path is))
    by_test false is =
        ap (λ l. last_or path (map (drop 5) l)) (cond-false (gives_path attribute) (attribute ∷ filter gives_path attributes) _ is)
        ∙ sym (ap (λ p. last_or p (map (drop 5) (filter gives_path attributes))) (cond-false (gives_path attribute) (drop 5 attribute) path is))

-- a text that has a `;`
pub path_goes_on : (path text : List ℕ) (i : ℕ) → position_or_len is_semicolon text ≡ i → i < length text →
    last_or path (paths_in text) ≡ last_or (path_or (trim_blanks (take i text)) path) (paths_in (drop (i + 1) text))
path_goes_on path text i at within =
    ap (λ parts. last_or path (map (drop 5) (filter gives_path (map trim_blanks parts))))
    (slice_split_first is_semicolon text 0 (omega (arith, at, within))
    ∙ ap (λ n. take n text ∷ slice_split is_semicolon (drop (n + 1) text)) at)
    ∙ one_more path (trim_blanks (take i text)) (attributes_in (drop (i + 1) text))

-- a text that has none
pub path_ends : (path text : List ℕ) → position_or_len is_semicolon text ≡ length text → last_or path (paths_in text) ≡ path_or (trim_blanks text) path
path_ends path text none =
    ap (λ parts. last_or path (map (drop 5) (filter gives_path (map trim_blanks parts))))
    (slice_split_none is_semicolon text
    (All-from_get_or (λ b. is_semicolon b ≡ false) text 0 (λ k within. fails_before_first is_semicolon text k 0 (omega (arith, none, within)))))
    ∙ one_more path (trim_blanks text) []
