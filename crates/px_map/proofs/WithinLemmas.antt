-- No read leaves a rule's directory.
use Rattle.std.proofs.Common.{◌≡◌, ◌≢◌, ℕ, Bool, true, false, ◌==◌, if◌then◌else◌, List, [], ◌∷◌, ◌++◌, map, slice_index, codes, Option, Some, None, inl, inr, refl, sym, ◌∙◌, arith, eq-eqb}
use Rattle.px_message.specs.declared.flow.Flow.{Flow}
use Rattle.px_outside.specs.declared.files.FileCall.{FileCall}
use Rattle.px_rule.specs.Rule.{Rule, applies}
use Rattle.px_map.specs.Found.{after_match}
use Rattle.px_map.specs.Reads.{Begins, nothing_yet, past_one, past_absent, at_file, at_failure}
use Rattle.px_map.specs.Served.{below, climbs, ends_with_slash, file_below, file_of, indexed, is_kept, is_open, kept, local_names, named_by, rule_names, unrooted, without_query}
use Rattle.px_map.specs.Url.{url_of}
use Rattle.px_map.specs.Within.{IsOf, IsOfRule, IsWithin, ReadsOnly}

-- ---- the name below a directory begins with no slash

kept_slash : (b : ℕ) → b ≢ 47 → kept b ≢ 47
kept_slash b other = by_test (is_kept b)
  where
    by_test : (t : Bool) → (if t then b else 95) ≢ 47
    by_test true = other
    by_test false = λ e. absurd (omega (arith, e))

unrooted_begins : (text : List ℕ) → slice_index (map kept (unrooted text)) 0 ≢ 47
unrooted_begins [] = λ e. absurd (omega (arith, e))
unrooted_begins (b ∷ text) = by_test (b == 47) refl (unrooted_begins text)
  where
    by_test : (t : Bool) → (b == 47) ≡ t → slice_index (map kept (unrooted text)) 0 ≢ 47 →
        slice_index (map kept (if t then unrooted text else b ∷ text)) 0 ≢ 47
    by_test true is rest = rest
    by_test false other rest =
        let apart : b ≢ 47 = λ e. (let yes : (b == 47) ≡ true = eq-eqb b 47 e in let no : true ≡ false = sym yes ∙ other in cc) in
        kept_slash b apart

indexed_begins : (text : List ℕ) → slice_index text 0 ≢ 47 → slice_index (indexed text) 0 ≢ 47
indexed_begins [] other = λ e. absurd (omega (arith, e))
indexed_begins (b ∷ text) other = by_test (is_open (b ∷ text))
  where
    by_test : (t : Bool) → slice_index (if t then (b ∷ text) ++ codes "index.html" else b ∷ text) 0 ≢ 47
    by_test true = other
    by_test false = other

below_begins : (tail : List ℕ) → slice_index (below tail) 0 ≢ 47
below_begins tail = indexed_begins (map kept (unrooted (without_query tail))) (unrooted_begins (without_query tail))

-- ---- what a rule means

within : (directory name path : List ℕ) → slice_index name 0 ≢ 47 → file_below directory name ≡ Some path → IsWithin directory path
within directory name path begins e = by_test (climbs name) refl e
  where
    by_test : (t : Bool) → climbs name ≡ t → (if t then None else Some (directory ++ name)) ≡ Some path → IsWithin directory path
    by_test true is same = absurd cc
    by_test false is same =
        let at : directory ++ name ≡ path = cc in
        (name, sym at, is, begins)

of_rule : (own tail path : List ℕ) → file_of own tail ≡ Some path → IsOf (ends_with_slash own) own path
of_rule own tail path e = by_test (ends_with_slash own) e
  where
    by_test : (t : Bool) → (if t then file_below own (below tail) else Some own) ≡ Some path → IsOf t own path
    by_test true same = within own (below tail) path (below_begins tail) same
    by_test false same = let at : own ≡ path = cc in sym at

abbrev Meant : Type 0
Meant = List (Option (List ℕ))

-- each file that is meant is one of which this holds
abbrev AllMeant : (List ℕ → Type 0) → Meant → Type 0
AllMeant Holds [] = Unit {0}
AllMeant Holds (None ∷ files) = AllMeant Holds files
AllMeant Holds (Some path ∷ files) = Holds path × AllMeant Holds files

meant_both : (Holds : List ℕ → Type 0) (xs ys : Meant) → AllMeant Holds xs → AllMeant Holds ys → AllMeant Holds (xs ++ ys)
meant_both Holds [] ys first second = second
meant_both Holds (None ∷ xs) ys first second = meant_both Holds xs ys first second
meant_both Holds (Some path ∷ xs) ys first second = (first.0, meant_both Holds xs ys first.1 second)

meant_more : (P Q : List ℕ → Type 0) → ((path : List ℕ) → P path → Q path) → (files : Meant) → AllMeant P files → AllMeant Q files
meant_more P Q more [] h = tt
meant_more P Q more (None ∷ files) h = meant_more P Q more files h
meant_more P Q more (Some path ∷ files) h = (more path h.0, meant_more P Q more files h.1)

meant_by : (rule : Rule) (rules : List Rule) (tail : Option (List ℕ)) → AllMeant (IsOfRule (rule ∷ rules)) (named_by rule tail)
meant_by rule rules None = tt
meant_by rule rules (Some tail) = by_file (file_of rule.replacement tail) refl
  where
    by_file : (file : Option (List ℕ)) → file_of rule.replacement tail ≡ file → AllMeant (IsOfRule (rule ∷ rules)) (file ∷ [])
    by_file None is = tt
    by_file (Some path) is = (inl (of_rule rule.replacement tail path is), tt)

all_meant : (rules : List Rule) (flow : Flow) → AllMeant (IsOfRule rules) (local_names rules flow)
all_meant [] flow = tt
all_meant (rule ∷ rules) flow =
    meant_both (IsOfRule (rule ∷ rules)) (rule_names rule flow) (local_names rules flow)
    (by_test (applies rule.filter flow))
    (meant_more (IsOfRule rules) (IsOfRule (rule ∷ rules)) (λ path h. inr h) (local_names rules flow) (all_meant rules flow))
  where
    by_test : (t : Bool) → AllMeant (IsOfRule (rule ∷ rules)) (if t then named_by rule (after_match rule.subject (url_of flow.request)) else [])
    by_test true = meant_by rule rules (after_match rule.subject (url_of flow.request))
    by_test false = tt

-- ---- reads

reads : (Holds : List ℕ → Type 0) (files : Meant) (made : List FileCall) → AllMeant Holds files → Begins files made → ReadsOnly Holds made
reads Holds files made all (nothing_yet others) = tt
reads Holds files made all (past_one others more h) = reads Holds others more all h
reads Holds files made all (past_absent path others more h) = (all.0, reads Holds others more all.1 h)
reads Holds files made all (at_file path bytes others) = (all.0, tt)
reads Holds files made all (at_failure path others) = (all.0, tt)

pub reads_stay_within : (rules : List Rule) (flow : Flow) (made : List FileCall) → Begins (local_names rules flow) made → ReadsOnly (IsOfRule rules) made
reads_stay_within rules flow made h = reads (IsOfRule rules) (local_names rules flow) made (all_meant rules flow) h
