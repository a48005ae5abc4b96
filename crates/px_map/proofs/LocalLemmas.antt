-- Map local rules, one by one.
use Rattle.std.proofs.Common.{◌≡◌, ℕ, Bool, true, false, List, [], ◌∷◌, ◌++◌, Option, Some, None, refl, sym, ap, ◌∙◌, subst, append-nil}
use Rattle.std.proofs.lemmas.List.{append_assoc}
use Rattle.px_message.specs.declared.flow.Flow.{Flow}
use Rattle.px_message.specs.declared.response.Response.{Response}
use Rattle.px_outside.specs.declared.files.FileCall.{FileCall}
use Rattle.px_map.specs.Reads.{Begins, IsAnswer, Serves, nothing_yet, past_one, past_absent, at_file, at_failure, none_left, leads_up, is_absent, is_there, has_failed}
use Rattle.px_rule.specs.Rule.{Rule}
use Rattle.px_map.specs.Responses.{not_found}
use Rattle.px_map.specs.Served.{local_names, rule_names}
use Rattle.px_map.specs.Tried.{Tries, reads_absent}
use Rattle.px_map.specs.declared.local.Tried.TheVariants as tried

abbrev pub Meant : Type 0
Meant = List (Option (List ℕ))

-- of the files that are meant these are left, by the reads that were made: whatever they come to, all come to
pub record Going (all left : Meant) (made : List FileCall) (matched : Bool) : Type 0 where
  pub serves : (more : List FileCall) (response : Response) → Serves left more response → Serves all (made ++ more) response
  pub begins : (more : List FileCall) → Begins left more → Begins all (made ++ more)
  pub unmatched : matched ≡ false → (made ≡ []) × (all ≡ left)
  pub is_matched : matched ≡ true → (file : Option (List ℕ)) × (files : Meant) × (all ≡ file ∷ files)

pub going_start : (all : Meant) → Going all all [] false
going_start all = record {
  serves = λ more response h. h;
  begins = λ more h. h;
  unmatched = λ _. (refl, refl);
  is_matched = λ e. absurd (let no : false ≡ true = e in cc);
}

serves_absent : (file : Option (List ℕ)) (left : Meant) (more : List FileCall) (response : Response) → Serves left more response →
    Serves (file ∷ left) (reads_absent file ++ more) response
serves_absent None left more response h = leads_up left more response h
serves_absent (Some path) left more response h = is_absent path left more response h

begins_absent : (file : Option (List ℕ)) (left : Meant) (more : List FileCall) → Begins left more → Begins (file ∷ left) (reads_absent file ++ more)
begins_absent None left more h = past_one left more h
begins_absent (Some path) left more h = past_absent path left more h

some_meant : (all : Meant) (file : Option (List ℕ)) (left : Meant) (made : List FileCall) (matched : Bool) → Going all (file ∷ left) made matched →
    (first : Option (List ℕ)) × (files : Meant) × (all ≡ first ∷ files)
some_meant all file left made true going = going.is_matched refl
some_meant all file left made false going = (file, left, (going.unmatched refl).1)

pub going_absent : (all : Meant) (file : Option (List ℕ)) (left : Meant) (made : List FileCall) (matched : Bool) →
    Going all (file ∷ left) made matched → Going all left (made ++ reads_absent file) true
going_absent all file left made matched going = record {
  serves = λ more response h.
      subst (λ calls. Serves all calls response) (sym (append_assoc made (reads_absent file) more))
      (going.serves (reads_absent file ++ more) response (serves_absent file left more response h));
  begins = λ more h.
      subst (Begins all) (sym (append_assoc made (reads_absent file) more)) (going.begins (reads_absent file ++ more) (begins_absent file left more h));
  unmatched = λ e. absurd (let no : true ≡ false = e in cc);
  is_matched = λ _. some_meant all file left made matched going;
}

-- ---- rules that do not match

no_last : (xs ys : Meant) → xs ++ ys ≡ [] → ys ≡ []
no_last [] ys none = none
no_last (x ∷ xs) ys none = absurd cc

no_first : (xs ys : Meant) → xs ++ ys ≡ [] → xs ≡ []
no_first [] ys none = refl
no_first (x ∷ xs) ys none = absurd cc

-- where no rule matches, none of them does
pub matches_not : (before after : List Rule) (rule : Rule) (flow : Flow) → local_names (before ++ rule ∷ after) flow ≡ [] → rule_names rule flow ≡ []
matches_not [] after rule flow none = no_first (rule_names rule flow) (local_names after flow) none
matches_not (first ∷ before) after rule flow none =
    matches_not before after rule flow (no_last (rule_names first flow) (local_names (before ++ rule ∷ after) flow) none)

-- ---- answers

answer_of : (all : Meant) (made : List FileCall) (response : Response) → ((file : Option (List ℕ)) × (files : Meant) × (all ≡ file ∷ files)) →
    Serves all made response → IsAnswer all made (Some response)
answer_of [] made response (file, files, is) h = absurd cc
answer_of (first ∷ others) made response some h = (response, refl, h)

pub answers : (all : Meant) (file : Option (List ℕ)) (left : Meant) (made more : List FileCall) (matched : Bool) (response : Response) →
    Going all (file ∷ left) made matched → Serves (file ∷ left) more response → IsAnswer all (made ++ more) (Some response)
answers all file left made more matched response going h =
    answer_of all (made ++ more) response (some_meant all file left made matched going) (going.serves more response h)

pub answers_not_found : (all : Meant) (made : List FileCall) → Going all [] made true → IsAnswer all made (Some not_found)
answers_not_found all made going =
    answer_of all made not_found (going.is_matched refl)
    (subst (λ calls. Serves all calls not_found) (append-nil made) (going.serves [] not_found none_left))

pub answers_nothing : (all : Meant) (made : List FileCall) → Going all [] made false → IsAnswer all made None
answers_nothing all made going =
    let none = going.unmatched refl in
    subst (λ meant. IsAnswer meant made None) (sym none.1) (none.0, refl)

-- ---- reads that were begun

pub begins_nothing : (all left : Meant) (made : List FileCall) (matched : Bool) → Going all left made matched → Begins all made
begins_nothing all left made matched going = subst (Begins all) (append-nil made) (going.begins [] (nothing_yet left))

pub begins_more : (xs ys : Meant) (made : List FileCall) → Begins xs made → Begins (xs ++ ys) made
begins_more xs ys [] (nothing_yet files) = nothing_yet (xs ++ ys)
begins_more xs ys made (past_one files more h) = past_one (files ++ ys) more (begins_more files ys more h)
begins_more xs ys made (past_absent path files more h) = past_absent path (files ++ ys) more (begins_more files ys more h)
begins_more xs ys made (at_file path bytes files) = at_file path bytes (files ++ ys)
begins_more xs ys made (at_failure path files) = at_failure path (files ++ ys)

pub serves_begins : (files : Meant) (made : List FileCall) (response : Response) → Serves files made response → Begins files made
serves_begins files made response none_left = nothing_yet []
serves_begins files made response (leads_up others more r h) = past_one others more (serves_begins others more r h)
serves_begins files made response (is_absent path others more r h) = past_absent path others more (serves_begins others more r h)
serves_begins files made response (is_there path bytes others) = at_file path bytes others
serves_begins files made response (has_failed path others) = at_failure path others

pub answer_begins : (files : Meant) (made : List FileCall) (answer : Option Response) → IsAnswer files made answer → Begins files made
answer_begins [] made answer h = subst (Begins []) (sym h.0) (nothing_yet [])
answer_begins (file ∷ files) made answer (response, is, h) = serves_begins (file ∷ files) made response h

-- ---- a rule more: the files that were left are what it means, and the rest

pub step_passed : (all left names rest : Meant) (made new : List FileCall) (matched : Bool) → Going all left made matched → left ≡ names ++ rest →
    Tries names new tried.Passed → Going all rest (made ++ new) matched
step_passed all left names rest made new matched going is tries =
    let same_left : left ≡ rest = is ∙ ap (λ n. n ++ rest) tries.0 in
    let same_made : made ≡ made ++ new = sym (append-nil made) ∙ ap (λ n. made ++ n) (sym tries.1) in
    subst (λ calls. Going all rest calls matched) same_made (subst (λ l. Going all l made matched) same_left going)

pub step_absent : (all left names rest : Meant) (made new : List FileCall) (matched : Bool) → Going all left made matched → left ≡ names ++ rest →
    Tries names new tried.Absent → Going all rest (made ++ new) true
step_absent all left names rest made new matched going is (file, meant, calls) =
    let same_left : left ≡ file ∷ rest = is ∙ ap (λ n. n ++ rest) meant in
    subst (λ n. Going all rest (made ++ n) true) (sym calls) (going_absent all file rest made matched (subst (λ l. Going all l made matched) same_left going))

pub step_answered : (all left names rest : Meant) (made new : List FileCall) (matched : Bool) (response : Response) → Going all left made matched →
    left ≡ names ++ rest → Tries names new (tried.Answered response) → IsAnswer all (made ++ new) (Some response)
step_answered all left names rest made new matched response going is (path, meant, serves) =
    let same_left : left ≡ Some path ∷ rest = is ∙ ap (λ n. n ++ rest) meant in
    answers all (Some path) rest made new matched response (subst (λ l. Going all l made matched) same_left going) (serves rest)

pub step_stopped : (all left names rest : Meant) (made new : List FileCall) (matched : Bool) → Going all left made matched → left ≡ names ++ rest →
    Begins names new → Begins all (made ++ new)
step_stopped all left names rest made new matched going is begins =
    going.begins new (subst (λ l. Begins l new) (sym is) (begins_more names rest new begins))

pub ended_found_none : (all left : Meant) (made : List FileCall) (matched : Bool) (response : Response) → Going all left made matched → left ≡ [] →
    matched ≡ true → response ≡ not_found → IsAnswer all made (Some response)
ended_found_none all left made matched response going none was is =
    let at_end : Going all [] made true = subst (λ m. Going all [] made m) was (subst (λ l. Going all l made matched) none going) in
    subst (λ r. IsAnswer all made (Some r)) (sym is) (answers_not_found all made at_end)

pub ended_unmatched : (all left : Meant) (made : List FileCall) (matched : Bool) → Going all left made matched → left ≡ [] →
    matched ≡ false → IsAnswer all made None
ended_unmatched all left made matched going none was =
    let at_end : Going all [] made false = subst (λ m. Going all [] made m) was (subst (λ l. Going all l made matched) none going) in
    answers_nothing all made at_end
