-- Bytes that come in pieces.
use Rattle.std.proofs.Common.{◌≡◌, ◌∙◌, ℕ, zero, suc, ◌<◌, Bool, true, false, ◌&&◌, cond, List, [], ◌∷◌, ◌++◌, map, Option, Some, None, is_some, option_map, option_and_then, Result, Ok, Err, refl, sym, ap, subst, arith, append_assoc, append-nil}
use Rattle.std.specs.List.{concat}
use Rattle.std.proofs.lemmas.List.Folds.{list_all-append}
use Rattle.base64.specs.GeneralPurpose.{IsBytes}
use Rattle.px_message.specs.Value.{is_value, is_value_byte}
use Rattle.px_draft.specs.declared.edit.Edit.TheVariants as change
use Rattle.px_draft.specs.declared.edited.Edited.{Edited}
use Rattle.px_draft.specs.declared.error.EditError.{EditError}
use Rattle.px_draft.specs.declared.error.EditError.TheVariants as error
use Rattle.px_draft.specs.declared.given.Given.TheVariants as givens
use Rattle.px_draft.specs.declared.given.Placing.{Placing}
use Rattle.px_draft.specs.declared.given.Placing.TheVariants as placings
use Rattle.px_draft.specs.Edits.{changed, changed_by, field_by, flow_of, gives, judged, kept, more_by, with_given}
use Rattle.px_draft.specs.Laws.{AreBytes, PiecesMakeOne, field_line, more_line}
use Rattle.px_draft.specs.Subjects.{fields_in, has_body, is_whole, subject_of, with_body}
use Rattle.px_draft.specs.Words.{base64_text, bytes_of, checked_value, name_of, value_of}
use Rattle.px_draft.proofs.Base64Lemmas.{bytes_back}

-- ---- bytes

no_bytes : IsBytes []
no_bytes i = omega arith

one_more : (x : ℕ) (rest : List ℕ) → x < 256 → IsBytes rest → IsBytes (x ∷ rest)
one_more x rest first others zero = first
one_more x rest first others (suc i) = others i

bytes_append : (a b : List ℕ) → IsBytes a → IsBytes b → IsBytes (a ++ b)
bytes_append [] b first second = second
bytes_append (x ∷ a) b first second = one_more x (a ++ b) (first 0) (bytes_append a b (λ k. first (suc k)) second)

bytes_concat : (pieces : List (List ℕ)) → AreBytes pieces → IsBytes (concat pieces)
bytes_concat [] are = no_bytes
bytes_concat (piece ∷ pieces) are = bytes_append piece (concat pieces) are.0 (bytes_concat pieces are.1)

-- a front of a value is one
value_front : (a b : List ℕ) → is_value (a ++ b) ≡ true → is_value a ≡ true
value_front a b is = by_test (is_value a) (is_value b) refl (sym (list_all-append is_value_byte a b) ∙ is)
  where
    by_test : (x y : Bool) → is_value a ≡ x → x && y ≡ true → x ≡ true
    by_test true y at both = refl
    by_test false y at both = both

-- ---- more behind what is open

-- a line that adds to a field, by what its text is read as
field_on : (d : Edited) (placing : Placing) (name value more : List ℕ) (read : Option (List ℕ)) → read ≡ Some more → is_value (value ++ more) ≡ true
    → kept (with_given d (givens.Field placing name value)) (judged (option_map (with_given (with_given d (givens.Field placing name value))) (more_by (givens.Field placing name value) read)))
    ≡ with_given d (givens.Field placing name (value ++ more))
field_on d placing name value more read is valid =
    let now = with_given d (givens.Field placing name value) in
    ap (λ r. kept now (judged (option_map (with_given now) (more_by (givens.Field placing name value) r)))) is
    ∙ ap (λ b. kept now (judged (option_map (with_given now) (cond b (Some (givens.Field placing name (value ++ more))) None)))) valid

more_field : (pieces : List (List ℕ)) (d : Edited) (placing : Placing) (name value : List ℕ) → AreBytes pieces → is_value (value ++ concat pieces) ≡ true
    → changed_by (map more_line pieces) (with_given d (givens.Field placing name value)) ≡ with_given d (givens.Field placing name (value ++ concat pieces))
more_field [] d placing name value are valid = ap (λ v. with_given d (givens.Field placing name v)) (sym (append-nil value))
more_field (piece ∷ pieces) d placing name value are valid =
    let again : value ++ (piece ++ concat pieces) ≡ (value ++ piece) ++ concat pieces = sym (append_assoc value piece (concat pieces)) in
    let whole : is_value ((value ++ piece) ++ concat pieces) ≡ true = ap is_value (sym again) ∙ valid in
    ap (changed_by (map more_line pieces)) (field_on d placing name value piece (bytes_of (base64_text piece)) (bytes_back piece are.0) (value_front (value ++ piece) (concat pieces) whole))
    ∙ more_field pieces d placing name (value ++ piece) are.1 whole
    ∙ ap (λ v. with_given d (givens.Field placing name v)) (sym again)

body_on : (d : Edited) (body more : List ℕ) (read : Option (List ℕ)) → read ≡ Some more
    → judged (option_map (with_given (with_given d (givens.Body body))) (more_by (givens.Body body) read)) ≡ Ok (with_given d (givens.Body (body ++ more)))
body_on d body more read is = ap (λ r. judged (option_map (with_given (with_given d (givens.Body body))) (more_by (givens.Body body) r))) is

more_body : (pieces : List (List ℕ)) (d : Edited) (body : List ℕ) → AreBytes pieces
    → changed_by (map more_line pieces) (with_given d (givens.Body body)) ≡ with_given d (givens.Body (body ++ concat pieces))
more_body [] d body are = ap (λ b. with_given d (givens.Body b)) (sym (append-nil body))
more_body (piece ∷ pieces) d body are =
    ap (λ r. changed_by (map more_line pieces) (kept (with_given d (givens.Body body)) r)) (body_on d body piece (bytes_of (base64_text piece)) (bytes_back piece are.0))
    ∙ more_body pieces d (body ++ piece) are.1
    ∙ ap (λ b. with_given d (givens.Body b)) (append_assoc body piece (concat pieces))

-- ---- behind a field

-- the answer to a line that puts a field, by what its words are read as
abbrev field_answer : Edited → Placing → Bool → Option (List ℕ) → Option (List ℕ) → Result Edited EditError
field_answer draft placing there name value = cond there (judged (option_map (gives draft) (field_by placing name value))) (Err error.NotThere)

abbrev has_fields : Edited → Bool
has_fields draft = is_some (fields_in (subject_of draft.hook) draft.flow)

field_answered : (placing : Placing) (name value : List ℕ) (draft : Edited)
    → changed (field_line placing name value) draft ≡ field_answer draft placing (has_fields draft) (name_of name) (value_of (base64_text value))
field_answered placings.Set name value draft = refl
field_answered placings.Add name value draft = refl

value_read : (value : List ℕ) → IsBytes value → value_of (base64_text value) ≡ checked_value value
value_read value are = ap (λ r. option_and_then checked_value r) (bytes_back value are)

-- what was taken
record Took (draft : Edited) (placing : Placing) (there : Bool) (name value : Option (List ℕ)) (one : Edited) : Type 0 where
  is_there : there ≡ true
  name_is : List ℕ
  value_is : List ℕ
  has_name : name ≡ Some name_is
  has_value : value ≡ Some value_is
  made : one ≡ gives draft (givens.Field placing name_is value_is)

took : (draft : Edited) (placing : Placing) (there : Bool) (name value : Option (List ℕ)) (one : Edited) → field_answer draft placing there name value ≡ Ok one → Took draft placing there name value one
took draft placing false name value one is = cc
took draft placing true None value one is = cc
took draft placing true (Some name) None one is = cc
took draft placing true (Some name) (Some value) one is =
    record { is_there = refl; name_is = name; value_is = value; has_name = refl; has_value = refl; made = cc }

-- the value that is read is the one that was put
checked_is : (value found : List ℕ) (test : Bool) → cond test (Some value) None ≡ Some found → found ≡ value
checked_is value found true is = cc
checked_is value found false is = cc

field_pieces : (placing : Placing) (name first : List ℕ) (pieces : List (List ℕ)) (draft one : Edited) → IsBytes first → AreBytes pieces
    → is_value (first ++ concat pieces) ≡ true → changed (field_line placing name first) draft ≡ Ok one
    → changed (field_line placing name (first ++ concat pieces)) draft ≡ Ok (changed_by (map more_line pieces) one)
field_pieces placing name first pieces draft one first_bytes are valid is =
    let whole = first ++ concat pieces in
    let t = took draft placing (has_fields draft) (name_of name) (value_of (base64_text first)) one (sym (field_answered placing name first draft) ∙ is) in
    let put : t.value_is ≡ first = checked_is first t.value_is (is_value first) (sym (value_read first first_bytes) ∙ t.has_value) in
    let start : one ≡ with_given one (givens.Field placing t.name_is first) =
    t.made ∙ ap (λ v. gives draft (givens.Field placing t.name_is v)) put ∙ ap (λ d. with_given d (givens.Field placing t.name_is first)) (sym t.made) in
    let read : value_of (base64_text whole) ≡ Some whole =
    value_read whole (bytes_append first (concat pieces) first_bytes (bytes_concat pieces are)) ∙ ap (λ b. cond b (Some whole) None) valid in
    field_answered placing name whole draft
    ∙ ap (λ b. field_answer draft placing b (name_of name) (value_of (base64_text whole))) t.is_there
    ∙ ap (λ n. field_answer draft placing true n (value_of (base64_text whole))) t.has_name
    ∙ ap (λ v. field_answer draft placing true (Some t.name_is) v) read
    ∙ ap Ok (ap (λ d. with_given d (givens.Field placing t.name_is whole)) (sym t.made)
    ∙ sym (more_field pieces one placing t.name_is first are valid)
    ∙ ap (changed_by (map more_line pieces)) (sym start))

-- ---- behind a body

cleared : (draft one : Edited) (there : Bool) → cond there (Ok (gives draft (givens.Body []))) (Err error.NotThere) ≡ Ok one → one ≡ gives draft (givens.Body [])
cleared draft one true is = cc
cleared draft one false is = cc

is_cleared : (draft one : Edited) → changed change.ClearBody draft ≡ Ok one → one ≡ gives draft (givens.Body [])
is_cleared draft one is = cleared draft one (is_whole draft.hook && has_body (subject_of draft.hook) draft.flow) is

body_pieces : (pieces : List (List ℕ)) (draft one : Edited) → AreBytes pieces → changed change.ClearBody draft ≡ Ok one
    → changed (more_line (concat pieces)) one ≡ Ok (changed_by (map more_line pieces) one)
body_pieces pieces draft one are is =
    let P : Edited → Type 0 = λ d. changed (more_line (concat pieces)) d ≡ Ok (changed_by (map more_line pieces) d) in
    let cleared_draft = gives draft (givens.Body []) in
    subst P (sym (is_cleared draft one is))
    (body_on cleared_draft [] (concat pieces) (bytes_of (base64_text (concat pieces))) (bytes_back (concat pieces) (bytes_concat pieces are))
    ∙ ap Ok (sym (more_body pieces cleared_draft [] are)))

body_whole : (pieces : List (List ℕ)) (draft one : Edited) → AreBytes pieces → changed change.ClearBody draft ≡ Ok one
    → flow_of (changed_by (map more_line pieces) one) ≡ with_body (subject_of draft.hook) (concat pieces) (flow_of draft)
body_whole pieces draft one are is =
    let P : Edited → Type 0 = λ d. flow_of (changed_by (map more_line pieces) d) ≡ with_body (subject_of draft.hook) (concat pieces) (flow_of draft) in
    subst P (sym (is_cleared draft one is)) (ap flow_of (more_body pieces (gives draft (givens.Body [])) [] are))

pub pieces_make_one : PiecesMakeOne
pieces_make_one = record { field = field_pieces; body = body_pieces; whole = body_whole }
