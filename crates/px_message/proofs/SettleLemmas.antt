-- What settling makes of the framing fields, and what it leaves.
use Rattle.std.proofs.Common.{◌≡◌, ◌∙◌, ◌<◌, ◌^◌, ℕ, Bool, true, false, cond, not, ◌||◌, ◌&&◌, ◌==◌, Option, None, Some, Ok, Err, List, [], ◌∷◌, length, map, inl, inr, refl, sym, ap, subst, arith}
use Rattle.std.specs.Prelude.{Result, codes, decimal, if◌then◌else◌}
use Rattle.std.specs.List.{list_any, flat_map}
use Rattle.std.proofs.lemmas.Bool.{cases_Bool, cond-true, cond-false}
use Rattle.std.proofs.lemmas.Bool.Decides.{nat_tests}
use Rattle.px_text.specs.Number.{decimal_value}
use Rattle.px_message.specs.Fields.{elements, elements_of, has_element, is_named, is_same_name, parts, set_in, values_of, without}
use Rattle.px_message.specs.Length.{agree, agreed, by_stated, coded_length, content_length, ends_chunked, framed_length, has_no_body, is_chunked, is_framed_in_chunks, request_length, stands, stated_length, transfer_encoding}
use Rattle.px_message.specs.Settle.{Fits, IsWholeRequest, IsWholeResponse, measured, measured_request, measured_response, settled_by_codings, settled_request, settled_request_fields, settled_response, settled_response_fields, settled_trailers}
use Rattle.px_message.specs.declared.length.Length.{Length}
use Rattle.px_message.specs.declared.length.Length.TheVariants as lengths
use Rattle.px_message.specs.declared.fault.Fault.{Fault}
use Rattle.px_message.specs.declared.fault.Fault.TheVariants.{BothLengths, BadCoding}
use Rattle.px_message.specs.declared.request.Request.{Request}
use Rattle.px_message.specs.declared.response.Response.{Response}
use Rattle.px_message.proofs.FieldLaws.{values_of-set_in, values_of-set_in_other, values_of-without, values_of-without_other}
use Rattle.px_message.proofs.FoldLemmas.{has_items, has_items-values_of}
use Rattle.px_message.proofs.DecimalLemmas.{stated-decimal}

-- ---- fields that stand

-- what stands is told by the values
stands_by_values : (name : List ℕ) (a b : List (List ℕ × List ℕ)) → values_of name a ≡ values_of name b → stands name a ≡ stands name b
stands_by_values name a b same = sym (has_items-values_of name a) ∙ ap has_items same ∙ has_items-values_of name b

no_items : {A : Type 0} (items : List A) → has_items items ≡ false → items ≡ []
no_items [] none = refl
no_items (x ∷ xs) none = absurd (let e = none in cc)

no_values : (name : List ℕ) (fields : List (List ℕ × List ℕ)) → stands name fields ≡ false → values_of name fields ≡ []
no_values name fields none = no_items (values_of name fields) (has_items-values_of name fields ∙ none)

gone : (name : List ℕ) (fields : List (List ℕ × List ℕ)) → stands name (without name fields) ≡ false
gone name fields = sym (has_items-values_of name (without name fields)) ∙ ap has_items (values_of-without name fields)

set_stands : (name value : List ℕ) (fields : List (List ℕ × List ℕ)) → stands name (set_in name value fields) ≡ true
set_stands name value fields =
    sym (has_items-values_of name (set_in name value fields)) ∙ ap has_items (values_of-set_in name value fields)

-- what does not stand need not be taken away
without_none : (name : List ℕ) (fields : List (List ℕ × List ℕ)) → stands name fields ≡ false → without name fields ≡ fields
without_none name [] none = refl
without_none name (field ∷ fields) none = by_test (is_named name field) none (without_none name fields)
  where
    by_test : (b : Bool) → (b || stands name fields) ≡ false → (stands name fields ≡ false → without name fields ≡ fields) →
        cond (not b) (field ∷ without name fields) (without name fields) ≡ field ∷ fields
    by_test true none rest = absurd (let e = none in cc)
    by_test false none rest = ap (λ l. field ∷ l) (rest none)

-- ---- what is told by the values of one field

framed_by_values : (a b : List (List ℕ × List ℕ)) → values_of transfer_encoding a ≡ values_of transfer_encoding b →
    is_framed_in_chunks a ≡ is_framed_in_chunks b
framed_by_values a b same = ap (λ (values : List (List ℕ)). ends_chunked (flat_map elements values)) same

coded_by_values : (a b : List (List ℕ × List ℕ)) → values_of transfer_encoding a ≡ values_of transfer_encoding b →
    coded_length a ≡ coded_length b
coded_by_values a b same =
    ap (λ (values : List (List ℕ)). if list_any (λ e. is_same_name e (codes "chunked")) (flat_map elements values)
    then (if ends_chunked (flat_map elements values) then Ok lengths.Chunked else Err BadCoding) else Ok lengths.ToClose) same

-- without codings nothing is framed in chunks
pub unframed : (fields : List (List ℕ × List ℕ)) → stands transfer_encoding fields ≡ false → is_framed_in_chunks fields ≡ false
unframed fields none =
    ap (λ (values : List (List ℕ)). ends_chunked (flat_map elements values)) (no_values transfer_encoding fields none)

true_not_false : (b : Bool) → b ≡ true → b ≡ false → ⊥
true_not_false true so not_so = let e = not_so in cc
true_not_false false so not_so = let e = so in cc

framed_stands : (fields : List (List ℕ × List ℕ)) → is_framed_in_chunks fields ≡ true → stands transfer_encoding fields ≡ true
framed_stands fields framed = elim (cases_Bool (stands transfer_encoding fields)) [
  | inl at ↦ at
  | inr none ↦ absurd (true_not_false (is_framed_in_chunks fields) framed (unframed fields none))
]

chunked_among : (codings : List (List ℕ)) → list_any is_chunked codings ≡ false → ends_chunked codings ≡ false
chunked_among [] none = refl
chunked_among (coding ∷ []) none = by_test (is_chunked coding) none
  where
    by_test : (b : Bool) → (b || false) ≡ false → b ≡ false
    by_test true none = none
    by_test false none = refl
chunked_among (coding ∷ next ∷ codings) none = by_test (is_chunked coding) none (chunked_among (next ∷ codings))
  where
    by_test : (b : Bool) → (b || list_any is_chunked (next ∷ codings)) ≡ false →
        (list_any is_chunked (next ∷ codings) ≡ false → ends_chunked (next ∷ codings) ≡ false) →
        (not b && ends_chunked (next ∷ codings)) ≡ false
    by_test true none rest = refl
    by_test false none rest = rest none

-- codings that say how a response is framed, by the two tests of them
abbrev coded_shape : Bool → Bool → Result Length Fault
coded_shape has framed = if has then (if framed then Ok lengths.Chunked else Err BadCoding) else Ok lengths.ToClose

-- ---- the length of a message

abbrev request_shape : Bool → Bool → Bool → Option ℕ → Result Length Fault
request_shape coded measured framed stated =
    if coded then (if measured then Err BothLengths else (if framed then Ok lengths.Chunked else Err BadCoding))
    else (if measured then by_stated stated else Ok lengths.None)

-- a Content-Length that states a number stands
stated_stands : (n : ℕ) (fields : List (List ℕ × List ℕ)) → agree (stated_length fields) (Some n) ≡ true → stands content_length fields ≡ true
stated_stands n fields says = elim (cases_Bool (stands content_length fields)) [
  | inl at ↦ at
  | inr none ↦
      let nothing : stated_length fields ≡ None =
      ap (λ (values : List (List ℕ)). agreed (map decimal_value (flat_map parts values))) (no_values content_length fields none) in
      absurd (true_not_false (agree (stated_length fields) (Some n)) says (ap (λ s. agree s (Some n)) nothing))
]

agreed_number : (stated : Option ℕ) (n : ℕ) → agree stated (Some n) ≡ true → stated ≡ Some n
agreed_number None n says = absurd (let e = says in cc)
agreed_number (Some m) n says = ap Some (grind (arith, nat_tests))

-- fields that state the length, or are made to
measured_states : (n : ℕ) (fields : List (List ℕ × List ℕ)) → n < 2 ^ 64 →
    (stands content_length (measured n fields) ≡ true) × (stated_length (measured n fields) ≡ Some n)
measured_states n fields small = by_test (agree (stated_length fields) (Some n)) refl
  where
    by_test : (b : Bool) → agree (stated_length fields) (Some n) ≡ b →
        (stands content_length (cond b fields (set_in content_length (decimal n) fields)) ≡ true)
        × (stated_length (cond b fields (set_in content_length (decimal n) fields)) ≡ Some n)
    by_test true says = (stated_stands n fields says, agreed_number (stated_length fields) n says)
    by_test false says = (set_stands content_length (decimal n) fields, stated-decimal n fields small)

measured_codings : (n : ℕ) (fields : List (List ℕ × List ℕ)) →
    values_of transfer_encoding (measured n fields) ≡ values_of transfer_encoding fields
measured_codings n fields = by_test (agree (stated_length fields) (Some n))
  where
    by_test : (b : Bool) → values_of transfer_encoding (cond b fields (set_in content_length (decimal n) fields)) ≡ values_of transfer_encoding fields
    by_test true = refl
    by_test false = values_of-set_in_other transfer_encoding content_length (decimal n) fields refl

no_codings : (n : ℕ) (fields : List (List ℕ × List ℕ)) → stands transfer_encoding fields ≡ false →
    stands transfer_encoding (measured n fields) ≡ false
no_codings n fields none =
    stands_by_values transfer_encoding (measured n fields) fields (measured_codings n fields) ∙ none

-- ---- a settled request is whole

empty_list : (body : List ℕ) → length body ≡ 0 → body ≡ []
empty_list [] none = refl
empty_list (b ∷ body) none = absurd (omega arith)

measured_request_fits : (body : List ℕ) (fields : List (List ℕ × List ℕ)) → length body < 2 ^ 64 →
    stands transfer_encoding fields ≡ false →
    Fits (request_length (measured_request (length body) fields)) body []
measured_request_fits body fields small none =
    by_tests (stands content_length fields) (length body == 0) refl refl
  where
    states : Fits (request_length (measured (length body) fields)) body []
    states =
        let says = measured_states (length body) fields small in
        let made = measured (length body) fields in
        subst (λ (r : Result Length Fault). Fits r body [])
        (sym (λ i. request_shape (no_codings (length body) fields none i) (says.0 i) (is_framed_in_chunks made) (says.1 i)))
        (refl, refl)

    by_tests : (b z : Bool) → stands content_length fields ≡ b → (length body == 0) ≡ z →
        Fits (request_length (cond (b || not z) (measured (length body) fields) fields)) body []
    by_tests true z at zeros = states
    by_tests false false at zeros = states
    by_tests false true at zeros =
        subst (λ (r : Result Length Fault). Fits r body [])
        (sym (λ i. request_shape (none i) (at i) (is_framed_in_chunks fields) (stated_length fields)))
        (empty_list body (grind (arith, nat_tests)), refl)

pub settled_request-whole : (request : Request) → length request.body < 2 ^ 64 → IsWholeRequest (settled_request request)
settled_request-whole request small = by_test (is_framed_in_chunks request.fields) refl
  where
    by_test : (b : Bool) → is_framed_in_chunks request.fields ≡ b →
        Fits (request_length (cond b (without content_length request.fields)
        (measured_request (length request.body) (without transfer_encoding request.fields)))) request.body (cond b request.trailers [])
    by_test true framed =
        let codings = values_of-without_other transfer_encoding content_length request.fields refl in
        subst (λ (r : Result Length Fault). Fits r request.body request.trailers)
        (sym (λ i. request_shape
        ((stands_by_values transfer_encoding (without content_length request.fields) request.fields codings ∙ framed_stands request.fields framed) i)
        (gone content_length request.fields i)
        ((framed_by_values (without content_length request.fields) request.fields codings ∙ framed) i)
        (stated_length (without content_length request.fields))))
        tt
    by_test false other =
        measured_request_fits request.body (without transfer_encoding request.fields) small (gone transfer_encoding request.fields)

-- ---- a settled response is whole

abbrev framed_shape : Bool → Bool → Result Length Fault → Option ℕ → Result Length Fault
framed_shape coded measured by_codings stated =
    if coded then (if measured then Err BothLengths else by_codings)
    else (if measured then by_stated stated else Ok lengths.ToClose)

measured_response_fits : (body : List ℕ) (fields : List (List ℕ × List ℕ)) → length body < 2 ^ 64 →
    stands transfer_encoding fields ≡ false →
    Fits (framed_length (measured_response (length body) fields)) body []
measured_response_fits body fields small none = by_test (stands content_length fields) refl
  where
    by_test : (b : Bool) → stands content_length fields ≡ b →
        Fits (framed_length (cond b (measured (length body) fields) fields)) body []
    by_test true at =
        let says = measured_states (length body) fields small in
        let made = measured (length body) fields in
        subst (λ (r : Result Length Fault). Fits r body [])
        (sym (λ i. framed_shape (no_codings (length body) fields none i) (says.0 i) (coded_length made) (says.1 i)))
        (refl, refl)
    by_test false at =
        subst (λ (r : Result Length Fault). Fits r body [])
        (sym (λ i. framed_shape (none i) (at i) (coded_length fields) (stated_length fields)))
        refl

-- codings that are not refused frame in chunks, or run to the close and have no trailers
coded_fits : (body : List ℕ) (fields trailers : List (List ℕ × List ℕ)) (l : Length) → coded_length fields ≡ Ok l →
    Fits (Ok l) body (settled_trailers fields trailers)
coded_fits body fields trailers l is =
    by_tests (has_element transfer_encoding (codes "chunked") fields) (is_framed_in_chunks fields) refl
    (chunked_among (elements_of transfer_encoding fields)) l is
  where
    by_tests : (has framed : Bool) → is_framed_in_chunks fields ≡ framed →
        (has ≡ false → framed ≡ false) → (l : Length) → coded_shape has framed ≡ Ok l →
        Fits (Ok l) body (settled_trailers fields trailers)
    by_tests true true at none lengths.Chunked is = tt
    by_tests true true at none lengths.None is = absurd (let e = is in cc)
    by_tests true true at none (lengths.Bytes n) is = absurd (let e = is in cc)
    by_tests true true at none lengths.ToClose is = absurd (let e = is in cc)
    by_tests true false at none l is = absurd (let e = is in cc)
    by_tests false framed at none lengths.ToClose is = cond-false _ _ _ (at ∙ none refl)
    by_tests false framed at none lengths.Chunked is = absurd (let e = is in cc)
    by_tests false framed at none lengths.None is = absurd (let e = is in cc)
    by_tests false framed at none (lengths.Bytes n) is = absurd (let e = is in cc)

refused_unframed : (fields : List (List ℕ × List ℕ)) (fault : Fault) → coded_length fields ≡ Err fault → is_framed_in_chunks fields ≡ false
refused_unframed fields fault is = by_tests (has_element transfer_encoding (codes "chunked") fields) (is_framed_in_chunks fields) is
  where
    by_tests : (has framed : Bool) → coded_shape has framed ≡ Err fault → framed ≡ false
    by_tests true true is = absurd (let e = is in cc)
    by_tests true false is = refl
    by_tests false framed is = absurd (let e = is in cc)

chunked_frames : (fields : List (List ℕ × List ℕ)) → coded_length fields ≡ Ok lengths.Chunked → is_framed_in_chunks fields ≡ true
chunked_frames fields is = by_tests (has_element transfer_encoding (codes "chunked") fields) (is_framed_in_chunks fields) is
  where
    by_tests : (has framed : Bool) → coded_shape has framed ≡ Ok lengths.Chunked → framed ≡ true
    by_tests true true is = refl
    by_tests true false is = absurd (let e = is in cc)
    by_tests false framed is = absurd (let e = is in cc)

settled_by_codings-fits : (body : List ℕ) (fields trailers : List (List ℕ × List ℕ)) → length body < 2 ^ 64 →
    stands transfer_encoding fields ≡ true → (r : Result Length Fault) → coded_length fields ≡ r →
    Fits (framed_length (settled_by_codings r (length body) fields)) body (settled_trailers fields trailers)
settled_by_codings-fits body fields trailers small coded (Ok l) is =
    let codings = values_of-without_other transfer_encoding content_length fields refl in
    let made = without content_length fields in
    subst (λ (r : Result Length Fault). Fits r body (settled_trailers fields trailers))
    (sym (λ i. framed_shape ((stands_by_values transfer_encoding made fields codings ∙ coded) i) (gone content_length fields i)
    ((coded_by_values made fields codings ∙ is) i) (stated_length made)))
    (coded_fits body fields trailers l is)
settled_by_codings-fits body fields trailers small coded (Err fault) is =
    let no_trailers : settled_trailers fields trailers ≡ [] = cond-false _ _ _ (refused_unframed fields fault is) in
    subst (λ (t : List (List ℕ × List ℕ)). Fits (framed_length (measured_response (length body) (without transfer_encoding fields))) body t)
    (sym no_trailers)
    (measured_response_fits body (without transfer_encoding fields) small (gone transfer_encoding fields))

settled_response_fields-fits : (body : List ℕ) (fields trailers : List (List ℕ × List ℕ)) → length body < 2 ^ 64 →
    Fits (framed_length (settled_response_fields (length body) fields)) body (settled_trailers fields trailers)
settled_response_fields-fits body fields trailers small = by_test (stands transfer_encoding fields) refl
  where
    by_test : (b : Bool) → stands transfer_encoding fields ≡ b →
        Fits (framed_length (cond b (settled_by_codings (coded_length fields) (length body) fields) (measured_response (length body) fields)))
        body (settled_trailers fields trailers)
    by_test true coded = settled_by_codings-fits body fields trailers small coded (coded_length fields) refl
    by_test false none =
        let no_trailers : settled_trailers fields trailers ≡ [] = cond-false _ _ _ (unframed fields none) in
        subst (λ (t : List (List ℕ × List ℕ)). Fits (framed_length (measured_response (length body) fields)) body t)
        (sym no_trailers) (measured_response_fits body fields small none)

pub settled_response-whole : (asked_head : Bool) (response : Response) → length response.body < 2 ^ 64 →
    IsWholeResponse asked_head (settled_response asked_head response)
settled_response-whole asked_head response small = by_test (has_no_body response.status asked_head) refl
  where
    by_test : (b : Bool) → has_no_body response.status asked_head ≡ b →
        IsWholeResponse asked_head (cond b (record response { body = []; trailers = [] }) (record response {
          fields = settled_response_fields (length response.body) response.fields;
          trailers = settled_trailers response.fields response.trailers;
        }))
    by_test true none =
        subst (λ (r : Result Length Fault). Fits r [] [])
        (sym (λ i. cond (none i) (Ok lengths.None) (framed_length response.fields))) (refl, refl)
    by_test false may =
        let fields = settled_response_fields (length response.body) response.fields in
        subst (λ (r : Result Length Fault). Fits r response.body (settled_trailers response.fields response.trailers))
        (sym (λ i. cond (may i) (Ok lengths.None) (framed_length fields)))
        (settled_response_fields-fits response.body response.fields response.trailers small)

-- ---- a whole message stays as it is

none_measured : (n : ℕ) (fields : List (List ℕ × List ℕ)) → stated_length fields ≡ Some n → measured n fields ≡ fields
none_measured n fields says = cond-true _ _ _ (ap (λ s. agree s (Some n)) says ∙ nat_same n)
  where
    nat_same : (n : ℕ) → (n == n) ≡ true
    nat_same n = grind (arith, nat_tests)

-- a request's fields and trailers, by the length that its head gives
request_stays : (body : List ℕ) (fields trailers : List (List ℕ × List ℕ)) → Fits (request_length fields) body trailers →
    (settled_request_fields (length body) fields ≡ fields) × (settled_trailers fields trailers ≡ trailers)
request_stays body fields trailers whole =
    by_tests (stands transfer_encoding fields) (stands content_length fields) (is_framed_in_chunks fields) (stated_length fields)
    refl refl refl refl whole
  where
    uncoded : stands transfer_encoding fields ≡ false → trailers ≡ [] → measured_request (length body) fields ≡ fields →
        (settled_request_fields (length body) fields ≡ fields) × (settled_trailers fields trailers ≡ trailers)
    uncoded none no_trailers same = (
      cond-false _ _ _ (unframed fields none)
          ∙ ap (measured_request (length body)) (without_none transfer_encoding fields none) ∙ same,
      cond-false _ _ _ (unframed fields none) ∙ sym no_trailers,
    )

    by_tests : (coded measured framed : Bool) (stated : Option ℕ) → stands transfer_encoding fields ≡ coded →
        stands content_length fields ≡ measured → is_framed_in_chunks fields ≡ framed → stated_length fields ≡ stated →
        Fits (request_shape coded measured framed stated) body trailers →
        (settled_request_fields (length body) fields ≡ fields) × (settled_trailers fields trailers ≡ trailers)
    by_tests true true framed stated at measured frames says whole = absurd whole
    by_tests true false true stated at measured frames says whole = (
      cond-true _ _ _ frames ∙ without_none content_length fields measured,
      cond-true _ _ _ frames,
    )
    by_tests true false false stated at measured frames says whole = absurd whole
    by_tests false true framed None at measured frames says whole = absurd whole
    by_tests false true framed (Some n) at measured frames says whole =
        uncoded at whole.1 (
        cond-true _ _ _ (ap (λ b. b || not (length body == 0)) measured)
        ∙ none_measured (length body) fields (says ∙ ap Some (sym whole.0)))
    by_tests false false framed stated at measured frames says whole =
        let empty : length body ≡ 0 = ap length whole.0 in
        uncoded at whole.1 (cond-false _ _ _ (λ i. measured i || not (empty i == 0)))

pub whole_request-stays : (request : Request) → IsWholeRequest request → settled_request request ≡ request
whole_request-stays request whole =
    let same = request_stays request.body request.fields request.trailers whole in
    λ i. record request { fields = same.0 i; trailers = same.1 i }

-- a response's, where it can have a body
response_stays : (body : List ℕ) (fields trailers : List (List ℕ × List ℕ)) → Fits (framed_length fields) body trailers →
    (settled_response_fields (length body) fields ≡ fields) × (settled_trailers fields trailers ≡ trailers)
response_stays body fields trailers whole =
    by_tests (stands transfer_encoding fields) (stands content_length fields) (coded_length fields) (stated_length fields)
    refl refl refl refl whole
  where
    uncoded : stands transfer_encoding fields ≡ false → trailers ≡ [] → measured_response (length body) fields ≡ fields →
        (settled_response_fields (length body) fields ≡ fields) × (settled_trailers fields trailers ≡ trailers)
    uncoded none no_trailers same = (
      cond-false _ _ _ none ∙ same,
      cond-false _ _ _ (unframed fields none) ∙ sym no_trailers,
    )

    by_framed : (b : Bool) → trailers ≡ [] → cond b trailers [] ≡ trailers
    by_framed true none = refl
    by_framed false none = sym none

    kept : (l : Length) → coded_length fields ≡ Ok l → Fits (Ok l) body trailers → settled_trailers fields trailers ≡ trailers
    kept lengths.Chunked is whole = cond-true _ _ _ (chunked_frames fields is)
    kept lengths.ToClose is whole = by_framed (is_framed_in_chunks fields) whole
    kept lengths.None is whole = by_framed (is_framed_in_chunks fields) whole.1
    kept (lengths.Bytes n) is whole = by_framed (is_framed_in_chunks fields) whole.1

    by_tests : (coded measured : Bool) (codings : Result Length Fault) (stated : Option ℕ) → stands transfer_encoding fields ≡ coded →
        stands content_length fields ≡ measured → coded_length fields ≡ codings → stated_length fields ≡ stated →
        Fits (framed_shape coded measured codings stated) body trailers →
        (settled_response_fields (length body) fields ≡ fields) × (settled_trailers fields trailers ≡ trailers)
    by_tests true true codings stated at measured codes_are says whole = absurd whole
    by_tests true false (Err fault) stated at measured codes_are says whole = absurd whole
    by_tests true false (Ok l) stated at measured codes_are says whole = (
      cond-true _ _ _ at ∙ ap (λ r. settled_by_codings r (length body) fields) codes_are ∙ without_none content_length fields measured,
      kept l codes_are whole,
    )
    by_tests false true codings None at measured codes_are says whole = absurd whole
    by_tests false true codings (Some n) at measured codes_are says whole =
        uncoded at whole.1 (cond-true _ _ _ measured ∙ none_measured (length body) fields (says ∙ ap Some (sym whole.0)))
    by_tests false false codings stated at measured codes_are says whole =
        uncoded at whole (cond-false _ _ _ measured)

pub whole_response-stays : (asked_head : Bool) (response : Response) → IsWholeResponse asked_head response →
    settled_response asked_head response ≡ response
whole_response-stays asked_head response whole = by_test (has_no_body response.status asked_head) refl whole
  where
    by_test : (b : Bool) → has_no_body response.status asked_head ≡ b →
        Fits (cond b (Ok lengths.None) (framed_length response.fields)) response.body response.trailers →
        settled_response asked_head response ≡ response
    by_test true none whole = cond-true _ _ _ none ∙ (λ i. record response { body = sym whole.0 i; trailers = sym whole.1 i })
    by_test false may whole =
        let same = response_stays response.body response.fields response.trailers whole in
        cond-false _ _ _ may ∙ (λ i. record response { fields = same.0 i; trailers = same.1 i })

-- ---- settling twice

pub request-once : (request : Request) → length request.body < 2 ^ 64 →
    settled_request (settled_request request) ≡ settled_request request
request-once request small = whole_request-stays (settled_request request) (settled_request-whole request small)

pub response-once : (asked_head : Bool) (response : Response) → length response.body < 2 ^ 64 →
    settled_response asked_head (settled_response asked_head response) ≡ settled_response asked_head response
response-once asked_head response small =
    whole_response-stays asked_head (settled_response asked_head response) (settled_response-whole asked_head response small)
