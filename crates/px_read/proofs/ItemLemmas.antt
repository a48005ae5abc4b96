-- Items over more bytes: a head that stands stays, and what is decided is the same. What a whole one used is within.
use Rattle.std.proofs.Common.{ℕ, ◌+◌, ◌≤◌, ◌≡◌, Bool, true, false, List, [], ◌∷◌, ◌++◌, length, drop, refl, sym, ap, ◌∙◌, subst, arith, inl, inr, Some, None, Result, Ok, Err, length-drop}
use Rattle.std.specs.Prelude.{if◌then◌else◌}
use Rattle.std.proofs.lemmas.Bool.Decides.{leb_tells}
use Rattle.px_head.specs.Front.{request_front, response_front}
use Rattle.px_head.specs.declared.raw.RawHead.{RawHead}
use Rattle.px_head.specs.declared.front.Front.{Front}
use Rattle.px_head.specs.declared.front.Front.TheVariants as front
use Rattle.px_head.specs.declared.front.Kind.TheVariants as kind
use Rattle.px_head.proofs.FrontLemmas.{used-within}
use Rattle.px_message.specs.Length.{response_length}
use Rattle.px_message.specs.declared.length.Length.{Length}
use Rattle.px_message.specs.declared.length.Length.TheVariants as lengths
use Rattle.px_message.specs.declared.fault.Fault.{Fault}
use Rattle.px_read.specs.Heads.{code_of, request_body_length}
use Rattle.px_read.specs.Marks.{Mark, asks, answers, begins, byte, ends}
use Rattle.px_read.specs.Chunks.{Finish, goes_on, whole, fails, Reading}
use Rattle.px_read.specs.Readings.{behind_bytes, counted_reading, closing_reading, body_reading, request_body, request_behind, request_reading, response_finish, response_body, response_behind, response_reading}
use Rattle.px_read.specs.Items.{Item, Body, complete, body_of, item_behind, item_before, request_told, request_item, response_told, response_item}
use Rattle.px_read.specs.Laws.{head_in, is_decided}
use Rattle.px_read.specs.declared.head.RequestHead.{RequestHead}
use Rattle.px_read.specs.declared.head.ResponseHead.{ResponseHead}
use Rattle.px_read.proofs.GrowthLemmas.{ChunkLaws, has_ended, request_grows, response_grows}

-- ---- what more bytes make of an item

pub record Carries {H : Type 0} (before after : Item H) : Type 0 where
  pub head : (head : H) → head_in before ≡ Some head → head_in after ≡ Some head
  pub stays : is_decided before ≡ true → after ≡ before

pub head_behind : {H : Type 0} (head : H) (body : Body) (f : Finish) → head_in (item_behind head body f) ≡ Some head
head_behind head body goes_on = refl
head_behind head body (whole trailers used) = refl
head_behind head body (fails fault) = refl

head_before : {H : Type 0} (f : Finish) → head_in (item_before {H = H} f) ≡ None
head_before goes_on = refl
head_before (whole trailers used) = refl
head_before (fails fault) = refl

decided_behind : {H : Type 0} (head : H) (body : Body) (f : Finish) → is_decided (item_behind head body f) ≡ true → has_ended f ≡ true
decided_behind head body goes_on e = e
decided_behind head body (whole trailers used) e = refl
decided_behind head body (fails fault) e = refl

decided_before : (H : Type 0) (f : Finish) → is_decided (item_before {H = H} f) ≡ true → has_ended f ≡ true
decided_before H goes_on e = e
decided_before H (whole trailers used) e = refl
decided_before H (fails fault) e = refl

no_head : {H : Type 0} (f : Finish) (head : H) (B : Type 0) → head_in (item_before {H = H} f) ≡ Some head → B
no_head f head B e = absurd (let g = sym (head_before f) ∙ e in cc)

-- ---- requests

request_decided : (marks : List Mark) (f : Finish) → is_decided (request_told marks f) ≡ true → has_ended f ≡ true
request_decided [] f e = decided_before _ f e
request_decided (asks head ∷ marks) f e = decided_behind head (body_of marks) f e
request_decided (answers head ∷ marks) f e = decided_before _ f e
request_decided (begins size ∷ marks) f e = decided_before _ f e
request_decided (byte value ∷ marks) f e = decided_before _ f e
request_decided (ends ∷ marks) f e = decided_before _ f e

request_head_by : (marks more : List Mark) (f g : Finish) (head : RequestHead) → head_in (request_told marks f) ≡ Some head
    → head_in (request_told (marks ++ more) g) ≡ Some head
request_head_by [] more f g head e = no_head f head _ e
request_head_by (asks other ∷ marks) more f g head e =
    head_behind other (body_of (marks ++ more)) g ∙ sym (head_behind other (body_of marks) f) ∙ e
request_head_by (answers other ∷ marks) more f g head e = no_head f head _ e
request_head_by (begins size ∷ marks) more f g head e = no_head f head _ e
request_head_by (byte value ∷ marks) more f g head e = no_head f head _ e
request_head_by (ends ∷ marks) more f g head e = no_head f head _ e

pub request_carries : ChunkLaws → (bytes more : List ℕ) → Carries (request_item bytes) (request_item (bytes ++ more))
request_carries laws bytes more =
    let g = request_grows laws bytes more in
    let before = request_reading bytes in
    let after = request_reading (bytes ++ more) in
    record {
      head = λ head e. subst (λ (marks : List Mark). head_in (request_told marks after.finish) ≡ Some head) (sym g.marks.1)
          (request_head_by before.marks g.marks.0 before.finish after.finish head e);
      stays = λ e. ap (λ (r : Reading). request_told r.marks r.finish) (g.stays (request_decided before.marks before.finish e));
    }

-- ---- responses

response_decided : (marks : List Mark) (f : Finish) → is_decided (response_told marks f) ≡ true → has_ended f ≡ true
response_decided [] f e = decided_before _ f e
response_decided (asks head ∷ marks) f e = decided_before _ f e
response_decided (answers head ∷ marks) f e = decided_behind head (body_of marks) f e
response_decided (begins size ∷ marks) f e = decided_before _ f e
response_decided (byte value ∷ marks) f e = decided_before _ f e
response_decided (ends ∷ marks) f e = decided_before _ f e

response_head_by : (marks more : List Mark) (f g : Finish) (head : ResponseHead) → head_in (response_told marks f) ≡ Some head
    → head_in (response_told (marks ++ more) g) ≡ Some head
response_head_by [] more f g head e = no_head f head _ e
response_head_by (asks other ∷ marks) more f g head e = no_head f head _ e
response_head_by (answers other ∷ marks) more f g head e =
    head_behind other (body_of (marks ++ more)) g ∙ sym (head_behind other (body_of marks) f) ∙ e
response_head_by (begins size ∷ marks) more f g head e = no_head f head _ e
response_head_by (byte value ∷ marks) more f g head e = no_head f head _ e
response_head_by (ends ∷ marks) more f g head e = no_head f head _ e

pub response_carries : ChunkLaws → (asked_head closed : Bool) (bytes more : List ℕ)
    → Carries (response_item asked_head false bytes) (response_item asked_head closed (bytes ++ more))
response_carries laws asked_head closed bytes more =
    let g = response_grows laws asked_head closed bytes more in
    let before = response_reading asked_head false bytes in
    let after = response_reading asked_head closed (bytes ++ more) in
    record {
      head = λ head e. subst (λ (marks : List Mark). head_in (response_told marks after.finish) ≡ Some head) (sym g.marks.1)
          (response_head_by before.marks g.marks.0 before.finish after.finish head e);
      stays = λ e. ap (λ (r : Reading). response_told r.marks r.finish) (g.stays (response_decided before.marks before.finish e));
    }

-- ---- what a whole message used

-- a whole one used at most so many bytes
abbrev UsesAtMost : ℕ → Finish → Type 0
UsesAtMost n f = (trailers : List (List ℕ × List ℕ)) (used : ℕ) → f ≡ whole trailers used → used ≤ n

-- and at least one
abbrev UsesWithin : ℕ → Finish → Type 0
UsesWithin n f = (trailers : List (List ℕ × List ℕ)) (used : ℕ) → f ≡ whole trailers used → (1 ≤ used) × (used ≤ n)

not_whole : (trailers : List (List ℕ × List ℕ)) (used : ℕ) (B : Type 0) → goes_on ≡ whole trailers used → B
not_whole trailers used B e = absurd (let g = e in cc)

counted_within : (n : ℕ) (bytes : List ℕ) → UsesAtMost (length bytes) (counted_reading n bytes).finish
counted_within n bytes trailers used e = elim (leb_tells n (length bytes)) [
  | inl t ↦
      let at : whole [] n ≡ whole trailers used = subst (λ (test : Bool). (if test then whole [] n else goes_on) ≡ whole trailers used) t.0 e in
      let same : n ≡ used = cc in omega (arith, t.1, same)
  | inr f ↦ not_whole trailers used _ (subst (λ (test : Bool). (if test then whole [] n else goes_on) ≡ whole trailers used) f.0 e)
]

closing_within : (closed : Bool) (bytes : List ℕ) → UsesAtMost (length bytes) (closing_reading closed bytes).finish
closing_within true bytes trailers used e = let same : length bytes ≡ used = (let g = e in cc) in omega (arith, same)
closing_within false bytes trailers used e = not_whole trailers used _ e

body_within : ChunkLaws → (framing : Length) (closed : Bool) (bytes : List ℕ) → UsesAtMost (length bytes) (body_reading framing closed bytes).finish
body_within laws lengths.None closed bytes trailers used e = let same : 0 ≡ used = (let g = e in cc) in omega (arith, same)
body_within laws (lengths.Bytes n) closed bytes trailers used e = counted_within n bytes trailers used e
body_within laws lengths.Chunked closed bytes trailers used e = (laws.within bytes trailers used e).1
body_within laws lengths.ToClose closed bytes trailers used e = closing_within closed bytes trailers used e

behind_within : (before n : ℕ) (f : Finish) → 1 ≤ before → UsesAtMost n f → UsesWithin (before + n) (behind_bytes before f)
behind_within before n goes_on some most trailers used e = not_whole trailers used _ e
behind_within before n (whole own count) some most trailers used e =
    let same : before + count ≡ used = (let g = e in cc) in
    let fits = most own count refl in (omega (arith, same), omega (arith, same, fits))
behind_within before n (fails fault) some most trailers used e = absurd (let g = e in cc)

request_body_within : ChunkLaws → (framing : Result Length Fault) (bytes : List ℕ) → UsesAtMost (length bytes) (request_body framing bytes).finish
request_body_within laws (Err fault) bytes trailers used e = absurd (let g = e in cc)
request_body_within laws (Ok framing) bytes trailers used e = body_within laws framing false bytes trailers used e

request_within_by : ChunkLaws → (bytes : List ℕ) (f : Front) → request_front bytes ≡ f
    → UsesWithin (length bytes) (request_behind f bytes).finish
request_within_by laws bytes front.Nothing at trailers used e = not_whole trailers used _ e
request_within_by laws bytes front.TooLong at trailers used e = absurd (let g = e in cc)
request_within_by laws bytes front.BadHead at trailers used e = absurd (let g = e in cc)
request_within_by laws bytes (front.Stands raw taken) at trailers used e =
    let within = used-within kind.Request bytes raw taken at in
    let body = request_body_within laws (request_body_length raw.first raw.pairs) (drop taken bytes) in
    let all = behind_within taken (length (drop taken bytes)) _ within.0 body trailers used e in
    let left = length-drop taken bytes in
    let fits = within.1 in (all.0, omega (arith, all.1, left, fits))

pub request_within : ChunkLaws → (bytes : List ℕ) → UsesWithin (length bytes) (request_reading bytes).finish
request_within laws bytes = request_within_by laws bytes (request_front bytes) refl

response_body_within : ChunkLaws → (raw : RawHead) (taken : ℕ) (framing : Result Length Fault) (closed : Bool) (bytes : List ℕ)
    → 1 ≤ taken → UsesWithin (taken + length bytes) (response_body raw taken framing closed bytes).finish
response_body_within laws raw taken (Err fault) closed bytes some trailers used e = absurd (let g = e in cc)
response_body_within laws raw taken (Ok framing) closed bytes some trailers used e =
    behind_within taken (length bytes) _ some (body_within laws framing closed bytes) trailers used e

response_within_by : ChunkLaws → (asked_head closed : Bool) (bytes : List ℕ) (f : Front) → response_front bytes ≡ f
    → UsesWithin (length bytes) (response_behind f asked_head closed bytes).finish
response_within_by laws asked_head closed bytes front.Nothing at trailers used e = not_whole trailers used _ e
response_within_by laws asked_head closed bytes front.TooLong at trailers used e = absurd (let g = e in cc)
response_within_by laws asked_head closed bytes front.BadHead at trailers used e = absurd (let g = e in cc)
response_within_by laws asked_head closed bytes (front.Stands raw taken) at trailers used e =
    let within = used-within kind.Response bytes raw taken at in
    let all =
    response_body_within laws raw taken (response_length (code_of raw) asked_head raw.pairs) closed (drop taken bytes) within.0 trailers used e in
    let left = length-drop taken bytes in
    let fits = within.1 in (all.0, omega (arith, all.1, left, fits))

finish_within : (n : ℕ) (closed : Bool) (f : Finish) → UsesWithin n f → UsesWithin n (response_finish closed f)
finish_within n true goes_on within trailers used e = absurd (let g = e in cc)
finish_within n false goes_on within trailers used e = not_whole trailers used _ e
finish_within n closed (whole own count) within trailers used e = within trailers used e
finish_within n closed (fails fault) within trailers used e = absurd (let g = e in cc)

pub response_within : ChunkLaws → (asked_head closed : Bool) (bytes : List ℕ)
    → UsesWithin (length bytes) (response_reading asked_head closed bytes).finish
response_within laws asked_head closed bytes =
    finish_within (length bytes) closed _ (response_within_by laws asked_head closed bytes (response_front bytes) refl)

-- ---- a complete item is a whole message

complete_behind : {H : Type 0} (own : H) (content : Body) (f : Finish) (head : H) (body : Body) (trailers : List (List ℕ × List ℕ))
    (used : ℕ) → item_behind own content f ≡ complete head body trailers used → f ≡ whole trailers used
complete_behind own content goes_on head body trailers used e = absurd (let g = e in cc)
complete_behind own content (whole fields count) head body trailers used e = let g = e in cc
complete_behind own content (fails fault) head body trailers used e = absurd (let g = e in cc)

not_complete : {H : Type 0} (f : Finish) (head : H) (body : Body) (trailers : List (List ℕ × List ℕ)) (used : ℕ) (B : Type 0)
    → item_before f ≡ complete head body trailers used → B
not_complete goes_on head body trailers used B e = absurd (let g = e in cc)
not_complete (whole fields count) head body trailers used B e = absurd (let g = e in cc)
not_complete (fails fault) head body trailers used B e = absurd (let g = e in cc)

pub request_complete : (marks : List Mark) (f : Finish) (head : RequestHead) (body : Body) (trailers : List (List ℕ × List ℕ)) (used : ℕ)
    → request_told marks f ≡ complete head body trailers used → f ≡ whole trailers used
request_complete [] f head body trailers used e = not_complete f head body trailers used _ e
request_complete (asks own ∷ marks) f head body trailers used e = complete_behind own (body_of marks) f head body trailers used e
request_complete (answers own ∷ marks) f head body trailers used e = not_complete f head body trailers used _ e
request_complete (begins size ∷ marks) f head body trailers used e = not_complete f head body trailers used _ e
request_complete (byte value ∷ marks) f head body trailers used e = not_complete f head body trailers used _ e
request_complete (ends ∷ marks) f head body trailers used e = not_complete f head body trailers used _ e

pub response_complete : (marks : List Mark) (f : Finish) (head : ResponseHead) (body : Body) (trailers : List (List ℕ × List ℕ)) (used : ℕ)
    → response_told marks f ≡ complete head body trailers used → f ≡ whole trailers used
response_complete [] f head body trailers used e = not_complete f head body trailers used _ e
response_complete (asks own ∷ marks) f head body trailers used e = not_complete f head body trailers used _ e
response_complete (answers own ∷ marks) f head body trailers used e = complete_behind own (body_of marks) f head body trailers used e
response_complete (begins size ∷ marks) f head body trailers used e = not_complete f head body trailers used _ e
response_complete (byte value ∷ marks) f head body trailers used e = not_complete f head body trailers used _ e
response_complete (ends ∷ marks) f head body trailers used e = not_complete f head body trailers used _ e

pub request_used : ChunkLaws → (bytes : List ℕ) (head : RequestHead) (body : Body) (trailers : List (List ℕ × List ℕ)) (used : ℕ)
    → request_item bytes ≡ complete head body trailers used → (1 ≤ used) × (used ≤ length bytes)
request_used laws bytes head body trailers used e =
    request_within laws bytes trailers used (request_complete _ _ head body trailers used e)

pub response_used : ChunkLaws → (asked_head closed : Bool) (bytes : List ℕ) (head : ResponseHead) (body : Body)
    (trailers : List (List ℕ × List ℕ)) (used : ℕ) → response_item asked_head closed bytes ≡ complete head body trailers used
    → (1 ≤ used) × (used ≤ length bytes)
response_used laws asked_head closed bytes head body trailers used e =
    response_within laws asked_head closed bytes trailers used (response_complete _ _ head body trailers used e)
