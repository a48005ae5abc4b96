-- Requests one behind the other, over more bytes.
use Rattle.std.proofs.Common.{ℕ, zero, suc, ◌+◌, ◌≤◌, ◌≡◌, Bool, true, false, Some, List, [], ◌∷◌, ◌++◌, length, drop, refl, sym, ap, ◌∙◌, subst, arith, length-drop}
use Rattle.std.proofs.lemmas.List.{drop-append-le}
use Rattle.px_text.specs.Prefix.{IsPrefixOf}
use Rattle.px_read.specs.Heads.{asks_tunnel}
use Rattle.px_read.specs.Items.{Body, Item, missing, part, complete, bad_head, bad_body, request_item}
use Rattle.px_read.specs.Requests.{Requests, requests_on, requests_behind, requests_within}
use Rattle.px_read.specs.declared.head.RequestHead.{RequestHead}
use Rattle.px_read.proofs.ItemLemmas.{request_carries, request_used}
use Rattle.px_read.proofs.LawLemmas.{chunk_laws}

-- a whole one leaves fewer bytes
pub shorter : (bytes : List ℕ) (head : RequestHead) (body : Body) (trailers : List (List ℕ × List ℕ)) (used most : ℕ)
    → request_item bytes ≡ complete head body trailers used → length bytes ≤ suc most → length (drop used bytes) ≤ most
shorter bytes head body trailers used most is fits =
    let within = request_used chunk_laws bytes head body trailers used is in
    let left = length-drop used bytes in
    let some = within.0 in omega arith

-- ---- how many are looked for

empty_by : (most : ℕ) (bytes : List ℕ) (item : Item RequestHead) → request_item bytes ≡ item → length bytes ≤ 0
    → requests_behind item (requests_within most) bytes ≡ record { whole = []; used = 0; last = Some item }
empty_by most bytes missing is none = refl
empty_by most bytes (part head body) is none = refl
empty_by most bytes (bad_head fault) is none = refl
empty_by most bytes (bad_body fault head body) is none = refl
empty_by most bytes (complete head body trailers used) is none =
    let within = request_used chunk_laws bytes head body trailers used is in
    let some = within.0 in
    let fits = within.1 in absurd (omega arith)

empty_list : (most : ℕ) (bytes : List ℕ) → length bytes ≤ 0
    → requests_within most bytes ≡ record { whole = []; used = 0; last = Some (request_item bytes) }
empty_list zero bytes none = refl
empty_list (suc most) bytes none = empty_by most bytes (request_item bytes) refl none

enough_by : (m n : ℕ) (bytes : List ℕ) (item : Item RequestHead) → request_item bytes ≡ item → length bytes ≤ suc m → length bytes ≤ suc n
    → ((rest : List ℕ) → length rest ≤ m → length rest ≤ n → requests_within m rest ≡ requests_within n rest)
    → requests_behind item (requests_within m) bytes ≡ requests_behind item (requests_within n) bytes
enough_by m n bytes missing is fits also further = refl
enough_by m n bytes (part head body) is fits also further = refl
enough_by m n bytes (bad_head fault) is fits also further = refl
enough_by m n bytes (bad_body fault head body) is fits also further = refl
enough_by m n bytes (complete head body trailers used) is fits also further =
    ap (requests_on (asks_tunnel head) (complete head body trailers used) used)
    (further (drop used bytes) (shorter bytes head body trailers used m is fits) (shorter bytes head body trailers used n is also))

pub enough_requests : (m n : ℕ) (bytes : List ℕ) → length bytes ≤ m → length bytes ≤ n → requests_within m bytes ≡ requests_within n bytes
enough_requests zero n bytes fits also = sym (empty_list n bytes fits)
enough_requests (suc m) zero bytes fits also = empty_list (suc m) bytes also
enough_requests (suc m) (suc n) bytes fits also =
    enough_by m n bytes (request_item bytes) refl fits also (enough_requests m n)

-- ---- more bytes

begins_with : (tunnel : Bool) (item : Item RequestHead) (used : ℕ) (before after : Requests) → IsPrefixOf before.whole after.whole
    → IsPrefixOf (requests_on tunnel item used before).whole (requests_on tunnel item used after).whole
begins_with true item used before after grown = ([], refl)
begins_with false item used before after grown = (grown.0, ap (λ (l : List (Item RequestHead)). item ∷ l) grown.1)

grow_by : (most : ℕ) (bytes more : List ℕ) (item : Item RequestHead) → request_item bytes ≡ item → length (bytes ++ more) ≤ suc most
    → ((rest : List ℕ) → length (rest ++ more) ≤ most → IsPrefixOf (requests_within most rest).whole (requests_within most (rest ++ more)).whole)
    → IsPrefixOf (requests_behind item (requests_within most) bytes).whole (requests_within (suc most) (bytes ++ more)).whole
grow_by most bytes more missing is fits further = (_, refl)
grow_by most bytes more (part head body) is fits further = (_, refl)
grow_by most bytes more (bad_head fault) is fits further = (_, refl)
grow_by most bytes more (bad_body fault head body) is fits further = (_, refl)
grow_by most bytes more (complete head body trailers used) is fits further =
    let item : Item RequestHead = complete head body trailers used in
    let later : request_item (bytes ++ more) ≡ item = (request_carries chunk_laws bytes more).stays (rw is refl) ∙ is in
    let within = request_used chunk_laws bytes head body trailers used is in
    let same : drop used (bytes ++ more) ≡ drop used bytes ++ more = drop-append-le used bytes more within.1 in
    let less : length (drop used bytes ++ more) ≤ most =
    subst (λ (l : List ℕ). length l ≤ most) same (shorter (bytes ++ more) head body trailers used most later fits) in
    let behind : IsPrefixOf (requests_within most (drop used bytes)).whole (requests_within most (drop used (bytes ++ more))).whole =
    subst (λ (l : List ℕ). IsPrefixOf (requests_within most (drop used bytes)).whole (requests_within most l).whole) (sym same)
    (further (drop used bytes) less) in
    subst (λ (i : Item RequestHead). IsPrefixOf (requests_behind item (requests_within most) bytes).whole (requests_behind i (requests_within most) (bytes ++ more)).whole)
    (sym later) (begins_with (asks_tunnel head) item used (requests_within most (drop used bytes)) (requests_within most (drop used (bytes ++ more))) behind)

pub whole_grow : (most : ℕ) (bytes more : List ℕ) → length (bytes ++ more) ≤ most
    → IsPrefixOf (requests_within most bytes).whole (requests_within most (bytes ++ more)).whole
whole_grow zero bytes more fits = ([], refl)
whole_grow (suc most) bytes more fits =
    grow_by most bytes more (request_item bytes) refl fits (λ rest less. whole_grow most rest more less)

-- ---- the bytes that they use

on_within : (tunnel : Bool) (item : Item RequestHead) (used left size : ℕ) (further : Requests) → further.used ≤ left → used ≤ size
    → used + left ≡ size → (requests_on tunnel item used further).used ≤ size
on_within true item used left size further below fits is = fits
on_within false item used left size further below fits is = omega arith

within_by : (most : ℕ) (bytes : List ℕ) (item : Item RequestHead) → request_item bytes ≡ item
    → ((rest : List ℕ) → (requests_within most rest).used ≤ length rest) → (requests_behind item (requests_within most) bytes).used ≤ length bytes
within_by most bytes missing is further = omega arith
within_by most bytes (part head body) is further = omega arith
within_by most bytes (bad_head fault) is further = omega arith
within_by most bytes (bad_body fault head body) is further = omega arith
within_by most bytes (complete head body trailers used) is further =
    let within = request_used chunk_laws bytes head body trailers used is in
    let left = length-drop used bytes in
    on_within (asks_tunnel head) (complete head body trailers used) used (length (drop used bytes)) (length bytes)
    (requests_within most (drop used bytes)) (further (drop used bytes)) within.1 (let fits = within.1 in omega arith)

pub whole_within : (most : ℕ) (bytes : List ℕ) → (requests_within most bytes).used ≤ length bytes
whole_within zero bytes = omega arith
whole_within (suc most) bytes = within_by most bytes (request_item bytes) refl (whole_within most)
