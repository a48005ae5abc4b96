-- Where the requests of a stream end: behind a CONNECT or before a refused one, whatever follows.
use Rattle.std.proofs.Common.{ℕ, zero, suc, ◌+◌, ◌≤◌, ◌≡◌, ◌≢◌, Bool, true, false, List, [], ◌∷◌, ◌++◌, length, drop, refl, sym, ap, ◌∙◌, subst, arith, Some, None, length-append, drop-drop}
use Rattle.std.proofs.lemmas.List.{drop-append-le}
use Rattle.px_read.specs.Heads.{asks_tunnel}
use Rattle.px_read.specs.Items.{Body, Item, missing, part, complete, bad_head, bad_body, request_item}
use Rattle.px_read.specs.Requests.{Requests, is_connect, requests_on, requests_behind, requests_within, has_ended}
use Rattle.px_read.specs.declared.head.RequestHead.{RequestHead}
use Rattle.px_read.proofs.ItemLemmas.{request_carries, request_used}
use Rattle.px_read.proofs.LawLemmas.{chunk_laws}
use Rattle.px_read.proofs.RequestListLemmas.{shorter}

abbrev IsUnfinished : Item RequestHead → Type 0
IsUnfinished item = (head : RequestHead) (body : Body) (trailers : List (List ℕ × List ℕ)) (used : ℕ) → item ≢ complete head body trailers used

no_bytes : (bytes : List ℕ) → length bytes ≤ 0 → bytes ≡ []
no_bytes [] none = refl
no_bytes (b ∷ bytes) none = absurd (omega arith)

-- ---- what is left

abbrev Left : List ℕ → Requests → Item RequestHead → Type 0
Left bytes list item = (request_item (drop list.used bytes) ≡ item) × IsUnfinished item

none_left : (bytes : List ℕ) (found item : Item RequestHead) → request_item bytes ≡ found → IsUnfinished found
    → Some found ≡ Some item → (request_item (drop 0 bytes) ≡ item) × IsUnfinished item
none_left bytes found item is other same =
    let e : found ≡ item = (let s = same in cc) in (is ∙ e, subst IsUnfinished e other)

left_on : (tunnel : Bool) (bytes : List ℕ) (whole item : Item RequestHead) (used : ℕ) (further : Requests)
    → (further.last ≡ Some item → Left (drop used bytes) further item) → (requests_on tunnel whole used further).last ≡ Some item
    → Left bytes (requests_on tunnel whole used further) item
left_on true bytes whole item used further behind is = absurd (let e = is in cc)
left_on false bytes whole item used further behind is =
    let found = behind is in
    let same : drop (used + further.used) bytes ≡ drop further.used (drop used bytes) =
    ap (λ (n : ℕ). drop n bytes) (omega arith) ∙ sym (drop-drop further.used used bytes) in
    (ap (λ (l : List ℕ). request_item l) same ∙ found.0, found.1)

left_by : (most : ℕ) (bytes : List ℕ) (found item : Item RequestHead) → request_item bytes ≡ found → length bytes ≤ suc most
    → ((rest : List ℕ) → length rest ≤ most → (requests_within most rest).last ≡ Some item → Left rest (requests_within most rest) item)
    → (requests_behind found (requests_within most) bytes).last ≡ Some item
    → Left bytes (requests_behind found (requests_within most) bytes) item
left_by most bytes missing item is fits further last = none_left bytes missing item is (λ h b t u e. cc) last
left_by most bytes (part head body) item is fits further last = none_left bytes (part head body) item is (λ h b t u e. cc) last
left_by most bytes (bad_head fault) item is fits further last = none_left bytes (bad_head fault) item is (λ h b t u e. cc) last
left_by most bytes (bad_body fault head body) item is fits further last =
    none_left bytes (bad_body fault head body) item is (λ h b t u e. cc) last
left_by most bytes (complete head body trailers used) item is fits further last =
    left_on (asks_tunnel head) bytes (complete head body trailers used) item used (requests_within most (drop used bytes))
    (further (drop used bytes) (shorter bytes head body trailers used most is fits)) last

pub last_left : (most : ℕ) (bytes : List ℕ) (item : Item RequestHead) → length bytes ≤ most
    → (requests_within most bytes).last ≡ Some item → Left bytes (requests_within most bytes) item
last_left zero bytes item none last =
    let empty : request_item bytes ≡ missing = ap (λ (l : List ℕ). request_item l) (no_bytes bytes none) ∙ refl in
    none_left bytes missing item empty (λ h b t u e. cc) (sym (ap (λ (i : Item RequestHead). Some i) empty) ∙ last)
last_left (suc most) bytes item fits last =
    left_by most bytes (request_item bytes) item refl fits (λ rest less is. last_left most rest item less is) last

-- ---- a CONNECT is the last

nothing_in : (front behind : List (Item RequestHead)) (item : Item RequestHead) (B : Type 0) → [] ≡ front ++ item ∷ behind → B
nothing_in [] behind item B e = absurd (let f = e in cc)
nothing_in (x ∷ front) behind item B e = absurd (let f = e in cc)

connect_on : (tunnel : Bool) (whole : Item RequestHead) (used : ℕ) (further : Requests) → is_connect whole ≡ tunnel
    → (front behind : List (Item RequestHead)) (item : Item RequestHead)
    → ((ahead : List (Item RequestHead)) → further.whole ≡ ahead ++ item ∷ behind → (behind ≡ []) × (further.last ≡ None))
    → (requests_on tunnel whole used further).whole ≡ front ++ item ∷ behind → is_connect item ≡ true
    → (behind ≡ []) × ((requests_on tunnel whole used further).last ≡ None)
connect_on true whole used further is [] behind item later e connects =
    let none : [] ≡ behind = (let f = e in cc) in (sym none, refl)
connect_on true whole used further is (x ∷ front) behind item later e connects =
    nothing_in front behind item _ (let f = e in cc)
connect_on false whole used further is [] behind item later e connects =
    let same : whole ≡ item = (let f = e in cc) in
    absurd (let g : false ≡ true = sym is ∙ ap is_connect same ∙ connects in cc)
connect_on false whole used further is (x ∷ front) behind item later e connects =
    let rest : further.whole ≡ front ++ item ∷ behind = (let f = e in cc) in later front rest

connect_by : (most : ℕ) (bytes : List ℕ) (found : Item RequestHead) (front behind : List (Item RequestHead)) (item : Item RequestHead)
    → ((rest : List ℕ) (ahead : List (Item RequestHead)) → (requests_within most rest).whole ≡ ahead ++ item ∷ behind
    → (behind ≡ []) × ((requests_within most rest).last ≡ None))
    → (requests_behind found (requests_within most) bytes).whole ≡ front ++ item ∷ behind → is_connect item ≡ true
    → (behind ≡ []) × ((requests_behind found (requests_within most) bytes).last ≡ None)
connect_by most bytes missing front behind item further e connects = nothing_in front behind item _ e
connect_by most bytes (part head body) front behind item further e connects = nothing_in front behind item _ e
connect_by most bytes (bad_head fault) front behind item further e connects = nothing_in front behind item _ e
connect_by most bytes (bad_body fault head body) front behind item further e connects = nothing_in front behind item _ e
connect_by most bytes (complete head body trailers used) front behind item further e connects =
    connect_on (asks_tunnel head) (complete head body trailers used) used (requests_within most (drop used bytes)) refl
    front behind item (further (drop used bytes)) e connects

pub connect_last : (most : ℕ) (bytes : List ℕ) (front behind : List (Item RequestHead)) (item : Item RequestHead)
    → (requests_within most bytes).whole ≡ front ++ item ∷ behind → is_connect item ≡ true
    → (behind ≡ []) × ((requests_within most bytes).last ≡ None)
connect_last zero bytes front behind item e connects = nothing_in front behind item _ e
connect_last (suc most) bytes front behind item e connects =
    connect_by most bytes (request_item bytes) front behind item (λ rest ahead is. connect_last most rest ahead behind item is connects)
    e connects

-- ---- nothing stands behind it

abbrev EndsByConnect : Requests → Type 0
EndsByConnect list = (front : List (Item RequestHead)) × (item : Item RequestHead) × (list.whole ≡ front ++ item ∷ []) × (is_connect item ≡ true)

ends_on : (tunnel : Bool) (whole : Item RequestHead) (used : ℕ) (further : Requests) → is_connect whole ≡ tunnel
    → (further.last ≡ None → EndsByConnect further) → (requests_on tunnel whole used further).last ≡ None
    → EndsByConnect (requests_on tunnel whole used further)
ends_on true whole used further is later none = ([], whole, refl, is)
ends_on false whole used further is later none =
    let found = later none in
    (whole ∷ found.0, found.1, ap (λ (l : List (Item RequestHead)). whole ∷ l) found.2, found.3)

ends_by : (most : ℕ) (bytes : List ℕ) (found : Item RequestHead)
    → ((rest : List ℕ) → (requests_within most rest).last ≡ None → EndsByConnect (requests_within most rest))
    → (requests_behind found (requests_within most) bytes).last ≡ None
    → EndsByConnect (requests_behind found (requests_within most) bytes)
ends_by most bytes missing further none = absurd (let e = none in cc)
ends_by most bytes (part head body) further none = absurd (let e = none in cc)
ends_by most bytes (bad_head fault) further none = absurd (let e = none in cc)
ends_by most bytes (bad_body fault head body) further none = absurd (let e = none in cc)
ends_by most bytes (complete head body trailers used) further none =
    ends_on (asks_tunnel head) (complete head body trailers used) used (requests_within most (drop used bytes)) refl
    (further (drop used bytes)) none

pub list_ends : (most : ℕ) (bytes : List ℕ) → (requests_within most bytes).last ≡ None → EndsByConnect (requests_within most bytes)
list_ends zero bytes none = absurd (let e = none in cc)
list_ends (suc most) bytes none = ends_by most bytes (request_item bytes) (list_ends most) none

-- ---- an end stays

refused_stays : (most : ℕ) (bytes more : List ℕ) (item : Item RequestHead) → request_item (bytes ++ more) ≡ item
    → requests_behind item (requests_within most) (bytes ++ more) ≡ requests_behind item (requests_within most) bytes
    → requests_within (suc most) (bytes ++ more) ≡ requests_behind item (requests_within most) bytes
refused_stays most bytes more item is same =
    ap (λ (i : Item RequestHead). requests_behind i (requests_within most) (bytes ++ more)) is ∙ same

stays_on : (tunnel : Bool) (whole : Item RequestHead) (used : ℕ) (before after : Requests)
    → (has_ended before.last ≡ true → after ≡ before) → has_ended (requests_on tunnel whole used before).last ≡ true
    → requests_on tunnel whole used after ≡ requests_on tunnel whole used before
stays_on true whole used before after later ended = refl
stays_on false whole used before after later ended = ap (requests_on false whole used) (later ended)

stays_by : (most : ℕ) (bytes more : List ℕ) (item : Item RequestHead) → request_item bytes ≡ item → length (bytes ++ more) ≤ suc most
    → ((rest : List ℕ) → length (rest ++ more) ≤ most → has_ended (requests_within most rest).last ≡ true
    → requests_within most (rest ++ more) ≡ requests_within most rest)
    → has_ended (requests_behind item (requests_within most) bytes).last ≡ true
    → requests_within (suc most) (bytes ++ more) ≡ requests_behind item (requests_within most) bytes
stays_by most bytes more missing is fits further ended = absurd (let e = ended in cc)
stays_by most bytes more (part head body) is fits further ended = absurd (let e = ended in cc)
stays_by most bytes more (bad_head fault) is fits further ended =
    refused_stays most bytes more (bad_head fault) ((request_carries chunk_laws bytes more).stays (rw is refl) ∙ is) refl
stays_by most bytes more (bad_body fault head body) is fits further ended =
    refused_stays most bytes more (bad_body fault head body) ((request_carries chunk_laws bytes more).stays (rw is refl) ∙ is) refl
stays_by most bytes more (complete head body trailers used) is fits further ended =
    let item : Item RequestHead = complete head body trailers used in
    let later : request_item (bytes ++ more) ≡ item = (request_carries chunk_laws bytes more).stays (rw is refl) ∙ is in
    let within = request_used chunk_laws bytes head body trailers used is in
    let same : drop used (bytes ++ more) ≡ drop used bytes ++ more = drop-append-le used bytes more within.1 in
    let less : length (drop used bytes ++ more) ≤ most =
    subst (λ (l : List ℕ). length l ≤ most) same (shorter (bytes ++ more) head body trailers used most later fits) in
    refused_stays most bytes more item later
    (stays_on (asks_tunnel head) item used (requests_within most (drop used bytes)) (requests_within most (drop used (bytes ++ more)))
    (λ end. ap (λ (l : List ℕ). requests_within most l) same ∙ further (drop used bytes) less end) ended)

pub ended_stays : (most : ℕ) (bytes more : List ℕ) → length (bytes ++ more) ≤ most → has_ended (requests_within most bytes).last ≡ true
    → requests_within most (bytes ++ more) ≡ requests_within most bytes
ended_stays zero bytes more fits ended =
    let size = length-append bytes more in
    ap (λ (l : List ℕ). requests_within 0 l) (no_bytes (bytes ++ more) fits ∙ sym (no_bytes bytes (omega arith)))
ended_stays (suc most) bytes more fits ended =
    stays_by most bytes more (request_item bytes) refl fits (λ rest less end. ended_stays most rest more less end) ended
