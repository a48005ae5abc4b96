-- The requests of the client's stream, the first and those behind it.
use Rattle.std.proofs.Common.{◌≡◌, ℕ, suc, Bool, true, false, Some, None, Option, List, [], ◌∷◌, ◌++◌, length, drop, refl, ap, sym, ◌∙◌, arith, length-drop}
use Rattle.std.specs.Prelude.{bytes_eq, option_to_list, take}
use Rattle.px_message.specs.declared.fault.Fault.TheVariants.{BadTarget}
use Rattle.px_message.specs.Target.{target_form}
use Rattle.px_message.specs.declared.address.Address.{Address}
use Rattle.px_message.specs.declared.request.Request.{Request}
use Rattle.px_event.specs.declared.command.Command.{Command}
use Rattle.px_event.specs.declared.event.Event.{Event}
use Rattle.px_event.specs.Chain.{Timed}
use Rattle.px_read.specs.Heads.{asks_tunnel, connect_method}
use Rattle.px_read.specs.Items.{Body, Item, missing, part, complete, bad_head, bad_body, request_item}
use Rattle.px_read.specs.Laws.{head_in}
use Rattle.px_read.specs.Requests.{Requests, behind_whole, request_list, requests_behind, requests_on, requests_within}
use Rattle.px_read.specs.declared.head.RequestHead.{RequestHead}
use Rattle.px_read.proofs.RequestListLemmas.{enough_requests}
use Rattle.px_exchange.specs.declared.asked.Judged.TheVariants.{Refused, Accepted, Connects}
use Rattle.px_exchange.specs.declared.terms.Terms.{Terms}
use Rattle.px_exchange.specs.declared.place.Place.{Place}
use Rattle.px_exchange.specs.Requests.{expects, judged, judged_method, judged_tunnel, tunnel_at}
use Rattle.px_exchange.specs.Texts.{meets_expectation}
use Rattle.px_said.specs.ClosedForm.{Point, request_items, said_asked, said_from, said_whole}

-- ---- what stands at the front of the list

abbrev pub items_of : Requests → List (Item RequestHead)
items_of requests = requests.whole ++ option_to_list requests.last

first_on : (tunnel : Bool) (item : Item RequestHead) (used : ℕ) (further : Requests) →
    (rest : List (Item RequestHead)) × (items_of (requests_on tunnel item used further) ≡ item ∷ rest)
first_on true item used further = ([], refl)
first_on false item used further = (items_of further, refl)

first_by : (item : Item RequestHead) (further : List ℕ → Requests) (bytes : List ℕ) →
    (rest : List (Item RequestHead)) × (items_of (requests_behind item further bytes) ≡ item ∷ rest)
first_by missing further bytes = ([], refl)
first_by (part head body) further bytes = ([], refl)
first_by (complete head body trailers used) further bytes =
    first_on (asks_tunnel head) (complete head body trailers used) used (further (drop used bytes))
first_by (bad_head fault) further bytes = ([], refl)
first_by (bad_body fault head body) further bytes = ([], refl)

list_behind : (bytes : List ℕ) → request_list bytes ≡ requests_behind (request_item bytes) (requests_within (length bytes)) bytes
list_behind bytes = enough_requests (length bytes) (suc (length bytes)) bytes (omega arith) (omega arith)

-- the list begins with what stands at the front of the bytes
pub first_item : (bytes : List ℕ) → (rest : List (Item RequestHead)) × (request_items bytes ≡ request_item bytes ∷ rest)
first_item bytes =
    let first = first_by (request_item bytes) (requests_within (length bytes)) bytes in
    (first.0, ap items_of (list_behind bytes) ∙ first.1)

-- behind a whole request that is no CONNECT stand those behind its bytes
pub items_on : (bytes : List ℕ) (head : RequestHead) (body : Body) (trailers : List (List ℕ × List ℕ)) (used : ℕ) →
    request_item bytes ≡ complete head body trailers used → asks_tunnel head ≡ false →
    request_items bytes ≡ complete head body trailers used ∷ request_items (drop used bytes)
items_on bytes head body trailers used is none =
    let most = length bytes in
    let item : Item RequestHead = complete head body trailers used in
    let left = length-drop used bytes in
    let further = requests_within most (drop used bytes) in
    let one : requests_behind (request_item bytes) (requests_within most) bytes ≡ requests_on (asks_tunnel head) item used further =
    ap (λ (i : Item RequestHead). requests_behind i (requests_within most) bytes) is in
    let two : requests_on (asks_tunnel head) item used further ≡ behind_whole item used further =
    ap (λ t. requests_on t item used further) none in
    let three : further ≡ request_list (drop used bytes) =
    enough_requests most (length (drop used bytes)) (drop used bytes) (omega arith) (omega arith) in
    ap items_of (list_behind bytes ∙ (one ∙ two)) ∙ ap (λ r. item ∷ items_of r) three

-- those behind the first
abbrev pub items_after : List ℕ → List (Item RequestHead)
items_after bytes = drop 1 (request_items bytes)

pub items_split : (bytes : List ℕ) → request_items bytes ≡ request_item bytes ∷ items_after bytes
items_split bytes =
    let first = first_item bytes in
    let same : items_after bytes ≡ first.0 = ap (drop 1) first.1 in
    first.1 ∙ ap (λ l. request_item bytes ∷ l) (sym same)

-- ---- a head that is accepted

tunnel_by : (goal : Option Address) (request : Request) → judged_tunnel goal ≡ Accepted request → ⊥
tunnel_by None request accepted = let no : Refused BadTarget ≡ Accepted request = accepted in cc
tunnel_by (Some address) request accepted = let no : Connects address ≡ Accepted request = accepted in cc

accepted_by : (place : Place) (head : RequestHead) (connects : Bool) (is : bytes_eq head.method connect_method ≡ connects) (request : Request) →
    judged_method place head connects is ≡ Accepted request → connects ≡ false
accepted_by place head true is request accepted = absurd (tunnel_by (tunnel_at place (target_form head.method head.target)) request accepted)
accepted_by place head false is request accepted = refl

pub no_tunnel : (place : Place) (head : RequestHead) (request : Request) → judged place head ≡ Accepted request → asks_tunnel head ≡ false
no_tunnel place head request accepted = accepted_by place head (bytes_eq head.method connect_method) refl request accepted

-- behind a whole request whose head is accepted stand those behind its bytes
pub after_on : (place : Place) (bytes : List ℕ) (head : RequestHead) (body : Body) (trailers : List (List ℕ × List ℕ)) (used : ℕ) (request : Request) →
    request_item bytes ≡ complete head body trailers used → judged place head ≡ Accepted request → items_after bytes ≡ request_items (drop used bytes)
after_on place bytes head body trailers used request is accepted =
    ap (drop 1) (items_on bytes head body trailers used is (no_tunnel place head request accepted))

-- what is said of a request whose head is accepted
pub opening_on : (terms : Terms) (events : List (Timed Event)) (point : Point) (flows : ℕ) (bytes : List ℕ) (head : RequestHead) (request : Request) →
    head_in (request_item bytes) ≡ Some head → judged terms.place head ≡ Accepted request →
    said_from terms events point (take (suc flows) (request_items bytes))
    ≡ meets_expectation (expects head) ++ said_whole terms events point request (request_item bytes) (λ next. said_from terms events next (take flows (items_after bytes)))
opening_on terms events point flows bytes head request is accepted =
    let further : Point → List Command = λ next. said_from terms events next (take flows (items_after bytes)) in
    ap (λ l. said_from terms events point (take (suc flows) l)) (items_split bytes)
    ∙ (ap (λ (o : Option RequestHead). said_asked terms events point o (request_item bytes) further) is ∙ rw accepted refl)
