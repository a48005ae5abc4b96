-- What is found at a request's head, where the item is known by its head.
use Rattle.std.proofs.Common.{◌≡◌, ℕ, Bool, true, false, List, [], Option, Some, None, Result, Ok, Err, refl, ap, ◌∙◌}
use Rattle.std.specs.Prelude.{◌≢◌, bytes_eq, OnOk, ⊤}
use Rattle.px_message.specs.Length.{request_length}
use Rattle.px_message.specs.Target.{target_form}
use Rattle.px_message.specs.declared.address.Address.{Address}
use Rattle.px_message.specs.declared.fault.Fault.{Fault}
use Rattle.px_message.specs.declared.fault.Fault.TheVariants.{BadTarget}
use Rattle.px_message.specs.declared.length.Length.{Length}
use Rattle.px_message.specs.declared.request.Request.{Request}
use Rattle.px_event.specs.Chain.{found}
use Rattle.px_read.specs.Items.{Item, missing, part, complete, bad_head, bad_body, no_body, request_item}
use Rattle.px_read.specs.Laws.{head_in}
use Rattle.px_read.specs.Marks.{marks_of}
use Rattle.px_read.specs.declared.head.RequestHead.{RequestHead}
use Rattle.px_read.specs.declared.part.Part.{Part}
use Rattle.px_read.specs.declared.part.Part.TheVariants as given
use Rattle.px_exchange.specs.declared.asked.Judged.{Judged}
use Rattle.px_exchange.specs.declared.asked.Judged.TheVariants.{Refused, Accepted, Connects}
use Rattle.px_exchange.specs.declared.ending.Used.{Used}
use Rattle.px_exchange.specs.declared.place.Place.{Place}
use Rattle.px_exchange.specs.declared.terms.Terms.{Terms}
use Rattle.px_chain.specs.Chain.{connect_by, connect_in}
use Rattle.px_read.specs.Heads.{asks_tunnel, connect_method}
use Rattle.px_read.proofs.TunnelLemmas.{connect-whole}
use Rattle.px_exchange.specs.Endings.{shut_server}
use Rattle.px_exchange.specs.Finds.{look_head, look_judged, or_leaves}
use Rattle.px_stream.specs.Looks.{head_phase, judged_phase, where_left}
use Rattle.px_exchange.specs.Requests.{differs, goal_at, judged, judged_goal, judged_length, judged_method, request_of}
use Rattle.px_stream.proofs.ReadLemmas.{HeadShown}

-- a fact holds after Ok
pub always : {A E P : Type 0} (r : Result A E) → P → OnOk r P
always (Ok a) p = p
always (Err e) p = tt

found_by : (terms : Terms) (index : ℕ) (head : RequestHead) (made : Judged) (moment : ℕ) (used : Used) (closed shut : Bool) →
    found (look_judged terms index head made moment used closed) ≡ found (or_leaves shut (shut_server used) (look_judged terms index head made moment used closed))
found_by terms index head (Refused fault) moment used closed shut = refl
found_by terms index head (Accepted message) moment used closed shut = refl
found_by terms index head (Connects address) moment used closed shut = refl

-- what a head that stands gives
pub gives_at : (terms : Terms) (index : ℕ) (item : Item RequestHead) (head : RequestHead) (moment : ℕ) (used : Used) (closed : Bool) → head_in item ≡ Some head →
    found (look_judged terms index head (judged terms.place head) moment used closed) ≡ found (or_leaves closed (shut_server used) (look_head terms index item moment used closed))
gives_at terms index missing head moment used closed is = absurd (let e : None ≡ Some head = is in cc)
gives_at terms index (part own body) head moment used closed is =
    let e : own ≡ head = cc in rw e (found_by terms index head (judged terms.place head) moment used closed closed)
gives_at terms index (complete own body trailers size) head moment used closed is =
    let e : own ≡ head = cc in rw e (found_by terms index head (judged terms.place head) moment used closed closed)
gives_at terms index (bad_head fault) head moment used closed is = absurd (let e : None ≡ Some head = is in cc)
gives_at terms index (bad_body fault own body) head moment used closed is =
    let e : own ≡ head = cc in rw e (found_by terms index head (judged terms.place head) moment used closed closed)

pub phase_at : (terms : Terms) (index : ℕ) (item : Item RequestHead) (head : RequestHead) (moment : ℕ) (closed : Bool) → head_in item ≡ Some head →
    judged_phase terms index head (judged terms.place head) moment ≡ head_phase terms index item moment closed
phase_at terms index missing head moment closed is = absurd (let e : None ≡ Some head = is in cc)
phase_at terms index (part own body) head moment closed is = let e : own ≡ head = cc in rw e refl
phase_at terms index (complete own body trailers used) head moment closed is = let e : own ≡ head = cc in rw e refl
phase_at terms index (bad_head fault) head moment closed is = absurd (let e : None ≡ Some head = is in cc)
phase_at terms index (bad_body fault own body) head moment closed is = let e : own ≡ head = cc in rw e refl

-- where no head is there
pub gives_missing : (terms : Terms) (index : ℕ) (item : Item RequestHead) (moment : ℕ) (used : Used) (closed : Bool) → item ≡ missing →
    found (or_leaves closed (shut_server used) (look_head terms index item moment used closed)) ≡ where_left closed (shut_server used)
gives_missing terms index item moment used true is = rw is refl
gives_missing terms index item moment used false is = rw is refl

-- a part that is neither a head nor a fault
pub shows_missing : (got : Part) (item : Item RequestHead) → HeadShown got item → ((head : RequestHead) → got ≡ given.Request head → ⊥) →
    ((fault : Fault) → got ≡ given.Bad fault → ⊥) → (item ≡ missing) × (marks_of got ≡ [])
shows_missing given.More item is no_head no_fault = (is, refl)
shows_missing (given.Request head) item is no_head no_fault = absurd (no_head head refl)
shows_missing (given.Response head) item is no_head no_fault = absurd is
shows_missing (given.Piece bytes) item is no_head no_fault = absurd is
shows_missing (given.ChunkStart size) item is no_head no_fault = absurd is
shows_missing given.ChunkEnd item is no_head no_fault = absurd is
shows_missing (given.End trailers) item is no_head no_fault = (is, refl)
shows_missing (given.Bad fault) item is no_head no_fault = absurd (no_fault fault refl)

-- what is found, by the head
pub look_at_head : (terms : Terms) (index : ℕ) (item : Item RequestHead) (head : RequestHead) (moment : ℕ) (used : Used) (closed : Bool) → head_in item ≡ Some head →
    look_head terms index item moment used closed ≡ look_judged terms index head (judged terms.place head) moment used closed
look_at_head terms index missing head moment used closed is = absurd (let e : None ≡ Some head = is in cc)
look_at_head terms index (part own body) head moment used closed is = let e : own ≡ head = cc in rw e refl
look_at_head terms index (complete own body trailers size) head moment used closed is = let e : own ≡ head = cc in rw e refl
look_at_head terms index (bad_head fault) head moment used closed is = absurd (let e : None ≡ Some head = is in cc)
look_at_head terms index (bad_body fault own body) head moment used closed is = let e : own ≡ head = cc in rw e refl

-- ---- a CONNECT

-- what is judged so asks for a tunnel
length_refuses : (length : Result Length Fault) (message : Request) (address : Address) → judged_length length message ≡ Connects address → ⊥
length_refuses (Err fault) message address is = let no : Refused fault ≡ Connects address = is in cc
length_refuses (Ok length) message address is = let no : Accepted message ≡ Connects address = is in cc

goal_refuses : (head : RequestHead) (not_connect : head.method ≢ connect_method) (goal : Option (Address × List ℕ)) (address : Address) → judged_goal head not_connect goal ≡ Connects address → ⊥
goal_refuses head not_connect None address is = let no : Refused BadTarget ≡ Connects address = is in cc
goal_refuses head not_connect (Some goal) address is = length_refuses (request_length head.fields) (request_of goal.0 head goal.1 not_connect) address is

method_asks : (place : Place) (head : RequestHead) (connects : Bool) (is : bytes_eq head.method connect_method ≡ connects) (address : Address) → judged_method place head connects is ≡ Connects address → connects ≡ true
method_asks place head true is address made = refl
method_asks place head false is address made =
    absurd (goal_refuses head (differs head.method connect_method is) (goal_at place (target_form head.method head.target)) address made)

pub connect_asks : (place : Place) (head : RequestHead) (address : Address) → judged place head ≡ Connects address → asks_tunnel head ≡ true
connect_asks place head address made = method_asks place head (bytes_eq head.method connect_method) refl address made

-- so it is whole as soon as its head is there
pub connect_whole : (place : Place) (bytes : List ℕ) (head : RequestHead) (address : Address) → head_in (request_item bytes) ≡ Some head → judged place head ≡ Connects address →
    (used : ℕ) × (request_item bytes ≡ complete head no_body [] used)
connect_whole place bytes head address stands made = connect-whole bytes head stands (connect_asks place head address made)

-- and that is what is found there
pub connect_there : (place : Place) (item : Item RequestHead) (head : RequestHead) (used : ℕ) (address : Address) → item ≡ complete head no_body [] used → judged place head ≡ Connects address →
    connect_in place item ≡ Some (record { address = address; used = used })
connect_there place item head used address is made = ap (connect_in place) is ∙ ap (λ j. connect_by j used) made

-- any other head is none
abbrev pub NoTunnel : Judged → Type 0
NoTunnel (Connects address) = ⊥
NoTunnel made = ⊤

none_by : (made : Judged) (used : ℕ) → NoTunnel made → connect_by made used ≡ None
none_by (Refused fault) used is = refl
none_by (Accepted message) used is = refl
none_by (Connects address) used is = absurd is

pub no_connect : (place : Place) (item : Item RequestHead) (head : RequestHead) (made : Judged) → head_in item ≡ Some head → judged place head ≡ made → NoTunnel made → connect_in place item ≡ None
no_connect place missing head made stands is none = refl
no_connect place (part own body) head made stands is none = refl
no_connect place (complete own body trailers used) head made stands is none =
    let e : own ≡ head = (let f : Some own ≡ Some head = stands in cc) in
    ap (λ h. connect_by (judged place h) used) e ∙ (ap (λ j. connect_by j used) is ∙ none_by made used none)
no_connect place (bad_head fault) head made stands is none = refl
no_connect place (bad_body fault own body) head made stands is none = refl
