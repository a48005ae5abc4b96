-- Where a request is awaited, the end is found with nothing owed exactly where a whole CONNECT stands that asks for a tunnel.
use Rattle.std.proofs.Common.{◌≡◌, ℕ, Bool, true, false, List, [], Option, Some, None, Result, Ok, Err, refl, ap, sym, ◌∙◌}
use Rattle.std.specs.Prelude.{◌≢◌, bytes_eq}
use Rattle.px_message.specs.declared.address.Address.{Address}
use Rattle.px_message.specs.declared.fault.Fault.{Fault}
use Rattle.px_message.specs.declared.length.Length.{Length}
use Rattle.px_message.specs.declared.request.Request.{Request}
use Rattle.px_event.specs.Chain.{NotYet, Ends}
use Rattle.px_read.specs.Heads.{asks_tunnel, connect_method}
use Rattle.px_read.specs.Items.{Item, missing, part, complete, bad_head, bad_body, no_body, request_item}
use Rattle.px_read.specs.Laws.{head_in}
use Rattle.px_read.specs.declared.head.RequestHead.{RequestHead}
use Rattle.px_read.proofs.TunnelLemmas.{connect-whole}
use Rattle.px_exchange.specs.declared.asked.Judged.{Judged}
use Rattle.px_exchange.specs.declared.asked.Judged.TheVariants.{Refused, Accepted, Connects}
use Rattle.px_exchange.specs.declared.ending.Used.{Used}
use Rattle.px_exchange.specs.declared.place.Place.{Place}
use Rattle.px_exchange.specs.declared.terms.Terms.{Terms}
use Rattle.px_exchange.specs.Finds.{look_head, look_judged}
use Rattle.px_exchange.specs.Requests.{judged, judged_goal, judged_length, judged_method}
use Rattle.px_chain.specs.Chain.{Connect, connect_by, connect_in, find}
use Rattle.px_chain.specs.Keeping.{unspoilt_at}
use Rattle.px_chain.specs.Sights.{Sight, request_in, server_parked}
use Rattle.px_chain.specs.Stages.{At, idle}

no_length : (framed : Result Length Fault) (request : Request) (address : Address) → judged_length framed request ≡ Connects address → ⊥
no_length (Err fault) request address is = let e : Refused fault ≡ Connects address = is in cc
no_length (Ok length) request address is = let e : Accepted request ≡ Connects address = is in cc

no_goal : (head : RequestHead) (other : head.method ≢ connect_method) (goal : Option (Address × List ℕ)) (address : Address) → judged_goal head other goal ≡ Connects address → ⊥
no_goal head other None address is = let e : judged_goal head other None ≡ Connects address = is in cc
no_goal head other (Some goal) address is = no_length _ _ address is

connects_by : (place : Place) (head : RequestHead) (address : Address) (connects : Bool) (is : bytes_eq head.method connect_method ≡ connects) →
    judged_method place head connects is ≡ Connects address → asks_tunnel head ≡ true
connects_by place head address true is made = is
connects_by place head address false is made = absurd (no_goal head _ _ address made)

-- a head that asks for a tunnel is a CONNECT's
pub is_connect : (place : Place) (head : RequestHead) (address : Address) → judged place head ≡ Connects address → asks_tunnel head ≡ true
is_connect place head address made = connects_by place head address (bytes_eq head.method connect_method) refl made

-- and it stands whole, without content
pub connect_is_whole : (place : Place) (bytes : List ℕ) (head : RequestHead) (address : Address) → head_in (request_item bytes) ≡ Some head → judged place head ≡ Connects address →
    (used : ℕ) × (request_item bytes ≡ complete head no_body [] used)
connect_is_whole place bytes head address there made = connect-whole bytes head there (is_connect place head address made)

-- ---- what is found

judged_found : (terms : Terms) (index : ℕ) (head : RequestHead) (made : Judged) (moment : ℕ) (parked : Used) (closed : Bool) → look_judged terms index head made moment parked closed ≡ Ends [] →
    (address : Address) × (made ≡ Connects address)
judged_found terms index head (Refused fault) moment parked closed is = absurd (let e : look_judged terms index head (Refused fault) moment parked closed ≡ Ends [] = is in cc)
judged_found terms index head (Accepted request) moment parked closed is = absurd (let e : look_judged terms index head (Accepted request) moment parked closed ≡ Ends [] = is in cc)
judged_found terms index head (Connects address) moment parked closed is = (address, refl)

-- a head that is not whole asks for no tunnel
not_whole : (place : Place) (bytes : List ℕ) (head : RequestHead) (item : Item RequestHead) → request_item bytes ≡ item → head_in item ≡ Some head →
    (address : Address) × (judged place head ≡ Connects address) → (used : ℕ) × (item ≡ complete head no_body [] used)
not_whole place bytes head item is there (address, made) =
    let (used, whole) = connect_is_whole place bytes head address (ap head_in is ∙ there) made in (used, sym is ∙ whole)

found_by : (terms : Terms) (index : ℕ) (bytes : List ℕ) (item : Item RequestHead) (moment : ℕ) (parked : Used) (closed : Bool) → request_item bytes ≡ item → look_head terms index item moment parked closed ≡ Ends [] →
    (connect : Connect) × (connect_in terms.place item ≡ Some connect)
found_by terms index bytes missing moment parked closed there is = absurd (let e : NotYet ≡ Ends [] = is in cc)
found_by terms index bytes (part head body) moment parked closed there is =
    let whole = not_whole terms.place bytes head (part head body) there refl (judged_found terms index head (judged terms.place head) moment parked closed is) in
    absurd (let e : part head body ≡ complete head no_body [] whole.0 = whole.1 in cc)
found_by terms index bytes (complete head body trailers size) moment parked closed there is =
    let (address, made) = judged_found terms index head (judged terms.place head) moment parked closed is in
    (record { address = address; used = size }, ap (λ j. connect_by j size) made)
found_by terms index bytes (bad_head fault) moment parked closed there is = absurd (let e : look_head terms index (bad_head fault) moment parked closed ≡ Ends [] = is in cc)
found_by terms index bytes (bad_body fault head body) moment parked closed there is =
    let whole = not_whole terms.place bytes head (bad_body fault head body) there refl (judged_found terms index head (judged terms.place head) moment parked closed is) in
    absurd (let e : bad_body fault head body ≡ complete head no_body [] whole.0 = whole.1 in cc)

-- Where nothing is owed at the end that is found, a whole CONNECT stands.
pub connect_found : (terms : Terms) (at : At) (seen : Sight) → find terms (idle at) seen ≡ Ends [] → (connect : Connect) × (connect_in terms.place (request_in seen) ≡ Some connect)
connect_found terms at seen is = found_by terms at.flow seen.client (request_in seen) seen.now (server_parked (unspoilt_at at seen).parked seen) seen.closed refl is

judged_connect : (terms : Terms) (index : ℕ) (head : RequestHead) (made : Judged) (used moment : ℕ) (parked : Used) (closed : Bool) (connect : Connect) → connect_by made used ≡ Some connect →
    look_judged terms index head made moment parked closed ≡ Ends []
judged_connect terms index head (Refused fault) used moment parked closed connect is = absurd (let e : None ≡ Some connect = is in cc)
judged_connect terms index head (Accepted request) used moment parked closed connect is = absurd (let e : None ≡ Some connect = is in cc)
judged_connect terms index head (Connects address) used moment parked closed connect is = refl

connect_by_item : (terms : Terms) (index : ℕ) (item : Item RequestHead) (moment : ℕ) (parked : Used) (closed : Bool) (connect : Connect) → connect_in terms.place item ≡ Some connect →
    look_head terms index item moment parked closed ≡ Ends []
connect_by_item terms index missing moment parked closed connect is = absurd (let e : None ≡ Some connect = is in cc)
connect_by_item terms index (part head body) moment parked closed connect is = absurd (let e : None ≡ Some connect = is in cc)
connect_by_item terms index (complete head body trailers size) moment parked closed connect is = judged_connect terms index head (judged terms.place head) size moment parked closed connect is
connect_by_item terms index (bad_head fault) moment parked closed connect is = absurd (let e : None ≡ Some connect = is in cc)
connect_by_item terms index (bad_body fault head body) moment parked closed connect is = absurd (let e : None ≡ Some connect = is in cc)

-- Where one stands, the end is found, and nothing is owed.
pub connect_there : (terms : Terms) (at : At) (seen : Sight) (connect : Connect) → connect_in terms.place (request_in seen) ≡ Some connect → find terms (idle at) seen ≡ Ends []
connect_there terms at seen connect is = connect_by_item terms at.flow (request_in seen) seen.now (server_parked (unspoilt_at at seen).parked seen) seen.closed connect is
