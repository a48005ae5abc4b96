-- What is looked for first behind an answer: how the request stands there, and what is held of the body that is read.
use Rattle.std.proofs.Common.{◌≡◌, ◌≢◌, ℕ, Bool, true, false, List, [], Option, Some, None, Result, Ok, Err, refl, ap, sym, ◌∙◌, subst}
use Rattle.std.specs.Prelude.{bytes_eq}
use Rattle.px_message.specs.Length.{request_length}
use Rattle.px_message.specs.declared.address.Address.{Address}
use Rattle.px_message.specs.declared.fault.Fault.{Fault}
use Rattle.px_message.specs.declared.flow.Flow.{Flow}
use Rattle.px_message.specs.declared.length.Length.{Length}
use Rattle.px_message.specs.declared.request.Request.{Request}
use Rattle.px_message.specs.declared.response.Response.{Response}
use Rattle.px_message.specs.Target.{target_form}
use Rattle.px_read.specs.Heads.{connect_method}
use Rattle.px_read.specs.declared.head.RequestHead.{RequestHead as ReadRequest}
use Rattle.px_read.specs.declared.head.ResponseHead.{ResponseHead as ReadResponse}
use Rattle.px_exchange.specs.declared.asked.Judged.TheVariants.{Refused, Accepted}
use Rattle.px_exchange.specs.declared.place.Place.{Place}
use Rattle.px_exchange.specs.Flows.{response_of}
use Rattle.px_exchange.specs.Requests.{goal_at, is_head, judged, judged_goal, judged_length, judged_method, judged_tunnel, request_of, tunnel_at}
use Rattle.px_chain.specs.Stages.{At, Sent, all_sent, busy, going_up, request_body, response_body, response_head}
use Rattle.px_stream.specs.declared.coming.Held.{Held}
use Rattle.px_stream.specs.declared.going.Going.{Going}
use Rattle.px_stream.specs.declared.going.HeldRequest.{HeldRequest}
use Rattle.px_stream.specs.declared.going.Sending.{Sending}
use Rattle.px_stream.specs.declared.going.Sending.TheVariants as sending
use Rattle.px_stream.specs.declared.phase.Wanted.{Wanted}
use Rattle.px_stream.specs.declared.phase.Wanted.TheVariants as ready
use Rattle.px_stream.specs.Comings.{IsHeldBy, may_stream}
use Rattle.px_stream.specs.Goings.{IsHeldUpBy, may_go_up, may_go_up_by, sent_by, sent_of}
use Rattle.px_stream.specs.Stands.{Holds, HoldsUp, HoldsWhole, IsRead, IsSome, going_in, held_in, held_up_in, sent_at, stage_of, up_in}
use Rattle.px_stream.specs.Turns.{GoesUpFrom, HeldBehind, HeldFirst, HeldUpBehind, HeldUpFirst}

-- ---- how the request stands

abbrev pub how_looked : Wanted → Sent
how_looked (ready.Connection flow up) = sent_by up
how_looked looked = sent_of (up_in looked)

pub how_is : (here : At) (looked : Wanted) → sent_at (stage_of here looked) ≡ how_looked looked
how_is here ready.Idle = refl
how_is here (ready.RequestBody flow own size body held) = refl
how_is here (ready.Connection flow up) = refl
how_is here (ready.ResponseHead flow number up) = refl
how_is here (ready.ResponseBody flow number up size body held) = refl
how_is here (ready.ComingDown flow number up its) = refl
how_is here (ready.Upgraded flow number) = refl
how_is here (ready.GivenHead flow) = refl
how_is here (ready.GivenBody flow) = refl
how_is here (ready.Connects address) = refl
how_is here ready.Over = refl

-- where all of it was sent
none_going : (up : Option Going) → sent_by up ≡ all_sent → up ≡ None
none_going None is = refl
none_going (Some going) is = absurd (let no : going_up ≡ all_sent = is in cc)

none_up : (up : Sending) → sent_of up ≡ all_sent → up ≡ sending.All
none_up sending.All is = refl
none_up (sending.GoingUp goes) is = absurd (let no : going_up ≡ all_sent = is in cc)

pub all_going : (looked : Wanted) → how_looked looked ≡ all_sent → going_in looked ≡ None
all_going ready.Idle is = refl
all_going (ready.RequestBody flow own size body held) is = refl
all_going (ready.Connection flow up) is = none_going up is
all_going (ready.ResponseHead flow number up) is = refl
all_going (ready.ResponseBody flow number up size body held) is = refl
all_going (ready.ComingDown flow number up its) is = refl
all_going (ready.Upgraded flow number) is = refl
all_going (ready.GivenHead flow) is = refl
all_going (ready.GivenBody flow) is = refl
all_going (ready.Connects address) is = refl
all_going ready.Over is = refl

pub all_up : (looked : Wanted) → how_looked looked ≡ all_sent → up_in looked ≡ sending.All
all_up ready.Idle is = refl
all_up (ready.RequestBody flow own size body held) is = refl
all_up (ready.Connection flow up) is = refl
all_up (ready.ResponseHead flow number up) is = none_up up is
all_up (ready.ResponseBody flow number up size body held) is = none_up up is
all_up (ready.ComingDown flow number up its) is = none_up up is
all_up (ready.Upgraded flow number) is = refl
all_up (ready.GivenHead flow) is = refl
all_up (ready.GivenBody flow) is = refl
all_up (ready.Connects address) is = refl
all_up ready.Over is = refl

-- or it goes on as it did
pub head_from : (looked : Wanted) (here at : At) (told : Flow) (server : ℕ) (how : Sent) (from : Sending) → stage_of here looked ≡ busy at told (response_head server how) → GoesUpFrom from looked → up_in looked ≡ from
head_from (ready.ResponseHead flow number up) here at told server how from is goes = goes
head_from ready.Idle here at told server how from is goes = absurd (let no : stage_of here ready.Idle ≡ busy at told (response_head server how) = is in cc)
head_from (ready.RequestBody flow own size body held) here at told server how from is goes = absurd (let no : stage_of here (ready.RequestBody flow own size body held) ≡ busy at told (response_head server how) = is in cc)
head_from (ready.Connection flow up) here at told server how from is goes = absurd (let no : stage_of here (ready.Connection flow up) ≡ busy at told (response_head server how) = is in cc)
head_from (ready.ResponseBody flow number up size body held) here at told server how from is goes = absurd (let no : stage_of here (ready.ResponseBody flow number up size body held) ≡ busy at told (response_head server how) = is in cc)
head_from (ready.ComingDown flow number up its) here at told server how from is goes = absurd (let no : stage_of here (ready.ComingDown flow number up its) ≡ busy at told (response_head server how) = is in cc)
head_from (ready.Upgraded flow number) here at told server how from is goes = absurd (let no : stage_of here (ready.Upgraded flow number) ≡ busy at told (response_head server how) = is in cc)
head_from (ready.GivenHead flow) here at told server how from is goes = absurd (let no : stage_of here (ready.GivenHead flow) ≡ busy at told (response_head server how) = is in cc)
head_from (ready.GivenBody flow) here at told server how from is goes = absurd (let no : stage_of here (ready.GivenBody flow) ≡ busy at told (response_head server how) = is in cc)
head_from (ready.Connects address) here at told server how from is goes = absurd (let no : stage_of here (ready.Connects address) ≡ busy at told (response_head server how) = is in cc)
head_from ready.Over here at told server how from is goes = absurd (let no : stage_of here ready.Over ≡ busy at told (response_head server how) = is in cc)

pub body_from : (looked : Wanted) (here at : At) (told : Flow) (server : ℕ) (how : Sent) (most : Option ℕ) (from : Sending) → stage_of here looked ≡ busy at told (response_body server how most) → GoesUpFrom from looked →
    up_in looked ≡ from
body_from (ready.ResponseBody flow number up size body held) here at told server how most from is goes = goes
body_from ready.Idle here at told server how most from is goes = absurd (let no : stage_of here ready.Idle ≡ busy at told (response_body server how most) = is in cc)
body_from (ready.RequestBody flow own size body held) here at told server how most from is goes = absurd (let no : stage_of here (ready.RequestBody flow own size body held) ≡ busy at told (response_body server how most) = is in cc)
body_from (ready.Connection flow up) here at told server how most from is goes = absurd (let no : stage_of here (ready.Connection flow up) ≡ busy at told (response_body server how most) = is in cc)
body_from (ready.ResponseHead flow number up) here at told server how most from is goes = absurd (let no : stage_of here (ready.ResponseHead flow number up) ≡ busy at told (response_body server how most) = is in cc)
body_from (ready.ComingDown flow number up its) here at told server how most from is goes = absurd (let no : stage_of here (ready.ComingDown flow number up its) ≡ busy at told (response_body server how most) = is in cc)
body_from (ready.Upgraded flow number) here at told server how most from is goes = absurd (let no : stage_of here (ready.Upgraded flow number) ≡ busy at told (response_body server how most) = is in cc)
body_from (ready.GivenHead flow) here at told server how most from is goes = absurd (let no : stage_of here (ready.GivenHead flow) ≡ busy at told (response_body server how most) = is in cc)
body_from (ready.GivenBody flow) here at told server how most from is goes = absurd (let no : stage_of here (ready.GivenBody flow) ≡ busy at told (response_body server how most) = is in cc)
body_from (ready.Connects address) here at told server how most from is goes = absurd (let no : stage_of here (ready.Connects address) ≡ busy at told (response_body server how most) = is in cc)
body_from ready.Over here at told server how most from is goes = absurd (let no : stage_of here ready.Over ≡ busy at told (response_body server how most) = is in cc)

-- ---- what is held of a response

first_holds : (b : Bool) (flow : Flow) (message : Response) (most : Option ℕ) (head : ReadResponse) (held : Option Held) → may_stream (is_head flow.request.method) (response_of head) message most ≡ b →
    flow.response ≡ Some message → IsHeldBy b (response_of head) held → Holds flow most head [] held
first_holds false flow message most head None is given held = subst (HoldsWhole flow most head) (sym given) is
first_holds true flow message most head None is given held = absurd held
first_holds false flow message most head (Some kept) is given held = absurd held
first_holds true flow message most head (Some kept) is given held = (subst (λ (o : Option Response). IsSome o) (sym given) tt, held.0, held.1)

first_by : (flow : Flow) (o : Option Response) (most : Option ℕ) (head : ReadResponse) (held : Option Held) → flow.response ≡ o → HeldBehind flow (Some (response_of head)) o most held → Holds flow most head [] held
first_by flow None most head held is first = absurd first
first_by flow (Some message) most head held is first = first_holds (may_stream (is_head flow.request.method) (response_of head) message most) flow message most head held refl is first

pub return_first : (looked : Wanted) (here at : At) (told : Flow) (server : ℕ) (how : Sent) (most : Option ℕ) (head : ReadResponse) → stage_of here looked ≡ busy at told (response_body server how most) →
    HeldFirst (Some (response_of head)) looked → Holds told most head [] (held_in looked)
return_first (ready.ResponseBody flow number up size body held) here at told server how most head is first =
    let e : busy here flow (response_body number (sent_of up) size) ≡ busy at told (response_body server how most) = is in
    let one : flow ≡ told = cc in
    let two : size ≡ most = cc in
    subst (λ f. Holds f most head [] held) one (subst (λ m. Holds flow m head [] held) two (first_by flow flow.response size head held refl first))
return_first ready.Idle here at told server how most head is first = absurd (let no : stage_of here ready.Idle ≡ busy at told (response_body server how most) = is in cc)
return_first (ready.RequestBody flow own size body held) here at told server how most head is first = absurd (let no : stage_of here (ready.RequestBody flow own size body held) ≡ busy at told (response_body server how most) = is in cc)
return_first (ready.Connection flow up) here at told server how most head is first = absurd (let no : stage_of here (ready.Connection flow up) ≡ busy at told (response_body server how most) = is in cc)
return_first (ready.ResponseHead flow number up) here at told server how most head is first = absurd (let no : stage_of here (ready.ResponseHead flow number up) ≡ busy at told (response_body server how most) = is in cc)
return_first (ready.ComingDown flow number up its) here at told server how most head is first = absurd (let no : stage_of here (ready.ComingDown flow number up its) ≡ busy at told (response_body server how most) = is in cc)
return_first (ready.Upgraded flow number) here at told server how most head is first = absurd (let no : stage_of here (ready.Upgraded flow number) ≡ busy at told (response_body server how most) = is in cc)
return_first (ready.GivenHead flow) here at told server how most head is first = absurd (let no : stage_of here (ready.GivenHead flow) ≡ busy at told (response_body server how most) = is in cc)
return_first (ready.GivenBody flow) here at told server how most head is first = absurd (let no : stage_of here (ready.GivenBody flow) ≡ busy at told (response_body server how most) = is in cc)
return_first (ready.Connects address) here at told server how most head is first = absurd (let no : stage_of here (ready.Connects address) ≡ busy at told (response_body server how most) = is in cc)
return_first ready.Over here at told server how most head is first = absurd (let no : stage_of here ready.Over ≡ busy at told (response_body server how most) = is in cc)

-- ---- and of a request, of which the head was read

up_holds : (b : Bool) (read : Request) (most : Option ℕ) (head : ReadRequest) (held : Option HeldRequest) → IsRead head read → may_go_up read most ≡ b → IsHeldUpBy b read held → HoldsUp None most head [] held
up_holds false read most head None was is held = ap (λ f. may_go_up_by (request_length f) most) (sym was.fields) ∙ is
up_holds true read most head None was is held = absurd held
up_holds false read most head (Some kept) was is held = absurd held
up_holds true read most head (Some kept) was is held = (refl, subst (IsRead head) (sym held.0) was, held.1)

up_by : (given : Option Response) (read : Request) (most : Option ℕ) (head : ReadRequest) (held : Option HeldRequest) → IsRead head read → HeldUpBehind given read most held → HoldsUp given most head [] held
up_by None read most head held was first = up_holds (may_go_up read most) read most head held was refl first
up_by (Some given) read most head held was first = subst (HoldsUp (Some given) most head []) (sym first) tt

pub body_first : (looked : Wanted) (here at : At) (told : Flow) (given : Option Response) (most : Option ℕ) (head : ReadRequest) (read : Request) → IsRead head read →
    stage_of here looked ≡ busy at told (request_body given most) → HeldUpFirst read looked → HoldsUp given most head [] (held_up_in looked)
body_first (ready.RequestBody flow own size body held) here at told given most head read was is first =
    let e : busy here flow (request_body own size) ≡ busy at told (request_body given most) = is in
    let one : own ≡ given = cc in
    let two : size ≡ most = cc in
    subst (λ g. HoldsUp g most head [] held) one (subst (λ m. HoldsUp own m head [] held) two (up_by own read size head held was first))
body_first ready.Idle here at told given most head read was is first = absurd (let no : stage_of here ready.Idle ≡ busy at told (request_body given most) = is in cc)
body_first (ready.Connection flow up) here at told given most head read was is first = absurd (let no : stage_of here (ready.Connection flow up) ≡ busy at told (request_body given most) = is in cc)
body_first (ready.ResponseHead flow number up) here at told given most head read was is first = absurd (let no : stage_of here (ready.ResponseHead flow number up) ≡ busy at told (request_body given most) = is in cc)
body_first (ready.ResponseBody flow number up size body held) here at told given most head read was is first = absurd (let no : stage_of here (ready.ResponseBody flow number up size body held) ≡ busy at told (request_body given most) = is in cc)
body_first (ready.ComingDown flow number up its) here at told given most head read was is first = absurd (let no : stage_of here (ready.ComingDown flow number up its) ≡ busy at told (request_body given most) = is in cc)
body_first (ready.Upgraded flow number) here at told given most head read was is first = absurd (let no : stage_of here (ready.Upgraded flow number) ≡ busy at told (request_body given most) = is in cc)
body_first (ready.GivenHead flow) here at told given most head read was is first = absurd (let no : stage_of here (ready.GivenHead flow) ≡ busy at told (request_body given most) = is in cc)
body_first (ready.GivenBody flow) here at told given most head read was is first = absurd (let no : stage_of here (ready.GivenBody flow) ≡ busy at told (request_body given most) = is in cc)
body_first (ready.Connects address) here at told given most head read was is first = absurd (let no : stage_of here (ready.Connects address) ≡ busy at told (request_body given most) = is in cc)
body_first ready.Over here at told given most head read was is first = absurd (let no : stage_of here ready.Over ≡ busy at told (request_body given most) = is in cc)

-- the request of a flow is as its head was read
read_length : (length : Result Length Fault) (read message : Request) → judged_length length read ≡ Accepted message → read ≡ message
read_length (Ok length) read message is = cc
read_length (Err fault) read message is = absurd (let no : Refused fault ≡ Accepted message = is in cc)

read_goal : (head : ReadRequest) (not_connect : head.method ≢ connect_method) (goal : Option (Address × List ℕ)) (message : Request) → judged_goal head not_connect goal ≡ Accepted message → IsRead head message
read_goal head not_connect None message is = absurd (cc)
read_goal head not_connect (Some goal) message is =
    subst (IsRead head) (read_length (request_length head.fields) (request_of goal.0 head goal.1 not_connect) message is) (record { method = refl; fields = refl })

read_tunnel : (o : Option Address) (message : Request) → judged_tunnel o ≡ Accepted message → ⊥
read_tunnel None message is = cc
read_tunnel (Some address) message is = cc

read_method : (place : Place) (head : ReadRequest) (connects : Bool) (same : bytes_eq head.method connect_method ≡ connects) (message : Request) → judged_method place head connects same ≡ Accepted message → IsRead head message
read_method place head true same message is = absurd (read_tunnel (tunnel_at place (target_form head.method head.target)) message is)
read_method place head false same message is = read_goal head _ (goal_at place (target_form head.method head.target)) message is

pub judged_read : (place : Place) (head : ReadRequest) (message : Request) → judged place head ≡ Accepted message → IsRead head message
judged_read place head message is = read_method place head (bytes_eq head.method connect_method) refl message is
