-- What one look gives, from what each of its ways gives.
use Rattle.std.proofs.Common.{◌≡◌, ℕ, Bool, false, List, [], ◌∷◌, ◌++◌, Option, Some, None, Result, Ok, Err, refl, ap, sym, subst}
use Rattle.std.specs.Prelude.{OnOk, IfOk}
use Rattle.std.proofs.lemmas.List.{append-nil}
use Rattle.px_message.specs.declared.fault.Fault.{Fault}
use Rattle.px_message.specs.declared.flow.Flow.{Flow}
use Rattle.px_message.specs.declared.response.Response.{Response}
use Rattle.px_event.specs.declared.command.Command.{Command}
use Rattle.px_event.specs.Chain.{found}
use Rattle.px_read.specs.Items.{bad_head, missing, no_body, request_item}
use Rattle.px_read.specs.Laws.{head_in}
use Rattle.px_read.specs.Marks.{asks}
use Rattle.px_read.proofs.ItemLemmas.{request_used}
use Rattle.px_read.proofs.LawLemmas.{chunk_laws}
use Rattle.px_read.proofs.TunnelLemmas.{connect-read}
use Rattle.px_read.specs.Reader.{request, State, Reads}
use Rattle.px_read.specs.declared.head.RequestHead.{RequestHead}
use Rattle.px_exchange.specs.declared.asked.Judged.{Judged}
use Rattle.px_exchange.specs.declared.asked.Judged.TheVariants.{Refused, Accepted, Connects}
use Rattle.px_exchange.specs.declared.body.Progress.{Progress}
use Rattle.px_exchange.specs.declared.ending.Used.{Used}
use Rattle.px_exchange.specs.declared.place.Place.{Place}
use Rattle.px_exchange.specs.declared.terms.Terms.{Terms}
use Rattle.px_exchange.specs.Bodies.{HasRead}
use Rattle.px_exchange.specs.Endings.{shut_server}
use Rattle.px_exchange.specs.Finds.{look_head, or_leaves}
use Rattle.px_exchange.specs.Requests.{is_http11, judged}
use Rattle.px_chain.specs.Chain.{Connect, connect_in}
use Rattle.px_stream.specs.declared.coming.Held.{Held}
use Rattle.px_stream.specs.declared.going.HeldRequest.{HeldRequest}
use Rattle.px_stream.specs.declared.going.Sending.{Sending}
use Rattle.px_stream.specs.declared.link.Link.{Link}
use Rattle.px_stream.specs.declared.phase.Phase.{Phase}
use Rattle.px_stream.specs.declared.reading.FinalHead.{FinalHead}
use Rattle.px_stream.specs.Looks.{AnswerFound, BehindJudged, BodyFound, ComingFound, EndsBy, FoundAtOnce, HeadFound, HeadRead, ReadsMore, ReturnFound, UpRead, answer_gives, answer_phase, body_gives, body_phase, coming_gives, coming_phase, head_phase, returned_gives, returned_phase, unless_bad, unless_broken, unless_over}
use Rattle.px_stream.specs.Responses.{ReadsHead}
use Rattle.px_stream.specs.Stands.{StaysOpen, marks_at}
use Rattle.px_stream.proofs.HeadLemmas.{connect_asks, connect_there, no_connect}

-- ---- what the client's reader keeps of a head

abbrev pub KeptOf : Place → List ℕ → State → Type 0
KeptOf place fed new = HeadRead (connect_in place (request_item fed)) (request_item fed) fed new

-- of one that is no CONNECT, or of none
kept_marks : (place : Place) (fed : List ℕ) (seen : Option RequestHead) (new : State) → head_in (request_item fed) ≡ seen → connect_in place (request_item fed) ≡ None →
    Reads request (marks_at seen) fed false new → KeptOf place fed new
kept_marks place fed seen new stands none reads =
    let P : Option RequestHead → Type 0 = λ o. Reads request (marks_at o) fed false new in
    let Q : Option Connect → Type 0 = λ c. HeadRead c (request_item fed) fed new in
    subst Q (sym none) (subst P (sym stands) reads)

pub head_kept : (place : Place) (fed : List ℕ) (head : RequestHead) (old new : State) (made : Judged) → head_in (request_item fed) ≡ Some head → judged place head ≡ made →
    Reads request (asks head ∷ []) fed false old → BehindJudged made old new → KeptOf place fed new
head_kept place fed head old new (Refused fault) stands is reads same =
    let P : State → Type 0 = λ s. Reads request (asks head ∷ []) fed false s in
    kept_marks place fed (Some head) new stands (no_connect place (request_item fed) head (Refused fault) stands is tt) (subst P (sym same) reads)
head_kept place fed head old new (Accepted message) stands is reads same =
    let P : State → Type 0 = λ s. Reads request (asks head ∷ []) fed false s in
    kept_marks place fed (Some head) new stands (no_connect place (request_item fed) head (Accepted message) stands is tt) (subst P (sym same) reads)
head_kept place fed head old new (Connects address) stands is reads gave =
    let after = gave.gives request (asks head ∷ []) fed false reads in
    let ended = connect-read head [] fed false old new gave.got (connect_asks place head address is) reads gave.next after gave.stopped in
    let within = (request_used chunk_laws fed head no_body [] ended.1 ended.2).1 in
    let Q : Option Connect → Type 0 = λ c. HeadRead c (request_item fed) fed new in
    subst Q (sym (connect_there place (request_item fed) head ended.1 address ended.2 is)) (ended.3, after.closed, within)

pub fault_kept : (place : Place) (fed : List ℕ) (fault : Fault) (new : State) → request_item fed ≡ bad_head fault → Reads request [] fed false new → KeptOf place fed new
fault_kept place fed fault new is reads = kept_marks place fed None new (ap head_in is) (ap (connect_in place) is) reads

pub missing_kept : (place : Place) (fed : List ℕ) (new : State) → request_item fed ≡ missing → Reads request [] fed false new → KeptOf place fed new
missing_kept place fed new is reads = kept_marks place fed None new (ap head_in is) (ap (connect_in place) is) reads

-- ---- what is found

-- beside what stays
pub besides : {E X : Type 0} (result : Result Phase E) (x : X) (P : Phase → Type 0) → IfOk result P → IfOk result (λ next. (x ≡ x) × P next)
besides (Ok next) x P is = (refl, is)
besides (Err e) x P is = tt

-- the head of a request
pub head_looked : {E : Type 0} (result : Result Phase E) (side : Option Link) (terms : Terms) (index : ℕ) (old new : State) (moment : ℕ) (used : Used) (closed : Bool) (out longer : List Command) →
    ((fed : List ℕ) → Reads request [] fed false old → OnOk result (longer ≡ out ++ found (or_leaves closed (shut_server used) (look_head terms index (request_item fed) moment used closed)))) →
    ((fed : List ℕ) → Reads request [] fed false old → IfOk result (λ next. next ≡ head_phase terms index (request_item fed) moment closed)) →
    ((fed : List ℕ) → Reads request [] fed false old → OnOk result (HeadRead (connect_in terms.place (request_item fed)) (request_item fed) fed new)) →
    IfOk result (λ next. (side ≡ side) × HeadFound terms index old new moment used closed out longer next)
head_looked (Ok next) side terms index old new moment used closed out longer gives phase reads = (refl, record { gives = gives; phase = phase; reads = reads })
head_looked (Err e) side terms index old new moment used closed out longer gives phase reads = tt

-- what is given at once
pub at_once : {E : Type 0} (result : Result Phase E) (side : Option Link) (state : State) (given : List Command) (out longer : List Command) (there : Phase) →
    OnOk result (longer ≡ out ++ given) → IfOk result (λ next. next ≡ there) → IfOk result (λ next. (side ≡ side) × FoundAtOnce state state given out longer there next)
at_once (Ok next) side state given out longer there gives phase = (refl, record { same = refl; gives = gives; phase = phase })
at_once (Err e) side state given out longer there gives phase = tt

-- nothing is given
pub nothing_given : (side : Option Link) (state : State) (out : List Command) (there : Phase) → (side ≡ side) × FoundAtOnce state state [] out out there there
nothing_given side state out there = (refl, record { same = refl; gives = sym (append-nil out); phase = refl })

pub body_found : {E : Type 0} (result : Result Phase E) (flow : Flow) (given : Option Response) (most : Option ℕ) (content body : List ℕ) (held : Option HeldRequest) (old new : State) (moment : ℕ) (parked : Used) (closed : Bool) (out longer : List Command) (got : Progress) →
    HasRead got old content new body → OnOk result (longer ≡ out ++ body_gives flow given got body moment parked closed) → IfOk result (λ next. next ≡ body_phase flow given most got body held moment closed) →
    IfOk result (λ next. BodyFound flow given most content held old new moment parked closed out longer next)
body_found (Ok next) flow given most content body held old new moment parked closed out longer got read gives phase = record { got = got; body = body; read = read; gives = gives; phase = phase }
body_found (Err e) flow given most content body held old new moment parked closed out longer got read gives phase = tt

pub answer_found : {E : Type 0} (result : Result Phase E) (flow : Flow) (server : ℕ) (up : Sending) (bad : Option Fault) (requests later : State) (old new : Option Link) (moment : ℕ) (used : Used) (closed : Bool) (out between longer : List Command) (got : FinalHead) →
    UpRead up bad requests later → StaysOpen (λ link later. ReadsHead flow.request got (is_http11 flow.request.version) link out later between) old new →
    OnOk result (longer ≡ between ++ unless_bad bad flow moment used closed (answer_gives flow got moment used closed)) →
    IfOk result (λ next. next ≡ unless_over bad (answer_phase flow server up got moment closed)) → IfOk result (λ next. AnswerFound flow server up requests later old new moment used closed out longer next)
answer_found (Ok next) flow server up bad requests later old new moment used closed out between longer got up_read read gives phase =
    record { bad = bad; up_read = up_read; got = got; between = between; read = read; gives = gives; phase = phase }
answer_found (Err e) flow server up bad requests later old new moment used closed out between longer got up_read read gives phase = tt

pub return_found : {E : Type 0} (result : Result Phase E) (flow : Flow) (server : ℕ) (up : Sending) (most : Option ℕ) (content body : List ℕ) (held : Option Held) (bad : Option Fault) (requests later : State) (old new : Option Link) (moment : ℕ) (used : Used) (closed : Bool) (out longer : List Command) (got : Progress) →
    UpRead up bad requests later → StaysOpen (ReadsMore got content body) old new →
    OnOk result (longer ≡ out ++ unless_bad bad flow moment used closed (returned_gives flow got body moment used closed)) →
    IfOk result (λ next. next ≡ unless_over bad (returned_phase flow server up most got body held moment closed)) → IfOk result (λ next. ReturnFound flow server up most content held requests later old new moment used closed out longer next)
return_found (Ok next) flow server up most content body held bad requests later old new moment used closed out longer got up_read read gives phase =
    record { bad = bad; up_read = up_read; got = got; body = body; read = read; gives = gives; phase = phase }
return_found (Err e) flow server up most content body held bad requests later old new moment used closed out longer got up_read read gives phase = tt

pub coming_found : {E : Type 0} (result : Result Phase E) (flow : Flow) (server : ℕ) (up : Sending) (sent : Response) (bad : Option Fault) (requests later : State) (old new : Option Link) (moment : ℕ) (used : Used) (closed : Bool) (out longer : List Command) (stop : Option Progress) →
    UpRead up bad requests later → StaysOpen (EndsBy stop) old new → OnOk result (longer ≡ out ++ unless_broken bad flow moment used closed (coming_gives flow stop moment used closed)) →
    IfOk result (λ next. next ≡ unless_over bad (coming_phase flow server up sent stop closed)) → IfOk result (λ next. ComingFound flow server up sent requests later old new moment used closed out longer next)
coming_found (Ok next) flow server up sent bad requests later old new moment used closed out longer stop up_read read gives phase =
    record { bad = bad; up_read = up_read; stop = stop; read = read; gives = gives; phase = phase }
coming_found (Err e) flow server up sent bad requests later old new moment used closed out longer stop up_read read gives phase = tt
