-- One look: what is given, and where the flow is then, by what the readers have come to.
use Rattle.std.specs.Prelude.{◌≡◌, ◌≤◌, ℕ, Bool, true, false, List, [], ◌∷◌, ◌++◌, length, drop, Option, Some, None, ⊤}
use Rattle.px_message.specs.declared.fault.Fault.{Fault}
use Rattle.px_message.specs.declared.fault.Fault.TheVariants.{BadResponse}
use Rattle.px_message.specs.declared.flow.Flow.{Flow}
use Rattle.px_message.specs.declared.response.Response.{Response}
use Rattle.px_event.specs.declared.ask.Hook.TheVariants.{RequestBody, ResponseHead, ResponseBody}
use Rattle.px_event.specs.declared.command.Command.{Command}
use Rattle.px_event.specs.declared.command.Command.TheVariants as commands
use Rattle.px_event.specs.Chain.{found, found_with}
use Rattle.px_read.specs.Items.{Item, missing, part, complete, bad_head, bad_body, request_item}
use Rattle.px_read.specs.Laws.{head_in}
use Rattle.px_read.specs.Reader.{request, State, to_come, Reads, IsNext, HasStopped}
use Rattle.px_read.specs.declared.head.RequestHead.{RequestHead as ReadRequest}
use Rattle.px_read.specs.declared.head.ResponseHead.{ResponseHead as ReadResponse}
use Rattle.px_read.specs.declared.part.Part.{Part}
use Rattle.px_read.specs.declared.part.Part.TheVariants as parts
use Rattle.px_exchange.specs.declared.asked.Judged.{Judged}
use Rattle.px_exchange.specs.declared.asked.Judged.TheVariants.{Refused, Accepted, Connects}
use Rattle.px_exchange.specs.declared.body.Progress.{Progress}
use Rattle.px_exchange.specs.declared.body.Progress.TheVariants as progress
use Rattle.px_exchange.specs.declared.ending.Used.{Used}
use Rattle.px_exchange.specs.declared.terms.Terms.{Terms}
use Rattle.px_event.specs.View.{View, seen_of}
use Rattle.px_write.specs.Error.{fault_message}
use Rattle.px_exchange.specs.Bodies.{HasRead, IsReading, stop_of}
use Rattle.px_exchange.specs.Endings.{closed_message, ends_by_fault, ends_early, shut_server, without_response}
use Rattle.px_exchange.specs.Finds.{is_relayed, look_head, or_leaves}
use Rattle.px_exchange.specs.Flows.{ask_of, response_of, with_answer, with_body, with_returned}
use Rattle.px_exchange.specs.Places.{dialled_for}
use Rattle.px_exchange.specs.Requests.{expects, flow_of, is_http11, judged}
use Rattle.px_chain.specs.Chain.{Connect, behind, connect_in, given_at, look, waits_at}
use Rattle.px_chain.specs.Sights.{Sight}
use Rattle.px_chain.specs.Stages.{At, Stage}
use Rattle.px_stream.specs.declared.coming.Held.{Held}
use Rattle.px_stream.specs.declared.going.HeldRequest.{HeldRequest}
use Rattle.px_stream.specs.declared.going.Sending.{Sending}
use Rattle.px_stream.specs.declared.going.Sending.TheVariants as sending
use Rattle.px_stream.specs.declared.link.Link.{Link}
use Rattle.px_stream.specs.declared.phase.Asked.TheVariants as asked
use Rattle.px_stream.specs.declared.phase.Phase.{Phase}
use Rattle.px_stream.specs.declared.phase.Phase.TheVariants as phase
use Rattle.px_stream.specs.declared.phase.Wanted.{Wanted}
use Rattle.px_stream.specs.declared.phase.Wanted.TheVariants as ready
use Rattle.px_stream.specs.declared.reading.FinalHead.{FinalHead}
use Rattle.px_stream.specs.declared.reading.FinalHead.TheVariants as answer
use Rattle.px_stream.specs.Responses.{GaveOne, IsKept, ReadsHead}
use Rattle.px_stream.specs.Stands.{IsOpen, PhaseAt, StaysOpen, marks_at}

-- nothing more comes
abbrev pub is_over : Phase
is_over = phase.Ready ready.Over

-- it waits, unless the client has closed; then this is owed
abbrev pub unless_left : Bool → Wanted → Phase
unless_left true looks = is_over
unless_left false looks = phase.Ready looks

abbrev pub where_left : Bool → List Command → List Command
where_left true owed = owed
where_left false owed = []

-- ---- a request's head

abbrev pub judged_phase : Terms → ℕ → ReadRequest → Judged → ℕ → Phase
judged_phase terms index head (Refused fault) moment = is_over
judged_phase terms index head (Accepted message) moment = phase.Asked (asked.Idle (flow_of terms index message moment) (expects head))
judged_phase terms index head (Connects address) moment = phase.Ready (ready.Connects address)

abbrev pub head_phase : Terms → ℕ → Item ReadRequest → ℕ → Bool → Phase
head_phase terms index missing moment closed = unless_left closed ready.Idle
head_phase terms index (part head body) moment closed = judged_phase terms index head (judged terms.place head) moment
head_phase terms index (complete head body trailers used) moment closed = judged_phase terms index head (judged terms.place head) moment
head_phase terms index (bad_head fault) moment closed = is_over
head_phase terms index (bad_body fault head body) moment closed = judged_phase terms index head (judged terms.place head) moment

-- a reader gave one part more
pub record GaveNext (old new : State) : Type 0 where
  pub got : Part
  pub next : IsNext got (to_come old)
  pub gives : GaveOne got old new
  pub stopped : HasStopped got new

-- and that is a fault or none
abbrev pub fault_of : Part → Option Fault
fault_of (parts.Bad fault) = Some fault
fault_of got = None

pub record GaveFault (bad : Option Fault) (old new : State) : Type 0 where
  pub gave : GaveNext old new
  pub is_bad : bad ≡ fault_of gave.got

-- Behind the head of a CONNECT its end was read too.
abbrev pub BehindJudged : Judged → State → State → Type 0
BehindJudged (Connects address) old new = GaveNext old new
BehindJudged made old new = new ≡ old

-- Of these bytes the head was read, if one is there; behind a CONNECT the reader keeps what follows.
abbrev pub HeadRead : Option Connect → Item ReadRequest → List ℕ → State → Type 0
HeadRead None item fed new = Reads request (marks_at (head_in item)) fed false new
HeadRead (Some connects) item fed new = (new.rest ≡ drop connects.used fed) × (new.closed ≡ false) × (connects.used ≤ length fed)

pub record HeadFound (terms : Terms) (index : ℕ) (old new : State) (moment : ℕ) (used : Used) (closed : Bool) (out longer : List Command) (next : Phase) : Type 0 where
  pub gives : (fed : List ℕ) → Reads request [] fed false old →
      longer ≡ out ++ found (or_leaves closed (shut_server used) (look_head terms index (request_item fed) moment used closed))
  pub phase : (fed : List ℕ) → Reads request [] fed false old → next ≡ head_phase terms index (request_item fed) moment closed
  pub reads : (fed : List ℕ) → Reads request [] fed false old → HeadRead (connect_in terms.place (request_item fed)) (request_item fed) fed new

-- ---- a request's body: where it is whole its hook is asked, unless a response is given already

abbrev pub whole_gives : Flow → Option Response → ℕ → List Command
whole_gives flow None moment = ask_of flow RequestBody ∷ []
whole_gives flow (Some given) moment = ask_of (given_at (record flow { response = Some given }) moment) ResponseHead ∷ []

abbrev pub whole_phase : Flow → Option Response → ℕ → Phase
whole_phase flow None moment = phase.Asked (asked.RequestBody flow)
whole_phase flow (Some given) moment = phase.Asked (asked.GivenHead (given_at (record flow { response = Some given }) moment))

abbrev pub body_gives : Flow → Option Response → Progress → List ℕ → ℕ → Used → Bool → List Command
body_gives flow given (progress.Whole trailers) content moment used closed = whole_gives (with_body flow content trailers moment) given moment
body_gives flow given (progress.Bad fault) content moment used closed = ends_by_fault flow fault moment used closed
body_gives flow given progress.Missing content moment used closed = where_left closed (ends_early flow closed_message moment used true)

abbrev pub body_phase : Flow → Option Response → Option ℕ → Progress → List ℕ → Option HeldRequest → ℕ → Bool → Phase
body_phase flow given most (progress.Whole trailers) content held moment closed = whole_phase (with_body flow content trailers moment) given moment
body_phase flow given most (progress.Bad fault) content held moment closed = is_over
body_phase flow given most progress.Missing content held moment closed = unless_left closed (ready.RequestBody flow given most content held)

pub record BodyFound (flow : Flow) (given : Option Response) (most : Option ℕ) (content : List ℕ) (held : Option HeldRequest) (old new : State) (moment : ℕ) (used : Used) (closed : Bool) (out longer : List Command) (next : Phase) : Type 0 where
  pub got : Progress
  pub body : List ℕ
  pub read : HasRead got old content new body
  pub gives : longer ≡ out ++ body_gives flow given got body moment used closed
  pub phase : next ≡ body_phase flow given most got body held moment closed

-- ---- a request that goes up, whose response is looked for: its fault is found first

-- its reader gave one part more, where it goes up
abbrev pub UpRead : Sending → Option Fault → State → State → Type 0
UpRead sending.All bad old new = (new ≡ old) × (bad ≡ None)
UpRead (sending.GoingUp sent) bad old new = GaveFault bad old new

-- before a byte of the response was sent
abbrev pub unless_bad : Option Fault → Flow → ℕ → Used → Bool → List Command → List Command
unless_bad None flow moment used closed given = given
unless_bad (Some fault) flow moment used closed given = ends_by_fault flow fault moment used closed

-- and behind one
abbrev pub unless_broken : Option Fault → Flow → ℕ → Used → Bool → List Command → List Command
unless_broken None flow moment used closed given = given
unless_broken (Some fault) flow moment used closed given = ends_early flow (fault_message fault) moment used closed

abbrev pub unless_over : Option Fault → Phase → Phase
unless_over None there = there
unless_over (Some fault) there = is_over

-- ---- the head of the final response

abbrev pub relays : Bool → Flow → ReadResponse → ℕ → Used → Bool → List Command
relays true flow head moment used closed = ask_of (with_answer flow (response_of head) moment) ResponseHead ∷ []
relays false flow head moment used closed = ends_by_fault flow BadResponse moment used closed

abbrev pub relayed_phase : Bool → Flow → ℕ → Sending → ReadResponse → ℕ → Phase
relayed_phase true flow server up head moment = phase.Asked (asked.ResponseHead (with_answer flow (response_of head) moment) server up)
relayed_phase false flow server up head moment = is_over

abbrev pub answer_gives : Flow → FinalHead → ℕ → Used → Bool → List Command
answer_gives flow (answer.Head head) moment used closed = relays (is_relayed head.code) flow head moment used closed
answer_gives flow (answer.Bad fault) moment used closed = ends_by_fault flow fault moment used closed
answer_gives flow answer.Missing moment used closed = where_left closed (ends_early flow closed_message moment used true)

abbrev pub answer_phase : Flow → ℕ → Sending → FinalHead → ℕ → Bool → Phase
answer_phase flow server up (answer.Head head) moment closed = relayed_phase (is_relayed head.code) flow server up head moment
answer_phase flow server up (answer.Bad fault) moment closed = is_over
answer_phase flow server up answer.Missing moment closed = unless_left closed (ready.ResponseHead flow server up)

-- Interim responses are sent on before the fault of a request that goes up is told.
pub record AnswerFound (flow : Flow) (server : ℕ) (up : Sending) (requests later : State) (old new : Option Link) (moment : ℕ) (used : Used) (closed : Bool) (out longer : List Command) (next : Phase) : Type 0 where
  pub bad : Option Fault
  pub up_read : UpRead up bad requests later
  pub got : FinalHead
  pub between : List Command
  pub read : StaysOpen (λ link later. ReadsHead flow.request got (is_http11 flow.request.version) link out later between) old new
  pub gives : longer ≡ between ++ unless_bad bad flow moment used closed (answer_gives flow got moment used closed)
  pub phase : next ≡ unless_over bad (answer_phase flow server up got moment closed)

-- ---- the response's body

abbrev pub returned_gives : Flow → Progress → List ℕ → ℕ → Used → Bool → List Command
returned_gives flow (progress.Whole trailers) content moment used closed = ask_of (with_returned flow content trailers moment) ResponseBody ∷ []
returned_gives flow (progress.Bad fault) content moment used closed = ends_by_fault flow fault moment used closed
returned_gives flow progress.Missing content moment used closed = where_left closed (ends_early (without_response flow) closed_message moment used true)

abbrev pub returned_phase : Flow → ℕ → Sending → Option ℕ → Progress → List ℕ → Option Held → ℕ → Bool → Phase
returned_phase flow server up most (progress.Whole trailers) content held moment closed = phase.Asked (asked.ResponseBody (with_returned flow content trailers moment) server up)
returned_phase flow server up most (progress.Bad fault) content held moment closed = is_over
returned_phase flow server up most progress.Missing content held moment closed = unless_left closed (ready.ResponseBody flow server up most content held)

pub record ReadsMore (got : Progress) (content body : List ℕ) (old new : Link) : Type 0 where
  pub same : new ≡ record old { responses = new.responses }
  pub read : HasRead got old.responses content new.responses body

pub record ReturnFound (flow : Flow) (server : ℕ) (up : Sending) (most : Option ℕ) (content : List ℕ) (held : Option Held) (requests later : State) (old new : Option Link) (moment : ℕ) (used : Used) (closed : Bool) (out longer : List Command) (next : Phase) : Type 0 where
  pub bad : Option Fault
  pub up_read : UpRead up bad requests later
  pub got : Progress
  pub body : List ℕ
  pub read : StaysOpen (ReadsMore got content body) old new
  pub gives : longer ≡ out ++ unless_bad bad flow moment used closed (returned_gives flow got body moment used closed)
  pub phase : next ≡ unless_over bad (returned_phase flow server up most got body held moment closed)

-- ---- the end of a response that is streamed: a fault, or the client's close; nothing is said of it to the client

abbrev pub coming_gives : Flow → Option Progress → ℕ → Used → Bool → List Command
coming_gives flow (Some (progress.Bad fault)) moment used closed = ends_early flow (fault_message fault) moment used closed
coming_gives flow stop moment used closed = where_left closed (ends_early flow closed_message moment used true)

abbrev pub coming_phase : Flow → ℕ → Sending → Response → Option Progress → Bool → Phase
coming_phase flow server up sent (Some (progress.Bad fault)) closed = is_over
coming_phase flow server up sent stop closed = unless_left closed (ready.ComingDown flow server up sent)

-- Its reader gave one part more, by which it stops so.
pub record GaveEnd (stop : Option Progress) (old new : State) : Type 0 where
  pub gave : GaveNext old new
  pub stops : stop ≡ stop_of gave.got

pub record EndsBy (stop : Option Progress) (old new : Link) : Type 0 where
  pub same : new ≡ record old { responses = new.responses }
  pub ends : GaveEnd stop old.responses new.responses

pub record ComingFound (flow : Flow) (server : ℕ) (up : Sending) (sent : Response) (requests later : State) (old new : Option Link) (moment : ℕ) (used : Used) (closed : Bool) (out longer : List Command) (next : Phase) : Type 0 where
  pub bad : Option Fault
  pub up_read : UpRead up bad requests later
  pub stop : Option Progress
  pub read : StaysOpen (EndsBy stop) old new
  pub gives : longer ≡ out ++ unless_broken bad flow moment used closed (coming_gives flow stop moment used closed)
  pub phase : next ≡ unless_over bad (coming_phase flow server up sent stop closed)

-- ---- whatever is looked for

-- something that is given at once
pub record FoundAtOnce (old new : State) (given : List Command) (out longer : List Command) (there next : Phase) : Type 0 where
  pub same : new ≡ old
  pub gives : longer ≡ out ++ given
  pub phase : next ≡ there

-- where nothing more is looked for
abbrev pub Rests : State → State → List Command → List Command → Wanted → Phase → Type 0
Rests old new out longer looked next = FoundAtOnce old new [] out longer (phase.Ready looked) next

-- On terms, at this place, beside the open side, at this moment, and whether the client has closed; what the client's reader, the side and the commands were
-- and are.
abbrev pub LookFound : Terms → At → Used → ℕ → Bool → Wanted → State → State → Option Link → Option Link → List Command → List Command → Phase → Type 0
LookFound terms at used moment closed ready.Idle old new side later out longer next =
    (later ≡ side) × HeadFound terms at.flow old new moment used closed out longer next
LookFound terms at used moment closed (ready.RequestBody flow given most body held) old new side later out longer next =
    (later ≡ side) × BodyFound flow given most body held old new moment used closed out longer next
LookFound terms at used moment closed (ready.Connection flow up) old new side later out longer next = (later ≡ side)
    × FoundAtOnce old new (commands.Dial at.dials (dialled_for terms.place flow.request) None ∷ shut_server used) out longer (phase.Asked (asked.Connection flow at.dials up)) next
LookFound terms at used moment closed (ready.ResponseHead flow server up) old new side later out longer next =
    AnswerFound flow server up old new side later moment used closed out longer next
LookFound terms at used moment closed (ready.ComingDown flow server up sent) old new side later out longer next =
    ComingFound flow server up sent old new side later moment used closed out longer next
LookFound terms at used moment closed (ready.ResponseBody flow server up most body held) old new side later out longer next =
    ReturnFound flow server up most body held old new side later moment used closed out longer next
LookFound terms at used moment closed (ready.GivenHead flow) old new side later out longer next =
    (later ≡ side) × FoundAtOnce old new (ask_of (given_at flow moment) ResponseHead ∷ []) out longer (phase.Asked (asked.GivenHead (given_at flow moment))) next
LookFound terms at used moment closed (ready.GivenBody flow) old new side later out longer next =
    (later ≡ side) × FoundAtOnce old new (ask_of flow ResponseBody ∷ []) out longer (phase.Asked (asked.GivenBody flow)) next
LookFound terms at used moment closed looked old new side later out longer next = (later ≡ side) × Rests old new out longer looked next

-- what the readers have to be at
abbrev pub MayLook : Wanted → State → Option Link → Type 0
MayLook (ready.RequestBody flow given most body held) requests side = IsReading requests
MayLook (ready.ResponseHead flow server up) requests side = IsOpen IsKept side
MayLook (ready.ResponseBody flow server up most body held) requests side = IsOpen (λ link. IsReading link.responses) side
MayLook (ready.ComingDown flow server up sent) requests side = IsOpen (λ link. IsReading link.responses) side
MayLook looked requests side = ⊤

-- What was given before and what was added are, in each view, what the stage owes in the sight, but for the close of a parked side of which a byte came, and the phase is that of the stage.
pub record LookedAt (terms : Terms) (at : At) (stage : Stage) (seen : Sight) (requests : State) (side : Option Link) (is_now : Phase) (before out longer : List Command) : Type 0 where
  pub more : List Command
  pub grown : longer ≡ out ++ more
  pub owes : (view : View) → seen_of view (before ++ more) ≡ seen_of view (waits_at terms stage seen ++ found_with (behind stage seen) (look terms stage seen))
  pub phase : PhaseAt (look terms stage seen) terms at requests side is_now stage seen
