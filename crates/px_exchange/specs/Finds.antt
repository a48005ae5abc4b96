-- What is found where a message is awaited, by the item that stands at the front of what has come: the hook that is asked, the
-- end and what is owed at it, or nothing yet.
use Rattle.std.specs.Prelude.{ℕ, Bool, false, not, if◌then◌else◌, List, []}
use Rattle.px_message.specs.Status.{is_status}
use Rattle.px_message.specs.declared.fault.Fault.TheVariants.{BadResponse}
use Rattle.px_message.specs.declared.flow.Flow.{Flow}
use Rattle.px_event.specs.declared.ask.Hook.TheVariants.{RequestHead, RequestBody, ResponseHead, ResponseBody}
use Rattle.px_event.specs.declared.command.Command.{Command}
use Rattle.px_event.specs.Chain.{Look, NotYet, Asks, Ends}
use Rattle.px_read.specs.Items.{Item, missing, part, complete, bad_head, bad_body}
use Rattle.px_read.specs.declared.head.RequestHead.{RequestHead as ReadRequest}
use Rattle.px_read.specs.declared.head.ResponseHead.{ResponseHead as ReadResponse}
use Rattle.px_exchange.specs.declared.asked.Judged.{Judged}
use Rattle.px_exchange.specs.declared.asked.Judged.TheVariants.{Refused, Accepted, Connects}
use Rattle.px_exchange.specs.declared.ending.Used.{Used}
use Rattle.px_exchange.specs.declared.terms.Terms.{Terms}
use Rattle.px_exchange.specs.Endings.{ends_by_fault, refuses}
use Rattle.px_exchange.specs.Requests.{is_head, flow_of, judged}
use Rattle.px_exchange.specs.Flows.{ask_of, with_body, response_of, with_answer, with_returned}

-- the client's close, where nothing else is found
abbrev pub or_leaves : Bool → List Command → Look Command → Look Command
or_leaves closed leaving NotYet = if closed then Ends leaving else NotYet
or_leaves closed leaving found = found

-- what a head gives that stands at the front
-- behind a CONNECT nothing is read as HTTP: the end, and nothing is owed there
abbrev pub look_judged : Terms → ℕ → ReadRequest → Judged → ℕ → Used → Bool → Look Command
look_judged terms index head (Refused fault) moment used closed = Ends (refuses fault (is_head head.method) used closed)
look_judged terms index head (Accepted request) moment used closed = Asks (ask_of (flow_of terms index request moment) RequestHead)
look_judged terms index head (Connects address) moment used closed = Ends []

abbrev pub look_head : Terms → ℕ → Item ReadRequest → ℕ → Used → Bool → Look Command
look_head terms index missing moment used closed = NotYet
look_head terms index (part head body) moment used closed = look_judged terms index head (judged terms.place head) moment used closed
look_head terms index (complete head body trailers size) moment used closed =
    look_judged terms index head (judged terms.place head) moment used closed
look_head terms index (bad_head fault) moment used closed = Ends (refuses fault false used closed)
look_head terms index (bad_body fault head body) moment used closed = look_judged terms index head (judged terms.place head) moment used closed

abbrev pub look_body : Flow → Item ReadRequest → ℕ → Used → Bool → Look Command
look_body flow (complete head body trailers size) moment used closed = Asks (ask_of (with_body flow body.content trailers moment) RequestBody)
look_body flow (bad_body fault head body) moment used closed = Ends (ends_by_fault flow fault moment used closed)
look_body flow _ moment used closed = NotYet

-- a final response has a final status, or the one that switches protocols
abbrev pub is_relayed : ℕ → Bool
is_relayed code = is_status code

abbrev pub look_answer_head : Flow → ReadResponse → ℕ → Used → Bool → Look Command
look_answer_head flow head moment used closed =
    if not (is_relayed head.code) then Ends (ends_by_fault flow BadResponse moment used closed)
    else Asks (ask_of (with_answer flow (response_of head) moment) ResponseHead)

abbrev pub look_answer : Flow → Item ReadResponse → ℕ → Used → Bool → Look Command
look_answer flow missing moment used closed = NotYet
look_answer flow (part head body) moment used closed = look_answer_head flow head moment used closed
look_answer flow (complete head body trailers size) moment used closed = look_answer_head flow head moment used closed
look_answer flow (bad_head fault) moment used closed = Ends (ends_by_fault flow fault moment used closed)
look_answer flow (bad_body fault head body) moment used closed = look_answer_head flow head moment used closed

abbrev pub look_returned : Flow → Item ReadResponse → ℕ → Used → Bool → Look Command
look_returned flow (complete head body trailers size) moment used closed =
    Asks (ask_of (with_returned flow body.content trailers moment) ResponseBody)
look_returned flow (bad_body fault head body) moment used closed = Ends (ends_by_fault flow fault moment used closed)
look_returned flow _ moment used closed = NotYet
