-- What is owed at an end: bytes, then the end of a flow, then closes.
use Rattle.std.proofs.Common.{◌≡◌, ℕ, Bool, true, false, List, [], ◌∷◌, ◌++◌, refl}
use Rattle.px_message.specs.declared.fault.Fault.{Fault}
use Rattle.px_message.specs.declared.fault.Fault.TheVariants.{BadResponse}
use Rattle.px_message.specs.declared.flow.Flow.{Flow}
use Rattle.px_message.specs.declared.response.Response.{Response}
use Rattle.px_event.specs.declared.command.Command.{Command}
use Rattle.px_event.specs.declared.command.Command.TheVariants as commands
use Rattle.px_event.specs.declared.reply.Reply.{Reply}
use Rattle.px_event.specs.declared.reply.Reply.TheVariants as reply
use Rattle.px_event.specs.Chain.{Look, NotYet, Asks, Ends}
use Rattle.px_read.specs.Items.{Item, missing, part, complete, bad_head, bad_body}
use Rattle.px_read.specs.declared.head.RequestHead.{RequestHead as ReadRequest}
use Rattle.px_read.specs.declared.head.ResponseHead.{ResponseHead as ReadResponse}
use Rattle.px_exchange.specs.declared.asked.Judged.{Judged}
use Rattle.px_exchange.specs.declared.asked.Judged.TheVariants.{Refused, Accepted, Connects}
use Rattle.px_exchange.specs.declared.ending.Used.{Used}
use Rattle.px_exchange.specs.declared.ending.Used.TheVariants.{NoServer, ByServer}
use Rattle.px_exchange.specs.declared.place.Place.{Place}
use Rattle.px_exchange.specs.declared.terms.Terms.{Terms}
use Rattle.px_exchange.specs.Finds.{or_leaves, look_head, look_judged, look_body, look_answer, look_answer_head, look_returned, is_relayed}
use Rattle.px_exchange.specs.Texts.{meets_expectation}
use Rattle.px_exchange.specs.Endings.{shut_server, shut_client, shut_all, shut_unless, ends_early, ends_by_fault, refuses, finished}
use Rattle.px_exchange.specs.EndOrder.{EndsInOrder, FoundInOrder, OnlyCloses}
use Rattle.px_exchange.specs.Requests.{is_head, judged}
use Rattle.px_exchange.specs.Dials.{dial_owes}

-- ---- ends

pub closes_both : (xs ys : List Command) → OnlyCloses xs → OnlyCloses ys → OnlyCloses (xs ++ ys)
closes_both [] ys all more = more
closes_both (commands.Close side ∷ xs) ys all more = closes_both xs ys all more
closes_both (commands.Send side bytes ∷ xs) ys all more = absurd all
closes_both (commands.Dial server address inside ∷ xs) ys all more = absurd all
closes_both (commands.Ask ask flow ∷ xs) ys all more = absurd all
closes_both (commands.Done flow ∷ xs) ys all more = absurd all

pub client_closes : (closed : Bool) → OnlyCloses (shut_client closed)
client_closes true = tt
client_closes false = tt

pub server_closes : (used : Used) → OnlyCloses (shut_server used)
server_closes NoServer = tt
server_closes (ByServer number true) = tt
server_closes (ByServer number false) = tt

pub all_close : (used : Used) (closed : Bool) → OnlyCloses (shut_all used closed)
all_close used closed = closes_both (shut_server used) (shut_client closed) (server_closes used) (client_closes closed)

-- closes alone end no flow
pub closes_end : (l : List Command) → OnlyCloses l → EndsInOrder l
closes_end [] all = tt
closes_end (commands.Close side ∷ l) all = all
closes_end (commands.Send side bytes ∷ l) all = absurd all
closes_end (commands.Dial server address inside ∷ l) all = absurd all
closes_end (commands.Ask ask flow ∷ l) all = absurd all
closes_end (commands.Done flow ∷ l) all = absurd all

pub early_ends : (flow : Flow) (message : List ℕ) (moment : ℕ) (used : Used) (closed : Bool) → EndsInOrder (ends_early flow message moment used closed)
early_ends flow message moment used closed = all_close used closed

pub fault_ends : (flow : Flow) (fault : Fault) (moment : ℕ) (used : Used) (closed : Bool) → EndsInOrder (ends_by_fault flow fault moment used closed)
fault_ends flow fault moment used closed = all_close used closed

pub refuses_ends : (fault : Fault) (asked_head : Bool) (parked : Used) (closed : Bool) → EndsInOrder (refuses fault asked_head parked closed)
refuses_ends fault asked_head parked closed = closes_end (shut_all parked closed) (all_close parked closed)

pub unless_closes : (stays : Bool) (parked : Used) (closed : Bool) → OnlyCloses (shut_unless stays parked closed)
unless_closes true parked closed = tt
unless_closes false parked closed = all_close parked closed

pub finished_ends : (flow : Flow) (response : Response) (used parked : Used) (stays closed : Bool) → EndsInOrder (finished flow response used ++ shut_unless stays parked closed)
finished_ends flow response used parked stays closed =
    closes_both (shut_server used) (shut_unless stays parked closed) (server_closes used) (unless_closes stays parked closed)

-- ---- what a dial's answer brings, and what lets a body come

pub dial_ends : (place : Place) (flow : Flow) (server : ℕ) (answer : Reply) (moment : ℕ) (closed : Bool) → EndsInOrder (dial_owes place flow server answer moment closed)
dial_ends place flow server reply.Dialled moment closed = tt
dial_ends place flow server (reply.Refused fault) moment closed = fault_ends flow fault moment NoServer closed
dial_ends place flow server (reply.Go other stream) moment closed = tt
dial_ends place flow server (reply.Respond given) moment closed = tt
dial_ends place flow server reply.Kill moment closed = tt
dial_ends place flow server reply.Discard moment closed = tt

pub expectation_ends : (expected : Bool) → EndsInOrder (meets_expectation expected)
expectation_ends true = tt
expectation_ends false = tt

-- ---- what is found

pub judged_ends : (terms : Terms) (index : ℕ) (head : ReadRequest) (made : Judged) (moment : ℕ) (parked : Used) (closed : Bool) → FoundInOrder (look_judged terms index head made moment parked closed)
judged_ends terms index head (Refused fault) moment parked closed = refuses_ends fault (is_head head.method) parked closed
judged_ends terms index head (Accepted message) moment parked closed = tt
judged_ends terms index head (Connects address) moment parked closed = tt

pub head_ends : (terms : Terms) (index : ℕ) (item : Item ReadRequest) (moment : ℕ) (parked : Used) (closed : Bool) → FoundInOrder (look_head terms index item moment parked closed)
head_ends terms index missing moment parked closed = tt
head_ends terms index (part head body) moment parked closed = judged_ends terms index head (judged terms.place head) moment parked closed
head_ends terms index (complete head body trailers size) moment parked closed = judged_ends terms index head (judged terms.place head) moment parked closed
head_ends terms index (bad_head fault) moment parked closed = refuses_ends fault false parked closed
head_ends terms index (bad_body fault head body) moment parked closed = judged_ends terms index head (judged terms.place head) moment parked closed

pub body_ends : (flow : Flow) (item : Item ReadRequest) (moment : ℕ) (parked : Used) (closed : Bool) → FoundInOrder (look_body flow item moment parked closed)
body_ends flow missing moment parked closed = tt
body_ends flow (part head body) moment parked closed = tt
body_ends flow (complete head body trailers size) moment parked closed = tt
body_ends flow (bad_head fault) moment parked closed = tt
body_ends flow (bad_body fault head body) moment parked closed = fault_ends flow fault moment parked closed

pub relays_ends : (flow : Flow) (head : ReadResponse) (moment : ℕ) (used : Used) (closed relays : Bool) → is_relayed head.code ≡ relays → FoundInOrder (look_answer_head flow head moment used closed)
relays_ends flow head moment used closed true at = rw at tt
relays_ends flow head moment used closed false at = rw at (fault_ends flow BadResponse moment used closed)

pub answer_ends : (flow : Flow) (item : Item ReadResponse) (moment : ℕ) (used : Used) (closed : Bool) → FoundInOrder (look_answer flow item moment used closed)
answer_ends flow missing moment used closed = tt
answer_ends flow (part head body) moment used closed = relays_ends flow head moment used closed (is_relayed head.code) refl
answer_ends flow (complete head body trailers size) moment used closed = relays_ends flow head moment used closed (is_relayed head.code) refl
answer_ends flow (bad_head fault) moment used closed = fault_ends flow fault moment used closed
answer_ends flow (bad_body fault head body) moment used closed = relays_ends flow head moment used closed (is_relayed head.code) refl

pub returned_ends : (flow : Flow) (item : Item ReadResponse) (moment : ℕ) (used : Used) (closed : Bool) → FoundInOrder (look_returned flow item moment used closed)
returned_ends flow missing moment used closed = tt
returned_ends flow (part head body) moment used closed = tt
returned_ends flow (complete head body trailers size) moment used closed = tt
returned_ends flow (bad_head fault) moment used closed = tt
returned_ends flow (bad_body fault head body) moment used closed = fault_ends flow fault moment used closed

pub leaves_ends : (closed : Bool) (leaves : List Command) (l : Look Command) → EndsInOrder leaves → FoundInOrder l → FoundInOrder (or_leaves closed leaves l)
leaves_ends true leaves NotYet ends is = ends
leaves_ends false leaves NotYet ends is = tt
leaves_ends closed leaves (Asks ask) ends is = is
leaves_ends closed leaves (Ends owed) ends is = is
