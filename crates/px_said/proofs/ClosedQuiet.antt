-- What commands say, and whether they ask; and what replies that go on are taken for.
use Rattle.std.proofs.Common.{◌≡◌, ℕ, zero, suc, Bool, true, false, ◌==◌, List, [], ◌∷◌, ◌++◌, Option, Some, refl, ap, sym, ◌∙◌, subst, append_assoc, None}
use Rattle.std.specs.Prelude.{map, ◌&&◌, not, Result, Ok, Err}
use Rattle.std.proofs.lemmas.Grind.{flat_map-append}
use Rattle.px_message.specs.declared.fault.Fault.{Fault}
use Rattle.px_message.specs.declared.flow.Flow.{Flow}
use Rattle.px_message.specs.declared.request.Request.{Request}
use Rattle.px_message.specs.declared.response.Response.{Response}
use Rattle.px_event.specs.declared.command.Command.{Command}
use Rattle.px_event.specs.declared.command.Command.TheVariants as commands
use Rattle.px_event.specs.declared.reply.Reply.{Reply}
use Rattle.px_event.specs.declared.reply.Reply.TheVariants as reply
use Rattle.px_event.specs.declared.side.Side.{Side}
use Rattle.px_event.specs.declared.side.Side.TheVariants.{Client}
use Rattle.px_read.specs.declared.head.ResponseHead.{ResponseHead}
use Rattle.px_write.specs.Error.{error_text, fault_message}
use Rattle.px_exchange.specs.declared.ending.Used.{Used}
use Rattle.px_exchange.specs.declared.ending.Used.TheVariants.{NoServer, ByServer}
use Rattle.px_exchange.specs.declared.taken.Taken.TheVariants as taken
use Rattle.px_exchange.specs.EndOrder.{EndsInOrder, OnlyCloses}
use Rattle.px_exchange.specs.Endings.{ends_by_fault, ends_early, finished, refuses, shut_all, shut_client, shut_server, shut_unless, with_error, without_response}
use Rattle.px_exchange.specs.Replies.{taken_at_request_body, taken_at_request_head, taken_at_response_body, taken_at_response_head, upgrades_as}
use Rattle.px_exchange.specs.Texts.{interim_command, interim_commands, meets_expectation, returned_text, sends_on}
use Rattle.px_exchange.specs.Requests.{is_head, is_http11}
use Rattle.px_said.specs.ClosedForm.{GoesOn, KeepsFlow, dial_answers, fault_said, first_flows, said, said_of}
use Rattle.px_message.specs.declared.length.Length.{Length}
use Rattle.px_message.specs.Length.{has_no_body}
use Rattle.px_read.specs.Items.{request_item, response_item}
use Rattle.px_read.specs.Laws.{head_in}
use Rattle.px_parts.specs.Streamed.{request_says, response_says, streamed_by, streams_behind}
use Rattle.px_parts.specs.Texts.{final_bytes}
use Rattle.px_chain.specs.Coming.{allowed_by, streams_by, streams_in, told_with}
use Rattle.px_chain.specs.Keeping.{shut_by_byte, shut_stray, strays}
use Rattle.px_chain.specs.Stages.{At, Doing, Parked, Stage, busy, coming_down, connection, given_body, given_head, idle, next, over, request_body, response_body, response_head, upgraded}
use Rattle.px_chain.specs.Going.{allowed_up_by, goes_up}
use Rattle.px_chain.specs.Sights.{Sight}

pub said_join : (a b : List Command) → said (a ++ b) ≡ said a ++ said b
said_join a b = flat_map-append said_of a b

-- no question among them: what goes on with them goes on without them
abbrev pub Skips : List Command → Type 0
Skips owed = (waits : Bool) (rest : List Command) (replies : List Reply) → GoesOn waits (owed ++ rest) replies → GoesOn waits rest replies

pub skip_both : (a b : List Command) → Skips a → Skips b → Skips (a ++ b)
skip_both a b first second waits rest replies goes =
    let P : List Command → Type 0 = λ l. GoesOn waits l replies in
    second waits rest replies (first waits (b ++ rest) replies (subst P (append_assoc a b rest) goes))

-- no flow ends among them
abbrev pub Keeps : List Command → Type 0
Keeps owed = (more : ℕ) (rest : List Command) → first_flows (suc more) (owed ++ rest) ≡ owed ++ first_flows (suc more) rest

pub keep_both : (a b : List Command) → Keeps a → Keeps b → Keeps (a ++ b)
keep_both a b first second more rest =
    ap (first_flows (suc more)) (append_assoc a b rest) ∙ (first more (b ++ rest) ∙ (ap (λ l. a ++ l) (second more rest) ∙ sym (append_assoc a b _)))

-- commands that say this, and ask nothing, among which no flow ends
pub record Says (owed texts : List Command) : Type 0 where
  pub is : said owed ≡ texts
  pub skips : Skips owed
  pub keeps : Keeps owed

-- the replies to what follows go on
pub goes_behind : (owed texts : List Command) → Says owed texts → (waits : Bool) (more : ℕ) (rest : List Command) (replies : List Reply) →
    GoesOn waits (first_flows (suc more) (owed ++ rest)) replies → GoesOn waits (first_flows (suc more) rest) replies
goes_behind owed texts says waits more rest replies goes =
    let P : List Command → Type 0 = λ l. GoesOn waits l replies in
    says.skips waits (first_flows (suc more) rest) replies (subst P (says.keeps more rest) goes)

-- commands that say this, and end one flow
pub record SaysLast (owed texts : List Command) : Type 0 where
  pub is : said owed ≡ texts
  pub skips : Skips owed
  pub last : (rest : List Command) → said (first_flows 1 (owed ++ rest)) ≡ texts
  pub keeps : (more : ℕ) (rest : List Command) → first_flows (suc (suc more)) (owed ++ rest) ≡ owed ++ first_flows (suc more) rest

says_none : Says [] []
says_none = record { is = refl; skips = λ waits rest replies goes. goes; keeps = λ more rest. refl }

says_both : (a b : List Command) → Says a [] → Says b [] → Says (a ++ b) []
says_both a b first second = record {
  is = said_join a b ∙ (ap (λ l. l ++ said b) first.is ∙ second.is);
  skips = skip_both a b first.skips second.skips;
  keeps = keep_both a b first.keeps second.keeps;
}

-- what is said behind commands that say nothing
pub quiet_said : (quiet owed : List Command) → Says quiet [] → said (quiet ++ owed) ≡ said owed
quiet_said quiet owed none = said_join quiet owed ∙ ap (λ l. l ++ said owed) none.is

-- behind commands that say nothing
says_behind : (quiet owed texts : List Command) → Says quiet [] → Says owed texts → Says (quiet ++ owed) texts
says_behind quiet owed texts none says = record {
  is = said_join quiet owed ∙ (ap (λ l. l ++ said owed) none.is ∙ says.is);
  skips = skip_both quiet owed none.skips says.skips;
  keeps = keep_both quiet owed none.keeps says.keeps;
}

pub says_last_behind : (quiet owed texts : List Command) → Says quiet [] → SaysLast owed texts → SaysLast (quiet ++ owed) texts
says_last_behind quiet owed texts none says =
    let first : (more : ℕ) (rest : List Command) → first_flows (suc more) ((quiet ++ owed) ++ rest) ≡ quiet ++ first_flows (suc more) (owed ++ rest) = λ more rest.
    ap (first_flows (suc more)) (append_assoc quiet owed rest) ∙ none.keeps more (owed ++ rest) in
    record {
      is = said_join quiet owed ∙ (ap (λ l. l ++ said owed) none.is ∙ says.is);
      skips = skip_both quiet owed none.skips says.skips;
      last = λ rest. ap said (first 0 rest)
          ∙ (said_join quiet (first_flows 1 (owed ++ rest)) ∙ (ap (λ l. l ++ said (first_flows 1 (owed ++ rest))) none.is ∙ says.last rest));
      keeps = λ more rest. first (suc more) rest ∙ (ap (λ l. quiet ++ l) (says.keeps more rest) ∙ sym (append_assoc quiet owed (first_flows (suc more) rest)));
    }

-- ---- closes and ends

says_client : (closed : Bool) → Says (shut_client closed) []
says_client true = says_none
says_client false = record { is = refl; skips = λ waits rest replies goes. goes; keeps = λ more rest. refl }

pub says_server : (used : Used) → Says (shut_server used) []
says_server NoServer = says_none
says_server (ByServer number true) = says_none
says_server (ByServer number false) = record { is = refl; skips = λ waits rest replies goes. goes; keeps = λ more rest. refl }

says_all : (used : Used) (closed : Bool) → Says (shut_all used closed) []
says_all used closed = says_both (shut_server used) (shut_client closed) (says_server used) (says_client closed)

says_unless : (stays : Bool) (used : Used) (closed : Bool) → Says (shut_unless stays used closed) []
says_unless true used closed = says_none
says_unless false used closed = says_all used closed

pub early_said : (flow : Flow) (message : List ℕ) (moment : ℕ) (used : Used) (closed : Bool) → said (ends_early flow message moment used closed) ≡ []
early_said flow message moment used closed = (says_all used closed).is

pub says_fault : (flow : Flow) (fault : Fault) (moment : ℕ) (used : Used) (closed : Bool) →
    SaysLast (ends_by_fault flow fault moment used closed) (fault_said fault (is_head flow.request.method))
says_fault flow fault moment used closed =
    let closes = says_all used closed in
    let text : Command = commands.Send Client (error_text fault (is_head flow.request.method)) in
    let done : Command = commands.Done (with_error (without_response flow) (fault_message fault) moment) in
    record {
      is = ap (λ l. text ∷ l) closes.is;
      skips = λ waits rest replies goes. closes.skips waits rest replies goes;
      last = λ rest. refl;
      keeps = λ more rest. ap (λ l. text ∷ done ∷ l) (closes.keeps more rest);
    }

pub refused_said : (fault : Fault) (asked_head : Bool) (used : Used) (closed : Bool) → said (refuses fault asked_head used closed) ≡ fault_said fault asked_head
refused_said fault asked_head used closed =
    let text : Command = commands.Send Client (error_text fault asked_head) in ap (λ l. text ∷ l) (says_all used closed).is

-- a flow that is finished
pub says_finished : (flow : Flow) (response : Response) (used parked : Used) (stays closed : Bool) →
    SaysLast (finished flow response used ++ shut_unless stays parked closed) (commands.Send Client (returned_text flow.request response) ∷ [])
says_finished flow response used parked stays closed =
    let closes = says_both (shut_server used) (shut_unless stays parked closed) (says_server used) (says_unless stays parked closed) in
    let text : Command = commands.Send Client (returned_text flow.request response) in
    let done : Command = commands.Done (record flow { response = Some response }) in
    record {
      is = ap (λ l. text ∷ l) closes.is;
      skips = λ waits rest replies goes. closes.skips waits rest replies goes;
      last = λ rest. refl;
      keeps = λ more rest. ap (λ l. text ∷ done ∷ l) (closes.keeps more rest);
    }

-- a request that is sent on, behind such commands
pub says_sent : (quiet : List Command) (side : Side) (text : List ℕ) → Says quiet [] → Says (quiet ++ commands.Send side text ∷ []) (commands.Send side text ∷ [])
says_sent quiet side text none =
    says_behind quiet (commands.Send side text ∷ []) (commands.Send side text ∷ []) none
    (record { is = refl; skips = λ waits rest replies goes. goes; keeps = λ more rest. refl })

-- ---- a stray byte of a side that is parked: it is closed

says_byte : (server : ℕ) (bytes : List ℕ) → Says (shut_by_byte server bytes) []
says_byte server [] = says_none
says_byte server (byte ∷ more) = record { is = refl; skips = λ waits rest replies goes. goes; keeps = λ more rest. refl }

pub says_stray : (parked : Option Parked) (seen : Sight) → Says (shut_stray parked seen) []
says_stray None seen = says_none
says_stray (Some parked) seen = says_byte parked.server seen.server

says_doing : (at : At) (flow : Flow) (doing : Doing) (seen : Sight) → Says (strays (busy at flow doing) seen) []
says_doing at flow (request_body given most) seen = says_stray at.parked seen
says_doing at flow (connection sent) seen = says_stray at.parked seen
says_doing at flow (response_head server sent) seen = says_none
says_doing at flow (response_body server sent most) seen = says_none
says_doing at flow (coming_down server sent) seen = says_none
says_doing at flow (upgraded server) seen = says_none
says_doing at flow given_head seen = says_stray at.parked seen
says_doing at flow given_body seen = says_stray at.parked seen

pub says_strays : (stage : Stage) (seen : Sight) → Says (strays stage seen) []
says_strays (idle at) seen = says_stray at.parked seen
says_strays (busy at flow doing) seen = says_doing at flow doing seen
says_strays (next at) seen = says_stray at.parked seen
says_strays over seen = says_none

-- a stage that owes nothing else while it waits says nothing
pub says_waiting : (stage : Stage) (seen : Sight) → Says (strays stage seen ++ []) []
says_waiting stage seen = says_both (strays stage seen) [] (says_strays stage seen) says_none

-- ---- interim responses and the expectation

interim_said : (heads : List ResponseHead) → said (map interim_command heads) ≡ map interim_command heads
interim_said [] = refl
interim_said (head ∷ heads) = ap (λ l. interim_command head ∷ l) (interim_said heads)

interim_skip : (heads : List ResponseHead) → Skips (map interim_command heads)
interim_skip [] waits rest replies goes = goes
interim_skip (head ∷ heads) waits rest replies goes = interim_skip heads waits rest replies goes

interim_keep : (heads : List ResponseHead) → Keeps (map interim_command heads)
interim_keep [] more rest = refl
interim_keep (head ∷ heads) more rest = ap (λ l. interim_command head ∷ l) (interim_keep heads more rest)

says_if : (knows : Bool) (heads : List ResponseHead) → Says (sends_on knows heads) (sends_on knows heads)
says_if true heads = record { is = interim_said heads; skips = interim_skip heads; keeps = interim_keep heads }
says_if false heads = says_none

pub says_interim : (message : Request) (heads : List ResponseHead) → Says (interim_commands message heads) (interim_commands message heads)
says_interim message heads = says_if (is_http11 message.version) heads

pub says_expectation : (expected : Bool) → Says (meets_expectation expected) (meets_expectation expected)
says_expectation true = record { is = refl; skips = λ waits rest replies goes. goes; keeps = λ more rest. refl }
says_expectation false = says_none

-- ---- what is found: up to the end of a flow it says the same

pub closes_said : (more : ℕ) (owed : List Command) → OnlyCloses owed → said (first_flows more owed) ≡ []
closes_said zero owed is = refl
closes_said (suc more) [] is = refl
closes_said (suc more) (commands.Close side ∷ owed) is = closes_said (suc more) owed is
closes_said (suc more) (commands.Send side text ∷ owed) is = absurd is
closes_said (suc more) (commands.Done flow ∷ owed) is = absurd is
closes_said (suc more) (commands.Ask asked flow ∷ owed) is = absurd is
closes_said (suc more) (commands.Dial server address inside ∷ owed) is = absurd is

only_closes : (owed : List Command) → OnlyCloses owed → said owed ≡ []
only_closes [] is = refl
only_closes (commands.Close side ∷ owed) is = only_closes owed is
only_closes (commands.Send side text ∷ owed) is = absurd is
only_closes (commands.Done flow ∷ owed) is = absurd is
only_closes (commands.Ask asked flow ∷ owed) is = absurd is
only_closes (commands.Dial server address inside ∷ owed) is = absurd is

pub end_said : (more : ℕ) (owed : List Command) → EndsInOrder owed → said (first_flows (suc more) owed) ≡ said owed
end_said more [] is = refl
end_said more (commands.Send side text ∷ owed) is = ap (λ l. commands.Send side text ∷ l) (end_said more owed is)
end_said more (commands.Done flow ∷ owed) is = closes_said more owed is ∙ sym (only_closes owed is)
end_said more (commands.Close side ∷ owed) is = closes_said (suc more) owed is ∙ sym (only_closes owed is)
end_said more (commands.Ask asked flow ∷ owed) is = absurd is
end_said more (commands.Dial server address inside ∷ owed) is = absurd is

-- ---- the answers of dials

-- a reply that goes on with a flow answers none
pub no_dial : (flow : Flow) (value : Reply) (replies : List Reply) → KeepsFlow flow value → dial_answers (value ∷ replies) ≡ dial_answers replies
no_dial flow (reply.Go given streamed) replies keeps = refl
no_dial flow (reply.Respond response) replies keeps = absurd keeps
no_dial flow reply.Kill replies keeps = absurd keeps
no_dial flow reply.Discard replies keeps = absurd keeps
no_dial flow reply.Dialled replies keeps = absurd keeps
no_dial flow (reply.Refused fault) replies keeps = absurd keeps

-- ---- what a reply that goes on allows

told_none : (given : Option Response) → told_with given None ≡ None
told_none None = refl
told_none (Some response) = refl

-- no body is streamed
pub allows_none : (streams : Bool) (flow : Flow) (value : Reply) → KeepsFlow flow value → allowed_by streams value ≡ None
allows_none true flow (reply.Go given streamed) keeps = ap (told_with given.response) keeps.2 ∙ told_none given.response
allows_none false flow (reply.Go given streamed) keeps = refl
allows_none streams flow (reply.Respond response) keeps = absurd keeps
allows_none streams flow reply.Kill keeps = absurd keeps
allows_none streams flow reply.Discard keeps = absurd keeps
allows_none streams flow reply.Dialled keeps = absurd keeps
allows_none streams flow (reply.Refused fault) keeps = absurd keeps

-- nor one of a request
pub allows_up_none : (streams : Bool) (flow : Flow) (value : Reply) → KeepsFlow flow value → allowed_up_by streams value ≡ None
allows_up_none true flow (reply.Go given streamed) keeps = keeps.2
allows_up_none false flow (reply.Go given streamed) keeps = refl
allows_up_none streams flow (reply.Respond response) keeps = absurd keeps
allows_up_none streams flow reply.Kill keeps = absurd keeps
allows_up_none streams flow reply.Discard keeps = absurd keeps
allows_up_none streams flow reply.Dialled keeps = absurd keeps
allows_up_none streams flow (reply.Refused fault) keeps = absurd keeps

kept_length : (says : Result Length Fault) (heard : ℕ) → streamed_by says None heard ≡ false
kept_length (Ok length) heard = refl
kept_length (Err fault) heard = refl

kept_behind : {H : Type 0} → (says : H → Result Length Fault) (head : Option H) (heard : ℕ) → streams_behind says head None heard ≡ false
kept_behind says None heard = refl
kept_behind says (Some head) heard = kept_length (says head) heard

both_false : (a b : Bool) → b ≡ false → (a && b) ≡ false
both_false true b is = is
both_false false b is = refl

kept_by : (given : Option Response) (message : Request) (closed : Bool) (bytes : List ℕ) → streams_by given message None closed bytes ≡ false
kept_by None message closed bytes = refl
kept_by (Some response) message closed bytes =
    let asked_head : Bool = is_head message.method in
    both_false (not (has_no_body response.status asked_head)) _
    (kept_behind (response_says asked_head) (head_in (response_item asked_head closed (final_bytes asked_head closed bytes))) _)

pub streams_none : (flow : Flow) (seen : Sight) → streams_in flow None seen ≡ false
streams_none flow seen = kept_by flow.response flow.request seen.shut seen.server

pub goes_none : (seen : Sight) → goes_up None seen ≡ false
goes_none seen = kept_behind request_says (head_in (request_item seen.client)) _

-- ---- what a reply that goes on is taken for

pub takes_request_head : (flow : Flow) (value : Reply) → KeepsFlow flow value → taken_at_request_head flow.request value ≡ taken.GoesOn flow.request
takes_request_head flow (reply.Go given streamed) keeps = ap (λ r. taken_at_request_head flow.request (reply.Go (record given { request = r }) streamed)) keeps.0
takes_request_head flow (reply.Respond response) keeps = absurd keeps
takes_request_head flow reply.Kill keeps = absurd keeps
takes_request_head flow reply.Discard keeps = absurd keeps
takes_request_head flow reply.Dialled keeps = absurd keeps
takes_request_head flow (reply.Refused fault) keeps = absurd keeps

pub takes_request_body : (flow : Flow) (value : Reply) → KeepsFlow flow value → taken_at_request_body flow.request value ≡ taken.GoesOn flow.request
takes_request_body flow (reply.Go given streamed) keeps = ap (λ r. taken_at_request_body flow.request (reply.Go (record given { request = r }) streamed)) keeps.0
takes_request_body flow (reply.Respond response) keeps = absurd keeps
takes_request_body flow reply.Kill keeps = absurd keeps
takes_request_body flow reply.Discard keeps = absurd keeps
takes_request_body flow reply.Dialled keeps = absurd keeps
takes_request_body flow (reply.Refused fault) keeps = absurd keeps

by_switch : (response : Response) (switches : Bool) → (response.status == 101) ≡ switches → upgrades_as response response ≡ response
by_switch response true is = rw is refl
by_switch response false is = rw is refl

upgrades_same : (response : Response) → upgrades_as response response ≡ response
upgrades_same response = by_switch response (response.status == 101) refl

pub takes_response_head : (flow : Flow) (response : Response) (value : Reply) → flow.response ≡ Some response →
    KeepsFlow flow value → taken_at_response_head response value ≡ taken.GoesOn response
takes_response_head flow response (reply.Go given streamed) there keeps =
    ap (λ (o : Option Response). taken_at_response_head response (reply.Go (record given { response = o }) streamed)) (keeps.1 ∙ there)
    ∙ ap taken.GoesOn (upgrades_same response)
takes_response_head flow response (reply.Respond given) there keeps = absurd keeps
takes_response_head flow response reply.Kill there keeps = absurd keeps
takes_response_head flow response reply.Discard there keeps = absurd keeps
takes_response_head flow response reply.Dialled there keeps = absurd keeps
takes_response_head flow response (reply.Refused fault) there keeps = absurd keeps

pub takes_response_body : (flow : Flow) (response : Response) (value : Reply) → flow.response ≡ Some response →
    KeepsFlow flow value → taken_at_response_body response value ≡ taken.GoesOn response
takes_response_body flow response (reply.Go given streamed) there keeps =
    ap (λ (o : Option Response). taken_at_response_body response (reply.Go (record given { response = o }) streamed)) (keeps.1 ∙ there)
    ∙ ap taken.GoesOn (upgrades_same response)
takes_response_body flow response (reply.Respond given) there keeps = absurd keeps
takes_response_body flow response reply.Kill there keeps = absurd keeps
takes_response_body flow response reply.Discard there keeps = absurd keeps
takes_response_body flow response reply.Dialled there keeps = absurd keeps
takes_response_body flow response (reply.Refused fault) there keeps = absurd keeps
