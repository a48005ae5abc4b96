-- Commands that ask nothing, what replies that go on over any size are taken for, and what is left to be said in each view.
use Rattle.std.proofs.Common.{◌≡◌, ℕ, suc, Bool, true, false, List, [], ◌∷◌, ◌++◌, Option, Some, None, refl, ap, sym, ◌∙◌, append_assoc}
use Rattle.std.specs.Prelude.{⊤, map}
use Rattle.px_text.specs.Prefix.{IsPrefixOf}
use Rattle.px_message.specs.declared.flow.Flow.{Flow}
use Rattle.px_message.specs.declared.response.Response.{Response}
use Rattle.px_event.specs.declared.command.Command.{Command}
use Rattle.px_event.specs.declared.command.Command.TheVariants as commands
use Rattle.px_event.specs.declared.reply.Reply.{Reply}
use Rattle.px_event.specs.declared.reply.Reply.TheVariants as reply
use Rattle.px_event.specs.declared.side.Side.{Side}
use Rattle.px_event.specs.View.{View, seen_of}
use Rattle.px_event.proofs.Seen.{seen_append}
use Rattle.px_read.specs.declared.head.ResponseHead.{ResponseHead}
use Rattle.px_exchange.specs.declared.ending.Used.{Used}
use Rattle.px_exchange.specs.declared.ending.Used.TheVariants.{NoServer, ByServer}
use Rattle.px_exchange.specs.EndOrder.{EndsInOrder, OnlyCloses}
use Rattle.px_exchange.specs.Endings.{shut_client, shut_server, shut_unless}
use Rattle.px_exchange.specs.Replies.{taken_at_request_body, taken_at_request_head, taken_at_response_body, taken_at_response_head}
use Rattle.px_exchange.specs.Requests.{is_http11}
use Rattle.px_exchange.specs.Texts.{interim_command, sends_on}
use Rattle.px_exchange.specs.declared.taken.Taken.TheVariants as taken
use Rattle.px_exchange.specs.declared.terms.Terms.{Terms}
use Rattle.px_chain.specs.Chain.{so_far, waits_at}
use Rattle.px_chain.specs.Coming.{allowed_by, told_with}
use Rattle.px_chain.specs.Going.{allowed_up_by}
use Rattle.px_chain.specs.Keeping.{shut_by_byte, shut_stray, strays}
use Rattle.px_chain.specs.Sights.{Sight, answers_in}
use Rattle.px_chain.specs.Stages.{Parked, Stage, all_sent, busy, coming_down, connection, given_body, given_head, going_up, idle, next, over, request_body, response_body, response_head, upgraded}
use Rattle.px_said.specs.ClosedForm.{first_flows, said}
use Rattle.px_said.specs.Lines.{AllGoOn, LeavesFlow}
use Rattle.px_said.proofs.ClosedQuiet.{SaysLast, keep_both, said_join, says_strays, takes_request_body as took_request_body, takes_request_head as took_request_head, takes_response_body as took_response_body, takes_response_head as took_response_head}

-- ---- no question

abbrev pub NoQuestion : List Command → Type 0
NoQuestion [] = ⊤
NoQuestion (commands.Ask asked flow ∷ rest) = ⊥
NoQuestion (commands.Dial server address inside ∷ rest) = ⊥
NoQuestion (commands.Send side text ∷ rest) = NoQuestion rest
NoQuestion (commands.Close side ∷ rest) = NoQuestion rest
NoQuestion (commands.Done flow ∷ rest) = NoQuestion rest

-- what goes on with them goes on without them
pub skips : (owed : List Command) → NoQuestion owed → (waits : Bool) (rest : List Command) (replies : List Reply) → AllGoOn waits (owed ++ rest) replies → AllGoOn waits rest replies
skips [] none waits rest replies goes = goes
skips (commands.Ask asked flow ∷ owed) none waits rest replies goes = absurd none
skips (commands.Dial server address inside ∷ owed) none waits rest replies goes = absurd none
skips (commands.Send side text ∷ owed) none waits rest replies goes = skips owed none waits rest replies goes
skips (commands.Close side ∷ owed) none waits rest replies goes = skips owed none waits rest replies goes
skips (commands.Done flow ∷ owed) none waits rest replies goes = skips owed none waits rest replies goes

pub closes_none : (owed : List Command) → OnlyCloses owed → NoQuestion owed
closes_none [] is = tt
closes_none (commands.Close side ∷ owed) is = closes_none owed is
closes_none (commands.Send side text ∷ owed) is = absurd is
closes_none (commands.Done flow ∷ owed) is = absurd is
closes_none (commands.Ask asked flow ∷ owed) is = absurd is
closes_none (commands.Dial server address inside ∷ owed) is = absurd is

-- they say nothing
closes_say : (closes : List Command) → OnlyCloses closes → said closes ≡ []
closes_say [] is = refl
closes_say (commands.Close side ∷ closes) is = closes_say closes is
closes_say (commands.Send side text ∷ closes) is = absurd is
closes_say (commands.Done flow ∷ closes) is = absurd is
closes_say (commands.Ask asked flow ∷ closes) is = absurd is
closes_say (commands.Dial server address inside ∷ closes) is = absurd is

closes_keep : (closes : List Command) → OnlyCloses closes → (more : ℕ) (rest : List Command) → first_flows (suc more) (closes ++ rest) ≡ closes ++ first_flows (suc more) rest
closes_keep [] is more rest = refl
closes_keep (commands.Close side ∷ closes) is more rest = ap (λ l. commands.Close side ∷ l) (closes_keep closes is more rest)
closes_keep (commands.Send side text ∷ closes) is more rest = absurd is
closes_keep (commands.Done flow ∷ closes) is more rest = absurd is
closes_keep (commands.Ask asked flow ∷ closes) is more rest = absurd is
closes_keep (commands.Dial server address inside ∷ closes) is more rest = absurd is

pub ends_none : (owed : List Command) → EndsInOrder owed → NoQuestion owed
ends_none [] is = tt
ends_none (commands.Close side ∷ owed) is = closes_none owed is
ends_none (commands.Send side text ∷ owed) is = ends_none owed is
ends_none (commands.Done flow ∷ owed) is = closes_none owed is
ends_none (commands.Ask asked flow ∷ owed) is = absurd is
ends_none (commands.Dial server address inside ∷ owed) is = absurd is

pub none_both : (a b : List Command) → NoQuestion a → NoQuestion b → NoQuestion (a ++ b)
none_both [] b first second = second
none_both (commands.Ask asked flow ∷ a) b first second = absurd first
none_both (commands.Dial server address inside ∷ a) b first second = absurd first
none_both (commands.Send side text ∷ a) b first second = none_both a b first second
none_both (commands.Close side ∷ a) b first second = none_both a b first second
none_both (commands.Done flow ∷ a) b first second = none_both a b first second

-- ---- texts alone

abbrev pub AllSends : List Command → Type 0
AllSends [] = ⊤
AllSends (commands.Send side text ∷ rest) = AllSends rest
AllSends _ = ⊥

pub sends_none : (owed : List Command) → AllSends owed → NoQuestion owed
sends_none [] is = tt
sends_none (commands.Send side text ∷ owed) is = sends_none owed is
sends_none (commands.Close side ∷ owed) is = absurd is
sends_none (commands.Done flow ∷ owed) is = absurd is
sends_none (commands.Ask asked flow ∷ owed) is = absurd is
sends_none (commands.Dial server address inside ∷ owed) is = absurd is

pub sends_said : (owed : List Command) → AllSends owed → said owed ≡ owed
sends_said [] is = refl
sends_said (commands.Send side text ∷ owed) is = ap (λ l. commands.Send side text ∷ l) (sends_said owed is)
sends_said (commands.Close side ∷ owed) is = absurd is
sends_said (commands.Done flow ∷ owed) is = absurd is
sends_said (commands.Ask asked flow ∷ owed) is = absurd is
sends_said (commands.Dial server address inside ∷ owed) is = absurd is

-- no flow ends among them
pub sends_keep : (owed : List Command) → AllSends owed → (more : ℕ) (rest : List Command) → first_flows (suc more) (owed ++ rest) ≡ owed ++ first_flows (suc more) rest
sends_keep [] is more rest = refl
sends_keep (commands.Send side text ∷ owed) is more rest = ap (λ l. commands.Send side text ∷ l) (sends_keep owed is more rest)
sends_keep (commands.Close side ∷ owed) is more rest = absurd is
sends_keep (commands.Done flow ∷ owed) is more rest = absurd is
sends_keep (commands.Ask asked flow ∷ owed) is more rest = absurd is
sends_keep (commands.Dial server address inside ∷ owed) is more rest = absurd is

interim_sends : (heads : List ResponseHead) → AllSends (map interim_command heads)
interim_sends [] = tt
interim_sends (head ∷ heads) = interim_sends heads

pub interim_if : (knows : Bool) (heads : List ResponseHead) → AllSends (sends_on knows heads)
interim_if true heads = interim_sends heads
interim_if false heads = tt

-- what came of messages, which a stage owes while it waits
pub waits_sends : (terms : Terms) (stage : Stage) (seen : Sight) → AllSends (waits_at terms stage seen)
waits_sends terms (idle at) seen = tt
waits_sends terms (busy at flow (request_body given most)) seen = tt
waits_sends terms (busy at flow (connection how)) seen = tt
waits_sends terms (busy at flow (response_head side all_sent)) seen = interim_if (is_http11 flow.request.version) (answers_in flow.request seen).interim
waits_sends terms (busy at flow (response_head side going_up)) seen = interim_if (is_http11 flow.request.version) (answers_in flow.request seen).interim
waits_sends terms (busy at flow (response_body side all_sent most)) seen = tt
waits_sends terms (busy at flow (response_body side going_up most)) seen = tt
waits_sends terms (busy at flow (coming_down side all_sent)) seen = tt
waits_sends terms (busy at flow (coming_down side going_up)) seen = tt
waits_sends terms (busy at flow (upgraded side)) seen = tt
waits_sends terms (busy at flow given_head) seen = tt
waits_sends terms (busy at flow given_body) seen = tt
waits_sends terms (next at) seen = tt
waits_sends terms over seen = tt

-- ---- with the close of a parked side of which a byte came

byte_closes : (server : ℕ) (bytes : List ℕ) → OnlyCloses (shut_by_byte server bytes)
byte_closes server [] = tt
byte_closes server (byte ∷ bytes) = tt

stray_closes : (parked : Option Parked) (seen : Sight) → OnlyCloses (shut_stray parked seen)
stray_closes None seen = tt
stray_closes (Some parked) seen = byte_closes parked.server seen.server

strays_closes : (stage : Stage) (seen : Sight) → OnlyCloses (strays stage seen)
strays_closes (idle at) seen = stray_closes at.parked seen
strays_closes (busy at flow (request_body given most)) seen = stray_closes at.parked seen
strays_closes (busy at flow (connection how)) seen = stray_closes at.parked seen
strays_closes (busy at flow (response_head side how)) seen = tt
strays_closes (busy at flow (response_body side how most)) seen = tt
strays_closes (busy at flow (coming_down side how)) seen = tt
strays_closes (busy at flow (upgraded side)) seen = tt
strays_closes (busy at flow given_head) seen = stray_closes at.parked seen
strays_closes (busy at flow given_body) seen = stray_closes at.parked seen
strays_closes (next at) seen = stray_closes at.parked seen
strays_closes over seen = tt

-- all that a stage owes so far asks nothing, and ends no flow
pub so_far_none : (terms : Terms) (stage : Stage) (seen : Sight) → NoQuestion (so_far terms stage seen)
so_far_none terms stage seen =
    none_both (strays stage seen) (waits_at terms stage seen) (closes_none (strays stage seen) (strays_closes stage seen)) (sends_none (waits_at terms stage seen) (waits_sends terms stage seen))

pub so_far_keeps : (terms : Terms) (stage : Stage) (seen : Sight) (more : ℕ) (rest : List Command) →
    first_flows (suc more) (so_far terms stage seen ++ rest) ≡ so_far terms stage seen ++ first_flows (suc more) rest
so_far_keeps terms stage seen = keep_both (strays stage seen) (waits_at terms stage seen) (says_strays stage seen).keeps (sends_keep (waits_at terms stage seen) (waits_sends terms stage seen))

-- ---- replies

pub takes_request_head : (flow : Flow) (value : Reply) → LeavesFlow flow value → taken_at_request_head flow.request value ≡ taken.GoesOn flow.request
takes_request_head flow (reply.Go given most) leaves = took_request_head flow (reply.Go given None) (leaves.0, leaves.1, refl)
takes_request_head flow (reply.Respond response) leaves = absurd leaves
takes_request_head flow reply.Kill leaves = absurd leaves
takes_request_head flow reply.Discard leaves = absurd leaves
takes_request_head flow reply.Dialled leaves = absurd leaves
takes_request_head flow (reply.Refused fault) leaves = absurd leaves

pub takes_request_body : (flow : Flow) (value : Reply) → LeavesFlow flow value → taken_at_request_body flow.request value ≡ taken.GoesOn flow.request
takes_request_body flow (reply.Go given most) leaves = took_request_body flow (reply.Go given None) (leaves.0, leaves.1, refl)
takes_request_body flow (reply.Respond response) leaves = absurd leaves
takes_request_body flow reply.Kill leaves = absurd leaves
takes_request_body flow reply.Discard leaves = absurd leaves
takes_request_body flow reply.Dialled leaves = absurd leaves
takes_request_body flow (reply.Refused fault) leaves = absurd leaves

pub takes_response_head : (flow : Flow) (response : Response) (value : Reply) → flow.response ≡ Some response → LeavesFlow flow value →
    taken_at_response_head response value ≡ taken.GoesOn response
takes_response_head flow response (reply.Go given most) there leaves = took_response_head flow response (reply.Go given None) there (leaves.0, leaves.1, refl)
takes_response_head flow response (reply.Respond given) there leaves = absurd leaves
takes_response_head flow response reply.Kill there leaves = absurd leaves
takes_response_head flow response reply.Discard there leaves = absurd leaves
takes_response_head flow response reply.Dialled there leaves = absurd leaves
takes_response_head flow response (reply.Refused fault) there leaves = absurd leaves

pub takes_response_body : (flow : Flow) (response : Response) (value : Reply) → flow.response ≡ Some response → LeavesFlow flow value →
    taken_at_response_body response value ≡ taken.GoesOn response
takes_response_body flow response (reply.Go given most) there leaves = took_response_body flow response (reply.Go given None) there (leaves.0, leaves.1, refl)
takes_response_body flow response (reply.Respond given) there leaves = absurd leaves
takes_response_body flow response reply.Kill there leaves = absurd leaves
takes_response_body flow response reply.Discard there leaves = absurd leaves
takes_response_body flow response reply.Dialled there leaves = absurd leaves
takes_response_body flow response (reply.Refused fault) there leaves = absurd leaves

-- the size that a reply to a response's head allows
pub allows_down : (streams : Bool) (flow : Flow) (response : Response) (value : Reply) → flow.response ≡ Some response → LeavesFlow flow value →
    allowed_by streams value ≡ allowed_up_by streams value
allows_down true flow response (reply.Go given most) there leaves = ap (λ o. told_with o most) (leaves.1 ∙ there)
allows_down false flow response (reply.Go given most) there leaves = refl
allows_down streams flow response (reply.Respond given) there leaves = absurd leaves
allows_down streams flow response reply.Kill there leaves = absurd leaves
allows_down streams flow response reply.Discard there leaves = absurd leaves
allows_down streams flow response reply.Dialled there leaves = absurd leaves
allows_down streams flow response (reply.Refused fault) there leaves = absurd leaves

-- ---- what is left

-- all that is said is, in each view, what was said and what is left
pub record Rest (all sent left : List Command) : Type 0 where
  pub seen : (view : View) → seen_of view all ≡ seen_of view (said sent) ++ seen_of view left

pub rest_is : (all sent before left : List Command) → Rest all sent before → before ≡ left → Rest all sent left
rest_is all sent before left rest is = record { seen = λ view. rest.seen view ∙ ap (λ l. seen_of view (said sent) ++ seen_of view l) is }

-- what was said, with more behind it, and what is left then
pub rest_on : (all sent more texts before left : List Command) → Rest all sent before → said more ≡ texts → before ≡ texts ++ left → Rest all (sent ++ more) left
rest_on all sent more texts before left rest more_is before_is = record {
  seen = λ view.
      rest.seen view
      ∙ (ap (λ l. seen_of view (said sent) ++ seen_of view l) before_is
      ∙ (ap (λ l. seen_of view (said sent) ++ l) (seen_append view texts left ∙ ap (λ l. seen_of view l ++ seen_of view left) (sym more_is))
      ∙ (sym (append_assoc (seen_of view (said sent)) (seen_of view (said more)) (seen_of view left))
      ∙ ap (λ l. l ++ seen_of view left) (sym (ap (seen_of view) (said_join sent more) ∙ seen_append view (said sent) (said more))))));
}

-- behind commands that say nothing
pub rest_behind : (all sent quiet more texts before left : List Command) → Rest all sent before → said quiet ≡ [] → said more ≡ texts → before ≡ texts ++ left → Rest all (sent ++ (quiet ++ more)) left
rest_behind all sent quiet more texts before left rest none more_is before_is =
    rest_on all sent (quiet ++ more) texts before left rest (said_join quiet more ∙ (ap (λ l. l ++ said more) none ∙ more_is)) before_is

pub seen_front : (texts left : List Command) → IsPrefixOf texts left → (view : View) → IsPrefixOf (seen_of view texts) (seen_of view left)
seen_front texts left (more, is) view = (seen_of view more, ap (seen_of view) is ∙ seen_append view texts more)

-- what says the same leaves the same
pub rest_said : (all a b left : List Command) → said a ≡ said b → Rest all a left → Rest all b left
rest_said all a b left is rest = record { seen = λ view. rest.seen view ∙ ap (λ l. seen_of view l ++ seen_of view left) is }

-- ---- the end of a flow

-- commands that say this, and end one flow
pub record SaysEnd (owed texts : List Command) : Type 0 where
  pub is : said owed ≡ texts
  pub last : (rest : List Command) → said (first_flows 1 (owed ++ rest)) ≡ texts
  pub keeps : (more : ℕ) (rest : List Command) → first_flows (suc (suc more)) (owed ++ rest) ≡ owed ++ first_flows (suc more) rest

pub end_of : (owed texts : List Command) → SaysLast owed texts → SaysEnd owed texts
end_of owed texts says = record { is = says.is; last = says.last; keeps = says.keeps }

-- behind texts
pub end_behind : (first owed texts : List Command) → AllSends first → SaysEnd owed texts → SaysEnd (first ++ owed) (first ++ texts)
end_behind first owed texts sends says = record {
  is = said_join first owed ∙ (ap (λ l. l ++ said owed) (sends_said first sends) ∙ ap (λ l. first ++ l) says.is);
  last = λ rest. ap said (ap (first_flows 1) (append_assoc first owed rest) ∙ sends_keep first sends 0 (owed ++ rest))
      ∙ (said_join first (first_flows 1 (owed ++ rest))
      ∙ (ap (λ l. l ++ said (first_flows 1 (owed ++ rest))) (sends_said first sends) ∙ ap (λ l. first ++ l) (says.last rest)));
  keeps = λ more rest. ap (first_flows (suc (suc more))) (append_assoc first owed rest)
      ∙ (sends_keep first sends (suc more) (owed ++ rest)
      ∙ (ap (λ l. first ++ l) (says.keeps more rest) ∙ sym (append_assoc first owed (first_flows (suc more) rest))));
}

-- a text, the flow, and closes
pub done_said : (side : Side) (text : List ℕ) (flow : Flow) (closes : List Command) → OnlyCloses closes →
    SaysEnd (commands.Send side text ∷ commands.Done flow ∷ closes) (commands.Send side text ∷ [])
done_said side text flow closes is = record {
  is = ap (λ l. commands.Send side text ∷ l) (closes_say closes is);
  last = λ rest. refl;
  keeps = λ more rest. ap (λ l. commands.Send side text ∷ commands.Done flow ∷ l) (closes_keep closes is more rest);
}

pub server_closes : (used : Used) → OnlyCloses (shut_server used)
server_closes NoServer = tt
server_closes (ByServer number true) = tt
server_closes (ByServer number false) = tt

pub closes_both : (a b : List Command) → OnlyCloses a → OnlyCloses b → OnlyCloses (a ++ b)
closes_both [] b first second = second
closes_both (commands.Close side ∷ a) b first second = closes_both a b first second
closes_both (commands.Send side text ∷ a) b first second = absurd first
closes_both (commands.Done flow ∷ a) b first second = absurd first
closes_both (commands.Ask asked flow ∷ a) b first second = absurd first
closes_both (commands.Dial server address inside ∷ a) b first second = absurd first

client_closes : (closed : Bool) → OnlyCloses (shut_client closed)
client_closes true = tt
client_closes false = tt

pub unless_closes : (stays : Bool) (used : Used) (closed : Bool) → OnlyCloses (shut_unless stays used closed)
unless_closes true used closed = tt
unless_closes false used closed = closes_both (shut_server used) (shut_client closed) (server_closes used) (client_closes closed)
