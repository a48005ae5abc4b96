-- Where a conversation stands whose replies go on: what is left of all that is said in its closed form.
use Rattle.std.proofs.Common.{◌≡◌, ℕ, suc, false, ◌≤◌, List, ◌++◌, drop, Option, Some, None, refl, ap, sym, ◌∙◌, append_assoc}
use Rattle.std.specs.Prelude.{take}
use Rattle.px_message.specs.declared.fault.Fault.{Fault}
use Rattle.px_message.specs.declared.flow.Flow.{Flow}
use Rattle.px_message.specs.declared.request.Request.{Request}
use Rattle.px_message.specs.declared.response.Response.{Response}
use Rattle.px_event.specs.declared.command.Command.{Command}
use Rattle.px_event.specs.declared.event.Event.{Event}
use Rattle.px_event.specs.declared.reply.Reply.{Reply}
use Rattle.px_event.specs.declared.side.Side.TheVariants.{Client}
use Rattle.px_event.specs.Chain.{Timed}
use Rattle.px_read.specs.Items.{Answers, Item, request_item}
use Rattle.px_read.specs.Laws.{head_in}
use Rattle.px_read.specs.declared.head.RequestHead.{RequestHead}
use Rattle.px_read.specs.declared.head.ResponseHead.{ResponseHead}
use Rattle.px_exchange.specs.declared.asked.Judged.TheVariants.{Accepted}
use Rattle.px_exchange.specs.declared.terms.Terms.{Terms}
use Rattle.px_exchange.specs.Flows.{response_of}
use Rattle.px_exchange.specs.Requests.{is_head, judged}
use Rattle.px_said.specs.ClosedForm.{Point, answers_at, dial_answers, request_is_whole, request_items, response_is_whole, said, said_answers, said_by, said_from, said_on, said_returned, said_whole}
use Rattle.px_chain.specs.Behind.{used_behind}
use Rattle.px_chain.specs.Sights.{UsedBytes}
use Rattle.px_chain.specs.Stages.{At, Doing, Stage, all_sent, busy, connection, idle, next, over, request_body, response_body, response_head, side_parked, unparked, upgraded}
use Rattle.px_chain.specs.Streams.{bytes_of}
use Rattle.px_said.proofs.ClosedFronts.{Waits}
use Rattle.px_said.proofs.ClosedItems.{items_after}
use Rattle.px_said.proofs.ClosedQuiet.{said_join}

-- What was said, with more behind it, and what is left then.
pub goes_further : (all sent more texts before left : List Command) → all ≡ said sent ++ before → said more ≡ texts → before ≡ texts ++ left →
    all ≡ said (sent ++ more) ++ left
goes_further all sent more texts before left is more_is before_is =
    let on : said (sent ++ more) ≡ said sent ++ texts = said_join sent more ∙ ap (λ l. said sent ++ l) more_is in
    is ∙ (ap (λ l. said sent ++ l) before_is ∙ (sym (append_assoc (said sent) texts left) ∙ ap (λ l. l ++ left) (sym on)))

-- where the request of this flow stands, behind so many bytes, with its server's side, if one is parked, heard behind so many events
abbrev pub standing : At → ℕ → UsedBytes → ℕ → List (Option Fault) → Point
standing at opened used from dials = record {
  flow = at.flow;
  server = at.dials;
  bytes = used.client;
  events = from;
  dials = dials;
  parked = at.parked;
  opened = opened;
  used = used_behind false (side_parked at.parked) used.server;
}

-- of no side no bytes were used, and so it stays
pub none_used : (side : Option ℕ) (used : ℕ) → used_behind false side (used_behind false side used) ≡ used_behind false side used
none_used None used = refl
none_used (Some side) used = refl

-- all that is said, whatever it is
module _ (terms : Terms) (events : List (Timed Event)) (all : List Command) where
  -- the client's bytes, and what is left behind so many of them
  abbrev pub all_bytes : List ℕ
  all_bytes = bytes_of Client events

  abbrev pub items_behind : ℕ → List (Item RequestHead)
  items_behind bytes = request_items (drop bytes all_bytes)

  -- what is said of so many requests behind so many bytes, and of those behind the first of them
  abbrev pub further_behind : ℕ → ℕ → Point → List Command
  further_behind flows bytes there = said_from terms events there (take flows (items_behind bytes))

  abbrev pub further_after : ℕ → ℕ → Point → List Command
  further_after flows bytes there = said_from terms events there (take flows (items_after (drop bytes all_bytes)))

  -- the responses of its server
  abbrev pub told : ℕ → ℕ → ℕ → Request → Answers
  told side opened used asked = answers_at events side opened used (is_head asked.method)

  -- ---- where it stands, over so many events, with these replies left, and with so many flows behind this one

  module _ (flows : ℕ) where
    -- what is said behind its response, where the request went to its server over so many events
    abbrev pub behind_answer : At → ℕ → ℕ → UsedBytes → ℕ → ℕ → Request → List Reply → Response → List Command
    behind_answer at side opened used went from asked left =
        said_on terms.place events (standing (unparked at) opened used from (dial_answers left)) (record { server = side; opened = opened; used = used.server; went = went })
        (further_behind flows used.client) asked

    -- between two requests: the next one is not whole over fewer
    pub record Between (at : At) (opened : ℕ) (used : UsedBytes) (come : ℕ) (sent : List Command) (left : List Reply) : Type 0 where
      pub from : ℕ
      pub within : from ≤ come
      pub waits : Waits (request_is_whole events used.client) from come
      pub rest : all ≡ said sent ++ further_behind (suc flows) used.client (standing at opened used from (dial_answers left))

    -- a request's body is awaited
    pub record Begun (at : At) (asked : Request) (opened : ℕ) (used : UsedBytes) (come : ℕ) (sent : List Command) (left : List Reply) : Type 0 where
      pub from : ℕ
      pub within : from ≤ come
      pub waits : Waits (request_is_whole events used.client) from come
      pub head : RequestHead
      pub there : head_in (request_item (drop used.client all_bytes)) ≡ Some head
      pub accepted : judged terms.place head ≡ Accepted asked
      pub rest : all ≡ said sent
          ++ said_whole terms events (standing at opened used from (dial_answers left)) asked (request_item (drop used.client all_bytes)) (further_after flows used.client)

    -- the connection to its server, and nothing is parked any more
    pub record Connecting (at : At) (asked : Request) (opened : ℕ) (used : UsedBytes) (come : ℕ) (sent : List Command) (left : List Reply) : Type 0 where
      pub from : ℕ
      pub rest : all ≡ said sent
          ++ said_by terms events (standing (unparked at) opened used from (dial_answers left)) asked come None (further_behind flows used.client)

    -- the request was sent on, over so many events, and its response is not whole over fewer
    pub record Onward (asked : Request) (side opened used went come : ℕ) : Type 0 where
      pub within : went ≤ come
      pub waits : Waits (response_is_whole events side opened used (is_head asked.method)) went come

    -- its final response is awaited
    pub record Answering (at : At) (asked : Request) (side opened : ℕ) (used : UsedBytes) (come : ℕ) (sent : List Command) (left : List Reply) : Type 0 where
      pub went : ℕ
      pub onward : Onward asked side opened used.server went come
      pub from : ℕ
      pub rest : all ≡ said sent ++ said_answers asked (told side opened used.server asked) (behind_answer at side opened used went from asked left)

    -- and that response's body
    pub record Returning (at : At) (flow : Flow) (side opened : ℕ) (used : UsedBytes) (come : ℕ) (sent : List Command) (left : List Reply) : Type 0 where
      pub went : ℕ
      pub onward : Onward flow.request side opened used.server went come
      pub from : ℕ
      pub head : ResponseHead
      pub final : head_in (told side opened used.server flow.request).final ≡ Some head
      pub response : flow.response ≡ Some (response_of head)
      pub rest : all ≡ said sent
          ++ said_returned flow.request (told side opened used.server flow.request).final (behind_answer at side opened used went from flow.request left)

    -- it has ended, and all was said
    pub record Ended (sent : List Command) : Type 0 where
      pub is_all : all ≡ said sent

    abbrev pub IsDoing : At → Flow → Doing → ℕ → UsedBytes → ℕ → List Command → List Reply → Type 0
    IsDoing at flow (request_body None None) opened used come sent left = Begun at flow.request opened used come sent left
    IsDoing at flow (connection all_sent) opened used come sent left = Connecting at flow.request opened used come sent left
    IsDoing at flow (response_head side all_sent) opened used come sent left = Answering at flow.request side opened used come sent left
    IsDoing at flow (response_body side all_sent None) opened used come sent left = Returning at flow side opened used come sent left
    IsDoing at flow (upgraded side) opened used come sent left = Ended sent
    IsDoing at flow _ opened used come sent left = ⊥

    abbrev pub IsAt : Stage → ℕ → UsedBytes → ℕ → List Command → List Reply → Type 0
    IsAt (idle at) opened used come sent left = Between at opened used come sent left
    IsAt (busy at flow doing) opened used come sent left = IsDoing at flow doing opened used come sent left
    IsAt (next at) opened used come sent left = ⊥
    IsAt over opened used come sent left = Ended sent
