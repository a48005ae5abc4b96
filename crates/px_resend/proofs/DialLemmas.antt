-- A request that is sent again dials one server at most, and it is server 0.
use Rattle.std.proofs.Common.{◌≡◌, ℕ, ◌≤◌, Bool, true, false, List, [], ◌∷◌, ◌++◌, Option, Some, None, inl, inr, refl, sym, ap, ◌∙◌, subst, arith}
use Rattle.std.specs.Prelude.{⊤, not, if◌then◌else◌}
use Rattle.std.proofs.lemmas.List.{append-nil}
use Rattle.std.proofs.lemmas.Grind.{flat_map-append}
use Rattle.px_message.specs.declared.address.Address.{Address}
use Rattle.px_message.specs.declared.fault.Fault.{Fault}
use Rattle.px_message.specs.declared.flow.Flow.{Flow}
use Rattle.px_message.specs.declared.request.Request.{Request}
use Rattle.px_message.specs.declared.response.Response.{Response}
use Rattle.px_event.specs.declared.ask.Hook.{Hook}
use Rattle.px_event.specs.declared.ask.Hook.TheVariants.{RequestHead, RequestBody}
use Rattle.px_event.specs.declared.command.Command.{Command}
use Rattle.px_event.specs.declared.command.Command.TheVariants as commands
use Rattle.px_event.specs.declared.event.Event.{Event}
use Rattle.px_event.specs.declared.reply.Reply.{Reply}
use Rattle.px_event.specs.Chain.{Timed, Look, NotYet, Asks, Ends, Turn, found}
use Rattle.px_event.specs.Layer.{Move}
use Rattle.px_event.specs.Stands.{events_in, replies_in}
use Rattle.px_read.specs.Items.{Item, missing, part, complete, bad_head, bad_body}
use Rattle.px_read.specs.declared.head.RequestHead.{RequestHead as ReadRequest}
use Rattle.px_read.specs.declared.head.ResponseHead.{ResponseHead as ReadResponse}
use Rattle.px_exchange.specs.declared.ending.Used.{Used}
use Rattle.px_exchange.specs.declared.taken.Taken.{Taken}
use Rattle.px_exchange.specs.declared.taken.Taken.TheVariants.{GoesOn, Responds, Kills}
use Rattle.px_exchange.specs.declared.terms.Terms.{Terms}
use Rattle.px_exchange.specs.Finds.{is_relayed, look_answer, look_answer_head, look_returned, or_leaves}
use Rattle.px_exchange.specs.Flows.{ask_of}
use Rattle.px_exchange.specs.Replies.{taken_at_request_head, taken_at_request_body}
use Rattle.px_chain.specs.Chain.{bad_or, look as look_of, look_coming, look_up, pass as pass_of, sequence, turn as turn_of}
use Rattle.px_chain.specs.Left.{stage_left}
use Rattle.px_chain.specs.Sights.{Sight, answers_in, request_in, server_in, sight_over}
use Rattle.px_chain.specs.Stages.{At, Sent, all_sent, busy, coming_down, connection, given_body, given_head, going_up, idle, next, request_body, response_body, response_head, upgraded}
use Rattle.px_chain.specs.Stages as flows
use Rattle.px_chain.proofs.Quiet.{AllQuiet, LooksQuiet, any_flow}
use Rattle.px_chain.proofs.QuietLemmas.{IsGoing, pass_quiet, turn_behind, turn_quiet}
use Rattle.px_stream.specs.Anywhere.{doing_by}
use Rattle.px_resend.specs.Chain.{Stage, asks_head, asks_whole, first_at, goes_on, look_by, over, pass, resend_chain, terms_by, to_servers_in, turn_head, turn_whole, waiting}
use Rattle.px_resend.specs.Dialled.{IsFirstAlone, dial_in, dials_in}
use Rattle.px_resend.specs.Due.{resend_due}
use Rattle.px_resend.specs.Heard.{all_of_servers, to_servers}
use Rattle.px_resend.specs.Stands.{ByDial}
use Rattle.px_resend.proofs.BehindDial.{IsBehindDial, by_dial, led_by, passed_by, past}
use Rattle.px_resend.proofs.OwedLemmas.{asked_there, busy_goes, found_quiet, is_any, quiet_left}
use Rattle.px_event.proofs.Kept.{KeepsSteps, due_kept}

-- ---- which servers were dialled before a stage

-- none before the dial, whose server is 0, and one at most behind it
abbrev IsFirst : List ℕ → At → Type 0
IsFirst servers at = (servers ≡ []) × (at.dials ≡ 0)

abbrev DialledFor : flows.Stage → List ℕ → Type 0
DialledFor stage servers = ByDial (IsFirst servers) (IsFirstAlone servers) stage

abbrev DialledBefore : Stage → List ℕ → Type 0
DialledBefore (goes_on place) servers = DialledFor place.stage servers
DialledBefore over servers = IsFirstAlone servers
DialledBefore stage servers = servers ≡ []

abbrev Kept : List Command → Stage → Type 0
Kept before stage = DialledBefore stage (dials_in before)

abbrev Holds : List Command → Type 0
Holds owed = IsFirstAlone (dials_in owed)

-- ---- lists

-- what is quiet dials nothing
quiet_dials : (owed : List Command) → AllQuiet any_flow owed → dials_in owed ≡ []
quiet_dials [] quiet = refl
quiet_dials (commands.Send side bytes ∷ owed) (here, quiet) = quiet_dials owed quiet
quiet_dials (commands.Close side ∷ owed) (here, quiet) = quiet_dials owed quiet
quiet_dials (commands.Dial server address inside ∷ owed) (here, quiet) = absurd here
quiet_dials (commands.Ask ask flow ∷ owed) (here, quiet) = absurd here
quiet_dials (commands.Done flow ∷ owed) (here, quiet) = quiet_dials owed quiet

more_dials : (before more : List Command) (servers : List ℕ) → dials_in more ≡ servers → dials_in (before ++ more) ≡ dials_in before ++ servers
more_dials before more servers is = flat_map-append dial_in before more ∙ ap (λ l. dials_in before ++ l) is

none_more : (before more : List Command) → dials_in more ≡ [] → dials_in (before ++ more) ≡ dials_in before
none_more before more none = more_dials before more [] none ∙ append-nil (dials_in before)

-- an ask, and what is owed behind it
ask_dials : (ask : Command) (owed : List Command) (servers : List ℕ) → dials_in (ask ∷ []) ≡ servers → dials_in owed ≡ [] → dials_in (ask ∷ owed) ≡ servers
ask_dials ask owed servers one none = none_more (ask ∷ []) owed none ∙ one

-- the dials of what was asked
dials_of : (l : Look Command) (ask : Command) (servers : List ℕ) → dials_in (found l) ≡ servers → l ≡ Asks ask → dials_in (ask ∷ []) ≡ servers
dials_of l ask servers is asked = let P : Look Command → Type 0 = λ k. dials_in (found k) ≡ servers in subst P asked is

-- ---- what a flow finds that goes on is no dial, but where its server is to be connected

-- what is asked is no dial
abbrev AsksNoDial : Look Command → Type 0
AsksNoDial (Asks ask) = dials_in (ask ∷ []) ≡ []
AsksNoDial l = ⊤

leaves_not : (closed : Bool) (leaving : List Command) (l : Look Command) → AsksNoDial l → AsksNoDial (or_leaves closed leaving l)
leaves_not true leaving NotYet not_one = tt
leaves_not false leaving NotYet not_one = tt
leaves_not closed leaving (Asks ask) not_one = not_one
leaves_not closed leaving (Ends owed) not_one = tt

relayed_not : (fails : Bool) (owed : List Command) (flow : Flow) (hook : Hook) → AsksNoDial (if fails then Ends owed else Asks (ask_of flow hook))
relayed_not true owed flow hook = tt
relayed_not false owed flow hook = refl

head_not : (flow : Flow) (head : ReadResponse) (moment : ℕ) (used : Used) (closed : Bool) → AsksNoDial (look_answer_head flow head moment used closed)
head_not flow head moment used closed = relayed_not (not (is_relayed head.code)) _ _ _

answer_not : (flow : Flow) (item : Item ReadResponse) (moment : ℕ) (used : Used) (closed : Bool) → AsksNoDial (look_answer flow item moment used closed)
answer_not flow missing moment used closed = tt
answer_not flow (part head body) moment used closed = head_not flow head moment used closed
answer_not flow (complete head body trailers size) moment used closed = head_not flow head moment used closed
answer_not flow (bad_head fault) moment used closed = tt
answer_not flow (bad_body fault head body) moment used closed = head_not flow head moment used closed

returned_not : (flow : Flow) (item : Item ReadResponse) (moment : ℕ) (used : Used) (closed : Bool) → AsksNoDial (look_returned flow item moment used closed)
returned_not flow missing moment used closed = tt
returned_not flow (part head body) moment used closed = tt
returned_not flow (complete head body trailers size) moment used closed = refl
returned_not flow (bad_head fault) moment used closed = tt
returned_not flow (bad_body fault head body) moment used closed = tt

coming_not : (flow : Flow) (item : Item ReadResponse) (moment : ℕ) (used : Used) (closed : Bool) → AsksNoDial (look_coming flow item moment used closed)
coming_not flow missing moment used closed = tt
coming_not flow (part head body) moment used closed = tt
coming_not flow (complete head body trailers size) moment used closed = tt
coming_not flow (bad_head fault) moment used closed = tt
coming_not flow (bad_body fault head body) moment used closed = tt

-- nor where a request that goes up is found bad first
bad_not : (item : Item ReadRequest) (ends : Fault → List Command) (found : Look Command) → AsksNoDial found → AsksNoDial (bad_or item ends found)
bad_not missing ends found not_one = not_one
bad_not (part head body) ends found not_one = not_one
bad_not (complete head body trailers size) ends found not_one = not_one
bad_not (bad_head fault) ends found not_one = not_one
bad_not (bad_body fault head body) ends found not_one = tt

up_not : (how : Sent) (seen : Sight) (ends : Fault → List Command) (found : Look Command) → AsksNoDial found → AsksNoDial (look_up how seen ends found)
up_not all_sent seen ends found not_one = not_one
up_not going_up seen ends found not_one = bad_not (request_in seen) ends found not_one

left_not : (l : Look Command) → AsksNoDial l → AsksNoDial (to_servers_in l)
left_not NotYet not_one = tt
left_not (Asks ask) not_one = not_one
left_not (Ends owed) not_one = tt

found_none : (l : Look Command) → AsksNoDial l → LooksQuiet any_flow l → dials_in (found l) ≡ []
found_none NotYet not_one quiet = refl
found_none (Asks ask) not_one quiet = not_one
found_none (Ends owed) not_one quiet = quiet_dials owed quiet

module _ (terms : Terms) where
  asks_no_dial : (stage : flows.Stage) (seen : Sight) → IsBehindDial stage → AsksNoDial (look_by stage seen (look_of terms stage seen))
  asks_no_dial (idle at) seen is = tt
  asks_no_dial (busy at flow (request_body given most)) seen is = absurd is
  asks_no_dial (busy at flow (connection how)) seen is = absurd is
  asks_no_dial (busy at flow (response_head side how)) seen is =
      left_not _ (leaves_not seen.closed _ _ (up_not how seen _ _ (answer_not flow (answers_in flow.request seen).final seen.now (server_in side seen) seen.closed)))
  asks_no_dial (busy at flow (response_body side how most)) seen is =
      left_not _ (leaves_not seen.closed _ _ (up_not how seen _ _ (returned_not flow (answers_in flow.request seen).final seen.now (server_in side seen) seen.closed)))
  asks_no_dial (busy at flow (coming_down side how)) seen is =
      left_not _ (leaves_not seen.closed _ _ (up_not how seen _ _ (coming_not flow (answers_in flow.request seen).final seen.now (server_in side seen) seen.closed)))
  asks_no_dial (busy at flow (upgraded side)) seen is = tt
  asks_no_dial (busy at flow given_head) seen is = refl
  asks_no_dial (busy at flow given_body) seen is = refl
  asks_no_dial (next at) seen is = tt
  asks_no_dial flows.over seen is = tt

  no_dial : (stage : flows.Stage) (seen : Sight) → IsBehindDial stage → dials_in (found (look_by stage seen (look_of terms stage seen))) ≡ []
  no_dial stage seen is = found_none _ (asks_no_dial stage seen is) (found_quiet terms stage seen)

-- ---- where a stage leads

-- a flow that goes on from the request's hooks
goes_first : (given : Option Response) (flow : Flow) (servers : List ℕ) → servers ≡ [] → DialledFor (busy first_at flow (doing_by given)) servers
goes_first None flow servers none = (none, refl)
goes_first (Some response) flow servers none = inl none

-- what a reply brings dials nothing, and leads there
record LeadsTo (servers : List ℕ) (turned : Turn Stage Command) : Type 0 where
  quiet : dials_in turned.owed ≡ []
  leads : DialledBefore turned.stage servers

head_leads : (servers : List ℕ) (none : servers ≡ []) (recorded : Request) (flow : Flow) (prefix : List (Timed Event)) (moment : ℕ) (taken : Taken Request) →
    LeadsTo servers (turn_head recorded flow prefix moment taken)
head_leads servers none recorded flow prefix moment (GoesOn request) = record { quiet = refl; leads = none }
head_leads servers none recorded flow prefix moment (Responds response) = record { quiet = refl; leads = inl none }
head_leads servers none recorded flow prefix moment Kills = record { quiet = refl; leads = inl none }

whole_leads : (servers : List ℕ) (none : servers ≡ []) (flow : Flow) (prefix : List (Timed Event)) (moment : ℕ) (taken : Taken Request) →
    LeadsTo servers (turn_whole flow prefix moment taken)
whole_leads servers none flow prefix moment (GoesOn request) = record { quiet = refl; leads = goes_first flow.response (record flow { request = request }) servers none }
whole_leads servers none flow prefix moment (Responds response) = record { quiet = refl; leads = inl none }
whole_leads servers none flow prefix moment Kills = record { quiet = refl; leads = inl none }

-- what is asked and what its answer brings, behind what was owed before
answered_by : (before : List Command) (asking : List ℕ) (ask : Command) (turned : Turn Stage Command) → dials_in (ask ∷ []) ≡ asking → LeadsTo (dials_in before ++ asking) turned →
    Kept (before ++ (ask ∷ turned.owed)) turned.stage
answered_by before asking ask turned one led =
    let P : List ℕ → Type 0 = DialledBefore turned.stage in
    subst P (sym (more_dials before (ask ∷ turned.owed) asking (ask_dials ask turned.owed asking one led.quiet))) led.leads

-- an ask that dials nothing
led_quietly : (before : List Command) (ask : Command) (turned : Turn Stage Command) → dials_in (ask ∷ []) ≡ [] → LeadsTo (dials_in before) turned → Kept (before ++ (ask ∷ turned.owed)) turned.stage
led_quietly before ask turned none led =
    let P : List ℕ → Type 0 = λ l. LeadsTo l turned in answered_by before [] ask turned none (subst P (sym (append-nil (dials_in before))) led)

-- nothing more is dialled
stops_quietly : (before more : List Command) → dials_in more ≡ [] → IsFirstAlone (dials_in before) → Holds (before ++ more)
stops_quietly before more none is = let P : List ℕ → Type 0 = IsFirstAlone in subst P (sym (none_more before more none)) is

-- server 0 behind none
first_alone : (before : List ℕ) (server : ℕ) → before ≡ [] → server ≡ 0 → IsFirstAlone (before ++ (server ∷ []))
first_alone before server none first = inr (ap (λ l. l ++ (server ∷ [])) none ∙ ap (λ n. n ∷ []) first)

-- ---- the chain

module _ (terms : Terms) (recorded : Request) where
  passes : (before : List Command) (stage : Stage) (prefix : List (Timed Event)) → Kept before stage → Kept before (pass terms recorded stage prefix).stage
  passes before waiting [] kept = kept
  passes before waiting (event ∷ prefix) kept = kept
  passes before (asks_head flow) prefix kept = kept
  passes before (asks_whole flow) prefix kept = kept
  passes before (goes_on place) prefix kept =
      passed_by (IsFirst (dials_in before)) (IsFirstAlone (dials_in before)) terms place.stage (sight_over place (all_of_servers prefix)) kept
  passes before over prefix kept = kept

  dials_none : (stage : Stage) (prefix : List (Timed Event)) → dials_in (pass terms recorded stage prefix).owed ≡ []
  dials_none waiting [] = refl
  dials_none waiting (event ∷ prefix) = refl
  dials_none (asks_head flow) prefix = refl
  dials_none (asks_whole flow) prefix = refl
  dials_none (goes_on place) prefix =
      let seen : Sight = sight_over place (all_of_servers prefix) in
      let owed : List Command = (pass_of terms place.stage seen).owed in
      quiet_dials (to_servers owed) (quiet_left any_flow owed (pass_quiet terms any_flow place.stage seen (is_any terms place.stage)))
  dials_none over prefix = refl

  passes_on : (before : List Command) (stage : Stage) (prefix : List (Timed Event)) → Kept before stage →
      Kept (before ++ (pass terms recorded stage prefix).owed) (pass terms recorded stage prefix).stage
  passes_on before stage prefix kept =
      let P : List ℕ → Type 0 = DialledBefore (pass terms recorded stage prefix).stage in
      subst P (sym (none_more before (pass terms recorded stage prefix).owed (dials_none stage prefix))) (passes before stage prefix kept)

  -- the flow that goes on
  flow_leads : (servers : List ℕ) (stage : flows.Stage) (seen : Sight) (answer : Timed Reply) → IsFirstAlone servers → stage_left stage ≤ 3 → IsGoing stage →
      (dials_in (to_servers (turn_of terms stage seen answer).owed) ≡ []) × DialledFor (sequence (turn_of terms stage seen answer).stage) servers
  flow_leads servers stage seen answer is few goes = (
    quiet_dials (to_servers (turn_of terms stage seen answer).owed) (quiet_left any_flow (turn_of terms stage seen answer).owed (turn_quiet terms stage seen answer)),
    led_by (IsFirst servers) (IsFirstAlone servers) _ _ (stage_left stage) (turn_of terms stage seen answer).stage (turn_behind terms stage seen answer goes) few is,
  )

  -- behind its dial it asks none
  behind_dial : (servers : List ℕ) (stage : flows.Stage) (seen : Sight) (ask : Command) (answer : Timed Reply) → IsBehindDial stage → IsFirstAlone servers → stage_left stage ≤ 3 → IsGoing stage →
      look_by stage seen (look_of terms stage seen) ≡ Asks ask →
      (asking : List ℕ) × (dials_in (ask ∷ []) ≡ asking) × DialledFor (sequence (turn_of terms stage seen answer).stage) (servers ++ asking)
  behind_dial servers stage seen ask answer behind is few goes asked =
      let P : List ℕ → Type 0 = DialledFor (sequence (turn_of terms stage seen answer).stage) in (
        [],
        dials_of _ ask [] (no_dial terms stage seen behind) asked,
        subst P (sym (append-nil servers)) (flow_leads servers stage seen answer is few goes).1,
      )

  -- its servers behind an ask, by the stage that asked
  flow_asked : (servers : List ℕ) (stage : flows.Stage) (seen : Sight) (ask : Command) (answer : Timed Reply) → DialledFor stage servers →
      look_by stage seen (look_of terms stage seen) ≡ Asks ask →
      (asking : List ℕ) × (dials_in (ask ∷ []) ≡ asking) × DialledFor (sequence (turn_of terms stage seen answer).stage) (servers ++ asking)
  flow_asked servers stage seen ask answer is asked =
      let P : flows.Stage → Type 0 = λ s. look_by s seen (look_of terms s seen) ≡ Asks ask →
      (asking : List ℕ) × (dials_in (ask ∷ []) ≡ asking) × DialledFor (sequence (turn_of terms s seen answer).stage) (servers ++ asking) in
      by_dial (IsFirst servers) (IsFirstAlone servers) P stage is (λ at flow how first asks. (
        at.dials ∷ [],
        dials_of _ ask (at.dials ∷ []) refl asks,
        (flow_leads (servers ++ (at.dials ∷ [])) (busy at flow (connection how)) seen answer (first_alone servers at.dials first.0 first.1) (omega arith) tt).1,
      )) (λ behind one asks.
      let goes = (asked_there terms stage seen ask asks).0 in
      behind_dial servers stage seen ask answer behind one ((past stage behind).few goes) (busy_goes stage goes) asks) asked

  turns : (before : List Command) (stage : Stage) (prefix : List (Timed Event)) (ask : Command) (answer : Timed Reply) → Kept before stage → (resend_chain terms recorded).look stage prefix ≡ Asks ask →
      Kept (before ++ (ask ∷ ((resend_chain terms recorded).turn stage prefix answer).owed)) ((resend_chain terms recorded).turn stage prefix answer).stage
  turns before waiting prefix ask answer kept asked = absurd (let no : NotYet ≡ Asks ask = asked in cc)
  turns before (asks_head flow) prefix ask answer kept asked =
      led_quietly before ask _ (dials_of (Asks (ask_of flow RequestHead)) ask [] refl asked)
      (head_leads (dials_in before) kept recorded flow (all_of_servers prefix) answer.moment (taken_at_request_head flow.request answer.value))
  turns before (asks_whole flow) prefix ask answer kept asked =
      led_quietly before ask _ (dials_of (Asks (ask_of flow RequestBody)) ask [] refl asked)
      (whole_leads (dials_in before) kept flow (all_of_servers prefix) answer.moment (taken_at_request_body flow.request answer.value))
  turns before (goes_on place) prefix ask answer kept asked =
      let seen : Sight = sight_over place (all_of_servers prefix) in
      let there = flow_asked (dials_in before) place.stage seen ask answer kept asked in
      let quiet = quiet_dials (to_servers (turn_of terms place.stage seen answer).owed) (quiet_left any_flow (turn_of terms place.stage seen answer).owed (turn_quiet terms place.stage seen answer)) in
      answered_by before there.0 ask ((resend_chain terms recorded).turn (goes_on place) prefix answer) there.1 (record { quiet = quiet; leads = there.2 })
  turns before over prefix ask answer kept asked = absurd (let no : Ends [] ≡ Asks ask = asked in cc)

  -- where it stops
  flow_stops : (before : List Command) (stage : flows.Stage) (seen : Sight) → DialledFor stage (dials_in before) → Holds (before ++ found (look_by stage seen (look_of terms stage seen)))
  flow_stops before stage seen is =
      let first = dials_in before in
      let P : flows.Stage → Type 0 = λ s. Holds (before ++ found (look_by s seen (look_of terms s seen))) in
      let Q : List ℕ → Type 0 = IsFirstAlone in
      by_dial (IsFirst first) (IsFirstAlone first) P stage is
      (λ at flow how one. subst Q (sym (more_dials before (found (look_by (busy at flow (connection how)) seen (look_of terms (busy at flow (connection how)) seen))) (at.dials ∷ []) refl))
      (first_alone first at.dials one.0 one.1))
      (λ behind one. stops_quietly before _ (no_dial terms stage seen behind) one)

  stops : (before : List Command) (stage : Stage) (prefix : List (Timed Event)) → Kept before stage → Holds (before ++ found ((resend_chain terms recorded).look stage prefix))
  stops before waiting prefix kept = stops_quietly before [] refl (inl kept)
  stops before (asks_head flow) prefix kept = stops_quietly before (ask_of flow RequestHead ∷ []) refl (inl kept)
  stops before (asks_whole flow) prefix kept = stops_quietly before (ask_of flow RequestBody ∷ []) refl (inl kept)
  stops before (goes_on place) prefix kept = flow_stops before place.stage (sight_over place (all_of_servers prefix)) kept
  stops before over prefix kept = stops_quietly before [] refl kept

  keeps_dials : KeepsSteps (resend_chain terms recorded) Kept Holds
  keeps_dials = record { passes = passes_on; turns = turns; stops = stops }

-- What is due dials no server, or server 0 alone and once.
pub resend_dials : (proxy : Option Address) (conv : ℕ) (request : Option Request) (moves : List Move) → IsFirstAlone (dials_in (resend_due proxy conv request moves))
resend_dials proxy conv None moves = inl refl
resend_dials proxy conv (Some request) moves =
    let terms : Terms = terms_by conv proxy in due_kept (resend_chain terms request) Kept Holds (keeps_dials terms request) waiting refl (events_in 1 moves) (replies_in 1 moves)
