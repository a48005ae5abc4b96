-- Each flow that is asked about begins where the walk comes by a place where a request is awaited.
use Rattle.std.proofs.Common.{◌≡◌, ℕ, Bool, true, false, List, [], ◌∷◌, ◌++◌, map, refl, ap, sym, ◌∙◌, subst, append_assoc}
use Rattle.std.specs.Prelude.{⊤, Option, Some, None, if◌then◌else◌, not}
use Rattle.std.proofs.lemmas.List.{append-nil}
use Rattle.px_message.specs.declared.fault.Fault.{Fault}
use Rattle.px_message.specs.declared.fault.Fault.TheVariants.{BadResponse}
use Rattle.px_write.specs.Error.{fault_message}
use Rattle.px_message.specs.declared.flow.Flow.{Flow}
use Rattle.px_event.specs.declared.ask.Ask.{Ask}
use Rattle.px_event.specs.declared.ask.Ask.TheVariants as asks
use Rattle.px_event.specs.declared.ask.Hook.TheVariants.{RequestHead, ResponseHead}
use Rattle.px_event.specs.declared.command.Command.{Command}
use Rattle.px_event.specs.declared.command.Command.TheVariants as commands
use Rattle.px_event.specs.declared.event.Event.{Event}
use Rattle.px_event.specs.declared.reply.Reply.{Reply}
use Rattle.px_event.specs.Chain.{Asks, Chain, Ends, Look, NotYet, Reached, Stamp, Stamped, Stop, Timed, at_its_step, found_with, owed_at, reach, reach_by, stop_at, walk, walk_by, worked_off}
use Rattle.px_read.specs.Items.{Item, bad_body, bad_head, complete, missing, part}
use Rattle.px_read.specs.declared.head.RequestHead.{RequestHead as ReadRequest}
use Rattle.px_read.specs.declared.head.ResponseHead.{ResponseHead as ReadResponse}
use Rattle.px_exchange.specs.EndOrder.{EndsInOrder, FoundInOrder, OnlyCloses}
use Rattle.px_exchange.specs.Endings.{ends_by_fault, ends_early}
use Rattle.px_exchange.specs.Finds.{is_relayed, look_answer, look_body, look_head, look_judged, look_returned, or_leaves}
use Rattle.px_exchange.specs.Flows.{ask_of, response_of, with_answer}
use Rattle.px_exchange.specs.Requests.{judged}
use Rattle.px_exchange.specs.Texts.{interim_command, sends_on}
use Rattle.px_exchange.specs.declared.asked.Judged.{Judged}
use Rattle.px_exchange.specs.declared.asked.Judged.TheVariants.{Accepted, Connects, Refused}
use Rattle.px_exchange.specs.declared.ending.Used.{Used}
use Rattle.px_exchange.specs.declared.terms.Terms.{Terms}
use Rattle.px_exchange.specs.Requests.{is_http11}
use Rattle.px_chain.specs.Chain.{bad_or, http_chain, leaving, look, look_coming, sequence, so_far, waits_at}
use Rattle.px_chain.specs.Keeping.{shut_by_byte, shut_stray, strays, unspoilt_at}
use Rattle.px_chain.specs.Sights.{Sight, Standing, answers_in, request_in, server_in, server_parked, sight_over}
use Rattle.px_chain.specs.Stages.{At, Parked, Stage, all_sent, busy, connection, given_body, given_head, going_up, idle, next, over, request_body, response_body, response_head, upgraded, coming_down}
use Rattle.px_said.specs.Walks.{ComesBy, FlowBegins, Walk, behind_reply, due_by_reply, due_from, goes_on, is_there, due_by_passing, heard_on, hears, passed_on, passes}
use Rattle.px_said.proofs.ClosedLooks.{asks_nothing, asks_same, ends_ask}
use Rattle.px_said.proofs.WalkLemmas.{walk_behind, reach_behind, with_these}
use Rattle.px_chain.proofs.EndLemmas.{behind_closes, looks_in_order, turns_in_order, passes_in_order}
use Rattle.px_read.specs.declared.head.ResponseHead.{ResponseHead as AnswerHead}

-- ---- commands without a question of a hook

abbrev AsksNone : List Command → Type 0
AsksNone [] = ⊤
AsksNone (commands.Ask asked flow ∷ rest) = ⊥
AsksNone (commands.Send side text ∷ rest) = AsksNone rest
AsksNone (commands.Dial server address inside ∷ rest) = AsksNone rest
AsksNone (commands.Close side ∷ rest) = AsksNone rest
AsksNone (commands.Done flow ∷ rest) = AsksNone rest

closes_ask : (owed : List Command) → OnlyCloses owed → AsksNone owed
closes_ask [] is = tt
closes_ask (commands.Close side ∷ owed) is = closes_ask owed is
closes_ask (commands.Send side text ∷ owed) is = absurd is
closes_ask (commands.Done flow ∷ owed) is = absurd is
closes_ask (commands.Ask asked flow ∷ owed) is = absurd is
closes_ask (commands.Dial server address inside ∷ owed) is = absurd is

ends_none : (owed : List Command) → EndsInOrder owed → AsksNone owed
ends_none [] is = tt
ends_none (commands.Close side ∷ owed) is = closes_ask owed is
ends_none (commands.Send side text ∷ owed) is = ends_none owed is
ends_none (commands.Done flow ∷ owed) is = closes_ask owed is
ends_none (commands.Ask asked flow ∷ owed) is = absurd is
ends_none (commands.Dial server address inside ∷ owed) is = absurd is

both_none : (first second : List Command) → AsksNone first → AsksNone second → AsksNone (first ++ second)
both_none [] second none more = more
both_none (commands.Ask asked flow ∷ first) second none more = absurd none
both_none (commands.Send side text ∷ first) second none more = both_none first second none more
both_none (commands.Dial server address inside ∷ first) second none more = both_none first second none more
both_none (commands.Close side ∷ first) second none more = both_none first second none more
both_none (commands.Done flow ∷ first) second none more = both_none first second none more

interim_none : (heads : List AnswerHead) → AsksNone (map interim_command heads)
interim_none [] = tt
interim_none (head ∷ heads) = interim_none heads

interim_if : (knows : Bool) (heads : List AnswerHead) → AsksNone (sends_on knows heads)
interim_if true heads = interim_none heads
interim_if false heads = tt

byte_none : (server : ℕ) (bytes : List ℕ) → AsksNone (shut_by_byte server bytes)
byte_none server [] = tt
byte_none server (byte ∷ more) = tt

stray_none : (parked : Option Parked) (seen : Sight) → AsksNone (shut_stray parked seen)
stray_none None seen = tt
stray_none (Some parked) seen = byte_none parked.server seen.server

strays_none : (stage : Stage) (seen : Sight) → AsksNone (strays stage seen)
strays_none (idle at) seen = stray_none at.parked seen
strays_none (busy at flow (request_body given most)) seen = stray_none at.parked seen
strays_none (busy at flow (connection how)) seen = stray_none at.parked seen
strays_none (busy at flow (response_head side how)) seen = tt
strays_none (busy at flow (response_body side how most)) seen = tt
strays_none (busy at flow (coming_down side how)) seen = tt
strays_none (busy at flow (upgraded side)) seen = tt
strays_none (busy at flow given_head) seen = stray_none at.parked seen
strays_none (busy at flow given_body) seen = stray_none at.parked seen
strays_none (next at) seen = stray_none at.parked seen
strays_none over seen = tt

waits_none : (terms : Terms) (stage : Stage) (seen : Sight) → AsksNone (waits_at terms stage seen)
waits_none terms (idle at) seen = tt
waits_none terms (busy at flow (request_body given most)) seen = tt
waits_none terms (busy at flow (connection how)) seen = tt
waits_none terms (busy at flow (response_head side all_sent)) seen = interim_if (is_http11 flow.request.version) (answers_in flow.request seen).interim
waits_none terms (busy at flow (response_head side going_up)) seen = interim_if (is_http11 flow.request.version) (answers_in flow.request seen).interim
waits_none terms (busy at flow (response_body side all_sent most)) seen = tt
waits_none terms (busy at flow (response_body side going_up most)) seen = tt
waits_none terms (busy at flow (coming_down side all_sent)) seen = tt
waits_none terms (busy at flow (coming_down side going_up)) seen = tt
waits_none terms (busy at flow (upgraded side)) seen = tt
waits_none terms (busy at flow given_head) seen = tt
waits_none terms (busy at flow given_body) seen = tt
waits_none terms (next at) seen = tt
waits_none terms over seen = tt

so_far_none : (terms : Terms) (stage : Stage) (seen : Sight) → AsksNone (so_far terms stage seen)
so_far_none terms stage seen = both_none (strays stage seen) (waits_at terms stage seen) (strays_none stage seen) (waits_none terms stage seen)

first_none : (command : Command) (rest : List Command) (asked : Ask) (flow : Flow) → AsksNone (command ∷ rest) → commands.Ask asked flow ≡ command → ⊥
first_none (commands.Ask other its) rest asked flow none is = none
first_none (commands.Send side text) rest asked flow none is = cc
first_none (commands.Dial server address inside) rest asked flow none is = cc
first_none (commands.Close side) rest asked flow none is = cc
first_none (commands.Done other) rest asked flow none is = cc

rest_none : (command : Command) (rest : List Command) → AsksNone (command ∷ rest) → AsksNone rest
rest_none (commands.Ask other its) rest none = absurd none
rest_none (commands.Send side text) rest none = none
rest_none (commands.Dial server address inside) rest none = none
rest_none (commands.Close side) rest none = none
rest_none (commands.Done other) rest none = none

head_same : (a b : Command) (left right : List Command) → a ∷ left ≡ b ∷ right → a ≡ b
head_same a b left right is = cc

tail_same : (a b : Command) (left right : List Command) → a ∷ left ≡ b ∷ right → left ≡ right
tail_same a b left right is = cc

-- a question stands behind commands that have none
record StandsBehind (quiet rest before behind : List Command) (question : Command) : Type 0 where
  pub middle : List Command
  pub front : before ≡ quiet ++ middle
  pub is : middle ++ question ∷ behind ≡ rest

behind_quiet : (quiet rest before behind : List Command) (asked : Ask) (flow : Flow) → AsksNone quiet → before ++ commands.Ask asked flow ∷ behind ≡ quiet ++ rest →
    StandsBehind quiet rest before behind (commands.Ask asked flow)
behind_quiet [] rest before behind asked flow none is = record { middle = before; front = refl; is = is }
behind_quiet (command ∷ quiet) rest [] behind asked flow none is =
    absurd (first_none command quiet asked flow none (head_same (commands.Ask asked flow) command behind (quiet ++ rest) is))
behind_quiet (command ∷ quiet) rest (first ∷ before) behind asked flow none is =
    let further = behind_quiet quiet rest before behind asked flow (rest_none command quiet none)
    (tail_same first command (before ++ commands.Ask asked flow ∷ behind) (quiet ++ rest) is) in
    let same = head_same first command (before ++ commands.Ask asked flow ∷ behind) (quiet ++ rest) is in
    record { middle = further.middle; front = ap (λ l. first ∷ l) further.front ∙ ap (λ c. c ∷ (quiet ++ further.middle)) same; is = further.is }

nothing_behind : (middle behind : List Command) (question : Command) → middle ++ question ∷ behind ≡ [] → ⊥
nothing_behind [] behind question is = let no : question ∷ behind ≡ [] = is in cc
nothing_behind (first ∷ middle) behind question is = let no : first ∷ (middle ++ question ∷ behind) ≡ [] = is in cc

-- what stands in front of it, where a reply was brought between
more_begins : (before waiting brought middle owed : List Command) (ask : Command) (rest behind : List Command) → before ≡ owed ++ behind → behind ≡ waiting ++ ask ∷ rest →
    rest ≡ brought ++ middle → before ≡ (owed ++ (waiting ++ ask ∷ brought)) ++ middle
more_begins before waiting brought middle owed ask rest behind first front second =
    first
    ∙ (ap (λ l. owed ++ l) (front ∙ (ap (λ l. waiting ++ ask ∷ l) second ∙ sym (append_assoc waiting (ask ∷ brought) middle)))
    ∙ sym (append_assoc owed (waiting ++ ask ∷ brought) middle))

-- what is due behind a reply, and what is owed there
behind_reply_owes : (before by_reply middle due owed : List Command) → before ≡ by_reply ++ middle → middle ≡ due ++ owed → before ≡ (by_reply ++ due) ++ owed
behind_reply_owes before by_reply middle due owed begins is = begins ∙ (ap (λ l. by_reply ++ l) is ∙ sym (append_assoc by_reply due owed))

module _ (terms : Terms) (index : ℕ) (flow : Flow) where
  -- the question about a request's head
  abbrev question : Command
  question = commands.Ask (asks.Hook index RequestHead) flow

  -- ---- who asks it

  pub record AsksAt (stage : Stage) : Type 0 where
    pub at : At
    pub is : stage ≡ idle at
    pub number : at.flow ≡ index

  judged_index : (number : ℕ) (head : ReadRequest) (made : Judged) (leaving : List Command) (moment : ℕ) (parked : Used) (closed : Bool) → or_leaves closed leaving (look_judged terms number head made moment parked closed) ≡ Asks question →
      number ≡ index
  judged_index number head (Refused fault) leaving moment parked closed is = absurd (ends_ask _ question is)
  judged_index number head (Connects address) leaving moment parked closed is = absurd (ends_ask _ question is)
  judged_index number head (Accepted request) leaving moment parked closed is = let same = asks_same _ question is in cc

  head_index : (number : ℕ) (item : Item ReadRequest) (leaving : List Command) (moment : ℕ) (parked : Used) (closed : Bool) → or_leaves closed leaving (look_head terms number item moment parked closed) ≡ Asks question → number ≡ index
  head_index number missing leaving moment parked closed is = absurd (asks_nothing closed leaving question is)
  head_index number (part head body) leaving moment parked closed is = judged_index number head (judged terms.place head) leaving moment parked closed is
  head_index number (complete head body trailers used) leaving moment parked closed is = judged_index number head (judged terms.place head) leaving moment parked closed is
  head_index number (bad_head fault) leaving moment parked closed is = absurd (ends_ask _ question is)
  head_index number (bad_body fault head body) leaving moment parked closed is = judged_index number head (judged terms.place head) leaving moment parked closed is

  body_asks : (told : Flow) (leaving : List Command) (item : Item ReadRequest) (moment : ℕ) (parked : Used) (closed : Bool) → or_leaves closed leaving (look_body told item moment parked closed) ≡ Asks question → ⊥
  body_asks told leaving missing moment parked closed is = asks_nothing closed leaving question is
  body_asks told leaving (part head body) moment parked closed is = asks_nothing closed leaving question is
  body_asks told leaving (complete head body trailers used) moment parked closed is = let same = asks_same _ question is in cc
  body_asks told leaving (bad_head fault) moment parked closed is = asks_nothing closed leaving question is
  body_asks told leaving (bad_body fault head body) moment parked closed is = ends_ask _ question is

  relayed_asks : (relays : Bool) (told : Flow) (leaving : List Command) (head : ReadResponse) (moment : ℕ) (used : Used) (closed : Bool) →
      or_leaves closed leaving (if not relays then Ends (ends_by_fault told BadResponse moment used closed) else Asks (ask_of (with_answer told (response_of head) moment) ResponseHead))
      ≡ Asks question → ⊥
  relayed_asks true told leaving head moment used closed is = let same = asks_same _ question is in cc
  relayed_asks false told leaving head moment used closed is = ends_ask _ question is

  answer_asks : (told : Flow) (leaving : List Command) (item : Item ReadResponse) (moment : ℕ) (used : Used) (closed : Bool) →
      or_leaves closed leaving (look_answer told item moment used closed) ≡ Asks question → ⊥
  answer_asks told leaving missing moment used closed is = asks_nothing closed leaving question is
  answer_asks told leaving (part head body) moment used closed is = relayed_asks (is_relayed head.code) told leaving head moment used closed is
  answer_asks told leaving (complete head body trailers size) moment used closed is = relayed_asks (is_relayed head.code) told leaving head moment used closed is
  answer_asks told leaving (bad_head fault) moment used closed is = ends_ask _ question is
  answer_asks told leaving (bad_body fault head body) moment used closed is = relayed_asks (is_relayed head.code) told leaving head moment used closed is

  returned_asks : (told : Flow) (leaving : List Command) (item : Item ReadResponse) (moment : ℕ) (used : Used) (closed : Bool) →
      or_leaves closed leaving (look_returned told item moment used closed) ≡ Asks question → ⊥
  returned_asks told leaving missing moment used closed is = asks_nothing closed leaving question is
  returned_asks told leaving (part head body) moment used closed is = asks_nothing closed leaving question is
  returned_asks told leaving (complete head body trailers size) moment used closed is = let same = asks_same _ question is in cc
  returned_asks told leaving (bad_head fault) moment used closed is = asks_nothing closed leaving question is
  returned_asks told leaving (bad_body fault head body) moment used closed is = ends_ask _ question is

  coming_asks : (told : Flow) (leaving : List Command) (item : Item ReadResponse) (moment : ℕ) (used : Used) (closed : Bool) →
      or_leaves closed leaving (look_coming told item moment used closed) ≡ Asks question → ⊥
  coming_asks told leaving missing moment used closed is = asks_nothing closed leaving question is
  coming_asks told leaving (part head body) moment used closed is = asks_nothing closed leaving question is
  coming_asks told leaving (complete head body trailers size) moment used closed is = asks_nothing closed leaving question is
  coming_asks told leaving (bad_head fault) moment used closed is = asks_nothing closed leaving question is
  coming_asks told leaving (bad_body fault head body) moment used closed is = ends_ask _ question is

  -- beside a request that goes up nothing else is asked
  up_asks : (item : Item ReadRequest) (ends : Fault → List Command) (found : Look Command) (closed : Bool) (leaving : List Command) →
      or_leaves closed leaving (bad_or item ends found) ≡ Asks question → or_leaves closed leaving found ≡ Asks question
  up_asks missing ends found closed leaving is = is
  up_asks (part head body) ends found closed leaving is = is
  up_asks (complete head body trailers used) ends found closed leaving is = is
  up_asks (bad_head fault) ends found closed leaving is = is
  up_asks (bad_body fault head body) ends found closed leaving is = absurd (ends_ask _ question is)

  asks_at : (stage : Stage) (seen : Sight) → look terms stage seen ≡ Asks question → AsksAt stage
  asks_at (idle at) seen is = record { at = at; is = refl; number = head_index at.flow (request_in seen) _ seen.now (server_parked (unspoilt_at at seen).parked seen) seen.closed is }
  asks_at (busy at told (request_body given most)) seen is = absurd (body_asks told _ (request_in seen) seen.now (server_parked (unspoilt_at at seen).parked seen) seen.closed is)
  asks_at (busy at told (connection how)) seen is = absurd (let same = asks_same _ question is in cc)
  asks_at (busy at told (response_head side all_sent)) seen is = absurd (answer_asks told _ (answers_in told.request seen).final seen.now (server_in side seen) seen.closed is)
  asks_at (busy at told (response_head side going_up)) seen is =
      absurd (answer_asks told _ (answers_in told.request seen).final seen.now (server_in side seen) seen.closed
      (up_asks (request_in seen) (λ fault. ends_by_fault told fault seen.now (server_in side seen) seen.closed)
      (look_answer told (answers_in told.request seen).final seen.now (server_in side seen) seen.closed) seen.closed (leaving (busy at told (response_head side going_up)) seen) is))
  asks_at (busy at told (response_body side all_sent most)) seen is = absurd (returned_asks told _ (answers_in told.request seen).final seen.now (server_in side seen) seen.closed is)
  asks_at (busy at told (response_body side going_up most)) seen is =
      absurd (returned_asks told _ (answers_in told.request seen).final seen.now (server_in side seen) seen.closed
      (up_asks (request_in seen) (λ fault. ends_by_fault told fault seen.now (server_in side seen) seen.closed)
      (look_returned told (answers_in told.request seen).final seen.now (server_in side seen) seen.closed) seen.closed (leaving (busy at told (response_body side going_up most)) seen) is))
  asks_at (busy at told (coming_down side all_sent)) seen is = absurd (coming_asks told _ (answers_in told.request seen).final seen.now (server_in side seen) seen.closed is)
  asks_at (busy at told (coming_down side going_up)) seen is =
      absurd (coming_asks told _ (answers_in told.request seen).final seen.now (server_in side seen) seen.closed
      (up_asks (request_in seen) (λ fault. ends_early told (fault_message fault) seen.now (server_in side seen) seen.closed)
      (look_coming told (answers_in told.request seen).final seen.now (server_in side seen) seen.closed) seen.closed (leaving (busy at told (coming_down side going_up)) seen) is))
  asks_at (busy at told (upgraded side)) seen is = absurd (ends_ask _ question is)
  asks_at (busy at told given_head) seen is = absurd (let same = asks_same _ question is in cc)
  asks_at (busy at told given_body) seen is = absurd (let same = asks_same _ question is in cc)
  asks_at (next at) seen is = absurd (ends_ask _ question is)
  asks_at over seen is = absurd (ends_ask _ question is)

  -- ---- where a search leads

  abbrev chain : Chain Standing Event Reply Command
  chain = http_chain sequence terms

  reach_by_none : (l : Look Command) (further here : Reached Standing Event Command) → AsksNone further.before → AsksNone here.before → AsksNone (reach_by l further here).before
  reach_by_none NotYet further here on at = on
  reach_by_none (Asks ask) further here on at = at
  reach_by_none (Ends owed) further here on at = at

  -- no hook is asked by what is owed where it passes
  searched_none : (last : Stamp) (before : List Command) (s : Standing) (f : List (Timed Event)) (es : List (Stamped Event)) → AsksNone before → AsksNone (reach chain last before s f es).before
  searched_none last before s f [] none = both_none before (chain.pass s f).owed none (ends_none (chain.pass s f).owed (passes_in_order terms s.stage (sight_over s f)))
  searched_none last before s f (e ∷ es) none =
      let on = chain.pass s f in
      let more = both_none before on.owed none (ends_none on.owed (passes_in_order terms s.stage (sight_over s f))) in
      reach_by_none (chain.look on.stage f) _ _ (searched_none last (before ++ on.owed) on.stage (f ++ worked_off last e ∷ []) es more) more

  -- the place to which it leads, and what is owed by then
  abbrev led_to : Walk → Reached Standing Event Command → Walk
  led_to here there = record here { place = there.stage; prefix = there.prefix; coming = there.rest }

  abbrev Comes : Walk → Reached Standing Event Command → Type 0
  Comes here there = ComesBy terms here (led_to here there) there.before

  stops_at : (here : Walk) (e : Stamped Event) (es : List (Stamped Event)) → here.coming ≡ e ∷ es →
      Comes here (record { before = [] ++ due_by_passing terms here; stage = (passed_on terms here).place; prefix = here.prefix; rest = e ∷ es })
  stops_at here e es comes =
      let there : Walk = passed_on terms here in
      let P : List (Stamped Event) → Type 0 = λ l. ComesBy terms here (record there { coming = l }) (due_by_passing terms here) in
      subst P comes (subst (λ l. ComesBy terms here there l) (append-nil (due_by_passing terms here)) (passes here there [] (is_there there)))

  -- where it stops at once, or goes on
  comes_by : (here : Walk) (e : Stamped Event) (es : List (Stamped Event)) (l : Look Command) → here.coming ≡ e ∷ es → chain.look (passed_on terms here).place here.prefix ≡ l →
      (further : Reached Standing Event Command) → (l ≡ NotYet → Comes (heard_on terms here e es) further) →
      Comes here (reach_by l (with_these chain (due_by_passing terms here) further)
      (record { before = [] ++ due_by_passing terms here; stage = (passed_on terms here).place; prefix = here.prefix; rest = e ∷ es }))
  comes_by here e es NotYet comes looks further on = hears here (led_to here further) e es further.before comes looks (on refl)
  comes_by here e es (Asks ask) comes looks further on = stops_at here e es comes
  comes_by here e es (Ends owed) comes looks further on = stops_at here e es comes

  comes_to : (rs : List (Stamped Reply)) (last : Stamp) (s : Standing) (f : List (Timed Event)) (es : List (Stamped Event)) →
      Comes (record { place = s; prefix = f; coming = es; replies = rs; last = last }) (reach chain last [] s f es)
  comes_to rs last s f [] =
      let here : Walk = record { place = s; prefix = f; coming = []; replies = rs; last = last } in
      subst (λ l. ComesBy terms here (passed_on terms here) l) (append-nil (due_by_passing terms here)) (passes here (passed_on terms here) [] (is_there (passed_on terms here)))
  comes_to rs last s f (e ∷ es) =
      let here : Walk = record { place = s; prefix = f; coming = e ∷ es; replies = rs; last = last } in
      let on = chain.pass s f in
      let longer : List (Timed Event) = f ++ worked_off last e ∷ [] in
      let further : Reached Standing Event Command = reach chain last [] on.stage longer es in
      let there : Reached Standing Event Command = record { before = [] ++ on.owed; stage = on.stage; prefix = f; rest = e ∷ es } in
      let same : reach chain last on.owed on.stage longer es ≡ with_these chain on.owed further =
      ap (λ b. reach chain last b on.stage longer es) (sym (append-nil on.owed)) ∙ reach_behind chain on.owed last [] on.stage longer es in
      subst (λ r. Comes here (reach_by (chain.look on.stage f) r there)) (sym same)
      (comes_by here e es (chain.look on.stage f) refl refl further (λ none. comes_to rs last on.stage longer es))

  -- ---- the walk

  module _ (here : Walk) (before behind : List Command) where
    abbrev reached : Reached Standing Event Command
    reached = reach chain here.last [] here.place here.prefix here.coming

    abbrev waits : List Command
    waits = chain.so_far reached.stage reached.prefix

    abbrev parts : List Command
    parts = chain.behind reached.stage reached.prefix

    -- the closes behind an ask have none
    parts_none : AsksNone parts
    parts_none = closes_ask parts (behind_closes reached.stage.stage (sight_over reached.stage reached.prefix))

    -- it is what is asked there
    begins_here : (ask : Command) (owed : List Command) → chain.look reached.stage reached.prefix ≡ Asks ask → ask ≡ question → before ≡ reached.before ++ owed → owed ≡ waits ++ [] →
        FlowBegins terms here before index
    begins_here ask owed asks same first is =
        let there = asks_at reached.stage.stage (sight_over reached.stage reached.prefix) (asks ∙ ap Asks same) in
        record {
          there = led_to here reached;
          at = there.at;
          awaits = there.is;
          flow = there.number;
          due = reached.before;
          comes = comes_to here.replies here.last here.place here.prefix here.coming;
          owes = first ∙ ap (λ l. reached.before ++ l) (is ∙ append-nil waits);
        }

    by_asked : (owed : List Command) → before ≡ reached.before ++ owed → (ask : Command) (middle rest : List Command) → chain.look reached.stage reached.prefix ≡ Asks ask → owed ≡ waits ++ middle →
        middle ++ question ∷ behind ≡ ask ∷ rest → ((more : List Command) → owed ≡ waits ++ ask ∷ more → more ++ question ∷ behind ≡ rest → FlowBegins terms here before index) →
        FlowBegins terms here before index
    by_asked owed begun ask [] rest asks front is further = begins_here ask owed asks (sym (head_same question ask behind rest is)) begun front
    by_asked owed begun ask (first ∷ more) rest asks front is further =
        further more (front ∙ ap (λ c. waits ++ c ∷ more) (head_same first ask (more ++ question ∷ behind) rest is)) (tail_same first ask (more ++ question ∷ behind) rest is)

    -- where it stopped
    by_found : (owed : List Command) → before ≡ reached.before ++ owed → (l : Look Command) → chain.look reached.stage reached.prefix ≡ l → FoundInOrder l →
        waits ++ found_with parts l ≡ owed ++ question ∷ behind → FlowBegins terms here before index
    by_found owed begun NotYet looks order is =
        let split = behind_quiet waits [] owed behind _ flow (so_far_none terms reached.stage.stage (sight_over reached.stage reached.prefix)) (sym is) in
        absurd (nothing_behind split.middle behind question split.is)
    by_found owed begun (Asks ask) looks order is =
        let split = behind_quiet waits (ask ∷ parts) owed behind _ flow (so_far_none terms reached.stage.stage (sight_over reached.stage reached.prefix)) (sym is) in
        by_asked owed begun ask split.middle parts looks split.front split.is
        (λ more front left.
        let none = behind_quiet parts [] more behind _ flow parts_none (left ∙ sym (append-nil parts)) in
        absurd (nothing_behind none.middle behind question none.is))
    by_found owed begun (Ends ending) looks order is =
        let split = behind_quiet waits ending owed behind _ flow (so_far_none terms reached.stage.stage (sight_over reached.stage reached.prefix)) (sym is) in
        let none = behind_quiet ending [] split.middle behind _ flow (ends_none ending order) (split.is ∙ sym (append-nil ending)) in
        absurd (nothing_behind none.middle behind question none.is)

    -- nothing that is owed by the search is asked
    reached_none : AsksNone reached.before
    reached_none = searched_none here.last [] here.place here.prefix here.coming tt

    stopped : (unused : List (Stamped Reply)) → owed_at chain (stop_at here.last reached unused) ≡ before ++ question ∷ behind → FlowBegins terms here before index
    stopped unused is =
        let owed = waits ++ found_with parts (chain.look reached.stage reached.prefix) in
        let split = behind_quiet reached.before owed before behind _ flow reached_none (sym is) in
        by_found split.middle split.front (chain.look reached.stage reached.prefix) refl (looks_in_order terms reached.stage.stage (sight_over reached.stage reached.prefix)) (sym split.is)

    by_walk : (l : Look Command) → chain.look reached.stage reached.prefix ≡ l → (onward : Command → Stop Standing Event Reply Command) (unused : List (Stamped Reply)) →
        ((ask : Command) → chain.look reached.stage reached.prefix ≡ Asks ask → owed_at chain (onward ask) ≡ before ++ question ∷ behind → FlowBegins terms here before index) →
        owed_at chain (walk_by l onward (stop_at here.last reached unused)) ≡ before ++ question ∷ behind → FlowBegins terms here before index
    by_walk NotYet looks onward unused on is = stopped unused is
    by_walk (Asks ask) looks onward unused on is = on ask looks is
    by_walk (Ends owed) looks onward unused on is = stopped unused is

  begins : (rs : List (Stamped Reply)) (last : Stamp) (s : Standing) (f : List (Timed Event)) (es : List (Stamped Event)) (before behind : List Command) →
      owed_at chain (walk chain rs last [] s f es) ≡ before ++ question ∷ behind →
      FlowBegins terms (record { place = s; prefix = f; coming = es; replies = rs; last = last }) before index
  begins [] last s f es before behind is = stopped (record { place = s; prefix = f; coming = es; replies = []; last = last }) before behind [] is
  begins (r ∷ rs) last s f es before behind is =
      let here : Walk = record { place = s; prefix = f; coming = es; replies = r ∷ rs; last = last } in
      let there = reach chain last [] s f es in
      let on = chain.turn there.stage there.prefix (at_its_step r) in
      let waiting = chain.so_far there.stage there.prefix in
      let brought = chain.behind there.stage there.prefix ++ on.owed in
      let none_asked : AsksNone brought = both_none (chain.behind there.stage there.prefix) on.owed
      (closes_ask (chain.behind there.stage there.prefix) (behind_closes there.stage.stage (sight_over there.stage there.prefix)))
      (ends_none on.owed (turns_in_order terms there.stage.stage (sight_over there.stage there.prefix) (at_its_step r))) in
      by_walk here before behind (chain.look there.stage there.prefix) refl _ (r ∷ rs)
      (λ ask asks due.
      let more = waiting ++ ask ∷ brought in
      let tail = owed_at chain (walk chain rs r.stamp [] on.stage there.prefix there.rest) in
      let split : owed_at chain (walk chain rs r.stamp (there.before ++ more) on.stage there.prefix there.rest) ≡ there.before ++ (waiting ++ (ask ∷ (brought ++ tail))) =
      ap (λ b. owed_at chain (walk chain rs r.stamp b on.stage there.prefix there.rest)) (sym (append-nil (there.before ++ more)))
      ∙ (walk_behind chain (there.before ++ more) rs r.stamp [] on.stage there.prefix there.rest
      ∙ (append_assoc there.before more tail ∙ ap (λ l. there.before ++ l) (append_assoc waiting (ask ∷ brought) tail))) in
      let searched = behind_quiet there.before (waiting ++ (ask ∷ (brought ++ tail))) before behind _ flow (searched_none last [] s f es tt) (sym due ∙ split) in
      let owed = searched.middle in
      let first = behind_quiet waiting (ask ∷ (brought ++ tail)) owed behind _ flow (so_far_none terms there.stage.stage (sight_over there.stage there.prefix)) searched.is in
      by_asked here before behind owed searched.front ask first.middle (brought ++ tail) asks first.front first.is
      (λ rest front left.
      let second = behind_quiet brought tail rest behind _ flow none_asked left in
      let further = begins rs r.stamp on.stage there.prefix there.rest second.middle behind (sym second.is) in
      let by_reply = due_by_reply terms here ask r in
      record {
        there = further.there;
        at = further.at;
        awaits = further.awaits;
        flow = further.flow;
        due = by_reply ++ further.due;
        comes = goes_on here (behind_reply terms here r rs) further.there by_reply further.due
            (record { ask = ask; asks = asks; reply = r; replies = rs; answers = refl; leads = refl; owes = refl }) further.comes;
        owes = behind_reply_owes before by_reply second.middle further.due (chain.so_far further.there.place further.there.prefix)
            (more_begins before waiting brought second.middle there.before ask rest owed searched.front front second.front) further.owes;
      }))
      is

pub flow_begins : (terms : Terms) (here : Walk) (before behind : List Command) (index : ℕ) (flow : Flow) →
    due_from terms here ≡ before ++ commands.Ask (asks.Hook index RequestHead) flow ∷ behind → FlowBegins terms here before index
flow_begins terms here before behind index flow is = begins terms index flow here.replies here.last here.place here.prefix here.coming before behind is
