-- Streamed messages. Responses: what is owed of one that is above the size from its head on, or below it; that is whole, in one look or behind others; that is
-- at fault behind its first byte; and where its server or the client closes in the middle. And which are not streamed.
-- Requests: above the size and below it; whole, and at fault, before a response and beside one; and which of the two is whole first.
use Rattle.std.proofs.Common.{◌≡◌, ℕ, ◌+◌, Bool, true, false, List, [], ◌∷◌, ◌++◌, drop, Option, Some, None, refl, ap, ◌∙◌}
use Rattle.std.specs.Prelude.{◌&&◌, not}
use Rattle.px_message.specs.Length.{has_no_body}
use Rattle.px_message.specs.declared.fault.Fault.{Fault}
use Rattle.px_message.specs.declared.fault.Fault.TheVariants.{BadChunk, ServerClosed}
use Rattle.px_message.specs.declared.flow.Flow.{Flow}
use Rattle.px_message.specs.declared.response.Response.{Response}
use Rattle.px_event.specs.declared.command.Command.TheVariants as commands
use Rattle.px_event.specs.declared.reply.Reply.TheVariants as reply
use Rattle.px_event.specs.declared.side.Side.TheVariants.{Client, Server}
use Rattle.px_event.specs.Chain.{Asks, Ends}
use Rattle.px_read.specs.Items.{Body, Item, part, complete, bad_body, answer_list}
use Rattle.px_read.specs.declared.head.RequestHead.{RequestHead as ReadRequest}
use Rattle.px_read.specs.declared.head.ResponseHead.{ResponseHead as ReadResponse}
use Rattle.px_write.specs.Error.{fault_message}
use Rattle.px_exchange.specs.declared.ending.Used.TheVariants.{ByServer, NoServer}
use Rattle.px_exchange.specs.declared.taken.Taken.TheVariants.{GoesOn}
use Rattle.px_exchange.specs.declared.terms.Terms.{Terms}
use Rattle.px_exchange.specs.Endings.{closed_message, ends_by_fault, finished, with_error}
use Rattle.px_exchange.specs.Flows.{with_end}
use Rattle.px_exchange.specs.Places.{dialled_for}
use Rattle.px_exchange.specs.Requests.{is_head}
use Rattle.px_exchange.specs.Texts.{interim_commands}
use Rattle.px_parts.specs.Texts.{left_of}
use Rattle.px_chain.specs.Chain.{goes_to, goes_up_by, look, parked_for, pass, pass_came, past_gone, reached, sequence, sight_past, so_far, turn, turn_taken_whole}
use Rattle.px_chain.specs.Keeping.{is_silent, keeps_side, parks, shut_by_byte, shut_stray, unspoilt_at, unspoilt_by}
use Rattle.px_chain.specs.Coming.{Came, came_by, came_in, coming_text, goes_on_behind, streaming, streams_by, streams_in}
use Rattle.px_chain.specs.Going.{going_text, goes_up, sending_on, sends_going, whole_by, with_whole}
use Rattle.px_chain.specs.Sights.{Sight, answers_in, left_by, request_in}
use Rattle.px_chain.specs.Stages.{At, Parked, Stage, all_sent, busy, coming_down, connection, going_up, idle, next, over, request_body, response_body, response_head, unparked}
use Rattle.px_chain.proofs.ChainLaws.{behind_turn, leaves_by, passes_by}
use Rattle.px_chain.proofs.ComingLaws.{keeps_here, streams_here}
use Rattle.px_chain.proofs.UpLaws.{goes_up_here, stays_here}

-- where none is parked there is none whose keeping could end
spoilt_none : (silent : Bool) (parked : Option Parked) → parked ≡ None → unspoilt_by silent parked ≡ None
spoilt_none true parked is = is
spoilt_none false parked is = refl

-- what is seen of a server that has closed or not, and of a client likewise
abbrev sees : List ℕ → Bool → List ℕ → Bool → ℕ → Sight
sees client closed server shut now = record { client = client; closed = closed; server = server; shut = shut; told = 0; now = now }

module _ (terms : Terms) (at : At) (flow : Flow) (response : Response) (side : ℕ) (most : Option ℕ) (client server : List ℕ) (now : ℕ) (head : ReadResponse) (body : Body)
    (trailers : List (List ℕ × List ℕ)) (used : ℕ) where
  -- the final response, as far as it came
  abbrev final : Bool → Item ReadResponse
  final shut = (answer_list (is_head flow.request.method) shut server).final

  abbrev comes_down : Stage
  comes_down = busy at flow (coming_down side all_sent)

  -- ---- at its head

  -- Its length is above the size: what came of it is sent at once, and so is all that comes.
  pub above_the_size : streams_in flow most (sees client false server false now) ≡ true → came_in (streaming flow) (sees client false server false now) ≡ None →
      pass terms (busy at flow (response_body side all_sent most)) (sees client false server false now) ≡ goes_to (busy at (streaming flow) (coming_down side all_sent))
  above_the_size streams part_there =
      streams_here terms at flow side all_sent most (sees client false server false now) streams
      ∙ ap (pass_came terms.place at (streaming flow) side all_sent (sees client false server false now)) part_there

  -- It is not: nothing is sent of it before it is whole.
  pub below_the_size : streams_in flow most (sees client false server false now) ≡ false →
      ((pass terms (busy at flow (response_body side all_sent most)) (sees client false server false now)).owed ≡ [])
      × (so_far terms (busy at flow (response_body side all_sent most)) (sees client false server false now) ≡ [])
  below_the_size streams = (ap (λ turned. turned.owed) (keeps_here terms at flow side most (sees client false server false now) streams), refl)

  -- ---- whole

  abbrev came : Came
  came = record { response = response; head = head }

  is_whole : (shut : Bool) → flow.response ≡ Some response → final shut ≡ complete head body trailers used → came_in flow (sees client false server shut now) ≡ Some came
  is_whole shut there whole = ap (λ given. came_by given (final shut)) there ∙ ap (came_by (Some response)) whole

  -- The connection goes on, and its server's side is not kept: its text, the flow, and the close of that side; and the next request is awaited, which sees what the client sent.
  pub ends_its_flow : flow.response ≡ Some response → final false ≡ complete head body trailers used → goes_on_behind at.flow flow.request came ≡ true →
      keeps_side flow.request (sees client false server false now) head ≡ false →
      (pass terms comes_down (sees client false server false now)
      ≡ record {
        owed = commands.Send Client (coming_text flow (sees client false server false now)) ∷ commands.Done (with_end flow now) ∷ commands.Close (Server side) ∷ [];
        stage = next (record (unparked at) { flow = at.flow + 1 });
      }) × ((sight_past terms comes_down (sees client false server false now)).client ≡ client)
  ends_its_flow there whole goes_on closes =
      let is = is_whole false there whole in (rw (is, goes_on, closes) refl, rw is refl)

  -- It is kept: that is parked, and not closed.
  pub keeps_its_side : flow.response ≡ Some response → final false ≡ complete head body trailers used → goes_on_behind at.flow flow.request came ≡ true →
      keeps_side flow.request (sees client false server false now) head ≡ true →
      pass terms comes_down (sees client false server false now)
      ≡ record {
        owed = commands.Send Client (coming_text flow (sees client false server false now)) ∷ commands.Done (with_end flow now) ∷ [];
        stage = next (record (parks true terms.place at flow.request side) { flow = at.flow + 1 });
      }
  keeps_its_side there whole goes_on keeps =
      let is = is_whole false there whole in rw (is, goes_on, keeps) refl

  -- It does not: the client is closed as well. So is it behind a body that runs to the close, whose server's side is closed already.
  pub ends_the_conversation : flow.response ≡ Some response → final true ≡ complete head body trailers used → goes_on_behind at.flow flow.request came ≡ false →
      pass terms comes_down (sees client false server true now)
      ≡ record { owed = commands.Send Client (coming_text flow (sees client false server true now)) ∷ commands.Done (with_end flow now) ∷ commands.Close Client ∷ []; stage = over }
  ends_the_conversation there whole ends =
      let is = is_whole true there whole in rw (is, ends) refl

  -- ---- in the middle

  -- A chunk is at fault: the flow is done with the error and its response, and no error text is said.
  pub at_fault : final false ≡ bad_body BadChunk head body →
      look terms comes_down (sees client false server false now)
      ≡ Ends (commands.Done (with_error flow (fault_message BadChunk) now) ∷ commands.Close (Server side) ∷ commands.Close Client ∷ [])
  at_fault bad = rw bad refl

  -- The server closes before it is whole.
  pub server_closes : final true ≡ bad_body ServerClosed head body →
      look terms comes_down (sees client false server true now) ≡ Ends (commands.Done (with_error flow (fault_message ServerClosed) now) ∷ commands.Close Client ∷ [])
  server_closes bad = rw bad refl

  -- The client closes.
  pub client_closes : final false ≡ part head body →
      look terms comes_down (sees client true server false now) ≡ Ends (commands.Done (with_error flow closed_message now) ∷ commands.Close (Server side) ∷ [])
  client_closes there = rw there refl

  -- ---- which are not streamed

  none_of : (without_body rest : Bool) → without_body ≡ true → (not without_body && rest) ≡ false
  none_of without_body rest is = rw is refl

  -- to HEAD, or with a code that can have no body, as one that its head's hook set to 204
  pub has_none : flow.response ≡ Some response → has_no_body response.status (is_head flow.request.method) ≡ true → streams_in flow most (sees client false server false now) ≡ false
  has_none there none =
      ap (λ given. streams_by given flow.request most false server) there ∙ none_of (has_no_body response.status (is_head flow.request.method)) _ none

-- the next request is awaited where flows go on in sequence
pub next_is_awaited : (at : At) → sequence (next (record (unparked at) { flow = at.flow + 1 })) ≡ idle (record (unparked at) { flow = at.flow + 1 })
next_is_awaited at = refl

-- ---- requests

-- A request that is streamed: its body is above the size that its head's hook allowed, as one in chunks is whose bytes are more than 3.
module _ (terms : Terms) (at : At) (flow : Flow) (side : ℕ) (client server : List ℕ) (told now : ℕ) (head : ReadRequest) (body : Body) (trailers : List (List ℕ × List ℕ)) (used : ℕ) where
  -- what is seen where so many bytes of its text were owed
  abbrev sees_told : List ℕ → ℕ → Sight
  sees_told heard moment = record { client = heard; closed = false; server = server; shut = false; told = told; now = moment }

  abbrev here : Sight
  here = sees_told client now

  abbrev text : List ℕ
  text = left_of told (going_text terms.place flow here)

  -- ---- where it begins

  -- It is above the size: its server is dialled at once, and the hook of its body is not asked.
  pub above_three : goes_up (Some 3) here ≡ true → at.parked ≡ None →
      pass terms (busy at flow (request_body None (Some 3))) here ≡ goes_to (busy at (sending_on flow) (connection going_up))
  above_three up none =
      goes_up_here terms at flow (Some 3) here up
      ∙ ap (λ parked. pass terms (goes_up_by (parked_for terms.place flow.request parked) terms.place at (sending_on flow)) here) (spoilt_none (is_silent here.server here.shut) at.parked none)

  -- It is not: it is kept, and its hook is asked once it is whole.
  pub below_three : goes_up (Some 3) here ≡ false → pass terms (busy at flow (request_body None (Some 3))) here ≡ goes_to (busy at flow (request_body None (Some 3)))
  below_three kept = stays_here terms at flow (Some 3) here kept

  -- It is, and its server is parked and has said nothing: it goes up there.
  pub above_parked : goes_up (Some 3) here ≡ true → parked_for terms.place flow.request (unspoilt_at at here).parked ≡ Some side →
      pass terms (busy at flow (request_body None (Some 3))) here ≡ pass terms (goes_up_by (Some side) terms.place at (sending_on flow)) here
  above_parked up parked = goes_up_here terms at flow (Some 3) here up ∙ ap (λ to. pass terms (goes_up_by to terms.place at (sending_on flow)) here) parked

  -- A byte came of that: it is closed, and a server is dialled, as without one.
  pub above_heard : (first : ℕ) (more : List ℕ) (heard : Sight) (parked : Parked) → goes_up (Some 3) heard ≡ true → at.parked ≡ Some parked → heard.server ≡ first ∷ more →
      (pass terms (busy at flow (request_body None (Some 3))) heard ≡ goes_to (busy at (sending_on flow) (connection going_up)))
      × (so_far terms (busy at (sending_on flow) (connection going_up)) heard ≡ commands.Close (Server parked.server) ∷ [])
  above_heard first more heard parked up is said = (
    goes_up_here terms at flow (Some 3) heard up
        ∙ ap (λ bytes. pass terms (goes_up_by (parked_for terms.place flow.request (unspoilt_by (is_silent bytes heard.shut) at.parked)) terms.place at (sending_on flow)) heard) said,
    ap (λ it. shut_stray it heard ++ []) is ∙ ap (λ bytes. shut_by_byte parked.server bytes ++ []) said,
  )

  -- Nothing is told of it before its server is there, also where its body is at fault by then: so a refused dial goes before a bad body.
  pub dials_first : at.parked ≡ None → (look terms (busy at flow (connection going_up)) here ≡ Asks (commands.Dial at.dials (dialled_for terms.place flow.request) None))
      × (so_far terms (busy at flow (connection going_up)) here ≡ [])
  dials_first none = (refl, ap (λ parked. shut_stray parked here ++ []) none)

  pub is_refused : (fault : Fault) (moment : ℕ) → turn terms (busy at flow (connection going_up)) here (record { moment = moment; value = reply.Refused fault })
      ≡ record { owed = ends_by_fault flow fault moment NoServer false; stage = over }
  is_refused fault moment = refl

  -- It is there: what came of the text is owed while the response is awaited.
  pub is_reached : (moment : ℕ) → turn terms (busy at flow (connection going_up)) here (record { moment = moment; value = reply.Dialled })
      ≡ record { owed = []; stage = busy (record at { dials = at.dials + 1; parked = None }) (reached terms.place flow) (response_head at.dials going_up) }
  is_reached moment = refl

  pub goes_on_up : (answers_in flow.request here).interim ≡ [] → request_in here ≡ part head body →
      (pass terms (busy at flow (response_head side going_up)) here ≡ goes_to (busy at flow (response_head side going_up)))
      × (so_far terms (busy at flow (response_head side going_up)) here ≡ commands.Send (Server side) text ∷ interim_commands flow.request [])
  goes_on_up none there = (rw there refl, ap (λ heads. sends_going terms.place flow side here ++ interim_commands flow.request heads) none)

  -- ---- where it is whole

  -- The rest is owed, and the flow has its moment; what stands behind it is left.
  pub is_gone : request_in here ≡ complete head body trailers used →
      (pass terms (busy at flow (response_head side going_up)) here ≡ record { owed = commands.Send (Server side) text ∷ []; stage = busy at (with_whole flow now) (response_head side all_sent) })
      × ((sight_past terms (busy at flow (response_head side going_up)) here).client ≡ drop used client)
  is_gone whole = (
    ap (λ size. passes_by size terms at flow (response_head side going_up) here) (ap whole_by whole),
    ap (λ size. (leaves_by size terms at flow (response_head side going_up) here).client) (ap whole_by whole) ∙ ap (λ item. left_by item client) whole,
  )

  -- ---- a chunk is at fault

  -- Before the first byte of a response an error text tells the client.
  pub bad_chunk : request_in here ≡ bad_body BadChunk head body →
      (look terms (busy at flow (response_head side going_up)) here ≡ Ends (ends_by_fault flow BadChunk now (ByServer side false) false))
      × ((most : Option ℕ) → look terms (busy at flow (response_body side going_up most)) here ≡ Ends (ends_by_fault flow BadChunk now (ByServer side false) false))
  bad_chunk bad = (rw bad refl, λ most. rw bad refl)

  -- Behind it none does.
  pub bad_chunk_behind : request_in here ≡ bad_body BadChunk head body →
      look terms (busy at flow (coming_down side going_up)) here
      ≡ Ends (commands.Done (with_error flow (fault_message BadChunk) now) ∷ commands.Close (Server side) ∷ commands.Close Client ∷ [])
  bad_chunk_behind bad = rw bad refl

  -- ---- a response beside it

  -- Both go on at once: what came of the request is owed its server, and what came of the response the client.
  pub both_at_once : request_in here ≡ part head body → came_in flow here ≡ None →
      (pass terms (busy at flow (coming_down side going_up)) here ≡ goes_to (busy at flow (coming_down side going_up)))
      × (so_far terms (busy at flow (coming_down side going_up)) here ≡ commands.Send (Server side) text ∷ commands.Send Client (coming_text flow here) ∷ [])
  both_at_once there coming = (rw (there, coming) refl, refl)

  -- The request is whole first: the response comes down on.
  pub request_first : request_in here ≡ complete head body trailers used → came_in flow here ≡ None →
      pass terms (busy at flow (coming_down side going_up)) here ≡ record { owed = commands.Send (Server side) text ∷ []; stage = busy at (with_whole flow now) (coming_down side all_sent) }
  request_first whole coming =
      ap (λ size. passes_by size terms at flow (coming_down side going_up) here) (ap whole_by whole)
      ∙ ap (λ c. behind_turn (record { owed = sends_going terms.place flow side here; stage = over }) (pass_came terms.place at (with_whole flow now) side all_sent (past_gone (Some side) here) c)) coming

  -- The response is whole first: the flow is finished, and the conversation ends.
  pub response_first : (made : Came) → request_in here ≡ part head body → came_in flow here ≡ Some made →
      pass terms (busy at flow (coming_down side going_up)) here
      ≡ record {
        owed = commands.Send (Server side) text ∷ commands.Send Client (coming_text flow here) ∷ commands.Done (with_end flow now) ∷ commands.Close (Server side) ∷ commands.Close Client ∷ [];
        stage = over;
      }
  response_first made there is =
      ap (λ size. passes_by size terms at flow (coming_down side going_up) here) (ap whole_by there) ∙ ap (λ c. pass_came terms.place at flow side going_up here c) is

  -- So is it behind one that is kept, whatever its code: 101 switches protocols behind a whole request alone.
  pub kept_first : (response : Response) (keeps : Bool) → turn_taken_whole terms.place at flow side going_up keeps (GoesOn response) now (ByServer side false) false
      ≡ record { owed = finished flow response (ByServer side false) ++ commands.Close Client ∷ []; stage = over }
  kept_first response keeps = refl
