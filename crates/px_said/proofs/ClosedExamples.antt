-- The closed form of small streams: two requests in one piece, to one server by one connection, or by two; a second one that waits for `100 Continue`, one
-- that is refused, and one behind a response that switches protocols; a CONNECT; a dial that is refused; and what ends the keeping of a side.
use Rattle.std.proofs.Common.{◌≡◌, ℕ, ◌+◌, ◌==◌, Bool, true, false, Option, Some, None, List, [], ◌∷◌, refl}
use Rattle.std.specs.Prelude.{take}
use Rattle.px_message.specs.declared.address.Address.{Address}
use Rattle.px_message.specs.declared.fault.Fault.{Fault}
use Rattle.px_message.specs.declared.flow.Flow.{Flow}
use Rattle.px_message.specs.declared.request.Request.{Request}
use Rattle.px_message.specs.declared.response.Response.{Response}
use Rattle.px_event.specs.declared.ask.Ask.{Ask}
use Rattle.px_event.specs.declared.command.Command.{Command}
use Rattle.px_event.specs.declared.command.Command.TheVariants as commands
use Rattle.px_event.specs.declared.event.Event.{Event}
use Rattle.px_event.specs.declared.event.Event.TheVariants.{Piece, Closed}
use Rattle.px_event.specs.declared.side.Side.TheVariants.{Client, Server}
use Rattle.px_event.specs.Chain.{Timed}
use Rattle.px_read.specs.Items.{Answers, Body, Item, missing, part, complete}
use Rattle.px_read.specs.declared.head.RequestHead.{RequestHead}
use Rattle.px_read.specs.declared.head.ResponseHead.{ResponseHead}
use Rattle.px_exchange.specs.declared.asked.Judged.TheVariants.{Refused, Accepted, Connects}
use Rattle.px_exchange.specs.declared.terms.Terms.{Terms}
use Rattle.px_exchange.specs.Endings.{connection_goes_on, read_persists, sent_persists}
use Rattle.px_exchange.specs.Finds.{is_relayed}
use Rattle.px_exchange.specs.Places.{dialled_for, form_at, is_same_address, server_for}
use Rattle.px_exchange.specs.Requests.{expects, is_head, is_http11, judged}
use Rattle.px_exchange.specs.Texts.{continue_text, onward_text, returned_text}
use Rattle.px_chain.specs.Chain.{parked_for}
use Rattle.px_said.specs.ClosedForm.{Point, answers_at, behind_request, connected_at, ended_at, fault_said, first_flows, said_from, still_parked, whole_request, whole_response}
use Rattle.px_chain.specs.Stages.{Parked}

-- the first request stands at the front, and dials are answered so
abbrev front : List (Option Fault) → Point
front dials = record { flow = 0; server = 0; bytes = 0; events = 0; dials = dials; parked = None; opened = 0; used = 0 }

-- or somewhere behind others, where a server is connected that no flow uses, at this address, and of whose bytes some were used
abbrev waiting : ℕ
waiting = 1

abbrev parked_there : Address → Parked
parked_there address = record { server = waiting; address = address }

abbrev behind_others : Address → List (Option Fault) → Point
behind_others address dials =
    record { flow = 3; server = 2; bytes = 70; events = 9; dials = dials; parked = Some (parked_there address); opened = 8; used = 5 }

abbrev final_alone : Item ResponseHead → Answers
final_alone item = record { interim = []; used = 0; final = item }

module _ (terms : Terms) (events : List (Timed Event)) (h1 h2 : RequestHead) (b1 b2 : Body) (u1 u2 o1 e1 o2 : ℕ) (r1 r2 : Request) (rh : ResponseHead) (rb : Body) (n : ℕ) where
  -- both requests with their bodies, and the response to the first one
  abbrev one : Request
  one = whole_request r1 b1 []

  abbrev two : Request
  two = whole_request r2 b2 []

  abbrev response : Response
  response = whole_response rh rb []

  -- a dial, the request's text, and the response's
  abbrev dials : ℕ → Request → Command
  dials server request = commands.Dial server (dialled_for terms.place request) None

  abbrev goes_out : ℕ → Request → Command
  goes_out server request = commands.Send (Server server) (onward_text (form_at terms.place) request)

  abbrev comes_back : Command
  comes_back = commands.Send Client (returned_text one response)

  -- where the second request stands, with this side parked, behind the bytes of the first one's response
  abbrev second : Option Parked → List (Option Fault) → Point
  second parked dials = record { flow = 0 + 1; server = 0 + 1; bytes = 0 + u1; events = e1; dials = dials; parked = parked; opened = o1; used = 0 + 0 + n }

  -- the side of this number, parked behind the first request
  abbrev behind_one : ℕ → Parked
  behind_one server = record { server = server; address = server_for terms.place one }

  -- Both go to one address, and both messages persist: the second one is not dialled for.
  pub two_gets : judged terms.place h1 ≡ Accepted r1 → expects h1 ≡ false → judged terms.place h2 ≡ Accepted r2 → expects h2 ≡ false →
      is_http11 r1.version ≡ true → is_http11 r2.version ≡ true →
      connected_at events (front (None ∷ [])) ≡ Some o1 → answers_at events 0 o1 0 (is_head r1.method) ≡ final_alone (complete rh rb [] n) →
      is_relayed rh.code ≡ true → (rh.code == 101) ≡ false → connection_goes_on 0 one response ≡ true →
      ended_at events (record { server = 0; opened = o1; used = 0; went = o1 }) (is_head r1.method) ≡ Some e1 →
      sent_persists one ≡ true → read_persists one rh ≡ true → connected_at events (second (Some (behind_one 0)) []) ≡ Some o2 →
      still_parked (take o2 events) (Some (behind_one 0)) o1 (0 + 0 + n) ≡ Some (behind_one 0) → is_same_address (server_for terms.place one) (server_for terms.place two) ≡ true →
      answers_at events 0 o1 (0 + 0 + n) (is_head r2.method) ≡ final_alone missing →
      said_from terms events (front (None ∷ [])) (complete h1 b1 [] u1 ∷ complete h2 b2 [] u2 ∷ missing ∷ [])
      ≡ dials 0 one ∷ goes_out 0 one ∷ comes_back ∷ goes_out 0 two ∷ []
  two_gets j1 x1 j2 x2 v1 v2 c1 a1 relays other stays d1 s1 p1 c2 k1 g2 a2 =
      rw j1 (rw x1 (rw c1 (rw a1 (rw v1 (rw relays (rw other (rw stays (rw d1 (rw a1 (rw s1 (rw p1 (rw j2 (rw x2 (rw c2 (rw k1 (rw g2 (rw a2 (rw v2 refl))))))))))))))))))

  -- the second one goes elsewhere
  pub two_servers : judged terms.place h1 ≡ Accepted r1 → expects h1 ≡ false → judged terms.place h2 ≡ Accepted r2 → expects h2 ≡ false →
      is_http11 r1.version ≡ true → is_http11 r2.version ≡ true →
      connected_at events (front (None ∷ None ∷ [])) ≡ Some o1 → answers_at events 0 o1 0 (is_head r1.method) ≡ final_alone (complete rh rb [] n) →
      is_relayed rh.code ≡ true → (rh.code == 101) ≡ false → connection_goes_on 0 one response ≡ true →
      ended_at events (record { server = 0; opened = o1; used = 0; went = o1 }) (is_head r1.method) ≡ Some e1 →
      sent_persists one ≡ true → read_persists one rh ≡ true → connected_at events (second (Some (behind_one 0)) (None ∷ [])) ≡ Some o2 →
      still_parked (take o2 events) (Some (behind_one 0)) o1 (0 + 0 + n) ≡ Some (behind_one 0) → is_same_address (server_for terms.place one) (server_for terms.place two) ≡ false →
      answers_at events (0 + 1) o2 0 (is_head r2.method) ≡ final_alone missing →
      said_from terms events (front (None ∷ None ∷ [])) (complete h1 b1 [] u1 ∷ complete h2 b2 [] u2 ∷ missing ∷ [])
      ≡ dials 0 one ∷ goes_out 0 one ∷ comes_back ∷ dials (0 + 1) two ∷ goes_out (0 + 1) two ∷ []
  two_servers j1 x1 j2 x2 v1 v2 c1 a1 relays other stays d1 s1 p1 c2 k1 g2 a2 =
      rw j1 (rw x1 (rw c1 (rw a1 (rw v1 (rw relays (rw other (rw stays (rw d1 (rw a1 (rw s1 (rw p1 (rw j2 (rw x2 (rw c2 (rw k1 (rw g2 (rw a2 (rw v2 refl))))))))))))))))))

  -- The first response does not persist as it was read, as one that runs to the close: the second request is dialled for, though the client's connection goes on.
  pub not_kept : judged terms.place h1 ≡ Accepted r1 → expects h1 ≡ false → judged terms.place h2 ≡ Accepted r2 → expects h2 ≡ false →
      is_http11 r1.version ≡ true → is_http11 r2.version ≡ true →
      connected_at events (front (None ∷ None ∷ [])) ≡ Some o1 → answers_at events 0 o1 0 (is_head r1.method) ≡ final_alone (complete rh rb [] n) →
      is_relayed rh.code ≡ true → (rh.code == 101) ≡ false → connection_goes_on 0 one response ≡ true →
      ended_at events (record { server = 0; opened = o1; used = 0; went = o1 }) (is_head r1.method) ≡ Some e1 →
      sent_persists one ≡ true → read_persists one rh ≡ false → connected_at events (second None (None ∷ [])) ≡ Some o2 →
      answers_at events (0 + 1) o2 0 (is_head r2.method) ≡ final_alone missing →
      said_from terms events (front (None ∷ None ∷ [])) (complete h1 b1 [] u1 ∷ complete h2 b2 [] u2 ∷ missing ∷ [])
      ≡ dials 0 one ∷ goes_out 0 one ∷ comes_back ∷ dials (0 + 1) two ∷ goes_out (0 + 1) two ∷ []
  not_kept j1 x1 j2 x2 v1 v2 c1 a1 relays other stays d1 s1 p1 c2 a2 =
      rw j1 (rw x1 (rw c1 (rw a1 (rw v1 (rw relays (rw other (rw stays (rw d1 (rw a1 (rw s1 (rw p1 (rw j2 (rw x2 (rw c2 (rw a2 (rw v2 refl))))))))))))))))

  -- A message says `close`, so the client's connection ends too, and the second request is not read.
  pub says_close : judged terms.place h1 ≡ Accepted r1 → expects h1 ≡ false → is_http11 r1.version ≡ true →
      connected_at events (front (None ∷ None ∷ [])) ≡ Some o1 → answers_at events 0 o1 0 (is_head r1.method) ≡ final_alone (complete rh rb [] n) →
      is_relayed rh.code ≡ true → (rh.code == 101) ≡ false → connection_goes_on 0 one response ≡ false →
      said_from terms events (front (None ∷ None ∷ [])) (complete h1 b1 [] u1 ∷ complete h2 b2 [] u2 ∷ missing ∷ [])
      ≡ dials 0 one ∷ goes_out 0 one ∷ comes_back ∷ []
  says_close j1 x1 v1 c1 a1 relays other ends = rw j1 (rw x1 (rw c1 (rw a1 (rw v1 (rw relays (rw other (rw ends refl)))))))

  -- A stray byte came behind the first response by the time that the second request was whole, or the side closed.
  pub strays_between : judged terms.place h1 ≡ Accepted r1 → expects h1 ≡ false → judged terms.place h2 ≡ Accepted r2 → expects h2 ≡ false →
      is_http11 r1.version ≡ true → is_http11 r2.version ≡ true →
      connected_at events (front (None ∷ None ∷ [])) ≡ Some o1 → answers_at events 0 o1 0 (is_head r1.method) ≡ final_alone (complete rh rb [] n) →
      is_relayed rh.code ≡ true → (rh.code == 101) ≡ false → connection_goes_on 0 one response ≡ true →
      ended_at events (record { server = 0; opened = o1; used = 0; went = o1 }) (is_head r1.method) ≡ Some e1 →
      sent_persists one ≡ true → read_persists one rh ≡ true → connected_at events (second (Some (behind_one 0)) (None ∷ [])) ≡ Some o2 →
      still_parked (take o2 events) (Some (behind_one 0)) o1 (0 + 0 + n) ≡ None → answers_at events (0 + 1) o2 0 (is_head r2.method) ≡ final_alone missing →
      said_from terms events (front (None ∷ None ∷ [])) (complete h1 b1 [] u1 ∷ complete h2 b2 [] u2 ∷ missing ∷ [])
      ≡ dials 0 one ∷ goes_out 0 one ∷ comes_back ∷ dials (0 + 1) two ∷ goes_out (0 + 1) two ∷ []
  strays_between j1 x1 j2 x2 v1 v2 c1 a1 relays other stays d1 s1 p1 c2 k1 a2 =
      rw j1 (rw x1 (rw c1 (rw a1 (rw v1 (rw relays (rw other (rw stays (rw d1 (rw a1 (rw s1 (rw p1 (rw j2 (rw x2 (rw c2 (rw k1 (rw a2 (rw v2 refl)))))))))))))))))

  -- the second one's body is not whole
  pub post_expects : judged terms.place h1 ≡ Accepted r1 → expects h1 ≡ true → judged terms.place h2 ≡ Accepted r2 → expects h2 ≡ true →
      is_http11 r1.version ≡ true →
      connected_at events (front (None ∷ [])) ≡ Some o1 → answers_at events 0 o1 0 (is_head r1.method) ≡ final_alone (complete rh rb [] n) →
      is_relayed rh.code ≡ true → (rh.code == 101) ≡ false → connection_goes_on 0 one response ≡ true →
      ended_at events (record { server = 0; opened = o1; used = 0; went = o1 }) (is_head r1.method) ≡ Some e1 →
      said_from terms events (front (None ∷ [])) (complete h1 b1 [] u1 ∷ part h2 b2 ∷ [])
      ≡ commands.Send Client continue_text ∷ dials 0 one ∷ goes_out 0 one ∷ comes_back ∷ commands.Send Client continue_text ∷ []
  post_expects j1 x1 j2 x2 v1 c1 a1 relays other stays d1 =
      rw j1 (rw x1 (rw c1 (rw a1 (rw v1 (rw relays (rw other (rw stays (rw d1 (rw j2 (rw x2 refl))))))))))

  -- the second one is refused, and behind its fault nothing is said
  pub refused_second : (fault : Fault) → judged terms.place h1 ≡ Accepted r1 → expects h1 ≡ false → judged terms.place h2 ≡ Refused fault →
      is_http11 r1.version ≡ true →
      connected_at events (front (None ∷ [])) ≡ Some o1 → answers_at events 0 o1 0 (is_head r1.method) ≡ final_alone (complete rh rb [] n) →
      is_relayed rh.code ≡ true → (rh.code == 101) ≡ false → connection_goes_on 0 one response ≡ true →
      ended_at events (record { server = 0; opened = o1; used = 0; went = o1 }) (is_head r1.method) ≡ Some e1 →
      said_from terms events (front (None ∷ [])) (complete h1 b1 [] u1 ∷ complete h2 b2 [] u2 ∷ complete h1 b1 [] u1 ∷ [])
      ≡ dials 0 one ∷ goes_out 0 one ∷ comes_back ∷ fault_said fault (is_head h2.method)
  refused_second fault j1 x1 j2 v1 c1 a1 relays other stays d1 =
      rw j1 (rw x1 (rw c1 (rw a1 (rw v1 (rw relays (rw other (rw stays (rw d1 (rw j2 refl)))))))))

  -- A CONNECT stands there: it is none of the requests, and nothing is said of it or behind it.
  pub tunnel_second : (address : Address) → judged terms.place h1 ≡ Accepted r1 → expects h1 ≡ false → judged terms.place h2 ≡ Connects address →
      is_http11 r1.version ≡ true →
      connected_at events (front (None ∷ [])) ≡ Some o1 → answers_at events 0 o1 0 (is_head r1.method) ≡ final_alone (complete rh rb [] n) →
      is_relayed rh.code ≡ true → (rh.code == 101) ≡ false → connection_goes_on 0 one response ≡ true →
      ended_at events (record { server = 0; opened = o1; used = 0; went = o1 }) (is_head r1.method) ≡ Some e1 →
      said_from terms events (front (None ∷ [])) (complete h1 b1 [] u1 ∷ complete h2 b2 [] u2 ∷ [])
      ≡ dials 0 one ∷ goes_out 0 one ∷ comes_back ∷ []
  tunnel_second address j1 x1 j2 v1 c1 a1 relays other stays d1 =
      rw j1 (rw x1 (rw c1 (rw a1 (rw v1 (rw relays (rw other (rw stays (rw d1 (rw j2 refl)))))))))

  -- behind a response that switches protocols the second one is not read
  pub switches_protocols : judged terms.place h1 ≡ Accepted r1 → expects h1 ≡ false → is_http11 r1.version ≡ true →
      connected_at events (front (None ∷ [])) ≡ Some o1 → answers_at events 0 o1 0 (is_head r1.method) ≡ final_alone (complete rh rb [] n) →
      is_relayed rh.code ≡ true → (rh.code == 101) ≡ true →
      said_from terms events (front (None ∷ [])) (complete h1 b1 [] u1 ∷ complete h2 b2 [] u2 ∷ missing ∷ [])
      ≡ dials 0 one ∷ goes_out 0 one ∷ comes_back ∷ []
  switches_protocols j1 x1 v1 c1 a1 relays switches = rw j1 (rw x1 (rw c1 (rw a1 (rw v1 (rw relays (rw switches refl))))))

  -- a dial that is refused
  pub dial_refused : (fault : Fault) → judged terms.place h1 ≡ Accepted r1 → expects h1 ≡ false →
      connected_at events (front (Some fault ∷ [])) ≡ Some o1 →
      said_from terms events (front (Some fault ∷ [])) (complete h1 b1 [] u1 ∷ complete h2 b2 [] u2 ∷ missing ∷ [])
      ≡ dials 0 one ∷ fault_said fault (is_head r1.method)
  dial_refused fault j1 x1 c1 = rw j1 (rw x1 (rw c1 refl))

  -- Somewhere behind others the first request goes to the parked side, without a dial, which is heard from where that was connected; and so does the second
  -- one, behind the bytes of the first one's response.
  pub parked_first : (address : Address) → judged terms.place h1 ≡ Accepted r1 → expects h1 ≡ false → judged terms.place h2 ≡ Accepted r2 → expects h2 ≡ false →
      is_http11 r1.version ≡ true → is_http11 r2.version ≡ true → connected_at events (behind_others address []) ≡ Some o1 →
      still_parked (take o1 events) (Some (parked_there address)) 8 5 ≡ Some (parked_there address) → is_same_address address (server_for terms.place one) ≡ true →
      answers_at events waiting 8 5 (is_head r1.method) ≡ final_alone (complete rh rb [] n) →
      is_relayed rh.code ≡ true → (rh.code == 101) ≡ false → connection_goes_on 3 one response ≡ true →
      ended_at events (record { server = waiting; opened = 8; used = 5; went = o1 }) (is_head r1.method) ≡ Some e1 →
      sent_persists one ≡ true → read_persists one rh ≡ true →
      connected_at events (record { flow = 4; server = 2; bytes = 70 + u1; events = e1; dials = []; parked = Some (behind_one waiting); opened = 8; used = 5 + n }) ≡ Some o2 →
      still_parked (take o2 events) (Some (behind_one waiting)) 8 (5 + n) ≡ Some (behind_one waiting) → is_same_address (server_for terms.place one) (server_for terms.place two) ≡ true →
      answers_at events waiting 8 (5 + n) (is_head r2.method) ≡ final_alone missing →
      said_from terms events (behind_others address []) (complete h1 b1 [] u1 ∷ complete h2 b2 [] u2 ∷ missing ∷ [])
      ≡ goes_out 1 one ∷ comes_back ∷ goes_out 1 two ∷ []
  parked_first address j1 x1 j2 x2 v1 v2 c1 k1 g1 a1 relays other stays d1 s1 p1 c2 k2 g2 a2 =
      rw j1 (rw x1 (rw c1 (rw k1 (rw g1 (rw a1 (rw v1 (rw relays (rw other (rw stays (rw d1 (rw a1 (rw s1 (rw p1 (rw j2 (rw x2 (rw c2 (rw k2 (rw g2 (rw a2 (rw v2 refl))))))))))))))))))))

  -- One that goes elsewhere is dialled for, and the parked side is not taken any more: so is the second one, which would have gone there.
  pub parked_second : (address : Address) → judged terms.place h1 ≡ Accepted r1 → expects h1 ≡ false → judged terms.place h2 ≡ Accepted r2 → expects h2 ≡ false →
      is_http11 r1.version ≡ true → is_http11 r2.version ≡ true → connected_at events (behind_others address (None ∷ None ∷ [])) ≡ Some o1 →
      still_parked (take o1 events) (Some (parked_there address)) 8 5 ≡ Some (parked_there address) → is_same_address address (server_for terms.place one) ≡ false →
      answers_at events 2 o1 0 (is_head r1.method) ≡ final_alone (complete rh rb [] n) →
      is_relayed rh.code ≡ true → (rh.code == 101) ≡ false → connection_goes_on 3 one response ≡ true →
      ended_at events (record { server = 2; opened = o1; used = 0; went = o1 }) (is_head r1.method) ≡ Some e1 →
      sent_persists one ≡ true → read_persists one rh ≡ true →
      connected_at events (record { flow = 4; server = 3; bytes = 70 + u1; events = e1; dials = None ∷ []; parked = Some (behind_one 2); opened = o1; used = 0 + 0 + n }) ≡ Some o2 →
      still_parked (take o2 events) (Some (behind_one 2)) o1 (0 + 0 + n) ≡ Some (behind_one 2) → is_same_address (server_for terms.place one) (server_for terms.place two) ≡ false →
      answers_at events 3 o2 0 (is_head r2.method) ≡ final_alone missing →
      said_from terms events (behind_others address (None ∷ None ∷ [])) (complete h1 b1 [] u1 ∷ complete h2 b2 [] u2 ∷ missing ∷ [])
      ≡ dials 2 one ∷ goes_out 2 one ∷ comes_back ∷ dials 3 two ∷ goes_out 3 two ∷ []
  parked_second address j1 x1 j2 x2 v1 v2 c1 k1 g1 a1 relays other stays d1 s1 p1 c2 k2 g2 a2 =
      rw j1 (rw x1 (rw c1 (rw k1 (rw g1 (rw a1 (rw v1 (rw relays (rw other (rw stays (rw d1 (rw a1 (rw s1 (rw p1 (rw j2 (rw x2 (rw c2 (rw k2 (rw g2 (rw a2 (rw v2 refl))))))))))))))))))))

  -- One flow by itself: of the second request nothing is said.
  pub one_alone : judged terms.place h1 ≡ Accepted r1 → expects h1 ≡ false → is_http11 r1.version ≡ true →
      connected_at events (front (None ∷ None ∷ [])) ≡ Some o1 → answers_at events 0 o1 0 (is_head r1.method) ≡ final_alone (complete rh rb [] n) →
      is_relayed rh.code ≡ true → (rh.code == 101) ≡ false → connection_goes_on 0 one response ≡ true →
      ended_at events (record { server = 0; opened = o1; used = 0; went = o1 }) (is_head r1.method) ≡ Some e1 →
      said_from terms events (front (None ∷ None ∷ [])) (take 1 (complete h1 b1 [] u1 ∷ complete h2 b2 [] u2 ∷ missing ∷ []))
      ≡ dials 0 one ∷ goes_out 0 one ∷ comes_back ∷ []
  one_alone j1 x1 v1 c1 a1 relays other stays d1 = rw j1 (rw x1 (rw c1 (rw a1 (rw v1 (rw relays (rw other (rw stays (rw d1 refl))))))))

-- ---- what ends the keeping

-- A side of which two bytes were used stays parked until a third one comes, or its close; and what came before it was connected counts for nothing.
module _ (parked : Parked) (moment : ℕ) (a b c : ℕ) where
  abbrev comes : List ℕ → Timed Event
  comes bytes = record { moment = moment; value = Piece (Server 0) bytes }

  abbrev side : Option Parked
  side = Some (record parked { server = 0 })

  pub stays_parked : still_parked (comes (c ∷ []) ∷ comes (a ∷ b ∷ []) ∷ []) side 1 2 ≡ side
  stays_parked = refl

  pub stray_byte : still_parked (comes (c ∷ []) ∷ comes (a ∷ b ∷ []) ∷ comes (c ∷ []) ∷ []) side 1 2 ≡ None
  stray_byte = refl

  pub closes_itself : still_parked (comes (c ∷ []) ∷ comes (a ∷ b ∷ []) ∷ record { moment = moment; value = Closed (Server 0) } ∷ []) side 1 2 ≡ None
  closes_itself = refl

-- ---- the first flows of what is due

-- what ends the first flow is its part, and the closes behind it are not
pub first_of_two : (flow other : Flow) (asked : Ask) (text more : List ℕ) →
    first_flows 1 (commands.Send Client text ∷ commands.Done flow ∷ commands.Close (Server 0) ∷ commands.Ask asked other ∷ commands.Send Client more ∷ [])
    ≡ commands.Send Client text ∷ commands.Done flow ∷ []
first_of_two flow other asked text more = refl
