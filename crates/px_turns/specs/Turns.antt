-- What a server of a conversation is sent, against what it says: each request, to the one address of its side, behind the whole answer to the one before.
use Rattle.std.specs.Prelude.{⊤, ◌≡◌, ◌<◌, ℕ, ◌==◌, Bool, true, false, ◌||◌, nat_lt, if◌then◌else◌, List, [], ◌∷◌, ◌++◌, Option, Some}
use Rattle.px_message.specs.declared.address.Address.{Address}
use Rattle.px_message.specs.declared.request.Request.{Request}
use Rattle.px_event.specs.declared.command.Command.{Command}
use Rattle.px_event.specs.declared.event.Event.{Event}
use Rattle.px_event.specs.declared.reply.Reply.{Reply}
use Rattle.px_event.specs.declared.reply.Reply.TheVariants as replies
use Rattle.px_event.specs.declared.side.Side.TheVariants.{Client, Server}
use Rattle.px_event.specs.Chain.{Asks, Chain, Look, Stamp, Stamped, Timed, at_its_step, never, reach}
use Rattle.px_event.specs.Layer.{Move}
use Rattle.px_event.specs.Sides.{closes, piece_of}
use Rattle.px_event.specs.Stands.{events_in, replies_in}
use Rattle.px_read.specs.Items.{Answers, answer_list, request_item}
use Rattle.px_read.specs.Laws.{head_in}
use Rattle.px_read.specs.declared.head.RequestHead.{RequestHead}
use Rattle.px_exchange.specs.declared.place.Place.{Place}
use Rattle.px_exchange.specs.declared.terms.Terms.{Terms}
use Rattle.px_exchange.specs.Places.{form_at, is_same_address, server_for}
use Rattle.px_exchange.specs.Requests.{is_head}
use Rattle.px_exchange.specs.Texts.{onward_text}
use Rattle.px_parts.specs.Texts.{request_so_far}
use Rattle.px_chain.specs.Chain.{begin, http_chain}
use Rattle.px_chain.specs.Going.{framed_up, whole_by}
use Rattle.px_chain.specs.Sights.{Standing, left_by_answers}
use Rattle.px_chain.specs.Stages.{At, Parked, Stage, busy, connection, idle}

-- ---- what a server says

-- the answer is that of this server's dial, with its connection
abbrev pub connects_to : ℕ → Stage → Reply → Bool
connects_to server (busy at flow (connection sent)) replies.Dialled = at.dials == server
connects_to server stage reply = false

abbrev pub behind_by : {A : Type 0} → Look Command → Bool → List A → List A → List A
behind_by (Asks ask) true rest further = rest
behind_by (Asks ask) false rest further = further
behind_by _ connects rest further = []

-- the events that were not worked off when that answer was: those behind it, of which a server is heard that was dialled
abbrev pub behind_answer : Chain Standing Event Reply Command → ℕ → List (Stamped Reply) → Stamp → Standing → List (Timed Event) → List (Stamped Event) → List (Stamped Event)
behind_answer chain server [] last place prefix es = []
behind_answer chain server (r ∷ rs) last place prefix es =
    let here = reach chain last [] place prefix es in
    behind_by (chain.look here.stage here.prefix) (connects_to server here.stage.stage r.value) here.rest
    (behind_answer chain server rs r.stamp (chain.turn here.stage here.prefix (at_its_step r)).stage here.prefix here.rest)

-- its bytes among the events, joined, up to its close or the client's
abbrev pub bytes_among : ℕ → List (Stamped Event) → List ℕ
bytes_among server [] = []
bytes_among server (e ∷ es) =
    if closes Client e.value || closes (Server server) e.value then [] else (piece_of (Server server) e.value ++ bytes_among server es)

-- the events in which it is heard: all, where it was connected before them, and else those behind the answer that connects it
abbrev pub heard_in : (Stage → Stage) → Terms → At → ℕ → List Move → List (Stamped Event)
heard_in onward terms at server moves =
    if nat_lt server at.dials then events_in 1 moves
    else behind_answer (http_chain onward terms) server (replies_in 1 moves) never (begin (idle at)) [] (events_in 1 moves)

abbrev pub heard_of : (Stage → Stage) → Terms → At → ℕ → List Move → List ℕ
heard_of onward terms at server moves = bytes_among server (heard_in onward terms at server moves)

-- events that bring no byte of it, and close neither it nor the client
abbrev pub BringNothing : ℕ → List (Stamped Event) → Type 0
BringNothing server [] = ⊤
BringNothing server (e ∷ es) = ((closes Client e.value || closes (Server server) e.value) ≡ false) × (piece_of (Server server) e.value ≡ []) × BringNothing server es

-- In the moves it is heard behind these first events; and where they bring nothing of it, in all.
pub record IsHeardBehind (server : ℕ) (heard all : List (Stamped Event)) : Type 0 where
  pub early : List (Stamped Event)
  pub all_are : all ≡ early ++ heard
  pub whole : BringNothing server early → bytes_among server heard ≡ bytes_among server all

-- ---- requests, and the answers to them

-- the request goes to the address
abbrev pub GoesTo : Place → Address → Request → Type 0
GoesTo place address request = is_same_address address (server_for place request) ≡ true

-- One that is streamed is framed as the head of the bytes that came of it.
pub record IsFramedAs (request : Request) (came : List ℕ) : Type 0 where
  pub head : RequestHead
  pub other : Request
  pub read : head_in (request_item came) ≡ Some head
  pub framed : request ≡ framed_up head other

-- The text of a whole request: as it was settled, or where it is streamed that of its bytes.
pub data IsWholeText (place : Place) (request : Request) (text : List ℕ) : Type 0 where
  is_settled : text ≡ onward_text (form_at place) request → IsWholeText place request text
  is_streamed : (came : List ℕ) (size : ℕ) → IsFramedAs request came → whole_by (request_item came) ≡ Some size → text ≡ request_so_far request (form_at place) came → IsWholeText place request text

-- or of one that is streamed, as far as it came
pub data IsText (place : Place) (request : Request) (text : List ℕ) : Type 0 where
  in_full : IsWholeText place request text → IsText place request text
  in_part : (came : List ℕ) → IsFramedAs request came → text ≡ request_so_far request (form_at place) came → IsText place request text

-- the answers to a request at the front of what its server says: interim ones, and the final one
abbrev pub answers_to : Request → List ℕ → Answers
answers_to request heard = answer_list (is_head request.method) false heard

-- A server is sent requests to one address: none, or a last one, or a whole one, and behind the whole answer to it, which stands at the front of what it
-- says, whatever it is sent further, against what it says further.
pub data Exchanges (place : Place) (address : Address) : List ℕ → List ℕ → Type 0 where
  nothing_more : (sent heard : List ℕ) → sent ≡ [] → Exchanges place address sent heard
  the_last : (request : Request) (sent heard : List ℕ) → GoesTo place address request → IsText place request sent → Exchanges place address sent heard
  was_answered : (request : Request) (text more sent heard : List ℕ) (size : ℕ) → GoesTo place address request → IsWholeText place request text → sent ≡ text ++ more →
      whole_by (answers_to request heard).final ≡ Some size → Exchanges place address more (left_by_answers (answers_to request heard) heard) → Exchanges place address sent heard

-- ---- in a conversation that begins with this parked side, and so many servers that were connected before

-- of those only the one whose side is parked is sent something, at that side's address
pub record IsOfParked (parked : Option Parked) (server : ℕ) (address : Address) : Type 0 where
  pub side : Parked
  pub there : parked ≡ Some side
  pub number : side.server ≡ server
  pub same : side.address ≡ address

pub data IsInTurn (place : Place) (parked : Option Parked) (dials server : ℕ) (sent heard : List ℕ) : Type 0 where
  is_sent_nothing : sent ≡ [] → IsInTurn place parked dials server sent heard
  by_turns : (address : Address) → (server < dials → IsOfParked parked server address) → Exchanges place address sent heard → IsInTurn place parked dials server sent heard
