-- A walk over flows in sequence, from any place on: that of a conversation, of HTTP in a tunnel, or what is left of either behind some
-- replies. So each flow begins where a walk comes by.
use Rattle.std.specs.Prelude.{◌≡◌, ℕ, false, List, [], ◌∷◌, ◌++◌, length, map}
use Rattle.px_event.specs.declared.command.Command.{Command}
use Rattle.px_event.specs.declared.event.Event.{Event}
use Rattle.px_event.specs.declared.reply.Reply.{Reply}
use Rattle.px_event.specs.Chain.{Asks, NotYet, Reached, Stamp, Stamped, Timed, at_its_step, never, owed_at, reach, walk, worked_off}
use Rattle.px_event.specs.Layer.{Move}
use Rattle.px_event.specs.Stands.{events_in, replies_in}
use Rattle.px_exchange.specs.declared.terms.Terms.{Terms}
use Rattle.px_chain.specs.Behind.{used_behind}
use Rattle.px_chain.specs.Chain.{http_chain, sequence}
use Rattle.px_said.specs.ClosedForm.{Point, dial_answers}
use Rattle.px_said.specs.Lines.{Start}
use Rattle.px_chain.specs.Sights.{Standing}
use Rattle.px_chain.specs.Stages.{At, idle, side_parked}

-- where it begins: its place, over so many events, those that come then, the replies from there on, and the step of the last one before
pub record Walk : Type 0 where
  pub place : Standing
  pub prefix : List (Timed Event)
  pub coming : List (Stamped Event)
  pub replies : List (Stamped Reply)
  pub last : Stamp

-- the walk of a conversation by these moves, from this place on
abbrev pub by_moves : Standing → List Move → Walk
by_moves place moves = record { place = place; prefix = []; coming = events_in 1 moves; replies = replies_in 1 moves; last = never }

-- all that is heard, of what is before it too
abbrev pub heard : Walk → List (Timed Event)
heard here = here.prefix ++ map at_its_step here.coming

-- the replies from here on
abbrev pub answered : Walk → List Reply
answered here = map (λ r. r.value) here.replies

-- what is due from here on
abbrev pub due_from : Terms → Walk → List Command
due_from terms here =
    let chain = http_chain sequence terms in owed_at chain (walk chain here.replies here.last [] here.place here.prefix here.coming)

-- where the request stands that is awaited here
abbrev pub point_at : At → Walk → Point
point_at at here = record {
  flow = at.flow;
  server = at.dials;
  bytes = here.place.used.client;
  events = length here.prefix;
  dials = dial_answers (answered here);
  parked = at.parked;
  opened = here.place.opened;
  used = used_behind false (side_parked at.parked) here.place.used.server;
}

-- ---- where a walk comes by

-- the place at which it asks, or ends, or waits
abbrev pub reached_from : Terms → Walk → Reached Standing Event Command
reached_from terms here = reach (http_chain sequence terms) here.last [] here.place here.prefix here.coming

-- where the walk goes on from behind a reply to what is asked there
abbrev pub behind_reply : Terms → Walk → Stamped Reply → List (Stamped Reply) → Walk
behind_reply terms here reply replies =
    let there = reached_from terms here in
    record {
      place = ((http_chain sequence terms).turn there.stage there.prefix (at_its_step reply)).stage;
      prefix = there.prefix;
      coming = there.rest;
      replies = replies;
      last = reply.stamp;
    }

-- what is due by then
abbrev pub due_by_reply : Terms → Walk → Command → Stamped Reply → List Command
due_by_reply terms here ask reply =
    let there = reached_from terms here in
    there.before ++ ((http_chain sequence terms).so_far there.stage there.prefix
    ++ ask ∷ ((http_chain sequence terms).behind there.stage there.prefix
    ++ ((http_chain sequence terms).turn there.stage there.prefix (at_its_step reply)).owed))

-- One reply on.
pub record IsOneReplyOn (terms : Terms) (here next : Walk) (due : List Command) : Type 0 where
  pub ask : Command
  pub asks : (http_chain sequence terms).look (reached_from terms here).stage (reached_from terms here).prefix ≡ Asks ask
  pub reply : Stamped Reply
  pub replies : List (Stamped Reply)
  pub answers : here.replies ≡ reply ∷ replies
  pub leads : next ≡ behind_reply terms here reply replies
  pub owes : due ≡ due_by_reply terms here ask reply

-- where its place passes
abbrev pub passed_on : Terms → Walk → Walk
passed_on terms here = record here { place = ((http_chain sequence terms).pass here.place here.prefix).stage }

-- and where the next event was worked off there
abbrev pub heard_on : Terms → Walk → Stamped Event → List (Stamped Event) → Walk
heard_on terms here event rest =
    record (passed_on terms here) { prefix = here.prefix ++ worked_off here.last event ∷ []; coming = rest }

-- What is due where it passes: a streamed response that is whole ends its flow so, without a reply.
abbrev pub due_by_passing : Terms → Walk → List Command
due_by_passing terms here = ((http_chain sequence terms).pass here.place here.prefix).owed

-- The walk from here comes by there, and by then this was due.
pub data ComesBy (terms : Terms) : (here there : Walk) → List Command → Type 0 where
  is_there : (here : Walk) → ComesBy terms here here []
  passes : (here there : Walk) (more : List Command) → ComesBy terms (passed_on terms here) there more →
      ComesBy terms here there (due_by_passing terms here ++ more)
  hears : (here there : Walk) (event : Stamped Event) (rest : List (Stamped Event)) (more : List Command) → here.coming ≡ event ∷ rest →
      (http_chain sequence terms).look (passed_on terms here).place here.prefix ≡ NotYet → ComesBy terms (heard_on terms here event rest) there more →
      ComesBy terms here there (due_by_passing terms here ++ more)
  goes_on : (here next there : Walk) (owed more : List Command) → IsOneReplyOn terms here next owed → ComesBy terms next there more →
      ComesBy terms here there (owed ++ more)

-- The flow of this number begins there: the walk comes by a place where its request is awaited, and what was due by then, with what that place owes while it
-- waits (the close of a parked side of which a byte came), is this.
pub record FlowBegins (terms : Terms) (here : Walk) (before : List Command) (number : ℕ) : Type 0 where
  pub there : Walk
  pub at : At
  pub awaits : there.place.stage ≡ idle at
  pub flow : at.flow ≡ number
  pub due : List Command
  pub comes : ComesBy terms here there due
  pub owes : before ≡ due ++ (http_chain sequence terms).so_far there.place there.prefix

-- the same, with the replies from here on
abbrev pub start_at : At → Walk → Start
start_at at here =
    let point = point_at at here in record {
      flow = point.flow;
      server = point.server;
      bytes = point.bytes;
      events = point.events;
      replies = answered here;
      parked = point.parked;
      opened = point.opened;
      used = point.used;
    }
