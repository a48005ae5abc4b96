-- What a conversation of flows in sequence stands for: what its flow's machine does, on the chain whose finished flows lead to
-- the next.
use Rattle.std.proofs.Common.{ℕ, List, Option, refl}
use Rattle.std.specs.Prelude.{◌-◌}
use Rattle.px_event.specs.declared.ask.Ask.{Ask}
use Rattle.px_event.specs.declared.command.Command.{Command}
use Rattle.px_event.specs.declared.event.Event.{Event}
use Rattle.px_event.specs.declared.reply.Reply.{Reply}
use Rattle.px_event.specs.Chain.{Chain, Stop, Timed}
use Rattle.px_event.specs.Laws.{Settles, SoFarGrows}
use Rattle.px_event.specs.Layer.{Move, IsSound}
use Rattle.px_event.specs.Stands.{StandsAt, AwaitsWhatItAsks, EndsWhereItEnds, stop_of}
use Rattle.px_event.specs.View.{View, seen_of}
use Rattle.px_chain.specs.Chain.{begin, http_chain, is_sequence, sequence}
use Rattle.px_chain.proofs.ChainLaws.{settles, so_far_grows}
use Rattle.px_chain.specs.Sights.{Sight, Standing, sight_over}
use Rattle.px_stream.specs.Anywhere.{IsInSequence, Somewhere}
use Rattle.px_chain.specs.Stages.{At, Stage, idle}
use Rattle.px_stream.specs.Stands.{is_last}
use Rattle.px_stream.specs.Stands as flows
use Rattle.px_stream.proofs.StateLaws.{awaits_what_it_asks, ends_where_it_ends}
use Rattle.px_http.specs.declared.conversation.HttpConv.{HttpConv}

-- the chain of a conversation that was made so: it starts at its first flow's head, and a side of its place is parked
abbrev pub chain_of : HttpConv → Chain Standing Event Reply Command
chain_of made = http_chain sequence made.stream.terms

abbrev pub start_at : HttpConv → Standing
start_at made = begin (idle made.stream.at)

-- how many servers more than flows were there before it was made
abbrev pub ahead_of : At → ℕ
ahead_of at = at.dials - at.flow

-- what the fields are, where a walk stopped
abbrev pub is_there : HttpConv → HttpConv → Standing → List (Timed Event) → Type 0
is_there made state place prefix = IsInSequence made.stream.terms (ahead_of made.stream.at) state.stream place prefix

-- what a state stands for
abbrev pub HttpStands : HttpConv → HttpConv → List Move → List Command → Type 0
HttpStands made state moves given = StandsAt (chain_of made) (start_at made) (is_there made) state moves given

abbrev pub awaits : HttpConv → Option Ask
awaits state = flows.awaits state.stream

-- where the walk over some moves stops
abbrev pub stop_at : HttpConv → List Move → Stop Standing Event Reply Command
stop_at made moves = stop_of (chain_of made) (start_at made) moves

-- the stage there, and what it sees
abbrev pub stage_at : HttpConv → List Move → Stage
stage_at made moves = (stop_at made moves).stage.stage

abbrev pub seen_at : HttpConv → List Move → Sight
seen_at made moves = sight_over (stop_at made moves).stage (stop_at made moves).prefix

pub settles_there : (made : HttpConv) → Settles (chain_of made)
settles_there made = settles sequence (is_sequence refl) made.stream.terms

pub grows_there : (made : HttpConv) (view : View) → SoFarGrows (chain_of made) (seen_of view)
grows_there made view = so_far_grows sequence (is_sequence refl) made.stream.terms view

pub asks_there : (made : HttpConv) → AwaitsWhatItAsks (chain_of made) (is_there made) awaits
asks_there made =
    let law = awaits_what_it_asks sequence made.stream.terms in
    record {
      free = λ state place prefix ask at is asks. law.free state.stream place prefix ask at.is_at is asks;
      asks = λ state place prefix ask at is. law.asks state.stream place prefix ask at.is_at is;
    }

pub ends_there : (made : HttpConv) → EndsWhereItEnds (chain_of made) (is_there made) (λ state. is_last state.stream.phase)
ends_there made =
    let law = ends_where_it_ends sequence made.stream.terms in
    record {
      ends = λ state place prefix at last. law.ends state.stream place prefix at.is_at last;
      there = λ state place prefix owed at is. law.there state.stream place prefix owed at.is_at is;
    }

-- it stands somewhere
pub somewhere : (state : HttpConv) → IsSound HttpStands state → Somewhere state.stream
somewhere state (made, past, given, stands) = (made.stream.terms, ahead_of made.stream.at, _, _, stands.place)
