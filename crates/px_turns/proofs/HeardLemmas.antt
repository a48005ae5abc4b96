-- The events in which a server is heard are the last of all events.
use Rattle.std.proofs.Common.{◌≡◌, ℕ, Bool, true, false, nat_lt, List, [], ◌∷◌, ◌++◌, refl, ap, sym, ◌∙◌, append_assoc}
use Rattle.std.specs.Prelude.{◌||◌, if◌then◌else◌}
use Rattle.std.proofs.lemmas.List.{append-nil}
use Rattle.px_event.specs.declared.command.Command.{Command}
use Rattle.px_event.specs.declared.event.Event.{Event}
use Rattle.px_event.specs.declared.reply.Reply.{Reply}
use Rattle.px_event.specs.declared.side.Side.TheVariants.{Client, Server}
use Rattle.px_event.specs.Chain.{Stamp, Stamped, Timed, Look, NotYet, Asks, Ends, Turn, Reached, Chain, worked_off, at_its_step, never, reach, reach_by}
use Rattle.px_event.specs.Layer.{Move}
use Rattle.px_event.specs.Sides.{closes, piece_of}
use Rattle.px_event.specs.Stands.{events_in, replies_in}
use Rattle.px_exchange.specs.declared.terms.Terms.{Terms}
use Rattle.px_chain.specs.Chain.{begin, http_chain}
use Rattle.px_chain.specs.Sights.{Standing}
use Rattle.px_chain.specs.Stages.{At, Stage, idle}
use Rattle.px_turns.specs.Turns.{BringNothing, IsHeardBehind, behind_answer, behind_by, bytes_among, connects_to, heard_in}

-- these are the last of those
abbrev AreLast : List (Stamped Event) → List (Stamped Event) → Type 0
AreLast rest all = (early : List (Stamped Event)) × (all ≡ early ++ rest)

last_of_last : (rest more all : List (Stamped Event)) → AreLast rest more → AreLast more all → AreLast rest all
last_of_last rest more all (early, is) (first, are) = (first ++ early, are ∙ (ap (λ l. first ++ l) is ∙ sym (append_assoc first early rest)))

none_last : (all : List (Stamped Event)) → AreLast [] all
none_last all = (all, sym (append-nil all))

reach_by_last : (l : Look Command) (further here : Reached Standing Event Command) (all : List (Stamped Event)) → AreLast further.rest all → AreLast here.rest all → AreLast (reach_by l further here).rest all
reach_by_last NotYet further here all a b = a
reach_by_last (Asks ask) further here all a b = b
reach_by_last (Ends owed) further here all a b = b

behind_by_last : (l : Look Command) (connects : Bool) (rest further all : List (Stamped Event)) → AreLast rest all → AreLast further all → AreLast (behind_by l connects rest further) all
behind_by_last NotYet connects rest further all a b = none_last all
behind_by_last (Asks ask) true rest further all a b = a
behind_by_last (Asks ask) false rest further all a b = b
behind_by_last (Ends owed) connects rest further all a b = none_last all

module _ (chain : Chain Standing Event Reply Command) (server : ℕ) where
  reach_last : (last : Stamp) (before : List Command) (place : Standing) (prefix : List (Timed Event)) (es : List (Stamped Event)) → AreLast (reach chain last before place prefix es).rest es
  reach_last last before place prefix [] = ([], refl)
  reach_last last before place prefix (e ∷ es) =
      let on : Turn Standing Command = chain.pass place prefix in
      let further = reach_last last (before ++ on.owed) on.stage (prefix ++ worked_off last e ∷ []) es in
      reach_by_last (chain.look on.stage prefix) _ _ (e ∷ es) (e ∷ further.0, ap (λ l. e ∷ l) further.1) ([], refl)

  behind_last : (rs : List (Stamped Reply)) (last : Stamp) (place : Standing) (prefix : List (Timed Event)) (es : List (Stamped Event)) → AreLast (behind_answer chain server rs last place prefix es) es
  behind_last [] last place prefix es = none_last es
  behind_last (r ∷ rs) last place prefix es =
      let here : Reached Standing Event Command = reach chain last [] place prefix es in
      let there = reach_last last [] place prefix es in
      let on : Turn Standing Command = chain.turn here.stage here.prefix (at_its_step r) in
      behind_by_last (chain.look here.stage here.prefix) (connects_to server here.stage.stage r.value) here.rest (behind_answer chain server rs r.stamp on.stage here.prefix here.rest) es there
      (last_of_last (behind_answer chain server rs r.stamp on.stage here.prefix here.rest) here.rest es (behind_last rs r.stamp on.stage here.prefix here.rest) there)

-- what brings nothing is left out
nothing_first : (cut : Bool) (piece rest all : List ℕ) → cut ≡ false → piece ≡ [] → rest ≡ all → rest ≡ (if cut then [] else (piece ++ all))
nothing_first cut piece rest all opens none is = rw (opens, none) is

bytes_behind : (server : ℕ) (early rest : List (Stamped Event)) → BringNothing server early → bytes_among server rest ≡ bytes_among server (early ++ rest)
bytes_behind server [] rest none = refl
bytes_behind server (e ∷ early) rest none =
    nothing_first (closes Client e.value || closes (Server server) e.value) (piece_of (Server server) e.value) (bytes_among server rest) (bytes_among server (early ++ rest)) none.0 none.1
    (bytes_behind server early rest none.2)

pub last_heard : (server : ℕ) (heard all : List (Stamped Event)) → AreLast heard all → IsHeardBehind server heard all
last_heard server heard all (early, is) =
    record { early = early; all_are = is; whole = λ none. bytes_behind server early heard none ∙ ap (bytes_among server) (sym is) }

-- So the moves bring what is heard of a server behind first events.
pub heard_behind : (onward : Stage → Stage) (terms : Terms) (at : At) (server : ℕ) (moves : List Move) → IsHeardBehind server (heard_in onward terms at server moves) (events_in 1 moves)
heard_behind onward terms at server moves = by_number (nat_lt server at.dials)
  where
    by_number : (before : Bool) → IsHeardBehind server (if before then events_in 1 moves else behind_answer (http_chain onward terms) server (replies_in 1 moves) never (begin (idle at)) [] (events_in 1 moves)) (events_in 1 moves)
    by_number true = last_heard server (events_in 1 moves) (events_in 1 moves) ([], refl)
    by_number false =
        last_heard server (behind_answer (http_chain onward terms) server (replies_in 1 moves) never (begin (idle at)) [] (events_in 1 moves)) (events_in 1 moves)
        (behind_last (http_chain onward terms) server (replies_in 1 moves) never (begin (idle at)) [] (events_in 1 moves))
