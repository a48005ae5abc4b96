-- What is awaited of a state, and whether it has ended, where it is.
use Rattle.std.proofs.Common.{◌≡◌, Bool, true, false, List, [], Option, Some, None, refl, ap, sym, ◌∙◌}
use Rattle.px_message.specs.declared.flow.Flow.{Flow}
use Rattle.px_event.specs.declared.ask.Ask.{Ask}
use Rattle.px_event.specs.declared.command.Command.{Command}
use Rattle.px_event.specs.Chain.{Look, NotYet, Asks, Ends}
use Rattle.px_event.specs.Stands.{AwaitsWhatItAsks, EndsWhereItEnds}
use Rattle.px_read.specs.Reader.{State}
use Rattle.px_exchange.specs.declared.terms.Terms.{Terms}
use Rattle.px_exchange.specs.Finds.{or_leaves}
use Rattle.px_chain.specs.Chain.{Connect, connect_in, http_chain, look}
use Rattle.px_chain.specs.Sights.{Sight, request_in, sight_over}
use Rattle.px_chain.specs.Stages.{At, Doing, Stage, busy, coming_down, connection, given_body, given_head, idle, next, over, request_body, response_body, response_head, upgraded}
use Rattle.px_stream.specs.declared.link.Link.{Link}
use Rattle.px_stream.specs.declared.phase.Phase.{Phase}
use Rattle.px_stream.specs.declared.phase.Phase.TheVariants as phase
use Rattle.px_stream.specs.declared.phase.Wanted.{Wanted}
use Rattle.px_stream.specs.declared.phase.Wanted.TheVariants as ready
use Rattle.px_stream.specs.Stands.{IsLast, IsLastAt, IsLastFor, PhaseAt, IsAt, asked_of, awaited_in, awaits, is_last, stage_of}

-- the end is found at once
not_yet : (closed : Bool) → or_leaves closed [] (Ends []) ≡ NotYet → ⊥
not_yet true is = let no : Ends [] ≡ NotYet = is in cc
not_yet false is = let no : Ends [] ≡ NotYet = is in cc

-- a stage that waits looks for something
looks_on : (terms : Terms) (at : At) (looked : Wanted) (seen : Sight) → look terms (stage_of at looked) seen ≡ NotYet → is_last (phase.Ready looked) ≡ false
looks_on terms at ready.Idle seen waits = refl
looks_on terms at (ready.RequestBody flow given most body held) seen waits = refl
looks_on terms at (ready.Connection flow up) seen waits = refl
looks_on terms at (ready.ResponseHead flow server up) seen waits = refl
looks_on terms at (ready.ResponseBody flow server up most body held) seen waits = refl
looks_on terms at (ready.ComingDown flow server up sent) seen waits = refl
looks_on terms at (ready.Upgraded flow server) seen waits = absurd (not_yet seen.closed waits)
looks_on terms at (ready.GivenHead flow) seen waits = refl
looks_on terms at (ready.GivenBody flow) seen waits = refl
looks_on terms at (ready.Connects address) seen waits = absurd (not_yet seen.closed waits)
looks_on terms at ready.Over seen waits = absurd (not_yet seen.closed waits)

-- where the walk stopped at an end nothing more is looked for
last_at : (at : At) (connects : Option Connect) (seen : Sight) (requests : State) (side : Option Link) (last : Wanted) → IsLastAt at connects seen requests side last → is_last (phase.Ready last) ≡ true
last_at at None seen requests side last is = ap (λ r. is_last (phase.Ready r)) is
last_at at (Some connects) seen requests side last is = ap (λ r. is_last (phase.Ready r)) is.phase

last_for : (doing : Doing) (seen : Sight) (requests : State) (side : Option Link) (last : Wanted) (flow : Flow) → IsLastFor flow doing seen requests side last → is_last (phase.Ready last) ≡ true
last_for (request_body given most) seen requests side last flow is = ap (λ r. is_last (phase.Ready r)) is
last_for (connection how) seen requests side last flow is = ap (λ r. is_last (phase.Ready r)) is
last_for (response_head server how) seen requests side last flow is = ap (λ r. is_last (phase.Ready r)) is
last_for (response_body server how most) seen requests side last flow is = ap (λ r. is_last (phase.Ready r)) is
last_for (coming_down server how) seen requests side last flow is = ap (λ r. is_last (phase.Ready r)) is
last_for (upgraded server) seen requests side last flow is = ap (λ r. is_last (phase.Ready r)) is.phase
last_for given_head seen requests side last flow is = ap (λ r. is_last (phase.Ready r)) is
last_for given_body seen requests side last flow is = ap (λ r. is_last (phase.Ready r)) is

pub ends_last : (terms : Terms) (stage : Stage) (seen : Sight) (requests : State) (side : Option Link) (last : Wanted) → IsLast terms stage seen requests side last →
    is_last (phase.Ready last) ≡ true
ends_last terms (idle at) seen requests side last is = last_at at (connect_in terms.place (request_in seen)) seen requests side last is
ends_last terms (busy at flow doing) seen requests side last is = last_for doing seen requests side last flow is
ends_last terms (next at) seen requests side last is = ap (λ r. is_last (phase.Ready r)) is
ends_last terms over seen requests side last is = ap (λ r. is_last (phase.Ready r)) is

-- ---- by what was found

module _ (terms : Terms) (at : At) (requests : State) (side : Option Link) (found : Phase) (stage : Stage) (seen : Sight) where
  free_by : (l : Look Command) (ask : Command) → PhaseAt l terms at requests side found stage seen → awaited_in found ≡ None → l ≡ Asks ask → ⊥
  free_by NotYet ask there is asks = let no : NotYet ≡ Asks ask = asks in cc
  free_by (Asks other) ask (asked, same, there) is asks = let no : Some (asked_of asked) ≡ None = ap awaited_in (sym same) ∙ is in cc
  free_by (Ends owed) ask there is asks = let no : Ends owed ≡ Asks ask = asks in cc

  asks_by : (l : Look Command) (ask : Ask) → PhaseAt l terms at requests side found stage seen → awaited_in found ≡ Some ask → (command : Command) × (l ≡ Asks command)
  asks_by NotYet ask (looked, sent, same, there, gave, rests) is = absurd (let none : None ≡ Some ask = ap awaited_in (sym same) ∙ is in cc)
  asks_by (Asks command) ask there is = (command, refl)
  asks_by (Ends owed) ask (last, same, there) is = absurd (let none : None ≡ Some ask = ap awaited_in (sym same) ∙ is in cc)

  ends_by : (l : Look Command) → look terms stage seen ≡ l → PhaseAt l terms at requests side found stage seen → is_last found ≡ true → (owed : List Command) × (l ≡ Ends owed)
  ends_by NotYet waits (looked, sent, same, there, gave, rests) last =
      let going : is_last (phase.Ready looked) ≡ false = looks_on terms at looked seen (ap (λ s. look terms s seen) there.is_stage ∙ waits) in
      absurd (let no : false ≡ true = sym going ∙ (ap is_last (sym same) ∙ last) in cc)
  ends_by (Asks command) asks (asked, same, there) last = absurd (let no : false ≡ true = ap is_last (sym same) ∙ last in cc)
  ends_by (Ends owed) ends there last = (owed, refl)

  there_by : (l : Look Command) (owed : List Command) → l ≡ Ends owed → PhaseAt l terms at requests side found stage seen → is_last found ≡ true
  there_by NotYet owed is there = absurd (cc)
  there_by (Asks command) owed is there = absurd (cc)
  there_by (Ends other) owed is (last, same, there) = ap is_last same ∙ ends_last terms stage seen requests side last there

-- Something is awaited exactly where the stage asks.
pub awaits_what_it_asks : (onward : Stage → Stage) (terms : Terms) → AwaitsWhatItAsks (http_chain onward terms) (IsAt terms) awaits
awaits_what_it_asks onward terms = record {
  free = λ state place prefix ask at is asks.
      let seen : Sight = sight_over place prefix in
      free_by terms state.at state.requests state.side state.phase place.stage seen (look terms place.stage seen) ask at.is_in.phase is asks;
  asks = λ state place prefix ask at is.
      let seen : Sight = sight_over place prefix in
      asks_by terms state.at state.requests state.side state.phase place.stage seen (look terms place.stage seen) ask at.is_in.phase is;
}

-- It has ended exactly where the stage ends.
pub ends_where_it_ends : (onward : Stage → Stage) (terms : Terms) → EndsWhereItEnds (http_chain onward terms) (IsAt terms) (λ state. is_last state.phase)
ends_where_it_ends onward terms = record {
  ends = λ state place prefix at last.
      let seen : Sight = sight_over place prefix in
      ends_by terms state.at state.requests state.side state.phase place.stage seen (look terms place.stage seen) refl at.is_in.phase last;
  there = λ state place prefix owed at is.
      let seen : Sight = sight_over place prefix in
      there_by terms state.at state.requests state.side state.phase place.stage seen (look terms place.stage seen) owed is at.is_in.phase;
}
