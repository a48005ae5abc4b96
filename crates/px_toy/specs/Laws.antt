-- The chain of the server that echoes lines: its laws, and what one move does to where it is.
use Rattle.std.proofs.Common.{◌≡◌, ℕ, ◌+◌, ◌<◌, ◌≤◌, ◌==◌, Bool, true, false, List, [], ◌∷◌, ◌++◌, length, drop, Option, Some, None, refl, ap, sym, ◌∙◌, arith, nat_lt, cond}
use Rattle.std.specs.List.{position, position_or_len}
use Rattle.std.specs.Option.{option_map}
use Rattle.std.proofs.lemmas.Bool.{ltb-true}
use Rattle.std.proofs.lemmas.Grind.{flat_map-append}
use Rattle.std.proofs.lemmas.List.{append-nil, drop-append-le}
use Rattle.px_message.specs.declared.flow.Flow.{Flow}
use Rattle.px_event.specs.declared.ask.Ask.{Ask}
use Rattle.px_event.specs.declared.event.Event.{Event}
use Rattle.px_event.specs.declared.command.Command.{Command}
use Rattle.px_event.specs.Chain.{Timed, NotYet, Asks, Ends}
use Rattle.px_event.specs.Laws.{IsSettled, Settles, SoFarGrows}
use Rattle.px_event.specs.View.{View, seen_of}
use Rattle.px_event.specs.Stands.{AwaitsWhatItAsks, EndsWhereItEnds}
use Rattle.px_toy.specs.declared.echo.LineEcho.{LineEcho}
use Rattle.px_toy.specs.Stands.{phase_at, awaited_in, awaits, is_over, IsAt}
use Rattle.px_toy.specs.Echo.{piece_in, client_bytes, closes_client, is_closed, first_line, EchoStage, Reading, Over, unread, pass_by, pass, ask_about, look_by, look, echo_chain}

-- a line has a byte at least, and is within the bytes
at_within : (p : ℕ → Bool) (bytes : List ℕ) (at : ℕ) → position p bytes ≡ Some at → at < length bytes
at_within p bytes at is = by (nat_lt (position_or_len p bytes) (length bytes)) refl is
  where
    by : (b : Bool) → nat_lt (position_or_len p bytes) (length bytes) ≡ b → cond b (Some (position_or_len p bytes)) None ≡ Some at → at < length bytes
    by true less same = let e : position_or_len p bytes ≡ at = cc in let l = ltb-true (position_or_len p bytes) (length bytes) less in rw (← e) l
    by false less same = absurd (let no : None ≡ Some at = same in cc)

line_by : (bytes : List ℕ) (o : Option ℕ) (size : ℕ) → position (λ byte. byte == 10) bytes ≡ o → option_map (λ at. at + 1) o ≡ Some size → (0 < size) × (size ≤ length bytes)
line_by bytes None size is same = absurd (let no : None ≡ Some size = same in cc)
line_by bytes (Some at) size is same =
    let e : at + 1 ≡ size = cc in let l = at_within (λ byte. byte == 10) bytes at is in (omega arith, omega arith)

pub line_within : (bytes : List ℕ) (size : ℕ) → first_line bytes ≡ Some size → (0 < size) × (size ≤ length bytes)
line_within bytes size is = line_by bytes (position (λ byte. byte == 10) bytes) size refl is

-- one event more
pub client_append : (prefix : List (Timed Event)) (e : Timed Event) → client_bytes (prefix ++ e ∷ []) ≡ client_bytes prefix ++ piece_in e.value
client_append prefix e = flat_map-append (λ (e : Timed Event). piece_in e.value) prefix (e ∷ []) ∙ ap (λ l. client_bytes prefix ++ l) (append-nil (piece_in e.value))

open_by : (b : Bool) (rest rest' : Bool) → cond b true rest ≡ false → rest' ≡ false → cond b true rest' ≡ false
open_by true rest rest' same on = absurd (let no : true ≡ false = same in cc)
open_by false rest rest' same on = on

open_rest : (b rest : Bool) → cond b true rest ≡ false → rest ≡ false
open_rest true rest same = absurd (let no : true ≡ false = same in cc)
open_rest false rest same = same

pub still_open : (prefix : List (Timed Event)) (e : Timed Event) → is_closed prefix ≡ false → closes_client e.value ≡ false → is_closed (prefix ++ e ∷ []) ≡ false
still_open [] e is not = rw not refl
still_open (f ∷ prefix) e is not =
    open_by (closes_client f.value) (is_closed prefix) _ is (still_open prefix e (open_rest (closes_client f.value) (is_closed prefix) is) not)

closed_by : (b rest : Bool) → rest ≡ true → cond b true rest ≡ true
closed_by true rest on = refl
closed_by false rest on = on

pub now_closed : (prefix : List (Timed Event)) (e : Timed Event) → closes_client e.value ≡ true → is_closed (prefix ++ e ∷ []) ≡ true
now_closed [] e closes = rw closes refl
now_closed (f ∷ prefix) e closes = closed_by (closes_client f.value) _ (now_closed prefix e closes)

pub unread_append : (used : ℕ) (prefix : List (Timed Event)) (e : Timed Event) → used ≤ length (client_bytes prefix) →
    unread used (prefix ++ e ∷ []) ≡ unread used prefix ++ piece_in e.value
unread_append used prefix e within = ap (λ l. drop used l) (client_append prefix e) ∙ drop-append-le used (client_bytes prefix) (piece_in e.value) within

-- passing settles at once
settles_by : (prefix : List (Timed Event)) (used : ℕ) (closed : Bool) (line : Option ℕ) → is_closed prefix ≡ closed → first_line (unread used prefix) ≡ line →
    (flow : Flow) → IsSettled (echo_chain flow) (pass_by closed line used).stage prefix
settles_by prefix used false line is first flow = record { stays = rw is refl; owes_nothing = rw is refl }
settles_by prefix used true (Some size) is first flow = record { stays = rw (is, first) refl; owes_nothing = rw (is, first) refl }
settles_by prefix used true None is first flow = record { stays = refl; owes_nothing = refl }

settled_at : (flow : Flow) (stage : EchoStage) (prefix : List (Timed Event)) → IsSettled (echo_chain flow) (pass stage prefix).stage prefix
settled_at flow (Reading used) prefix = settles_by prefix used (is_closed prefix) (first_line (unread used prefix)) refl refl flow
settled_at flow Over prefix = record { stays = refl; owes_nothing = refl }

pub settles : (flow : Flow) → Settles (echo_chain flow)
settles flow = record { at = settled_at flow }

-- it owes nothing while it waits, so what is owed grows
pub so_far_grows : (flow : Flow) (view : View) → SoFarGrows (echo_chain flow) (seen_of view)
so_far_grows flow view = record { grows = λ stage prefix event is. (_, refl) }

-- it awaits something exactly where the stage asks
awaits_by : (flow : Flow) (line : Option ℕ) (ask : Command) → awaited_in flow (phase_at line) ≡ None → look_by flow line ≡ Asks ask → ⊥
awaits_by flow None ask is asks = let no : NotYet ≡ Asks ask = asks in cc
awaits_by flow (Some size) ask is asks = let no : Some (ask_about flow) ≡ None = is in cc

asks_by : (flow : Flow) (line : Option ℕ) (ask : Ask) → awaited_in flow (phase_at line) ≡ Some ask → (command : Command) × (look_by flow line ≡ Asks command)
asks_by flow None ask is = absurd (let no : None ≡ Some ask = is in cc)
asks_by flow (Some size) ask is = (_, refl)

free_at : (flow : Flow) (state : LineEcho) (stage : EchoStage) (prefix : List (Timed Event)) (ask : Command) → IsAt flow state stage prefix → awaits state ≡ None → look flow stage prefix ≡ Asks ask → ⊥
free_at flow state (Reading used) prefix ask at is asks =
    awaits_by flow (first_line (unread used prefix)) ask (ap (λ p. awaited_in flow p) (sym at.phase) ∙ (ap (λ f. awaited_in f state.phase) (sym at.same_flow) ∙ is)) asks
free_at flow state Over prefix ask at is asks = let no : Ends [] ≡ Asks ask = asks in cc

asks_at_place : (flow : Flow) (state : LineEcho) (stage : EchoStage) (prefix : List (Timed Event)) (ask : Ask) → IsAt flow state stage prefix → awaits state ≡ Some ask →
    (command : Command) × (look flow stage prefix ≡ Asks command)
asks_at_place flow state (Reading used) prefix ask at is =
    asks_by flow (first_line (unread used prefix)) ask (ap (λ p. awaited_in flow p) (sym at.phase) ∙ (ap (λ f. awaited_in f state.phase) (sym at.same_flow) ∙ is))
asks_at_place flow state Over prefix ask at is =
    absurd (let no : None ≡ Some ask = ap (λ p. awaited_in state.flow p) (sym at.phase) ∙ is in cc)

pub awaits_what_it_asks : (flow : Flow) → AwaitsWhatItAsks (echo_chain flow) (IsAt flow) awaits
awaits_what_it_asks flow = record { free = free_at flow; asks = asks_at_place flow }

-- it has ended exactly where the stage ends
over_by : (line : Option ℕ) → is_over (phase_at line) ≡ true → ⊥
over_by None is = let no : false ≡ true = is in cc
over_by (Some size) is = let no : false ≡ true = is in cc

ends_at : (flow : Flow) (state : LineEcho) (stage : EchoStage) (prefix : List (Timed Event)) → IsAt flow state stage prefix → is_over state.phase ≡ true →
    (owed : List Command) × (look flow stage prefix ≡ Ends owed)
ends_at flow state (Reading used) prefix at is = absurd (over_by (first_line (unread used prefix)) (ap is_over (sym at.phase) ∙ is))
ends_at flow state Over prefix at is = ([], refl)

asks_no_end : (ask : Command) (owed : List Command) → Asks ask ≡ Ends owed → ⊥
asks_no_end ask owed is = cc

not_an_end : (flow : Flow) (line : Option ℕ) (owed : List Command) → look_by flow line ≡ Ends owed → ⊥
not_an_end flow None owed is = let no : NotYet ≡ Ends owed = is in cc
not_an_end flow (Some size) owed is = asks_no_end _ owed is

there_at : (flow : Flow) (state : LineEcho) (stage : EchoStage) (prefix : List (Timed Event)) (owed : List Command) → IsAt flow state stage prefix → look flow stage prefix ≡ Ends owed →
    is_over state.phase ≡ true
there_at flow state (Reading used) prefix owed at is = absurd (not_an_end flow (first_line (unread used prefix)) owed is)
there_at flow state Over prefix owed at is = ap is_over at.phase

pub ends_where_it_ends : (flow : Flow) → EndsWhereItEnds (echo_chain flow) (IsAt flow) (λ state. is_over state.phase)
ends_where_it_ends flow = record { ends = ends_at flow; there = there_at flow }
