-- The laws of the chain of SOCKS: passing settles at once, nothing is owed while it waits, and where it asks and ends.
use Rattle.std.proofs.Common.{◌≡◌, ◌∙◌, ℕ, ◌+◌, ◌==◌, Bool, true, false, List, [], drop, Option, Some, None, refl, ap, sym}
use Rattle.px_message.specs.declared.address.Address.{Address}
use Rattle.px_event.specs.declared.ask.Ask.{Ask}
use Rattle.px_event.specs.declared.command.Command.{Command}
use Rattle.px_event.specs.declared.event.Event.{Event}
use Rattle.px_event.specs.Chain.{Timed, Turn, NotYet, Asks, Ends}
use Rattle.px_event.specs.Laws.{Settles, SoFarGrows}
use Rattle.px_event.specs.Stands.{AwaitsWhatItAsks, EndsWhereItEnds}
use Rattle.px_event.specs.View.{View, seen_of}
use Rattle.px_socks.specs.declared.greeting.Greeting.{Greeting}
use Rattle.px_socks.specs.declared.greeting.Greeting.TheVariants.{More, Methods, NotSocks}
use Rattle.px_socks.specs.declared.layer.SocksLayer.{SocksLayer}
use Rattle.px_socks.specs.Chain.{look, pass, pass_address, pass_by, pass_closed, pass_greeting, pass_open, pass_request, socks_chain}
use Rattle.px_socks.specs.Greeting.{greeting_of}
use Rattle.px_socks.specs.Request.{Heard, address_with, connect, more, refused, request_of}
use Rattle.px_socks.specs.Stages.{Sight, Stage, dialling, greeting, opened, over, requesting, sight_over}
use Rattle.px_socks.specs.Stands.{IsAt, awaits, awaits_in, is_over}

-- ---- passing settles at once

-- a stage that owes nothing and stays
abbrev pub stays_at : Stage → Turn Stage Command
stays_at stage = record { owed = []; stage = stage }

address_settles : (used : ℕ) (address : Option Address) (text : List ℕ) → pass_open (pass_address used address).stage text ≡ stays_at (pass_address used address).stage
address_settles used None text = refl
address_settles used (Some address) text = refl

request_settles : (used : ℕ) (heard : Heard) (text : List ℕ) → request_of (drop used text) ≡ heard →
    pass_open (pass_request used heard).stage text ≡ stays_at (pass_request used heard).stage
request_settles used more text is = ap (pass_request used) is
request_settles used (connect host port size) text is = address_settles (used + size) (address_with host port (port == 0) refl) text
request_settles used (refused code) text is = refl

greeting_settles : (greeted : Greeting) (text : List ℕ) → greeting_of text ≡ greeted →
    pass_open (pass_greeting greeted text).stage text ≡ stays_at (pass_greeting greeted text).stage
greeting_settles More text is = ap (λ g. pass_greeting g text) is
greeting_settles (Methods true used) text is = request_settles used (request_of (drop used text)) text refl
greeting_settles (Methods false used) text is = refl
greeting_settles NotSocks text is = refl

open_settles : (stage : Stage) (text : List ℕ) → pass_open (pass_open stage text).stage text ≡ stays_at (pass_open stage text).stage
open_settles greeting text = greeting_settles (greeting_of text) text refl
open_settles (requesting used) text = request_settles used (request_of (drop used text)) text refl
open_settles (dialling used address) text = refl
open_settles (opened used address) text = refl
open_settles over text = refl

closed_settles : (stage : Stage) → pass_closed (pass_closed stage).stage ≡ stays_at (pass_closed stage).stage
closed_settles greeting = refl
closed_settles (requesting used) = refl
closed_settles (dialling used address) = refl
closed_settles (opened used address) = refl
closed_settles over = refl

settles_by : (closed : Bool) (stage : Stage) (text : List ℕ) → pass_by closed (pass_by closed stage text).stage text ≡ stays_at (pass_by closed stage text).stage
settles_by true stage text = closed_settles stage
settles_by false stage text = open_settles stage text

-- at any stage and whatever is seen
pub settles_at : (stage : Stage) (seen : Sight) → pass (pass stage seen).stage seen ≡ stays_at (pass stage seen).stage
settles_at stage seen = settles_by seen.closed stage seen.client

pub settles : Settles socks_chain
settles = record {
  at = λ stage prefix. record {
    stays = ap (λ (t : Turn Stage Command). t.stage) (settles_at stage (sight_over prefix));
    owes_nothing = ap (λ (t : Turn Stage Command). t.owed) (settles_at stage (sight_over prefix));
  };
}

-- it owes nothing while it waits, so what is owed grows
pub so_far_grows : (view : View) → SoFarGrows socks_chain (seen_of view)
so_far_grows view = record { grows = λ stage prefix event is. (_, refl) }

-- ---- something is awaited exactly where the stage asks

free_at : (state : SocksLayer) (stage : Stage) (prefix : List (Timed Event)) (ask : Command) → IsAt state stage prefix → awaits state ≡ None → look stage ≡ Asks ask → ⊥
free_at state greeting prefix ask at is asks = let no : NotYet ≡ Asks ask = asks in cc
free_at state (requesting used) prefix ask at is asks = let no : NotYet ≡ Asks ask = asks in cc
free_at state (dialling used address) prefix ask at is asks = let no : Some _ ≡ None = ap awaits_in (sym at.phase_is) ∙ is in cc
free_at state (opened used address) prefix ask at is asks = let no : Ends [] ≡ Asks ask = asks in cc
free_at state over prefix ask at is asks = let no : Ends [] ≡ Asks ask = asks in cc

asks_at : (state : SocksLayer) (stage : Stage) (prefix : List (Timed Event)) (ask : Ask) → IsAt state stage prefix → awaits state ≡ Some ask → (command : Command) × (look stage ≡ Asks command)
asks_at state greeting prefix ask at is = absurd (let no : None ≡ Some ask = ap awaits_in (sym at.phase_is) ∙ is in cc)
asks_at state (requesting used) prefix ask at is = absurd (let no : None ≡ Some ask = ap awaits_in (sym at.phase_is) ∙ is in cc)
asks_at state (dialling used address) prefix ask at is = (_, refl)
asks_at state (opened used address) prefix ask at is = absurd (let no : None ≡ Some ask = ap awaits_in (sym at.phase_is) ∙ is in cc)
asks_at state over prefix ask at is = absurd (let no : None ≡ Some ask = ap awaits_in (sym at) ∙ is in cc)

pub awaits_what_it_asks : AwaitsWhatItAsks socks_chain IsAt awaits
awaits_what_it_asks = record { free = free_at; asks = asks_at }

-- ---- it has ended exactly where the stage ends

ends_at : (state : SocksLayer) (stage : Stage) (prefix : List (Timed Event)) → IsAt state stage prefix → is_over state.phase ≡ true → (owed : List Command) × (look stage ≡ Ends owed)
ends_at state greeting prefix at is = absurd (let no : false ≡ true = ap is_over (sym at.phase_is) ∙ is in cc)
ends_at state (requesting used) prefix at is = absurd (let no : false ≡ true = ap is_over (sym at.phase_is) ∙ is in cc)
ends_at state (dialling used address) prefix at is = absurd (let no : false ≡ true = ap is_over (sym at.phase_is) ∙ is in cc)
ends_at state (opened used address) prefix at is = ([], refl)
ends_at state over prefix at is = ([], refl)

asks_no_end : (ask : Command) (owed : List Command) → Asks ask ≡ Ends owed → ⊥
asks_no_end ask owed is = cc

there_at : (state : SocksLayer) (stage : Stage) (prefix : List (Timed Event)) (owed : List Command) → IsAt state stage prefix → look stage ≡ Ends owed → is_over state.phase ≡ true
there_at state greeting prefix owed at is = absurd (let no : NotYet ≡ Ends owed = is in cc)
there_at state (requesting used) prefix owed at is = absurd (let no : NotYet ≡ Ends owed = is in cc)
there_at state (dialling used address) prefix owed at is = absurd (asks_no_end _ owed is)
there_at state (opened used address) prefix owed at is = ap is_over at.phase_is
there_at state over prefix owed at is = ap is_over at

pub ends_where_it_ends : EndsWhereItEnds socks_chain IsAt (λ state. is_over state.phase)
ends_where_it_ends = record { ends = ends_at; there = there_at }
