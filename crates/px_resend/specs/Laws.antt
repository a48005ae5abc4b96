-- The laws of a request that is sent again, as a layer whose due is a chain.
use Rattle.std.proofs.Common.{◌≡◌, true, false, List, [], ◌∷◌, Some, None, refl, ap, sym, ◌∙◌, subst}
use Rattle.px_event.specs.declared.ask.Ask.{Ask}
use Rattle.px_event.specs.declared.command.Command.{Command}
use Rattle.px_event.specs.declared.event.Event.{Event}
use Rattle.px_event.specs.Chain.{Timed, Look, NotYet, Asks, Ends}
use Rattle.px_event.specs.Laws.{IsSettled, Settles, SoFarGrows}
use Rattle.px_event.specs.Layer.{Move}
use Rattle.px_event.specs.Stands.{AwaitsWhatItAsks, EndsWhereItEnds, StandsAt, due_by}
use Rattle.px_event.specs.View.{View, seen_of}
use Rattle.px_core.specs.Conversation.{AllNamed}
use Rattle.px_message.specs.declared.request.Request.{Request}
use Rattle.px_exchange.specs.declared.terms.Terms.{Terms}
use Rattle.px_chain.specs.Chain.{is_sequence, sequence}
use Rattle.px_chain.specs.Sights.{Sight, Standing, sight_over}
use Rattle.px_chain.specs.Stages as flows
use Rattle.px_chain.proofs.ChainLaws.{settles}
use Rattle.px_stream.proofs.StateLaws.{awaits_what_it_asks}
use Rattle.px_resend.specs.Chain.{Stage, asks_head, asks_whole, flows_of, goes_on, look_by, over, pass, resend_chain, to_servers_in, waiting}
use Rattle.px_resend.specs.Found.{found_by}
use Rattle.px_resend.specs.Heard.{all_of_servers, to_servers}
use Rattle.px_resend.specs.Kept.{awaited_by, is_over}
use Rattle.px_resend.specs.Names.{resend_names}
use Rattle.px_resend.specs.Stands.{IsAt, IsChild, Keeps, KeepsBy, ResendStands, awaits, chain_of, terms_in}
use Rattle.px_resend.specs.declared.child.Child.{Child}
use Rattle.px_resend.specs.declared.resend.Resend.{Resend}

-- ---- what is found where its flow goes on

same_in : (l : Look Command) → ((owed : List Command) → to_servers_in l ≡ Ends owed → ⊥) → to_servers_in l ≡ l
same_in NotYet goes = refl
same_in (Asks ask) goes = refl
same_in (Ends owed) goes = absurd (goes (to_servers owed) refl)

-- unless it ends, it is what the flow's chain finds
pub same_unless : (stage : flows.Stage) (seen : Sight) (l : Look Command) → ((owed : List Command) → look_by stage seen l ≡ Ends owed → ⊥) → look_by stage seen l ≡ l
same_unless stage seen l goes =
    let P : Look Command → Type 0 = λ k. ((owed : List Command) → k ≡ Ends owed → ⊥) → k ≡ l in
    found_by P stage seen l (λ at is ends. absurd (ends _ refl)) (λ at flow server is ends. absurd (ends _ refl)) (same_in l) goes

pub asks_as : (stage : flows.Stage) (seen : Sight) (l : Look Command) (ask : Command) → look_by stage seen l ≡ Asks ask → l ≡ Asks ask
asks_as stage seen l ask is =
    sym (same_unless stage seen l (λ owed ends. let no : Asks ask ≡ Ends owed = sym is ∙ ends in cc)) ∙ is

pub waits_as : (stage : flows.Stage) (seen : Sight) (l : Look Command) → look_by stage seen l ≡ NotYet → l ≡ NotYet
waits_as stage seen l is =
    sym (same_unless stage seen l (λ owed ends. let no : NotYet ≡ Ends owed = sym is ∙ ends in cc)) ∙ is

module _ (terms : Terms) (recorded : Request) where
  -- ---- passing settles at once, and nothing is owed while it waits

  settled_going : (place : Standing) (prefix : List (Timed Event)) →
      IsSettled (resend_chain terms recorded) (goes_on ((flows_of terms recorded).pass place (all_of_servers prefix)).stage) prefix
  settled_going place prefix =
      let there = (settles sequence (is_sequence refl) terms).at place (all_of_servers prefix) in
      record { stays = ap goes_on there.stays; owes_nothing = ap to_servers there.owes_nothing }

  settled_at : (stage : Stage) (prefix : List (Timed Event)) → IsSettled (resend_chain terms recorded) (pass terms recorded stage prefix).stage prefix
  settled_at waiting [] = record { stays = refl; owes_nothing = refl }
  settled_at waiting (event ∷ prefix) = record { stays = refl; owes_nothing = refl }
  settled_at (asks_head flow) prefix = record { stays = refl; owes_nothing = refl }
  settled_at (asks_whole flow) prefix = record { stays = refl; owes_nothing = refl }
  settled_at (goes_on place) prefix = settled_going place prefix
  settled_at over prefix = record { stays = refl; owes_nothing = refl }

  pub settles_by : Settles (resend_chain terms recorded)
  settles_by = record { at = settled_at }

  -- ---- what is awaited

  free_by : (child : Child) (stage : Stage) (prefix : List (Timed Event)) (ask : Command) → Keeps terms child stage prefix → awaited_by child ≡ None →
      (resend_chain terms recorded).look stage prefix ≡ Asks ask → ⊥
  free_by child waiting prefix ask kept free asks = let no : NotYet ≡ Asks ask = asks in cc
  free_by child (asks_head flow) prefix ask kept free asks = let no : Some _ ≡ None = ap awaited_by (sym kept) ∙ free in cc
  free_by child (asks_whole flow) prefix ask kept free asks = let no : Some _ ≡ None = ap awaited_by (sym kept) ∙ free in cc
  free_by child (goes_on place) prefix ask kept free asks =
      (awaits_what_it_asks sequence terms).free kept.stream.value place (all_of_servers prefix) ask kept.there.is_at (ap awaited_by (sym kept.is) ∙ free)
      (asks_as place.stage (sight_over place (all_of_servers prefix)) ((flows_of terms recorded).look place (all_of_servers prefix)) ask asks)
  free_by child over prefix ask kept free asks = kept

  waits_by : (child : Child) (stage : Stage) (prefix : List (Timed Event)) (ask : Ask) → Keeps terms child stage prefix → awaited_by child ≡ Some ask →
      (resend_chain terms recorded).look stage prefix ≡ NotYet → ⊥
  waits_by child waiting prefix ask kept waits found = let no : None ≡ Some ask = ap awaited_by (sym kept.0) ∙ waits in cc
  waits_by child (asks_head flow) prefix ask kept waits found = let no : (resend_chain terms recorded).look (asks_head flow) prefix ≡ NotYet = found in cc
  waits_by child (asks_whole flow) prefix ask kept waits found = let no : (resend_chain terms recorded).look (asks_whole flow) prefix ≡ NotYet = found in cc
  waits_by child (goes_on place) prefix ask kept waits found =
      let asked = (awaits_what_it_asks sequence terms).asks kept.stream.value place (all_of_servers prefix) ask kept.there.is_at (ap awaited_by (sym kept.is) ∙ waits) in
      let none = waits_as place.stage (sight_over place (all_of_servers prefix)) ((flows_of terms recorded).look place (all_of_servers prefix)) found in
      let no : NotYet ≡ Asks asked.0 = sym none ∙ asked.1 in cc
  waits_by child over prefix ask kept waits found = kept

  asks_by : (child : Child) (stage : Stage) (prefix : List (Timed Event)) (ask : Ask) (l : Look Command) → (resend_chain terms recorded).look stage prefix ≡ l →
      KeepsBy l terms child stage prefix → awaited_by child ≡ Some ask → (command : Command) × (l ≡ Asks command)
  asks_by child stage prefix ask NotYet is kept waits = absurd (waits_by child stage prefix ask kept waits is)
  asks_by child stage prefix ask (Asks command) is kept waits = (command, refl)
  asks_by child stage prefix ask (Ends owed) is kept waits = absurd (let no : None ≡ Some ask = ap awaited_by (sym kept) ∙ waits in cc)

  -- ---- whether it has ended

  goes_still : (child : Child) (stage : Stage) (prefix : List (Timed Event)) → Keeps terms child stage prefix → is_over child ≡ true → ⊥
  goes_still child waiting prefix kept ended = let no : false ≡ true = ap is_over (sym kept.0) ∙ ended in cc
  goes_still child (asks_head flow) prefix kept ended = let no : false ≡ true = ap is_over (sym kept) ∙ ended in cc
  goes_still child (asks_whole flow) prefix kept ended = let no : false ≡ true = ap is_over (sym kept) ∙ ended in cc
  goes_still child (goes_on place) prefix kept ended = let no : false ≡ true = ap is_over (sym kept.is) ∙ ended in cc
  goes_still child over prefix kept ended = kept

  pub ends_by : (child : Child) (stage : Stage) (prefix : List (Timed Event)) (l : Look Command) → KeepsBy l terms child stage prefix →
      is_over child ≡ true → (owed : List Command) × (l ≡ Ends owed)
  ends_by child stage prefix NotYet kept ended = absurd (goes_still child stage prefix kept ended)
  ends_by child stage prefix (Asks ask) kept ended = absurd (goes_still child stage prefix kept ended)
  ends_by child stage prefix (Ends owed) kept ended = (owed, refl)

  -- what is kept where this is found
  pub found_there : (child : Child) (stage : Stage) (prefix : List (Timed Event)) (l : Look Command) → (resend_chain terms recorded).look stage prefix ≡ l →
      IsChild terms recorded child stage prefix → KeepsBy l terms child stage prefix
  found_there child stage prefix l is there =
      let P : Look Command → Type 0 = λ found. KeepsBy found terms child stage prefix in subst P is there

-- ---- the layer

pub stands_there : (made state : Resend) (moves : List Move) (given : List Command) → ResendStands made state moves given →
    StandsAt (chain_of made) waiting (IsAt made) state moves given
stands_there made state moves given stands = stands

pub settles_there : (made : Resend) → Settles (chain_of made)
settles_there made = settles_by (terms_in made) made.request

pub grows_there : (made : Resend) (view : View) → SoFarGrows (chain_of made) (seen_of view)
grows_there made view = record { grows = λ stage prefix event is. (_, refl) }

pub asks_there : (made : Resend) → AwaitsWhatItAsks (chain_of made) (IsAt made) awaits
asks_there made = record {
  free = λ state stage prefix ask at is asks.
      free_by (terms_in made) made.request state.child stage prefix ask (found_there (terms_in made) made.request state.child stage prefix (Asks ask) asks at.child) is asks;
  asks = λ state stage prefix ask at is.
      asks_by (terms_in made) made.request state.child stage prefix ask ((chain_of made).look stage prefix) refl at.child is;
}

pub ends_there : (made : Resend) → EndsWhereItEnds (chain_of made) (IsAt made) (λ state. is_over state.child)
ends_there made = record {
  ends = λ state stage prefix at ended. ends_by (terms_in made) made.request state.child stage prefix ((chain_of made).look stage prefix) at.child ended;
  there = λ state stage prefix owed at is. ap is_over (found_there (terms_in made) made.request state.child stage prefix (Ends owed) is at.child);
}

-- ---- its number

-- What is due names flows of the conversation alone.
pub names_there : (made : Resend) (moves : List Move) → AllNamed made.conv (due_by (chain_of made) waiting moves)
names_there made moves = resend_names (terms_in made) made.request moves

-- no move changes its number
pub keeps_number : (made state : Resend) (moves : List Move) (given : List Command) → ResendStands made state moves given → state.conv ≡ made.conv
keeps_number made state moves given stands = stands.place.conv
