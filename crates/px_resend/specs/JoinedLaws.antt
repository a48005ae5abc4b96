-- The laws of a layer that is one of two: those of the one that was made.
use Rattle.std.proofs.Common.{◌≡◌, ℕ, Bool, true, List, Option, Some, None, refl, sym, subst}
use Rattle.px_event.specs.declared.ask.Ask.{Ask}
use Rattle.px_event.specs.declared.command.Command.{Command}
use Rattle.px_event.specs.declared.event.Event.{Event}
use Rattle.px_event.specs.declared.reply.Reply.{Reply}
use Rattle.px_event.specs.Chain.{Chain, Asks, Ends, Timed}
use Rattle.px_event.specs.Laws.{Settles, SoFarGrows}
use Rattle.px_event.specs.Layer.{Move, Standing}
use Rattle.px_event.specs.Stands.{AwaitsWhatItAsks, EndsWhereItEnds, StandsAt, due_by}
use Rattle.px_event.specs.View.{View, seen_of}
use Rattle.px_core.specs.Conversation.{AllNamed}
use Rattle.px_resend.specs.Chain.{Stage, waiting}
use Rattle.px_resend.specs.Joined.{Either, awaited_by, chain_by, ended_by, is_at_by, number_by, one, one_of, other, other_of, stands_by, start_by}
use Rattle.px_resend.specs.Laws.{asks_there, ends_there, grows_there, keeps_number, names_there, settles_there, stands_there}
use Rattle.px_resend.specs.LiftedLaws.{due_by_into, grows_into, settles_into, stands_into}
use Rattle.px_resend.specs.Stands.{IsAt, chain_of}
use Rattle.px_resend.specs.declared.conversation.Conversation.{Conversation}
use Rattle.px_resend.specs.declared.conversation.Conversation.TheVariants as conversations
use Rattle.px_resend.specs.declared.resend.Resend.{Resend}

module _ {L S : Type 0} (stands : Standing L) (chain : L → Chain S Event Reply Command) (start : L → S) (is_at : L → L → S → List (Timed Event) → Type 0)
    (stands_at : (made state : L) (moves : List Move) (given : List Command) → stands made state moves given → StandsAt (chain made) (start made) (is_at made) state moves given) where
  pub stand_both : (made state : Conversation L) (moves : List Move) (given : List Command) → stands_by stands made state moves given →
      StandsAt (chain_by chain made) (start_by start made) (is_at_by is_at made) state moves given
  stand_both (conversations.Client made) (conversations.Client state) moves given is =
      stands_into one one_of (λ stage. refl) (chain made) (start made) (is_at made) (is_at_by is_at (conversations.Client made)) state (conversations.Client state)
      (λ stage prefix at. at) moves given (stands_at made state moves given is)
  stand_both (conversations.Client made) (conversations.Resent state) moves given is = absurd is
  stand_both (conversations.Resent made) (conversations.Client state) moves given is = absurd is
  stand_both (conversations.Resent made) (conversations.Resent state) moves given is =
      stands_into other other_of (λ stage. refl) (chain_of made) waiting (IsAt made) (is_at_by is_at (conversations.Resent made)) state (conversations.Resent state)
      (λ stage prefix at. at) moves given (stands_there made state moves given is)

module _ {L S : Type 0} (chain : L → Chain S Event Reply Command) where
  pub settle_both : ((made : L) → Settles (chain made)) → (made : Conversation L) → Settles (chain_by chain made)
  settle_both settles (conversations.Client made) = settles_into one one_of (λ stage. refl) (chain made) (settles made)
  settle_both settles (conversations.Resent made) = settles_into other other_of (λ stage. refl) (chain_of made) (settles_there made)

  pub grow_both : ((made : L) (view : View) → SoFarGrows (chain made) (seen_of view)) → (made : Conversation L) (view : View) → SoFarGrows (chain_by chain made) (seen_of view)
  grow_both grows (conversations.Client made) view = grows_into one one_of (λ stage. refl) (chain made) (seen_of view) refl (grows made view)
  grow_both grows (conversations.Resent made) view = grows_into other other_of (λ stage. refl) (chain_of made) (seen_of view) refl (grows_there made view)

  module _ (is_at : L → L → S → List (Timed Event) → Type 0) where
    free_by : (awaited : L → Option Ask) → ((made : L) → AwaitsWhatItAsks (chain made) (is_at made) awaited) →
        (made state : Conversation L) (stage : Either S Stage) (prefix : List (Timed Event)) (ask : Command) → is_at_by is_at made state stage prefix →
        awaited_by awaited state ≡ None → (chain_by chain made).look stage prefix ≡ Asks ask → ⊥
    free_by awaited asks (conversations.Client made) (conversations.Client state) (one stage) prefix ask at is found = (asks made).free state stage prefix ask at is found
    free_by awaited asks (conversations.Client made) (conversations.Client state) (other stage) prefix ask at is found = at
    free_by awaited asks (conversations.Client made) (conversations.Resent state) stage prefix ask at is found = at
    free_by awaited asks (conversations.Resent made) (conversations.Client state) stage prefix ask at is found = at
    free_by awaited asks (conversations.Resent made) (conversations.Resent state) (one stage) prefix ask at is found = at
    free_by awaited asks (conversations.Resent made) (conversations.Resent state) (other stage) prefix ask at is found = (asks_there made).free state stage prefix ask at is found

    asked_by : (awaited : L → Option Ask) → ((made : L) → AwaitsWhatItAsks (chain made) (is_at made) awaited) →
        (made state : Conversation L) (stage : Either S Stage) (prefix : List (Timed Event)) (ask : Ask) → is_at_by is_at made state stage prefix →
        awaited_by awaited state ≡ Some ask → (command : Command) × ((chain_by chain made).look stage prefix ≡ Asks command)
    asked_by awaited asks (conversations.Client made) (conversations.Client state) (one stage) prefix ask at is = (asks made).asks state stage prefix ask at is
    asked_by awaited asks (conversations.Client made) (conversations.Client state) (other stage) prefix ask at is = absurd at
    asked_by awaited asks (conversations.Client made) (conversations.Resent state) stage prefix ask at is = absurd at
    asked_by awaited asks (conversations.Resent made) (conversations.Client state) stage prefix ask at is = absurd at
    asked_by awaited asks (conversations.Resent made) (conversations.Resent state) (one stage) prefix ask at is = absurd at
    asked_by awaited asks (conversations.Resent made) (conversations.Resent state) (other stage) prefix ask at is = (asks_there made).asks state stage prefix ask at is

    pub asks_both : (awaited : L → Option Ask) → ((made : L) → AwaitsWhatItAsks (chain made) (is_at made) awaited) →
        (made : Conversation L) → AwaitsWhatItAsks (chain_by chain made) (is_at_by is_at made) (awaited_by awaited)
    asks_both awaited asks made = record { free = free_by awaited asks made; asks = asked_by awaited asks made }

    ended_there : (ended : L → Bool) → ((made : L) → EndsWhereItEnds (chain made) (is_at made) ended) →
        (made state : Conversation L) (stage : Either S Stage) (prefix : List (Timed Event)) → is_at_by is_at made state stage prefix →
        ended_by ended state ≡ true → (owed : List Command) × ((chain_by chain made).look stage prefix ≡ Ends owed)
    ended_there ended ends (conversations.Client made) (conversations.Client state) (one stage) prefix at is = (ends made).ends state stage prefix at is
    ended_there ended ends (conversations.Client made) (conversations.Client state) (other stage) prefix at is = absurd at
    ended_there ended ends (conversations.Client made) (conversations.Resent state) stage prefix at is = absurd at
    ended_there ended ends (conversations.Resent made) (conversations.Client state) stage prefix at is = absurd at
    ended_there ended ends (conversations.Resent made) (conversations.Resent state) (one stage) prefix at is = absurd at
    ended_there ended ends (conversations.Resent made) (conversations.Resent state) (other stage) prefix at is = (ends_there made).ends state stage prefix at is

    end_there : (ended : L → Bool) → ((made : L) → EndsWhereItEnds (chain made) (is_at made) ended) →
        (made state : Conversation L) (stage : Either S Stage) (prefix : List (Timed Event)) (owed : List Command) → is_at_by is_at made state stage prefix →
        (chain_by chain made).look stage prefix ≡ Ends owed → ended_by ended state ≡ true
    end_there ended ends (conversations.Client made) (conversations.Client state) (one stage) prefix owed at is = (ends made).there state stage prefix owed at is
    end_there ended ends (conversations.Client made) (conversations.Client state) (other stage) prefix owed at is = absurd at
    end_there ended ends (conversations.Client made) (conversations.Resent state) stage prefix owed at is = absurd at
    end_there ended ends (conversations.Resent made) (conversations.Client state) stage prefix owed at is = absurd at
    end_there ended ends (conversations.Resent made) (conversations.Resent state) (one stage) prefix owed at is = absurd at
    end_there ended ends (conversations.Resent made) (conversations.Resent state) (other stage) prefix owed at is = (ends_there made).there state stage prefix owed at is

    pub ends_both : (ended : L → Bool) → ((made : L) → EndsWhereItEnds (chain made) (is_at made) ended) →
        (made : Conversation L) → EndsWhereItEnds (chain_by chain made) (is_at_by is_at made) (ended_by ended)
    ends_both ended ends made = record { ends = ended_there ended ends made; there = end_there ended ends made }

  -- ---- what is due

  -- what is due of one with a client is what is due of its layer
  pub due_of_client : (start : L → S) (made : L) (moves : List Move) →
      due_by (chain_by chain (conversations.Client made)) (start_by start (conversations.Client made)) moves ≡ due_by (chain made) (start made) moves
  due_of_client start made moves = due_by_into one one_of (λ stage. refl) (chain made) (start made) moves

  -- and of a request that is sent again what is due of that
  pub due_of_resent : (start : L → S) (made : Resend) (moves : List Move) →
      due_by (chain_by chain (conversations.Resent made)) (start_by start (conversations.Resent made)) moves ≡ due_by (chain_of made) waiting moves
  due_of_resent start made moves = due_by_into other other_of (λ stage. refl) (chain_of made) waiting moves

  -- What is due names flows of the conversation alone.
  pub name_both : (start : L → S) (number : L → ℕ) → ((made : L) (moves : List Move) → AllNamed (number made) (due_by (chain made) (start made) moves)) →
      (made : Conversation L) (moves : List Move) → AllNamed (number_by number made) (due_by (chain_by chain made) (start_by start made) moves)
  name_both start number names (conversations.Client made) moves =
      let P : List Command → Type 0 = AllNamed (number made) in subst P (sym (due_of_client start made moves)) (names made moves)
  name_both start number names (conversations.Resent made) moves =
      let P : List Command → Type 0 = AllNamed made.conv in subst P (sym (due_of_resent start made moves)) (names_there made moves)

-- no move changes its number
pub keep_both : {L : Type 0} (stands : Standing L) (number : L → ℕ) →
    ((made state : L) (moves : List Move) (given : List Command) → stands made state moves given → number state ≡ number made) →
    (made state : Conversation L) (moves : List Move) (given : List Command) → stands_by stands made state moves given → number_by number state ≡ number_by number made
keep_both stands number keeps (conversations.Client made) (conversations.Client state) moves given is = keeps made state moves given is
keep_both stands number keeps (conversations.Client made) (conversations.Resent state) moves given is = absurd is
keep_both stands number keeps (conversations.Resent made) (conversations.Client state) moves given is = absurd is
keep_both stands number keeps (conversations.Resent made) (conversations.Resent state) moves given is = keeps_number made state moves given is
