-- A layer that is one of two: what is due of it is what is due of the one that was made.
use Rattle.std.specs.Prelude.{ℕ, Bool, List, Option, Some, None}
use Rattle.px_event.specs.declared.ask.Ask.{Ask}
use Rattle.px_event.specs.declared.command.Command.{Command}
use Rattle.px_event.specs.declared.event.Event.{Event}
use Rattle.px_event.specs.declared.reply.Reply.{Reply}
use Rattle.px_event.specs.Chain.{Chain, Timed}
use Rattle.px_event.specs.Layer.{Standing}
use Rattle.px_resend.specs.Chain.{Stage, waiting}
use Rattle.px_resend.specs.Kept as resend
use Rattle.px_resend.specs.Lifted.{lifted}
use Rattle.px_resend.specs.Stands.{IsAt, ResendStands, awaits, chain_of}
use Rattle.px_resend.specs.declared.conversation.Conversation.{Conversation}
use Rattle.px_resend.specs.declared.conversation.Conversation.TheVariants as conversations

-- ---- the stages of two chains

pub data Either (S T : Type 0) : Type 0 where
  one : (stage : S) → Either S T
  other : (stage : T) → Either S T

abbrev pub one_of : {S T : Type 0} → Either S T → Option S
one_of (one stage) = Some stage
one_of (other stage) = None

abbrev pub other_of : {S T : Type 0} → Either S T → Option T
other_of (one stage) = None
other_of (other stage) = Some stage

-- ---- a conversation with a client, or a request that is sent again

abbrev pub chain_by : {L S : Type 0} → (L → Chain S Event Reply Command) → Conversation L → Chain (Either S Stage) Event Reply Command
chain_by chain (conversations.Client layer) = lifted one one_of (chain layer)
chain_by chain (conversations.Resent resent) = lifted other other_of (chain_of resent)

abbrev pub start_by : {L S : Type 0} → (L → S) → Conversation L → Either S Stage
start_by start (conversations.Client layer) = one (start layer)
start_by start (conversations.Resent resent) = other waiting

abbrev pub is_at_by : {L S : Type 0} → (L → L → S → List (Timed Event) → Type 0) → Conversation L → Conversation L → Either S Stage → List (Timed Event) → Type 0
is_at_by is_at (conversations.Client made) (conversations.Client state) (one stage) prefix = is_at made state stage prefix
is_at_by is_at (conversations.Resent made) (conversations.Resent state) (other stage) prefix = IsAt made state stage prefix
is_at_by is_at made state stage prefix = ⊥

abbrev pub stands_by : {L : Type 0} → Standing L → Standing (Conversation L)
stands_by stands (conversations.Client made) (conversations.Client state) moves given = stands made state moves given
stands_by stands (conversations.Resent made) (conversations.Resent state) moves given = ResendStands made state moves given
stands_by stands made state moves given = ⊥

abbrev pub awaited_by : {L : Type 0} → (L → Option Ask) → Conversation L → Option Ask
awaited_by awaited (conversations.Client layer) = awaited layer
awaited_by awaited (conversations.Resent resent) = awaits resent

-- a number of the one, or of the other
abbrev pub left_by : {L : Type 0} → (L → ℕ) → Conversation L → ℕ
left_by left (conversations.Client layer) = left layer
left_by left (conversations.Resent resent) = resend.left_by resent.child

abbrev pub rate_by : {L : Type 0} → (L → ℕ) → Conversation L → ℕ
rate_by rate (conversations.Client layer) = rate layer
rate_by rate (conversations.Resent resent) = 0

abbrev pub kept_by : {L : Type 0} → (L → ℕ) → Conversation L → ℕ
kept_by kept (conversations.Client layer) = kept layer
kept_by kept (conversations.Resent resent) = resend.kept_by resent.child

abbrev pub no_body_by : {L : Type 0} → (L → Bool) → Conversation L → Bool
no_body_by no_body (conversations.Client layer) = no_body layer
no_body_by no_body (conversations.Resent resent) = resend.keeps_no_body resent.child

abbrev pub ended_by : {L : Type 0} → (L → Bool) → Conversation L → Bool
ended_by ended (conversations.Client layer) = ended layer
ended_by ended (conversations.Resent resent) = resend.is_over resent.child

abbrev pub number_by : {L : Type 0} → (L → ℕ) → Conversation L → ℕ
number_by number (conversations.Client layer) = number layer
number_by number (conversations.Resent resent) = resent.conv
