-- Which size an answer allows, above which a body is streamed.
use Rattle.std.specs.Prelude.{◌≡◌, ℕ, List, [], ◌∷◌, Option, None}
use Rattle.px_event.specs.declared.ask.Hook.{Hook}
use Rattle.px_event.specs.declared.reply.Reply.{Reply}
use Rattle.px_event.specs.declared.reply.Reply.TheVariants as replies
use Rattle.px_core.specs.declared.answerer.Answer.{Answer}
use Rattle.px_core.specs.declared.answerer.Answer.TheVariants as answers
use Rattle.px_core.specs.declared.answerer.Draft.{Draft}
use Rattle.px_addons.specs.Moving.{Moves}
use Rattle.px_addons.specs.Turns.{Given}

-- the size that a reply allows: only one that goes on allows one
abbrev pub size_in : Reply → Option ℕ
size_in (replies.Go flow size) = size
size_in (replies.Respond response) = None
size_in replies.Kill = None
size_in replies.Discard = None
size_in replies.Dialled = None
size_in (replies.Refused fault) = None

-- the size that an answer allows, or the draft of one that waits
abbrev pub size_of : Answer → Option ℕ
size_of (answers.Reply reply) = size_in reply
size_of (answers.Wait draft) = draft.stream

-- each of them allows none
abbrev pub AllAllowNone : List Given → Type 0
AllAllowNone [] = Unit {0}
AllAllowNone (given ∷ others) = (size_of given.answer ≡ None) × AllAllowNone others

-- the relation leaves the size of every draft as it is
abbrev pub KeepsSizes : Moves → Type 0
KeepsSizes moves = (hook : Hook) (old : List ℕ) (draft : Draft) (new : List ℕ) (after : Draft) → moves hook old draft new after → after.stream ≡ draft.stream

-- each of the addons leaves it so
abbrev pub AllKeepSizes : {B : Type 0} → (B → Moves) → List B → Type 0
AllKeepSizes moves [] = Unit {0}
AllKeepSizes moves (addon ∷ others) = KeepsSizes (moves addon) × AllKeepSizes moves others
