-- What a layer's state stands for: how the layer was made, the moves that were made with it, and the commands it gave.
use Rattle.std.specs.Prelude.{◌≡◌, ℕ, ◌+◌, List, [], ◌∷◌, ◌++◌, length, Option, Some, option_to_list}
use Rattle.std.specs.List.{flat_map}
use Rattle.px_event.specs.declared.ask.Ask.{Ask}
use Rattle.px_event.specs.declared.ask.Ask.TheVariants as ask
use Rattle.px_event.specs.declared.event.Event.{Event}
use Rattle.px_event.specs.declared.event.Event.TheVariants as event
use Rattle.px_event.specs.declared.reply.Reply.{Reply}
use Rattle.px_event.specs.declared.reply.Reply.TheVariants as reply
use Rattle.px_event.specs.declared.command.Command.{Command}
use Rattle.px_event.specs.declared.command.Command.TheVariants as command

-- an event taken, or a reply given to what is awaited, each at a moment
pub data Move : Type 0 where
  Took : (moment : ℕ) (event : Event) → Move
  Replied : (moment : ℕ) (reply : Reply) → Move

-- What a layer's states stand for: the layer that was made as the first state came by these moves to the second, and gave
-- these commands.
abbrev pub Standing : Type 0 → Type 1
Standing S = S → S → List Move → List Command → Type 0

-- the state stands for something
abbrev pub IsSound : {S : Type 0} → Standing S → S → Type 0
IsSound {S} standing state = (made : S) × (past : List Move) × (given : List Command) × standing made state past given

-- whatever the state before stood for, the one after stands for it with this move more and the commands that were added
pub record Goes {S : Type 0} (standing : Standing S) (before after : S) (move : Move) (out new_out : List Command) : Type 0 where
  pub more : List Command
  pub grown : new_out ≡ out ++ more
  pub stands : (made : S) (past : List Move) (given : List Command) → standing made before past given → standing made after (past ++ move ∷ []) (given ++ more)

-- what a command asks
abbrev pub asks_in : Command → List Ask
asks_in (command.Ask asked flow) = asked ∷ []
asks_in (command.Dial server address inside) = ask.Dial server ∷ []
asks_in _ = []

-- the commands that were added have at most one ask or dial, and it is the one that is awaited
abbrev pub AsksOnly : Option Ask → List Command → List Command → Type 0
AsksOnly awaited out new_out = (more : List Command) × (new_out ≡ out ++ more) × (flat_map asks_in more ≡ option_to_list awaited)

-- a dial is answered with the connection or its refusal, a hook with any reply
abbrev pub MayAnswer : Option Ask → Reply → Type 0
MayAnswer (Some (ask.Dial server)) reply.Dialled = Unit {0}
MayAnswer (Some (ask.Dial server)) (reply.Refused fault) = Unit {0}
MayAnswer (Some (ask.Hook flow hook)) reply = Unit {0}
MayAnswer _ _ = ⊥

-- the event is no answer
abbrev pub IsNews : Event → Type 0
IsNews (event.Answered asked reply) = ⊥
IsNews _ = Unit {0}

-- one more than the event's number of bytes
abbrev pub weight : Event → ℕ
weight (event.Piece side bytes) = length bytes + 1
weight _ = 1
