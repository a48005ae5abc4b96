-- A response that is streamed, or may yet be: what is held of it, and what is sent.
use Rattle.std.specs.Prelude.{◌≡◌, ℕ, Bool, true, false, ◌&&◌, not, nat_lt, List, [], ◌∷◌, ◌++◌, Option, Some, None, Result, Ok, Err, ⊤}
use Rattle.px_message.specs.Length.{has_no_body, response_length}
use Rattle.px_message.specs.Settle.{settled_streamed}
use Rattle.px_message.specs.declared.fault.Fault.{Fault}
use Rattle.px_message.specs.declared.length.Length.{Length}
use Rattle.px_message.specs.declared.length.Length.TheVariants as lengths
use Rattle.px_message.specs.declared.response.Response.{Response}
use Rattle.px_event.specs.declared.command.Command.{Command}
use Rattle.px_event.specs.declared.command.Command.TheVariants as commands
use Rattle.px_event.specs.declared.side.Side.TheVariants.{Client}
use Rattle.px_read.specs.Marks.{Mark}
use Rattle.px_read.specs.Reader.{Message, Reads, State, reading_of}
use Rattle.px_exchange.specs.declared.body.Progress.{Progress}
use Rattle.px_exchange.specs.Bodies.{HasCome, content_of}
use Rattle.px_parts.specs.Streamed.{response_is_streamed}
use Rattle.px_parts.specs.Texts.{marks_text}
use Rattle.px_stream.specs.declared.coming.Held.{Held}

-- ---- whether it is streamed, by the response as its head was read, to HEAD or not, and as that head's hook left it

abbrev pub streams_at : (status : ℕ) → (asked_head : Bool) → Result Length Fault → Option ℕ → (heard : ℕ) → Bool
streams_at status asked_head (Ok length) most heard = response_is_streamed status asked_head length most heard
streams_at status asked_head (Err fault) most heard = false

abbrev pub streams_with : (asked_head : Bool) → (read response : Response) → Option ℕ → (heard : ℕ) → Bool
streams_with asked_head read response most heard =
    streams_at response.status asked_head (response_length read.status asked_head read.fields) most heard

-- Whether it may yet be, once more of it has come: a body of a stated length is judged by that alone.
abbrev pub may_exceed : Length → ℕ → Bool
may_exceed lengths.None most = false
may_exceed (lengths.Bytes n) most = nat_lt most n
may_exceed lengths.Chunked most = true
may_exceed lengths.ToClose most = true

abbrev pub may_exceed_by : Result Length Fault → ℕ → Bool
may_exceed_by (Ok length) most = may_exceed length most
may_exceed_by (Err fault) most = false

abbrev pub may_stream : (asked_head : Bool) → (read response : Response) → Option ℕ → Bool
may_stream asked_head read response None = false
may_stream asked_head read response (Some most) =
    not (has_no_body response.status asked_head) && may_exceed_by (response_length read.status asked_head read.fields) most

-- what is held behind its head: nothing of a response that is never streamed
abbrev pub IsHeldBy : Bool → Response → Option Held → Type 0
IsHeldBy true read (Some held) = (held.read ≡ read) × (held.said.items ≡ [])
IsHeldBy false read None = ⊤
IsHeldBy may read held = ⊥

abbrev pub IsHeldFor : (asked_head : Bool) → (read response : Response) → Option ℕ → Option Held → Type 0
IsHeldFor asked_head read response most held = IsHeldBy (may_stream asked_head read response most) read held

-- ---- what is sent

-- framed as it was read
abbrev pub framed_by : (read response : Response) → Response
framed_by read response = record response { fields = settled_streamed read.fields response.fields }

-- bytes that are sent to the client, if there are any
abbrev pub sends_text : List ℕ → List Command
sends_text [] = []
sends_text (byte ∷ more) = commands.Send Client (byte ∷ more) ∷ []

-- ---- what a reader gives of its body, up to where it has no more to give

-- some of it, with its content and what it says
pub record CollectsHeld (old : State) (content said : List ℕ) (new : State) (body longer : List ℕ) : Type 0 where
  pub marks : List Mark
  pub grown : body ≡ content ++ content_of marks
  pub says : longer ≡ said ++ marks_text marks
  pub reads : (message : Message) (told : List Mark) (fed : List ℕ) (closed : Bool) → Reads message told fed closed old →
      Reads message (told ++ marks) fed closed new

-- with the content of what it gave, and what that says
pub record GoesOverHeld (got : Progress) (old : State) (content said : List ℕ) (new : State) (body longer : List ℕ) : Type 0 where
  pub over : CollectsHeld old content said new body longer
  pub come : (message : Message) (told : List Mark) (fed : List ℕ) (closed : Bool) → Reads message told fed closed old →
      HasCome got (reading_of message closed fed) (told ++ over.marks) fed new

-- with what it says alone
pub record GoesOver (got : Progress) (old : State) (said : List ℕ) (new : State) (longer : List ℕ) : Type 0 where
  pub body : List ℕ
  pub held : GoesOverHeld got old [] said new body longer
