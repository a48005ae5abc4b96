-- What another proxy is sent before it has answered.
use Rattle.std.specs.Prelude.{◌≡◌, ℕ, false, List, [], ◌∷◌, ◌++◌, drop}
use Rattle.px_message.specs.declared.address.Address.{Address}
use Rattle.px_message.specs.declared.request.Request.{Request}
use Rattle.px_event.specs.declared.side.Side.TheVariants.{Server}
use Rattle.px_event.specs.Layer.{Move, Took, Replied}
use Rattle.px_write.specs.declared.form.Form.TheVariants.{Absolute}
use Rattle.px_exchange.specs.Texts.{onward_text}
use Rattle.px_parts.specs.Texts.{request_so_far}
use Rattle.px_event.specs.Sides.{piece_of}
use Rattle.px_tunnel.specs.Upstream.{awaited, connect_text, granting}

-- the bytes that these calls bring of a server
abbrev pub said_of : ℕ → List Move → List ℕ
said_of server [] = []
said_of server (Took moment event ∷ moves) = piece_of (Server server) event ++ said_of server moves
said_of server (Replied moment reply ∷ moves) = said_of server moves

-- Nothing is decided by the text, from whichever byte it is read: no head of a response stands in it.
abbrev pub DecidesNothing : List ℕ → Type 0
DecidesNothing text = (skipped : ℕ) → granting (drop skipped text) false ≡ awaited

-- No answer has come of a server: nothing, or a part of a head.
abbrev pub HasNotAnswered : ℕ → List Move → Type 0
HasNotAnswered server moves = DecidesNothing (said_of server moves)

-- One request at most: none, one for a tunnel, or one whose target is in absolute form, as a proxy is sent it (RFC 9112 section 3.2.2). Where that is
-- streamed it is the text of what came of it.
pub data IsOneRequest (text : List ℕ) : Type 0 where
  is_none : text ≡ [] → IsOneRequest text
  for_tunnel : (to : Address) → text ≡ connect_text to → IsOneRequest text
  in_full : (request : Request) → text ≡ onward_text Absolute request → IsOneRequest text
  in_part : (request : Request) (heard : List ℕ) → text ≡ request_so_far request Absolute heard → IsOneRequest text
