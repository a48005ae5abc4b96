-- What it is for a text that was streamed to be a message. To be a response: whoever reads it reads the head that was sent, the sender's chunks and bytes,
-- and the trailers, and the next message begins where it ends (RFC 9112 sections 6.3 and 7.1).
use Rattle.std.specs.Prelude.{◌≡◌, ◌≢◌, ℕ, Bool, true, false, List, ◌++◌, length, Ok}
use Rattle.px_message.specs.Length.{has_no_body, response_length}
use Rattle.px_message.specs.Status.{is_status}
use Rattle.px_message.specs.declared.length.Length.TheVariants.{ToClose}
use Rattle.px_message.specs.declared.response.Response.{Response}
use Rattle.px_read.specs.Items.{Body, complete, response_item}
use Rattle.px_read.specs.declared.head.ResponseHead.{ResponseHead as ReadResponse}
use Rattle.px_write.specs.ReadBack.{RequestHeadStands, ResponseHeadStands, TrailersStand, read_response_head}
use Rattle.px_message.specs.declared.request.Request.{Request}
use Rattle.px_read.specs.Heads.{asks_tunnel}
use Rattle.px_read.specs.declared.head.RequestHead.{RequestHead as ReadRequest}
use Rattle.px_exchange.specs.declared.place.Place.{Place}
use Rattle.px_exchange.specs.Places.{form_at}
use Rattle.px_chain.specs.Coming.{framed_as}
use Rattle.px_chain.specs.Going.{framed_up}

-- Whatever follows it, where its body does not run to the close, and in any case where the sender closes right behind it.
pub record ReadsAs (asked_head : Bool) (text : List ℕ) (sent : Response) (body : Body) (trailers : List (List ℕ × List ℕ)) : Type 0 where
  pub by_itself : response_length sent.status asked_head sent.fields ≢ Ok ToClose → (closed : Bool) (rest : List ℕ) →
      response_item asked_head closed (text ++ rest) ≡ complete (read_response_head sent) body trailers (length text)
  pub to_close : response_item asked_head true text ≡ complete (read_response_head sent) body trailers (length text)

-- The response, as its head's hook left it, can be sent with this head that was read: its status is one, both can have a body or neither,
-- and the head and the trailers are read as they stand.
pub record MayPass (asked_head : Bool) (head : ReadResponse) (response : Response) (trailers : List (List ℕ × List ℕ)) : Type 0 where
  pub status : is_status response.status ≡ true
  pub body : has_no_body response.status asked_head ≡ has_no_body head.code asked_head
  pub stands : ResponseHeadStands (framed_as head response)
  pub trailing : TrailersStand (framed_as head response).fields trailers

-- The request, as its head's hook left it, can be sent with this head that was read, which is no CONNECT: its head and the trailers are
-- read as they stand.
pub record MayGoUp (place : Place) (head : ReadRequest) (request : Request) (trailers : List (List ℕ × List ℕ)) : Type 0 where
  pub no_tunnel : asks_tunnel head ≡ false
  pub stands : RequestHeadStands (framed_up head request) (form_at place)
  pub trailing : TrailersStand (framed_up head request).fields trailers
