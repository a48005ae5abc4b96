-- What a reply to a hook is taken for: the message that the hook is about, its body at a body hook, and nothing else.
-- Replies that make no sense at a hook count as going on with the flow as it was asked.
use Rattle.std.specs.Prelude.{ℕ, false, ◌==◌, if◌then◌else◌, List, codes, Option, Some, None}
use Rattle.px_message.specs.declared.request.Request.{Request}
use Rattle.px_message.specs.declared.response.Response.{Response}
use Rattle.px_event.specs.declared.reply.Reply.{Reply}
use Rattle.px_event.specs.declared.reply.Reply.TheVariants as reply
use Rattle.px_exchange.specs.declared.taken.Taken.{Taken}
use Rattle.px_exchange.specs.declared.taken.Taken.TheVariants.{GoesOn, Responds, Kills}

-- method, host, port, path, version and fields
abbrev pub with_request_head : Request → Request → Request
with_request_head asked given = record given { body = asked.body; trailers = asked.trailers; streamed = asked.streamed }

-- body and trailers besides
abbrev pub with_request : Request → Request → Request
with_request asked given = record given { streamed = asked.streamed }

abbrev pub bad_gateway_reason : List ℕ
bad_gateway_reason = codes "Bad Gateway"

-- A status 101 that no server sent has nothing behind it (RFC 9110 section 15.2.2): it becomes 502.
abbrev pub without_upgrade : Response → Response
without_upgrade response =
    if response.status == 101 then record response { status = 502; reason = bad_gateway_reason } else response

-- One that a server sent stays one, as long as each hook leaves it so.
abbrev pub upgrades_as : Response → Response → Response
upgrades_as asked given = if asked.status == 101 then given else without_upgrade given

-- version, status, reason and fields
abbrev pub with_response_head : Response → Response → Response
with_response_head asked given =
    upgrades_as asked (record given { body = asked.body; trailers = asked.trailers; streamed = asked.streamed })

-- body and trailers besides
abbrev pub with_response : Response → Response → Response
with_response asked given = upgrades_as asked (record given { streamed = asked.streamed })

-- a response in place of the server's, which is never streamed
abbrev pub in_place : Response → Response
in_place given = without_upgrade (record given { streamed = false })

-- at the hook of the request's head
abbrev pub taken_at_request_head : Request → Reply → Taken Request
taken_at_request_head asked (reply.Go flow stream) = GoesOn (with_request_head asked flow.request)
taken_at_request_head asked (reply.Respond response) = Responds (in_place response)
taken_at_request_head asked reply.Kill = Kills
taken_at_request_head asked _ = GoesOn asked

-- at the hook of the whole request
abbrev pub taken_at_request_body : Request → Reply → Taken Request
taken_at_request_body asked (reply.Go flow stream) = GoesOn (with_request asked flow.request)
taken_at_request_body asked (reply.Respond response) = Responds (in_place response)
taken_at_request_body asked reply.Kill = Kills
taken_at_request_body asked _ = GoesOn asked

-- the response of a flow, or the one that was asked about
abbrev pub given_by : (Response → Response → Response) → Response → Option Response → Response
given_by takes asked (Some given) = takes asked given
given_by takes asked None = asked

-- at the hook of the response's head
abbrev pub taken_at_response_head : Response → Reply → Taken Response
taken_at_response_head asked (reply.Go flow stream) = GoesOn (given_by with_response_head asked flow.response)
taken_at_response_head asked reply.Kill = Kills
taken_at_response_head asked _ = GoesOn asked

-- at the hook of the whole response
abbrev pub taken_at_response_body : Response → Reply → Taken Response
taken_at_response_body asked (reply.Go flow stream) = GoesOn (given_by with_response asked flow.response)
taken_at_response_body asked reply.Kill = Kills
taken_at_response_body asked _ = GoesOn asked

abbrev pub taken_at_head_of : Option Response → Reply → Option (Taken Response)
taken_at_head_of None answer = None
taken_at_head_of (Some message) answer = Some (taken_at_response_head message answer)

abbrev pub taken_at_body_of : Option Response → Reply → Option (Taken Response)
taken_at_body_of None answer = None
taken_at_body_of (Some message) answer = Some (taken_at_response_body message answer)
