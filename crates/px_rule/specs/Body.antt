-- What body rules make of a flow.
use Rattle.std.specs.Prelude.{ℕ, Bool, true, false, List, [], ◌∷◌, Option, Some, option_map, if◌then◌else◌}
use Rattle.px_message.specs.declared.flow.Flow.{Flow}
use Rattle.px_message.specs.declared.response.Response.{Response}
use Rattle.px_message.specs.declared.flow.WsMessage.{WsMessage}
use Rattle.px_rule.specs.Pattern.{replaced_all}
use Rattle.px_rule.specs.Rule.{Rule, applies}
use Rattle.px_rule.specs.declared.content.Content.{Content}
use Rattle.px_rule.specs.declared.content.Content.TheVariants as contents

-- a response with a changed body, and a message with a changed payload
abbrev pub response_with : (List ℕ → List ℕ) → Response → Response
response_with change response = record response { body = change response.body }

abbrev pub message_with : (List ℕ → List ℕ) → WsMessage → WsMessage
message_with change message = record message { payload = change message.payload }

-- the flow with these bytes changed: the request's body, the response's, or the payload of the message
abbrev pub with_content : Content → (List ℕ → List ℕ) → Flow → Flow
with_content contents.Request change flow = record flow { request = record flow.request { body = change flow.request.body } }
with_content contents.Response change flow = record flow { response = option_map (response_with change) flow.response }
with_content contents.Message change flow = record flow { message = option_map (message_with change) flow.message }

-- the flow as one rule leaves it: where its filter holds, all matches are replaced
abbrev pub body_step : Content → Rule → Flow → Flow
body_step content rule flow =
    if applies rule.filter flow then with_content content (replaced_all rule.subject rule.replacement) flow else flow

-- the flow as the rules leave it: each is asked of the flow as those before it left it
abbrev pub body_rules : Content → List Rule → Flow → Flow
body_rules content [] flow = flow
body_rules content (rule ∷ rules) flow = body_rules content rules (body_step content rule flow)

-- the body that is meant
abbrev pub body_of : Bool → Content
body_of true = contents.Response
body_of false = contents.Request

-- the bytes that are meant, where they are
abbrev pub content_in : Content → Flow → Option (List ℕ)
content_in contents.Request flow = Some flow.request.body
content_in contents.Response flow = option_map (λ response. response.body) flow.response
content_in contents.Message flow = option_map (λ message. message.payload) flow.message
