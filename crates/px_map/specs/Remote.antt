-- What map remote makes of a flow.
use Rattle.std.specs.Prelude.{ℕ, List, [], ◌∷◌, bytes_eq, Option, Some, None, option_map, Result, Ok, Err, if◌then◌else◌}
use Rattle.px_message.specs.Target.{absolute_form}
use Rattle.px_message.specs.declared.flow.Flow.{Flow}
use Rattle.px_message.specs.declared.request.Request.{Request}
use Rattle.px_rule.specs.Pattern.{replaced_all}
use Rattle.px_rule.specs.Rule.{Rule, applies}
use Rattle.px_map.specs.Url.{moved, url_of}

-- the flow with another request
abbrev pub with_request : Flow → Request → Flow
with_request flow request = record flow { request = request }

-- the flow with this URL: as it is where it has it already, and none where the text is no URL of the scheme `http`
abbrev pub with_url : Flow → List ℕ → Option Flow
with_url flow text =
    if bytes_eq text (url_of flow.request) then Some flow
    else option_map (with_request flow) (moved flow.request (absolute_form text))

-- the flow as one rule leaves it: where its filter holds, all matches in the URL are replaced; none where what comes of it is no URL
abbrev pub remote_step : Rule → Flow → Option Flow
remote_step rule flow =
    if applies rule.filter flow then with_url flow (replaced_all rule.subject rule.replacement (url_of flow.request)) else Some flow

-- what follows a step: the others, or the flow as it was
abbrev pub remote_on : (Flow → Result Flow Flow) → Flow → Option Flow → Result Flow Flow
remote_on others flow None = Err flow
remote_on others flow (Some next) = others next

-- the flow as the rules leave it, each asked of the flow as those before it left it; where one refuses, the flow as those before
-- that one left it
abbrev pub remote_rules : List Rule → Flow → Result Flow Flow
remote_rules [] flow = Ok flow
remote_rules (rule ∷ rules) flow = remote_on (remote_rules rules) flow (remote_step rule flow)
