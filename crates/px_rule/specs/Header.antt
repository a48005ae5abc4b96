-- What header rules make of a list of fields, and of a flow.
use Rattle.std.specs.Prelude.{ℕ, Bool, true, false, not, ◌==◌, List, ◌++◌, length, map, filter, Option, Some, option_map}
use Rattle.std.specs.List.{list_any}
use Rattle.px_message.specs.Fields.{is_named}
use Rattle.px_message.specs.declared.flow.Flow.{Flow}
use Rattle.px_message.specs.declared.response.Response.{Response}
use Rattle.px_rule.specs.Rule.{Rule, applies}

-- the rules that hold on the flow, in their order
abbrev pub holding : Flow → List Rule → List Rule
holding flow rules = filter (λ (rule : Rule). applies rule.filter flow) rules

-- the fields whose name no rule has
abbrev pub spared : List Rule → List (List ℕ × List ℕ) → List (List ℕ × List ℕ)
spared rules fields = filter (λ field. not (list_any (λ (rule : Rule). is_named rule.subject field) rules)) fields

-- a field for each rule that puts a value
abbrev pub put : List Rule → List (List ℕ × List ℕ)
put rules = map (λ (rule : Rule). (rule.subject, rule.replacement)) (filter (λ (rule : Rule). not (length rule.replacement == 0)) rules)

-- every name of the rules is taken away, and then their fields are added in order
abbrev pub changed : List Rule → List (List ℕ × List ℕ) → List (List ℕ × List ℕ)
changed rules fields = spared rules fields ++ put rules

-- a response with changed fields
abbrev pub response_with : (List (List ℕ × List ℕ) → List (List ℕ × List ℕ)) → Response → Response
response_with change response = record response { fields = change response.fields }

-- the flow with changed fields of its response, or of its request; a response that is not there has none
abbrev pub with_fields : Bool → (List (List ℕ × List ℕ) → List (List ℕ × List ℕ)) → Flow → Flow
with_fields true change flow = record flow { response = option_map (response_with change) flow.response }
with_fields false change flow = record flow { request = record flow.request { fields = change flow.request.fields } }

-- the flow as header rules leave it: their filters are all asked of the flow as it stands before
abbrev pub header_rules : Bool → List Rule → Flow → Flow
header_rules response rules flow = with_fields response (changed (holding flow rules)) flow

-- the fields of the response, where there is one, or of the request
abbrev pub fields_in : Bool → Flow → Option (List (List ℕ × List ℕ))
fields_in true flow = option_map (λ response. response.fields) flow.response
fields_in false flow = Some flow.request.fields
