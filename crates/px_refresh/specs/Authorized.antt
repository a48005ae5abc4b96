-- Authorizations: what a request shows, and what another is given of it.
use Rattle.std.specs.Prelude.{ℕ, List, [], ◌∷◌, ◌++◌, codes, Option, None, Some, slice_get, if◌then◌else◌}
use Rattle.px_filter.specs.Expression.{Expression}
use Rattle.px_filter.specs.Holds.{holds}
use Rattle.px_message.specs.Fields.{values_of}
use Rattle.px_message.specs.declared.flow.Flow.{Flow}
use Rattle.px_message.specs.declared.request.Request.{Request}
use Rattle.px_refresh.specs.Fields.{with_fields}
use Rattle.px_refresh.specs.Kept.{kept, latest}
use Rattle.px_refresh.specs.Text.{is_same_text}

-- an authorization: the host that it is kept for, and the value of the field
abbrev pub Authorization : Type 0
Authorization = List ℕ × List ℕ

-- the first value of the request's `Authorization` fields, if it has one (RFC 9110 section 11.6.2)
abbrev pub authorization_in : Request → Option (List ℕ)
authorization_in request = slice_get (values_of (codes "Authorization") request.fields) 0

abbrev pub authorization_for : List ℕ → Option (List ℕ) → List Authorization
authorization_for host None = []
authorization_for host (Some value) = (host, value) ∷ []

-- what a request shows: its first value, for its host
abbrev pub shown_by : Request → List Authorization
shown_by request = authorization_for request.host (authorization_in request)

-- what is kept of what requests showed one behind the other: of each host, byte by byte, the value that was shown last
abbrev pub authorizations : List Authorization → List Authorization
authorizations shown = kept is_same_text shown

-- the value that was shown last for the host
abbrev pub value_for : List ℕ → List Authorization → Option (List ℕ)
value_for host shown = latest is_same_text host shown

-- the flow whose request has the value at its end, if there is one
abbrev pub with_authorization : Option (List ℕ) → Flow → Flow
with_authorization None flow = flow
with_authorization (Some value) flow = with_fields (λ fields. fields ++ (codes "Authorization", value) ∷ []) flow

-- the request gets what was shown last for its host, where the filter holds
abbrev pub given : Expression → List Authorization → Flow → Flow
given filter shown flow = if holds flow filter then with_authorization (value_for flow.request.host shown) flow else flow

abbrev pub unless_shown : Option (List ℕ) → Flow → Flow → Flow
unless_shown None flow other = other
unless_shown (Some value) flow other = flow

-- but where it has a field of its own it stays as it is
abbrev pub authorized : Expression → List Authorization → Flow → Flow
authorized filter shown flow = unless_shown (authorization_in flow.request) flow (given filter shown flow)
