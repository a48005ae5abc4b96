-- Flows with other fields of their request.
use Rattle.std.specs.Prelude.{ℕ, List}
use Rattle.px_message.specs.declared.flow.Flow.{Flow}

abbrev pub with_fields : (List (List ℕ × List ℕ) → List (List ℕ × List ℕ)) → Flow → Flow
with_fields change flow = record flow { request = record flow.request { fields = change flow.request.fields } }
