-- What the operators of an expression look at, the same in two flows.
use Rattle.std.specs.Prelude.{◌≡◌, ℕ, Option, Some, None, is_some}
use Rattle.px_message.specs.declared.flow.Flow.{Flow}
use Rattle.px_message.specs.declared.response.Response.{Response}
use Rattle.px_filter.specs.Expression.{Expression, Expressions, asked, negated, every, some_of, no_more, more}
use Rattle.px_filter.specs.Holds.{response_types, texts}
use Rattle.px_filter.specs.declared.operator.Fact.{Fact}
use Rattle.px_filter.specs.declared.operator.Fact.TheVariants as facts
use Rattle.px_filter.specs.declared.tree.Test.{Test}
use Rattle.px_filter.specs.declared.tree.Test.TheVariants as tests

-- the status, if there is a response
abbrev pub status_of : Option Response → Option ℕ
status_of None = None
status_of (Some response) = Some response.status

abbrev pub SameFact : Fact → Flow → Flow → Type 0
SameFact facts.Always flow other = Unit {0}
SameFact facts.Asset flow other = response_types flow ≡ response_types other
SameFact facts.Error flow other = is_some flow.error ≡ is_some other.error
SameFact facts.Marked flow other = flow.marked ≡ other.marked
SameFact facts.NoResponse flow other = is_some flow.response ≡ is_some other.response
SameFact facts.Response flow other = is_some flow.response ≡ is_some other.response
SameFact facts.Replayed flow other = flow.replayed ≡ other.replayed
SameFact facts.ReplayedRequest flow other = flow.replayed ≡ other.replayed
SameFact facts.ReplayedResponse flow other = flow.replayed ≡ other.replayed
SameFact facts.Websocket flow other = flow.websocket ≡ other.websocket

-- for a pattern it is the texts of its part
abbrev pub SameTest : Test → Flow → Flow → Type 0
SameTest (tests.Fact fact) flow other = SameFact fact flow other
SameTest (tests.Code code) flow other = status_of flow.response ≡ status_of other.response
SameTest (tests.Part part word) flow other = texts part flow ≡ texts part other

abbrev mutual
  pub SameNamed : Expression → Flow → Flow → Type 0
  SameNamed (asked t) flow other = SameTest t flow other
  SameNamed (negated e) flow other = SameNamed e flow other
  SameNamed (every es) flow other = SameNamedAll es flow other
  SameNamed (some_of es) flow other = SameNamedAll es flow other

  pub SameNamedAll : Expressions → Flow → Flow → Type 0
  SameNamedAll no_more flow other = Unit {0}
  SameNamedAll (more e es) flow other = SameNamed e flow other × SameNamedAll es flow other
