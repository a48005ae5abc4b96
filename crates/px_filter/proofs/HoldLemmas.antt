-- An expression looks at nothing but what its operators name.
use Rattle.std.proofs.Common.{◌≡◌, ◌∙◌, ◌==◌, ◌&&◌, ◌||◌, ℕ, Bool, false, not, Option, Some, None, refl, sym, ap, ap₂}
use Rattle.std.specs.List.{list_any}
use Rattle.px_message.specs.declared.flow.Flow.{Flow}
use Rattle.px_message.specs.declared.flow.Replayed.TheVariants as replayed
use Rattle.px_message.specs.declared.response.Response.{Response}
use Rattle.px_filter.specs.Expression.{Expression, Expressions, asked, negated, every, some_of, no_more, more}
use Rattle.px_filter.specs.Holds.{all_hold, any_holds, fact_holds, has_status, holds, is_asset, is_replayed_by, test_holds}
use Rattle.px_filter.specs.Named.{SameFact, SameNamed, SameNamedAll, SameTest, status_of}
use Rattle.px_filter.specs.Pattern.{found}
use Rattle.px_filter.specs.declared.operator.Fact.{Fact}
use Rattle.px_filter.specs.declared.operator.Fact.TheVariants as facts
use Rattle.px_filter.specs.declared.tree.Test.{Test}
use Rattle.px_filter.specs.declared.tree.Test.TheVariants as tests

fact_same : (fact : Fact) (flow other : Flow) → SameFact fact flow other → fact_holds fact flow ≡ fact_holds fact other
fact_same facts.Always flow other h = refl
fact_same facts.Asset flow other h = ap (list_any is_asset) h
fact_same facts.Error flow other h = h
fact_same facts.Marked flow other h = h
fact_same facts.NoResponse flow other h = ap not h
fact_same facts.Response flow other h = h
fact_same facts.Replayed flow other h = ap (λ r. not (is_replayed_by replayed.No r)) h
fact_same facts.ReplayedRequest flow other h = ap (is_replayed_by replayed.Request) h
fact_same facts.ReplayedResponse flow other h = ap (is_replayed_by replayed.Response) h
fact_same facts.Websocket flow other h = h

is_status : ℕ → Option ℕ → Bool
is_status code None = false
is_status code (Some status) = status == code

has_status_by : (code : ℕ) (response : Option Response) → has_status code response ≡ is_status code (status_of response)
unfolding is_status
has_status_by code None = refl
has_status_by code (Some response) = refl

test_same : (t : Test) (flow other : Flow) → SameTest t flow other → test_holds flow t ≡ test_holds other t
test_same (tests.Fact fact) flow other h = fact_same fact flow other h
test_same (tests.Code code) flow other h =
    has_status_by code flow.response ∙ ap (is_status code) h ∙ sym (has_status_by code other.response)
test_same (tests.Part part word) flow other h = ap (list_any (found word)) h

mutual
  pub same_holds : (e : Expression) (flow other : Flow) → SameNamed e flow other → holds flow e ≡ holds other e
  same_holds (asked t) flow other h = test_same t flow other h
  same_holds (negated e) flow other h = ap not (same_holds e flow other h)
  same_holds (every es) flow other h = same_all es flow other h
  same_holds (some_of es) flow other h = same_any es flow other h

  same_all : (es : Expressions) (flow other : Flow) → SameNamedAll es flow other → all_hold flow es ≡ all_hold other es
  same_all no_more flow other h = refl
  same_all (more e es) flow other h = ap₂ ◌&&◌ (same_holds e flow other h.0) (same_all es flow other h.1)

  same_any : (es : Expressions) (flow other : Flow) → SameNamedAll es flow other → any_holds flow es ≡ any_holds other es
  same_any no_more flow other h = refl
  same_any (more e es) flow other h = ap₂ ◌||◌ (same_holds e flow other h.0) (same_any es flow other h.1)
