use Rattle.std.proofs.Common.{ap, ◌∙◌}
use Rattle.std.proofs.lemmas.Result.{IfOk-weaker}
use Rattle.px_obey.specs.Obeyed.{list_text}
use Rattle.px_obey.proofs.order.list_order.Goals as goal

pub returns : goal.returns
returns g c = record {
  lists = λ due course files trace stands. IfOk-weaker c.list_text.result _ _
      (λ text is. record { list = c.in_ok-list.list.items; live = c.in_ok-list.ensures.live due course files trace stands; is = is ∙ ap list_text c.deref.ensures.value }) c.list_text.ensures;
}
