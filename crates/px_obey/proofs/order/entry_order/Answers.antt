use Rattle.std.proofs.lemmas.Result.{IfOk-weaker}
use Rattle.px_obey.specs.Over.{is_not_live, is_shown}
use Rattle.px_obey.proofs.order.entry_order.Goals as goal

pub returns-in-Some : goal.returns-in-Some
returns-in-Some g c = record {
  gives = λ due course files trace stands. IfOk-weaker c.part_text.result _ _
      (λ text is. let f = c.in-Some.ensures.shown due course files trace stands in is_shown _ f.0 f.1 is) c.part_text.ensures;
}

pub returns-in-None : goal.returns-in-None
returns-in-None g c = record {
  gives = λ due course files trace stands. IfOk-weaker c.line_of.result _ _ (λ text is. is_not_live (c.flow.ensures.none due course files trace stands c.in-None.is) is) c.line_of.ensures;
}
