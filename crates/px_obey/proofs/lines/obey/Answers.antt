use Rattle.std.proofs.lemmas.Result.{IfOk-weaker, on_err_weaker}
use Rattle.px_obey.proofs.LinesLemmas.{adds_answers, breaks_answers, files_after, on_ok_if}
use Rattle.px_obey.proofs.lines.obey.Goals as goal

pub returns-clause-ok : goal.returns-clause-ok
returns-clause-ok g c = λ due course trace stands now.
    IfOk-weaker c.obey_lines.result _ _ (λ outcome goes. adds_answers c.args.conv c.deref.result.now c.args.lines.items outcome c.deref.ensures.value goes due course trace stands now) c.obey_lines.ensures.ok

pub returns-clause-breaks : goal.returns-clause-breaks
returns-clause-breaks g c = λ due course trace told stands now is.
    on_err_weaker c.obey_lines.result (λ breaks. breaks_answers c.args.conv c.deref.result.now c.args.lines.items c.deref.ensures.value breaks due course trace told stands now is) c.obey_lines.ensures.err

pub returns-clause-taken : goal.returns-clause-taken
returns-clause-taken g c = λ trace told same. on_ok_if c.obey_lines.result _ (λ outcome goes. goes.takes trace told same) c.obey_lines.ensures.ok

pub returns-clause-given : goal.returns-clause-given
returns-clause-given g c = on_ok_if c.obey_lines.result _ (λ outcome goes. goes.by) c.obey_lines.ensures.ok

pub returns-clause-files : goal.returns-clause-files
returns-clause-files g c = files_after c.obey_lines.result _ _ _ _ (λ outcome goes. goes.by) (λ breaks. breaks.after_orders) c.obey_lines.ensures.ok c.obey_lines.ensures.err
