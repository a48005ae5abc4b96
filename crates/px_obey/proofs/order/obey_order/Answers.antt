use Rattle.std.proofs.lemmas.Result.{IfOk-weaker, on_err_weaker}
use Rattle.px_view.specs.declared.command.Order.TheVariants as order
use Rattle.px_view.specs.Entry.{entry_line}
use Rattle.px_view.specs.Show.{show_text}
use Rattle.px_core.proofs.RunLemmas.{on_err}
use Rattle.px_obey.specs.Over.{IsListOf, IsShownOf}
use Rattle.px_obey.proofs.OrderLemmas.{breaks_as, breaks_unbegun, goes_as, goes_given, goes_listed, goes_quit, goes_shown, if_ok_over, rests}
use Rattle.px_obey.proofs.order.obey_order.Goals as goal

pub returns-in-List-clause-ok : goal.returns-in-List-clause-ok
returns-in-List-clause-ok g c = if_ok_over c.list_order.result (λ due course trace text. IsListOf trace text.items) _ _
    (λ text all. goes_as c.args.order.now order.List text.items c.in-List.is (goes_listed text.items all)) (λ due course trace stands. c.list_order.ensures.lists due course _ trace stands)

pub returns-in-List-clause-err : goal.returns-in-List-clause-err
returns-in-List-clause-err g c = on_err c.list_order.result (breaks_as c.args.order.now order.List c.in-List.is (breaks_unbegun order.List (rests g.C.Conversation.stands g.C.Conversation.awaited g.C.Conversation.number g.C.Owes.due g.A.Answerer.answers _ _)))

pub returns-in-Show-clause-ok : goal.returns-in-Show-clause-ok
returns-in-Show-clause-ok g c = if_ok_over c.show_order.result (λ due course trace text. IsShownOf g.A.Answerer.answers due course trace show_text c.in-Show.id text.items) _ _
    (λ text all. goes_as c.args.order.now (order.Show c.in-Show.id) text.items c.in-Show.is (goes_shown c.in-Show.id text.items all)) (λ due course trace stands. c.show_order.ensures.shows due course _ trace stands)

pub returns-in-Show-clause-err : goal.returns-in-Show-clause-err
returns-in-Show-clause-err g c = on_err c.show_order.result (breaks_as c.args.order.now (order.Show c.in-Show.id) c.in-Show.is (breaks_unbegun (order.Show c.in-Show.id) (rests g.C.Conversation.stands g.C.Conversation.awaited g.C.Conversation.number g.C.Owes.due g.A.Answerer.answers _ _)))

pub returns-in-Entry-clause-ok : goal.returns-in-Entry-clause-ok
returns-in-Entry-clause-ok g c = if_ok_over c.entry_order.result (λ due course trace text. IsShownOf g.A.Answerer.answers due course trace (entry_line c.in-Entry.from) c.in-Entry.id text.items) _ _
    (λ text all. goes_as c.args.order.now (order.Entry c.in-Entry.id c.in-Entry.from) text.items c.in-Entry.is (goes_given c.in-Entry.id c.in-Entry.from text.items all)) (λ due course trace stands. c.entry_order.ensures.gives due course _ trace stands)

pub returns-in-Entry-clause-err : goal.returns-in-Entry-clause-err
returns-in-Entry-clause-err g c = on_err c.entry_order.result (breaks_as c.args.order.now (order.Entry c.in-Entry.id c.in-Entry.from) c.in-Entry.is
    (breaks_unbegun (order.Entry c.in-Entry.id c.in-Entry.from) (rests g.C.Conversation.stands g.C.Conversation.awaited g.C.Conversation.number g.C.Owes.due g.A.Answerer.answers _ _)))

pub returns-in-Act-clause-ok : goal.returns-in-Act-clause-ok
returns-in-Act-clause-ok g c = IfOk-weaker c.act_order.result _ _ (λ text goes. goes_as c.args.order.now (order.Act c.in-Act.operation) text.items c.in-Act.is goes) c.act_order.ensures.ok

pub returns-in-Act-clause-err : goal.returns-in-Act-clause-err
returns-in-Act-clause-err g c = on_err_weaker c.act_order.result (breaks_as c.args.order.now (order.Act c.in-Act.operation) c.in-Act.is) c.act_order.ensures.err

pub returns-in-Quit-clause-ok : goal.returns-in-Quit-clause-ok
returns-in-Quit-clause-ok g c = IfOk-weaker c.line_of.result _ _ (λ text is. goes_as c.args.order.now order.Quit text.items c.in-Quit.is (goes_quit text.items is)) c.line_of.ensures

pub returns-in-Quit-clause-err : goal.returns-in-Quit-clause-err
returns-in-Quit-clause-err g c = on_err c.line_of.result (breaks_as c.args.order.now order.Quit c.in-Quit.is (breaks_unbegun order.Quit (rests g.C.Conversation.stands g.C.Conversation.awaited g.C.Conversation.number g.C.Owes.due g.A.Answerer.answers _ _)))
