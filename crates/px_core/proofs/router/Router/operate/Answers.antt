use Rattle.std.proofs.Common.{◌∙◌, sym}
use Rattle.px_core.proofs.AnswerLemmas.{after_none}
use Rattle.px_core.proofs.ResultLemmas.{on_ok_map}
use Rattle.px_core.proofs.EditLemmas.{judged_for}
use Rattle.px_core.proofs.OperateLemmas.{if_err_map, moves_for}
use Rattle.px_core.proofs.router.Router.operate.Goals as goal

pub returns-then-self-clause-files : goal.returns-then-self-clause-files
returns-then-self-clause-files g c = after_none _

pub returns-in-Some-clause-done : goal.returns-in-Some-clause-done
returns-in-Some-clause-done g c = λ due course trace stands.
    let for = sym c.answered_flow.ensures ∙ c.in-Some.is in
    on_ok_map c.release.result (λ so. judged_for g.C.Conversation.stands g.C.Conversation.awaited g.C.Conversation.number g.C.Owes.due g.met.C.Owes.gave g.C.Owes.grows g.A.Answerer.answers due (g.A.Answerer.names (g.A.Answerer.state c.args.self.now.answerer)) c.args.self.now.table trace c.args.operation.now c.in-Some.id _ for stands so) (c.release.ensures.done due course trace stands)

pub returns-in-Some-clause-refused : goal.returns-in-Some-clause-refused
returns-in-Some-clause-refused g c = λ due course trace stands.
    let for = sym c.answered_flow.ensures ∙ c.in-Some.is in
    if_err_map c.release.result _ _ (λ error so other. judged_for g.C.Conversation.stands g.C.Conversation.awaited g.C.Conversation.number g.C.Owes.due g.met.C.Owes.gave g.C.Owes.grows g.A.Answerer.answers due (g.A.Answerer.names (g.A.Answerer.state c.args.self.now.answerer)) c.args.self.now.table trace c.args.operation.now c.in-Some.id _ for stands (so other)) (c.release.ensures.refused due course trace stands)

pub returns-in-None-clause-done : goal.returns-in-None-clause-done
returns-in-None-clause-done g c = λ due course trace stands. c.change.ensures.done due course _ trace stands

pub returns-in-None-clause-refused : goal.returns-in-None-clause-refused
returns-in-None-clause-refused g c = λ due course trace stands. c.change.ensures.refused due course _ trace stands

pub returns-in-None-clause-files : goal.returns-in-None-clause-files
returns-in-None-clause-files g c = after_none _

pub returns-in-Some-clause-moves : goal.returns-in-Some-clause-moves
returns-in-Some-clause-moves g c =
    on_ok_map c.release.result (moves_for g.A.Answerer.answers g.A.Answerer.drops c.args.operation.now c.in-Some.id _ _ (sym c.answered_flow.ensures ∙ c.in-Some.is)) c.release.ensures.given

pub returns-in-None-clause-moves : goal.returns-in-None-clause-moves
returns-in-None-clause-moves g c = c.change.ensures.moves _
