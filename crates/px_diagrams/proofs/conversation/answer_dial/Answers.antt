use Rattle.px_diagrams.proofs.conversation.answer_dial.Goals as goal

pub answer-requires-clause-answers : goal.answer-requires-clause-answers
answer-requires-clause-answers g c = c.dialled.ensures c.args.server
