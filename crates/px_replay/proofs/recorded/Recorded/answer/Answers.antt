use Rattle.px_replay.proofs.LeftLemmas.{answers}
use Rattle.px_replay.proofs.recorded.Recorded.answer.Goals as goal

pub returns-clause-answer : goal.returns-clause-answer
returns-clause-answer c =
    answers c.args.self.now c.args.request.now c.in_ok-key.key c.in_ok-key.ensures c.answer_to.result c.answer_to.ensures.answer
