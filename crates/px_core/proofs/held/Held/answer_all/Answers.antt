use Rattle.px_core.specs.Answers.{by_none}
use Rattle.px_core.proofs.AnswerLemmas.{by_both, after_given, after_both}
use Rattle.px_core.proofs.WorkLemmas.{none_asked, asks_on}
use Rattle.px_core.proofs.held.Held.answer_all.Goals as goal

pub loop-open-init : goal.loop-open-init
loop-open-init g c = record {
  asks = none_asked g.C.Conversation.stands g.C.Conversation.awaited g.C.Conversation.number g.C.Owes.due g.met.C.Owes.gave g.A.Answerer.answers c.args.call.conv c.args.call.moment _ c.args.self.now _ _ _ c.requires.next;
  sound = c.requires.sound;
  number = c.requires.number;
  given = by_none _;
}

pub loop-open-preserved : goal.loop-open-preserved
loop-open-preserved g c = record {
  asks = asks_on g.C.Conversation.stands g.C.Conversation.awaited g.C.Conversation.number g.C.Owes.due g.met.C.Owes.gave g.A.Answerer.answers
      c.args.call.conv c.args.call.moment _ _ c.args.self.now _ _ _ _ _ c.in-Some.question _ _ _ _ c.loop-open.invariant.asks c.in-Some.is c.in_ok-open.ensures.asks;
  sound = c.in_ok-open.ensures.sound;
  number = c.in_ok-open.ensures.number;
  given = by_both _ _ _ c.loop-open.invariant.given c.in_ok-open.ensures.given;
}

pub returns-in_err-open-clause-files : goal.returns-in_err-open-clause-files
returns-in_err-open-clause-files g c = after_both _ _ _ c.loop-open.invariant.given c.in_err-open.ensures.files

pub returns-clause-files : goal.returns-clause-files
returns-clause-files g c = after_given _ _ c.loop-open.invariant.given
