use Rattle.std.proofs.Common.{ap, sym}
use Rattle.std.proofs.lemmas.Result.{on_ok_weaker}
use Rattle.px_core.specs.Runs.{has}
use Rattle.px_core.proofs.HearLemmas.{works_taken}
use Rattle.px_core.proofs.AnswerLemmas.{after_none}
use Rattle.px_core.proofs.held.Held.hand.Goals as goal

pub returns : goal.returns
returns g c = record {
  takes = on_ok_weaker c.work_off.result
      (λ works. works_taken g.C.Conversation.stands g.C.Conversation.awaited g.C.Conversation.number g.C.Owes.due g.A.Answerer.answers g.met.C.Owes.gave c.args.call.conv c.args.call.moment _ _ _ c.args.self.now _ _ _ _ _ _ _
      c.in_ok-commands.ensures.number c.in_ok-commands.ensures.gives (λ n. ap (λ r. has r n) (sym c.in_ok-commands.ensures.connected)) c.in_ok-commands.ensures.draft c.in_ok-commands.ensures.marks works)
      c.work_off.ensures.works;
  files = c.work_off.ensures.files;
  given = c.work_off.ensures.given;
}

pub returns-in_err-commands-clause-files : goal.returns-in_err-commands-clause-files
returns-in_err-commands-clause-files g c = after_none _
