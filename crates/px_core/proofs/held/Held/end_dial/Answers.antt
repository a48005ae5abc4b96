use Rattle.std.proofs.Common.{ap, sym, ◌∙◌}
use Rattle.std.proofs.lemmas.Result.{on_ok_weaker}
use Rattle.px_core.specs.Runs.{has}
use Rattle.px_core.proofs.HearLemmas.{works_end}
use Rattle.px_core.proofs.AnswerLemmas.{after_none}
use Rattle.px_core.proofs.held.Held.end_dial.Goals as goal

pub returns : goal.returns
returns g c = record {
  takes = on_ok_weaker c.work_off.result
      (λ works. works_end g.C.Conversation.stands g.C.Conversation.awaited g.C.Conversation.number g.C.Owes.due g.A.Answerer.answers g.met.C.Owes.gave c.args.call.conv c.args.call.moment _ _ _ c.args.self.now c.connect.new.self _ _ _ _ _ _ _
      c.in_ok-connect.ensures.conversation c.in_ok-commands.ensures.number c.in_ok-commands.ensures.gives
      (λ n. sym (c.in_ok-connect.ensures.connected n) ∙ ap (λ r. has r n) (sym c.in_ok-commands.ensures.connected))
      (c.in_ok-commands.ensures.draft ∙ c.in_ok-connect.ensures.draft) (c.in_ok-commands.ensures.marks ∙ c.in_ok-connect.ensures.marks) works)
      c.work_off.ensures.works;
  files = c.work_off.ensures.files;
  given = c.work_off.ensures.given;
}

pub returns-in_err-connect-clause-files : goal.returns-in_err-connect-clause-files
returns-in_err-connect-clause-files g c = after_none _

pub returns-in_err-commands-clause-files : goal.returns-in_err-commands-clause-files
returns-in_err-commands-clause-files g c = after_none _
