use Rattle.std.proofs.Common.{ap, sym, ◌∙◌}
use Rattle.std.proofs.lemmas.Result.{on_ok_weaker}
use Rattle.px_core.specs.Calls.{takes}
use Rattle.px_core.proofs.HearLemmas.{ignored, heard_event, heard_end, takes_begun, takes_not_connected, takes_no_end}
use Rattle.px_core.proofs.AnswerLemmas.{after_none}
use Rattle.px_core.specs.Answers.{by_none}
use Rattle.px_core.proofs.held.Held.hear.Goals as goal

pub returns-in-Begun : goal.returns-in-Begun
returns-in-Begun g c = record {
  hears =
      ignored g.C.Conversation.stands g.C.Conversation.awaited g.C.Conversation.number g.C.Owes.due g.A.Answerer.answers c.args.call.conv c.args.call.moment c.args.news c.args.self.now _ _
      (λ calls peer begun sides dial. ap (takes c.args.call.moment calls) c.in-Begun.is ∙ takes_begun c.args.call.moment calls peer _ begun) c.requires.settled;
  files = after_none _;
  given = by_none _;
}

pub returns-else-is_connected : goal.returns-else-is_connected
returns-else-is_connected g c = record {
  hears =
      ignored g.C.Conversation.stands g.C.Conversation.awaited g.C.Conversation.number g.C.Owes.due g.A.Answerer.answers c.args.call.conv c.args.call.moment c.args.news c.args.self.now _ _
      (λ calls peer begun sides dial. ap (takes c.args.call.moment calls) c.in-Event.is ∙ takes_not_connected c.args.call.moment calls peer c.in-Event.side c.in-Event.event _ begun sides (sym c.if-is_connected.ensures)) c.requires.settled;
  files = after_none _;
  given = by_none _;
}

pub returns-then-is_connected : goal.returns-then-is_connected
returns-then-is_connected g c = record {
  hears = on_ok_weaker c.hand.result
      (heard_event g.C.Conversation.stands g.C.Conversation.awaited g.C.Conversation.number g.C.Owes.due g.A.Answerer.answers c.args.call.conv c.args.call.moment c.args.news c.in-Event.side c.in-Event.event c.args.self.now _ _ _ _ _
      c.in-Event.is (sym c.if-is_connected.ensures)) c.hand.ensures.takes;
  files = c.hand.ensures.files;
  given = c.hand.ensures.given;
}

pub returns-else-is_dialling : goal.returns-else-is_dialling
returns-else-is_dialling g c = record {
  hears =
      ignored g.C.Conversation.stands g.C.Conversation.awaited g.C.Conversation.number g.C.Owes.due g.A.Answerer.answers c.args.call.conv c.args.call.moment c.args.news c.args.self.now _ _
      (λ calls peer begun sides dial. ap (takes c.args.call.moment calls) c.in-Dialled.is ∙ takes_no_end c.args.call.moment calls c.in-Dialled.server c.in-Dialled.ok _ dial (sym c.if-is_dialling.ensures.dialling)) c.requires.settled;
  files = after_none _;
  given = by_none _;
}

pub returns-then-is_dialling : goal.returns-then-is_dialling
returns-then-is_dialling g c = record {
  hears = on_ok_weaker c.end_dial.result
      (heard_end g.C.Conversation.stands g.C.Conversation.awaited g.C.Conversation.number g.C.Owes.due g.A.Answerer.answers c.args.call.conv c.args.call.moment c.args.news c.in-Dialled.server c.in-Dialled.ok c.args.self.now _ _ _ _ _
      c.in-Dialled.is (sym c.if-is_dialling.ensures.dialling)) c.end_dial.ensures.takes;
  files = c.end_dial.ensures.files;
  given = c.end_dial.ensures.given;
}
