use Rattle.std.proofs.Common.{◌≡◌}
use Rattle.px_event.specs.Layer.{IsSound}
use Rattle.px_core.specs.Answers.{ByAnswers, state_of}
use Rattle.px_core.specs.Held.{Asks, turns_left}
use Rattle.px_core.proofs.held.Held.answer_all.Given as goal

-- what was worked off so far
abbrev pub invariant-loop-open : goal.invariant-loop-open
invariant-loop-open g l = record {
  asks : Asks g.C.Conversation.stands g.C.Conversation.awaited g.C.Conversation.number g.C.Owes.due g.A.Answerer.answers l.fn.call.conv l.fn.call.moment l.fn.question l.fn.self l.self l.fn.flows l.flows (state_of g.A.Answerer.state g.F.Files.contents g.F.Files.calls g.F.Files.misses g.F.Files.faults g.F.Files.losses l.fn.answerer l.fn.files) (state_of g.A.Answerer.state g.F.Files.contents g.F.Files.calls g.F.Files.misses g.F.Files.faults g.F.Files.losses l.answerer l.files) l.open l.fn.steps.items l.steps.items;
  sound : IsSound g.C.Conversation.stands l.self.conversation;
  number : g.C.Conversation.number l.self.conversation ≡ l.fn.call.conv;
  given : ByAnswers g.A.Answerer.answers (state_of g.A.Answerer.state g.F.Files.contents g.F.Files.calls g.F.Files.misses g.F.Files.faults g.F.Files.losses l.fn.answerer l.fn.files) (state_of g.A.Answerer.state g.F.Files.contents g.F.Files.calls g.F.Files.misses g.F.Files.faults g.F.Files.losses l.answerer l.files);
}

abbrev pub decreases-loop-open : goal.decreases-loop-open
decreases-loop-open g l = turns_left (g.C.Conversation.left l.self.conversation) l.open
