use Rattle.std.proofs.Common.{◌≡◌, take}
use Rattle.px_core.specs.Answers.{files_meaning, state_of}
use Rattle.px_core.specs.Router.{RouterStands}
use Rattle.px_obey.specs.Obeyed.{ObeysAll}
use Rattle.px_obey.specs.Over.{GoesOver}
use Rattle.px_obey.proofs.lines.obey_lines.Given as goal

-- the lines so far were obeyed, and behind each the next one is
abbrev pub invariant-loop-line : goal.invariant-loop-line
invariant-loop-line g l = record {
  goes : GoesOver g.A.Answerer.answers g.A.Answerer.drops (λ due first more last. ObeysAll g.A.Answerer.answers g.A.Answerer.drops g.A.Answerer.names due l.fn.conv first (take l.line-index l.lines) more last)
      (λ due course trace. RouterStands g.C.Conversation.stands g.C.Conversation.awaited g.C.Conversation.number g.C.Owes.due g.A.Answerer.answers g.A.Answerer.state due course (files_meaning g.F.Files.contents g.F.Files.calls g.F.Files.misses g.F.Files.faults g.F.Files.losses l.fn.files) l.fn.router trace)
      (λ due course trace. RouterStands g.C.Conversation.stands g.C.Conversation.awaited g.C.Conversation.number g.C.Owes.due g.A.Answerer.answers g.A.Answerer.state due course (files_meaning g.F.Files.contents g.F.Files.calls g.F.Files.misses g.F.Files.faults g.F.Files.losses l.files) l.router trace)
      l.fn.moment
      (state_of g.A.Answerer.state g.F.Files.contents g.F.Files.calls g.F.Files.misses g.F.Files.faults g.F.Files.losses l.fn.router.answerer l.fn.files)
      (state_of g.A.Answerer.state g.F.Files.contents g.F.Files.calls g.F.Files.misses g.F.Files.faults g.F.Files.losses l.router.answerer l.files)
      (g.N.Net.trace l.fn.net) (g.N.Net.trace l.net) (g.T.Taker.taken l.fn.taker) (g.T.Taker.taken l.taker);
  listening : g.N.Net.listening l.net ≡ g.N.Net.listening l.fn.net;
  faults : g.N.Net.faults l.net ≡ g.N.Net.faults l.fn.net;
}
