use Rattle.std.proofs.Common.{◌≡◌, ◌≤◌, ◌⊎◌, ℕ, false, List, [], Option, Some}
use Rattle.px_message.specs.declared.address.Address.{Address}
use Rattle.px_event.specs.Layer.{Move}
use Rattle.px_outside.specs.Count.{Rose}
use Rattle.px_core.specs.Answers.{AnswererState, files_meaning, state_of}
use Rattle.px_core.specs.Due.{Due}
use Rattle.px_core.specs.Run.{IsDueOf}
use Rattle.px_app.specs.Over.{Goes}
use Rattle.px_app.specs.Saved.{saves_to_of}
use Rattle.px_app.specs.Serving.{IsSound, RestsNow, ToldTurn}
use Rattle.px_app.specs.declared.printing.Printing.TheVariants.{Failed}
use Rattle.px_app.proofs.serving.serve_all.Given as goal

abbrev pub invariant-turns : goal.invariant-turns
invariant-turns g l = record {
  turn : (due : Due) (first : AnswererState g.A.Answerer.State) (start : Option (List ℕ)) → IsDueOf (g.M.Maker.due l.fn.serving.maker) due →
      RestsNow g.C.Conversation.stands g.C.Conversation.awaited g.C.Conversation.number g.C.Owes.due g.A.Answerer.answers g.A.Answerer.drops g.A.Answerer.names g.A.Answerer.state due first (saves_to_of l.fn.serving.saving) (files_meaning g.F.Files.contents g.F.Files.calls g.F.Files.misses g.F.Files.faults g.F.Files.losses l.fn.files) l.fn.serving.router l.fn.serving.operators l.fn.serving.printing l.fn.serving.replaying (g.M.Maker.alone l.fn.serving.maker) start (g.S.Sink.written l.fn.out) false 0 [] → g.N.Net.trace l.fn.net ≡ Some [] →
      ToldTurn g.C.Conversation.stands g.C.Conversation.awaited g.C.Conversation.number g.C.Owes.due g.A.Answerer.answers g.A.Answerer.drops g.A.Answerer.names g.A.Answerer.state due first (saves_to_of l.fn.serving.saving) (files_meaning g.F.Files.contents g.F.Files.calls g.F.Files.misses g.F.Files.faults g.F.Files.losses l.files) l.serving.router l.serving.operators l.serving.printing l.serving.replaying (g.M.Maker.alone l.fn.serving.maker) start (g.S.Sink.written l.out) l.turn (g.N.Net.trace l.net);
  sound : IsSound g.C.Conversation.stands g.C.Conversation.awaited g.C.Conversation.number g.C.Owes.due g.A.Answerer.answers g.A.Answerer.drops g.A.Answerer.names g.A.Answerer.state (g.M.Maker.due l.serving.maker) (files_meaning g.F.Files.contents g.F.Files.calls g.F.Files.misses g.F.Files.faults g.F.Files.losses l.files) l.serving.router;
  due : (number : ℕ) (at : Option Address) (moves : List Move) → g.M.Maker.due l.serving.maker number at moves ≡ g.M.Maker.due l.fn.serving.maker number at moves;
  count : g.M.Maker.alone l.serving.maker ≡ g.M.Maker.alone l.fn.serving.maker;
  saving : l.serving.saving ≡ l.fn.serving.saving;
  failed : (first lost : ℕ) → first ≤ g.S.Sink.faults l.fn.out → lost ≤ g.F.Files.losses l.fn.files → (l.fn.serving.printing ≡ Failed → Rose first (g.S.Sink.faults l.fn.out) ⊎ Rose lost (g.F.Files.losses l.fn.files)) →
      l.serving.printing ≡ Failed → Rose first (g.S.Sink.faults l.out) ⊎ Rose lost (g.F.Files.losses l.files);
  later_out : g.S.Sink.faults l.fn.out ≤ g.S.Sink.faults l.out;
  later_losses : g.F.Files.losses l.fn.files ≤ g.F.Files.losses l.files;
  given : Goes g.A.Answerer.answers g.A.Answerer.drops (saves_to_of l.fn.serving.saving) (state_of g.A.Answerer.state g.F.Files.contents g.F.Files.calls g.F.Files.misses g.F.Files.faults g.F.Files.losses l.fn.serving.router.answerer l.fn.files) (state_of g.A.Answerer.state g.F.Files.contents g.F.Files.calls g.F.Files.misses g.F.Files.faults g.F.Files.losses l.serving.router.answerer l.files);
  listening : g.N.Net.listening l.net ≡ g.N.Net.listening l.fn.net;
  later : g.N.Net.faults l.fn.net ≤ g.N.Net.faults l.net;
}
