use Rattle.std.proofs.Common.{◌≡◌, ◌≤◌, ◌⊎◌, ℕ, false, List, Option, Some}
use Rattle.px_message.specs.declared.address.Address.{Address}
use Rattle.px_event.specs.Layer.{Move}
use Rattle.px_event.specs.Trace.{Trace}
use Rattle.px_outside.specs.Count.{Rose}
use Rattle.px_core.specs.Answers.{AnswererState, files_meaning, state_of}
use Rattle.px_core.specs.Due.{Due}
use Rattle.px_core.specs.Run.{IsDueOf}
use Rattle.px_app.specs.Over.{Goes}
use Rattle.px_app.specs.Run.{ToldOn}
use Rattle.px_app.specs.Saved.{saves_to_of}
use Rattle.px_app.specs.Serving.{IsSound, RestsNow}
use Rattle.px_app.specs.declared.printing.Printing.TheVariants.{Failed}
use Rattle.px_app.proofs.serving.Serving.begin_replays.Given as goal

abbrev pub invariant-begins : goal.invariant-begins
invariant-begins g l = record {
  begins : (due : Due) (first : AnswererState g.A.Answerer.State) (start : Option (List ℕ)) (trace : Trace) → IsDueOf (g.M.Maker.due l.fn.self.maker) due →
      RestsNow g.C.Conversation.stands g.C.Conversation.awaited g.C.Conversation.number g.C.Owes.due g.A.Answerer.answers g.A.Answerer.drops g.A.Answerer.names g.A.Answerer.state due first (saves_to_of l.fn.self.saving) (files_meaning g.F.Files.contents g.F.Files.calls g.F.Files.misses g.F.Files.faults g.F.Files.losses l.fn.files) l.fn.self.router l.fn.self.operators l.fn.self.printing l.fn.self.replaying (g.M.Maker.alone l.fn.self.maker) start (g.S.Sink.written l.fn.out) false l.fn.moment trace → g.N.Net.trace l.fn.net ≡ Some trace →
      ToldOn (RestsNow g.C.Conversation.stands g.C.Conversation.awaited g.C.Conversation.number g.C.Owes.due g.A.Answerer.answers g.A.Answerer.drops g.A.Answerer.names g.A.Answerer.state due first (saves_to_of l.fn.self.saving) (files_meaning g.F.Files.contents g.F.Files.calls g.F.Files.misses g.F.Files.faults g.F.Files.losses l.files) l.self.router l.self.operators l.self.printing l.self.replaying (g.M.Maker.alone l.fn.self.maker) start (g.S.Sink.written l.out) false l.fn.moment) trace (g.N.Net.trace l.net) × (l.self.replaying.begun ≡ l.index);
  sound : IsSound g.C.Conversation.stands g.C.Conversation.awaited g.C.Conversation.number g.C.Owes.due g.A.Answerer.answers g.A.Answerer.drops g.A.Answerer.names g.A.Answerer.state (g.M.Maker.due l.self.maker) (files_meaning g.F.Files.contents g.F.Files.calls g.F.Files.misses g.F.Files.faults g.F.Files.losses l.files) l.self.router;
  due : (number : ℕ) (at : Option Address) (moves : List Move) → g.M.Maker.due l.self.maker number at moves ≡ g.M.Maker.due l.fn.self.maker number at moves;
  count : g.M.Maker.alone l.self.maker ≡ g.M.Maker.alone l.fn.self.maker;
  saving : l.self.saving ≡ l.fn.self.saving;
  failed : (first lost : ℕ) → first ≤ g.S.Sink.faults l.fn.out → lost ≤ g.F.Files.losses l.fn.files → (l.fn.self.printing ≡ Failed → Rose first (g.S.Sink.faults l.fn.out) ⊎ Rose lost (g.F.Files.losses l.fn.files)) →
      l.self.printing ≡ Failed → Rose first (g.S.Sink.faults l.out) ⊎ Rose lost (g.F.Files.losses l.files);
  later_out : g.S.Sink.faults l.fn.out ≤ g.S.Sink.faults l.out;
  later_losses : g.F.Files.losses l.fn.files ≤ g.F.Files.losses l.files;
  given : Goes g.A.Answerer.answers g.A.Answerer.drops (saves_to_of l.fn.self.saving) (state_of g.A.Answerer.state g.F.Files.contents g.F.Files.calls g.F.Files.misses g.F.Files.faults g.F.Files.losses l.fn.self.router.answerer l.fn.files) (state_of g.A.Answerer.state g.F.Files.contents g.F.Files.calls g.F.Files.misses g.F.Files.faults g.F.Files.losses l.self.router.answerer l.files);
  listening : g.N.Net.listening l.net ≡ g.N.Net.listening l.fn.net;
  faults : g.N.Net.faults l.net ≡ g.N.Net.faults l.fn.net;
}
