use Rattle.std.proofs.Common.{◌≡◌, ◌∙◌, ◌+◌, ℕ, false, Option, Some, refl, sym, arith, le_refl, le_trans}
use Rattle.px_event.specs.Trace.{Trace}
use Rattle.px_core.specs.Answers.{files_meaning}
use Rattle.px_app.specs.declared.saving.Saving.{Saving}
use Rattle.px_app.specs.Over.{goes_none}
use Rattle.px_app.specs.Run.{ToldOn}
use Rattle.px_app.specs.Saved.{saves_to_of}
use Rattle.px_app.specs.Serving.{BrokeOff, RestsNow}
use Rattle.px_app.proofs.BeginLemmas.{between_all, between_going, by_saving, on_behind, on_by, on_next, on_none}
use Rattle.px_app.proofs.GoesLemmas.{goes_both, leaves_both, leaves_whole}
use Rattle.px_app.proofs.NetLemmas.{on_err}
use Rattle.px_app.proofs.StepLemmas.{goes_saving, leaves_saving}
use Rattle.px_app.proofs.serving.Serving.begin_replays.Goals as goal

pub begins-init : goal.begins-init
begins-init g c = record {
  begins = λ due first start trace owes now told. (on_none _ trace _ told now, refl);
  sound = c.requires.sound;
  due = λ n at moves. refl;
  count = refl;
  saving = refl;
  failed = λ first lost low low_lost was now. was now;
  later_out = le_refl _;
  later_losses = le_refl _;
  given = goes_none;
  listening = refl;
  faults = refl;
}

pub begin_next-requires : goal.begin_next-requires
begin_next-requires g c =
    let before = c.begins.invariant in
    let less = c.begins-test.true in
    let count = c.count_alone-count.ensures.count in
    let few = c.count_alone-count.ensures.few in
    let same = before.count in
    record {
      losses = c.requires.losses;
      sound = before.sound;
      few = omega (arith, less, count, same);
      small = omega (arith, few, count, same);
    }

pub returns-then-self-clause-ok : goal.returns-then-self-clause-ok
returns-then-self-clause-ok g c = λ due first start trace owes now told.
    on_by _ _ trace _ (λ after rests. between_going g.C.Conversation.stands g.C.Conversation.awaited g.C.Conversation.number g.C.Owes.due g.met.C.Owes.gave g.C.Owes.grows g.A.Answerer.answers g.A.Answerer.drops g.A.Answerer.names
    g.A.Answerer.fails due rests c.if-self.true)
    (c.begins.invariant.begins due first start trace owes now told).0

pub returns-then-self-clause-files : goal.returns-then-self-clause-files
returns-then-self-clause-files g c = leaves_whole g.A.Answerer.answers g.A.Answerer.drops g.A.Answerer.fails (saves_to_of c.args.self.now.saving) _ _ c.begins.invariant.given

pub returns-clause-ok : goal.returns-clause-ok
returns-clause-ok g c = λ due first start trace owes now told.
    let at = c.begins.invariant.begins due first start trace owes now told in
    let most = c.begins-test.false in
    let count = c.count_alone-count.ensures.count in
    let same = at.1 in
    on_by _ _ trace _ (λ after rests. between_all g.C.Conversation.stands g.C.Conversation.awaited g.C.Conversation.number g.C.Owes.due g.met.C.Owes.gave g.C.Owes.grows g.A.Answerer.answers g.A.Answerer.drops g.A.Answerer.names
    g.A.Answerer.fails due rests (omega (arith, most, count, same))) at.0

pub returns-clause-files : goal.returns-clause-files
returns-clause-files g c = leaves_whole g.A.Answerer.answers g.A.Answerer.drops g.A.Answerer.fails (saves_to_of c.args.self.now.saving) _ _ c.begins.invariant.given

pub returns-in_err-begin_next-clause-err : goal.returns-in_err-begin_next-clause-err
returns-in_err-begin_next-clause-err g c = λ due first start trace owes now told.
    let before = c.begins.invariant in
    let at = before.begins due first start trace owes now told in
    let Broke : Option Saving → ℕ → Type 0 = λ s n. (after : Trace) → RestsNow g.C.Conversation.stands g.C.Conversation.awaited g.C.Conversation.number g.C.Owes.due g.A.Answerer.answers g.A.Answerer.drops g.A.Answerer.names g.A.Answerer.state due first (saves_to_of s) (files_meaning g.F.Files.contents g.F.Files.calls g.F.Files.misses g.F.Files.faults g.F.Files.losses c.begins.files) c.begins.self.router c.begins.self.operators c.begins.self.printing c.begins.self.replaying n start (g.S.Sink.written c.begins.out) false c.args.moment after → g.N.Net.trace c.begins.net ≡ Some after →
    ToldOn (BrokeOff g.A.Answerer.answers g.A.Answerer.drops g.A.Answerer.names g.A.Answerer.fails due first (saves_to_of s) (files_meaning g.F.Files.contents g.F.Files.calls g.F.Files.misses g.F.Files.faults g.F.Files.losses c.begin_next.new.files) n start (g.S.Sink.written c.begin_next.new.out)) after (g.N.Net.trace c.begin_next.new.net) in
    on_err c.from_residual.result _
    (on_behind _ _ trace _ _ at.0
    (by_saving Broke before.saving before.count
    (λ after rests is. c.in_err-begin_next.ensures.err due first start after (λ n p m. before.due n p m ∙ owes n p m) rests is (sym at.1) c.if-self.false)))

pub returns-in_err-begin_next-clause-files : goal.returns-in_err-begin_next-clause-files
returns-in_err-begin_next-clause-files g c =
    let before = c.begins.invariant in
    leaves_both g.A.Answerer.answers g.A.Answerer.drops g.A.Answerer.fails (saves_to_of c.args.self.now.saving) _ _ _ before.given
    (leaves_saving g.A.Answerer.answers g.A.Answerer.drops g.A.Answerer.fails _ _ before.saving c.in_err-begin_next.ensures.files)

pub begins-preserved : goal.begins-preserved
begins-preserved g c =
    let before = c.begins.invariant in
    let next = c.in_ok-begin_next.ensures in
    record {
      begins = λ due first start trace owes now told.
          let at = before.begins due first start trace owes now told in
          let Begins : Option Saving → ℕ → Type 0 = λ s n. (after : Trace) → RestsNow g.C.Conversation.stands g.C.Conversation.awaited g.C.Conversation.number g.C.Owes.due g.A.Answerer.answers g.A.Answerer.drops g.A.Answerer.names g.A.Answerer.state due first (saves_to_of s) (files_meaning g.F.Files.contents g.F.Files.calls g.F.Files.misses g.F.Files.faults g.F.Files.losses c.begins.files) c.begins.self.router c.begins.self.operators c.begins.self.printing c.begins.self.replaying n start (g.S.Sink.written c.begins.out) false c.args.moment after → g.N.Net.trace c.begins.net ≡ Some after →
          ToldOn (RestsNow g.C.Conversation.stands g.C.Conversation.awaited g.C.Conversation.number g.C.Owes.due g.A.Answerer.answers g.A.Answerer.drops g.A.Answerer.names g.A.Answerer.state due first (saves_to_of s) (files_meaning g.F.Files.contents g.F.Files.calls g.F.Files.misses g.F.Files.faults g.F.Files.losses c.begin_next.new.files) c.begin_next.new.self.router c.begin_next.new.self.operators c.begin_next.new.self.printing c.begin_next.new.self.replaying n start (g.S.Sink.written c.begin_next.new.out) false c.args.moment) after (g.N.Net.trace c.begin_next.new.net) × (c.begin_next.new.self.replaying.begun ≡ c.begins.index + 1) in
          on_next _ _ _ trace _ _ at.0
          (by_saving Begins before.saving before.count
          (λ after rests is. next.ok due first start after (λ n p m. before.due n p m ∙ owes n p m) rests is (sym at.1) c.if-self.false));
      sound = next.sound;
      due = λ n at moves. next.due n at moves ∙ before.due n at moves;
      count = next.count ∙ before.count;
      saving = next.saving ∙ before.saving;
      failed = λ first lost low low_lost was now.
          next.failed first lost (le_trans low before.later_out) (le_trans low_lost before.later_losses) (before.failed first lost low low_lost was) now;
      later_out = le_trans before.later_out next.later_out;
      later_losses = le_trans before.later_losses next.later_losses;
      given = goes_both g.A.Answerer.answers g.A.Answerer.drops (saves_to_of c.args.self.now.saving) _ _ _ before.given (goes_saving g.A.Answerer.answers g.A.Answerer.drops _ _ before.saving next.given);
      listening = next.listening ∙ before.listening;
      faults = next.faults ∙ before.faults;
    }
