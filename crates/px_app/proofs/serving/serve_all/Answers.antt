use Rattle.std.proofs.Common.{◌≡◌, ◌<◌, ◌∙◌, ℕ, sym, subst, arith, le_trans}
use Rattle.px_app.specs.Saved.{saves_to_of}
use Rattle.px_app.proofs.GoesLemmas.{goes_both, leaves_both, leaves_whole}
use Rattle.px_app.proofs.StepLemmas.{err_saving, first_turn, goes_saving, leaves_saving, next_saving, next_turn, tells_memory, tells_spent}
use Rattle.px_app.proofs.serving.serve_all.Goals as goal

pub returns-in-Err-clause-run : goal.returns-in-Err-clause-run
returns-in-Err-clause-run g c = λ due first start owes now told.
    tells_memory g.C.Conversation.stands g.C.Conversation.awaited g.C.Conversation.number g.C.Owes.due g.met.C.Owes.gave g.C.Owes.grows g.A.Answerer.answers g.A.Answerer.drops g.A.Answerer.names g.A.Answerer.fails due first
    (saves_to_of c.args.serving.now.saving) c.begin_replays.new.self.printing c.args.budget _ start _ _ _ (omega arith) (c.in-Err.ensures.err due first start _ owes now told)

pub turns-init : goal.turns-init
turns-init g c =
    let begun = c.in_default.ensures in
    record {
      turn = λ due first start owes now told.
          first_turn g.C.Conversation.stands g.C.Conversation.awaited g.C.Conversation.number g.C.Owes.due g.met.C.Owes.gave g.C.Owes.grows g.A.Answerer.answers g.A.Answerer.drops g.A.Answerer.names g.A.Answerer.fails due first
          (saves_to_of c.args.serving.now.saving) c.begin_replays.new.self.router c.begin_replays.new.self.operators c.begin_replays.new.self.printing c.begin_replays.new.self.replaying _ start _ _ (begun.ok due first start _ owes now told);
      sound = begun.sound;
      due = begun.due;
      count = begun.count;
      saving = begun.saving;
      failed = begun.failed;
      later_out = begun.later_out;
      later_losses = begun.later_losses;
      given = begun.given;
      listening = begun.listening;
      later = let same = begun.faults in omega (arith, same);
    }

pub returns-in-Err-hear-clause-files : goal.returns-in-Err-hear-clause-files
returns-in-Err-hear-clause-files g c =
    let before = c.turns.invariant in
    leaves_both g.A.Answerer.answers g.A.Answerer.drops g.A.Answerer.fails (saves_to_of c.args.serving.now.saving) _ _ _ before.given
    (leaves_saving g.A.Answerer.answers g.A.Answerer.drops g.A.Answerer.fails _ _ before.saving c.in-Err-hear.ensures.files)

pub returns-clause-files : goal.returns-clause-files
returns-clause-files g c = leaves_whole g.A.Answerer.answers g.A.Answerer.drops g.A.Answerer.fails (saves_to_of c.args.serving.now.saving) _ _ c.turns.invariant.given

pub turns-preserved : goal.turns-preserved
turns-preserved g c =
    let before = c.turns.invariant in
    record {
      turn = λ due first start owes now told.
          next_turn g.C.Conversation.stands g.C.Conversation.awaited g.C.Conversation.number g.C.Owes.due g.met.C.Owes.gave g.C.Owes.grows g.A.Answerer.answers g.A.Answerer.drops g.A.Answerer.names g.A.Answerer.fails due first
          (saves_to_of c.args.serving.now.saving) c.turns.serving.router c.hear.new.self.router c.turns.serving.operators c.hear.new.self.operators c.turns.serving.printing c.hear.new.self.printing c.turns.serving.replaying c.hear.new.self.replaying _ start _ _ c.turns.turn _ _ (before.turn due first start owes now told)
          (λ trace here is. next_saving g.C.Conversation.stands g.C.Conversation.awaited g.C.Conversation.number g.C.Owes.due g.A.Answerer.answers g.A.Answerer.drops g.A.Answerer.names g.A.Answerer.state due first before.saving before.count _ _ _ _ _ _ _ _ _ _ start _ _ trace _ (λ h. c.in_default-hear.ensures.ok due first start trace (λ n p m. before.due n p m ∙ owes n p m) h is) here);
      sound = c.in_default-hear.ensures.sound;
      due = λ n p m. c.in_default-hear.ensures.due n p m ∙ before.due n p m;
      count = c.in_default-hear.ensures.count ∙ before.count;
      saving = c.in_default-hear.ensures.saving ∙ before.saving;
      failed = λ first lost low low_lost was now.
          c.in_default-hear.ensures.failed first lost (le_trans low before.later_out) (le_trans low_lost before.later_losses) (before.failed first lost low low_lost was) now;
      later_out = le_trans before.later_out c.in_default-hear.ensures.later_out;
      later_losses = le_trans before.later_losses c.in_default-hear.ensures.later_losses;
      given = goes_both g.A.Answerer.answers g.A.Answerer.drops (saves_to_of c.args.serving.now.saving) _ _ _ before.given (goes_saving g.A.Answerer.answers g.A.Answerer.drops _ _ before.saving c.in_default-hear.ensures.given);
      listening = c.in_default-hear.ensures.listening ∙ before.listening;
      later = omega (arith, c.in_default-hear.ensures.later, before.later);
    }

pub returns-clause-run : goal.returns-clause-run
returns-clause-run g c = λ due first start owes now told.
    let same : c.turns.turn ≡ c.args.budget = omega arith in
    tells_spent g.C.Conversation.stands g.C.Conversation.awaited g.C.Conversation.number g.C.Owes.due g.met.C.Owes.gave g.C.Owes.grows g.A.Answerer.answers g.A.Answerer.drops g.A.Answerer.names g.A.Answerer.fails due first
    (saves_to_of c.args.serving.now.saving) c.turns.serving.router c.turns.serving.operators c.turns.serving.printing c.turns.serving.replaying _ start _ c.args.budget c.turns.turn _ (c.turns.invariant.turn due first start owes now told) same

pub returns-in-Err-hear-clause-run : goal.returns-in-Err-hear-clause-run
returns-in-Err-hear-clause-run g c = λ due first start owes now told.
    let before = c.turns.invariant in
    let turn = before.turn due first start owes now told in
    let P : ℕ → Type 0 = λ n. n < c.args.budget in
    err_saving g.C.Conversation.stands g.C.Conversation.awaited g.C.Conversation.number g.C.Owes.due g.A.Answerer.answers g.A.Answerer.drops g.A.Answerer.names g.A.Answerer.fails g.A.Answerer.state due first before.saving before.count _ _ c.args.budget _ _ _ _ _ _ start _ _ turn.trace _
    (λ h. c.in-Err-hear.ensures.err due first start turn.trace c.args.budget (λ n p m. before.due n p m ∙ owes n p m) h turn.tells (subst P (sym turn.counts) c.turns-test.true)) turn.stands
