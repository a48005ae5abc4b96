use Rattle.std.proofs.Common.{◌∙◌, ap, sym, Some, ◌++◌, ◌∷◌, [], append_assoc}
use Rattle.std.specs.List.{flat_map}
use Rattle.px_core.specs.Run.{done_of}
use Rattle.px_core.proofs.RunLemmas.{front_next, done_next, rest_is, tellable_at, told_taken, on_err}
use Rattle.px_core.proofs.work.tell_all.Goals as goal

pub tell-requires : goal.tell-requires
tell-requires g c =
    let before = c.loop-step.invariant in
    record { tellable = tellable_at before.prefix c.in-Some.step c.next.new.self.rest.items c.args.steps.items (rest_is before.prefix _ _ c.args.steps.items c.in-Some.ensures.steps.0 before.split) c.requires.tellable }

pub returns-in_err-tell-clause-part : goal.returns-in_err-tell-clause-part
returns-in_err-tell-clause-part g c = λ trace told.
    let before = c.loop-step.invariant in
    on_err c.from_residual.result (told_taken _ c.args.steps.items before.prefix c.in-Some.step c.next.new.self.rest.items trace (g.T.Taker.taken c.args.taker.now) _
    (rest_is before.prefix _ _ c.args.steps.items c.in-Some.ensures.steps.0 before.split)
    (c.in_err-tell.ensures.part _ (before.told trace told)) (c.in_err-tell.ensures.taken_not ∙ before.taken))

pub loop-step-preserved : goal.loop-step-preserved
loop-step-preserved g c =
    let before = c.loop-step.invariant in
    let x = c.in-Some.step in
    record {
      prefix = before.prefix ++ x ∷ [];
      split = front_next before.prefix x c.next.new.self.rest.items c.args.steps.items (rest_is before.prefix _ _ c.args.steps.items c.in-Some.ensures.steps.0 before.split);
      told = λ trace told. c.in_ok-tell.ensures.told _ (before.told trace told) ∙ ap Some (append_assoc trace before.prefix (x ∷ []));
      taken = c.in_ok-tell.ensures.taken ∙ (ap (λ l. l ++ done_of x) before.taken
          ∙ (append_assoc (g.T.Taker.taken c.args.taker.now) (flat_map done_of before.prefix) (done_of x)
          ∙ ap (λ l. g.T.Taker.taken c.args.taker.now ++ l) (sym (done_next before.prefix x))));
      listening = c.in_ok-tell.ensures.listening ∙ before.listening;
      faults = c.in_ok-tell.ensures.faults ∙ before.faults;
    }
