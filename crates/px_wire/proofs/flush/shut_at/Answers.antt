use Rattle.std.proofs.Common.{◌++◌, ◌∷◌, ℕ, List, ap, sym, subst, ◌∙◌}
use Rattle.px_wire.specs.declared.endpoint.Endpoint.{Endpoint}
use Rattle.px_wire.specs.declared.call.WireCall.TheVariants as calls
use Rattle.px_wire.specs.Calls.{Tells}
use Rattle.px_wire.specs.Holds.{Holds, without}
use Rattle.px_wire.proofs.AskedLemmas.{told_kept}
use Rattle.px_wire.proofs.CallLemmas.{shut_one}
use Rattle.px_wire.proofs.HoldsLemmas.{without_around}
use Rattle.px_wire.proofs.flush.shut_at.Goals as goal

pub returns-clause-stands : goal.returns-clause-stands
returns-clause-stands g c = λ owed front back endpoint at ends.
    let P : List Endpoint → Type 0 = λ ls. Holds c.remove.new.self ls in
    let T : ℕ → Type 0 = λ s. Tells (calls.Shut s) (g.W.Wire.calls c.args.wire.now) (g.W.Wire.calls c.shut.new.self) in
    record {
      endpoints = front ++ back;
      held = subst P (ap (λ (n : ℕ). without n (front ++ endpoint ∷ back)) (sym at.slot_is) ∙ without_around c.args.table.now.endpoints front back endpoint at.held)
          (c.remove.ensures.holds (front ++ endpoint ∷ back) at.held);
      stands = shut_one owed front back endpoint c.args.table.now.accepted c.args.table.now.moment _ _ (subst T (sym at.slot_is) c.shut.ensures.told) ends;
    }

pub returns-clause-kept : goal.returns-clause-kept
returns-clause-kept g c = told_kept _ _ _ c.shut.ensures.told
