use Rattle.std.proofs.Common.{◌≡◌, ◌++◌, ◌∷◌, ◌∙◌, ℕ, sym, subst, ap, true, false}
use Rattle.px_wire.specs.declared.call.WireCall.TheVariants as calls
use Rattle.px_wire.specs.Calls.{Tells}
use Rattle.px_wire.specs.Holds.{passes}
use Rattle.px_wire.specs.Endpoints.{is_done}
use Rattle.px_wire.specs.Stands.{Name}
use Rattle.px_wire.proofs.CallLemmas.{ends, goes_on, same_slot}
use Rattle.px_wire.proofs.FindLemmas.{endpoint_of, at_again}
use Rattle.px_wire.proofs.PutsLemmas.{flushed_shut}
use Rattle.px_wire.proofs.flush.flush_at.Goals as goal

pub returns-then-is_done_at-clause-stands : goal.returns-then-is_done_at-clause-stands
returns-then-is_done_at-clause-stands g c = λ owed front back endpoint at stands.
    let f = c.flush_in-flushed.ensures.flushes endpoint (endpoint_of c.args.table.now.endpoints c.args.slot front endpoint back at) in
    let again = at_again c.args.table.now.endpoints c.flush_in-flushed.new.endpoints c.args.slot front endpoint f.changed back at f.changes
    (same_slot f.changed endpoint f.name) (ap (λ (n : Name). n.conv) f.name) f.turn in
    let done : is_done f.changed ≡ true = ap (passes is_done) (sym f.changes.here) ∙ (sym c.is_done_at.ensures.is ∙ c.if-is_done_at.true) in
    c.shut_at.ensures.stands owed front back f.changed again
    (ends owed front back f.changed c.args.table.now.accepted c.args.table.now.moment endpoint.slot _ done (same_slot f.changed endpoint f.name)
    (f.stands owed front back c.args.table.now.accepted c.args.table.now.moment stands))

pub returns-else-is_done_at-clause-stands : goal.returns-else-is_done_at-clause-stands
returns-else-is_done_at-clause-stands g c = λ owed front back endpoint at stands.
    let f = c.flush_in-flushed.ensures.flushes endpoint (endpoint_of c.args.table.now.endpoints c.args.slot front endpoint back at) in
    let again = at_again c.args.table.now.endpoints c.flush_in-flushed.new.endpoints c.args.slot front endpoint f.changed back at f.changes
    (same_slot f.changed endpoint f.name) (ap (λ (n : Name). n.conv) f.name) f.turn in
    let goes : is_done f.changed ≡ false = ap (passes is_done) (sym f.changes.here) ∙ (sym c.is_done_at.ensures.is ∙ c.if-is_done_at.false) in
    record {
      endpoints = front ++ f.changed ∷ back;
      held = again.held;
      stands = goes_on owed front back f.changed c.args.table.now.accepted c.args.table.now.moment endpoint.slot _ goes (same_slot f.changed endpoint f.name)
          (f.stands owed front back c.args.table.now.accepted c.args.table.now.moment stands);
    }

pub returns-then-is_done_at-clause-does : goal.returns-then-is_done_at-clause-does
returns-then-is_done_at-clause-does g c = λ front back endpoint at.
    let f = c.flush_in-flushed.ensures.flushes endpoint (endpoint_of c.args.table.now.endpoints c.args.slot front endpoint back at) in
    let done : is_done f.changed ≡ true = ap (passes is_done) (sym f.changes.here) ∙ (sym c.is_done_at.ensures.is ∙ c.if-is_done_at.true) in
    let T : ℕ → Type 0 = λ s. Tells (calls.Shut s) (g.W.Wire.calls c.flush_in-flushed.new.wire) (g.W.Wire.calls c.shut_at.new.wire) in
    flushed_shut c.flush_in-flushed.result endpoint.slot endpoint.queue f.changed _ _ _ f.does f.left f.over done (subst T (sym at.slot_is) c.shut_at.ensures.told)

pub returns-else-is_done_at-clause-does : goal.returns-else-is_done_at-clause-does
returns-else-is_done_at-clause-does g c = λ front back endpoint at.
    (c.flush_in-flushed.ensures.flushes endpoint (endpoint_of c.args.table.now.endpoints c.args.slot front endpoint back at)).does

pub returns-then-is_done_at-clause-kept : goal.returns-then-is_done_at-clause-kept
returns-then-is_done_at-clause-kept g c = λ past times since. c.shut_at.ensures.kept past times (c.flush_in-flushed.ensures.kept past times since)
