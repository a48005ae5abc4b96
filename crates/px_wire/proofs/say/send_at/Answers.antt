use Rattle.std.proofs.Common.{◌≡◌, ◌∙◌, ◌++◌, ap, sym, refl, None, true, false}
use Rattle.px_wire.specs.Holds.{passes}
use Rattle.px_wire.specs.Endpoints.{is_over}
use Rattle.px_wire.proofs.AskedLemmas.{told_kept, same_kept, call_kept}
use Rattle.px_wire.proofs.FindLemmas.{endpoint_of, at_again, whole, rests_alike}
use Rattle.px_wire.proofs.StepLemmas.{on_ok, on_err, on_any_err, rests_same}
use Rattle.px_wire.proofs.TableLemmas.{sends, sends_over}
use Rattle.px_wire.proofs.say.send_at.Goals as goal

pub returns-then-is_over_at-clause-stands : goal.returns-then-is_over_at-clause-stands
returns-then-is_over_at-clause-stands g c = λ front back endpoint at is stands.
    let old = c.args.table.now in
    let over : endpoint.is_over ≡ true = ap (passes is_over) (sym (endpoint_of old.endpoints c.args.slot front endpoint back at)) ∙ (sym c.is_over_at.ensures.is ∙ c.if-is_over_at.true) in
    on_ok c.note.result _ _ c.note.ensures.told (λ tells.
    whole None old c.args.slot front endpoint back _ at (sends_over old.accepted old.moment _ _ None front back endpoint c.args.bytes.now c.args.step.now is over tells stands))

pub returns-then-is_over_at-clause-err : goal.returns-then-is_over_at-clause-err
returns-then-is_over_at-clause-err g c = λ rests. on_err c.note.result _ _ c.note.ensures.calls_err (λ same. rests_same None c.args.table.now _ _ same rests)

pub returns-clause-stands : goal.returns-clause-stands
returns-clause-stands g c = λ front back endpoint at is stands.
    let old = c.args.table.now in
    let there = endpoint_of old.endpoints c.args.slot front endpoint back at in
    let live : endpoint.is_over ≡ false = ap (passes is_over) (sym there) ∙ (sym c.is_over_at.ensures.is ∙ c.if-is_over_at.false) in
    let new = record endpoint { queue = endpoint.queue ++ c.args.bytes.now } in
    let ch = c.in_ok-queue_in.ensures.changes endpoint there in
    c.flush_at.ensures.stands None front back new (at_again old.endpoints c.queue_in.new.endpoints c.args.slot front endpoint new back at ch refl refl refl)
    (sends old.accepted old.moment _ _ None front back endpoint c.args.bytes.now c.args.step.now is live c.in_ok-queue_in.ensures.told stands)

pub returns-in_err-queue_in-clause-err : goal.returns-in_err-queue_in-clause-err
returns-in_err-queue_in-clause-err g c = λ rests.
    let old = c.args.table.now in
    on_any_err c.from_residual.result _ (rests_alike None old (record old { endpoints = c.queue_in.new.endpoints }) _ c.in_err-queue_in.ensures.err refl refl
    (rests_same None old _ _ c.in_err-queue_in.ensures.calls_err rests))

pub returns-then-is_over_at-clause-kept : goal.returns-then-is_over_at-clause-kept
returns-then-is_over_at-clause-kept g c = call_kept c.note.result _ _ _ c.note.ensures.told c.note.ensures.calls_err

pub returns-clause-kept : goal.returns-clause-kept
returns-clause-kept g c = λ past times since. c.flush_at.ensures.kept past times (told_kept _ _ _ c.in_ok-queue_in.ensures.told past times since)

pub returns-in_err-queue_in-clause-kept : goal.returns-in_err-queue_in-clause-kept
returns-in_err-queue_in-clause-kept g c = same_kept _ _ c.in_err-queue_in.ensures.calls_err
