use Rattle.std.proofs.Common.{◌∙◌, ◌++◌, ◌∷◌, ℕ, ap, sym, subst, None, Some}
use Rattle.px_event.specs.declared.heard.Heard.TheVariants as heard
use Rattle.px_wire.specs.Stands.{StandsFor, idle}
use Rattle.px_wire.proofs.FindLemmas.{whole}
use Rattle.px_wire.proofs.ready.hear_server.Goals as goal

pub returns-then-ok-clause-stands : goal.returns-then-ok-clause-stands
returns-then-ok-clause-stands g c = λ front back endpoint at conv side stands.
    let old = c.args.table.now in
    let P : ℕ → Type 0 = λ n. StandsFor idle (Some (heard.Dialled n c.args.server c.args.ok)) (front ++ endpoint ∷ back) old.accepted old.moment (g.W.Wire.calls c.args.wire.now) in
    whole None old c.args.slot front endpoint back _ at (c.in_ok-told.ensures.plain (front ++ endpoint ∷ back) old.accepted c.if-ok.true (subst P conv stands))

pub returns-clause-stands : goal.returns-clause-stands
returns-clause-stands g c = λ front back endpoint at conv side stands.
    let old = c.args.table.now in
    let P : ℕ → Type 0 = λ n. StandsFor idle (Some (heard.Dialled n c.args.server c.args.ok)) (front ++ endpoint ∷ back) old.accepted old.moment (g.W.Wire.calls c.args.wire.now) in
    c.shut_at.ensures.stands None front back endpoint at
    (c.in_ok-told.ensures.dialled front back endpoint old.accepted c.args.server
    (ap (λ n. heard.Dialled n c.args.server c.args.ok) (sym conv) ∙ ap (heard.Dialled endpoint.conv c.args.server) c.if-ok.false) side (subst P conv stands))

pub returns-clause-kept : goal.returns-clause-kept
returns-clause-kept g c = λ past times since. c.shut_at.ensures.kept past times (c.in_ok-told.ensures.kept past times since)
