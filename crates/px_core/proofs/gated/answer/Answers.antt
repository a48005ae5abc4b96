use Rattle.std.proofs.Common.{refl, sym, ap, subst, ◌∙◌, Err}
use Rattle.px_event.specs.Layer.{Replied, IsSound}
use Rattle.px_gate.specs.Gate.{GateStands}
use Rattle.px_gate.specs.declared.gate.Gate.{Gate}
use Rattle.px_gate.proofs.GateCalls.{calls_gave}
use Rattle.px_core.proofs.NamedLemmas.{number_after, names_after, names_nothing}
use Rattle.px_core.proofs.gated.answer.Goals as goal

pub returns-in-Ok-clause-names : goal.returns-in-Ok-clause-names
returns-in-Ok-clause-names g c =
    names_after g.L.Layer.stands g.L.Layer.awaited g.L.Numbered.number g.met.L.Numbered.keeps_number g.L.Chained.chain g.L.Chained.start g.met.L.Numbered.names
    (λ made gate calls given stands view. calls_gave (g.L.Chained.chain made.layer) (g.L.Chained.settles made.layer) (g.L.Chained.start made.layer) (g.L.Chained.is_at made.layer)
    g.L.Layer.awaited (g.met.L.Chained.asks made.layer) g.L.Layer.stands made.layer (g.met.L.Chained.stands_at made.layer) made gate calls given refl stands view)
    c.args.gate.now c.answer.new.self (Replied c.args.moment c.args.reply) c.args.out.now.items c.answer.new.out.items c.requires.sound c.in-Ok.ensures.goes

pub returns-in-Ok-clause-number : goal.returns-in-Ok-clause-number
returns-in-Ok-clause-number g c =
    number_after g.L.Layer.stands g.L.Layer.awaited g.L.Numbered.number g.met.L.Numbered.keeps_number
    c.args.gate.now c.answer.new.self (Replied c.args.moment c.args.reply) c.args.out.now.items c.answer.new.out.items c.requires.sound c.in-Ok.ensures.goes

pub returns-in-Err-NotAwaited-clause-sound : goal.returns-in-Err-NotAwaited-clause-sound
returns-in-Err-NotAwaited-clause-sound g c =
    let P : Gate g.row.L.Denot → Type 0 = IsSound (GateStands g.L.Layer.stands g.L.Layer.awaited) in
    subst P (sym (c.answer.ensures.unchanged (c.in-Err-NotAwaited.is ∙ ap Err c.in-Err-NotAwaited.field-0-is)).0) c.requires.sound

pub returns-in-Err-NotAwaited-clause-names : goal.returns-in-Err-NotAwaited-clause-names
returns-in-Err-NotAwaited-clause-names g c =
    names_nothing _ _ _ (ap (λ o. o.items) (c.answer.ensures.unchanged (c.in-Err-NotAwaited.is ∙ ap Err c.in-Err-NotAwaited.field-0-is)).1)
