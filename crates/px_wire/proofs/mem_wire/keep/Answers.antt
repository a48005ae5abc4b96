use Rattle.std.proofs.Common.{sym, ◌∙◌}
use Rattle.px_wire.specs.MemWire.{later_of}
use Rattle.px_wire.proofs.MemWireLemmas.{steps_kept}
use Rattle.px_wire.proofs.mem_wire.keep.Goals as goal

pub returns-else-is_err-clause-steps : goal.returns-else-is_err-clause-steps
returns-else-is_err-clause-steps c = λ made is none.
    steps_kept c.push_call.result (later_of c.args.later.now) made c.args.list.now.items c.push_call.new.list.items
    (sym c.is_err.ensures.value ∙ c.if-is_err.false) (c.push_call.ensures.kept made is) none
