use Rattle.std.proofs.Common.{◌∙◌, sym}
use Rattle.px_wire.proofs.TidyLemmas.{taken_out, none_out}
use Rattle.px_wire.proofs.endpoints.take_out.Goals as goal

pub returns-in-Some-clause-taken : goal.returns-in-Some-clause-taken
returns-in-Some-clause-taken c =
    taken_out c.args.slot c.args.list.now.items c.deref.result.now c.remove.new.self.items c.in-Some.place c.deref.ensures.value c.in-Some.ensures.place c.remove.ensures.items

pub returns-in_default-clause-taken : goal.returns-in_default-clause-taken
returns-in_default-clause-taken c = none_out c.args.slot c.args.list.now.items c.deref.result.now c.deref.ensures.value (sym c.in_default.is ∙ c.place_in.ensures.place)
