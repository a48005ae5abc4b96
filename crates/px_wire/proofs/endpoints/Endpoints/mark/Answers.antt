use Rattle.std.proofs.Common.{◌∙◌, inr, refl, sym}
use Rattle.px_wire.proofs.HoldsLemmas.{marked_here, marked_still}
use Rattle.px_wire.proofs.InLemmas.{in_from}
use Rattle.px_wire.proofs.MarkLemmas.{marked_only}
use Rattle.px_wire.proofs.TidyLemmas.{once_marked}
use Rattle.px_wire.proofs.endpoints.Endpoints.mark.Goals as goal

pub returns-in-Ok-clause-marked : goal.returns-in-Ok-clause-marked
returns-in-Ok-clause-marked c = inr (marked_here c.args.conv c.args.self.now.marked.items c.push.new.self.items (c.push.ensures.items ∙ rw c.in-Ok.is refl))

pub returns-in-Ok-clause-kept : goal.returns-in-Ok-clause-kept
returns-in-Ok-clause-kept c = λ other is.
    marked_still c.args.conv other c.args.self.now.is_lost c.args.self.now.marked.items c.push.new.self.items (c.push.ensures.items ∙ rw c.in-Ok.is refl) is

pub returns-then-is_marked-clause-marked : goal.returns-then-is_marked-clause-marked
returns-then-is_marked-clause-marked c = inr (in_from c.args.conv c.args.self.now.marked.items (sym c.is_marked.ensures.is ∙ c.if-is_marked.true))

pub returns-in-Ok-clause-once : goal.returns-in-Ok-clause-once
returns-in-Ok-clause-once c =
    once_marked c.args.conv c.args.self.now.marked.items c.push.new.self.items (c.push.ensures.items ∙ rw c.in-Ok.is refl) (sym c.is_marked.ensures.is ∙ c.if-is_marked.false)

pub returns-in-Ok-clause-only : goal.returns-in-Ok-clause-only
returns-in-Ok-clause-only c = λ other is. marked_only c.args.conv c.args.self.now.marked.items c.push.new.self.items (c.push.ensures.items ∙ rw c.in-Ok.is refl) other is
