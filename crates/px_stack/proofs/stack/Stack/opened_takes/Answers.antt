use Rattle.std.proofs.Common.{[], sym, refl, ◌∙◌, arith}
use Rattle.std.proofs.lemmas.List.{append-nil}
use Rattle.px_event.specs.declared.side.Side.TheVariants.{Client, Server}
use Rattle.px_stack.proofs.OpenedLemmas.{none_of_others, nothing_taken, over_taken}
use Rattle.px_stack.proofs.stack.Stack.opened_takes.Goals as goal
use Rattle.px_stack.specs.Stack.{visitor_of}

pub returns-in-Some-clause-takes : goal.returns-in-Some-clause-takes
returns-in-Some-clause-takes c =
    over_taken c.args.self.now.conv (visitor_of c.args.self.now) c.args.opening c.args.server c.args.moment c.args.event.now c.args.out.now.items
    c.close_sides.new.out.items c.in-Some.sides (sym c.closed_by.ensures ∙ c.in-Some.is) c.in_ok-close_sides.ensures

pub returns-in_default-event : goal.returns-in_default-event
returns-in_default-event c = record {
  takes =
      nothing_taken c.args.self.now.conv (visitor_of c.args.self.now) c.args.opening c.args.server c.args.moment c.args.event.now c.args.out.now.items
      (sym c.closed_by.ensures ∙ c.in_default.is) (none_of_others Client c.args.event.now c.in_default-event.not-Piece)
      (none_of_others (Server c.args.server) c.args.event.now c.in_default-event.not-Piece);
  asks = ([], sym (append-nil c.args.out.now.items), refl);
  left = omega arith;
}
