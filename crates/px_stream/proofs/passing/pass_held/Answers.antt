use Rattle.std.proofs.Common.{sym, ◌∙◌}
use Rattle.px_stream.proofs.PassingLemmas.{held_on, held_started}
use Rattle.px_stream.proofs.passing.pass_held.Goals as goal

pub returns-then-is_streamed : goal.returns-then-is_streamed
returns-then-is_streamed c =
    held_started c.args.place.now c.args.at.now c.start_down.new.at c.args.now.moment c.args.now.parked c.args.now.client_closed c.args.coming c.read_more.new.coming c.in_ok-progress.progress c.args.side.now c.read_more.new.side c.start_down.new.side
    c.args.out.now.items c.start_down.new.out.items c.in_ok-progress.ensures.same c.in_ok-progress.ensures.read c.start_down.result (sym c.is_streamed.ensures ∙ c.if-is_streamed.true) c.start_down.ensures

pub returns : goal.returns
returns c =
    held_on c.args.place.now c.args.at.now c.args.now.moment c.args.now.parked c.args.now.client_closed c.args.coming c.read_more.new.coming c.in_ok-progress.progress c.args.side.now c.read_more.new.side
    c.args.out.now.items c.in_ok-progress.ensures.same c.in_ok-progress.ensures.read (sym c.is_streamed.ensures ∙ c.if-is_streamed.false)
