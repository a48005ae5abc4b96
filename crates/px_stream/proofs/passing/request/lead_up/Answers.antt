use Rattle.std.proofs.Common.{refl}
use Rattle.px_stream.proofs.PassUpLemmas.{led_to_side}
use Rattle.px_stream.proofs.passing.request.lead_up.Goals as goal

pub returns-in-Some : goal.returns-in-Some
returns-in-Some c =
    rw c.in-Some.is
    (led_to_side c.take_side.result c.args.place.now c.args.at.now c.unpark.new.at c.args.now.moment c.args.flow c.in-Some.server c.args.sent c.args.progress c.args.text.items c.args.side.now c.take_side.new.side
    c.args.out.now.items c.take_side.new.out.items c.unpark.ensures c.take_side.ensures)

pub returns-in-None : goal.returns-in-None
returns-in-None c = rw c.in-None.is (record { going = _; sent_as = refl; says = refl; is_there = refl; same = refl; same_side = refl; gives = refl })
