use Rattle.px_stream.proofs.LookingLemmas.{coming_found}
use Rattle.px_stream.proofs.looking.coming.look_for_end.Goals as goal

pub returns : goal.returns
returns c = record {
  looks = coming_found c.look_at_end.result c.args.flow c.args.server c.args.up c.args.sent c.in_ok-bad.bad c.args.requests.now c.read_up.new.requests c.args.side.now c.read_end.new.side c.args.now.moment c.args.now.parked
      c.args.now.client_closed c.args.out.now.items c.look_at_end.new.out.items c.in_ok-stop.stop c.in_ok-bad.ensures c.in_ok-stop.ensures c.look_at_end.ensures.gives c.look_at_end.ensures.phase;
}
