use Rattle.px_stream.proofs.LookingLemmas.{return_found}
use Rattle.px_stream.proofs.looking.answer.look_for_returned.Goals as goal

pub returns : goal.returns
returns c = record {
  looks = return_found c.look_at_whole.result c.args.flow c.args.server c.args.up c.args.most c.args.body c.read_more.new.body c.args.held c.in_ok-bad.bad c.args.requests.now c.read_up.new.requests c.args.side.now c.read_more.new.side
      c.args.now.moment c.args.now.parked c.args.now.client_closed c.args.out.now.items c.look_at_whole.new.out.items _ c.in_ok-bad.ensures c.in_ok-progress.ensures c.look_at_whole.ensures.gives c.look_at_whole.ensures.phase;
}
