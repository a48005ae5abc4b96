use Rattle.px_stream.proofs.LookingLemmas.{body_found}
use Rattle.px_stream.proofs.looking.request.look_for_body.Goals as goal

pub returns : goal.returns
returns c =
    record {
      looks = body_found c.look_at_body.result c.args.flow c.args.given c.args.most c.args.body c.read_body.new.body c.args.held c.args.requests.now c.read_body.new.reader c.args.now.moment c.args.now.parked c.args.now.client_closed
          c.args.out.now.items c.look_at_body.new.out.items _ c.in_ok-progress.ensures c.look_at_body.ensures.gives c.look_at_body.ensures.phase;
    }
