use Rattle.px_stream.specs.declared.phase.Wanted.TheVariants as ready
use Rattle.px_stream.proofs.PassUpLemmas.{raised_by}
use Rattle.px_stream.proofs.passing.request.pass_request.Goals as goal

pub returns-in-ResponseHead : goal.returns-in-ResponseHead
returns-in-ResponseHead c = record {
  goes = rw c.in-ResponseHead.is (raised_by c.raise_head.result (λ told goes. ready.ResponseHead told c.in-ResponseHead.server goes) c.args.at.now c.args.now.moment c.in-ResponseHead.flow c.in-ResponseHead.server c.in-ResponseHead.up
      c.args.requests.now c.raise_head.new.requests c.args.side.now c.args.out.now.items c.raise_head.new.out.items c.raise_head.ensures);
}

pub returns-in-ResponseBody : goal.returns-in-ResponseBody
returns-in-ResponseBody c = record {
  goes = rw c.in-ResponseBody.is (raised_by c.raise_body.result (λ told goes. ready.ResponseBody told c.in-ResponseBody.server goes c.in-ResponseBody.most c.in-ResponseBody.body c.in-ResponseBody.held) c.args.at.now c.args.now.moment
      c.in-ResponseBody.flow c.in-ResponseBody.server c.in-ResponseBody.up c.args.requests.now c.raise_body.new.requests c.args.side.now c.args.out.now.items c.raise_body.new.out.items c.raise_body.ensures);
}

pub returns-in-ComingDown : goal.returns-in-ComingDown
returns-in-ComingDown c = record {
  goes = rw c.in-ComingDown.is (raised_by c.raise_down.result (λ told goes. ready.ComingDown told c.in-ComingDown.server goes c.in-ComingDown.sent) c.args.at.now c.args.now.moment c.in-ComingDown.flow c.in-ComingDown.server
      c.in-ComingDown.up c.args.requests.now c.raise_down.new.requests c.args.side.now c.args.out.now.items c.raise_down.new.out.items c.raise_down.ensures);
}
