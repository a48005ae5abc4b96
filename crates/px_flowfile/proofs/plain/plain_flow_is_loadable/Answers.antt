use Rattle.std.proofs.Common.{subst}
use Rattle.px_flowfile.specs.Plain.{IsValidRequest}
use Rattle.px_flowfile.proofs.PlainLemmas.{plain_is_loadable}
use Rattle.px_flowfile.proofs.plain.plain_flow_is_loadable.Goals as goal

pub returns : goal.returns
returns c plain =
    let request = subst IsValidRequest c.get.ensures c.is_valid_request.ensures in
    plain_is_loadable c.args.flow.now c.is_id.ensures c.is_end.ensures c.is_end-2.ensures request c.is_valid_answer.ensures plain
