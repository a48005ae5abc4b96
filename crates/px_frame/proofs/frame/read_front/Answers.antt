use Rattle.std.proofs.Common.{length}
use Rattle.std.proofs.lemmas.Result.{IfOk-weaker}
use Rattle.px_frame.specs.declared.head.HeadStep.TheVariants.{More, Head, Fault}
use Rattle.px_frame.specs.declared.frame.Front as answers
use Rattle.px_frame.specs.Fronts.{IsBehind, IsFront}
use Rattle.px_frame.proofs.FrontLemmas.{fitting, front_from, front_told}
use Rattle.px_frame.proofs.frame.read_front.Goals as goal

pub read_payload-requires : goal.read_payload-requires
read_payload-requires c =
    (fitting c.args.at.begun (length c.args.bytes.now) c.read_head.result c.in-Head.head c.read_head.ensures.fits c.in-Head.is).within

pub returns-in-More : goal.returns-in-More
returns-in-More c =
    front_told c.args.masked c.args.at c.args.bytes.now c.is_last.result c.read_head.result More c.is_last.ensures c.read_head.ensures.step
    c.in-More.is

pub returns-in-Fault : goal.returns-in-Fault
returns-in-Fault c =
    front_told c.args.masked c.args.at c.args.bytes.now c.is_last.result c.read_head.result
    (Fault c.in-Fault.fault) c.is_last.ensures c.read_head.ensures.step c.in-Fault.is

pub returns-in-Head : goal.returns-in-Head
returns-in-Head c =
    let head = c.in-Head.head in
    let told = front_told c.args.masked c.args.at c.args.bytes.now c.is_last.result c.read_head.result
    (Head head) c.is_last.ensures c.read_head.ensures.step c.in-Head.is in
    let fit = fitting c.args.at.begun (length c.args.bytes.now) c.read_head.result head c.read_head.ensures.fits c.in-Head.is in
    IfOk-weaker c.read_payload.result (λ (given : answers.Front). IsBehind head c.args.bytes.now given)
    (λ (given : answers.Front). IsFront c.args.masked c.args.at c.args.bytes.now given)
    (λ given h. front_from c.args.masked c.args.at c.args.bytes.now head given told fit h) c.read_payload.ensures
