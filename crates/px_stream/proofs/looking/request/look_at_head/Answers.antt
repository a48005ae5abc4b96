use Rattle.std.proofs.Common.{rules, ◌≡◌, ◌++◌, subst}
use Rattle.std.specs.Prelude.{IfOk, OnOk}
use Rattle.px_event.specs.Chain.{found}
use Rattle.px_exchange.specs.declared.asked.Judged.{Judged}
use Rattle.px_exchange.specs.Finds.{look_judged}
use Rattle.px_exchange.specs.Requests.{expects, is_head, judged}
use Rattle.px_stream.specs.Looks.{BehindJudged, judged_phase}
use Rattle.px_stream.proofs.looking.request.look_at_head.Goals as goal

pub returns-clause-gives : goal.returns-clause-gives
returns-clause-gives c =
    let made : c.in_ok-judged.judged ≡ judged c.args.terms.now.place c.args.head = c.in_ok-judged.ensures in
    let asked : c.is_head-asked_head.result ≡ is_head c.args.head.method = search rules in
    let P : Judged → Type 0 = λ m. OnOk c.begin_flow.result (c.begin_flow.new.out.items
    ≡ c.args.out.now.items ++ found (look_judged c.args.terms.now c.args.index c.args.head m c.args.now.moment c.args.now.parked c.args.now.client_closed)) in
    subst P made (c.begin_flow.ensures.gives c.args.head asked)

pub returns-clause-phase : goal.returns-clause-phase
returns-clause-phase c =
    let made : c.in_ok-judged.judged ≡ judged c.args.terms.now.place c.args.head = c.in_ok-judged.ensures in
    let expected : c.expects-expected.result ≡ expects c.args.head = search rules in
    let P : Judged → Type 0 = λ m. IfOk c.begin_flow.result (λ next. next ≡ judged_phase c.args.terms.now c.args.index c.args.head m c.args.now.moment) in
    subst P made (c.begin_flow.ensures.phase c.args.head expected)

pub returns-clause-reads : goal.returns-clause-reads
returns-clause-reads c =
    let made : c.in_ok-judged.judged ≡ judged c.args.terms.now.place c.args.head = c.in_ok-judged.ensures in
    let P : Judged → Type 0 = λ m. OnOk c.begin_flow.result (BehindJudged m c.args.requests.now c.begin_flow.new.requests) in
    subst P made c.begin_flow.ensures.reads
