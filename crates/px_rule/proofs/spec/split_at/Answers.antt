use Rattle.std.proofs.Common.{◌≡◌, arith}
use Rattle.px_rule.proofs.spec.split_at.Goals as goal

pub returns-then-most-eq1 : goal.returns-then-most-eq1
returns-then-most-eq1 c = rw (c.if-most-eq1.true, c.in-Some.ensures.0 0, c.in-Some.ensures.1)

pub returns-else-most-eq1 : goal.returns-else-most-eq1
returns-else-most-eq1 c =
    let two : c.args.most ≡ 2 = omega (arith, c.requires.some, c.requires.few, c.if-most-eq1.false) in
    rw (two, c.in-Some.ensures.0 1, c.split_rest.ensures)
