use Rattle.std.proofs.Common.{false, IsTrue}
use Rattle.px_tnet.proofs.ApartLemmas.{known_key, new_key}
use Rattle.px_tnet.proofs.dict.are_apart.Goals as goal

pub returns-then-not-branch : goal.returns-then-not-branch
returns-then-not-branch c =
    let l = c.loop-key in (
      (λ h. absurd (let e : IsTrue false = h in cc)),
      (λ apart. absurd (known_key l.seen c.args.pairs.now l.key-index c.loop-key-item.result c.as_slice.result c.in_ok-insert.field-0 l.invariant.1
          c.loop-key-test.true c.loop-key-item.is c.as_slice.ensures c.if-not-branch.true c.in_ok-insert.ensures.added apart)),
    )

pub loop-key-preserved : goal.loop-key-preserved
loop-key-preserved c =
    let l = c.loop-key in
    new_key l.seen c.insert.new.self c.args.pairs.now l.key-index c.loop-key-item.result c.as_slice.result c.in_ok-insert.field-0 l.invariant.0 l.invariant.1
    c.loop-key-test.true c.loop-key-item.is c.as_slice.ensures c.if-not-branch.false c.in_ok-insert.ensures.added c.in_ok-insert.ensures.updates
