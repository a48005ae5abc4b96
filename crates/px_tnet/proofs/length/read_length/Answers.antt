use Rattle.std.proofs.Common.{inr, refl, take}
use Rattle.px_tnet.proofs.DigitLemmas.{bad_length}
use Rattle.px_tnet.proofs.length.read_length.Goals as goal

pub returns-in-Bad-clause-err : goal.returns-in-Bad-clause-err
returns-in-Bad-clause-err c =
    let l = c.loop-digits in
    inr (
      refl,
      bad_length c.args.text.now l.digits l.front c.loop-digits-test.true l.invariant.1
          (c.in-Bad.ensures (take l.digits c.args.text.now) l.invariant.1),
    )
