use Rattle.std.proofs.Common.{inl, inr, arith}
use Rattle.px_tnet.proofs.DigitLemmas.{first_digit, no_first, one_more, no_more}
use Rattle.px_tnet.proofs.length.judge.Goals as goal

pub returns-in-Some-digit : goal.returns-in-Some-digit
returns-in-Some-digit c =
    first_digit c.args.front c.args.byte c.in-Some-digit.digit c.in_default.is c.in-Some-digit.ensures.0 c.in-Some-digit.ensures.1

pub returns-in-None : goal.returns-in-None
returns-in-None c = no_first c.args.front c.args.byte c.in_default.is c.in-None.ensures

pub returns-then-count-eq0 : goal.returns-then-count-eq0
returns-then-count-eq0 c =
    no_more c.args.front c.in-Some.count c.args.byte c.in-Some.is c.if-byte-eq58.false
    (elim c.then-count-eq0.either [ inl none ↦ inl none | inr large ↦ inr (inl large.1) ])

pub returns-in-Some-digit-2 : goal.returns-in-Some-digit-2
returns-in-Some-digit-2 c =
    one_more c.args.front c.in-Some.count c.args.byte c.in-Some-digit-2.digit c.in-Some.is
    (let some = c.if-count-eq0.false in omega arith) (let small = c.if-count-ge100000000.false in omega arith)
    c.in-Some-digit-2.ensures.0 c.in-Some-digit-2.ensures.1

pub returns-in-None-digit : goal.returns-in-None-digit
returns-in-None-digit c =
    no_more c.args.front c.in-Some.count c.args.byte c.in-Some.is c.if-byte-eq58.false (inr (inr c.in-None-digit.ensures))
