use Rattle.std.proofs.Common.{arith}
use Rattle.px_filter.proofs.TokenLemmas.{all_taken, taken_more}
use Rattle.px_filter.proofs.lexing.tokens_of.Goals as goal

pub loop-rest-preserved : goal.loop-rest-preserved
loop-rest-preserved c =
    let l = c.loop-rest in
    let i = l.invariant in
    let e = c.in_ok-used.ensures in
    taken_more c.args.text.now l.rest.now _ l.tokens.items _ c.in_ok-used.used i.1.0 i.0 (omega arith) i.1.1 e.some e.within
    c.behind_bytes-rest.ensures e.taken i.1.2

pub returns : goal.returns
returns c =
    let i = c.loop-rest.invariant in
    all_taken c.args.text.now c.loop-rest.rest.now c.loop-rest.tokens.items i.1.0 _ (omega arith) i.1.2
