use Rattle.std.proofs.Common.{Bool, ◌∙◌, ◌≡◌, ◌<◌, ◌≤◌, ◌-◌, min, take, drop, length, arith, ap, subst, sym}
use Rattle.px_read.specs.Reader.{in_counted, IsTurn}
use Rattle.px_read.specs.Stages.{state_at, seen_as}
use Rattle.px_read.specs.Waits.{waited}
use Rattle.px_read.specs.declared.message_reader.stage.MessageStage.TheVariants as stage
use Rattle.px_read.specs.declared.message_reader.stage.MessageTurn.{MessageTurn}
use Rattle.px_read.specs.declared.part.Part.TheVariants as part
use Rattle.px_read.proofs.BodyLemmas.{counted-gives, counted-ends, counted-waits}
use Rattle.px_read.proofs.ReaderLemmas.{turn-made}
use Rattle.px_read.proofs.TurnLemmas.{piece_whole}
use Rattle.px_read.proofs.message_reader.body.take_counted.Goals as goal

pub returns-then-left-eq0-clause-turn : goal.returns-then-left-eq0-clause-turn
returns-then-left-eq0-clause-turn c =
    turn-made c.end.result (record { part = part.End c.new.result; stage = stage.Ended c.new.result; rest = c.args.rest })
    (state_at (in_counted c.args.sender c.args.left) c.args.rest c.args.closed) c.args.closed
    (counted-ends c.args.sender c.args.left c.new.result c.args.rest c.args.closed c.if-left-eq0.true c.new.ensures) c.end.ensures

pub returns-then-count-eq0-clause-turn : goal.returns-then-count-eq0-clause-turn
returns-then-count-eq0-clause-turn c =
    let some : 0 < c.args.left = omega arith in
    let none : length c.args.rest ≡ 0 =
    sym c.len.ensures ∙ c.piece_length-count.ensures.all c.if-count-eq0.true some in
    let kept = stage.Counted c.args.sender c.args.left in
    subst
    (λ (t : MessageTurn). IsTurn (state_at (in_counted c.args.sender c.args.left) c.args.rest c.args.closed) t.part (seen_as t.stage t.rest c.args.closed))
    (sym (c.wait.ensures ∙ ap (λ (cut : Bool). waited cut kept c.args.rest) c.is_shut.ensures))
    (counted-waits c.args.sender c.args.left c.args.rest c.args.closed some none)

pub returns-clause-turn : goal.returns-clause-turn
returns-clause-turn c =
    let n = c.piece_length-count.result in
    let there : n ≤ length c.args.rest = omega arith in
    let some : 0 < n = omega arith in
    let all = piece_whole c.args.left (length c.args.rest) n (c.piece_length-count.ensures.least ∙ ap (min c.args.left) c.len.ensures) in
    turn-made c.take_piece.result
    (record { part = part.Piece (take n c.args.rest); stage = stage.Counted c.args.sender (c.args.left - n); rest = drop n c.args.rest })
    (state_at (in_counted c.args.sender c.args.left) c.args.rest c.args.closed) c.args.closed
    (counted-gives c.args.sender c.args.left n c.args.rest c.args.closed c.piece_length-count.ensures.left there some all) c.take_piece.ensures
