use Rattle.std.proofs.Common.{◌∙◌, ◌≡◌, ◌≤◌, take, drop, length, arith, sym}
use Rattle.px_read.specs.Reader.{up_to_close}
use Rattle.px_read.specs.Stages.{state_at}
use Rattle.px_read.specs.declared.message_reader.stage.MessageStage.TheVariants as stage
use Rattle.px_read.specs.declared.part.Part.TheVariants as part
use Rattle.px_read.proofs.BodyLemmas.{closing-gives, closing-ends, closing-waits}
use Rattle.px_read.proofs.ReaderLemmas.{turn-made}
use Rattle.px_read.proofs.message_reader.body.take_to_close.Goals as goal

pub returns-then-count-gt0-clause-turn : goal.returns-then-count-gt0-clause-turn
returns-then-count-gt0-clause-turn c =
    let n = c.len-count.result in
    let there : n ≤ length c.args.rest = omega arith in
    turn-made c.take_piece.result
    (record { part = part.Piece (take n c.args.rest); stage = stage.ToClose c.args.sender; rest = drop n c.args.rest })
    (state_at (up_to_close c.args.sender) c.args.rest c.args.closed) c.args.closed
    (closing-gives c.args.sender n c.args.rest c.args.closed there c.if-count-gt0.true (omega arith)) c.take_piece.ensures

pub returns-then-is_shut-clause-turn : goal.returns-then-is_shut-clause-turn
returns-then-is_shut-clause-turn c =
    let none : length c.args.rest ≡ 0 = omega arith in
    turn-made c.end.result (record { part = part.End c.new.result; stage = stage.Ended c.new.result; rest = c.args.rest })
    (state_at (up_to_close c.args.sender) c.args.rest c.args.closed) c.args.closed
    (closing-ends c.args.sender c.new.result c.args.rest c.args.closed c.new.ensures none (sym c.is_shut.ensures ∙ c.if-is_shut.true))
    c.end.ensures

pub returns-clause-turn : goal.returns-clause-turn
returns-clause-turn c =
    let none : length c.args.rest ≡ 0 = omega arith in
    closing-waits c.args.sender c.args.rest c.args.closed none (sym c.is_shut.ensures ∙ c.if-is_shut.false)
