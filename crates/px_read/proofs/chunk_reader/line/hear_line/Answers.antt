use Rattle.std.proofs.Common.{◌∙◌, sym, arith}
use Rattle.px_read.proofs.LineTurnLemmas.{line_taken, line_full, line_goes}
use Rattle.px_read.proofs.chunk_reader.line.hear_line.Goals as goal

pub returns-in-Some : goal.returns-in-Some
returns-in-Some c =
    let room = c.requires.room in
    line_taken c.args.line.now.items c.args.bytes.now c.min-count.result c.in-Some.end c.extend_from_slice.new.self.items c.end_line.new.line.items c.end_line.result
    (omega arith) (omega arith) (sym c.find_line_feed.ensures.at ∙ c.in-Some.is) c.in_ok-extend_from_slice.ensures.items c.end_line.ensures.turn c.end_line.ensures.line

pub returns-then-len-count-eq-LIMIT : goal.returns-then-len-count-eq-LIMIT
returns-then-len-count-eq-LIMIT c =
    let count = c.min-count.ensures in
    let full = c.if-len-count-eq-LIMIT.true in
    line_full c.args.line.now.items c.args.bytes.now c.min-count.result c.requires.room (omega arith) (omega arith)
    (sym c.find_line_feed.ensures.at ∙ c.in_default.is)

pub returns : goal.returns
returns c =
    let some = c.requires.some in
    let count = c.min-count.ensures in
    let full = c.if-len-count-eq-LIMIT.false in
    let room = c.requires.room in
    line_goes c.args.line.now.items c.args.bytes.now c.min-count.result c.extend_from_slice-2.new.self.items (omega arith) (omega arith) (omega arith)
    (sym c.find_line_feed.ensures.at ∙ c.in_default.is) c.in_ok-extend_from_slice-2.ensures.items
