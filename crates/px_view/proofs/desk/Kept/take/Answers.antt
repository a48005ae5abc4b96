use Rattle.std.proofs.Common.{rules}
use Rattle.px_view.proofs.DeskLemmas.{going_start, going_on, end_lines, end_place, cut_lines, cut_before}
use Rattle.px_view.specs.Desk.{stand}
use Rattle.px_view.proofs.desk.Kept.take.Goals as goal

pub loop-byte-init : goal.loop-byte-init
loop-byte-init c = going_start c.args.bytes.now (stand c.args.self.now) c.args.out.now.items

pub loop-byte-preserved : goal.loop-byte-preserved
loop-byte-preserved c =
    going_on c.args.bytes.now c.loop-byte.byte-index 0 (stand c.args.self.now) (stand c.loop-byte.self) (stand c.take_byte.new.self)
    c.args.out.now.items c.loop-byte.out.items c.take_byte.new.out.items c.loop-byte-test.true c.loop-byte.invariant
    c.in_ok-take_byte.ensures.lines c.in_ok-take_byte.ensures.stands

pub returns-in_err-take_byte-clause-some : goal.returns-in_err-take_byte-clause-some
returns-in_err-take_byte-clause-some c =
    let given = cut_lines c.args.bytes.now c.loop-byte.byte-index (stand c.args.self.now) (stand c.loop-byte.self)
    c.args.out.now.items c.loop-byte.out.items c.loop-byte.invariant c.take_byte.new.out.items c.in_err-take_byte.ensures.err in
    search rules

pub returns-in_err-take_byte-clause-before : goal.returns-in_err-take_byte-clause-before
returns-in_err-take_byte-clause-before c =
    let given = cut_before c.args.bytes.now c.loop-byte.byte-index (stand c.args.self.now) (stand c.loop-byte.self)
    c.args.out.now.items c.loop-byte.out.items c.loop-byte.invariant c.take_byte.new.out.items c.in_err-take_byte.ensures.err in
    search rules

pub returns-clause-lines : goal.returns-clause-lines
returns-clause-lines c =
    end_lines c.args.bytes.now c.loop-byte.byte-index (stand c.args.self.now) (stand c.loop-byte.self)
    c.args.out.now.items c.loop-byte.out.items c.loop-byte.invariant c.loop-byte-test.false

pub returns-clause-stands : goal.returns-clause-stands
returns-clause-stands c =
    end_place c.args.bytes.now c.loop-byte.byte-index (stand c.args.self.now) (stand c.loop-byte.self)
    c.args.out.now.items c.loop-byte.out.items c.loop-byte.invariant c.loop-byte-test.false
