use Rattle.std.proofs.Common.{sym, ◌∙◌}
use Rattle.px_event.specs.declared.event.Event.TheVariants.{Piece}
use Rattle.px_stack.specs.Reached.{says_answer}
use Rattle.px_stack.proofs.SaidLemmas.{hears_others, hears_piece, said_as}
use Rattle.px_stack.proofs.reaching.hear_piece.Goals as goal

pub returns-then-not-is_of : goal.returns-then-not-is_of
returns-then-not-is_of c = record { hears = hears_others c.args.server c.args.asked.now c.args.side c.args.bytes.now (sym c.is_of.ensures ∙ c.if-not-is_of.true) }

pub returns : goal.returns
returns c = record {
  hears =
      said_as c.args.server c.args.asked.now c.hear.new.self (Piece c.args.side c.args.bytes.now) c.says_answer.result (says_answer c.in_ok-hear.field-0) c.says_answer.ensures
      (hears_piece c.args.server c.args.asked.now c.hear.new.self c.args.side c.args.bytes.now c.in_ok-hear.field-0 (sym c.is_of.ensures ∙ c.if-not-is_of.false)
      c.in_ok-hear.ensures.answer c.in_ok-hear.ensures.awaited c.in_ok-hear.ensures.granted);
}
