use Rattle.px_gen.specs.Script.{letter_at}
use Rattle.px_gen.proofs.ScriptLemmas.{bytes_further}
use Rattle.px_gen.proofs.answers.push_body.Goals as goal

pub loop-place-preserved : goal.loop-place-preserved
loop-place-preserved c =
    bytes_further (letter_at c.args.flow) c.loop-place.place c.letter.result c.args.text.now.items _ _
    c.loop-place.invariant c.in_ok-push.ensures.items c.letter.ensures
