use Rattle.px_stream.proofs.ResponseLemmas.{SendsOn, left_of}
use Rattle.px_stream.proofs.reading.read_answer.Given as goal

abbrev pub invariant-answers : goal.invariant-answers
invariant-answers l = SendsOn l.sends l.fn.link l.fn.out.items l.link l.out.items

abbrev pub decreases-answers : goal.decreases-answers
decreases-answers l = left_of l.link
