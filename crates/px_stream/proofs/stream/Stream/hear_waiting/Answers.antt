use Rattle.px_stream.proofs.WaitLemmas.{hears_on, hears_past, waits_agree, waits_open}
use Rattle.px_stream.proofs.stream.Stream.hear_waiting.Goals as goal

pub returns-then-self-clause-hears : goal.returns-then-self-clause-hears
returns-then-self-clause-hears c = hears_past c.args.self.now c.args.event.now c.if-self.true

pub hear-requires-clause-open_still : goal.hear-requires-clause-open_still
hear-requires-clause-open_still c = waits_open c.args.self.now c.requires.waits c.requires.somewhere

pub hear-requires-clause-agrees : goal.hear-requires-clause-agrees
hear-requires-clause-agrees c = waits_agree c.args.self.now c.requires.waits c.requires.somewhere

pub returns-clause-hears : goal.returns-clause-hears
returns-clause-hears c = hears_on c.args.self.now c.args.event.now c.hear.new.self c.requires.waits c.hear.ensures.phase c.in_ok-hear.ensures.hears c.if-self.false
