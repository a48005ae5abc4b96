use Rattle.px_read.proofs.HeedLemmas.{heeds_turn}
use Rattle.px_read.proofs.message_reader.stage.take_turn.Goals as goal

pub returns-clause-turn : goal.returns-clause-turn
returns-clause-turn c =
    (heeds_turn c.args.stage c.args.rest c.args.closed c.heeds-shut.result c.take_part.result c.requires.stage c.heeds-shut.ensures
    c.take_part.ensures.turn c.take_part.ensures.client).turn

pub returns-clause-unclosed : goal.returns-clause-unclosed
returns-clause-unclosed c =
    (heeds_turn c.args.stage c.args.rest c.args.closed c.heeds-shut.result c.take_part.result c.requires.stage c.heeds-shut.ensures
    c.take_part.ensures.turn c.take_part.ensures.client).unclosed

pub returns-clause-client : goal.returns-clause-client
returns-clause-client c =
    (heeds_turn c.args.stage c.args.rest c.args.closed c.heeds-shut.result c.take_part.result c.requires.stage c.heeds-shut.ensures
    c.take_part.ensures.turn c.take_part.ensures.client).client
