use Rattle.std.proofs.Common.{◌*◌}
use Rattle.px_gen.proofs.ScriptLemmas.{piece_is}
use Rattle.px_gen.proofs.answers.piece_at.Goals as goal

pub returns : goal.returns
returns c = piece_is 1000 (1000 * c.args.place) c.min.result c.args.text.now c.min.ensures
