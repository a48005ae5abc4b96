use Rattle.std.proofs.Common.{refl}
use Rattle.std.specs.Fmt.{digits}
use Rattle.px_parts.proofs.rows.bodies_are_sent.Goals as goal

pub returns : goal.returns
unfolding digits
returns c = refl
