use Rattle.std.proofs.Common.{refl}
use Rattle.std.specs.Fmt.{digits}
use Rattle.px_examples.proofs.written.streamed_bodies_are_written.Goals as goal

pub returns : goal.returns
unfolding digits
returns c = refl
