use Rattle.std.proofs.Common.{refl}
use Rattle.std.specs.Fmt.{digits}
use Rattle.px_write.specs.Text.{version_text}
use Rattle.px_examples.proofs.written.absolute_requests_are_written.Goals as goal

pub returns : goal.returns
unfolding version_text digits
returns c = refl
