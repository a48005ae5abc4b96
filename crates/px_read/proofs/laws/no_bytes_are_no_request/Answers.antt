use Rattle.std.proofs.Common.{refl}
use Rattle.px_read.proofs.laws.no_bytes_are_no_request.Goals as goal

pub returns : goal.returns
returns c = refl
