use Rattle.std.proofs.Common.{refl}
use Rattle.std.specs.Fmt.{digits}
use Rattle.px_write.specs.Error.{error_text, fault_message, fault_status}
use Rattle.px_examples.proofs.written.faults_are_answered_to_head.Goals as goal

pub returns : goal.returns
unfolding digits error_text fault_message fault_status
returns c = refl
