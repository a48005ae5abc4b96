use Rattle.std.proofs.Common.{refl}
use Rattle.px_frame.specs.Frames.{fault}
use Rattle.px_frame.proofs.FramesLemmas.{faults_stay}
use Rattle.px_frame.proofs.laws.faults_stay.Goals as goal

pub returns : goal.returns
returns c = (λ masked at bytes frames cause more h. faults_stay masked at bytes frames (fault cause) cause more h refl)
