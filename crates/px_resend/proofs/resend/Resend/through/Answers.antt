use Rattle.std.proofs.Common.{refl}
use Rattle.px_resend.proofs.ResendLemmas.{stands_made}
use Rattle.px_resend.proofs.resend.Resend.through.Goals as goal

pub returns-clause-stands : goal.returns-clause-stands
returns-clause-stands c = stands_made _ refl
