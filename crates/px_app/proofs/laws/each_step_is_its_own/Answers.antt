use Rattle.px_app.proofs.OwnLemmas.{own_part}
use Rattle.px_app.proofs.laws.each_step_is_its_own.Goals as goal

pub returns : goal.returns
returns g c = λ mode key resent files last intercept changes operations status over told trace h. own_part _ _ _ _ _ told trace _ h.worked
