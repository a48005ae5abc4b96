use Rattle.px_app.specs.Loaded.{breaks_off_in}
use Rattle.px_app.proofs.loading.load_bytes.Goals as goal

pub returns-in-Err-clause-err : goal.returns-in-Err-clause-err
returns-in-Err-clause-err c = λ others. breaks_off_in _ _ others
