use Rattle.px_words.proofs.ConvertLemmas.{copies_nothing}
use Rattle.px_words.proofs.converting.copy_bytes.Goals as goal

pub returns-in-Err : goal.returns-in-Err
returns-in-Err g c = record { copies = copies_nothing _ _ _ _ _ _ _ _ }
