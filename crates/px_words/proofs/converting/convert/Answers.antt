use Rattle.px_words.proofs.KeepLemmas.{file_keeps}
use Rattle.px_words.proofs.converting.convert.Goals as goal

pub returns : goal.returns
returns g c =
    let copied = c.copy_file.ensures.copies in
    record { converts = copied; keeps = file_keeps _ _ _ _ _ _ _ _ _ _ copied.0 copied.1 }
