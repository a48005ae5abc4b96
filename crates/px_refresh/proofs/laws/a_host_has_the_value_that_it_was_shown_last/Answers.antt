use Rattle.px_refresh.proofs.KeptLemmas.{latest_kept}
use Rattle.px_refresh.proofs.KeyLemmas.{text_decides}
use Rattle.px_refresh.specs.Text.{is_same_text}
use Rattle.px_refresh.proofs.laws.a_host_has_the_value_that_it_was_shown_last.Goals as goal

pub returns : goal.returns
returns c shown host = latest_kept is_same_text text_decides host shown
