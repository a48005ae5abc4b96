use Rattle.px_refresh.proofs.LawLemmas.{begins, is_begun}
use Rattle.px_refresh.proofs.laws.a_cookie_is_for_what_begins_with_its_path.Goals as goal

pub returns : goal.returns
returns c path own = (begins path own, is_begun path own)
