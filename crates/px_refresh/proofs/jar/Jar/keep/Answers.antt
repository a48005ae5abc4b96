use Rattle.std.proofs.Common.{◌∙◌, sym}
use Rattle.std.proofs.lemmas.Result.{on_ok_weaker}
use Rattle.px_refresh.proofs.KeyLemmas.{cookie_decides}
use Rattle.px_refresh.proofs.PlaceLemmas.{kept_again, kept_new}
use Rattle.px_refresh.specs.Site.{is_same_cookie}
use Rattle.px_refresh.proofs.jar.Jar.keep.Goals as goal

pub returns-in-Some-clause-kept : goal.returns-in-Some-clause-kept
returns-in-Some-clause-kept c =
    c.put.ensures
    ∙ sym (kept_again is_same_cookie cookie_decides c.args.key c.args.value c.args.self.now c.in-Some.place c.is_kept.ensures c.in-Some.ensures)

pub returns-in-None-clause-kept : goal.returns-in-None-clause-kept
returns-in-None-clause-kept c =
    on_ok_weaker c.add.result
    (λ is. is ∙ sym (kept_new is_same_cookie cookie_decides c.args.key c.args.value c.args.self.now c.is_kept.ensures c.in-None.ensures)) c.add.ensures.added
