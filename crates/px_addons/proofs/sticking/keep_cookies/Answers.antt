use Rattle.std.proofs.lemmas.Result.{on_ok_weaker}
use Rattle.px_addons.proofs.StickyLemmas.{keeps_set}
use Rattle.px_addons.proofs.sticking.keep_cookies.Goals as goal

pub returns-in-Some : goal.returns-in-Some
returns-in-Some c = on_ok_weaker c.keep.result
    (λ kept. keeps_set c.args.draft.now c.args.cookies.now c.in-Some.cookies c.keep.new.self c.in-Some.is c.keep.ensures.filter kept)
    c.keep.ensures.kept
