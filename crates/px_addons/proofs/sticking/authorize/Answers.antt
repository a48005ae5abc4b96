use Rattle.px_core.proofs.ResultLemmas.{on_ok_both}
use Rattle.px_addons.proofs.StickyLemmas.{keeps_shown}
use Rattle.px_addons.proofs.sticking.authorize.Goals as goal

pub returns-in-Some : goal.returns-in-Some
returns-in-Some c = on_ok_both c.apply.result
    (λ kept put. keeps_shown c.args.draft.now c.apply.new.flow c.args.auth.now c.in-Some.auth c.apply.new.self c.in-Some.is c.apply.ensures.filter kept put)
    c.apply.ensures.kept c.apply.ensures.put
