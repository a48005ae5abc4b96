use Rattle.std.proofs.Common.{sym, ◌∙◌}
use Rattle.std.proofs.lemmas.Result.{on_ok_weaker}
use Rattle.px_addons.specs.Chain.{by_addon, past_addon}
use Rattle.px_addons.proofs.chain.ask_addon.Goals as goal

pub returns-then-not-is_going : goal.returns-then-not-is_going
returns-then-not-is_going g c = past_addon _ _ (sym c.is_going.ensures ∙ c.if-not-is_going.true)

pub returns : goal.returns
returns g c = on_ok_weaker c.ask.result
    (λ moved. by_addon _ _ c.args.addon.now c.ask.new.addon (sym c.is_going.ensures ∙ c.if-not-is_going.false)
    (record { titled = c.ask.ensures.title; moving = c.ask.ensures.same }) moved)
    c.ask.ensures.moves
