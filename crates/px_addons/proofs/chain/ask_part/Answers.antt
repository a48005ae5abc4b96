use Rattle.std.proofs.Common.{ap, sym, ◌∙◌}
use Rattle.std.proofs.lemmas.Result.{on_ok_weaker}
use Rattle.px_addons.specs.Chain.{movers_of, past_part}
use Rattle.px_addons.specs.declared.parts.Part.TheVariants as part
use Rattle.px_addons.proofs.TurnLemmas.{by_addons, by_auth, by_cookies, by_keeping, by_local, by_replay, by_rules, the_draft}
use Rattle.px_addons.proofs.chain.ask_part.Goals as goal

pub returns-then-not-is_going-clause-moved : goal.returns-then-not-is_going-clause-moved
returns-then-not-is_going-clause-moved g c = past_part _ _ _ (sym c.is_going.ensures ∙ c.if-not-is_going.true)

pub returns-in-Block-clause-moved : goal.returns-in-Block-clause-moved
returns-in-Block-clause-moved g c = on_ok_weaker c.ask_block.result
    (λ made. by_rules _ _ _ c.args.rules.now c.args.hook c.args.part part.Block c.args.draft.now _ (movers_of c.args.replay.now c.args.cookies.now c.args.auth.now c.args.addons.now) _ tt c.in-Block.is (sym c.is_going.ensures ∙ c.if-not-is_going.false)
    (made))
    c.ask_block.ensures

pub returns-in-MapLocal-clause-moved : goal.returns-in-MapLocal-clause-moved
returns-in-MapLocal-clause-moved g c = on_ok_weaker c.ask_map_local.result
    (λ maps. by_local _ _ _ c.args.rules.now c.args.hook c.args.part c.args.draft.now _ (movers_of c.args.replay.now c.args.cookies.now c.args.auth.now c.args.addons.now) _ _ c.in-MapLocal.is (sym c.is_going.ensures ∙ c.if-not-is_going.false) maps)
    c.ask_map_local.ensures.maps

pub returns-in-MapRemote-clause-moved : goal.returns-in-MapRemote-clause-moved
returns-in-MapRemote-clause-moved g c = on_ok_weaker c.ask_map_remote.result
    (λ made. by_rules _ _ _ c.args.rules.now c.args.hook c.args.part part.MapRemote c.args.draft.now _ (movers_of c.args.replay.now c.args.cookies.now c.args.auth.now c.args.addons.now) _ tt c.in-MapRemote.is (sym c.is_going.ensures ∙ c.if-not-is_going.false)
    (made))
    c.ask_map_remote.ensures

pub returns-in-ModifyHeaders-clause-moved : goal.returns-in-ModifyHeaders-clause-moved
returns-in-ModifyHeaders-clause-moved g c = on_ok_weaker c.modify_headers.result
    (λ made. by_rules _ _ _ c.args.rules.now c.args.hook c.args.part part.ModifyHeaders c.args.draft.now _ (movers_of c.args.replay.now c.args.cookies.now c.args.auth.now c.args.addons.now) _ tt c.in-ModifyHeaders.is (sym c.is_going.ensures ∙ c.if-not-is_going.false)
    (ap (λ flow. the_draft flow c.args.draft.now) made))
    c.modify_headers.ensures

pub returns-in-Anticache-clause-moved : goal.returns-in-Anticache-clause-moved
returns-in-Anticache-clause-moved g c = on_ok_weaker c.put_uncached.result
    (λ made. by_rules _ _ _ c.args.rules.now c.args.hook c.args.part part.Anticache c.args.draft.now _ (movers_of c.args.replay.now c.args.cookies.now c.args.auth.now c.args.addons.now) _ tt c.in-Anticache.is (sym c.is_going.ensures ∙ c.if-not-is_going.false)
    (ap (λ flow. the_draft flow c.args.draft.now) made))
    c.put_uncached.ensures

pub returns-in-Anticomp-clause-moved : goal.returns-in-Anticomp-clause-moved
returns-in-Anticomp-clause-moved g c = on_ok_weaker c.put_uncoded.result
    (λ made. by_rules _ _ _ c.args.rules.now c.args.hook c.args.part part.Anticomp c.args.draft.now _ (movers_of c.args.replay.now c.args.cookies.now c.args.auth.now c.args.addons.now) _ tt c.in-Anticomp.is (sym c.is_going.ensures ∙ c.if-not-is_going.false)
    (ap (λ flow. the_draft flow c.args.draft.now) made))
    c.put_uncoded.ensures

pub returns-in-StickyCookies-clause-moved : goal.returns-in-StickyCookies-clause-moved
returns-in-StickyCookies-clause-moved g c = on_ok_weaker c.send_cookies.result
    (λ sent. by_cookies _ _ _ c.args.rules.now c.args.hook c.args.part c.args.draft.now _ (movers_of c.args.replay.now c.args.cookies.now c.args.auth.now c.args.addons.now) _ c.in-StickyCookies.is
    (sym c.is_going.ensures ∙ c.if-not-is_going.false) (ap (λ flow. the_draft flow c.args.draft.now) sent))
    c.send_cookies.ensures

pub returns-in-StickyAuth-clause-moved : goal.returns-in-StickyAuth-clause-moved
returns-in-StickyAuth-clause-moved g c = on_ok_weaker c.authorize.result
    (λ kept. by_auth _ _ _ c.args.rules.now c.args.hook c.args.part c.args.draft.now _ c.args.replay.now c.args.cookies.now c.args.auth.now _ c.args.addons.now _ c.in-StickyAuth.is
    (sym c.is_going.ensures ∙ c.if-not-is_going.false) kept)
    c.authorize.ensures

pub returns-in-KeepCookies-clause-moved : goal.returns-in-KeepCookies-clause-moved
returns-in-KeepCookies-clause-moved g c = on_ok_weaker c.keep_cookies.result
    (λ kept. by_keeping _ _ _ c.args.rules.now c.args.hook c.args.part c.args.draft.now c.args.replay.now c.args.cookies.now _ c.args.auth.now c.args.addons.now _ c.in-KeepCookies.is
    (sym c.is_going.ensures ∙ c.if-not-is_going.false) kept)
    c.keep_cookies.ensures

pub returns-in-ServerReplay-clause-moved : goal.returns-in-ServerReplay-clause-moved
returns-in-ServerReplay-clause-moved g c = on_ok_weaker c.ask_replay.result
    (λ replays. by_replay _ _ _ c.args.rules.now c.args.hook c.args.part c.args.draft.now _ c.args.replay.now _ c.args.cookies.now c.args.auth.now c.args.addons.now _ c.in-ServerReplay.is (sym c.is_going.ensures ∙ c.if-not-is_going.false) replays)
    c.ask_replay.ensures

pub returns-in-ModifyBody-clause-moved : goal.returns-in-ModifyBody-clause-moved
returns-in-ModifyBody-clause-moved g c = on_ok_weaker c.modify_body.result
    (λ made. by_rules _ _ _ c.args.rules.now c.args.hook c.args.part part.ModifyBody c.args.draft.now _ (movers_of c.args.replay.now c.args.cookies.now c.args.auth.now c.args.addons.now) _ tt c.in-ModifyBody.is (sym c.is_going.ensures ∙ c.if-not-is_going.false)
    (ap (λ flow. the_draft flow c.args.draft.now) made))
    c.modify_body.ensures

pub returns-in-Addons-clause-moved : goal.returns-in-Addons-clause-moved
returns-in-Addons-clause-moved g c = on_ok_weaker c.ask_addons.result
    (λ moved. by_addons _ _ _ c.args.rules.now c.args.hook c.args.part c.args.draft.now _ c.args.replay.now c.args.cookies.now c.args.auth.now c.args.addons.now _ _ c.in-Addons.is (sym c.is_going.ensures ∙ c.if-not-is_going.false) moved)
    c.ask_addons.ensures
