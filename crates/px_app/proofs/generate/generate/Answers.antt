use Rattle.std.proofs.Common.{◌∙◌, [], Option, option_map, ap, refl, sym, subst}
use Rattle.px_refresh.specs.declared.authorization.StickyAuth.{StickyAuth}
use Rattle.px_refresh.specs.declared.cookies.StickyCookies.{StickyCookies}
use Rattle.px_addons.specs.declared.rules.Rules.{Rules}
use Rattle.px_app.specs.Generates.{generator_settings}
use Rattle.px_app.specs.Opened.{AreRulesOf, BeginsWith, auth_view, cookies_view}
use Rattle.px_app.proofs.ChainLemmas.{no_filter}
use Rattle.px_app.proofs.GenerateLemmas.{generates_by, nothing_told, rules_alone}
use Rattle.px_app.proofs.generate.generate.Goals as goal

pub returns-in_default : goal.returns-in_default
returns-in_default g c = nothing_told c.args.count _ _ refl refl refl refl refl

pub run_script-requires : goal.run_script-requires
run_script-requires g c =
    let rules = subst (λ (r : Rules). AreRulesOf generator_settings r) (sym c.new-chain.ensures.rules) (rules_alone generator_settings c.in-Ok.rules c.in-Ok.ensures) in
    record { small = c.requires.small; count = refl; local = rules.local; intercept = no_filter c.new-chain.result.rules.intercept rules.intercept }

pub returns : goal.returns
returns g c =
    let rules = subst (λ (r : Rules). AreRulesOf generator_settings r) (sym c.new-chain.ensures.rules) (rules_alone generator_settings c.in-Ok.rules c.in-Ok.ensures) in
    let begins : BeginsWith generator_settings [] c.new-chain.result.replay c.new-chain.result.cookies c.new-chain.result.auth = record {
      replay = c.new-chain.ensures.replay ∙ c.in-Ok.ensures.replay;
      sent = ap (λ (it : Option StickyCookies). option_map cookies_view it) (c.new-chain.ensures.cookies ∙ c.in-Ok.ensures.cookies);
      given = ap (λ (it : Option StickyAuth). option_map auth_view it) (c.new-chain.ensures.auth ∙ c.in-Ok.ensures.auth);
    } in
    let none = ap (λ v. v.items) c.new-chain.ensures.addons ∙ c.new.ensures.items in
    generates_by c.new-chain.result (rules, begins, none) c.run_script.ensures
