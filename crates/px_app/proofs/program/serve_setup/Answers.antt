use Rattle.std.proofs.Common.{◌≡◌, Option, None, ◌∙◌, ap, sym, subst}
use Rattle.std.specs.Prelude.{option_map}
use Rattle.rand_chacha.specs.ChaCha.{key_of}
use Rattle.px_refresh.specs.declared.authorization.StickyAuth.{StickyAuth}
use Rattle.px_refresh.specs.declared.cookies.StickyCookies.{StickyCookies}
use Rattle.px_addons.specs.Chain.{movers_of}
use Rattle.px_addons.specs.declared.rules.Rules.{Rules}
use Rattle.px_app.specs.Opened.{AreRulesOf, auth_view, cookies_view}
use Rattle.px_app.specs.Run.{place_of}
use Rattle.px_app.proofs.CodeLemmas.{all_codes, code_by, complete_by, five_says, memory_gives, seven_says}
use Rattle.px_app.proofs.ChainLemmas.{chain_keeps_losses, chain_never_waits, no_filter_by}
use Rattle.px_app.proofs.ChangeLemmas.{drops_keep_rules}
use Rattle.px_app.proofs.OutputLemmas.{first_later, leaves_at}
use Rattle.px_app.proofs.RunLemmas.{listens_where_heard, told_trace}
use Rattle.px_app.proofs.ServeLemmas.{served_so}
use Rattle.px_app.proofs.SetupLemmas.{listens_by, notes_by}
use Rattle.px_app.proofs.ToldLemmas.{told_code}
use Rattle.px_app.proofs.program.serve_setup.Goals as goal

pub serve-ending-requires : goal.serve-ending-requires
serve-ending-requires g c = record {
  idle = c.requires.idle;
  losses = chain_keeps_losses _ _ _ (λ chain. chain.rules) (λ chain. movers_of chain.replay chain.cookies chain.auth chain.addons.items);
}

pub returns : goal.returns
returns g c = λ settings flows so.
    let rules = let P : Rules → Type 0 = AreRulesOf settings in subst P (sym c.new-chain.ensures.rules) so.rules in (
      c.new-chain.result,
      (
        rules,
        record {
          replay = c.new-chain.ensures.replay ∙ so.begins.replay;
          sent = ap (λ (it : Option StickyCookies). option_map cookies_view it) c.new-chain.ensures.cookies ∙ so.begins.sent;
          given = ap (λ (it : Option StickyAuth). option_map auth_view it) c.new-chain.ensures.auth ∙ so.begins.given;
        },
        c.new-chain.ensures.addons,
      ),
      record {
        served = λ told empty tells.
            served_so _ _ _ _ _ (chain_never_waits _ _ _ (λ chain. chain.rules) (λ chain. movers_of chain.replay chain.cookies chain.auth chain.addons.items))
            (λ name old new none dropped. drops_keep_rules _ (λ chain. chain.rules) (λ chain. movers_of chain.replay chain.cookies chain.auth chain.addons.items) (λ (r : Rules). r.intercept ≡ None) name old new none dropped)
            _ _ c.serve-ending.result.printing c.serve-ending.result.status c.end.result c.code.result _ _ _ _
            (record {
              is = c.end.ensures.status;
              code_is = c.code.ensures.code;
              memory = λ memory. c.end.ensures.memory memory;
              prints = λ start text has. c.end.ensures.prints start text has;
              still = λ failed. c.end.ensures.still failed;
              from_first = c.serve-ending.ensures.later;
            })
            _ _ (λ failed. first_later _ _ _ c.end.ensures.later (c.serve-ending.ensures.failed failed)) (λ rose. rose)
            settings c.args.setup.mode (key_of c.args.mask_key) c.args.resent.items _ _ _ _ told so.mode so.saving so.events
            (λ none. no_filter_by c.new-chain.result.rules.intercept settings.intercept rules.intercept none) c.serve-ending.ensures.output
            (told_trace _ _ told (c.serve-ending.ensures.run empty) tells);
        files = leaves_at _ _ _ _ _ so.saving c.serve-ending.ensures.files;
        listening = λ trace empty tells heard_some.
            listens_by so.listen (ap (λ o. option_map place_of o) c.as_ref.ensures.value ∙ so.control) (listens_where_heard _ _ trace _ c.serve-ending.ensures.listening empty tells heard_some);
        causes =
            let is = code_by c.serve-ending.result.printing c.serve-ending.result.status c.end.result c.code.result c.end.ensures.status c.code.ensures.code in
            let fault = λ (five : c.code.result ≡ 5). c.serve-ending.ensures.fault (five_says c.serve-ending.result.printing c.serve-ending.result.status c.code.result is five) in
            let lost = λ (seven : c.code.result ≡ 7). first_later _ _ _ c.end.ensures.later (c.serve-ending.ensures.failed
            (seven_says c.serve-ending.result.printing c.serve-ending.result.status c.code.result is c.serve-ending.ensures.output seven).1) in
            let statuses = all_codes c.serve-ending.result.printing c.serve-ending.result.status c.code.result is in
            record {
              fault = fault;
              lost = lost;
              statuses = statuses;
              complete = λ net sink. complete_by c.code.result statuses (λ five. net (fault five)) (λ seven. sink (lost seven));
            };
        notes =
            let is = code_by c.serve-ending.result.printing c.serve-ending.result.status c.end.result c.code.result c.end.ensures.status c.code.ensures.code in
            notes_by _ so.listen so.mode (told_code _ _ c.code.result _ _ _ (λ eight. memory_gives c.serve-ending.result.printing c.serve-ending.result.status c.code.result is eight) c.serve-ending.ensures.notes);
      },
    )
