use Rattle.std.proofs.Common.{◌≡◌, [], None, Some, refl, sym, ap, subst}
use Rattle.rand_chacha.specs.ChaCha.{key_of}
use Rattle.px_event.specs.Trace.{Trace}
use Rattle.px_addons.specs.Chain.{movers_of}
use Rattle.px_addons.specs.declared.rules.Rules.{Rules}
use Rattle.px_addons.proofs.RunLemmas.{keeps_files}
use Rattle.px_gen.specs.Generated.{GeneratedState}
use Rattle.px_gen.specs.Heard.{Hears}
use Rattle.px_app.specs.Generates.{generator_mode}
use Rattle.px_app.proofs.ChainLemmas.{chain_never_waits}
use Rattle.px_app.proofs.ChangeLemmas.{drops_keep_rules}
use Rattle.px_app.proofs.GenerateLemmas.{complete_by, generated_so, heard_to_end, nothing_told}
use Rattle.px_app.proofs.RanLemmas.{ran_in_mode}
use Rattle.px_app.proofs.RunLemmas.{told_trace}
use Rattle.px_app.proofs.SaveLaws.{none_left}
use Rattle.px_app.proofs.generate.run_script.Goals as goal

pub returns-in_default : goal.returns-in_default
returns-in_default g c = nothing_told c.args.count _ _ refl refl refl refl refl

pub returns : goal.returns
returns g c =
    nothing_told c.args.count _ _ refl refl refl refl
    (none_left _ _ _ _ (keeps_files _ _ _ (λ chain. chain.rules) (λ chain. movers_of chain.replay chain.cookies chain.auth chain.addons.items) c.args.chain.rules c.requires.local)
    (λ name old new so dropped. drops_keep_rules _ (λ chain. chain.rules) (λ chain. movers_of chain.replay chain.cookies chain.auth chain.addons.items) (λ (r : Rules). r ≡ c.args.chain.rules) name old new so dropped)
    _ _ refl c.in-Err.ensures.files)

pub returns-in-Ok-serve_generated : goal.returns-in-Ok-serve_generated
returns-in-Ok-serve_generated g c =
    let steps : Trace = c.trace.result.now in
    let key = key_of c.args.mask_key in
    let begun = c.in-Ok-serve_generated.ensures.ok (ap (λ (s : GeneratedState). Some s.trace) c.new-generated.ensures.new) in
    let run = told_trace _ _ steps (ran_in_mode c.in-Ok.mode generator_mode key [] c.in-Ok.ensures.mode begun.1) (ap Some (sym c.trace.ensures.trace)) in
    let heard = subst (λ (t : Trace). Hears g.K.Scripted.count t) (sym c.trace.ensures.trace) c.trace.ensures.hears in
    record {
      run = steps;
      hears = subst (λ n. Hears n steps) c.requires.count heard;
      ends = λ other. heard_to_end _ _ _ _ key _ _ _ _ _ steps run g.K.Scripted.count heard;
      by_chain = λ some.
          generated_so _ _ _ _ key _ _ _ _ _ steps run _ _ (chain_never_waits _ _ _ (λ chain. chain.rules) (λ chain. movers_of chain.replay chain.cookies chain.auth chain.addons.items))
          (λ name old new so dropped. drops_keep_rules _ (λ chain. chain.rules) (λ chain. movers_of chain.replay chain.cookies chain.auth chain.addons.items) (λ (r : Rules). r.intercept ≡ None) name old new so dropped)
          c.requires.intercept c.tell_run.ensures.statuses;
      told = c.tell_run.ensures.told;
      told_part = c.tell_run.ensures.told_part;
      listening = c.tell_run.ensures.listening;
      begun = c.tell_run.ensures.begun;
      prints = c.tell_run.ensures.prints;
      notes = refl;
      files = none_left _ _ _ _ (keeps_files _ _ _ (λ chain. chain.rules) (λ chain. movers_of chain.replay chain.cookies chain.auth chain.addons.items) c.args.chain.rules c.requires.local)
          (λ name old new so dropped. drops_keep_rules _ (λ chain. chain.rules) (λ chain. movers_of chain.replay chain.cookies chain.auth chain.addons.items) (λ (r : Rules). r ≡ c.args.chain.rules) name old new so dropped)
          _ _ refl c.in-Ok-serve_generated.ensures.files;
      statuses = c.tell_run.ensures.statuses;
      lost = c.tell_run.ensures.lost;
      complete = λ quiet. complete_by _ _ c.tell_run.ensures.statuses c.tell_run.ensures.lost quiet;
    }
