use Rattle.std.proofs.Common.{◌∙◌, [], None}
use Rattle.rand_chacha.specs.ChaCha.{key_of}
use Rattle.px_addons.specs.Chain.{movers_of}
use Rattle.px_core.specs.Answers.{files_meaning}
use Rattle.px_app.specs.Dues.{run_due}
use Rattle.px_app.specs.Over.{goes_none}
use Rattle.px_app.proofs.ChainLemmas.{chain_keeps_losses}
use Rattle.px_app.proofs.GoesLemmas.{leaves_whole}
use Rattle.px_app.proofs.RanLemmas.{due_of_maker, ended_ran, ran_resent, same_items}
use Rattle.px_app.proofs.generate.serve_generated.Goals as goal

pub returns-in_default-clause-files : goal.returns-in_default-clause-files
returns-in_default-clause-files g c = leaves_whole _ _ _ None _ _ goes_none

pub serve_by-ending-requires : goal.serve_by-ending-requires
serve_by-ending-requires g c = record { losses = chain_keeps_losses _ _ _ (λ chain. chain.rules) (λ chain. movers_of chain.replay chain.cookies chain.auth chain.addons.items) }

pub returns-in-Ended-clause-ok : goal.returns-in-Ended-clause-ok
returns-in-Ended-clause-ok g c = λ empty.
    let made = c.in-Ok.ensures in
    let flows = same_items c.in-Ok.maker.layers.flows c.new.result made.resent ∙ c.new.ensures.items in
    let due = run_due c.args.mode (key_of c.args.mask_key) [] in
    let files = files_meaning g.F.Files.contents g.F.Files.calls g.F.Files.misses g.F.Files.faults g.F.Files.losses c.args.files.now in (
      c.serve_by-ending.result.printing,
      ended_ran c.in-Ended.is
          (ran_resent _ _ _ _ due (record { own = c.args.chain; files = files }) None _ _ _ _ None None _ flows
          (c.serve_by-ending.ensures.run due (due_of_maker c.in-Ok.maker c.args.mode c.args.mask_key [] made.mode made.mask_key made.proxy flows) empty)),
    )

pub returns-in-Ended-clause-files : goal.returns-in-Ended-clause-files
returns-in-Ended-clause-files g c = c.serve_by-ending.ensures.files
