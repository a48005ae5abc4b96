use Rattle.px_core.specs.Answers.{files_meaning}
use Rattle.px_addons.specs.Chain.{movers_of}
use Rattle.px_addons.proofs.TurnLemmas.{AskedParts}
use Rattle.px_addons.proofs.chain.ask_parts.Given as goal

abbrev pub invariant-loop-i : goal.invariant-loop-i
invariant-loop-i g l = AskedParts (λ b. (goal.Addon-dyn g (b.vtable, b.value)).title b.value) (λ b. (goal.Addon-dyn g (b.vtable, b.value)).state b.value)
    (λ b. (goal.Addon-dyn g (b.vtable, b.value)).moves b.value) l.rules l.hook l.parts l.initial.draft (movers_of l.initial.replay l.initial.cookies l.initial.auth l.initial.addons)
    (files_meaning g.F.Files.contents g.F.Files.calls g.F.Files.misses g.F.Files.faults g.F.Files.losses l.initial.files)
    l.i l.draft (movers_of l.replay l.cookies l.auth l.addons) (files_meaning g.F.Files.contents g.F.Files.calls g.F.Files.misses g.F.Files.faults g.F.Files.losses l.files)
