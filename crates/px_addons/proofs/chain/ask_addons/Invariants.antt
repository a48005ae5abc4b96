use Rattle.std.proofs.Common.{◌≡◌, length}
use Rattle.px_addons.proofs.TurnLemmas.{AskedAddons}
use Rattle.px_addons.proofs.chain.ask_addons.Given as goal

abbrev pub invariant-loop-i : goal.invariant-loop-i
invariant-loop-i g l = (length l.addons ≡ length l.initial.addons) × AskedAddons (λ b. (goal.Addon-dyn g (b.vtable, b.value)).title b.value) (λ b. (goal.Addon-dyn g (b.vtable, b.value)).state b.value)
    (λ b. (goal.Addon-dyn g (b.vtable, b.value)).moves b.value) l.hook l.initial.draft l.initial.addons l.i l.draft l.addons
