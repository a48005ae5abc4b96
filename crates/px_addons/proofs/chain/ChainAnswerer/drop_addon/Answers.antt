use Rattle.std.proofs.Common.{refl, sym, ◌∙◌}
use Rattle.px_addons.proofs.NameLemmas.{dropped_name, dropped_names, no_name}
use Rattle.px_addons.proofs.chain.ChainAnswerer.drop_addon.Goals as goal

pub returns-in-None-clause-missing : goal.returns-in-None-clause-missing
returns-in-None-clause-missing g c =
    ((λ _. no_name _ c.args.name.now c.args.self.now.addons.items c.deref.result.now c.deref.ensures.value c.in-None.ensures), (λ _. refl))

pub returns-in-Some-clause-names : goal.returns-in-Some-clause-names
returns-in-Some-clause-names g c =
    dropped_names _ c.args.name.now c.args.self.now.addons.items c.deref.result.now _ c.in-Some.place c.deref.ensures.value c.in-Some.ensures c.remove.ensures.items

pub returns-in-Some-clause-missing : goal.returns-in-Some-clause-missing
returns-in-Some-clause-missing g c = (
  (λ no. absurd cc),
  (λ none. sym none ∙ dropped_name _ c.args.name.now c.args.self.now.addons.items c.deref.result.now c.in-Some.place c.deref.ensures.value c.in-Some.ensures),
)
