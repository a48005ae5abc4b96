use Rattle.std.proofs.Common.{rules, ◌≡◌, true, false, not, ap, Option, Some, ◌∙◌}
use Rattle.std.specs.Option.{option_eq}
use Rattle.std.specs.Cmp.Rules.{comparing}
use Rattle.px_event.specs.declared.ask.Ask.{Ask}
use Rattle.px_event.specs.contracts.ask.AskPartialEq.TheImpl.{eq-value}
use Rattle.px_gate.proofs.gate.Gate.answer.Goals as goal

same_ask : (ask : Ask) → option_eq eq-value.it (Some ask) (Some ask) ≡ true
same_ask ask = search (comparing, rules)

pub returns-then-ne-clause-awaited : goal.returns-then-ne-clause-awaited
returns-then-ne-clause-awaited g c = λ is _.
    let asked : c.waiting.result ≡ Some c.args.ask = c.waiting.ensures ∙ is in
    let equal : option_eq eq-value.it c.waiting.result (Some c.args.ask) ≡ true =
    ap (λ (o : Option Ask). option_eq eq-value.it o (Some c.args.ask)) asked ∙ same_ask c.args.ask in
    let wrong : true ≡ false = c.if-ne.ensures ∙ ap not equal in cc
