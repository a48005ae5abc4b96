use Rattle.std.proofs.Common.{rules, arith}
use Rattle.std.proofs.lemmas.Grind.{common_steps}
use Rattle.px_core.proofs.runs.run_at.Goals as goal

pub returns-in-Some-clause-some : goal.returns-in-Some-clause-some
returns-in-Some-clause-some c =
    let part = c.range.ensures.in_range (search rules) in
    let own = part.3 _ _ c.in-Some.ensures.steps in
    let greatest = part.4 _ _ c.in-Some.ensures.steps in
    record {
      at = own.1;
      below = grind (arith, common_steps, own);
      greatest = λ other below there. let most = greatest other (tt, grind (arith, common_steps, below)) there in grind (arith, common_steps, most);
    }
