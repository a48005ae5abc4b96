use Rattle.std.proofs.Common.{refl}
use Rattle.std.proofs.lemmas.Result.{IfOk-weaker}
use Rattle.px_view.specs.declared.command.CommandError.TheVariants as wrong
use Rattle.px_obey.proofs.OrderLemmas.{wrong_said}
use Rattle.px_obey.proofs.line.say_wrong.Goals as goal

pub returns-in-UnknownCommand-clause-ok : goal.returns-in-UnknownCommand-clause-ok
returns-in-UnknownCommand-clause-ok g c = IfOk-weaker c.say_line.result _ _ (λ outcome told. wrong_said c.args.conv c.args.error wrong.UnknownCommand outcome _ _ refl c.in-UnknownCommand.is told) c.say_line.ensures.ok

pub returns-in-BadNumber-clause-ok : goal.returns-in-BadNumber-clause-ok
returns-in-BadNumber-clause-ok g c = IfOk-weaker c.say_line-in-BadNumber.result _ _ (λ outcome told. wrong_said c.args.conv c.args.error wrong.BadNumber outcome _ _ refl c.in-BadNumber.is told) c.say_line-in-BadNumber.ensures.ok
