use Rattle.std.proofs.Common.{ap}
use Rattle.px_view.specs.Commands.{order_of_words}
use Rattle.px_view.proofs.CommandLemmas.{words_none, words_some, ok_by, err_by, lone_err}
use Rattle.px_view.proofs.command.read_command.Goals as goal

pub returns-in-None-clause-refused : goal.returns-in-None-clause-refused
returns-in-None-clause-refused c =
    lone_err c.args.line.now c.read_lone.result c.read_lone.ensures (words_none c.args.line.now c.blank_in.result c.blank_in.ensures c.in-None.is)

pub returns-in-Some-clause-ok : goal.returns-in-Some-clause-ok
returns-in-Some-clause-ok c =
    ok_by _ _ c.read_behind.result
    (ap order_of_words (words_some c.args.line.now c.blank_in.result c.in-Some.blank c.blank_in.ensures c.in-Some.is))
    c.read_behind.ensures.ok

pub returns-in-Some-clause-refused : goal.returns-in-Some-clause-refused
returns-in-Some-clause-refused c =
    err_by _ _ c.read_behind.result
    (ap order_of_words (words_some c.args.line.now c.blank_in.result c.in-Some.blank c.blank_in.ensures c.in-Some.is))
    c.read_behind.ensures.refused
