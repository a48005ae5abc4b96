use Rattle.std.proofs.Common.{◌∷◌, ap}
use Rattle.px_view.specs.Commands.{order_of_words}
use Rattle.px_view.proofs.CommandLemmas.{words_none, words_some, ok_by, err_by}
use Rattle.px_view.proofs.command.read_behind.Goals as goal

pub returns-in-None-clause-ok : goal.returns-in-None-clause-ok
returns-in-None-clause-ok c =
    ok_by _ _ c.read_two.result
    (ap (λ words. order_of_words (c.args.word.now ∷ words)) (words_none c.args.rest.now c.blank_in.result c.blank_in.ensures c.in-None.is))
    c.read_two.ensures.ok

pub returns-in-None-clause-refused : goal.returns-in-None-clause-refused
returns-in-None-clause-refused c =
    err_by _ _ c.read_two.result
    (ap (λ words. order_of_words (c.args.word.now ∷ words)) (words_none c.args.rest.now c.blank_in.result c.blank_in.ensures c.in-None.is))
    c.read_two.ensures.refused

pub returns-in-Some-clause-ok : goal.returns-in-Some-clause-ok
returns-in-Some-clause-ok c =
    ok_by _ _ c.read_more.result
    (ap (λ words. order_of_words (c.args.word.now ∷ words)) (words_some c.args.rest.now c.blank_in.result c.in-Some.blank c.blank_in.ensures c.in-Some.is))
    c.read_more.ensures.ok

pub returns-in-Some-clause-refused : goal.returns-in-Some-clause-refused
returns-in-Some-clause-refused c =
    err_by _ _ c.read_more.result
    (ap (λ words. order_of_words (c.args.word.now ∷ words)) (words_some c.args.rest.now c.blank_in.result c.in-Some.blank c.blank_in.ensures c.in-Some.is))
    c.read_more.ensures.refused
