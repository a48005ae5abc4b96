use Rattle.std.proofs.Common.{ap}
use Rattle.px_draft.specs.Changes.{change_of_words}
use Rattle.px_draft.proofs.ChangeLemmas.{words_none, words_some, ok_by, err_by}
use Rattle.px_draft.proofs.edit.read_edit.Goals as goal

pub returns-in-None-clause-ok : goal.returns-in-None-clause-ok
returns-in-None-clause-ok c =
    ok_by _ _ c.read_lone.result (ap change_of_words (words_none c.args.text.now c.blank_in.result c.blank_in.ensures c.in-None.is)) c.read_lone.ensures.ok

pub returns-in-None-clause-refused : goal.returns-in-None-clause-refused
returns-in-None-clause-refused c =
    err_by _ _ c.read_lone.result (ap change_of_words (words_none c.args.text.now c.blank_in.result c.blank_in.ensures c.in-None.is)) c.read_lone.ensures.refused

pub returns-in-Some-clause-ok : goal.returns-in-Some-clause-ok
returns-in-Some-clause-ok c =
    ok_by _ _ c.read_behind.result
    (ap change_of_words (words_some c.args.text.now c.blank_in.result c.in-Some.blank c.blank_in.ensures c.in-Some.is))
    c.read_behind.ensures.ok

pub returns-in-Some-clause-refused : goal.returns-in-Some-clause-refused
returns-in-Some-clause-refused c =
    err_by _ _ c.read_behind.result
    (ap change_of_words (words_some c.args.text.now c.blank_in.result c.in-Some.blank c.blank_in.ensures c.in-Some.is))
    c.read_behind.ensures.refused
