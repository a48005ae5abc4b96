use Rattle.std.proofs.Common.{◌∷◌, ap, inr, refl}
use Rattle.px_draft.specs.Changes.{change_of_words}
use Rattle.px_draft.proofs.ChangeLemmas.{words_none, more_words, ok_by, err_by}
use Rattle.px_draft.proofs.edit.read_last.Goals as goal

pub returns-in-None-clause-ok : goal.returns-in-None-clause-ok
returns-in-None-clause-ok c =
    ok_by _ _ c.read_triple.result
    (ap (λ words. change_of_words (c.args.word.now ∷ c.args.name.now ∷ words)) (words_none c.args.rest.now c.blank_in.result c.blank_in.ensures c.in-None.is))
    c.read_triple.ensures.ok

pub returns-in-None-clause-refused : goal.returns-in-None-clause-refused
returns-in-None-clause-refused c =
    err_by _ _ c.read_triple.result
    (ap (λ words. change_of_words (c.args.word.now ∷ c.args.name.now ∷ words)) (words_none c.args.rest.now c.blank_in.result c.blank_in.ensures c.in-None.is))
    c.read_triple.ensures.refused

pub returns-in-Some-clause-refused : goal.returns-in-Some-clause-refused
returns-in-Some-clause-refused c =
    inr (refl, more_words c.args.word.now c.args.name.now c.args.rest.now c.blank_in.result c.in-Some.field-0 c.blank_in.ensures c.in-Some.is)
