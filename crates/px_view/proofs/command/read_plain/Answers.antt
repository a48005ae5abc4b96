use Rattle.std.proofs.Common.{◌∷◌, ◌∙◌, ap, sym}
use Rattle.px_view.specs.Commands.{plain_order}
use Rattle.px_view.proofs.CommandLemmas.{words_none, more_words}
use Rattle.px_view.proofs.command.read_plain.Goals as goal

pub returns-in-None : goal.returns-in-None
returns-in-None c =
    c.read_triple.ensures
    ∙ sym (ap (λ words. plain_order c.args.word.now c.args.name.now words) (words_none c.args.rest.now c.blank_in.result c.blank_in.ensures c.in-None.is))

pub returns-in-Some : goal.returns-in-Some
returns-in-Some c = sym (more_words c.args.word.now c.args.name.now c.args.rest.now c.blank_in.result c.in-Some.field-0 c.blank_in.ensures c.in-Some.is)
