use Rattle.std.proofs.Common.{◌∙◌, sym, ap, option_map}
use Rattle.px_view.proofs.CommandLemmas.{id_none, id_some}
use Rattle.px_view.proofs.command.read_id.Goals as goal

pub returns-in_err-conv : goal.returns-in_err-conv
returns-in_err-conv c =
    c.from_residual-in_err-conv.ensures
    ∙ sym (id_none c.args.text.now c.dot_in.result c.in_ok-dot.dot c.dot_in.ensures c.in_ok-dot.was (sym c.number_of.ensures ∙ c.in_err-conv.was))

pub returns-in_err-index : goal.returns-in_err-index
returns-in_err-index c =
    c.from_residual-in_err-index.ensures
    ∙ sym (id_some c.args.text.now c.dot_in.result c.in_ok-dot.dot c.in_ok-conv.conv c.number_of-2.result c.dot_in.ensures c.in_ok-dot.was
    (sym c.number_of.ensures ∙ c.in_ok-conv.was) c.number_of-2.ensures
    ∙ ap (option_map _) c.in_err-index.was)

pub returns : goal.returns
returns c =
    sym (id_some c.args.text.now c.dot_in.result c.in_ok-dot.dot c.in_ok-conv.conv c.number_of-2.result c.dot_in.ensures c.in_ok-dot.was
    (sym c.number_of.ensures ∙ c.in_ok-conv.was) c.number_of-2.ensures
    ∙ ap (option_map _) c.in_ok-index.was)
