use Rattle.std.proofs.Common.{◌∙◌, ◌+◌, sym}
use Rattle.px_flowfile.proofs.IdLemmas.{id_dot, id_front, id_back, id_around, tail_is}
use Rattle.px_flowfile.proofs.id.read_id.Goals as goal

pub returns-in_default : goal.returns-in_default
returns-in_default c id small is = c.in_default.not-Some _ (id_dot c.args.text.now id small is c.dot_in.result c.dot_in.ensures)

pub returns-in_default-number_of : goal.returns-in_default-number_of
returns-in_default-number_of c id small is =
    c.in_default-number_of.ensures id.conv small.0 (id_front c.args.text.now id small is c.dot_in.result c.in-Some.dot c.dot_in.ensures c.in-Some.is)

pub returns-in_default-number_of-2 : goal.returns-in_default-number_of-2
returns-in_default-number_of-2 c id small is =
    c.in_default-number_of-2.ensures id.index small.1 (tail_is c.args.text.now (c.in-Some.dot + 1) ∙ id_back c.args.text.now id small is c.dot_in.result c.in-Some.dot c.dot_in.ensures c.in-Some.is)

pub returns : goal.returns
returns c = (
  id_around c.args.text.now c.dot_in.result c.in-Some.dot c.in-Some-number_of.conv c.in-Some-number_of-2.index c.dot_in.ensures c.in-Some.is
      c.in-Some-number_of.ensures.0 (sym (tail_is c.args.text.now (c.in-Some.dot + 1)) ∙ c.in-Some-number_of-2.ensures.0),
  (c.in-Some-number_of.ensures.1, c.in-Some-number_of-2.ensures.1),
)
