use Rattle.std.proofs.Common.{codes}
use Rattle.px_message.proofs.FieldLaws.{values_of-set_in, values_of-set_in_other}
use Rattle.px_rule.proofs.laws.no_coding_is_wished.Goals as goal

pub returns-clause-wish : goal.returns-clause-wish
returns-clause-wish c fields = values_of-set_in (codes "Accept-Encoding") (codes "identity") fields

pub returns-clause-others : goal.returns-clause-others
returns-clause-others c name fields other = values_of-set_in_other name (codes "Accept-Encoding") (codes "identity") fields other
