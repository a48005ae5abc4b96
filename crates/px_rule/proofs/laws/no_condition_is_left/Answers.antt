use Rattle.std.proofs.Common.{◌∙◌, codes, refl}
use Rattle.px_message.specs.Fields.{without}
use Rattle.px_message.proofs.FieldLaws.{values_of-without, values_of-without_other}
use Rattle.px_rule.proofs.laws.no_condition_is_left.Goals as goal

pub returns-clause-none_match : goal.returns-clause-none_match
returns-clause-none_match c fields =
    values_of-without_other (codes "If-None-Match") (codes "If-Modified-Since") (without (codes "If-None-Match") fields) refl
    ∙ values_of-without (codes "If-None-Match") fields

pub returns-clause-modified : goal.returns-clause-modified
returns-clause-modified c fields = values_of-without (codes "If-Modified-Since") (without (codes "If-None-Match") fields)

pub returns-clause-others : goal.returns-clause-others
returns-clause-others c name fields none_match modified =
    values_of-without_other name (codes "If-Modified-Since") (without (codes "If-None-Match") fields) modified
    ∙ values_of-without_other name (codes "If-None-Match") fields none_match
