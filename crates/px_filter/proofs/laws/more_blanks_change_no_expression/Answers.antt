use Rattle.px_filter.proofs.BlankLemmas.{fewer_read, more_read, same_kinds}
use Rattle.px_filter.proofs.PutLemmas.{put_before, put_behind}
use Rattle.px_filter.proofs.laws.more_blanks_change_no_expression.Goals as goal

pub returns : goal.returns
returns c = record { tokens = same_kinds; more = more_read; fewer = fewer_read; before = put_before; behind = put_behind }
