use Rattle.px_said.proofs.SaysAll.{all_said}
use Rattle.px_said.proofs.laws.what_is_sent_says_what_was_read.Goals as goal

pub returns : goal.returns
returns c = record { in_order = all_said }
