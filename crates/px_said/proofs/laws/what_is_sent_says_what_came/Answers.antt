use Rattle.px_said.proofs.SaysCame.{all_came}
use Rattle.px_said.specs.Walks.{heard, start_at}
use Rattle.px_said.proofs.laws.what_is_sent_says_what_came.Goals as goal

pub returns : goal.returns
returns c = record { in_order = λ made here at flows. all_came c.streamed_stays.ensures made (heard here) (start_at at here) flows }
