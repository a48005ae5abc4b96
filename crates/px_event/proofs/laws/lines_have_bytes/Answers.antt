use Rattle.px_event.proofs.LineLemmas.{bytes_begin, bytes_join, close_first}
use Rattle.px_event.proofs.laws.lines_have_bytes.Goals as goal

pub returns-clause-joins : goal.returns-clause-joins
returns-clause-joins c = λ first second. bytes_join first second

pub returns-clause-begins : goal.returns-clause-begins
returns-clause-begins c = λ prefix whole before. bytes_begin prefix whole before

pub returns-clause-ordered : goal.returns-clause-ordered
returns-clause-ordered c = λ side value text same. close_first side value text same
