use Rattle.std.proofs.Common.{refl}
use Rattle.px_app.specs.Loaded.{loaded}
use Rattle.px_app.proofs.LoadLemmas.{all_read, both_all, both_front, front_read}
use Rattle.px_app.proofs.laws.flow_files_are_read_in_order.Goals as goal

pub returns-clause-front : goal.returns-clause-front
returns-clause-front c = λ paths calls what loads. front_read paths calls what loads

pub returns-clause-all : goal.returns-clause-all
returns-clause-all c = λ paths calls flows loads. all_read paths calls (loaded flows) flows loads refl

pub returns-clause-both_front : goal.returns-clause-both_front
returns-clause-both_front c = λ first second calls recorded resent loads. both_front first second calls recorded resent loads

pub returns-clause-both_all : goal.returns-clause-both_all
returns-clause-both_all c = λ first second calls recorded resent loads. both_all first second calls recorded resent loads
