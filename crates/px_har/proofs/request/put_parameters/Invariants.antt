use Rattle.form_urlencoded.specs.Form.{raw_pairs}
use Rattle.form_urlencoded.specs.Parse.{raw_pairs_left}
use Rattle.px_har.specs.Entry.{parameter_value}
use Rattle.px_har.specs.Puts.{items_tokens}
use Rattle.px_har.proofs.PutLemmas.{Goes}
use Rattle.px_har.proofs.request.put_parameters.Given as goal

-- what was put, with what is still to come, is all
abbrev pub invariant-loop-name : goal.invariant-loop-name
invariant-loop-name l =
    Goes l.initial.writer l.writer (items_tokens parameter_value (raw_pairs l.query)) (items_tokens parameter_value (raw_pairs_left l.rest))
