use Rattle.std.proofs.Common.{drop}
use Rattle.px_har.specs.Entry.{field_value}
use Rattle.px_har.specs.Puts.{items_tokens}
use Rattle.px_har.proofs.PutLemmas.{Goes}
use Rattle.px_har.proofs.message.put_each_field.Given as goal

-- what was put, with what is still to come, is all
abbrev pub invariant-loop-i : goal.invariant-loop-i
invariant-loop-i l = Goes l.initial.writer l.writer (items_tokens field_value l.fields) (items_tokens field_value (drop l.i l.fields))
