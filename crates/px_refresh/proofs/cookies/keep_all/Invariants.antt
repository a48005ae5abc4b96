use Rattle.std.proofs.Common.{codes}
use Rattle.px_message.specs.Fields.{values_of}
use Rattle.px_refresh.proofs.KeepLemmas.{KeptSoFar}
use Rattle.px_refresh.proofs.cookies.keep_all.Given as goal

-- what is kept so far, and the values that are left
abbrev pub invariant-loop-value : goal.invariant-loop-value
invariant-loop-value l = KeptSoFar l.fn.site (values_of (codes "Set-Cookie") l.fn.response.fields) l.initial.cookies l.cookies l.rest
