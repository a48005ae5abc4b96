use Rattle.std.proofs.Common.{◌≡◌, ◌++◌}
use Rattle.px_gen.specs.Script.{body_text}
use Rattle.px_gen.proofs.answers.push_body.Given as goal

-- the bytes so far
abbrev pub invariant-loop-place : goal.invariant-loop-place
invariant-loop-place l = l.text.items ≡ l.initial.text.items ++ body_text l.flow l.place
