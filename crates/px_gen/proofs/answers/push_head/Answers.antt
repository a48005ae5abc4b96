use Rattle.std.specs.Prelude.{codes, decimal, ◌++◌}
use Rattle.px_text.specs.Blank.{crlf}
use Rattle.px_gen.specs.Script.{head_text}
use Rattle.px_gen.proofs.ScriptLemmas.{head_is}
use Rattle.px_gen.proofs.answers.push_head.Goals as goal

pub returns : goal.returns
unfolding head_text
returns c =
    head_is c.args.text.now.items (codes "HTTP/1.1 200 OK" ++ crlf) (codes "Content-Length: ") (decimal c.args.size) _ _ _ _
    c.in_ok-extend_from_slice.ensures.items c.in_ok-extend_from_slice-2.ensures.items c.in_ok-push_decimal.ensures.ok c.in_ok-extend_from_slice-3.ensures.items
