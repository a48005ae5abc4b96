use Rattle.std.proofs.Common.{sym, ◌∙◌}
use Rattle.std.proofs.lemmas.Str.{encodes-IsAscii}
use Rattle.px_har.specs.Entry.{characters}
use Rattle.px_har.proofs.values.ascii_text.Goals as goal

pub returns-in-Ok : goal.returns-in-Ok
unfolding characters
returns-in-Ok c = c.in-Ok.ensures.cases.0 ∙ sym (encodes-IsAscii c.args.bytes.now c.if-not-is_ascii.ensures.cases)
