use Rattle.std.proofs.Common.{◌+◌, ◌∙◌, Bool, false, ap, sym}
use Rattle.px_socks.specs.declared.greeting.Greeting.TheVariants.{Methods}
use Rattle.px_socks.proofs.GreetingLemmas.{methods_short, methods_whole}
use Rattle.px_socks.proofs.greeting.read_methods.Goals as goal

pub returns-then-bytes-count : goal.returns-then-bytes-count
returns-then-bytes-count c = sym (methods_short c.args.count false 2 c.args.bytes.now c.if-bytes-count.true)

pub returns : goal.returns
returns c =
    ap (λ (free : Bool). Methods free (2 + c.args.count)) c.has_free.ensures
    ∙ sym (methods_whole c.args.count false 2 c.args.bytes.now c.if-bytes-count.false)
