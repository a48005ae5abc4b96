use Rattle.std.proofs.Common.{refl, subst}
use Rattle.std.specs.Box.{with_value}
use Rattle.px_stream.specs.declared.stream.Stream.{Stream}
use Rattle.px_stream.specs.Anywhere.{GoesOnWith}
use Rattle.px_resend.proofs.GoOnLemmas.{asks_there, goes_on_there}
use Rattle.px_resend.proofs.resend.Resend.go_on.Goals as goal

pub returns-clause-goes_on : goal.returns-clause-goes_on
returns-clause-goes_on c =
    let P : Stream → Type 0 = λ s. GoesOnWith s c.go_on_with.new.self c.args.moment c.args.flow c.new-given.result.items c.go_on_with.new.out.items in
    goes_on_there c.args.self.now.conv c.args.self.now.proxy c.args.self.now.request c.args.flow c.args.moment c.in_ok-stream.stream.value (with_value c.in_ok-stream.stream c.go_on_with.new.self)
    c.go_on_with.new.out.items c.go_on_with.new.self _ c.args.out.now.items c.pass_on.new.out.items refl c.new-given.ensures.items
    (record { terms = c.in_ok-stream.ensures.terms; at = c.in_ok-stream.ensures.at; is_new = c.in_ok-stream.ensures.new })
    (subst P c.deref_mut.ensures.value c.in_ok-go_on_with.ensures.goes_on) c.in_ok-pass_on.ensures

pub returns-clause-asks : goal.returns-clause-asks
returns-clause-asks c =
    asks_there (with_value c.in_ok-stream.stream c.go_on_with.new.self) c.go_on_with.new.self _ c.go_on_with.new.out.items c.args.out.now.items c.pass_on.new.out.items refl c.new-given.ensures.items
    c.in_ok-pass_on.ensures c.in_ok-go_on_with.ensures.asks
