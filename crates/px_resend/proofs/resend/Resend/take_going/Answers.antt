use Rattle.std.proofs.Common.{ap, sym, ◌∙◌, subst}
use Rattle.std.specs.Box.{with_value}
use Rattle.px_stream.specs.Anywhere.{Somewhere}
use Rattle.px_stream.specs.Stands.{awaits}
use Rattle.px_resend.specs.Stands.{terms_in}
use Rattle.px_resend.proofs.GoingLemmas.{asks_all, somewhere, takes_all, takes_left}
use Rattle.px_resend.proofs.resend.Resend.take_going.Goals as goal

pub take_heard-requires-clause-somewhere : goal.take_heard-requires-clause-somewhere
take_heard-requires-clause-somewhere c =
    subst Somewhere (sym c.deref_mut.ensures.value) (somewhere (terms_in c.args.self.now) c.args.self.now.request c.args.stream c.requires.somewhere)

pub take_heard-requires-clause-free : goal.take_heard-requires-clause-free
take_heard-requires-clause-free c = ap awaits c.deref_mut.ensures.value ∙ c.requires.free

pub returns-clause-takes : goal.returns-clause-takes
returns-clause-takes c =
    takes_all (terms_in c.args.self.now) c.args.self.now.request c.args.stream (with_value c.args.stream c.take_heard.new.stream) _ c.take_heard.new.out.items c.args.out.now.items
    c.pass_on.new.out.items c.follow.new.out.items c.new-given.ensures.items c.in_ok-pass_on.ensures c.follow.result c.args.moment c.args.event _
    c.deref_mut.ensures.value c.in_ok-take_heard.ensures.takes c.follow.ensures.follows

pub returns-clause-asks : goal.returns-clause-asks
returns-clause-asks c =
    asks_all c.follow.result (with_value c.args.stream c.take_heard.new.stream) _ c.take_heard.new.out.items c.args.out.now.items c.pass_on.new.out.items c.follow.new.out.items
    c.new-given.ensures.items c.in_ok-pass_on.ensures c.in_ok-take_heard.ensures.asks c.follow.ensures.follows

pub returns-clause-left : goal.returns-clause-left
returns-clause-left c =
    takes_left c.follow.result c.args.stream (with_value c.args.stream c.take_heard.new.stream) _ c.pass_on.new.out.items c.follow.new.out.items c.deref_mut.ensures.value
    c.in_ok-take_heard.ensures.left c.follow.ensures.follows
