use Rattle.std.proofs.Common.{List, [], sym, subst}
use Rattle.std.proofs.lemmas.List.{append-nil}
use Rattle.px_event.specs.declared.command.Command.{Command}
use Rattle.px_resend.specs.declared.child.Child.{Child}
use Rattle.px_resend.specs.declared.child.Child.TheVariants as children
use Rattle.px_resend.specs.Stands.{terms_in}
use Rattle.px_resend.specs.Steps.{Adds, TakesChild}
use Rattle.px_resend.proofs.RequestLemmas.{began, over_takes}
use Rattle.px_resend.proofs.resend.Resend.hear.Goals as goal

pub returns-in-Waiting-clause-takes : goal.returns-in-Waiting-clause-takes
returns-in-Waiting-clause-takes c =
    began (terms_in c.args.self.now) c.args.self.now.request c.args.child c.args.moment c.args.event c.args.out.now.items c.begin.new.out.items c.begin.result c.in-Waiting.is c.begin.ensures.begins

pub returns-in-Over-clause-takes : goal.returns-in-Over-clause-takes
returns-in-Over-clause-takes c =
    let out : List Command = c.args.out.now.items in
    let P : Child → Type 0 = λ child. Adds (TakesChild (terms_in c.args.self.now) c.args.self.now.request child children.Over c.args.moment c.args.event) out out in
    subst P (sym c.in-Over.is) (record {
      more = [];
      grown = sym (append-nil out);
      holds = over_takes (terms_in c.args.self.now) c.args.self.now.request c.args.moment c.args.event;
    })
