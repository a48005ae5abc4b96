use Rattle.std.proofs.Common.{[], ◌++◌, false, ap, sym, ◌∙◌, refl, arith}
use Rattle.std.proofs.lemmas.List.{append-nil}
use Rattle.px_exchange.specs.declared.ending.Used.TheVariants.{NoServer}
use Rattle.px_exchange.specs.Endings.{refuses}
use Rattle.px_stack.proofs.AskLemmas.{other_resumed, refused_resumed}
use Rattle.px_stack.proofs.stack.Stack.dialled.Goals as goal
use Rattle.px_stack.specs.Stack.{visitor_of}

pub returns-in_ok-refuse-in-Refused-clause-resumes : goal.returns-in_ok-refuse-in-Refused-clause-resumes
returns-in_ok-refuse-in-Refused-clause-resumes c =
    refused_resumed c.args.self.now.conv (visitor_of c.args.self.now) c.args.opening c.args.closed c.args.moment c.args.reply c.in-Refused.fault
    c.args.out.now.items c.refuse.new.out.items c.in-Refused.is
    (c.in_ok-refuse-in-Refused.ensures ∙ ap (λ b. c.args.out.now.items ++ refuses c.in-Refused.fault false NoServer b) c.now_by-now.ensures.closed)

pub returns-in_default : goal.returns-in_default
returns-in_default c = record {
  resumes =
      other_resumed c.args.self.now.conv (visitor_of c.args.self.now) c.args.opening c.args.closed c.args.moment c.args.reply c.args.out.now.items
      c.in_default.not-Dialled c.in_default.not-Refused;
  asks = ([], sym (append-nil c.args.out.now.items), refl);
  left = omega arith;
}
