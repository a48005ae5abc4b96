use Rattle.std.proofs.Common.{ℕ, List, sym}
use Rattle.rand_chacha.specs.ChaCha.{key_of}
use Rattle.px_event.specs.declared.command.Command.{Command}
use Rattle.px_event.specs.declared.reply.Reply.TheVariants.{Dialled}
use Rattle.px_stack.specs.declared.child.Child.{Child}
use Rattle.px_stack.specs.declared.child.Child.TheVariants as children
use Rattle.px_stack.specs.Stack.{visitor_of}
use Rattle.px_stack.specs.Stages.{Visitor}
use Rattle.px_stack.specs.Steps.{ResumesChild}
use Rattle.px_stack.proofs.CallLemmas.{with_its_key}
use Rattle.px_stack.proofs.stack.Stack.flow_dialled.Goals as goal

pub returns-in-Some-clause-resumes : goal.returns-in-Some-clause-resumes
returns-in-Some-clause-resumes c = c.ask_proxy.ensures.resumes c.args.moment

pub returns-in-None-clause-resumes : goal.returns-in-None-clause-resumes
returns-in-None-clause-resumes c =
    let P : ℕ → Visitor → Child → List Command → Type 0 = λ conv client next more. ResumesChild conv client (children.Http c.args.http) next c.args.moment Dialled more in
    with_its_key c.http_resumes.result (key_of c.means.result.mask_key) c.args.self.now.conv (visitor_of c.args.self.now) P c.args.out.now.items c.http_resumes.new.out.items
    (sym c.means.ensures) c.http_resumes.ensures.resumes
