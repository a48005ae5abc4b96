use Rattle.std.proofs.Common.{sym, subst}
use Rattle.std.specs.Box.{with_value}
use Rattle.px_stream.specs.Anywhere.{Somewhere}
use Rattle.px_resend.specs.Stands.{terms_in}
use Rattle.px_resend.proofs.GoingLemmas.{asks_all, somewhere, resumes_all, resumes_left}
use Rattle.px_resend.proofs.resend.Resend.answer_going.Goals as goal

pub resume_anywhere-requires-clause-somewhere : goal.resume_anywhere-requires-clause-somewhere
resume_anywhere-requires-clause-somewhere c =
    subst Somewhere (sym c.deref_mut.ensures.value) (somewhere (terms_in c.args.self.now) c.args.self.now.request c.args.stream c.requires.somewhere)

pub returns-clause-resumes : goal.returns-clause-resumes
returns-clause-resumes c =
    resumes_all (terms_in c.args.self.now) c.args.self.now.request c.args.stream (with_value c.args.stream c.resume_anywhere.new.self) _ c.resume_anywhere.new.out.items c.args.out.now.items
    c.pass_on.new.out.items c.follow.new.out.items c.new-given.ensures.items c.in_ok-pass_on.ensures c.follow.result c.args.moment c.args.reply _
    c.deref_mut.ensures.value c.in_ok-resume_anywhere.ensures.resumes c.follow.ensures.follows

pub returns-clause-asks : goal.returns-clause-asks
returns-clause-asks c =
    asks_all c.follow.result (with_value c.args.stream c.resume_anywhere.new.self) _ c.resume_anywhere.new.out.items c.args.out.now.items c.pass_on.new.out.items c.follow.new.out.items
    c.new-given.ensures.items c.in_ok-pass_on.ensures c.in_ok-resume_anywhere.ensures.asks c.follow.ensures.follows

pub returns-clause-left : goal.returns-clause-left
returns-clause-left c =
    resumes_left c.follow.result c.args.stream (with_value c.args.stream c.resume_anywhere.new.self) _ c.pass_on.new.out.items c.follow.new.out.items c.deref_mut.ensures.value
    c.in_ok-resume_anywhere.ensures.left c.follow.ensures.follows
