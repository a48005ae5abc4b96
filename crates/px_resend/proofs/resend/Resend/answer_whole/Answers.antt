use Rattle.std.proofs.Common.{ap, ◌∙◌}
use Rattle.px_message.specs.declared.flow.Flow.{Flow}
use Rattle.px_exchange.specs.Replies.{taken_at_request_body}
use Rattle.px_resend.specs.Stands.{terms_in}
use Rattle.px_resend.proofs.RequestLemmas.{whole_goes, whole_kills, whole_responds}
use Rattle.px_resend.proofs.resend.Resend.answer_whole.Goals as goal

pub returns-in-GoesOn-clause-resumes : goal.returns-in-GoesOn-clause-resumes
returns-in-GoesOn-clause-resumes c =
    whole_goes (terms_in c.args.self.now) c.args.self.now.request c.go_on.result c.args.flow c.args.moment c.args.reply _ c.args.out.now.items
    c.go_on.new.out.items (c.in_ok-request.ensures ∙ ap (λ (f : Flow). taken_at_request_body f.request c.args.reply) c.deref.ensures) c.in-GoesOn.request c.in-GoesOn.is c.with_request.result c.with_request.ensures c.go_on.ensures.goes_on

pub returns-in-Responds-clause-resumes : goal.returns-in-Responds-clause-resumes
returns-in-Responds-clause-resumes c =
    whole_responds (terms_in c.args.self.now) c.args.self.now.request c.go_on-in-Responds.result c.args.flow c.args.moment c.args.reply _ c.args.out.now.items
    c.go_on-in-Responds.new.out.items (c.in_ok-request.ensures ∙ ap (λ (f : Flow). taken_at_request_body f.request c.args.reply) c.deref.ensures) c.in-Responds.response c.in-Responds.is c.with_response.result c.with_response.ensures c.go_on-in-Responds.ensures.goes_on

pub returns-in-Kills-clause-resumes : goal.returns-in-Kills-clause-resumes
returns-in-Kills-clause-resumes c =
    whole_kills (terms_in c.args.self.now) c.args.self.now.request c.kill.result c.args.flow c.args.moment c.args.reply _ c.args.out.now.items
    c.kill.new.out.items (c.in_ok-request.ensures ∙ ap (λ (f : Flow). taken_at_request_body f.request c.args.reply) c.deref.ensures) c.in-Kills.is c.kill.ensures.over c.kill.ensures.gives
