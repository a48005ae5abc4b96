use Rattle.std.proofs.Common.{Some, ap, ◌∙◌}
use Rattle.px_message.specs.declared.flow.Flow.{Flow}
use Rattle.px_message.specs.declared.request.Request.{Request}
use Rattle.px_exchange.specs.Replies.{taken_at_request_head}
use Rattle.px_resend.specs.Chain.{whole_flow}
use Rattle.px_resend.specs.Stands.{terms_in}
use Rattle.px_resend.proofs.RequestLemmas.{head_goes, head_kills, head_responds}
use Rattle.px_resend.proofs.resend.Resend.answer_head.Goals as goal

pub returns-in-GoesOn-clause-resumes : goal.returns-in-GoesOn-clause-resumes
returns-in-GoesOn-clause-resumes c =
    head_goes (terms_in c.args.self.now) c.args.self.now.request c.ask_whole.result c.args.flow c.args.moment c.args.reply _ c.args.out.now.items
    c.ask_whole.new.out.items (c.in_ok-request.ensures ∙ ap (λ (f : Flow). taken_at_request_head f.request c.args.reply) c.deref.ensures) c.in-GoesOn.request c.in-GoesOn.is c.with_request.result c.with_request.ensures c.ask_whole.ensures.next c.ask_whole.ensures.gives

pub returns-in_ok-whole-in-Responds-clause-resumes : goal.returns-in_ok-whole-in-Responds-clause-resumes
returns-in_ok-whole-in-Responds-clause-resumes c =
    let given : Flow → Flow = λ f. record f { response = Some c.in-Responds.response } in
    head_responds (terms_in c.args.self.now) c.args.self.now.request c.go_on.result c.args.flow c.args.moment c.args.reply _ c.args.out.now.items
    c.go_on.new.out.items (c.in_ok-request.ensures ∙ ap (λ (f : Flow). taken_at_request_head f.request c.args.reply) c.deref.ensures) c.in-Responds.response c.in-Responds.is c.with_response.result
    (c.with_response.ensures ∙ (ap given c.in_ok-whole-in-Responds.ensures ∙ ap (λ (r : Request). given (whole_flow r c.args.flow)) c.get.ensures)) c.go_on.ensures.goes_on

pub returns-in-Kills-clause-resumes : goal.returns-in-Kills-clause-resumes
returns-in-Kills-clause-resumes c =
    head_kills (terms_in c.args.self.now) c.args.self.now.request c.kill.result c.args.flow c.args.moment c.args.reply _ c.args.out.now.items
    c.kill.new.out.items (c.in_ok-request.ensures ∙ ap (λ (f : Flow). taken_at_request_head f.request c.args.reply) c.deref.ensures) c.in-Kills.is c.kill.ensures.over c.kill.ensures.gives
