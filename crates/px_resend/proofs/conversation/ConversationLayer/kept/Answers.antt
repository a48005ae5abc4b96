use Rattle.std.proofs.Common.{sym, ap, ◌∙◌, subst, ◌≤◌}
use Rattle.px_resend.specs.Joined.{kept_by, no_body_by}
use Rattle.px_resend.proofs.JoinedLemmas.{client_sound, resent_sound}
use Rattle.px_resend.proofs.conversation.ConversationLayer.kept.Goals as goal

pub returns-in-Client-clause-bound : goal.returns-in-Client-clause-bound
returns-in-Client-clause-bound g c = λ sound keeps.
    subst (λ s. kept_by g.L.Layer.kept s ≤ 133120) (sym c.in-Client.is)
    (c.kept.ensures.bound (client_sound g.L.Layer.stands c.args.self.now c.in-Client.layer c.in-Client.is sound) (ap (no_body_by g.L.Layer.keeps_no_body) (sym c.in-Client.is) ∙ keeps))

pub returns-in-Resent-clause-bound : goal.returns-in-Resent-clause-bound
returns-in-Resent-clause-bound g c = λ sound keeps.
    subst (λ s. kept_by g.L.Layer.kept s ≤ 133120) (sym c.in-Resent.is)
    (c.kept-in-Resent.ensures.bound (resent_sound g.L.Layer.stands c.args.self.now c.in-Resent.resent c.in-Resent.is sound) (ap (no_body_by g.L.Layer.keeps_no_body) (sym c.in-Resent.is) ∙ keeps))
