use Rattle.std.proofs.Common.{List, [], ◌∷◌, ◌++◌, None, ap, ◌∙◌, append_assoc}
use Rattle.px_event.specs.declared.command.Command.{Command}
use Rattle.px_event.specs.declared.command.Command.TheVariants as commands
use Rattle.px_stream.specs.Heard.{shut_if}
use Rattle.px_stream.specs.Tells.{open_parked}
use Rattle.px_stack.proofs.FollowLemmas.{connects, dials_for}
use Rattle.px_stack.proofs.following.connect.Goals as goal

pub returns-clause-follows : goal.returns-clause-follows
returns-clause-follows c =
    let kept = c.in_ok-opening.opening in
    let parked = c.parked-parked.result in
    let out : List Command = c.args.out.now.items in
    let closes : List Command = shut_if parked in
    record {
      more = dials_for kept parked;
      grown = c.in_ok-close_parked.ensures
          ∙ (ap (λ l. l ++ closes) (c.in_ok-push.ensures.items ∙ ap (λ a. out ++ commands.Dial kept.dials a None ∷ []) c.in_ok-first_hop.ensures)
          ∙ append_assoc out (dials_for kept None) closes);
      holds = λ key moment. connects c.args.http.value kept c.client_closed-closed.result parked
          (c.parked-parked.ensures ∙ ap (λ h. open_parked h.stream.at.parked h.stream.side) c.deref-2.ensures)
          c.requires c.in_ok-opening.ensures.flow c.in_ok-opening.ensures.dials c.in_ok-opening.ensures.address c.in_ok-opening.ensures.proxy
          c.in_ok-opening.ensures.rest (c.client_closed-closed.ensures ∙ ap (λ h. h.stream.client_closed) c.deref.ensures) key moment;
    }
