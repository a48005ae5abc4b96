use Rattle.std.proofs.Common.{◌∙◌, ap, refl, ◌++◌, ◌∷◌, [], map}
use Rattle.px_event.specs.declared.step.Step.TheVariants as steps
use Rattle.px_core.specs.Held.{step_of}
use Rattle.px_core.specs.Runs.{has}
use Rattle.px_core.specs.Unmarked.{all_marked}
use Rattle.px_core.proofs.ResultLemmas.{if_ok_all, goes_from_empty, asks_from_empty, named_from_empty}
use Rattle.px_core.proofs.held.Held.reply.Goals as goal

pub returns-clause-replies : goal.returns-clause-replies
returns-clause-replies g c =
    if_ok_all c.tell.result _ _ (λ question told asked shows. record {
      given = c.take.new.out.items;
      grown = told ∙ ap (λ l. l ++ map (step_of c.args.call.conv) (all_marked (has c.args.self.now.marks) c.take.new.out.items))
          (c.in_ok-push.ensures.items ∙ ap (λ r. c.args.steps.now.items ++ steps.Answered c.args.call.conv c.args.ask r ∷ []) c.in_ok-try_clone.ensures);
      goes = goes_from_empty g.C.Conversation.stands _ _ _ _ _ c.new-commands.ensures.items (c.in_ok-take.ensures.answered c.args.ask c.args.reply refl c.requires.awaited);
      asks_one = asks_from_empty _ _ _ c.new-commands.ensures.items (c.in_ok-take.ensures.answer_asks c.args.ask c.args.reply refl c.requires.awaited);
      named = named_from_empty _ _ _ _ c.new-commands.ensures.items c.requires.number c.in_ok-take.ensures.names;
      asked = asked;
      shows = shows;
      same_sides = refl;
      same_draft = refl;
      same_marks = refl;
    }) c.tell.ensures.told c.tell.ensures.asked c.tell.ensures.shows
