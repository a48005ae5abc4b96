use Rattle.std.proofs.lemmas.Result.{on_ok_weaker}
use Rattle.px_addons.proofs.ReplayLemmas.{asks_found, found_within}
use Rattle.px_addons.proofs.replaying.ask_recorded.Goals as goal

pub moment-moment-requires : goal.moment-moment-requires
moment-moment-requires c =
    found_within c.args.recorded.now c.answer.new.self c.get.result.now c.in_ok-answer.answer c.in-Found.place c.in-Found.response c.in-Found.is c.in_ok-answer.ensures.answer c.in_ok-answer.ensures.after

pub returns-in-Found : goal.returns-in-Found
returns-in-Found c = on_ok_weaker c.put_found.result
    (λ made. asks_found c.args.moves_dates c.args.recorded.now c.answer.new.self _ c.in_ok-answer.answer c.args.draft.now _ c.in-Found.place c.moment-moment.result c.in-Found.response c.in-Found.is c.get.ensures
    c.in_ok-answer.ensures.answer c.in_ok-answer.ensures.after c.moment-moment.ensures made)
    c.put_found.ensures
