use Rattle.std.proofs.Common.{List, sym, ◌∙◌, subst, refl, ap, arith, sum_by}
use Rattle.px_event.specs.declared.event.Event.{Event}
use Rattle.std.proofs.lemmas.List.Sums.{sum_by-cons}
use Rattle.px_event.specs.Layer.{weight}
use Rattle.px_gate.proofs.GateLaws.{AlongQueue, empty_of, free_of, open_of, along_start, along_step, along_open, along_empty, left_step}
use Rattle.px_gate.proofs.gate.Gate.work_off.Goals as goal

pub loop-self-init : goal.loop-self-init
loop-self-init g c = record {
  along = along_start g.L.Layer.stands g.L.Layer.awaited c.args.moment c.args.self.now.layer c.args.self.now.queue.items c.args.out.now.items c.requires.news;
  sound = c.requires.sound;
  within = omega arith;
  same_rate = refl;
}

pub returns-in_default-clause-works : goal.returns-in_default-clause-works
returns-in_default-clause-works g c =
    let P : List Event → Type 0 = λ q. AlongQueue g.L.Layer.stands g.L.Layer.awaited c.args.moment c.args.self.now.layer c.args.self.now.queue.items c.loop-self.self.layer q c.args.out.now.items c.loop-self.out.items in
    along_empty g.L.Layer.stands g.L.Layer.awaited c.args.moment c.args.self.now _ _ _ (subst P c.in_default.ensures.items c.loop-self.invariant.along) (empty_of _ (sym c.pop_front.new.self.ok.0 ∙ c.in_default.ensures.cases.1))

pub loop-self-preserved : goal.loop-self-preserved
loop-self-preserved g c =
    let free = free_of c.waiting.result _ c.is_none.result c.is_none.ensures c.waiting.ensures c.loop-self-test.true in
    let popped = c.in-Some.ensures.items in
    let before = c.loop-self.invariant in
    let P : List Event → Type 0 = λ q. AlongQueue g.L.Layer.stands g.L.Layer.awaited c.args.moment c.args.self.now.layer c.args.self.now.queue.items c.loop-self.self.layer q c.args.out.now.items c.loop-self.out.items in
    let along = subst P popped before.along in
    record {
      along = along_step g.L.Layer.stands g.L.Layer.awaited c.args.moment c.args.self.now.layer c.args.self.now.queue.items c.loop-self.self.layer c.take.new.self c.in-Some.event c.pop_front.new.self.items
          c.args.out.now.items c.loop-self.out.items c.take.new.out.items along free c.in_ok-take.ensures.goes c.in_ok-take.ensures.asks;
      sound = c.in_ok-take.ensures.sound;
      within = left_step _ _ _ _ (weight c.in-Some.event) (sum_by weight c.loop-self.self.queue.items) _ _ c.in_ok-take.ensures.left c.in_ok-take.ensures.rate (ap (sum_by weight) popped ∙ sum_by-cons weight c.in-Some.event c.pop_front.new.self.items) before.within;
      same_rate = c.in_ok-take.ensures.rate ∙ before.same_rate;
    }

pub returns-clause-works : goal.returns-clause-works
returns-clause-works g c =
    let open_ask = open_of c.waiting.result _ c.is_none.result c.is_none.ensures c.waiting.ensures c.loop-self-test.false in
    along_open g.L.Layer.stands g.L.Layer.awaited c.args.moment c.args.self.now c.loop-self.self open_ask.0 _ _ c.loop-self.invariant.along open_ask.1
