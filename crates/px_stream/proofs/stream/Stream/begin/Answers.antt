use Rattle.std.proofs.Common.{ap, ◌∙◌}
use Rattle.std.proofs.lemmas.Result.{on_ok_weaker}
use Rattle.px_stream.specs.declared.stream.Stream.{Stream}
use Rattle.px_stream.proofs.AnywhereLemmas.{begin_asks, begin_left, begins_with}
use Rattle.px_stream.proofs.stream.Stream.begin.Goals as goal

pub returns-clause-begins : goal.returns-clause-begins
returns-clause-begins c =
    let heard = c.in_ok-hear_parked.ensures.hears in
    on_ok_weaker c.advance.result
    (begins_with c.args.self.now c.hear_parked.new.self c.advance.new.self c.args.moment c.args.closed c.args.rest.now c.args.waiting.now c.args.out.now.items c.hear_parked.new.out.items c.advance.new.out.items c.requires.new
    (ap (λ (s : Stream). s.terms) heard) (ap (λ (s : Stream). s.at) heard) (ap (λ (s : Stream). s.client_closed) heard) (ap (λ (s : Stream). s.requests) heard ∙ c.in_ok-feed.ensures.state) (ap (λ (s : Stream). s.side) heard)
    c.in_ok-hear_parked.ensures.gives) c.advance.ensures

pub returns-clause-asks : goal.returns-clause-asks
returns-clause-asks c =
    let heard = c.in_ok-hear_parked.ensures.hears in
    on_ok_weaker c.advance.result
    (begin_asks c.args.self.now c.hear_parked.new.self c.advance.new.self c.args.moment c.args.closed c.args.rest.now c.args.waiting.now c.args.out.now.items c.hear_parked.new.out.items c.advance.new.out.items c.requires.new
    (ap (λ (s : Stream). s.terms) heard) (ap (λ (s : Stream). s.at) heard) (ap (λ (s : Stream). s.client_closed) heard) (ap (λ (s : Stream). s.requests) heard ∙ c.in_ok-feed.ensures.state) (ap (λ (s : Stream). s.side) heard)
    c.in_ok-hear_parked.ensures.gives) c.advance.ensures

pub returns-clause-left : goal.returns-clause-left
returns-clause-left c =
    let heard = c.in_ok-hear_parked.ensures.hears in
    on_ok_weaker c.advance.result
    (begin_left c.args.self.now c.hear_parked.new.self c.advance.new.self c.args.moment c.args.closed c.args.rest.now c.args.waiting.now c.args.out.now.items c.hear_parked.new.out.items c.advance.new.out.items c.requires.new
    (ap (λ (s : Stream). s.terms) heard) (ap (λ (s : Stream). s.at) heard) (ap (λ (s : Stream). s.client_closed) heard) (ap (λ (s : Stream). s.requests) heard ∙ c.in_ok-feed.ensures.state) (ap (λ (s : Stream). s.side) heard)
    c.in_ok-hear_parked.ensures.gives) c.advance.ensures
