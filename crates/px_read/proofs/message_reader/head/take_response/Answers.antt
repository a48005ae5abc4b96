use Rattle.std.proofs.Common.{◌∙◌, ◌≡◌, ap, subst, sym, refl}
use Rattle.px_head.specs.declared.front.Kind.TheVariants as kind
use Rattle.px_message.specs.Length.{response_length}
use Rattle.px_message.specs.declared.fault.Fault.TheVariants.{BadResponse}
use Rattle.px_read.specs.Heads.{code_of, response_head}
use Rattle.px_read.specs.Reader.{State, at_head, response, IsTurn}
use Rattle.px_read.specs.Stages.{seen_as, state_at, answered}
use Rattle.px_read.specs.declared.head.ResponseHead.{ResponseHead}
use Rattle.px_read.specs.declared.message_reader.stage.MessageTurn.{MessageTurn}
use Rattle.px_read.specs.declared.message_reader.stage.MessageStage.TheVariants as stage
use Rattle.px_read.specs.declared.part.Part.{Part}
use Rattle.px_read.specs.declared.part.Part.TheVariants as part
use Rattle.px_read.proofs.ReaderLemmas.{turn-made}
use Rattle.px_read.proofs.HeadLemmas.{finds, waits, is_too_long, is_bad, response-parts, response-waits, response-cut, response-too_long, response-bad, response-gives}
use Rattle.px_read.proofs.message_reader.head.take_response.Goals as goal

pub read_response_head-requires : goal.read_response_head-requires
read_response_head-requires c =
    response-parts c.args.reader c.take_response.new.self c.in-Head.raw
    (finds kind.Response c.args.reader c.take_response.new.self c.in-Head.raw c.requires.going
    (sym c.in-Head.is ∙ c.in_ok-take_response.ensures.found) c.in_ok-take_response.ensures.state)

pub returns-in_ok-rest_of-in-Partial-clause-turn : goal.returns-in_ok-rest_of-in-Partial-clause-turn
returns-in_ok-rest_of-in-Partial-clause-turn c =
    subst
    (λ (t : MessageTurn). IsTurn (state_at (at_head (response c.args.asked_head)) c.args.reader.rest c.args.closed) t.part (seen_as t.stage t.rest c.args.closed))
    (sym c.refuse.ensures)
    (response-cut c.args.reader c.take_response.new.self c.in_ok-rest_of-in-Partial.field-0 c.args.asked_head c.args.closed
    (waits kind.Response c.args.reader c.take_response.new.self c.requires.going
    (sym c.in-Partial.is ∙ c.in_ok-take_response.ensures.found) c.in_ok-take_response.ensures.state)
    c.if-closed.true c.in_ok-rest_of-in-Partial.ensures)

pub returns-in-Partial-2-clause-turn : goal.returns-in-Partial-2-clause-turn
returns-in-Partial-2-clause-turn c =
    response-waits c.args.reader c.take_response.new.self c.args.asked_head c.args.closed
    (waits kind.Response c.args.reader c.take_response.new.self c.requires.going
    (sym c.in-Partial-2.is ∙ c.in_ok-take_response.ensures.found) c.in_ok-take_response.ensures.state)
    c.if-closed.false

pub returns-in-TooLong-clause-turn : goal.returns-in-TooLong-clause-turn
returns-in-TooLong-clause-turn c =
    let rest = c.take_response.new.self.rest in
    turn-made c.refuse_response.result
    (record { part = part.Bad BadResponse; stage = stage.Refused BadResponse; rest = rest })
    (state_at (at_head (response c.args.asked_head)) c.args.reader.rest c.args.closed) c.args.closed
    (response-too_long c.args.reader c.take_response.new.self rest c.args.asked_head c.args.closed
    (is_too_long kind.Response c.args.reader c.take_response.new.self c.requires.going
    (sym c.in-TooLong.is ∙ c.in_ok-take_response.ensures.found) c.in_ok-take_response.ensures.state) refl)
    c.refuse_response.ensures

pub returns-in-BadHead-clause-turn : goal.returns-in-BadHead-clause-turn
returns-in-BadHead-clause-turn c =
    let rest = c.take_response.new.self.rest in
    turn-made c.refuse_response-in-BadHead.result
    (record { part = part.Bad BadResponse; stage = stage.Refused BadResponse; rest = rest })
    (state_at (at_head (response c.args.asked_head)) c.args.reader.rest c.args.closed) c.args.closed
    (response-bad c.args.reader c.take_response.new.self rest c.args.asked_head c.args.closed
    (is_bad kind.Response c.args.reader c.take_response.new.self c.requires.going
    (sym c.in-BadHead.is ∙ c.in_ok-take_response.ensures.found) c.in_ok-take_response.ensures.state) refl)
    c.refuse_response-in-BadHead.ensures

pub returns-in_ok-head-in-Head-clause-turn : goal.returns-in_ok-head-in-Head-clause-turn
returns-in_ok-head-in-Head-clause-turn c =
    let raw = c.in-Head.raw in
    let rest = c.in_ok-rest-in-Head.rest in
    let turn = c.give_response.result in
    let gave : (turn.part, seen_as turn.stage turn.rest c.args.closed)
    ≡ answered (response_length (code_of raw) c.args.asked_head raw.pairs) (response_head raw) rest c.args.closed =
    c.give_response.ensures.turn c.args.closed
    ∙ ap (λ (h : ResponseHead). answered (response_length h.code c.args.asked_head h.fields) h rest c.args.closed) c.in_ok-head-in-Head.ensures in
    subst (λ (p : Part × State). IsTurn (state_at (at_head (response c.args.asked_head)) c.args.reader.rest c.args.closed) p.0 p.1) (sym gave)
    (response-gives c.args.reader c.take_response.new.self raw rest c.args.asked_head c.args.closed
    (finds kind.Response c.args.reader c.take_response.new.self raw c.requires.going
    (sym c.in-Head.is ∙ c.in_ok-take_response.ensures.found) c.in_ok-take_response.ensures.state)
    c.in_ok-rest-in-Head.ensures)
