use Rattle.std.proofs.Common.{◌∙◌, ◌≡◌, Result, ap, subst, sym}
use Rattle.px_head.specs.declared.front.Kind.TheVariants as kind
use Rattle.px_message.specs.declared.length.Length.{Length}
use Rattle.px_message.specs.declared.fault.Fault.{Fault}
use Rattle.px_read.specs.Heads.{request_body_length}
use Rattle.px_read.specs.Reader.{State, at_head, request, IsTurn}
use Rattle.px_read.specs.Stages.{seen_as, state_at, request_place}
use Rattle.px_read.specs.declared.head.RequestHead.{RequestHead}
use Rattle.px_read.specs.declared.message_reader.stage.MessageTurn.{MessageTurn}
use Rattle.px_read.specs.declared.part.Part.TheVariants as part
use Rattle.px_read.proofs.HeadLemmas.{finds, waits, is_too_long, is_bad, request-parts, request-waits, request-too_long, request-bad, request-gives}
use Rattle.px_read.proofs.message_reader.head.take_request.Goals as goal

pub read_request_head-requires : goal.read_request_head-requires
read_request_head-requires c =
    request-parts c.args.reader c.take_request.new.self c.in-Head.raw
    (finds kind.Request c.args.reader c.take_request.new.self c.in-Head.raw c.requires.going
    (sym c.in-Head.is ∙ c.in_ok-take_request.ensures.found) c.in_ok-take_request.ensures.state)

pub returns-in-Partial-clause-turn : goal.returns-in-Partial-clause-turn
returns-in-Partial-clause-turn c =
    request-waits c.args.reader c.take_request.new.self c.args.closed
    (waits kind.Request c.args.reader c.take_request.new.self c.requires.going
    (sym c.in-Partial.is ∙ c.in_ok-take_request.ensures.found) c.in_ok-take_request.ensures.state)

pub returns-in_ok-rest_of-in-TooLong-clause-turn : goal.returns-in_ok-rest_of-in-TooLong-clause-turn
returns-in_ok-rest_of-in-TooLong-clause-turn c =
    subst
    (λ (t : MessageTurn). IsTurn (state_at (at_head request) c.args.reader.rest c.args.closed) t.part (seen_as t.stage t.rest c.args.closed))
    (sym c.refuse.ensures)
    (request-too_long c.args.reader c.take_request.new.self c.in_ok-rest_of-in-TooLong.field-0 c.args.closed
    (is_too_long kind.Request c.args.reader c.take_request.new.self c.requires.going
    (sym c.in-TooLong.is ∙ c.in_ok-take_request.ensures.found) c.in_ok-take_request.ensures.state)
    c.in_ok-rest_of-in-TooLong.ensures)

pub returns-in_ok-rest_of-in-BadHead-clause-turn : goal.returns-in_ok-rest_of-in-BadHead-clause-turn
returns-in_ok-rest_of-in-BadHead-clause-turn c =
    subst
    (λ (t : MessageTurn). IsTurn (state_at (at_head request) c.args.reader.rest c.args.closed) t.part (seen_as t.stage t.rest c.args.closed))
    (sym c.refuse-in-BadHead.ensures)
    (request-bad c.args.reader c.take_request.new.self c.in_ok-rest_of-in-BadHead.field-0 c.args.closed
    (is_bad kind.Request c.args.reader c.take_request.new.self c.requires.going
    (sym c.in-BadHead.is ∙ c.in_ok-take_request.ensures.found) c.in_ok-take_request.ensures.state)
    c.in_ok-rest_of-in-BadHead.ensures)

pub returns-in_ok-head-in-Head-clause-turn : goal.returns-in_ok-head-in-Head-clause-turn
returns-in_ok-head-in-Head-clause-turn c =
    let head : RequestHead = c.in_ok-head-in-Head.head in
    let raw = c.in-Head.raw in
    let rest = c.in_ok-rest-in-Head.rest in
    let seen : seen_as c.behind_request-stage.result rest c.args.closed ≡ state_at (request_place (request_body_length raw.first raw.pairs)) rest c.args.closed =
    c.behind_request-stage.ensures.seen rest c.args.closed
    ∙ ap (λ (framing : Result Length Fault). state_at (request_place framing) rest c.args.closed)
    (c.length_behind.ensures ∙ ap (λ (h : RequestHead). request_body_length h.method h.fields) c.in_ok-head-in-Head.ensures) in
    subst (λ (s : State). IsTurn (state_at (at_head request) c.args.reader.rest c.args.closed) (part.Request head) s) (sym seen)
    (subst
    (λ (h : RequestHead). IsTurn (state_at (at_head request) c.args.reader.rest c.args.closed) (part.Request h) (state_at (request_place (request_body_length raw.first raw.pairs)) rest c.args.closed))
    (sym c.in_ok-head-in-Head.ensures)
    (request-gives c.args.reader c.take_request.new.self raw rest c.args.closed
    (finds kind.Request c.args.reader c.take_request.new.self raw c.requires.going
    (sym c.in-Head.is ∙ c.in_ok-take_request.ensures.found) c.in_ok-take_request.ensures.state)
    c.in_ok-rest-in-Head.ensures))
