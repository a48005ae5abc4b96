use Rattle.std.proofs.Common.{◌≤◌, List, ap, sym, ◌∙◌}
use Rattle.rand_chacha.specs.ChaCha.{key_of}
use Rattle.px_message.specs.declared.flow.Flow.{Flow}
use Rattle.px_event.specs.declared.command.Command.{Command}
use Rattle.px_event.specs.declared.event.Rests.{Rests}
use Rattle.px_http.specs.declared.conversation.HttpConv.{HttpConv}
use Rattle.px_stream.specs.Tells.{phase_flow, side_rest, upgraded_side, uses_side}
use Rattle.px_stack.specs.declared.closing.Sides.{Sides}
use Rattle.px_stack.specs.Kept.{left_by, most_asked}
use Rattle.px_stack.specs.Steps.{Adds, Follows, GoesOnAs}
use Rattle.px_stack.proofs.FollowLemmas.{asks_behind, two_ok, upgraded_flow, upgrades}
use Rattle.px_stack.proofs.following.upgrade.Goals as goal

pub returns-clause-follows : goal.returns-clause-follows
returns-clause-follows c =
    let flows : HttpConv = c.args.http.value in
    let sides : Sides = c.read_sides-sides.result in
    let rests : Rests = c.in_ok-rests.rests in
    let out : List Command = c.args.out.now.items in
    let longer : List Command = c.go_on_as.new.out.items in
    let flow : Flow = c.in-Some.flow in
    let key = key_of c.args.means.mask_key in
    two_ok c.go_on_as.result (λ child. Adds (GoesOnAs key c.args.moment sides rests flow child) out longer) (λ child. left_by child ≤ most_asked)
    (λ child. Adds (Follows key c.args.moment flows child) out longer) c.go_on_as.ensures.follows c.go_on_as.ensures.left
    (λ child adds few. record {
      more = adds.more;
      grown = adds.grown;
      holds = upgrades key c.args.moment flows sides rests flow child adds.more c.requires
          (ap (λ (h : HttpConv). upgraded_side h.stream.phase h.stream.side) (sym c.deref.ensures) ∙ c.read_sides-sides.ensures.server)
          (c.read_sides-sides.ensures.closed ∙ ap (λ (h : HttpConv). h.stream.client_closed) c.deref.ensures)
          (c.in_ok-rests.ensures.client ∙ ap (λ (h : HttpConv). h.stream.requests.rest) c.into_inner.ensures)
          (c.in_ok-rests.ensures.server ∙ ap (λ (h : HttpConv). side_rest (uses_side h.stream.phase) h.stream.side) c.into_inner.ensures)
          (sym c.in-Some.is ∙ (c.in_ok-rests.ensures.flow ∙ ap (λ (h : HttpConv). phase_flow h.stream.phase) c.into_inner.ensures))
          few adds.holds;
    })

pub unreachable-requires : goal.unreachable-requires
unreachable-requires c =
    upgraded_flow c.args.http.value.stream.phase c.requires
    (ap (λ (h : HttpConv). phase_flow h.stream.phase) (sym c.into_inner.ensures) ∙ (sym c.in_ok-rests.ensures.flow ∙ c.in-None.is))

pub returns-clause-asks : goal.returns-clause-asks
returns-clause-asks c = asks_behind c.args.http.value c.args.out.now.items c.go_on_as.new.out.items c.go_on_as.result c.requires c.go_on_as.ensures.asks
