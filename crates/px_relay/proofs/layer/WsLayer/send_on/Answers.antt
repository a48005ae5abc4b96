use Rattle.std.proofs.Common.{◌≡◌, ◌++◌, subst}
use Rattle.px_relay.specs.Calls.{keys_behind_all, sent_by, with_keys}
use Rattle.px_relay.specs.Messages.{message_frames}
use Rattle.px_relay.proofs.ReplyLemmas.{sends_by}
use Rattle.px_relay.proofs.layer.WsLayer.send_on.Goals as goal

pub returns-clause-sends : goal.returns-clause-sends
returns-clause-sends c =
    let before = c.args.self.now.sender in
    let after = c.send_message.new.self in
    let held = c.args.held.now in
    let frames = message_frames held.message c.args.payload.now in
    let sender = subst (λ t. after ≡ with_keys before (keys_behind_all t before.keys frames)) c.other.ensures c.in_ok-send_message.ensures.sender in
    let gives = subst (λ t. c.send_message.new.out.items ≡ c.args.out.now.items ++ sent_by before t frames) c.other.ensures c.in_ok-send_message.ensures.gives in
    sends_by c.go_on_from.result held.from frames c.args.self.now c.go_on_from.new.self after c.args.out.now.items c.send_message.new.out.items
    c.go_on_from.new.out.items sender gives c.go_on_from.ensures.goes c.go_on_from.ensures.rests
