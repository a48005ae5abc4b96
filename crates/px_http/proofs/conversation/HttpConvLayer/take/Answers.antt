use Rattle.std.proofs.Common.{◌≤◌, arith}
use Rattle.std.proofs.lemmas.Result.{on_ok_weaker}
use Rattle.px_event.specs.Layer.{Took}
use Rattle.px_event.proofs.Steps.{sound_after}
use Rattle.px_stream.specs.Tells.{sequence_left}
use Rattle.px_http.specs.Stands.{HttpStands, somewhere}
use Rattle.px_http.specs.declared.conversation.HttpConv.{HttpConv}
use Rattle.px_http.proofs.CallLemmas.{take_goes_on}
use Rattle.px_http.proofs.conversation.HttpConvLayer.take.Goals as goal

pub take_anywhere-requires-clause-somewhere : goal.take_anywhere-requires-clause-somewhere
take_anywhere-requires-clause-somewhere c = somewhere c.args.self.now c.requires.sound

pub take_anywhere-requires-clause-free : goal.take_anywhere-requires-clause-free
take_anywhere-requires-clause-free c = c.requires.free

pub returns-clause-goes : goal.returns-clause-goes
returns-clause-goes c = on_ok_weaker c.take_anywhere.result
    (take_goes_on c.args.self.now (record { stream = c.take_anywhere.new.self }) c.args.moment c.args.event c.args.out.now.items c.take_anywhere.new.out.items) c.take_anywhere.ensures.takes

pub returns-clause-sound : goal.returns-clause-sound
returns-clause-sound c =
    let after : HttpConv = record { stream = c.take_anywhere.new.self } in
    on_ok_weaker c.take_anywhere.result
    (λ call. sound_after HttpStands c.args.self.now after (Took c.args.moment c.args.event) c.args.out.now.items c.take_anywhere.new.out.items c.requires.sound
    (take_goes_on c.args.self.now after c.args.moment c.args.event c.args.out.now.items c.take_anywhere.new.out.items call)) c.take_anywhere.ensures.takes

pub returns-clause-asks : goal.returns-clause-asks
returns-clause-asks c = c.take_anywhere.ensures.asks

pub returns-clause-left : goal.returns-clause-left
returns-clause-left c = on_ok_weaker c.take_anywhere.result (λ (l : sequence_left c.take_anywhere.new.self ≤ sequence_left c.args.self.now.stream). omega arith) c.take_anywhere.ensures.left
