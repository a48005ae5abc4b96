use Rattle.std.proofs.Common.{refl, sym, ap, ◌∙◌}
use Rattle.std.proofs.lemmas.Result.{on_ok_weaker}
use Rattle.px_stream.specs.Stands.{awaited_in}
use Rattle.px_stream.proofs.CallLemmas.{ended, heard_event, heard_may, may_hear_now, take_somewhere, take_somewhere_asks, take_somewhere_left}
use Rattle.px_stream.proofs.stream.Stream.take_anywhere.Goals as goal

pub returns-then-ended-clause-takes : goal.returns-then-ended-clause-takes
returns-then-ended-clause-takes c =
    take_somewhere c.args.self.now c.args.self.now c.args.moment c.args.event.now c.args.out.now.items c.args.out.now.items c.requires.somewhere (ended (sym c.ended.ensures ∙ c.if-ended.true) refl refl)

pub returns-then-ended-clause-asks : goal.returns-then-ended-clause-asks
returns-then-ended-clause-asks c =
    take_somewhere_asks c.args.self.now c.args.self.now c.args.moment c.args.event.now c.args.out.now.items c.args.out.now.items c.requires.somewhere (ended (sym c.ended.ensures ∙ c.if-ended.true) refl refl)

pub returns-then-ended-clause-left : goal.returns-then-ended-clause-left
returns-then-ended-clause-left c =
    take_somewhere_left c.args.self.now c.args.self.now c.args.moment c.args.event.now c.args.out.now.items c.args.out.now.items c.requires.somewhere (ended (sym c.ended.ensures ∙ c.if-ended.true) refl refl)

pub hear_told-requires-clause-open_still : goal.hear_told-requires-clause-open_still
hear_told-requires-clause-open_still c = (may_hear_now c.args.self.now c.args.event.now c.requires.somewhere c.requires.free (sym c.ended.ensures ∙ c.if-ended.false)).open_still

pub hear_told-requires-clause-agrees : goal.hear_told-requires-clause-agrees
hear_told-requires-clause-agrees c = (may_hear_now c.args.self.now c.args.event.now c.requires.somewhere c.requires.free (sym c.ended.ensures ∙ c.if-ended.false)).agrees

pub take_looked-ready-requires : goal.take_looked-ready-requires
take_looked-ready-requires c = ap awaited_in c.hear_told.ensures.phase ∙ c.requires.free

pub advance-requires-clause-goes_up : goal.advance-requires-clause-goes_up
advance-requires-clause-goes_up c =
    (heard_may c.args.self.now c.hear_told.new.self c.args.event.now c.take_looked-ready.result c.requires.somewhere (sym c.hear_told.ensures.phase ∙ c.take_looked-ready.ensures) (sym c.ended.ensures ∙ c.if-ended.false) c.in_ok-hear_told.ensures.hears).goes_up

pub advance-requires-clause-passes : goal.advance-requires-clause-passes
advance-requires-clause-passes c =
    (heard_may c.args.self.now c.hear_told.new.self c.args.event.now c.take_looked-ready.result c.requires.somewhere (sym c.hear_told.ensures.phase ∙ c.take_looked-ready.ensures) (sym c.ended.ensures ∙ c.if-ended.false) c.in_ok-hear_told.ensures.hears).passes

pub advance-requires-clause-looks : goal.advance-requires-clause-looks
advance-requires-clause-looks c =
    (heard_may c.args.self.now c.hear_told.new.self c.args.event.now c.take_looked-ready.result c.requires.somewhere (sym c.hear_told.ensures.phase ∙ c.take_looked-ready.ensures) (sym c.ended.ensures ∙ c.if-ended.false) c.in_ok-hear_told.ensures.hears).looks

pub returns-clause-takes : goal.returns-clause-takes
returns-clause-takes c = on_ok_weaker c.advance.result
    (λ once. take_somewhere c.args.self.now c.advance.new.self c.args.moment c.args.event.now c.args.out.now.items c.advance.new.out.items c.requires.somewhere
    (heard_event c.args.self.now c.hear_told.new.self c.advance.new.self _ c.args.moment c.args.event.now c.take_looked-ready.result c.args.out.now.items c.hear_told.new.out.items c.advance.new.out.items
    (sym c.hear_told.ensures.phase ∙ c.take_looked-ready.ensures) (sym c.ended.ensures ∙ c.if-ended.false) c.in_ok-hear_told.ensures.hears c.in_ok-hear_told.ensures.gives once)) c.advance.ensures

pub returns-clause-asks : goal.returns-clause-asks
returns-clause-asks c = on_ok_weaker c.advance.result
    (λ once. take_somewhere_asks c.args.self.now c.advance.new.self c.args.moment c.args.event.now c.args.out.now.items c.advance.new.out.items c.requires.somewhere
    (heard_event c.args.self.now c.hear_told.new.self c.advance.new.self _ c.args.moment c.args.event.now c.take_looked-ready.result c.args.out.now.items c.hear_told.new.out.items c.advance.new.out.items
    (sym c.hear_told.ensures.phase ∙ c.take_looked-ready.ensures) (sym c.ended.ensures ∙ c.if-ended.false) c.in_ok-hear_told.ensures.hears c.in_ok-hear_told.ensures.gives once)) c.advance.ensures

pub returns-clause-left : goal.returns-clause-left
returns-clause-left c = on_ok_weaker c.advance.result
    (λ once. take_somewhere_left c.args.self.now c.advance.new.self c.args.moment c.args.event.now c.args.out.now.items c.advance.new.out.items c.requires.somewhere
    (heard_event c.args.self.now c.hear_told.new.self c.advance.new.self _ c.args.moment c.args.event.now c.take_looked-ready.result c.args.out.now.items c.hear_told.new.out.items c.advance.new.out.items
    (sym c.hear_told.ensures.phase ∙ c.take_looked-ready.ensures) (sym c.ended.ensures ∙ c.if-ended.false) c.in_ok-hear_told.ensures.hears c.in_ok-hear_told.ensures.gives once)) c.advance.ensures
