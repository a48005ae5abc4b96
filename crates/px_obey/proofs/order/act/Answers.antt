use Rattle.std.proofs.Common.{refl}
use Rattle.px_core.specs.declared.operation.OperateError.TheVariants as refused
use Rattle.px_core.specs.Answers.{files_meaning}
use Rattle.px_obey.proofs.OrderLemmas.{breaks_operated, goes_operated, goes_refused, judged_as, kept_stands, other_than, state_as, tabled}
use Rattle.px_obey.proofs.order.act.Goals as goal

pub operate_over-requires : goal.operate_over-requires
operate_over-requires g c = record { sound = λ healthy. tabled g.C.Conversation.stands g.C.Conversation.awaited g.C.Conversation.number g.C.Owes.due g.A.Answerer.answers _ _ _ c.requires.sound }

pub returns-in-Ok-clause-ok : goal.returns-in-Ok-clause-ok
returns-in-Ok-clause-ok g c = goes_operated c.args.operation.now (λ due course trace stands now. c.in-Ok.ensures.ok due course trace stands now)
    (λ due course trace stands. c.in-Ok.ensures.done due course trace stands) c.in-Ok.ensures.moves c.in-Ok.ensures.taken

pub returns-in-Err-NoSuchFlow-clause-ok : goal.returns-in-Err-NoSuchFlow-clause-ok
returns-in-Err-NoSuchFlow-clause-ok g c =
    let other = other_than _ refused.NoSuchFlow refl c.in-Err-NoSuchFlow.field-0-is in
    let kept = c.in-Err-NoSuchFlow.ensures.unchanged other in
    let same = state_as (files_meaning g.F.Files.contents g.F.Files.calls g.F.Files.misses g.F.Files.faults g.F.Files.losses) _ _ _ _ kept.0.own kept.1 in
    goes_refused c.args.operation.now refused.NoSuchFlow (λ due course trace stands. judged_as c.in-Err-NoSuchFlow.field-0-is (c.in-Err-NoSuchFlow.ensures.refused due course trace stands other))
    (kept_stands g.C.Conversation.stands g.C.Conversation.awaited g.C.Conversation.number g.C.Owes.due g.A.Answerer.answers _ _ _ _ same kept.0.table) same kept.2 kept.3

pub returns-in-Err-NotWaiting-clause-ok : goal.returns-in-Err-NotWaiting-clause-ok
returns-in-Err-NotWaiting-clause-ok g c =
    let other = other_than _ refused.NotWaiting refl c.in-Err-NotWaiting.field-0-is in
    let kept = c.in-Err-NotWaiting.ensures.unchanged other in
    let same = state_as (files_meaning g.F.Files.contents g.F.Files.calls g.F.Files.misses g.F.Files.faults g.F.Files.losses) _ _ _ _ kept.0.own kept.1 in
    goes_refused c.args.operation.now refused.NotWaiting (λ due course trace stands. judged_as c.in-Err-NotWaiting.field-0-is (c.in-Err-NotWaiting.ensures.refused due course trace stands other))
    (kept_stands g.C.Conversation.stands g.C.Conversation.awaited g.C.Conversation.number g.C.Owes.due g.A.Answerer.answers _ _ _ _ same kept.0.table) same kept.2 kept.3

pub returns-in-Err-NotThere-clause-ok : goal.returns-in-Err-NotThere-clause-ok
returns-in-Err-NotThere-clause-ok g c =
    let other = other_than _ refused.NotThere refl c.in-Err-NotThere.field-0-is in
    let kept = c.in-Err-NotThere.ensures.unchanged other in
    let same = state_as (files_meaning g.F.Files.contents g.F.Files.calls g.F.Files.misses g.F.Files.faults g.F.Files.losses) _ _ _ _ kept.0.own kept.1 in
    goes_refused c.args.operation.now refused.NotThere (λ due course trace stands. judged_as c.in-Err-NotThere.field-0-is (c.in-Err-NotThere.ensures.refused due course trace stands other))
    (kept_stands g.C.Conversation.stands g.C.Conversation.awaited g.C.Conversation.number g.C.Owes.due g.A.Answerer.answers _ _ _ _ same kept.0.table) same kept.2 kept.3

pub returns-in-Err-BadValue-clause-ok : goal.returns-in-Err-BadValue-clause-ok
returns-in-Err-BadValue-clause-ok g c =
    let other = other_than _ refused.BadValue refl c.in-Err-BadValue.field-0-is in
    let kept = c.in-Err-BadValue.ensures.unchanged other in
    let same = state_as (files_meaning g.F.Files.contents g.F.Files.calls g.F.Files.misses g.F.Files.faults g.F.Files.losses) _ _ _ _ kept.0.own kept.1 in
    goes_refused c.args.operation.now refused.BadValue (λ due course trace stands. judged_as c.in-Err-BadValue.field-0-is (c.in-Err-BadValue.ensures.refused due course trace stands other))
    (kept_stands g.C.Conversation.stands g.C.Conversation.awaited g.C.Conversation.number g.C.Owes.due g.A.Answerer.answers _ _ _ _ same kept.0.table) same kept.2 kept.3

pub returns-in-Err-NoSuchAddon-clause-ok : goal.returns-in-Err-NoSuchAddon-clause-ok
returns-in-Err-NoSuchAddon-clause-ok g c =
    let other = other_than _ refused.NoSuchAddon refl c.in-Err-NoSuchAddon.field-0-is in
    let kept = c.in-Err-NoSuchAddon.ensures.unchanged other in
    let same = state_as (files_meaning g.F.Files.contents g.F.Files.calls g.F.Files.misses g.F.Files.faults g.F.Files.losses) _ _ _ _ kept.0.own kept.1 in
    goes_refused c.args.operation.now refused.NoSuchAddon (λ due course trace stands. judged_as c.in-Err-NoSuchAddon.field-0-is (c.in-Err-NoSuchAddon.ensures.refused due course trace stands other))
    (kept_stands g.C.Conversation.stands g.C.Conversation.awaited g.C.Conversation.number g.C.Owes.due g.A.Answerer.answers _ _ _ _ same kept.0.table) same kept.2 kept.3

pub returns-in-Err-NoMemory-clause-err : goal.returns-in-Err-NoMemory-clause-err
returns-in-Err-NoMemory-clause-err g c =
    breaks_operated c.args.operation.now (λ due course trace told stands now is. c.in-Err-NoMemory.ensures.breaks due course trace told stands now is c.in-Err-NoMemory.field-0-is) c.operate_over.ensures.files
