use Rattle.std.proofs.Common.{◌≡◌, ◌∙◌, ℕ, false, Option, Some, sym, subst}
use Rattle.px_event.specs.Trace.{Trace}
use Rattle.px_core.specs.Answers.{files_meaning}
use Rattle.px_app.specs.declared.saving.Saving.{Saving}
use Rattle.px_app.specs.declared.status.Status.{Status}
use Rattle.px_app.specs.Over.{goes_none}
use Rattle.px_app.specs.Run.{Told, ToldOn}
use Rattle.px_app.specs.Saved.{saves_to_of}
use Rattle.px_app.specs.Serving.{Between, BrokeOff, Ran, RestsNow}
use Rattle.px_app.proofs.BeginLemmas.{by_saving, goes_begun}
use Rattle.px_app.proofs.GoesLemmas.{goes_both, leaves_both, leaves_whole}
use Rattle.px_app.proofs.NetLemmas.{adds_told}
use Rattle.px_app.proofs.RunLemmas.{if_err_by}
use Rattle.px_app.proofs.StepLemmas.{goes_next, goes_saving, leaves_saving, tells_ended, tells_error, tells_memory_next}
use Rattle.px_app.proofs.serving.Serving.hear.Goals as goal

pub returns-in_err-moment-clause-err : goal.returns-in_err-moment-clause-err
returns-in_err-moment-clause-err g c = λ due first start trace budget owes between told below.
    if_err_by c.from_residual.result _ _ c.from_residual.ensures.1
    (λ status same. tells_error g.C.Conversation.stands g.C.Conversation.awaited g.C.Conversation.number g.C.Owes.due g.met.C.Owes.gave g.C.Owes.grows g.A.Answerer.answers g.A.Answerer.drops g.A.Answerer.names
    g.A.Answerer.fails due first (saves_to_of c.args.self.now.saving) c.args.self.now.router c.args.self.now.operators c.args.self.now.printing c.args.self.now.replaying budget _ start _ trace _ status _ between
    (c.in_err-moment.ensures.err ∙ told) below same)

pub returns-in_err-over-clause-err : goal.returns-in_err-over-clause-err
returns-in_err-over-clause-err g c = λ due first start trace budget owes between told below.
    let heard = adds_told _ _ _ trace told c.in_ok-moment.ensures.heard in
    let now = files_meaning g.F.Files.contents g.F.Files.calls g.F.Files.misses g.F.Files.faults g.F.Files.losses c.take.new.files in
    let P : Status → Type 0 = λ status. Told (Ran g.A.Answerer.answers g.A.Answerer.drops g.A.Answerer.names g.A.Answerer.fails due first (saves_to_of c.args.self.now.saving) budget status c.take.new.self.printing now (g.M.Maker.alone c.args.self.now.maker) start (g.S.Sink.written c.take.new.out)) (g.N.Net.trace c.take.new.net) in
    if_err_by c.from_residual-in_err-over.result _ _ c.from_residual-in_err-over.ensures.1
    (λ status same. subst P (sym same)
    (tells_memory_next g.C.Conversation.stands g.C.Conversation.awaited g.C.Conversation.number g.C.Owes.due g.met.C.Owes.gave g.C.Owes.grows g.A.Answerer.answers g.A.Answerer.drops g.A.Answerer.names
    g.A.Answerer.fails due first (saves_to_of c.args.self.now.saving) c.take.new.self.printing budget _ start _ trace _ below (c.in_err-over.ensures.err due first start trace owes between heard)))

pub returns-then-over-clause-err : goal.returns-then-over-clause-err
returns-then-over-clause-err g c = λ due first start trace budget owes between told below.
    let heard = adds_told _ _ _ trace told c.in_ok-moment.ensures.heard in
    tells_ended g.C.Conversation.stands g.C.Conversation.awaited g.C.Conversation.number g.C.Owes.due g.met.C.Owes.gave g.C.Owes.grows g.A.Answerer.answers g.A.Answerer.drops g.A.Answerer.names
    g.A.Answerer.fails due first (saves_to_of c.args.self.now.saving) c.take.new.self.router c.take.new.self.operators c.take.new.self.printing c.take.new.self.replaying budget _ start _ _ _ trace _
    below c.if-over.true (c.in_ok-over.ensures.ok due first start trace owes between heard)

pub returns-in_err-begin_replays-clause-err : goal.returns-in_err-begin_replays-clause-err
returns-in_err-begin_replays-clause-err g c = λ due first start trace budget owes between told below.
    let heard = adds_told _ _ _ trace told c.in_ok-moment.ensures.heard in
    let next = goes_next g.C.Conversation.stands g.C.Conversation.awaited g.C.Conversation.number g.C.Owes.due g.met.C.Owes.gave g.C.Owes.grows g.A.Answerer.answers g.A.Answerer.drops g.A.Answerer.names
    g.A.Answerer.fails due first (saves_to_of c.args.self.now.saving) c.take.new.self.router c.take.new.self.operators c.take.new.self.printing c.take.new.self.replaying _ start _ _ _ trace _
    c.if-over.false (c.in_ok-over.ensures.ok due first start trace owes between heard) in
    let Broke : Option Saving → ℕ → Type 0 = λ s n. (after : Trace) → RestsNow g.C.Conversation.stands g.C.Conversation.awaited g.C.Conversation.number g.C.Owes.due g.A.Answerer.answers g.A.Answerer.drops g.A.Answerer.names g.A.Answerer.state due first (saves_to_of s) (files_meaning g.F.Files.contents g.F.Files.calls g.F.Files.misses g.F.Files.faults g.F.Files.losses c.take.new.files) c.take.new.self.router c.take.new.self.operators c.take.new.self.printing c.take.new.self.replaying n start (g.S.Sink.written c.take.new.out) false c.in_ok-moment.moment after → g.N.Net.trace c.take.new.net ≡ Some after →
    ToldOn (BrokeOff g.A.Answerer.answers g.A.Answerer.drops g.A.Answerer.names g.A.Answerer.fails due first (saves_to_of s) (files_meaning g.F.Files.contents g.F.Files.calls g.F.Files.misses g.F.Files.faults g.F.Files.losses c.begin_replays.new.files) n start (g.S.Sink.written c.begin_replays.new.out)) after (g.N.Net.trace c.begin_replays.new.net) in
    let broke = by_saving Broke c.in_ok-over.ensures.saving c.in_ok-over.ensures.count
    (λ after rests is. c.in_err-begin_replays.ensures.err due first start after (λ n at moves. c.in_ok-over.ensures.due n at moves ∙ owes n at moves) rests is) in
    let P : Status → Type 0 = λ status. Told (Ran g.A.Answerer.answers g.A.Answerer.drops g.A.Answerer.names g.A.Answerer.fails due first (saves_to_of c.args.self.now.saving) budget status c.begin_replays.new.self.printing (files_meaning g.F.Files.contents g.F.Files.calls g.F.Files.misses g.F.Files.faults g.F.Files.losses c.begin_replays.new.files) (g.M.Maker.alone c.args.self.now.maker) start (g.S.Sink.written c.begin_replays.new.out)) (g.N.Net.trace c.begin_replays.new.net) in
    if_err_by c.from_residual-in_err-begin_replays.result _ _ c.from_residual-in_err-begin_replays.ensures.1
    (λ status same. subst P (sym same)
    (tells_memory_next g.C.Conversation.stands g.C.Conversation.awaited g.C.Conversation.number g.C.Owes.due g.met.C.Owes.gave g.C.Owes.grows g.A.Answerer.answers g.A.Answerer.drops g.A.Answerer.names
    g.A.Answerer.fails due first (saves_to_of c.args.self.now.saving) c.begin_replays.new.self.printing budget _ start _ trace _ below (goes_begun _ _ trace _ _ next broke)))

pub returns-clause-ok : goal.returns-clause-ok
returns-clause-ok g c = λ due first start trace owes between told.
    let heard = adds_told _ _ _ trace told c.in_ok-moment.ensures.heard in
    let next = goes_next g.C.Conversation.stands g.C.Conversation.awaited g.C.Conversation.number g.C.Owes.due g.met.C.Owes.gave g.C.Owes.grows g.A.Answerer.answers g.A.Answerer.drops g.A.Answerer.names
    g.A.Answerer.fails due first (saves_to_of c.args.self.now.saving) c.take.new.self.router c.take.new.self.operators c.take.new.self.printing c.take.new.self.replaying _ start _ _ _ trace _
    c.if-over.false (c.in_ok-over.ensures.ok due first start trace owes between heard) in
    let Begins : Option Saving → ℕ → Type 0 = λ s n. (after : Trace) → RestsNow g.C.Conversation.stands g.C.Conversation.awaited g.C.Conversation.number g.C.Owes.due g.A.Answerer.answers g.A.Answerer.drops g.A.Answerer.names g.A.Answerer.state due first (saves_to_of s) (files_meaning g.F.Files.contents g.F.Files.calls g.F.Files.misses g.F.Files.faults g.F.Files.losses c.take.new.files) c.take.new.self.router c.take.new.self.operators c.take.new.self.printing c.take.new.self.replaying n start (g.S.Sink.written c.take.new.out) false c.in_ok-moment.moment after → g.N.Net.trace c.take.new.net ≡ Some after →
    ToldOn (Between g.C.Conversation.stands g.C.Conversation.awaited g.C.Conversation.number g.C.Owes.due g.A.Answerer.answers g.A.Answerer.drops g.A.Answerer.names g.A.Answerer.state due first (saves_to_of s) (files_meaning g.F.Files.contents g.F.Files.calls g.F.Files.misses g.F.Files.faults g.F.Files.losses c.begin_replays.new.files) c.begin_replays.new.self.router c.begin_replays.new.self.operators c.begin_replays.new.self.printing c.begin_replays.new.self.replaying n start (g.S.Sink.written c.begin_replays.new.out)) after (g.N.Net.trace c.begin_replays.new.net) in
    let begins = by_saving Begins c.in_ok-over.ensures.saving c.in_ok-over.ensures.count
    (λ after rests is. c.in_ok-begin_replays.ensures.ok due first start after (λ n at moves. c.in_ok-over.ensures.due n at moves ∙ owes n at moves) rests is) in
    goes_begun _ _ trace _ _ next begins

pub returns-in_err-moment-clause-files : goal.returns-in_err-moment-clause-files
returns-in_err-moment-clause-files g c = leaves_whole g.A.Answerer.answers g.A.Answerer.drops g.A.Answerer.fails (saves_to_of c.args.self.now.saving) _ _ goes_none

pub returns-in_err-begin_replays-clause-files : goal.returns-in_err-begin_replays-clause-files
returns-in_err-begin_replays-clause-files g c =
    leaves_both g.A.Answerer.answers g.A.Answerer.drops g.A.Answerer.fails (saves_to_of c.args.self.now.saving) _ _ _ c.in_ok-over.ensures.given
    (leaves_saving g.A.Answerer.answers g.A.Answerer.drops g.A.Answerer.fails _ _ c.in_ok-over.ensures.saving c.in_err-begin_replays.ensures.files)

pub returns-clause-files : goal.returns-clause-files
returns-clause-files g c =
    leaves_both g.A.Answerer.answers g.A.Answerer.drops g.A.Answerer.fails (saves_to_of c.args.self.now.saving) _ _ _ c.in_ok-over.ensures.given
    (leaves_saving g.A.Answerer.answers g.A.Answerer.drops g.A.Answerer.fails _ _ c.in_ok-over.ensures.saving c.in_ok-begin_replays.ensures.files)

pub returns-clause-given : goal.returns-clause-given
returns-clause-given g c =
    goes_both g.A.Answerer.answers g.A.Answerer.drops (saves_to_of c.args.self.now.saving) _ _ _ c.in_ok-over.ensures.given
    (goes_saving g.A.Answerer.answers g.A.Answerer.drops _ _ c.in_ok-over.ensures.saving c.in_ok-begin_replays.ensures.given)
