use Rattle.std.proofs.Common.{◌++◌, ◌∷◌, [], refl}
use Rattle.px_event.specs.declared.heard.Heard.TheVariants.{Piece as PieceOf}
use Rattle.px_event.specs.declared.side.Side.TheVariants.{Client as OfClient}
use Rattle.px_event.specs.declared.step.Step.TheVariants.{Heard as WasHeard}
use Rattle.px_core.proofs.RunLemmas.{on_err}
use Rattle.px_app.specs.Over.{goes_none}
use Rattle.px_app.proofs.GoesLemmas.{leaves_whole}
use Rattle.px_app.proofs.TurningLemmas.{answered_so, broke_in_lines, broke_silent, goes_by_orders, leaves_by_orders, not_begun_so, now_heard, said_stands, speaks_so, takes_so}
use Rattle.px_app.proofs.serving.Serving.answer.Goals as goal

pub obey-requires : goal.obey-requires
obey-requires g c =
    let sound = c.requires.sound in
    let none = not_begun_so g.C.Conversation.stands g.C.Conversation.awaited g.C.Conversation.number g.C.Owes.due g.A.Answerer.answers g.A.Answerer.state sound.0 sound.1 _ c.args.self.now.router sound.2 sound.4 c.args.self.now.operators c.args.conv c.requires.speaks in
    record {
      sound = record {
        due = sound.0;
        course = sound.1;
        trace = sound.2 ++ WasHeard c.args.moment (PieceOf c.args.conv OfClient c.args.bytes.now) ∷ [];
        stands = said_stands g.C.Conversation.stands g.C.Conversation.awaited g.C.Conversation.number g.C.Owes.due g.A.Answerer.answers g.A.Answerer.state sound.0 sound.1 _ c.args.self.now.router sound.2 sound.4 g.met.C.Owes.gave g.C.Owes.grows c.args.moment c.args.conv c.args.bytes.now none;
        at_moment = now_heard sound.2 c.args.moment (PieceOf c.args.conv OfClient c.args.bytes.now);
      };
    }

pub returns-in_err-lines-clause-breaks : goal.returns-in_err-lines-clause-breaks
returns-in_err-lines-clause-breaks g c = λ due course trace told owes routed they is.
    let none = not_begun_so g.C.Conversation.stands g.C.Conversation.awaited g.C.Conversation.number g.C.Owes.due g.A.Answerer.answers g.A.Answerer.state due course _ c.args.self.now.router trace routed c.args.self.now.operators c.args.conv c.requires.speaks in
    on_err c.from_residual.result
    (broke_silent g.C.Conversation.stands g.C.Conversation.awaited g.C.Conversation.number g.C.Owes.due g.A.Answerer.answers g.A.Answerer.drops g.A.Answerer.names g.A.Answerer.state due course trace c.args.moment g.A.Answerer.fails (PieceOf c.args.conv OfClient c.args.bytes.now) told _ _ _ c.args.self.now.router
    (said_stands g.C.Conversation.stands g.C.Conversation.awaited g.C.Conversation.number g.C.Owes.due g.A.Answerer.answers g.A.Answerer.state due course _ c.args.self.now.router trace routed g.met.C.Owes.gave g.C.Owes.grows c.args.moment c.args.conv c.args.bytes.now none) refl is)

pub returns-in_err-lines-clause-files : goal.returns-in_err-lines-clause-files
returns-in_err-lines-clause-files g c = λ to. leaves_whole g.A.Answerer.answers g.A.Answerer.drops g.A.Answerer.fails to _ _ goes_none

pub returns-in_err-outcome-clause-breaks : goal.returns-in_err-outcome-clause-breaks
returns-in_err-outcome-clause-breaks g c = λ due course trace told owes routed they is.
    let none = not_begun_so g.C.Conversation.stands g.C.Conversation.awaited g.C.Conversation.number g.C.Owes.due g.A.Answerer.answers g.A.Answerer.state due course _ c.args.self.now.router trace routed c.args.self.now.operators c.args.conv c.requires.speaks in
    let there = said_stands g.C.Conversation.stands g.C.Conversation.awaited g.C.Conversation.number g.C.Owes.due g.A.Answerer.answers g.A.Answerer.state due course _ c.args.self.now.router trace routed g.met.C.Owes.gave g.C.Owes.grows c.args.moment c.args.conv c.args.bytes.now none in
    on_err c.from_residual-in_err-outcome.result
    (broke_in_lines g.C.Conversation.stands g.C.Conversation.awaited g.C.Conversation.number g.C.Owes.due g.A.Answerer.answers g.A.Answerer.drops g.A.Answerer.names g.A.Answerer.state due course trace c.args.moment c.args.conv c.args.bytes.now c.in_ok-lines.lines.items _ c.args.self.now.router c.args.self.now.operators c.take.new.self
    (speaks_so g.C.Conversation.stands g.C.Conversation.awaited g.C.Conversation.number g.C.Owes.due g.A.Answerer.answers g.A.Answerer.state due course _ c.args.self.now.router trace routed c.args.self.now.operators c.args.conv they c.requires.speaks)
    (takes_so c.args.conv _ c.args.bytes.now _ c.args.self.now.operators c.take.new.self c.as_slice.ensures c.in_ok-lines.ensures.lines c.in_ok-lines.ensures.stands c.in_ok-lines.ensures.open c.in_ok-lines.ensures.other_stands)
    there g.A.Answerer.fails told _ _ (c.in_err-outcome.ensures.breaks due course _ told there (now_heard trace c.args.moment (PieceOf c.args.conv OfClient c.args.bytes.now)) is))

pub returns-in_err-outcome-clause-files : goal.returns-in_err-outcome-clause-files
returns-in_err-outcome-clause-files g c = λ to. leaves_by_orders g.A.Answerer.answers g.A.Answerer.drops to g.A.Answerer.fails _ _ c.in_err-outcome.ensures.files

pub returns-clause-ok : goal.returns-clause-ok
returns-clause-ok g c = λ due course trace owes routed they.
    let none = not_begun_so g.C.Conversation.stands g.C.Conversation.awaited g.C.Conversation.number g.C.Owes.due g.A.Answerer.answers g.A.Answerer.state due course _ c.args.self.now.router trace routed c.args.self.now.operators c.args.conv c.requires.speaks in
    let there = said_stands g.C.Conversation.stands g.C.Conversation.awaited g.C.Conversation.number g.C.Owes.due g.A.Answerer.answers g.A.Answerer.state due course _ c.args.self.now.router trace routed g.met.C.Owes.gave g.C.Owes.grows c.args.moment c.args.conv c.args.bytes.now none in
    answered_so g.C.Conversation.stands g.C.Conversation.awaited g.C.Conversation.number g.C.Owes.due g.A.Answerer.answers g.A.Answerer.drops g.A.Answerer.names g.A.Answerer.state due course trace c.args.moment c.args.conv c.args.bytes.now c.in_ok-lines.lines.items _ c.args.self.now.router c.args.self.now.operators c.take.new.self
    (speaks_so g.C.Conversation.stands g.C.Conversation.awaited g.C.Conversation.number g.C.Owes.due g.A.Answerer.answers g.A.Answerer.state due course _ c.args.self.now.router trace routed c.args.self.now.operators c.args.conv they c.requires.speaks)
    (takes_so c.args.conv _ c.args.bytes.now _ c.args.self.now.operators c.take.new.self c.as_slice.ensures c.in_ok-lines.ensures.lines c.in_ok-lines.ensures.stands c.in_ok-lines.ensures.open c.in_ok-lines.ensures.other_stands)
    there _ c.obey.new.router _ c.in_ok-outcome.outcome c.leaves.result c.is_quit.result _ _ c.leaves.ensures c.is_quit.ensures they
    (record { closes = c.settle.ensures.closes; stays = c.settle.ensures.stays; others = c.settle.ensures.others; other_stands = c.settle.ensures.other_stands })
    (c.in_ok-outcome.ensures.ok due course _ there (now_heard trace c.args.moment (PieceOf c.args.conv OfClient c.args.bytes.now)))

pub returns-clause-sound : goal.returns-clause-sound
returns-clause-sound g c =
    let sound = c.requires.sound in
    let none = not_begun_so g.C.Conversation.stands g.C.Conversation.awaited g.C.Conversation.number g.C.Owes.due g.A.Answerer.answers g.A.Answerer.state sound.0 sound.1 _ c.args.self.now.router sound.2 sound.4 c.args.self.now.operators c.args.conv c.requires.speaks in
    let there = said_stands g.C.Conversation.stands g.C.Conversation.awaited g.C.Conversation.number g.C.Owes.due g.A.Answerer.answers g.A.Answerer.state sound.0 sound.1 _ c.args.self.now.router sound.2 sound.4 g.met.C.Owes.gave g.C.Owes.grows c.args.moment c.args.conv c.args.bytes.now none in
    let adds = c.in_ok-outcome.ensures.ok sound.0 sound.1 _ there (now_heard sound.2 c.args.moment (PieceOf c.args.conv OfClient c.args.bytes.now)) in
    (sound.0, adds.last.course, adds.last.trace, sound.3, adds.stands)

pub returns-clause-taken : goal.returns-clause-taken
returns-clause-taken g c = c.in_ok-outcome.ensures.taken

pub returns-clause-files : goal.returns-clause-files
returns-clause-files g c = λ to. leaves_by_orders g.A.Answerer.answers g.A.Answerer.drops to g.A.Answerer.fails _ _ c.in_ok-outcome.ensures.files

pub returns-clause-given : goal.returns-clause-given
returns-clause-given g c = λ to. goes_by_orders g.A.Answerer.answers g.A.Answerer.drops to _ _ c.in_ok-outcome.ensures.given
