use Rattle.std.proofs.Common.{ap, false, sym, true}
use Rattle.px_core.specs.Router.{refusal_at}
use Rattle.px_core.proofs.ResultLemmas.{on_ok_map, on_ok_of}
use Rattle.px_core.proofs.EditLemmas.{edited_as, judged_as, judged_dropped, judged_mark, refused_as}
use Rattle.px_core.proofs.OperateLemmas.{dropped_as, if_err_map, moves_dropped, moves_edited, moves_marked}
use Rattle.px_core.proofs.router.Router.change.Goals as goal

pub returns-in-Edit-clause-operates : goal.returns-in-Edit-clause-operates
returns-in-Edit-clause-operates g c = λ moment files out.
    on_ok_map c.edit.result
    (edited_as g.C.Conversation.stands g.C.Conversation.awaited g.C.Conversation.number g.C.Owes.due g.A.Answerer.answers moment c.args.operation.now _ _ c.args.self.now.table c.edit.new.self.table _ _ files out c.in-Edit.is (ap g.A.Answerer.state c.edit.ensures.answerer))
    (c.edit.ensures.operates moment (record { own = g.A.Answerer.state c.args.self.now.answerer; files = files }) out)

pub returns-in-Edit-clause-done : goal.returns-in-Edit-clause-done
returns-in-Edit-clause-done g c = λ due course files trace stands.
    let names = (g.A.Answerer.names (g.A.Answerer.state c.args.self.now.answerer)) in
    on_ok_map c.edit.result (judged_as g.A.Answerer.answers due names trace c.args.operation.now _ _ c.in-Edit.is) (c.edit.ensures.done due course _ names trace stands)

pub returns-in-Edit-clause-refused : goal.returns-in-Edit-clause-refused
returns-in-Edit-clause-refused g c = λ due course files trace stands.
    let names = (g.A.Answerer.names (g.A.Answerer.state c.args.self.now.answerer)) in
    if_err_map c.edit.result _ _ (λ error so other. judged_as g.A.Answerer.answers due names trace c.args.operation.now _ _ c.in-Edit.is (so other)) (c.edit.ensures.refused due course _ names trace stands)

pub returns-in-Edit-clause-moves : goal.returns-in-Edit-clause-moves
returns-in-Edit-clause-moves g c = λ files.
    on_ok_of c.edit.result (moves_edited g.A.Answerer.answers g.A.Answerer.drops c.args.operation.now _ _ _ _ files c.in-Edit.is (ap g.A.Answerer.state c.edit.ensures.answerer))

pub returns-in-Mark-clause-done : goal.returns-in-Mark-clause-done
returns-in-Mark-clause-done g c = λ due course files trace stands.
    let names = (g.A.Answerer.names (g.A.Answerer.state c.args.self.now.answerer)) in
    on_ok_map c.mark.result (λ live. judged_mark g.C.Conversation.stands g.C.Conversation.awaited g.C.Conversation.number g.C.Owes.due g.met.C.Owes.gave g.C.Owes.grows g.A.Answerer.answers due names c.args.self.now.table trace c.args.operation.now c.in-Mark.id _ c.in-Mark.is stands (ap (λ b. refusal_at b true) live)) (c.mark.ensures.done due course files trace stands)

pub returns-in-Mark-clause-refused : goal.returns-in-Mark-clause-refused
returns-in-Mark-clause-refused g c = λ due course files trace stands.
    let names = (g.A.Answerer.names (g.A.Answerer.state c.args.self.now.answerer)) in
    if_err_map c.mark.result _ _ (λ error so other. judged_mark g.C.Conversation.stands g.C.Conversation.awaited g.C.Conversation.number g.C.Owes.due g.met.C.Owes.gave g.C.Owes.grows g.A.Answerer.answers due names c.args.self.now.table trace c.args.operation.now c.in-Mark.id _ c.in-Mark.is stands (so other)) (c.mark.ensures.refused due course files trace stands)

pub returns-in-DropAddon-clause-done : goal.returns-in-DropAddon-clause-done
returns-in-DropAddon-clause-done g c = λ due course files trace stands.
    let names = (g.A.Answerer.names (g.A.Answerer.state c.args.self.now.answerer)) in
    on_ok_map c.drop_named.result (λ has. judged_dropped g.C.Conversation.stands g.C.Conversation.awaited g.C.Conversation.number g.C.Owes.due g.met.C.Owes.gave g.C.Owes.grows g.A.Answerer.answers due names c.args.self.now.table trace c.args.operation.now _ _ true c.in-DropAddon.is c.as_slice.ensures has stands) c.drop_named.ensures.done

pub returns-in-DropAddon-clause-refused : goal.returns-in-DropAddon-clause-refused
returns-in-DropAddon-clause-refused g c = λ due course files trace stands.
    let names = (g.A.Answerer.names (g.A.Answerer.state c.args.self.now.answerer)) in
    if_err_map c.drop_named.result _ _ (λ error so other. refused_as g.A.Answerer.answers due names trace c.args.operation.now _ error (sym so.0)
    (judged_dropped g.C.Conversation.stands g.C.Conversation.awaited g.C.Conversation.number g.C.Owes.due g.met.C.Owes.gave g.C.Owes.grows g.A.Answerer.answers due names c.args.self.now.table trace c.args.operation.now _ _ false c.in-DropAddon.is c.as_slice.ensures so.1 stands)) c.drop_named.ensures.refused

pub returns-in-DropAddon-clause-operates : goal.returns-in-DropAddon-clause-operates
returns-in-DropAddon-clause-operates g c = λ moment files out.
    on_ok_of c.drop_named.result (dropped_as g.C.Conversation.stands g.C.Conversation.awaited g.C.Conversation.number g.C.Owes.due g.met.C.Owes.gave g.C.Owes.grows g.A.Answerer.answers moment c.args.operation.now _ c.args.self.now.table c.drop_named.new.self.table _ _ out c.in-DropAddon.is c.drop_named.ensures.table)

pub returns-in-Mark-clause-moves : goal.returns-in-Mark-clause-moves
returns-in-Mark-clause-moves g c = λ files.
    on_ok_of c.mark.result (moves_marked g.A.Answerer.answers g.A.Answerer.drops c.args.operation.now c.in-Mark.id _ _ files c.in-Mark.is (ap g.A.Answerer.state c.mark.ensures.answerer))

pub returns-in-DropAddon-clause-moves : goal.returns-in-DropAddon-clause-moves
returns-in-DropAddon-clause-moves g c = λ files.
    on_ok_map c.drop_named.result (moves_dropped g.A.Answerer.answers g.A.Answerer.drops c.args.operation.now _ _ (g.A.Answerer.state c.args.self.now.answerer) (g.A.Answerer.state c.drop_named.new.self.answerer) files c.in-DropAddon.is c.as_slice.ensures) c.drop_named.ensures.drops
