use Rattle.std.proofs.Common.{◌∙◌, Bool, sym}
use Rattle.px_event.specs.declared.heard.Heard.{Heard}
use Rattle.px_event.specs.declared.heard.Heard.TheVariants.{Closed as HasClosed, Piece as PieceOf}
use Rattle.px_event.specs.declared.side.Side.TheVariants.{Client as OfClient}
use Rattle.px_core.specs.Answers.{files_meaning}
use Rattle.px_app.specs.Operating.{speaks}
use Rattle.px_app.specs.Serving.{TurnBroke, Turned}
use Rattle.px_app.proofs.OperatorLemmas.{is_left_by, is_said_by, nothing_again, nothing_same}
use Rattle.px_app.proofs.TurningLemmas.{if_ok_same, on_err_same}
use Rattle.px_app.proofs.serving.Serving.turn.Goals as goal

pub converse-requires : goal.converse-requires
converse-requires g c = record { sound = c.requires.sound; nothing = nothing_again (speaks c.args.self.now.operators c.args.self.now.router) c.args.heard c.in-Nothing.heard (sym c.spoken.ensures ∙ c.in-Nothing.is) }

pub returns-in-Nothing-clause-ok : goal.returns-in-Nothing-clause-ok
returns-in-Nothing-clause-ok g c = λ due course trace owes routed they.
    let P : Heard → Bool → Type 0 = λ what over. Turned g.C.Conversation.stands g.C.Conversation.awaited g.C.Conversation.number g.C.Owes.due g.A.Answerer.answers g.A.Answerer.drops g.A.Answerer.names g.A.Answerer.state due (files_meaning g.F.Files.contents g.F.Files.calls g.F.Files.misses g.F.Files.faults g.F.Files.losses c.converse.new.files) c.converse.new.self.router c.converse.new.self.operators trace course c.args.moment what over (g.N.Net.trace c.args.net.now) (g.N.Net.trace c.converse.new.net) in
    let same = nothing_same (speaks c.args.self.now.operators c.args.self.now.router) c.args.heard c.in-Nothing.heard (sym c.spoken.ensures ∙ c.in-Nothing.is) in
    if_ok_same c.converse.result P c.args.heard c.in-Nothing.heard (sym same) (c.converse.ensures.ok due course trace owes routed they)

pub returns-in-Nothing-clause-breaks : goal.returns-in-Nothing-clause-breaks
returns-in-Nothing-clause-breaks g c = λ due course trace told owes routed they is.
    let P : Heard → Type 0 = λ what. TurnBroke g.A.Answerer.answers g.A.Answerer.drops g.A.Answerer.names g.A.Answerer.fails due trace course c.args.moment what told (g.N.Net.trace c.converse.new.net) (files_meaning g.F.Files.contents g.F.Files.calls g.F.Files.misses g.F.Files.faults g.F.Files.losses c.converse.new.files) in
    let same = nothing_same (speaks c.args.self.now.operators c.args.self.now.router) c.args.heard c.in-Nothing.heard (sym c.spoken.ensures ∙ c.in-Nothing.is) in
    on_err_same c.converse.result P c.args.heard c.in-Nothing.heard (sym same) (c.converse.ensures.breaks due course trace told owes routed they is)

pub answer-requires : goal.answer-requires
answer-requires g c = let said = is_said_by (speaks c.args.self.now.operators c.args.self.now.router) c.args.heard c.in-Says.conv c.in-Says.bytes (sym c.spoken.ensures ∙ c.in-Says.is) in record { sound = c.requires.sound; speaks = said.test }

pub returns-in-Says-clause-ok : goal.returns-in-Says-clause-ok
returns-in-Says-clause-ok g c = λ due course trace owes routed they.
    let P : Heard → Bool → Type 0 = λ what over. Turned g.C.Conversation.stands g.C.Conversation.awaited g.C.Conversation.number g.C.Owes.due g.A.Answerer.answers g.A.Answerer.drops g.A.Answerer.names g.A.Answerer.state due (files_meaning g.F.Files.contents g.F.Files.calls g.F.Files.misses g.F.Files.faults g.F.Files.losses c.answer.new.files) c.answer.new.self.router c.answer.new.self.operators trace course c.args.moment what over (g.N.Net.trace c.args.net.now) (g.N.Net.trace c.answer.new.net) in
    let said = is_said_by (speaks c.args.self.now.operators c.args.self.now.router) c.args.heard c.in-Says.conv c.in-Says.bytes (sym c.spoken.ensures ∙ c.in-Says.is) in
    if_ok_same c.answer.result P c.args.heard (PieceOf c.in-Says.conv OfClient c.in-Says.bytes) said.same (c.answer.ensures.ok due course trace owes routed they)

pub returns-in-Says-clause-breaks : goal.returns-in-Says-clause-breaks
returns-in-Says-clause-breaks g c = λ due course trace told owes routed they is.
    let P : Heard → Type 0 = λ what. TurnBroke g.A.Answerer.answers g.A.Answerer.drops g.A.Answerer.names g.A.Answerer.fails due trace course c.args.moment what told (g.N.Net.trace c.answer.new.net) (files_meaning g.F.Files.contents g.F.Files.calls g.F.Files.misses g.F.Files.faults g.F.Files.losses c.answer.new.files) in
    let said = is_said_by (speaks c.args.self.now.operators c.args.self.now.router) c.args.heard c.in-Says.conv c.in-Says.bytes (sym c.spoken.ensures ∙ c.in-Says.is) in
    on_err_same c.answer.result P c.args.heard (PieceOf c.in-Says.conv OfClient c.in-Says.bytes) said.same (c.answer.ensures.breaks due course trace told owes routed they is)

pub let_go-requires : goal.let_go-requires
let_go-requires g c = let left = is_left_by (speaks c.args.self.now.operators c.args.self.now.router) c.args.heard c.in-Leaves.conv (sym c.spoken.ensures ∙ c.in-Leaves.is) in record { sound = c.requires.sound; speaks = left.test }

pub returns-in-Leaves-clause-ok : goal.returns-in-Leaves-clause-ok
returns-in-Leaves-clause-ok g c = λ due course trace owes routed they.
    let P : Heard → Bool → Type 0 = λ what over. Turned g.C.Conversation.stands g.C.Conversation.awaited g.C.Conversation.number g.C.Owes.due g.A.Answerer.answers g.A.Answerer.drops g.A.Answerer.names g.A.Answerer.state due (files_meaning g.F.Files.contents g.F.Files.calls g.F.Files.misses g.F.Files.faults g.F.Files.losses c.args.files.now) c.let_go.new.self.router c.let_go.new.self.operators trace course c.args.moment what over (g.N.Net.trace c.args.net.now) (g.N.Net.trace c.let_go.new.net) in
    let left = is_left_by (speaks c.args.self.now.operators c.args.self.now.router) c.args.heard c.in-Leaves.conv (sym c.spoken.ensures ∙ c.in-Leaves.is) in
    if_ok_same c.let_go.result P c.args.heard (HasClosed c.in-Leaves.conv OfClient) left.same (c.let_go.ensures.ok due course trace owes routed they)

pub returns-in-Leaves-clause-breaks : goal.returns-in-Leaves-clause-breaks
returns-in-Leaves-clause-breaks g c = λ due course trace told owes routed they is.
    let P : Heard → Type 0 = λ what. TurnBroke g.A.Answerer.answers g.A.Answerer.drops g.A.Answerer.names g.A.Answerer.fails due trace course c.args.moment what told (g.N.Net.trace c.let_go.new.net) (files_meaning g.F.Files.contents g.F.Files.calls g.F.Files.misses g.F.Files.faults g.F.Files.losses c.args.files.now) in
    let left = is_left_by (speaks c.args.self.now.operators c.args.self.now.router) c.args.heard c.in-Leaves.conv (sym c.spoken.ensures ∙ c.in-Leaves.is) in
    on_err_same c.let_go.result P c.args.heard (HasClosed c.in-Leaves.conv OfClient) left.same (c.let_go.ensures.breaks due course trace told owes routed they is)
