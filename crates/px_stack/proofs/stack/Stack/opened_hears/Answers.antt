use Rattle.std.proofs.Common.{ap, refl, sym, ◌∙◌}
use Rattle.px_event.specs.declared.event.Event.TheVariants.{Piece}
use Rattle.px_event.specs.declared.side.Side.TheVariants.{Client, Server}
use Rattle.px_event.specs.Sides.{piece_of}
use Rattle.px_stack.proofs.OpenedLemmas.{client_taken, none_of_empty, none_of_other, nothing_taken, server_taken}
use Rattle.px_stack.proofs.stack.Stack.opened_hears.Goals.{then-number-server+else-not-is_empty, else-number-server}
use Rattle.px_stack.proofs.stack.Stack.opened_hears.Goals as goal
use Rattle.px_stack.specs.Stack.{visitor_of}

pub returns-in_ok-opening-in-Client-clause-takes : goal.returns-in_ok-opening-in-Client-clause-takes
returns-in_ok-opening-in-Client-clause-takes c =
    client_taken c.args.self.now.conv (visitor_of c.args.self.now) c.args.opening c.args.server c.args.moment (Piece c.args.side c.args.bytes.now)
    c.args.out.now.items c.decide.new.out.items c.args.bytes.now (ap (λ side. Piece side c.args.bytes.now) c.in-Client.is)
    c.in_ok-opening-in-Client.opening c.in_ok-opening-in-Client.ensures c.empty.result c.empty.ensures c.decide.result c.decide.ensures.decides

pub returns-in_ok-try_clone-in-Server-clause-takes : goal.returns-in_ok-try_clone-in-Server-clause-takes
returns-in_ok-try_clone-in-Server-clause-takes c =
    server_taken c.args.self.now.conv (visitor_of c.args.self.now) c.args.opening c.args.server c.args.moment (Piece c.args.side c.args.bytes.now)
    c.args.out.now.items c.unread.new.out.items c.in-Server.number c.args.bytes.now c.in_ok-try_clone-in-Server.field-0
    (ap (λ side. Piece side c.args.bytes.now) c.in-Server.is) c.in_ok-try_clone-in-Server.ensures c.if-number-server.true
    (sym c.is_empty.ensures ∙ c.if-not-is_empty.true) c.unread.result c.unread.ensures.relays

pub returns-in-Server-2-clause-takes : goal.returns-in-Server-2-clause-takes
returns-in-Server-2-clause-takes c =
    nothing_taken c.args.self.now.conv (visitor_of c.args.self.now) c.args.opening c.args.server c.args.moment (Piece c.args.side c.args.bytes.now) c.args.out.now.items
    refl (ap (λ side. piece_of Client (Piece side c.args.bytes.now)) c.in-Server.is)
    (ap (λ side. piece_of (Server c.args.server) (Piece side c.args.bytes.now)) c.in-Server.is
    ∙ elim c.if-number-server.branch [
      | then-number-server+else-not-is_empty w ↦
          none_of_empty c.args.server c.in-Server.number c.args.bytes.now (sym w.is_empty.ensures ∙ w.if-not-is_empty.false)
      | else-number-server w ↦ none_of_other c.args.server c.in-Server.number c.args.bytes.now w.if-number-server.false
    ])
