use Rattle.std.proofs.Common.{◌≡◌, [], ◌∷◌, ◌++◌, length, ap, sym, ◌∙◌, arith, length-append}
use Rattle.std.proofs.lemmas.List.{append-nil}
use Rattle.std.specs.Option.{option_to_list}
use Rattle.px_event.specs.declared.command.Command.TheVariants as commands
use Rattle.px_event.specs.declared.side.Side.TheVariants.{Client}
use Rattle.px_toy.specs.Echo.{piece_in, first_line}
use Rattle.px_toy.specs.Stands.{awaited_in}
use Rattle.px_toy.proofs.EchoGoes.{heard_over, heard_close, heard_piece, asks_after, piece_weighs}
use Rattle.px_toy.proofs.echo.LineEcho.hear.Goals as goal

pub returns-in-Over-clause-goes : goal.returns-in-Over-clause-goes
returns-in-Over-clause-goes c = λ moment. heard_over c.args.self.now moment c.args.event.now c.args.out.now.items c.in-Over.is

pub returns-in-Over-clause-asks : goal.returns-in-Over-clause-asks
returns-in-Over-clause-asks c = ([], sym (append-nil _), ap (λ p. option_to_list (awaited_in c.args.self.now.flow p)) (sym c.in-Over.is))

pub returns-in-Over-clause-left : goal.returns-in-Over-clause-left
returns-in-Over-clause-left c = omega arith

pub returns-then-closes_client-clause-goes : goal.returns-then-closes_client-clause-goes
returns-then-closes_client-clause-goes c = λ moment.
    heard_close c.args.self.now c.end.new.self moment c.args.event.now c.args.out.now.items c.end.new.out.items c.in_default.not-Over c.requires.free
    (sym c.closes_client.ensures ∙ c.if-closes_client.true) c.in_ok-end.ensures.flow c.in_ok-end.ensures.unread c.in_ok-end.ensures.phase c.in_ok-end.ensures.closes

pub returns-then-closes_client-clause-asks : goal.returns-then-closes_client-clause-asks
returns-then-closes_client-clause-asks c =
    (commands.Close Client ∷ [], c.in_ok-end.ensures.closes, ap (λ p. option_to_list (awaited_in c.end.new.self.flow p)) (sym c.in_ok-end.ensures.phase))

pub returns-then-closes_client-clause-left : goal.returns-then-closes_client-clause-left
returns-then-closes_client-clause-left c = let none : length c.end.new.self.unread.items ≡ 0 = ap length c.in_ok-end.ensures.unread in omega arith

pub returns-clause-goes : goal.returns-clause-goes
returns-clause-goes c = λ moment.
    heard_piece c.args.self.now c.advance.new.self moment c.args.event.now c.extend_from_slice.new.self.items c.args.out.now.items c.advance.new.out.items c.in_default.not-Over c.requires.free
    (sym c.closes_client.ensures ∙ c.if-closes_client.false)
    (c.in_ok-extend_from_slice.ensures.items ∙ ap (λ l. c.args.self.now.unread.items ++ l) c.client_piece.ensures)
    c.in_ok-advance.ensures.flow (ap (λ v. v.items) c.in_ok-advance.ensures.unread) c.in_ok-advance.ensures.phase c.in_ok-advance.ensures.asks

pub returns-clause-asks : goal.returns-clause-asks
returns-clause-asks c =
    asks_after c.args.self.now.flow c.advance.new.self.flow c.advance.new.self.phase (first_line c.extend_from_slice.new.self.items) c.args.out.now.items c.advance.new.out.items
    c.in_ok-advance.ensures.flow c.in_ok-advance.ensures.phase c.in_ok-advance.ensures.asks

pub returns-clause-left : goal.returns-clause-left
returns-clause-left c =
    let kept : length c.advance.new.self.unread.items ≡ length (c.args.self.now.unread.items ++ piece_in c.args.event.now) =
    ap length (ap (λ v. v.items) c.in_ok-advance.ensures.unread ∙ (c.in_ok-extend_from_slice.ensures.items ∙ ap (λ l. c.args.self.now.unread.items ++ l) c.client_piece.ensures)) in
    let joined = length-append c.args.self.now.unread.items (piece_in c.args.event.now) in
    let weighs = piece_weighs c.args.event.now in
    omega arith
