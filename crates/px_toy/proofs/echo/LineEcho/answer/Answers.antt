use Rattle.std.proofs.Common.{◌≡◌, [], ◌∷◌, ◌++◌, length, drop, ap, sym, ◌∙◌, arith, length-drop}
use Rattle.std.specs.Option.{option_to_list}
use Rattle.px_event.specs.declared.command.Command.TheVariants as commands
use Rattle.px_event.specs.declared.side.Side.TheVariants.{Client}
use Rattle.px_toy.specs.Echo.{first_line}
use Rattle.px_toy.specs.Stands.{awaited_in, asks_at}
use Rattle.px_toy.proofs.EchoGoes.{sound_within, answered_kill, answered_line, echo_asks}
use Rattle.px_toy.proofs.echo.LineEcho.answer.Goals as goal

pub take_line-requires : goal.take_line-requires
take_line-requires c = (sound_within c.args.self.now c.in-Asked.size c.requires.sound c.in-Asked.is).1

pub returns-then-kills-clause-goes : goal.returns-then-kills-clause-goes
returns-then-kills-clause-goes c = λ moment.
    answered_kill c.args.self.now c.end.new.self moment c.args.reply.now c.in-Asked.size c.args.out.now.items c.end.new.out.items c.in-Asked.is (sym c.kills.ensures ∙ c.if-kills.true)
    (c.in_ok-end.ensures.flow ∙ c.in_ok-line.ensures.flow) c.in_ok-end.ensures.unread c.in_ok-end.ensures.phase c.in_ok-end.ensures.closes

pub returns-then-kills-clause-asks : goal.returns-then-kills-clause-asks
returns-then-kills-clause-asks c =
    (commands.Close Client ∷ [], c.in_ok-end.ensures.closes, ap (λ p. option_to_list (awaited_in c.end.new.self.flow p)) (sym c.in_ok-end.ensures.phase))

pub returns-then-kills-clause-left : goal.returns-then-kills-clause-left
returns-then-kills-clause-left c =
    let none : length c.end.new.self.unread.items ≡ 0 = ap length c.in_ok-end.ensures.unread in
    let within = sound_within c.args.self.now c.in-Asked.size c.requires.sound c.in-Asked.is in
    let some = within.0 in
    let most = within.1 in
    omega arith

pub returns-clause-goes : goal.returns-clause-goes
returns-clause-goes c = λ moment.
    answered_line c.args.self.now c.advance.new.self moment c.args.reply.now c.in-Asked.size c.in_ok-line.line c.take_line.new.self.unread.items c.args.out.now.items c.echo.new.out.items c.advance.new.out.items
    c.in-Asked.is (sym c.kills.ensures ∙ c.if-kills.false) c.in_ok-line.ensures.line c.in_ok-line.ensures.unread
    (c.in_ok-advance.ensures.flow ∙ c.in_ok-line.ensures.flow) (ap (λ v. v.items) c.in_ok-advance.ensures.unread) c.in_ok-advance.ensures.phase c.in_ok-echo.ensures
    (c.in_ok-advance.ensures.asks ∙ ap (λ f. c.echo.new.out.items ++ asks_at f (first_line c.take_line.new.self.unread.items)) c.in_ok-line.ensures.flow)

pub returns-clause-asks : goal.returns-clause-asks
returns-clause-asks c =
    echo_asks c.take_line.new.self.flow c.advance.new.self.flow c.advance.new.self.phase c.args.reply.now c.in_ok-line.line (first_line c.take_line.new.self.unread.items)
    c.args.out.now.items c.echo.new.out.items c.advance.new.out.items c.in_ok-advance.ensures.flow c.in_ok-advance.ensures.phase c.in_ok-echo.ensures c.in_ok-advance.ensures.asks

pub returns-clause-left : goal.returns-clause-left
returns-clause-left c =
    let kept : length c.advance.new.self.unread.items ≡ length (drop c.in-Asked.size c.args.self.now.unread.items) =
    ap length (ap (λ v. v.items) c.in_ok-advance.ensures.unread ∙ c.in_ok-line.ensures.unread) in
    let cut = length-drop c.in-Asked.size c.args.self.now.unread.items in
    let within = sound_within c.args.self.now c.in-Asked.size c.requires.sound c.in-Asked.is in
    let some = within.0 in
    let most = within.1 in
    omega arith
