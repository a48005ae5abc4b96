use Rattle.rand_chacha.specs.ChaCha.{key_of}
use Rattle.px_stack.specs.Stages.{Visitor}
use Rattle.std.specs.Prelude.{ℕ, IfOk}
use Rattle.std.proofs.Common.{List, [], sym, subst}
use Rattle.std.proofs.lemmas.List.{append-nil}
use Rattle.std.proofs.lemmas.Result.{IfOk-weaker}
use Rattle.px_event.specs.declared.command.Command.{Command}
use Rattle.px_stack.specs.declared.child.Child.{Child}
use Rattle.px_stack.specs.declared.child.Child.TheVariants as children
use Rattle.px_stack.specs.Stands.{IsSomewhere}
use Rattle.px_stack.specs.Steps.{Adds, RelayTakes, TakesChild}
use Rattle.px_stack.proofs.CallLemmas.{over_takes, raw_takes, relay_open, with_its_key}
use Rattle.px_stack.proofs.stack.Stack.hear.Goals as goal
use Rattle.px_stack.specs.Stack.{visitor_of}

pub relay_takes-taken-requires : goal.relay_takes-taken-requires
relay_takes-taken-requires c =
    let P : Child → Type 0 = λ child. IsSomewhere c.args.self.now.conv (visitor_of c.args.self.now) child in
    relay_open c.args.self.now.conv (visitor_of c.args.self.now) c.in-Raw.relay (subst P c.in-Raw.is c.requires.somewhere)

pub returns-in-Raw-clause-takes : goal.returns-in-Raw-clause-takes
returns-in-Raw-clause-takes c =
    let out : List Command = c.args.out.now.items in
    let longer : List Command = c.relay_takes-taken.new.out.items in
    let P : Child → Child → Type 0 = λ child next. Adds (TakesChild c.args.self.now.conv (visitor_of c.args.self.now) child next c.args.moment c.args.event) out longer in
    IfOk-weaker c.relay_takes-taken.result (λ next. Adds (RelayTakes c.in-Raw.relay next c.args.event) out longer) (λ next. P c.args.child next)
    (λ next adds.
    let Q : Child → Type 0 = λ child. P child next in
    subst Q (sym c.in-Raw.is) (record {
      more = adds.more;
      grown = adds.grown;
      holds = raw_takes c.args.self.now.conv (visitor_of c.args.self.now) c.in-Raw.relay next c.args.moment c.args.event adds.more adds.holds;
    })) c.relay_takes-taken.ensures.takes

pub returns-in-Over-clause-takes : goal.returns-in-Over-clause-takes
returns-in-Over-clause-takes c =
    let out : List Command = c.args.out.now.items in
    let P : Child → Type 0 = λ child. Adds (TakesChild c.args.self.now.conv (visitor_of c.args.self.now) child children.Over c.args.moment c.args.event) out out in
    subst P (sym c.in-Over.is) (record {
      more = [];
      grown = sym (append-nil out);
      holds = over_takes c.args.self.now.conv (visitor_of c.args.self.now) c.args.moment c.args.event;
    })

pub returns-in-Http-clause-takes : goal.returns-in-Http-clause-takes
returns-in-Http-clause-takes c =
    let out : List Command = c.args.out.now.items in
    let longer : List Command = c.http_takes.new.out.items in
    let P : ℕ → Visitor → Child → List Command → Type 0 = λ conv client next more. TakesChild conv client (children.Http c.in-Http.http) next c.args.moment c.args.event more in
    let Q : Child → Type 0 = λ child. IfOk c.http_takes.result (λ next. Adds (TakesChild c.args.self.now.conv (visitor_of c.args.self.now) child next c.args.moment c.args.event) out longer) in
    subst Q (sym c.in-Http.is)
    (with_its_key c.http_takes.result (key_of c.means.result.mask_key) c.args.self.now.conv (visitor_of c.args.self.now) P out longer (sym c.means.ensures) c.http_takes.ensures.takes)
