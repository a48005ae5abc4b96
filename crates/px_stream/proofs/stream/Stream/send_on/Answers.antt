use Rattle.std.proofs.lemmas.Result.{on_ok_weaker}
use Rattle.px_stream.proofs.PassingLemmas.{may_look_on}
use Rattle.px_stream.proofs.RisingLemmas.{may_go_on}
use Rattle.px_stream.proofs.stream.Stream.send_on.Goals as goal

pub pass-requires : goal.pass-requires
pass-requires c =
    (may_go_on c.args.self.now c.go_up.new.self c.args.moment c.args.ready c.in_ok-ready.ready c.args.out.now.items c.go_up.new.out.items c.requires.goes_up c.requires.passes c.requires.looks c.in_ok-ready.ensures).passes

pub look-requires : goal.look-requires
look-requires c =
    let may = may_go_on c.args.self.now c.go_up.new.self c.args.moment c.args.ready c.in_ok-ready.ready c.args.out.now.items c.go_up.new.out.items c.requires.goes_up c.requires.passes c.requires.looks c.in_ok-ready.ensures in
    may_look_on c.go_up.new.self c.pass.new.self c.args.moment c.in_ok-ready.ready c.in_ok-ready-2.ready c.go_up.new.out.items c.pass.new.out.items may.passes may.looks c.in_ok-ready-2.ensures

pub returns : goal.returns
returns c =
    on_ok_weaker c.look.result
    (λ looks. record {
      risen = c.go_up.new.self;
      gone = c.in_ok-ready.ready;
      raised = c.go_up.new.out.items;
      rises = c.in_ok-ready.ensures;
      between = c.pass.new.self;
      next = c.in_ok-ready-2.ready;
      given = c.pass.new.out.items;
      passes = c.in_ok-ready-2.ensures;
      looks = looks;
    }) c.look.ensures
