use Rattle.std.proofs.Common.{sym, ◌∙◌}
use Rattle.std.proofs.lemmas.Result.{on_ok_weaker}
use Rattle.px_stream.proofs.RisingLemmas.{looks_alone, second_none}
use Rattle.px_stream.proofs.stream.Stream.advance.Goals as goal

pub look-requires : goal.look-requires
look-requires c = c.requires.looks (second_none _ _ (sym c.sends_on.ensures ∙ c.if-sends_on.false))

pub returns : goal.returns
returns c =
    on_ok_weaker c.look.result (looks_alone c.args.self.now c.look.new.self c.args.moment c.args.ready c.args.out.now.items c.look.new.out.items (sym c.sends_on.ensures ∙ c.if-sends_on.false)) c.look.ensures
