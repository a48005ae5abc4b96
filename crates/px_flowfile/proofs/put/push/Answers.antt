use Rattle.std.proofs.Common.{refl}
use Rattle.px_flowfile.proofs.OthersLemmas.{one_kept}
use Rattle.px_flowfile.proofs.put.push.Goals as goal

pub returns : goal.returns
returns c =
    one_kept c.args.pairs.now.items c.push.new.self.items c.args.key c.args.key c.args.value c.args.value c.in_ok-push.ensures.items
    refl refl refl
