use Rattle.std.proofs.lemmas.Result.{on_ok_weaker}
use Rattle.px_relay.proofs.HalfLemmas.{hears_few, hears_writable}
use Rattle.px_relay.proofs.half.Half.hear.Goals as goal

pub returns-clause-writable : goal.returns-clause-writable
returns-clause-writable c =
    on_ok_weaker c.feed.result (hears_writable c.args.self.now c.feed.new.self c.args.bytes.now c.args.left) c.feed.ensures

pub returns-clause-few : goal.returns-clause-few
returns-clause-few c =
    on_ok_weaker c.feed.result (hears_few c.args.self.now c.feed.new.self c.args.bytes.now c.args.left) c.feed.ensures
