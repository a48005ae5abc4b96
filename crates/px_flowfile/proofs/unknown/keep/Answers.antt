use Rattle.std.proofs.Common.{◌≡◌, rules}
use Rattle.px_flowfile.proofs.OthersLemmas.{one_kept}
use Rattle.px_flowfile.proofs.unknown.keep.Goals as goal

pub returns : goal.returns
returns c =
    let same_text : c.in_ok-key.key.text ≡ c.args.pair.now.0.text = search rules in
    let same_bytes : c.in_ok-key.key.bytes ≡ c.args.pair.now.0.bytes = search rules in
    one_kept c.args.kept.now.items c.push.new.self.items c.in_ok-key.key c.args.pair.now.0 c.in_ok-clone.field-0 c.args.pair.now.1
    c.in_ok-push.ensures.items same_text same_bytes c.in_ok-clone.ensures.cases
