use Rattle.std.proofs.Common.{◌≡◌, ◌∙◌, ap, rules}
use Rattle.px_tnet.specs.View.{pairs_view}
use Rattle.px_tnet.proofs.CopyLemmas.{one_copied}
use Rattle.px_tnet.proofs.DictLemmas.{Entry}
use Rattle.px_tnet.proofs.tree.+copy.Goals as goal

pub copy_dict-loop-key-preserved : goal.copy_dict-loop-key-preserved
copy_dict-loop-key-preserved t c =
    let l = c.loop-key in
    let e : Entry = c.loop-key-item.result in
    let key = c.in_ok-key.key in
    let same_text : key.text ≡ e.0.text = search rules in
    let same_bytes : key.bytes ≡ e.0.bytes = search rules in
    ap pairs_view c.in_ok-push.ensures.items
    ∙ one_copied l.pairs.items c.deref-key-items.result.now l.key-index key c.in_ok-copy.field-0 e l.invariant c.loop-key-test.true c.loop-key-item.is
    same_text same_bytes c.in_ok-copy.ensures
