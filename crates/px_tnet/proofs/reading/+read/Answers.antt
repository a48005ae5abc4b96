use Rattle.std.proofs.Common.{List, inl, inr, sym, subst}
use Rattle.std.proofs.lemmas.Result.{IfOk-weaker, IfErr-weaker}
use Rattle.px_tnet.specs.Items.{IsItem, Joins}
use Rattle.px_tnet.specs.View.{trees_view}
use Rattle.px_tnet.specs.declared.tree.Tnet.{Tnet}
use Rattle.px_tnet.proofs.ItemLemmas.{first_deeper, joins_push, within_deeper}
use Rattle.px_tnet.proofs.reading.+read.Goals as goal

pub read_items-loop-alloc-preserved : goal.read_items-loop-alloc-preserved
read_items-loop-alloc-preserved t c =
    let l = c.loop-alloc in
    let P : List Tnet → Type 0 = λ ts. Joins (IsItem c.args.depth) (trees_view ts) c.args.payload c.read_item.new.text in
    subst P (sym c.in_ok-push-in-Ok.ensures.items)
    (joins_push (IsItem c.args.depth) l.items.items c.in-Ok.item c.args.payload l.rest c.read_item.new.text l.invariant c.in-Ok.ensures.ok)

pub read_within-returns-clause-ok : goal.read_within-returns-clause-ok
read_within-returns-clause-ok t c =
    IfOk-weaker c.read_items.result _ _ (λ ts joins. within_deeper c.args.depth (trees_view ts.items) c.args.payload c.if-depth-eq0.false joins)
    c.read_items.ensures.ok

pub read_within-returns-clause-err : goal.read_within-returns-clause-err
read_within-returns-clause-err t c =
    IfErr-weaker c.read_items.result _ _ (λ e h. elim h [
      | inl full ↦ inl full
      | inr first ↦ inr (first_deeper c.args.depth c.args.payload e c.if-depth-eq0.false first)
    ]) c.read_items.ensures.err
