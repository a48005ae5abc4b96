use Rattle.std.proofs.Common.{◌≡◌, ◌∙◌, arith, length, ap, sym}
use Rattle.std.specs.Vec.Iter.{into_iter_items}
use Rattle.px_tnet.specs.View.{pairs_view, trees_view}
use Rattle.px_tnet.proofs.DictLemmas.{onto, bad_key, lone_key, one_pair_more, all_pairs}
use Rattle.px_tnet.proofs.dict.pairs_of.Goals as goal

pub returns-in_default-key_of : goal.returns-in_default-key_of
returns-in_default-key_of c =
    let l = c.loop-key in
    bad_key (trees_view c.args.items.items) (pairs_view l.pairs.items) (into_iter_items l.rest) (into_iter_items c.next.new.self) c.in-Some.key
    l.invariant.0 c.in-Some.ensures.cases.0 c.in_default-key_of.ensures

pub returns-in_default-next : goal.returns-in_default-next
returns-in_default-next c =
    let l = c.loop-key in
    let none : length (into_iter_items c.next.new.self) ≡ 0 = (
    let a = l.invariant.1 in
    let b = ap length c.in-Some.ensures.cases.0 in
    let d = c.in-Some.ensures.cases.1 in
    let e = c.in_default-next.ensures.cases.0 in
    omega arith) in
    lone_key (trees_view c.args.items.items) (pairs_view l.pairs.items) (into_iter_items l.rest) (into_iter_items c.next.new.self) c.in-Some.key
    l.invariant.0 c.in-Some.ensures.cases.0 none

pub loop-key-preserved : goal.loop-key-preserved
loop-key-preserved c =
    let l = c.loop-key in (
      one_pair_more (trees_view c.args.items.items) l.pairs.items (into_iter_items l.rest) (into_iter_items c.next.new.self)
          (into_iter_items c.next-in-Some.new.self) c.in-Some.key c.in-Some-next.value c.in-Some-key_of.key l.invariant.0
          c.in-Some.ensures.cases.0 c.in-Some-next.ensures.cases.0 c.in-Some-key_of.ensures
          ∙ ap (λ ps. onto (pairs_view ps) (trees_view (into_iter_items c.next-in-Some.new.self))) (sym c.in_ok-push.ensures.items),
      (let a = l.invariant.1 in
          let b = ap length c.in-Some.ensures.cases.0 in
          let d = c.in-Some.ensures.cases.1 in
          let e = ap length c.in-Some-next.ensures.cases.0 in
          let f = c.in-Some-next.ensures.cases.1 in
          omega arith),
    )

pub returns : goal.returns
returns c =
    let l = c.loop-key in
    all_pairs (trees_view c.args.items.items) (pairs_view l.pairs.items) (into_iter_items l.rest) l.invariant.0
    (let a = l.invariant.1 in let b = c.in_default.ensures.cases.0 in omega arith)
