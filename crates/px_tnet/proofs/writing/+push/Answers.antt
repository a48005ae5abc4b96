use Rattle.std.proofs.Common.{◌≡◌, ◌≤◌, ◌⊎◌, ◌∷◌, length, inl, inr, rules}
use Rattle.std.specs.Slice.Iter.{iter_rest}
use Rattle.std.specs.Iterator.Adapters.{rev_source}
use Rattle.px_tnet.specs.Frame.{too_many}
use Rattle.px_tnet.specs.View.{listed, paired, pairs_view, trees_view}
use Rattle.px_tnet.specs.Written.{written_pairs, written_trees}
use Rattle.px_tnet.specs.declared.error.WriteError.TheVariants as error
use Rattle.px_tnet.proofs.DictLemmas.{Entry}
use Rattle.px_tnet.proofs.TurnLemmas.{all_split, pushed_entry, too_long_key, too_long_tree, too_long_value}
use Rattle.px_tnet.proofs.writing.+push.Goals as goal

pub push_dict-returns-in_err-push_tree-clause-err :
    goal.push_dict-returns-in_err-push_tree-clause-err
push_dict-returns-in_err-push_tree-clause-err t c =
    let l = c.loop-key in
    let told : (c.in_err-push_tree.field-0.0 ≡ error.NoMemory)
    ⊎ ((c.in_err-push_tree.field-0.0 ≡ error.TooLong) × (too_many ≤ length (written_pairs (pairs_view (paired c.args.dict.now))))) =
    elim c.in_err-push_tree.ensures.err [
      | inl full ↦ inl full
      | inr long ↦ inr (
        long.0,
        too_long_value (paired c.args.dict.now) (iter_rest (rev_source l.key-iterator)) (iter_rest (rev_source c.next.new.self))
            l.invariant.2 c.in-Some.field-0.now l.invariant.3 c.in-Some.ensures.steps long.1,
      )
    ] in
    search rules

pub push_dict-loop-key-preserved : goal.push_dict-loop-key-preserved
push_dict-loop-key-preserved t c =
    let l = c.loop-key in
    let e : Entry = c.in-Some.field-0.now in (
      tt,
      tt,
      e ∷ l.invariant.2,
      all_split (paired c.args.dict.now) (iter_rest (rev_source l.key-iterator)) (iter_rest (rev_source c.next.new.self)) l.invariant.2 e l.invariant.3
          c.in-Some.ensures.steps,
      pushed_entry l.out.items c.args.out.now.items c.push_tree.new.out.items c.push_key.new.out.items l.invariant.2 e l.invariant.4
          c.in_ok-push_tree.ensures.ok c.in_ok-push_key.ensures.ok,
    )

pub push_dict-returns-in_err-push_key-clause-err :
    goal.push_dict-returns-in_err-push_key-clause-err
push_dict-returns-in_err-push_key-clause-err t c =
    let l = c.loop-key in
    let told : (c.in_err-push_key.field-0.0 ≡ error.NoMemory)
    ⊎ ((c.in_err-push_key.field-0.0 ≡ error.TooLong) × (too_many ≤ length (written_pairs (pairs_view (paired c.args.dict.now))))) =
    elim c.in_err-push_key.ensures.err [
      | inl full ↦ inl full
      | inr long ↦ inr (
        long.0,
        too_long_key (paired c.args.dict.now) (iter_rest (rev_source l.key-iterator)) (iter_rest (rev_source c.next.new.self))
            l.invariant.2 c.in-Some.field-0.now l.invariant.3 c.in-Some.ensures.steps long.1,
      )
    ] in
    search rules

pub push_list-returns-in_err-push_tree-clause-err :
    goal.push_list-returns-in_err-push_tree-clause-err
push_list-returns-in_err-push_tree-clause-err t c =
    let l = c.loop-tree in
    let told : (c.in_err-push_tree.field-0.0 ≡ error.NoMemory)
    ⊎ ((c.in_err-push_tree.field-0.0 ≡ error.TooLong) × (too_many ≤ length (written_trees (trees_view (listed c.args.list.now))))) =
    elim c.in_err-push_tree.ensures.err [
      | inl full ↦ inl full
      | inr long ↦ inr (
        long.0,
        too_long_tree (listed c.args.list.now) (iter_rest (rev_source l.tree-iterator)) (iter_rest (rev_source c.next.new.self))
            l.invariant.2 c.in-Some.tree.now l.invariant.3 c.in-Some.ensures.steps long.1,
      )
    ] in
    search rules
