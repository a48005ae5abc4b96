use Rattle.std.proofs.Common.{◌≡◌, ◌++◌, ◌≤◌, ◌-◌, length, take, drop}
use Rattle.px_message.specs.Fields.{without}
use Rattle.px_message.proofs.fields.remove_from.Given as goal

abbrev pub invariant-loop-i : goal.invariant-loop-i
invariant-loop-i l = record {
  within : l.i ≤ length l.pairs.items;
  same :
      take l.i l.pairs.items ++ without l.name (drop l.i l.pairs.items)
      ≡ take l.start l.initial.pairs.items ++ without l.name (drop l.start l.initial.pairs.items);
}

abbrev pub decreases-loop-i : goal.decreases-loop-i
decreases-loop-i l = length l.pairs.items - l.i
