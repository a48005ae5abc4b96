use Rattle.std.proofs.Common.{◌≡◌, ◌++◌, None, map, ℕ}
use Rattle.px_core.specs.Held.{step_of, asked_from, shown_told}
use Rattle.px_core.specs.Live.{shown_in}
use Rattle.px_core.specs.Runs.{has}
use Rattle.px_core.specs.Unmarked.{all_marked}
use Rattle.px_core.proofs.held.tell.Given as goal

-- what is told and what is left are all the commands
abbrev pub invariant-loop-command : goal.invariant-loop-command
invariant-loop-command l = record {
  told : l.steps.items ++ map (step_of l.fn.conv) (all_marked (has l.fn.marks) l.command-iterator.rest.items) ≡ l.fn.steps.items ++ map (step_of l.fn.conv) (all_marked (has l.fn.marks) l.fn.commands.items);
  asked : asked_from l.open (all_marked (has l.fn.marks) l.command-iterator.rest.items) ≡ asked_from None (all_marked (has l.fn.marks) l.fn.commands.items);
  shows : (conv index : ℕ) → shown_told (all_marked (has l.fn.marks) l.command-iterator.rest.items) (shown_in l.flows) conv index ≡ shown_told (all_marked (has l.fn.marks) l.fn.commands.items) (shown_in l.fn.flows) conv index;
}
