use Rattle.std.proofs.Common.{◌≡◌, ◌++◌}
use Rattle.std.specs.Map.{keys_of}
use Rattle.px_core.proofs.OperateLemmas.{listed}
use Rattle.px_core.proofs.router.Router.live.Given as goal

-- what is listed and what is left are all that the table shows
abbrev pub invariant-loop-number : goal.invariant-loop-number
invariant-loop-number g l = record {
  split : l.list.items ++ listed g.C.Conversation.awaited l.fn.self.table l.number-iterator ≡ listed g.C.Conversation.awaited l.fn.self.table (keys_of l.fn.self.table.flows.asked.entries);
}
