use Rattle.std.proofs.Common.{◌≡◌, ◌≤◌, ◌++◌, [], None, length}
use Rattle.px_relay.specs.Calls.{keys_behind_all, text_by}
use Rattle.px_relay.specs.Lengths.{ahead}
use Rattle.px_relay.specs.Messages.{fragments, opcode_of}
use Rattle.px_relay.proofs.sender.Sender.push_fragments.Given as goal

abbrev pub invariant-counts : goal.invariant-counts
invariant-counts l = record {
  opcode : l.opcode ≤ 2;
  server : l.self.server ≡ l.initial.self.server;
  keys : keys_behind_all l.to l.self.keys (fragments l.opcode (ahead l.next l.walk) l.rest)
      ≡ keys_behind_all l.to l.initial.self.keys (fragments (opcode_of l.is_text) l.lengths l.payload);
  text : l.text.items ++ text_by l.to l.self.keys (fragments l.opcode (ahead l.next l.walk) l.rest)
      ≡ l.initial.text.items ++ text_by l.to l.initial.self.keys (fragments (opcode_of l.is_text) l.lengths l.payload);
  none : l.next ≡ None → l.walk ≡ [];
}

abbrev pub decreases-counts : goal.decreases-counts
decreases-counts l = length (ahead l.next l.walk)
