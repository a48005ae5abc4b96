use Rattle.std.proofs.Common.{◌≡◌, ◌++◌, string_bytes, drop}
use Rattle.px_har.specs.Entry.{characters}
use Rattle.px_har.proofs.values.characters.Given as goal

abbrev pub invariant-loop-byte : goal.invariant-loop-byte
invariant-loop-byte l = string_bytes l.text ++ characters (drop l.byte-index l.bytes) ≡ characters l.bytes
