use Rattle.std.proofs.Common.{◌≡◌, ◌++◌, map, take, string_bytes}
use Rattle.px_map.specs.Served.{kept}
use Rattle.px_map.proofs.served.push_kept.Given as goal

-- the bytes so far stand at the end
abbrev pub invariant-loop-byte : goal.invariant-loop-byte
invariant-loop-byte l = string_bytes l.name ≡ string_bytes l.fn.name ++ map kept (take l.byte-index l.text)
