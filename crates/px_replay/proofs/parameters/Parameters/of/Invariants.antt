use Rattle.std.proofs.Common.{◌≡◌, ◌++◌, map}
use Rattle.form_urlencoded.specs.Parse.{raw_pairs_left}
use Rattle.px_replay.specs.Key.{counted, decoded_pair, parameters}
use Rattle.px_replay.proofs.parameters.Parameters.of.Given as goal

-- the parameters so far that count, and those that are still to come
abbrev pub invariant-loop-name : goal.invariant-loop-name
invariant-loop-name l =
    l.pairs.items ++ counted l.fn.ignored (map decoded_pair (raw_pairs_left l.rest)) ≡ counted l.fn.ignored (parameters l.fn.query)
