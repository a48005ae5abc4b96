use Rattle.std.proofs.Common.{ℕ, ◌+◌, ◌==◌, length, take, drop, sym, ap, ◌∙◌, arith, rules, take_all}
use Rattle.std.proofs.lemmas.List.Sums.{position_or_len_is}
use Rattle.std.proofs.lemmas.List.{take_rest, drop_all}
use Rattle.px_replay.proofs.key.split_path.Goals as goal

pub returns-in-Some-clause-bare : goal.returns-in-Some-clause-bare
returns-in-Some-clause-bare c =
    let path = c.args.path.now in
    let found = position_or_len_is (λ (b : ℕ). b == 63) path c.in-Some.i 0 (search rules) (search rules) (search rules) in
    ap (λ n. take n path) (sym found)

pub returns-in-Some-clause-behind : goal.returns-in-Some-clause-behind
returns-in-Some-clause-behind c =
    let path = c.args.path.now in
    let found = position_or_len_is (λ (b : ℕ). b == 63) path c.in-Some.i 0 (search rules) (search rules) (search rules) in
    take_rest path _ ∙ ap (λ n. drop (n + 1) path) (sym found)

pub returns-in-None-clause-bare : goal.returns-in-None-clause-bare
returns-in-None-clause-bare c =
    let path = c.args.path.now in
    let none = position_or_len_is (λ (b : ℕ). b == 63) path (length path) 0 (omega arith) (search rules) (search rules) in
    sym (ap (λ n. take n path) none ∙ take_all (length path) path (omega arith))

pub returns-in-None-clause-behind : goal.returns-in-None-clause-behind
returns-in-None-clause-behind c =
    let path = c.args.path.now in
    let none = position_or_len_is (λ (b : ℕ). b == 63) path (length path) 0 (omega arith) (search rules) (search rules) in
    sym (ap (λ n. drop (n + 1) path) none ∙ drop_all (length path + 1) path (omega arith))
