use Rattle.std.proofs.Common.{ℕ, ◌+◌, ◌==◌, length, drop, sym, ap, ◌∙◌, arith, rules}
use Rattle.std.proofs.lemmas.List.Sums.{position_or_len_is}
use Rattle.std.proofs.lemmas.List.{take_rest, drop_all}
use Rattle.px_har.proofs.request.query.Goals as goal

pub returns-in-Some : goal.returns-in-Some
returns-in-Some c =
    let path = c.args.path.now in
    let found = position_or_len_is (λ (b : ℕ). b == 63) path c.in-Some.i 0 (search rules) (search rules) (search rules) in
    take_rest path _ ∙ ap (λ n. drop (n + 1) path) (sym found)

pub returns-in-None : goal.returns-in-None
returns-in-None c =
    let path = c.args.path.now in
    let none = position_or_len_is (λ (b : ℕ). b == 63) path (length path) 0 (omega arith) (search rules) (search rules) in
    sym (ap (λ n. drop (n + 1) path) none ∙ drop_all (length path + 1) path (omega arith))
