use Rattle.std.proofs.Common.{ℕ, ◌+◌, ◌==◌, length, take, drop, sym, ap, ◌∙◌, arith, rules, take_all}
use Rattle.std.proofs.lemmas.List.Sums.{position_or_len_is}
use Rattle.std.proofs.lemmas.List.{take_rest, drop_all}
use Rattle.px_refresh.proofs.blanks.cut.Goals as goal

pub returns-in-Some-clause-front : goal.returns-in-Some-clause-front
returns-in-Some-clause-front c =
    let text = c.args.text.now in
    let found = position_or_len_is (λ (b : ℕ). b == c.args.at) text c.in-Some.i 0 (search rules) (search rules) (search rules) in
    ap (λ n. take n text) (sym found)

pub returns-in-Some-clause-behind : goal.returns-in-Some-clause-behind
returns-in-Some-clause-behind c =
    let text = c.args.text.now in
    let found = position_or_len_is (λ (b : ℕ). b == c.args.at) text c.in-Some.i 0 (search rules) (search rules) (search rules) in
    take_rest text _ ∙ ap (λ n. drop (n + 1) text) (sym found)

pub returns-in-None-clause-front : goal.returns-in-None-clause-front
returns-in-None-clause-front c =
    let text = c.args.text.now in
    let none = position_or_len_is (λ (b : ℕ). b == c.args.at) text (length text) 0 (omega arith) (search rules) (search rules) in
    sym (ap (λ n. take n text) none ∙ take_all (length text) text (omega arith))

pub returns-in-None-clause-behind : goal.returns-in-None-clause-behind
returns-in-None-clause-behind c =
    let text = c.args.text.now in
    let none = position_or_len_is (λ (b : ℕ). b == c.args.at) text (length text) 0 (omega arith) (search rules) (search rules) in
    sym (ap (λ n. drop (n + 1) text) none ∙ drop_all (length text + 1) text (omega arith))
