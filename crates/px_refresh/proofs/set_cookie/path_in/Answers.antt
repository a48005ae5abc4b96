use Rattle.std.proofs.Common.{◌∙◌, ℕ, ◌+◌, ◌<◌, ◌==◌, ap, arith, drop, length, rules, sym}
use Rattle.std.proofs.lemmas.List.{take_rest}
use Rattle.std.proofs.lemmas.List.Sums.{position_or_len_is}
use Rattle.px_refresh.proofs.PathLemmas.{path_ends, path_goes_on, path_or}
use Rattle.px_refresh.specs.Cookies.{last_or, paths_in}
use Rattle.px_refresh.proofs.set_cookie.path_in.Goals as goal

pub loop-i-preserved : goal.loop-i-preserved
loop-i-preserved c =
    let rest = c.loop-i.rest.now in
    let path = c.loop-i.path.now in
    let i = c.in-Some.i in
    let within : i < length rest = search rules in
    let found = position_or_len_is (λ (b : ℕ). b == 59) rest i 0 (search rules) (search rules) (search rules) in
    ap (λ t. last_or c.path_or-path.result.now (paths_in t)) (take_rest rest (i + 1))
    ∙ ap (λ p. last_or p (paths_in (drop (i + 1) rest))) (c.path_or-path.ensures ∙ ap (λ a. path_or a path) c.trim_blanks.ensures.trimmed)
    ∙ sym (path_goes_on path rest i found within) ∙ c.loop-i.invariant

pub returns : goal.returns
returns c =
    let rest = c.loop-i.rest.now in
    let path = c.loop-i.path.now in
    let none = position_or_len_is (λ (b : ℕ). b == 59) rest (length rest) 0 (omega arith) (search rules) (search rules) in
    c.path_or.ensures ∙ ap (λ a. path_or a path) c.trim_blanks-2.ensures.trimmed ∙ sym (path_ends path rest none) ∙ c.loop-i.invariant
