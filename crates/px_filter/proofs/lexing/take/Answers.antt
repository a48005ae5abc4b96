use Rattle.std.proofs.Common.{◌+◌, ◌++◌, ◌∷◌, [], drop, sym, ap, ◌∙◌, append_assoc}
use Rattle.px_filter.specs.Tokens.{tokens_within}
use Rattle.px_filter.specs.declared.token.Placed.{Placed}
use Rattle.px_filter.proofs.TokenLemmas.{taken_blank, taken_token, used_some}
use Rattle.px_filter.proofs.lexing.take.Goals as goal

pub returns-then-is_blank-clause-taken : goal.returns-then-is_blank-clause-taken
returns-then-is_blank-clause-taken c = λ n.
    ap (λ ts. c.args.tokens.now.items ++ ts)
    (taken_blank n c.args.place c.args.text.now c.requires (sym c.is_blank.ensures ∙ c.if-is_blank.true))

pub returns-clause-some : goal.returns-clause-some
returns-clause-some c =
    let f = c.in_ok-token.field-0 in
    used_some c.args.text.now f.token f.used c.requires (sym c.is_blank.ensures ∙ c.if-is_blank.false) c.in_ok-token.ensures.token

pub returns-clause-taken : goal.returns-clause-taken
returns-clause-taken c =
    let f = c.in_ok-token.field-0 in
    let old = c.args.tokens.now.items in
    let first : Placed = record { place = c.args.place; token = f.token } in
    let blank = sym c.is_blank.ensures ∙ c.if-is_blank.false in
    λ n. let rest = tokens_within n (c.args.place + f.used) (drop f.used c.args.text.now) in
    ap (λ ts. ts ++ rest) c.in_ok-push.ensures.items ∙ append_assoc old (first ∷ []) rest
    ∙ ap (λ ts. old ++ ts) (taken_token n c.args.place c.args.text.now f.token f.used c.requires blank c.in_ok-token.ensures.token)
