use Rattle.std.proofs.Common.{◌≡◌, ◌∙◌, ◌++◌, ℕ, List, get_or, ap, sym}
use Rattle.std.proofs.lemmas.Option.{get_or_from_slice_get, slice_get_within}
use Rattle.px_write.specs.Text.{field_line}
use Rattle.px_text.proofs.PrefixLemmas.{adds_item, adds_more, adds_same, err_adds}
use Rattle.px_write.proofs.fields.write_field_lines.Goals as goal

pub loop-i-preserved : goal.loop-i-preserved
loop-i-preserved c =
    let pair : List ℕ × List ℕ = (c.pair.result.0.now, c.pair.result.1.now) in
    let is : get_or c.args.fields.now c.loop-i.i pair ≡ pair = get_or_from_slice_get c.args.fields.now c.loop-i.i pair pair c.pair.ensures in
    adds_more field_line c.args.fields.now c.loop-i.i pair _ _ _ (slice_get_within c.args.fields.now c.loop-i.i pair c.pair.ensures) c.loop-i.invariant
    (c.in_ok-write_field.ensures.ok ∙ ap (λ p. c.loop-i.out.items ++ field_line p) (sym is))

pub returns-in_err-write_field-clause-err : goal.returns-in_err-write_field-clause-err
returns-in_err-write_field-clause-err c =
    let pair : List ℕ × List ℕ = (c.pair.result.0.now, c.pair.result.1.now) in
    let is : get_or c.args.fields.now c.loop-i.i pair ≡ pair = get_or_from_slice_get c.args.fields.now c.loop-i.i pair pair c.pair.ensures in
    err_adds c.from_residual.result _ _ _
    (adds_item field_line c.args.fields.now c.loop-i.i pair _ _ _ (slice_get_within c.args.fields.now c.loop-i.i pair c.pair.ensures) c.loop-i.invariant
    (adds_same _ _ _ _ (ap field_line (sym is)) c.in_err-write_field.ensures.err))
