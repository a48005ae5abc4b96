use Rattle.std.proofs.Common.{ℕ, List, ◌∙◌, ◌≡◌, ◌<◌, ◌+◌, ◌-◌, ◌^◌, min, ap, refl, length, arith}
use Rattle.std.proofs.lemmas.List.{take_all}
use Rattle.px_read.specs.Kept.{fields_keep}
use Rattle.px_read.proofs.KeptLemmas.{keeps_more}
use Rattle.px_read.proofs.kept.fields_kept.Goals as goal

pub loop-at-init : goal.loop-at-init
loop-at-init c = (omega arith, refl)

pub loop-at-preserved : goal.loop-at-preserved
loop-at-preserved c =
    let name = c.pair.result.0.now in
    let value = c.pair.result.1.now in
    let within : c.loop-at.at < length c.args.fields.now = omega arith in
    let first : length c.bytes.result.now ≡ length name = ap (λ (l : List ℕ). length l) c.bytes.ensures.bytes in
    let second : length c.bytes-in-loop-at.result.now ≡ length value = ap (λ (l : List ℕ). length l) c.bytes-in-loop-at.ensures.bytes in (
      omega arith,
      c.saturating_add-size.ensures
          ∙ (λ i. min (c.saturating_add.ensures i + second i) (2 ^ 64 - 1))
          ∙ ap (λ (n : ℕ). min (min (c.loop-at.size + n) (2 ^ 64 - 1) + length value) (2 ^ 64 - 1)) first
          ∙ keeps_more c.args.fields.now c.loop-at.at c.loop-at.size (2 ^ 64 - 1) (name, value) within c.pair.ensures c.loop-at.invariant.1,
    )

pub returns : goal.returns
returns c =
    let size = c.len.ensures in
    let done = c.loop-at-test.false in
    c.loop-at.invariant.1
    ∙ ap (λ (l : List (List ℕ × List ℕ)). min (fields_keep l) (2 ^ 64 - 1)) (take_all c.loop-at.at c.args.fields.now (omega arith))
