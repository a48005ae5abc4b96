use Rattle.std.proofs.Common.{◌≡◌, ◌∙◌, ap, option_and_then, option_map, subst, sym}
use Rattle.std.specs.Prelude.{pos, ◌+ℤ◌, unsigned_abs}
use Rattle.std.specs.Int.{FitsUnsigned}
use Rattle.std.proofs.lemmas.Int.{to_z-of_z}
use mir.Syntax.{w64}
use Rattle.httpdate.specs.Date.{unix_secs}
use Rattle.px_refresh.proofs.MoveLemmas.{none_moved, some_moved}
use Rattle.px_refresh.specs.Refresh.{in_years}
use Rattle.px_refresh.proofs.moving.moved.Goals as goal

pub returns-in_err-second : goal.returns-in_err-second
returns-in_err-second c =
    ap (option_map unix_secs) c.from_residual.ensures
    ∙ sym (ap (option_and_then (λ second. in_years (pos second +ℤ c.args.shift))) (sym c.in-Ok.ensures.secs)
    ∙ ap (λ n. in_years (pos n +ℤ c.args.shift)) (sym c.unix_secs.ensures.value) ∙ none_moved (pos c.unix_secs.result +ℤ c.args.shift)
    (subst (λ z. ¬ (FitsUnsigned w64 (pos c.unix_secs.result +ℤ z))) (to_z-of_z w64 c.args.shift c.ranges.shift) c.in_err-second.ensures))

pub returns : goal.returns
returns c =
    let told = subst (λ z. FitsUnsigned w64 (pos c.unix_secs.result +ℤ z) × (c.in_ok-second.second ≡ unsigned_abs (pos c.unix_secs.result +ℤ z)))
    (to_z-of_z w64 c.args.shift c.ranges.shift) c.in_ok-second.ensures in
    ap (option_map unix_secs) c.ok.ensures.value
    ∙ some_moved (pos c.unix_secs.result +ℤ c.args.shift) c.in_ok-second.second c.from_unix_secs.result told.0 told.1
    c.from_unix_secs.ensures.succeeds c.from_unix_secs.ensures.value
    ∙ sym (ap (option_and_then (λ second. in_years (pos second +ℤ c.args.shift))) (sym c.in-Ok.ensures.secs)
    ∙ ap (λ n. in_years (pos n +ℤ c.args.shift)) (sym c.unix_secs.ensures.value))
