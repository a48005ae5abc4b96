use Rattle.std.proofs.Common.{◌≡◌, List, ℕ, [], ◌∷◌, ◌++◌, ◌+◌, map, of_z, rules, subst, sym, take, to_z, w64}
use Rattle.std.proofs.lemmas.Int.{to_z-of_z}
use Rattle.px_refresh.proofs.MoveLemmas.{fields_more}
use Rattle.px_refresh.specs.Refresh.{refreshed_field}
use Rattle.px_refresh.proofs.moving.refreshed.Goals as goal

pub loop-i-preserved : goal.loop-i-preserved
loop-i-preserved c =
    let fields = c.args.fields.now in
    let i = c.loop-i.i in
    let name = c.pair.result.0.now in
    let value = c.pair.result.1.now in
    let same : to_z w64 (of_z w64 c.args.shift) ≡ c.args.shift = to_z-of_z w64 c.args.shift c.ranges.shift in
    let so_far = subst (λ z. c.loop-i.made ≡ map (refreshed_field z) (take i fields)) same c.loop-i.invariant in
    let moves : ◌≡◌ {A = List ℕ × List ℕ} (name, c.in_ok-refreshed_value.field-0) (refreshed_field c.args.shift (name, value)) = search rules in
    let pushed : c.add.new.self ≡ c.loop-i.made ++ (name, c.in_ok-refreshed_value.field-0) ∷ [] = search rules in
    subst (λ z. c.add.new.self ≡ map (refreshed_field z) (take (i + 1) fields)) (sym same)
    (fields_more c.args.shift fields i (name, value) c.in_ok-refreshed_value.field-0 c.loop-i.made c.add.new.self c.pair.ensures so_far moves pushed)
