use Rattle.std.specs.Prelude.{ℕ, unsigned_abs}
use Rattle.std.proofs.Common.{◌≡◌, ap, arith}
use Rattle.px_har.proofs.DateLemmas.{date_parts, year_small}
use Rattle.px_har.proofs.moment.date_after.Goals as goal

pub returns-clause-date : goal.returns-clause-date
returns-clause-date c =
    date_parts c.args.days c.parts.result c.from_days_since_min.result c.parts.ensures.parts c.from_days_since_min.ensures

pub returns-clause-year : goal.returns-clause-year
returns-clause-year c =
    let same : c.parts.result.0 ≡ unsigned_abs c.from_days_since_min.result.year = ap (λ (made : ℕ × ℕ × ℕ). made.0) c.parts.ensures.parts in
    let small = year_small c.from_days_since_min.result in
    omega arith
