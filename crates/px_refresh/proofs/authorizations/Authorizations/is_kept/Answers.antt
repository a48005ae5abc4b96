use Rattle.std.proofs.Common.{◌≡◌, subst}
use Rattle.std.specs.Cmp.Lexicographic.{slice_cmp}
use Rattle.std.specs.Ordering.{nat_cmp}
use Rattle.px_refresh.proofs.KeyLemmas.{text_decides}
use Rattle.px_refresh.proofs.PlaceLemmas.{kept_placed}
use Rattle.px_refresh.specs.Authorized.{authorizations}
use Rattle.px_refresh.specs.Text.{is_same_text}
use Rattle.px_refresh.proofs.authorizations.Authorizations.is_kept.Goals as goal

pub returns : goal.returns
returns c =
    subst (λ l. authorizations l ≡ l) c.self.view_is
    (kept_placed is_same_text text_decides (slice_cmp nat_cmp) c.self.inside.places c.self.inside.shown.items c.self.invariant)
