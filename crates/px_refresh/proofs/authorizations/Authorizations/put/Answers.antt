use Rattle.std.proofs.Common.{◌∙◌, ◌<◌, ap, length, subst, sym}
use Rattle.px_refresh.proofs.PlaceLemmas.{keys_of, keys_stay, value_written}
use Rattle.px_refresh.specs.Index.{IsPlaced}
use Rattle.px_refresh.specs.Kept.{with_value}
use Rattle.std.specs.Cmp.Lexicographic.{slice_cmp}
use Rattle.std.specs.Ordering.{nat_cmp}
use Rattle.px_refresh.proofs.authorizations.Authorizations.put.Goals as goal

pub invariant_of-self : goal.invariant_of-self
invariant_of-self c =
    let items = c.self.inside.shown.items in
    subst (λ keys. IsPlaced (slice_cmp nat_cmp) c.self.inside.places keys)
    (sym (keys_stay c.args.place c.args.value items)
    ∙ ap keys_of (sym (value_written c.args.place c.args.value items c.index_mut.result.now (subst (λ l. c.args.place < length l) (sym c.self.view_is) c.requires) c.index_mut.ensures.value)))
    c.self.invariant

pub returns : goal.returns
returns c =
    let items = c.self.inside.shown.items in
    value_written c.args.place c.args.value items c.index_mut.result.now (subst (λ l. c.args.place < length l) (sym c.self.view_is) c.requires) c.index_mut.ensures.value
    ∙ ap (with_value c.args.place c.args.value) c.self.view_is
