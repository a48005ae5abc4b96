use Rattle.std.proofs.Common.{◌∙◌, Some, ap, subst, sym}
use Rattle.std.specs.BTreeMap.{UpdatesBy}
use Rattle.std.specs.Cmp.Lexicographic.{slice_cmp}
use Rattle.std.specs.Ordering.{nat_cmp}
use Rattle.px_refresh.proofs.KeyLemmas.{text_decides, text_ties}
use Rattle.px_refresh.proofs.PlaceLemmas.{keys_more, keys_of, length_keys, placed_early, placed_more}
use Rattle.px_refresh.specs.Index.{HasNowhere, IsPlaced}
use Rattle.px_refresh.specs.Text.{is_same_text}
use Rattle.px_refresh.proofs.authorizations.Authorizations.add.Goals as goal

pub invariant_of-self-in_err-push : goal.invariant_of-self-in_err-push
invariant_of-self-in_err-push c =
    let cmp = slice_cmp nat_cmp in
    let items = c.self.inside.shown.items in
    subst (λ pairs. IsPlaced cmp c.insert.new.self (keys_of pairs)) (sym c.in_err-push.ensures.items)
    (placed_early is_same_text text_decides cmp text_ties c.self.inside.places c.insert.new.self (keys_of items) c.args.host c.len.result c.self.invariant
    (subst (λ pairs. HasNowhere is_same_text c.args.host (keys_of pairs)) (sym c.self.view_is) c.requires)
    (subst (λ k. UpdatesBy cmp (cmp k) c.self.inside.places c.insert.new.self (Some c.len.result)) c.in_ok-try_clone.ensures c.in_ok-insert.ensures.updates))

pub invariant_of-self-2 : goal.invariant_of-self-2
invariant_of-self-2 c =
    let cmp = slice_cmp nat_cmp in
    let items = c.self.inside.shown.items in
    let updates : UpdatesBy cmp (cmp c.args.host) c.self.inside.places c.insert.new.self (Some c.len.result) =
    subst (λ k. UpdatesBy cmp (cmp k) c.self.inside.places c.insert.new.self (Some c.len.result)) c.in_ok-try_clone.ensures c.in_ok-insert.ensures.updates in
    subst (λ keys. IsPlaced cmp c.insert.new.self keys) (sym (ap keys_of c.in_ok-push.ensures.items ∙ keys_more items c.args.host c.args.value))
    (placed_more is_same_text text_decides cmp c.insert.new.self (keys_of items) c.args.host
    (placed_early is_same_text text_decides cmp text_ties c.self.inside.places c.insert.new.self (keys_of items) c.args.host c.len.result c.self.invariant
    (subst (λ pairs. HasNowhere is_same_text c.args.host (keys_of pairs)) (sym c.self.view_is) c.requires) updates)
    (updates.1 ∙ ap Some (c.len.ensures ∙ c.self.inside.shown.ok.0 ∙ sym (length_keys items))))
