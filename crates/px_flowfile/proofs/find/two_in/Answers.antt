use Rattle.std.proofs.Common.{◌≡◌, length, refl, sym, ap, ◌∙◌}
use Rattle.px_tnet.specs.Tree.{list}
use Rattle.px_tnet.specs.View.{trees_view}
use Rattle.px_flowfile.proofs.FieldLemmas.{two_long}
use Rattle.px_flowfile.proofs.find.two_in.Goals as goal

pub returns-then-items-ne2-clause-err : goal.returns-then-items-ne2-clause-err
returns-then-items-ne2-clause-err c = (
  refl,
  λ a b h.
      let two : length c.as_slice-items.result.now ≡ 2 =
      two_long c.as_slice-items.result.now _ a b (c.in_ok-list_in.ensures.ok ∙ ap (λ l. list (trees_view l)) (sym c.as_slice-items.ensures)) h in
      c.if-items-ne2.true two,
)
