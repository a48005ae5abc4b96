-- The first addon of a name, by the place where it is.
use Rattle.std.proofs.Common.{◌≡◌, ℕ, suc, ◌+◌, true, false, List, [], ◌∷◌, length, map, refl, sym, ap, subst, ◌∙◌, arith}
use Rattle.std.specs.Prelude.{bytes_eq, remove}
use Rattle.px_core.specs.Addons.{has_name, has_name_by, without_first}
use Rattle.px_core.proofs.AddonLemmas.{has_name_of_names, names_without_first}
use Rattle.px_addons.specs.Chain.{IsFirstOfName}

module _ {B : Type 0} (title : B → List ℕ) where
  pub first_here : (name : List ℕ) (addons : List B) (addon : B) (others : List B) → addons ≡ addon ∷ others → bytes_eq (title addon) name ≡ true →
      IsFirstOfName title name addons 0
  first_here name addons addon others split same =
      subst (λ l. IsFirstOfName title name l 0) (sym split) (record { within = omega arith; named = rw same refl; others = rw same refl })

  pub first_later : (name : List ℕ) (addons : List B) (addon : B) (others : List B) (place : ℕ) → addons ≡ addon ∷ others → bytes_eq (title addon) name ≡ false →
      IsFirstOfName title name others place → IsFirstOfName title name addons (place + 1)
  first_later name addons addon others place split other first =
      let next : suc place ≡ place + 1 = omega arith in
      let here : IsFirstOfName title name (addon ∷ others) (suc place) = record {
        within = omega (arith, first.within);
        named = rw other first.named;
        others = rw other (ap (λ l. addon ∷ l) first.others);
      } in
      subst (λ l. IsFirstOfName title name l (place + 1)) (sym split) (subst (λ n. IsFirstOfName title name (addon ∷ others) n) next here)

  pub none_here : (name : List ℕ) (addons : List B) → length addons ≡ 0 → has_name_by title name addons ≡ false
  none_here name [] none = refl
  none_here name (addon ∷ others) none = absurd (omega (arith, none))

  pub none_later : (name : List ℕ) (addons : List B) (addon : B) (others : List B) → addons ≡ addon ∷ others → bytes_eq (title addon) name ≡ false →
      has_name_by title name others ≡ false → has_name_by title name addons ≡ false
  none_later name addons addon others split other none =
      subst (λ l. has_name_by title name l ≡ false) (sym split) (rw other none)

  -- the names of a lent list without the first of a name
  pub dropped_names : (name : List ℕ) (addons lent new : List B) (place : ℕ) → lent ≡ addons → IsFirstOfName title name lent place → new ≡ remove addons place →
      map title new ≡ without_first name (map title addons)
  dropped_names name addons lent new place same first dropped =
      let here : IsFirstOfName title name addons place = subst (λ l. IsFirstOfName title name l place) same first in
      ap (λ l. map title l) (dropped ∙ here.others) ∙ names_without_first title name addons

  pub dropped_name : (name : List ℕ) (addons lent : List B) (place : ℕ) → lent ≡ addons → IsFirstOfName title name lent place → has_name name (map title addons) ≡ true
  dropped_name name addons lent place same first =
      has_name_of_names title name addons ∙ subst (λ l. has_name_by title name l ≡ true) same first.named

  pub no_name : (name : List ℕ) (addons lent : List B) → lent ≡ addons → has_name_by title name lent ≡ false → has_name name (map title addons) ≡ false
  no_name name addons lent same none = has_name_of_names title name addons ∙ subst (λ l. has_name_by title name l ≡ false) same none
