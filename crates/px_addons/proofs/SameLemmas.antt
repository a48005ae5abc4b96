-- Answers leave the addons the same ones.
use Rattle.std.proofs.Common.{◌≡◌, ℕ, List, [], ◌∷◌, map, refl, sym, ap, ap₂, subst, ◌∙◌}
use Rattle.px_event.specs.declared.ask.Hook.{Hook}
use Rattle.px_core.specs.Answers.{FilesMeaning}
use Rattle.px_core.specs.declared.answerer.Draft.{Draft}
use Rattle.px_addons.specs.Moving.{Moves}
use Rattle.px_addons.specs.Chain.{TwoInTurn, SameAddon, SameAddons, Movers, AddonMoves, by_addon, past_addon, AddonsMove, no_addon, next_addon, PartMoves, PartInTurn, by_part, past_part, PartsMove, no_part, next_part}
use Rattle.px_addons.specs.declared.parts.Part.{Part}
use Rattle.px_addons.specs.declared.parts.Part.TheVariants as part
use Rattle.px_addons.specs.declared.rules.Rules.{Rules}

module _ {B : Type 0} (title state : B → List ℕ) (moves : B → Moves) where
  same_itself : (addon : B) → SameAddon title state moves addon addon
  same_itself addon = record { titled = refl; moving = ((λ h s d t e m. m), (λ h s d t e m. m)) }

  same_on : (a b c : B) → SameAddon title state moves a b → SameAddon title state moves b c → SameAddon title state moves a c
  same_on a b c one other = record {
    titled = other.titled ∙ one.titled;
    moving = ((λ h s d t e m. other.moving.0 h s d t e (one.moving.0 h s d t e m)), (λ h s d t e m. one.moving.1 h s d t e (other.moving.1 h s d t e m)));
  }

  pub all_themselves : (addons : List B) → SameAddons title state moves addons addons
  all_themselves [] = tt
  all_themselves (addon ∷ others) = (same_itself addon, all_themselves others)

  all_on : (olds mids news : List B) → SameAddons title state moves olds mids → SameAddons title state moves mids news → SameAddons title state moves olds news
  all_on [] [] [] one other = tt
  all_on [] [] (c ∷ news) one other = absurd other
  all_on [] (b ∷ mids) news one other = absurd one
  all_on (a ∷ olds) [] news one other = absurd one
  all_on (a ∷ olds) (b ∷ mids) [] one other = absurd other
  all_on (a ∷ olds) (b ∷ mids) (c ∷ news) one other = (same_on a b c one.0 other.0, all_on olds mids news one.1 other.1)

  one_same : (hook : Hook) (draft after : Draft) (old new : B) → AddonMoves title state moves hook draft old after new → SameAddon title state moves old new
  one_same hook draft after old new (by_addon _ _ _ _ going same moved) = same
  one_same hook draft after old new (past_addon _ _ ended) = same_itself old

  addons_same : (hook : Hook) (draft end : Draft) (olds news : List B) → AddonsMove title state moves hook draft olds end news → SameAddons title state moves olds news
  addons_same hook draft end olds news (no_addon _) = tt
  addons_same hook draft end olds news (next_addon _ after _ old new others rest moved behind) =
      (one_same hook draft after old new moved, addons_same hook after end others rest behind)

  still_same : (old new : Movers B) → new ≡ old → SameAddons title state moves old.addons new.addons
  still_same old new same = subst (λ (l : Movers B). SameAddons title state moves old.addons l.addons) (sym same) (all_themselves old.addons)

  -- what moved is other than the addons
  other_same : (old new moved : Movers B) → new ≡ moved → moved.addons ≡ old.addons → SameAddons title state moves old.addons new.addons
  other_same old new moved same addons = subst (λ l. SameAddons title state moves old.addons l) (sym (ap (λ (m : Movers B). m.addons) same ∙ addons)) (all_themselves old.addons)

  asked_same : (rules : Rules) (hook : Hook) (one : Part) (draft after : Draft) (old new : Movers B) (files new_files : FilesMeaning) →
      PartMoves title state moves rules hook one draft old files after new new_files → SameAddons title state moves old.addons new.addons
  asked_same rules hook part.Block draft after old new files new_files moved = still_same old new moved.1
  asked_same rules hook part.MapLocal draft after old new files new_files moved = still_same old new moved.1
  asked_same rules hook part.MapRemote draft after old new files new_files moved = still_same old new moved.1
  asked_same rules hook part.ModifyHeaders draft after old new files new_files moved = still_same old new moved.1
  asked_same rules hook part.Anticache draft after old new files new_files moved = still_same old new moved.1
  asked_same rules hook part.Anticomp draft after old new files new_files moved = still_same old new moved.1
  asked_same rules hook part.StickyCookies draft after old new files new_files moved = still_same old new moved.1
  asked_same rules hook part.StickyAuth draft after old new files new_files moved = other_same old new _ moved.1 refl
  asked_same rules hook part.KeepCookies draft after old new files new_files moved = other_same old new _ moved.1 refl
  asked_same rules hook part.ServerReplay draft after old new files new_files moved = other_same old new _ moved.1 refl
  asked_same rules hook part.ModifyBody draft after old new files new_files moved = still_same old new moved.1
  asked_same rules hook part.Addons draft after old new files new_files moved = addons_same hook draft after old.addons new.addons moved.0

  part_same : (rules : Rules) (hook : Hook) (one : Part) (draft after : Draft) (old new : Movers B) (files new_files : FilesMeaning) →
      PartInTurn title state moves rules hook one draft old files after new new_files → SameAddons title state moves old.addons new.addons
  part_same rules hook one draft after old new files new_files (by_part _ _ _ _ _ _ going moved) = asked_same rules hook one draft after old new files new_files moved
  part_same rules hook one draft after old new files new_files (past_part _ _ _ ended) = all_themselves old.addons

  pub parts_same : (rules : Rules) (hook : Hook) (list : List Part) (draft end : Draft) (old new : Movers B) (files new_files : FilesMeaning) →
      PartsMove title state moves rules hook list draft old files end new new_files → SameAddons title state moves old.addons new.addons
  parts_same rules hook list draft end old new files new_files (no_part _ _ _) = all_themselves old.addons
  parts_same rules hook list draft end old new files new_files (next_part one others _ after _ _ mid _ _ mid_files _ moved behind) =
      all_on old.addons mid.addons new.addons (part_same rules hook one draft after old mid files mid_files moved) (parts_same rules hook others after end mid new mid_files new_files behind)

  pub same_titles : (olds news : List B) → SameAddons title state moves olds news → map title news ≡ map title olds
  same_titles [] [] same = refl
  same_titles [] (new ∷ news) same = absurd same
  same_titles (old ∷ olds) [] same = absurd same
  same_titles (old ∷ olds) (new ∷ news) same = ap₂ (λ (t : List ℕ) (ts : List (List ℕ)). t ∷ ts) same.0.titled (same_titles olds news same.1)

  none_left : (hook : Hook) (draft end : Draft) (news : List B) → AddonsMove title state moves hook draft [] end news → (end ≡ draft) × (news ≡ [])
  none_left hook draft end news (no_addon _) = (refl, refl)

  one_left : (hook : Hook) (draft end : Draft) (other : B) (rest : List B) → AddonsMove title state moves hook draft (other ∷ []) end rest →
      (new : B) × AddonMoves title state moves hook draft other end new × (rest ≡ new ∷ [])
  one_left hook draft end other rest (next_addon _ after _ _ new _ none second last) =
      let left = none_left hook after end none last in
      (new, subst (λ d. AddonMoves title state moves hook draft other d new) (sym left.0) second, ap (λ r. new ∷ r) left.1)

  pub two_in_turn : (hook : Hook) (draft end : Draft) (one other : B) (news : List B) → AddonsMove title state moves hook draft (one ∷ other ∷ []) end news →
      TwoInTurn title state moves hook draft one other end news
  two_in_turn hook draft end one other news (next_addon _ middle _ _ new_one _ rest first behind) =
      let last = one_left hook middle end other rest behind in
      record { left = middle; new_one = new_one; new_other = last.0; first = first; second = last.1; news = ap (λ r. new_one ∷ r) last.2 }
