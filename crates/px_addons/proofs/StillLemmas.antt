-- Parts in their order, from the first of them on; and what of that which moves no part but one changes.
use Rattle.std.proofs.Common.{◌≡◌, ◌≢◌, ◌∙◌, ℕ, true, false, List, [], ◌∷◌, Option, refl, sym, ap}
use Rattle.px_event.specs.declared.ask.Hook.{Hook}
use Rattle.px_core.specs.Answers.{FilesMeaning}
use Rattle.px_core.specs.declared.answerer.Draft.{Draft}
use Rattle.px_refresh.specs.declared.authorization.StickyAuth.{StickyAuth}
use Rattle.px_refresh.specs.declared.cookies.StickyCookies.{StickyCookies}
use Rattle.px_replay.specs.Replaying.{Replaying}
use Rattle.px_addons.specs.Moving.{Moves}
use Rattle.px_addons.specs.Chain.{Movers, PartMoves, PartInTurn, by_part, past_part, PartsMove, no_part, next_part, is_going}
use Rattle.px_addons.specs.declared.parts.Part.{Part}
use Rattle.px_addons.specs.declared.parts.Part.TheVariants as part
use Rattle.px_addons.specs.declared.rules.Rules.{Rules}

-- the part is none of them
abbrev pub IsNone : Part → List Part → Type 0
IsNone by [] = Unit {0}
IsNone by (one ∷ others) = (one ≢ by) × IsNone by others

-- only that part changes what is seen
pub record MovedBy {B X : Type 0} (by : Part) (see : Movers B → X) : Type 0 where
  pub auth : part.StickyAuth ≢ by → (m : Movers B) (kept : Option StickyAuth) → see (record m { auth = kept }) ≡ see m
  pub cookies : part.KeepCookies ≢ by → (m : Movers B) (kept : Option StickyCookies) → see (record m { cookies = kept }) ≡ see m
  pub replay : part.ServerReplay ≢ by → (m : Movers B) (recorded : Option Replaying) → see (record m { replay = recorded }) ≡ see m
  pub addons : part.Addons ≢ by → (m : Movers B) (others : List B) → see (record m { addons = others }) ≡ see m

pub replay_moved : {B : Type 0} → MovedBy part.ServerReplay (λ (m : Movers B). m.replay)
replay_moved = record { auth = λ other m kept. refl; cookies = λ other m kept. refl; replay = λ other m recorded. absurd (other refl); addons = λ other m others. refl }

pub cookies_moved : {B : Type 0} → MovedBy part.KeepCookies (λ (m : Movers B). m.cookies)
cookies_moved = record { auth = λ other m kept. refl; cookies = λ other m kept. absurd (other refl); replay = λ other m recorded. refl; addons = λ other m others. refl }

pub auth_moved : {B : Type 0} → MovedBy part.StickyAuth (λ (m : Movers B). m.auth)
auth_moved = record { auth = λ other m kept. absurd (other refl); cookies = λ other m kept. refl; replay = λ other m recorded. refl; addons = λ other m others. refl }

module _ {B : Type 0} (title state : B → List ℕ) (moves : B → Moves) where
  -- the first of some parts, and those behind it
  pub record FirstOf (rules : Rules) (hook : Hook) (one : Part) (others : List Part) (draft : Draft) (old : Movers B) (files : FilesMeaning)
      (end : Draft) (new : Movers B) (new_files : FilesMeaning) : Type 0 where
    pub after : Draft
    pub mid : Movers B
    pub mid_files : FilesMeaning
    pub moved : is_going draft.verdict ≡ true → PartMoves title state moves rules hook one draft old files after mid mid_files
    pub behind : PartsMove title state moves rules hook others after mid mid_files end new new_files

  was_asked : (rules : Rules) (hook : Hook) (one : Part) (draft after : Draft) (old new : Movers B) (files new_files : FilesMeaning) → is_going draft.verdict ≡ true →
      PartInTurn title state moves rules hook one draft old files after new new_files → PartMoves title state moves rules hook one draft old files after new new_files
  was_asked rules hook one draft after old new files new_files going (by_part _ _ _ _ _ _ _ moved) = moved
  was_asked rules hook one draft after old new files new_files going (past_part _ _ _ over) = absurd (let no : true ≡ false = sym going ∙ over in cc)

  pub first_of : (rules : Rules) (hook : Hook) (one : Part) (others : List Part) (draft end : Draft) (old new : Movers B) (files new_files : FilesMeaning) →
      PartsMove title state moves rules hook (one ∷ others) draft old files end new new_files → FirstOf rules hook one others draft old files end new new_files
  first_of rules hook one others draft end old new files new_files (next_part _ _ _ after _ _ mid _ _ mid_files _ moved behind) = record {
    after = after;
    mid = mid;
    mid_files = mid_files;
    moved = λ going. was_asked rules hook one draft after old mid files mid_files going moved;
    behind = behind;
  }

  -- what each part that is asked keeps, is kept
  module _ (Holds : Movers B → Type 0) (rules : Rules) (hook : Hook) (keeps : (one : Part) (draft after : Draft) (old new : Movers B) (files new_files : FilesMeaning) →
      PartMoves title state moves rules hook one draft old files after new new_files → Holds old → Holds new) where
    part_keeps : (one : Part) (draft after : Draft) (old new : Movers B) (files new_files : FilesMeaning) →
        PartInTurn title state moves rules hook one draft old files after new new_files → Holds old → Holds new
    part_keeps one draft after old new files new_files (by_part _ _ _ _ _ _ going moved) so = keeps one draft after old new files new_files moved so
    part_keeps one draft after old new files new_files (past_part _ _ _ ended) so = so

    pub parts_keep : (list : List Part) (draft end : Draft) (old new : Movers B) (files new_files : FilesMeaning) →
        PartsMove title state moves rules hook list draft old files end new new_files → Holds old → Holds new
    parts_keep list draft end old new files new_files (no_part _ _ _) so = so
    parts_keep list draft end old new files new_files (next_part one others _ after _ _ mid _ _ mid_files _ moved behind) so =
        parts_keep others after end mid new mid_files new_files behind (part_keeps one draft after old mid files mid_files moved so)

  module _ {X : Type 0} (by : Part) (see : Movers B → X) (moved_by : MovedBy by see) where
    asked_still : (rules : Rules) (hook : Hook) (one : Part) (draft after : Draft) (old new : Movers B) (files new_files : FilesMeaning) → one ≢ by →
        PartMoves title state moves rules hook one draft old files after new new_files → see new ≡ see old
    asked_still rules hook part.Block draft after old new files new_files other moved = ap see moved.1
    asked_still rules hook part.MapLocal draft after old new files new_files other moved = ap see moved.1
    asked_still rules hook part.MapRemote draft after old new files new_files other moved = ap see moved.1
    asked_still rules hook part.ModifyHeaders draft after old new files new_files other moved = ap see moved.1
    asked_still rules hook part.Anticache draft after old new files new_files other moved = ap see moved.1
    asked_still rules hook part.Anticomp draft after old new files new_files other moved = ap see moved.1
    asked_still rules hook part.StickyCookies draft after old new files new_files other moved = ap see moved.1
    asked_still rules hook part.StickyAuth draft after old new files new_files other moved = ap see moved.1 ∙ moved_by.auth other old new.auth
    asked_still rules hook part.KeepCookies draft after old new files new_files other moved = ap see moved.1 ∙ moved_by.cookies other old new.cookies
    asked_still rules hook part.ServerReplay draft after old new files new_files other moved = ap see moved.1 ∙ moved_by.replay other old new.replay
    asked_still rules hook part.ModifyBody draft after old new files new_files other moved = ap see moved.1
    asked_still rules hook part.Addons draft after old new files new_files other moved = ap see moved.1 ∙ moved_by.addons other old new.addons

    part_still : (rules : Rules) (hook : Hook) (one : Part) (draft after : Draft) (old new : Movers B) (files new_files : FilesMeaning) → one ≢ by →
        PartInTurn title state moves rules hook one draft old files after new new_files → see new ≡ see old
    part_still rules hook one draft after old new files new_files other (by_part _ _ _ _ _ _ going moved) =
        asked_still rules hook one draft after old new files new_files other moved
    part_still rules hook one draft after old new files new_files other (past_part _ _ _ ended) = refl

    -- parts that are not that one leave it as it is
    pub parts_still : (rules : Rules) (hook : Hook) (list : List Part) (draft end : Draft) (old new : Movers B) (files new_files : FilesMeaning) → IsNone by list →
        PartsMove title state moves rules hook list draft old files end new new_files → see new ≡ see old
    parts_still rules hook list draft end old new files new_files are (no_part _ _ _) = refl
    parts_still rules hook list draft end old new files new_files are (next_part one others _ after _ _ mid _ _ mid_files _ moved behind) =
        parts_still rules hook others after end mid new mid_files new_files are.1 behind ∙ part_still rules hook one draft after old mid files mid_files are.0 moved
