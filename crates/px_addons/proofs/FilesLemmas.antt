-- Answers read no file but those that map local rules name.
use Rattle.std.proofs.Common.{◌≡◌, ℕ, List, [], ◌∷◌, ◌++◌, refl, sym, subst}
use Rattle.px_event.specs.declared.ask.Hook.{Hook}
use Rattle.px_message.specs.declared.flow.Flow.{Flow}
use Rattle.px_outside.specs.declared.files.FileCall.{FileCall}
use Rattle.px_outside.specs.declared.files.FileCall.TheVariants.{Read, Missed, ReadFailed, Appended, AppendFailed}
use Rattle.px_core.specs.Answers.{FilesMeaning}
use Rattle.px_core.specs.declared.answerer.Draft.{Draft}
use Rattle.px_rule.specs.Rule.{Rule}
use Rattle.px_map.proofs.LocalLemmas.{answer_begins}
use Rattle.px_map.proofs.ReadsLemmas.{made_both, made_none}
use Rattle.px_map.proofs.WithinLemmas.{reads_stay_within}
use Rattle.px_map.specs.View.{local_views}
use Rattle.px_map.specs.Within.{IsOfRule, ReadsOnly}
use Rattle.px_addons.specs.Mapped.{LocalFails, MapsLocal, ReadsOfRules, names_for, seen_of}
use Rattle.px_addons.specs.Moving.{Moves}
use Rattle.px_addons.specs.Parts.{parts}
use Rattle.px_addons.specs.Chain.{Movers, PartMoves, PartInTurn, by_part, past_part, PartsMove, no_part, next_part, PartFails, PartsFail, fails_here, fails_later, ChainFails, part_failed, judging_failed, begun}
use Rattle.px_addons.specs.declared.parts.Part.{Part}
use Rattle.px_addons.specs.declared.parts.Part.TheVariants as part
use Rattle.px_addons.specs.declared.rules.Rules.{Rules}

only_both : (Holds : List ℕ → Type 0) (xs ys : List FileCall) → ReadsOnly Holds xs → ReadsOnly Holds ys → ReadsOnly Holds (xs ++ ys)
only_both Holds [] ys first second = second
only_both Holds (Read path bytes ∷ xs) ys first second = (first.0, only_both Holds xs ys first.1 second)
only_both Holds (Missed path ∷ xs) ys first second = (first.0, only_both Holds xs ys first.1 second)
only_both Holds (ReadFailed path ∷ xs) ys first second = (first.0, only_both Holds xs ys first.1 second)
only_both Holds (Appended path bytes ∷ xs) ys first second = absurd first
only_both Holds (AppendFailed path ∷ xs) ys first second = absurd first

pub reads_none : (rules : List Rule) (files new_files : FilesMeaning) → new_files ≡ files → ReadsOfRules rules files new_files
reads_none rules files new_files same =
    subst (λ now. ReadsOfRules rules files now) (sym same) (record { made = []; named = tt; reads = made_none (seen_of files) })

pub reads_both : (rules : List Rule) (a b c : FilesMeaning) → ReadsOfRules rules a b → ReadsOfRules rules b c → ReadsOfRules rules a c
reads_both rules a b c first second = record {
  made = first.made ++ second.made;
  named = only_both (IsOfRule rules) first.made second.made first.named second.named;
  reads = made_both first.made second.made (seen_of a) (seen_of b) (seen_of c) first.reads second.reads;
}

reads_local : (rules : Rules) (draft after : Draft) (files new_files : FilesMeaning) → MapsLocal rules draft files after new_files →
    ReadsOfRules (local_views rules.local) files new_files
reads_local rules draft after files new_files maps = record {
  made = maps.made;
  named = reads_stay_within (local_views rules.local) draft.flow maps.made (answer_begins (names_for rules draft.flow) maps.made maps.answer maps.answers);
  reads = maps.reads;
}

reads_failed : (rules : Rules) (draft : Draft) (files new_files : FilesMeaning) → LocalFails rules draft files new_files →
    ReadsOfRules (local_views rules.local) files new_files
reads_failed rules draft files new_files fails = record {
  made = fails.made;
  named = reads_stay_within (local_views rules.local) draft.flow fails.made fails.begins;
  reads = fails.reads;
}

one_failed : (rules : Rules) (one : Part) (draft : Draft) (files new_files : FilesMeaning) → PartFails rules one draft files new_files →
    ReadsOfRules (local_views rules.local) files new_files
one_failed rules part.Block draft files new_files failed = reads_none (local_views rules.local) files new_files failed
one_failed rules part.MapLocal draft files new_files failed = reads_failed rules draft files new_files failed
one_failed rules part.MapRemote draft files new_files failed = reads_none (local_views rules.local) files new_files failed
one_failed rules part.ModifyHeaders draft files new_files failed = reads_none (local_views rules.local) files new_files failed
one_failed rules part.Anticache draft files new_files failed = reads_none (local_views rules.local) files new_files failed
one_failed rules part.Anticomp draft files new_files failed = reads_none (local_views rules.local) files new_files failed
one_failed rules part.StickyCookies draft files new_files failed = reads_none (local_views rules.local) files new_files failed
one_failed rules part.StickyAuth draft files new_files failed = reads_none (local_views rules.local) files new_files failed
one_failed rules part.KeepCookies draft files new_files failed = reads_none (local_views rules.local) files new_files failed
one_failed rules part.ServerReplay draft files new_files failed = reads_none (local_views rules.local) files new_files failed
one_failed rules part.ModifyBody draft files new_files failed = reads_none (local_views rules.local) files new_files failed
one_failed rules part.Addons draft files new_files failed = reads_none (local_views rules.local) files new_files failed

module _ {B : Type 0} (title state : B → List ℕ) (moves : B → Moves) where
  asked_reads : (rules : Rules) (hook : Hook) (one : Part) (draft after : Draft) (old new : Movers B) (files new_files : FilesMeaning) →
      PartMoves title state moves rules hook one draft old files after new new_files → ReadsOfRules (local_views rules.local) files new_files
  asked_reads rules hook part.Block draft after old new files new_files moved = reads_none (local_views rules.local) files new_files moved.2
  asked_reads rules hook part.MapLocal draft after old new files new_files moved = reads_local rules draft after files new_files moved.0
  asked_reads rules hook part.MapRemote draft after old new files new_files moved = reads_none (local_views rules.local) files new_files moved.2
  asked_reads rules hook part.ModifyHeaders draft after old new files new_files moved = reads_none (local_views rules.local) files new_files moved.2
  asked_reads rules hook part.Anticache draft after old new files new_files moved = reads_none (local_views rules.local) files new_files moved.2
  asked_reads rules hook part.Anticomp draft after old new files new_files moved = reads_none (local_views rules.local) files new_files moved.2
  asked_reads rules hook part.StickyCookies draft after old new files new_files moved = reads_none (local_views rules.local) files new_files moved.2
  asked_reads rules hook part.StickyAuth draft after old new files new_files moved = reads_none (local_views rules.local) files new_files moved.2
  asked_reads rules hook part.KeepCookies draft after old new files new_files moved = reads_none (local_views rules.local) files new_files moved.2
  asked_reads rules hook part.ServerReplay draft after old new files new_files moved = reads_none (local_views rules.local) files new_files moved.2
  asked_reads rules hook part.ModifyBody draft after old new files new_files moved = reads_none (local_views rules.local) files new_files moved.2
  asked_reads rules hook part.Addons draft after old new files new_files moved = reads_none (local_views rules.local) files new_files moved.2

  part_reads : (rules : Rules) (hook : Hook) (one : Part) (draft after : Draft) (old new : Movers B) (files new_files : FilesMeaning) →
      PartInTurn title state moves rules hook one draft old files after new new_files → ReadsOfRules (local_views rules.local) files new_files
  part_reads rules hook one draft after old new files new_files (by_part _ _ _ _ _ _ going moved) = asked_reads rules hook one draft after old new files new_files moved
  part_reads rules hook one draft after old new files new_files (past_part _ _ _ ended) = reads_none (local_views rules.local) files files refl

  pub parts_read : (rules : Rules) (hook : Hook) (list : List Part) (draft end : Draft) (old new : Movers B) (files new_files : FilesMeaning) →
      PartsMove title state moves rules hook list draft old files end new new_files → ReadsOfRules (local_views rules.local) files new_files
  parts_read rules hook list draft end old new files new_files (no_part _ _ _) = reads_none (local_views rules.local) files files refl
  parts_read rules hook list draft end old new files new_files (next_part one others _ after _ _ mid _ _ mid_files _ moved behind) =
      reads_both (local_views rules.local) files mid_files new_files (part_reads rules hook one draft after old mid files mid_files moved)
      (parts_read rules hook others after end mid new mid_files new_files behind)

  pub failure_reads : (rules : Rules) (hook : Hook) (list : List Part) (draft : Draft) (old : Movers B) (files new_files : FilesMeaning) →
      PartsFail title state moves rules hook list draft old files new_files → ReadsOfRules (local_views rules.local) files new_files
  failure_reads rules hook list draft old files new_files (fails_here one others _ _ _ _ going failed) = one_failed rules one draft files new_files failed
  failure_reads rules hook list draft old files new_files (fails_later one others _ after _ mid _ mid_files _ moved behind) =
      reads_both (local_views rules.local) files mid_files new_files (part_reads rules hook one draft after old mid files mid_files moved)
      (failure_reads rules hook others after mid mid_files new_files behind)

  -- so does an answer that ran out of memory
  pub failed_reads : (hook : Hook) (flow : Flow) (rules : Rules) (old : Movers B) (files new_files : FilesMeaning) →
      ChainFails title state moves hook flow rules old files new_files → ReadsOfRules (local_views rules.local) files new_files
  failed_reads hook flow rules old files new_files (part_failed failed) = failure_reads rules hook (parts hook) (begun flow rules.stream) old files new_files failed
  failed_reads hook flow rules old files new_files (judging_failed end new moved judged) =
      parts_read rules hook (parts hook) (begun flow rules.stream) end old new files new_files moved
