-- What answers of a chain, one behind the other, do to files: a chain keeps its rules.
use Rattle.std.proofs.Common.{◌≡◌, ℕ, List, [], refl, ap, subst, ◌∙◌}
use Rattle.px_core.specs.Answers.{Answering, Failing}
use Rattle.px_core.specs.Kind.{KeepsFiles}
use Rattle.px_map.specs.View.{local_views}
use Rattle.px_addons.specs.Chain.{Movers, ChainAnswers, ChainFails, begun}
use Rattle.px_addons.specs.Mapped.{ReadsOfRules}
use Rattle.px_addons.specs.Moving.{Moves}
use Rattle.px_addons.specs.Parts.{parts}
use Rattle.px_addons.specs.QuietLaws.{answers_leave, failures_leave}
use Rattle.px_addons.specs.declared.rules.Rules.{Rules}
use Rattle.px_addons.proofs.FilesLemmas.{failed_reads, parts_read, reads_both, reads_none}

module _ {B S : Type 0} (title state : B → List ℕ) (moves : B → Moves) (rules_of : S → Rules) (movers_in : S → Movers B) where
  -- the answers of a chain that is told by its rules, and by its recorded list and its addons
  abbrev pub answers_by : Answering S
  answers_by hook flow old old_files new new_files answer =
      ChainAnswers title state moves hook flow (rules_of old) (movers_in old) old_files (rules_of new) (movers_in new) new_files answer

  abbrev pub fails_by : Failing S
  fails_by hook flow old old_files new_files = ChainFails title state moves hook flow (rules_of old) (movers_in old) old_files new_files

  -- its answers read what its map local rules name, and no more
  pub keeps_reads : (rules : Rules) → KeepsFiles answers_by fails_by (λ chain. rules_of chain ≡ rules) (ReadsOfRules (local_views rules.local))
  keeps_reads rules = record {
    same = λ files. reads_none (local_views rules.local) files files refl;
    on = λ first between last one other. reads_both (local_views rules.local) first between last one other;
    stays = λ hook flow old old_files new new_files given is answered. answered.rules ∙ is;
    given_so = λ hook flow old old_files new new_files given is answered.
        subst (λ (r : Rules). ReadsOfRules (local_views r.local) old_files new_files) is
        (parts_read title state moves (rules_of old) hook (parts hook) (begun flow (rules_of old).stream) answered.left (movers_in old) (movers_in new) old_files new_files answered.moved);
    failed_so = λ hook flow old old_files new_files is failed.
        subst (λ (r : Rules). ReadsOfRules (local_views r.local) old_files new_files) is
        (failed_reads title state moves hook flow (rules_of old) (movers_in old) old_files new_files failed);
  }

  -- without map local rules its answers leave files as they are
  pub keeps_files : (rules : Rules) → local_views rules.local ≡ [] → KeepsFiles answers_by fails_by (λ chain. rules_of chain ≡ rules) (λ old new. new ≡ old)
  keeps_files rules none = record {
    same = λ files. refl;
    on = λ first between last one other. other ∙ one;
    stays = λ hook flow old old_files new new_files given is answered. answered.rules ∙ is;
    given_so = λ hook flow old old_files new new_files given is answered.
        answers_leave title state moves hook flow (rules_of old) (movers_in old) old_files (rules_of new) (movers_in new) new_files given
        (ap (λ (r : Rules). local_views r.local) is ∙ none) answered;
    failed_so = λ hook flow old old_files new_files is failed.
        failures_leave title state moves hook flow (rules_of old) (movers_in old) old_files new_files (ap (λ (r : Rules). local_views r.local) is ∙ none) failed;
  }
