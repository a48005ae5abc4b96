-- What no answer of a chain does: it lets no hook wait where no flow is to, and lessens no count of appends that failed.
use Rattle.std.proofs.Common.{◌≡◌, ◌≤◌, ◌∙◌, ℕ, List, Option, Some, None, ap, arith, refl}
use Rattle.std.specs.Prelude.{option_map}
use Rattle.px_filter.specs.Expression.{Expression}
use Rattle.px_filter.specs.declared.filter.Filter.{Filter}
use Rattle.px_filter.specs.View.{expression}
use Rattle.px_core.specs.Kind.{KeepsKind}
use Rattle.px_addons.specs.Chain.{Movers}
use Rattle.px_addons.specs.Moving.{Moves}
use Rattle.px_addons.specs.declared.rules.Rules.{Rules}
use Rattle.px_addons.proofs.RunLemmas.{answers_by, fails_by, keeps_reads}
use Rattle.px_addons.proofs.WaitLemmas.{nothing_waits}
use Rattle.px_app.specs.Over.{KeepsLosses}
use Rattle.px_app.proofs.AtOnceLemmas.{WaitsNot}

module _ {B S : Type 0} (title state : B → List ℕ) (moves : B → Moves) (rules_of : S → Rules) (movers_in : S → Movers B) where
  -- no answer waits where no flow is to wait, and behind it none is to
  pub chain_never_waits : KeepsKind (answers_by title state moves rules_of movers_in) (λ chain. (rules_of chain).intercept ≡ None) WaitsNot
  chain_never_waits = record {
    stays = λ hook flow old old_files new new_files given none answered. ap (λ (r : Rules). r.intercept) answered.rules ∙ none;
    gives_so = λ hook flow old old_files new new_files given none answered draft waits.
        nothing_waits (rules_of old) hook answered.end draft given none answered.answered waits;
  }

  same_losses : {old new : ℕ} → new ≡ old → old ≤ new
  same_losses same = omega (arith, same)

  -- no answer lessens the count of appends that failed
  pub chain_keeps_losses : KeepsLosses (answers_by title state moves rules_of movers_in) (fails_by title state moves rules_of movers_in)
  chain_keeps_losses = record {
    given_so = λ hook flow old old_files new new_files given is.
        same_losses ((keeps_reads title state moves rules_of movers_in (rules_of old)).given_so hook flow old old_files new new_files given refl is).reads.losses;
    failed_so = λ hook flow old old_files new_files is.
        same_losses ((keeps_reads title state moves rules_of movers_in (rules_of old)).failed_so hook flow old old_files new_files refl is).reads.losses;
  }

-- options without a filter of the flows that wait are rules without one
pub no_filter : (filter : Option Filter) → option_map expression filter ≡ None → filter ≡ None
no_filter None none = refl
no_filter (Some filter) none = absurd (let wrong : Some (expression filter) ≡ None = none in cc)

pub no_filter_by : (filter : Option Filter) (options : Option Expression) → option_map expression filter ≡ options → options ≡ None → filter ≡ None
no_filter_by filter options same none = no_filter filter (same ∙ none)
