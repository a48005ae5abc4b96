-- Exact answers, from what an answer says.
use Rattle.std.proofs.Common.{◌≡◌, ◌∙◌, ◌⊎◌, Result, Ok, Err, IfOk, IfErr, IsErrAnd, MatchResult, inl, inr, sym, ap, subst}
use Rattle.px_message.specs.declared.flow.Flow.{Flow}
use Rattle.px_tnet.specs.Tree.{Tree, Pairs}
use Rattle.px_flowfile.specs.FlowTable.{IsNoFlow, IsRefusedFlow, Loads, flow_table, lines_of, unknown}
use Rattle.px_flowfile.specs.OthersView.{others_view}
use Rattle.px_flowfile.specs.Simple.{form}
use Rattle.px_flowfile.specs.Table.{IsRefusedBy, Meets, ReadsAt, line}
use Rattle.px_flowfile.specs.declared.entry.Entry.{Entry}
use Rattle.px_flowfile.specs.declared.error.FlowFileError.{FlowFileError}
use Rattle.px_flowfile.specs.declared.error.FlowFileError.TheVariants as error
use Rattle.px_flowfile.specs.declared.form.Form.{Form}
use Rattle.px_flowfile.specs.declared.key.Key.TheVariants as key
use Rattle.px_flowfile.proofs.KindLaws.{SureLine, one_at, pairs_in, sure_line, table_apart, table_cause}
use Rattle.px_flowfile.proofs.SureLemmas.{sure_form}
use Rattle.px_flowfile.proofs.SureTables.{flow_one, flow_sure}

-- the version that pairs have is of one form
one_form : (pairs : Pairs) (a b : Form) → ReadsAt key.Version form pairs a → ReadsAt key.Version form pairs b → a ≡ b
one_form pairs a b h g = one_at key.Version form sure_form pairs a b h g

-- the line of the version, whatever it holds
version_sure : SureLine (line key.Version form (λ (of_form : Form). of_form))
version_sure = sure_line key.Version form sure_form (λ of_form. of_form)

pairs_not_refused : (of_form : Form) (pairs : Pairs) (f : Flow) (e : FlowFileError) → Meets (flow_table of_form) pairs f → ¬ (IsRefusedFlow pairs e)
pairs_not_refused of_form pairs f e h (inl bad) = version_sure.apart pairs e (of_form, h.0) bad
pairs_not_refused of_form pairs f e h (inr (other, told, bad)) =
    let P : Form → Type 0 = λ g. IsRefusedBy (lines_of g) pairs e in
    table_apart (lines_of of_form) (flow_sure of_form) pairs f e h.1 (subst P (one_form pairs other of_form told h.0) bad)

pairs_cause : (pairs : Pairs) (e d : FlowFileError) → IsRefusedFlow pairs e → IsRefusedFlow pairs d → e ≡ d
pairs_cause pairs e d (inl h) (inl g) = version_sure.cause pairs e d h g
pairs_cause pairs e d (inl h) (inr g) = absurd (version_sure.apart pairs e (g.0, g.1) h)
pairs_cause pairs e d (inr h) (inl g) = absurd (version_sure.apart pairs d (h.0, h.1) g)
pairs_cause pairs e d (inr h) (inr g) =
    let P : Form → Type 0 = λ f. IsRefusedBy (lines_of f) pairs d in
    table_cause (lines_of h.0) (flow_sure h.0) pairs e d h.2 (subst P (one_form pairs g.0 h.0 g.1 h.1) g.2)

pub not_refused : (t : Tree) (f : Flow) (others : Pairs) (e : FlowFileError) → Loads t f others → ¬ (IsNoFlow t e)
not_refused t f others e h (inl other) = other.1 h.0 h.2
not_refused t f others e h (inr first) =
    let P : Pairs → Type 0 = λ ps. IsRefusedFlow ps e in
    pairs_not_refused h.1 h.0 f e h.3 (subst P (ap pairs_in (sym first.1 ∙ h.2)) first.2)

pub one_refusal : (t : Tree) (e d : FlowFileError) → IsNoFlow t e → IsNoFlow t d → e ≡ d
one_refusal t e d (inl h) (inl g) = h.0 ∙ sym g.0
one_refusal t e d (inl h) (inr g) = absurd (h.1 g.0 g.1)
one_refusal t e d (inr h) (inl g) = absurd (g.1 h.0 h.1)
one_refusal t e d (inr h) (inr g) =
    let P : Pairs → Type 0 = λ ps. IsRefusedFlow ps d in
    pairs_cause h.0 e d h.2 (subst P (ap pairs_in (sym g.1 ∙ h.1)) g.2)

pub one_flow : (t : Tree) (f g : Flow) (others more : Pairs) → Loads t f others → Loads t g more → (f ≡ g) × (others ≡ more)
one_flow t f g others more h k =
    let same = ap pairs_in (sym k.2 ∙ h.2) in
    let P : Pairs → Type 0 = λ ps. Meets (flow_table k.1) ps g in
    let met = subst P same k.3 in
    let Q : Form → Type 0 = λ of_form. Meets (lines_of of_form) h.0 g in (
      flow_one h.1 h.0 f g h.4 k.4 h.3.1 (subst Q (one_form h.0 k.1 h.1 met.0 h.3.0) met.1),
      h.5 ∙ ap unknown (sym same) ∙ sym k.5,
    )

module _ (t : Tree) where
  pub exact_loaded : (r : Result Entry FlowFileError) → IfOk r (λ entry. Loads t entry.flow (others_view entry.others))
      → IfErr r (λ e. (e ≡ error.NoMemory) ⊎ IsNoFlow t e) → (f : Flow) (others : Pairs) → Loads t f others
      → MatchResult r (λ entry. (entry.flow ≡ f) × (others_view entry.others ≡ others)) (λ e. e ≡ error.NoMemory)
  exact_loaded (Ok entry) ok err f others h = one_flow t entry.flow f (others_view entry.others) others ok h
  exact_loaded (Err e) ok (inl full) f others h = full
  exact_loaded (Err e) ok (inr bad) f others h = absurd (not_refused t f others e h bad)

  pub exact_refused : (r : Result Entry FlowFileError) → IfOk r (λ entry. Loads t entry.flow (others_view entry.others))
      → IfErr r (λ e. (e ≡ error.NoMemory) ⊎ IsNoFlow t e) → (cause : FlowFileError) → IsNoFlow t cause
      → IsErrAnd r (λ e. (e ≡ error.NoMemory) ⊎ (e ≡ cause))
  exact_refused (Ok entry) ok err cause bad = not_refused t entry.flow (others_view entry.others) cause ok bad
  exact_refused (Err e) ok (inl full) cause bad = inl full
  exact_refused (Err e) ok (inr own) cause bad = inr (one_refusal t e cause own bad)
