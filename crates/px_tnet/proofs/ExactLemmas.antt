-- An answer that is sound is the only one.
use Rattle.std.proofs.Common.{◌≡◌, ◌≤◌, ◌⊎◌, ℕ, List, drop, length, Result, Ok, Err, IfOk, IfErr, IsErrAnd, MatchResult, inl, inr}
use Rattle.px_tnet.specs.Items.{IsItem, IsRefused, most_deep}
use Rattle.px_tnet.specs.Tree.{Tree}
use Rattle.px_tnet.specs.View.{view}
use Rattle.px_tnet.specs.declared.tree.Tnet.{Tnet}
use Rattle.px_tnet.specs.declared.error.TnetError.{TnetError}
use Rattle.px_tnet.specs.declared.error.TnetError.TheVariants as error
use Rattle.px_tnet.proofs.OneLemmas.{one_cause, one_tree, read_or_refused}

pub exact_read : (bytes : List ℕ) (r : Result (Tnet × ℕ) TnetError)
    → IfOk r (λ x. (x.1 ≤ length bytes) × IsItem most_deep (view x.0) bytes (drop x.1 bytes))
    → IfErr r (λ e. (e ≡ error.NoMemory) ⊎ IsRefused most_deep bytes e)
    → (tree : Tree) (rest : List ℕ) → IsItem most_deep tree bytes rest
    → MatchResult r (λ x. (view x.0 ≡ tree) × (drop x.1 bytes ≡ rest)) (λ e. e ≡ error.NoMemory)
exact_read bytes (Ok x) ok err tree rest item = one_tree most_deep (view x.0) tree bytes (drop x.1 bytes) rest ok.1 item
exact_read bytes (Err e) ok (inl full) tree rest item = full
exact_read bytes (Err e) ok (inr refused) tree rest item = absurd (read_or_refused most_deep tree bytes rest e item refused)

pub exact_refused : (bytes : List ℕ) (r : Result (Tnet × ℕ) TnetError)
    → IfOk r (λ x. (x.1 ≤ length bytes) × IsItem most_deep (view x.0) bytes (drop x.1 bytes))
    → IfErr r (λ e. (e ≡ error.NoMemory) ⊎ IsRefused most_deep bytes e)
    → (cause : TnetError) → IsRefused most_deep bytes cause → IsErrAnd r (λ e. (e ≡ error.NoMemory) ⊎ (e ≡ cause))
exact_refused bytes (Ok x) ok err cause refused = absurd (read_or_refused most_deep (view x.0) bytes (drop x.1 bytes) cause ok.1 refused)
exact_refused bytes (Err e) ok (inl full) cause refused = inl full
exact_refused bytes (Err e) ok (inr own) cause refused = inr (one_cause most_deep bytes e cause own refused)
