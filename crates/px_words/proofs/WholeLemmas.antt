-- Files of flows that are whole.
use Rattle.std.proofs.Common.{◌≡◌, ◌≢◌, ◌⊎◌, inl, inr, ◌<◌, ◌-◌, ℕ, List, [], ◌∷◌, ◌++◌, length, Option, Some, None, Result, Ok, Err, IfErr, refl, sym, ap, ◌∙◌, subst, arith}
use Rattle.std.specs.Result.{IsErrAnd}
use Rattle.px_tnet.specs.Items.{IsItem, IsRefused, most_deep}
use Rattle.px_tnet.specs.Tree.{Pairs, Tree}
use Rattle.px_tnet.specs.declared.error.TnetError.{TnetError}
use Rattle.px_message.specs.declared.flow.Flow.{Flow}
use Rattle.px_flowfile.specs.FlowTable.{IsNoFlow, Loads}
use Rattle.px_flowfile.specs.OthersView.{others_view}
use Rattle.px_flowfile.specs.Reader.{BeginsWith, ComesNext}
use Rattle.px_flowfile.specs.declared.entry.Entry.{Entry}
use Rattle.px_flowfile.specs.declared.error.FlowFileError.{FlowFileError}
use Rattle.px_words.specs.FlowFile.{BeginsWithNone, HasEntries, IsBadPlace, entry_more, no_entry}
use Rattle.px_words.specs.Whole.{HasBadPlace, HasNoNext, IsNotWhole, IsWhole}
use Rattle.px_words.specs.declared.whole.NotWhole.{NotWhole}
use Rattle.px_words.specs.declared.whole.NotWhole.TheVariants as faults
use Rattle.px_words.proofs.FlowFileLemmas.{entry_less}

-- what holds of an error holds where it is handed on
pub same_error : {T E : Type 0} (result : Result T E) (error : E) (P : Result T E → Type 0) → IsErrAnd result (λ other. other ≡ error) → P (Err error) → P result
same_error (Ok _) error P is holds = absurd is
same_error (Err other) error P is holds = subst (λ e. P (Err e)) (sym is) holds

-- one entry more
pub entries_on : (bytes rest next : List ℕ) (entries : List Entry) (entry : Entry) → HasEntries bytes entries rest → BeginsWith entry rest next → HasEntries bytes (entries ++ entry ∷ []) next
entries_on bytes rest next entries entry has begins = entry_more rest next entries (entries ++ entry ∷ []) entry has begins refl

-- what a text that has entries begins with: the first of them, and the others stand behind it
pub record StartsWith (text behind : List ℕ) : Type 0 where
  pub entry : Entry
  pub next : List ℕ
  pub more : List Entry
  pub begins : BeginsWith entry text next
  pub later : HasEntries next more behind

pub starts : (text : List ℕ) (entries : List Entry) (behind : List ℕ) → HasEntries text entries behind → (behind ≡ text) ⊎ StartsWith text behind
starts text entries behind no_entry = inl refl
starts text entries behind (entry_more before rest so_far next entry has begins grown) = on (starts text so_far before has)
  where
    on : (before ≡ text) ⊎ StartsWith text before → (rest ≡ text) ⊎ StartsWith text rest
    on (inl same) = inr (record { entry = entry; next = rest; more = []; begins = subst (λ t. BeginsWith entry t rest) same begins; later = no_entry })
    on (inr first) = inr (record {
      entry = first.entry;
      next = first.next;
      more = first.more ++ entry ∷ [];
      begins = first.begins;
      later = entries_on first.next before rest first.more entry first.later begins;
    })

no_less : (text next : List ℕ) → [] ≡ text → length next < length text → ⊥
no_less text next none less = let size = ap length none in omega (arith, size, less)

module _ (one_tree : (tree other : Tree) (text rest behind : List ℕ) → IsItem most_deep tree text rest → IsItem most_deep other text behind → (tree ≡ other) × (rest ≡ behind)) where
  -- behind its first entry it is whole
  pub whole_behind : (entry : Entry) (text next : List ℕ) → IsWhole text → BeginsWith entry text next → IsWhole next
  whole_behind entry text next whole begins = by (starts text whole.0 [] whole.1)
    where
      by : ([] ≡ text) ⊎ StartsWith text [] → IsWhole next
      by (inl none) = absurd (no_less text next none (entry_less entry text next begins))
      by (inr first) =
          let same = one_tree first.begins.0 begins.0 text first.next next first.begins.1 begins.1 in
          (first.more, subst (λ t. HasEntries t first.more []) same.1 first.later)

  pub whole_next : (text next : List ℕ) (came : Option Entry) → IsWhole text → ComesNext text (Ok came) next → IsWhole next
  whole_next text next None whole comes = ([], subst (λ t. HasEntries t [] []) (sym (comes.1 ∙ comes.0)) no_entry)
  whole_next text next (Some entry) whole comes = whole_behind entry text next whole comes

  -- and it has no bad place
  pub never_bad : ((tree : Tree) (text rest : List ℕ) (cause : TnetError) → IsItem most_deep tree text rest → ¬ (IsRefused most_deep text cause)) →
      ((t : Tree) (f : Flow) (others : Pairs) (e : FlowFileError) → Loads t f others → ¬ (IsNoFlow t e)) → (text : List ℕ) → IsWhole text → IsBadPlace text → ⊥
  never_bad read_or_refused loaded_or_refused text whole bad = by (starts text whole.0 [] whole.1) bad.1
    where
      by : ([] ≡ text) ⊎ StartsWith text [] → BeginsWithNone text → ⊥
      by (inl none) other = bad.0 (sym none)
      by (inr first) (inl (cause, refused)) = read_or_refused first.begins.0 text first.next cause first.begins.1 refused
      by (inr first) (inr (tree, behind, cause, item, is_none)) =
          let same = one_tree tree first.begins.0 text behind first.next item first.begins.1 in
          loaded_or_refused first.begins.0 first.entry.flow (others_view first.entry.others) cause first.begins.2 (subst (λ t. IsNoFlow t cause) same.0 is_none)

-- ---- judging

-- a place that is bad
pub no_bad : (len : ℕ) (rest : List ℕ) (fault : NotWhole) (offset : ℕ) → fault ≡ faults.BadPlace offset → HasNoNext len rest fault → IsBadPlace rest × (offset ≡ len - length rest)
no_bad len rest fault offset is none = subst (λ f. HasNoNext len rest f) is none

-- these entries were gone past
pub record Judged (bytes rest : List ℕ) : Type 0 where
  pub entries : List Entry
  pub has : HasEntries bytes entries rest

pub judged_none : (bytes rest : List ℕ) → rest ≡ bytes → Judged bytes rest
judged_none bytes rest all = record { entries = []; has = subst (λ r. HasEntries bytes [] r) (sym all) no_entry }

pub judged_more : (bytes rest next : List ℕ) (entry : Entry) → Judged bytes rest → BeginsWith entry rest next → Judged bytes next
judged_more bytes rest next entry judged begins = record { entries = judged.entries ++ entry ∷ []; has = entries_on bytes rest next judged.entries entry judged.has begins }

pub judged_all : (bytes rest : List ℕ) → Judged bytes rest → rest ≡ [] → IsWhole bytes
judged_all bytes rest judged none = (judged.entries, subst (λ r. HasEntries bytes judged.entries r) none judged.has)

-- no entry comes next
pub judged_stop : (bytes rest : List ℕ) (len : ℕ) (fault : NotWhole) → Judged bytes rest → len ≡ length bytes → HasNoNext len rest fault → IsNotWhole bytes fault
judged_stop bytes rest len (faults.BadPlace offset) judged same none = record { entries = judged.entries; behind = rest; has = judged.has; bad = none.0; at = none.1 ∙ ap (λ n. n - length rest) same }
judged_stop bytes rest len faults.NoMemory judged same none = tt

-- a file that has a bad place
pub bad_there : (bytes : List ℕ) (fault : NotWhole) (offset : ℕ) → fault ≡ faults.BadPlace offset → IsNotWhole bytes fault → HasBadPlace bytes offset
bad_there bytes fault offset is none = subst (λ f. IsNotWhole bytes f) is none
