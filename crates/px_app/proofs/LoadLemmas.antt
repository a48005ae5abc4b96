-- What comes of flow files, one file and one flow after the other.
use Rattle.std.proofs.Common.{◌≡◌, ◌⊎◌, inl, inr, ◌<◌, ◌≤◌, ℕ, zero, suc, ◌+◌, ◌-◌, List, [], ◌∷◌, ◌++◌, length, map, drop, get_or, Result, Ok, Err, IfErr, refl, sym, ap, ◌∙◌, subst, arith, append-nil, add-one}
use Rattle.std.proofs.Math.Seq.{drop-cons}
use Rattle.std.specs.Prelude.{Vec}
use Rattle.std.specs.Result.{IsErrAnd}
use Rattle.std.proofs.lemmas.List.{append_assoc, map-append}
use Rattle.px_text.specs.Prefix.{IsPrefixOf}
use Rattle.px_message.specs.declared.flow.Flow.{Flow}
use Rattle.px_outside.specs.declared.files.FileCall.{FileCall}
use Rattle.px_outside.specs.declared.files.FileCall.TheVariants.{Read}
use Rattle.px_flowfile.specs.Reader.{BeginsWith}
use Rattle.px_flowfile.specs.declared.entry.Entry.{Entry}
use Rattle.px_map.specs.Reads.{Made, Seen}
use Rattle.px_map.proofs.ReadsLemmas.{made_both, made_none}
use Rattle.px_words.specs.FlowFile.{HasFlows, at_front}
use Rattle.px_app.specs.Loaded.{Loaded, LoadsBehind, LoadsBoth, LoadsFiles, path_read, behind_flows, loaded, one_absent, one_bad, one_unread, unloaded, none_left, is_whole, is_absent, has_failed, is_bad, breaks_off, breaks_off_in}
use Rattle.px_app.specs.Loading.{AddsAll, IsLoaded, IsNoNext, LoadsNoMore, came_of, stop_of}
use Rattle.px_app.specs.declared.loading.LoadError.{LoadError}
use Rattle.px_app.specs.declared.loading.LoadError.TheVariants as errors
use Rattle.px_words.proofs.FlowFileLemmas.{has_more}

-- what holds of an error holds where it is handed on
pub from_error : {T : Type 0} (result : Result T LoadError) (error : LoadError) (P : LoadError → Type 0) → IsErrAnd result (λ other. other ≡ error) → P error → IfErr result P
from_error (Ok _) error P is holds = tt
from_error (Err other) error P is holds = subst P (sym is) holds

-- ---- flows in front

behind_none : (what : Loaded) → behind_flows [] what ≡ what
behind_none (loaded flows) = refl
behind_none (one_absent path) = refl
behind_none (one_unread path) = refl
behind_none (one_bad path offset) = refl
behind_none unloaded = refl

behind_both : (xs ys : List Flow) (what : Loaded) → behind_flows xs (behind_flows ys what) ≡ behind_flows (xs ++ ys) what
behind_both xs ys (loaded flows) = ap loaded (sym (append_assoc xs ys flows))
behind_both xs ys (one_absent path) = refl
behind_both xs ys (one_unread path) = refl
behind_both xs ys (one_bad path offset) = refl
behind_both xs ys unloaded = refl

behind_stop : (flows : List Flow) (error : LoadError) → behind_flows flows (stop_of error) ≡ stop_of error
behind_stop flows (errors.Absent path) = refl
behind_stop flows (errors.NotRead path) = refl
behind_stop flows (errors.BadPlace path offset) = refl
behind_stop flows errors.NoMemory = refl

-- ---- the flows of one file

-- the flows in front of what is left of a text were added
pub record AddedSoFar (bytes rest : List ℕ) (before now : List Flow) : Type 0 where
  pub flows : List Flow
  pub has : HasFlows bytes flows rest
  pub adds : now ≡ before ++ flows

pub added_none : (bytes rest : List ℕ) (before : List Flow) → rest ≡ bytes → AddedSoFar bytes rest before before
added_none bytes rest before all = record {
  flows = [];
  has = let P : List ℕ → Type 0 = λ r. HasFlows bytes [] r in subst P (sym all) at_front;
  adds = sym (append-nil before);
}

pub added_more : (bytes rest next : List ℕ) (before now after : List Flow) (entry : Entry) → AddedSoFar bytes rest before now → BeginsWith entry rest next → after ≡ now ++ entry.flow ∷ [] →
    AddedSoFar bytes next before after
added_more bytes rest next before now after entry added begins one = record {
  flows = added.flows ++ entry.flow ∷ [];
  has = has_more bytes rest next added.flows entry added.has begins;
  adds = one ∙ (ap (λ (l : List Flow). l ++ entry.flow ∷ []) added.adds ∙ append_assoc before added.flows (entry.flow ∷ []));
}

pub added_all : (bytes rest : List ℕ) (before now : List Flow) → AddedSoFar bytes rest before now → rest ≡ [] → AddsAll bytes before now
added_all bytes rest before now added none =
    let P : List ℕ → Type 0 = λ r. HasFlows bytes added.flows r in (added.flows, subst P none added.has, added.adds)

-- no flow comes next
pub ends_there : (path bytes rest : List ℕ) (len : ℕ) (before now : List Flow) (what : Loaded) → AddedSoFar bytes rest before now → len ≡ length bytes → IsNoNext path len rest what →
    (others : List (List ℕ)) → LoadsFiles (path ∷ others) (Read path bytes ∷ []) what
ends_there path bytes rest len before now (loaded flows) added same none others = absurd none
ends_there path bytes rest len before now (one_absent other) added same none others = absurd none
ends_there path bytes rest len before now (one_unread other) added same none others = absurd none
ends_there path bytes rest len before now (one_bad other offset) added same none others =
    let P : List ℕ → Type 0 = λ p. LoadsFiles (path ∷ others) (Read path bytes ∷ []) (one_bad p offset) in
    subst P (sym none.0) (is_bad path bytes rest added.flows others offset added.has none.1 (none.2 ∙ ap (λ n. n - length rest) same))
ends_there path bytes rest len before now unloaded added same none others = breaks_off_in path bytes others

-- memory ran out while a file was loaded
pub breaks_there : (path bytes : List ℕ) (what : Loaded) → what ≡ unloaded → (others : List (List ℕ)) → LoadsFiles (path ∷ others) (Read path bytes ∷ []) what
breaks_there path bytes what is others =
    let P : Loaded → Type 0 = λ w. LoadsFiles (path ∷ others) (Read path bytes ∷ []) w in subst P (sym is) (breaks_off_in path bytes others)

-- ---- the files

-- what stands at a place of a list, with what stands behind it
pub next_path : {A : Type 0} (f : A → List ℕ) (xs : List A) (i : ℕ) (x : A) (path : List ℕ) → i < length xs → x ≡ get_or xs i x → path ≡ f x → map f (drop i xs) ≡ path ∷ map f (drop (i + 1) xs)
next_path f xs i x path within is same =
    ap (λ l. map f l) (drop-cons xs i x within ∙ (ap (λ y. y ∷ drop (suc i) xs) (sym is) ∙ ap (λ n. x ∷ drop n xs) (sym (add-one i))))
    ∙ ap (λ (p : List ℕ). p ∷ map f (drop (i + 1) xs)) (sym same)

-- nothing stands behind the last
pub no_path : {A : Type 0} (f : A → List ℕ) (xs : List A) (i : ℕ) → length xs ≤ i → map f (drop i xs) ≡ []
no_path f [] zero h = refl
no_path f [] (suc i) h = refl
no_path f (x ∷ xs) zero h = absurd (omega (arith, h))
no_path f (x ∷ xs) (suc i) h = no_path f xs i (omega (arith, h))

-- the flows of the files in front of these were loaded, and whatever comes of these comes of all
pub record LoadedSoFar (paths rest : List (List ℕ)) (first now : Seen) (flows : List Flow) : Type 0 where
  pub calls : List FileCall
  pub made : Made calls first now
  pub goes_on : (more : List FileCall) (came : Loaded) → LoadsFiles rest more came → LoadsFiles paths (calls ++ more) (behind_flows flows came)

pub loaded_none : (paths rest : List (List ℕ)) (first : Seen) → rest ≡ paths → LoadedSoFar paths rest first first []
loaded_none paths rest first all = record {
  calls = [];
  made = made_none first;
  goes_on = λ more came loads.
      (let P : List (List ℕ) → Type 0 = λ p. LoadsFiles p more came in
      let Q : Loaded → Type 0 = λ w. LoadsFiles paths more w in
      subst Q (sym (behind_none came)) (subst P all loads));
}

pub loaded_more : (paths : List (List ℕ)) (path : List ℕ) (rest others : List (List ℕ)) (first now next : Seen) (flows after : List Flow) → LoadedSoFar paths rest first now flows → rest ≡ path ∷ others →
    IsLoaded path now next flows after → LoadedSoFar paths others first next after
loaded_more paths path rest others first now next flows after so_far is one = record {
  calls = so_far.calls ++ Read path one.bytes ∷ [];
  made = made_both so_far.calls (Read path one.bytes ∷ []) first now next so_far.made one.made;
  goes_on = λ more came loads.
      (let mine = one.adds in
      let all : Loaded = behind_flows mine.0 came in
      let P : List (List ℕ) → Type 0 = λ p. LoadsFiles p (Read path one.bytes ∷ more) all in
      let Q : List FileCall → Type 0 = λ l. LoadsFiles paths l (behind_flows after came) in
      let R : Loaded → Type 0 = λ w. LoadsFiles paths (so_far.calls ++ (Read path one.bytes ∷ more)) w in
      let here = so_far.goes_on (Read path one.bytes ∷ more) all (subst P (sym is) (is_whole path one.bytes mine.0 others more came all mine.1 loads refl)) in
      let joined : behind_flows flows all ≡ behind_flows after came = behind_both flows mine.0 came ∙ ap (λ l. behind_flows l came) (sym mine.2) in
      subst Q (sym (append_assoc so_far.calls (Read path one.bytes ∷ []) more)) (subst R joined here));
}

-- all were loaded
pub loads_all : (paths rest : List (List ℕ)) (first now : Seen) (flows : List Flow) → LoadedSoFar paths rest first now flows → rest ≡ [] →
    (calls : List FileCall) × LoadsFiles paths calls (loaded flows) × Made calls first now
loads_all paths rest first now flows so_far none =
    let P : List (List ℕ) → Type 0 = λ p. LoadsFiles p [] (loaded []) in
    let Q : List FileCall → Type 0 = λ l. LoadsFiles paths l (loaded (flows ++ [])) in
    let R : List Flow → Type 0 = λ l. LoadsFiles paths so_far.calls (loaded l) in
    let here = so_far.goes_on [] (loaded []) (subst P (sym none) none_left) in
    (so_far.calls, subst R (append-nil flows) (subst Q (append-nil so_far.calls) here), so_far.made)

-- one of them ended it
pub loads_no_more : (paths : List (List ℕ)) (path : List ℕ) (rest others : List (List ℕ)) (first now last : Seen) (flows : List Flow) (error : LoadError) → LoadedSoFar paths rest first now flows → rest ≡ path ∷ others →
    LoadsNoMore path now last (stop_of error) → (calls : List FileCall) × LoadsFiles paths calls (stop_of error) × Made calls first last
loads_no_more paths path rest others first now last flows error so_far is ends =
    let P : List (List ℕ) → Type 0 = λ p. LoadsFiles p ends.calls (stop_of error) in
    let Q : Loaded → Type 0 = λ w. LoadsFiles paths (so_far.calls ++ ends.calls) w in
    let here = so_far.goes_on ends.calls (stop_of error) (subst P (sym is) (ends.stops others)) in
    (so_far.calls ++ ends.calls, subst Q (behind_stop flows error) here, made_both so_far.calls ends.calls first now last so_far.made ends.made)

-- and so it is where the error is handed on
pub at_error : {A : Type 0} (result : Result (Vec Flow A) LoadError) (error : LoadError) (paths : List (List ℕ)) (first last : Seen) → IsErrAnd result (λ other. other ≡ error) →
    (calls : List FileCall) × LoadsFiles paths calls (stop_of error) × Made calls first last → (calls : List FileCall) × LoadsFiles paths calls (came_of result) × Made calls first last
at_error (Ok _) error paths first last is ends = absurd is
at_error (Err other) error paths first last is (calls, loads, made) = let P : LoadError → Type 0 = λ e. LoadsFiles paths calls (stop_of e) in (calls, subst P (sym is) loads, made)

-- ---- memory behind the last file

came_loaded : (flows : List Flow) (came : Loaded) (all : List Flow) → loaded all ≡ behind_flows flows came → (others : List Flow) × (came ≡ loaded others)
came_loaded flows (loaded others) all is = (others, refl)
came_loaded flows (one_absent path) all is = absurd (cc)
came_loaded flows (one_unread path) all is = absurd (cc)
came_loaded flows (one_bad path offset) all is = absurd (cc)
came_loaded flows unloaded all is = absurd (cc)

-- where all were loaded memory may run out behind them
pub breaks_behind : (paths : List (List ℕ)) (calls : List FileCall) (what : Loaded) (flows : List Flow) → LoadsFiles paths calls what → what ≡ loaded flows → LoadsFiles paths calls unloaded
breaks_behind paths calls what flows none_left is = breaks_off []
breaks_behind paths calls what flows (is_whole path bytes mine others more came all has loads joined) is =
    let left = came_loaded mine came flows (sym is ∙ joined) in
    is_whole path bytes mine others more unloaded unloaded has (breaks_behind others more came left.0 loads left.1) refl
breaks_behind paths calls what flows (is_absent path others) is = absurd (cc)
breaks_behind paths calls what flows (has_failed path others) is = absurd (cc)
breaks_behind paths calls what flows (is_bad path bytes behind mine others offset has bad same) is = absurd (cc)
breaks_behind paths calls what flows (breaks_off others) is = absurd (cc)
breaks_behind paths calls what flows (breaks_off_in path bytes others) is = absurd (cc)

-- ---- which files are read

one_in_front : (path : List ℕ) (xs ys : List (List ℕ)) → IsPrefixOf xs ys → IsPrefixOf (path ∷ xs) (path ∷ ys)
one_in_front path xs ys (rest, is) = (rest, ap (λ l. path ∷ l) is)

-- the reads are of the first of the paths
pub front_read : (paths : List (List ℕ)) (calls : List FileCall) (what : Loaded) → LoadsFiles paths calls what → IsPrefixOf (map path_read calls) paths
front_read paths calls what none_left = ([], refl)
front_read paths calls what (is_whole path bytes mine others more came all has loads joined) = one_in_front path (map path_read more) others (front_read others more came loads)
front_read paths calls what (is_absent path others) = (others, refl)
front_read paths calls what (has_failed path others) = (others, refl)
front_read paths calls what (is_bad path bytes behind mine others offset has bad same) = (others, refl)
front_read paths calls what (breaks_off others) = (others, refl)
front_read paths calls what (breaks_off_in path bytes others) = (others, refl)

-- and of all of them where all were loaded
pub all_read : (paths : List (List ℕ)) (calls : List FileCall) (what : Loaded) (flows : List Flow) → LoadsFiles paths calls what → what ≡ loaded flows → map path_read calls ≡ paths
all_read paths calls what flows none_left is = refl
all_read paths calls what flows (is_whole path bytes mine others more came all has loads joined) is =
    let left = came_loaded mine came flows (sym is ∙ joined) in
    ap (λ (l : List (List ℕ)). path ∷ l) (all_read others more came left.0 loads left.1)
all_read paths calls what flows (is_absent path others) is = absurd (cc)
all_read paths calls what flows (has_failed path others) is = absurd (cc)
all_read paths calls what flows (is_bad path bytes behind mine others offset has bad same) is = absurd (cc)
all_read paths calls what flows (breaks_off others) is = absurd (cc)
all_read paths calls what flows (breaks_off_in path bytes others) is = absurd (cc)

-- where the files of the first list were not all loaded, none of the second is read
pub not_loaded : (first second : List (List ℕ)) (calls : List FileCall) (error : LoadError) → LoadsFiles first calls (stop_of error) → LoadsBoth first second calls (stop_of error) (loaded [])
not_loaded first second calls (errors.Absent path) loads = record { first_calls = calls; second_calls = []; all = sym (append-nil calls); loads = loads; then_loads = (refl, refl) }
not_loaded first second calls (errors.NotRead path) loads = record { first_calls = calls; second_calls = []; all = sym (append-nil calls); loads = loads; then_loads = (refl, refl) }
not_loaded first second calls (errors.BadPlace path offset) loads = record { first_calls = calls; second_calls = []; all = sym (append-nil calls); loads = loads; then_loads = (refl, refl) }
not_loaded first second calls errors.NoMemory loads = record { first_calls = calls; second_calls = []; all = sym (append-nil calls); loads = loads; then_loads = (refl, refl) }

-- ---- the reads of two lists of files

-- those of the second are of the first of its paths, or there are none
second_read : (second : List (List ℕ)) (recorded : Loaded) (calls : List FileCall) (resent : Loaded) → LoadsBehind second recorded calls resent → IsPrefixOf (map path_read calls) second
second_read second (loaded flows) calls resent loads = front_read second calls resent loads
second_read second (one_absent path) calls resent (none, is) = (second, ap (λ (l : List FileCall). map path_read l ++ second) (sym none))
second_read second (one_unread path) calls resent (none, is) = (second, ap (λ (l : List FileCall). map path_read l ++ second) (sym none))
second_read second (one_bad path offset) calls resent (none, is) = (second, ap (λ (l : List FileCall). map path_read l ++ second) (sym none))
second_read second unloaded calls resent (none, is) = (second, ap (λ (l : List FileCall). map path_read l ++ second) (sym none))

-- and there are some only where all files of the first were loaded
first_or_none : (recorded : Loaded) (second : List (List ℕ)) (calls : List FileCall) (resent : Loaded) → LoadsBehind second recorded calls resent →
    ((flows : List Flow) × (recorded ≡ loaded flows)) ⊎ (calls ≡ [])
first_or_none (loaded flows) second calls resent loads = inl (flows, refl)
first_or_none (one_absent path) second calls resent (none, is) = inr none
first_or_none (one_unread path) second calls resent (none, is) = inr none
first_or_none (one_bad path offset) second calls resent (none, is) = inr none
first_or_none unloaded second calls resent (none, is) = inr none

-- the reads are of the first of the paths of both lists, one list behind the other
pub both_front : (first second : List (List ℕ)) (calls : List FileCall) (recorded resent : Loaded) → LoadsBoth first second calls recorded resent → IsPrefixOf (map path_read calls) (first ++ second)
both_front first second calls recorded resent both =
    let P : List FileCall → Type 0 = λ l. IsPrefixOf (map path_read l) (first ++ second) in
    subst P (sym both.all) (by_cases (first_or_none recorded second both.second_calls resent both.then_loads))
  where
    by_cases : ((flows : List Flow) × (recorded ≡ loaded flows)) ⊎ (both.second_calls ≡ []) → IsPrefixOf (map path_read (both.first_calls ++ both.second_calls)) (first ++ second)
    by_cases (inl (flows, is)) =
        let all = all_read first both.first_calls recorded flows both.loads is in
        let part = second_read second recorded both.second_calls resent both.then_loads in (
          part.0,
          ap (λ (l : List (List ℕ)). l ++ second) (sym all)
              ∙ (ap (λ (l : List (List ℕ)). map path_read both.first_calls ++ l) part.1
              ∙ (sym (append_assoc (map path_read both.first_calls) (map path_read both.second_calls) part.0)
              ∙ ap (λ (l : List (List ℕ)). l ++ part.0) (sym (map-append path_read both.first_calls both.second_calls)))),
        )
    by_cases (inr none) =
        let part = front_read first both.first_calls recorded both.loads in
        let same : map path_read (both.first_calls ++ both.second_calls) ≡ map path_read both.first_calls =
        ap (λ (l : List FileCall). map path_read (both.first_calls ++ l)) none ∙ ap (λ (l : List FileCall). map path_read l) (append-nil both.first_calls) in (
          part.0 ++ second,
          ap (λ (l : List (List ℕ)). l ++ second) part.1
              ∙ (append_assoc (map path_read both.first_calls) part.0 second ∙ ap (λ (l : List (List ℕ)). l ++ (part.0 ++ second)) (sym same)),
        )

-- and of all of them where all were loaded
pub both_all : (first second : List (List ℕ)) (calls : List FileCall) (recorded resent : List Flow) → LoadsBoth first second calls (loaded recorded) (loaded resent) → map path_read calls ≡ first ++ second
both_all first second calls recorded resent both =
    ap (λ (l : List FileCall). map path_read l) both.all
    ∙ (map-append path_read both.first_calls both.second_calls
    ∙ (ap (λ (l : List (List ℕ)). l ++ map path_read both.second_calls) (all_read first both.first_calls (loaded recorded) recorded both.loads refl)
    ∙ ap (λ (l : List (List ℕ)). first ++ l) (all_read second both.second_calls (loaded resent) resent both.then_loads refl)))
