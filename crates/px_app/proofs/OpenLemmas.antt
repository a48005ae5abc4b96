-- What is read of the options file and of flow files, and what is told of it.
use Rattle.std.proofs.Common.{◌≡◌, ◌⊎◌, inl, inr, ℕ, List, [], ◌∷◌, Result, Ok, Err, IfOk, IfErr, refl, sym, subst}
use Rattle.px_message.specs.declared.flow.Flow.{Flow}
use Rattle.px_event.specs.Trace.{Trace}
use Rattle.px_outside.specs.Count.{Rose}
use Rattle.px_outside.specs.declared.files.FileCall.{FileCall}
use Rattle.px_outside.specs.declared.files.FileCall.TheVariants.{Read}
use Rattle.px_map.specs.Reads.{Made, Seen}
use Rattle.px_map.proofs.ReadsLemmas.{made_both}
use Rattle.px_core.specs.Answers.{Answering, Failing, FilesMeaning}
use Rattle.px_addons.specs.Mapped.{seen_of}
use Rattle.px_options.specs.Options.{Says, Settings}
use Rattle.px_words.specs.Lines.{bad_flow_file, cannot_read}
use Rattle.px_app.specs.Loaded.{Loaded, LoadsBoth, LoadsFiles, behind_loaded, flows_in, loaded, one_absent, one_bad, one_unread, unloaded}
use Rattle.px_app.specs.Loading.{load_code, load_line, stop_of}
use Rattle.px_app.specs.Opened.{IsNoOptions, IsNotOpened, Opened, nothing_read, absent, not_read, unjudged, refused, says, error_code, error_line, error_note}
use Rattle.px_words.specs.Outside.{IsTold, Outside}
use Rattle.px_app.specs.Serves.{RunsBy, RunsWith, Served, ServesFile}
use Rattle.px_words.specs.Stops.{Stops}
use Rattle.px_app.specs.declared.loading.LoadError.{LoadError}
use Rattle.px_app.specs.declared.loading.LoadError.TheVariants as loads
use Rattle.px_app.specs.declared.opening.OpenError.{OpenError}
use Rattle.px_app.specs.declared.opening.OpenError.TheVariants as errors
use Rattle.px_app.proofs.LoadLemmas.{breaks_behind}

-- the bytes were read, and judged so
pub judged_so : (path bytes : List ℕ) (error : OpenError) (before after : Seen) → Made (Read path bytes ∷ []) before after → IsNoOptions bytes error → IsNotOpened path error before after
judged_so path bytes errors.NotRead before after made is = absurd is
judged_so path bytes (errors.Refused why) before after made is = (bytes, made, is)
judged_so path bytes errors.NoMemory before after made is = inr (bytes, made)

pub ok_judged : {T : Type 0} (result : Result T OpenError) (P Q : T → Type 0) → IfOk result P → ((t : T) → P t → Q t) → IfOk result Q
ok_judged (Ok t) P Q h f = f t h
ok_judged (Err e) P Q h f = tt

pub err_judged : {T : Type 0} (result : Result T OpenError) (P Q : OpenError → Type 0) → IfErr result P → ((e : OpenError) → P e → Q e) → IfErr result Q
err_judged (Ok t) P Q h f = tt
err_judged (Err e) P Q h f = f e h

module _ {S : Type 0} (answers : Answering S) (drops : List ℕ → S → S → Type 0) (names : S → List (List ℕ)) (fails : Failing S) (key : List ℕ) (IsChain : Settings → List Flow → S → Type 0) (same net out save notes : Type 0) (path : List ℕ) (before after : Outside) (status : ℕ) where
  -- a run without options
  pub not_opened : (error : OpenError) → IsNotOpened path error (seen_of before.files) (seen_of after.files) → same → (status ≡ error_code error) ⊎ (status ≡ 8) →
      IsTold out status (error_line path error) before.written after.written → IsTold notes status (error_note error) before.noted after.noted →
      (opened : Opened) × ServesFile answers drops names fails key IsChain same net out save notes path opened before after status
  not_opened errors.NotRead (inl made) is_same is printed noted =
      (absent, record { read = after.files; reads = made; runs = record { is = is; net = is_same; kept = refl; prints = printed; notes = noted } })
  not_opened errors.NotRead (inr made) is_same is printed noted =
      (not_read, record { read = after.files; reads = made; runs = record { is = is; net = is_same; kept = refl; prints = printed; notes = noted } })
  not_opened (errors.Refused why) (bytes, made, refuses) is_same is printed noted =
      (refused bytes why, record { read = after.files; reads = made; runs = (refuses, record { is = is; net = is_same; kept = refl; prints = printed; notes = noted }) })
  not_opened errors.NoMemory (inl made) is_same is printed noted =
      (nothing_read, record { read = after.files; reads = made; runs = record { is = is; net = is_same; kept = refl; prints = printed; notes = noted } })
  not_opened errors.NoMemory (inr (bytes, made)) is_same is printed noted =
      (unjudged bytes, record { read = after.files; reads = made; runs = record { is = is; net = is_same; kept = refl; prints = printed; notes = noted } })

-- ---- the run behind the files

module _ {S : Type 0} (answers : Answering S) (drops : List ℕ → S → S → Type 0) (names : S → List (List ℕ)) (fails : Failing S) (key : List ℕ) (IsChain : Settings → List Flow → S → Type 0) (same net out save notes : Type 0) (settings : Settings) where
  stops_from : (code : ℕ) (line : List ℕ) (files read : FilesMeaning) (before after : Outside) (status : ℕ) → Stops same out notes code line [] read (record before { files = files }) after status →
      Stops same out notes code line [] read before after status
  stops_from code line files read before after status h = record { is = h.is; net = h.net; kept = h.kept; prints = h.prints; notes = h.notes }

  -- what files meant before is no part of what a run promises
  served_from : (chain : S) (resent : List Flow) (files read : FilesMeaning) (before after : Outside) (status : ℕ) (told : Trace) →
      Served answers drops names fails key out save settings chain resent read (record before { files = files }) after status told →
      Served answers drops names fails key out save settings chain resent read before after status told
  served_from chain resent files read before after status told h = record {
    trace = h.trace;
    changes = h.changes;
    operations = h.operations;
    over = h.over;
    promises = h.promises;
    outputs = h.outputs;
    ends = h.ends;
    prints = h.prints;
  }

  runs_from : (flows : List Flow) (what : Loaded) (files read : FilesMeaning) (before after : Outside) (status : ℕ) →
      RunsBy answers drops names fails key IsChain same net out save notes settings flows what read (record before { files = files }) after status →
      RunsBy answers drops names fails key IsChain same net out save notes settings flows what read before after status
  runs_from flows (loaded resent) files read before after status (chain, so, h) = (
    chain,
    so,
    record {
      served = λ told empty tells. served_from chain resent files read before after status told (h.served told empty tells);
      files = h.files;
      listening = h.listening;
      causes = h.causes;
      notes = h.notes;
    },
  )
  runs_from flows (one_absent path) files read before after status h = stops_from 3 (cannot_read path) files read before after status h
  runs_from flows (one_unread path) files read before after status h = stops_from 3 (cannot_read path) files read before after status h
  runs_from flows (one_bad path offset) files read before after status h = stops_from 4 (bad_flow_file path offset) files read before after status h
  runs_from flows unloaded files read before after status h = stops_from 8 [] files read before after status h

  -- a flow file that ends the run
  no_flows : (flows : List Flow) (error : LoadError) (before after : Outside) (status : ℕ) → same → (status ≡ load_code error) ⊎ (status ≡ 8) →
      IsTold out status (load_line error) before.written after.written → IsTold notes status [] before.noted after.noted →
      RunsBy answers drops names fails key IsChain same net out save notes settings flows (stop_of error) after.files before after status
  no_flows flows (loads.Absent path) before after status is_same is printed noted = record { is = is; net = is_same; kept = refl; prints = printed; notes = noted }
  no_flows flows (loads.NotRead path) before after status is_same is printed noted = record { is = is; net = is_same; kept = refl; prints = printed; notes = noted }
  no_flows flows (loads.BadPlace path offset) before after status is_same is printed noted = record { is = is; net = is_same; kept = refl; prints = printed; notes = noted }
  no_flows flows loads.NoMemory before after status is_same is printed noted = record { is = is; net = is_same; kept = refl; prints = printed; notes = noted }

  -- one of those whose flows answer
  pub none_recorded : (error : LoadError) (before after : Outside) (status : ℕ) → same → (status ≡ load_code error) ⊎ (status ≡ 8) →
      IsTold out status (load_line error) before.written after.written → IsTold notes status [] before.noted after.noted →
      RunsWith answers drops names fails key IsChain same net out save notes settings (stop_of error) (loaded []) after.files before after status
  none_recorded (loads.Absent path) before after status is_same is printed noted = record { so = no_flows [] (loads.Absent path) before after status is_same is printed noted }
  none_recorded (loads.NotRead path) before after status is_same is printed noted = record { so = no_flows [] (loads.NotRead path) before after status is_same is printed noted }
  none_recorded (loads.BadPlace path offset) before after status is_same is printed noted = record { so = no_flows [] (loads.BadPlace path offset) before after status is_same is printed noted }
  none_recorded loads.NoMemory before after status is_same is printed noted = record { so = no_flows [] loads.NoMemory before after status is_same is printed noted }

  -- or one of those that are sent again
  pub none_resent : (flows : List Flow) (error : LoadError) (before after : Outside) (status : ℕ) → same → (status ≡ load_code error) ⊎ (status ≡ 8) →
      IsTold out status (load_line error) before.written after.written → IsTold notes status [] before.noted after.noted →
      RunsWith answers drops names fails key IsChain same net out save notes settings (loaded flows) (stop_of error) after.files before after status
  none_resent flows error before after status is_same is printed noted = record { so = no_flows flows error before after status is_same is printed noted }

  pub with_from : (recorded resent : Loaded) (files read : FilesMeaning) (before after : Outside) (status : ℕ) →
      RunsWith answers drops names fails key IsChain same net out save notes settings recorded resent read (record before { files = files }) after status →
      RunsWith answers drops names fails key IsChain same net out save notes settings recorded resent read before after status
  with_from recorded resent files read before after status runs = record { so = runs_from (flows_in recorded) (behind_loaded recorded resent) files read before after status runs.so }

  -- the run of these options, behind the read of their file
  pub opened_so : (path bytes : List ℕ) (calls : List FileCall) (recorded resent : Loaded) (mid read : FilesMeaning) (before after : Outside) (status : ℕ) →
      Made (Read path bytes ∷ []) (seen_of before.files) (seen_of mid) → Says bytes (Ok settings) → LoadsBoth settings.server_replay settings.client_replay calls recorded resent →
      Made calls (seen_of mid) (seen_of read) →
      RunsWith answers drops names fails key IsChain same net out save notes settings recorded resent read (record before { files = mid }) after status →
      (opened : Opened) × ServesFile answers drops names fails key IsChain same net out save notes path opened before after status
  opened_so path bytes calls recorded resent mid read before after status made said loads_both more runs = (
    says bytes settings calls recorded resent,
    record {
      read = read;
      reads = made_both (Read path bytes ∷ []) calls (seen_of before.files) (seen_of mid) (seen_of read) made more;
      runs = (said, loads_both, with_from recorded resent mid read before after status runs);
    },
  )

-- the flows are there, or memory ran out behind them
pub with_flows : (named : List (List ℕ)) (calls : List FileCall) (flows : List Flow) (paths : List (List ℕ)) (what : Loaded) → paths ≡ named → LoadsFiles paths calls (loaded flows) →
    (what ≡ loaded flows) ⊎ (what ≡ unloaded) → LoadsFiles named calls what
with_flows named calls flows paths what of_options loads (inl is) =
    let P : List (List ℕ) → Type 0 = λ p. LoadsFiles p calls what in
    let Q : Loaded → Type 0 = λ w. LoadsFiles paths calls w in
    subst P of_options (subst Q (sym is) loads)
with_flows named calls flows paths what of_options loads (inr is) =
    let P : List (List ℕ) → Type 0 = λ p. LoadsFiles p calls what in
    let Q : Loaded → Type 0 = λ w. LoadsFiles paths calls w in
    subst P of_options (subst Q (sym is) (breaks_behind paths calls (loaded flows) flows loads refl))

-- what failed since files were read failed in the run
pub with_since : {S : Type 0} (answers : Answering S) (drops : List ℕ → S → S → Type 0) (names : S → List (List ℕ)) (fails : Failing S) (key : List ℕ) (IsChain : Settings → List Flow → S → Type 0) (same net out notes : Type 0) (settings : Settings) (recorded resent : Loaded) (read : FilesMeaning)
    (before after : Outside) (status mid old new : ℕ) → mid ≡ old → RunsWith answers drops names fails key IsChain same net out (Rose mid new) notes settings recorded resent read before after status →
    RunsWith answers drops names fails key IsChain same net out (Rose old new) notes settings recorded resent read before after status
with_since answers drops names fails key IsChain same net out notes settings recorded resent read before after status mid old new is =
    let P : ℕ → Type 0 = λ n. RunsWith answers drops names fails key IsChain same net out (Rose n new) notes settings recorded resent read before after status in subst P is
