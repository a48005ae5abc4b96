-- What a run promises with the words `serve OPTIONS`, by what came of its start.
use Rattle.std.specs.Prelude.{◌≡◌, ◌≢◌, ◌⊎◌, ℕ, Bool, List, [], Option, Some, None, Ok}
use Rattle.px_message.specs.declared.flow.Flow.{Flow}
use Rattle.px_event.specs.Trace.{Trace}
use Rattle.px_outside.specs.Net.{Listening, idle, failed, at}
use Rattle.px_core.specs.Answers.{Answering, Failing, FilesMeaning}
use Rattle.px_core.specs.Course.{Change, Operated}
use Rattle.px_exchange.specs.declared.mode.Mode.{Mode}
use Rattle.px_filter.specs.Expression.{Expression}
use Rattle.px_map.specs.Reads.{Made}
use Rattle.px_options.specs.Options.{IsRefused, Says, Settings}
use Rattle.px_options.specs.Shown.{refusal_line, refusal_note}
use Rattle.px_options.specs.View.{mode_view}
use Rattle.px_addons.specs.Mapped.{seen_of}
use Rattle.px_app.specs.Lines.{start_note}
use Rattle.px_words.specs.Lines.{bad_flow_file, cannot_read}
use Rattle.px_app.specs.Loaded.{Loaded, LoadsBoth, behind_loaded, flows_in, loaded, one_absent, one_bad, one_unread, unloaded}
use Rattle.px_app.specs.Opened.{Opened, nothing_read, absent, not_read, unjudged, refused, says, reads_of}
use Rattle.px_words.specs.Outside.{Outside, IsTold}
use Rattle.px_app.specs.Over.{LeavesBehind}
use Rattle.px_app.specs.Promises.{EndsSo, HasCause, Outputs, Prints, Promises}
use Rattle.px_app.specs.Run.{ListensAt}
use Rattle.px_app.specs.Saved.{SavesTo}
use Rattle.px_words.specs.Stops.{Stops}

-- the text, where the network listens
abbrev pub where_listening : Listening → List ℕ → List ℕ
where_listening idle text = []
where_listening failed text = []
where_listening (at proxy control) text = text

-- where and which flows these options have saved
abbrev pub saves_at : Option (List ℕ) → Option Expression → Option SavesTo
saves_at None filter = None
saves_at (Some path) filter = Some (record { path = path; filter = filter })

abbrev pub saves_of : Settings → Option SavesTo
saves_of settings = saves_at settings.save_stream_file settings.save_stream_filter

-- What was told of a run that served as these options say, with this key of masks, whose hooks this chain answered, that sent the requests of these flows again, and that began
-- with these files.
pub record Served {S : Type 0} (answers : Answering S) (drops : List ℕ → S → S → Type 0) (names : S → List (List ℕ)) (fails : Failing S) (key : List ℕ) (out_failed save_failed : Type 0) (settings : Settings)
    (chain : S) (resent : List Flow) (read : FilesMeaning) (before after : Outside) (status : ℕ) (told : Trace) : Type 0 where
  pub trace : Trace
  pub changes : List (Change S)
  pub operations : List Operated
  pub over : Bool
  -- every peer gets what is due to it in the mode of the options with this key, operators are answered, and each hook is answered once, by the chain alone or by an operator where
  -- `intercept` is set; and what is printed and saved
  pub promises : (mode : Mode) → settings.mode ≡ mode_view mode →
      Promises answers drops names fails settings.intercept mode key resent (record { own = chain; files = read }) changes operations after.files status over told trace
  pub outputs : Outputs (out_failed ⊎ save_failed) (saves_of settings) changes status trace before.written after.written
  -- the causes of the status in what was told
  pub ends : EndsSo settings.events status over told
  -- what is printed
  pub prints : Prints (out_failed ⊎ save_failed) status trace before.written after.written

-- A run that served so.
pub record Serves {S : Type 0} (answers : Answering S) (drops : List ℕ → S → S → Type 0) (names : S → List (List ℕ)) (fails : Failing S) (key : List ℕ) (net_failed out_failed save_failed notes_failed : Type 0)
    (settings : Settings) (chain : S) (resent : List Flow) (read : FilesMeaning) (before after : Outside) (status : ℕ) : Type 0 where
  pub served : (told : Trace) → before.trace ≡ Some [] → after.trace ≡ Some told → Served answers drops names fails key out_failed save_failed settings chain resent read before after status told
  -- no file is read but by the chain's answers, none is appended to but where flows are saved, and none is changed else
  pub files : LeavesBehind answers drops fails (saves_of settings) (record { own = chain; files = read }) after.files
  -- it listens before anything is heard
  pub listening : (trace : Trace) → before.trace ≡ Some [] → after.trace ≡ Some trace → trace ≢ [] → ListensAt settings.listen settings.control after.listening
  -- the causes of the status in what is outside
  pub causes : HasCause net_failed (out_failed ⊎ save_failed) status
  -- the note of where it listens
  pub notes : IsTold notes_failed status (where_listening after.listening (start_note settings.listen settings.mode)) before.noted after.noted

module _ {S : Type 0} (answers : Answering S) (drops : List ℕ → S → S → Type 0) (names : S → List (List ℕ)) (fails : Failing S) (key : List ℕ) (IsChain : Settings → List Flow → S → Type 0) (net_is_same net_failed out_failed save_failed notes_failed : Type 0) where
  -- The run of these options whose flow files were loaded, with the files as the reads left them: these flows answer, and the requests of those are sent again. Or what the run
  -- stops with where one was not loaded.
  abbrev pub RunsBy : Settings → List Flow → Loaded → FilesMeaning → Outside → Outside → ℕ → Type 0
  RunsBy settings flows (loaded resent) read before after status =
      (chain : S) × IsChain settings flows chain × Serves answers drops names fails key net_failed out_failed save_failed notes_failed settings chain resent read before after status
  RunsBy settings flows (one_absent path) read before after status = Stops net_is_same out_failed notes_failed 3 (cannot_read path) [] read before after status
  RunsBy settings flows (one_unread path) read before after status = Stops net_is_same out_failed notes_failed 3 (cannot_read path) [] read before after status
  RunsBy settings flows (one_bad path offset) read before after status = Stops net_is_same out_failed notes_failed 4 (bad_flow_file path offset) [] read before after status
  RunsBy settings flows unloaded read before after status = Stops net_is_same out_failed notes_failed 8 [] [] read before after status

  -- by what came of the files whose flows answer, and of those whose requests are sent again
  pub record RunsWith (settings : Settings) (recorded resent : Loaded) (read : FilesMeaning) (before after : Outside) (status : ℕ) : Type 0 where
    pub so : RunsBy settings (flows_in recorded) (behind_loaded recorded resent) read before after status

  -- the run by what came of the options file of this path and of those flow files, with the files as the reads left them
  abbrev pub RunsOn : List ℕ → Opened → FilesMeaning → Outside → Outside → ℕ → Type 0
  RunsOn path nothing_read read before after status = Stops net_is_same out_failed notes_failed 8 [] [] read before after status
  RunsOn path absent read before after status = Stops net_is_same out_failed notes_failed 3 (cannot_read path) [] read before after status
  RunsOn path not_read read before after status = Stops net_is_same out_failed notes_failed 3 (cannot_read path) [] read before after status
  RunsOn path (unjudged bytes) read before after status = Stops net_is_same out_failed notes_failed 8 [] [] read before after status
  RunsOn path (refused bytes why) read before after status = IsRefused bytes why × Stops net_is_same out_failed notes_failed 2 (refusal_line why) (refusal_note why) read before after status
  RunsOn path (says bytes settings calls recorded resent) read before after status =
      Says bytes (Ok settings) × LoadsBoth settings.server_replay settings.client_replay calls recorded resent × RunsWith settings recorded resent read before after status

  -- The file of this path is read first, once, and then the flow files that it names, and this came of them.
  pub record ServesFile (path : List ℕ) (opened : Opened) (before after : Outside) (status : ℕ) : Type 0 where
    pub read : FilesMeaning
    pub reads : Made (reads_of path opened) (seen_of before.files) (seen_of read)
    pub runs : RunsOn path opened read before after status
