-- What a run promises with the words `gen N`.
use Rattle.std.specs.Prelude.{◌≡◌, ◌≢◌, ◌⊎◌, ℕ, Bool, true, List, [], None}
use Rattle.px_event.specs.Trace.{Trace}
use Rattle.px_outside.specs.Sink.{Writes, WritesPart}
use Rattle.px_core.specs.Answers.{Answering, Failing, FilesMeaning}
use Rattle.px_core.specs.Course.{Change, Operated}
use Rattle.px_exchange.specs.declared.mode.Mode.{Mode}
use Rattle.px_exchange.specs.declared.mode.Mode.TheVariants as modes
use Rattle.px_gen.specs.Counts.{counts_in, counts_text}
use Rattle.px_gen.specs.Heard.{Hears}
use Rattle.px_gen.specs.Noted.{HasGrownByFront, noted, with_steps}
use Rattle.px_gen.specs.Rules.{generator_bodies, generator_headers}
use Rattle.px_gen.specs.Peer.{server as generator_server}
use Rattle.px_options.specs.Lines as lines
use Rattle.px_options.specs.Options.{Settings}
use Rattle.px_options.specs.View.{mode_view}
use Rattle.px_words.specs.Outside.{Outside}
use Rattle.px_app.specs.Over.{SavedOver}
use Rattle.px_app.specs.Promises.{Promises}
use Rattle.px_words.specs.Appends.{Append}
use Rattle.px_app.specs.Statuses.{ends_heard}
use Rattle.px_app.specs.declared.printing.Printing.{Printing}

-- its mode: all requests go to the server of the generator
abbrev pub generator_mode : Mode
generator_mode = modes.Reverse generator_server

-- the options of a generated run: its mode, its header rule and its body rule, and else the defaults
abbrev pub generator_settings : Settings
generator_settings = record {
  anticache = lines.anticache.default;
  anticomp = lines.anticomp.default;
  block_list = lines.block_list.default;
  client_replay = lines.client_replay.default;
  control = lines.control.default;
  events = lines.events.default;
  intercept = lines.intercept.default;
  listen = lines.listen.default;
  map_local = lines.map_local.default;
  map_remote = lines.map_remote.default;
  mode = mode_view generator_mode;
  modify_body = generator_bodies;
  modify_headers = generator_headers;
  save_stream_file = lines.save_stream_file.default;
  save_stream_filter = lines.save_stream_filter.default;
  server_replay = lines.server_replay.default;
  server_replay_extra = lines.server_replay_extra.default;
  server_replay_ignore_content = lines.server_replay_ignore_content.default;
  server_replay_ignore_host = lines.server_replay_ignore_host.default;
  server_replay_ignore_params = lines.server_replay_ignore_params.default;
  server_replay_ignore_port = lines.server_replay_ignore_port.default;
  server_replay_refresh = lines.server_replay_refresh.default;
  server_replay_reuse = lines.server_replay_reuse.default;
  server_replay_use_headers = lines.server_replay_use_headers.default;
  stickyauth = lines.stickyauth.default;
  stickycookie = lines.stickycookie.default;
  stream_large_bodies = lines.stream_large_bodies.default;
}

-- no change appended anything, so each left all as it was
abbrev pub SavesNone : {S : Type 0} → List (Change S) → Type 0
SavesNone changes = (reached : Printing) × (placed : List Trace) × (made : List Append) × SavedOver None reached changes placed made

-- every peer got what was due to it, no request was sent again, and nothing was saved
pub record Generated {S : Type 0} (answers : Answering S) (drops : List ℕ → S → S → Type 0) (names : S → List (List ℕ)) (fails : Failing S) (key : List ℕ) (IsChain : Settings → S → Type 0)
    (files last : FilesMeaning) (status : ℕ) (told : Trace) : Type 0 where
  pub chain : S
  pub is_chain : IsChain generator_settings chain
  pub trace : Trace
  pub changes : List (Change S)
  pub operations : List Operated
  pub over : Bool
  pub promises : Promises answers drops names fails generator_settings.intercept generator_mode key [] (record { own = chain; files = files }) changes operations last status over told trace
  pub saves_none : SavesNone changes

-- A run of so many generated flows, with this key of masks, over a network in memory. Another network was told what was asked, answered and finished in it,
-- and its counts were printed.
pub record Generates {S : Type 0} (answers : Answering S) (drops : List ℕ → S → S → Type 0) (names : S → List (List ℕ)) (fails : Failing S) (key : List ℕ) (IsChain : Settings → S → Type 0) (out_failed : Type 0) (count : ℕ) (before after : Outside) (status : ℕ) : Type 0 where
  -- the run, in which what was heard begins the script; it was heard to its end, unless out of memory
  pub run : Trace
  pub hears : Hears count run
  pub ends : status ≢ 8 → ends_heard run ≡ true
  -- where it began, every peer got what was due to it, and nothing was saved
  pub by_chain : run ≢ [] → Generated answers drops names fails key IsChain before.files after.files status run
  -- what was told, and nothing else is asked of that network
  pub told : status ≢ 8 → after.trace ≡ with_steps before.trace (noted run)
  pub told_part : HasGrownByFront (noted run) before.trace after.trace
  pub listening : after.listening ≡ before.listening
  -- what is printed
  pub begun : WritesPart (counts_text (counts_in run)) before.written after.written
  pub prints : (status ≡ 0) ⊎ ((status ≢ 8) × ¬ out_failed) → Writes (counts_text (counts_in run)) before.written after.written
  pub notes : after.noted ≡ before.noted
  -- no file is touched
  pub files : after.files ≡ before.files
  -- the causes of the status
  pub statuses : (status ≡ 0) ⊎ ((status ≡ 7) ⊎ (status ≡ 8))
  pub lost : status ≡ 7 → out_failed
  pub complete : ¬ out_failed → (status ≡ 0) ⊎ (status ≡ 8)
