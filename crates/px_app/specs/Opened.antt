-- What came of the start of a run: of its options file, and of the flow files that it names.
use Rattle.std.specs.Prelude.{◌≡◌, ◌⊎◌, ℕ, List, [], ◌∷◌, Option, Some, None, option_map}
use Rattle.px_filter.specs.Expression.{Expression}
use Rattle.px_filter.specs.View.{expression}
use Rattle.px_message.specs.declared.flow.Flow.{Flow}
use Rattle.px_outside.specs.declared.files.FileCall.{FileCall}
use Rattle.px_outside.specs.declared.files.FileCall.TheVariants.{Read, Missed, ReadFailed}
use Rattle.px_addons.specs.declared.rules.Rules.{Rules}
use Rattle.px_map.specs.Reads.{Made, Seen}
use Rattle.px_map.specs.View.{block_views, local_views, remote_views}
use Rattle.px_refresh.specs.Authorized.{Authorization}
use Rattle.px_refresh.specs.Cookies.{Cookie}
use Rattle.px_refresh.specs.declared.authorization.StickyAuth.{StickyAuth}
use Rattle.px_refresh.specs.declared.cookies.StickyCookies.{StickyCookies}
use Rattle.px_replay.specs.Replaying.{Replaying, started}
use Rattle.px_replay.specs.declared.options.KeyOptions.{KeyOptions}
use Rattle.px_rule.specs.View.{body_views, header_views}
use Rattle.px_options.specs.Options.{IsRefused, Settings}
use Rattle.px_options.specs.declared.error.OptionsError.{OptionsError}
use Rattle.px_options.specs.Shown.{refusal_line, refusal_note}
use Rattle.px_words.specs.Lines.{cannot_read}
use Rattle.px_app.specs.Loaded.{Loaded}
use Rattle.px_app.specs.declared.opening.OpenError.{OpenError}
use Rattle.px_app.specs.declared.opening.OpenError.TheVariants as errors

pub data Opened : Type 0 where
  -- memory ran out before it was read
  nothing_read : Opened
  -- nothing stands under its path
  absent : Opened
  -- it was not read
  not_read : Opened
  -- these bytes were read, and memory ran out before they were judged
  unjudged : (bytes : List ℕ) → Opened
  -- these bytes were read, which are no options, for this cause
  refused : (bytes : List ℕ) (why : OptionsError) → Opened
  -- these bytes were read, which are these options; then these reads were made of the flow files that they name, and this came of those whose flows answer, and of those that are
  -- sent again
  says : (bytes : List ℕ) (settings : Settings) (calls : List FileCall) (recorded resent : Loaded) → Opened

-- the reads that were made, in their order: of the options file of this path, and then of flow files
abbrev pub reads_of : List ℕ → Opened → List FileCall
reads_of path nothing_read = []
reads_of path absent = Missed path ∷ []
reads_of path not_read = ReadFailed path ∷ []
reads_of path (unjudged bytes) = Read path bytes ∷ []
reads_of path (refused bytes why) = Read path bytes ∷ []
reads_of path (says bytes settings calls recorded resent) = Read path bytes ∷ calls

-- the rules of a chain are those of the options; its recorded list, and what it keeps for later requests, stand beside them
pub record AreRulesOf (settings : Settings) (rules : Rules) : Type 0 where
  pub block : block_views rules.block ≡ settings.block_list
  pub local : local_views rules.local ≡ settings.map_local
  pub remote : remote_views rules.remote ≡ settings.map_remote
  pub headers : header_views rules.headers ≡ settings.modify_headers
  pub bodies : body_views rules.bodies ≡ settings.modify_body
  pub anticache : rules.anticache ≡ settings.anticache
  pub anticomp : rules.anticomp ≡ settings.anticomp
  pub intercept : option_map expression rules.intercept ≡ settings.intercept
  pub replay : rules.replay ≡ None
  pub refresh : rules.refresh ≡ settings.server_replay_refresh
  pub cookies : rules.cookies ≡ None
  pub auth : rules.auth ≡ None
  pub stream : rules.stream ≡ settings.stream_large_bodies

-- what counts of a request where a recorded one is looked for
abbrev pub what_counts : Settings → KeyOptions
what_counts settings = record {
  ignore_content = settings.server_replay_ignore_content;
  ignore_host = settings.server_replay_ignore_host;
  ignore_port = settings.server_replay_ignore_port;
  ignore_params = settings.server_replay_ignore_params;
  use_headers = settings.server_replay_use_headers;
}

-- the recorded list, where a file is named
abbrev pub recorded_at : List (List ℕ) → Replaying → Option Replaying
recorded_at [] recorded = None
recorded_at (path ∷ others) recorded = Some recorded

-- the recorded list of a chain by the options, with these flows of the files that they name
abbrev pub replay_of : Settings → List Flow → Option Replaying
replay_of settings flows = recorded_at settings.server_replay (started (what_counts settings) settings.server_replay_reuse settings.server_replay_extra flows)

-- cookies and authorizations that are kept, by their filter
abbrev pub cookies_view : StickyCookies → Expression × List Cookie
cookies_view cookies = (expression cookies.filter, cookies.jar)

abbrev pub auth_view : StickyAuth → Expression × List Authorization
auth_view auth = (expression auth.filter, auth.shown)

-- under this filter nothing is kept yet
abbrev pub nothing_kept : {T : Type 0} → Expression → Expression × List T
nothing_kept filter = (filter, [])

-- What a chain has beside its rules and addons when it begins, by the options and the flows of the files that they name: the recorded list; and where an option
-- names a filter for them, cookies and authorizations of which nothing is kept yet.
pub record BeginsWith (settings : Settings) (flows : List Flow) (recorded : Option Replaying) (cookies : Option StickyCookies) (auth : Option StickyAuth) : Type 0 where
  pub replay : recorded ≡ replay_of settings flows
  pub sent : option_map cookies_view cookies ≡ option_map nothing_kept settings.stickycookie
  pub given : option_map auth_view auth ≡ option_map nothing_kept settings.stickyauth

-- why bytes are no options: they are refused so, or memory ran out
abbrev pub IsNoOptions : List ℕ → OpenError → Type 0
IsNoOptions bytes errors.NotRead = ⊥
IsNoOptions bytes (errors.Refused why) = IsRefused bytes why
IsNoOptions bytes errors.NoMemory = Unit {0}

-- why there are no options in the file of this path, by what was read of it
abbrev pub IsNotOpened : List ℕ → OpenError → Seen → Seen → Type 0
IsNotOpened path errors.NotRead before after = Made (Missed path ∷ []) before after ⊎ Made (ReadFailed path ∷ []) before after
IsNotOpened path (errors.Refused why) before after = (bytes : List ℕ) × Made (Read path bytes ∷ []) before after × IsRefused bytes why
IsNotOpened path errors.NoMemory before after = Made [] before after ⊎ ((bytes : List ℕ) × Made (Read path bytes ∷ []) before after)

-- the status, the line and the note where there are no options
abbrev pub error_code : OpenError → ℕ
error_code errors.NotRead = 3
error_code (errors.Refused why) = 2
error_code errors.NoMemory = 8

abbrev pub error_line : List ℕ → OpenError → List ℕ
error_line path errors.NotRead = cannot_read path
error_line path (errors.Refused why) = refusal_line why
error_line path errors.NoMemory = []

abbrev pub error_note : OpenError → List ℕ
error_note errors.NotRead = []
error_note (errors.Refused why) = refusal_note why
error_note errors.NoMemory = []
