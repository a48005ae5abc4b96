-- The options that a table is, or its refusal; and those that bytes are.
use Rattle.std.specs.Prelude.{◌≡◌, ◌⊎◌, ℕ, Bool, List, Option, Some, None, Result, Ok, Err}
use Rattle.std.specs.Str.{IsUtf8}
use Rattle.px_filter.specs.Expression.{Expression}
use Rattle.px_map.specs.Block.{BlockRule}
use Rattle.px_replay.specs.declared.replay.Extra.{Extra}
use Rattle.px_rule.specs.Rule.{Rule}
use Rattle.toml.specs.Data.{Data, Members, no_members, member, get_member}
use Rattle.toml.specs.Parse.{parse_document}
use Rattle.px_options.specs.Keys.{key_of, name_of}
use Rattle.px_options.specs.Lines as lines
use Rattle.px_options.specs.Lines.{Line}
use Rattle.px_options.specs.Mode.{ModeIs}
use Rattle.px_options.specs.Values.{Place}
use Rattle.px_options.specs.declared.error.OptionsError.{OptionsError}
use Rattle.px_options.specs.declared.error.OptionsError.TheVariants as error
use Rattle.px_options.specs.declared.key.Key.{Key}
use Rattle.px_options.specs.declared.key.Key.TheVariants as key

-- what the options are
pub record Settings : Type 0 where
  pub anticache : Bool
  pub anticomp : Bool
  pub block_list : List BlockRule
  pub client_replay : List (List ℕ)
  pub control : Option Place
  pub events : ℕ
  pub intercept : Option Expression
  pub listen : Place
  pub map_local : List Rule
  pub map_remote : List Rule
  pub mode : ModeIs
  pub modify_body : List Rule
  pub modify_headers : List Rule
  pub save_stream_file : Option (List ℕ)
  pub save_stream_filter : Option Expression
  pub server_replay : List (List ℕ)
  pub server_replay_extra : Extra
  pub server_replay_ignore_content : Bool
  pub server_replay_ignore_host : Bool
  pub server_replay_ignore_params : List (List ℕ)
  pub server_replay_ignore_port : Bool
  pub server_replay_refresh : Bool
  pub server_replay_reuse : Bool
  pub server_replay_use_headers : List (List ℕ)
  pub stickyauth : Option Expression
  pub stickycookie : Option Expression
  pub stream_large_bodies : Option ℕ

-- every option is its default
abbrev pub defaults : Settings
defaults = record {
  anticache = lines.anticache.default;
  anticomp = lines.anticomp.default;
  block_list = lines.block_list.default;
  client_replay = lines.client_replay.default;
  control = lines.control.default;
  events = lines.events.default;
  intercept = lines.intercept.default;
  listen = lines.listen.default;
  map_local = lines.map_local.default;
  map_remote = lines.map_remote.default;
  mode = lines.mode.default;
  modify_body = lines.modify_body.default;
  modify_headers = lines.modify_headers.default;
  save_stream_file = lines.save_stream_file.default;
  save_stream_filter = lines.save_stream_filter.default;
  server_replay = lines.server_replay.default;
  server_replay_extra = lines.server_replay_extra.default;
  server_replay_ignore_content = lines.server_replay_ignore_content.default;
  server_replay_ignore_host = lines.server_replay_ignore_host.default;
  server_replay_ignore_params = lines.server_replay_ignore_params.default;
  server_replay_ignore_port = lines.server_replay_ignore_port.default;
  server_replay_refresh = lines.server_replay_refresh.default;
  server_replay_reuse = lines.server_replay_reuse.default;
  server_replay_use_headers = lines.server_replay_use_headers.default;
  stickyauth = lines.stickyauth.default;
  stickycookie = lines.stickycookie.default;
  stream_large_bodies = lines.stream_large_bodies.default;
}

-- why a line refuses a value
abbrev pub why : {A : Type 0} → Result A OptionsError → Option OptionsError
why (Ok a) = None
why (Err e) = Some e

abbrev pub refusal_at : Key → Data → Option OptionsError
refusal_at key.Anticache d = why (lines.anticache.reads d)
refusal_at key.Anticomp d = why (lines.anticomp.reads d)
refusal_at key.BlockList d = why (lines.block_list.reads d)
refusal_at key.ClientReplay d = why (lines.client_replay.reads d)
refusal_at key.Control d = why (lines.control.reads d)
refusal_at key.Events d = why (lines.events.reads d)
refusal_at key.Intercept d = why (lines.intercept.reads d)
refusal_at key.Listen d = why (lines.listen.reads d)
refusal_at key.MapLocal d = why (lines.map_local.reads d)
refusal_at key.MapRemote d = why (lines.map_remote.reads d)
refusal_at key.Mode d = why (lines.mode.reads d)
refusal_at key.ModifyBody d = why (lines.modify_body.reads d)
refusal_at key.ModifyHeaders d = why (lines.modify_headers.reads d)
refusal_at key.SaveStreamFile d = why (lines.save_stream_file.reads d)
refusal_at key.SaveStreamFilter d = why (lines.save_stream_filter.reads d)
refusal_at key.ServerReplay d = why (lines.server_replay.reads d)
refusal_at key.ServerReplayExtra d = why (lines.server_replay_extra.reads d)
refusal_at key.ServerReplayIgnoreContent d = why (lines.server_replay_ignore_content.reads d)
refusal_at key.ServerReplayIgnoreHost d = why (lines.server_replay_ignore_host.reads d)
refusal_at key.ServerReplayIgnoreParams d = why (lines.server_replay_ignore_params.reads d)
refusal_at key.ServerReplayIgnorePort d = why (lines.server_replay_ignore_port.reads d)
refusal_at key.ServerReplayRefresh d = why (lines.server_replay_refresh.reads d)
refusal_at key.ServerReplayReuse d = why (lines.server_replay_reuse.reads d)
refusal_at key.ServerReplayUseHeaders d = why (lines.server_replay_use_headers.reads d)
refusal_at key.Stickyauth d = why (lines.stickyauth.reads d)
refusal_at key.Stickycookie d = why (lines.stickycookie.reads d)
refusal_at key.StreamLargeBodies d = why (lines.stream_large_bodies.reads d)

abbrev pub refusal_of_key : Option Key → List ℕ → Data → Option OptionsError
refusal_of_key None name d = Some (error.UnknownOption name)
refusal_of_key (Some key) name d = refusal_at key d

-- why a key of a table is bad: it has no line, or its line refuses its value
abbrev pub refusal_of : List ℕ → Data → Option OptionsError
refusal_of name d = refusal_of_key (key_of name) name d

abbrev pub or_others : Option OptionsError → Option OptionsError → Option OptionsError
or_others None others = others
or_others (Some e) others = Some e

-- why the first bad key of a table is bad; a table has its keys in rising order of bytes
abbrev pub first_refusal : Members → Option OptionsError
first_refusal no_members = None
first_refusal (member name d members) = or_others (refusal_of name d) (first_refusal members)

-- what a line reads, where it refuses nothing
abbrev pub read_or : {A : Type 0} → A → Result A OptionsError → A
read_or default (Ok a) = a
read_or default (Err e) = default

abbrev pub value_or : {A : Type 0} → Line A → A → Option Data → A
value_or line default None = default
value_or line default (Some d) = read_or default (line.reads d)

-- what stands under the key of the line, or the default
abbrev pub option_at : {A : Type 0} → Line A → Members → A
option_at line table = value_or line line.default (get_member (name_of line.key) table)

-- each option by its line
abbrev pub settings_of : Members → Settings
settings_of table = record {
  anticache = option_at lines.anticache table;
  anticomp = option_at lines.anticomp table;
  block_list = option_at lines.block_list table;
  client_replay = option_at lines.client_replay table;
  control = option_at lines.control table;
  events = option_at lines.events table;
  intercept = option_at lines.intercept table;
  listen = option_at lines.listen table;
  map_local = option_at lines.map_local table;
  map_remote = option_at lines.map_remote table;
  mode = option_at lines.mode table;
  modify_body = option_at lines.modify_body table;
  modify_headers = option_at lines.modify_headers table;
  save_stream_file = option_at lines.save_stream_file table;
  save_stream_filter = option_at lines.save_stream_filter table;
  server_replay = option_at lines.server_replay table;
  server_replay_extra = option_at lines.server_replay_extra table;
  server_replay_ignore_content = option_at lines.server_replay_ignore_content table;
  server_replay_ignore_host = option_at lines.server_replay_ignore_host table;
  server_replay_ignore_params = option_at lines.server_replay_ignore_params table;
  server_replay_ignore_port = option_at lines.server_replay_ignore_port table;
  server_replay_refresh = option_at lines.server_replay_refresh table;
  server_replay_reuse = option_at lines.server_replay_reuse table;
  server_replay_use_headers = option_at lines.server_replay_use_headers table;
  stickyauth = option_at lines.stickyauth table;
  stickycookie = option_at lines.stickycookie table;
  stream_large_bodies = option_at lines.stream_large_bodies table;
}

abbrev pub options_by : Option OptionsError → Settings → Result Settings OptionsError
options_by (Some e) settings = Err e
options_by None settings = Ok settings

-- The options that a table is: the refusal of its first bad key, else each option by its line.
abbrev pub options_of : Members → Result Settings OptionsError
options_of table = options_by (first_refusal table) (settings_of table)

-- the bytes are a table, and that is these options, or refused so
abbrev pub Says : List ℕ → Result Settings OptionsError → Type 0
Says bytes said = (table : Members) × IsUtf8 bytes × (parse_document bytes ≡ Some table) × (options_of table ≡ said)

-- the bytes are no UTF-8, or no TOML
abbrev pub IsNoTable : List ℕ → Type 0
IsNoTable bytes = IsUtf8 bytes → parse_document bytes ≡ None

-- why the bytes are no options file: they are no table, or the table is refused so; out of memory aside
abbrev pub IsRefused : List ℕ → OptionsError → Type 0
IsRefused bytes e = ((e ≡ error.BadToml) × IsNoTable bytes) ⊎ Says bytes (Err e)
