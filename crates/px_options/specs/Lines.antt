-- The table of the options: a line for each key, with what values it takes and its default.
use Rattle.std.specs.Prelude.{ℕ, Bool, false, List, [], codes, Option, None, Result}
use Rattle.px_filter.specs.Expression.{Expression}
use Rattle.px_map.specs.Block.{BlockRule, block_rule}
use Rattle.px_replay.specs.declared.replay.Extra.{Extra}
use Rattle.px_replay.specs.declared.replay.Extra.TheVariants as extras
use Rattle.px_rule.specs.Rule.{Rule, body_rule, header_rule}
use Rattle.toml.specs.Data.{Data}
use Rattle.px_options.specs.Mode.{ModeIs, regular, mode as mode_text}
use Rattle.px_options.specs.Replay.{extra, file_paths, texts}
use Rattle.px_options.specs.Rules.{rules}
use Rattle.px_options.specs.Save.{file_path, flow_filter}
use Rattle.px_options.specs.Values.{Place, address, count, size, some_address, truth}
use Rattle.px_options.specs.declared.error.OptionsError.{OptionsError}
use Rattle.px_options.specs.declared.key.Key.{Key}
use Rattle.px_options.specs.declared.key.Key.TheVariants as key

-- the line of an option
pub record Line (A : Type 0) : Type 0 where
  pub key : Key
  -- what a value under the key is, or why it is refused
  pub reads : Data → Result A OptionsError
  -- what the option is without its key
  pub default : A

abbrev pub line : {A : Type 0} → Key → (Key → Data → Result A OptionsError) → A → Line A
line key kind default = record { key = key; reads = kind key; default = default }

abbrev pub anticache : Line Bool
anticache = line key.Anticache truth false

abbrev pub anticomp : Line Bool
anticomp = line key.Anticomp truth false

abbrev pub block_list : Line (List BlockRule)
block_list = line key.BlockList (rules block_rule) []

-- without its key no request is sent again
abbrev pub client_replay : Line (List (List ℕ))
client_replay = line key.ClientReplay file_paths []

-- without its key operators connect nowhere
abbrev pub control : Line (Option Place)
control = line key.Control some_address None

abbrev pub events : Line ℕ
events = line key.Events count 9223372036854775807

-- without its key no flow waits
abbrev pub intercept : Line (Option Expression)
intercept = line key.Intercept flow_filter None

abbrev pub listen : Line Place
listen = line key.Listen address (codes "127.0.0.1", 8080)

-- of a path any text serves, so its rules are read as those of bodies are
abbrev pub map_local : Line (List Rule)
map_local = line key.MapLocal (rules body_rule) []

abbrev pub map_remote : Line (List Rule)
map_remote = line key.MapRemote (rules body_rule) []

abbrev pub mode : Line ModeIs
mode = line key.Mode mode_text regular

abbrev pub modify_body : Line (List Rule)
modify_body = line key.ModifyBody (rules body_rule) []

abbrev pub modify_headers : Line (List Rule)
modify_headers = line key.ModifyHeaders (rules header_rule) []

-- without its key nothing is saved
abbrev pub save_stream_file : Line (Option (List ℕ))
save_stream_file = line key.SaveStreamFile file_path None

-- without its key every flow is taken
abbrev pub save_stream_filter : Line (Option Expression)
save_stream_filter = line key.SaveStreamFilter flow_filter None

-- without its key no request is answered so
abbrev pub server_replay : Line (List (List ℕ))
server_replay = line key.ServerReplay file_paths []

abbrev pub server_replay_extra : Line Extra
server_replay_extra = line key.ServerReplayExtra extra extras.Forward

abbrev pub server_replay_ignore_content : Line Bool
server_replay_ignore_content = line key.ServerReplayIgnoreContent truth false

abbrev pub server_replay_ignore_host : Line Bool
server_replay_ignore_host = line key.ServerReplayIgnoreHost truth false

abbrev pub server_replay_ignore_params : Line (List (List ℕ))
server_replay_ignore_params = line key.ServerReplayIgnoreParams texts []

abbrev pub server_replay_ignore_port : Line Bool
server_replay_ignore_port = line key.ServerReplayIgnorePort truth false

-- without its key recorded responses keep their dates
abbrev pub server_replay_refresh : Line Bool
server_replay_refresh = line key.ServerReplayRefresh truth false

abbrev pub server_replay_reuse : Line Bool
server_replay_reuse = line key.ServerReplayReuse truth false

abbrev pub server_replay_use_headers : Line (List (List ℕ))
server_replay_use_headers = line key.ServerReplayUseHeaders texts []

-- without its key no authorization is kept
abbrev pub stickyauth : Line (Option Expression)
stickyauth = line key.Stickyauth flow_filter None

-- without its key no cookie is kept
abbrev pub stickycookie : Line (Option Expression)
stickycookie = line key.Stickycookie flow_filter None

-- without its key no body is streamed
abbrev pub stream_large_bodies : Line (Option ℕ)
stream_large_bodies = line key.StreamLargeBodies size None
