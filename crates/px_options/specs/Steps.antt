-- One key more: how the code gathers options from a table.
use Rattle.std.specs.Prelude.{ℕ, List, Option, Some, None, Result, Ok, Err}
use Rattle.toml.specs.Data.{Data}
use Rattle.px_options.specs.Keys.{key_of}
use Rattle.px_options.specs.Lines as lines
use Rattle.px_options.specs.Options.{Settings}
use Rattle.px_options.specs.declared.error.OptionsError.{OptionsError}
use Rattle.px_options.specs.declared.error.OptionsError.TheVariants as error
use Rattle.px_options.specs.declared.key.Key.{Key}
use Rattle.px_options.specs.declared.key.Key.TheVariants as key

abbrev pub put_by : {A : Type 0} → (A → Settings) → Result A OptionsError → Result Settings OptionsError
put_by put (Err e) = Err e
put_by put (Ok a) = Ok (put a)

-- the option of the key is what its line reads
abbrev pub put : Key → Data → Settings → Result Settings OptionsError
put key.Anticache d s = put_by (λ a. record s { anticache = a }) (lines.anticache.reads d)
put key.Anticomp d s = put_by (λ a. record s { anticomp = a }) (lines.anticomp.reads d)
put key.BlockList d s = put_by (λ a. record s { block_list = a }) (lines.block_list.reads d)
put key.ClientReplay d s = put_by (λ a. record s { client_replay = a }) (lines.client_replay.reads d)
put key.Control d s = put_by (λ a. record s { control = a }) (lines.control.reads d)
put key.Events d s = put_by (λ a. record s { events = a }) (lines.events.reads d)
put key.Intercept d s = put_by (λ a. record s { intercept = a }) (lines.intercept.reads d)
put key.Listen d s = put_by (λ a. record s { listen = a }) (lines.listen.reads d)
put key.MapLocal d s = put_by (λ a. record s { map_local = a }) (lines.map_local.reads d)
put key.MapRemote d s = put_by (λ a. record s { map_remote = a }) (lines.map_remote.reads d)
put key.Mode d s = put_by (λ a. record s { mode = a }) (lines.mode.reads d)
put key.ModifyBody d s = put_by (λ a. record s { modify_body = a }) (lines.modify_body.reads d)
put key.ModifyHeaders d s = put_by (λ a. record s { modify_headers = a }) (lines.modify_headers.reads d)
put key.SaveStreamFile d s = put_by (λ a. record s { save_stream_file = a }) (lines.save_stream_file.reads d)
put key.SaveStreamFilter d s = put_by (λ a. record s { save_stream_filter = a }) (lines.save_stream_filter.reads d)
put key.ServerReplay d s = put_by (λ a. record s { server_replay = a }) (lines.server_replay.reads d)
put key.ServerReplayExtra d s = put_by (λ a. record s { server_replay_extra = a }) (lines.server_replay_extra.reads d)
put key.ServerReplayIgnoreContent d s = put_by (λ a. record s { server_replay_ignore_content = a }) (lines.server_replay_ignore_content.reads d)
put key.ServerReplayIgnoreHost d s = put_by (λ a. record s { server_replay_ignore_host = a }) (lines.server_replay_ignore_host.reads d)
put key.ServerReplayIgnoreParams d s = put_by (λ a. record s { server_replay_ignore_params = a }) (lines.server_replay_ignore_params.reads d)
put key.ServerReplayIgnorePort d s = put_by (λ a. record s { server_replay_ignore_port = a }) (lines.server_replay_ignore_port.reads d)
put key.ServerReplayRefresh d s = put_by (λ a. record s { server_replay_refresh = a }) (lines.server_replay_refresh.reads d)
put key.ServerReplayReuse d s = put_by (λ a. record s { server_replay_reuse = a }) (lines.server_replay_reuse.reads d)
put key.ServerReplayUseHeaders d s = put_by (λ a. record s { server_replay_use_headers = a }) (lines.server_replay_use_headers.reads d)
put key.Stickyauth d s = put_by (λ a. record s { stickyauth = a }) (lines.stickyauth.reads d)
put key.Stickycookie d s = put_by (λ a. record s { stickycookie = a }) (lines.stickycookie.reads d)
put key.StreamLargeBodies d s = put_by (λ a. record s { stream_large_bodies = a }) (lines.stream_large_bodies.reads d)

abbrev pub put_at : Option Key → List ℕ → Data → Settings → Result Settings OptionsError
put_at None name d s = Err (error.UnknownOption name)
put_at (Some key) name d s = put key d s

-- the option of that name
abbrev pub put_named : List ℕ → Data → Settings → Result Settings OptionsError
put_named name d s = put_at (key_of name) name d s
