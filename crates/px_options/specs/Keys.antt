-- The keys of an options file, and their names.
use Rattle.std.specs.Prelude.{ℕ, List, codes, bytes_eq, Option, Some, None, if◌then◌else◌}
use Rattle.px_options.specs.declared.key.Key.{Key}
use Rattle.px_options.specs.declared.key.Key.TheVariants as key

abbrev pub name_of : Key → List ℕ
name_of key.Anticache = codes "anticache"
name_of key.Anticomp = codes "anticomp"
name_of key.BlockList = codes "block_list"
name_of key.ClientReplay = codes "client_replay"
name_of key.Control = codes "control"
name_of key.Events = codes "events"
name_of key.Intercept = codes "intercept"
name_of key.Listen = codes "listen"
name_of key.MapLocal = codes "map_local"
name_of key.MapRemote = codes "map_remote"
name_of key.Mode = codes "mode"
name_of key.ModifyBody = codes "modify_body"
name_of key.ModifyHeaders = codes "modify_headers"
name_of key.SaveStreamFile = codes "save_stream_file"
name_of key.SaveStreamFilter = codes "save_stream_filter"
name_of key.ServerReplay = codes "server_replay"
name_of key.ServerReplayExtra = codes "server_replay_extra"
name_of key.ServerReplayIgnoreContent = codes "server_replay_ignore_content"
name_of key.ServerReplayIgnoreHost = codes "server_replay_ignore_host"
name_of key.ServerReplayIgnoreParams = codes "server_replay_ignore_params"
name_of key.ServerReplayIgnorePort = codes "server_replay_ignore_port"
name_of key.ServerReplayRefresh = codes "server_replay_refresh"
name_of key.ServerReplayReuse = codes "server_replay_reuse"
name_of key.ServerReplayUseHeaders = codes "server_replay_use_headers"
name_of key.Stickyauth = codes "stickyauth"
name_of key.Stickycookie = codes "stickycookie"
name_of key.StreamLargeBodies = codes "stream_large_bodies"

-- the key, if it has that name, else what others say
abbrev pub or_key : Key → List ℕ → Option Key → Option Key
or_key key name others = if bytes_eq name (name_of key) then Some key else others

-- the key of that name, of those from `stickyauth` on
abbrev pub sticky_key_of : List ℕ → Option Key
sticky_key_of name =
    or_key key.Stickyauth name
    (or_key key.Stickycookie name
    (or_key key.StreamLargeBodies name
    None))

-- the key of that name, of those from `server_replay` on
abbrev pub replay_key_of : List ℕ → Option Key
replay_key_of name =
    or_key key.ServerReplay name
    (or_key key.ServerReplayExtra name
    (or_key key.ServerReplayIgnoreContent name
    (or_key key.ServerReplayIgnoreHost name
    (or_key key.ServerReplayIgnoreParams name
    (or_key key.ServerReplayIgnorePort name
    (or_key key.ServerReplayRefresh name
    (or_key key.ServerReplayReuse name
    (or_key key.ServerReplayUseHeaders name
    (sticky_key_of name)))))))))

-- the key of that name, of those from `listen` on
abbrev pub later_key_of : List ℕ → Option Key
later_key_of name =
    or_key key.Listen name
    (or_key key.MapLocal name
    (or_key key.MapRemote name
    (or_key key.Mode name
    (or_key key.ModifyBody name
    (or_key key.ModifyHeaders name
    (or_key key.SaveStreamFile name
    (or_key key.SaveStreamFilter name
    (replay_key_of name))))))))

-- the key of that name
abbrev pub key_of : List ℕ → Option Key
key_of name =
    or_key key.Anticache name
    (or_key key.Anticomp name
    (or_key key.BlockList name
    (or_key key.ClientReplay name
    (or_key key.Control name
    (or_key key.Events name
    (or_key key.Intercept name
    (later_key_of name)))))))
