-- What the code holds.
use Rattle.std.specs.Prelude.{ℕ, List, map, option_map, string_bytes}
use Rattle.px_exchange.specs.declared.mode.Mode.{Mode}
use Rattle.px_exchange.specs.declared.mode.Mode.TheVariants as modes
use Rattle.px_filter.specs.View.{expression}
use Rattle.px_message.specs.declared.address.Address.{Address}
use Rattle.px_map.specs.View.{block_views, local_views, remote_views}
use Rattle.px_rule.specs.View.{body_views, header_views}
use Rattle.px_options.specs.Mode.{ModeIs, regular, reverse, socks, upstream}
use Rattle.px_options.specs.Options.{Settings}
use Rattle.px_options.specs.Values.{Place}
use Rattle.px_options.specs.declared.file_path.FilePath.{FilePath}
use Rattle.px_options.specs.declared.file_path.FilePaths.{FilePaths}
use Rattle.px_options.specs.declared.options.Options.{Options}

abbrev pub place : Address → Place
place a = (a.host, a.port)

abbrev pub mode_view : Mode → ModeIs
mode_view modes.Regular = regular
mode_view (modes.Reverse a) = reverse (place a)
mode_view (modes.Upstream a) = upstream (place a)
mode_view modes.Socks = socks

abbrev pub path_view : FilePath → List ℕ
path_view p = string_bytes p.text

abbrev pub paths_view : FilePaths → List (List ℕ)
paths_view ps = map path_view ps.items.items

abbrev pub settings : Options → Settings
settings o = record {
  anticache = o.anticache;
  anticomp = o.anticomp;
  block_list = block_views o.block_list;
  client_replay = paths_view o.client_replay;
  control = option_map place o.control;
  events = o.events;
  intercept = option_map expression o.intercept;
  listen = place o.listen;
  map_local = local_views o.map_local;
  map_remote = remote_views o.map_remote;
  mode = mode_view o.mode;
  modify_body = body_views o.modify_body;
  modify_headers = header_views o.modify_headers;
  save_stream_file = option_map path_view o.save_stream_file;
  save_stream_filter = option_map expression o.save_stream_filter;
  server_replay = paths_view o.server_replay;
  server_replay_extra = o.server_replay_extra;
  server_replay_ignore_content = o.server_replay_ignore_content;
  server_replay_ignore_host = o.server_replay_ignore_host;
  server_replay_ignore_params = o.server_replay_ignore_params;
  server_replay_ignore_port = o.server_replay_ignore_port;
  server_replay_refresh = o.server_replay_refresh;
  server_replay_reuse = o.server_replay_reuse;
  server_replay_use_headers = o.server_replay_use_headers;
  stickyauth = option_map expression o.stickyauth;
  stickycookie = option_map expression o.stickycookie;
  stream_large_bodies = o.stream_large_bodies;
}
