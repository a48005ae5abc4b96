-- The lines and notes of a run, but for the lines of flows.
use Rattle.std.specs.Prelude.{ℕ, ◌==◌, if◌then◌else◌, List, [], ◌∷◌, ◌++◌, codes, decimal}
use Rattle.px_message.specs.Url.{port_suffix}
use Rattle.px_options.specs.Mode.{ModeIs, regular, reverse, socks, upstream}
use Rattle.px_options.specs.Values.{Place}

-- where the words have no form
abbrev pub usage : List ℕ
usage = codes "usage: mitm serve OPTIONS | flows FILE FILTER | convert FILE OUT | har FILE FILTER | pick FILE FILTER OUT | gen N\n"

-- the line of a status with which a run that served ends, or none
unfoldable pub line_of : ℕ → List ℕ
line_of status =
    if status == 5 then codes "network fault\n"
    else (if status == 6 then codes "event budget spent\n" else [])

-- where clients connect
unfoldable pub proxy_text : List ℕ → ℕ → List ℕ
proxy_text host port = codes "listening at " ++ (host ++ (58 ∷ decimal port))

-- to which server their requests go
unfoldable pub server_text : List ℕ → ℕ → List ℕ
server_text host port = codes ", for http://" ++ (host ++ (port_suffix port ++ (10 ∷ [])))

-- through which proxy they go
unfoldable pub upstream_text : List ℕ → ℕ → List ℕ
upstream_text host port = codes ", through http://" ++ (host ++ (port_suffix port ++ (10 ∷ [])))

-- where the clients say so themselves
unfoldable pub socks_text : List ℕ
socks_text = codes ", for clients of SOCKS5\n"

-- where requests go in a mode, and the line's end
abbrev pub mode_text : ModeIs → List ℕ
mode_text regular = 10 ∷ []
mode_text (reverse server) = server_text server.0 server.1
mode_text (upstream proxy) = upstream_text proxy.0 proxy.1
mode_text socks = socks_text

-- the note at a run's start
abbrev pub start_note : Place → ModeIs → List ℕ
start_note proxy mode = proxy_text proxy.0 proxy.1 ++ mode_text mode
