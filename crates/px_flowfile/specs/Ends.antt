-- The dictionaries of a client or a server, and of an error.
use Rattle.std.specs.Prelude.{ℕ, ℤ, pos, List, [], ◌∷◌}
use Rattle.px_message.specs.Host.{IsHost}
use Rattle.px_message.specs.declared.address.Address.{Address}
use Rattle.px_message.specs.declared.flow.FlowError.{FlowError}
use Rattle.px_tnet.specs.Tree.{Tree, blob, int, list, no_tree, tree}
use Rattle.px_flowfile.specs.Kind.{Kind, shown}
use Rattle.px_flowfile.specs.Simple.{IsPort, bytes, moment}
use Rattle.px_flowfile.specs.Table.{Line, line}
use Rattle.px_flowfile.specs.declared.key.Key.TheVariants as key

-- a list of a host's bytes and a number
abbrev pub place_tree : List ℕ × ℤ → Tree
place_tree p = list (tree (blob p.0) (tree (int p.1) no_tree))

abbrev pub IsPlace : Address → Type 0
IsPlace a = IsHost a.host × IsPort a.port

-- a host and a port
abbrev pub place : Kind Address
place = shown place_tree (λ a. (a.host, pos a.port)) IsPlace

-- where a client or a server is
abbrev pub end_table : List (Line Address)
end_table =
    line key.Address place (λ a. a)
    ∷ []

-- what ended a flow early
abbrev pub error_table : List (Line FlowError)
error_table =
    line key.Msg bytes (λ e. e.msg)
    ∷ line key.Timestamp moment (λ e. e.moment)
    ∷ []
