-- The dictionary of a flow, in its two forms.
use Rattle.std.specs.Prelude.{◌≡◌, ◌⊎◌, List, [], ◌∷◌, codes, Bool, false, ◌||◌, bytes_eq, if◌then◌else◌, Option, Some, None, ℕ}
use Rattle.px_message.specs.declared.address.Address.{Address}
use Rattle.px_message.specs.declared.flow.Flow.{Flow}
use Rattle.px_message.specs.declared.flow.FlowError.{FlowError}
use Rattle.px_message.specs.declared.flow.FlowId.{FlowId}
use Rattle.px_message.specs.declared.flow.Replayed.{Replayed}
use Rattle.px_message.specs.declared.response.Response.{Response}
use Rattle.px_tnet.specs.Tree.{Tree, dict, Pairs, no_pair, pair}
use Rattle.px_flowfile.specs.Answered.{response_table}
use Rattle.px_flowfile.specs.Asked.{request_table}
use Rattle.px_flowfile.specs.Ends.{end_table, error_table}
use Rattle.px_flowfile.specs.Keys.{name_of}
use Rattle.px_flowfile.specs.Kind.{or_null}
use Rattle.px_flowfile.specs.Simple.{flow_id, form, replay, truth, word}
use Rattle.px_flowfile.specs.Sockets.{socket}
use Rattle.px_flowfile.specs.Table.{IsGoodBy, IsRefusedBy, Line, Meets, ReadsAt, RefusesAt, dictionary, line, lines}
use Rattle.px_flowfile.specs.declared.asked.Asked.{Asked}
use Rattle.px_flowfile.specs.declared.answered.Answered.{Answered}
use Rattle.px_flowfile.specs.declared.error.FlowFileError.{FlowFileError}
use Rattle.px_flowfile.specs.declared.error.FlowFileError.TheVariants as error
use Rattle.px_flowfile.specs.declared.form.Form.{Form}
use Rattle.px_flowfile.specs.declared.form.Form.TheVariants as forms
use Rattle.px_flowfile.specs.declared.key.Key.TheVariants as key
use Rattle.px_flowfile.specs.declared.socket.Socket.{Socket}

-- the request with its moments
abbrev pub asked : Flow → Asked
asked f = record { request = f.request; start = f.times.request_start; end = f.times.request_end }

abbrev pub answered_by : Option ℕ → Option ℕ → Option Response → Option Answered
answered_by start end None = None
answered_by start end (Some r) = Some (record { response = r; start = start; end = end })

-- the response with its moments, where there is one
abbrev pub answered : Flow → Option Answered
answered f = answered_by f.times.response_start f.times.response_end f.response

-- whether it was upgraded to a WebSocket, with its messages
abbrev pub socket_of : Flow → Socket
socket_of f = record { websocket = f.websocket; messages = f.messages }

-- the lines behind the version: of the two forms only the last differs
abbrev pub lines_of : Form → List (Line Flow)
lines_of of_form =
    line key.Type (word (codes "http")) (λ _. tt)
    ∷ line key.Id flow_id (λ f. f.id)
    ∷ line key.ClientConn (or_null (dictionary end_table)) (λ f. f.client)
    ∷ line key.ServerConn (or_null (dictionary end_table)) (λ f. f.server)
    ∷ line key.Request (dictionary request_table) asked
    ∷ line key.Response (or_null (dictionary response_table)) answered
    ∷ line key.Error (or_null (dictionary error_table)) (λ f. f.error)
    ∷ line key.IsReplay replay (λ f. f.replayed)
    ∷ line key.Marked truth (λ f. f.marked)
    ∷ line key.Websocket (socket of_form) socket_of
    ∷ []

abbrev pub flow_table : Form → List (Line Flow)
flow_table of_form = line key.Version form (λ _. of_form) ∷ lines_of of_form

-- the parts of a flow in the order of the lines behind the version
abbrev pub FlowParts : Type 0
FlowParts =
    Unit {0} × (FlowId × (Option Address × (Option Address × (Asked × (Option Answered × (Option FlowError
    × (Replayed × (Bool × (Socket × Unit {0})))))))))

abbrev pub flow_parts : Flow → FlowParts
flow_parts f =
    (tt, (f.id, (f.client, (f.server, (asked f, (answered f, (f.error, (f.replayed, (f.marked, (socket_of f, tt))))))))))

-- the name is one of a line of the table
abbrev pub is_known_in : {S : Type 0} → List (Line S) → List ℕ → Bool
is_known_in [] name = false
is_known_in (l ∷ table) name = bytes_eq name (name_of l.key) || is_known_in table name

-- the name is one of a flow's keys, which are the same in both forms
abbrev pub is_known : List ℕ → Bool
is_known name = is_known_in (flow_table forms.Second) name

-- the pairs with other keys, in their order
abbrev pub unknown : Pairs → Pairs
unknown no_pair = no_pair
unknown (pair key value pairs) = if is_known key.bytes then unknown pairs else (pair key value (unknown pairs))

-- what no key tells is not there: the message of a WebSocket's hook, and moments of a response that is not there
pub record IsBare (f : Flow) : Type 0 where
  pub no_message : f.message ≡ None
  pub no_start : f.response ≡ None → f.times.response_start ≡ None
  pub no_end : f.response ≡ None → f.times.response_end ≡ None

-- the tree that a form has of a flow, with other pairs behind it
abbrev pub tree_by : Form → Flow → Pairs → Tree
tree_by of_form f others = dict (lines (flow_table of_form) f others)

-- the tree that is written of a flow: version 2
abbrev pub flow_tree : Flow → Pairs → Tree
flow_tree = tree_by forms.Second

-- the tree that version 1 has of a flow
abbrev pub first_tree : Flow → Pairs → Tree
first_tree = tree_by forms.First

-- the tree is loaded as the flow, and the other pairs that it has: by the table of the form that it tells
abbrev pub Loads : Tree → Flow → Pairs → Type 0
Loads t f others =
    (pairs : Pairs) × (of_form : Form) × (t ≡ dict pairs) × Meets (flow_table of_form) pairs f × IsBare f × (others ≡ unknown pairs)

-- why pairs are loaded as no flow: the version is missing or refused, or else the first line of its form's that is missing or refused
abbrev pub IsRefusedFlow : Pairs → FlowFileError → Type 0
IsRefusedFlow pairs e =
    RefusesAt key.Version form pairs e
    ⊎ ((of_form : Form) × ReadsAt key.Version form pairs of_form × IsRefusedBy (lines_of of_form) pairs e)

-- why a tree is loaded as no flow
abbrev pub IsNoFlow : Tree → FlowFileError → Type 0
IsNoFlow t e =
    ((e ≡ error.WrongKind key.Flow) × ((pairs : Pairs) → ¬ (t ≡ dict pairs)))
    ⊎ ((pairs : Pairs) × (t ≡ dict pairs) × IsRefusedFlow pairs e)

-- a flow that is loaded as itself from its tree of a form: its parts are what their types say, its moments are below 2^63, a body that
-- passed by is empty, no messages are there that the form does not tell, and it is bare
pub record IsLoadableBy (of_form : Form) (f : Flow) : Type 0 where
  pub bare : IsBare f
  pub good : IsGoodBy (flow_table of_form) f

-- a flow that is loaded as itself from what is written of it
abbrev pub IsLoadable : Flow → Type 0
IsLoadable = IsLoadableBy forms.Second
