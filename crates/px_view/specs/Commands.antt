-- An operator's line as an order.
use Rattle.std.specs.Prelude.{ℕ, ◌^◌, ◌+◌, Bool, ◌&&◌, ◌==◌, nat_lt, if◌then◌else◌, List, [], ◌∷◌, take, drop, bytes_eq, codes, true, false, decimal, position, Option, Some, None, option_map, option_and_then, Result, Ok, Err}
use Rattle.std.specs.List.{slice_split}
use Rattle.px_text.specs.Number.{decimal_value}
use Rattle.px_message.specs.declared.flow.FlowId.{FlowId}
use Rattle.px_draft.specs.declared.edit.Edit.{Edit}
use Rattle.px_draft.specs.Changes.{change_of_words}
use Rattle.px_core.specs.declared.operation.Operation.TheVariants as operation
use Rattle.px_view.specs.declared.command.Order.{Order}
use Rattle.px_view.specs.declared.command.Order.TheVariants as order
use Rattle.px_view.specs.declared.command.CommandError.{CommandError}
use Rattle.px_view.specs.declared.command.CommandError.TheVariants as error

abbrev pub is_blank : ℕ → Bool
is_blank b = b == 32

abbrev pub is_dot : ℕ → Bool
is_dot b = b == 46

-- the number, if it is below 2 ^ 32 and the text is what is written for it: so without leading zeros
abbrev pub written_as : List ℕ → ℕ → Option ℕ
written_as text n = if nat_lt n (2 ^ 32) && bytes_eq (decimal n) text then Some n else None

-- the number, if the text is what is written for it
abbrev pub spelled_as : List ℕ → ℕ → Option ℕ
spelled_as text n = if bytes_eq (decimal n) text then Some n else None

-- the number below 2 ^ 64 whose digits these are, without a sign and without leading zeros: a place in a text
abbrev pub place_number : List ℕ → Option ℕ
place_number text = option_and_then (spelled_as text) (decimal_value text)

-- the number below 2 ^ 32 whose digits these are, without a sign and without leading zeros
abbrev pub small_number : List ℕ → Option ℕ
small_number text = option_and_then (written_as text) (decimal_value text)

abbrev pub id_with : List ℕ → ℕ → Option FlowId
id_with text conv = option_map (λ index. record { conv = conv; index = index }) (small_number text)

-- the numbers before and behind a full stop at that place
abbrev pub id_around : List ℕ → ℕ → Option FlowId
id_around text dot = option_and_then (id_with (drop (dot + 1) text)) (small_number (take dot text))

-- the flow that the text names: two numbers with a full stop between
abbrev pub flow_id : List ℕ → Option FlowId
flow_id text = option_and_then (id_around text) (position is_dot text)

abbrev pub order_of_flow : (FlowId → Order) → Option FlowId → Result Order CommandError
order_of_flow make None = Err error.BadNumber
order_of_flow make (Some id) = Ok (make id)

-- a word that stands alone
abbrev pub lone_order : List ℕ → Result Order CommandError
lone_order word =
    if bytes_eq word (codes "list") then Ok order.List
    else (if bytes_eq word (codes "quit") then Ok order.Quit
    else Err error.UnknownCommand)

-- a word, and the name of an addon or of a flow
abbrev pub pair_order : List ℕ → List ℕ → Result Order CommandError
pair_order word name =
    if bytes_eq word (codes "show") then order_of_flow (λ id. order.Show id) (flow_id name)
    else (if bytes_eq word (codes "resume") then order_of_flow (λ id. order.Act (operation.Resume id)) (flow_id name)
    else (if bytes_eq word (codes "kill") then order_of_flow (λ id. order.Act (operation.Kill id)) (flow_id name)
    else (if bytes_eq word (codes "mark") then order_of_flow (λ id. order.Act (operation.Mark id)) (flow_id name)
    else (if bytes_eq word (codes "drop") then Ok (order.Act (operation.DropAddon name))
    else Err error.UnknownCommand))))

-- the part of the entry of that flow from that place on
abbrev pub part_order : Option FlowId → Option ℕ → Result Order CommandError
part_order (Some id) (Some from) = Ok (order.Entry id from)
part_order (Some id) None = Err error.BadNumber
part_order None from = Err error.BadNumber

-- a word, the name of a flow, and a place
abbrev pub triple_order : List ℕ → List ℕ → List ℕ → Result Order CommandError
triple_order word name place =
    if bytes_eq word (codes "entry") then part_order (flow_id name) (place_number place)
    else Err error.UnknownCommand

-- that change of the draft of that flow; where the words say no change, that comes first
abbrev pub edit_order : Option Edit → Option FlowId → Result Order CommandError
edit_order None flow = Err error.UnknownCommand
edit_order (Some edit) None = Err error.BadNumber
edit_order (Some edit) (Some id) = Ok (order.Act (operation.Edit id edit))

-- a word, the next, and the words behind these; another number of words is no command
abbrev pub plain_order : List ℕ → List ℕ → List (List ℕ) → Result Order CommandError
plain_order word name [] = pair_order word name
plain_order word name (place ∷ []) = triple_order word name place
plain_order word name (place ∷ more ∷ others) = Err error.UnknownCommand

-- where the first word is `edit`, the words behind the flow's name say the change
abbrev pub order_by : Bool → List ℕ → List ℕ → List (List ℕ) → Result Order CommandError
order_by true word name words = edit_order (change_of_words words) (flow_id name)
order_by false word name words = plain_order word name words

-- the order of these words
abbrev pub order_of_words : List (List ℕ) → Result Order CommandError
order_of_words [] = Err error.UnknownCommand
order_of_words (word ∷ []) = lone_order word
order_of_words (word ∷ name ∷ words) = order_by (bytes_eq word (codes "edit")) word name words

-- the order of a line, whose words are what stands between its spaces
abbrev pub order_of : List ℕ → Result Order CommandError
order_of line = order_of_words (slice_split is_blank line)
