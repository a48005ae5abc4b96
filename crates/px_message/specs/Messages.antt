-- The messages that trees have, oldest first.
use Rattle.std.specs.Prelude.{◌≡◌, ℕ, Bool, true, ◌&&◌, Option, Some, None, List, [], ◌∷◌, ◌++◌, length, ◌==◌, nat_eq}
use Rattle.std.specs.Bool.{beq}
use Rattle.std.specs.Ordering.{eq_of_both, on}
use Rattle.std.specs.Cmp.Lexicographic.{pointwise}
use Rattle.px_message.specs.declared.messages.Tree.{Tree}
use Rattle.px_message.specs.declared.messages.Tree.TheVariants.{One, More'}
use Rattle.px_message.specs.declared.messages.Row.{Row}
use Rattle.px_message.specs.declared.messages.Row.TheVariants.{First, Behind'}
use Rattle.px_message.specs.declared.messages.WsRecord.{WsRecord}

-- the messages; of a shared tree, the pattern has the pointer before it
abbrev pub messages_of : Tree → List WsRecord
messages_of (One message) = message ∷ []
messages_of (More' p older q newer newest) = messages_of older ++ (messages_of newer ++ newest ∷ [])

-- in each the older ones are as many as the newer ones
abbrev pub is_even : Tree → Bool
is_even (One message) = true
is_even (More' p older q newer newest) = length (messages_of older) == length (messages_of newer) && is_even older && is_even newer

abbrev pub IsEven : Tree → Type 0
IsEven tree = is_even tree ≡ true

-- those of a row
abbrev pub messages_of_row : Row → List WsRecord
messages_of_row (First count tree) = messages_of tree.value
messages_of_row (Behind' p row count tree) = messages_of_row row ++ messages_of tree.value

-- the number in front of the last tree
abbrev pub last_count_of : Row → ℕ
last_count_of (First count tree) = count
last_count_of (Behind' p row count tree) = count

-- the number in front of each tree is that of its messages
abbrev pub has_right_counts : Row → Bool
has_right_counts (First count tree) = count == length (messages_of tree.value) && is_even tree.value
has_right_counts (Behind' p row count tree) = count == length (messages_of tree.value) && is_even tree.value && has_right_counts row

abbrev pub HasRightCounts : Row → Type 0
HasRightCounts row = has_right_counts row ≡ true

-- the messages of what may stand
abbrev pub messages_in : {A : Type 0} → (A → Row) → Option A → List WsRecord
messages_in row None = []
messages_in row (Some shared) = messages_of_row (row shared)

abbrev pub has_right_counts_in : {A : Type 0} → (A → Row) → Option A → Bool
has_right_counts_in row None = true
has_right_counts_in row (Some shared) = has_right_counts (row shared)

abbrev pub HasRightCountsIn : {A : Type 0} → (A → Row) → Option A → Type 0
HasRightCountsIn row shared = has_right_counts_in row shared ≡ true

-- the two messages are equal
abbrev pub message_eq : WsRecord → WsRecord → Bool
message_eq =
    eq_of_both (on (λ m. m.from_client) beq) (eq_of_both (on (λ m. m.text) beq) (eq_of_both (on (λ m. m.payload) (pointwise nat_eq)) (eq_of_both (on (λ m. m.moment) nat_eq) (on (λ m. m.dropped) beq))))
