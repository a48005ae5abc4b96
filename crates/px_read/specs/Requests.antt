-- The requests of a stream, one behind the other: each begins where the former ended, and behind the whole ones stands one that
-- is not whole, or none yet, or a refused one. The list ends behind a CONNECT: the bytes behind it are those of a tunnel, or of
-- whatever its answer makes of them (RFC 9110 section 9.3.6).
use Rattle.std.specs.Prelude.{◌≡◌, ◌≢◌, ℕ, zero, suc, ◌+◌, ◌≤◌, Bool, true, false, List, [], ◌∷◌, ◌++◌, length, drop, Option, Some, None}
use Rattle.px_text.specs.Prefix.{IsPrefixOf}
use Rattle.px_read.specs.Heads.{asks_tunnel}
use Rattle.px_read.specs.Items.{Body, Item, complete, request_item}
use Rattle.px_read.specs.Laws.{is_decided}
use Rattle.px_read.specs.declared.head.RequestHead.{RequestHead}

pub record Requests : Type 0 where
  -- the whole ones, in their order
  pub whole : List (Item RequestHead)
  -- the bytes that they used
  pub used : ℕ
  -- what stands behind them; none where the last of them is a CONNECT
  pub last : Option (Item RequestHead)

-- the item is a whole CONNECT
abbrev pub is_connect : Item RequestHead → Bool
is_connect (complete head body trailers used) = asks_tunnel head
is_connect _ = false

abbrev pub behind_whole : Item RequestHead → ℕ → Requests → Requests
behind_whole item used further = record { whole = item ∷ further.whole; used = used + further.used; last = further.last }

-- behind a whole one, which is a CONNECT or is none
abbrev pub requests_on : Bool → Item RequestHead → ℕ → Requests → Requests
requests_on true item used further = record { whole = item ∷ []; used = used; last = None }
requests_on false item used further = behind_whole item used further

abbrev pub requests_behind : Item RequestHead → (List ℕ → Requests) → List ℕ → Requests
requests_behind (complete head body trailers used) further bytes =
    requests_on (asks_tunnel head) (complete head body trailers used) used (further (drop used bytes))
requests_behind item further bytes = record { whole = []; used = 0; last = Some item }

-- with at most so many whole ones
abbrev pub requests_within : ℕ → List ℕ → Requests
requests_within zero bytes = record { whole = []; used = 0; last = Some (request_item bytes) }
requests_within (suc most) bytes = requests_behind (request_item bytes) (requests_within most) bytes

-- all of them: each uses at least one byte, so no more than the bytes can be there
abbrev pub request_list : List ℕ → Requests
request_list bytes = requests_within (length bytes) bytes

-- no request can be added: the last whole one is a CONNECT, or a refused one stands behind them
abbrev pub has_ended : Option (Item RequestHead) → Bool
has_ended None = true
has_ended (Some item) = is_decided item

-- ---- laws

-- each number of requests that is no less than that of the bytes is as good
abbrev pub MostRequestsAreEnough : Type 0
MostRequestsAreEnough = (most : ℕ) (bytes : List ℕ) → length bytes ≤ most → requests_within most bytes ≡ request_list bytes

-- whole requests are only added
abbrev pub WholeRequestsGrow : Type 0
WholeRequestsGrow = (bytes more : List ℕ) → IsPrefixOf (request_list bytes).whole (request_list (bytes ++ more)).whole

-- they use no byte that is not there
abbrev pub WholeRequestsAreWithin : Type 0
WholeRequestsAreWithin = (bytes : List ℕ) → (request_list bytes).used ≤ length bytes

-- what stands behind them is what the bytes that they did not use are, and it is not whole
abbrev pub LastIsLeft : Type 0
LastIsLeft = (bytes : List ℕ) (item : Item RequestHead) → (request_list bytes).last ≡ Some item
    → (request_item (drop (request_list bytes).used bytes) ≡ item)
    × ((head : RequestHead) (body : Body) (trailers : List (List ℕ × List ℕ)) (used : ℕ) → item ≢ complete head body trailers used)

-- a CONNECT is the last of them, and nothing is said of what stands behind it
abbrev pub ConnectIsLast : Type 0
ConnectIsLast = (bytes : List ℕ) (front behind : List (Item RequestHead)) (item : Item RequestHead)
    → (request_list bytes).whole ≡ front ++ item ∷ behind → is_connect item ≡ true
    → (behind ≡ []) × ((request_list bytes).last ≡ None)

-- and only behind one is that so
abbrev pub ListEndsByConnect : Type 0
ListEndsByConnect = (bytes : List ℕ) → (request_list bytes).last ≡ None
    → (front : List (Item RequestHead)) × (item : Item RequestHead) × ((request_list bytes).whole ≡ front ++ item ∷ [])
    × (is_connect item ≡ true)

-- a list that has ended is the same whatever follows: so all that follows is left
abbrev pub EndedListStays : Type 0
EndedListStays = (bytes more : List ℕ) → has_ended (request_list bytes).last ≡ true
    → request_list (bytes ++ more) ≡ request_list bytes
