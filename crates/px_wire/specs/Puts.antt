-- What a flush did, by the calls.
use Rattle.std.specs.Prelude.{◌≡◌, ℕ, ◌<◌, ◌==◌, List, [], ◌++◌, length, Option, Some, None, if◌then◌else◌}
use Rattle.std.specs.List.{flat_map}
use Rattle.px_wire.specs.declared.call.WireCall.{WireCall}
use Rattle.px_wire.specs.declared.call.WireCall.TheVariants as calls
use Rattle.px_wire.specs.declared.endpoint.Flushed.{Flushed}
use Rattle.px_wire.specs.declared.endpoint.Flushed.TheVariants as flushes
use Rattle.px_wire.specs.declared.endpoint.Endpoint.{Endpoint}
use Rattle.px_wire.specs.Calls.{Calls, LastIs}
use Rattle.px_wire.specs.declared.endpoints.Endpoints.{Endpoints}
use Rattle.px_wire.specs.Holds.{endpoint_at}

-- the bytes that the call took for this slot
abbrev pub taken_from : ℕ → WireCall → List ℕ
taken_from slot (calls.Took other bytes) = if other == slot then bytes else []
taken_from slot _ = []

-- the joined bytes that these calls took for this slot
abbrev pub taken_in : ℕ → Calls → List ℕ
taken_in slot list = flat_map (taken_from slot) list

-- more calls were made, which took of these bytes for the slot all but those that are left
pub record Puts (slot : ℕ) (queue left : List ℕ) (old new : Calls) : Type 0 where
  pub more : Calls
  pub grown : new ≡ old ++ more
  pub taken : taken_in slot more ++ left ≡ queue

-- the same, where the calls are told
abbrev pub TookSo : ℕ → List ℕ → List ℕ → Option Calls → Option Calls → Type 0
TookSo slot queue left old None = Unit {0}
TookSo slot queue left None (Some new) = ⊥
TookSo slot queue left (Some old) (Some new) = Puts slot queue left old new

-- All that waited was taken; or a part of it was, and the last call was blocked, or answered that the socket failed.
abbrev pub FlushedSo : Flushed → ℕ → List ℕ → Option Calls → Option Calls → Type 0
FlushedSo flushes.Empty slot queue old new = TookSo slot queue [] old new
FlushedSo flushes.Blocked slot queue old new = (left : List ℕ) × TookSo slot queue left old new × (0 < length left) × LastIs (calls.PutBlocked slot) new
FlushedSo flushes.Broken slot queue old new = (left : List ℕ) × TookSo slot queue left old new × (0 < length left) × LastIs (calls.PutBroke slot) new

abbrev pub queue_in : Option Endpoint → List ℕ
queue_in None = []
queue_in (Some endpoint) = endpoint.queue

-- the bytes that wait for the slot; none where it is not in use
abbrev pub queue_of : ℕ → Endpoints → List ℕ
queue_of slot t = queue_in (endpoint_at t slot)
