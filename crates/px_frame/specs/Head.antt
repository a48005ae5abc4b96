-- The head of a frame (RFC 6455 section 5.2): byte 0 has FIN, three reserved bits and the opcode, byte 1 the mask bit and 7 bits of the
-- length. Where those are 126 or 127, the length stands in the next 2 or 8 bytes, the most significant first. The key of a masked frame
-- follows. Faults are judged in this order, each as soon as its byte is heard: those of byte 0, those of byte 1, and those of the length
-- at its last byte.
use Rattle.std.specs.Prelude.{ℕ, ◌+◌, ◌/◌, ◌%◌, ◌^◌, Bool, true, false, ◌&&◌, ◌||◌, ◌==◌, nat_lt, nat_le, if◌then◌else◌, List, [], ◌∷◌, length, take, drop, Option, Some, None}
use Rattle.std.specs.Int.{from_be_bytes, w16, w64}
use Rattle.px_frame.specs.declared.fault.FrameFault.{FrameFault}
use Rattle.px_frame.specs.declared.fault.FrameFault.TheVariants.{Reserved, BadOpcode, SplitControl, LoneContinuation, NestedMessage, WrongMask, LongControl, NotShortest, HighBit, TooBig}
use Rattle.px_frame.specs.declared.head.HeadStep.{HeadStep}
use Rattle.px_frame.specs.declared.head.HeadStep.TheVariants.{More, Head, Fault}

-- ---- byte 0

abbrev pub is_final : ℕ → Bool
is_final first = nat_le 128 first

abbrev pub reserved_bits : ℕ → ℕ
reserved_bits first = first / 16 % 8

abbrev pub opcode_of : ℕ → ℕ
opcode_of first = first % 16

-- 0 continues a message, 1 is text, 2 is binary, 8 is Close, 9 is ping, 10 is pong (section 11.8)
abbrev pub is_opcode : ℕ → Bool
is_opcode opcode = nat_le opcode 2 || (nat_le 8 opcode && nat_le opcode 10)

-- Close, ping and pong may stand between the frames of a message (section 5.5)
abbrev pub is_control : ℕ → Bool
is_control opcode = nat_le 8 opcode

-- a frame of data continues a message that has begun, or begins one where none has (section 5.4)
abbrev pub data_fault : Option ℕ → ℕ → Option FrameFault
data_fault None opcode = if opcode == 0 then Some LoneContinuation else None
data_fault (Some so_far) opcode = if opcode == 0 then None else Some NestedMessage

-- a control frame is not cut (section 5.4)
abbrev pub opcode_fault : Option ℕ → ℕ → Option FrameFault
opcode_fault begun first =
    if is_control (opcode_of first) then (if is_final first then None else Some SplitControl)
    else data_fault begun (opcode_of first)

-- the fault of byte 0; `begun` is the payload so far of a message that has begun
abbrev pub first_fault : Option ℕ → ℕ → Option FrameFault
first_fault begun first =
    if nat_lt 0 (reserved_bits first) then Some Reserved
    else (if is_opcode (opcode_of first) then opcode_fault begun first else Some BadOpcode)

-- ---- byte 1

abbrev pub is_masked : ℕ → Bool
is_masked second = nat_le 128 second

abbrev pub seven_bits : ℕ → ℕ
seven_bits second = second % 128

-- a control frame has at most 125 bytes of payload (section 5.5), so its length stands in 7 bits
abbrev pub long_fault : ℕ → ℕ → Option FrameFault
long_fault first second =
    if is_control (opcode_of first) && nat_lt 125 (seven_bits second) then Some LongControl else None

-- the frames of a client are masked, those of a server are not (section 5.1)
abbrev pub mask_fault : Bool → ℕ → Option FrameFault
mask_fault true second = if is_masked second then None else Some WrongMask
mask_fault false second = if is_masked second then Some WrongMask else None

abbrev pub or_else : Option FrameFault → Option FrameFault → Option FrameFault
or_else None other = other
or_else (Some fault) other = Some fault

-- the fault of byte 1, in a frame with this byte 0
abbrev pub second_fault : Bool → ℕ → ℕ → Option FrameFault
second_fault masked first second = or_else (mask_fault masked second) (long_fault first second)

-- ---- the length

-- how many bytes behind byte 1 state the length
abbrev pub length_bytes : ℕ → ℕ
length_bytes seven = if seven == 126 then 2 else (if seven == 127 then 8 else 0)

-- the length that the 7 bits state, or so many bytes behind byte 1
abbrev pub stated_length : ℕ → List ℕ → ℕ
stated_length seven rest =
    if seven == 126 then from_be_bytes w16 rest else (if seven == 127 then from_be_bytes w64 rest else seven)

-- the least length that is stated in such a form: the shortest form is used
abbrev pub least_stated : ℕ → ℕ
least_stated seven = if seven == 126 then 126 else (if seven == 127 then 65536 else 0)

-- the payload so far of a message, 0 where none has begun
abbrev pub so_far : Option ℕ → ℕ
so_far None = 0
so_far (Some count) = count

-- the most bytes of a message
abbrev pub most : ℕ
most = 16777216

-- whether the length, with the payload so far, is more than a message may have, or no message of the flow may be completed any more
abbrev pub is_too_big : Option ℕ → Bool → ℕ → Bool
is_too_big begun last stated = last || nat_lt most (so_far begun + stated)

-- the fault of the length
abbrev pub length_fault : Option ℕ → Bool → ℕ → ℕ → ℕ → Option FrameFault
length_fault begun last first seven stated =
    if nat_lt stated (least_stated seven) then Some NotShortest
    else (if nat_le (2 ^ 63) stated then Some HighBit
    else (if is_control (opcode_of first) then None else (if is_too_big begun last stated then Some TooBig else None)))

-- ---- the head

-- a fault, or the step where there is none
abbrev pub unless : Option FrameFault → HeadStep → HeadStep
unless None step = step
unless (Some fault) step = Fault fault

abbrev pub head_step : ℕ → ℕ → Option (List ℕ) → ℕ → HeadStep
head_step first stated key size =
    Head (record { fin = is_final first; opcode = opcode_of first; length = stated; key = key; size = size })

-- behind the length: the key
abbrev pub key_step : Bool → ℕ → ℕ → ℕ → List ℕ → HeadStep
key_step false first stated size rest = head_step first stated None size
key_step true first stated size rest =
    if nat_le 4 (length rest) then head_step first stated (Some (take 4 rest)) (size + 4) else More

-- behind byte 1, whose 7 bits these are: the length
abbrev pub length_step : Bool → Option ℕ → Bool → ℕ → ℕ → List ℕ → HeadStep
length_step masked begun last first seven rest =
    if nat_le (length_bytes seven) (length rest)
    then unless (length_fault begun last first seven (stated_length seven rest))
    (key_step masked first (stated_length seven rest) (2 + length_bytes seven) (drop (length_bytes seven) rest))
    else More

-- behind byte 0: byte 1
abbrev pub second_step : Bool → Option ℕ → Bool → ℕ → List ℕ → HeadStep
second_step masked begun last first [] = More
second_step masked begun last first (second ∷ rest) =
    unless (second_fault masked first second) (length_step masked begun last first (seven_bits second) rest)

-- what stands at the front of the bytes: no whole head yet, a head, or a fault. `masked` says whether frames are to be masked, `begun` is
-- the payload so far of a message that has begun, and `last` says that no message of the flow may be completed any more
abbrev pub head_of : Bool → Option ℕ → Bool → List ℕ → HeadStep
head_of masked begun last [] = More
head_of masked begun last (first ∷ rest) = unless (first_fault begun first) (second_step masked begun last first rest)

-- whether the length of the frame at the front was heard whole
abbrev pub has_length_behind : List ℕ → Bool
has_length_behind [] = false
has_length_behind (second ∷ rest) = nat_le (length_bytes (seven_bits second)) (length rest)

abbrev pub has_length : List ℕ → Bool
has_length [] = false
has_length (first ∷ rest) = has_length_behind rest
