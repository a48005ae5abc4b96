-- Requests: what the bytes of an address tell, how a whole request is judged, and that what is decided stays.
use Rattle.std.proofs.Common.{◌≡◌, ◌≢◌, ◌∙◌, ℕ, zero, suc, ◌+◌, ◌<◌, ◌≤◌, ◌⊎◌, Bool, true, false, List, [], ◌∷◌, ◌++◌, length, take, drop, inl, inr, refl, sym, ap, ap₂, subst, arith, add-zero, append-nil, append_assoc}
use Rattle.std.specs.Prelude.{◌==◌, if◌then◌else◌, Result, Ok, Err, IfOk}
use Rattle.std.proofs.lemmas.Bool.{ne_eqb}
use Rattle.px_message.specs.Host.{IsHost}
use Rattle.px_message.specs.TellHost.{tell_host}
use Rattle.px_socks.specs.declared.request.SocksStep.{SocksStep}
use Rattle.px_socks.specs.Request.{Heard, heard, more, connect, refused, Kind, ipv4, domain, ipv6, host_text, pair, judged, low_step, port_step, address_step, length_step, type_step, reserved_step, command_step, request_of}

-- the address is there
pub address_whole : (kind : Kind) (left : ℕ) (came : List ℕ) (used : ℕ) (bytes : List ℕ) → left ≤ length bytes
    → address_step kind left came used bytes ≡ port_step (host_text kind (came ++ take left bytes)) (used + left) (drop left bytes)
unfolding address_step
address_whole kind zero came used bytes h =
    ap₂ (λ (c : List ℕ) (n : ℕ). port_step (host_text kind c) n bytes) (sym (append-nil came)) (sym (add-zero used))
address_whole kind (suc left) came used [] h = absurd (omega arith)
address_whole kind (suc left) came used (byte ∷ rest) h =
    let count : used + 1 + left ≡ used + suc left = omega arith in
    address_whole kind left (came ++ byte ∷ []) (used + 1) rest (omega arith)
    ∙ ap₂ (λ (c : List ℕ) (n : ℕ). port_step (host_text kind c) n (drop left rest)) (append_assoc came (byte ∷ []) (take left rest)) count

-- a part of it is there
pub address_short : (kind : Kind) (left : ℕ) (came : List ℕ) (used : ℕ) (bytes : List ℕ) → length bytes < left
    → address_step kind left came used bytes ≡ more
unfolding address_step
address_short kind zero came used bytes h = absurd (omega arith)
address_short kind (suc left) came used [] h = refl
address_short kind (suc left) came used (byte ∷ rest) h = address_short kind left (came ++ byte ∷ []) (used + 1) rest (omega arith)

-- ---- a whole request

pub judged_host : (host : List ℕ) (told : IsHost host ⊎ (IsHost host → ⊥)) (port used : ℕ) → IsHost host → port ≢ 0
    → judged host told port used ≡ connect host port used
unfolding judged
judged_host host (inl _) port used valid some = ap (λ (b : Bool). if b then refused 1 else connect host port used) (ne_eqb port 0 some)
judged_host host (inr none) port used valid some = absurd (none valid)

pub judged_none : (host : List ℕ) (told : IsHost host ⊎ (IsHost host → ⊥)) (port used : ℕ) → ¬ (IsHost host) → judged host told port used ≡ refused 1
unfolding judged
judged_none host (inl valid) port used none = absurd (none valid)
judged_none host (inr _) port used none = refl

pub judged_zero : (host : List ℕ) (told : IsHost host ⊎ (IsHost host → ⊥)) (used : ℕ) → judged host told 0 used ≡ refused 1
unfolding judged
judged_zero host (inl _) used = refl
judged_zero host (inr _) used = refl

pub refused_by_port : (host : List ℕ) (port used : ℕ) → port ≡ 0 → refused 1 ≡ judged host (tell_host host) port used
refused_by_port host port used zeros =
    sym (ap (λ (p : ℕ). judged host (tell_host host) p used) zeros ∙ judged_zero host (tell_host host) used)

pub refused_by_host : (host : List ℕ) (port used : ℕ) → ¬ (IsHost host) → refused 1 ≡ judged host (tell_host host) port used
refused_by_host host port used none = sym (judged_none host (tell_host host) port used none)

pub connects : (host made : List ℕ) (port used : ℕ) → made ≡ host → IsHost host → port ≢ 0 → connect made port used ≡ judged host (tell_host host) port used
connects host made port used same valid some =
    ap (λ (h : List ℕ). connect h port used) same ∙ sym (judged_host host (tell_host host) port used valid some)

-- what is read behind an address is what the address and what follows it are
pub address_said : {E : Type 0} (result : Result SocksStep E) (kind : Kind) (left used count : ℕ) (bytes host part rest : List ℕ)
    → left ≤ length bytes → host ≡ host_text kind part → part ≡ take left bytes → rest ≡ drop left bytes → count ≡ used + left
    → IfOk result (λ step. heard step ≡ port_step host count rest)
    → IfOk result (λ step. heard step ≡ address_step kind left [] used bytes)
address_said (Ok step) kind left used count bytes host part rest there text front behind sum said =
    said
    ∙ ap (λ (h : List ℕ). port_step h count rest) (text ∙ ap (λ (p : List ℕ). host_text kind p) front)
    ∙ ap₂ (λ (n : ℕ) (r : List ℕ). port_step (host_text kind (take left bytes)) n r) sum behind
    ∙ sym (address_whole kind left [] used bytes there)
address_said (Err _) kind left used count bytes host part rest there text front behind sum said = tt

-- ---- what is decided stays

-- what was heard over so many bytes, and over more
abbrev Keeps : ℕ → Heard → Heard → Type 0
Keeps count more later = Unit {0}
Keeps count (connect host port used) later = (later ≡ connect host port used) × (used ≤ count)
Keeps count (refused code) later = later ≡ refused code

keeps_port_by : (b : Bool) (host : List ℕ) (port used count : ℕ) → used ≤ count
    → Keeps count (if b then refused 1 else connect host port used) (if b then refused 1 else connect host port used)
keeps_port_by true host port used count h = refl
keeps_port_by false host port used count h = (refl, h)

keeps_judged : (host : List ℕ) (told : IsHost host ⊎ (IsHost host → ⊥)) (port used count : ℕ) → used ≤ count
    → Keeps count (judged host told port used) (judged host told port used)
unfolding judged
keeps_judged host (inl _) port used count h = keeps_port_by (port == 0) host port used count h
keeps_judged host (inr _) port used count h = refl

keeps_low : (host : List ℕ) (high used : ℕ) (bytes later : List ℕ) (count : ℕ) → used + length bytes ≤ count
    → Keeps count (low_step host high used bytes) (low_step host high used (bytes ++ later))
keeps_low host high used [] later count h = tt
keeps_low host high used (low ∷ rest) later count h = keeps_judged host (tell_host host) (pair high low) (used + 1) count (omega arith)

keeps_port : (host : List ℕ) (used : ℕ) (bytes later : List ℕ) (count : ℕ) → used + length bytes ≤ count
    → Keeps count (port_step host used bytes) (port_step host used (bytes ++ later))
keeps_port host used [] later count h = tt
keeps_port host used (high ∷ rest) later count h = keeps_low host high (used + 1) rest later count (omega arith)

keeps_address : (kind : Kind) (left : ℕ) (came : List ℕ) (used : ℕ) (bytes later : List ℕ) (count : ℕ) → used + length bytes ≤ count
    → Keeps count (address_step kind left came used bytes) (address_step kind left came used (bytes ++ later))
unfolding address_step
keeps_address kind zero came used bytes later count h = keeps_port (host_text kind came) used bytes later count h
keeps_address kind (suc left) came used [] later count h = tt
keeps_address kind (suc left) came used (byte ∷ rest) later count h =
    keeps_address kind left (came ++ byte ∷ []) (used + 1) rest later count (omega arith)

keeps_length : (bytes later : List ℕ) (count : ℕ) → 4 + length bytes ≤ count → Keeps count (length_step bytes) (length_step (bytes ++ later))
keeps_length [] later count h = tt
keeps_length (size ∷ rest) later count h = keeps_address domain size [] 5 rest later count (omega arith)

keeps_if : (b : Bool) (now later : Heard) (code count : ℕ) → Keeps count now later
    → Keeps count (if b then now else refused code) (if b then later else refused code)
keeps_if true now later code count h = h
keeps_if false now later code count h = refl

keeps_type_by : (p q r : Bool) (rest later : List ℕ) (count : ℕ) → 4 + length rest ≤ count
    → Keeps count (if p then address_step ipv4 4 [] 4 rest
    else (if q then length_step rest else (if r then address_step ipv6 16 [] 4 rest else refused 8)))
    (if p then address_step ipv4 4 [] 4 (rest ++ later)
    else (if q then length_step (rest ++ later) else (if r then address_step ipv6 16 [] 4 (rest ++ later) else refused 8)))
keeps_type_by true q r rest later count h = keeps_address ipv4 4 [] 4 rest later count h
keeps_type_by false true r rest later count h = keeps_length rest later count h
keeps_type_by false false true rest later count h = keeps_address ipv6 16 [] 4 rest later count h
keeps_type_by false false false rest later count h = refl

keeps_type : (bytes later : List ℕ) (count : ℕ) → 3 + length bytes ≤ count → Keeps count (type_step bytes) (type_step (bytes ++ later))
keeps_type [] later count h = tt
keeps_type (type ∷ rest) later count h = keeps_type_by (type == 1) (type == 3) (type == 4) rest later count (omega arith)

keeps_reserved : (bytes later : List ℕ) (count : ℕ) → 2 + length bytes ≤ count → Keeps count (reserved_step bytes) (reserved_step (bytes ++ later))
keeps_reserved [] later count h = tt
keeps_reserved (reserved ∷ rest) later count h =
    keeps_if (reserved == 0) (type_step rest) (type_step (rest ++ later)) 1 count (keeps_type rest later count (omega arith))

keeps_command : (bytes later : List ℕ) (count : ℕ) → 1 + length bytes ≤ count → Keeps count (command_step bytes) (command_step (bytes ++ later))
keeps_command [] later count h = tt
keeps_command (command ∷ rest) later count h =
    keeps_if (command == 1) (reserved_step rest) (reserved_step (rest ++ later)) 7 count (keeps_reserved rest later count (omega arith))

keeps : (bytes later : List ℕ) → Keeps (length bytes) (request_of bytes) (request_of (bytes ++ later))
keeps [] later = tt
keeps (version ∷ rest) later =
    keeps_if (version == 5) (command_step rest) (command_step (rest ++ later)) 1 (length (version ∷ rest))
    (keeps_command rest later (length (version ∷ rest)) (omega arith))

stays : (count : ℕ) (now later : Heard) → Keeps count now later → now ≢ more → later ≡ now
stays count more later h some = absurd (some refl)
stays count (connect host port used) later h some = h.0
stays count (refused code) later h some = h

waits : (count : ℕ) (now later : Heard) → Keeps count now later → later ≡ more → now ≡ more
waits count more later h e = refl
waits count (connect host port used) later h e = sym h.0 ∙ e
waits count (refused code) later h e = sym h ∙ e

pub requests_stay : (bytes later : List ℕ) → request_of bytes ≢ more → request_of (bytes ++ later) ≡ request_of bytes
requests_stay bytes later some = stays (length bytes) (request_of bytes) (request_of (bytes ++ later)) (keeps bytes later) some

pub requests_wait : (bytes later : List ℕ) → request_of (bytes ++ later) ≡ more → request_of bytes ≡ more
requests_wait bytes later e = waits (length bytes) (request_of bytes) (request_of (bytes ++ later)) (keeps bytes later) e

pub requests_within : (bytes host : List ℕ) (port used : ℕ) → request_of bytes ≡ connect host port used → used ≤ length bytes
requests_within bytes host port used e =
    (subst (λ (now : Heard). Keeps (length bytes) now (request_of (bytes ++ []))) e (keeps bytes [])).1
