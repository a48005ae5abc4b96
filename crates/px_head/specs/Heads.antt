-- Which blocks are heads: those that the grammar of `httparse` reads whole (RFC 9112 sections 2 to 5), with at most
-- 100 fields. Each decision gives a head with its proof, or a proof that there is none; a block has at most one head,
-- so the type of a decision is all its meaning.
use Rattle.std.proofs.Common.{inl, inr, refl, sym, subst}
use Rattle.std.specs.Prelude.{◌≡◌, ℕ, ◌≤◌, ◌⊎◌, List, [], length, map, Option, Some, None}
use Rattle.httparse.specs.Grammar.{Field, LineEnd, RequestHead, ResponseHead, ReadsRequest, ReadsResponse, ReadsSection, print_version, reason_phrase, status_code}
use Rattle.httparse.specs.Spans.{name_and_value}
use Rattle.httparse.specs.Pieces.{Begins, Then, Section, RequestStart, ResponseStart}
use Rattle.httparse.proofs.PieceLemmas.{Then_deterministic, Section_deterministic, RequestStart_deterministic, ResponseStart_deterministic}
use Rattle.httparse.proofs.GrammarLemmas.{RequestTree, request_tree, request_head, request_pieces, request_from_pieces, ResponseTree, response_head, response_pieces, response_from_pieces}
use Rattle.px_head.specs.declared.raw.RawHead.{RawHead}
use Rattle.px_head.specs.Tell.{Decided, CanTell, decided_both, decided_le, decided_nil, Then_tell, Where, Where_tell}
use Rattle.px_head.specs.TellPieces.{Section_tell, RequestStart_tell, ResponseStart_tell}

-- the block is the head h of a request
abbrev pub IsRequest : List ℕ → RequestHead → Type 0
IsRequest block h = ReadsRequest block h [] × (length h.fields ≤ 100)

-- the block is the head h of a response
abbrev pub IsResponse : List ℕ → ResponseHead → Type 0
IsResponse block h = ReadsResponse block h [] × (length h.fields ≤ 100) × (100 ≤ status_code h)

-- the block is these fields and their last line end
abbrev pub IsTrailers : List ℕ → List Field × LineEnd → Type 0
IsTrailers block s = ReadsSection block s.0 s.1 [] × (length s.0 ≤ 100)

-- method, target and version
abbrev pub raw_request : RequestHead → RawHead
raw_request h = record {
  first = h.method;
  second = h.target;
  third = print_version h.minor;
  pairs = map name_and_value h.fields;
}

-- version, the three digits of the code, and the reason, which is empty where the line has none
abbrev pub raw_response : ResponseHead → RawHead
raw_response h = record {
  first = print_version h.minor;
  second = h.digits;
  third = reason_phrase h.reason;
  pairs = map name_and_value h.fields;
}

-- the fields alone
abbrev pub raw_trailers : List Field × LineEnd → RawHead
raw_trailers s = record { first = []; second = []; third = []; pairs = map name_and_value s.0 }

-- ---- the decisions

abbrev RequestEnds : RequestTree → List ℕ → Type 0
RequestEnds t rest = (rest ≡ []) × (length t.1.0 ≤ 100)

request_whole : CanTell (Where (Then RequestStart Section) RequestEnds)
request_whole = Where_tell (Then_deterministic RequestStart_deterministic Section_deterministic)
    (Then_tell RequestStart_deterministic RequestStart_tell Section_tell)
    (λ t rest. decided_both (decided_nil rest) (decided_le (length t.1.0) 100))

request_by : (block : List ℕ) → Decided (Begins (Where (Then RequestStart Section) RequestEnds) block)
    → ((h : RequestHead) × IsRequest block h) ⊎ ((h : RequestHead) → IsRequest block h → ⊥)
request_by block (inl w) = inl (
  request_head w.0,
  (
    subst (λ (r : List ℕ). ReadsRequest block (request_head w.0) r) w.2.1.0 (request_from_pieces block w.0 w.1 w.2.0),
    w.2.1.1,
  ),
)
request_by block (inr none) = inr (λ h x. none (request_tree h, [], (request_pieces block h [] x.0, (refl, x.1))))

-- the head of a request that the block is, or that it is none
pub tell_request : (block : List ℕ)
    → ((h : RequestHead) × IsRequest block h) ⊎ ((h : RequestHead) → IsRequest block h → ⊥)
tell_request block = request_by block (request_whole.tell block)

abbrev ResponseEnds : ResponseTree → List ℕ → Type 0
ResponseEnds t rest = (rest ≡ []) × ((length t.1.0 ≤ 100) × (100 ≤ status_code (response_head t)))

response_whole : CanTell (Where (Then ResponseStart Section) ResponseEnds)
response_whole = Where_tell (Then_deterministic ResponseStart_deterministic Section_deterministic)
    (Then_tell ResponseStart_deterministic ResponseStart_tell Section_tell)
    (λ t rest. decided_both (decided_nil rest)
    (decided_both (decided_le (length t.1.0) 100) (decided_le 100 (status_code (response_head t)))))

response_back : (block : List ℕ) (h : ResponseHead) → IsResponse block h
    → Begins (Where (Then ResponseStart Section) ResponseEnds) block
response_back block h x =
    let p = response_pieces block h [] x.0 in
    let fields : length p.0.1.0 ≤ 100 = subst (λ (k : ResponseHead). length k.fields ≤ 100) (sym p.1) x.1 in
    let code : 100 ≤ status_code (response_head p.0) = subst (λ (k : ResponseHead). 100 ≤ status_code k) (sym p.1) x.2 in
    (p.0, [], (p.2, (refl, (fields, code))))

response_by : (block : List ℕ) → Decided (Begins (Where (Then ResponseStart Section) ResponseEnds) block)
    → ((h : ResponseHead) × IsResponse block h) ⊎ ((h : ResponseHead) → IsResponse block h → ⊥)
response_by block (inl w) = inl (
  response_head w.0,
  (
    subst (λ (r : List ℕ). ReadsResponse block (response_head w.0) r) w.2.1.0 (response_from_pieces block w.0 w.1 w.2.0),
    w.2.1.1.0,
    w.2.1.1.1,
  ),
)
response_by block (inr none) = inr (λ h x. none (response_back block h x))

-- the head of a response that the block is, or that it is none
pub tell_response : (block : List ℕ)
    → ((h : ResponseHead) × IsResponse block h) ⊎ ((h : ResponseHead) → IsResponse block h → ⊥)
tell_response block = response_by block (response_whole.tell block)

abbrev SectionEnds : List Field × LineEnd → List ℕ → Type 0
SectionEnds s rest = (rest ≡ []) × (length s.0 ≤ 100)

section_whole : CanTell (Where Section SectionEnds)
section_whole = Where_tell Section_deterministic Section_tell
    (λ s rest. decided_both (decided_nil rest) (decided_le (length s.0) 100))

section_by : (block : List ℕ) → Decided (Begins (Where Section SectionEnds) block)
    → ((s : List Field × LineEnd) × IsTrailers block s) ⊎ ((s : List Field × LineEnd) → IsTrailers block s → ⊥)
section_by block (inl w) = inl (w.0, (subst (λ (r : List ℕ). Section w.0 block r) w.2.1.0 w.2.0, w.2.1.1))
section_by block (inr none) = inr (λ s x. none (s, [], (x.0, (refl, x.1))))

-- the fields that the block is with its last line end, or that it is none
pub tell_section : (block : List ℕ)
    → ((s : List Field × LineEnd) × IsTrailers block s) ⊎ ((s : List Field × LineEnd) → IsTrailers block s → ⊥)
tell_section block = section_by block (section_whole.tell block)

-- ---- what a block is read as

abbrev pub raw_of : {A : Type 0} {P : A → Type 0} → (A → RawHead) → ((a : A) × P a) ⊎ ((a : A) → P a → ⊥)
    → Option RawHead
raw_of raw (inl w) = Some (raw w.0)
raw_of raw (inr none) = None

abbrev pub request_in : List ℕ → Option RawHead
request_in block = raw_of raw_request (tell_request block)

abbrev pub response_in : List ℕ → Option RawHead
response_in block = raw_of raw_response (tell_response block)

abbrev pub trailers_in : List ℕ → Option RawHead
trailers_in block = raw_of raw_trailers (tell_section block)
