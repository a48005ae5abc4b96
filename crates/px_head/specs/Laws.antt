-- Laws of what stands at the front of bytes.
use Rattle.std.specs.Prelude.{◌≡◌, ◌≢◌, ℕ, ◌+◌, ◌<◌, ◌≤◌, ◌⊎◌, ◌↔◌, true, List, [], ◌++◌, length, take, All, Some, codes, IsUtf8}
use Rattle.httparse.specs.Grammar.{AllPass, is_token, is_uri_byte, is_value_byte, trim_ows, Field, LineEnd, RequestHead, ResponseHead}
use Rattle.px_text.specs.Number.{decimal_value}
use Rattle.px_head.specs.declared.raw.RawHead.{RawHead}
use Rattle.px_head.specs.declared.front.Front.TheVariants.{Nothing, TooLong, Stands}
use Rattle.px_head.specs.declared.front.Kind.{Kind}
use Rattle.px_head.specs.declared.front.Kind.TheVariants.{Request, Response, Trailers}
use Rattle.px_head.specs.Front.{blank_lines, line_end, front, request_front, response_front, trailer_front}
use Rattle.px_head.specs.Heads.{IsRequest, IsResponse, IsTrailers, raw_request, raw_response, raw_trailers}
use Rattle.px_head.specs.declared.place.Marks.{Marks}
use Rattle.px_head.specs.Marks.{HasNoEnd, no_marks, searched}

-- ---- the front is what the grammar says of the block

-- a head that the grammar reads is found with its parts, the empty lines before it skipped, whatever follows
abbrev pub RequestIsFound : Type 0
RequestIsFound = (block rest : List ℕ) (h : RequestHead) → IsRequest block h → length block ≤ 65536
    → request_front (block ++ rest) ≡ Stands (raw_request h) (length block)

abbrev pub ResponseIsFound : Type 0
ResponseIsFound = (block rest : List ℕ) (h : ResponseHead) → IsResponse block h → length block ≤ 65536
    → response_front (block ++ rest) ≡ Stands (raw_response h) (length block)

abbrev pub TrailersAreFound : Type 0
TrailersAreFound = (block rest : List ℕ) (s : List Field × LineEnd) → IsTrailers block s → length block ≤ 65536
    → trailer_front (block ++ rest) ≡ Stands (raw_trailers s) (length block)

-- a head that was found is one that the grammar reads: the bytes that it used, the empty lines before it among them, are that
-- head. So the two directions say that a head is found exactly where the grammar reads one.
abbrev pub FoundRequestIsRead : Type 0
FoundRequestIsRead = (bytes : List ℕ) (raw : RawHead) (used : ℕ) → request_front bytes ≡ Stands raw used
    → (h : RequestHead) × IsRequest (take used bytes) h × (raw ≡ raw_request h)

abbrev pub FoundResponseIsRead : Type 0
FoundResponseIsRead = (bytes : List ℕ) (raw : RawHead) (used : ℕ) → response_front bytes ≡ Stands raw used
    → (h : ResponseHead) × IsResponse (take used bytes) h × (raw ≡ raw_response h)

abbrev pub FoundTrailersAreRead : Type 0
FoundTrailersAreRead = (bytes : List ℕ) (raw : RawHead) (used : ℕ) → trailer_front bytes ≡ Stands raw used
    → (s : List Field × LineEnd) × IsTrailers (take used bytes) s × (raw ≡ raw_trailers s)

-- ---- bytes that follow

-- what is decided stays decided, whatever bytes follow
abbrev pub FrontStays : Type 0
FrontStays = (kind : Kind) (bytes more : List ℕ) → front kind bytes ≢ Nothing
    → front kind (bytes ++ more) ≡ front kind bytes

-- ---- sizes

-- a head uses at least one byte, none that is not there, and none past the limit
abbrev pub UsedIsWithin : Type 0
UsedIsWithin = (kind : Kind) (bytes : List ℕ) (raw : RawHead) (used : ℕ) → front kind bytes ≡ Stands raw used
    → (1 ≤ used) × (used ≤ length bytes) × (used ≤ 65536)

-- the first search looks at no more bytes than there are; one that goes on looks at the bytes that came since, and at two before them
abbrev pub SearchGoesOn : Type 0
SearchGoesOn =
    ((bytes : List ℕ) → (searched bytes no_marks).looked ≤ length bytes)
    × ((bytes more : List ℕ) (m : Marks) → (searched (bytes ++ more) (searched bytes m)).looked ≤ length more + 2)

-- no block ends within the first so many bytes: behind the empty lines for a start line, and at once for trailers
abbrev pub HasNoBlock : Kind → List ℕ → ℕ → Type 0
HasNoBlock Request bytes reached = HasNoEnd bytes (blank_lines bytes) reached
HasNoBlock Response bytes reached = HasNoEnd bytes (blank_lines bytes) reached
HasNoBlock Trailers bytes reached = (line_end bytes ≡ 0) × HasNoEnd bytes 0 reached

-- more bytes are waited for exactly where fewer than 65,536 are there, and no block ends in them
abbrev pub WaitingIsExact : Type 0
WaitingIsExact = (kind : Kind) (bytes : List ℕ)
    → (front kind bytes ≡ Nothing) ↔ ((length bytes < 65536) × HasNoBlock kind bytes (length bytes))

-- a head is too long exactly where 65,536 bytes or more are there, and no block ends within the first 65,536. What is neither
-- waited for nor too long is a block, so it is a head that the grammar reads, or refused at once.
abbrev pub TooLongIsExact : Type 0
TooLongIsExact = (kind : Kind) (bytes : List ℕ)
    → (front kind bytes ≡ TooLong) ↔ ((65536 ≤ length bytes) × HasNoBlock kind bytes 65536)

-- ---- the parts of a head

-- neither CR, LF nor NUL
abbrev pub IsPlainByte : ℕ → Type 0
IsPlainByte b = (b ≢ 13) × (b ≢ 10) × (b ≢ 0)

-- a value or a reason: value bytes of the grammar, so no CR, LF or NUL
pub record IsValueText (text : List ℕ) : Type 0 where
  pub bytes : AllPass is_value_byte text
  pub plain : All IsPlainByte text

-- a name is a token, and a value is such a text, without a blank at either end
abbrev pub IsPair : List ℕ × List ℕ → Type 0
IsPair p = (is_token p.0 ≡ true) × IsValueText p.1 × (trim_ows p.1 ≡ p.1)

abbrev pub IsVersionText : List ℕ → Type 0
IsVersionText text = (text ≡ codes "HTTP/1.0") ⊎ (text ≡ codes "HTTP/1.1")

pub record IsRequestParts (raw : RawHead) : Type 0 where
  pub method : is_token raw.first ≡ true
  pub target : (0 < length raw.second) × AllPass is_uri_byte raw.second × IsUtf8 raw.second
  pub version : IsVersionText raw.third
  pub pairs : All IsPair raw.pairs
  pub few : length raw.pairs ≤ 100

pub record IsResponseParts (raw : RawHead) : Type 0 where
  pub version : IsVersionText raw.first
  pub digits : length raw.second ≡ 3
  pub code : (n : ℕ) × (decimal_value raw.second ≡ Some n) × (100 ≤ n) × (n ≤ 999)
  pub reason : IsValueText raw.third
  pub pairs : All IsPair raw.pairs
  pub few : length raw.pairs ≤ 100

pub record IsTrailerParts (raw : RawHead) : Type 0 where
  pub first : raw.first ≡ []
  pub second : raw.second ≡ []
  pub third : raw.third ≡ []
  pub pairs : All IsPair raw.pairs
  pub few : length raw.pairs ≤ 100

abbrev pub RequestPartsAreValid : Type 0
RequestPartsAreValid = (bytes : List ℕ) (raw : RawHead) (used : ℕ) → request_front bytes ≡ Stands raw used
    → IsRequestParts raw

abbrev pub ResponsePartsAreValid : Type 0
ResponsePartsAreValid = (bytes : List ℕ) (raw : RawHead) (used : ℕ) → response_front bytes ≡ Stands raw used
    → IsResponseParts raw

abbrev pub TrailerPartsAreValid : Type 0
TrailerPartsAreValid = (bytes : List ℕ) (raw : RawHead) (used : ℕ) → trailer_front bytes ≡ Stands raw used
    → IsTrailerParts raw
