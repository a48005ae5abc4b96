-- What is heard of generated flows: one client at the proxy's door, and for each flow its request and the server's answer in pieces.
-- The one server is dialled behind the first request, and its connection is kept for all others. All moments are 0.
use Rattle.std.specs.Prelude.{◌≡◌, ℕ, ◌+◌, ◌*◌, ◌%◌, ◌<◌, ◌≤◌, ◌==◌, if◌then◌else◌, true, List, [], ◌∷◌, ◌++◌, length, slice_index_or, take, drop, map, codes, decimal}
use Rattle.std.specs.Int.{div_ceil}
use Rattle.std.specs.List.{concat, flat_map, range_with_len}
use Rattle.px_text.specs.Blank.{crlf}
use Rattle.px_event.specs.declared.heard.Heard.{Heard}
use Rattle.px_event.specs.declared.heard.Heard.TheVariants.{Accepted, Piece, Closed, Dialled}
use Rattle.px_event.specs.declared.side.Door.TheVariants.{Proxy}
use Rattle.px_event.specs.declared.side.Side.{Side}
use Rattle.px_event.specs.declared.side.Side.TheVariants.{Client, Server}
use Rattle.px_gen.specs.Peer.{peer}

-- the numbers below this one, from 0 on
abbrev pub numbers_below : ℕ → List ℕ
numbers_below n = range_with_len 0 n

-- the number of bytes in the body of flow i
unfoldable pub size_of : ℕ → ℕ
size_of i = (7919 * i + 13) % 1000

-- the request of flow i, whose body has so many bytes
unfoldable pub request_text : ℕ → ℕ → List ℕ
request_text i size =
    codes "GET /" ++ decimal i ++ codes " HTTP/1.1" ++ crlf
    ++ codes "Host: gen" ++ crlf
    ++ codes "X-Size: " ++ decimal size ++ crlf
    ++ crlf

abbrev pub request_of : ℕ → List ℕ
request_of i = request_text i (size_of i)

-- byte j of the body of flow i: the letters from `a` to `z` in turn
abbrev pub letter_at : ℕ → ℕ → ℕ
letter_at i j = 97 + (i + j) % 26

-- so many bytes of the body of flow i
abbrev pub body_text : ℕ → ℕ → List ℕ
body_text i size = map (letter_at i) (numbers_below size)

-- the head of an answer whose body has so many bytes
unfoldable pub head_text : ℕ → List ℕ
head_text size =
    codes "HTTP/1.1 200 OK" ++ crlf
    ++ codes "Content-Length: " ++ decimal size ++ crlf
    ++ crlf

-- the answer to flow i: head and body in one text
abbrev pub answer_of : ℕ → List ℕ
answer_of i = head_text (size_of i) ++ body_text i (size_of i)

-- piece k of a text that is cut after every so many bytes
abbrev pub piece_at : ℕ → List ℕ → ℕ → List ℕ
piece_at most text k = take most (drop (most * k) text)

-- a text in pieces of so many bytes, and a last one with the rest, where there is a rest
abbrev pub cut : ℕ → List ℕ → List (List ℕ)
cut most text = map (piece_at most text) (numbers_below (div_ceil (length text) most))

-- a text in pieces of 1,000 bytes
unfoldable pub pieces_of : List ℕ → List (List ℕ)
pieces_of text = cut 1000 text

-- the pieces are the text, one behind the other; each has a byte and 1,000 at most, and each but the last has 1,000
pub record ArePiecesOf (text : List ℕ) (pieces : List (List ℕ)) : Type 0 where
  pub joined : concat pieces ≡ text
  pub some : (k : ℕ) → k < length pieces → 0 < length (slice_index_or pieces k [])
  pub most : (k : ℕ) → k < length pieces → length (slice_index_or pieces k []) ≤ 1000
  pub full : (k : ℕ) → k + 1 < length pieces → length (slice_index_or pieces k []) ≡ 1000

-- a piece from this side, at moment 0
abbrev pub heard_from : Side → List ℕ → ℕ × Heard
heard_from side bytes = (0, Piece 0 side bytes)

-- what is heard behind the request of flow i: of the first one that the server is connected, which is kept, and of the others nothing
abbrev pub dialled_by : ℕ → List (ℕ × Heard)
dialled_by i = if i == 0 then (0, Dialled 0 0 true) ∷ [] else []

-- what is heard of flow i: its request, that the server is connected where it is the first, and the pieces of the answer
abbrev pub heard_of : ℕ → List (ℕ × Heard)
heard_of i =
    heard_from Client (request_of i)
    ∷ (dialled_by i ++ map (heard_from (Server 0)) (pieces_of (answer_of i)))

-- what is heard of so many flows: the client comes, the flows one behind the other, the client closes
abbrev pub script : ℕ → List (ℕ × Heard)
script count = (0, Accepted 0 Proxy peer) ∷ (flat_map heard_of (numbers_below count) ++ (0, Closed 0 Client) ∷ [])
