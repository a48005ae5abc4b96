-- Messages whose framing is made true to their bodies: fields, a stroke, and the body; what comes of it is the fields, the body,
-- and the trailers that stay. Each has the trailer `T: 1` before.
use Rattle.std.specs.Prelude.{ℕ, Bool, true, false, List, [], ◌∷◌, codes}
use Prim.Native.String.{String}
use Rattle.px_message.specs.declared.request.Request.{Request}
use Rattle.px_message.specs.declared.response.Response.{Response}
use Rattle.px_examples.specs.Rows.{◌gives◌, fields, fields_in}

-- what settling changes of a message
pub record Content : Type 0 where
  pub fields : List (List ℕ × List ℕ)
  pub body : List ℕ
  pub trailers : List (List ℕ × List ℕ)

abbrev content : String → String → String → Content
content fields body trailers =
    record { fields = fields_in (codes fields); body = codes body; trailers = fields_in (codes trailers) }

abbrev pub of_request : Request → Content
of_request request = record { fields = request.fields; body = request.body; trailers = request.trailers }

-- with the trailer `T: 1`
abbrev pub trailing : Response → Response
trailing response = record response { trailers = (codes "T", codes "1") ∷ [] }

abbrev pub of_response : Response → Content
of_response response = record { fields = response.fields; body = response.body; trailers = response.trailers }

-- requests
abbrev pub requests : List (List ℕ × Content)
requests =
    "|hi" gives content "Content-Length: 2" "hi" ""
    ∷ "|" gives content "" "" ""
    ∷ "Content-Length: 5|hi" gives content "Content-Length: 2" "hi" ""
    ∷ "Content-Length: 5|" gives content "Content-Length: 0" "" ""
    ∷ "Content-Length: 2\nA: 1\nContent-Length: 3|hi" gives content "Content-Length: 2\nA: 1" "hi" ""
    ∷ "content-length: 2\nA: 1\nContent-Length: 2 ,2\nCONTENT-LENGTH: 02|hi" gives content "content-length: 2\nA: 1\nContent-Length: 2 ,2\nCONTENT-LENGTH: 02" "hi" ""
    ∷ "Transfer-Encoding: gzip\nA: 1|hi" gives content "A: 1\nContent-Length: 2" "hi" ""
    ∷ "Transfer-Encoding: chunked, chunked|" gives content "" "" ""
    ∷ "Content-Length: 9\nTransfer-Encoding: gzip, chunked|hi" gives content "Transfer-Encoding: gzip, chunked" "hi" "T: 1"
    ∷ []

-- responses of code 200
abbrev pub responses : List (List ℕ × Content)
responses =
    "Content-Length: 5|hi" gives content "Content-Length: 2" "hi" ""
    ∷ "|hi" gives content "" "hi" ""
    ∷ "Content-Length: 2, 2|hi" gives content "Content-Length: 2, 2" "hi" ""
    ∷ "Transfer-Encoding: gzip\nContent-Length: 2|hi" gives content "Transfer-Encoding: gzip" "hi" ""
    ∷ "Transfer-Encoding: chunked, gzip\nContent-Length: x|hi" gives content "Content-Length: 2" "hi" ""
    ∷ "Transfer-Encoding: chunked\nContent-Length: 9|hi" gives content "Transfer-Encoding: chunked" "hi" "T: 1"
    ∷ []

-- responses without a body, by their code, and whether HEAD was asked
abbrev pub by_code : List ((ℕ × Bool × List ℕ) × Content)
by_code =
    ((200, true, codes "Content-Length: 9|hi"), content "Content-Length: 9" "" "")
    ∷ ((204, false, codes "Content-Length: 9|hi"), content "Content-Length: 9" "" "")
    ∷ ((304, false, codes "Transfer-Encoding: chunked\nContent-Length: 9|hi"), content "Transfer-Encoding: chunked\nContent-Length: 9" "" "")
    ∷ []

-- the fields of a streamed message that were changed, a stroke, and those that were read; what comes of it is its fields
abbrev pub streamed : List (List ℕ × List (List ℕ × List ℕ))
streamed =
    "A: 1|A: 0\nContent-Length: 9" gives fields "A: 1\nContent-Length: 9"
    ∷ "Content-Length: 9\nA: 1|Content-Length: 9" gives fields "Content-Length: 9\nA: 1"
    ∷ "content-length: 9\nA: 1|Content-Length: 9" gives fields "A: 1\nContent-Length: 9"
    ∷ "transfer-encoding: chunked\nA: 1|" gives fields "A: 1"
    ∷ []
