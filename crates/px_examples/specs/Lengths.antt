-- The length of a body by its message's fields, which stand one a line.
use Rattle.std.specs.Prelude.{ℕ, Bool, true, false, List, [], ◌∷◌, Result, Ok, Err}
use Rattle.px_message.specs.declared.length.Length.{Length}
use Rattle.px_message.specs.declared.length.Length.TheVariants as lengths
use Rattle.px_message.specs.declared.fault.Fault.{Fault}
use Rattle.px_message.specs.declared.fault.Fault.TheVariants.{BothLengths, BadLength, BadCoding}
use Rattle.px_examples.specs.Rows.{◌gives◌}

abbrev bytes : ℕ → Result Length Fault
bytes n = Ok (lengths.Bytes n)

-- of requests
abbrev pub of_requests : List (List ℕ × Result Length Fault)
of_requests =
    "Content-Length: 5" gives bytes 5
    ∷ "content-length: \t05 " gives bytes 5
    ∷ "Content-Length: 5\nA: 1\nCONTENT-LENGTH: 5 ,5" gives bytes 5
    ∷ "Content-Length: 18446744073709551616" gives Err BadLength
    ∷ "Content-Length: +5" gives Err BadLength
    ∷ "Content-Length: -5" gives Err BadLength
    ∷ "Content-Length: 0x5" gives Err BadLength
    ∷ "Content-Length: 5 5" gives Err BadLength
    ∷ "Content-Length:" gives Err BadLength
    ∷ "Content-Length: 5," gives Err BadLength
    ∷ "Content-Length: ,5" gives Err BadLength
    ∷ "Content-Length: 5, 6" gives Err BadLength
    ∷ "Content-Length: 5\nContent-Length: 6" gives Err BadLength
    ∷ "Content-Length: 5\nTransfer-Encoding:" gives Err BothLengths
    ∷ "" gives Ok lengths.None
    ∷ "transfer-encoding: ,CHUNKED\t," gives Ok lengths.Chunked
    ∷ "Transfer-Encoding: gzip, chunked" gives Ok lengths.Chunked
    ∷ "Transfer-Encoding: gzip\nTransfer-Encoding: chunked" gives Ok lengths.Chunked
    ∷ "Transfer-Encoding: identity" gives Err BadCoding
    ∷ "Transfer-Encoding:" gives Err BadCoding
    ∷ "Transfer-Encoding: xchunked" gives Err BadCoding
    ∷ "Transfer-Encoding: chunked, chunked" gives Err BadCoding
    ∷ "Transfer-Encoding: chunked\nTransfer-Encoding: gzip" gives Err BadCoding
    ∷ []

-- of responses of code 200
abbrev pub of_responses : List (List ℕ × Result Length Fault)
of_responses =
    "content-length: \t05 " gives bytes 5
    ∷ "Content-Length: 5\nA: 1\nCONTENT-LENGTH: 5 ,5" gives bytes 5
    ∷ "Content-Length: 18446744073709551616" gives Err BadLength
    ∷ "Content-Length: +5" gives Err BadLength
    ∷ "Content-Length: -5" gives Err BadLength
    ∷ "Content-Length: 0x5" gives Err BadLength
    ∷ "Content-Length: 5 5" gives Err BadLength
    ∷ "Content-Length:" gives Err BadLength
    ∷ "Content-Length: 5," gives Err BadLength
    ∷ "Content-Length: ,5" gives Err BadLength
    ∷ "Content-Length: 5, 6" gives Err BadLength
    ∷ "Content-Length: 5\nContent-Length: 6" gives Err BadLength
    ∷ "Content-Length: 5\nTransfer-Encoding:" gives Err BothLengths
    ∷ "Content-Length: x\nTransfer-Encoding: gzip" gives Err BothLengths
    ∷ "" gives Ok lengths.ToClose
    ∷ "transfer-encoding: ,CHUNKED\t," gives Ok lengths.Chunked
    ∷ "Transfer-Encoding: gzip, chunked" gives Ok lengths.Chunked
    ∷ "Transfer-Encoding: gzip\nTransfer-Encoding: chunked" gives Ok lengths.Chunked
    ∷ "Transfer-Encoding: identity" gives Ok lengths.ToClose
    ∷ "Transfer-Encoding:" gives Ok lengths.ToClose
    ∷ "Transfer-Encoding: xchunked" gives Ok lengths.ToClose
    ∷ "Transfer-Encoding: chunked, chunked" gives Err BadCoding
    ∷ "Transfer-Encoding: chunked\nTransfer-Encoding: gzip" gives Err BadCoding
    ∷ []

-- of responses with `Content-Length: x` and `Transfer-Encoding: gzip`, by their code, and whether HEAD was asked
abbrev pub by_code : List ((ℕ × Bool) × Result Length Fault)
by_code =
    ((100, false), Ok lengths.None)
    ∷ ((199, false), Ok lengths.None)
    ∷ ((204, false), Ok lengths.None)
    ∷ ((304, false), Ok lengths.None)
    ∷ ((200, true), Ok lengths.None)
    ∷ ((205, false), Err BothLengths)
    ∷ ((303, false), Err BothLengths)
    ∷ []
