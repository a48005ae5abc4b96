-- Messages written out: fields, a stroke, and the body; what comes of it is the text.
use Rattle.std.specs.Prelude.{ℕ, Bool, true, false, List, [], ◌∷◌, codes}
use Rattle.px_message.specs.declared.fault.Fault.{Fault}
use Rattle.px_message.specs.declared.fault.Fault.TheVariants.{BadHead, TooLong, BadTarget, BothLengths, BadLength, BadCoding, BadChunk, NoConnection, ServerClosed, BadResponse, UpstreamRefused}
use Rattle.px_examples.specs.Rows.{◌gives◌}

-- requests in the origin form, with the trailer `T: 1`
abbrev pub requests : List (List ℕ × List ℕ)
requests =
    "Host: a|" gives codes "POST /a?b HTTP/1.1\r\nHost: a\r\n\r\n"
    ∷ "b:\nA:  2 |hi" gives codes "POST /a?b HTTP/1.1\r\nb: \r\nA:  2 \r\n\r\nhi"
    ∷ "Transfer-Encoding: gzip, Chunked|" gives codes "POST /a?b HTTP/1.1\r\nTransfer-Encoding: gzip, Chunked\r\n\r\n0\r\nT: 1\r\n\r\n"
    ∷ "Transfer-Encoding: chunked|abcdefghijklmnopqrstuvwxyz" gives codes "POST /a?b HTTP/1.1\r\nTransfer-Encoding: chunked\r\n\r\n1a\r\nabcdefghijklmnopqrstuvwxyz\r\n0\r\nT: 1\r\n\r\n"
    ∷ []

-- in the absolute form
abbrev pub absolute : List (List ℕ × List ℕ)
absolute =
    "|" gives codes "POST http://h:81/a?b HTTP/1.1\r\n\r\n"
    ∷ []

-- responses with `Transfer-Encoding: chunked` and the body `hi`, by their code, and whether HEAD was asked
abbrev pub responses : List ((ℕ × Bool) × List ℕ)
responses =
    ((200, true), codes "HTTP/1.1 200 \r\nTransfer-Encoding: chunked\r\n\r\n")
    ∷ ((101, false), codes "HTTP/1.1 101 \r\nTransfer-Encoding: chunked\r\n\r\n")
    ∷ ((204, false), codes "HTTP/1.1 204 \r\nTransfer-Encoding: chunked\r\n\r\n")
    ∷ ((304, false), codes "HTTP/1.1 304 \r\nTransfer-Encoding: chunked\r\n\r\n")
    ∷ ((404, false), codes "HTTP/1.1 404 \r\nTransfer-Encoding: chunked\r\n\r\n2\r\nhi\r\n0\r\n\r\n")
    ∷ []

-- short responses, by their status
abbrev pub short : List (ℕ × List ℕ)
short =
    (404, codes "HTTP/1.1 404 Not Found\r\nServer: mitm\r\nContent-Length: 0\r\n\r\n")
    ∷ (418, codes "HTTP/1.1 418 \r\nServer: mitm\r\nContent-Length: 0\r\n\r\n")
    ∷ (204, codes "HTTP/1.1 204 No Content\r\nServer: mitm\r\n\r\n")
    ∷ (304, codes "HTTP/1.1 304 Not Modified\r\nServer: mitm\r\n\r\n")
    ∷ []

-- reason and fields of an interim response of code 103, with a stroke between them
abbrev pub interim : List (List ℕ × List ℕ)
interim =
    "Early Hints|" gives codes "HTTP/1.1 103 Early Hints\r\n\r\n"
    ∷ "|Link: </a>\nb:" gives codes "HTTP/1.1 103 \r\nLink: </a>\r\nb: \r\n\r\n"
    ∷ []

-- a body that passes by in one chunk, a stroke, and its trailers
abbrev pub streamed : List (List ℕ × List ℕ)
streamed =
    "abcdefghijklmnopqrstuvwxyz|T: 1\nU:" gives codes "1a\r\nabcdefghijklmnopqrstuvwxyz\r\n0\r\nT: 1\r\nU: \r\n\r\n"
    ∷ "hi|" gives codes "2\r\nhi\r\n0\r\n\r\n"
    ∷ []

-- answers to faults
abbrev pub answers : List (Fault × List ℕ)
answers =
    (BadHead, codes "HTTP/1.1 400 Bad Request\r\nServer: mitm\r\nConnection: close\r\nContent-Type: text/plain\r\nContent-Length: 15\r\n\r\nmalformed head\n")
    ∷ (TooLong, codes "HTTP/1.1 431 Request Header Fields Too Large\r\nServer: mitm\r\nConnection: close\r\nContent-Type: text/plain\r\nContent-Length: 14\r\n\r\nhead too long\n")
    ∷ (BadTarget, codes "HTTP/1.1 400 Bad Request\r\nServer: mitm\r\nConnection: close\r\nContent-Type: text/plain\r\nContent-Length: 11\r\n\r\nbad target\n")
    ∷ (BothLengths, codes "HTTP/1.1 400 Bad Request\r\nServer: mitm\r\nConnection: close\r\nContent-Type: text/plain\r\nContent-Length: 12\r\n\r\ntwo lengths\n")
    ∷ (BadLength, codes "HTTP/1.1 400 Bad Request\r\nServer: mitm\r\nConnection: close\r\nContent-Type: text/plain\r\nContent-Length: 11\r\n\r\nbad length\n")
    ∷ (BadCoding, codes "HTTP/1.1 400 Bad Request\r\nServer: mitm\r\nConnection: close\r\nContent-Type: text/plain\r\nContent-Length: 20\r\n\r\nbad transfer coding\n")
    ∷ (BadChunk, codes "HTTP/1.1 400 Bad Request\r\nServer: mitm\r\nConnection: close\r\nContent-Type: text/plain\r\nContent-Length: 10\r\n\r\nbad chunk\n")
    ∷ (NoConnection, codes "HTTP/1.1 502 Bad Gateway\r\nServer: mitm\r\nConnection: close\r\nContent-Type: text/plain\r\nContent-Length: 15\r\n\r\ncannot connect\n")
    ∷ (ServerClosed, codes "HTTP/1.1 502 Bad Gateway\r\nServer: mitm\r\nConnection: close\r\nContent-Type: text/plain\r\nContent-Length: 20\r\n\r\nserver closed early\n")
    ∷ (BadResponse, codes "HTTP/1.1 502 Bad Gateway\r\nServer: mitm\r\nConnection: close\r\nContent-Type: text/plain\r\nContent-Length: 13\r\n\r\nbad response\n")
    ∷ (UpstreamRefused, codes "HTTP/1.1 502 Bad Gateway\r\nServer: mitm\r\nConnection: close\r\nContent-Type: text/plain\r\nContent-Length: 17\r\n\r\nupstream refused\n")
    ∷ []

-- the same to HEAD
abbrev pub answers_to_head : List (Fault × List ℕ)
answers_to_head =
    (BadHead, codes "HTTP/1.1 400 Bad Request\r\nServer: mitm\r\nConnection: close\r\nContent-Type: text/plain\r\nContent-Length: 15\r\n\r\n")
    ∷ (UpstreamRefused, codes "HTTP/1.1 502 Bad Gateway\r\nServer: mitm\r\nConnection: close\r\nContent-Type: text/plain\r\nContent-Length: 17\r\n\r\n")
    ∷ []
