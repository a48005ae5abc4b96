-- The texts with which the proxy answers a fault.
use Rattle.std.specs.Prelude.{ℕ, ◌+◌, Bool, if◌then◌else◌, List, [], ◌∷◌, ◌++◌, length, codes, decimal}
use Rattle.px_message.specs.declared.fault.Fault.{Fault}
use Rattle.px_message.specs.declared.fault.Fault.TheVariants.{BadHead, TooLong, BadTarget, BothLengths, BadLength, BadCoding, BadChunk, NoConnection, ServerClosed, BadResponse, UpstreamRefused}
use Rattle.px_text.specs.Blank.{crlf}

-- code and reason of the answer to a fault (RFC 9110 section 15, RFC 6585 section 5)
unfoldable pub fault_status : Fault → List ℕ
fault_status BadHead = codes "400 Bad Request"
fault_status TooLong = codes "431 Request Header Fields Too Large"
fault_status BadTarget = codes "400 Bad Request"
fault_status BothLengths = codes "400 Bad Request"
fault_status BadLength = codes "400 Bad Request"
fault_status BadCoding = codes "400 Bad Request"
fault_status BadChunk = codes "400 Bad Request"
fault_status NoConnection = codes "502 Bad Gateway"
fault_status ServerClosed = codes "502 Bad Gateway"
fault_status BadResponse = codes "502 Bad Gateway"
fault_status UpstreamRefused = codes "502 Bad Gateway"

-- what is said of it, to the client and in the flow
unfoldable pub fault_message : Fault → List ℕ
fault_message BadHead = codes "malformed head"
fault_message TooLong = codes "head too long"
fault_message BadTarget = codes "bad target"
fault_message BothLengths = codes "two lengths"
fault_message BadLength = codes "bad length"
fault_message BadCoding = codes "bad transfer coding"
fault_message BadChunk = codes "bad chunk"
fault_message NoConnection = codes "cannot connect"
fault_message ServerClosed = codes "server closed early"
fault_message BadResponse = codes "bad response"
fault_message UpstreamRefused = codes "upstream refused"

-- the head of an answer of this status, with so many bytes behind it
abbrev pub answer_head : List ℕ → List ℕ → List ℕ
answer_head status digits =
    codes "HTTP/1.1 " ++ status ++ crlf
    ++ codes "Server: mitm" ++ crlf
    ++ codes "Connection: close" ++ crlf
    ++ codes "Content-Type: text/plain" ++ crlf
    ++ codes "Content-Length: " ++ digits ++ crlf
    ++ crlf

-- the head of the answer to a fault; its length counts the message and the line feed behind it
abbrev pub error_head : Fault → List ℕ
error_head fault = answer_head (fault_status fault) (decimal (length (fault_message fault) + 1))

-- the message on a line, or nothing to HEAD
abbrev pub error_line : Fault → Bool → List ℕ
error_line fault asked_head = if asked_head then [] else fault_message fault ++ 10 ∷ []

-- the answer; to HEAD its head alone
unfoldable pub error_text : Fault → Bool → List ℕ
error_text fault asked_head = error_head fault ++ error_line fault asked_head
