-- Responses that the proxy makes itself, which say no more than a status.
use Rattle.std.specs.Prelude.{ℕ, ◌==◌, ◌||◌, false, if◌then◌else◌, List, [], ◌∷◌, codes}
use Rattle.px_message.specs.Length.{content_length}
use Rattle.px_message.specs.declared.response.Response.{Response}
use Rattle.px_message.specs.declared.version.Version.TheVariants.{Http11}

-- the reason of a status code, or an empty one (RFC 9110 section 15)
abbrev pub reason_of : ℕ → List ℕ
reason_of code =
    if code == 200 then codes "OK"
    else (if code == 201 then codes "Created"
    else (if code == 204 then codes "No Content"
    else (if code == 301 then codes "Moved Permanently"
    else (if code == 302 then codes "Found"
    else (if code == 304 then codes "Not Modified"
    else (if code == 400 then codes "Bad Request"
    else (if code == 401 then codes "Unauthorized"
    else (if code == 403 then codes "Forbidden"
    else (if code == 404 then codes "Not Found"
    else (if code == 405 then codes "Method Not Allowed"
    else (if code == 500 then codes "Internal Server Error"
    else (if code == 501 then codes "Not Implemented"
    else (if code == 502 then codes "Bad Gateway"
    else (if code == 503 then codes "Service Unavailable"
    else (if code == 504 then codes "Gateway Timeout"
    else [])))))))))))))))

-- its fields: who speaks, and that the body is empty where a response of this status could have one (RFC 9110
-- section 8.6)
abbrev pub short_fields : ℕ → List (List ℕ × List ℕ)
short_fields code =
    (codes "Server", codes "mitm") ∷ (if code == 204 || code == 304 then [] else (content_length, codes "0") ∷ [])

-- the response of version 1.1 with its status, the status's reason and an empty body
abbrev pub short_response : ℕ → Response
short_response code = record {
  version = Http11;
  status = code;
  reason = reason_of code;
  fields = short_fields code;
  body = [];
  trailers = [];
  streamed = false;
}
