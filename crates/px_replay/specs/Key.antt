-- Match keys: what counts of a request when a recorded one is looked for.
use Rattle.std.specs.Prelude.{ℕ, Bool, not, ◌==◌, List, map, filter, bytes_eq, Option, None, Some, if◌then◌else◌}
use Rattle.std.specs.List.{after_first, before_first, list_any}
use Rattle.std.specs.Str.Lossy.{utf8_lossy}
use Rattle.form_urlencoded.specs.Form.{decode, raw_pairs}
use Rattle.px_message.specs.Fields.{values_of}
use Rattle.px_message.specs.declared.request.Request.{Request}
use Rattle.px_replay.specs.declared.key.MatchKey.{MatchKey}
use Rattle.px_replay.specs.declared.options.KeyOptions.{KeyOptions}

-- the path in front of its first `?`, or all of it (RFC 3986 section 3.3)
abbrev pub bare_path : List ℕ → List ℕ
bare_path path = before_first (λ b. b == 63) path

-- what stands behind the first `?`, or nothing (RFC 3986 section 3.4)
abbrev pub query : List ℕ → List ℕ
query path = after_first (λ b. b == 63) path

-- the text of a parameter's name or value: `+` is a space, escapes are decoded, and what is no UTF-8 becomes U+FFFD
-- (URL Standard, section 5.1)
abbrev pub decoded : List ℕ → List ℕ
decoded text = utf8_lossy (decode text)

abbrev pub decoded_pair : List ℕ × List ℕ → List ℕ × List ℕ
decoded_pair pair = (decoded pair.0, decoded pair.1)

-- the parameters of a query, each a name and a value, in their order
abbrev pub parameters : List ℕ → List (List ℕ × List ℕ)
parameters query = map decoded_pair (raw_pairs query)

-- the name is one of these
abbrev pub is_listed : List (List ℕ) → List ℕ → Bool
is_listed names name = list_any (λ other. bytes_eq other name) names

-- the parameters but those of these names
abbrev pub counted : List (List ℕ) → List (List ℕ × List ℕ) → List (List ℕ × List ℕ)
counted ignored parameters = filter (λ parameter. not (is_listed ignored parameter.0)) parameters

-- for each of the names the values of its fields, in their order
abbrev pub values_under : List (List ℕ) → List (List ℕ × List ℕ) → List (List (List ℕ))
values_under names fields = map (λ name. values_of name fields) names

-- the part, or none where it is ignored
abbrev pub unless : {T : Type 0} → Bool → T → Option T
unless ignored part = if ignored then None else Some part

-- the key of a request
abbrev pub key_of : KeyOptions → Request → MatchKey
key_of how request = record {
  method = request.method;
  path = bare_path request.path;
  parameters = counted how.ignore_params (parameters (query request.path));
  content = unless how.ignore_content request.body;
  host = unless how.ignore_host request.host;
  port = unless how.ignore_port request.port;
  values = values_under how.use_headers request.fields;
}
