-- The four forms of a request's target (RFC 9112 section 3.2).
use Rattle.std.specs.Prelude.{ℕ, Bool, not, ◌||◌, ◌==◌, List, ◌∷◌, length, take, drop, slice_index, bytes_eq, codes, Option, Some, None, if◌then◌else◌}
use Rattle.std.specs.List.{prefix_len}
use Rattle.std.specs.Option.{option_map}
use Rattle.http_uri.specs.ByteClasses.{question_mark, slash}
use Rattle.px_text.specs.Ascii.{lowercase}
use Rattle.px_message.specs.Path.{is_path}
use Rattle.px_message.specs.Authority.{address_of, after_host}
use Rattle.px_message.specs.declared.target.Target.{Target}
use Rattle.px_message.specs.declared.target.Target.TheVariants.{Origin, Absolute, Authority, Asterisk}

-- a target by its form, with its parts
pub data Form : Type 0 where
  origin : List ℕ → Form
  absolute : List ℕ → ℕ → List ℕ → Form
  authority : List ℕ → ℕ → Form
  asterisk : Form

-- the text begins with `http://`, in any letter case (RFC 3986 section 3.1)
abbrev pub has_http_scheme : List ℕ → Bool
has_http_scheme text = bytes_eq (lowercase (take 7 text)) (codes "http://")

-- what follows `http://`
abbrev pub after_scheme : List ℕ → List ℕ
after_scheme text = drop 7 text

-- the authority runs to the first `/` or `?`, or to the end (RFC 3986 section 3.2)
abbrev pub authority_len : List ℕ → ℕ
authority_len rest = prefix_len (λ b. not (b == slash || b == question_mark)) rest

-- the path and the query: an empty path is `/` (RFC 9110 section 4.2.3)
abbrev pub rooted : List ℕ → List ℕ
rooted tail = if slice_index tail 0 == slash then tail else slash ∷ tail

-- the path, if it has path bytes only
unfoldable pub path_form : List ℕ → Option (List ℕ)
path_form path = if is_path path then Some path else None

-- host, port and path, where there are all
unfoldable pub located : Option (List ℕ × ℕ) → Option (List ℕ) → Option (List ℕ × ℕ × List ℕ)
located (Some address) (Some path) = Some (address.0, address.1, path)
located _ _ = None

-- host, port and path of the absolute form (RFC 9112 section 3.2.2), or none
unfoldable pub absolute_form : List ℕ → Option (List ℕ × ℕ × List ℕ)
absolute_form text =
    let rest = after_scheme text in
    let end = authority_len rest in
    if has_http_scheme text then located (address_of (take end rest)) (path_form (rooted (drop end rest))) else None

-- host and port of the authority form, which needs a port (RFC 9112 section 3.2.3), or none
unfoldable pub authority_form : List ℕ → Option (List ℕ × ℕ)
authority_form text = if length (after_host text) == 0 then None else address_of text

-- The form of the target, or none. CONNECT has the authority form alone, and no other method has it.
unfoldable pub target_form : List ℕ → List ℕ → Option Form
target_form method target =
    if bytes_eq method (codes "CONNECT") then option_map (λ a. authority a.0 a.1) (authority_form target)
    else (if bytes_eq target (codes "*") then Some asterisk
    else (if slice_index target 0 == slash then option_map origin (path_form target)
    else option_map (λ a. absolute a.0 a.1 a.2) (absolute_form target)))

-- what a target says, by its form
abbrev pub form_of : Target → Form
form_of (Origin path) = origin path
form_of (Absolute address path) = absolute address.host address.port path
form_of (Authority address) = authority address.host address.port
form_of Asterisk = asterisk
