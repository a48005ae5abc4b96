-- The path that a request's target says (RFC 9112 section 3.2).
use Rattle.std.specs.Prelude.{◌≡◌, ℕ, List, codes, IsUtf8, Option, Some, None}
use Rattle.px_message.specs.Target.{Form, origin, absolute, authority, asterisk, target_form}

-- `*` is the server as a whole; the authority form has no path
abbrev pub path_said : Option Form → Option (List ℕ)
path_said (Some (origin path)) = Some path
path_said (Some (absolute host port path)) = Some path
path_said (Some (authority host port)) = None
path_said (Some asterisk) = Some (codes "*")
path_said None = None

-- the path of a target that is UTF-8 is UTF-8
abbrev pub TargetPathIsText : Type 0
TargetPathIsText = (method target path : List ℕ) → path_said (target_form method target) ≡ Some path → IsUtf8 target → IsUtf8 path
