-- What follows a CONNECT that was answered, by the first bytes: HTTP where the client's begin with a known method and a space (RFC 9110
-- section 9.3, RFC 5789), and else a tunnel that is not read.
use Rattle.std.specs.Prelude.{Bool, true, false, ◌&&◌, not, ℕ, List, [], ◌∷◌, codes, bytes_eq, length, take}
use Rattle.std.specs.List.{list_any}

-- the methods, each with the space behind it
abbrev pub beginnings : List (List ℕ)
beginnings =
    codes "GET " ∷ codes "HEAD " ∷ codes "POST " ∷ codes "PUT " ∷ codes "DELETE " ∷ codes "OPTIONS " ∷ codes "TRACE " ∷ codes "PATCH " ∷ []

-- the one text begins with the other
abbrev pub begins_with : List ℕ → List ℕ → Bool
begins_with text front = bytes_eq front (take (length front) text)

-- it begins with a method, and it may become one that does
abbrev pub has_method : List ℕ → Bool
has_method text = list_any (λ front. begins_with text front) beginnings

abbrev pub may_have_method : List ℕ → Bool
may_have_method text = list_any (λ front. begins_with front text) beginnings

pub data Decision : Type 0 where
  -- neither is said yet
  still : Decision
  is_http : Decision
  is_raw : Decision

abbrev pub decided_by : Bool → Bool → Decision
decided_by true may = is_http
decided_by false true = still
decided_by false false = is_raw

-- by all that has come of the client, and by whether a byte has come of the server
abbrev pub decided : List ℕ → Bool → Decision
decided text answered = decided_by (has_method text) (not answered && may_have_method text)
