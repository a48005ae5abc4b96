-- The hosts of authorities.
use Rattle.std.specs.Prelude.{◌≡◌, ◌≢◌, ℕ, List, All}
use Rattle.http_uri.specs.Grammar.{IsAuthority, authority_host}
use Rattle.http_uri.specs.ByteClasses.{at_sign}

-- an authority without userinfo and port that is its own host, and not empty (RFC 3986 section 3.2.2)
pub record IsHost (text : List ℕ) : Type 0 where
  pub authority : IsAuthority text
  pub no_userinfo : All (λ b. b ≢ at_sign) text
  pub whole : authority_host text ≡ text
