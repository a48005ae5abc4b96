-- What appends to one file leave as it was.
use Rattle.std.specs.Prelude.{◌≢◌, ℕ, List, [], None, unwrap_or}
use Rattle.px_text.specs.Prefix.{IsPrefixOf}
use Rattle.px_outside.specs.Files.{Contents, KeepsOthers}

-- What stood under the path is in front of what stands there now, where an absent path counts as empty, and what was there is there; and under each other path
-- stands what stood there.
pub record KeepsFront (path : List ℕ) (old new : Contents) : Type 0 where
  pub front : IsPrefixOf (unwrap_or (old path) []) (unwrap_or (new path) [])
  pub there : old path ≢ None → new path ≢ None
  pub others : KeepsOthers path old new
