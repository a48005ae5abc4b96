-- The lines of a run that stops before it serves, and of files of flows.
use Rattle.std.specs.Prelude.{ℕ, List, [], ◌∷◌, ◌++◌, codes, decimal}

-- where the file of this path was not read
unfoldable pub cannot_read : List ℕ → List ℕ
cannot_read path = codes "cannot read " ++ path ++ 10 ∷ []

-- where the text of a filter is none, at this place
unfoldable pub bad_filter : ℕ → List ℕ
bad_filter place = codes "bad filter at " ++ (decimal place ++ 10 ∷ [])

-- where the file of flows of this path has no flow, behind so many bytes
unfoldable pub bad_flow_file : List ℕ → ℕ → List ℕ
bad_flow_file path offset = codes "bad flow file " ++ (path ++ (codes " at " ++ (decimal offset ++ 10 ∷ [])))
