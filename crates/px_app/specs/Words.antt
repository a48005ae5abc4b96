-- The words of the command line.
use Rattle.std.specs.Prelude.{◌≡◌, ℕ, List, [], ◌∷◌, codes}
use Rattle.px_gen.specs.Word.{IsCount}

-- `serve OPTIONS`: the path of an options file
abbrev pub IsServe : List (List ℕ) → List ℕ → Type 0
IsServe words path = words ≡ codes "serve" ∷ path ∷ []

-- `flows FILE FILTER`: the path of a file of flows, and the text of a filter
abbrev pub IsFlows : List (List ℕ) → List ℕ → List ℕ → Type 0
IsFlows words path text = words ≡ codes "flows" ∷ path ∷ text ∷ []

-- `convert FILE OUT`: the path of a file of flows, and that of the file that gets them anew
abbrev pub IsConvert : List (List ℕ) → List ℕ → List ℕ → Type 0
IsConvert words path to = words ≡ codes "convert" ∷ path ∷ to ∷ []

-- `har FILE FILTER`: the path of a file of flows, and the text of a filter
abbrev pub IsHar : List (List ℕ) → List ℕ → List ℕ → Type 0
IsHar words path text = words ≡ codes "har" ∷ path ∷ text ∷ []

-- `pick FILE FILTER OUT`: the path of a file of flows, the text of a filter, and the path of the file that gets them anew
abbrev pub IsPick : List (List ℕ) → List ℕ → List ℕ → List ℕ → Type 0
IsPick words path text to = words ≡ codes "pick" ∷ path ∷ text ∷ to ∷ []

-- `gen N`: how many flows are generated
abbrev pub IsGen : List (List ℕ) → ℕ → Type 0
IsGen words count = (word : List ℕ) × (words ≡ codes "gen" ∷ word ∷ []) × IsCount word count

-- they are none of these
pub record HasNoForm (words : List (List ℕ)) : Type 0 where
  pub serve : (path : List ℕ) → ¬ (IsServe words path)
  pub flows : (path text : List ℕ) → ¬ (IsFlows words path text)
  pub convert : (path to : List ℕ) → ¬ (IsConvert words path to)
  pub har : (path text : List ℕ) → ¬ (IsHar words path text)
  pub pick : (path text to : List ℕ) → ¬ (IsPick words path text to)
  pub gen : (count : ℕ) → ¬ (IsGen words count)
