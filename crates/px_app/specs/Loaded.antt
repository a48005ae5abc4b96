-- What comes of the flow files whose flows a run answers with.
use Rattle.std.specs.Prelude.{◌≡◌, ℕ, ◌-◌, List, [], ◌∷◌, ◌++◌, length}
use Rattle.px_message.specs.declared.flow.Flow.{Flow}
use Rattle.px_outside.specs.declared.files.FileCall.{FileCall}
use Rattle.px_outside.specs.declared.files.FileCall.TheVariants.{Read, Missed, ReadFailed, Appended, AppendFailed}
use Rattle.px_words.specs.FlowFile.{HasFlows, IsBadPlace}

pub data Loaded : Type 0 where
  -- all of them were loaded: these are their flows, one file behind the other
  loaded : (flows : List Flow) → Loaded
  -- nothing stands under this path
  one_absent : (path : List ℕ) → Loaded
  -- the file of this path was not read
  one_unread : (path : List ℕ) → Loaded
  -- behind so many bytes of the file of this path no flow stands
  one_bad : (path : List ℕ) (offset : ℕ) → Loaded
  -- memory ran out
  unloaded : Loaded

-- the same with the flows of a file in front
abbrev pub behind_flows : List Flow → Loaded → Loaded
behind_flows flows (loaded others) = loaded (flows ++ others)
behind_flows flows (one_absent path) = one_absent path
behind_flows flows (one_unread path) = one_unread path
behind_flows flows (one_bad path offset) = one_bad path offset
behind_flows flows unloaded = unloaded

-- The reads that are made of the files of these paths, and what they come to. The files are read in their order, each once, and each is
-- loaded to its end before the next one is read. The first that is absent, that is not read or that has a bad place ends it. Memory may
-- run out before a file is read, while it is loaded, and behind the last.
pub data LoadsFiles : List (List ℕ) → List FileCall → Loaded → Type 0 where
  none_left : LoadsFiles [] [] (loaded [])
  is_whole : (path bytes : List ℕ) (flows : List Flow) (others : List (List ℕ)) (calls : List FileCall) (came what : Loaded) →
      HasFlows bytes flows [] → LoadsFiles others calls came → what ≡ behind_flows flows came → LoadsFiles (path ∷ others) (Read path bytes ∷ calls) what
  is_absent : (path : List ℕ) (others : List (List ℕ)) → LoadsFiles (path ∷ others) (Missed path ∷ []) (one_absent path)
  has_failed : (path : List ℕ) (others : List (List ℕ)) → LoadsFiles (path ∷ others) (ReadFailed path ∷ []) (one_unread path)
  is_bad : (path bytes behind : List ℕ) (flows : List Flow) (others : List (List ℕ)) (offset : ℕ) → HasFlows bytes flows behind → IsBadPlace behind →
      offset ≡ length bytes - length behind → LoadsFiles (path ∷ others) (Read path bytes ∷ []) (one_bad path offset)
  breaks_off : (paths : List (List ℕ)) → LoadsFiles paths [] unloaded
  breaks_off_in : (path bytes : List ℕ) (others : List (List ℕ)) → LoadsFiles (path ∷ others) (Read path bytes ∷ []) unloaded

-- the path of a call
abbrev pub path_read : FileCall → List ℕ
path_read (Read path bytes) = path
path_read (Missed path) = path
path_read (ReadFailed path) = path
path_read (Appended path bytes) = path
path_read (AppendFailed path) = path

-- ---- two lists of files, one behind the other

-- the flows that were loaded
abbrev pub flows_in : Loaded → List Flow
flows_in (loaded flows) = flows
flows_in came = []

-- what came of both: the first that was not loaded, or what came of the second
abbrev pub behind_loaded : Loaded → Loaded → Loaded
behind_loaded (loaded flows) second = second
behind_loaded came second = came

-- The files of the second list are read where those of the first were all loaded.
abbrev pub LoadsBehind : List (List ℕ) → Loaded → List FileCall → Loaded → Type 0
LoadsBehind paths (loaded flows) calls second = LoadsFiles paths calls second
LoadsBehind paths came calls second = (calls ≡ []) × (second ≡ loaded [])

pub record LoadsBoth (first_paths second_paths : List (List ℕ)) (calls : List FileCall) (first second : Loaded) : Type 0 where
  pub first_calls : List FileCall
  pub second_calls : List FileCall
  pub all : calls ≡ first_calls ++ second_calls
  pub loads : LoadsFiles first_paths first_calls first
  pub then_loads : LoadsBehind second_paths first second_calls second
