-- What is saved of finished flows, and how far a run came that prints and saves.
--
-- Of each finished flow its line is printed, and then its text is put at the save file's end, where the save filter takes the flow. After a
-- write or an append that failed nothing more is printed or appended.
use Rattle.std.specs.Prelude.{◌≡◌, ◌≤◌, ℕ, Bool, true, nat_le, if◌then◌else◌, List, [], ◌∷◌, ◌++◌, length, map, Option, Some, None, option_map, Result, Ok, Err, Vec}
use Rattle.std.specs.List.{flat_map}
use Rattle.px_text.specs.Prefix.{IsPrefixOf}
use Rattle.px_text.specs.declared.no_memory.NoMemory.{NoMemory}
use Rattle.px_message.specs.declared.flow.Flow.{Flow}
use Rattle.px_outside.specs.Sink.{Writes, WritesPart}
use Rattle.px_core.specs.Answers.{FilesMeaning}
use Rattle.px_filter.specs.Expression.{Expression}
use Rattle.px_filter.specs.Holds.{holds}
use Rattle.px_filter.specs.View.{expression}
use Rattle.px_flowfile.specs.FlowTable.{flow_tree}
use Rattle.px_options.specs.View.{path_view}
use Rattle.px_tnet.specs.Frame.{too_many}
use Rattle.px_tnet.specs.Tree.{Tree, no_pair}
use Rattle.px_tnet.specs.Written.{payload, written}
use Rattle.px_view.specs.Line.{flow_line}
use Rattle.px_words.specs.Appends.{Append, IsKept, IsLost, IsMade, IsPut, Piece, lost, piece_at, piece_in, put}
use Rattle.px_app.specs.declared.printing.Printing.{Printing}
use Rattle.px_app.specs.declared.printing.Printing.TheVariants.{Whole, Failed}
use Rattle.px_app.specs.declared.saving.Saving.{Saving}

-- where flows are saved, and which: all, or those on which the filter holds
pub record SavesTo : Type 0 where
  pub path : List ℕ
  pub filter : Option Expression

-- where and which flows a `Saving` saves
abbrev pub saves_to : Saving → SavesTo
saves_to saving = record { path = path_view saving.path; filter = option_map expression saving.filter }

abbrev pub saves_to_of : Option Saving → Option SavesTo
saves_to_of saving = option_map saves_to saving

abbrev pub is_taken : Option Expression → Flow → Bool
is_taken None flow = true
is_taken (Some expression) flow = holds flow expression

-- the tree of a flow, with no other pairs
abbrev pub tree_of : Flow → Tree
tree_of flow = flow_tree flow no_pair

-- the text of a flow; one that is too long for a length has none
abbrev pub texts_of : Flow → List (List ℕ)
texts_of flow = if nat_le too_many (length (payload (tree_of flow))) then [] else written (tree_of flow) ∷ []

-- what is to be put of a flow: its text, where it is taken
abbrev pub pieces_of : Option SavesTo → Flow → List Piece
pieces_of None flow = []
pieces_of (Some to) flow = if is_taken to.filter flow then map (piece_at to.path) (texts_of flow) else []

-- what is to be put of these flows, in their order
abbrev pub saved : Option SavesTo → List Flow → List Piece
saved to flows = flat_map (pieces_of to) flows

-- These appends were made, one behind the other and nothing else, each of a piece that is to be put of some flow.
pub data Appending (to : Option SavesTo) (first : FilesMeaning) : List Append → FilesMeaning → Type 0 where
  none_made : Appending to first [] first
  one_made : (made next : List Append) (one : Append) (flow : Flow) (before after : FilesMeaning) →
      Appending to first made before → pieces_of to flow ≡ piece_in one ∷ [] → IsMade one before after → next ≡ made ++ one ∷ [] → Appending to first next after

-- Such appends, behind which memory ran out: elsewhere, or in an append, which changed no file and is not listed.
pub data BrokeAppending (to : Option SavesTo) (first : FilesMeaning) (made : List Append) (now : FilesMeaning) : Type 0 where
  broke_elsewhere : Appending to first made now → BrokeAppending to first made now
  broke_at : (last : FilesMeaning) (piece : Piece) (flow : Flow) → Appending to first made last → pieces_of to flow ≡ piece ∷ [] → IsKept last now → BrokeAppending to first made now

abbrev pub AppendsBy : Result Printing NoMemory → Option SavesTo → FilesMeaning → List Append → FilesMeaning → Type 0
AppendsBy (Ok printing) to first made now = Appending to first made now
AppendsBy (Err e) to first made now = BrokeAppending to first made now

-- A run that printed and saved stopped at a flow: at its line, which was printed in part, or at its text, whose append failed. All of
-- the flows in front of it stands there, and nothing of those behind it.
pub data StopsAt (to : Option SavesTo) (prefix : List Flow) (flow : Flow) (start now : Option (List ℕ)) (made : List Append) : Type 0 where
  at_line : (mid : Option (List ℕ)) → Writes (flat_map flow_line prefix) start mid → WritesPart (flow_line flow) mid now →
      made ≡ map put (saved to prefix) → StopsAt to prefix flow start now made
  at_text : (piece : Piece) → Writes (flat_map flow_line (prefix ++ flow ∷ [])) start now → pieces_of to flow ≡ piece ∷ [] →
      made ≡ map put (saved to prefix) ++ lost piece ∷ [] → StopsAt to prefix flow start now made

pub record HasStopped (to : Option SavesTo) (flows : List Flow) (start now : Option (List ℕ)) (made : List Append) : Type 0 where
  pub prefix : List Flow
  pub flow : Flow
  pub rest : List Flow
  pub split : flows ≡ prefix ++ flow ∷ rest
  pub stops : StopsAt to prefix flow start now made

-- How far a run came with these flows, whose sink began so: all of them are printed and saved, or it stopped.
abbrev pub Came : Printing → Option SavesTo → List Flow → Option (List ℕ) → Option (List ℕ) → List Append → Type 0
Came Whole to flows start now made = Writes (flat_map flow_line flows) start now × (made ≡ map put (saved to flows))
Came Failed to flows start now made = HasStopped to flows start now made

-- Where memory ran out: a beginning of the lines is printed, and a beginning of the pieces was put.
pub record Broke (to : Option SavesTo) (flows : List Flow) (start now : Option (List ℕ)) (made : List Append) : Type 0 where
  pub printed : WritesPart (flat_map flow_line flows) start now
  pub put_so_far : IsPrefixOf made (map put (saved to flows))

abbrev pub CameOrBroke : Result Printing NoMemory → Option SavesTo → List Flow → Option (List ℕ) → Option (List ℕ) → List Append → Type 0
CameOrBroke (Ok printing) to flows start now made = Came printing to flows start now made
CameOrBroke (Err e) to flows start now made = Broke to flows start now made

-- These flows were printed and saved, after it went so before; this is what was appended. After a failure nothing is done.
pub record Puts (to : Option SavesTo) (was : Printing) (flows : List Flow) (result : Result Printing NoMemory) (old new : FilesMeaning) (before after : Option (List ℕ)) : Type 0 where
  pub made : List Append
  pub appends : AppendsBy result to old made new
  pub goes : (start : Option (List ℕ)) (earlier : List Flow) (made_before : List Append) → Came was to earlier start before made_before →
      CameOrBroke result to (earlier ++ flows) start after (made_before ++ made)
  pub still : was ≡ Failed → (result ≡ Ok Failed) × (made ≡ []) × (new ≡ old) × (after ≡ before)

-- the texts that this is: one, or none
abbrev pub texts_in : {A : Type 0} → Option (Vec ℕ A) → List (List ℕ)
texts_in None = []
texts_in (Some text) = text.items ∷ []

-- what came of one append
abbrev pub CameOfAppend : Result Printing NoMemory → Piece → FilesMeaning → FilesMeaning → Type 0
CameOfAppend (Ok Whole) piece before after = IsPut piece before after
CameOfAppend (Ok Failed) piece before after = IsLost piece before after
CameOfAppend (Err e) piece before after = IsKept before after

-- what was appended of the pieces of one flow
abbrev pub MadeOf : Result Printing NoMemory → List Piece → List Append → Type 0
MadeOf (Ok Whole) pieces made = made ≡ map put pieces
MadeOf (Ok Failed) pieces made = (piece : Piece) × (pieces ≡ piece ∷ []) × (made ≡ lost piece ∷ [])
MadeOf (Err e) pieces made = made ≡ []

-- This flow was saved; this is what was appended.
pub record Saves (to : Option SavesTo) (flow : Flow) (result : Result Printing NoMemory) (old new : FilesMeaning) : Type 0 where
  pub made : List Append
  pub appends : AppendsBy result to old made new
  pub gives : MadeOf result (pieces_of to flow) made

-- The appends made of these pieces, from the first on: each was put, or the last of them was lost.
pub data ArePut (pieces : List Piece) (made : List Append) : Type 0 where
  all_put : (prefix : List Piece) → IsPrefixOf prefix pieces → made ≡ map put prefix → ArePut pieces made
  last_lost : (prefix : List Piece) (piece : Piece) → IsPrefixOf (prefix ++ piece ∷ []) pieces → made ≡ map put prefix ++ lost piece ∷ [] → ArePut pieces made

-- The counts of reads are as they were, and that of failed appends only rose.
pub record KeepsCounts (first now : FilesMeaning) : Type 0 where
  pub misses : now.misses ≡ first.misses
  pub faults : now.faults ≡ first.faults
  pub losses : first.losses ≤ now.losses
