-- What a run promises with the words `convert FILE OUT`, and with `pick FILE FILTER OUT` once it has its filter.
--
-- The file is read, once, and judged whole; then each of its entries, or each on which the filter holds, is written anew and appended to OUT, in their order, with the pairs that the
-- program does not know. An entry whose text is too long for a length adds nothing.
use Rattle.std.specs.Prelude.{◌≡◌, ◌⊎◌, ℕ, Bool, nat_le, if◌then◌else◌, List, [], ◌∷◌, ◌++◌, length, map, filter, Option, None, Some}
use Rattle.std.specs.List.{flat_map}
use Rattle.px_text.specs.Prefix.{IsPrefixOf}
use Rattle.px_outside.specs.declared.files.FileCall.{FileCall}
use Rattle.px_outside.specs.declared.files.FileCall.TheVariants.{Read, Missed, ReadFailed}
use Rattle.px_core.specs.Answers.{FilesMeaning}
use Rattle.px_filter.specs.Expression.{Expression}
use Rattle.px_filter.specs.Holds.{holds}
use Rattle.px_map.specs.Reads.{Made}
use Rattle.px_addons.specs.Mapped.{seen_of}
use Rattle.px_flowfile.specs.FlowTable.{flow_tree}
use Rattle.px_flowfile.specs.OthersView.{others_view}
use Rattle.px_flowfile.specs.declared.entry.Entry.{Entry}
use Rattle.px_tnet.specs.Frame.{too_many}
use Rattle.px_tnet.specs.Tree.{Tree}
use Rattle.px_tnet.specs.Written.{payload, written}
use Rattle.px_words.specs.Appends.{Append, IsKept, IsMade, Piece, lost, piece_at, put}
use Rattle.px_words.specs.FlowFile.{HasEntries, IsBadPlace}
use Rattle.px_words.specs.Flows.{place_line}
use Rattle.px_words.specs.Lines.{cannot_read}
use Rattle.px_words.specs.Outside.{IsTold, Outside}
use Rattle.px_words.specs.Stops.{Stops}

-- ---- what is appended

abbrev pub entry_tree : Entry → Tree
entry_tree entry = flow_tree entry.flow (others_view entry.others)

-- the text of an entry, with its other pairs; one that is too long for a length has none
abbrev pub entry_texts : Entry → List (List ℕ)
entry_texts entry = if nat_le too_many (length (payload (entry_tree entry))) then [] else written (entry_tree entry) ∷ []

-- whether the filter holds on the flow of an entry
abbrev pub fits : Expression → Entry → Bool
fits expression entry = holds entry.flow expression

-- the entries that are taken, in their order: all of them, or those on which the filter holds
abbrev pub chosen_by : Option Expression → List Entry → List Entry
chosen_by None entries = entries
chosen_by (Some expression) entries = filter (fits expression) entries

-- what is to be put of these entries at the end of the file of this path, in their order
abbrev pub pieces_for : Option Expression → List ℕ → List Entry → List Piece
pieces_for choice to entries = map (piece_at to) (flat_map entry_texts (chosen_by choice entries))

-- these appends were made, one behind the other, and nothing else was done to files
pub data AreMade (first : FilesMeaning) : List Append → FilesMeaning → Type 0 where
  nothing_made : AreMade first [] first
  one_made : (made next : List Append) (one : Append) (before after : FilesMeaning) →
      AreMade first made before → IsMade one before after → next ≡ made ++ one ∷ [] → AreMade first next after

-- ---- what came of the file

pub data Taken : Type 0 where
  -- memory ran out before it was read
  nothing_taken : Taken
  -- nothing stands under its path
  was_absent : Taken
  -- it was not read
  was_unread : Taken
  -- these bytes were read
  taken : (bytes : List ℕ) → Taken

-- the reads that were made, of the file of this path
abbrev pub takes_of : List ℕ → Taken → List FileCall
takes_of path nothing_taken = []
takes_of path was_absent = Missed path ∷ []
takes_of path was_unread = ReadFailed path ∷ []
takes_of path (taken bytes) = Read path bytes ∷ []

-- The append of an entry's text failed: all that is to be put of the entries in front of it was put, and nothing of those behind it.
pub record LostAt (choice : Option Expression) (to : List ℕ) (entries : List Entry) (made : List Append) : Type 0 where
  pub front : List Entry
  pub entry : Entry
  pub piece : Piece
  pub split : entries ≡ front ++ entry ∷ []
  pub text : pieces_for choice to (entry ∷ []) ≡ piece ∷ []
  pub appends : made ≡ map put (pieces_for choice to front) ++ lost piece ∷ []

-- The file's entries were gone through from its front, to its end or to the first place that has none, and then once more from its front, with what is to be
-- put of each. These are the entries so far: all in front of a bad place, or those that were put.
pub record Copies (out_failed append_failed : Type 0) (choice : Option Expression) (path to bytes : List ℕ) (read after : FilesMeaning) (start now : Option (List ℕ)) (status : ℕ) : Type 0 where
  pub entries : List Entry
  pub behind : List ℕ
  pub has : HasEntries bytes entries behind
  pub statuses : (status ≡ 0) ⊎ ((status ≡ 4) ⊎ ((status ≡ 7) ⊎ (status ≡ 8)))
  -- the appends, and the files as they left them; memory may have run out in one more, which changed no file
  pub made : List Append
  pub last : FilesMeaning
  pub appends : AreMade read made last
  pub kept : (after ≡ last) ⊎ ((status ≡ 8) × IsKept last after)
  -- with 0 the entries are all of the file's, and all that is to be put of them was put
  pub ended : status ≡ 0 → (behind ≡ []) × (made ≡ map put (pieces_for choice to entries))
  -- with 4 a bad place stands behind them, and nothing was appended
  pub bad : status ≡ 4 → IsBadPlace behind × (made ≡ [])
  -- with 7 an append failed, the last
  pub lost_one : status ≡ 7 → append_failed × LostAt choice to entries made
  pub part : status ≡ 8 → IsPrefixOf made (map put (pieces_for choice to entries))
  -- the line of the bad place is printed, and else nothing
  pub ends : IsTold out_failed status (place_line path bytes behind status) start now

module _ (net_is_same out_failed append_failed notes_failed : Type 0) (choice : Option Expression) (path to : List ℕ) where
  -- the run by what came of the file
  abbrev pub CopiesOn : Taken → Outside → FilesMeaning → Outside → ℕ → Type 0
  CopiesOn nothing_taken before read after status = Stops net_is_same out_failed notes_failed 8 [] [] read before after status
  CopiesOn was_absent before read after status = Stops net_is_same out_failed notes_failed 3 (cannot_read path) [] read before after status
  CopiesOn was_unread before read after status = Stops net_is_same out_failed notes_failed 3 (cannot_read path) [] read before after status
  CopiesOn (taken bytes) before read after status =
      Copies out_failed append_failed choice path to bytes read after.files before.written after.written status × (after.noted ≡ before.noted)

  -- The file of this path is read, once and first, and this came of it. Nothing is asked of the network.
  pub record CopiesFile (what : Taken) (before after : Outside) (status : ℕ) : Type 0 where
    pub read : FilesMeaning
    pub net : net_is_same
    pub reads : Made (takes_of path what) (seen_of before.files) (seen_of read)
    pub copies : CopiesOn what before read after status

-- with the words `convert FILE OUT`: all of its entries
abbrev pub ConvertsFile : Type 0 → Type 0 → Type 0 → Type 0 → List ℕ → List ℕ → Taken → Outside → Outside → ℕ → Type 0
ConvertsFile net_is_same out_failed append_failed notes_failed path to = CopiesFile net_is_same out_failed append_failed notes_failed None path to
