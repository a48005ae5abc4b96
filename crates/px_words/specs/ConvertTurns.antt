-- What is made of one entry of a file that is converted or picked from, and of all of them.
use Rattle.std.specs.Prelude.{◌≡◌, ℕ, Bool, true, List, [], ◌∷◌, map, Option, Some, None, Result, Ok, Err, Vec}
use Rattle.px_message.specs.declared.flow.Flow.{Flow}
use Rattle.px_core.specs.Answers.{FilesMeaning}
use Rattle.px_filter.specs.Expression.{Expression}
use Rattle.px_filter.specs.Holds.{holds}
use Rattle.px_flowfile.specs.declared.entry.Entry.{Entry}
use Rattle.px_words.specs.Appends.{Append, IsKept, IsLost, IsPut, Piece, put}
use Rattle.px_words.specs.Converts.{AreMade, LostAt, pieces_for}
use Rattle.px_words.specs.FlowFile.{HasEntries}
use Rattle.px_words.specs.declared.whole.Unfinished.{Unfinished}
use Rattle.px_words.specs.declared.whole.Unfinished.TheVariants as breaks

-- whether an entry of this flow is chosen
abbrev pub is_chosen : Option Expression → Flow → Bool
is_chosen None flow = true
is_chosen (Some expression) flow = holds flow expression

-- the text, where there is one
abbrev pub texts_in : {A : Type 0} → Option (Vec ℕ A) → List (List ℕ)
texts_in None = []
texts_in (Some text) = text.items ∷ []

-- what one append came to: the text stands there, or it failed, or memory ran out
abbrev pub AppendsSo : {T : Type 0} → Type 0 → Piece → FilesMeaning → FilesMeaning → Result T Unfinished → Type 0
AppendsSo failed piece before after (Ok _) = IsPut piece before after
AppendsSo failed piece before after (Err breaks.Failed) = failed × IsLost piece before after
AppendsSo failed piece before after (Err breaks.NoMemory) = IsKept before after

-- what an entry came to: all that is to be put of it was put, or its append failed, or memory ran out
abbrev pub CopiesOne : {T : Type 0} → Type 0 → Option Expression → List ℕ → Entry → FilesMeaning → FilesMeaning → Result T Unfinished → Type 0
CopiesOne failed choice to entry before after (Ok _) = AreMade before (map put (pieces_for choice to (entry ∷ []))) after
CopiesOne failed choice to entry before after (Err breaks.Failed) = failed × (piece : Piece) × (pieces_for choice to (entry ∷ []) ≡ piece ∷ []) × IsLost piece before after
CopiesOne failed choice to entry before after (Err breaks.NoMemory) = IsKept before after

-- the append of an entry failed, behind those in front of it
pub record LosesOne (choice : Option Expression) (to bytes : List ℕ) (before after : FilesMeaning) : Type 0 where
  pub entries : List Entry
  pub behind : List ℕ
  pub has : HasEntries bytes entries behind
  pub made : List Append
  pub lost : LostAt choice to entries made
  pub appends : AreMade before made after

-- all that is to be put of these entries was put, and then memory ran out
pub record StopsCopying (choice : Option Expression) (to bytes : List ℕ) (before after : FilesMeaning) : Type 0 where
  pub entries : List Entry
  pub behind : List ℕ
  pub has : HasEntries bytes entries behind
  pub last : FilesMeaning
  pub appends : AreMade before (map put (pieces_for choice to entries)) last
  pub kept : IsKept last after

-- what the entries of a text came to, which is whole
abbrev pub CopiesAll : {T : Type 0} → Type 0 → Option Expression → List ℕ → List ℕ → FilesMeaning → FilesMeaning → Result T Unfinished → Type 0
CopiesAll failed choice to bytes before after (Ok _) = (entries : List Entry) × HasEntries bytes entries [] × AreMade before (map put (pieces_for choice to entries)) after
CopiesAll failed choice to bytes before after (Err breaks.Failed) = failed × LosesOne choice to bytes before after
CopiesAll failed choice to bytes before after (Err breaks.NoMemory) = StopsCopying choice to bytes before after
