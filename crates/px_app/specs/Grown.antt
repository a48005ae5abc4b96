-- How the file grows where flows are saved.
use Rattle.std.specs.Prelude.{◌≡◌, ◌⊎◌, ℕ, List, [], ◌∷◌, ◌++◌, Option, Some, unwrap_or}
use Rattle.std.specs.List.{flat_map}
use Rattle.px_text.specs.Prefix.{IsPrefixOf}
use Rattle.px_message.specs.declared.flow.Flow.{Flow}
use Rattle.px_outside.specs.Files.{Contents}
use Rattle.px_app.specs.Saved.{SavesTo, pieces_of}
use Rattle.px_words.specs.Appends.{Append, Piece, lost, piece_in, put}

abbrev pub text_in : Piece → List ℕ
text_in piece = piece.text

-- the texts of pieces, one behind the other
abbrev pub texts : List Piece → List ℕ
texts pieces = flat_map text_in pieces

-- what appends add up to: all of the text of each that was put, and a prefix of the text of each that was lost
abbrev pub AddsUp : List Append → List ℕ → Type 0
AddsUp [] added = added ≡ []
AddsUp (put piece ∷ made) added = (more : List ℕ) × (added ≡ piece.text ++ more) × AddsUp made more
AddsUp (lost piece ∷ made) added = (part : List ℕ) × (more : List ℕ) × IsPrefixOf part piece.text × (added ≡ part ++ more) × AddsUp made more

-- each of them is of a piece that is to be put of some flow
abbrev pub AreOfFlows : Option SavesTo → List Append → Type 0
AreOfFlows to [] = Unit {0}
AreOfFlows to (one ∷ made) = ((flow : Flow) × (pieces_of to flow ≡ piece_in one ∷ [])) × AreOfFlows to made

-- this was added to what stands under a path, where an absent path counts as empty; it is absent still only where nothing was added
abbrev pub GrowsBy : List ℕ → Option (List ℕ) → Option (List ℕ) → Type 0
GrowsBy added before after = (after ≡ Some (unwrap_or before [] ++ added)) ⊎ ((added ≡ []) × (after ≡ before))

-- these texts were put at the end of what stood under the path
abbrev pub GrowsUnder : List ℕ → List ℕ → Contents → Contents → Type 0
GrowsUnder path added old new = GrowsBy added (old path) (new path)

-- what these appends add up to stands behind what stood under the path
pub record Grown (path : List ℕ) (made : List Append) (old new : Contents) : Type 0 where
  pub added : List ℕ
  pub adds : AddsUp made added
  pub grown : GrowsUnder path added old new
