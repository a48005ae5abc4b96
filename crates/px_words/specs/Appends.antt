-- Appends to files: what is put where, and what each came to.
use Rattle.std.specs.Prelude.{◌≡◌, ◌≤◌, ℕ, List}
use Rattle.px_outside.specs.Count.{Rose}
use Rattle.px_outside.specs.Files.{Appends, AppendsPart, Lists, SameContents, Told}
use Rattle.px_outside.specs.declared.files.FileCall.TheVariants.{Appended, AppendFailed}
use Rattle.px_core.specs.Answers.{FilesMeaning}

-- a text, and the path at whose end it is put
pub record Piece : Type 0 where
  pub path : List ℕ
  pub text : List ℕ

abbrev pub piece_at : List ℕ → List ℕ → Piece
piece_at path text = record { path = path; text = text }

-- an append: all of its text was put, or it failed
pub data Append : Type 0 where
  put : (piece : Piece) → Append
  lost : (piece : Piece) → Append

abbrev pub piece_in : Append → Piece
piece_in (put piece) = piece
piece_in (lost piece) = piece

-- all of the text stands at the file's end, and the append is listed
pub record IsPut (piece : Piece) (before after : FilesMeaning) : Type 0 where
  pub contents : Told (Appends piece.path piece.text) before.contents after.contents
  pub listed : Lists (Appended piece.path piece.text) before.calls after.calls
  pub misses : after.misses ≡ before.misses
  pub faults : after.faults ≡ before.faults
  pub losses : before.losses ≤ after.losses

-- a part of the text may stand there, and the append is listed as one that failed
pub record IsLost (piece : Piece) (before after : FilesMeaning) : Type 0 where
  pub contents : Told (AppendsPart piece.path piece.text) before.contents after.contents
  pub listed : Lists (AppendFailed piece.path) before.calls after.calls
  pub misses : after.misses ≡ before.misses
  pub faults : after.faults ≡ before.faults
  pub losses : Rose before.losses after.losses
  pub later : before.losses ≤ after.losses

-- memory ran out in an append: no file changed, and it is not listed
pub record IsKept (before after : FilesMeaning) : Type 0 where
  pub contents : Told SameContents before.contents after.contents
  pub calls : after.calls ≡ before.calls
  pub misses : after.misses ≡ before.misses
  pub faults : after.faults ≡ before.faults
  pub losses : before.losses ≤ after.losses

abbrev pub IsMade : Append → FilesMeaning → FilesMeaning → Type 0
IsMade (put piece) before after = IsPut piece before after
IsMade (lost piece) before after = IsLost piece before after
