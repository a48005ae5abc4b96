-- A line behind others.
use Rattle.std.proofs.Common.{◌≡◌, List, [], ◌∷◌, Ok, Err, refl, ap}
use Rattle.px_draft.specs.declared.edit.Edit.{Edit}
use Rattle.px_draft.specs.declared.edited.Edited.{Edited}
use Rattle.px_draft.specs.declared.error.EditError.{EditError}
use Rattle.px_draft.specs.Edits.{behind, changed, kept}
use Rattle.px_draft.specs.Laws.{LinesFollow}

-- what a call made is what stands behind its line
pub taken_behind : (change : Edit) (draft next : Edited) → changed change draft ≡ Ok next → behind draft change ≡ next
taken_behind change draft next is = ap (kept draft) is

pub refused_behind : (change : Edit) (draft : Edited) (refusal : EditError) → changed change draft ≡ Err refusal → behind draft change ≡ draft
refused_behind change draft refusal is = ap (kept draft) is

pub lines_follow : LinesFollow
lines_follow [] more draft = refl
lines_follow (change ∷ changes) more draft = lines_follow changes more (behind draft change)
