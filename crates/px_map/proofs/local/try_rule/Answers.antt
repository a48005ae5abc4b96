use Rattle.std.proofs.Common.{◌≡◌, ◌∙◌, ◌∷◌, [], None, Some, ap, refl, string_bytes, sym}
use Rattle.px_rule.proofs.BodyLemmas.{on_err}
use Rattle.px_map.specs.Reads.{nothing_yet}
use Rattle.px_map.specs.Tried.{names_in}
use Rattle.px_map.proofs.ReadsLemmas.{made_none}
use Rattle.px_map.proofs.local.try_rule.Goals as goal

pub returns-in_err-name-clause-stopped : goal.returns-in_err-name-clause-stopped
returns-in_err-name-clause-stopped g c = on_err c.from_residual.result _ ([], nothing_yet _, made_none _)

pub returns-in-Nothing-clause-tried : goal.returns-in-Nothing-clause-tried
returns-in-Nothing-clause-tried g c = ([], (None, sym c.in_ok-name.ensures ∙ ap names_in c.in-Nothing.is, refl), made_none _)

pub returns-in-File-clause-unread : goal.returns-in-File-clause-unread
returns-in-File-clause-unread g c none =
    let one : Some (string_bytes c.in-File.path) ∷ [] ≡ [] = ap names_in (sym c.in-File.is) ∙ c.in_ok-name.ensures ∙ none in
    absurd cc
