use Rattle.px_wire.proofs.AskedLemmas.{told_kept, same_kept}
use Rattle.px_wire.proofs.TableLemmas.{hears_plain, hears_piece, hears_closed, hears_undialled}
use Rattle.px_wire.proofs.hear.hear.Goals as goal

pub returns-in-Ok-clause-plain : goal.returns-in-Ok-clause-plain
returns-in-Ok-clause-plain g c = λ endpoints accepted is stands.
    hears_plain accepted c.args.moment _ _ endpoints c.args.heard is c.in-Ok.ensures.told stands

pub returns-in-Ok-clause-piece : goal.returns-in-Ok-clause-piece
returns-in-Ok-clause-piece g c = λ front back endpoint accepted bytes is stands.
    hears_piece accepted c.args.moment _ _ front back endpoint bytes c.args.heard is c.in-Ok.ensures.told stands

pub returns-in-Ok-clause-closed : goal.returns-in-Ok-clause-closed
returns-in-Ok-clause-closed g c = λ front back endpoint accepted is over stands.
    hears_closed accepted c.args.moment _ _ front back endpoint c.args.heard is over c.in-Ok.ensures.told stands

pub returns-in-Ok-clause-dialled : goal.returns-in-Ok-clause-dialled
returns-in-Ok-clause-dialled g c = λ front back endpoint accepted server is side stands.
    hears_undialled accepted c.args.moment _ _ front back endpoint server c.args.heard is side c.in-Ok.ensures.told stands

pub returns-in-Ok-clause-kept : goal.returns-in-Ok-clause-kept
returns-in-Ok-clause-kept g c = told_kept _ _ _ c.in-Ok.ensures.told

pub returns-in-Err-clause-kept : goal.returns-in-Err-clause-kept
returns-in-Err-clause-kept g c = same_kept _ _ c.in-Err.ensures.calls_err
