use Rattle.std.proofs.Common.{sym, ◌∙◌, ap, Some, []}
use Rattle.std.proofs.lemmas.List.Quantifiers.{position-Some}
use Rattle.px_outside.proofs.StoredLemmas.{is_of, contents_at, nothing_at, all_fail}
use Rattle.px_outside.proofs.stored.find.Goals as goal

pub returns-in-Some : goal.returns-in-Some
returns-in-Some c =
    let first = position-Some (is_of c.args.path.now) c.args.files.now c.in-Some.place c.index-files-place.result (sym c.in-Some.ensures) in
    let found = contents_at c.args.path.now c.args.files.now c.in-Some.place c.index-files-place.result first.0 first.1 first.2 in
    ap Some c.as_slice.ensures.value ∙ sym found

pub returns-in-None : goal.returns-in-None
returns-in-None c =
    sym (nothing_at c.args.path.now [] c.args.files.now (all_fail (is_of c.args.path.now) c.args.files.now c.in-None.ensures)).0
