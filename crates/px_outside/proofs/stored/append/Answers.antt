use Rattle.std.proofs.Common.{refl, sym}
use Rattle.std.proofs.lemmas.List.Quantifiers.{position-Some}
use Rattle.std.proofs.lemmas.Result.{err_from_is_err_and}
use Rattle.px_outside.proofs.StoredLemmas.{is_of, appended_at, same_at, new_file, all_fail}
use Rattle.px_outside.proofs.stored.append.Goals as goal

pub returns-in_err-extend_from_slice-in-Some-clause-err :
    goal.returns-in_err-extend_from_slice-in-Some-clause-err
returns-in_err-extend_from_slice-in-Some-clause-err c =
    let file = c.index_mut-file.result.now in
    let answer = err_from_is_err_and c.from_residual.result c.from_residual.ensures.1 in
    rw answer.1 (same_at c.args.files.now.items c.in-Some.place file (file.0, c.extend_from_slice.new.self)
    c.index_mut-file.ensures.value refl c.in_err-extend_from_slice-in-Some.ensures.items)

pub returns-in_ok-extend_from_slice-in-Some-clause-ok :
    goal.returns-in_ok-extend_from_slice-in-Some-clause-ok
returns-in_ok-extend_from_slice-in-Some-clause-ok c =
    let file = c.index_mut-file.result.now in
    let is = c.index_mut-file.ensures.value in
    let found = rw c.as_slice.ensures.value at c.in-Some.ensures in
    let first = position-Some (is_of c.args.path.now) c.args.files.now.items c.in-Some.place file (sym found) in
    appended_at c.args.path.now c.args.bytes.now c.args.files.now.items c.in-Some.place file (file.0, c.extend_from_slice.new.self)
    first.0 first.1 first.2 (rw (← is) refl) (rw (← is) c.in_ok-extend_from_slice-in-Some.ensures.items)

pub returns-in_ok-push-in-None-clause-ok : goal.returns-in_ok-push-in-None-clause-ok
returns-in_ok-push-in-None-clause-ok c =
    let none = rw c.as_slice.ensures.value at c.in-None.ensures in
    new_file c.args.path.now c.args.bytes.now c.args.files.now.items c.push.new.self.items
    (c.in_ok-name-in-None.name, c.in_ok-from_slice-in-None.field-0)
    (all_fail (is_of c.args.path.now) c.args.files.now.items none) c.in_ok-push-in-None.ensures.items
    c.in_ok-name-in-None.ensures.ok c.in_ok-from_slice-in-None.ensures.items
