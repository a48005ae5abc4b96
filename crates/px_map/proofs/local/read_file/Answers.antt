use Rattle.std.proofs.Common.{◌∷◌, [], Some, Err, refl, sym, ap, subst}
use Rattle.px_outside.specs.declared.files.FileCall.TheVariants.{Read, Missed, ReadFailed}
use Rattle.px_map.specs.Reads.{Serves, is_there, has_failed, at_file, at_failure, nothing_yet}
use Rattle.px_map.proofs.ReadsLemmas.{lists_none, lists_one, rose_none}
use Rattle.px_map.proofs.local.read_file.Goals as goal

pub returns-in-Ok-file_response-clause-tried : goal.returns-in-Ok-file_response-clause-tried
returns-in-Ok-file_response-clause-tried g c =
    let e = c.in-Ok.ensures in
    let path = c.args.path.now in
    let bytes = c.in-Ok.bytes.items in (
      Read path bytes ∷ [],
      (path, refl, λ files. subst (Serves (Some path ∷ files) (Read path bytes ∷ [])) (sym c.in-Ok-file_response.ensures) (is_there path bytes files)),
      record {
        listed = lists_one (Read path bytes) _ _ e.listed;
        stood = (e.ok, tt);
        contents = e.contents;
        misses = rose_none _ _ e.later_misses;
        faults = rose_none _ _ e.later_faults;
        losses = e.losses;
      },
    )

pub returns-in-Err-clause-stopped : goal.returns-in-Err-clause-stopped
returns-in-Err-clause-stopped g c =
    let e = c.in-Ok.ensures in
    let path = c.args.path.now in
    let bytes = c.in-Ok.bytes.items in (
      Read path bytes ∷ [],
      at_file path bytes [],
      record {
        listed = lists_one (Read path bytes) _ _ e.listed;
        stood = (e.ok, tt);
        contents = e.contents;
        misses = rose_none _ _ e.later_misses;
        faults = rose_none _ _ e.later_faults;
        losses = e.losses;
      },
    )

pub returns-in-Err-Absent-clause-tried : goal.returns-in-Err-Absent-clause-tried
returns-in-Err-Absent-clause-tried g c =
    let e = c.in-Err-Absent.ensures in
    let is = ap Err c.in-Err-Absent.field-0-is in
    let path = c.args.path.now in (
      Missed path ∷ [],
      (Some path, refl, refl),
      record {
        listed = lists_one (Missed path) _ _ (e.listed_absent is);
        stood = (e.absent is, tt);
        contents = e.contents;
        misses = e.missed is;
        faults = rose_none _ _ e.later_faults;
        losses = e.losses;
      },
    )

pub returns-in-Ok-internal_error-clause-tried : goal.returns-in-Ok-internal_error-clause-tried
returns-in-Ok-internal_error-clause-tried g c =
    let e = c.in-Err-Failed.ensures in
    let is = ap Err c.in-Err-Failed.field-0-is in
    let path = c.args.path.now in (
      ReadFailed path ∷ [],
      (path, refl, λ files. subst (Serves (Some path ∷ files) (ReadFailed path ∷ [])) (sym c.in-Ok-internal_error.ensures) (has_failed path files)),
      record {
        listed = lists_one (ReadFailed path) _ _ (e.listed_failed is);
        stood = tt;
        contents = e.contents;
        misses = rose_none _ _ e.later_misses;
        faults = e.failed is;
        losses = e.losses;
      },
    )

pub returns-in-Err-internal_error-clause-stopped : goal.returns-in-Err-internal_error-clause-stopped
returns-in-Err-internal_error-clause-stopped g c =
    let e = c.in-Err-Failed.ensures in
    let is = ap Err c.in-Err-Failed.field-0-is in
    let path = c.args.path.now in (
      ReadFailed path ∷ [],
      at_failure path [],
      record {
        listed = lists_one (ReadFailed path) _ _ (e.listed_failed is);
        stood = tt;
        contents = e.contents;
        misses = rose_none _ _ e.later_misses;
        faults = e.failed is;
        losses = e.losses;
      },
    )

pub returns-in-Err-NoMemory-clause-stopped : goal.returns-in-Err-NoMemory-clause-stopped
returns-in-Err-NoMemory-clause-stopped g c =
    let e = c.in-Err-NoMemory.ensures in
    let is = ap Err c.in-Err-NoMemory.field-0-is in
    let path = c.args.path.now in (
      [],
      nothing_yet (Some path ∷ []),
      record {
        listed = lists_none _ _ (e.not_listed is);
        stood = tt;
        contents = e.contents;
        misses = rose_none _ _ e.later_misses;
        faults = rose_none _ _ e.later_faults;
        losses = e.losses;
      },
    )
