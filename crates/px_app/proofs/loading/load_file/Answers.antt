use Rattle.std.proofs.Common.{Err, [], ◌∷◌, ap}
use Rattle.std.proofs.lemmas.Result.{IfErr-weaker}
use Rattle.px_outside.specs.declared.files.FileCall.TheVariants.{Read, Missed, ReadFailed}
use Rattle.px_map.proofs.ReadsLemmas.{lists_none, lists_one, rose_none}
use Rattle.px_app.specs.Loaded.{breaks_off, has_failed, is_absent}
use Rattle.px_app.proofs.loading.load_file.Goals as goal

pub returns-in-Ok-clause-err : goal.returns-in-Ok-clause-err
returns-in-Ok-clause-err g c =
    let e = c.in-Ok.ensures in
    let path = c.args.path.now in
    let bytes = c.in-Ok.bytes.items in
    IfErr-weaker c.load_bytes.result _ _ (λ error stops.
    record {
      calls = Read path bytes ∷ [];
      made = record {
        listed = lists_one (Read path bytes) _ _ e.listed;
        stood = (e.ok, tt);
        contents = e.contents;
        misses = rose_none _ _ e.later_misses;
        faults = rose_none _ _ e.later_faults;
        losses = e.losses;
      };
      stops = stops;
    })
    c.load_bytes.ensures.err

pub returns-in-Err-Absent-clause-err : goal.returns-in-Err-Absent-clause-err
returns-in-Err-Absent-clause-err g c =
    let e = c.in-Err-Absent.ensures in
    let path = c.args.path.now in
    let is = ap Err c.in-Err-Absent.field-0-is in
    record {
      calls = Missed path ∷ [];
      made = record {
        listed = lists_one (Missed path) _ _ (e.listed_absent is);
        stood = (e.absent is, tt);
        contents = e.contents;
        misses = e.missed is;
        faults = rose_none _ _ e.later_faults;
        losses = e.losses;
      };
      stops = λ others. is_absent path others;
    }

pub returns-in-Err-Failed-clause-err : goal.returns-in-Err-Failed-clause-err
returns-in-Err-Failed-clause-err g c =
    let e = c.in-Err-Failed.ensures in
    let path = c.args.path.now in
    let is = ap Err c.in-Err-Failed.field-0-is in
    record {
      calls = ReadFailed path ∷ [];
      made = record {
        listed = lists_one (ReadFailed path) _ _ (e.listed_failed is);
        stood = tt;
        contents = e.contents;
        misses = rose_none _ _ e.later_misses;
        faults = e.failed is;
        losses = e.losses;
      };
      stops = λ others. has_failed path others;
    }

pub returns-in-Err-NoMemory-clause-err : goal.returns-in-Err-NoMemory-clause-err
returns-in-Err-NoMemory-clause-err g c =
    let e = c.in-Err-NoMemory.ensures in
    let path = c.args.path.now in
    let is = ap Err c.in-Err-NoMemory.field-0-is in
    record {
      calls = [];
      made = record {
        listed = lists_none _ _ (e.not_listed is);
        stood = tt;
        contents = e.contents;
        misses = rose_none _ _ e.later_misses;
        faults = rose_none _ _ e.later_faults;
        losses = e.losses;
      };
      stops = λ others. breaks_off (path ∷ others);
    }
