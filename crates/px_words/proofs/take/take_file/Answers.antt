use Rattle.std.proofs.Common.{Err, ap, refl}
use Rattle.px_words.proofs.TakeLemmas.{no_read, one_failure, one_miss, one_read, stops_absent, stops_unread, stops_untaken}
use Rattle.px_words.proofs.take.take_file.Goals as goal

pub returns-in-Ok-clause-ok : goal.returns-in-Ok-clause-ok
returns-in-Ok-clause-ok g c =
    let e = c.in-Ok.ensures in one_read c.args.path.now c.in-Ok.bytes.items _ _ e.listed e.ok e.contents e.later_misses e.later_faults e.losses

pub returns-in-Err-Absent-clause-err : goal.returns-in-Err-Absent-clause-err
returns-in-Err-Absent-clause-err g c =
    let e = c.in-Err-Absent.ensures in
    let is = ap Err c.in-Err-Absent.field-0-is in
    stops_absent _ _ _ _ _ _ _ refl c.refuse_file.ensures.status c.refuse_file.ensures.prints c.refuse_file.ensures.notes
    (one_miss c.args.path.now _ _ (e.listed_absent is) (e.absent is) e.contents (e.missed is) e.later_faults e.losses)

pub returns-in-Err-Failed-clause-err : goal.returns-in-Err-Failed-clause-err
returns-in-Err-Failed-clause-err g c =
    let e = c.in-Err-Failed.ensures in
    let is = ap Err c.in-Err-Failed.field-0-is in
    stops_unread _ _ _ _ _ _ _ refl c.refuse_file-in-Err-Failed.ensures.status c.refuse_file-in-Err-Failed.ensures.prints c.refuse_file-in-Err-Failed.ensures.notes
    (one_failure c.args.path.now _ _ (e.listed_failed is) e.contents e.later_misses (e.failed is) e.losses)

pub returns-in-Err-NoMemory-clause-err : goal.returns-in-Err-NoMemory-clause-err
returns-in-Err-NoMemory-clause-err g c =
    let e = c.in-Err-NoMemory.ensures in
    stops_untaken _ _ _ _ _ _ _ refl refl refl refl (no_read _ _ (e.not_listed (ap Err c.in-Err-NoMemory.field-0-is)) e.contents e.later_misses e.later_faults e.losses)
