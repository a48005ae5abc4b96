use Rattle.std.proofs.Common.{Err, Ok, IfErr, IfOk, List, ℕ, inl, inr, ap, subst}
use Rattle.px_outside.specs.declared.files.FileCall.TheVariants.{Read, Missed, ReadFailed}
use Rattle.px_map.proofs.ReadsLemmas.{lists_none, lists_one, rose_none}
use Rattle.px_options.specs.Options.{Says}
use Rattle.px_options.specs.View.{settings}
use Rattle.px_app.specs.Opened.{IsNoOptions}
use Rattle.px_app.proofs.OpenLemmas.{err_judged, judged_so, ok_judged}
use Rattle.px_app.proofs.opening.read_file.Goals as goal

pub returns-in-Ok-clause-ok : goal.returns-in-Ok-clause-ok
returns-in-Ok-clause-ok g c =
    let e = c.in-Ok.ensures in
    let bytes = c.in-Ok.bytes.items in
    let P : List ℕ → Type 0 = λ b. IfOk c.judge.result (λ o. Says b (Ok (settings o))) in
    ok_judged c.judge.result _ _ (subst P c.deref.ensures.value c.judge.ensures.ok) (λ o says. (
      bytes,
      record {
        listed = lists_one (Read c.args.path.now bytes) _ _ e.listed;
        stood = (e.ok, tt);
        contents = e.contents;
        misses = rose_none _ _ e.later_misses;
        faults = rose_none _ _ e.later_faults;
        losses = e.losses;
      },
      says,
    ))

pub returns-in-Ok-clause-err : goal.returns-in-Ok-clause-err
returns-in-Ok-clause-err g c =
    let e = c.in-Ok.ensures in
    let bytes = c.in-Ok.bytes.items in
    let P : List ℕ → Type 0 = λ b. IfErr c.judge.result (λ error. IsNoOptions b error) in
    err_judged c.judge.result _ _ (subst P c.deref.ensures.value c.judge.ensures.err) (λ error is.
    judged_so c.args.path.now bytes error _ _
    (record {
      listed = lists_one (Read c.args.path.now bytes) _ _ e.listed;
      stood = (e.ok, tt);
      contents = e.contents;
      misses = rose_none _ _ e.later_misses;
      faults = rose_none _ _ e.later_faults;
      losses = e.losses;
    })
    is)

pub returns-in-Err-Absent-clause-err : goal.returns-in-Err-Absent-clause-err
returns-in-Err-Absent-clause-err g c =
    let e = c.in-Err-Absent.ensures in
    let is = ap Err c.in-Err-Absent.field-0-is in
    inl (record {
      listed = lists_one (Missed c.args.path.now) _ _ (e.listed_absent is);
      stood = (e.absent is, tt);
      contents = e.contents;
      misses = e.missed is;
      faults = rose_none _ _ e.later_faults;
      losses = e.losses;
    })

pub returns-in-Err-Failed-clause-err : goal.returns-in-Err-Failed-clause-err
returns-in-Err-Failed-clause-err g c =
    let e = c.in-Err-Failed.ensures in
    let is = ap Err c.in-Err-Failed.field-0-is in
    inr (record {
      listed = lists_one (ReadFailed c.args.path.now) _ _ (e.listed_failed is);
      stood = tt;
      contents = e.contents;
      misses = rose_none _ _ e.later_misses;
      faults = e.failed is;
      losses = e.losses;
    })

pub returns-in-Err-NoMemory-clause-err : goal.returns-in-Err-NoMemory-clause-err
returns-in-Err-NoMemory-clause-err g c =
    let e = c.in-Err-NoMemory.ensures in
    let is = ap Err c.in-Err-NoMemory.field-0-is in
    inl (record {
      listed = lists_none _ _ (e.not_listed is);
      stood = tt;
      contents = e.contents;
      misses = rose_none _ _ e.later_misses;
      faults = rose_none _ _ e.later_faults;
      losses = e.losses;
    })
