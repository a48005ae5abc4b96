-- Reads that were made, one behind the other.
use Rattle.std.proofs.Common.{◌≡◌, ℕ, ◌+◌, ◌-◌, ◌^◌, ◌≤◌, min, List, [], ◌∷◌, ◌++◌, Option, Some, None, refl, sym, ap, ◌∙◌, subst, arith, append-nil}
use Rattle.std.proofs.lemmas.List.{append_assoc}
use Rattle.px_outside.specs.Files.{Contents, Lists, SameContents, Stands, Told}
use Rattle.px_outside.specs.declared.files.FileCall.{FileCall}
use Rattle.px_outside.specs.declared.files.FileCall.TheVariants.{Read, Missed, ReadFailed, Appended, AppendFailed}
use Rattle.px_map.specs.Reads.{AllStand, ListsAll, Made, RoseBy, Seen, faults_in, misses_in}

-- ---- one call

pub lists_one : (call : FileCall) (old new : Option (List FileCall)) → Lists call old new → ListsAll (call ∷ []) old new
lists_one call None new h = h
lists_one call (Some calls) new h = h

pub lists_none : (old new : Option (List FileCall)) → new ≡ old → ListsAll [] old new
lists_none None new same = same
lists_none (Some calls) new same = same ∙ ap Some (sym (append-nil calls))

-- ---- counts

pub rose_none : (before now : ℕ) → before ≤ now → RoseBy 0 before now
rose_none before now later = at_most (2 ^ 64 - 1)
  where
    at_most : (most : ℕ) → min (before + 0) most ≤ now
    at_most most = omega (arith, later)

rose_both : (most a b before middle now : ℕ) → min (before + a) most ≤ middle → min (middle + b) most ≤ now → min (before + (a + b)) most ≤ now
rose_both most a b before middle now first second = omega (arith, first, second)

-- ---- a list of calls

misses_both : (xs ys : List FileCall) → misses_in (xs ++ ys) ≡ misses_in xs + misses_in ys
misses_both [] ys = omega arith
misses_both (Missed path ∷ xs) ys = omega (arith, misses_both xs ys)
misses_both (Read path bytes ∷ xs) ys = misses_both xs ys
misses_both (ReadFailed path ∷ xs) ys = misses_both xs ys
misses_both (Appended path bytes ∷ xs) ys = misses_both xs ys
misses_both (AppendFailed path ∷ xs) ys = misses_both xs ys

faults_both : (xs ys : List FileCall) → faults_in (xs ++ ys) ≡ faults_in xs + faults_in ys
faults_both [] ys = omega arith
faults_both (ReadFailed path ∷ xs) ys = omega (arith, faults_both xs ys)
faults_both (Read path bytes ∷ xs) ys = faults_both xs ys
faults_both (Missed path ∷ xs) ys = faults_both xs ys
faults_both (Appended path bytes ∷ xs) ys = faults_both xs ys
faults_both (AppendFailed path ∷ xs) ys = faults_both xs ys

lists_both : (xs ys : List FileCall) (a b c : Option (List FileCall)) → ListsAll xs a b → ListsAll ys b c → ListsAll (xs ++ ys) a c
lists_both xs ys None b c first second = subst (λ o. ListsAll ys o c) first second
lists_both xs ys (Some calls) b c first second =
    subst (λ o. ListsAll ys o c) first second ∙ ap Some (append_assoc calls xs ys)

stands_both : (xs ys : List FileCall) (contents : Option Contents) → AllStand xs contents → AllStand ys contents → AllStand (xs ++ ys) contents
stands_both [] ys contents first second = second
stands_both (Read path bytes ∷ xs) ys contents first second = (first.0, stands_both xs ys contents first.1 second)
stands_both (Missed path ∷ xs) ys contents first second = (first.0, stands_both xs ys contents first.1 second)
stands_both (ReadFailed path ∷ xs) ys contents first second = stands_both xs ys contents first second
stands_both (Appended path bytes ∷ xs) ys contents first second = stands_both xs ys contents first second
stands_both (AppendFailed path ∷ xs) ys contents first second = stands_both xs ys contents first second

-- what stands under a path afterwards stood there before
stood : (path : List ℕ) (what : Option (List ℕ)) (a b : Option Contents) → Told SameContents a b → Stands path what b → Stands path what a
stood path what None b same h = tt
stood path what (Some contents) b (after, is, same) h =
    let there : after path ≡ what = subst (Stands path what) is h in
    sym (same path) ∙ there

all_stood : (ys : List FileCall) (a b : Option Contents) → Told SameContents a b → AllStand ys b → AllStand ys a
all_stood [] a b same h = tt
all_stood (Read path bytes ∷ ys) a b same h = (stood path (Some bytes) a b same h.0, all_stood ys a b same h.1)
all_stood (Missed path ∷ ys) a b same h = (stood path None a b same h.0, all_stood ys a b same h.1)
all_stood (ReadFailed path ∷ ys) a b same h = all_stood ys a b same h
all_stood (Appended path bytes ∷ ys) a b same h = all_stood ys a b same h
all_stood (AppendFailed path ∷ ys) a b same h = all_stood ys a b same h

told_both : (a b c : Option Contents) → Told SameContents a b → Told SameContents b c → Told SameContents a c
told_both None b c first second = subst (λ o. Told SameContents o c) first second
told_both (Some contents) b c (after, is, same) second = on (subst (λ o. Told SameContents o c) is second)
  where
    on : Told SameContents (Some after) c → Told SameContents (Some contents) c
    on (last, is_last, more) = (last, is_last, λ path. more path ∙ same path)

told_same : (a : Option Contents) → Told SameContents a a
told_same None = refl
told_same (Some contents) = (contents, refl, λ path. refl)

pub made_none : (files : Seen) → Made [] files files
made_none files = record {
  listed = lists_none files.calls files.calls refl;
  stood = tt;
  contents = told_same files.contents;
  misses = rose_none files.misses files.misses (omega arith);
  faults = rose_none files.faults files.faults (omega arith);
  losses = refl;
}

pub made_both : (xs ys : List FileCall) (a b c : Seen) → Made xs a b → Made ys b c → Made (xs ++ ys) a c
made_both xs ys a b c first second = record {
  listed = lists_both xs ys a.calls b.calls c.calls first.listed second.listed;
  stood = stands_both xs ys a.contents first.stood (all_stood ys a.contents b.contents first.contents second.stood);
  contents = told_both a.contents b.contents c.contents first.contents second.contents;
  misses = subst (λ n. RoseBy n a.misses c.misses) (sym (misses_both xs ys))
      (rose_both (2 ^ 64 - 1) (misses_in xs) (misses_in ys) a.misses b.misses c.misses first.misses second.misses);
  faults = subst (λ n. RoseBy n a.faults c.faults) (sym (faults_both xs ys))
      (rose_both (2 ^ 64 - 1) (faults_in xs) (faults_in ys) a.faults b.faults c.faults first.faults second.faults);
  losses = second.losses ∙ first.losses;
}
