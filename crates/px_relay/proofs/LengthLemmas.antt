-- The lengths of fragments as they are kept: pairs that follow pairs, and what is taken from the front.
use Rattle.std.proofs.Common.{◌≡◌, ◌∙◌, ℕ, zero, suc, ◌+◌, ◌-◌, ◌^◌, ◌<◌, ◌≤◌, ◌==◌, if◌then◌else◌, Bool, true, false, List, [], ◌∷◌, ◌++◌, append_assoc, append-nil, length, length-append, get_or, take, drop, replicate, refl, sym, ap, ap₂, subst, arith}
use Rattle.std.proofs.lemmas.Bool.{eqb-true, eq-eqb}
use Rattle.std.proofs.lemmas.List.{drop_more, length-drop, replicate-append-replicate, take_all}
use Rattle.px_relay.specs.Lengths.{AreKept, AreWhole, Say, heard, lengths_behind, longer}

-- ---- what was heard

pub heard-append : (some more : List ℕ) → heard (some ++ more) ≡ heard some + heard more
heard-append [] more = omega arith
heard-append (count ∷ some) more = let same = heard-append some more in omega (arith, same)

heard_run : (times count : ℕ) → 2 + count ≤ heard (replicate (suc times) count)
heard_run times count = omega arith

-- ---- one pair

goes_on : (more part count : ℕ) (rest : List ℕ) → (more == 255) ≡ true → lengths_behind part (more ∷ count ∷ rest) ≡ lengths_behind (longer part count) rest
goes_on more part count rest is =
    ap (λ b. if b then lengths_behind (longer part count) rest else replicate (suc more) (longer part count) ++ lengths_behind 0 rest) is

ends : (more part count : ℕ) (rest : List ℕ) → (more == 255) ≡ false →
    lengths_behind part (more ∷ count ∷ rest) ≡ replicate (suc more) (longer part count) ++ lengths_behind 0 rest
ends more part count rest is =
    ap (λ b. if b then lengths_behind (longer part count) rest else replicate (suc more) (longer part count) ++ lengths_behind 0 rest) is

not_marked : (more : ℕ) → more < 255 → (more == 255) ≡ false
not_marked more small = by (more == 255) refl
  where
    by : (b : Bool) → (more == 255) ≡ b → (more == 255) ≡ false
    by true is = absurd (let same = eqb-true more 255 is in omega arith)
    by false is = is

fits : (part count : ℕ) → part + count < 2 ^ 64 → longer part count ≡ part + count
fits part count small = omega arith

-- ---- pairs behind pairs

pub say_none : Say [] 0 []
say_none = record { follows = λ rest. refl; few = omega arith }

-- 255 bytes more of a length
pub say_part : (counts pairs : List ℕ) (part : ℕ) → part + 255 < 2 ^ 64 → Say counts part pairs → Say counts (part + 255) (pairs ++ 255 ∷ 255 ∷ [])
say_part counts pairs part small say = record {
  follows = λ rest.
      ap (λ (l : List ℕ). lengths_behind 0 l) (append_assoc pairs (255 ∷ 255 ∷ []) rest)
      ∙ (say.follows (255 ∷ 255 ∷ rest)
      ∙ ap (λ (l : List ℕ). counts ++ l) (goes_on 255 part 255 rest (eq-eqb 255 255 refl) ∙ ap (λ n. lengths_behind n rest) (fits part 255 small)));
  few = let long = length-append pairs (255 ∷ 255 ∷ []) in let few = say.few in omega (arith, long, few);
}

-- the end of a length, which stands so many times more than once
pub say_run : (counts pairs : List ℕ) (part more count : ℕ) → more < 255 → part + count < 2 ^ 64 → Say counts part pairs →
    Say (counts ++ replicate (suc more) (part + count)) 0 (pairs ++ more ∷ count ∷ [])
say_run counts pairs part more count less small say = record {
  follows = λ rest.
      ap (λ (l : List ℕ). lengths_behind 0 l) (append_assoc pairs (more ∷ count ∷ []) rest)
      ∙ (say.follows (more ∷ count ∷ rest)
      ∙ (ap (λ (l : List ℕ). counts ++ l)
      (ends more part count rest (not_marked more less) ∙ ap (λ n. replicate (suc more) n ++ lengths_behind 0 rest) (fits part count small))
      ∙ sym (append_assoc counts (replicate (suc more) (part + count)) (lengths_behind 0 rest))));
  few = let long = length-append pairs (more ∷ count ∷ []) in
      let few = say.few in
      let all = heard-append counts (replicate (suc more) (part + count)) in
      let run = heard_run more (part + count) in
      omega (arith, long, few, all, run);
}

-- ---- a length: the loop over its parts

pub record Parted (count left : ℕ) (before now : List ℕ) : Type 0 where
  pub within : left ≤ count
  pub says : (counts : List ℕ) → Say counts 0 before → Say counts (count - left) now

pub parted_first : (count : ℕ) (before : List ℕ) → Parted count count before before
parted_first count before = record {
  within = omega arith;
  says = λ counts say. subst (λ n. Say counts n before) (none count) say;
}
  where
    none : (n : ℕ) → 0 ≡ n - n
    none n = omega arith

pub parted_more : (count left : ℕ) (before now next : List ℕ) → count < 2 ^ 64 → 255 < left → next ≡ now ++ 255 ∷ 255 ∷ [] →
    Parted count left before now → Parted count (left - 255) before next
parted_more count left before now next small long grown p = record {
  within = let w = p.within in omega (arith, w);
  says = λ counts say.
      subst (λ (l : List ℕ). Say counts (count - (left - 255)) l) (sym grown)
      (subst (λ n. Say counts n (now ++ 255 ∷ 255 ∷ [])) (moved p.within)
      (say_part counts now (count - left) (room p.within) (p.says counts say)));
}
  where
    moved : left ≤ count → (count - left) + 255 ≡ count - (left - 255)
    moved within = omega (arith, within, long)

    room : left ≤ count → (count - left) + 255 < 2 ^ 64
    room within = omega (arith, within, long, small)

pub parted_ends : (count left more : ℕ) (before now next : List ℕ) → count < 2 ^ 64 → more < 255 → next ≡ now ++ more ∷ left ∷ [] →
    Parted count left before now → (counts : List ℕ) → Say counts 0 before → Say (counts ++ replicate (suc more) count) 0 next
parted_ends count left more before now next small less grown p counts say =
    subst (λ (l : List ℕ). Say (counts ++ replicate (suc more) count) 0 l) (sym grown)
    (subst (λ n. Say (counts ++ replicate (suc more) n) 0 (now ++ more ∷ left ∷ [])) (whole p.within)
    (say_run counts now (count - left) more left less (room p.within) (p.says counts say)))
  where
    whole : left ≤ count → (count - left) + left ≡ count
    whole within = omega (arith, within)

    room : left ≤ count → (count - left) + left < 2 ^ 64
    room within = omega (arith, within, small)

-- ---- a run: the loop over its pairs

pub record Run (count times left : ℕ) (before now : List ℕ) : Type 0 where
  pub within : left ≤ times
  pub some : 1 ≤ left
  pub says : (counts : List ℕ) → Say counts 0 before → Say (counts ++ replicate (times - left) count) 0 now

pub run_first : (count times : ℕ) (before : List ℕ) → 1 ≤ times → Run count times times before before
run_first count times before some = record {
  within = omega arith;
  some = some;
  says = λ counts say.
      subst (λ (l : List ℕ). Say l 0 before) (sym (append-nil counts) ∙ ap (λ n. counts ++ replicate n count) (none times)) say;
}
  where
    none : (n : ℕ) → 0 ≡ n - n
    none n = omega arith

behind_run : (counts : List ℕ) (one other all count : ℕ) → one + other ≡ all →
    (counts ++ replicate one count) ++ replicate other count ≡ counts ++ replicate all count
behind_run counts one other all count is =
    append_assoc counts (replicate one count) (replicate other count)
    ∙ ap (λ (l : List ℕ). counts ++ l) (replicate-append-replicate one other count ∙ ap (λ n. replicate n count) is)

pub run_more : (count times left : ℕ) (before now next : List ℕ) → 255 < left →
    ((counts : List ℕ) → Say counts 0 now → Say (counts ++ replicate (suc 254) count) 0 next) →
    Run count times left before now → Run count times (left - 255) before next
run_more count times left before now next long goes r = record {
  within = let w = r.within in omega (arith, w);
  some = omega (arith, long);
  says = λ counts say.
      subst (λ (l : List ℕ). Say l 0 next) (behind_run counts (times - left) (suc 254) (times - (left - 255)) count (moved r.within))
      (goes (counts ++ replicate (times - left) count) (r.says counts say));
}
  where
    moved : left ≤ times → (times - left) + suc 254 ≡ times - (left - 255)
    moved within = omega (arith, within, long)

pub run_ends : (count times left : ℕ) (before now next : List ℕ) →
    ((counts : List ℕ) → Say counts 0 now → Say (counts ++ replicate (suc (left - 1)) count) 0 next) →
    Run count times left before now → (counts : List ℕ) → Say counts 0 before → Say (counts ++ replicate times count) 0 next
run_ends count times left before now next goes r counts say =
    subst (λ (l : List ℕ). Say l 0 next) (behind_run counts (times - left) (suc (left - 1)) times count (whole r.within r.some))
    (goes (counts ++ replicate (times - left) count) (r.says counts say))
  where
    whole : left ≤ times → 1 ≤ left → (times - left) + suc (left - 1) ≡ times
    whole within some = omega (arith, within, some)

-- ---- whole pairs

whole_is : (counts pairs : List ℕ) → Say counts 0 pairs → lengths_behind 0 pairs ≡ counts
whole_is counts pairs say =
    ap (λ (l : List ℕ). lengths_behind 0 l) (sym (append-nil pairs)) ∙ (say.follows [] ∙ append-nil counts)

pub whole_by : (counts pairs : List ℕ) → Say counts 0 pairs → AreWhole pairs
whole_by counts pairs say = subst (λ (l : List ℕ). Say l 0 pairs) (sym (whole_is counts pairs say)) say

pub with_run_whole : (before now : List ℕ) (count times : ℕ) → AreWhole before →
    ((counts : List ℕ) → Say counts 0 before → Say (counts ++ replicate times count) 0 now) → AreWhole now
with_run_whole before now count times whole goes = whole_by _ now (goes (lengths_behind 0 before) whole)

pub with_run_is : (before now : List ℕ) (count times : ℕ) → AreWhole before →
    ((counts : List ℕ) → Say counts 0 before → Say (counts ++ replicate times count) 0 now) →
    lengths_behind 0 now ≡ lengths_behind 0 before ++ replicate times count
with_run_is before now count times whole goes = whole_is _ now (goes (lengths_behind 0 before) whole)

-- ---- a length more

pub kept_first : (count : ℕ) → AreKept [] 1
kept_first count = record { whole = say_none; some = omega arith }

-- of the last run
pub same_run : (pairs : List ℕ) (times count : ℕ) →
    lengths_behind 0 pairs ++ replicate (times + 1) count ≡ (lengths_behind 0 pairs ++ replicate times count) ++ count ∷ []
same_run pairs times count =
    ap (λ (l : List ℕ). lengths_behind 0 pairs ++ l) (sym (replicate-append-replicate times 1 count))
    ∙ sym (append_assoc (lengths_behind 0 pairs) (replicate times count) (count ∷ []))

-- they are fewer than what was heard
pub fewer : (pairs : List ℕ) (times count : ℕ) → AreKept pairs times → length pairs < heard (lengths_behind 0 pairs ++ replicate times count)
fewer pairs zero count k = absurd (let some = k.some in omega (arith, some))
fewer pairs (suc times) count k =
    let few = k.whole.few in
    let all = heard-append (lengths_behind 0 pairs) (replicate (suc times) count) in
    let run = heard_run times count in
    omega (arith, few, all, run)

-- ---- from the front

pub front_run : (times count : ℕ) (rest : List ℕ) → 0 < times → replicate times count ++ rest ≡ count ∷ (replicate (times - 1) count ++ rest)
front_run zero count rest some = absurd (omega (arith, some))
front_run (suc times) count rest some = ap (λ n. count ∷ (replicate n count ++ rest)) (one_less times)
  where
    one_less : (n : ℕ) → n ≡ suc n - 1
    one_less n = omega arith

pub next_pairs : (pairs behind last : List ℕ) (more count : ℕ) → lengths_behind 0 pairs ≡ replicate (suc more) count ++ lengths_behind 0 behind →
    lengths_behind 0 pairs ++ last ≡ count ∷ (replicate more count ++ (lengths_behind 0 behind ++ last))
next_pairs pairs behind last more count is =
    ap (λ (l : List ℕ). l ++ last) is ∙ append_assoc (replicate (suc more) count) (lengths_behind 0 behind) last

-- ---- the first run that pairs say

unequal : (more : ℕ) → (more ≡ 255 → ⊥) → (more == 255) ≡ false
unequal more other = by (more == 255) refl
  where
    by : (b : Bool) → (more == 255) ≡ b → (more == 255) ≡ false
    by true is = absurd (other (eqb-true more 255 is))
    by false is = is

two_first : (rest : List ℕ) → 2 ≤ length rest → rest ≡ get_or rest 0 0 ∷ get_or rest 1 0 ∷ take (length rest - 2) (drop 2 rest)
two_first rest long =
    drop_more rest 0 0 (omega (arith, long))
    ∙ ap (λ (l : List ℕ). get_or rest 0 0 ∷ l) (drop_more rest 1 0 (omega (arith, long))
    ∙ ap (λ (l : List ℕ). get_or rest 1 0 ∷ l) (sym (take_all (length rest - 2) (drop 2 rest) (let few = length-drop 2 rest in omega (arith, few)))))

pub run_ended : (pairs rest : List ℕ) (part more count sum : ℕ) → 2 ≤ length rest → lengths_behind 0 pairs ≡ lengths_behind part rest →
    (get_or rest 0 0 ≡ 255 → ⊥) → more ≡ get_or rest 0 0 → count ≡ get_or rest 1 0 → sum ≡ longer part count →
    lengths_behind 0 pairs ≡ sum ∷ (replicate more sum ++ lengths_behind 0 (take (length rest - 2) (drop 2 rest)))
run_ended pairs rest part more count sum long so_far is one two three =
    so_far
    ∙ (ap (λ (l : List ℕ). lengths_behind part l) (two_first rest long)
    ∙ (ends (get_or rest 0 0) part (get_or rest 1 0) (take (length rest - 2) (drop 2 rest)) (unequal (get_or rest 0 0) is)
    ∙ ap₂ (λ m n. replicate (suc m) n ++ lengths_behind 0 (take (length rest - 2) (drop 2 rest))) (sym one) (ap (longer part) (sym two) ∙ sym three)))

pub run_goes_on : (pairs rest : List ℕ) (part count sum : ℕ) → 2 ≤ length rest → lengths_behind 0 pairs ≡ lengths_behind part rest →
    get_or rest 0 0 ≡ 255 → count ≡ get_or rest 1 0 → sum ≡ longer part count →
    lengths_behind 0 pairs ≡ lengths_behind sum (take (length rest - 2) (drop 2 rest))
run_goes_on pairs rest part count sum long so_far is two three =
    so_far
    ∙ (ap (λ (l : List ℕ). lengths_behind part l) (two_first rest long)
    ∙ (goes_on (get_or rest 0 0) part (get_or rest 1 0) (take (length rest - 2) (drop 2 rest)) (eq-eqb (get_or rest 0 0) 255 is)
    ∙ ap (λ n. lengths_behind n (take (length rest - 2) (drop 2 rest))) (ap (longer part) (sym two) ∙ sym three)))
