-- Lists of rules: what px_rule says of them as a relation, as the function of the definitions.
use Rattle.std.proofs.Common.{◌≡◌, ◌⊎◌, ℕ, zero, suc, ◌+◌, List, [], ◌∷◌, map, take, slice_get, Option, Some, None, Result, Ok, Err, refl, sym, subst, ap, ◌∙◌, inl, inr, arith}
use Rattle.px_rule.specs.declared.cause.RuleCause.{RuleCause}
use Rattle.px_rule.specs.declared.cause.RuleCause.TheVariants as causes
use Rattle.px_options.specs.Keys.{name_of}
use Rattle.px_options.specs.Refused.{IsBadRule}
use Rattle.px_options.specs.Rules.{rule_and, rules_from, rules_of}
use Rattle.px_options.specs.Values.{wrong}
use Rattle.px_options.specs.declared.error.OptionsError.{OptionsError}
use Rattle.px_options.specs.declared.error.OptionsError.TheVariants as error
use Rattle.px_options.specs.declared.key.Key.{Key}

put_rule : {R : Type 0} (key : Key) (n : ℕ) (text : List ℕ) (r : Result R RuleCause) (others : Result (List R) OptionsError) (rule : R) (rules : List R)
    → r ≡ Ok rule → others ≡ Ok rules → rule_and key n text r others ≡ Ok (rule ∷ rules)
put_rule key n text r others rule rules a b = rw (a, b) refl

put_refusal : {R : Type 0} (key : Key) (n : ℕ) (text : List ℕ) (r : Result R RuleCause) (others : Result (List R) OptionsError) (rule : R) (e : OptionsError)
    → r ≡ Ok rule → others ≡ Err e → rule_and key n text r others ≡ Err e
put_refusal key n text r others rule e a b = rw (a, b) refl

put_bad : {R : Type 0} (key : Key) (n : ℕ) (text : List ℕ) (r : Result R RuleCause) (others : Result (List R) OptionsError) (cause : RuleCause)
    → r ≡ Err cause → rule_and key n text r others ≡ Err (error.BadRule (name_of key) n text cause)
put_bad key n text r others cause a = rw a refl

pub are_rules : {R : Type 0} (key : Key) (read : List ℕ → Result R RuleCause) (n : ℕ) (texts : List (List ℕ)) (rules : List R)
    → map read texts ≡ map Ok rules → rules_from key read n texts ≡ Ok rules
are_rules key read n [] [] e = refl
are_rules key read n [] (r ∷ rs) e = absurd (cc)
are_rules key read n (t ∷ ts) [] e = absurd (cc)
are_rules key read n (t ∷ ts) (r ∷ rs) e =
    let here : read t ≡ Ok r = cc in
    let there : map read ts ≡ map Ok rs = cc in
    put_rule key n t (read t) (rules_from key read (n + 1) ts) r rs here (are_rules key read (n + 1) ts rs there)

pub first_bad : {R : Type 0} (key : Key) (read : List ℕ → Result R RuleCause) (n : ℕ) (texts : List (List ℕ)) (index : ℕ) (text : List ℕ) (cause : RuleCause)
    (rules : List R) → map read (take index texts) ≡ map Ok rules → slice_get (map read texts) index ≡ Some (Err cause) → slice_get texts index ≡ Some text
    → rules_from key read n texts ≡ Err (error.BadRule (name_of key) (n + index) text cause)
first_bad key read n [] index text cause rules are bad at = absurd (cc)
first_bad key read n (t ∷ ts) zero text cause rules are bad at =
    let is : t ≡ text = cc in
    let refused : read t ≡ Err cause = cc in
    let here : n ≡ n + 0 = omega arith in
    put_bad key n t (read t) (rules_from key read (n + 1) ts) cause refused ∙ rw (is, ← here) refl
first_bad key read n (t ∷ ts) (suc i) text cause [] are bad at = absurd (cc)
first_bad key read n (t ∷ ts) (suc i) text cause (r ∷ rs) are bad at =
    let here : read t ≡ Ok r = cc in
    let there : map read (take i ts) ≡ map Ok rs = cc in
    let place : (n + 1) + i ≡ n + suc i = omega arith in
    put_refusal key n t (read t) (rules_from key read (n + 1) ts) r _ here
    (first_bad key read (n + 1) ts i text cause rs there bad at ∙ ap (λ k. Err (error.BadRule (name_of key) k text cause)) place)

pub listed : {R : Type 0} (key : Key) (read : List ℕ → Result R RuleCause) (o : Option (List (List ℕ))) (texts : List (List ℕ)) (rules : List R)
    → o ≡ Some texts → map read texts ≡ map Ok rules → rules_of key read o ≡ Ok rules
listed key read o texts rules is are = rw is (are_rules key read 0 texts rules are)

pub unlisted : {R : Type 0} (key : Key) (read : List ℕ → Result R RuleCause) (o : Option (List (List ℕ))) → o ≡ None → rules_of key read o ≡ wrong key
unlisted key read o is = rw is refl

zero_first : (n : ℕ) → 0 + n ≡ n
zero_first n = omega arith

told_of : {R : Type 0} (key : Key) (read : List ℕ → Result R RuleCause) (o : Option (List (List ℕ))) (texts : List (List ℕ)) (index : ℕ) (cause : RuleCause)
    (e : OptionsError) → o ≡ Some texts
    → (cause ≡ causes.NoMemory) ⊎ (((rules : List R) × (map read (take index texts) ≡ map Ok rules)) × (slice_get (map read texts) index ≡ Some (Err cause)))
    → (cause ≡ causes.NoMemory → e ≡ error.NoMemory) → (e ≡ error.NoMemory) ⊎ IsBadRule key texts index cause e
    → (e ≡ error.NoMemory) ⊎ (rules_of key read o ≡ Err e)
told_of key read o texts index cause e is (inl full) want said = inl (want full)
told_of key read o texts index cause e is (inr bad) want (inl full) = inl full
told_of key read o texts index cause e is (inr ((rules, are), bad)) want (inr (text, at, told)) =
    inr (rw is (first_bad key read 0 texts index text cause rules are bad at
    ∙ ap (λ n. Err (error.BadRule (name_of key) n text cause)) (zero_first index) ∙ ap Err (sym told)))

-- a refusal of px_rule, as it is told
pub told_bad : {R : Type 0} (key : Key) (read : List ℕ → Result R RuleCause) (o : Option (List (List ℕ))) (texts named : List (List ℕ)) (index : ℕ)
    (cause : RuleCause) (e : OptionsError) → o ≡ Some texts → named ≡ texts
    → (cause ≡ causes.NoMemory) ⊎ (((rules : List R) × (map read (take index texts) ≡ map Ok rules)) × (slice_get (map read texts) index ≡ Some (Err cause)))
    → (cause ≡ causes.NoMemory → e ≡ error.NoMemory) → (e ≡ error.NoMemory) ⊎ IsBadRule key named index cause e
    → (e ≡ error.NoMemory) ⊎ (rules_of key read o ≡ Err e)
told_bad key read o texts named index cause e is same bad want said =
    told_of key read o texts index cause e is bad want (subst (λ ts. (e ≡ error.NoMemory) ⊎ IsBadRule key ts index cause e) same said)
