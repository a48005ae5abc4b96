-- Lines that are read one by one, and joined.
use Rattle.std.proofs.Common.{◌≡◌, ◌⊎◌, Result, Ok, Err, IfOk, IfErr, inl, inr, sym, subst}
use Rattle.px_tnet.specs.Tree.{Pairs}
use Rattle.px_flowfile.specs.Both.{both_of}
use Rattle.px_flowfile.specs.Kind.{Kind}
use Rattle.px_flowfile.specs.Table.{ReadsAt, RefusesAt}
use Rattle.px_flowfile.specs.declared.key.Key.{Key}
use Rattle.px_flowfile.specs.declared.error.FlowFileError.{FlowFileError}
use Rattle.px_flowfile.specs.declared.error.FlowFileError.TheVariants as error

-- what an answer says: it is what is read, or it is refused, or memory is wanting
pub record Told {A : Type 0} (R : A → Type 0) (F : FlowFileError → Type 0) (r : Result A FlowFileError) : Type 0 where
  pub ok : IfOk r R
  pub err : IfErr r (λ e. (e ≡ error.NoMemory) ⊎ F e)

pub told_line : {A : Type 0} (key : Key) (kind : Kind A) (pairs : Pairs) (r : Result A FlowFileError) → IfOk r (ReadsAt key kind pairs)
    → IfErr r (λ e. (e ≡ error.NoMemory) ⊎ RefusesAt key kind pairs e) → Told (ReadsAt key kind pairs) (RefusesAt key kind pairs) r
told_line key kind pairs r ok err = record { ok = ok; err = err }

pub told_end : Told (λ (u : Unit {0}). Unit {0}) (λ e. ⊥) (Ok tt)
told_end = record { ok = tt; err = tt }

abbrev Joined : {A B : Type 0} → (A → Type 0) → (FlowFileError → Type 0) → (B → Type 0) → (FlowFileError → Type 0) → Result (A × B) FlowFileError → Type 0
Joined {A} {B} R F S G r = Told {A = A × B} (λ p. R p.0 × S p.1) (λ e. F e ⊎ (((a : A) × R a) × G e)) r

join : {A B : Type 0} (R : A → Type 0) (F : FlowFileError → Type 0) (S : B → Type 0) (G : FlowFileError → Type 0)
    (first : Result A FlowFileError) (second : Result B FlowFileError) → Told R F first → Told S G second → Joined R F S G (both_of first second)
join R F S G (Err e) second t u = record { ok = tt; err = elim t.err [ inl full ↦ inl full | inr bad ↦ inr (inl bad) ] }
join R F S G (Ok a) (Err e) t u = record { ok = tt; err = elim u.err [ inl full ↦ inl full | inr bad ↦ inr (inr ((a, t.ok), bad)) ] }
join R F S G (Ok a) (Ok b) t u = record { ok = (t.ok, u.ok); err = tt }

pub told_both : {A B : Type 0} {R : A → Type 0} {F : FlowFileError → Type 0} {S : B → Type 0} {G : FlowFileError → Type 0}
    {first : Result A FlowFileError} {second : Result B FlowFileError} (r : Result (A × B) FlowFileError) → r ≡ both_of first second
    → Told R F first → Told S G second → Joined R F S G r
told_both {R = R} {F = F} {S = S} {G = G} {first = first} {second = second} r same t u =
    subst (λ q. Joined R F S G q) (sym same) (join R F S G first second t u)

pub told_ok : {A : Type 0} {R : A → Type 0} {F : FlowFileError → Type 0} {r : Result A FlowFileError} (a : A) → Told R F r → r ≡ Ok a → R a
told_ok {A = A} {R = R} a t is = let P : Result A FlowFileError → Type 0 = λ q. IfOk q R in subst P is t.ok

pub told_err : {A : Type 0} {R : A → Type 0} {F : FlowFileError → Type 0} {r : Result A FlowFileError} (e : FlowFileError) → Told R F r → r ≡ Err e
    → (e ≡ error.NoMemory) ⊎ F e
told_err {A = A} {F = F} e t is = let P : Result A FlowFileError → Type 0 = λ q. IfErr q (λ e. (e ≡ error.NoMemory) ⊎ F e) in subst P is t.err

pub told_as : {A : Type 0} {R : A → Type 0} {F : FlowFileError → Type 0} {r : Result A FlowFileError} (a b : A) → Told R F r → r ≡ Ok a → b ≡ a → R b
told_as {R = R} a b t is same = subst R (sym same) (told_ok a t is)

-- what holds of each good answer, by what else holds of it
pub if_ok_as : {A E : Type 0} {P Q : A → Type 0} (r : Result A E) → ((a : A) → P a → Q a) → IfOk r P → IfOk r Q
if_ok_as (Ok a) turn held = turn a held
if_ok_as (Err e) turn held = tt
