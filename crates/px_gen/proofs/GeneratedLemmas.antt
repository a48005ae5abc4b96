-- What a network in memory keeps of the script, call by call.
use Rattle.std.proofs.Common.{◌≡◌, ℕ, ◌+◌, true, false, List, [], ◌∷◌, ◌++◌, Result, Ok, Err, All, OnOk, refl, sym, ap, ◌∙◌, subst, append_assoc}
use Rattle.std.proofs.lemmas.List.{append-nil, replicate_more}
use Rattle.std.proofs.lemmas.List.Elements.{All-append, All-head, All-replicate, All-same, All-weaker}
use Rattle.px_event.specs.declared.heard.Heard.{Heard}
use Rattle.px_event.specs.declared.heard.Heard.TheVariants.{End}
use Rattle.px_event.specs.declared.step.Step.TheVariants as steps
use Rattle.px_event.specs.Trace.{Trace}
use Rattle.px_outside.specs.Count.{FailsNext}
use Rattle.px_outside.specs.ScriptNet.{NetState, after_next, front_of, rest_of}
use Rattle.px_outside.specs.declared.net.NetError.{NetError}
use Rattle.px_outside.specs.declared.net.NetError.TheVariants.{Fault, NoMemory}
use Rattle.px_gen.specs.Generated.{IsGenerated}
use Rattle.px_gen.specs.Heard.{Hears, all_heard, ends}
use Rattle.px_gen.specs.Script.{script}
use Rattle.px_gen.proofs.HeardLemmas.{IsThing, heard_next, rest_has_all, script_is_things}

-- ---- what is heard next

abbrev IsAtZero : ℕ × Heard → Type 0
IsAtZero given = given.0 ≡ 0

all_at_zero : (count many : ℕ) → All IsAtZero (script count ++ ends many)
all_at_zero count many =
    All-append IsAtZero (script count) (ends many) (All-weaker IsThing IsAtZero (λ given is. is.0) (script count) (script_is_things count))
    (All-replicate IsAtZero many (0, End) refl)

-- after the next thing was heard of what is left
heard_of_left : (count last : ℕ) (trace : Trace) (left : List (ℕ × Heard)) (many : ℕ) → last ≡ 0 →
    all_heard trace ++ left ≡ script count ++ ends many →
    ((front_of last left).0 ≡ 0)
    × ((more : ℕ) × (all_heard (trace ++ steps.Heard (front_of last left).0 (front_of last left).1 ∷ []) ++ rest_of left ≡ script count ++ ends more))
heard_of_left count last trace [] many zero is =
    let P : ℕ → Type 0 = λ m. all_heard (trace ++ steps.Heard m End ∷ []) ++ [] ≡ script count ++ ends (many + 1) in (
      zero,
      (
        many + 1,
        subst P (sym zero)
            (append-nil (all_heard (trace ++ steps.Heard 0 End ∷ []))
            ∙ heard_next trace 0 End
            ∙ ap (λ l. l ++ (0, End) ∷ []) (sym (append-nil (all_heard trace)) ∙ is)
            ∙ append_assoc (script count) (ends many) ((0, End) ∷ [])
            ∙ ap (λ l. script count ++ l) (replicate_more many (0, End))),
      ),
    )
heard_of_left count last trace (first ∷ rest) many zero is = (
  All-head IsAtZero first rest
      (rest_has_all IsAtZero (all_heard trace) (first ∷ rest) (All-same IsAtZero (all_heard trace ++ first ∷ rest) (script count ++ ends many) is (all_at_zero count many))),
  (
    many,
    ap (λ l. l ++ rest) (heard_next trace first.0 first.1)
        ∙ append_assoc (all_heard trace) (first ∷ []) rest
        ∙ is,
  ),
)

pub after_hearing : (count : ℕ) (net : NetState) → IsGenerated count net → IsGenerated count (after_next net)
after_hearing count net is =
    let next = heard_of_left count net.last net.trace net.script is.many is.last is.heard in
    record { never_fails = is.never_fails; last = next.0; many = next.1.0; heard = next.1.1 }

-- ---- no call fails

pub fails_never : (count : ℕ) (net : NetState) → IsGenerated count net → FailsNext net.plan → ⊥
fails_never count net is fails = let none : false ≡ true = rw is.never_fails at fails in absurd (cc)

-- ---- by the answer of `next`

pub by_next : {A : Type 0} (count : ℕ) (old new : NetState) (result : Result A NetError) → IsGenerated count old →
    (result ≡ Err Fault → FailsNext old.plan) → OnOk result (new ≡ after_next old) → (result ≡ Err NoMemory → new ≡ old) → IsGenerated count new
by_next count old new (Ok a) is fault ok memory = subst (IsGenerated count) (sym ok) (after_hearing count old is)
by_next count old new (Err Fault) is fault ok memory = absurd (fails_never count old is (fault refl))
by_next count old new (Err NoMemory) is fault ok memory = subst (IsGenerated count) (sym (memory refl)) is

-- ---- what its trace tells

pub hears : (count : ℕ) (net : NetState) → IsGenerated count net → Hears count net.trace
hears count net is = (is.many, (net.script, sym is.heard))
