-- What is heard in a run that begins the script: which of it, by whether the end was heard last.
use Rattle.std.proofs.Common.{◌≡◌, ◌⊎◌, ℕ, ◌+◌, ◌*◌, ◌≤◌, Bool, true, false, not, List, [], ◌∷◌, ◌++◌, length, map, All, refl, sym, ap, ◌∙◌, inl, inr, arith, length-append}
use Rattle.std.specs.Prelude.{◌==◌, if◌then◌else◌}
use Rattle.std.specs.List.{filter, flat_map}
use Rattle.std.proofs.lemmas.List.{append-nil}
use Rattle.std.proofs.lemmas.List.Concat.{flat_map-append}
use Rattle.std.proofs.lemmas.List.Elements.{All-nil, All-cons, All-head, All-tail, All-append, All-map, All-replicate, All-same, filter-append}
use Rattle.px_text.specs.Prefix.{IsPrefixOf}
use Rattle.px_event.specs.declared.heard.Heard.{Heard}
use Rattle.px_event.specs.declared.heard.Heard.TheVariants.{Accepted, Closed, Dialled, End}
use Rattle.px_event.specs.declared.side.Side.TheVariants.{Client, Server}
use Rattle.px_event.specs.declared.side.Door.TheVariants.{Proxy}
use Rattle.px_event.specs.declared.step.Step.TheVariants as steps
use Rattle.px_event.specs.Trace.{Trace}
use Rattle.px_gen.specs.Heard.{Hears, all_heard, ends, ends_by, heard_by, heard_in, is_end, is_ended}
use Rattle.px_gen.specs.Peer.{peer}
use Rattle.px_gen.specs.Script.{answer_of, dialled_by, heard_from, heard_of, numbers_below, pieces_of, request_of, script}
use Rattle.px_gen.proofs.LengthLemmas.{most_of_script}

-- ---- the script: every moment is 0, and there is no end in it

abbrev pub IsThing : ℕ × Heard → Type 0
IsThing given = (given.0 ≡ 0) × (is_end given ≡ false)

all_flat : {X A : Type 0} (P : A → Type 0) (f : X → List A) → ((x : X) → All P (f x)) → (xs : List X) → All P (flat_map f xs)
all_flat P f each [] = All-nil P
all_flat P f each (x ∷ xs) = All-append P (f x) (flat_map f xs) (each x) (all_flat P f each xs)

pub all_if : {A : Type 0} (P : A → Type 0) (is : Bool) (x : A) → P x → All P (if is then x ∷ [] else [])
all_if P true x of_x = All-cons P x [] of_x (All-nil P)
all_if P false x of_x = All-nil P

flow_is_things : (i : ℕ) → All IsThing (heard_of i)
flow_is_things i =
    let pieces = map (heard_from (Server 0)) (pieces_of (answer_of i)) in
    All-cons IsThing (heard_from Client (request_of i)) (dialled_by i ++ pieces) (refl, refl)
    (All-append IsThing (dialled_by i) pieces (all_if IsThing (i == 0) (0, Dialled 0 0 true) (refl, refl))
    (All-map IsThing (heard_from (Server 0)) (pieces_of (answer_of i)) (λ k d less. (refl, refl))))

pub script_is_things : (count : ℕ) → All IsThing (script count)
script_is_things count =
    let flows = flat_map heard_of (numbers_below count) in
    All-cons IsThing (0, Accepted 0 Proxy peer) (flows ++ (0, Closed 0 Client) ∷ []) (refl, refl)
    (All-append IsThing flows ((0, Closed 0 Client) ∷ []) (all_flat IsThing heard_of flow_is_things (numbers_below count))
    (All-cons IsThing (0, Closed 0 Client) [] (refl, refl) (All-nil IsThing)))

-- ---- one thing more

pub heard_next : (trace : Trace) (moment : ℕ) (heard : Heard) → all_heard (trace ++ steps.Heard moment heard ∷ []) ≡ all_heard trace ++ (moment, heard) ∷ []
heard_next trace moment heard = flat_map-append heard_by trace (steps.Heard moment heard ∷ [])

-- ---- two beginnings of one list

-- one of them begins the other
pub two_fronts : {A : Type 0} (xs ys hs rest : List A) → xs ++ ys ≡ hs ++ rest →
    ((more : List A) × (hs ≡ xs ++ more) × (ys ≡ more ++ rest)) ⊎ ((more : List A) × (xs ≡ hs ++ more))
two_fronts [] ys hs rest same = inl (hs, refl, same)
two_fronts (x ∷ xs) ys [] rest same = inr (x ∷ xs, refl)
two_fronts (x ∷ xs) ys (h ∷ hs) rest same = elim (two_fronts xs ys hs rest (cc)) [ inl w ↦ inl (w.0, cc, w.2) | inr w ↦ inr (w.0, cc) ]

front_has_all : {A : Type 0} (P : A → Type 0) (xs ys : List A) → All P (xs ++ ys) → All P xs
front_has_all P [] ys all = All-nil P
front_has_all P (x ∷ xs) ys all =
    All-cons P x xs (All-head P x (xs ++ ys) all) (front_has_all P xs ys (All-tail P x (xs ++ ys) all))

pub rest_has_all : {A : Type 0} (P : A → Type 0) (xs ys : List A) → All P (xs ++ ys) → All P ys
rest_has_all P [] ys all = all
rest_has_all P (x ∷ xs) ys all = rest_has_all P xs ys (All-tail P x (xs ++ ys) all)

-- ---- the end last, or not

abbrev IsEnd : ℕ × Heard → Type 0
IsEnd given = is_end given ≡ true

ends_by_parts : (ended : Bool) (xs ys : List (ℕ × Heard)) → ends_by ended (xs ++ ys) ≡ ends_by (ends_by ended xs) ys
ends_by_parts ended [] ys = refl
ends_by_parts ended (x ∷ xs) ys = ends_by_parts (is_end x) xs ys

things_end_not : (things : List (ℕ × Heard)) → All IsThing things → ends_by false things ≡ false
things_end_not [] all = refl
things_end_not (given ∷ things) all =
    ap (λ b. ends_by b things) (All-head IsThing given things all).1 ∙ things_end_not things (All-tail IsThing given things all)

ends_end : (list : List (ℕ × Heard)) → All IsEnd list → ends_by true list ≡ true
ends_end [] all = refl
ends_end (given ∷ list) all = ap (λ b. ends_by b list) (All-head IsEnd given list all) ∙ ends_end list (All-tail IsEnd given list all)

-- some ends at the end
ends_last : (xs : List (ℕ × Heard)) (given : ℕ × Heard) (list : List (ℕ × Heard)) → All IsEnd (given ∷ list) → ends_by false (xs ++ given ∷ list) ≡ true
ends_last xs given list all =
    ends_by_parts false xs (given ∷ list)
    ∙ ap (λ b. ends_by b list) (All-head IsEnd given list all)
    ∙ ends_end list (All-tail IsEnd given list all)

front_ends : (many : ℕ) (more rest : List (ℕ × Heard)) → ends many ≡ more ++ rest → All IsEnd more
front_ends many more rest is = front_has_all IsEnd more rest (All-same IsEnd (more ++ rest) (ends many) (sym is) (All-replicate IsEnd many (0, End) refl))

-- ---- what is kept where the ends are left out

abbrev keeps : ℕ × Heard → Bool
keeps given = not (is_end given)

all_kept : (things : List (ℕ × Heard)) → All IsThing things → filter keeps things ≡ things
all_kept [] all = refl
all_kept (given ∷ things) all = rw (All-head IsThing given things all).1 (ap (λ l. given ∷ l) (all_kept things (All-tail IsThing given things all)))

none_kept : (list : List (ℕ × Heard)) → All IsEnd list → filter keeps list ≡ []
none_kept [] all = refl
none_kept (given ∷ list) all = rw (All-head IsEnd given list all) (none_kept list (All-tail IsEnd given list all))

-- ---- a run that begins the script

pub ended_run : (count : ℕ) (trace : Trace) → Hears count trace → is_ended trace ≡ true → heard_in trace ≡ script count
ended_run count trace hears ended =
    elim (two_fronts (script count) (ends hears.0) (all_heard trace) hears.1.0 hears.1.1) [
      | inl w ↦
          ap (filter keeps) w.1
          ∙ filter-append keeps (script count) w.0
          ∙ ap (λ l. filter keeps (script count) ++ l) (none_kept w.0 (front_ends hears.0 w.0 hears.1.0 w.2))
          ∙ append-nil (filter keeps (script count))
          ∙ all_kept (script count) (script_is_things count)
      | inr w ↦
          let all = front_has_all IsThing (all_heard trace) w.0 (All-same IsThing (all_heard trace ++ w.0) (script count) (sym w.1) (script_is_things count)) in
          absurd (let never = things_end_not (all_heard trace) all in cc (never, ended))
    ]

-- without an end
front_of_script : (xs hs more : List (ℕ × Heard)) → hs ≡ xs ++ more → All IsEnd more → ends_by false hs ≡ false → IsPrefixOf hs xs
front_of_script xs hs [] is all ended = ([], sym (append-nil xs) ∙ sym is ∙ sym (append-nil hs))
front_of_script xs hs (given ∷ more) is all ended =
    absurd (let last = ends_last xs given more all in let same = ap (ends_by false) is in cc (last, same, ended))

pub unended_run : (count : ℕ) (trace : Trace) → Hears count trace → is_ended trace ≡ false → IsPrefixOf (all_heard trace) (script count)
unended_run count trace hears ended =
    elim (two_fronts (script count) (ends hears.0) (all_heard trace) hears.1.0 hears.1.1) [
      | inl w ↦ front_of_script (script count) (all_heard trace) w.0 w.1 (front_ends hears.0 w.0 hears.1.0 w.2) ended
      | inr w ↦ (w.0, w.1)
    ]

pub few_heard : (count : ℕ) (trace : Trace) → Hears count trace → is_ended trace ≡ false → length (all_heard trace) ≤ 4 * count + 2
few_heard count trace hears ended =
    let front = unended_run count trace hears ended in
    let long = ap length front.1 ∙ length-append (all_heard trace) front.0 in
    omega (arith, long, most_of_script count)
