-- What was heard of a parked side over a prefix of the events, and over more of them.
use Rattle.std.proofs.Common.{◌≡◌, ℕ, zero, suc, ◌≤◌, Bool, true, false, List, [], ◌∷◌, length, drop, Option, Some, None, refl, ap, sym, ◌∙◌, arith, inl, inr}
use Rattle.std.specs.Prelude.{take}
use Rattle.std.proofs.lemmas.Bool.Decides.{leb_tells}
use Rattle.px_text.specs.Least.{least}
use Rattle.px_text.proofs.LeastLemmas.{least-Some}
use Rattle.px_message.specs.declared.request.Request.{Request}
use Rattle.px_event.specs.declared.event.Event.{Event}
use Rattle.px_event.specs.declared.side.Side.TheVariants.{Server}
use Rattle.px_event.specs.Chain.{Timed}
use Rattle.px_chain.specs.Behind.{used_behind}
use Rattle.px_chain.specs.Keeping.{is_silent, unspoilt_by}
use Rattle.px_chain.specs.Sights.{UsedBytes, answers_in, left_by_answers, sight_of, used_by_answers}
use Rattle.px_chain.specs.Stages.{Parked, side_parked}
use Rattle.px_chain.specs.Streams.{Since, bytes_of}
use Rattle.px_chain.proofs.UsedLaws.{answers_drop}
use Rattle.px_said.specs.ClosedForm.{Told, parked_if, still_parked, told_by}
use Rattle.px_said.proofs.ClosedFronts.{Grows, IsFront, IsSame, Waits, front_behind, grows_behind, same_behind, same_bytes, same_closed, side_grows}

-- ---- over the same events

pub told_same : (server opened used : ℕ) (prefix events : List (Timed Event)) → IsSame prefix events → told_by prefix server opened used ≡ told_by events server opened used
told_same server opened used prefix events is =
    let behind = same_behind opened prefix events is in
    λ i. record {
      bytes = drop used (same_bytes (Server server) (drop opened prefix) (drop opened events) behind i);
      shut = same_closed (Server server) (drop opened prefix) (drop opened events) behind i;
    }

pub still_same : (parked : Option Parked) (opened used : ℕ) (prefix events : List (Timed Event)) → IsSame prefix events →
    still_parked prefix parked opened used ≡ still_parked events parked opened used
still_same None opened used prefix events is = refl
still_same (Some parked) opened used prefix events is =
    ap (λ (told : Told). parked_if (is_silent told.bytes told.shut) parked) (told_same parked.server opened used prefix events is)

-- ---- over more events

pub front_taken : (prefix events : List (Timed Event)) (so_many : ℕ) → IsFront prefix events → length prefix ≤ so_many → IsFront prefix (take so_many events)
front_taken [] events so_many is within = tt
front_taken (e ∷ prefix) [] so_many is within = absurd is
front_taken (e ∷ prefix) (x ∷ events) zero is within = absurd (omega (arith, within))
front_taken (e ∷ prefix) (x ∷ events) (suc so_many) is within = (is.0, front_taken prefix events so_many is.1 (omega (arith, within)))

-- what was heard of a side stays heard
heard_on : (bytes all : List ℕ) (shut ended : Bool) → Grows bytes shut all ended → is_silent bytes shut ≡ false → is_silent all ended ≡ false
heard_on [] all false ended grows is = absurd (let no : true ≡ false = is in cc)
heard_on [] all true ended grows is = let both = grows.shuts refl in ap (λ l. is_silent l ended) both.1 ∙ ap (is_silent []) both.0
heard_on (byte ∷ more) all shut ended grows is = ap (λ l. is_silent l ended) grows.grown

if_gone : (silent : Bool) (parked : Parked) → parked_if silent parked ≡ None → silent ≡ false
if_gone true parked is = absurd (let no : Some parked ≡ None = is in cc)
if_gone false parked is = refl

-- and so it is parked no more
pub gone_on : (parked : Option Parked) (opened used : ℕ) (prefix events : List (Timed Event)) → IsFront prefix events →
    still_parked prefix parked opened used ≡ None → still_parked events parked opened used ≡ None
gone_on None opened used prefix events is gone = refl
gone_on (Some parked) opened used prefix events is gone =
    let here = told_by prefix parked.server opened used in
    let there = told_by events parked.server opened used in
    let grows : Grows here.bytes here.shut there.bytes there.shut =
    grows_behind used _ _ _ _ (side_grows (Server parked.server) (drop opened prefix) (drop opened events) (front_behind opened prefix events is)) in
    ap (λ b. parked_if b parked) (heard_on here.bytes there.bytes here.shut there.shut grows (if_gone (is_silent here.bytes here.shut) parked gone))

-- so over the first so many events, where a prefix is among them
pub gone_later : (parked : Option Parked) (opened used : ℕ) (prefix events : List (Timed Event)) (so_many : ℕ) → IsFront prefix events → length prefix ≤ so_many →
    still_parked prefix parked opened used ≡ None → still_parked (take so_many events) parked opened used ≡ None
gone_later parked opened used prefix events so_many is within gone = gone_on parked opened used prefix (take so_many events) (front_taken prefix events so_many is within) gone

-- the fewest events over which something holds are none of those over which it does not
pub least_behind : (test : ℕ → Bool) (from come count found : ℕ) → Waits test from come → least test from count ≡ Some found → come ≤ found
least_behind test from come count found waits is =
    let there = least-Some test from count found is in
    elim (leb_tells come found) [
      | inl within ↦ within.1
      | inr before ↦ absurd (let no : true ≡ false = sym there.passes ∙ waits found there.from before.1 in cc)
    ]

-- ---- at a stage

none_unspoilt : (silent : Bool) → unspoilt_by silent None ≡ None
none_unspoilt true = refl
none_unspoilt false = refl

some_unspoilt : (silent : Bool) (parked : Parked) → unspoilt_by silent (Some parked) ≡ parked_if silent parked
some_unspoilt true parked = refl
some_unspoilt false parked = refl

-- what it keeps of its parked side is what is still parked over the prefix
pub unspoilt_still : (parked : Option Parked) (since : Since) (opened : ℕ) (used : UsedBytes) (up : ℕ) (prefix : List (Timed Event)) →
    let seen = sight_of (side_parked parked) since opened used up prefix in
    unspoilt_by (is_silent seen.server seen.shut) parked ≡ still_parked prefix parked opened (used_behind false (side_parked parked) used.server)
unspoilt_still None since opened used up prefix = none_unspoilt _
unspoilt_still (Some parked) since opened used up prefix = some_unspoilt _ parked

-- what is left behind the responses to a request is what is heard behind their bytes
pub left_told : (request : Request) (side : ℕ) (since : Since) (opened : ℕ) (used : UsedBytes) (up : ℕ) (prefix : List (Timed Event)) →
    let seen = sight_of (Some side) since opened used up prefix in
    let told = told_by prefix side opened (used_by_answers (answers_in request seen) used.server) in
    is_silent (left_by_answers (answers_in request seen) seen.server) seen.shut ≡ is_silent told.bytes told.shut
left_told request side since opened used up prefix =
    let seen = sight_of (Some side) since opened used up prefix in
    ap (λ l. is_silent l seen.shut) (answers_drop (answers_in request seen) seen.server used.server (bytes_of (Server side) (drop opened prefix)) refl)
