-- Requests that are sent again, over the steps of a run: how many have begun, whether one is on its way, and that each begins in its turn.
use Rattle.std.proofs.Common.{◌≡◌, ◌≢◌, ◌≤◌, ◌<◌, ◌⊎◌, inl, inr, ℕ, ◌+◌, nat_lt, ◌==◌, if◌then◌else◌, cond, Bool, true, false, ◌&&◌, ◌||◌, not, List, [], ◌∷◌, ◌++◌, Option, Some, None, is_some, refl, sym, ap, ◌∙◌, subst, append_assoc, arith, ltb-true}
use Rattle.std.specs.List.{flat_map}
use Rattle.std.proofs.lemmas.Bool.{ne_eqb}
use Rattle.std.proofs.lemmas.List.{append-nil}
use Rattle.std.proofs.lemmas.List.Folds.{list_any-append}
use Rattle.std.proofs.lemmas.List.Sums.{sum_by-append}
use Rattle.px_message.specs.declared.address.Address.{Address}
use Rattle.px_message.specs.declared.flow.Flow.{Flow}
use Rattle.px_event.specs.declared.heard.Heard.{Heard}
use Rattle.px_event.specs.declared.heard.Heard.TheVariants as heard
use Rattle.px_event.specs.declared.said.Said.{Said}
use Rattle.px_event.specs.declared.said.Said.TheVariants as said
use Rattle.px_event.specs.declared.side.Door.TheVariants.{Control, Proxy}
use Rattle.px_event.specs.declared.side.Side.{Side}
use Rattle.px_event.specs.declared.event.Event.{Event}
use Rattle.px_event.specs.declared.step.Step.{Step}
use Rattle.px_event.specs.declared.step.Step.TheVariants as steps
use Rattle.px_event.specs.Trace.{Always, BeforeEachHeard, Trace}
use Rattle.px_event.proofs.TraceLemmas.{always_empty, always_more, before_empty, before_heard, before_other}
use Rattle.px_core.specs.declared.news.News.TheVariants as news
use Rattle.px_core.specs.Calls.{Calls, addressed, begins, calls, calls_from, calls_on, dial_ends, dials, hears_by, is_dialling, no_calls, number_end, takes}
use Rattle.px_core.specs.Held.{AllOf, IsOf}
use Rattle.px_core.specs.Router.{IsNow}
use Rattle.px_core.specs.Run.{IsFrontOfBegun, done_of}
use Rattle.px_core.proofs.ServedLemmas.{last_step}
use Rattle.px_app.specs.Replayed.{BeginsInTurn, MayBegin, NoneWaits, Replays, begun_count, going_from, going_on, is_begun, is_going}
use Rattle.px_app.specs.Replaying.{ReplaysStand, behind_flows, has_resent, is_resent}
use Rattle.px_app.specs.declared.replaying.Replaying.{Replaying}

-- ---- steps by which nothing is heard, and no conversation without a client begins

abbrev pub IsQuiet : Step → Type 0
IsQuiet (steps.Heard moment what) = ⊥
IsQuiet (steps.Begun conv) = ⊥
IsQuiet step = Unit {0}

abbrev pub AreQuiet : Trace → Type 0
AreQuiet [] = Unit {0}
AreQuiet (step ∷ rest) = IsQuiet step × AreQuiet rest

quiet_of : (conv : ℕ) (step : Step) → IsOf conv step → IsQuiet step
quiet_of conv (steps.Heard moment what) of = of
quiet_of conv (steps.Begun number) of = of
quiet_of conv (steps.Asked number ask) of = tt
quiet_of conv (steps.Answered number ask reply) of = tt
quiet_of conv (steps.Said number what) of = tt
quiet_of conv (steps.Done flow) of = tt

-- such are the steps of a conversation
pub are_of : (conv : ℕ) (more : Trace) → AllOf conv more → AreQuiet more
are_of conv [] all = tt
are_of conv (step ∷ more) (here, all) = (quiet_of conv step here, are_of conv more all)

not_heard : (step : Step) → IsQuiet step → (moment : ℕ) (what : Heard) → step ≡ steps.Heard moment what → ⊥
not_heard step quiet moment what is = let P : Step → Type 0 = IsQuiet in subst P is quiet

not_begun : (step : Step) → IsQuiet step → (conv : ℕ) → step ≡ steps.Begun conv → ⊥
not_begun step quiet conv is = let P : Step → Type 0 = IsQuiet in subst P is quiet

-- ---- before each thing heard

-- quiet steps more
pub before_quiet_more : (P : Trace → Type 0) (trace more : Trace) → AreQuiet more → BeforeEachHeard P trace → BeforeEachHeard P (trace ++ more)
before_quiet_more P trace [] none before = let Q : Trace → Type 0 = BeforeEachHeard P in subst Q (sym (append-nil trace)) before
before_quiet_more P trace (step ∷ more) (here, none) before =
    let Q : Trace → Type 0 = BeforeEachHeard P in
    subst Q (append_assoc trace (step ∷ []) more)
    (before_quiet_more P (trace ++ step ∷ []) more none (before_other P trace step (not_heard step here) before))

-- a conversation without a client begins, with quiet steps behind
pub before_begun : (P : Trace → Type 0) (trace : Trace) (conv : ℕ) (more : Trace) → AreQuiet more → BeforeEachHeard P trace → BeforeEachHeard P ((trace ++ steps.Begun conv ∷ []) ++ more)
before_begun P trace conv more none before =
    before_quiet_more P (trace ++ steps.Begun conv ∷ []) more none
    (before_other P trace (steps.Begun conv) (λ moment what (is : steps.Begun conv ≡ steps.Heard moment what). absurd (cc)) before)

-- or it does not
pub before_front : (P : Trace → Type 0) (trace : Trace) (conv : ℕ) (more : Trace) → IsFrontOfBegun conv more → BeforeEachHeard P trace → BeforeEachHeard P (trace ++ more)
before_front P trace conv [] front before = let Q : Trace → Type 0 = BeforeEachHeard P in subst Q (sym (append-nil trace)) before
before_front P trace conv (step ∷ more) (is, own) before =
    let Q : Trace → Type 0 = BeforeEachHeard P in
    let R : Step → Type 0 = λ s. BeforeEachHeard P (trace ++ s ∷ more) in
    subst R (sym is) (subst Q (append_assoc trace (steps.Begun conv ∷ []) more) (before_begun P trace conv more (are_of conv more own) before))

-- ---- how many have begun

pub begun_more : (trace more : Trace) → begun_count (trace ++ more) ≡ begun_count trace + begun_count more
begun_more trace more = sum_by-append (λ (step : Step). cond (is_begun step) 1 0) trace more

begun_none : (step : Step) → IsQuiet step → is_begun step ≡ false
begun_none (steps.Heard moment what) quiet = absurd quiet
begun_none (steps.Begun conv) quiet = absurd quiet
begun_none (steps.Asked number ask) quiet = refl
begun_none (steps.Answered number ask reply) quiet = refl
begun_none (steps.Said number what) quiet = refl
begun_none (steps.Done flow) quiet = refl

begun_one : (step : Step) → is_begun step ≡ false → begun_count (step ∷ []) ≡ 0
begun_one step none = ap (λ (b : Bool). 0 + cond b 1 0) none

begun_quiet : (more : Trace) → AreQuiet more → begun_count more ≡ 0
begun_quiet [] none = refl
begun_quiet (step ∷ more) (here, none) =
    let all = begun_more (step ∷ []) more in
    let first = begun_one step (begun_none step here) in
    let rest = begun_quiet more none in
    omega (arith, all, first, rest)

-- behind something heard as many as before
pub begun_heard : (trace : Trace) (moment : ℕ) (what : Heard) (more : Trace) → AreQuiet more → begun_count ((trace ++ steps.Heard moment what ∷ []) ++ more) ≡ begun_count trace
begun_heard trace moment what more none =
    let all = begun_more (trace ++ steps.Heard moment what ∷ []) more in
    let here = begun_more trace (steps.Heard moment what ∷ []) in
    let quiet = begun_quiet more none in
    let zero : begun_count (steps.Heard moment what ∷ []) ≡ 0 = refl in
    omega (arith, all, here, quiet, zero)

-- behind a beginning one more
pub begun_next : (trace : Trace) (conv : ℕ) (more : Trace) → AreQuiet more → begun_count ((trace ++ steps.Begun conv ∷ []) ++ more) ≡ begun_count trace + 1
begun_next trace conv more none =
    let all = begun_more (trace ++ steps.Begun conv ∷ []) more in
    let here = begun_more trace (steps.Begun conv ∷ []) in
    let quiet = begun_quiet more none in
    let one : begun_count (steps.Begun conv ∷ []) ≡ 1 = refl in
    omega (arith, all, here, quiet, one)

-- ---- whether one is on its way

going_more : (going : Bool) (trace more : Trace) → going_from going (trace ++ more) ≡ going_from (going_from going trace) more
going_more going [] more = refl
going_more going (step ∷ trace) more = going_more (going_on going step) trace more

and_so : (b : Bool) → b ≡ (b && not false)
and_so true = refl
and_so false = refl

and_done : (going below : Bool) → (if below then going else false) ≡ (going && not (not below || false))
and_done true true = refl
and_done true false = refl
and_done false true = refl
and_done false false = refl

and_both : (going here more : Bool) → ((going && not here) && not more) ≡ (going && not (here || more))
and_both true true more = refl
and_both true false more = refl
and_both false true more = refl
and_both false false more = refl

going_step : (going : Bool) (step : Step) → IsQuiet step → going_on going step ≡ (going && not (has_resent (done_of step)))
going_step going (steps.Heard moment what) quiet = absurd quiet
going_step going (steps.Begun conv) quiet = absurd quiet
going_step going (steps.Asked number ask) quiet = and_so going
going_step going (steps.Answered number ask reply) quiet = and_so going
going_step going (steps.Said number what) quiet = and_so going
going_step going (steps.Done flow) quiet = and_done going (nat_lt flow.id.conv number_end)

-- quiet steps tell it by the flows that they finish
pub going_quiet : (going : Bool) (more : Trace) → AreQuiet more → going_from going more ≡ (going && not (has_resent (flat_map done_of more)))
going_quiet going [] none = and_so going
going_quiet going (step ∷ more) (here, none) =
    going_quiet (going_on going step) more none
    ∙ (ap (λ (b : Bool). b && not (has_resent (flat_map done_of more))) (going_step going step here)
    ∙ (and_both going (has_resent (done_of step)) (has_resent (flat_map done_of more))
    ∙ ap (λ (b : Bool). going && not b) (sym (list_any-append is_resent (done_of step) (flat_map done_of more)))))

-- behind something heard
pub going_heard : (trace : Trace) (moment : ℕ) (what : Heard) (more : Trace) → AreQuiet more →
    is_going ((trace ++ steps.Heard moment what ∷ []) ++ more) ≡ (is_going trace && not (has_resent (flat_map done_of more)))
going_heard trace moment what more none =
    going_more false (trace ++ steps.Heard moment what ∷ []) more
    ∙ (going_quiet (is_going (trace ++ steps.Heard moment what ∷ [])) more none
    ∙ ap (λ (b : Bool). b && not (has_resent (flat_map done_of more))) (going_more false trace (steps.Heard moment what ∷ [])))

-- behind a beginning
pub going_begun : (trace : Trace) (conv : ℕ) (more : Trace) → AreQuiet more → is_going ((trace ++ steps.Begun conv ∷ []) ++ more) ≡ (true && not (has_resent (flat_map done_of more)))
going_begun trace conv more none =
    going_more false (trace ++ steps.Begun conv ∷ []) more
    ∙ (going_quiet (is_going (trace ++ steps.Begun conv ∷ [])) more none
    ∙ ap (λ (b : Bool). b && not (has_resent (flat_map done_of more))) (going_more false trace (steps.Begun conv ∷ [])))

-- ---- each begins in its turn

module _ (total : ℕ) where
  turn_other : (trace : Trace) (step : Step) → ((conv : ℕ) → step ≡ steps.Begun conv → ⊥) → BeginsInTurn total (trace ++ step ∷ [])
  turn_other trace step other prefix conv e = absurd (other conv (sym (last_step trace prefix step (steps.Begun conv) e).1))

  turn_begun : (trace : Trace) (conv : ℕ) → MayBegin total trace conv → BeginsInTurn total (trace ++ steps.Begun conv ∷ [])
  turn_begun trace conv may prefix number e =
      let last = last_step trace prefix (steps.Begun conv) (steps.Begun number) e in
      let same : number ≡ conv = let is : steps.Begun number ≡ steps.Begun conv = last.1 in cc in
      let P : Trace → Type 0 = λ t. MayBegin total t number in
      let Q : ℕ → Type 0 = λ n. MayBegin total trace n in
      subst P (sym last.0) (subst Q (sym same) may)

  turns_quiet : (trace more : Trace) → AreQuiet more → Always (BeginsInTurn total) trace → Always (BeginsInTurn total) (trace ++ more)
  turns_quiet trace [] none before = let Q : Trace → Type 0 = Always (BeginsInTurn total) in subst Q (sym (append-nil trace)) before
  turns_quiet trace (step ∷ more) (here, none) before =
      let Q : Trace → Type 0 = Always (BeginsInTurn total) in
      subst Q (append_assoc trace (step ∷ []) more)
      (turns_quiet (trace ++ step ∷ []) more none (always_more (BeginsInTurn total) trace step before (turn_other trace step (not_begun step here))))

  turns_heard : (trace : Trace) (moment : ℕ) (what : Heard) (more : Trace) → AreQuiet more → Always (BeginsInTurn total) trace → Always (BeginsInTurn total) ((trace ++ steps.Heard moment what ∷ []) ++ more)
  turns_heard trace moment what more none before =
      turns_quiet (trace ++ steps.Heard moment what ∷ []) more none
      (always_more (BeginsInTurn total) trace (steps.Heard moment what) before
      (turn_other trace (steps.Heard moment what) (λ conv (is : steps.Heard moment what ≡ steps.Begun conv). absurd (cc))))

  turns_begun : (trace : Trace) (conv : ℕ) (more : Trace) → AreQuiet more → MayBegin total trace conv → Always (BeginsInTurn total) trace →
      Always (BeginsInTurn total) ((trace ++ steps.Begun conv ∷ []) ++ more)
  turns_begun trace conv more none may before =
      turns_quiet (trace ++ steps.Begun conv ∷ []) more none (always_more (BeginsInTurn total) trace (steps.Begun conv) before (turn_begun trace conv may))

  turns_front : (trace : Trace) (conv : ℕ) (more : Trace) → IsFrontOfBegun conv more → MayBegin total trace conv → Always (BeginsInTurn total) trace → Always (BeginsInTurn total) (trace ++ more)
  turns_front trace conv [] front may before = let Q : Trace → Type 0 = Always (BeginsInTurn total) in subst Q (sym (append-nil trace)) before
  turns_front trace conv (step ∷ more) (is, own) may before =
      let Q : Trace → Type 0 = Always (BeginsInTurn total) in
      let R : Step → Type 0 = λ s. Always (BeginsInTurn total) (trace ++ s ∷ more) in
      subst R (sym is) (subst Q (append_assoc trace (steps.Begun conv ∷ []) more) (turns_begun trace conv more (are_of conv more own) may before))

  -- ---- how it stands

  pub stands_first : (replaying : Replaying) → replaying.begun ≡ 0 → replaying.going ≡ false → ReplaysStand replaying total []
  stands_first replaying begun going = record {
    begun = begun;
    going = going;
    in_turn = always_empty (BeginsInTurn total) (λ prefix conv e. absurd (none prefix (steps.Begun conv) e));
    none_waits = before_empty (NoneWaits total);
  }
    where
      none : (prefix : Trace) (step : Step) → [] ≡ prefix ++ step ∷ [] → ⊥
      none [] step e = cc
      none (x ∷ prefix) step e = cc

  -- behind something heard, and the flows that its steps finish
  pub stands_heard : (replaying : Replaying) (told : Trace) (moment : ℕ) (what : Heard) (more : Trace) (flows : List Flow) → AreQuiet more → flows ≡ flat_map done_of more → NoneWaits total told →
      ReplaysStand replaying total told → ReplaysStand (behind_flows flows replaying) total ((told ++ steps.Heard moment what ∷ []) ++ more)
  stands_heard replaying told moment what more flows none finished goes r = record {
    begun = r.begun ∙ sym (begun_heard told moment what more none);
    going = ap (λ (b : Bool). b && not (has_resent flows)) r.going
        ∙ (ap (λ (l : List Flow). is_going told && not (has_resent l)) finished ∙ sym (going_heard told moment what more none));
    in_turn = turns_heard told moment what more none r.in_turn;
    none_waits = before_quiet_more (NoneWaits total) (told ++ steps.Heard moment what ∷ []) more none (before_heard (NoneWaits total) told moment what r.none_waits goes);
  }

  -- behind a beginning, and the flows that its steps finish
  pub stands_begun : (replaying going : Replaying) (told : Trace) (conv : ℕ) (more : Trace) (flows : List Flow) → AreQuiet more → flows ≡ flat_map done_of more → MayBegin total told conv →
      ReplaysStand replaying total told → going.begun ≡ replaying.begun + 1 → going.going ≡ true → ReplaysStand (behind_flows flows going) total ((told ++ steps.Begun conv ∷ []) ++ more)
  stands_begun replaying going told conv more flows none finished may r one goes = record {
    begun = one ∙ (ap (λ (n : ℕ). n + 1) r.begun ∙ sym (begun_next told conv more none));
    going = ap (λ (b : Bool). b && not (has_resent flows)) goes
        ∙ (ap (λ (l : List Flow). true && not (has_resent l)) finished ∙ sym (going_begun told conv more none));
    in_turn = turns_begun told conv more none may r.in_turn;
    none_waits = before_begun (NoneWaits total) told conv more none r.none_waits;
  }

  -- told by a list of these flows
  pub stands_listed : (replaying new : Replaying) (listed flows : List Flow) (told : Trace) → new ≡ behind_flows listed replaying → listed ≡ flows →
      ReplaysStand (behind_flows flows replaying) total told → ReplaysStand new total told
  stands_listed replaying new listed flows told is same = let P : Replaying → Type 0 = λ r. ReplaysStand r total told in subst P (sym (is ∙ ap (λ (l : List Flow). behind_flows l replaying) same))

  -- ---- how a run ends

  -- memory ran out, or the run is over
  pub replays_then : (status : ℕ) (told : Trace) → status ≢ 5 → status ≢ 6 → Always (BeginsInTurn total) told → BeforeEachHeard (NoneWaits total) told → Replays total status told
  replays_then status told no_fault not_spent turns before = record {
    in_turn = turns;
    none_waits = before;
    at_end = λ some cause. absurd (neither cause);
  }
    where
      neither : (status ≡ 5) ⊎ (status ≡ 6) → ⊥
      neither (inl is) = no_fault is
      neither (inr is) = not_spent is

  -- with any status, where none waits
  pub replays_whole : (replaying : Replaying) (status : ℕ) (told : Trace) → ReplaysStand replaying total told → NoneWaits total told → Replays total status told
  replays_whole replaying status told r goes = record { in_turn = r.in_turn; none_waits = r.none_waits; at_end = λ some cause. goes }

  -- memory ran out in something heard
  pub replays_in : (replaying : Replaying) (told : Trace) (moment : ℕ) (what : Heard) (more : Trace) → AreQuiet more → NoneWaits total told → ReplaysStand replaying total told →
      Replays total 8 ((told ++ steps.Heard moment what ∷ []) ++ more)
  replays_in replaying told moment what more none goes r =
      replays_then 8 ((told ++ steps.Heard moment what ∷ []) ++ more) (λ (e : 8 ≡ 5). cc) (λ (e : 8 ≡ 6). cc) (turns_heard told moment what more none r.in_turn)
      (before_quiet_more (NoneWaits total) (told ++ steps.Heard moment what ∷ []) more none (before_heard (NoneWaits total) told moment what r.none_waits goes))

  -- behind a beginning
  pub replays_in_begun : (replaying : Replaying) (told : Trace) (conv : ℕ) (more : Trace) → AllOf conv more → MayBegin total told conv → ReplaysStand replaying total told →
      Replays total 8 ((told ++ steps.Begun conv ∷ []) ++ more)
  replays_in_begun replaying told conv more own may r =
      replays_then 8 ((told ++ steps.Begun conv ∷ []) ++ more) (λ (e : 8 ≡ 5). cc) (λ (e : 8 ≡ 6). cc) (turns_begun told conv more (are_of conv more own) may r.in_turn)
      (before_begun (NoneWaits total) told conv more (are_of conv more own) r.none_waits)

  -- or within one
  pub replays_front : (replaying : Replaying) (told : Trace) (conv : ℕ) (more : Trace) → IsFrontOfBegun conv more → MayBegin total told conv → ReplaysStand replaying total told → Replays total 8 (told ++ more)
  replays_front replaying told conv more front may r =
      replays_then 8 (told ++ more) (λ (e : 8 ≡ 5). cc) (λ (e : 8 ≡ 6). cc) (turns_front told conv more front may r.in_turn) (before_front (NoneWaits total) told conv more front r.none_waits)

  -- ---- no more than there are

  module _ (told : Trace) (turns : Always (BeginsInTurn total) told) where
    may_at : (prefix rest : Trace) (conv : ℕ) → told ≡ prefix ++ steps.Begun conv ∷ rest → MayBegin total prefix conv
    may_at prefix rest conv is = turns.at (prefix ++ steps.Begun conv ∷ []) rest (is ∙ sym (append_assoc prefix (steps.Begun conv ∷ []) rest)) prefix conv refl

    within_on : (prefix rest : Trace) (step : Step) → told ≡ prefix ++ step ∷ rest → begun_count prefix ≤ total → begun_count (prefix ++ step ∷ []) ≤ total
    within_on prefix rest step is less = by step is
      where
        same : (other : Step) → is_begun other ≡ false → begun_count (prefix ++ other ∷ []) ≤ total
        same other none =
            let here = begun_more prefix (other ∷ []) in
            let zero : begun_count (other ∷ []) ≡ 0 = begun_one other none in
            omega (arith, here, zero, less)

        by : (other : Step) → told ≡ prefix ++ other ∷ rest → begun_count (prefix ++ other ∷ []) ≤ total
        by (steps.Heard moment what) split = same (steps.Heard moment what) refl
        by (steps.Begun conv) split =
            let here = begun_more prefix (steps.Begun conv ∷ []) in
            let one : begun_count (steps.Begun conv ∷ []) ≡ 1 = refl in
            let left = (may_at prefix rest conv split).left in
            omega (arith, here, one, left)
        by (steps.Asked number ask) split = same (steps.Asked number ask) refl
        by (steps.Answered number ask reply) split = same (steps.Answered number ask reply) refl
        by (steps.Said number what) split = same (steps.Said number what) refl
        by (steps.Done flow) split = same (steps.Done flow) refl

    within_from : (prefix rest : Trace) → told ≡ prefix ++ rest → begun_count prefix ≤ total → begun_count told ≤ total
    within_from prefix [] is less = let P : Trace → Type 0 = λ t. begun_count t ≤ total in subst P (sym (append-nil prefix) ∙ sym is) less
    within_from prefix (step ∷ rest) is less =
        within_from (prefix ++ step ∷ []) rest (is ∙ sym (append_assoc prefix (step ∷ []) rest)) (within_on prefix rest step is less)

    pub begun_within : begun_count told ≤ total
    begun_within = within_from [] told refl (let zero : begun_count [] ≡ 0 = refl in omega (arith, zero))

    -- ---- a number behind those that have begun is free

    module _ (n : ℕ) (behind : number_end + begun_count told ≤ n) where
      abbrev IsFree : Calls → Type 0
      IsFree c = c.peer ≡ None

      if_free : (test : Bool) (one other : Calls) → IsFree one → IsFree other → IsFree (if test then one else other)
      if_free true one other a b = a
      if_free false one other a b = b

      none_free : (o : Option (Option Address)) (one other : Calls) → o ≡ None → IsFree other → IsFree (if is_some o then one else other)
      none_free None one other none free = free
      none_free (Some at) one other none free = absurd (cc)

      free_apart : (number : ℕ) (one c : Calls) → number ≢ n → IsFree c → IsFree (if number == n then one else c)
      free_apart number one c apart free = let no : (number == n) ≡ false = ne_eqb number n apart in rw no free

      free_dials : (what : Said) (c : Calls) → IsFree c → IsFree (dials what c)
      free_dials (said.Send side bytes) c free = free
      free_dials (said.Close side) c free = free
      free_dials (said.Dial server address) c free = free

      free_event : (moment number : ℕ) (side : Side) (event : Event) (c : Calls) → IsFree c → IsFree (hears_by n moment c (Some (number, news.Event side event)))
      free_event moment number side event c free =
          if_free (number == n) (takes moment c (news.Event side event)) c (none_free c.peer _ c free free) free

      below : (number first count : ℕ) → number < first → first + count ≤ n → number ≢ n
      below number first count less more same = omega (arith, less, more, same)

      free_accepted : (moment number : ℕ) (peer : Address) (c : Calls) → IsFree c → (test : Bool) → nat_lt number number_end ≡ test →
          IsFree (hears_by n moment c (if test then Some (number, news.Begun peer) else None))
      free_accepted moment number peer c free true is =
          free_apart number (takes moment c (news.Begun peer)) c (below number number_end (begun_count told) (ltb-true number number_end is) behind) free
      free_accepted moment number peer c free false is = free

      free_heard : (moment : ℕ) (c : Calls) (what : Heard) → IsFree c → IsFree (hears_by n moment c (addressed what))
      free_heard moment c (heard.Accepted number Proxy peer) free = free_accepted moment number peer c free (nat_lt number number_end) refl
      free_heard moment c (heard.Accepted number Control peer) free = free
      free_heard moment c (heard.Piece number side bytes) free = free_event moment number side _ c free
      free_heard moment c (heard.Closed number side) free = free_event moment number side _ c free
      free_heard moment c (heard.Dialled number server ok) free =
          if_free (number == n) (takes moment c (news.Dialled server ok)) c (if_free (is_dialling server c.dial) (dial_ends moment server ok c) c free free) free
      free_heard moment c heard.End free = free

      other_than : (number first count all : ℕ) → number ≡ first + count → count < all → first + all ≤ n → number ≢ n
      other_than number first count all is less more same = omega (arith, is, less, more, same)

      free_begun : (prefix rest : Trace) (conv : ℕ) → told ≡ prefix ++ steps.Begun conv ∷ rest → conv ≢ n
      free_begun prefix rest conv is =
          let may = may_at prefix rest conv is in
          let all : begun_count told ≡ begun_count prefix + begun_count (steps.Begun conv ∷ rest) = ap begun_count is ∙ begun_more prefix (steps.Begun conv ∷ rest) in
          let here = begun_more (steps.Begun conv ∷ []) rest in
          let one : begun_count (steps.Begun conv ∷ []) ≡ 1 = refl in
          let less : begun_count prefix < begun_count told = omega (arith, all, here, one) in
          other_than conv number_end (begun_count prefix) (begun_count told) may.number less behind

      free_on : (prefix rest : Trace) (c : Calls) (step : Step) → told ≡ prefix ++ step ∷ rest → IsFree c → IsFree (calls_on n c step)
      free_on prefix rest c (steps.Heard moment what) is free = free_heard moment c what free
      free_on prefix rest c (steps.Begun conv) is free = free_apart conv (begins c.moment None c) c (free_begun prefix rest conv is) free
      free_on prefix rest c (steps.Asked number ask) is free = free
      free_on prefix rest c (steps.Answered number ask reply) is free = if_free (number == n) _ c free free
      free_on prefix rest c (steps.Said number what) is free = if_free (number == n) (dials what c) c (free_dials what c free) free
      free_on prefix rest c (steps.Done flow) is free = free

      free_from : (prefix rest : Trace) (c : Calls) → told ≡ prefix ++ rest → IsFree c → IsFree (calls_from n c rest)
      free_from prefix [] c is free = free
      free_from prefix (step ∷ rest) c is free =
          free_from (prefix ++ step ∷ []) rest (calls_on n c step) (is ∙ sym (append_assoc prefix (step ∷ []) rest)) (free_on prefix rest c step is free)

      -- nothing has begun under it
      pub not_begun_yet : (calls n told).peer ≡ None
      not_begun_yet = free_from [] told no_calls refl refl

-- ---- the moment of what was heard last

moment_if : (moment : ℕ) (test : Bool) (one other : Calls) → one.moment ≡ moment → other.moment ≡ moment → (if test then one else other).moment ≡ moment
moment_if moment true one other a b = a
moment_if moment false one other a b = b

moment_dials : (what : Said) (c : Calls) → (dials what c).moment ≡ c.moment
moment_dials (said.Send side bytes) c = refl
moment_dials (said.Close side) c = refl
moment_dials (said.Dial server address) c = refl

moment_on : (conv : ℕ) (c : Calls) (step : Step) → ((moment : ℕ) (what : Heard) → step ≡ steps.Heard moment what → ⊥) → (calls_on conv c step).moment ≡ c.moment
moment_on conv c (steps.Heard moment what) other = absurd (other moment what refl)
moment_on conv c (steps.Begun number) other = moment_if c.moment (number == conv) (begins c.moment None c) c (moment_if c.moment (is_some c.peer) c _ refl refl) refl
moment_on conv c (steps.Asked number ask) other = refl
moment_on conv c (steps.Answered number ask reply) other = moment_if c.moment (number == conv) _ c refl refl
moment_on conv c (steps.Said number what) other = moment_if c.moment (number == conv) (dials what c) c (moment_dials what c) refl
moment_on conv c (steps.Done flow) other = refl

moment_from : (conv : ℕ) (c : Calls) (more : Trace) → AreQuiet more → (calls_from conv c more).moment ≡ c.moment
moment_from conv c [] none = refl
moment_from conv c (step ∷ more) (here, none) = moment_from conv (calls_on conv c step) more none ∙ moment_on conv c step (not_heard step here)

calls_join : (conv : ℕ) (c : Calls) (front more : Trace) → calls_from conv c (front ++ more) ≡ calls_from conv (calls_from conv c front) more
calls_join conv c [] more = refl
calls_join conv c (step ∷ front) more = calls_join conv (calls_on conv c step) front more

-- quiet steps leave it
pub now_quiet : (moment : ℕ) (trace more : Trace) → AreQuiet more → IsNow moment trace → IsNow moment (trace ++ more)
now_quiet moment trace more none now conv = ap (λ (c : Calls). c.moment) (calls_join conv no_calls trace more) ∙ (moment_from conv (calls conv trace) more none ∙ now conv)

-- and so does a beginning
pub now_begun : (moment : ℕ) (trace : Trace) (conv : ℕ) (more : Trace) → AreQuiet more → IsNow moment trace → IsNow moment ((trace ++ steps.Begun conv ∷ []) ++ more)
now_begun moment trace conv more none now =
    now_quiet moment (trace ++ steps.Begun conv ∷ []) more none
    (λ number. ap (λ (c : Calls). c.moment) (calls_join number no_calls trace (steps.Begun conv ∷ []))
    ∙ (moment_on number (calls number trace) (steps.Begun conv) (λ m what (is : steps.Begun conv ≡ steps.Heard m what). absurd (cc)) ∙ now number))

-- something heard sets it
pub now_behind : (moment : ℕ) (trace : Trace) (what : Heard) (more : Trace) → AreQuiet more → IsNow moment ((trace ++ steps.Heard moment what ∷ []) ++ more)
now_behind moment trace what more none =
    now_quiet moment (trace ++ steps.Heard moment what ∷ []) more none
    (λ conv. ap (λ (c : Calls). c.moment) (calls_join conv no_calls trace (steps.Heard moment what ∷ [])))

-- and so does the end of what is heard
pub now_end : (moment : ℕ) (trace : Trace) → IsNow moment (trace ++ steps.Heard moment heard.End ∷ [])
now_end moment trace conv = ap (λ (c : Calls). c.moment) (calls_join conv no_calls trace (steps.Heard moment heard.End ∷ []))
