-- What a wire took for a side begins what was sent to the side: by the calls' rules, where nothing is sent to a side that was
-- not opened and no server is dialled twice.
use Rattle.std.proofs.Common.{◌≡◌, ◌⊎◌, inl, inr, ◌∙◌, ℕ, ◌+◌, ◌<◌, ◌≤◌, Bool, true, false, cond, refl, ap, sym, subst, arith, List, [], ◌∷◌, ◌++◌, ◌==◌, ◌&&◌, ◌||◌, Option, Some, None}
use Rattle.std.specs.Prelude.{nat_lt}
use Rattle.std.specs.List.{find, flat_map}
use Rattle.std.proofs.lemmas.Bool.{eq-eqb, eqb-true}
use Rattle.std.proofs.lemmas.List.{append-nil, append_assoc}
use Rattle.std.proofs.lemmas.List.Folds.{list_any-append}
use Rattle.std.proofs.lemmas.Grind.{flat_map-append}
use Rattle.px_text.specs.Prefix.{IsPrefixOf}
use Rattle.px_message.specs.declared.address.Address.{Address}
use Rattle.px_event.specs.Trace.{Trace, Always, sent, said, said_in, bytes_for, bytes_to, is_same_side}
use Rattle.px_event.specs.declared.side.Side.{Side}
use Rattle.px_event.specs.declared.side.Side.TheVariants.{Client, Server}
use Rattle.px_event.specs.declared.side.Door.{Door}
use Rattle.px_event.specs.declared.heard.Heard.{Heard}
use Rattle.px_event.specs.declared.heard.Heard.TheVariants as heard
use Rattle.px_event.specs.declared.said.Said.{Said}
use Rattle.px_event.specs.declared.said.Said.TheVariants as said
use Rattle.px_event.specs.declared.step.Step.{Step}
use Rattle.px_event.specs.declared.step.Step.TheVariants as steps
use Rattle.px_wire.specs.declared.call.WireCall.{WireCall}
use Rattle.px_wire.specs.declared.call.WireCall.TheVariants as calls
use Rattle.px_wire.specs.declared.wire.Ready.{Ready}
use Rattle.px_wire.specs.declared.wire.Ready.TheVariants as ready
use Rattle.px_wire.specs.Calls.{Calls, step_in, steps_of}
use Rattle.px_wire.specs.Ledger.{Life, Ledger, no_ledger, new_life, number_end, after, tells, says, dials, dial_of, dial_heard, piece_of, change_first, move_first, drop_first, is_life_at, is_life_of}
use Rattle.px_wire.specs.Rules.{FirstIs, MayTake, Allowed, Obeys, ObeysFrom}
use Rattle.px_wire.specs.Taken.{ended_by, lives_from, taken_by, opens, is_opened, SendsToOpened, DialsOnce, TakesWhatWasSent}
use Rattle.px_wire.proofs.PlaceLemmas.{side_same, side_self}
use Rattle.px_wire.proofs.OwnLives.{NoneOwn, OneOwn, own_changed, one_changed, first_changed, own_one_changed, none_added, one_added, new_added, none_moved, one_moved, none_taken, one_taken, none_dropped, OneDropped, one_dropped, dropped}

-- ---- a front of the calls

pub steps_joined : (front rest : Calls) → steps_of (front ++ rest) ≡ steps_of front ++ steps_of rest
steps_joined front rest = flat_map-append step_in front rest

front_obeys_from : (l : Ledger) (front rest : Calls) → ObeysFrom l (front ++ rest) → ObeysFrom l front
front_obeys_from l [] rest obeys = tt
front_obeys_from l (call ∷ front) rest obeys = (obeys.0, front_obeys_from (after l call) front rest obeys.1)

pub front_obeys : (front rest : Calls) → Obeys (front ++ rest) → Obeys front
front_obeys front rest obeys = front_obeys_from no_ledger front rest obeys

-- ---- prefixes

prefix_more : (xs ys more : List ℕ) → IsPrefixOf xs ys → IsPrefixOf xs (ys ++ more)
prefix_more xs ys more before = (before.0 ++ more, ap (λ (l : List ℕ). l ++ more) before.1 ∙ append_assoc xs before.0 more)

prefix_of_none : (xs : List ℕ) → IsPrefixOf xs [] → xs ≡ []
prefix_of_none [] before = refl
prefix_of_none (x ∷ xs) before = let e = before.1 in absurd (cc)

-- ---- keys

left_holds : (a b : Bool) → (a && b) ≡ true → a ≡ true
left_holds true b both = refl
left_holds false b both = let e : false ≡ true = both in absurd (cc)

right_holds : (a b : Bool) → (a && b) ≡ true → b ≡ true
right_holds true b both = both
right_holds false b both = let e : false ≡ true = both in absurd (cc)

either_holds : (a b : Bool) → (a || b) ≡ true → (a ≡ true) ⊎ (b ≡ true)
either_holds true b some = inl refl
either_holds false b some = inr some

-- ---- the trace

sent_joined : (trace more : Trace) (conv : ℕ) (side : Side) → sent (trace ++ more) conv side ≡ sent trace conv side ++ sent more conv side
sent_joined trace more conv side =
    ap (bytes_to side) (flat_map-append (said_in conv) trace more) ∙ flat_map-append (bytes_for side) (said trace conv) (said more conv)

sent_if : (conv : ℕ) (side : Side) (mine : Bool) (what : Said) → flat_map (bytes_for side) (cond mine (what ∷ []) [] ++ []) ≡ cond mine (bytes_for side what) []
sent_if conv side false what = refl
sent_if conv side true what = append-nil (bytes_for side what)

pub sent_said : (conv : ℕ) (side : Side) (number : ℕ) (what : Said) → sent (steps.Said number what ∷ []) conv side ≡ cond (number == conv) (bytes_for side what) []
sent_said conv side number what = sent_if conv side (number == conv) what

opened_joined : (conv : ℕ) (side : Side) (trace : Trace) (step : Step) → is_opened conv side (trace ++ step ∷ []) ≡ true → (is_opened conv side trace ≡ true) ⊎ (opens conv side step ≡ true)
opened_joined conv side trace step now = by (either_holds (is_opened conv side trace) (is_opened conv side (step ∷ [])) (sym (list_any-append (opens conv side) trace (step ∷ [])) ∙ now))
  where
    by : (is_opened conv side trace ≡ true) ⊎ ((opens conv side step || false) ≡ true) → (is_opened conv side trace ≡ true) ⊎ (opens conv side step ≡ true)
    by (inl before) = inl before
    by (inr last) = inr (left_of (opens conv side step) last)
      where
        left_of : (b : Bool) → (b || false) ≡ true → b ≡ true
        left_of true is = refl
        left_of false is = is

opened_more : (conv : ℕ) (side : Side) (trace more : Trace) → is_opened conv side trace ≡ true → is_opened conv side (trace ++ more) ≡ true
opened_more conv side trace more before = list_any-append (opens conv side) trace more ∙ ap (λ (b : Bool). b || is_opened conv side more) before

opened_last : (conv : ℕ) (side : Side) (trace : Trace) (step : Step) → opens conv side step ≡ true → is_opened conv side (trace ++ step ∷ []) ≡ true
opened_last conv side [] step last = ap (λ (b : Bool). b || false) last
opened_last conv side (first ∷ trace) step last = by (opens conv side first) (opened_last conv side trace step last)
  where
    by : (b : Bool) → is_opened conv side (trace ++ step ∷ []) ≡ true → (b || is_opened conv side (trace ++ step ∷ [])) ≡ true
    by true rest = refl
    by false rest = rest

-- ---- where a side stands

-- the side has, or had, a life
abbrev pub Begun : ℕ → Side → Trace → ℕ → Type 0
Begun conv Client trace accepted = conv < accepted
Begun conv (Server server) trace accepted = is_opened conv (Server server) trace ≡ true

-- what was said in a life is this, and what was taken begins it
abbrev pub Kept : List ℕ → Life → Type 0
Kept text life = (life.said ≡ text) × IsPrefixOf life.taken life.said

-- No life is the side's, and what was taken in the one that ended begins what was sent. Or one is, and none ended.
abbrev pub Stage : (Life → Bool) → List ℕ → List ℕ → Type 0 → List Life → Type 0
Stage own ended text begun lives = (NoneOwn own lives × IsPrefixOf ended text) ⊎ ((ended ≡ []) × OneOwn own (Kept text) lives × begun)

abbrev pub NumbersBelow : Trace → ℕ → Type 0
NumbersBelow trace accepted = (n : ℕ) → is_opened n Client trace ≡ true → n < accepted

abbrev pub OwedBelow : Option Heard → ℕ → Type 0
OwedBelow (Some (heard.Accepted number door peer)) accepted = number < accepted
OwedBelow _ accepted = Unit {0}

pub record Holds (conv : ℕ) (side : Side) (ended : List ℕ) (trace : Trace) (l : Ledger) : Type 0 where
  pub stage : Stage (is_life_of conv side) ended (sent trace conv side) (Begun conv side trace l.accepted) l.lives
  pub numbers : NumbersBelow trace l.accepted
  pub owed : OwedBelow l.owed l.accepted

begun_more : (conv : ℕ) (side : Side) (trace more : Trace) (accepted accepted' : ℕ) → accepted ≤ accepted' → Begun conv side trace accepted → Begun conv side (trace ++ more) accepted'
begun_more conv Client trace more accepted accepted' grows before = omega arith
begun_more conv (Server server) trace more accepted accepted' grows before = opened_more conv (Server server) trace more before

begun_later : (conv : ℕ) (side : Side) (trace : Trace) (accepted accepted' : ℕ) → accepted ≤ accepted' → Begun conv side trace accepted → Begun conv side trace accepted'
begun_later conv Client trace accepted accepted' grows before = omega arith
begun_later conv (Server server) trace accepted accepted' grows before = before

module _ (own : Life → Bool) (ended text : List ℕ) (begun : Type 0) (lives : List Life) where
  -- a life is changed in what neither was said nor taken
  stage_changed : (test : Life → Bool) (f : Life → Life) → ((life : Life) → own (f life) ≡ own life) → ((life : Life) → own life ≡ true → test life ≡ true → Kept text life → Kept text (f life))
      → Stage own ended text begun lives → Stage own ended text begun (change_first test f lives)
  stage_changed test f same keeps (inl none) = inl (own_changed own test f same lives ∙ none.0, none.1)
  stage_changed test f same keeps (inr one) = inr (one.0, one_changed own (Kept text) test f same keeps lives one.1, one.2)

  -- and goes behind all others
  stage_moved : (test : Life → Bool) (f : Life → Life) → ((life : Life) → own (f life) ≡ own life) → ((life : Life) → own life ≡ true → test life ≡ true → Kept text life → Kept text (f life))
      → Stage own ended text begun lives → Stage own ended text begun (move_first test f lives)
  stage_moved test f same keeps (inl none) = inl (none_moved own test f same lives none.0, none.1)
  stage_moved test f same keeps (inr one) = inr (one.0, one_moved own test f same (Kept text) keeps lives one.1, one.2)

  -- bytes are taken
  stage_took : (test : Life → Bool) (bytes : List ℕ) → ((life : Life) → own (record life { taken = life.taken ++ bytes }) ≡ own life) → FirstIs test (MayTake bytes) lives
      → Stage own ended text begun lives → Stage own ended text begun (change_first test (λ life. record life { taken = life.taken ++ bytes }) lives)
  stage_took test bytes same first (inl none) = inl (own_changed own test (λ life. record life { taken = life.taken ++ bytes }) same lives ∙ none.0, none.1)
  stage_took test bytes same first (inr one) =
      inr (one.0, first_changed own (Kept text) test (λ life. record life { taken = life.taken ++ bytes }) same (MayTake bytes) (λ life may kept. (kept.0, may.next)) lives first one.1, one.2)

  -- bytes are said to it
  stage_said : (bytes : List ℕ) → ((life : Life) → own (record life { said = life.said ++ bytes }) ≡ own life)
      → Stage own ended text begun lives → Stage own ended (text ++ bytes) begun (change_first own (λ life. record life { said = life.said ++ bytes }) lives)
  stage_said bytes same (inl none) = inl (own_changed own own (λ life. record life { said = life.said ++ bytes }) same lives ∙ none.0, prefix_more ended text bytes none.1)
  stage_said bytes same (inr one) =
      inr (
        one.0,
        own_one_changed own (Kept (text ++ bytes)) own (λ life. record life { said = life.said ++ bytes }) same (Kept text)
            (λ life kept. (ap (λ (l : List ℕ). l ++ bytes) kept.0, prefix_more life.taken life.said bytes kept.1)) lives one.1,
        one.2,
      )

  -- one more, of another side
  stage_other : (new : Life) → own new ≡ false → Stage own ended text begun lives → Stage own ended text begun (lives ++ new ∷ [])
  stage_other new other (inl none) = inl (none_added own lives new none.0 other, none.1)
  stage_other new other (inr one) = inr (one.0, one_added own (Kept text) lives new one.1 other, one.2)

  -- its own begins
  stage_begins : (new : Life) (begun' : Type 0) → own new ≡ true → text ≡ [] → (new.said ≡ []) → (new.taken ≡ []) → ¬ begun → begun'
      → Stage own ended text begun lives → Stage own ended text begun' (lives ++ new ∷ [])
  stage_begins new begun' mine empty nothing_said nothing_taken never now (inl none) =
      let P : List ℕ → Type 0 = λ l. IsPrefixOf ended l in
      let Q : List ℕ → Type 0 = λ l. IsPrefixOf l new.said in
      inr (
        prefix_of_none ended (subst P empty none.1),
        new_added own (Kept text) lives new none.0 mine (nothing_said ∙ sym empty, subst Q (sym nothing_taken) (new.said, refl)),
        now,
      )
  stage_begins new begun' mine empty nothing_said nothing_taken never now (inr one) = absurd (never one.2)

stage_so : (own : Life → Bool) (ended text text' : List ℕ) (begun begun' : Type 0) (lives : List Life) → text ≡ text' → (begun → begun')
    → Stage own ended text begun lives → Stage own ended text' begun' lives
stage_so own ended text text' begun begun' lives same later (inl none) = inl (none.0, (let P : List ℕ → Type 0 = λ l. IsPrefixOf ended l in subst P same none.1))
stage_so own ended text text' begun begun' lives same later (inr one) = inr (one.0, (let P : List ℕ → Type 0 = λ l. OneOwn own (Kept l) lives in subst P same one.1), later one.2)

-- a life is dropped
stage_dropped : (conv : ℕ) (side : Side) (ended text : List ℕ) (begun : Type 0) (lives : List Life) (test : Life → Bool) → Stage (is_life_of conv side) ended text begun lives
    → Stage (is_life_of conv side) (ended ++ dropped conv side test lives) text begun (drop_first test lives)
stage_dropped conv side ended text begun lives test (inl none) =
    let parts = none_dropped conv side test lives none.0 in
    let P : List ℕ → Type 0 = λ l. IsPrefixOf l text in
    inl (parts.0, subst P (sym (ap (λ (l : List ℕ). ended ++ l) parts.1 ∙ append-nil ended)) none.1)
stage_dropped conv side ended text begun lives test (inr one) = by (one_dropped conv side (Kept text) test lives one.1)
  where
    by : OneDropped conv side (Kept text) test lives → Stage (is_life_of conv side) (ended ++ dropped conv side test lives) text begun (drop_first test lives)
    by (inl there) = inr (ap (λ (l : List ℕ). ended ++ l) there.1 ∙ (append-nil ended ∙ one.0), there.0, one.2)
    by (inr gone) =
        let life = gone.1.0 in
        let kept = gone.1.1 in
        let all : ended ++ dropped conv side test lives ≡ life.taken = ap (λ (l : List ℕ). l ++ dropped conv side test lives) one.0 ∙ gone.1.2 in
        let P : List ℕ → Type 0 = λ l. IsPrefixOf l text in
        let Q : List ℕ → Type 0 = λ l. IsPrefixOf life.taken l in
        inl (gone.0, subst P (sym all) (subst Q kept.0 kept.1))

-- ---- one call more

piece_below : (bytes : List ℕ) (life : Option Life) (accepted : ℕ) → OwedBelow (piece_of bytes life) accepted
piece_below bytes None accepted = tt
piece_below bytes (Some life) accepted = tt

dial_below : (ok : Bool) (life : Option Life) (accepted : ℕ) → OwedBelow (dial_of ok life) accepted
dial_below ok None accepted = tt
dial_below ok (Some life) accepted = by life.side
  where
    by : (side : Side) → OwedBelow (dial_heard life.conv ok side) accepted
    by Client = tt
    by (Server server) = tt

module _ (conv : ℕ) (side : Side) (ended : List ℕ) (trace : Trace) where
  abbrev Here : Ledger → Type 0
  Here l = Holds conv side ended trace l

  -- nothing was told
  owes : (l : Ledger) (moment : ℕ) (owed : Option Heard) (refused : Option ℕ) → OwedBelow owed l.accepted → Here l
      → Here (record { lives = l.lives; accepted = l.accepted; moment = moment; owed = owed; refused = refused })
  owes l moment owed refused below h = record { stage = h.stage; numbers = h.numbers; owed = below }

  -- a life is changed in what neither was said nor taken
  changed : (l : Ledger) (moment : ℕ) (owed : Option Heard) (refused : Option ℕ) (test : Life → Bool) (f : Life → Life)
      → ((life : Life) → is_life_of conv side (f life) ≡ is_life_of conv side life)
      → ((life : Life) (text : List ℕ) → is_life_of conv side life ≡ true → test life ≡ true → Kept text life → Kept text (f life))
      → OwedBelow owed l.accepted → Here l
      → Here (record { lives = change_first test f l.lives; accepted = l.accepted; moment = moment; owed = owed; refused = refused })
  changed l moment owed refused test f same keeps below h = record {
    stage = stage_changed (is_life_of conv side) ended (sent trace conv side) (Begun conv side trace l.accepted) l.lives test f same (λ life. keeps life (sent trace conv side)) h.stage;
    numbers = h.numbers;
    owed = below;
  }

  -- a step by which nothing is sent
  stepped : (l : Ledger) (step : Step) → sent (step ∷ []) conv side ≡ [] → ((n : ℕ) → opens n Client step ≡ true → n < l.accepted) → Here l → Holds conv side ended (trace ++ step ∷ []) l
  stepped l step nothing below h = record {
    stage = stage_so (is_life_of conv side) ended (sent trace conv side) (sent (trace ++ step ∷ []) conv side) (Begun conv side trace l.accepted) (Begun conv side (trace ++ step ∷ []) l.accepted) l.lives
        (sym (sent_joined trace (step ∷ []) conv side ∙ (ap (λ (l : List ℕ). sent trace conv side ++ l) nothing ∙ append-nil (sent trace conv side))))
        (begun_more conv side trace (step ∷ []) l.accepted l.accepted (omega arith)) h.stage;
    numbers = λ n is. (elim (opened_joined n Client trace step is) as (λ _. n < l.accepted) [ inl before ↦ h.numbers n before | inr last ↦ below n last ]);
    owed = h.owed;
  }

  -- no step, and no life ends
  silent : (l : Ledger) → Here l → Holds conv side (ended ++ []) (trace ++ []) l
  silent l h =
      let P : List ℕ → Type 0 = λ e. Holds conv side e (trace ++ []) l in
      let Q : Trace → Type 0 = λ t. Holds conv side ended t l in
      subst P (sym (append-nil ended)) (subst Q (sym (append-nil trace)) h)

-- no life ends
endless : (conv : ℕ) (side : Side) (ended : List ℕ) (trace : Trace) (l : Ledger) → Holds conv side ended trace l → Holds conv side (ended ++ []) trace l
endless conv side ended trace l h = let P : List ℕ → Type 0 = λ e. Holds conv side e trace l in subst P (sym (append-nil ended)) h

-- ---- what is said

both_own : (conv number : ℕ) (side other : Side) (life : Life) → is_life_of conv side life ≡ true → is_life_of number other life ≡ true → ((number == conv) && is_same_side other side) ≡ true
both_own conv number side other life mine its =
    let a : life.conv ≡ conv = eqb-true life.conv conv (left_holds (life.conv == conv) (is_same_side life.side side) mine) in
    let b : life.conv ≡ number = eqb-true life.conv number (left_holds (life.conv == number) (is_same_side life.side other) its) in
    let c : life.side ≡ side = side_same life.side side (right_holds (life.conv == conv) (is_same_side life.side side) mine) in
    let d : life.side ≡ other = side_same life.side other (right_holds (life.conv == number) (is_same_side life.side other) its) in
    let P : Side → Type 0 = λ s. is_same_side other s ≡ true in
    let e : is_same_side other side ≡ true = subst P (sym d ∙ c) (side_self other) in
    let n : (number == conv) ≡ true = eq-eqb number conv (sym b ∙ a) in
    rw n e

own_send : (conv : ℕ) (side : Side) (ended : List ℕ) (trace : Trace) (l : Ledger) (bytes : List ℕ) → Holds conv side ended trace l
    → Holds conv side ended (trace ++ steps.Said conv (said.Send side bytes) ∷ []) (says conv (said.Send side bytes) l)
own_send conv side ended trace l bytes h =
    let step = steps.Said conv (said.Send side bytes) in
    let one : sent (step ∷ []) conv side ≡ bytes =
    sent_said conv side conv (said.Send side bytes)
    ∙ (ap (λ (b : Bool). cond b (bytes_for side (said.Send side bytes)) []) (eq-eqb conv conv refl) ∙ ap (λ (b : Bool). cond b bytes []) (side_self side)) in
    record {
      stage = stage_so (is_life_of conv side) ended (sent trace conv side ++ bytes) (sent (trace ++ step ∷ []) conv side) (Begun conv side trace l.accepted) (Begun conv side (trace ++ step ∷ []) l.accepted)
          (change_first (is_life_of conv side) (λ life. record life { said = life.said ++ bytes }) l.lives)
          (sym (sent_joined trace (step ∷ []) conv side ∙ ap (λ (l : List ℕ). sent trace conv side ++ l) one))
          (begun_more conv side trace (step ∷ []) l.accepted l.accepted (omega arith))
          (stage_said (is_life_of conv side) ended (sent trace conv side) (Begun conv side trace l.accepted) l.lives bytes (λ life. refl) h.stage);
      numbers = λ n is. (elim (opened_joined n Client trace step is) as (λ _. n < l.accepted) [ inl before ↦ h.numbers n before | inr last ↦ absurd (let e : false ≡ true = last in cc) ]);
      owed = h.owed;
    }

other_send : (conv : ℕ) (side : Side) (ended : List ℕ) (trace : Trace) (l : Ledger) (number : ℕ) (other : Side) (bytes : List ℕ) → ((number == conv) && is_same_side other side) ≡ false
    → Holds conv side ended trace l → Holds conv side ended (trace ++ steps.Said number (said.Send other bytes) ∷ []) (says number (said.Send other bytes) l)
other_send conv side ended trace l number other bytes differs h =
    let step = steps.Said number (said.Send other bytes) in
    changed conv side ended (trace ++ step ∷ []) l l.moment l.owed l.refused (is_life_of number other) (λ life. record life { said = life.said ++ bytes }) (λ life. refl)
    (λ life text mine its kept. absurd (let e = sym differs ∙ both_own conv number side other life mine its in cc)) h.owed
    (stepped conv side ended trace l step (sent_said conv side number (said.Send other bytes) ∙ nothing (number == conv) (is_same_side other side) differs)
    (λ n last. absurd (let e : false ≡ true = last in cc)) h)
  where
    nothing : (a b : Bool) → (a && b) ≡ false → cond a (cond b bytes []) [] ≡ []
    nothing false b none = refl
    nothing true false none = refl
    nothing true true none = let e : true ≡ false = none in absurd (cc)

sends : (conv : ℕ) (side : Side) (ended : List ℕ) (trace : Trace) (l : Ledger) (number : ℕ) (other : Side) (bytes : List ℕ)
    → Holds conv side ended trace l → Holds conv side ended (trace ++ steps.Said number (said.Send other bytes) ∷ []) (says number (said.Send other bytes) l)
sends conv side ended trace l number other bytes h = by ((number == conv) && is_same_side other side) refl
  where
    by : (b : Bool) → ((number == conv) && is_same_side other side) ≡ b → Holds conv side ended (trace ++ steps.Said number (said.Send other bytes) ∷ []) (says number (said.Send other bytes) l)
    by false is = other_send conv side ended trace l number other bytes is h
    by true is =
        let a : number ≡ conv = eqb-true number conv (left_holds (number == conv) (is_same_side other side) is) in
        let b : other ≡ side = side_same other side (right_holds (number == conv) (is_same_side other side) is) in
        let P : ℕ → Type 0 = λ n. Holds conv side ended (trace ++ steps.Said n (said.Send other bytes) ∷ []) (says n (said.Send other bytes) l) in
        let Q : Side → Type 0 = λ s. Holds conv side ended (trace ++ steps.Said conv (said.Send s bytes) ∷ []) (says conv (said.Send s bytes) l) in
        subst P (sym a) (subst Q (sym b) (own_send conv side ended trace l bytes h))

nothing_said : (conv : ℕ) (side : Side) (number : ℕ) (what : Said) → bytes_for side what ≡ [] → sent (steps.Said number what ∷ []) conv side ≡ []
nothing_said conv side number what nothing = sent_said conv side number what ∙ by (number == conv)
  where
    by : (b : Bool) → cond b (bytes_for side what) [] ≡ []
    by true = nothing
    by false = refl

closes : (conv : ℕ) (side : Side) (ended : List ℕ) (trace : Trace) (l : Ledger) (number : ℕ) (other : Side)
    → Holds conv side ended trace l → Holds conv side ended (trace ++ steps.Said number (said.Close other) ∷ []) (says number (said.Close other) l)
closes conv side ended trace l number other h =
    changed conv side ended (trace ++ steps.Said number (said.Close other) ∷ []) l l.moment l.owed l.refused (is_life_of number other) (λ life. record life { is_closing = true })
    (λ life. refl) (λ life text mine its kept. kept) h.owed
    (stepped conv side ended trace l (steps.Said number (said.Close other)) (nothing_said conv side number (said.Close other) refl) (λ n last. absurd (let e : false ≡ true = last in cc)) h)

-- ---- what is heard

-- no client is opened by it
abbrev Quiet : Heard → Type 0
Quiet (heard.Accepted number door peer) = ⊥
Quiet what = Unit {0}

opens_none : (moment : ℕ) (what : Heard) → Quiet what → (n : ℕ) → opens n Client (steps.Heard moment what) ≡ false
opens_none moment (heard.Accepted number door peer) quiet n = absurd quiet
opens_none moment (heard.Piece number other bytes) quiet n = refl
opens_none moment (heard.Closed number other) quiet n = refl
opens_none moment (heard.Dialled number server ok) quiet n = refl
opens_none moment heard.End quiet n = refl

heard_quiet : (conv : ℕ) (side : Side) (ended : List ℕ) (trace : Trace) (l : Ledger) (moment : ℕ) (what : Heard) → Quiet what
    → Holds conv side ended trace l → Holds conv side ended (trace ++ steps.Heard moment what ∷ []) l
heard_quiet conv side ended trace l moment what quiet h =
    stepped conv side ended trace l (steps.Heard moment what) refl (λ n last. absurd (let e = sym last ∙ opens_none moment what quiet n in cc)) h

heard_accepted : (conv : ℕ) (side : Side) (ended : List ℕ) (trace : Trace) (l : Ledger) (moment number : ℕ) (door : Door) (peer : Address) → l.owed ≡ Some (heard.Accepted number door peer)
    → Holds conv side ended trace l → Holds conv side ended (trace ++ steps.Heard moment (heard.Accepted number door peer) ∷ []) l
heard_accepted conv side ended trace l moment number door peer owed h =
    let P : Option Heard → Type 0 = λ o. OwedBelow o l.accepted in
    let below : number < l.accepted = subst P owed h.owed in
    stepped conv side ended trace l (steps.Heard moment (heard.Accepted number door peer)) refl
    (λ n last. (let P : ℕ → Type 0 = λ k. k < l.accepted in subst P (eqb-true number n last) below)) h

hears_step : (conv : ℕ) (side : Side) (ended : List ℕ) (trace : Trace) (l : Ledger) (moment : ℕ) (what : Heard) → Allowed l (calls.Noted (steps.Heard moment what))
    → Holds conv side ended trace l → Holds conv side ended (trace ++ steps.Heard moment what ∷ []) (after l (calls.Noted (steps.Heard moment what)))
hears_step conv side ended trace l moment (heard.Accepted number door peer) allowed h =
    owes conv side ended (trace ++ steps.Heard moment (heard.Accepted number door peer) ∷ []) l l.moment None l.refused tt (heard_accepted conv side ended trace l moment number door peer allowed.1 h)
hears_step conv side ended trace l moment (heard.Piece number other bytes) allowed h =
    changed conv side ended (trace ++ steps.Heard moment (heard.Piece number other bytes) ∷ []) l l.moment None l.refused (is_life_of number other) (λ life. record life { heard = life.heard ++ bytes })
    (λ life. refl) (λ life text mine its kept. kept) tt (heard_quiet conv side ended trace l moment (heard.Piece number other bytes) tt h)
hears_step conv side ended trace l moment (heard.Closed number other) allowed h =
    changed conv side ended (trace ++ steps.Heard moment (heard.Closed number other) ∷ []) l l.moment None l.refused (is_life_of number other) (λ life. record life { is_finished = true })
    (λ life. refl) (λ life text mine its kept. kept) tt (heard_quiet conv side ended trace l moment (heard.Closed number other) tt h)
hears_step conv side ended trace l moment (heard.Dialled number server false) allowed h =
    changed conv side ended (trace ++ steps.Heard moment (heard.Dialled number server false) ∷ []) l l.moment None l.refused (is_life_of number (Server server)) (λ life. record life { is_finished = true })
    (λ life. refl) (λ life text mine its kept. kept) tt (heard_quiet conv side ended trace l moment (heard.Dialled number server false) tt h)
hears_step conv side ended trace l moment (heard.Dialled number server true) allowed h =
    owes conv side ended (trace ++ steps.Heard moment (heard.Dialled number server true) ∷ []) l l.moment None l.refused tt (heard_quiet conv side ended trace l moment (heard.Dialled number server true) tt h)
hears_step conv side ended trace l moment heard.End allowed h =
    owes conv side ended (trace ++ steps.Heard moment heard.End ∷ []) l l.moment None l.refused tt (heard_quiet conv side ended trace l moment heard.End tt h)

notes_step : (conv : ℕ) (side : Side) (ended : List ℕ) (trace : Trace) (l : Ledger) (step : Step) → Allowed l (calls.Noted step)
    → Holds conv side ended trace l → Holds conv side ended (trace ++ step ∷ []) (after l (calls.Noted step))
notes_step conv side ended trace l (steps.Heard moment what) allowed h = hears_step conv side ended trace l moment what allowed h
notes_step conv side ended trace l (steps.Begun number) allowed h = stepped conv side ended trace l (steps.Begun number) refl (λ n last. absurd (let e : false ≡ true = last in cc)) h
notes_step conv side ended trace l (steps.Asked number ask) allowed h = stepped conv side ended trace l (steps.Asked number ask) refl (λ n last. absurd (let e : false ≡ true = last in cc)) h
notes_step conv side ended trace l (steps.Answered number ask reply) allowed h =
    stepped conv side ended trace l (steps.Answered number ask reply) refl (λ n last. absurd (let e : false ≡ true = last in cc)) h
notes_step conv side ended trace l (steps.Said number (said.Send other bytes)) allowed h = sends conv side ended trace l number other bytes h
notes_step conv side ended trace l (steps.Said number (said.Close other)) allowed h = closes conv side ended trace l number other h
notes_step conv side ended trace l (steps.Said number (said.Dial server address)) allowed h = absurd allowed
notes_step conv side ended trace l (steps.Done flow) allowed h = stepped conv side ended trace l (steps.Done flow) refl (λ n last. absurd (let e : false ≡ true = last in cc)) h

-- ---- a life begins

-- where the new life is the side's, nothing was sent to it so far and it had none
life_begins : (own : Life → Bool) (ended text : List ℕ) (begun begun' : Type 0) (lives : List Life) (new : Life) → new.said ≡ [] → new.taken ≡ [] → (begun → begun')
    → (own new ≡ true → (text ≡ []) × ¬ begun × begun') → Stage own ended text begun lives → Stage own ended text begun' (lives ++ new ∷ [])
life_begins own ended text begun begun' lives new nothing_said nothing_taken later opening stage = by (own new) refl
  where
    by : (b : Bool) → own new ≡ b → Stage own ended text begun' (lives ++ new ∷ [])
    by true mine = let open_now = opening mine in stage_begins own ended text begun lives new begun' mine open_now.0 nothing_said nothing_taken open_now.1 open_now.2 stage
    by false other = stage_so own ended text text begun begun' (lives ++ new ∷ []) refl later (stage_other own ended text begun lives new other stage)

-- what holds of the side of a new life holds of this one, where it is the side's
of_new : (P : ℕ → Side → Type 0) (conv number : ℕ) (side other : Side) (slot : ℕ) (door : Option Door) → is_life_of conv side (new_life slot number other door) ≡ true → P number other → P conv side
of_new P conv number side other slot door mine p =
    let a : number ≡ conv = eqb-true number conv (left_holds (number == conv) (is_same_side other side) mine) in
    let b : other ≡ side = side_same other side (right_holds (number == conv) (is_same_side other side) mine) in
    let Q : ℕ → Type 0 = λ n. P n other in
    let R : Side → Type 0 = λ s. P conv s in
    subst R b (subst Q a p)

both_true : (a b : Bool) → a ≡ true → b ≡ true → (a && b) ≡ true
both_true a b is also = rw is also

-- a server is dialled
dials_step : (conv : ℕ) (side : Side) (ended : List ℕ) (trace : Trace) (l : Ledger) (number server : ℕ) (address : Address) (slot : ℕ) → SendsToOpened trace → is_opened number (Server server) trace ≡ false
    → Holds conv side ended trace l → Holds conv side ended (trace ++ steps.Said number (said.Dial server address) ∷ []) (dials (steps.Said number (said.Dial server address)) slot l)
dials_step conv side ended trace l number server address slot sends_so never h =
    let step = steps.Said number (said.Dial server address) in
    let finish : Life → Life = λ life. record life { is_finished = true } in
    let test = is_life_of number (Server server) in
    let between = changed conv side ended trace l l.moment l.owed l.refused test finish (λ life. refl) (λ life text mine its kept. kept) h.owed h in
    let new = new_life slot number (Server server) None in
    let text : sent trace conv side ≡ sent (trace ++ step ∷ []) conv side =
    sym (sent_joined trace (step ∷ []) conv side
    ∙ (ap (λ (l : List ℕ). sent trace conv side ++ l) (nothing_said conv side number (said.Dial server address) refl) ∙ append-nil (sent trace conv side))) in
    let behind = Begun conv side (trace ++ step ∷ []) l.accepted in
    let P : ℕ → Side → Type 0 = λ c s. (sent trace c s ≡ []) × ¬ (Begun c s trace l.accepted) × Begun c s (trace ++ step ∷ []) l.accepted in
    let opened : is_opened number (Server server) (trace ++ step ∷ []) ≡ true =
    opened_last number (Server server) trace step (both_true (number == number) (server == server) (eq-eqb number number refl) (eq-eqb server server refl)) in
    let opening : P number (Server server) = (sends_so number (Server server) never, λ before. (let e : true ≡ false = sym before ∙ never in cc), opened) in
    record {
      stage = stage_so (is_life_of conv side) ended (sent trace conv side) (sent (trace ++ step ∷ []) conv side) behind behind (change_first test finish l.lives ++ new ∷ []) text (λ b. b)
          (life_begins (is_life_of conv side) ended (sent trace conv side) (Begun conv side trace l.accepted) behind (change_first test finish l.lives) new refl refl
          (begun_more conv side trace (step ∷ []) l.accepted l.accepted (omega arith)) (λ mine. of_new P conv number side (Server server) slot None mine opening) between.stage);
      numbers = λ n last. (elim (opened_joined n Client trace step last) as (λ _. n < l.accepted) [ inl older ↦ h.numbers n older | inr newer ↦ absurd (let e : false ≡ true = newer in cc) ]);
      owed = h.owed;
    }

-- a connection is accepted
not_yet : (trace : Trace) (accepted : ℕ) → NumbersBelow trace accepted → is_opened accepted Client trace ≡ false
not_yet trace accepted numbers = by (is_opened accepted Client trace) refl
  where
    by : (b : Bool) → is_opened accepted Client trace ≡ b → is_opened accepted Client trace ≡ false
    by true is = let below : accepted < accepted = numbers accepted is in absurd (omega arith)
    by false is = is

accepted_step : (conv : ℕ) (side : Side) (ended : List ℕ) (trace : Trace) (l : Ledger) (moment slot : ℕ) (door : Door) (peer : Address) → SendsToOpened trace
    → Holds conv side ended trace l → Holds conv side ended trace (record (tells (ready.Accepted slot door peer) l) { moment = moment })
accepted_step conv side ended trace l moment slot door peer sends_so h = by (nat_lt l.accepted number_end) refl
  where
    by : (b : Bool) → nat_lt l.accepted number_end ≡ b → Holds conv side ended trace (record (tells (ready.Accepted slot door peer) l) { moment = moment })
    by true below =
        let P : ℕ → Side → Type 0 = λ c s. (sent trace c s ≡ []) × ¬ (Begun c s trace l.accepted) × Begun c s trace (l.accepted + 1) in
        let opening : P l.accepted Client =
        (sends_so l.accepted Client (not_yet trace l.accepted h.numbers), λ (before : l.accepted < l.accepted). (let no : ⊥ = omega arith in no), let now : l.accepted < l.accepted + 1 = omega arith in now) in
        let stage : Stage (is_life_of conv side) ended (sent trace conv side) (Begun conv side trace (l.accepted + 1)) (l.lives ++ new_life slot l.accepted Client (Some door) ∷ []) =
        life_begins (is_life_of conv side) ended (sent trace conv side) (Begun conv side trace l.accepted) (Begun conv side trace (l.accepted + 1)) l.lives (new_life slot l.accepted Client (Some door)) refl refl
        (begun_later conv side trace l.accepted (l.accepted + 1) (omega arith)) (λ mine. of_new P conv l.accepted side Client slot (Some door) mine opening) h.stage in
        rw below (record {
          stage = stage;
          numbers = λ n is. (let less : n < l.accepted = h.numbers n is in omega arith);
          owed = (let now : l.accepted < l.accepted + 1 = omega arith in now);
        })
    by false none = rw none (owes conv side ended trace l moment l.owed (Some slot) h.owed h)

-- ---- every call

module _ (conv : ℕ) (side : Side) (ended : List ℕ) (trace : Trace) (l : Ledger) where
  -- a slot's life is changed in what neither was said nor taken
  slot_changed : (moment : ℕ) (owed : Option Heard) (slot : ℕ) (f : Life → Life) → ((life : Life) → is_life_of conv side (f life) ≡ is_life_of conv side life)
      → ((life : Life) (text : List ℕ) → Kept text life → Kept text (f life)) → OwedBelow owed l.accepted → Holds conv side ended trace l
      → Holds conv side (ended ++ []) (trace ++ []) (record l { lives = change_first (is_life_at slot) f l.lives; moment = moment; owed = owed })
  slot_changed moment owed slot f same keeps below h =
      silent conv side ended trace (record l { lives = change_first (is_life_at slot) f l.lives; moment = moment; owed = owed })
      (changed conv side ended trace l moment owed l.refused (is_life_at slot) f same (λ life text mine its kept. keeps life text kept) below h)

  told_step : (moment : ℕ) (what : Ready) → SendsToOpened trace → Holds conv side ended trace l → Holds conv side (ended ++ []) (trace ++ []) (after l (calls.Told moment what))
  told_step moment (ready.Accepted slot door peer) sends_so h =
      silent conv side ended trace (after l (calls.Told moment (ready.Accepted slot door peer))) (accepted_step conv side ended trace l moment slot door peer sends_so h)
  told_step moment (ready.Readable slot) sends_so h = slot_changed moment l.owed slot (λ life. record life { is_readable = true }) (λ life. refl) (λ life text kept. kept) h.owed h
  told_step moment (ready.Writable slot) sends_so h = slot_changed moment l.owed slot (λ life. record life { is_blocked = false }) (λ life. refl) (λ life text kept. kept) h.owed h
  told_step moment (ready.Dialled slot ok) sends_so h =
      silent conv side ended trace (after l (calls.Told moment (ready.Dialled slot ok)))
      (owes conv side ended trace l moment (dial_of ok (find (is_life_at slot) l.lives)) l.refused (dial_below ok (find (is_life_at slot) l.lives) l.accepted) h)

  -- no server is dialled once more by it
  abbrev DialsNew : WireCall → Type 0
  DialsNew call = (number server : ℕ) (address : Address) → step_in call ≡ steps.Said number (said.Dial server address) ∷ [] → is_opened number (Server server) trace ≡ false

  step_more : (call : WireCall) → Allowed l call → SendsToOpened trace → DialsNew call → Holds conv side ended trace l
      → Holds conv side (ended ++ flat_map (taken_by conv side) (ended_by l call)) (trace ++ step_in call) (after l call)
  step_more (calls.Told moment what) allowed sends_so news h = told_step moment what sends_so h
  step_more calls.NotReady allowed sends_so news h = silent conv side ended trace l h
  step_more (calls.Dialled address step slot) (number, server, is) sends_so news h =
      let P : Step → Type 0 = λ s. Holds conv side (ended ++ []) (trace ++ s ∷ []) (dials s slot l) in
      let said_so = steps.Said number (said.Dial server address) in
      subst P (sym is) (endless conv side ended (trace ++ said_so ∷ []) (dials said_so slot l)
      (dials_step conv side ended trace l number server address slot sends_so (news number server address (ap (λ (s : Step). s ∷ []) is)) h))
  step_more (calls.Noted step) allowed sends_so news h =
      endless conv side ended (trace ++ step ∷ []) (after l (calls.Noted step)) (notes_step conv side ended trace l step allowed h)
  step_more (calls.Took slot bytes) allowed sends_so news h =
      silent conv side ended trace (after l (calls.Took slot bytes)) (record {
        stage = stage_took (is_life_of conv side) ended (sent trace conv side) (Begun conv side trace l.accepted) l.lives (is_life_at slot) bytes (λ life. refl) allowed h.stage;
        numbers = h.numbers;
        owed = h.owed;
      })
  step_more (calls.PutBlocked slot) allowed sends_so news h = slot_changed l.moment l.owed slot (λ life. record life { is_blocked = true }) (λ life. refl) (λ life text kept. kept) h.owed h
  step_more (calls.PutBroke slot) allowed sends_so news h = slot_changed l.moment l.owed slot (λ life. record life { is_over = true }) (λ life. refl) (λ life text kept. kept) h.owed h
  step_more (calls.Gave slot bytes) allowed sends_so news h =
      silent conv side ended trace (after l (calls.Gave slot bytes)) (record {
        stage = stage_moved (is_life_of conv side) ended (sent trace conv side) (Begun conv side trace l.accepted) l.lives (is_life_at slot) (λ life. record life { given = life.given ++ bytes }) (λ life. refl)
            (λ life mine its kept. kept) h.stage;
        numbers = h.numbers;
        owed = piece_below bytes (find (is_life_at slot) l.lives) l.accepted;
      })
  step_more (calls.GetBlocked slot) allowed sends_so news h = slot_changed l.moment l.owed slot (λ life. record life { is_readable = false }) (λ life. refl) (λ life text kept. kept) h.owed h
  step_more (calls.GetEnded slot) allowed sends_so news h = slot_changed l.moment l.owed slot (λ life. record life { is_over = true }) (λ life. refl) (λ life text kept. kept) h.owed h
  step_more (calls.GetBroke slot) allowed sends_so news h = slot_changed l.moment l.owed slot (λ life. record life { is_over = true }) (λ life. refl) (λ life text kept. kept) h.owed h
  step_more (calls.Shut slot) allowed sends_so news h =
      let P : Trace → Type 0 = λ t. Holds conv side (ended ++ dropped conv side (is_life_at slot) l.lives) t (after l (calls.Shut slot)) in
      subst P (sym (append-nil trace)) (record {
        stage = stage_dropped conv side ended (sent trace conv side) (Begun conv side trace l.accepted) l.lives (is_life_at slot) h.stage;
        numbers = h.numbers;
        owed = h.owed;
      })

-- ---- all calls

left_taken : (conv : ℕ) (side : Side) (ended : List ℕ) (trace : Trace) (l : Ledger) → Holds conv side ended trace l → IsPrefixOf (ended ++ flat_map (taken_by conv side) l.lives) (sent trace conv side)
left_taken conv side ended trace l h = by h.stage
  where
    by : Stage (is_life_of conv side) ended (sent trace conv side) (Begun conv side trace l.accepted) l.lives → IsPrefixOf (ended ++ flat_map (taken_by conv side) l.lives) (sent trace conv side)
    by (inl none) =
        let P : List ℕ → Type 0 = λ t. IsPrefixOf t (sent trace conv side) in
        subst P (sym (ap (λ (t : List ℕ). ended ++ t) (none_taken conv side l.lives none.0) ∙ append-nil ended)) none.1
    by (inr one) =
        let own = one_taken conv side (Kept (sent trace conv side)) l.lives one.1 in
        let P : List ℕ → Type 0 = λ t. IsPrefixOf t (sent trace conv side) in
        let Q : List ℕ → Type 0 = λ t. IsPrefixOf own.0.taken t in
        subst P (sym (ap (λ (t : List ℕ). t ++ flat_map (taken_by conv side) l.lives) one.0 ∙ own.2)) (subst Q own.1.0 own.1.1)

module _ (conv : ℕ) (side : Side) (whole : Trace) (sends_so : Always SendsToOpened whole) (once : DialsOnce whole) where
  taken_from : (list : Calls) (ended : List ℕ) (trace : Trace) (l : Ledger) → whole ≡ trace ++ steps_of list → ObeysFrom l list → Holds conv side ended trace l
      → IsPrefixOf (ended ++ flat_map (taken_by conv side) (lives_from l list)) (sent whole conv side)
  taken_from [] ended trace l is obeys h =
      let P : Trace → Type 0 = λ t. IsPrefixOf (ended ++ flat_map (taken_by conv side) l.lives) (sent t conv side) in
      subst P (sym (is ∙ append-nil trace)) (left_taken conv side ended trace l h)
  taken_from (call ∷ list) ended trace l is obeys h =
      let news : DialsNew conv side ended trace l call = λ number server address says. once trace (steps_of list) number server address
      (is ∙ ap (λ (t : Trace). trace ++ (t ++ steps_of list)) says) in
      let now = step_more conv side ended trace l call obeys.0 (sends_so.at trace (steps_of (call ∷ list)) is) news h in
      let first = flat_map (taken_by conv side) (ended_by l call) in
      let others = flat_map (taken_by conv side) (lives_from (after l call) list) in
      let P : List ℕ → Type 0 = λ t. IsPrefixOf t (sent whole conv side) in
      subst P (append_assoc ended first others ∙ ap (λ (t : List ℕ). ended ++ t) (sym (flat_map-append (taken_by conv side) (ended_by l call) (lives_from (after l call) list))))
      (taken_from list (ended ++ first) (trace ++ step_in call) (after l call) (is ∙ sym (append_assoc trace (step_in call) (steps_of list))) obeys.1 now)

-- what the wire took for each side begins what was sent to it
pub taken_is_sent : (list : Calls) → Obeys list → Always SendsToOpened (steps_of list) → DialsOnce (steps_of list) → TakesWhatWasSent list
taken_is_sent list obeys sends_so once conv side =
    taken_from conv side (steps_of list) sends_so once list [] [] no_ledger refl obeys (record {
      stage = inl (refl, ([], refl));
      numbers = λ n (is : false ≡ true). absurd (cc);
      owed = tt;
    })
