-- Runs of generated flows.
use Rattle.std.proofs.Common.{◌≡◌, ◌≢◌, ◌⊎◌, inl, inr, ℕ, true, List, [], Option, Some, None, refl, sym, ap, ◌∙◌, subst, arith}
use Rattle.std.proofs.lemmas.List.{append-nil}
use Rattle.px_event.specs.Trace.{Trace}
use Rattle.px_core.specs.Answers.{Answering, Failing, FilesMeaning}
use Rattle.px_core.specs.Kind.{KeepsKind}
use Rattle.px_gen.specs.Heard.{Hears}
use Rattle.px_gen.specs.Noted.{HasGrownByFront, noted, with_steps}
use Rattle.px_options.specs.Options.{Settings}
use Rattle.px_addons.specs.declared.rules.Rules.{Rules}
use Rattle.px_resend.specs.Due.{most_replayed}
use Rattle.px_app.specs.Dues.{run_due}
use Rattle.px_app.specs.Generates.{Generated, Generates, generator_mode, generator_settings}
use Rattle.px_app.specs.Opened.{AreRulesOf}
use Rattle.px_words.specs.Outside.{Outside}
use Rattle.px_app.specs.Over.{course_from}
use Rattle.px_app.specs.Serving.{Ran}
use Rattle.px_app.specs.Statuses.{ends_heard}
use Rattle.px_app.specs.declared.printing.Printing.{Printing}
use Rattle.px_app.specs.declared.status.Status.TheVariants.{Ended}
use Rattle.px_app.proofs.AtOnceLemmas.{WaitsNot}
use Rattle.px_app.proofs.DoorLemmas.{hears_plain, worked_plain}
use Rattle.px_app.proofs.EndLemmas.{ended_not_lost}
use Rattle.px_app.proofs.PromiseLemmas.{promises_of}
use Rattle.px_app.proofs.RanLemmas.{replays_by}
use Rattle.px_words.proofs.ToldLemmas.{none_part}

with_none : (trace : Option Trace) → trace ≡ with_steps trace []
with_none None = refl
with_none (Some trace) = ap Some (sym (append-nil trace))

-- nothing was told
none_told : (trace : Option Trace) → HasGrownByFront (noted []) trace trace
none_told trace = ([], ([], refl), with_none trace)

-- nothing was heard
none_heard : (count : ℕ) → Hears count []
none_heard count = (0, (_, refl))

not_seven : (status : ℕ) → status ≡ 8 → status ≡ 7 → ⊥
not_seven status is seven = omega arith

-- a generated run has no cause outside of what was heard
no_cause : (code : ℕ) → (code ≡ 0) ⊎ ((code ≡ 7) ⊎ (code ≡ 8)) → (code ≡ 5) ⊎ (code ≡ 6) → ⊥
no_cause code (inl zero) (inl five) = omega arith
no_cause code (inl zero) (inr six) = omega arith
no_cause code (inr (inl seven)) (inl five) = omega arith
no_cause code (inr (inl seven)) (inr six) = omega arith
no_cause code (inr (inr eight)) (inl five) = omega arith
no_cause code (inr (inr eight)) (inr six) = omega arith

not_printed : (status : ℕ) → status ≡ 8 → (failed : Type 0) (P : Type 0) → (status ≡ 0) ⊎ ((status ≢ 8) × ¬ failed) → P
not_printed status is failed P (inl zero) = absurd (omega arith)
not_printed status is failed P (inr (other, quiet)) = absurd (other is)

module _ {S : Type 0} {answers : Answering S} {drops : List ℕ → S → S → Type 0} {names : S → List (List ℕ)} {fails : Failing S} {key : List ℕ} {IsChain : Settings → S → Type 0} {out : Type 0} where
  -- memory ran out before anything was told
  pub nothing_told : (count : ℕ) (before after : Outside) → after.trace ≡ before.trace → after.listening ≡ before.listening → after.written ≡ before.written → after.noted ≡ before.noted →
      after.files ≡ before.files → Generates answers drops names fails key IsChain out count before after 8
  nothing_told count before after trace listening written notes files = record {
    run = [];
    hears = none_heard count;
    ends = λ other. absurd (other refl);
    by_chain = λ some. absurd (some refl);
    told = λ other. absurd (other refl);
    told_part = let P : Option Trace → Type 0 = λ t. HasGrownByFront (noted []) before.trace t in subst P (sym trace) (none_told before.trace);
    listening = listening;
    begun = none_part _ before.written after.written written;
    prints = λ well. not_printed 8 refl out _ well;
    notes = notes;
    files = files;
    statuses = inr (inr refl);
    lost = λ seven. absurd (not_seven 8 refl seven);
    complete = λ quiet. inr refl;
  }

  -- the number is the one in the words
  pub generates_at : {count other : ℕ} {before after : Outside} {status : ℕ} → count ≡ other → Generates answers drops names fails key IsChain out count before after status → Generates answers drops names fails key IsChain out other before after status
  generates_at {before = before} {after = after} {status = status} same h = subst (λ n. Generates answers drops names fails key IsChain out n before after status) same h

-- the rules of a chain, beside which the recorded list and what is kept stand
pub rules_alone : (settings : Settings) (rules : Rules) → AreRulesOf settings rules → AreRulesOf settings (record rules { replay = None; cookies = None; auth = None })
rules_alone settings rules are = record {
  block = are.block;
  local = are.local;
  remote = are.remote;
  headers = are.headers;
  bodies = are.bodies;
  anticache = are.anticache;
  anticomp = are.anticomp;
  intercept = are.intercept;
  replay = refl;
  refresh = are.refresh;
  cookies = refl;
  auth = refl;
  stream = are.stream;
}

-- all was printed, but for a sink that failed and out of memory
pub complete_by : (failed : Type 0) (status : ℕ) → (status ≡ 0) ⊎ ((status ≡ 7) ⊎ (status ≡ 8)) → (status ≡ 7 → failed) → ¬ failed → (status ≡ 0) ⊎ (status ≡ 8)
complete_by failed status (inl zero) lost quiet = inl zero
complete_by failed status (inr (inl seven)) lost quiet = absurd (quiet (lost seven))
complete_by failed status (inr (inr eight)) lost quiet = inr eight

-- a run by one chain is one by a chain that is so
pub generates_by : {S : Type 0} {answers : Answering S} {drops : List ℕ → S → S → Type 0} {names : S → List (List ℕ)} {fails : Failing S} {key : List ℕ} {IsChain : Settings → S → Type 0} {out : Type 0} {count : ℕ} {before after : Outside} {status : ℕ} (chain : S) →
    IsChain generator_settings chain → Generates answers drops names fails key (λ settings other. other ≡ chain) out count before after status → Generates answers drops names fails key IsChain out count before after status
generates_by {S} {answers} {drops} {names} {fails} {key} {IsChain} {out} {count} {before} {after} {status} chain so h = record {
  run = h.run;
  hears = h.hears;
  ends = h.ends;
  by_chain = λ some.
      let by = h.by_chain some in
      record {
        chain = by.chain;
        is_chain = subst (λ (s : S). IsChain generator_settings s) (sym by.is_chain) so;
        trace = by.trace;
        changes = by.changes;
        operations = by.operations;
        over = by.over;
        promises = by.promises;
        saves_none = by.saves_none;
      };
  told = h.told;
  told_part = h.told_part;
  listening = h.listening;
  begun = h.begun;
  prints = h.prints;
  notes = h.notes;
  files = h.files;
  statuses = h.statuses;
  lost = h.lost;
  complete = h.complete;
}

module _ {S : Type 0} (answers : Answering S) (drops : List ℕ → S → S → Type 0) (names : S → List (List ℕ)) (fails : Failing S) (key : List ℕ) (chain : S) (files last : FilesMeaning) (budget : ℕ)
    (printing : Printing) (told : Trace)
    (ran : Ran answers drops names fails (run_due generator_mode key []) (record { own = chain; files = files }) None budget Ended printing last (most_replayed []) None None told) where
  -- the end was heard
  pub heard_to_end : (count : ℕ) → Hears count told → ends_heard told ≡ true
  heard_to_end count hears =
      let plain = worked_plain answers drops names (run_due generator_mode key []) _ told ran.run.trace (course_from _ ran.run.changes ran.run.operations) ran.run.over (ran.run.worked_whole ended_not_lost) (hears_plain count told hears) in
      plain.1 ∙ ran.run.is_end.ended refl

  -- such a run by this chain, which lets no flow wait
  pub generated_so : (code : ℕ) (is : S → Type 0) → KeepsKind answers is WaitsNot → ((name : List ℕ) (old new : S) → is old → drops name old new → is new) → is chain →
      (code ≡ 0) ⊎ ((code ≡ 7) ⊎ (code ≡ 8)) → Generated answers drops names fails key (λ settings other. other ≡ chain) files last code told
  generated_so code is keeps stays so causes =
      let reaches = ran.run.reaches ended_not_lost in
      record {
        chain = chain;
        is_chain = refl;
        trace = ran.run.trace;
        changes = ran.run.changes;
        operations = ran.run.operations;
        over = ran.run.over;
        promises = promises_of answers drops names fails is keeps stays generator_settings.intercept generator_mode key [] _ None budget Ended printing last None None told code (λ other. ended_not_lost)
            (λ none. so) (replays_by (most_replayed []) 0 code told (λ either. absurd (no_cause code causes either)) ran.replays) ran.run;
        saves_none = (printing, reaches.placed, ran.run.made, reaches.saved_so);
      }
