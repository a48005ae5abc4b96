-- A run, and the requests that it sent again, by its status and by who makes its conversations.
use Rattle.std.proofs.Common.{◌≡◌, ◌⊎◌, ℕ, List, [], ◌∷◌, ◌++◌, Option, Some, Global, refl, sym, ap, ◌∙◌, subst}
use Rattle.std.specs.Prelude.{Vec}
use Rattle.rand_chacha.specs.ChaCha.{key_of}
use Rattle.px_message.specs.declared.address.Address.{Address}
use Rattle.px_message.specs.declared.flow.Flow.{Flow}
use Rattle.px_event.specs.Trace.{Trace}
use Rattle.px_event.specs.declared.step.Step.{Step}
use Rattle.px_event.specs.declared.step.Step.TheVariants as steps
use Rattle.px_event.proofs.TraceLemmas.{always_empty, before_empty}
use Rattle.px_core.specs.Answers.{Answering, AnswererState, Failing, FilesMeaning}
use Rattle.px_core.specs.Due.{Due}
use Rattle.px_core.specs.Run.{IsDueOf}
use Rattle.px_core.specs.declared.gates.Gates.{Gates}
use Rattle.px_exchange.specs.declared.mode.Mode.{Mode}
use Rattle.px_resend.specs.Chain.{proxy_in}
use Rattle.px_resend.specs.Due.{due_with, most_replayed}
use Rattle.px_resend.specs.declared.replays.Replays.{Replays as Resends}
use Rattle.px_stack.specs.Modes.{mode_due}
use Rattle.px_stack.specs.declared.placed.Placed.{Placed}
use Rattle.px_app.specs.Dues.{run_due}
use Rattle.px_app.specs.Replayed.{BeginsInTurn, NoneWaits, Replays}
use Rattle.px_app.specs.Run.{IsRun, Told}
use Rattle.px_app.specs.Saved.{SavesTo, saves_to_of}
use Rattle.px_app.specs.Serving.{Ran}
use Rattle.px_app.specs.Statuses.{code_of}
use Rattle.px_app.specs.declared.printing.Printing.{Printing}
use Rattle.px_app.specs.declared.printing.Printing.TheVariants.{Whole}
use Rattle.px_app.specs.declared.saving.Saving.{Saving}
use Rattle.px_app.specs.declared.status.Status.{Status}
use Rattle.px_app.specs.declared.status.Status.TheVariants.{Ended, NetFault, NoMemory}
use Rattle.px_app.proofs.RunLemmas.{told_trace}
use Rattle.px_app.proofs.StepLemmas.{begun_first}

no_beginning : (prefix : Trace) (step : Step) → [] ≡ prefix ++ step ∷ [] → ⊥
no_beginning [] step is = cc
no_beginning (first ∷ prefix) step is = cc

-- where nothing was told, none has begun
pub replays_none : (total status : ℕ) → Replays total status []
replays_none total status = record {
  in_turn = always_empty (BeginsInTurn total) (λ prefix conv is. absurd (no_beginning prefix (steps.Begun conv) is));
  none_waits = before_empty (NoneWaits total);
  at_end = λ some. absurd (some refl);
}

-- the number's causes are those of the status
pub replays_by : (total was now : ℕ) (told : Trace) → ((now ≡ 5) ⊎ (now ≡ 6) → (was ≡ 5) ⊎ (was ≡ 6)) → Replays total was told → Replays total now told
replays_by total was now told causes h = record { in_turn = h.in_turn; none_waits = h.none_waits; at_end = λ some is. h.at_end some (causes is) }

-- a run that did not begin
pub ran_first : {S : Type 0} (answers : Answering S) (drops : List ℕ → S → S → Type 0) (names : S → List (List ℕ)) (fails : Failing S) (due : Due) (first : AnswererState S) (to : Option SavesTo)
    (budget total : ℕ) (start : Option (List ℕ)) (status : Status) (told : Option Trace) → told ≡ Some [] → (status ≡ NetFault) ⊎ (status ≡ NoMemory) →
    Told (Ran answers drops names fails due first to budget status Whole first.files total start start) told
ran_first answers drops names fails due first to budget total start status told empty cause = record {
  trace = [];
  tells = empty;
  holds = record {
    run = told_trace (IsRun answers drops names fails due first to budget status Whole first.files start start) told [] (begun_first answers drops names fails due first to budget start status told empty cause) empty;
    replays = replays_none total (code_of status);
  };
}

-- where flows are saved, and how many requests are sent again, is what the run was given
pub ran_saving : {S : Type 0} (answers : Answering S) (drops : List ℕ → S → S → Type 0) (names : S → List (List ℕ)) (fails : Failing S) (due : Due) (first : AnswererState S) (budget : ℕ) (status : Status)
    (printing : Printing) (files : FilesMeaning) (start now : Option (List ℕ)) (told : Option Trace) {here there : Option Saving} {few total : ℕ} → here ≡ there → few ≡ total →
    Told (Ran answers drops names fails due first (saves_to_of here) budget status printing files few start now) told →
    Told (Ran answers drops names fails due first (saves_to_of there) budget status printing files total start now) told
ran_saving answers drops names fails due first budget status printing files start now told {here} {there} {few} {total} same same_total run =
    let P : Option Saving → ℕ → Type 0 = λ s n. Told (Ran answers drops names fails due first (saves_to_of s) budget status printing files n start now) told in
    subst (λ n. P there n) same_total (subst (λ s. P s few) same run)

-- the requests of these flows are sent again
pub ran_resent : {S : Type 0} (answers : Answering S) (drops : List ℕ → S → S → Type 0) (names : S → List (List ℕ)) (fails : Failing S) (due : Due) (first : AnswererState S) (to : Option SavesTo) (budget : ℕ) (status : Status)
    (printing : Printing) (files : FilesMeaning) (start now : Option (List ℕ)) (told : Option Trace) {flows resent : List Flow} → flows ≡ resent →
    Told (Ran answers drops names fails due first to budget status printing files (most_replayed flows) start now) told →
    Told (Ran answers drops names fails due first to budget status printing files (most_replayed resent) start now) told
ran_resent answers drops names fails due first to budget status printing files start now told same run =
    let P : List Flow → Type 0 = λ l. Told (Ran answers drops names fails due first to budget status printing files (most_replayed l) start now) told in subst P same run

-- the status is that of the end
pub ended_ran : {S : Type 0} {answers : Answering S} {drops : List ℕ → S → S → Type 0} {names : S → List (List ℕ)} {fails : Failing S} {due : Due} {first : AnswererState S} {to : Option SavesTo} {budget total : ℕ}
    {printing : Printing} {files : FilesMeaning} {start now : Option (List ℕ)} {told : Option Trace} {status : Status} → status ≡ Ended →
    Told (Ran answers drops names fails due first to budget status printing files total start now) told → Told (Ran answers drops names fails due first to budget Ended printing files total start now) told
ended_ran {S} {answers} {drops} {names} {fails} {due} {first} {to} {budget} {total} {printing} {files} {start} {now} {told} is run =
    subst (λ (s : Status). Told (Ran answers drops names fails due first to budget s printing files total start now) told) is run

-- so it is in a mode that is the same
pub ran_in_mode : {S : Type 0} {answers : Answering S} {drops : List ℕ → S → S → Type 0} {names : S → List (List ℕ)} {fails : Failing S} {first : AnswererState S} {to : Option SavesTo} {budget total : ℕ} {printing : Printing}
    {files : FilesMeaning} {start now : Option (List ℕ)} {told : Option Trace} {status : Status} (mode wanted : Mode) (key : List ℕ) (resent : List Flow) → mode ≡ wanted →
    Told (Ran answers drops names fails (run_due mode key resent) first to budget status printing files total start now) told →
    Told (Ran answers drops names fails (run_due wanted key resent) first to budget status printing files total start now) told
ran_in_mode {S} {answers} {drops} {names} {fails} {first} {to} {budget} {total} {printing} {files} {start} {now} {told} {status} mode wanted key resent is run =
    subst (λ (m : Mode). Told (Ran answers drops names fails (run_due m key resent) first to budget status printing files total start now) told) is run

-- ---- who makes conversations

-- what is due of those that it makes
abbrev pub made_due : Gates (Resends Placed) → Due
made_due maker = due_with (mode_due maker.layers.layers.mode (key_of maker.layers.layers.mask_key)) maker.layers.proxy maker.layers.flows.items

pub same_items : (here there : Vec Flow Global) → here ≡ there → here.items ≡ there.items
same_items here there same = ap (λ (v : Vec Flow Global). v.items) same

-- it is what is due in this mode with this key, where the requests of these flows are sent again
pub due_of_maker : (maker : Gates (Resends Placed)) (mode : Mode) (mask_key : List ℕ) (resent : List Flow) → maker.layers.layers.mode ≡ mode → maker.layers.layers.mask_key ≡ mask_key →
    maker.layers.proxy ≡ proxy_in mode → maker.layers.flows.items ≡ resent → IsDueOf (made_due maker) (run_due mode (key_of mask_key) resent)
due_of_maker maker mode mask_key resent in_mode with_key by_proxy with_flows conv peer moves =
    ap (λ (m : Mode). due_with (mode_due m (key_of maker.layers.layers.mask_key)) maker.layers.proxy maker.layers.flows.items conv peer moves) in_mode
    ∙ (ap (λ (k : List ℕ). due_with (mode_due mode (key_of k)) maker.layers.proxy maker.layers.flows.items conv peer moves) with_key
    ∙ (ap (λ (p : Option Address). due_with (mode_due mode (key_of mask_key)) p maker.layers.flows.items conv peer moves) by_proxy
    ∙ ap (λ (l : List Flow). due_with (mode_due mode (key_of mask_key)) (proxy_in mode) l conv peer moves) with_flows))

-- what is due of one is due of the other
pub due_of_same : {due : Due} (here there : Gates (Resends Placed)) → here ≡ there → IsDueOf (made_due there) due → IsDueOf (made_due here) due
due_of_same {due} here there same owes = let P : Gates (Resends Placed) → Type 0 = λ m. IsDueOf (made_due m) due in subst P (sym same) owes
