-- How a run over a wire that tells its calls ends: lines fail where the wire failed, or where they asked in vain; the end is
-- never heard.
use Rattle.std.proofs.Common.{◌≡◌, ◌⊎◌, inl, inr, ℕ, ◌+◌, ◌-◌, ◌^◌, ◌<◌, Bool, true, false, min, refl, sym, arith, subst, List, [], ◌∷◌, Option}
use Rattle.std.specs.Prelude.{nat_lt}
use Rattle.std.proofs.lemmas.Bool.{ltb-true, ltb-false}
use Rattle.px_outside.specs.Count.{Rose}
use Rattle.px_event.specs.declared.heard.Heard.{Heard}
use Rattle.px_event.specs.declared.heard.Heard.TheVariants as heard
use Rattle.px_event.specs.declared.step.Step.{Step}
use Rattle.px_event.specs.declared.step.Step.TheVariants as steps
use Rattle.px_core.specs.Answers.{Answering, Failing, FilesMeaning}
use Rattle.px_options.specs.Options.{Settings}
use Rattle.px_app.specs.Loaded.{Loaded, behind_loaded, flows_in, loaded, one_absent, one_bad, one_unread, unloaded}
use Rattle.px_app.specs.Opened.{Opened, nothing_read, absent, not_read, unjudged, refused, says}
use Rattle.px_words.specs.Outside.{Outside}
use Rattle.px_app.specs.Promises.{HasCause}
use Rattle.px_app.specs.Serves.{RunsBy, RunsOn, RunsWith, Serves, ServesFile}
use Rattle.px_app.specs.Statuses.{is_end, ends_by, ends_from, ends_heard}
use Rattle.px_message.specs.declared.address.Address.{Address}
use Rattle.px_message.specs.declared.flow.Flow.{Flow}
use Rattle.px_wire.specs.declared.call.WireCall.TheVariants as calls
use Rattle.px_wire.specs.Asked.{AskedInVain, FailedSo, most_asks}
use Rattle.px_wire.specs.Calls.{Calls, IfTold, steps_of}
use Rattle.px_wire.specs.Ledger.{Ledger, no_ledger, after}
use Rattle.px_proxy.specs.Failed.{LinesFailed}
use Rattle.px_wire.specs.Rules.{MayDial, MayHear, MayNote, Obeys, ObeysFrom}

-- ---- faults

-- without a fault of their own lines failed where the wire did
wire_rose : (old new own_old own : ℕ) (b : Bool) → nat_lt new (min (old + 1) (2 ^ 64 - 1)) ≡ b → Rose (old + own_old) (new + own) → Rose old new ⊎ ((new < min (old + 1) (2 ^ 64 - 1)) × (0 < own))
wire_rose old new own_old own false is rose = inl (ltb-false new (min (old + 1) (2 ^ 64 - 1)) is)
wire_rose old new own_old own true is rose = let below = ltb-true new (min (old + 1) (2 ^ 64 - 1)) is in inr (below, omega (arith, below, rose))

not_both : (old new : ℕ) → new < min (old + 1) (2 ^ 64 - 1) → Rose old new → ⊥
not_both old new below rose = absurd (omega (arith, below, rose))

-- The wire's own faults rose; or they did not, and lines failed by themselves.
pub fault_of : (old own_old new own : ℕ) (told : Option Calls) → FailedSo own told → Rose (old + own_old) (new + own) → LinesFailed old own_old new own told
fault_of old own_old new own told failed rose = (rose, by (wire_rose old new own_old own (nat_lt new (min (old + 1) (2 ^ 64 - 1))) refl rose))
  where
    by : Rose old new ⊎ ((new < min (old + 1) (2 ^ 64 - 1)) × (0 < own)) → Rose old new ⊎ (¬ (Rose old new) × (0 < own) × IfTold (AskedInVain most_asks) told)
    by (inl rises) = inl rises
    by (inr own_rose) = inr (not_both old new own_rose.0, own_rose.1, failed own_rose.1)

-- a cause of the network's fault that follows from the one that is known
pub causes_by : (net cause sink : Type 0) (status : ℕ) → HasCause net sink status → (net → cause) → HasCause cause sink status
causes_by net cause sink status h by = record {
  fault = λ is. by (h.fault is);
  lost = h.lost;
  statuses = h.statuses;
  complete = λ still printed. h.complete (λ failed. still (by failed)) printed;
}

module _ {S : Type 0} (answers : Answering S) (drops : List ℕ → S → S → Type 0) (names : S → List (List ℕ)) (fails : Failing S) (key : List ℕ) (IsChain : Settings → List Flow → S → Type 0) (same net cause out save notes : Type 0) (by : net → cause) where
  serves_by : (settings : Settings) (chain : S) (resent : List Flow) (read : FilesMeaning) (before after : Outside) (status : ℕ) →
      Serves answers drops names fails key net out save notes settings chain resent read before after status → Serves answers drops names fails key cause out save notes settings chain resent read before after status
  serves_by settings chain resent read before after status h = record {
    served = h.served;
    files = h.files;
    listening = h.listening;
    causes = causes_by net cause (out ⊎ save) status h.causes by;
    notes = h.notes;
  }

  by_flows : (settings : Settings) (flows : List Flow) (what : Loaded) (read : FilesMeaning) (before after : Outside) (status : ℕ) →
      RunsBy answers drops names fails key IsChain same net out save notes settings flows what read before after status → RunsBy answers drops names fails key IsChain same cause out save notes settings flows what read before after status
  by_flows settings flows (loaded resent) read before after status h = (h.0, h.1, serves_by settings h.0 resent read before after status h.2)
  by_flows settings flows (one_absent path) read before after status h = h
  by_flows settings flows (one_unread path) read before after status h = h
  by_flows settings flows (one_bad path offset) read before after status h = h
  by_flows settings flows unloaded read before after status h = h

  with_by : (settings : Settings) (recorded resent : Loaded) (read : FilesMeaning) (before after : Outside) (status : ℕ) →
      RunsWith answers drops names fails key IsChain same net out save notes settings recorded resent read before after status →
      RunsWith answers drops names fails key IsChain same cause out save notes settings recorded resent read before after status
  with_by settings recorded resent read before after status h = record { so = by_flows settings (flows_in recorded) (behind_loaded recorded resent) read before after status h.so }

  runs_by : (path : List ℕ) (opened : Opened) (read : FilesMeaning) (before after : Outside) (status : ℕ) →
      RunsOn answers drops names fails key IsChain same net out save notes path opened read before after status → RunsOn answers drops names fails key IsChain same cause out save notes path opened read before after status
  runs_by path nothing_read read before after status h = h
  runs_by path absent read before after status h = h
  runs_by path not_read read before after status h = h
  runs_by path (unjudged bytes) read before after status h = h
  runs_by path (refused bytes why) read before after status h = h
  runs_by path (says bytes settings reads recorded resent) read before after status h = (h.0, h.1, with_by settings recorded resent read before after status h.2)

  -- the same of a run
  pub file_by : (path : List ℕ) (opened : Opened) (before after : Outside) (status : ℕ) →
      ServesFile answers drops names fails key IsChain same net out save notes path opened before after status → ServesFile answers drops names fails key IsChain same cause out save notes path opened before after status
  file_by path opened before after status h = record { read = h.read; reads = h.reads; runs = runs_by path opened h.read before after status h.runs }

-- ---- the end

-- what may be heard is not the end
not_end : (l : Ledger) (what : Heard) → MayHear l what → is_end what ≡ false
not_end l (heard.Accepted conv door peer) may = refl
not_end l (heard.Piece conv side bytes) may = refl
not_end l (heard.Closed conv side) may = refl
not_end l (heard.Dialled conv server ok) may = refl
not_end l heard.End may = absurd may

noted : (l : Ledger) (step : Step) → MayNote l step → ends_by false step ≡ false
noted l (steps.Heard moment what) may = not_end l what may.1
noted l (steps.Said conv what) may = refl
noted l (steps.Begun conv) may = refl
noted l (steps.Asked conv ask) may = refl
noted l (steps.Answered conv ask reply) may = refl
noted l (steps.Done flow) may = refl

dialled : (address : Address) (step : Step) → MayDial address step → ends_by false step ≡ false
dialled address step may = let P : Step → Type 0 = λ s. ends_by false s ≡ false in subst P (sym may.2) refl

never_ends : (l : Ledger) (list : Calls) → ObeysFrom l list → ends_from false (steps_of list) ≡ false
never_ends l [] obeys = refl
never_ends l (calls.Told moment what ∷ list) obeys = never_ends (after l (calls.Told moment what)) list obeys.1
never_ends l (calls.NotReady ∷ list) obeys = never_ends l list obeys.1
never_ends l (calls.Dialled address step slot ∷ list) obeys =
    let P : Bool → Type 0 = λ b. ends_from b (steps_of list) ≡ false in
    subst P (sym (dialled address step obeys.0)) (never_ends (after l (calls.Dialled address step slot)) list obeys.1)
never_ends l (calls.Noted step ∷ list) obeys =
    let P : Bool → Type 0 = λ b. ends_from b (steps_of list) ≡ false in
    subst P (sym (noted l step obeys.0)) (never_ends (after l (calls.Noted step)) list obeys.1)
never_ends l (calls.Took slot bytes ∷ list) obeys = never_ends (after l (calls.Took slot bytes)) list obeys.1
never_ends l (calls.PutBlocked slot ∷ list) obeys = never_ends (after l (calls.PutBlocked slot)) list obeys.1
never_ends l (calls.PutBroke slot ∷ list) obeys = never_ends (after l (calls.PutBroke slot)) list obeys.1
never_ends l (calls.Gave slot bytes ∷ list) obeys = never_ends (after l (calls.Gave slot bytes)) list obeys.1
never_ends l (calls.GetBlocked slot ∷ list) obeys = never_ends (after l (calls.GetBlocked slot)) list obeys.1
never_ends l (calls.GetEnded slot ∷ list) obeys = never_ends (after l (calls.GetEnded slot)) list obeys.1
never_ends l (calls.GetBroke slot ∷ list) obeys = never_ends (after l (calls.GetBroke slot)) list obeys.1
never_ends l (calls.Shut slot ∷ list) obeys = never_ends (after l (calls.Shut slot)) list obeys.1

-- so a run over these calls does not hear it
pub not_ended : (list : Calls) → Obeys list → ends_heard (steps_of list) ≡ false
not_ended list obeys = never_ends no_ledger list obeys
