-- What lines keep after a run says which calls were made of their wire, and that their steps are those of the run.
use Rattle.std.proofs.Common.{◌≡◌, ◌≢◌, ◌⊎◌, inl, inr, arith, ℕ, ◌-◌, List, Bool, true, false, subst, Option, Some, None}
use Rattle.px_message.specs.declared.flow.Flow.{Flow}
use Rattle.px_event.specs.Trace.{Trace}
use Rattle.px_core.specs.Calls.{number_end}
use Rattle.px_core.specs.Answers.{Answering, AnswererState, Failing, FilesMeaning}
use Rattle.px_exchange.specs.declared.mode.Mode.{Mode}
use Rattle.px_resend.specs.Chain.{proxy_in}
use Rattle.px_resend.specs.Due.{request_at}
use Rattle.px_resend.proofs.ClientLemmas.{client_unsaid}
use Rattle.px_resend.proofs.SilentLemmas.{resend_silent}
use Rattle.px_stack.proofs.SilentLemmas.{mode_silent}
use Rattle.px_options.specs.Options.{Settings}
use Rattle.px_options.specs.View.{mode_view}
use Rattle.px_app.specs.Dues.{run_due}
use Rattle.px_app.specs.Loaded.{Loaded, behind_loaded, flows_in, loaded, one_absent, one_bad, one_unread, unloaded}
use Rattle.px_app.specs.Opened.{Opened, nothing_read, absent, not_read, unjudged, refused, says}
use Rattle.px_words.specs.Outside.{Outside}
use Rattle.px_app.specs.Over.{course_from}
use Rattle.px_app.specs.Serves.{RunsBy, RunsWith, Served, ServesFile}
use Rattle.px_app.proofs.RunServers.{run_counts}
use Rattle.px_app.proofs.ServerLemmas.{always_counts}
use Rattle.px_proxy.specs.TakenDue.{IsWiredBy, IsWiredWith, WiredSo}
use Rattle.px_proxy.proofs.BesideLemmas.{part_beside}
use Rattle.px_proxy.proofs.EndLemmas.{not_ended}
use Rattle.px_proxy.proofs.QuitLemmas.{quits_last}
use Rattle.px_proxy.proofs.TakenDueLemmas.{ConnectsNone, IsSilent, IsUnsaid, always_taken}
use Rattle.px_wire.specs.declared.table.Table.{Table}
use Rattle.px_wire.specs.Calls.{Calls, Agrees, steps_of}
use Rattle.px_wire.specs.Lines.{Keeps}
use Rattle.px_wire.specs.Rules.{Obeys}

pub kept_obeys : (spent : Bool) (table : Table) (told : Option Calls) → Keeps spent table told → (list : Calls) → told ≡ Some list → Obeys list
kept_obeys false table told keeps list is = let P : Option Calls → Type 0 = Keeps false table in (subst P is keeps).stands.obeys
kept_obeys true table told keeps list is = let P : Option Calls → Type 0 = Keeps true table in (subst P is keeps).1.stands.obeys

pub agreed_steps : (steps : Option Trace) (told : Option Calls) → Agrees steps told → (list : Calls) → told ≡ Some list → steps ≡ Some (steps_of list)
agreed_steps steps told agree list is = let P : Option Calls → Type 0 = Agrees steps in subst P is agree

-- a status of an end is not that of no memory
ended_not_lost : (status : ℕ) → (status ≡ 0) ⊎ (status ≡ 7) → status ≢ 8
ended_not_lost status (inl is) lost = omega arith
ended_not_lost status (inr is) lost = omega arith

-- no byte is due to a server before its dial is answered, and none to a client where there is none
run_silent : (mode : Mode) (key : List ℕ) (resent : List Flow) → IsSilent (run_due mode key resent)
run_silent mode key resent conv (Some peer) server moves none = mode_silent mode key conv (Some peer) server moves none
run_silent mode key resent conv None server moves none = resend_silent (proxy_in mode) conv (request_at resent (conv - number_end)) server moves none

run_unsaid : (mode : Mode) (key : List ℕ) (resent : List Flow) → IsUnsaid (run_due mode key resent)
run_unsaid mode key resent conv moves = client_unsaid (proxy_in mode) conv (request_at resent (conv - number_end)) moves

module _ {S : Type 0} (answers : Answering S) (drops : List ℕ → S → S → Type 0) (names : S → List (List ℕ)) (fails : Failing S) (key : List ℕ) where
  -- what the wire did in a run that served
  served_so : ConnectsNone answers → (out save : Type 0) (settings : Settings) (chain : S) (resent : List Flow) (read : FilesMeaning) (before after : Outside) (status : ℕ) (mode : Mode) (list : Calls) → Obeys list →
      settings.mode ≡ mode_view mode → Served answers drops names fails key out save settings chain resent read before after status (steps_of list) → WiredSo (run_due mode key resent) status list
  served_so none out save settings chain resent read before after status mode list obeys wants h =
      let first : AnswererState S = record { own = chain; files = read } in
      let p = h.promises mode wants in
      let b = part_beside answers drops names (run_due mode key resent) first (steps_of list) h.trace (course_from first h.changes h.operations) p.worked in
      record {
        takes = always_taken answers none (run_due mode key resent) (run_silent mode key resent) (run_unsaid mode key resent) list h.trace obeys b
            (always_counts (run_due mode key resent) (run_counts mode key resent) h.trace p.served.within) p.served.met p.served.within;
        quits = λ either.
            quits_last answers drops names (run_due mode key resent) first (steps_of list) h.trace (course_from first h.changes h.operations) h.over (p.worked_whole (ended_not_lost status either))
            (h.ends.ended either) (not_ended list obeys);
      }

  -- by what came of the flow files
  wired_flows : ConnectsNone answers → (IsChain : Settings → List Flow → S → Type 0) (same net out save notes : Type 0) (settings : Settings) (flows : List Flow) (what : Loaded) (read : FilesMeaning)
      (before after : Outside) (status : ℕ) {told : Option Calls} → ((list : Calls) → told ≡ Some list → after.trace ≡ Some (steps_of list)) → ((list : Calls) → told ≡ Some list → Obeys list) →
      RunsBy answers drops names fails key IsChain same net out save notes settings flows what read before after status → IsWiredWith key settings what status before.trace told
  wired_flows none IsChain same net out save notes settings flows (one_absent other) read before after status steps obeys h = tt
  wired_flows none IsChain same net out save notes settings flows (one_unread other) read before after status steps obeys h = tt
  wired_flows none IsChain same net out save notes settings flows (one_bad other offset) read before after status steps obeys h = tt
  wired_flows none IsChain same net out save notes settings flows unloaded read before after status steps obeys h = tt
  wired_flows none IsChain same net out save notes settings flows (loaded resent) read before after status steps obeys h = λ mode list wants fresh told.
      let serves = h.2 in
      served_so none out save settings h.0 resent read before after status mode list (obeys list told) wants (serves.served (steps_of list) fresh (steps list told))

  wired_with : ConnectsNone answers → (IsChain : Settings → List Flow → S → Type 0) (same net out save notes : Type 0) (settings : Settings) (recorded resent : Loaded) (read : FilesMeaning)
      (before after : Outside) (status : ℕ) {told : Option Calls} → ((list : Calls) → told ≡ Some list → after.trace ≡ Some (steps_of list)) → ((list : Calls) → told ≡ Some list → Obeys list) →
      RunsWith answers drops names fails key IsChain same net out save notes settings recorded resent read before after status → IsWiredWith key settings (behind_loaded recorded resent) status before.trace told
  wired_with none IsChain same net out save notes settings recorded resent read before after status steps obeys h =
      wired_flows none IsChain same net out save notes settings (flows_in recorded) (behind_loaded recorded resent) read before after status steps obeys h.so

  -- what the wire took is what is due by the options, and only an operator ended the run
  pub wired_by : ConnectsNone answers → (IsChain : Settings → List Flow → S → Type 0) (same net out save notes : Type 0) (path : List ℕ) (opened : Opened) (before after : Outside) (status : ℕ) {told : Option Calls} →
      ((list : Calls) → told ≡ Some list → after.trace ≡ Some (steps_of list)) → ((list : Calls) → told ≡ Some list → Obeys list) →
      ServesFile answers drops names fails key IsChain same net out save notes path opened before after status → IsWiredBy key opened status before.trace told
  wired_by none IsChain same net out save notes path nothing_read before after status steps obeys h = tt
  wired_by none IsChain same net out save notes path absent before after status steps obeys h = tt
  wired_by none IsChain same net out save notes path not_read before after status steps obeys h = tt
  wired_by none IsChain same net out save notes path (unjudged bytes) before after status steps obeys h = tt
  wired_by none IsChain same net out save notes path (refused bytes why) before after status steps obeys h = tt
  wired_by none IsChain same net out save notes path (says bytes settings reads recorded resent) before after status steps obeys h =
      wired_with none IsChain same net out save notes settings recorded resent h.read before after status steps obeys h.runs.2
