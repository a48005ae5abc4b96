-- What is said, and notes.
use Rattle.std.proofs.Common.{◌≡◌, ◌≢◌, ◌∙◌, inl, inr, ℕ, Bool, true, false, refl, ap, sym, arith, subst, List, [], ◌∷◌, ◌++◌, ◌==◌, map, Option, None, append_assoc}
use Rattle.std.specs.List.{list_any}
use Rattle.std.proofs.lemmas.Bool.{eq-eqb}
use Rattle.px_message.specs.declared.address.Address.{Address}
use Rattle.px_event.specs.declared.side.Side.{Side}
use Rattle.px_event.specs.declared.side.Side.TheVariants.{Client, Server}
use Rattle.px_event.specs.declared.heard.Heard.{Heard}
use Rattle.px_event.specs.declared.said.Said.TheVariants as said
use Rattle.px_event.specs.declared.step.Step.{Step}
use Rattle.px_event.specs.declared.step.Step.TheVariants as steps
use Rattle.px_outside.specs.Net.{IsNote}
use Rattle.px_wire.specs.declared.endpoint.Endpoint.{Endpoint}
use Rattle.px_wire.specs.declared.call.WireCall.{WireCall}
use Rattle.px_wire.specs.declared.call.WireCall.TheVariants as calls
use Rattle.px_wire.specs.Calls.{Calls, slots_of, without_slot, IsFree}
use Rattle.px_wire.specs.Endpoints.{is_endpoint_of, new_endpoint}
use Rattle.px_wire.specs.Ledger.{Life, Ledger, ledger, after, is_life_at, is_life_of, change_first, drop_first, new_life}
use Rattle.px_wire.specs.Rules.{FirstIs, MayEnd, Allowed}
use Rattle.px_wire.specs.Stands.{Busy, idle, putting, flushed, Fits, AllFit, Name, name_of, ApartFrom, Distinct, IsUsed, AllUsed, Stands}
use Rattle.px_wire.proofs.LedgerLemmas.{ledger_more, slots_more, obeys_more, change_none, change_here, drop_here, first_here}
use Rattle.px_wire.proofs.PlaceLemmas.{own_slot, own_side, joined, distinct_more}
use Rattle.px_wire.proofs.ChangeLemmas.{here, apart, before_misses, changed_side, kept, names_around, names_joined, stays_used, used_more, used_last, used_rest, apart_join}
use Rattle.px_wire.proofs.PutLemmas.{refits, unheard_same}
use Rattle.px_wire.proofs.ReadyLemmas.{missing_side}
use Rattle.px_wire.proofs.AcceptLemmas.{other_than_free, new_fits, dial_call}

-- the step in which bytes are sent, or a side is closed
abbrev pub send_call : ℕ → Side → List ℕ → WireCall
send_call conv side bytes = calls.Noted (steps.Said conv (said.Send side bytes))

abbrev pub close_call : ℕ → Side → WireCall
close_call conv side = calls.Noted (steps.Said conv (said.Close side))

-- no slot is being worked on, and then this one
others_work : (busy : Busy) (owed : Option Heard) (endpoint : Endpoint) (life : Life) → Fits idle owed endpoint life → Fits busy owed endpoint life
others_work busy owed endpoint life fits = refits idle busy owed endpoint life fits (λ free. fits.blocked refl) (λ free. fits.still refl) (λ free. fits.unfinished refl)

module _ (owed : Option Heard) (endpoints : List Endpoint) (accepted moment : ℕ) (list : Calls) (stands : Stands idle owed endpoints accepted moment list) where
  -- a side that has no slot
  pub sent_to_none : (conv : ℕ) (side : Side) (bytes : List ℕ) → list_any (is_endpoint_of conv side) endpoints ≡ false → Stands idle owed endpoints accepted moment (list ++ send_call conv side bytes ∷ [])
  sent_to_none conv side bytes none =
      kept idle owed endpoints accepted moment list stands (send_call conv side bytes) idle owed moment tt
      (change_none (is_life_of conv side) (λ life. record life { said = life.said ++ bytes }) (ledger list).lives (missing_side idle owed conv side endpoints (ledger list).lives stands.fits none))
      (λ other life fits. fits)
      (record { accepted_is = stands.accepted_is; moment_is = stands.moment_is; owed_is = stands.owed_is; refused_is = stands.refused_is }) refl

  pub closed_none : (conv : ℕ) (side : Side) → list_any (is_endpoint_of conv side) endpoints ≡ false → Stands idle owed endpoints accepted moment (list ++ close_call conv side ∷ [])
  closed_none conv side none =
      kept idle owed endpoints accepted moment list stands (close_call conv side) idle owed moment tt
      (change_none (is_life_of conv side) (λ life. record life { is_closing = true }) (ledger list).lives (missing_side idle owed conv side endpoints (ledger list).lives stands.fits none))
      (λ other life fits. fits)
      (record { accepted_is = stands.accepted_is; moment_is = stands.moment_is; owed_is = stands.owed_is; refused_is = stands.refused_is }) refl

  noted_as : (step : Step) → Allowed (ledger list) (calls.Noted step) → after (ledger list) (calls.Noted step) ≡ ledger list → Stands idle owed endpoints accepted moment (list ++ calls.Noted step ∷ [])
  noted_as step allowed same =
      kept idle owed endpoints accepted moment list stands (calls.Noted step) idle owed moment allowed
      (ap (λ (l : Ledger). l.lives) same) (λ other life fits. fits)
      (record {
        accepted_is = stands.accepted_is ∙ ap (λ (l : Ledger). l.accepted) (sym same);
        moment_is = stands.moment_is ∙ ap (λ (l : Ledger). l.moment) (sym same);
        owed_is = ap (λ (l : Ledger). l.owed) same ∙ stands.owed_is;
        refused_is = ap (λ (l : Ledger). l.refused) same ∙ stands.refused_is;
      }) refl

  -- what is neither heard nor said
  pub noted : (step : Step) → IsNote step → Stands idle owed endpoints accepted moment (list ++ calls.Noted step ∷ [])
  noted (steps.Begun conv) is = noted_as (steps.Begun conv) tt refl
  noted (steps.Asked conv ask) is = noted_as (steps.Asked conv ask) tt refl
  noted (steps.Answered conv ask reply) is = noted_as (steps.Answered conv ask reply) tt refl
  noted (steps.Done flow) is = noted_as (steps.Done flow) tt refl
  noted (steps.Heard moment what) is = absurd is
  noted (steps.Said conv what) is = absurd is

module _ (owed : Option Heard) (front back : List Endpoint) (endpoint : Endpoint) (accepted moment : ℕ) (list : Calls) (stands : Stands idle owed (front ++ endpoint ∷ back) accepted moment list) where
  more_said : List ℕ → Life → Life
  more_said bytes life = record life { said = life.said ++ bytes }

  -- bytes wait behind those that do
  pub sent : (bytes : List ℕ) → endpoint.is_over ≡ false
      → Stands (putting endpoint.slot) owed (front ++ record endpoint { queue = endpoint.queue ++ bytes } ∷ back) accepted moment (list ++ send_call endpoint.conv endpoint.side bytes ∷ [])
  sent bytes live =
      changed_side idle owed front back endpoint accepted moment list stands (send_call endpoint.conv endpoint.side bytes) (putting endpoint.slot) owed accepted moment tt
      (λ life. record life { said = life.said ++ bytes }) (record endpoint { queue = endpoint.queue ++ bytes }) refl
      (record { name = refl; fits = own; others = λ other life away fits. others_work (putting endpoint.slot) owed other life fits })
      (record { accepted_is = stands.accepted_is; moment_is = stands.moment_is; owed_is = stands.owed_is; refused_is = stands.refused_is }) refl
    where
      own : (life : Life) → Fits idle owed endpoint life → Fits (putting endpoint.slot) owed (record endpoint { queue = endpoint.queue ++ bytes }) (record life { said = life.said ++ bytes })
      own life fits = record {
        slot = fits.slot;
        conv = fits.conv;
        side = fits.side;
        door = fits.door;
        closing = fits.closing;
        over = fits.over;
        readable = fits.readable;
        queued = λ is. ap (λ (b : List ℕ). b ++ bytes) (fits.queued is) ∙ append_assoc life.taken endpoint.queue bytes;
        cut = λ is. (let wrong : true ≡ false = sym is ∙ (sym fits.over ∙ live) in cc);
        heard = fits.heard ∙ ap (λ (b : List ℕ). life.heard ++ b) (unheard_same owed life (record life { said = life.said ++ bytes }) refl refl);
        blocked = λ free. (let wrong : true ≡ false = sym (eq-eqb endpoint.slot endpoint.slot refl) ∙ free in cc);
        still = λ free. (let wrong : true ≡ false = sym (eq-eqb endpoint.slot endpoint.slot refl) ∙ free in cc);
        unfinished = λ free. fits.unfinished refl;
      }

  -- bytes for a socket that ended or failed are dropped
  pub sent_over : (bytes : List ℕ) → endpoint.is_over ≡ true → Stands idle owed (front ++ endpoint ∷ back) accepted moment (list ++ send_call endpoint.conv endpoint.side bytes ∷ [])
  sent_over bytes over =
      changed_side idle owed front back endpoint accepted moment list stands (send_call endpoint.conv endpoint.side bytes) idle owed accepted moment tt
      (λ life. record life { said = life.said ++ bytes }) endpoint refl
      (record { name = refl; fits = own; others = λ other life away fits. fits })
      (record { accepted_is = stands.accepted_is; moment_is = stands.moment_is; owed_is = stands.owed_is; refused_is = stands.refused_is }) refl
    where
      own : (life : Life) → Fits idle owed endpoint life → Fits idle owed endpoint (record life { said = life.said ++ bytes })
      own life fits = record {
        slot = fits.slot;
        conv = fits.conv;
        side = fits.side;
        door = fits.door;
        closing = fits.closing;
        over = fits.over;
        readable = fits.readable;
        queued = λ is. (let wrong : true ≡ false = sym (sym fits.over ∙ over) ∙ is in cc);
        cut = λ is. (let old = fits.cut is in ((old.0.0 ++ bytes, ap (λ (b : List ℕ). b ++ bytes) old.0.1 ∙ append_assoc life.taken old.0.0 bytes), old.1));
        heard = fits.heard ∙ ap (λ (b : List ℕ). life.heard ++ b) (unheard_same owed life (record life { said = life.said ++ bytes }) refl refl);
        blocked = fits.blocked;
        still = fits.still;
        unfinished = fits.unfinished;
      }

  -- a Close is said to it
  pub closing : Stands (flushed endpoint.slot) owed (front ++ record endpoint { is_closing = true } ∷ back) accepted moment (list ++ close_call endpoint.conv endpoint.side ∷ [])
  closing =
      changed_side idle owed front back endpoint accepted moment list stands (close_call endpoint.conv endpoint.side) (flushed endpoint.slot) owed accepted moment tt
      (λ life. record life { is_closing = true }) (record endpoint { is_closing = true }) refl
      (record { name = refl; fits = own; others = λ other life away fits. others_work (flushed endpoint.slot) owed other life fits })
      (record { accepted_is = stands.accepted_is; moment_is = stands.moment_is; owed_is = stands.owed_is; refused_is = stands.refused_is }) refl
    where
      own : (life : Life) → Fits idle owed endpoint life → Fits (flushed endpoint.slot) owed (record endpoint { is_closing = true }) (record life { is_closing = true })
      own life fits = record {
        slot = fits.slot;
        conv = fits.conv;
        side = fits.side;
        door = fits.door;
        closing = refl;
        over = fits.over;
        readable = fits.readable;
        queued = fits.queued;
        cut = fits.cut;
        heard = fits.heard ∙ ap (λ (b : List ℕ). life.heard ++ b) (unheard_same owed life (record life { is_closing = true }) refl refl);
        blocked = λ free. fits.blocked refl;
        still = λ free. (let wrong : true ≡ false = sym (eq-eqb endpoint.slot endpoint.slot refl) ∙ free in cc);
        unfinished = λ free. fits.unfinished refl;
      }

-- a new slot of the same side is apart from all that the old one was apart from
apart_too : (old new : Name) (slots : List ℕ) (accepted : ℕ) → list_any (λ s. s == new.slot) slots ≡ false → old.conv ≡ new.conv → old.side ≡ new.side
    → (names : List Name) → AllUsed slots accepted names → ApartFrom old names → ApartFrom new names
apart_too old new slots accepted free conv side [] used away = tt
apart_too old new slots accepted free conv side (name ∷ names) used away = (
  record { slots = other_than_free new.slot slots accepted name free used.0; sides = λ c s. away.0.sides (conv ∙ c) (side ∙ s) },
  apart_too old new slots accepted free conv side names used.1 away.1,
)

-- all are in use where one is shut that is none of them
used_beside : (old : Name) (slots : List ℕ) (accepted : ℕ) (names : List Name) (last : Name) → ApartFrom old names → old.slot ≢ last.slot → AllUsed slots accepted (names ++ last ∷ [])
    → AllUsed (without_slot old.slot slots) accepted (names ++ last ∷ [])
used_beside old slots accepted [] last away differs used = (stays_used old.slot slots accepted last differs used.0, tt)
used_beside old slots accepted (name ∷ names) last away differs used =
    (stays_used old.slot slots accepted name away.0.slots used.0, used_beside old slots accepted names last away.1 differs used.1)

module _ (front back : List Endpoint) (endpoint : Endpoint) (accepted moment : ℕ) (list : Calls) (stands : Stands idle None (front ++ endpoint ∷ back) accepted moment list)
    (slot server : ℕ) (address : Address) (free : IsFree slot list) (is : endpoint.side ≡ Server server) where
  -- an address is dialled for a side that had a slot, which is then shut
  pub redialled : Stands idle None ((front ++ back) ++ new_endpoint slot endpoint.conv (Server server) None ∷ []) accepted moment
      ((list ++ dial_call endpoint.conv server address slot ∷ []) ++ calls.Shut endpoint.slot ∷ [])
  redialled =
      let h = here idle None front back endpoint accepted moment list stands in
      let m = before_misses idle None front back endpoint accepted moment list stands in
      let a = apart idle None front back endpoint accepted moment list stands in
      let l : Ledger = ledger list in
      let call = dial_call endpoint.conv server address slot in
      let new = new_life slot endpoint.conv (Server server) None in
      let change : Life → Life = λ life. record life { is_finished = true } in
      let more : Calls = list ++ call ∷ [] in
      let test : Life → Bool = is_life_of endpoint.conv (Server server) in
      let miss : list_any test h.before ≡ false = (let P : Side → Type 0 = λ s. list_any (is_life_of endpoint.conv s) h.before ≡ false in subst P is m.side) in
      let hit : test h.life ≡ true = (let P : Side → Type 0 = λ s. is_life_of endpoint.conv s h.life ≡ true in subst P is (own_side endpoint h.life h.fits.conv h.fits.side)) in
      let first : (ledger more).lives ≡ h.before ++ change h.life ∷ (h.behind ++ new ∷ []) =
      ap (λ (x : Ledger). x.lives) (ledger_more list call) ∙ (ap (λ (ls : List Life). ls ++ new ∷ [])
      (ap (change_first test change) h.lives_are ∙ change_here test change h.before h.life h.behind miss hit) ∙ append_assoc h.before (change h.life ∷ h.behind) (new ∷ [])) in
      let own : is_life_at endpoint.slot (change h.life) ≡ true = own_slot endpoint (change h.life) h.fits.slot in
      let lives : (ledger (more ++ calls.Shut endpoint.slot ∷ [])).lives ≡ (h.before ++ h.behind) ++ new ∷ [] =
      ap (λ (x : Ledger). x.lives) (ledger_more more (calls.Shut endpoint.slot)) ∙ (ap (drop_first (is_life_at endpoint.slot)) first
      ∙ (drop_here (is_life_at endpoint.slot) h.before (change h.life) (h.behind ++ new ∷ []) m.slot own ∙ sym (append_assoc h.before h.behind (new ∷ [])))) in
      let old : Name = name_of endpoint in
      let name : Name = record { slot = slot; conv = endpoint.conv; side = Server server } in
      let names : List Name = map name_of front ++ map name_of back in
      let V : List Name → Type 0 = λ ns. AllUsed (slots_of list) accepted ns in
      let used : IsUsed (slots_of list) accepted old × AllUsed (slots_of list) accepted names =
      used_rest (slots_of list) accepted (map name_of front) (map name_of back) old (subst V (names_around front back endpoint) stands.used) in
      let away : ApartFrom old names = apart_join old (map name_of front) (map name_of back) a.front a.back in
      let new_away : ApartFrom name names = apart_too old name (slots_of list) accepted free refl is names used.1 away in
      let last : IsUsed (slots_of list ++ slot ∷ []) accepted name = record { used = used_last slot (slots_of list); numbered = λ e. (let wrong : Server server ≡ Client = e in cc) } in
      let all_used : AllUsed (slots_of list ++ slot ∷ []) accepted (names ++ name ∷ []) = used_more slot (slots_of list) accepted accepted (omega arith) names name used.1 last in
      let both_used : AllUsed (without_slot endpoint.slot (slots_of list ++ slot ∷ [])) accepted (names ++ name ∷ []) =
      used_beside old (slots_of list ++ slot ∷ []) accepted names name away (λ e. other_than_free slot (slots_of list) accepted old free used.0 (sym e)) all_used in
      let slots : slots_of (more ++ calls.Shut endpoint.slot ∷ []) ≡ without_slot endpoint.slot (slots_of list ++ slot ∷ []) =
      slots_more more (calls.Shut endpoint.slot) ∙ ap (without_slot endpoint.slot) (slots_more list call) in
      let R : Endpoint → Life → Type 0 = Fits idle None in
      let new_names : map name_of ((front ++ back) ++ new_endpoint slot endpoint.conv (Server server) None ∷ []) ≡ names ++ name ∷ [] =
      names_around (front ++ back) [] (new_endpoint slot endpoint.conv (Server server) None) ∙ ap (λ (ns : List Name). ns ++ name ∷ []) (names_joined front back) in
      let P : List Life → Type 0 = λ ls. AllFit R ((front ++ back) ++ new_endpoint slot endpoint.conv (Server server) None ∷ []) ls in
      let D : List Name → Type 0 = Distinct in
      let U : List ℕ → Type 0 = λ ss. AllUsed ss accepted (map name_of ((front ++ back) ++ new_endpoint slot endpoint.conv (Server server) None ∷ [])) in
      let W : List Name → Type 0 = λ ns. AllUsed (without_slot endpoint.slot (slots_of list ++ slot ∷ [])) accepted ns in
      let Q : List Life → Type 0 = λ ls. FirstIs (is_life_at endpoint.slot) MayEnd ls in
      record {
        fits = subst P (sym lives) (joined R (front ++ back) (new_endpoint slot endpoint.conv (Server server) None ∷ []) (h.before ++ h.behind) (new ∷ [])
            (joined R front back h.before h.behind h.front_fits h.back_fits) (new_fits None slot endpoint.conv endpoint.conv (Server server) None refl refl, tt));
        distinct = subst D (sym new_names) (distinct_more name names a.rest new_away);
        used = subst U (sym slots) (subst W (sym new_names) both_used);
        accepted_is = stands.accepted_is ∙ ap (λ (x : Ledger). x.accepted) (sym (ledger_more more (calls.Shut endpoint.slot) ∙ ap (λ (x : Ledger). after x (calls.Shut endpoint.slot)) (ledger_more list call)));
        most = stands.most;
        moment_is = stands.moment_is ∙ ap (λ (x : Ledger). x.moment) (sym (ledger_more more (calls.Shut endpoint.slot) ∙ ap (λ (x : Ledger). after x (calls.Shut endpoint.slot)) (ledger_more list call)));
        owed_is = ap (λ (x : Ledger). x.owed) (ledger_more more (calls.Shut endpoint.slot) ∙ ap (λ (x : Ledger). after x (calls.Shut endpoint.slot)) (ledger_more list call)) ∙ stands.owed_is;
        refused_is = ap (λ (x : Ledger). x.refused) (ledger_more more (calls.Shut endpoint.slot));
        obeys = obeys_more more (calls.Shut endpoint.slot) (obeys_more list call stands.obeys (endpoint.conv, server, refl))
            (inr (subst Q (sym first) (first_here (is_life_at endpoint.slot) MayEnd h.before (change h.life) (h.behind ++ new ∷ []) m.slot own (inl refl))));
      }
