use Rattle.std.proofs.Common.{◌≡◌, ◌++◌, ◌∷◌, Option, Some, None, refl, sym, true}
use Rattle.px_wire.specs.declared.endpoint.Endpoint.{Endpoint}
use Rattle.px_wire.specs.Holds.{endpoint_at}
use Rattle.px_wire.specs.Stands.{Rests}
use Rattle.px_wire.proofs.FindLemmas.{here, at_again}
use Rattle.px_wire.proofs.HoldsLemmas.{no_slot, alike_held}
use Rattle.px_wire.proofs.StepLemmas.{tells_none_readable, tells_readable}
use Rattle.px_wire.proofs.ready.set_readable.Goals as goal

pub returns : goal.returns
returns c = record {
  stands = λ before now calm rests tells.
      let old = c.args.table.now in
      let by : (o : Option Endpoint) → endpoint_at old.endpoints c.args.slot ≡ o → Rests None (record old { endpoints = c.set_readable_in.new.endpoints; moment = c.args.moment }) now = λ o. elim o as (λ o. endpoint_at old.endpoints c.args.slot ≡ o → Rests None (record old { endpoints = c.set_readable_in.new.endpoints; moment = c.args.moment }) now) [
        | None ↦ λ none. record {
          endpoints = rests.endpoints;
          held = alike_held old.endpoints c.set_readable_in.new.endpoints rests.endpoints (c.set_readable_in.ensures.none none) rests.held;
          stands = tells_none_readable rests.endpoints old.accepted old.moment c.args.moment c.args.slot before now (calm rests.endpoints rests.held) rests.stands
              (no_slot old.endpoints rests.endpoints c.args.slot rests.held none) tells;
        }
        | Some endpoint ↦ λ at.
            let h = here None old c.args.slot endpoint before rests at in
            record {
              endpoints = h.front ++ record endpoint { is_readable = true } ∷ h.back;
              held = (at_again old.endpoints c.set_readable_in.new.endpoints c.args.slot h.front endpoint (record endpoint { is_readable = true }) h.back h.is_at (c.set_readable_in.ensures.changes endpoint at) refl refl refl).held;
              stands = tells_readable h.front endpoint h.back old.accepted old.moment c.args.moment c.args.slot before now (calm (h.front ++ endpoint ∷ h.back) h.is_at.held) h.stands (sym h.is_at.slot_is) tells;
            }
      ] in by (endpoint_at old.endpoints c.args.slot) refl;
}
