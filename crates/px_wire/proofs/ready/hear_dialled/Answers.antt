use Rattle.std.proofs.Common.{◌∙◌, ◌++◌, ◌∷◌, ap, sym, refl, None}
use Rattle.std.specs.Prelude.{option_copied}
use Rattle.px_wire.proofs.FindLemmas.{here, whole}
use Rattle.px_wire.proofs.HoldsLemmas.{no_slot}
use Rattle.px_wire.proofs.StepLemmas.{tells_none_dialled, tells_dialled, tells_undialled, loose_of}
use Rattle.px_wire.proofs.ready.hear_dialled.Goals as goal

pub returns-in_default-clause-stands : goal.returns-in_default-clause-stands
returns-in_default-clause-stands g c = λ before calm rests tells.
    let old = c.args.table.now in
    record {
      endpoints = rests.endpoints;
      held = rests.held;
      stands = tells_none_dialled rests.endpoints old.accepted old.moment c.args.moment c.args.slot before _ (calm rests.endpoints rests.held) rests.stands c.args.ok
          (no_slot old.endpoints rests.endpoints c.args.slot rests.held (sym c.get.ensures.is ∙ ap (λ o. option_copied o) c.in_default.is)) tells;
    }

pub returns-in-Client-clause-stands : goal.returns-in-Client-clause-stands
returns-in-Client-clause-stands g c = λ before calm rests tells.
    let old = c.args.table.now in
    let endpoint = c.in-Some.endpoint.now in
    let h = here None old c.args.slot endpoint before rests (sym c.in-Some.ensures.is) in
    whole None (record old { moment = c.args.moment }) c.args.slot h.front endpoint h.back _ h.is_at
    (tells_undialled h.front endpoint h.back old.accepted old.moment c.args.moment c.args.slot before _ (calm (h.front ++ endpoint ∷ h.back) h.is_at.held) h.stands (sym h.is_at.slot_is) c.args.ok c.in-Client.is tells)

pub returns-in-Server-clause-stands : goal.returns-in-Server-clause-stands
returns-in-Server-clause-stands g c = λ before calm rests tells.
    let old = c.args.table.now in
    let endpoint = c.in-Some.endpoint.now in
    let h = here None old c.args.slot endpoint before rests (sym c.in-Some.ensures.is) in
    c.hear_server.ensures.stands h.front h.back endpoint h.is_at refl c.in-Server.is
    (tells_dialled h.front endpoint h.back old.accepted old.moment c.args.moment c.args.slot before _ (calm (h.front ++ endpoint ∷ h.back) h.is_at.held) h.stands (sym h.is_at.slot_is) c.in-Server.server c.args.ok c.in-Server.is tells)

pub returns-in-Server-clause-err : goal.returns-in-Server-clause-err
returns-in-Server-clause-err g c = λ before calm rests tells.
    let old = c.args.table.now in
    let endpoint = c.in-Some.endpoint.now in
    let h = here None old c.args.slot endpoint before rests (sym c.in-Some.ensures.is) in
    loose_of c.hear_server.result _ _ _ _ c.hear_server.ensures.table_err c.hear_server.ensures.calls_err _
    (whole _ (record old { moment = c.args.moment }) c.args.slot h.front endpoint h.back _ h.is_at
    (tells_dialled h.front endpoint h.back old.accepted old.moment c.args.moment c.args.slot before _ (calm (h.front ++ endpoint ∷ h.back) h.is_at.held) h.stands (sym h.is_at.slot_is) c.in-Server.server c.args.ok c.in-Server.is tells))
