use Rattle.std.proofs.Common.{◌+◌, ◌++◌, ◌∷◌, [], Some, arith, subst}
use Rattle.px_event.specs.declared.heard.Heard.TheVariants as heard
use Rattle.px_event.specs.declared.side.Side.TheVariants.{Client}
use Rattle.px_wire.specs.declared.endpoint.Endpoint.{Endpoint}
use Rattle.px_wire.specs.declared.call.WireCall.TheVariants as calls
use Rattle.px_wire.specs.declared.wire.Ready.TheVariants as ready
use Rattle.px_wire.specs.Holds.{Holds, without}
use Rattle.px_wire.specs.Endpoints.{new_endpoint}
use Rattle.px_wire.proofs.AskedLemmas.{told_kept}
use Rattle.px_wire.proofs.StepLemmas.{tells_accepted, tells_refused, on_ok, on_err, rests_same, pushed}
use Rattle.px_wire.proofs.ready.accept.Goals as goal

pub returns-then-table-ge-NUMBER_END-clause-stands : goal.returns-then-table-ge-NUMBER_END-clause-stands
returns-then-table-ge-NUMBER_END-clause-stands g c = λ before calm rests free tells.
    let old = c.args.table.now in
    record {
      endpoints = rests.endpoints;
      held = rests.held;
      stands = tells_refused rests.endpoints old.accepted old.moment c.args.moment c.args.slot c.args.door c.args.peer before _ (calm rests.endpoints rests.held) rests.stands free tells _
          (omega arith) c.shut.ensures.told;
    }

pub returns-clause-stands : goal.returns-clause-stands
returns-clause-stands g c = λ before calm rests free tells.
    let old = c.args.table.now in
    let made = new_endpoint c.args.slot old.accepted Client (Some c.args.door) in
    let turn = old.endpoints.next_turn in
    let endpoints = without c.args.slot rests.endpoints ++ record made { turn = turn } ∷ [] in
    let what = heard.Accepted old.accepted c.args.door c.args.peer in
    let P : Endpoint → Type 0 = λ l. Holds c.push.new.self (without l.slot rests.endpoints ++ record l { turn = turn } ∷ []) in
    on_ok c.hear.result _ _
    (c.hear.ensures.plain endpoints (old.accepted + 1) tt
    (pushed c.args.slot turn made rests.endpoints (calls.Told c.args.moment (ready.Accepted c.args.slot c.args.door c.args.peer)) old.accepted old.moment (old.accepted + 1) c.args.moment (Some what) before _ tells rests.stands free
    (tells_accepted rests.endpoints old.accepted old.moment c.args.moment c.args.slot c.args.door c.args.peer before _ (calm rests.endpoints rests.held) rests.stands free tells (omega arith))))
    (λ s. record { endpoints = endpoints; held = subst P c.new.ensures (c.push.ensures.holds rests.endpoints rests.held); stands = s })

pub returns-clause-err : goal.returns-clause-err
returns-clause-err g c = λ before calm rests free tells.
    let old = c.args.table.now in
    let made = new_endpoint c.args.slot old.accepted Client (Some c.args.door) in
    let turn = old.endpoints.next_turn in
    let endpoints = without c.args.slot rests.endpoints ++ record made { turn = turn } ∷ [] in
    let what = heard.Accepted old.accepted c.args.door c.args.peer in
    let P : Endpoint → Type 0 = λ l. Holds c.push.new.self (without l.slot rests.endpoints ++ record l { turn = turn } ∷ []) in
    on_err c.hear.result _ _ c.hear.ensures.calls_err (λ same. (
      Some what,
      rests_same (Some what) (record { endpoints = c.push.new.self; accepted = old.accepted + 1; moment = c.args.moment }) _ _ same (record {
        endpoints = endpoints;
        held = subst P c.new.ensures (c.push.ensures.holds rests.endpoints rests.held);
        stands = pushed c.args.slot turn made rests.endpoints (calls.Told c.args.moment (ready.Accepted c.args.slot c.args.door c.args.peer)) old.accepted old.moment (old.accepted + 1) c.args.moment (Some what) before _ tells rests.stands free
            (tells_accepted rests.endpoints old.accepted old.moment c.args.moment c.args.slot c.args.door c.args.peer before _ (calm rests.endpoints rests.held) rests.stands free tells (omega arith));
      }),
    ))

pub returns-then-table-ge-NUMBER_END-clause-kept : goal.returns-then-table-ge-NUMBER_END-clause-kept
returns-then-table-ge-NUMBER_END-clause-kept g c = told_kept _ _ _ c.shut.ensures.told
