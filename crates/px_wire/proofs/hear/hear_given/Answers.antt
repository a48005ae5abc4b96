use Rattle.std.proofs.Common.{◌≡◌, ◌∙◌, ◌++◌, ◌∷◌, ℕ, List, [], ap, sym, subst, Some}
use Rattle.px_event.specs.declared.heard.Heard.TheVariants as heard
use Rattle.px_wire.specs.declared.endpoint.Endpoint.{Endpoint}
use Rattle.px_wire.specs.Holds.{Holds, without}
use Rattle.px_wire.proofs.FindLemmas.{endpoint_of}
use Rattle.px_wire.proofs.HoldsLemmas.{without_around}
use Rattle.px_wire.proofs.StepLemmas.{turned, on_ok, on_err, rests_same}
use Rattle.px_wire.proofs.hear.hear_given.Goals as goal

pub returns-clause-stands : goal.returns-clause-stands
returns-clause-stands g c = λ front back endpoint at stands.
    let there = endpoint_of c.args.table.now.endpoints c.args.slot front endpoint back at in
    let e : Some c.in-Some.endpoint.now ≡ Some endpoint = c.in-Some.ensures.is ∙ there in
    let same : c.in-Some.endpoint.now ≡ endpoint = cc in
    let last = record endpoint { turn = c.args.table.now.endpoints.next_turn } in
    let P : List Endpoint → Type 0 = λ ls. Holds c.to_end.new.self (ls ++ last ∷ []) in
    let held = subst P (ap (λ (n : ℕ). without n (front ++ endpoint ∷ back)) (sym at.slot_is) ∙ without_around c.args.table.now.endpoints front back endpoint at.held)
    (c.to_end.ensures.holds (front ++ endpoint ∷ back) endpoint there at.held) in
    on_ok c.hear_piece.result _ _
    (c.hear_piece.ensures.stands (front ++ back) [] last c.args.table.now.accepted (sym (ap (λ (l : Endpoint). l.conv) same)) (sym (ap (λ (l : Endpoint). l.side) same))
    (turned (Some (heard.Piece endpoint.conv endpoint.side c.args.bytes.now)) c.args.table.now.endpoints.next_turn (front ++ back) [] endpoint c.args.table.now.accepted c.args.table.now.moment _ stands))
    (λ s. record { endpoints = (front ++ back) ++ last ∷ []; held = held; stands = s })

pub returns-clause-err : goal.returns-clause-err
returns-clause-err g c = λ front back endpoint at stands.
    let there = endpoint_of c.args.table.now.endpoints c.args.slot front endpoint back at in
    let last = record endpoint { turn = c.args.table.now.endpoints.next_turn } in
    let owed = Some (heard.Piece endpoint.conv endpoint.side c.args.bytes.now) in
    let P : List Endpoint → Type 0 = λ ls. Holds c.to_end.new.self (ls ++ last ∷ []) in
    let held = subst P (ap (λ (n : ℕ). without n (front ++ endpoint ∷ back)) (sym at.slot_is) ∙ without_around c.args.table.now.endpoints front back endpoint at.held)
    (c.to_end.ensures.holds (front ++ endpoint ∷ back) endpoint there at.held) in
    on_err c.hear_piece.result _ _ c.hear_piece.ensures.calls_err
    (λ same. (
      owed,
      rests_same owed (record c.args.table.now { endpoints = c.to_end.new.self }) _ _ same (record {
        endpoints = (front ++ back) ++ last ∷ [];
        held = held;
        stands = turned owed c.args.table.now.endpoints.next_turn (front ++ back) [] endpoint c.args.table.now.accepted c.args.table.now.moment _ stands;
      }),
    ))
