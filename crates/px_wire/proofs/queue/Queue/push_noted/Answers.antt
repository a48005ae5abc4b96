use Rattle.std.proofs.Common.{rules, ap, ◌∙◌, ◌++◌, ◌∷◌, [], ◌<◌, ◌≡◌, length, length-append}
use Rattle.std.proofs.lemmas.List.Elements.{All-push, All-same}
use Rattle.std.specs.List.{concat}
use Rattle.px_wire.proofs.QueueLemmas.{concat_pushed}
use Rattle.px_wire.proofs.queue.Queue.push_noted.Goals as goal

pub invariant_of-self-in-Ok : goal.invariant_of-self-in-Ok
invariant_of-self-in-Ok g c =
    let old = c.self.inside.pieces.items in
    let mid = c.try_reserve.new.self.items in
    let new = c.push_back_reserved.new.self.items in
    let piece = c.in_ok-piece.piece in
    let joined : concat new ≡ concat old ++ piece = concat_pushed old mid new piece c.in_ok-try_reserve.ensures.items c.push_back_reserved.ensures.items in
    let sizes : length (concat new) ≡ length (concat old ++ piece) = ap length joined in
    let same : length piece ≡ length c.args.bytes.now = ap length c.in_ok-piece.ensures in
    let items : new ≡ old ++ piece ∷ [] = c.push_back_reserved.ensures.items ∙ ap (λ l. l ++ piece ∷ []) c.in_ok-try_reserve.ensures.items in
    let count = length-append (concat old) piece in
    (search rules, All-same (λ x. 0 < length x) _ _ items (All-push (λ x. 0 < length x) old piece c.self.invariant.1 (search rules)))

pub returns-in-Ok-clause-ok : goal.returns-in-Ok-clause-ok
returns-in-Ok-clause-ok g c =
    let old = c.self.inside.pieces.items in
    let piece = c.in_ok-piece.piece in
    concat_pushed old _ _ piece c.in_ok-try_reserve.ensures.items c.push_back_reserved.ensures.items
    ∙ (ap (λ l. l ++ piece) c.self.view_is ∙ ap (λ l. c.args.self.now ++ l) c.in_ok-piece.ensures)
