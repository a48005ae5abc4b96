use Rattle.std.proofs.Common.{◌≡◌, ◌∙◌, ◌+◌, ◌++◌, ◌∷◌, [], Bool, ap}
use Rattle.std.specs.Prelude.{is_some}
use Rattle.px_frame.specs.Text.{high, key_bytes, length_text}
use Rattle.px_text.proofs.PrefixLemmas.{adds_first, adds_second, adds_same, both_parts, err_adds, err_behind, err_nothing}
use Rattle.px_frame.proofs.write.push_head.Goals as goal

pub returns-in_err-push-clause-err : goal.returns-in_err-push-clause-err
returns-in_err-push-clause-err c = err_nothing c.from_residual.result _ _ _ c.in_err-push.ensures.items

pub returns-in_err-push_length-clause-err : goal.returns-in_err-push_length-clause-err
returns-in_err-push_length-clause-err c =
    let value = c.high.ensures.value in
    let items = c.in_ok-push.ensures.items in
    let first : c.push.new.self.items ≡ c.args.out.now.items ++ (high c.args.fin + c.args.opcode) ∷ [] = cc in
    err_adds c.from_residual-in_err-push_length.result _ _ _
    (adds_second ((high c.args.fin + c.args.opcode) ∷ []) (length_text (is_some c.args.key) c.args.count ++ key_bytes c.args.key) _ _ _ first
    (adds_first (length_text (is_some c.args.key) c.args.count) (key_bytes c.args.key) _ _
    (adds_same _ _ _ _ (ap (λ (b : Bool). length_text b c.args.count) c.is_some.ensures) c.in_err-push_length.ensures.err)))

pub returns-clause-err : goal.returns-clause-err
returns-clause-err c =
    let value = c.high.ensures.value in
    let items = c.in_ok-push.ensures.items in
    let first : c.push.new.self.items ≡ c.args.out.now.items ++ (high c.args.fin + c.args.opcode) ∷ [] = cc in
    err_behind c.push_key.result ((high c.args.fin + c.args.opcode) ∷ length_text (is_some c.args.key) c.args.count) (key_bytes c.args.key) _ _ _
    (both_parts ((high c.args.fin + c.args.opcode) ∷ []) (length_text (is_some c.args.key) c.args.count) _ _ _ first
    (c.in_ok-push_length.ensures.ok ∙ ap (λ (b : Bool). c.push.new.self.items ++ length_text b c.args.count) c.is_some.ensures))
    c.push_key.ensures.err
