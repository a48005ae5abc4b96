use Rattle.std.proofs.Common.{◌≡◌, ◌∙◌, ◌++◌, ◌∷◌, [], ap, true, codes, refl}
use Rattle.httparse.specs.Grammar.{is_token, is_token_byte}
use Rattle.px_map.proofs.responses.add_media.Goals as goal

is_name : is_token (codes "Content-Type") ≡ true
unfolding is_token_byte
is_name = refl

pub add-requires : goal.add-requires
add-requires c = is_name

pub returns : goal.returns
returns c = c.in_ok-add.ensures ∙ ap (λ v. c.args.fields.now ++ (codes "Content-Type", v) ∷ []) c.in_ok-value.ensures
