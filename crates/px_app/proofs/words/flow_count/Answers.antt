use Rattle.std.proofs.Common.{◌≡◌, ◌∙◌, sym, ap, map, ◌∷◌, [], List, ℕ}
use Rattle.std.specs.Prelude.{codes}
use Rattle.std.specs.String.{string_bytes}
use Rattle.px_app.proofs.WordLemmas.{counted_by, same_word, two_are}
use Rattle.px_app.proofs.words.flow_count.Goals as goal

pub returns : goal.returns
returns c =
    let words = two_are c.args.words.now _ _ c.in-len2.len_at_least c.in-len2.len_below c.command-item.is c.count-item.is in
    let command : string_bytes c.command-item.result ≡ codes "gen" = same_word _ _ _ _ c.as_str.ensures.value c.if-ne.false c.ne.ensures in
    let both = ap (λ ws. map string_bytes ws) words ∙ (ap (λ (w : List ℕ). w ∷ string_bytes c.count-item.result ∷ []) command ∙ ap (λ (w : List ℕ). codes "gen" ∷ w ∷ []) (sym c.as_bytes.ensures.value)) in
    counted_by _ c.as_bytes.result.now both c.read_count.result c.read_count.ensures.read
