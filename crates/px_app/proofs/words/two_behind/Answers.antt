use Rattle.std.proofs.Common.{◌≡◌, ◌∙◌, sym, ap, map, ◌∷◌, [], List, ℕ}
use Rattle.std.specs.String.{string_bytes}
use Rattle.px_app.proofs.WordLemmas.{other_word, same_first_of_three, same_word, three_are}
use Rattle.px_app.proofs.words.two_behind.Goals as goal

pub returns : goal.returns
returns c =
    let words = three_are c.args.words.now _ _ _ c.in-len3.len_at_least c.in-len3.len_below c.command-item.is c.path-item.is c.text-item.is in
    let command : string_bytes c.command-item.result ≡ c.args.name.now = same_word _ _ _ _ c.as_str.ensures.value c.if-ne.false c.ne.ensures in
    let path = sym c.as_str-2.ensures.value in
    let text = sym c.as_str-3.ensures.value in
    ap (λ ws. map string_bytes ws) words
    ∙ (ap (λ (w : List ℕ). w ∷ string_bytes c.path-item.result ∷ string_bytes c.text-item.result ∷ []) command
    ∙ (ap (λ (w : List ℕ). c.args.name.now ∷ w ∷ string_bytes c.text-item.result ∷ []) path
    ∙ ap (λ (w : List ℕ). c.args.name.now ∷ c.as_str-2.result.now ∷ w ∷ []) text))

pub returns-then-ne : goal.returns-then-ne
returns-then-ne c a b is =
    let words = three_are c.args.words.now _ _ _ c.in-len3.len_at_least c.in-len3.len_below c.command-item.is c.path-item.is c.text-item.is in
    let command = same_first_of_three _ _ _ _ _ _ (sym (ap (λ ws. map string_bytes ws) words) ∙ is) in
    other_word _ _ _ _ c.as_str.ensures.value c.if-ne.true c.ne.ensures command
