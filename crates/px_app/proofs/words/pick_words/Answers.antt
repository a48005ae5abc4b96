use Rattle.std.proofs.Common.{◌≡◌, ◌∙◌, sym, ap, map, ◌∷◌, [], List, ℕ}
use Rattle.std.specs.Prelude.{codes}
use Rattle.std.specs.String.{string_bytes}
use Rattle.px_app.proofs.WordLemmas.{first_of_four, four_are, other_word, same_word}
use Rattle.px_app.proofs.words.pick_words.Goals as goal

pub returns : goal.returns
returns c =
    let words = four_are c.args.words.now _ _ _ _ c.in-len4.len_at_least c.in-len4.len_below c.command-item.is c.path-item.is c.text-item.is c.to-item.is in
    let command : string_bytes c.command-item.result ≡ codes "pick" = same_word _ _ _ _ c.as_str.ensures.value c.if-ne.false c.ne.ensures in
    let path = sym c.as_str-2.ensures.value in
    let text = sym c.as_str-3.ensures.value in
    let to = sym c.as_str-4.ensures.value in
    ap (λ ws. map string_bytes ws) words
    ∙ (ap (λ (w : List ℕ). w ∷ string_bytes c.path-item.result ∷ string_bytes c.text-item.result ∷ string_bytes c.to-item.result ∷ []) command
    ∙ (ap (λ (w : List ℕ). codes "pick" ∷ w ∷ string_bytes c.text-item.result ∷ string_bytes c.to-item.result ∷ []) path
    ∙ (ap (λ (w : List ℕ). codes "pick" ∷ c.as_str-2.result.now ∷ w ∷ string_bytes c.to-item.result ∷ []) text
    ∙ ap (λ (w : List ℕ). codes "pick" ∷ c.as_str-2.result.now ∷ c.as_str-3.result.now ∷ w ∷ []) to)))

pub returns-then-ne : goal.returns-then-ne
returns-then-ne c a b d is =
    let words = four_are c.args.words.now _ _ _ _ c.in-len4.len_at_least c.in-len4.len_below c.command-item.is c.path-item.is c.text-item.is c.to-item.is in
    let command = first_of_four _ _ _ _ _ _ _ _ (sym (ap (λ ws. map string_bytes ws) words) ∙ is) in
    other_word _ _ _ _ c.as_str.ensures.value c.if-ne.true c.ne.ensures command
