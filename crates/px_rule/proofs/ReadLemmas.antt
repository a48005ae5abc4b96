-- Rules that are read one by one.
use Rattle.std.proofs.Common.{◌≡◌, ℕ, ◌<◌, List, [], ◌∷◌, ◌++◌, map, take, length, get_or, Some, option_map, Result, Ok, Err, String, Global, string_bytes, sym, ap, ap₂, ◌∙◌}
use Rattle.std.proofs.lemmas.List.{map-append}
use Rattle.std.proofs.lemmas.Option.{slice_get-get_or, slice_get-map}
use Rattle.std.specs.List.{take-map}
use Rattle.px_rule.specs.Rule.{AreRules, IsFirstBad, IsNext, Rule}
use Rattle.px_rule.specs.declared.cause.RuleCause.{RuleCause}

pub one_more : (read : List ℕ → Result Rule RuleCause) (texts : List (List ℕ)) (text : List ℕ) (before after : List Rule) →
    AreRules read texts before → IsNext read text before after → AreRules read (texts ++ text ∷ []) after
one_more read texts text before after are (rule, is_rule, is_after) =
    map-append read texts (text ∷ []) ∙ ap₂ ◌++◌ are (ap (λ r. r ∷ []) is_rule) ∙ sym (map-append Ok before (rule ∷ [])) ∙ ap (map Ok) (sym is_after)

pub first_bad : (read : List ℕ → Result Rule RuleCause) (texts : List (String Global)) (index : ℕ) (text : String Global) (cause : RuleCause) (rules : List Rule) →
    index < length texts → text ≡ get_or texts index text → AreRules read (map string_bytes (take index texts)) rules →
    read (string_bytes text) ≡ Err cause → IsFirstBad read (map string_bytes texts) index cause
first_bad read texts index text cause rules within is are bad = (
  (rules, ap (map read) (take-map string_bytes index texts) ∙ are),
  slice_get-map read (map string_bytes texts) index ∙ ap (option_map read) (slice_get-map string_bytes texts index ∙ ap (option_map string_bytes) (slice_get-get_or texts index text within ∙ ap Some (sym is)))
      ∙ ap Some bad,
)
