-- The texts of the rules of generated runs are rules, and what is read of a list that has one rule.
use Rattle.std.proofs.Common.{◌≡◌, ◌⊎◌, ℕ, zero, suc, List, [], ◌∷◌, map, Some, Result, Ok, Err, codes, refl, sym, ap, ◌∙◌, inl, inr}
use Rattle.std.specs.Prelude.{slice_get}
use Rattle.httparse.specs.Grammar.{is_token_byte}
use Rattle.regex.proofs.OnLiterals.{regex_on_literals}
use Rattle.px_rule.specs.Rule.{AreRules, IsFirstBad, Rule, body_rule, header_rule}
use Rattle.px_rule.specs.declared.cause.RuleCause.{RuleCause}
use Rattle.px_rule.specs.declared.cause.RuleCause.TheVariants.{NoMemory}
use Rattle.px_gen.specs.Rules.{letter_rule, size_rule}

pub size_text_is_rule : header_rule (codes "/X-Size/") ≡ Ok size_rule
unfolding regex_on_literals is_token_byte
size_text_is_rule = refl

pub letter_text_is_rule : body_rule (codes "/a/bb") ≡ Ok letter_rule
unfolding regex_on_literals
letter_text_is_rule = refl

-- ---- a list of one text

one_rule : (list : List (Result Rule RuleCause)) (rule : Rule) (rules : List Rule) → list ≡ Ok rule ∷ [] → list ≡ map Ok rules → rules ≡ rule ∷ []
one_rule list rule [] one are = absurd (cc)
one_rule list rule (first ∷ []) one are = cc
one_rule list rule (first ∷ second ∷ rest) one are = absurd (cc)

pub read_as : (read : List ℕ → Result Rule RuleCause) (texts : List (List ℕ)) (text : List ℕ) (rule : Rule) (rules : List Rule) →
    texts ≡ text ∷ [] → read text ≡ Ok rule → AreRules read texts rules → rules ≡ rule ∷ []
read_as read texts text rule rules one is are =
    one_rule (map read texts) rule rules (ap (map read) one ∙ ap (λ r. r ∷ []) is) are

none_bad : (rule : Rule) (index : ℕ) (cause : RuleCause) → slice_get (Ok rule ∷ []) index ≡ Some (Err cause) → ⊥
none_bad rule zero cause is = cc
none_bad rule (suc index) cause is = cc

pub refused_for_memory : (read : List ℕ → Result Rule RuleCause) (texts : List (List ℕ)) (text : List ℕ) (rule : Rule) (index : ℕ) (cause : RuleCause) →
    texts ≡ text ∷ [] → read text ≡ Ok rule → (cause ≡ NoMemory) ⊎ IsFirstBad read texts index cause → cause ≡ NoMemory
refused_for_memory read texts text rule index cause one is refused = elim refused [
  | inl memory ↦ memory
  | inr bad ↦
      absurd (none_bad rule index cause (ap (λ list. slice_get list index) (ap (λ r. r ∷ []) (sym is) ∙ ap (map read) (sym one)) ∙ bad.1))
]
