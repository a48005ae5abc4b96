-- The grammar, as a relation between the tokens of a text and its expression. The depth is how many `!` and `(` may stand
-- inside one another.
--
--     expression = choice { choice }     side by side is "and", and binds least
--     choice     = both { "|" both }
--     both       = unary { "&" unary }
--     unary      = "!" unary | "(" expression ")" | operator [ argument ] | word
use Rattle.std.specs.Prelude.{◌≡◌, ℕ, suc, true, List, [], ◌∷◌, ◌++◌, Some}
use Rattle.px_filter.specs.Expression.{Expression, asked, negated, all_of, any_of}
use Rattle.px_filter.specs.Pattern.{is_pattern}
use Rattle.px_filter.specs.Reading.{code_of, most_deep}
use Rattle.px_filter.specs.Tokens.{tokens_of}
use Rattle.px_filter.specs.declared.operator.Argued.TheVariants as argued
use Rattle.px_filter.specs.declared.operator.Fact.{Fact}
use Rattle.px_filter.specs.declared.operator.Operator.TheVariants as operators
use Rattle.px_filter.specs.declared.operator.Part.{Part}
use Rattle.px_filter.specs.declared.operator.Part.TheVariants as parts
use Rattle.px_filter.specs.declared.token.Token.{Token}
use Rattle.px_filter.specs.declared.token.Token.TheVariants as token
use Rattle.px_filter.specs.declared.token.Placed.{Placed}
use Rattle.px_filter.specs.declared.tree.Test.TheVariants as tests

-- a token, wherever it stands
abbrev pub at : ℕ → Token → Placed
at place kind = record { place = place; token = kind }

mutual
  pub data IsUnary : ℕ → List Placed → Expression → Type 0 where
    negation : {depth place : ℕ} {ts : List Placed} {e : Expression} → IsUnary depth ts e →
        IsUnary (suc depth) (at place token.Not ∷ ts) (negated e)
    group : {depth place : ℕ} {ts : List Placed} {es : List Expression} (behind : ℕ) → IsChoices depth ts es →
        IsUnary (suc depth) (at place token.Open ∷ (ts ++ (at behind token.Close ∷ []))) (all_of es)
    alone : {depth place : ℕ} {fact : Fact} →
        IsUnary depth (at place (token.Operator (Some (operators.Alone fact))) ∷ []) (asked (tests.Fact fact))
    status : {depth place behind code : ℕ} {word : List ℕ} → code_of word ≡ Some code →
        IsUnary depth (at place (token.Operator (Some (operators.Argued argued.Code))) ∷ at behind (token.Word word) ∷ []) (asked (tests.Code code))
    sought : {depth place behind : ℕ} {part : Part} {word : List ℕ} → is_pattern word ≡ true →
        IsUnary depth (at place (token.Operator (Some (operators.Argued (argued.Part part)))) ∷ at behind (token.Word word) ∷ [])
        (asked (tests.Part part word))
    bare : {depth place : ℕ} {word : List ℕ} → is_pattern word ≡ true →
        IsUnary depth (at place (token.Word word) ∷ []) (asked (tests.Part parts.Url word))

  pub data IsBoth : ℕ → List Placed → List Expression → Type 0 where
    one_unary : {depth : ℕ} {ts : List Placed} {e : Expression} → IsUnary depth ts e → IsBoth depth ts (e ∷ [])
    more_unaries : {depth : ℕ} {ts us : List Placed} {e : Expression} {es : List Expression} (place : ℕ) → IsUnary depth ts e →
        IsBoth depth us es → IsBoth depth (ts ++ (at place token.And ∷ us)) (e ∷ es)

  pub data IsChoice : ℕ → List Placed → List Expression → Type 0 where
    one_both : {depth : ℕ} {ts : List Placed} {es : List Expression} → IsBoth depth ts es → IsChoice depth ts (all_of es ∷ [])
    more_boths : {depth : ℕ} {ts us : List Placed} {es fs : List Expression} (place : ℕ) → IsBoth depth ts es → IsChoice depth us fs →
        IsChoice depth (ts ++ (at place token.Or ∷ us)) (all_of es ∷ fs)

  pub data IsChoices : ℕ → List Placed → List Expression → Type 0 where
    one_choice : {depth : ℕ} {ts : List Placed} {es : List Expression} → IsChoice depth ts es → IsChoices depth ts (any_of es ∷ [])
    more_choices : {depth : ℕ} {ts us : List Placed} {es fs : List Expression} → IsChoice depth ts es → IsChoices depth us fs →
        IsChoices depth (ts ++ us) (any_of es ∷ fs)

-- the text is this expression
abbrev pub IsFilter : List ℕ → Expression → Type 0
IsFilter text e = (es : List Expression) × IsChoices most_deep (tokens_of text) es × (e ≡ all_of es)
