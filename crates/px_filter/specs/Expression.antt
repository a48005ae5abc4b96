-- Expressions: an operator with its argument, a negation, all of some, any of some.
use Rattle.std.specs.Prelude.{List, [], ◌∷◌}
use Rattle.px_filter.specs.declared.tree.Test.{Test}

mutual
  pub data Expression : Type 0 where
    asked : Test → Expression
    negated : Expression → Expression
    every : Expressions → Expression
    some_of : Expressions → Expression

  pub data Expressions : Type 0 where
    no_more : Expressions
    more : Expression → Expressions → Expressions

abbrev pub row : List Expression → Expressions
row [] = no_more
row (e ∷ es) = more e (row es)

-- all of them; one alone is itself
abbrev pub all_of : List Expression → Expression
all_of (e ∷ []) = e
all_of es = every (row es)

-- any of them; one alone is itself
abbrev pub any_of : List Expression → Expression
any_of (e ∷ []) = e
any_of es = some_of (row es)
