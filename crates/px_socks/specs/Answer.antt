-- How a client is answered: its greeting (RFC 1928 section 3) by 05 and the method that is taken, or FF where none is; its request (section 6)
-- by 05, the answer, 00, and an address of type 1 that says nothing.
use Rattle.std.specs.Prelude.{ℕ, List, [], ◌∷◌}

abbrev pub method_text : ℕ → List ℕ
method_text method = 5 ∷ method ∷ []

-- the address and the port that stand in it are zeros
abbrev pub answer_text : ℕ → List ℕ
answer_text code = 5 ∷ code ∷ 0 ∷ 1 ∷ 0 ∷ 0 ∷ 0 ∷ 0 ∷ 0 ∷ 0 ∷ []
