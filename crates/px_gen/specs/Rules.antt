-- The rules of generated runs.
use Rattle.std.specs.Prelude.{List, [], ◌∷◌, None, codes}
use Rattle.px_rule.specs.Rule.{Rule}

-- on every message: the field X-Size is taken away
abbrev pub size_rule : Rule
size_rule = record { filter = None; subject = codes "X-Size"; replacement = [] }

-- on every body: `bb` is put in the place of each `a`
abbrev pub letter_rule : Rule
letter_rule = record { filter = None; subject = codes "a"; replacement = codes "bb" }

abbrev pub generator_headers : List Rule
generator_headers = size_rule ∷ []

abbrev pub generator_bodies : List Rule
generator_bodies = letter_rule ∷ []
