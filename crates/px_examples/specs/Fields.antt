-- Changes of fields, which stand one a line, and the elements of their values.
use Rattle.std.specs.Prelude.{ℕ, Bool, true, false, List, [], ◌∷◌}
use Rattle.px_examples.specs.Rows.{◌gives◌, fields}

-- `A: 2` is added
abbrev pub added : List (List ℕ × List (List ℕ × List ℕ))
added =
    "A: 1" gives fields "A: 1\nA: 2"
    ∷ []

-- `A` is taken away
abbrev pub removed : List (List ℕ × List (List ℕ × List ℕ))
removed =
    "a: 1\nB: 2\nA: 3\nX-A: 4" gives fields "B: 2\nX-A: 4"
    ∷ []

-- `A` is set to `2`
abbrev pub set : List (List ℕ × List (List ℕ × List ℕ))
set =
    "A: 1\nB: x\na: 3" gives fields "A: 2\nB: x"
    ∷ "B: x\na: 1\nC: z\nA: 3\nb: y" gives fields "B: x\nA: 2\nC: z\nb: y"
    ∷ "B: x" gives fields "B: x\nA: 2"
    ∷ []

-- whether the lists of the fields `Connection` have the element `close`
abbrev pub closing : List (List ℕ × Bool)
closing =
    "connection: cLoSe" gives true
    ∷ "Connection: keep-alive\t ,\t close \t,x" gives true
    ∷ "Connection: ,,close," gives true
    ∷ "Connection: a\nX: b\nCONNECTION: close" gives true
    ∷ "Connection: a\nX: close" gives false
    ∷ "Connection: closed, clos, keep-close" gives false
    ∷ "Connection: close;q=1" gives false
    ∷ []

-- whether they have an empty one
abbrev pub empty : List (List ℕ × Bool)
empty =
    "Connection: , ,\t" gives false
    ∷ []

-- the request asks for no answer that is kept
abbrev pub uncached : List (List ℕ × List (List ℕ × List ℕ))
uncached =
    "A: 1\nIf-None-Match: x\nif-modified-since: y\nIF-NONE-MATCH: z" gives fields "A: 1"
    ∷ "A: 1" gives fields "A: 1"
    ∷ []

-- the request asks for a body without a coding
abbrev pub uncoded : List (List ℕ × List (List ℕ × List ℕ))
uncoded =
    "" gives fields "Accept-Encoding: identity"
    ∷ "A: 1\naccept-encoding: gzip\nB: 2\nAccept-Encoding: br" gives fields "A: 1\nAccept-Encoding: identity\nB: 2"
    ∷ []
