-- Worked rows: what is sent of bodies as they come, and which are streamed.
use Rattle.std.specs.Prelude.{◌≡◌, ℕ, Bool, true, false, List, [], ◌∷◌, ◌++◌, codes, map, Option, Some, None}
use Prim.Native.String.{String}
use Rattle.px_message.specs.declared.length.Length.{Length}
use Rattle.px_message.specs.declared.length.Length.TheVariants as lengths
use Rattle.px_message.specs.declared.fault.Fault.TheVariants.{BadChunk}
use Rattle.px_read.specs.Chunks.{Reading, goes_on, whole, fails}
use Rattle.px_read.specs.Marks.{Mark, begins, byte, ends}
use Rattle.px_parts.specs.Streamed.{is_streamed, response_is_streamed}
use Rattle.px_parts.specs.Texts.{behind_text}

abbrev pub in_chunks : List (List ℕ × List ℕ)
in_chunks = (codes "transfer-encoding", codes "gzip, Chunked") ∷ []

abbrev pub by_length : List (List ℕ × List ℕ)
by_length = (codes "Content-Length", codes "3") ∷ []

abbrev pub no_fields : List (List ℕ × List ℕ)
no_fields = []

abbrev pub said : List ℕ → List Mark
said content = map byte content

-- the definition says each row's answer of its input
abbrev pub Hold : {A B : Type 0} → (A → B) → List (A × B) → Type 0
Hold says rows = map (λ row. says row.0) rows ≡ map (λ row. row.1) rows

abbrev pub reading : List Mark → List (List ℕ × List ℕ) → Reading
reading marks trailers = record { marks = marks; finish = whole trailers 99 }

abbrev pub so_far : List Mark → Reading
so_far marks = record { marks = marks; finish = goes_on }

abbrev pub refused : List Mark → Reading
refused marks = record { marks = marks; finish = fails BadChunk }

-- fields, and what was read behind them
pub record Behind : Type 0 where
  pub fields : List (List ℕ × List ℕ)
  pub read : Reading

abbrev pub sent : Behind → List ℕ
sent come = behind_text come.fields come.read

abbrev told : List (List ℕ × List ℕ) → Reading → String → Behind × List ℕ
told fields read text = (record { fields = fields; read = read }, codes text)

-- what is sent of them
abbrev pub sent_rows : List (Behind × List ℕ)
sent_rows =
    told in_chunks (so_far (begins 3 ∷ [])) "3\r\n"
    ∷ told in_chunks (so_far (begins 3 ∷ said (codes "ab"))) "3\r\nab"
    ∷ told in_chunks (so_far (begins 3 ∷ said (codes "abc"))) "3\r\nabc"
    ∷ told in_chunks (so_far (begins 3 ∷ said (codes "abc") ++ ends ∷ [])) "3\r\nabc\r\n"
    ∷ told in_chunks (reading (begins 3 ∷ said (codes "abc") ++ ends ∷ []) []) "3\r\nabc\r\n0\r\n\r\n"
    ∷ told in_chunks (reading [] []) "0\r\n\r\n"
    ∷ told in_chunks (reading [] ((codes "X", codes "1") ∷ [])) "0\r\nX: 1\r\n\r\n"
    ∷ told in_chunks (so_far (begins 171 ∷ [])) "ab\r\n"
    ∷ told in_chunks (refused (begins 1 ∷ said (codes "a"))) "1\r\na"
    ∷ told by_length (so_far (said (codes "ab"))) "ab"
    ∷ told by_length (reading (said (codes "abc")) []) "abc"
    ∷ told no_fields (reading (said (codes "abc")) []) "abc"
    ∷ []

-- a length, the size that is allowed, and how many bytes were heard
pub record Case : Type 0 where
  pub long : Length
  pub allowed : Option ℕ
  pub heard : ℕ

abbrev pub judged : Case → Bool
judged case_of = is_streamed case_of.long case_of.allowed case_of.heard

abbrev row : Length → Option ℕ → ℕ → Bool → Case × Bool
row long allowed heard answer = (record { long = long; allowed = allowed; heard = heard }, answer)

-- whether the body is streamed
abbrev pub judged_rows : List (Case × Bool)
judged_rows =
    row (lengths.Bytes 4) (Some 3) 0 true
    ∷ row (lengths.Bytes 3) (Some 3) 3 false
    ∷ row (lengths.Bytes 4) None 4 false
    ∷ row lengths.Chunked (Some 3) 3 false
    ∷ row lengths.Chunked (Some 3) 4 true
    ∷ row lengths.Chunked (Some 0) 0 false
    ∷ row lengths.ToClose (Some 0) 1 true
    ∷ row lengths.ToClose None 1 false
    ∷ row lengths.None (Some 0) 0 false
    ∷ []

-- the code with which a response in chunks is sent, to HEAD or not, where nothing may be kept and a byte came
abbrev pub of_code : ℕ × Bool → Bool
of_code asked = response_is_streamed asked.0 asked.1 lengths.Chunked (Some 0) 1

abbrev pub code_rows : List ((ℕ × Bool) × Bool)
code_rows = ((200, false), true) ∷ ((204, false), false) ∷ ((304, false), false) ∷ ((200, true), false) ∷ []
