-- Telling the pieces of a chunk line: RFC 9112 section 7.1, as the grammar of `httparse` has them.
use Rattle.std.proofs.Common.{ℕ, ◌≤◌, ◌<◌, Bool, List, [], ◌∷◌, ◌++◌, length, refl, sym, ap, ◌∙◌, subst, inl, inr, Option, Some, None}
use Rattle.std.specs.Prelude.{◌⊎◌}
use Rattle.std.specs.Char.{is_ascii_hexdigit}
use Rattle.httparse.specs.Grammar.{is_ows, is_extension_byte, crlf, print_end}
use Rattle.httparse.specs.Pieces.{Begins, Then, Stops, Bytes, Run, HexDigits, Extension, Chunk}
use Rattle.httparse.proofs.PieceLemmas.{Bytes_deterministic}
use Rattle.httparse.proofs.ChunkLemmas.{Run_deterministic, HexDigits_deterministic}
use Rattle.px_head.specs.Tell.{Decided, CanTell, decided_by, decided_either, decided_both, decided_le, Then_tell, Where, Where_tell, RunOf, run_of, run_meets}
use Rattle.px_head.specs.TellPieces.{Bytes_tell}

-- ---- runs that end before another byte

run_by : (test : ℕ → Bool) (text : List ℕ) → RunOf test text → Decided (Begins (Run test) text)
run_by test text r = elim r.stops [
  | inl stops ↦ inl (r.run, r.rest, (r.pass, r.is, stops))
  | inr none ↦ inr (λ x.
      let same = run_meets test text r x.0 x.1 x.2.0 x.2.2 x.2.1 in
      subst (Stops test) (sym same.1 ∙ none) x.2.2)
]

pub Run_tell : (test : ℕ → Bool) → CanTell (Run test)
Run_tell test = record { tell = λ text. run_by test text (run_of test text) }

HexDigits_few : CanTell (Where (Run is_ascii_hexdigit) (λ digits rest. (0 < length digits) × (length digits ≤ 16)))
HexDigits_few = Where_tell (Run_deterministic is_ascii_hexdigit) (Run_tell is_ascii_hexdigit)
    (λ digits rest. decided_both (decided_le 1 (length digits)) (decided_le (length digits) 16))

pub HexDigits_tell : CanTell HexDigits
HexDigits_tell = record {
  tell = λ text. decided_by
      (λ w. (w.0, w.1, (w.2.0, w.2.1.0, w.2.1.1)))
      (λ x. (x.0, x.1, (x.2.0, (x.2.1, x.2.2))))
      (HexDigits_few.tell text);
}

-- ---- the extension and the end of the line

extension_cases : (e : Option (List ℕ)) (text rest : List ℕ) → Extension e text rest
    → Begins (Bytes (print_end crlf)) text
    ⊎ Begins (Then (Bytes (59 ∷ [])) (Then (Run is_extension_byte) (Bytes (print_end crlf)))) text
extension_cases None text rest x = inl (tt, rest, x.1)
extension_cases (Some e) text rest x =
    inr ((tt, (e, tt)), rest, (e ++ (print_end crlf ++ rest), x.1, (print_end crlf ++ rest, (x.0, refl, refl), refl)))

pub Extension_tell : CanTell Extension
Extension_tell = record {
  tell = λ text. decided_either
      (λ w. (None, w.1, (tt, w.2)))
      (λ w. (
        Some w.0.1.0,
        w.1,
        (
          w.2.2.1.0,
          w.2.1 ∙ ap (λ (t : List ℕ). 59 ∷ t) (w.2.2.1.1 ∙ ap (λ (t : List ℕ). w.0.1.0 ++ t) w.2.2.2),
        ),
      ))
      (λ x. extension_cases x.0 text x.1 x.2)
      ((Bytes_tell (print_end crlf)).tell text)
      ((Then_tell (Bytes_deterministic (59 ∷ [])) (Bytes_tell (59 ∷ []))
      (Then_tell (Run_deterministic is_extension_byte) (Run_tell is_extension_byte) (Bytes_tell (print_end crlf)))).tell
      text);
}

-- ---- the line

pub Chunk_tell : CanTell Chunk
Chunk_tell = Then_tell HexDigits_deterministic HexDigits_tell
    (Then_tell (Run_deterministic is_ows) (Run_tell is_ows) Extension_tell)
