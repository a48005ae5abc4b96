-- Telling the pieces of a head: RFC 9112 sections 2 to 5, as the grammar of `httparse` has them.
use Rattle.std.proofs.Common.{ℕ, zero, suc, ◌<◌, ◌≤◌, ◌≡◌, Bool, true, false, List, [], ◌∷◌, ◌++◌, length, refl, sym, ap, ◌∙◌, subst, arith, inl, inr, append_assoc, length-append, Option, Some, None}
use Rattle.std.specs.Prelude.{◌⊎◌}
use Rattle.std.specs.Str.{is_utf8}
use Rattle.std.specs.List.{flat_map}
use Rattle.std.specs.Char.{is_ascii_digit}
use Rattle.std.proofs.lemmas.Str.{IsUtf8-from_is_utf8, is_utf8-from_IsUtf8}
use Rattle.std.proofs.lemmas.List.Elements.{All-cons, All-nil}
use Rattle.httparse.specs.Grammar.{is_token_byte, is_uri_byte, is_value_byte, LineEnd, crlf, lf, print_end, print_blank, print_version, Field, print_field, IsField}
use Rattle.httparse.specs.Pieces.{Begins, Then, Stops, is_newline, Bytes, Newline, Blank, Word, Method, Target, Version, Digit, Code, Text, Reason, FieldLine, Section, RequestStart, ResponseStart}
use Rattle.httparse.proofs.PieceLemmas.{Bytes_deterministic, Blank_deterministic, Word_deterministic, Method_deterministic, Target_deterministic, Version_deterministic, Digit_deterministic, Code_deterministic, Name_deterministic, Stops_value, FieldLine_parts, FieldLines_push, print_field-append, space_ends_token, colon_ends_token, newline_not_stopped, print_end_unique, Section_skip, Section_line}
use Rattle.px_head.specs.Tell.{Decided, CanTell, decided_by, decided_either, decided_both, decided_test, decided_eq, decided_le, Then_tell, Where_tell, Shorter, By_length, RunOf, run_of, run_meets}

-- ---- fixed bytes and line ends

Bytes_more : (b c : ℕ) (bytes text : List ℕ) → c ≡ b → Decided (Begins (Bytes bytes) text)
    → Decided (Begins (Bytes (b ∷ bytes)) (c ∷ text))
Bytes_more b c bytes text same = decided_by (λ w. (tt, w.1, (let e = w.2 in cc))) (λ x. (tt, x.1, (let e = x.2 in cc)))

Bytes_told : (bytes text : List ℕ) → Decided (Begins (Bytes bytes) text)
Bytes_told [] text = inl (tt, text, refl)
Bytes_told (b ∷ bytes) [] = inr (λ x. let e = x.2 in cc)
Bytes_told (b ∷ bytes) (c ∷ text) = elim (decided_eq c b) [
  | inl same ↦ Bytes_more b c bytes text same (Bytes_told bytes text)
  | inr other ↦ inr (λ x. let e = x.2 in other (cc))
]

pub Bytes_tell : (bytes : List ℕ) → CanTell (Bytes bytes)
Bytes_tell bytes = record { tell = Bytes_told bytes }

newline_cases : (end : LineEnd) (text rest : List ℕ) → Newline end text rest
    → Begins (Bytes (print_end crlf)) text ⊎ Begins (Bytes (print_end lf)) text
newline_cases crlf text rest x = inl (tt, rest, x)
newline_cases lf text rest x = inr (tt, rest, x)

pub Newline_tell : CanTell Newline
Newline_tell = record {
  tell = λ text. decided_either
      (λ w. (crlf, w.1, w.2))
      (λ w. (lf, w.1, w.2))
      (λ x. newline_cases x.0 text x.1 x.2)
      (Bytes_told (print_end crlf) text)
      (Bytes_told (print_end lf) text);
}

-- ---- empty lines

blank_back : (end : LineEnd) (ends : List LineEnd) (text rest : List ℕ) → Blank ends (print_end end ++ text) rest
    → Begins Blank text
blank_back end [] text rest x = absurd (newline_not_stopped end text rest x.0 x.1)
blank_back end (other ∷ ends) text rest x = (
  ends,
  rest,
  (
    (print_end_unique end other text (print_blank ends ++ rest) (x.0 ∙ append_assoc (print_end other) (print_blank ends) rest)).1,
    x.1,
  ),
)

blank_after : (end : LineEnd) (text rest : List ℕ) → text ≡ print_end end ++ rest → Decided (Begins Blank rest)
    → Decided (Begins Blank text)
blank_after end text rest is = decided_by
    (λ w. (
      end ∷ w.0,
      w.1,
      (
        is ∙ ap (λ (t : List ℕ). print_end end ++ t) w.2.0 ∙ sym (append_assoc (print_end end) (print_blank w.0) w.1),
        w.2.1,
      ),
    ))
    (λ x. blank_back end x.0 rest x.1 (sym is ∙ x.2.0, x.2.1))

blank_first : (ends : List LineEnd) (text rest : List ℕ) → (Begins Newline text → ⊥) → Blank ends text rest
    → Stops is_newline text
blank_first [] text rest none x = subst (Stops is_newline) (sym x.0) x.1
blank_first (end ∷ ends) text rest none x =
    absurd (none (end, print_blank ends ++ rest, x.0 ∙ append_assoc (print_end end) (print_blank ends) rest))

stops_told : (test : ℕ → Bool) (text : List ℕ) → Decided (Stops test text)
stops_told test [] = inr (λ h. h)
stops_told test (b ∷ text) = decided_false (test b)
  where
    decided_false : (v : Bool) → Decided (v ≡ false)
    decided_false true = inr (λ e. cc)
    decided_false false = inl refl

length-print_end : (end : LineEnd) (rest : List ℕ) → length rest < length (print_end end ++ rest)
length-print_end crlf rest = omega arith
length-print_end lf rest = omega arith

blank_step : (text : List ℕ) → Shorter Blank text → Decided (Begins Newline text) → Decided (Begins Blank text)
blank_step text shorter (inl w) = blank_after w.0 text w.1 w.2
    (shorter w.1 (subst (λ (t : List ℕ). length w.1 < length t) (sym w.2) (length-print_end w.0 w.1)))
blank_step text shorter (inr none) = decided_by
    (λ stops. ([], text, (refl, stops)))
    (λ x. blank_first x.0 text x.1 none x.2)
    (stops_told is_newline text)

pub Blank_tell : CanTell Blank
Blank_tell = By_length Blank (λ text shorter. blank_step text shorter (Newline_tell.tell text))

-- ---- words

word_by : (test : ℕ → Bool) (stop : ℕ) → test stop ≡ false → (text : List ℕ) → RunOf test text
    → Decided (Begins (Word test stop) text)
word_by test stop ends text r = decided_by
    (λ p. (r.run, p.1.1, (p.0, r.pass, r.is ∙ ap (λ (t : List ℕ). r.run ++ t) p.1.2)))
    (λ x. let same = run_meets test text r x.0 (stop ∷ x.1) x.2.1 ends x.2.2 in
    (subst (λ (t : List ℕ). 0 < length t) (sym same.0) x.2.0, (tt, x.1, same.1)))
    (decided_both (decided_le 1 (length r.run)) (Bytes_told (stop ∷ []) r.rest))

pub Word_tell : (test : ℕ → Bool) (stop : ℕ) → test stop ≡ false → CanTell (Word test stop)
Word_tell test stop ends = record { tell = λ text. word_by test stop ends text (run_of test text) }

pub Method_tell : CanTell Method
Method_tell = Word_tell is_token_byte 32 space_ends_token

pub Target_tell : CanTell Target
Target_tell = Where_tell (Word_deterministic is_uri_byte 32 refl) (Word_tell is_uri_byte 32 refl)
    (λ target rest. decided_by (IsUtf8-from_is_utf8 target) (is_utf8-from_IsUtf8 target) (decided_test (is_utf8 target)))

-- ---- versions and codes

version_cases : (minor : ℕ) (text rest : List ℕ) → minor ≤ 1 → text ≡ print_version minor ++ rest
    → Begins (Bytes (print_version 0)) text ⊎ Begins (Bytes (print_version 1)) text
version_cases zero text rest low is = inl (tt, rest, is)
version_cases (suc zero) text rest low is = inr (tt, rest, is)
version_cases (suc (suc n)) text rest low is = absurd (omega arith)

pub Version_tell : CanTell Version
Version_tell = record {
  tell = λ text. decided_either
      (λ w. (0, w.1, (omega arith, w.2)))
      (λ w. (1, w.1, (omega arith, w.2)))
      (λ x. version_cases x.0 text x.1 x.2.0 x.2.1)
      (Bytes_told (print_version 0) text)
      (Bytes_told (print_version 1) text);
}

digit_told : (text : List ℕ) → Decided (Begins Digit text)
digit_told [] = inr (λ x. let e = x.2.1 in cc)
digit_told (d ∷ text) = decided_by
    (λ passes. (d, text, (passes, refl)))
    (λ x. let same : d ≡ x.0 = (let e = x.2.1 in cc) in subst (λ (v : ℕ). is_ascii_digit v ≡ true) (sym same) x.2.0)
    (decided_test (is_ascii_digit d))

pub Digit_tell : CanTell Digit
Digit_tell = record { tell = digit_told }

pub Code_tell : CanTell Code
Code_tell = Then_tell Digit_deterministic Digit_tell (Then_tell Digit_deterministic Digit_tell Digit_tell)

-- ---- values and reasons

text_by : (text : List ℕ) → RunOf is_value_byte text → Decided (Begins Text text)
text_by text r = decided_by
    (λ w. ((r.run, w.0), w.1, (r.pass, r.is ∙ ap (λ (t : List ℕ). r.run ++ t) w.2)))
    (λ x. let same = run_meets is_value_byte text r x.0.0 (print_end x.0.1 ++ x.1) x.2.0 (Stops_value x.0.1 x.1) x.2.1 in
    (x.0.1, x.1, same.1))
    (Newline_tell.tell r.rest)

pub Text_tell : CanTell Text
Text_tell = record { tell = λ text. text_by text (run_of is_value_byte text) }

reason_cases : (r : Option (List ℕ) × LineEnd) (text rest : List ℕ) → Reason r text rest
    → Begins (Then (Bytes (32 ∷ [])) Text) text ⊎ Begins Newline text
reason_cases r = go r.0 r.1
  where
    go : (phrase : Option (List ℕ)) (end : LineEnd) (text rest : List ℕ) → Reason (phrase, end) text rest
        → Begins (Then (Bytes (32 ∷ [])) Text) text ⊎ Begins Newline text
    go None end text rest x = inr (end, rest, x.1)
    go (Some phrase) end text rest x = inl ((tt, (phrase, end)), rest, (phrase ++ (print_end end ++ rest), x.1, (x.0, refl)))

pub Reason_tell : CanTell Reason
Reason_tell = record {
  tell = λ text. decided_either
      (λ w. ((Some w.0.1.0, w.0.1.1), w.1, (w.2.2.0, w.2.1 ∙ ap (λ (t : List ℕ). 32 ∷ t) w.2.2.1)))
      (λ w. ((None, w.0), w.1, (All-nil (λ b. is_value_byte b ≡ true), w.2)))
      (λ x. reason_cases x.0 text x.1 x.2)
      ((Then_tell (Bytes_deterministic (32 ∷ [])) (Bytes_tell (32 ∷ [])) Text_tell).tell text)
      (Newline_tell.tell text);
}

-- ---- field lines and sections

abbrev field_of : List ℕ × (List ℕ × LineEnd) → Field
field_of t = record { name = t.0; raw = t.1.0; end = t.1.1 }

field_from : (t : List ℕ × (List ℕ × LineEnd)) (text rest : List ℕ)
    → Then (Word is_token_byte 58) Text t text rest → FieldLine (field_of t) text rest
field_from t text rest x = (
  record { name = (x.1.0, x.1.1); raw = x.2.0 },
  x.1.2 ∙ ap (λ (m : List ℕ). t.0 ++ 58 ∷ m) x.2.1 ∙ sym (print_field-append (field_of t) rest),
)

pub FieldLine_tell : CanTell FieldLine
FieldLine_tell = record {
  tell = λ text. decided_by
      (λ w. (field_of w.0, w.1, field_from w.0 text w.1 w.2))
      (λ x. ((x.0.name, (x.0.raw, x.0.end)), x.1, FieldLine_parts x.0 text x.1 x.2))
      ((Then_tell Name_deterministic (Word_tell is_token_byte 58 colon_ends_token) Text_tell).tell text);
}

section_cons : (f : Field) (s : List Field × LineEnd) (text middle rest : List ℕ) → FieldLine f text middle
    → Section s middle rest → Section (f ∷ s.0, s.1) text rest
section_cons f s text middle rest line x = (
  All-cons IsField f s.0 line.0 x.0,
  line.1 ∙ ap (λ (t : List ℕ). print_field f ++ t) x.1
      ∙ regroup (print_field f) (flat_map print_field s.0) (print_end s.1) rest,
)
  where
    regroup : (a b c d : List ℕ) → a ++ ((b ++ c) ++ d) ≡ ((a ++ b) ++ c) ++ d
    regroup a b c d = simp append_assoc

section_after : (f : Field) (text middle : List ℕ) → FieldLine f text middle → Decided (Begins Section middle)
    → Decided (Begins Section text)
section_after f text middle line = decided_by
    (λ w. ((f ∷ w.0.0, w.0.1), w.1, section_cons f w.0 text middle w.1 line w.2))
    (λ x. let skipped = Section_skip (f ∷ []) x.0.0 x.0.1 text middle x.1
    (FieldLines_push [] f text text middle (All-nil IsField, refl) line) x.2 in
    ((skipped.0, x.0.1), x.1, skipped.2))

field_shorter : (f : Field) (text middle : List ℕ) → FieldLine f text middle → length middle < length text
field_shorter f text middle line =
    let some = line.0.name.0 in
    let e : length text ≡ length (f.name ++ 58 ∷ (f.raw ++ (print_end f.end ++ middle))) =
    ap (λ (t : List ℕ). length t) (line.1 ∙ print_field-append f middle) in
    let below = length-print_end f.end middle in
    let a = length-append f.name (58 ∷ (f.raw ++ (print_end f.end ++ middle))) in
    let b = length-append f.raw (print_end f.end ++ middle) in
    omega arith

section_step : (text : List ℕ) → Shorter Section text → Decided (Begins Newline text)
    → Decided (Begins FieldLine text) → Decided (Begins Section text)
section_step text shorter (inl w) line = inl (([], w.0), w.1, (All-nil IsField, w.2))
section_step text shorter (inr none) (inl w) =
    section_after w.0 text w.1 w.2 (shorter w.1 (field_shorter w.0 text w.1 w.2))
section_step text shorter (inr none) (inr nor) =
    inr (λ x. elim (Section_line x.0 text x.1 x.2) [ inl end ↦ none end | inr line ↦ nor line ])

pub Section_tell : CanTell Section
Section_tell = By_length Section (λ text shorter. section_step text shorter (Newline_tell.tell text) (FieldLine_tell.tell text))

-- ---- start lines

pub RequestStart_tell : CanTell RequestStart
RequestStart_tell = Then_tell Blank_deterministic Blank_tell (Then_tell Method_deterministic Method_tell
    (Then_tell Target_deterministic Target_tell (Then_tell Version_deterministic Version_tell Newline_tell)))

pub ResponseStart_tell : CanTell ResponseStart
ResponseStart_tell = Then_tell Blank_deterministic Blank_tell (Then_tell Version_deterministic Version_tell
    (Then_tell (Bytes_deterministic (32 ∷ [])) (Bytes_tell (32 ∷ [])) (Then_tell Code_deterministic Code_tell Reason_tell)))
