-- What the stage of a chunk line makes of its bytes.
use Rattle.std.proofs.Common.{ℕ, zero, suc, ◌+◌, ◌<◌, ◌≤◌, ◌≡◌, ◌≢◌, true, false, List, [], ◌∷◌, ◌++◌, length, take, drop, get_or, refl, sym, ap, ◌∙◌, subst, arith, inl, inr, Option, Some, None, append_assoc, append-nil, length-append}
use Rattle.std.specs.Prelude.{◌==◌, nat_lt, position, Result, Ok}
use Rattle.std.specs.List.{position_or_len}
use Rattle.std.proofs.lemmas.Bool.Decides.{eqb_tells}
use Rattle.std.proofs.lemmas.List.{length-take-le, drop_all, get_or-take}
use Rattle.std.proofs.lemmas.List.Elements.{All-from_get_or}
use Rattle.std.proofs.lemmas.List.Sums.{fails_before_first}
use Rattle.std.proofs.lemmas.Bool.{ltb-false, false_from_ne_true}
use Rattle.std.proofs.lemmas.Grind.{common_steps}
use Rattle.std.proofs.lemmas.List.Quantifiers.{position-Some}
use Rattle.std.proofs.Math.Seq.{take-suc}
use Rattle.httparse.specs.Grammar.{ChunkLine, HasNoChunkLine, NeverHasChunkLine, print_chunk_line, ReadsChunkLine}
use Rattle.httparse.specs.Spans.{IsChunkLineAt}
use Rattle.httparse.proofs.ChunkLemmas.{chunk_line_unique}
use Rattle.px_read.specs.ChunkLine.{size_in}
use Rattle.px_read.specs.Chunks.{in_line, in_content, in_trailers, silent, behind_size, hear_all}
use Rattle.px_read.specs.ChunkSteps.{IsRefusal}
use Rattle.px_read.specs.ChunkTurns.{IsTurn, Turns, line_turn}
use Rattle.px_head.specs.Reader.{Reader, new_reader}
use Rattle.px_read.specs.declared.chunk_reader.ChunkError.{ChunkError}
use Rattle.px_read.specs.declared.chunk_reader.stage.ChunkStage.TheVariants as stage
use Rattle.px_read.specs.declared.chunk_reader.stage.ChunkTurn.{ChunkTurn}
use Rattle.px_read.specs.declared.part.ChunkPart.TheVariants as chunk_part
use Rattle.px_read.proofs.HearLemmas.{waits_on}
use Rattle.px_read.proofs.SizeLemmas.{IsUnbroken, size_in-Some, size_in-None, line_heard, line_over, line_ended}
use Rattle.px_read.proofs.TurnLemmas.{refused_at}

-- ---- the size, as httparse answers it

-- a line that is read whole
pub size_found : (line : List ℕ) (end size : ℕ) (l : ChunkLine) → IsChunkLineAt line end size l → end ≡ length line
    → length line ≤ 1024 → Some size ≡ size_in line
size_found line end size l at is short =
    let rest : drop end line ≡ [] = drop_all end line (omega arith) in
    let reads = subst (λ (r : List ℕ). ReadsChunkLine line l r) rest at.reads in
    ap (λ (n : ℕ). Some n) at.size_is ∙ sym (size_in-Some line l (reads, short))

-- a line with bytes behind it
pub size_longer : (line : List ℕ) (end size : ℕ) (l : ChunkLine) → IsChunkLineAt line end size l → end ≢ length line
    → None ≡ size_in line
size_longer line end size l at differs = sym (size_in-None line (λ k x.
    let same = chunk_line_unique line l k (drop end line) [] at.reads x.0 in
    let whole : line ≡ print_chunk_line l = at.reads.1 ∙ ap (λ (r : List ℕ). print_chunk_line l ++ r) same.1 ∙ append-nil (print_chunk_line l) in
    differs (at.len_is ∙ sym (ap (λ (t : List ℕ). length t) whole))))

pub size_missing : (line : List ℕ) → HasNoChunkLine line → None ≡ size_in line
size_missing line none = sym (size_in-None line (λ k x. none k [] x.0))

pub size_invalid : (line : List ℕ) → NeverHasChunkLine line → None ≡ size_in line
size_invalid line never = sym (size_in-None line (λ k x.
    never [] k [] (subst (λ (t : List ℕ). ReadsChunkLine t k []) (sym (append-nil line)) x.0)))

-- ---- the stage behind a line

pub turn_zero : (used : ℕ) (size : Option ℕ) (reader : Reader) → size ≡ Some 0 → reader ≡ new_reader
    → Ok (record { used = used; part = None; stage = stage.Trailers reader }) ≡ line_turn used size
turn_zero used size reader is new =
    ap (λ (r : Reader). trailers_turn r) new ∙ sym (ap (λ (o : Option ℕ). line_turn used o) is)
  where
    trailers_turn : Reader → Result ChunkTurn ChunkError
    trailers_turn r = Ok (record { used = used; part = None; stage = stage.Trailers r })

pub turn_some : (used : ℕ) (size : Option ℕ) (n : ℕ) → size ≡ Some n → n ≢ 0
    → Ok (record { used = used; part = Some (chunk_part.Size n); stage = stage.Content n }) ≡ line_turn used size
turn_some used size zero is some = absurd (some refl)
turn_some used size (suc n) is some = sym (ap (λ (o : Option ℕ). line_turn used o) is)

-- what a whole line makes of the body
line_turns : (line bytes : List ℕ) (used : ℕ) (size : Option ℕ) → hear_all (in_line line) (take used bytes) ≡ behind_size size
    → 0 < used → used ≤ length bytes → Turns (in_line line) bytes [] (line_turn used size)
line_turns line bytes used None heard some within = refused_at (in_line line) used bytes heard
line_turns line bytes used (Some zero) heard some within = record {
  some = some;
  within = within;
  stage = (refl, refl, refl);
  gives = (in_trailers [], heard, refl, waits_on [] refl);
}
line_turns line bytes used (Some (suc left)) heard some within = record {
  some = some;
  within = within;
  stage = refl;
  gives = ((in_content left, heard, refl, refl), tt);
}

-- ---- up to an LF

not_lf : (b : ℕ) → (b == 10) ≡ false → b ≢ 10
not_lf b other is = elim (eqb_tells b 10) [ inl t ↦ (let e = sym t.0 ∙ other in cc) | inr f ↦ f.1 is ]

is_lf : (b : ℕ) → (b == 10) ≡ true → b ≡ 10
is_lf b same = elim (eqb_tells b 10) [ inl t ↦ t.1 | inr f ↦ absurd (let e = sym f.0 ∙ same in cc) ]

unbroken_before : (near : List ℕ) (end : ℕ) → end ≤ length near → ((k : ℕ) → k < end → (get_or near k 0 == 10) ≡ false)
    → IsUnbroken (take end near)
unbroken_before near end fits before = All-from_get_or (λ b. b ≢ 10) (take end near) 0 (λ i inside.
    let size = length-take-le end near fits in
    let below : i < end = omega arith in
    subst (λ (b : ℕ). b ≢ 10) (sym (get_or-take end near i 0 below)) (not_lf (get_or near i 0) (before i below)))

unbroken_all : (near : List ℕ) → position (λ b. b == 10) near ≡ None → IsUnbroken near
unbroken_all near none = All-from_get_or (λ b. b ≢ 10) near 0 (λ i inside.
    let over : nat_lt (position_or_len (λ b. b == 10) near) (length near) ≡ false =
    false_from_ne_true _ (λ h. let e : Some (position_or_len (λ b. b == 10) near) ≡ None = rw h at none in cc) in
    let past : length near ≤ position_or_len (λ b. b == 10) near = ltb-false _ _ over in
    not_lf (get_or near i 0) (fails_before_first (λ b. b == 10) near i 0 (omega arith)))

-- the line up to its LF
up_to : (near : List ℕ) (end : ℕ) → end < length near → get_or near end 0 ≡ 10 → take (end + 1) near ≡ take end near ++ 10 ∷ []
up_to near end inside is =
    let next : end + 1 ≡ suc end = omega arith in
    ap (λ (n : ℕ). take n near) next ∙ take-suc near end 0 inside ∙ ap (λ (b : ℕ). take end near ++ b ∷ []) is

nearer : (n m : ℕ) (bytes : List ℕ) → m ≤ n → take m (take n bytes) ≡ take m bytes
nearer n m bytes fits = grind (arith, common_steps)

pub line_taken : (line bytes : List ℕ) (n end : ℕ) (all new : List ℕ) (result : Result ChunkTurn ChunkError) → n ≤ length bytes
    → length line + n ≤ 1024 → position (λ b. b == 10) (take n bytes) ≡ Some end → all ≡ line ++ take (end + 1) (take n bytes)
    → result ≡ line_turn (end + 1) (size_in all) → new ≡ [] → Turns (in_line line) bytes new result
line_taken line bytes n end all new result within room found is turn empty =
    let near = take n bytes in
    let at = position-Some (λ b. b == 10) near end 0 found in
    let inside = at.0 in
    let size = length-take-le n bytes within in
    let text = take end near in
    let short = length-take-le end near (omega arith) in
    let total = length-append line text in
    let front = up_to near end inside (is_lf (get_or near end 0) at.1) in
    let unbroken = unbroken_before near end (omega arith) at.2 in
    let whole : all ≡ (line ++ text) ++ 10 ∷ [] = is ∙ ap (λ (t : List ℕ). line ++ t) front ∙ sym (append_assoc line text (10 ∷ [])) in
    let heard : hear_all (in_line line) (take (end + 1) bytes) ≡ behind_size (size_in all) =
    ap (λ (t : List ℕ). hear_all (in_line line) t) (sym (nearer n (end + 1) bytes (omega arith)) ∙ front)
    ∙ line_ended line text unbroken (omega arith)
    ∙ ap (λ (t : List ℕ). behind_size (size_in t)) (sym whole) in
    subst (λ (l : List ℕ). Turns (in_line line) bytes l result) (sym empty)
    (subst (λ (r : Result ChunkTurn ChunkError). Turns (in_line line) bytes [] r) (sym turn)
    (line_turns line bytes (end + 1) (size_in all) heard (omega arith) (omega arith)))

-- a line without an LF that is full
pub line_full : (line bytes : List ℕ) (n : ℕ) → length line < 1024 → n ≤ length bytes → length line + n ≡ 1024
    → position (λ b. b == 10) (take n bytes) ≡ None → IsRefusal (in_line line) bytes
line_full line bytes n short within full none =
    let size = length-take-le n bytes within in
    let total = length-append line (take n bytes) in
    refused_at (in_line line) n bytes (line_over line (take n bytes) (unbroken_all (take n bytes) none) short (omega arith))

-- one that goes on
pub line_goes : (line bytes : List ℕ) (n : ℕ) (all : List ℕ) → 0 < n → n ≤ length bytes → length line + n < 1024
    → position (λ b. b == 10) (take n bytes) ≡ None → all ≡ line ++ take n bytes
    → IsTurn (in_line line) bytes all (record { used = n; part = None; stage = stage.Line })
line_goes line bytes n all some within room none is =
    let size = length-take-le n bytes within in
    let total = length-append line (take n bytes) in
    let sum = ap (λ (l : List ℕ). length l) is in
    let heard = line_heard line (take n bytes) (unbroken_all (take n bytes) none) (omega arith) in
    record {
      some = some;
      within = within;
      stage = omega arith;
      gives = (in_line all, heard ∙ ap (λ (l : List ℕ). silent (in_line l)) (sym is), refl, refl);
    }
