-- Where bytes of a chunked body are heard that tell nothing, and the body goes on, few of them came.
use Rattle.std.proofs.Common.{ℕ, zero, suc, ◌+◌, ◌<◌, ◌≡◌, true, false, List, [], ◌∷◌, ◌++◌, length, refl, subst, arith, inl, inr, Option, Some, None, length-append}
use Rattle.std.specs.Prelude.{◌==◌, Bool, if◌then◌else◌}
use Rattle.std.proofs.lemmas.Bool.Decides.{eqb_tells, leb_tells}
use Rattle.px_head.specs.declared.front.Front.{Front}
use Rattle.px_head.specs.declared.front.Front.TheVariants.{Nothing, TooLong, BadHead, Stands}
use Rattle.px_head.specs.declared.front.Kind.TheVariants.{Trailers}
use Rattle.px_head.specs.Front.{trailer_front}
use Rattle.px_head.proofs.SizeLemmas.{waiting-exact}
use Rattle.px_read.specs.ChunkLine.{size_in}
use Rattle.px_read.specs.Chunking.{LineHasRoom, place_keeps}
use Rattle.px_read.specs.Chunks.{ChunkPlace, in_line, in_content, at_cr, at_lf, in_trailers, broken, ChunkHearing, silent, behind_size, hear, hear_all, goes_on, trailers_finish, place_finish}
use Rattle.px_read.specs.Marks.{ends}
use Rattle.px_read.proofs.HearLemmas.{behind, hear_all-broken, hear_all-trailers}
use Rattle.px_bounds.specs.Bounds.{kept_below}

-- ---- a chunk line has room for one byte more

size_room : (size : Option ℕ) → LineHasRoom (behind_size size).place
size_room None = tt
size_room (Some zero) = tt
size_room (Some (suc left)) = tt

line_room : (line : List ℕ) (b : ℕ) → LineHasRoom (hear (in_line line) b).place
line_room line b = elim (eqb_tells b 10) [
  | inl t ↦ rw t.0 (size_room (size_in (line ++ b ∷ [])))
  | inr f ↦ elim (leb_tells 1024 (length (line ++ b ∷ []))) [
    | inl long ↦ rw (f.0, long.0) tt
    | inr short ↦ rw (f.0, short.0) short.1
  ]
]

test_room : (test : Bool) (told : ChunkHearing) → LineHasRoom told.place → LineHasRoom (if test then told else silent broken).place
test_room true told room = room
test_room false told room = tt

room_heard : (place : ChunkPlace) (b : ℕ) → LineHasRoom (hear place b).place
room_heard (in_line line) b = line_room line b
room_heard (in_content zero) b = tt
room_heard (in_content (suc left)) b = tt
room_heard at_cr b = test_room (b == 13) (silent at_lf) tt
room_heard at_lf b = test_room (b == 10) (record { marks = ends ∷ []; place = in_line [] }) (omega arith)
room_heard (in_trailers block) b = tt
room_heard broken b = tt

pub room_all : (place : ChunkPlace) (bytes : List ℕ) → LineHasRoom place → LineHasRoom (hear_all place bytes).place
room_all place [] room = room
room_all place (b ∷ bytes) room = room_all (hear place b).place bytes (room_heard place b)

-- ---- what was heard tells nothing, and the body goes on

pub record IsQuiet (count : ℕ) (heard : ChunkHearing) : Type 0 where
  pub marks : heard.marks ≡ []
  pub on : place_finish count heard.place ≡ goes_on

quiet_broken : (count : ℕ) (bytes : List ℕ) → IsQuiet count (hear_all broken bytes) → ⊥
quiet_broken count bytes quiet =
    let none = subst (λ (h : ChunkHearing). IsQuiet count h) (hear_all-broken bytes) quiet in
    let on = none.on in cc

waiting_by : (count kept : ℕ) (f : Front) → trailers_finish count kept f ≡ goes_on → f ≡ Nothing
waiting_by count kept Nothing on = refl
waiting_by count kept TooLong on = absurd (let e = on in cc)
waiting_by count kept BadHead on = absurd (let e = on in cc)
waiting_by count kept (Stands raw used) on = absurd (let e = on in cc)

-- trailers that are waited for
quiet_trailers : (count : ℕ) (block bytes : List ℕ) → IsQuiet count (hear_all (in_trailers block) bytes) → length block + length bytes < 65536
quiet_trailers count block bytes quiet =
    let heard = subst (λ (h : ChunkHearing). IsQuiet count h) (hear_all-trailers block bytes) quiet in
    let waits = waiting_by count (length (block ++ bytes)) (trailer_front (block ++ bytes)) heard.on in
    let few = ((waiting-exact Trailers (block ++ bytes)).0 waits).0 in
    let size = length-append block bytes in
    omega arith

-- behind a chunk line
quiet_size : (count : ℕ) (size : Option ℕ) (bytes : List ℕ) → IsQuiet count (behind (behind_size size) bytes) → length bytes < 65536
quiet_size count None bytes quiet = absurd (quiet_broken count bytes quiet)
quiet_size count (Some zero) bytes quiet = let few = quiet_trailers count [] bytes quiet in omega arith
quiet_size count (Some (suc left)) bytes quiet = absurd (let e = quiet.marks in cc)

-- behind one byte
quiet_as : (count : ℕ) (place : ChunkPlace) (b : ℕ) (bytes : List ℕ) (told : ChunkHearing) → hear place b ≡ told
    → IsQuiet count (hear_all place (b ∷ bytes)) → IsQuiet count (behind told bytes)
quiet_as count place b bytes told is quiet = subst (λ (h : ChunkHearing). IsQuiet count (behind h bytes)) is quiet

quiet_line : (count : ℕ) (line bytes : List ℕ) → length line < 1024 → IsQuiet count (hear_all (in_line line) bytes)
    → length line + length bytes < kept_below
quiet_line count line [] room quiet = omega arith
quiet_line count line (b ∷ bytes) room quiet = elim (eqb_tells b 10) [
  | inl t ↦
      let few = quiet_size count (size_in (line ++ b ∷ [])) bytes
      (quiet_as count (in_line line) b bytes (behind_size (size_in (line ++ b ∷ []))) (rw t.0 refl) quiet) in
      omega arith
  | inr f ↦ elim (leb_tells 1024 (length (line ++ b ∷ []))) [
    | inl long ↦ absurd (quiet_broken count bytes (quiet_as count (in_line line) b bytes (silent broken) (rw (f.0, long.0) refl) quiet))
    | inr short ↦
        let few = quiet_line count (line ++ b ∷ []) bytes short.1
        (quiet_as count (in_line line) b bytes (silent (in_line (line ++ b ∷ []))) (rw (f.0, short.0) refl) quiet) in
        let size = length-append line (b ∷ []) in
        omega arith
  ]
]

-- a test that a byte passes, or else the body is broken
quiet_test : (count : ℕ) (test : Bool) (told : ChunkHearing) (bytes : List ℕ)
    → IsQuiet count (behind (if test then told else silent broken) bytes) → IsQuiet count (behind told bytes)
quiet_test count true told bytes quiet = quiet
quiet_test count false told bytes quiet = absurd (quiet_broken count bytes quiet)

quiet_lf : (count : ℕ) (bytes : List ℕ) → IsQuiet count (hear_all at_lf bytes) → length bytes ≡ 0
quiet_lf count [] quiet = refl
quiet_lf count (b ∷ bytes) quiet =
    let told = quiet_test count (b == 10) (record { marks = ends ∷ []; place = in_line [] }) bytes quiet in
    absurd (let e = told.marks in cc)

quiet_cr : (count : ℕ) (bytes : List ℕ) → IsQuiet count (hear_all at_cr bytes) → length bytes < 2
quiet_cr count [] quiet = omega arith
quiet_cr count (b ∷ bytes) quiet = let none = quiet_lf count bytes (quiet_test count (b == 13) (silent at_lf) bytes quiet) in omega arith

quiet_content : (count left : ℕ) (bytes : List ℕ) → IsQuiet count (hear_all (in_content left) bytes) → length bytes ≡ 0
quiet_content count left [] quiet = refl
quiet_content count left (b ∷ bytes) quiet = absurd (let e = quiet.marks in cc)

-- from any place
pub quiet_few : (count : ℕ) (place : ChunkPlace) (bytes : List ℕ) → LineHasRoom place → IsQuiet count (hear_all place bytes)
    → place_keeps place + length bytes < kept_below
quiet_few count (in_line line) bytes room quiet = quiet_line count line bytes room quiet
quiet_few count (in_content left) bytes room quiet = let none = quiet_content count left bytes quiet in omega arith
quiet_few count at_cr bytes room quiet = let few = quiet_cr count bytes quiet in omega arith
quiet_few count at_lf bytes room quiet = let none = quiet_lf count bytes quiet in omega arith
quiet_few count (in_trailers block) bytes room quiet = let few = quiet_trailers count block bytes quiet in omega arith
quiet_few count broken bytes room quiet = absurd (quiet_broken count bytes quiet)
