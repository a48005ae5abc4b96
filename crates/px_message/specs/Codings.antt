-- Where `chunked` stands among the codings that were read so far.
use Rattle.std.specs.Prelude.{ℕ, Bool, true, false, ◌==◌, if◌then◌else◌, List, length, fold}
use Rattle.std.specs.List.{slice_split}
use Rattle.px_message.specs.Fields.{trim_blanks}
use Rattle.px_message.specs.Length.{is_chunked}
use Rattle.px_message.specs.declared.codings.Chunking.{Chunking}
use Rattle.px_message.specs.declared.codings.Chunking.TheVariants.{Absent, Last, Early}

-- with one coding more, that is `chunked` or not
abbrev pub chunking_next : Chunking → Bool → Chunking
chunking_next Absent chunked = if chunked then Last else Absent
chunking_next Last chunked = Early
chunking_next Early chunked = Early

-- with one element more, which is no coding where it is empty
abbrev pub chunking_with : Chunking → List ℕ → Chunking
chunking_with seen coding = if length coding == 0 then seen else chunking_next seen (is_chunked coding)

-- with the elements of one value more
abbrev pub chunking_after : Chunking → List ℕ → Chunking
chunking_after seen value =
    fold (λ s part. chunking_with s (trim_blanks part)) seen (slice_split (λ b. b == 44) value)

-- the last coding is `chunked`, and no other is
abbrev pub is_last : Chunking → Bool
is_last Absent = false
is_last Last = true
is_last Early = false
