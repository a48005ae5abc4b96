-- What the parts of Content-Length values say that were read so far.
use Rattle.std.specs.Prelude.{ℕ, ◌==◌, if◌then◌else◌, List, Option, Some, None, fold}
use Rattle.std.specs.List.{slice_split}
use Rattle.px_text.specs.Number.{decimal_value}
use Rattle.px_message.specs.Fields.{trim_blanks}
use Rattle.px_message.specs.declared.stated.Stated.{Stated}
use Rattle.px_message.specs.declared.stated.Stated.TheVariants.{Nothing, Number, Unclear}

-- with one number more, or one part that is none
abbrev pub stated_with : Stated → Option ℕ → Stated
stated_with Nothing (Some n) = Number n
stated_with (Number stated) (Some n) = if stated == n then Number stated else Unclear
stated_with _ _ = Unclear

-- with the parts of one value more
abbrev pub stated_after : Stated → List ℕ → Stated
stated_after stated value =
    fold (λ s part. stated_with s (decimal_value (trim_blanks part))) stated (slice_split (λ b. b == 44) value)

-- the number that all parts are
abbrev pub number_of : Stated → Option ℕ
number_of Nothing = None
number_of (Number n) = Some n
number_of Unclear = None
