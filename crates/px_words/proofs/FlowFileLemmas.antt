-- The entries of a file's text, one behind the other.
use Rattle.std.proofs.Common.{◌≡◌, ◌<◌, ℕ, List, [], ◌∷◌, ◌++◌, length, Option, Some, Ok, refl, ap, ◌∙◌, subst, arith, length-append}
use Rattle.std.specs.Prelude.{decimal}
use Rattle.px_message.specs.declared.flow.Flow.{Flow}
use Rattle.px_tnet.specs.Frame.{Framed, colon, framed}
use Rattle.px_flowfile.specs.Reader.{BeginsWith, ComesNext}
use Rattle.px_flowfile.specs.declared.entry.Entry.{Entry}
use Rattle.px_words.specs.FlowFile.{HasFlows, one_more}

-- what stands behind a frame is less
framed_less : (payload : List ℕ) (tag : ℕ) (rest text : List ℕ) → Framed payload tag rest text → length rest < length text
framed_less payload tag rest text is =
    let whole = ap length is.1 ∙ length-append (framed payload tag) rest in
    let digits = length-append (decimal (length payload)) (colon ∷ (payload ++ (tag ∷ []))) in
    omega arith

-- what stands behind an entry is less than the text
pub entry_less : (entry : Entry) (text behind : List ℕ) → BeginsWith entry text behind → length behind < length text
entry_less entry text behind begins = let item = begins.1 in framed_less item.1 _ behind text item.2

-- one entry more
pub has_more : (bytes rest next : List ℕ) (flows : List Flow) (entry : Entry) → HasFlows bytes flows rest → BeginsWith entry rest next → HasFlows bytes (flows ++ entry.flow ∷ []) next
has_more bytes rest next flows entry has begins = one_more rest next flows (flows ++ entry.flow ∷ []) entry has begins refl

-- what comes next is this entry
pub comes_so : (rest next : List ℕ) (came : Option Entry) (entry : Entry) → came ≡ Some entry → ComesNext rest (Ok came) next → BeginsWith entry rest next
comes_so rest next came entry is comes = let P : Option Entry → Type 0 = λ o. ComesNext rest (Ok o) next in subst P is comes
