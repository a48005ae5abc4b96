-- A reader as its callers see it, and what each call makes of it.
use Rattle.std.specs.Prelude.{ℕ, List, [], drop, Option, Some, None}
use Rattle.px_head.specs.declared.front.Front.{Front}
use Rattle.px_head.specs.declared.front.Front.TheVariants.{Nothing, TooLong, BadHead, Stands}
use Rattle.px_head.specs.declared.front.Found.{Found}
use Rattle.px_head.specs.declared.front.Found.TheVariants as found
use Rattle.px_head.specs.declared.front.Refusal.{Refusal}
use Rattle.px_head.specs.declared.front.Refusal.TheVariants as refusal
use Rattle.px_head.specs.declared.front.Kind.{Kind}
use Rattle.px_head.specs.declared.place.Marks.{Marks}
use Rattle.px_head.specs.Front.{front}
use Rattle.px_head.specs.Marks.{no_marks, searched}

-- the bytes that were fed and not used, the refusal that it has failed with, and how far these bytes were searched
pub record Reader : Type 0 where
  pub rest : List ℕ
  pub failed : Option Refusal
  pub marks : Marks

-- a reader of no bytes
abbrev pub new_reader : Reader
new_reader = record { rest = []; failed = None; marks = no_marks }

abbrev pub refused : Refusal → Front
refused refusal.TooLong = TooLong
refused refusal.BadHead = BadHead

abbrev pub seen_by : Front → Option Refusal → Front
seen_by front None = front
seen_by front (Some r) = refused r

-- what stands at the front, unless the reader has failed
abbrev pub seen : Kind → Reader → Front
seen kind reader = seen_by (front kind reader.rest) reader.failed

abbrev pub answer : Front → Found
answer Nothing = found.Partial
answer TooLong = found.TooLong
answer BadHead = found.BadHead
answer (Stands raw used) = found.Head raw

-- Where nothing stands, all bytes were searched, and the search went on where it stopped. A head is used up, and the search
-- begins anew behind it; a refusal stays.
abbrev pub after : Front → Reader → Reader
after Nothing reader = record reader { marks = searched reader.rest reader.marks }
after TooLong reader = record reader { failed = Some refusal.TooLong }
after BadHead reader = record reader { failed = Some refusal.BadHead }
after (Stands raw used) reader = record reader { rest = drop used reader.rest; marks = no_marks }
