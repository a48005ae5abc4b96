-- What serde_json reads of an export.
use Rattle.std.specs.Prelude.{◌≡◌, ◌++◌, ℕ, ◌^◌, ◌<◌, List, [], ◌∷◌, length, All, IfSome, IsUtf8, Some}
use Rattle.serde_json.specs.Data.{Data}
use Rattle.serde_json.specs.Read.{read}
use Rattle.px_message.specs.declared.flow.Flow.{Flow}
use Rattle.px_message.specs.declared.response.Response.{Response}
use Rattle.px_message.specs.declared.flow.Times.{Times}
use Rattle.px_har.specs.Entry.{characters, receive_millis, send_millis, total_millis, wait_millis}
use Rattle.px_har.specs.Export.{begin_text, end_text, entries_text, entry_text, har_text, har_value, place_behind, placed_text}
use Rattle.px_har.specs.declared.export.Place.TheVariants.{First}

-- `Value::from_slice` reads the text, as this tree, where it does not run out of memory: it refuses what is no UTF-8, and what `read` refuses
abbrev pub IsReadAs : List ℕ → Data → Type 0
IsReadAs text tree = IsUtf8 text × (read text ≡ Some tree)

pub record HasTimes (times : Times) : Type 0 where
  pub receive : receive_millis times < 2 ^ 64
  pub send : send_millis times < 2 ^ 64
  pub wait : wait_millis times < 2 ^ 64
  pub total : total_millis times < 2 ^ 64

pub record HasSizes (response : Response) : Type 0 where
  pub status : response.status < 2 ^ 64
  pub body : length response.body < 2 ^ 64

-- Its numbers fit 64 bits, as those of a flow in memory do, and its text is UTF-8. So it is with each entry that was written.
pub record IsReadable (flow : Flow) : Type 0 where
  pub body : length flow.request.body < 2 ^ 64
  pub response : IfSome flow.response HasSizes
  pub times : HasTimes flow.times
  pub utf8 : IsUtf8 (entry_text flow)

-- An export of such flows is read as its tree.
abbrev pub ExportIsRead : Type 0
ExportIsRead = (flows : List Flow) → All IsReadable flows → IsReadAs (har_text flows) (har_value flows)

-- The begin, the entries in their order, each at its place, and the end make the text of the export.
pub record PartsMakeIt : Type 0 where
  pub whole : (flows : List Flow) → har_text flows ≡ begin_text ++ (entries_text First flows ++ end_text)
  pub more : (flows : List Flow) (flow : Flow) → entries_text First (flows ++ flow ∷ []) ≡ entries_text First flows ++ placed_text (place_behind flows) flow

-- Bytes that have the same characters are the same.
abbrev pub CharactersTellBytes : Type 0
CharactersTellBytes = (bytes others : List ℕ) → characters bytes ≡ characters others → bytes ≡ others
