-- A whole export, and the parts that its text is made of.
use Rattle.std.specs.Prelude.{◌≡◌, ℕ, List, [], ◌∷◌, ◌++◌, codes}
use Rattle.serde_json.specs.Data.{Data, string, object, member, no_members}
use Rattle.serde_json.specs.Written.{compact_text}
use Rattle.px_message.specs.declared.flow.Flow.{Flow}
use Rattle.px_har.specs.Entry.{empty_list, entry_value, list_value}
use Rattle.px_har.specs.declared.export.Place.{Place}
use Rattle.px_har.specs.declared.export.Place.TheVariants.{First, Later}

abbrev pub creator_value : Data
creator_value = object (member (codes "name") (string (codes "mitm")) (member (codes "version") (string (codes "1")) no_members))

-- the export of these flows, in their order; no page is known, but there are readers that want the list
unfoldable pub har_value : List Flow → Data
har_value flows =
    object (member (codes "log")
    (object (member (codes "creator") creator_value
    (member (codes "entries") (list_value entry_value flows)
    (member (codes "pages") empty_list
    (member (codes "version") (string (codes "1.2")) no_members))))) no_members)

-- its text, without blanks
abbrev pub har_text : List Flow → List ℕ
har_text flows = compact_text (har_value flows)

abbrev pub entry_text : Flow → List ℕ
entry_text flow = compact_text (entry_value flow)

-- ---- in parts

abbrev pub begin_text : List ℕ
begin_text = codes "{\"log\":{\"creator\":{\"name\":\"mitm\",\"version\":\"1\"},\"entries\":["

abbrev pub end_text : List ℕ
end_text = codes "],\"pages\":[],\"version\":\"1.2\"}}"

-- a comma, in front of each entry but the first
abbrev pub separator : Place → List ℕ
separator First = []
separator Later = 44 ∷ []

abbrev pub placed_text : Place → Flow → List ℕ
placed_text place flow = separator place ++ entry_text flow

-- entries of which the first stands at that place
abbrev pub entries_text : Place → List Flow → List ℕ
entries_text place [] = []
entries_text place (flow ∷ flows) = placed_text place flow ++ entries_text Later flows

-- where the next entry stands behind these
abbrev pub place_behind : List Flow → Place
place_behind [] = First
place_behind (flow ∷ flows) = Later
