-- An export is made of its parts, and is read as its tree.
use Rattle.std.specs.Prelude.{codes, length, All, IsUtf8}
use Rattle.std.proofs.Common.{◌≡◌, ℕ, ◌+◌, ◌<◌, List, [], ◌∷◌, ◌++◌, drop, get_or, Bool, true, false, map, refl, sym, ap, ap₂, ◌∙◌, subst, arith, append_assoc, append-nil}
use Rattle.std.proofs.lemmas.List.{drop_more}
use Rattle.std.proofs.lemmas.List.Elements.{All-head, All-tail}
use Rattle.std.proofs.lemmas.Str.{IsUtf8-append, IsUtf8-nil}
use Rattle.json.specs.Print.{escape_byte}
use Rattle.json.proofs.Printed.Utf8.{IsUtf8-are_ascii}
use Rattle.serde_json.specs.View.{items_of}
use Rattle.serde_json.specs.Written.{comma_if, compact_text, items_text}
use Rattle.px_message.specs.declared.flow.Flow.{Flow}
use Rattle.px_text.specs.Prefix.{AddsPrefixOf}
use Rattle.px_text.proofs.PrefixLemmas.{adds_first, adds_nothing, adds_second, both_parts}
use Rattle.px_har.specs.Entry.{entry_value}
use Rattle.px_har.specs.Export.{begin_text, end_text, entries_text, entry_text, har_text, har_value, place_behind, placed_text, separator}
use Rattle.px_har.specs.Read.{IsReadAs, IsReadable, PartsMakeIt}
use Rattle.px_har.specs.declared.export.Place.{Place}
use Rattle.px_har.specs.declared.export.Place.TheVariants.{First, Later}
use Rattle.px_har.proofs.EntryLemmas.{entry_good}
use Rattle.px_har.proofs.TreeLemmas.{AreGood, IsGood, read_back}

-- ---- parts

abbrev place_of : Bool → Place
place_of false = First
place_of true = Later

separated : (later : Bool) → comma_if later ≡ separator (place_of later)
separated false = refl
separated true = refl

items_are : (later : Bool) (flows : List Flow) → items_text later (items_of (map entry_value flows)) ≡ entries_text (place_of later) flows ++ 93 ∷ []
items_are later [] = refl
items_are later (flow ∷ flows) =
    let text = entry_text flow in
    ap₂ (λ comma rest. comma ++ (text ++ rest)) (separated later) (items_are true flows)
    ∙ sym (append_assoc (separator (place_of later)) text (entries_text Later flows ++ 93 ∷ []))
    ∙ sym (append_assoc (separator (place_of later) ++ text) (entries_text Later flows) (93 ∷ []))

-- what follows the list of entries in its object
abbrev version_text : List ℕ
version_text = codes ",\"pages\":[],\"version\":\"1.2\"}"

whole : (flows : List Flow) → har_text flows ≡ begin_text ++ (entries_text First flows ++ end_text)
unfolding escape_byte har_value
whole flows =
    let items = items_text false (items_of (map entry_value flows)) in
    let parts : har_text flows ≡ begin_text ++ ((items ++ version_text) ++ 125 ∷ []) = refl in
    parts ∙ ap (λ l. begin_text ++ l) (
    ap (λ l. (l ++ version_text) ++ 125 ∷ []) (items_are false flows)
    ∙ append_assoc (entries_text First flows ++ 93 ∷ []) version_text (125 ∷ [])
    ∙ append_assoc (entries_text First flows) (93 ∷ []) (version_text ++ 125 ∷ [])
    )

later_more : (flows : List Flow) (flow : Flow) → entries_text Later (flows ++ flow ∷ []) ≡ entries_text Later flows ++ placed_text Later flow
later_more [] flow = append-nil (placed_text Later flow)
later_more (first ∷ flows) flow =
    ap (λ l. placed_text Later first ++ l) (later_more flows flow)
    ∙ sym (append_assoc (placed_text Later first) (entries_text Later flows) (placed_text Later flow))

more : (flows : List Flow) (flow : Flow) → entries_text First (flows ++ flow ∷ []) ≡ entries_text First flows ++ placed_text (place_behind flows) flow
more [] flow = append-nil (placed_text First flow)
more (first ∷ flows) flow =
    ap (λ l. placed_text First first ++ l) (later_more flows flow)
    ∙ sym (append_assoc (placed_text First first) (entries_text Later flows) (placed_text Later flow))

pub parts_make_it : PartsMakeIt
parts_make_it = record { whole = whole; more = more }

-- one entry more was written
pub entries_more : (place : Place) (flows : List Flow) (i : ℕ) (flow : Flow) (start old new given : List ℕ) → i < length flows → flow ≡ get_or flows i flow
    → given ++ entries_text place (drop i flows) ≡ entries_text First flows → old ≡ start ++ given → new ≡ old ++ placed_text place flow
    → (more : List ℕ) × (more ++ entries_text Later (drop (i + 1) flows) ≡ entries_text First flows) × (new ≡ start ++ more)
entries_more place flows i flow start old new given within is stands here put =
    let text = placed_text place flow in
    let next : drop i flows ≡ flow ∷ drop (i + 1) flows = drop_more flows i flow within ∙ ap (λ f. f ∷ drop (i + 1) flows) (sym is) in (
      given ++ text,
      append_assoc given text (entries_text Later (drop (i + 1) flows)) ∙ ap (λ fs. given ++ entries_text place fs) (sym next) ∙ stands,
      put ∙ ap (λ l. l ++ text) here ∙ append_assoc start given text,
    )

-- ---- what stands where memory runs out

pub har_begun : (flows : List Flow) (old new : List ℕ) → new ≡ old → AddsPrefixOf (har_text flows) old new
har_begun flows old new same = adds_nothing (har_text flows) old new same

pub har_cut : (flows : List Flow) (old begun new : List ℕ) → begun ≡ old ++ begin_text → AddsPrefixOf (entries_text First flows) begun new
    → AddsPrefixOf (har_text flows) old new
har_cut flows old begun new first entries =
    subst (λ text. AddsPrefixOf text old new) (sym (whole flows)) (adds_second begin_text (entries_text First flows ++ end_text) old begun new first
    (adds_first (entries_text First flows) end_text begun new entries))

pub har_open : (flows : List Flow) (old begun written new : List ℕ) → begun ≡ old ++ begin_text → written ≡ begun ++ entries_text First flows → new ≡ written
    → AddsPrefixOf (har_text flows) old new
har_open flows old begun written new first entries same =
    har_cut flows old begun new first (entries_text First flows, ([], sym (append-nil (entries_text First flows))), same ∙ entries)

pub har_done : (flows : List Flow) (old begun written new : List ℕ) → begun ≡ old ++ begin_text → written ≡ begun ++ entries_text First flows → new ≡ written ++ end_text
    → new ≡ old ++ har_text flows
har_done flows old begun written new first entries last =
    both_parts begin_text (entries_text First flows ++ end_text) old begun new first (both_parts (entries_text First flows) end_text begun written new entries last)
    ∙ ap (λ text. old ++ text) (sym (whole flows))

-- ---- reading

entries_good : (flows : List Flow) → All IsReadable flows → AreGood 4 (items_of (map entry_value flows))
entries_good [] each = tt
entries_good (flow ∷ flows) each =
    let first = All-head IsReadable flow flows each in
    (entry_good flow first.body first.response first.times, entries_good flows (All-tail IsReadable flow flows each))

har_good : (flows : List Flow) → All IsReadable flows → IsGood 7 (har_value flows)
unfolding har_value
har_good flows each = (((((((tt, (tt, tt)), refl), (entries_good flows each, (tt, (tt, tt)))), refl), tt)), refl)

separator_utf8 : (place : Place) → IsUtf8 (separator place)
separator_utf8 First = IsUtf8-nil
separator_utf8 Later = IsUtf8-are_ascii (44 ∷ []) refl

entries_utf8 : (place : Place) (flows : List Flow) → All IsReadable flows → IsUtf8 (entries_text place flows)
entries_utf8 place [] each = IsUtf8-nil
entries_utf8 place (flow ∷ flows) each =
    let first = All-head IsReadable flow flows each in
    IsUtf8-append (placed_text place flow) (entries_text Later flows)
    (IsUtf8-append (separator place) (entry_text flow) (separator_utf8 place) first.utf8)
    (entries_utf8 Later flows (All-tail IsReadable flow flows each))

har_utf8 : (flows : List Flow) → All IsReadable flows → IsUtf8 (har_text flows)
har_utf8 flows each =
    subst IsUtf8 (sym (whole flows)) (IsUtf8-append begin_text (entries_text First flows ++ end_text) (IsUtf8-are_ascii begin_text refl)
    (IsUtf8-append (entries_text First flows) end_text (entries_utf8 First flows each) (IsUtf8-are_ascii end_text refl)))

pub export_is_read : (flows : List Flow) → All IsReadable flows → IsReadAs (har_text flows) (har_value flows)
export_is_read flows each = (har_utf8 flows each, read_back 7 (har_value flows) (omega arith) (har_good flows each))
