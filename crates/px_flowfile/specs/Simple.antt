-- The kinds that hold one value: numbers, texts and moments.
use Rattle.std.specs.Prelude.{◌≡◌, ◌≢◌, ℕ, ◌^◌, ◌-◌, ◌<◌, ◌⊎◌, ℤ, pos, min, Bool, true, List, [], ◌∷◌, ◌++◌, codes, decimal}
use Rattle.px_tnet.specs.Tree.{Tree, blob, text, int, bool, null}
use Rattle.px_message.specs.Status.{is_status}
use Rattle.px_message.specs.declared.flow.FlowId.{FlowId}
use Rattle.px_message.specs.declared.flow.Replayed.{Replayed}
use Rattle.px_message.specs.declared.flow.Replayed.TheVariants as replayed
use Rattle.px_message.specs.declared.version.Version.{Version}
use Rattle.px_message.specs.declared.version.Version.TheVariants as version
use Rattle.px_flowfile.specs.Kind.{Kind, plain, shown}
use Rattle.px_flowfile.specs.declared.error.FlowFileError.TheVariants as error
use Rattle.px_flowfile.specs.declared.form.Form.{Form}
use Rattle.px_flowfile.specs.declared.form.Form.TheVariants as forms

-- any value of the shape is good
abbrev pub Any : {A : Type 0} → A → Type 0
Any a = Unit {0}

-- bytes
abbrev pub bytes : Kind (List ℕ)
bytes = plain blob Any

-- true or false
abbrev pub truth : Kind Bool
truth = plain bool Any

-- a text that is this word
abbrev pub word : List ℕ → Kind (Unit {0})
word name = shown text (λ _. name) Any

-- bytes that are this word
abbrev pub word_bytes : List ℕ → Kind (Unit {0})
word_bytes name = shown blob (λ _. name) Any

-- empty bytes, which are read whatever they are
abbrev pub unused : Kind (Unit {0})
unused = record {
  Good = Any;
  write = λ _. blob [];
  Reads = λ t _. (b : List ℕ) × (t ≡ blob b);
  Refuses = λ name t e. (e ≡ error.WrongKind name) × ((b : List ℕ) → ¬ (t ≡ blob b));
}

-- microseconds since 1970, below 2^63; a later moment is written as the last of these
abbrev pub moment : Kind ℕ
moment = record {
  Good = λ m. m < 2 ^ 63;
  write = λ m. int (pos (min m (2 ^ 63 - 1)));
  Reads = λ t m. (t ≡ int (pos m)) × (m < 2 ^ 63);
  Refuses = (shown int pos (λ m. m < 2 ^ 63)).Refuses;
}

-- a port is no 0 and has 16 bits
abbrev pub IsPort : ℕ → Type 0
IsPort n = (n ≢ 0) × (n < 2 ^ 16)

abbrev pub port : Kind ℕ
port = shown int pos IsPort

-- a status of a final response, or 101
abbrev pub status : Kind ℕ
status = shown int pos (λ n. is_status n ≡ true)

-- the number of a form
abbrev pub form_number : Form → ℤ
form_number forms.First = pos 1
form_number forms.Second = pos 2

-- the form of a flow's dictionary
abbrev pub form : Kind Form
form = record {
  Good = Any;
  write = λ of_form. int (form_number of_form);
  Reads = λ t of_form. t ≡ int (form_number of_form);
  Refuses = λ name t e.
      ((e ≡ error.WrongKind name) × ((n : ℤ) → ¬ (t ≡ int n)))
      ⊎ ((n : ℤ) × (t ≡ int n) × (e ≡ error.OtherVersion n) × ((of_form : Form) → ¬ (n ≡ form_number of_form)));
}

-- the number of the conversation, a full stop, and the place in it
abbrev pub id_text : FlowId → List ℕ
id_text id = decimal id.conv ++ (46 ∷ decimal id.index)

abbrev pub IsId : FlowId → Type 0
IsId id = (id.conv < 2 ^ 32) × (id.index < 2 ^ 32)

abbrev pub flow_id : Kind FlowId
flow_id = shown text id_text IsId

abbrev pub replay_tree : Replayed → Tree
replay_tree replayed.No = null
replay_tree replayed.Request = text (codes "request")
replay_tree replayed.Response = text (codes "response")

-- which end was replayed, or nothing
abbrev pub replay : Kind Replayed
replay = record {
  Good = Any;
  write = replay_tree;
  Reads = λ t r. t ≡ replay_tree r;
  Refuses = λ name t e.
      ((e ≡ error.WrongKind name) × (¬ (t ≡ null)) × ((b : List ℕ) → ¬ (t ≡ text b)))
      ⊎ ((e ≡ error.BadMessage name) × ((b : List ℕ) × (t ≡ text b) × (b ≢ codes "request") × (b ≢ codes "response")));
}

abbrev pub version_text : Version → List ℕ
version_text version.Http10 = codes "HTTP/1.0"
version_text version.Http11 = codes "HTTP/1.1"

abbrev pub http_version : Kind Version
http_version = shown blob version_text Any
