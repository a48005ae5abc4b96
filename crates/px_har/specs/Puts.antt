-- What is put into a writer of JSON: the tokens of values.
use Rattle.std.specs.Prelude.{◌≡◌, ℕ, List, [], ◌∷◌, ◌++◌, map, Result, OnOk}
use Rattle.json.specs.Token.{Token}
use Rattle.json.specs.Token as token
use Rattle.json.specs.Tree as tree
use Rattle.json.specs.Tree.{json_tokens, members_tokens}
use Rattle.json.specs.Written.{Written}
use Rattle.serde_json.specs.Data.{Data, Members}
use Rattle.serde_json.specs.View.{items_of}
use Rattle.serde_json.specs.Written.{items_outline, members_outline, outline}

-- these tokens stand behind those that stood, and what the writer began behind stays
pub record Grew (old new : Written) (added : List Token) : Type 0 where
  pub before : new.before ≡ old.before
  pub tokens : new.tokens ≡ old.tokens ++ added

-- unless memory ran out
abbrev pub Adds : {E : Type 0} → Result (Unit {0}) E → Written → Written → List Token → Type 0
Adds result old new added = OnOk result (Grew old new added)

abbrev pub value_tokens : Data → List Token
value_tokens value = json_tokens (outline value)

-- of a member in front of others
abbrev pub member_tokens : List ℕ → Data → List Token
member_tokens name value = token.key name ∷ value_tokens value

-- of the last members of an object, with its end
abbrev pub end_tokens : Members → List Token
end_tokens members = members_tokens (members_outline members)

-- of the items of a list, with its end
abbrev pub items_tokens : {T : Type 0} → (T → Data) → List T → List Token
items_tokens value items = tree.items_tokens (items_outline (items_of (map value items)))

abbrev pub Puts : {E : Type 0} → Result (Unit {0}) E → Written → Written → Data → Type 0
Puts result old new value = Adds result old new (value_tokens value)

abbrev pub PutsMember : {E : Type 0} → Result (Unit {0}) E → Written → Written → List ℕ → Data → Type 0
PutsMember result old new name value = Adds result old new (member_tokens name value)

-- the last members of an object, and its end
abbrev pub Ends : {E : Type 0} → Result (Unit {0}) E → Written → Written → Members → Type 0
Ends result old new members = Adds result old new (end_tokens members)

-- members in front of others, whatever these are
pub record IsFront (old new : Written) (front : Members → Members) : Type 0 where
  pub before : new.before ≡ old.before
  pub tokens : (members : Members) → new.tokens ++ end_tokens members ≡ old.tokens ++ end_tokens (front members)

abbrev pub PutsMembers : {E : Type 0} → Result (Unit {0}) E → Written → Written → (Members → Members) → Type 0
PutsMembers result old new front = OnOk result (IsFront old new front)
