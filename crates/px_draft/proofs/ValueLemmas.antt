-- Values of fields in two parts.
use Rattle.std.proofs.Common.{◌≡◌, ◌∙◌, ℕ, Bool, true, false, ◌&&◌, List, ◌++◌, refl}
use Rattle.std.proofs.lemmas.List.Folds.{list_all-append}
use Rattle.px_message.specs.Value.{is_value, is_value_byte}

both_true : (x y : Bool) → x ≡ true → y ≡ true → x && y ≡ true
both_true true y first second = second
both_true false y first second = first

last_false : (x y : Bool) → y ≡ false → x && y ≡ false
last_false true y last = last
last_false false y last = refl

pub value_append : (a b : List ℕ) → is_value a ≡ true → is_value b ≡ true → is_value (a ++ b) ≡ true
value_append a b first second = list_all-append is_value_byte a b ∙ both_true (is_value a) (is_value b) first second

pub value_refused : (a b : List ℕ) → is_value b ≡ false → is_value (a ++ b) ≡ false
value_refused a b last = list_all-append is_value_byte a b ∙ last_false (is_value a) (is_value b) last
