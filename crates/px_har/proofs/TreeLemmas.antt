-- Trees that are read back from their text: their numbers fit, their keys rise, and they do not nest too deep.
use Rattle.std.specs.Prelude.{⊤}
use Rattle.std.specs.Cmp.Lexicographic.{slice_cmp}
use Rattle.std.specs.Ordering.{nat_cmp, match_ordering}
use Rattle.std.proofs.Common.{◌≡◌, ℕ, zero, suc, ◌^◌, ◌<◌, ◌≤◌, pos, negsuc, List, [], ◌∷◌, Bool, true, false, ◌&&◌, Option, Some, None, option_map, option_and_then, Ordering, Less, Equal, Greater, refl, sym, ap, ◌∙◌, subst, arith, append-nil, map}
use Rattle.std.proofs.lemmas.Bool.{and_parts}
use Rattle.json.specs.Json as json
use Rattle.json.specs.Lex.{tokens}
use Rattle.json.specs.Token.{Token}
use Rattle.json.specs.Print.{print}
use Rattle.json.specs.Tree as tree
use Rattle.json.specs.Tree.{HasNumbers, ItemsHaveNumbers, MembersHaveNumbers, json_tokens}
use Rattle.json.proofs.Printed.Decimals.{IsNumber-decimal, IsNumber-signed_decimal}
use Rattle.json.proofs.Printed.Tokens.{tokens-print}
use Rattle.json.proofs.Printed.Trees.{ArePrintable-json_tokens, value-json_tokens}
use Rattle.serde_json.specs.Data.{Num, unsigned, negative, float, Data, null, boolean, number, string, array, object, Items, no_items, item, Members, no_members, member, put}
use Rattle.serde_json.specs.Read.{of_json, of_items, of_members, read, max_depth}
use Rattle.serde_json.specs.View.{items_of}
use Rattle.serde_json.specs.Written.{compact_text, outline, items_outline, members_outline}
use Rattle.serde_json.proofs.Numbers.{number_of-decimal, number_of-negative}
use Rattle.serde_json.proofs.Texts.{print-outline}

-- ---- what is asked of a tree

abbrev Fits : Num → Type 0
Fits (unsigned n) = n < 2 ^ 64
Fits (negative (pos n)) = ⊥
Fits (negative (negsuc n)) = suc n < 2 ^ 63
Fits (float x) = ⊥

abbrev is_greater : Ordering → Bool
is_greater Less = false
is_greater Equal = false
is_greater Greater = true

-- the key is above all keys of these members
abbrev is_above : List ℕ → Members → Bool
is_above k no_members = true
is_above k (member l d ms) = is_greater (slice_cmp nat_cmp k l) && is_above k ms

-- each key of these members is above the key
abbrev are_above : List ℕ → Members → Bool
are_above k no_members = true
are_above k (member l d ms) = is_greater (slice_cmp nat_cmp l k) && are_above k ms

abbrev pub is_rising : Members → Bool
is_rising no_members = true
is_rising (member k d ms) = are_above k ms && is_rising ms

-- it nests no deeper than that
abbrev mutual
  pub IsGood : ℕ → Data → Type 0
  IsGood n null = ⊤
  IsGood n (boolean b) = ⊤
  IsGood n (number x) = Fits x
  IsGood n (string s) = ⊤
  IsGood zero (array ds) = ⊥
  IsGood (suc n) (array ds) = AreGood n ds
  IsGood zero (object ms) = ⊥
  IsGood (suc n) (object ms) = HaveGood n ms × (is_rising ms ≡ true)

  pub AreGood : ℕ → Items → Type 0
  AreGood n no_items = ⊤
  AreGood n (item d ds) = IsGood n d × AreGood n ds

  pub HaveGood : ℕ → Members → Type 0
  HaveGood n no_members = ⊤
  HaveGood n (member k d ms) = IsGood n d × HaveGood n ms

-- ---- its text has numbers, and nests as it does

number_has : (n : Num) → Fits n → HasNumbers (outline (number n))
number_has (unsigned n) h = IsNumber-decimal n h
number_has (negative (pos n)) h = absurd h
number_has (negative (negsuc n)) h = IsNumber-signed_decimal (negsuc n) (let k : suc n < 2 ^ 63 = h in omega arith)
number_has (float x) h = absurd h

mutual
  has_numbers : (n : ℕ) (d : Data) → IsGood n d → HasNumbers (outline d)
  has_numbers n null h = tt
  has_numbers n (boolean b) h = tt
  has_numbers n (number x) h = number_has x h
  has_numbers n (string s) h = tt
  has_numbers zero (array ds) h = absurd h
  has_numbers (suc n) (array ds) h = items_have_numbers n ds h
  has_numbers zero (object ms) h = absurd h
  has_numbers (suc n) (object ms) h = members_have_numbers n ms h.0

  items_have_numbers : (n : ℕ) (ds : Items) → AreGood n ds → ItemsHaveNumbers (items_outline ds)
  items_have_numbers n no_items h = tt
  items_have_numbers n (item d ds) h = (has_numbers n d h.0, items_have_numbers n ds h.1)

  members_have_numbers : (n : ℕ) (ms : Members) → HaveGood n ms → MembersHaveNumbers (members_outline ms)
  members_have_numbers n no_members h = tt
  members_have_numbers n (member k d ms) h = (has_numbers n d h.0, members_have_numbers n ms h.1)

mutual
  is_shallow : (n : ℕ) (d : Data) → IsGood n d → tree.depth (outline d) ≤ n
  is_shallow n null h = omega arith
  is_shallow n (boolean b) h = omega arith
  is_shallow n (number x) h = omega arith
  is_shallow n (string s) h = omega arith
  is_shallow zero (array ds) h = absurd h
  is_shallow (suc n) (array ds) h = omega (arith, items_are_shallow n ds h)
  is_shallow zero (object ms) h = absurd h
  is_shallow (suc n) (object ms) h = omega (arith, members_are_shallow n ms h.0)

  items_are_shallow : (n : ℕ) (ds : Items) → AreGood n ds → tree.items_depth (items_outline ds) ≤ n
  items_are_shallow n no_items h = omega arith
  items_are_shallow n (item d ds) h = omega (arith, is_shallow n d h.0, items_are_shallow n ds h.1)

  members_are_shallow : (n : ℕ) (ms : Members) → HaveGood n ms → tree.members_depth (members_outline ms) ≤ n
  members_are_shallow n no_members h = omega arith
  members_are_shallow n (member k d ms) h = omega (arith, is_shallow n d h.0, members_are_shallow n ms h.1)

-- ---- it is read as itself

abbrev joined : Members → Members → Members
joined no_members more = more
joined (member k d ms) more = member k d (joined ms more)

joined_more : (found : Members) (k : List ℕ) (d : Data) (ms : Members) → joined (joined found (member k d no_members)) ms ≡ joined found (member k d ms)
joined_more no_members k d ms = refl
joined_more (member l e found) k d ms = ap (member l e) (joined_more found k d ms)

none_more : (found : Members) → joined found no_members ≡ found
none_more no_members = refl
none_more (member l e found) = ap (member l e) (none_more found)

above : (o : Ordering) → is_greater o ≡ true → o ≡ Greater
above Less h = absurd (let e = h in cc)
above Equal h = absurd (let e = h in cc)
above Greater h = refl

joined_none : (found : Members) → Some found ≡ Some (joined found no_members)
joined_none found = ap Some (sym (none_more found))

-- a key above all that were found goes last
put_last : (k : List ℕ) (d : Data) (found : Members) → is_above k found ≡ true → put k d found ≡ joined found (member k d no_members)
put_last k d no_members h = refl
put_last k d (member l e found) h =
    let parts = and_parts _ _ h in
    ap (λ o. match_ordering o (member k d (member l e found)) (member l d found) (member l e (put k d found))) (above (slice_cmp nat_cmp k l) parts.0)
    ∙ ap (member l e) (put_last k d found parts.1)

and_true : (a b : Bool) → a ≡ true → b ≡ true → (a && b) ≡ true
and_true a b first second = rw (first, second) refl

is_above_more : (k l : List ℕ) (e : Data) (found : Members) → is_above k found ≡ true → is_greater (slice_cmp nat_cmp k l) ≡ true
    → is_above k (joined found (member l e no_members)) ≡ true
is_above_more k l e no_members h more = and_true _ _ more refl
is_above_more k l e (member m f found) h more =
    let parts = and_parts _ _ h in
    and_true _ _ parts.0 (is_above_more k l e found parts.1 more)

-- each key to come is above all that were found
abbrev IsBeyond : Members → Members → Type 0
IsBeyond found no_members = ⊤
IsBeyond found (member k d ms) = (is_above k found ≡ true) × IsBeyond found ms

beyond_more : (found : Members) (k : List ℕ) (d : Data) (ms : Members) → IsBeyond found ms → are_above k ms ≡ true → IsBeyond (joined found (member k d no_members)) ms
beyond_more found k d no_members h rise = tt
beyond_more found k d (member l e ms) h rise =
    let parts = and_parts _ _ rise in
    (is_above_more l k d found h.0 parts.0, beyond_more found k d ms h.1 parts.1)

beyond_none : (ms : Members) → IsBeyond no_members ms
beyond_none no_members = tt
beyond_none (member k d ms) = (refl, beyond_none ms)

number_read : (n : Num) → Fits n → of_json (outline (number n)) ≡ Some (number n)
number_read (unsigned n) h = ap (option_map number) (number_of-decimal n h)
number_read (negative (pos n)) h = absurd h
number_read (negative (negsuc n)) h = ap (option_map number) (number_of-negative n (omega arith))
number_read (float x) h = absurd h

mutual
  reads : (n : ℕ) (d : Data) → IsGood n d → of_json (outline d) ≡ Some d
  reads n null h = refl
  reads n (boolean b) h = refl
  reads n (number x) h = number_read x h
  reads n (string s) h = refl
  reads zero (array ds) h = absurd h
  reads (suc n) (array ds) h = ap (option_map array) (reads_items n ds h)
  reads zero (object ms) h = absurd h
  reads (suc n) (object ms) h = ap (option_map object) (reads_members n ms no_members h.0 h.1 (beyond_none ms))

  reads_items : (n : ℕ) (ds : Items) → AreGood n ds → of_items (items_outline ds) ≡ Some ds
  reads_items n no_items h = refl
  reads_items n (item d ds) h =
      ap (option_and_then (λ e. option_map (item e) (of_items (items_outline ds)))) (reads n d h.0)
      ∙ ap (option_map (item d)) (reads_items n ds h.1)

  reads_members : (n : ℕ) (ms found : Members) → HaveGood n ms → is_rising ms ≡ true → IsBeyond found ms → of_members (members_outline ms) found ≡ Some (joined found ms)
  reads_members n no_members found h rise beyond = joined_none found
  reads_members n (member k d ms) found h rise beyond =
      let parts = and_parts _ _ rise in
      ap (option_and_then (λ e. of_members (members_outline ms) (put k e found))) (reads n d h.0)
      ∙ ap (of_members (members_outline ms)) (put_last k d found beyond.0)
      ∙ reads_members n ms (joined found (member k d no_members)) h.1 parts.1 (beyond_more found k d ms beyond.1 parts.0)
      ∙ ap Some (joined_more found k d ms)

abbrev whole : Option (json.Json × List Token) → Option Data
whole o = option_and_then of_json (option_and_then (λ p. json.if_last p.0 p.1) o)

pub read_back : (n : ℕ) (d : Data) → n ≤ max_depth → IsGood n d → read (compact_text d) ≡ Some d
read_back n d small good =
    let same : tokens (compact_text d) ≡ json_tokens (outline d) =
    ap tokens (sym (print-outline d)) ∙ tokens-print (json_tokens (outline d)) (ArePrintable-json_tokens (outline d) (has_numbers n d good)) in
    ap whole (ap (json.value max_depth) (same ∙ sym (append-nil _)) ∙ value-json_tokens (outline d) max_depth [] (omega (arith, is_shallow n d good)))
    ∙ reads n d good

-- ---- lists

pub all_good : {T : Type 0} (n : ℕ) (value : T → Data) (xs : List T) → ((x : T) → IsGood n (value x)) → AreGood n (items_of (map value xs))
all_good n value [] h = tt
all_good n value (x ∷ xs) h = (h x, all_good n value xs h)
