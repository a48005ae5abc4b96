-- Values that are put one behind the other.
use Rattle.std.specs.Prelude.{Result, Ok, slice_get}
use Rattle.std.proofs.Common.{◌≡◌, ℕ, ◌+◌, List, [], ◌∷◌, ◌++◌, drop, get_or, Some, sym, ap, ◌∙◌, append_assoc, append-nil}
use Rattle.std.proofs.lemmas.List.{drop_more}
use Rattle.std.proofs.lemmas.Option.{get_or_from_slice_get, slice_get_within}
use Rattle.json.specs.Token.{Token}
use Rattle.json.specs.Written.{Writes, Written}
use Rattle.serde_json.specs.Data.{Data, Members, no_members}
use Rattle.px_har.specs.Puts.{Grew, IsFront, end_tokens, items_tokens, value_tokens}

-- What stands in the end, followed by what is still to come there, is what stood in the beginning, followed by what was to come then.
pub record Goes (old new : Written) (from to : List Token) : Type 0 where
  pub before : new.before ≡ old.before
  pub tokens : new.tokens ++ to ≡ old.tokens ++ from

infixr 40 ◌▸◌
pub ◌▸◌ : {a b c : Written} {x y z : List Token} → Goes a b x y → Goes b c y z → Goes a c x z
first ▸ second = record { before = second.before ∙ first.before; tokens = second.tokens ∙ first.tokens }

pub added : {old new : Written} {tokens rest : List Token} → Grew old new tokens → Goes old new (tokens ++ rest) rest
added {old} {tokens = tokens} {rest = rest} put = record {
  before = put.before;
  tokens = ap (λ l. l ++ rest) put.tokens ∙ append_assoc old.tokens tokens rest;
}

pub token : {E : Type 0} {x : Unit {0}} {old new : Written} {t : Token} {rest : List Token} → Writes {E = E} (Ok x) old new t → Goes old new (t ∷ rest) rest
token {old = old} {t = t} {rest = rest} put = record {
  before = put.room.0;
  tokens = ap (λ l. l ++ rest) put.ok ∙ append_assoc old.tokens (t ∷ []) rest;
}

pub in_front : {old new : Written} {front : Members → Members} (members : Members) → IsFront old new front
    → Goes old new (end_tokens (front members)) (end_tokens members)
in_front members put = record { before = put.before; tokens = put.tokens members }

pub last : {old new : Written} {tokens : List Token} → Grew old new tokens → Goes old new tokens []
last {new = new} put = record { before = put.before; tokens = append-nil new.tokens ∙ put.tokens }

pub all : {old new : Written} {tokens : List Token} → Goes old new tokens [] → Grew old new tokens
all {new = new} goes = record { before = goes.before; tokens = sym (append-nil new.tokens) ∙ goes.tokens }

pub a_front : {old new : Written} {front : Members → Members} → ((members : Members) → Goes old new (end_tokens (front members)) (end_tokens members))
    → IsFront old new front
a_front goes = record { before = (goes no_members).before; tokens = λ members. (goes members).tokens }

-- one item of a list more
pub one_more : {T : Type 0} (value : T → Data) (xs : List T) (i : ℕ) (x : T) (start old new : Written) → slice_get xs i ≡ Some x
    → Goes start old (items_tokens value xs) (items_tokens value (drop i xs)) → Grew old new (value_tokens (value x))
    → Goes start new (items_tokens value xs) (items_tokens value (drop (i + 1) xs))
one_more value xs i x start old new is stands put =
    let here : get_or xs i x ≡ x = get_or_from_slice_get xs i x x is in
    let next : drop i xs ≡ x ∷ drop (i + 1) xs = drop_more xs i x (slice_get_within xs i x is) ∙ ap (λ y. y ∷ drop (i + 1) xs) here in
    let more : Goes old new (value_tokens (value x) ++ items_tokens value (drop (i + 1) xs)) (items_tokens value (drop (i + 1) xs)) = added put in
    record {
      before = more.before ∙ stands.before;
      tokens = more.tokens ∙ ap (λ l. old.tokens ++ items_tokens value l) (sym next) ∙ stands.tokens;
    }
