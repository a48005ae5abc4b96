-- Lists of texts.
use Rattle.std.proofs.Common.{◌≡◌, ℕ, zero, suc, ◌+◌, ◌<◌, List, [], ◌∷◌, ◌++◌, length, take, get_or, Option, Some, None, refl, sym, ap, ◌∙◌, arith}
use Rattle.std.proofs.lemmas.List.{take_more}
use Rattle.toml.specs.Data.{Data, Items, no_items, item, as_str, push_item}
use Rattle.toml.specs.View.{view, items_view}
use Rattle.toml.specs.declared.value.Value.{Value}
use Rattle.toml.proofs.Views.{items_view-push}
use Rattle.px_options.specs.Refused.{IsTextMore}
use Rattle.px_options.specs.Rules.{texts_in, with_text}

-- one text behind others
abbrev and_text : Option (List (List ℕ)) → Option (List ℕ) → Option (List (List ℕ))
and_text (Some texts) (Some text) = Some (texts ++ text ∷ [])
and_text _ _ = None

first_text : (o : Option (List ℕ)) → with_text o (Some []) ≡ and_text (Some []) o
first_text None = refl
first_text (Some t) = refl

around : (o : Option (List ℕ)) (ts : Option (List (List ℕ))) (p : Option (List ℕ)) → with_text o (and_text ts p) ≡ and_text (with_text o ts) p
around None None None = refl
around None None (Some t) = refl
around None (Some ts) None = refl
around None (Some ts) (Some t) = refl
around (Some u) None None = refl
around (Some u) None (Some t) = refl
around (Some u) (Some ts) None = refl
around (Some u) (Some ts) (Some t) = refl

texts_in-push : (items : Items) (d : Data) → texts_in (push_item items d) ≡ and_text (texts_in items) (as_str d)
texts_in-push no_items d = first_text (as_str d)
texts_in-push (item e items) d = ap (with_text (as_str e)) (texts_in-push items d) ∙ around (as_str e) (texts_in items) (as_str d)

and_both : (ts : Option (List (List ℕ))) (t : Option (List ℕ)) (before : List (List ℕ)) (text : List ℕ) → ts ≡ Some before → t ≡ Some text → and_text ts t ≡ Some (before ++ text ∷ [])
and_both ts t before text a b = rw (a, b) refl

-- the texts of one value more
pub one_text : (vs : List Value) (i : ℕ) (v : Value) (before after : List (List ℕ)) → i < length vs → v ≡ get_or vs i v
    → texts_in (items_view (take i vs)) ≡ Some before → IsTextMore (view v) before after → texts_in (items_view (take (i + 1) vs)) ≡ Some after
one_text vs i v before after within is so_far (text, is_text, is_after) =
    ap (λ xs. texts_in (items_view xs)) (take_more vs i v within ∙ ap (λ x. take i vs ++ x ∷ []) (sym is))
    ∙ ap texts_in (items_view-push (take i vs) v) ∙ texts_in-push (items_view (take i vs)) (view v)
    ∙ and_both (texts_in (items_view (take i vs))) (as_str (view v)) before text so_far is_text ∙ ap Some (sym is_after)

with_none : (o : Option (List ℕ)) → with_text o None ≡ None
with_none None = refl
with_none (Some t) = refl

no_first : (o : Option (List ℕ)) (ts : Option (List (List ℕ))) → o ≡ None → with_text o ts ≡ None
no_first None ts e = refl
no_first (Some t) ts e = absurd (cc)

-- a value that is no text
pub no_text : (vs : List Value) (i : ℕ) (v : Value) → i < length vs → v ≡ get_or vs i v → as_str (view v) ≡ None → texts_in (items_view vs) ≡ None
no_text [] i v within is none = absurd (omega arith)
no_text (x ∷ vs) zero v within is none = no_first (as_str (view x)) (texts_in (items_view vs)) (ap (λ y. as_str (view y)) (sym is) ∙ none)
no_text (x ∷ vs) (suc i) v within is none =
    ap (with_text (as_str (view x))) (no_text vs i v (omega arith) is none) ∙ with_none (as_str (view x))
