-- A host and a port in a list.
use Rattle.std.proofs.Common.{◌≡◌, ◌∙◌, ℕ, ℤ, pos, List, ◌⊎◌, inl, inr, sym, ap, ap₂, subst}
use Rattle.px_message.specs.Host.{IsHost}
use Rattle.px_message.specs.declared.address.Address.{Address}
use Rattle.px_tnet.specs.Tree.{Tree, blob, list, tree, no_tree}
use Rattle.px_flowfile.specs.Ends.{place}
use Rattle.px_flowfile.specs.Simple.{port}
use Rattle.px_flowfile.specs.declared.key.Key.{Key}
use Rattle.px_flowfile.specs.declared.error.FlowFileError.{FlowFileError}
use Rattle.px_flowfile.specs.declared.error.FlowFileError.TheVariants as error

abbrev two : Tree → Tree → Tree
two a b = list (tree a (tree b no_tree))

abbrev first_in : Tree → Tree
first_in (list (tree a ts)) = a
first_in t = t

abbrev second_in : Tree → Tree
second_in (list (tree a (tree b ts))) = b
second_in t = t

abbrev Refused : Key → Tree → FlowFileError → Type 0
Refused name t e = (e ≡ error.NoMemory) ⊎ place.Refuses name t e

pub no_host : (name : Key) (t a b : Tree) (e : FlowFileError) → t ≡ two a b → (e ≡ error.WrongKind name) × ((h : List ℕ) → ¬ (a ≡ blob h)) → Refused name t e
no_host name t a b e is bad = inr (inl (bad.0, λ p h. bad.1 p.0 (ap first_in (sym is ∙ h))))

pub bad_port : (name : Key) (t a b : Tree) (h : List ℕ) (e : FlowFileError) → t ≡ two a b → a ≡ blob h
    → (e ≡ error.NoMemory) ⊎ port.Refuses name b e → Refused name t e
bad_port name t a b h e is host (inl full) = inl full
bad_port name t a b h e is host (inr (inl bad)) = inr (inl (bad.0, λ p g. bad.1 p.1 (ap second_in (sym is ∙ g))))
bad_port name t a b h e is host (inr (inr bad)) =
    inr (inr (bad.0, ((h, bad.1.0), is ∙ ap₂ two host bad.1.1, λ x good same. bad.1.2 x.port good.1 (ap (λ (p : List ℕ × ℤ). p.1) same))))

pub bad_host : (name : Key) (t a b : Tree) (h : List ℕ) (n : ℕ) (e : FlowFileError) → t ≡ two a b → a ≡ blob h → port.Reads b n
    → (e ≡ error.NoMemory) ⊎ ((e ≡ error.BadMessage name) × (¬ (IsHost h))) → Refused name t e
bad_host name t a b h n e is host read (inl full) = inl full
bad_host name t a b h n e is host read (inr bad) =
    inr (inr (
      bad.0,
      (
        (h, pos n),
        is ∙ ap₂ two host read.0,
        λ x good same. bad.1 (subst IsHost (sym (ap (λ (p : List ℕ × ℤ). p.0) same)) good.0),
      ),
    ))

pub place_read : (t a b : Tree) (h : List ℕ) (x : Address) → t ≡ two a b → a ≡ blob h → IsHost h → x.host ≡ h → port.Reads b x.port → place.Reads t x
place_read t a b h x is host good same read =
    (is ∙ ap₂ two (host ∙ ap blob (sym same)) read.0, (subst IsHost (sym same) good, read.1))
