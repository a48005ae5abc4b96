-- Each kind of a flow's tables is sure: identifiers, versions, fields, bodies, places.
use Rattle.std.proofs.Common.{◌≡◌, ◌∙◌, ℕ, ℤ, pos, Bool, true, false, List, [], ◌∷◌, refl, sym, ap, ap₂, subst, arith, inl, inr, decimal, length, get_or, position}
use Rattle.std.proofs.lemmas.Fmt.{decimal_injective}
use Rattle.px_tnet.specs.Tree.{Tree, blob, int, bool, null, list, dict, Trees, no_tree, tree}
use Rattle.px_tnet.specs.Tree as of
use Rattle.px_message.proofs.AddressLemmas.{address_eq}
use Rattle.px_message.specs.declared.flow.FlowId.{FlowId}
use Rattle.px_message.specs.declared.flow.Replayed.{Replayed}
use Rattle.px_message.specs.declared.flow.Replayed.TheVariants as replayed
use Rattle.px_message.specs.declared.version.Version.{Version}
use Rattle.px_message.specs.declared.version.Version.TheVariants as version
use Rattle.px_message.specs.Valid.{is_field}
use Rattle.px_flowfile.specs.Ends.{IsPlace, place, place_tree}
use Rattle.px_flowfile.specs.Kind.{Kind}
use Rattle.px_flowfile.specs.Message.{AreRead, FirstIsRefused, each, field, field_tree, headers, trailers, content}
use Rattle.px_flowfile.specs.Simple.{Any, IsId, id_text, flow_id, replay, replay_tree, http_version, version_text}
use Rattle.px_flowfile.specs.declared.held.Held.{Held}
use Rattle.px_flowfile.specs.declared.key.Key.{Key}
use Rattle.px_flowfile.specs.declared.error.FlowFileError.{FlowFileError}
use Rattle.px_flowfile.proofs.IdLemmas.{is_dot, id_dot, id_front, id_back}
use Rattle.px_flowfile.proofs.KindLaws.{Sure, sure_plain, sure_shown}
use Rattle.px_flowfile.proofs.SureLemmas.{one_blob, one_text, one_pos}

abbrev is_null : Tree → Bool
is_null null = true
is_null t = false

abbrev is_blob : Tree → Bool
is_blob (blob b) = true
is_blob t = false

abbrev text_in : Tree → List ℕ
text_in (of.text b) = b
text_in t = []

null_no_text : (b : List ℕ) → ¬ (null ≡ of.text b)
null_no_text b h = let e : true ≡ false = ap is_null h in cc

replay_one : (a b : Replayed) → replay_tree a ≡ replay_tree b → a ≡ b
replay_one replayed.No replayed.No h = refl
replay_one replayed.No replayed.Request h = absurd (null_no_text _ h)
replay_one replayed.No replayed.Response h = absurd (null_no_text _ h)
replay_one replayed.Request replayed.No h = absurd (null_no_text _ (sym h))
replay_one replayed.Request replayed.Request h = refl
replay_one replayed.Request replayed.Response h = absurd (let e : 7 ≡ 8 = ap (λ t. length (text_in t)) h in omega arith)
replay_one replayed.Response replayed.No h = absurd (null_no_text _ (sym h))
replay_one replayed.Response replayed.Request h = absurd (let e : 8 ≡ 7 = ap (λ t. length (text_in t)) h in omega arith)
replay_one replayed.Response replayed.Response h = refl

replay_apart : (name : Key) (t : Tree) (a : Replayed) (e : FlowFileError) → t ≡ replay_tree a → ¬ (replay.Refuses name t e)
replay_apart name t replayed.No e h (inl bad) = bad.1 h
replay_apart name t replayed.No e h (inr bad) = null_no_text bad.1.0 (sym h ∙ bad.1.1)
replay_apart name t replayed.Request e h (inl bad) = bad.2 _ h
replay_apart name t replayed.Request e h (inr bad) = bad.1.2 (one_text _ _ (sym bad.1.1 ∙ h))
replay_apart name t replayed.Response e h (inl bad) = bad.2 _ h
replay_apart name t replayed.Response e h (inr bad) = bad.1.3 (one_text _ _ (sym bad.1.1 ∙ h))

replay_cause : (name : Key) (t : Tree) (e d : FlowFileError) → replay.Refuses name t e → replay.Refuses name t d → e ≡ d
replay_cause name t e d (inl h) (inl g) = h.0 ∙ sym g.0
replay_cause name t e d (inl h) (inr g) = absurd (h.2 g.1.0 g.1.1)
replay_cause name t e d (inr h) (inl g) = absurd (g.2 h.1.0 h.1.1)
replay_cause name t e d (inr h) (inr g) = h.0 ∙ sym g.0

pub sure_replay : Sure replay
sure_replay = record { one = λ t a b h g. replay_one a b (sym h ∙ g); apart = replay_apart; cause = replay_cause }

version_one : (a b : Version) → version_text a ≡ version_text b → a ≡ b
version_one version.Http10 version.Http10 h = refl
version_one version.Http11 version.Http11 h = refl
version_one version.Http10 version.Http11 h = absurd (let e : 48 ≡ 49 = ap (λ (l : List ℕ). get_or l 7 0) h in omega arith)
version_one version.Http11 version.Http10 h = absurd (let e : 49 ≡ 48 = ap (λ (l : List ℕ). get_or l 7 0) h in omega arith)

pub sure_version : Sure http_version
sure_version = sure_shown blob version_text Any one_blob (λ a b _ _ h. version_one a b h)

id_one : (a b : FlowId) → IsId a → IsId b → id_text a ≡ id_text b → a ≡ b
id_one a b small less h =
    let text = id_text a in
    let r = position is_dot text in
    let n = length (decimal a.conv) in
    let at = id_dot text a small refl r refl in
    let conv : a.conv ≡ b.conv =
    decimal_injective a.conv b.conv (let x = small.0 in omega arith) (let x = less.0 in omega arith)
    (sym (id_front text a small refl r n refl at) ∙ id_front text b less h r n refl at) in
    let index : a.index ≡ b.index =
    decimal_injective a.index b.index (let x = small.1 in omega arith) (let x = less.1 in omega arith)
    (sym (id_back text a small refl r n refl at) ∙ id_back text b less h r n refl at) in
    λ i. record { conv = conv i; index = index i }

pub sure_id : Sure flow_id
sure_id = sure_shown of.text id_text IsId one_text id_one

module _ {A : Type 0} (kind : Kind A) (sure : Sure kind) where
  each_one : (ts : Trees) (xs ys : List A) → AreRead kind ts xs → AreRead kind ts ys → xs ≡ ys
  each_one no_tree [] [] h g = refl
  each_one no_tree [] (y ∷ ys) h g = absurd g
  each_one no_tree (x ∷ xs) ys h g = absurd h
  each_one (tree t ts) [] ys h g = absurd h
  each_one (tree t ts) (x ∷ xs) [] h g = absurd g
  each_one (tree t ts) (x ∷ xs) (y ∷ ys) h g = ap₂ (λ (z : A) (zs : List A). z ∷ zs) (sure.one t x y h.0 g.0) (each_one ts xs ys h.1 g.1)

  each_apart : (name : Key) (ts : Trees) (xs : List A) (e : FlowFileError) → AreRead kind ts xs → ¬ (FirstIsRefused kind name ts e)
  each_apart name no_tree xs e h bad = bad
  each_apart name (tree t ts) [] e h bad = h
  each_apart name (tree t ts) (x ∷ xs) e h (inl bad) = sure.apart name t x e h.0 bad
  each_apart name (tree t ts) (x ∷ xs) e h (inr bad) = each_apart name ts xs e h.1 bad.1

  each_cause : (name : Key) (ts : Trees) (e d : FlowFileError) → FirstIsRefused kind name ts e → FirstIsRefused kind name ts d → e ≡ d
  each_cause name no_tree e d h g = absurd h
  each_cause name (tree t ts) e d (inl h) (inl g) = sure.cause name t e d h g
  each_cause name (tree t ts) e d (inl h) (inr g) = absurd (sure.apart name t g.0.0 e g.0.1 h)
  each_cause name (tree t ts) e d (inr h) (inl g) = absurd (sure.apart name t h.0.0 d h.0.1 g)
  each_cause name (tree t ts) e d (inr h) (inr g) = each_cause name ts e d h.1 g.1

abbrev trees_in : Tree → Trees
trees_in (list ts) = ts
trees_in t = no_tree

module _ {A : Type 0} (kind : Kind A) (sure : Sure kind) where
  list_apart : (name : Key) (t : Tree) (xs : List A) (e : FlowFileError) → (each kind).Reads t xs → ¬ ((each kind).Refuses name t e)
  list_apart name t xs e h (inl bad) = bad.1 h.0 h.1
  list_apart name t xs e h (inr bad) =
      let P : Trees → Type 0 = λ ts. FirstIsRefused kind name ts e in
      each_apart kind sure name h.0 xs e h.2 (subst P (ap trees_in (sym bad.1 ∙ h.1)) bad.2)

  list_cause : (name : Key) (t : Tree) (e d : FlowFileError) → (each kind).Refuses name t e → (each kind).Refuses name t d → e ≡ d
  list_cause name t e d (inl h) (inl g) = h.0 ∙ sym g.0
  list_cause name t e d (inl h) (inr g) = absurd (h.1 g.0 g.1)
  list_cause name t e d (inr h) (inl g) = absurd (g.1 h.0 h.1)
  list_cause name t e d (inr h) (inr g) =
      let P : Trees → Type 0 = λ ts. FirstIsRefused kind name ts d in
      each_cause kind sure name h.0 e d h.2 (subst P (ap trees_in (sym g.1 ∙ h.1)) g.2)

  pub sure_each : Sure (each kind)
  sure_each = record {
    one = λ t xs ys h g. each_one kind sure h.0 xs ys h.2 (let P : Trees → Type 0 = λ ts. AreRead kind ts ys in subst P (ap trees_in (sym g.1 ∙ h.1)) g.2);
    apart = list_apart;
    cause = list_cause;
  }

abbrev first_in : Tree → Tree
first_in (list (tree a ts)) = a
first_in t = t

abbrev second_in : Tree → Tree
second_in (list (tree a (tree b ts))) = b
second_in t = t

field_one : (f g : List ℕ × List ℕ) → field_tree f ≡ field_tree g → f ≡ g
field_one f g h =
    ap₂ (λ (n v : List ℕ). (n, v)) (one_blob f.0 g.0 (ap first_in h)) (one_blob f.1 g.1 (ap second_in h))

pub sure_headers : Sure headers
sure_headers = sure_each field (sure_plain field_tree (λ f. is_field f ≡ true) field_one)

null_no_list : (ts : Trees) → ¬ (null ≡ list ts)
null_no_list ts h = let e : true ≡ false = ap is_null h in cc

trailers_one : (t : Tree) (a b : List (List ℕ × List ℕ)) → trailers.Reads t a → trailers.Reads t b → a ≡ b
trailers_one t a b (inl h) (inl g) = h.1 ∙ sym g.1
trailers_one t a b (inl h) (inr g) = absurd (null_no_list g.0 (sym h.0 ∙ g.1))
trailers_one t a b (inr h) (inl g) = absurd (null_no_list h.0 (sym g.0 ∙ h.1))
trailers_one t a b (inr h) (inr g) = sure_headers.one t a b h g

trailers_apart : (name : Key) (t : Tree) (a : List (List ℕ × List ℕ)) (e : FlowFileError) → trailers.Reads t a → ¬ (trailers.Refuses name t e)
trailers_apart name t a e (inl h) bad = bad.0 h.0
trailers_apart name t a e (inr h) bad = sure_headers.apart name t a e h bad.1

pub sure_trailers : Sure trailers
sure_trailers = record { one = trailers_one; apart = trailers_apart; cause = λ name t e d h g. sure_headers.cause name t e d h.1 g.1 }

null_no_blob : (b : List ℕ) → ¬ (null ≡ blob b)
null_no_blob b h = let e : true ≡ false = ap is_null h in cc

same_held : (a b : Held) → a.streamed ≡ b.streamed → a.body ≡ b.body → a ≡ b
same_held a b streamed body = λ i. record { streamed = streamed i; body = body i }

content_one : (t : Tree) (a b : Held) → content.Reads t a → content.Reads t b → a ≡ b
content_one t a b (inl h) (inl g) = same_held a b (h.1 ∙ sym g.1) (h.2 ∙ sym g.2)
content_one t a b (inl h) (inr g) = absurd (null_no_blob b.body (sym h.0 ∙ g.0))
content_one t a b (inr h) (inl g) = absurd (null_no_blob a.body (sym g.0 ∙ h.0))
content_one t a b (inr h) (inr g) = same_held a b (h.1 ∙ sym g.1) (one_blob a.body b.body (sym h.0 ∙ g.0))

content_apart : (name : Key) (t : Tree) (a : Held) (e : FlowFileError) → content.Reads t a → ¬ (content.Refuses name t e)
content_apart name t a e (inl h) bad = bad.1 h.0
content_apart name t a e (inr h) bad = bad.2 a.body h.0

pub sure_content : Sure content
sure_content = record { one = content_one; apart = content_apart; cause = λ name t e d h g. h.0 ∙ sym g.0 }

abbrev number_in : Tree → ℤ
number_in (int n) = n
number_in t = pos 0

place_one : (p q : List ℕ × ℤ) → place_tree p ≡ place_tree q → p ≡ q
place_one p q h =
    ap₂ (λ (n : List ℕ) (v : ℤ). (n, v)) (one_blob p.0 q.0 (ap first_in h)) (ap (λ t. number_in (second_in t)) h)

pub sure_place : Sure place
sure_place = sure_shown place_tree (λ a. (a.host, pos a.port)) IsPlace place_one
    (λ a b _ _ h. address_eq a b (ap (λ (p : List ℕ × ℤ). p.0) h) (one_pos a.port b.port (ap (λ (p : List ℕ × ℤ). p.1) h)))

pub null_no_int : (n : ℤ) → ¬ (null ≡ int n)
null_no_int n h = let e : true ≡ false = ap is_null h in cc
