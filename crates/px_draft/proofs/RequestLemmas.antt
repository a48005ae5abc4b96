-- A request that a call gave another method, or another URL.
use Rattle.std.proofs.Common.{◌≡◌, ◌∙◌, ℕ, zero, suc, Bool, true, false, List, bytes_eq, codes, Some, None, refl, sym, ap, subst}
use Rattle.std.proofs.lemmas.Slice.Eq.{bytes_eq-Decides}
use Rattle.px_message.specs.Request.{IsSameButMethod}
use Rattle.px_message.specs.Target.{absolute_form}
use Rattle.px_message.specs.Url.{ChangesUrlOnly}
use Rattle.px_message.specs.declared.request.Request.{Request}
use Rattle.px_message.proofs.RequestLemmas.{request_eq}
use Rattle.px_draft.specs.Requests.{located, located_at, named_by, other_name, with_method, with_url}

named_is : (old new : Request) → IsSameButMethod old new → (same : Bool) (is : bytes_eq new.method (codes "CONNECT") ≡ same) → named_by old new.method same is ≡ Some new
named_is old new others true is = absurd (new.not_connect ((bytes_eq-Decides new.method (codes "CONNECT")).0 is))
named_is old new others false is =
    ap Some (request_eq _ new refl (sym others.host) (sym others.port) (sym others.path) (sym others.version) (sym others.fields) (sym others.body) (sym others.trailers) (sym others.streamed))

pub method_is : (old new : Request) (name : List ℕ) → new.method ≡ name → IsSameButMethod old new → with_method name old ≡ Some new
method_is old new name is others =
    let P : List ℕ → Type 0 = λ n. with_method n old ≡ Some new in
    subst P is (named_is old new others _ refl)

refused_by : (old : Request) (name : List ℕ) → name ≡ codes "CONNECT" → (same : Bool) (is : bytes_eq name (codes "CONNECT") ≡ same) → named_by old name same is ≡ None
refused_by old name connect true is = refl
refused_by old name connect false is = absurd (other_name name is connect)

pub no_method : (old : Request) (name : List ℕ) → name ≡ codes "CONNECT" → with_method name old ≡ None
no_method old name connect = refused_by old name connect _ refl

located_is : (old new : Request) (host : List ℕ) (port : ℕ) (path : List ℕ) → new.host ≡ host → new.port ≡ port → new.path ≡ path → ChangesUrlOnly old new
    → located_at old host port path ≡ Some new
located_is old new host zero path is_host is_port is_path others = absurd (new.port_not_zero is_port)
located_is old new host (suc below) path is_host is_port is_path others =
    ap Some (request_eq _ new (sym others.method) (sym is_host) (sym is_port) (sym is_path) (sym others.version) (sym others.fields) (sym others.body) (sym others.trailers) (sym others.streamed))

pub url_is : (old new : Request) (text : List ℕ) → ChangesUrlOnly old new → absolute_form text ≡ Some (new.host, new.port, new.path) → with_url text old ≡ Some new
url_is old new text others form = ap (located old) form ∙ located_is old new new.host new.port new.path refl refl refl others
