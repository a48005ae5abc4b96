-- Two requests of the same parts are one value, whatever the proofs in them.
use Rattle.std.proofs.Common.{◌≡◌, ◌≢◌, ◌∙◌, ℕ, Bool, codes, ap, subst, sym}
use Rattle.px_message.specs.declared.body.Body.{Body}
use Rattle.px_message.specs.declared.fields.Fields.{Fields}
use Rattle.px_message.specs.declared.host.Host.{Host}
use Rattle.px_message.specs.declared.name.Name.{Name}
use Rattle.px_message.specs.declared.path.Path.{Path}
use Rattle.px_message.specs.declared.request.Request.{Request}
use Rattle.px_message.specs.declared.version.Version.{Version}

-- the parts of a request without the proofs in it
record Parts : Type 0 where
  method : Name
  host : Host
  port : ℕ
  path : Path
  version : Version
  fields : Fields
  body : Body
  trailers : Fields
  streamed : Bool

abbrev parts : Request → Parts
parts r = record {
  method = r.method;
  host = r.host;
  port = r.port;
  path = r.path;
  version = r.version;
  fields = r.fields;
  body = r.body;
  trailers = r.trailers;
  streamed = r.streamed;
}

abbrev whole : (p : Parts) → p.method ≢ codes "CONNECT" → p.port ≢ 0 → Request
whole p not_connect port_not_zero = record {
  method = p.method;
  host = p.host;
  port = p.port;
  path = p.path;
  version = p.version;
  fields = p.fields;
  body = p.body;
  trailers = p.trailers;
  streamed = p.streamed;
  not_connect = not_connect;
  port_not_zero = port_not_zero;
}

whole_by_proofs : (p : Parts) (c d : p.method ≢ codes "CONNECT") (m n : p.port ≢ 0) → whole p c m ≡ whole p d n
whole_by_proofs p c d m n =
    let one_method : IsProp (p.method ≢ codes "CONNECT") = hlevel in
    let one_port : IsProp (p.port ≢ 0) = hlevel in
    ap (λ (proof : p.method ≢ codes "CONNECT"). whole p proof m) (one_method c d)
    ∙ ap (λ (proof : p.port ≢ 0). whole p d proof) (one_port m n)

same_whole : (b : Request) (p : Parts) → p ≡ parts b → (c : p.method ≢ codes "CONNECT") (n : p.port ≢ 0) → whole p c n ≡ b
same_whole b p same =
    let P : Parts → Type 0 = λ q. (c : q.method ≢ codes "CONNECT") (n : q.port ≢ 0) → whole q c n ≡ b in
    subst P (sym same) (λ c n. whole_by_proofs (parts b) c b.not_connect n b.port_not_zero)

pub request_eq : (a b : Request) →
    a.method ≡ b.method → a.host ≡ b.host → a.port ≡ b.port → a.path ≡ b.path → a.version ≡ b.version →
    a.fields ≡ b.fields → a.body ≡ b.body → a.trailers ≡ b.trailers → a.streamed ≡ b.streamed → a ≡ b
request_eq a b method host port path version fields body trailers streamed =
    let same : parts a ≡ parts b = cc in
    same_whole b (parts a) same a.not_connect a.port_not_zero
