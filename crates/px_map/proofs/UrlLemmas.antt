-- URLs of requests, and their field Host.
use Rattle.std.proofs.Common.{◌≡◌, ◌≢◌, ◌^◌, ◌<◌, ℕ, zero, suc, Bool, true, false, ◌==◌, if◌then◌else◌, List, [], ◌∷◌, get_or, decimal, bytes_eq, Some, None, refl, sym, ap, ◌∙◌, arith}
use Rattle.std.proofs.lemmas.Bool.{and_from}
use Rattle.std.proofs.lemmas.Bool.Decides.{nat_tests}
use Rattle.std.proofs.lemmas.List.Elements.{All-from_get_or}
use Rattle.std.proofs.lemmas.List.Folds.{list_all-append}
use Rattle.std.proofs.lemmas.List.Sums.{list_all-from_AllPass}
use Rattle.std.proofs.lemmas.Slice.Eq.{bytes_eq-Decides}
use Rattle.http_uri.specs.ByteClasses.{is_authority_byte}
use Rattle.px_message.specs.Host.{IsHost}
use Rattle.px_message.specs.Target.{absolute_form}
use Rattle.px_message.specs.Url.{ChangesUrlOnly, port_suffix}
use Rattle.px_message.specs.Value.{is_value, is_value_byte}
use Rattle.px_message.specs.declared.flow.Flow.{Flow}
use Rattle.px_message.specs.declared.request.Request.{Request}
use Rattle.px_message.proofs.DecimalLemmas.{decimal_is_value}
use Rattle.px_message.proofs.RequestLemmas.{request_eq}
use Rattle.px_map.specs.Remote.{with_request, with_url}
use Rattle.px_map.specs.Url.{IsSameButFields, host_text, hosted, moved, moved_to, url_of}

-- ---- the field Host

host_byte : (b : ℕ) → is_authority_byte b ≡ true → is_value_byte b ≡ true
host_byte b h = grind (arith, nat_tests)

host_is_value : (host : List ℕ) → IsHost host → is_value host ≡ true
host_is_value host h =
    list_all-from_AllPass is_value_byte host
    (All-from_get_or (λ b. is_value_byte b ≡ true) host 0 (λ k less. host_byte (get_or host k 0) (h.authority.bytes k less).byte))

port_is_value : (port : ℕ) → port < 2 ^ 16 → is_value (port_suffix port) ≡ true
port_is_value port small = by_test (port == 80)
  where
    by_test : (b : Bool) → is_value (if b then [] else 58 ∷ decimal port) ≡ true
    by_test true = refl
    by_test false = decimal_is_value port (omega (arith, small))

pub host_text_is_value : (host : List ℕ) (port : ℕ) → IsHost host → port < 2 ^ 16 → is_value (host_text host port) ≡ true
host_text_is_value host port is_host small =
    list_all-append is_value_byte host (port_suffix port) ∙ and_from _ _ (host_is_value host is_host) (port_is_value port small)

-- ---- another URL

moved_to_is : (old new : Request) (host : List ℕ) (port : ℕ) (path : List ℕ) →
    new.method ≡ old.method → new.host ≡ host → new.port ≡ port → new.path ≡ path → new.version ≡ old.version →
    new.fields ≡ hosted host port old.fields → new.body ≡ old.body → new.trailers ≡ old.trailers → new.streamed ≡ old.streamed →
    moved_to old host port path ≡ Some new
moved_to_is old new host zero path method is_host is_port is_path version fields body trailers streamed = absurd (new.port_not_zero is_port)
moved_to_is old new host (suc below) path method is_host is_port is_path version fields body trailers streamed =
    ap Some (request_eq _ new (sym method) (sym is_host) (sym is_port) (sym is_path) (sym version) (sym fields) (sym body) (sym trailers) (sym streamed))

-- the copy was given the URL, and then its field Host
pub moved_by : (old set new : Request) (url : List ℕ) → ChangesUrlOnly old set → absolute_form url ≡ Some (set.host, set.port, set.path) →
    new.fields ≡ hosted set.host set.port set.fields → IsSameButFields set new → moved old (absolute_form url) ≡ Some new
moved_by old set new url others form fields same =
    ap (moved old) form
    ∙ moved_to_is old new set.host set.port set.path
    (same.method ∙ others.method) same.host same.port same.path (same.version ∙ others.version)
    (fields ∙ ap (hosted set.host set.port) others.fields) (same.body ∙ others.body) (same.trailers ∙ others.trailers) (same.streamed ∙ others.streamed)

pub not_moved : (old : Request) (url : List ℕ) → absolute_form url ≡ None → moved old (absolute_form url) ≡ None
not_moved old url form = ap (moved old) form

-- ---- the flow with it

other_url : (text url : List ℕ) → text ≢ url → bytes_eq text url ≡ false
other_url text url other = by_test (bytes_eq text url) refl
  where
    by_test : (b : Bool) → bytes_eq text url ≡ b → b ≡ false
    by_test false h = refl
    by_test true h = absurd (other ((bytes_eq-Decides text url).0 h))

pub same_url : (flow : Flow) (text : List ℕ) → text ≡ url_of flow.request → with_url flow text ≡ Some flow
same_url flow text same =
    let yes : bytes_eq text (url_of flow.request) ≡ true = (bytes_eq-Decides text (url_of flow.request)).1 same in
    rw yes

pub new_url : (flow : Flow) (text : List ℕ) (request : Request) → text ≢ url_of flow.request → moved flow.request (absolute_form text) ≡ Some request →
    with_url flow text ≡ Some (with_request flow request)
new_url flow text request other is = rw (other_url text (url_of flow.request) other, is)

pub no_url : (flow : Flow) (text : List ℕ) → text ≢ url_of flow.request → moved flow.request (absolute_form text) ≡ None → with_url flow text ≡ None
no_url flow text other is = rw (other_url text (url_of flow.request) other, is)
