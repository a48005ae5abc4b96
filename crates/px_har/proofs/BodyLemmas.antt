-- The content of a response by whether its body is UTF-8.
use Rattle.std.specs.Prelude.{codes, length, IsUtf8, if◌then◌else◌}
use Rattle.std.specs.Str.{is_utf8}
use Rattle.std.proofs.Common.{◌≡◌, ℕ, List, Bool, true, false, refl, sym, ap, ◌∙◌}
use Rattle.std.proofs.lemmas.Str.{IsUtf8-from_is_utf8, is_utf8-from_IsUtf8}
use Rattle.serde_json.specs.Data.{Data, member, object, string}
use Rattle.px_har.specs.Entry.{body_value, content_text, content_with}
use Rattle.px_har.specs.Text.{base64_text}

not_true : (test : Bool) → (test ≡ true → ⊥) → test ≡ false
not_true true h = absurd (h refl)
not_true false h = refl

pub plain_body : (mime : Data) (body text : List ℕ) → text ≡ body → IsUtf8 body → object (content_with mime (length text) (content_text text)) ≡ body_value mime body
plain_body mime body text same utf8 =
    let encoded = object (member (codes "encoding") (string (codes "base64")) (content_with mime (length body) (content_text (base64_text body)))) in
    ap (λ (t : List ℕ). object (content_with mime (length t) (content_text t))) same
    ∙ sym (ap (λ (test : Bool). if test then object (content_with mime (length body) (content_text body)) else encoded) (is_utf8-from_IsUtf8 body utf8))

pub encoded_body : (mime : Data) (body : List ℕ) → ¬ (IsUtf8 body)
    → object (member (codes "encoding") (string (codes "base64")) (content_with mime (length body) (content_text (base64_text body)))) ≡ body_value mime body
encoded_body mime body other =
    let encoded = object (member (codes "encoding") (string (codes "base64")) (content_with mime (length body) (content_text (base64_text body)))) in
    sym (ap (λ (test : Bool). if test then object (content_with mime (length body) (content_text body)) else encoded)
    (not_true (is_utf8 body) (λ is. other (IsUtf8-from_is_utf8 body is))))
