-- The target of a request is read as what it was written for.
use Rattle.std.proofs.Common.{ℕ, ◌<◌, ◌^◌, ◌≡◌, ◌≢◌, ◌==◌, ◌&&◌, ◌||◌, Bool, true, false, List, refl, ap, ◌∙◌, inl, inr, Option, Some, None}
use Rattle.std.specs.Prelude.{bytes_eq, codes, slice_index, if◌then◌else◌}
use Rattle.std.specs.List.{list_all}
use Rattle.std.specs.Option.{option_map}
use Rattle.std.proofs.lemmas.Bool.{cases_Bool}
use Rattle.std.proofs.lemmas.Slice.Eq.{bytes_eq-Decides}
use Rattle.px_message.specs.Host.{IsHost}
use Rattle.px_message.specs.Path.{is_path, is_path_byte}
use Rattle.px_message.specs.Target.{Form, absolute, absolute_form, asterisk, authority, authority_form, origin, path_form, target_form}
use Rattle.px_message.specs.Url.{url_text}
use Rattle.px_message.proofs.UrlLemmas.{absolute_form-url_text}

not_connect : (method : List ℕ) → method ≢ codes "CONNECT" → bytes_eq method (codes "CONNECT") ≡ false
not_connect method other = elim (cases_Bool (bytes_eq method (codes "CONNECT"))) [
  | inl same ↦ absurd (other ((bytes_eq-Decides method (codes "CONNECT")).0 same))
  | inr none ↦ none
]

pub origin-back : (method path : List ℕ) → method ≢ codes "CONNECT" → is_path path ≡ true
    → target_form method path ≡ Some (if bytes_eq path (codes "*") then asterisk else origin path)
unfolding target_form path_form
origin-back method path other valid =
    by_tests (bytes_eq method (codes "CONNECT")) (bytes_eq path (codes "*")) (slice_index path 0 == 47) (list_all is_path_byte path)
    (is_path path) _ _ (not_connect method other) valid valid
  where
    by_tests : (connect star slash all path_so : Bool) (tunnel url : Option Form) → connect ≡ false → (star || (slash && all)) ≡ true
        → path_so ≡ true
        → (if connect then tunnel else (if star then Some asterisk
        else (if slash then option_map origin (if path_so then Some path else None) else url)))
        ≡ Some (if star then asterisk else origin path)
    by_tests true star slash all path_so tunnel url none valid so = absurd (let e = none in cc)
    by_tests false true slash all path_so tunnel url none valid so = refl
    by_tests false false true all true tunnel url none valid so = refl
    by_tests false false true all false tunnel url none valid so = absurd (let e = so in cc)
    by_tests false false false all path_so tunnel url none valid so = absurd (let e = valid in cc)

pub absolute-back : (method host path : List ℕ) (port : ℕ) → method ≢ codes "CONNECT" → IsHost host → is_path path ≡ true
    → path ≢ codes "*" → 0 < port → port < 2 ^ 16
    → target_form method (url_text host port path) ≡ Some (absolute host port path)
unfolding target_form
absolute-back method host path port other held valid named low high =
    let text = url_text host port path in
    ap (λ (connect : Bool). if connect then option_map (λ a. authority a.0 a.1) (authority_form text)
    else option_map (λ a. absolute a.0 a.1 a.2) (absolute_form text)) (not_connect method other)
    ∙ ap (λ (found : Option (List ℕ × ℕ × List ℕ)). option_map (λ a. absolute a.0 a.1 a.2) found)
    (absolute_form-url_text host path port held valid named low high)
