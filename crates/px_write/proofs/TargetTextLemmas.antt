-- The target of a request, in either form, is one of the grammar of heads.
use Rattle.std.proofs.Common.{ℕ, zero, suc, ◌<◌, ◌^◌, ◌≡◌, ◌==◌, ◌&&◌, ◌||◌, Bool, true, false, cond, nat_lt, List, [], ◌∷◌, ◌++◌, length, refl, sym, subst, arith}
use Rattle.std.specs.Prelude.{All, IsUtf8, bytes_eq, codes, decimal, slice_index}
use Rattle.std.specs.Char.{digit_value}
use Rattle.std.specs.List.{list_all}
use Rattle.std.specs.Str.{IsAscii}
use Rattle.std.specs.Str.Parse.{AllDigits}
use Rattle.std.proofs.lemmas.Bool.Decides.{nat_tests}
use Rattle.std.proofs.lemmas.Fmt.{decimal_is_IsNumeral}
use Rattle.std.proofs.lemmas.List.Elements.{All-append, All-cons, All-from_get_or, All-head, All-nil, All-tail, All-weaker}
use Rattle.std.proofs.lemmas.List.Sums.{AllPass-from_list_all}
use Rattle.std.proofs.lemmas.Slice.Eq.{bytes_eq-Decides}
use Rattle.std.proofs.lemmas.Str.{IsUtf8-append, IsUtf8-from_ascii}
use Rattle.httparse.specs.Grammar.{AllPass, is_uri_byte}
use Rattle.http_uri.specs.ByteClasses.{is_authority_byte}
use Rattle.px_message.specs.Host.{IsHost}
use Rattle.px_message.specs.Path.{is_path, is_path_byte}
use Rattle.px_message.specs.Url.{port_suffix, url_path}
use Rattle.px_write.specs.Text.{target_text}
use Rattle.px_write.specs.declared.form.Form.{Form}
use Rattle.px_write.specs.declared.form.Form.TheVariants.{Origin, Absolute}

-- ---- texts of targets

-- bytes of targets, in UTF-8
pub record IsTargetText (text : List ℕ) : Type 0 where
  pub bytes : AllPass is_uri_byte text
  pub utf8 : IsUtf8 text

both_texts : (a b : List ℕ) → IsTargetText a → IsTargetText b → IsTargetText (a ++ b)
both_texts a b x y = record {
  bytes = All-append (λ b. is_uri_byte b ≡ true) a b x.bytes y.bytes;
  utf8 = IsUtf8-append a b x.utf8 y.utf8;
}

-- visible ASCII
abbrev is_visible : ℕ → Bool
is_visible b = nat_lt 32 b && nat_lt b 127

visible_uri : (b : ℕ) → is_visible b ≡ true → is_uri_byte b ≡ true
visible_uri b is = grind (arith, nat_tests)

visible_below : (b : ℕ) → is_visible b ≡ true → b < 128
visible_below b is = grind (arith, nat_tests)

visible_ascii : (text : List ℕ) → All (λ b. is_visible b ≡ true) text → IsAscii text
visible_ascii [] all i = omega arith
visible_ascii (x ∷ xs) all zero = visible_below x (All-head (λ b. is_visible b ≡ true) x xs all)
visible_ascii (x ∷ xs) all (suc i) = visible_ascii xs (All-tail (λ b. is_visible b ≡ true) x xs all) i

visible_text : (text : List ℕ) → All (λ b. is_visible b ≡ true) text → IsTargetText text
visible_text text all = record {
  bytes = All-weaker (λ b. is_visible b ≡ true) (λ b. is_uri_byte b ≡ true) visible_uri text all;
  utf8 = IsUtf8-from_ascii text (visible_ascii text all);
}

-- ---- the parts of a URL

authority_visible : (b : ℕ) → is_authority_byte b ≡ true → is_visible b ≡ true
authority_visible b is = grind (arith, nat_tests)

host_text : (host : List ℕ) → IsHost host → IsTargetText host
host_text host h = visible_text host
    (All-weaker (λ b. is_authority_byte b ≡ true) (λ b. is_visible b ≡ true) authority_visible host
    (All-from_get_or (λ b. is_authority_byte b ≡ true) host 0 (λ i less. (h.authority.bytes i less).byte)))

digit_visible : (b : ℕ) → digit_value b < 10 → is_visible b ≡ true
digit_visible b low = grind (arith, nat_tests)

digits_visible : (text : List ℕ) → AllDigits 10 text → All (λ b. is_visible b ≡ true) text
digits_visible [] all = All-nil (λ b. is_visible b ≡ true)
digits_visible (b ∷ text) all = All-cons (λ b. is_visible b ≡ true) b text (digit_visible b all.0) (digits_visible text all.1)

no_text : IsTargetText []
no_text = visible_text [] (All-nil (λ b. is_visible b ≡ true))

port_text : (port : ℕ) → port < 2 ^ 64 → IsTargetText (port_suffix port)
port_text port small = by_test (port == 80)
  where
    by_test : (b : Bool) → IsTargetText (cond b [] (58 ∷ decimal port))
    by_test true = no_text
    by_test false = visible_text (58 ∷ decimal port)
        (All-cons (λ b. is_visible b ≡ true) 58 (decimal port) refl (digits_visible (decimal port) (decimal_is_IsNumeral port small).0.1))

scheme_text : IsTargetText (codes "http://")
scheme_text = visible_text (codes "http://") (AllPass-from_list_all is_visible (codes "http://") refl)

-- ---- paths

both_so : (a b : Bool) → (a && b) ≡ true → (a ≡ true) × (b ≡ true)
both_so true b h = (refl, h)
both_so false b h = absurd (let e = h in cc)

pub path_byte : (b : ℕ) → is_path_byte b ≡ true → is_uri_byte b ≡ true
path_byte b is = grind (arith, nat_tests)

path_target : (path : List ℕ) → is_path path ≡ true → (0 < length path) × AllPass is_uri_byte path
path_target [] valid = absurd (let e : false ≡ true = valid in cc)
path_target (x ∷ xs) valid = (omega arith, by_test (bytes_eq (x ∷ xs) (codes "*")) refl valid)
  where
    by_test : (b : Bool) → bytes_eq (x ∷ xs) (codes "*") ≡ b
        → (b || (slice_index (x ∷ xs) 0 == 47 && list_all is_path_byte (x ∷ xs))) ≡ true → AllPass is_uri_byte (x ∷ xs)
    by_test true same valid =
        subst (λ (t : List ℕ). AllPass is_uri_byte t) (sym ((bytes_eq-Decides (x ∷ xs) (codes "*")).0 same))
        (All-cons (λ b. is_uri_byte b ≡ true) 42 [] refl (All-nil (λ b. is_uri_byte b ≡ true)))
    by_test false other valid =
        All-weaker (λ b. is_path_byte b ≡ true) (λ b. is_uri_byte b ≡ true) path_byte (x ∷ xs)
        (AllPass-from_list_all is_path_byte (x ∷ xs) (both_so (slice_index (x ∷ xs) 0 == 47) (list_all is_path_byte (x ∷ xs)) valid).1)

path_text : (path : List ℕ) → is_path path ≡ true → IsUtf8 path → IsTargetText path
path_text path valid text = record { bytes = (path_target path valid).1; utf8 = text }

url_path_text : (path : List ℕ) → is_path path ≡ true → IsUtf8 path → IsTargetText (url_path path)
url_path_text path valid text = by_test (bytes_eq path (codes "*"))
  where
    by_test : (b : Bool) → IsTargetText (cond b [] path)
    by_test true = no_text
    by_test false = path_text path valid text

-- ---- targets

pub target_plain : (form : Form) (host path : List ℕ) (port : ℕ) → IsHost host → is_path path ≡ true → port < 2 ^ 64 → IsUtf8 path
    → (0 < length (target_text form host port path)) × IsTargetText (target_text form host port path)
target_plain Origin host path port h valid small text = ((path_target path valid).0, path_text path valid text)
target_plain Absolute host path port h valid small text = (
  omega arith,
  both_texts (codes "http://" ++ host ++ port_suffix port) (url_path path)
      (both_texts (codes "http://" ++ host) (port_suffix port)
      (both_texts (codes "http://") host scheme_text (host_text host h)) (port_text port small))
      (url_path_text path valid text),
)
