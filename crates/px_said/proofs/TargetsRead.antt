-- The parts of a target that was read are such as a target is written of.
use Rattle.std.proofs.Common.{ℕ, ◌<◌, ◌^◌, ◌≡◌, ◌≢◌, ◌==◌, ◌&&◌, ◌||◌, Bool, true, false, List, [], ◌∷◌, length, take, drop, refl, sym, ap, subst, arith, inl, inr, Option, Some, None}
use Rattle.std.specs.Prelude.{◌⊎◌, bytes_eq, codes, slice_index, nat_le, if◌then◌else◌}
use Rattle.std.specs.List.{list_all}
use Rattle.std.specs.Option.{option_map}
use Rattle.std.specs.Str.Parse.{digits_value}
use Rattle.std.proofs.lemmas.Bool.Decides.{eqb_tells, nat_tests}
use Rattle.std.proofs.lemmas.List.Elements.{All-cons, All-nil, All-weaker}
use Rattle.std.proofs.lemmas.List.Sums.{AllPass-from_list_all}
use Rattle.std.proofs.lemmas.Slice.Eq.{bytes_eq-Decides}
use Rattle.httparse.specs.Grammar.{AllPass, is_uri_byte}
use Rattle.px_message.specs.Authority.{address_from, address_of, after_host, has_port_digits, host_of, is_port, port_of}
use Rattle.px_message.specs.Host.{IsHost}
use Rattle.px_message.specs.Path.{is_path, is_path_byte}
use Rattle.px_message.specs.Target.{absolute, absolute_form, asterisk, authority, authority_form, authority_len, has_http_scheme, located, origin, path_form, rooted, target_form}
use Rattle.px_message.specs.TellHost.{tell_host}
use Rattle.px_write.specs.TargetPath.{path_said}
use Rattle.px_write.proofs.TargetPathLemmas.{authority_none}
use Rattle.px_write.proofs.TargetTextLemmas.{path_byte}

some_is : {A : Type 0} (a b : A) → Some a ≡ Some b → a ≡ b
some_is a b e = cc

-- ---- ports and hosts

split_true : (a b : Bool) → (a && b) ≡ true → (a ≡ true) × (b ≡ true)
split_true true b h = (refl, h)
split_true false b h = absurd (let e = h in cc)

pub record IsPort (port : ℕ) : Type 0 where
  pub low : 0 < port
  pub high : port < 2 ^ 16

digits_port : (digits : List ℕ) → is_port digits ≡ true → IsPort (digits_value 10 digits)
digits_port digits is =
    let outer = split_true (has_port_digits digits && nat_le 1 (digits_value 10 digits)) (nat_le (digits_value 10 digits) 65535) is in
    let inner = split_true (has_port_digits digits) (nat_le 1 (digits_value 10 digits)) outer.0 in
    let high = outer.1 in
    let low = inner.1 in record { low = grind (arith, nat_tests); high = grind (arith, nat_tests) }

port_read : (rest : List ℕ) (port : ℕ) → port_of rest ≡ Some port → IsPort port
unfolding port_of
port_read [] port is = subst IsPort (some_is 80 port is) (record { low = omega arith; high = omega arith })
port_read (b ∷ digits) port is = by_tests (b == 58) (is_port digits) refl is
  where
    by_tests : (c p : Bool) → is_port digits ≡ p → (if c && p then Some (digits_value 10 digits) else None) ≡ Some port → IsPort port
    by_tests true true valid is = subst IsPort (some_is (digits_value 10 digits) port is) (digits_port digits valid)
    by_tests true false valid is = absurd (let e = is in cc)
    by_tests false p valid is = absurd (let e = is in cc)

pub record IsHostAndPort (host : List ℕ) (port : ℕ) : Type 0 where
  pub valid_host : IsHost host
  pub valid_port : IsPort port

address_by : (own : List ℕ) (told : IsHost own ⊎ (IsHost own → ⊥)) (ported : Option ℕ) (rest host : List ℕ) (port : ℕ) → port_of rest ≡ ported
    → address_from own told ported ≡ Some (host, port) → IsHostAndPort host port
unfolding address_from
address_by own (inl held) (Some number) rest host port at is =
    let pair : (own, number) ≡ (host, port) = some_is (own, number) (host, port) is in
    let same_host = ap (λ (p : List ℕ × ℕ). p.0) pair in
    let same_port = ap (λ (p : List ℕ × ℕ). p.1) pair in record {
      valid_host = subst IsHost same_host held;
      valid_port = subst IsPort same_port (port_read rest number at);
    }
address_by own (inl held) None rest host port at is = absurd (let e = is in cc)
address_by own (inr none) (Some number) rest host port at is = absurd (let e = is in cc)
address_by own (inr none) None rest host port at is = absurd (let e = is in cc)

address_read : (text host : List ℕ) (port : ℕ) → address_of text ≡ Some (host, port) → IsHostAndPort host port
unfolding address_of
address_read text host port is =
    address_by (host_of text) (tell_host (host_of text)) (port_of (after_host text)) (after_host text) host port refl is

-- ---- paths

path_is : (text path : List ℕ) → path_form text ≡ Some path → (text ≡ path) × (is_path path ≡ true)
unfolding path_form
path_is text path is = by_test (is_path text) refl is
  where
    by_test : (b : Bool) → is_path text ≡ b → (if b then Some text else None) ≡ Some path → (text ≡ path) × (is_path path ≡ true)
    by_test true valid is =
        let same = some_is text path is in (same, subst (λ (p : List ℕ). is_path p ≡ true) same valid)
    by_test false valid is = absurd (let e = is in cc)

rooted_first : (tail : List ℕ) → slice_index (rooted tail) 0 ≡ 47
rooted_first tail = elim (eqb_tells (slice_index tail 0) 47) [
  | inl t ↦ rw t.0 t.1
  | inr f ↦ rw f.0 refl
]

no_star : (path : List ℕ) → slice_index path 0 ≡ 47 → path ≢ codes "*"
no_star path first same =
    let other : slice_index path 0 ≡ 42 = ap (λ (p : List ℕ). slice_index p 0) same in absurd (omega (arith, first, other))

-- a path is one of the grammar's targets
pub path_bytes : (path : List ℕ) → is_path path ≡ true → (0 < length path) × AllPass is_uri_byte path
path_bytes [] valid = absurd (let e : false ≡ true = valid in cc)
path_bytes (x ∷ xs) valid = (omega arith, by_test (bytes_eq (x ∷ xs) (codes "*")) refl valid)
  where
    by_test : (b : Bool) → bytes_eq (x ∷ xs) (codes "*") ≡ b
        → (b || (slice_index (x ∷ xs) 0 == 47 && list_all is_path_byte (x ∷ xs))) ≡ true → AllPass is_uri_byte (x ∷ xs)
    by_test true same valid =
        subst (λ (t : List ℕ). AllPass is_uri_byte t) (sym ((bytes_eq-Decides (x ∷ xs) (codes "*")).0 same))
        (All-cons (λ b. is_uri_byte b ≡ true) 42 [] refl (All-nil (λ b. is_uri_byte b ≡ true)))
    by_test false other valid =
        All-weaker (λ b. is_path_byte b ≡ true) (λ b. is_uri_byte b ≡ true) path_byte (x ∷ xs)
        (AllPass-from_list_all is_path_byte (x ∷ xs) (split_true (slice_index (x ∷ xs) 0 == 47) (list_all is_path_byte (x ∷ xs)) valid).1)

-- ---- URLs

pub record IsUrlSaid (host : List ℕ) (port : ℕ) (path : List ℕ) : Type 0 where
  pub address : IsHostAndPort host port
  pub valid_path : is_path path ≡ true
  pub named : path ≢ codes "*"

located_is : (address : Option (List ℕ × ℕ)) (path : Option (List ℕ)) (a : List ℕ × ℕ × List ℕ) → located address path ≡ Some a
    → (address ≡ Some (a.0, a.1)) × (path ≡ Some a.2)
unfolding located
located_is None path a is = absurd (let e = is in cc)
located_is (Some address) None a is = absurd (let e = is in cc)
located_is (Some address) (Some path) a is =
    let same : (address.0, address.1, path) ≡ a = some_is (address.0, address.1, path) a is in (
      ap (λ (t : List ℕ × ℕ × List ℕ). Some (t.0, t.1)) same,
      ap (λ (t : List ℕ × ℕ × List ℕ). Some t.2) same,
    )

url_read : (text : List ℕ) (a : List ℕ × ℕ × List ℕ) → absolute_form text ≡ Some a → IsUrlSaid a.0 a.1 a.2
unfolding absolute_form
url_read text a is = by_test (has_http_scheme text) is
  where
    tail : List ℕ
    tail = drop (authority_len (drop 7 text)) (drop 7 text)

    by_test : (b : Bool)
        → (if b then located (address_of (take (authority_len (drop 7 text)) (drop 7 text))) (path_form (rooted (drop (authority_len (drop 7 text)) (drop 7 text)))) else None) ≡ Some a
        → IsUrlSaid a.0 a.1 a.2
    by_test true is =
        let found = located_is (address_of (take (authority_len (drop 7 text)) (drop 7 text)))
        (path_form (rooted (drop (authority_len (drop 7 text)) (drop 7 text)))) a is in
        let said = path_is (rooted (drop (authority_len (drop 7 text)) (drop 7 text))) a.2 found.1 in
        let first : slice_index a.2 0 ≡ 47 =
        subst (λ (p : List ℕ). slice_index p 0 ≡ 47) said.0 (rooted_first (drop (authority_len (drop 7 text)) (drop 7 text))) in
        record {
          address = address_read (take (authority_len (drop 7 text)) (drop 7 text)) a.0 a.1 found.0;
          valid_path = said.1;
          named = no_star a.2 first;
        }
    by_test false is = absurd (let e = is in cc)

-- ---- targets

origin_path : (found : Option (List ℕ)) (path : List ℕ) → path_said (option_map origin found) ≡ Some path → found ≡ Some path
origin_path None path is = absurd (let e = is in cc)
origin_path (Some p) path is = is

absolute_path : (found : Option (List ℕ × ℕ × List ℕ)) (path : List ℕ) → path_said (option_map (λ a. absolute a.0 a.1 a.2) found) ≡ Some path
    → (a : List ℕ × ℕ × List ℕ) × (found ≡ Some a) × (a.2 ≡ path)
absolute_path None path is = absurd (let e = is in cc)
absolute_path (Some a) path is = (a, refl, some_is a.2 path is)

-- what a target says is a path
pub path_read : (method target path : List ℕ) → path_said (target_form method target) ≡ Some path → is_path path ≡ true
unfolding target_form
path_read method target path is =
    by_tests (bytes_eq method (codes "CONNECT")) (bytes_eq target (codes "*")) (slice_index target 0 == 47) is
  where
    by_tests : (connects all rooted : Bool)
        → path_said (if connects then option_map (λ a. authority a.0 a.1) (authority_form target)
        else (if all then Some asterisk
        else (if rooted then option_map origin (path_form target)
        else option_map (λ a. absolute a.0 a.1 a.2) (absolute_form target)))) ≡ Some path
        → is_path path ≡ true
    by_tests true all rooted is = absurd (authority_none (authority_form target) path is)
    by_tests false true rooted is = subst (λ (p : List ℕ). is_path p ≡ true) (some_is (codes "*") path is) refl
    by_tests false false true is = (path_is target path (origin_path (path_form target) path is)).1
    by_tests false false false is =
        let found = absolute_path (absolute_form target) path is in
        subst (λ (p : List ℕ). is_path p ≡ true) found.2 (url_read target found.0 found.1).valid_path

no_absolute : (address : Option (List ℕ × ℕ)) (host : List ℕ) (port : ℕ) (path : List ℕ)
    → option_map (λ a. authority a.0 a.1) address ≡ Some (absolute host port path) → ⊥
no_absolute None host port path is = let e = is in cc
no_absolute (Some address) host port path is = let e : authority address.0 address.1 ≡ absolute host port path = some_is _ _ is in cc

no_origin : (found : Option (List ℕ)) (host : List ℕ) (port : ℕ) (path : List ℕ) → option_map origin found ≡ Some (absolute host port path) → ⊥
no_origin None host port path is = let e = is in cc
no_origin (Some p) host port path is = let e : origin p ≡ absolute host port path = some_is _ _ is in cc

same_parts : (a : List ℕ × ℕ × List ℕ) (host : List ℕ) (port : ℕ) (path : List ℕ) → absolute a.0 a.1 a.2 ≡ absolute host port path
    → IsUrlSaid a.0 a.1 a.2 → IsUrlSaid host port path
same_parts a host port path is said =
    let x : a.0 ≡ host = (let e = is in cc) in
    let y : a.1 ≡ port = (let e = is in cc) in
    let z : a.2 ≡ path = (let e = is in cc) in
    subst (λ (p : List ℕ). IsUrlSaid host port p) z
    (subst (λ (n : ℕ). IsUrlSaid host n a.2) y (subst (λ (h : List ℕ). IsUrlSaid h a.1 a.2) x said))

-- and what an absolute one says has a host and a port
pub absolute_read : (method target host : List ℕ) (port : ℕ) (path : List ℕ) → target_form method target ≡ Some (absolute host port path) → IsUrlSaid host port path
unfolding target_form
absolute_read method target host port path is =
    by_tests (bytes_eq method (codes "CONNECT")) (bytes_eq target (codes "*")) (slice_index target 0 == 47) is
  where
    by_found : (found : Option (List ℕ × ℕ × List ℕ)) → absolute_form target ≡ found
        → option_map (λ a. absolute a.0 a.1 a.2) found ≡ Some (absolute host port path) → IsUrlSaid host port path
    by_found None at is = absurd (let e = is in cc)
    by_found (Some a) at is = same_parts a host port path (some_is _ _ is) (url_read target a at)

    by_tests : (connects all rooted : Bool)
        → (if connects then option_map (λ a. authority a.0 a.1) (authority_form target)
        else (if all then Some asterisk
        else (if rooted then option_map origin (path_form target)
        else option_map (λ a. absolute a.0 a.1 a.2) (absolute_form target)))) ≡ Some (absolute host port path)
        → IsUrlSaid host port path
    by_tests true all rooted is = absurd (no_absolute (authority_form target) host port path is)
    by_tests false true rooted is = absurd (let e : asterisk ≡ absolute host port path = some_is _ _ is in cc)
    by_tests false false true is = absurd (no_origin (path_form target) host port path is)
    by_tests false false false is = by_found (absolute_form target) refl is
