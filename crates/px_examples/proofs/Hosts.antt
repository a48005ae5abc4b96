-- Whether a text is a host, as a test that computes; and so the addresses and targets in which hosts stand.
use Rattle.std.specs.Prelude.{◌≡◌, ◌≢◌, ℕ, zero, suc, ◌-◌, ◌<◌, ◌≤◌, ◌⊎◌, Bool, true, false, ◌&&◌, ◌||◌, ◌==◌, not, nat_lt, nat_le, List, [], ◌∷◌, length, map, take, drop, slice_index, bytes_eq, codes, All, IsTrue, Option, Some, None, if◌then◌else◌}
use Rattle.std.specs.Bool.{Decides}
use Rattle.std.specs.Option.{option_map}
use Rattle.std.proofs.Common.{inl, inr, refl, sym}
use Rattle.std.proofs.lemmas.Bool.{cases_from_iff, leb-true, le-leb, true≢false}
use Rattle.std.proofs.lemmas.Bool.Decides.{Decides-and, Decides-not, Decides-ltb, Decides-eqb, Decides-below_and, Decides-by_and}
use Rattle.std.proofs.lemmas.Slice.Eq.{bytes_eq-Decides}
use Rattle.http_uri.specs.ByteClasses.{is_authority_byte, count_of, at_sign, colon, left_bracket, percent_sign, right_bracket, slash}
use Rattle.http_uri.specs.Grammar.{IsAuthority, MayFollow, authority_host, last_piece}
use Rattle.px_message.specs.Host.{IsHost}
use Rattle.px_message.specs.TellHost.{tell_host}
use Rattle.px_message.specs.Authority.{address_from, address_of, after_host, host_of, port_of}
use Rattle.px_message.specs.Target.{Form, origin, absolute, authority, asterisk, absolute_form, after_scheme, authority_form, authority_len, has_http_scheme, located, path_form, rooted, target_form}
use Rattle.px_examples.specs.Rows.{Tell}

where_told : {P Q : Type 0} (x y : Bool) → Decides x P → Decides y Q → Decides (not x || y) (P → Q)
where_told true y p q = (λ e _. q.0 e, λ h. q.1 (h (p.0 refl)))
where_told false y p q = (λ _ h. absurd (true≢false (sym (p.1 h))), λ _. refl)

true_told : (b : Bool) → Decides b (IsTrue b)
true_told b = (λ e. e, λ e. e)

at_most_told : (m n : ℕ) → Decides (nat_le m n) (m ≤ n)
at_most_told m n = (leb-true m n, le-leb m n)

-- each number below passes the test
abbrev each_below : (ℕ → Bool) → ℕ → Bool
each_below test zero = true
each_below test (suc n) = test n && each_below test n

abbrev may_follow : List ℕ → ℕ → Bool
may_follow front b =
    is_authority_byte b
    && ((not (b == colon) || nat_lt (count_of colon (last_piece front)) 8)
    && ((not (b == left_bracket) || (count_of left_bracket front == 0 && count_of percent_sign (last_piece front) == 0))
    && (not (b == right_bracket) || (nat_lt 0 (count_of left_bracket front) && count_of right_bracket front == 0))))

may_follow_told : (front : List ℕ) (b : ℕ) → Decides (may_follow front b) (MayFollow front b)
may_follow_told front b =
    let colons : Decides (not (b == colon) || nat_lt (count_of colon (last_piece front)) 8) (b ≡ colon → count_of colon (last_piece front) < 8) =
    where_told _ _ (Decides-eqb b colon) (Decides-ltb _ 8) in
    let opening : Decides (not (b == left_bracket) || (count_of left_bracket front == 0 && count_of percent_sign (last_piece front) == 0)) (b ≡ left_bracket → (count_of left_bracket front ≡ 0) × (count_of percent_sign (last_piece front) ≡ 0)) =
    where_told _ _ (Decides-eqb b left_bracket) (Decides-and _ _ (Decides-eqb _ 0) (Decides-eqb _ 0)) in
    let closing : Decides (not (b == right_bracket) || (nat_lt 0 (count_of left_bracket front) && count_of right_bracket front == 0)) (b ≡ right_bracket → (0 < count_of left_bracket front) × (count_of right_bracket front ≡ 0)) =
    where_told _ _ (Decides-eqb b right_bracket) (Decides-and _ _ (Decides-ltb 0 _) (Decides-eqb _ 0)) in
    let all = Decides-and _ _ (true_told (is_authority_byte b)) (Decides-and _ _ colons (Decides-and _ _ opening closing)) in (
      λ e. (let h = all.0 e in record { byte = h.0; colons = h.1.0; opening = h.1.1.0; closing = h.1.1.1 }),
      λ m. all.1 (m.byte, (m.colons, (m.opening, m.closing))),
    )

abbrev is_authority : List ℕ → Bool
is_authority text =
    nat_lt 0 (length text)
    && (each_below (λ i. may_follow (take i text) (slice_index text i)) (length text)
    && ((count_of left_bracket text == count_of right_bracket text)
    && (nat_le (count_of colon (last_piece text)) 1
    && ((count_of percent_sign (last_piece text) == 0)
    && not (slice_index text (length text - 1) == at_sign)))))

authority_told : (text : List ℕ) → Decides (is_authority text) (IsAuthority text)
authority_told text =
    let bytes : Decides (each_below (λ i. may_follow (take i text) (slice_index text i)) (length text)) ((i : ℕ) → i < length text → MayFollow (take i text) (slice_index text i)) =
    Decides-below_and (λ i. may_follow (take i text) (slice_index text i)) (λ i. MayFollow (take i text) (slice_index text i))
    (each_below (λ i. may_follow (take i text) (slice_index text i))) (λ i. may_follow_told (take i text) (slice_index text i)) refl (λ n. refl) (length text) in
    let has_host : Decides (not (slice_index text (length text - 1) == at_sign)) (slice_index text (length text - 1) ≢ at_sign) = Decides-not _ (Decides-eqb _ at_sign) in
    let all = Decides-and _ _ (Decides-ltb 0 (length text)) (Decides-and _ _ bytes (Decides-and _ _ (Decides-eqb (count_of left_bracket text) (count_of right_bracket text)) (Decides-and _ _ (at_most_told (count_of colon (last_piece text)) 1) (Decides-and _ _ (Decides-eqb (count_of percent_sign (last_piece text)) 0) has_host)))) in (
      λ e. (let h = all.0 e in record { nonempty = h.0; bytes = h.1.0; closed = h.1.1.0; one_colon = h.1.1.1.0; no_percent = h.1.1.1.1.0; has_host = h.1.1.1.1.1 }),
      λ a. all.1 (a.nonempty, (a.bytes, (a.closed, (a.one_colon, (a.no_percent, a.has_host))))),
    )

-- no byte is this one
abbrev none_is : ℕ → List ℕ → Bool
none_is byte [] = true
none_is byte (b ∷ text) = not (b == byte) && none_is byte text

abbrev is_host : List ℕ → Bool
is_host text = is_authority text && (none_is at_sign text && bytes_eq (authority_host text) text)

host_told : (text : List ℕ) → Decides (is_host text) (IsHost text)
host_told text =
    let no_userinfo : Decides (none_is at_sign text) (All (λ b. b ≢ at_sign) text) =
    Decides-by_and (λ b. not (b == at_sign)) (λ b. b ≢ at_sign) (none_is at_sign) (λ b. Decides-not _ (Decides-eqb b at_sign)) refl (λ b rest. refl) text in
    let all = Decides-and _ _ (authority_told text) (Decides-and _ _ no_userinfo (bytes_eq-Decides (authority_host text) text)) in (
      λ e. (let h = all.0 e in record { authority = h.0; no_userinfo = h.1.0; whole = h.1.1 }),
      λ h. all.1 (h.authority, (h.no_userinfo, h.whole)),
    )

-- what is said of each text is so
pub hosts_told : (rows : List (List ℕ × Bool)) → Tell IsHost (map (λ row. (row.0, is_host row.0)) rows)
hosts_told [] = tt
hosts_told (row ∷ rows) = (cases_from_iff (host_told row.0), hosts_told rows)

-- ---- addresses

abbrev address_by : Bool → List ℕ → Option ℕ → Option (List ℕ × ℕ)
address_by true host (Some port) = Some (host, port)
address_by _ host _ = None

from_same : (host : List ℕ) (told : IsHost host ⊎ (IsHost host → ⊥)) (b : Bool) → Decides b (IsHost host) → (port : Option ℕ)
    → address_from host told port ≡ address_by b host port
unfolding address_from
from_same host (inl h) true d (Some port) = refl
from_same host (inl h) true d None = refl
from_same host (inl h) false d port = absurd (true≢false (sym (d.1 h)))
from_same host (inr none) true d port = absurd (none (d.0 refl))
from_same host (inr none) false d (Some port) = refl
from_same host (inr none) false d None = refl

abbrev computed_address : List ℕ → Option (List ℕ × ℕ)
computed_address text = address_by (is_host (host_of text)) (host_of text) (port_of (after_host text))

address_same : (text : List ℕ) → address_of text ≡ computed_address text
unfolding address_of
address_same text = from_same (host_of text) (tell_host (host_of text)) (is_host (host_of text)) (host_told (host_of text)) (port_of (after_host text))

-- ---- the forms of targets, by how addresses are read

abbrev absolute_by : (List ℕ → Option (List ℕ × ℕ)) → List ℕ → Option (List ℕ × ℕ × List ℕ)
absolute_by address text =
    let rest = after_scheme text in
    let end = authority_len rest in
    if has_http_scheme text then located (address (take end rest)) (path_form (rooted (drop end rest))) else None

abbrev authority_by : (List ℕ → Option (List ℕ × ℕ)) → List ℕ → Option (List ℕ × ℕ)
authority_by address text = if length (after_host text) == 0 then None else address text

abbrev form_by : (List ℕ → Option (List ℕ × ℕ)) → List ℕ → List ℕ → Option Form
form_by address method target =
    if bytes_eq method (codes "CONNECT") then option_map (λ a. authority a.0 a.1) (authority_by address target)
    else (if bytes_eq target (codes "*") then Some asterisk
    else (if slice_index target 0 == slash then option_map origin (path_form target)
    else option_map (λ a. absolute a.0 a.1 a.2) (absolute_by address target)))

-- a definition over the targets that are computed says the same over the targets
pub targets_same : {A : Type 0} (over : (List ℕ → List ℕ → Option Form) → A) → over target_form ≡ over (form_by computed_address)
unfolding target_form absolute_form authority_form
targets_same over = λ i. over (form_by (λ text. address_same text i))

pub absolutes_same : {A : Type 0} (over : (List ℕ → Option (List ℕ × ℕ × List ℕ)) → A) → over absolute_form ≡ over (absolute_by computed_address)
unfolding absolute_form
absolutes_same over = λ i. over (absolute_by (λ text. address_same text i))
