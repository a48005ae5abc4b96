-- The text of cookies.
use Rattle.std.proofs.Common.{◌≡◌, ◌∙◌, ℕ, ◌<◌, ◌+◌, Bool, true, false, List, [], ◌∷◌, ◌++◌, length, take, get_or, filter, codes, refl, sym, ap, append-nil, append_assoc, arith, length-append, if◌then◌else◌}
use Rattle.std.specs.List.{slice_get}
use Rattle.std.specs.Option.{option_to_list}
use Rattle.std.proofs.lemmas.Bool.{cond-false, cond-true}
use Rattle.std.proofs.lemmas.Grind.{flat_map-append}
use Rattle.std.proofs.lemmas.List.{take_more}
use Rattle.std.proofs.lemmas.List.Elements.{filter-append}
use Rattle.std.proofs.lemmas.Option.{slice_get_read}
use Rattle.px_message.specs.Fields.{set_in}
use Rattle.px_message.specs.Value.{is_value}
use Rattle.px_message.specs.declared.flow.Flow.{Flow}
use Rattle.px_refresh.proofs.ValueLemmas.{value_append}
use Rattle.px_refresh.specs.Cookies.{Cookie, cookie_text, is_for, pair_text, separated, with_cookies, with_pair, with_text}
use Rattle.px_refresh.specs.Fields.{with_fields}
use Rattle.px_refresh.specs.Index.{at_places}

separated_long : (text : List ℕ) → 0 < length text → separated text ≡ text ++ codes "; "
separated_long [] some = absurd (omega (arith, some))
separated_long (b ∷ text) some = refl

some_pair : (cookie : Cookie) → 0 < length (pair_text cookie)
some_pair cookie = omega (arith, length-append cookie.0.name (61 ∷ cookie.1))

some_text : (cookie : Cookie) (cookies : List Cookie) → 0 < length (cookie_text (cookie ∷ cookies))
some_text cookie [] = some_pair cookie
some_text cookie (next ∷ cookies) =
    omega (
      arith,
      some_pair cookie,
      length-append (pair_text cookie) (codes "; "),
      length-append (pair_text cookie ++ codes "; ") (cookie_text (next ∷ cookies)),
    )

-- one cookie more
pub text_more : (cookies : List Cookie) (cookie : Cookie) → cookie_text (cookies ++ cookie ∷ []) ≡ with_pair (cookie_text cookies) (pair_text cookie)
text_more [] cookie = refl
text_more (first ∷ []) cookie = sym (ap (λ t. t ++ pair_text cookie) (separated_long (pair_text first) (some_pair first)))
text_more (first ∷ next ∷ cookies) cookie =
    let front = pair_text first ++ codes "; " in
    let rest = cookie_text (next ∷ cookies) in
    ap (λ t. front ++ t) (text_more (next ∷ cookies) cookie ∙ ap (λ t. t ++ pair_text cookie) (separated_long rest (some_text next cookies)))
    ∙ regroup front rest (codes "; ") (pair_text cookie)
    ∙ sym (ap (λ t. t ++ pair_text cookie) (separated_long (front ++ rest) (some_text first (next ∷ cookies))))
  where
    regroup : (a b s d : List ℕ) → a ++ ((b ++ s) ++ d) ≡ ((a ++ b) ++ s) ++ d
    regroup a b s d = simp append_assoc

-- the text of the cookies at one place more
pub text_on : (path : List ℕ) (cookies : List Cookie) (places : List ℕ) (i : ℕ) (cookie : Cookie) (old new : List ℕ) → i < length places →
    get_or places i 0 < length cookies → cookie ≡ get_or cookies (get_or places i 0) cookie →
    old ≡ cookie_text (filter (λ c. is_for path c.0) (at_places cookies (take i places))) →
    new ≡ (if is_for path cookie.0 then with_pair old (pair_text cookie) else old) →
    new ≡ cookie_text (filter (λ c. is_for path c.0) (at_places cookies (take (i + 1) places)))
text_on path cookies places i cookie old new in' there is so_far told =
    told ∙ by_test (is_for path cookie.0) refl ∙ sym (ap cookie_text here)
  where
    front : List Cookie
    front = filter (λ c. is_for path c.0) (at_places cookies (take i places))

    one : at_places cookies (get_or places i 0 ∷ []) ≡ cookie ∷ []
    one = ap (λ o. option_to_list o ++ []) (slice_get_read cookies (length cookies) (get_or places i 0) cookie refl there is)

    here : filter (λ c. is_for path c.0) (at_places cookies (take (i + 1) places)) ≡ front ++ filter (λ c. is_for path c.0) (cookie ∷ [])
    here =
        ap (λ l. filter (λ c. is_for path c.0) (at_places cookies l)) (take_more places i 0 in')
        ∙ ap (filter (λ c. is_for path c.0)) (flat_map-append (λ place. option_to_list (slice_get cookies place)) (take i places) (get_or places i 0 ∷ []))
        ∙ filter-append (λ c. is_for path c.0) (at_places cookies (take i places)) (at_places cookies (get_or places i 0 ∷ []))
        ∙ ap (λ l. front ++ filter (λ c. is_for path c.0) l) one

    by_test : (t : Bool) → is_for path cookie.0 ≡ t →
        (if is_for path cookie.0 then with_pair old (pair_text cookie) else old) ≡ cookie_text (front ++ filter (λ c. is_for path c.0) (cookie ∷ []))
    by_test true for =
        cond-true (is_for path cookie.0) (with_pair old (pair_text cookie)) old for
        ∙ ap (λ t. with_pair t (pair_text cookie)) so_far ∙ sym (text_more front cookie)
        ∙ sym (ap (λ l. cookie_text (front ++ l)) (cond-true (is_for path cookie.0) (cookie ∷ []) [] for))
    by_test false not_for =
        cond-false (is_for path cookie.0) (with_pair old (pair_text cookie)) old not_for ∙ so_far ∙ sym (ap cookie_text (append-nil front))
        ∙ sym (ap (λ l. cookie_text (front ++ l)) (cond-false (is_for path cookie.0) (cookie ∷ []) [] not_for))

-- no text stands for no cookies
pub text_is : (cookies : List Cookie) (flow : Flow) → with_text (cookie_text cookies) flow ≡ with_cookies cookies flow
text_is [] flow = refl
text_is (cookie ∷ cookies) flow = long (cookie_text (cookie ∷ cookies)) (some_text cookie cookies)
  where
    long : (text : List ℕ) → 0 < length text → with_text text flow ≡ with_fields (set_in (codes "Cookie") text) flow
    long [] some = absurd (omega (arith, some))
    long (b ∷ text) some = refl

pub value_separated : (text : List ℕ) → is_value text ≡ true → is_value (separated text) ≡ true
value_separated [] is = refl
value_separated (b ∷ text) is = value_append (b ∷ text) (codes "; ") is refl
