-- Keys are equal exactly where their parts are, and where the requests agree in what counts.
use Rattle.std.proofs.Common.{◌≡◌, ℕ, Bool, true, false, ◌&&◌, List, [], ◌∷◌, map, Option, Some, None, refl, sym, ap, ap₂, subst}
use Rattle.std.specs.Prelude.{All, nat_eq}
use Rattle.std.specs.Bool.{Decides}
use Rattle.std.specs.Option.{option_eq}
use Rattle.std.specs.Cmp.Lexicographic.{pointwise_decides, bytes_decides}
use Rattle.std.proofs.lemmas.Bool.{eq-eqb, eqb-true}
use Rattle.std.proofs.lemmas.List.Elements.{All-cons, All-head, All-nil, All-tail}
use Rattle.std.proofs.lemmas.Option.{none-some, same_Some}
use Rattle.px_message.specs.Fields.{values_of}
use Rattle.px_message.specs.declared.request.Request.{Request}
use Rattle.px_replay.specs.declared.key.MatchKey.{MatchKey}
use Rattle.px_replay.specs.declared.options.KeyOptions.{KeyOptions}
use Rattle.px_replay.specs.Agree.{Agree}
use Rattle.px_replay.specs.Key.{key_of, unless}
use Rattle.px_replay.specs.Same.{are_same_parameters, are_same_values, is_same_key, is_same_text}

pub both_tests : (a b : Bool) → (a && b) ≡ true → (a ≡ true) × (b ≡ true)
both_tests true b h = (refl, h)
both_tests false b h = absurd (let e = h in cc)

text_decides : (a b : List ℕ) → Decides (is_same_text a b) (a ≡ b)
text_decides a b = bytes_decides a b

port_decides : (a b : ℕ) → Decides (nat_eq a b) (a ≡ b)
port_decides a b = (λ says. eqb-true a b says, λ same. eq-eqb a b same)

pair_decides : (a b : List ℕ × List ℕ) → Decides (is_same_text a.0 b.0 && is_same_text a.1 b.1) (a ≡ b)
pair_decides a b = (
  λ says.
      let both = both_tests (is_same_text a.0 b.0) (is_same_text a.1 b.1) says in
      λ i. ((text_decides a.0 b.0).0 both.0 i, (text_decides a.1 b.1).0 both.1 i),
  λ same. λ i. (text_decides a.0 b.0).1 (ap (λ (p : List ℕ × List ℕ). p.0) same) i
      && (text_decides a.1 b.1).1 (ap (λ (p : List ℕ × List ℕ). p.1) same) i,
)

parameters_decide : (a b : List (List ℕ × List ℕ)) → Decides (are_same_parameters a b) (a ≡ b)
parameters_decide a b = pointwise_decides pair_decides a b

values_decide : (a b : List (List (List ℕ))) → Decides (are_same_values a b) (a ≡ b)
values_decide a b = pointwise_decides (λ x y. pointwise_decides text_decides x y) a b

option_decides : {T : Type 0} (test : T → T → Bool) → ((x y : T) → Decides (test x y) (x ≡ y)) → (a b : Option T) →
    Decides (option_eq test a b) (a ≡ b)
option_decides test decides None None = (λ says. refl, λ same. refl)
option_decides test decides None (Some y) = (λ says. absurd (let e = says in cc), λ same. absurd (none-some y same))
option_decides test decides (Some x) None = (λ says. absurd (let e = says in cc), λ same. absurd (none-some x (sym same)))
option_decides test decides (Some x) (Some y) = (λ says. ap Some ((decides x y).0 says), λ same. (decides x y).1 (same_Some x y same))

own : (a : MatchKey) → is_same_key a a ≡ true
own a = λ i.
    (text_decides a.method a.method).1 refl i && ((text_decides a.path a.path).1 refl i
    && ((parameters_decide a.parameters a.parameters).1 refl i
    && ((option_decides is_same_text text_decides a.content a.content).1 refl i
    && ((option_decides is_same_text text_decides a.host a.host).1 refl i
    && ((option_decides nat_eq port_decides a.port a.port).1 refl i
    && (values_decide a.values a.values).1 refl i)))))

pub key_decides : (a b : MatchKey) → Decides (is_same_key a b) (a ≡ b)
key_decides a b = (
  λ says.
      let one = both_tests _ _ says in
      let two = both_tests _ _ one.1 in
      let three = both_tests _ _ two.1 in
      let four = both_tests _ _ three.1 in
      let five = both_tests _ _ four.1 in
      let six = both_tests _ _ five.1 in
      λ i. record {
        method = (text_decides a.method b.method).0 one.0 i;
        path = (text_decides a.path b.path).0 two.0 i;
        parameters = (parameters_decide a.parameters b.parameters).0 three.0 i;
        content = (option_decides is_same_text text_decides a.content b.content).0 four.0 i;
        host = (option_decides is_same_text text_decides a.host b.host).0 five.0 i;
        port = (option_decides nat_eq port_decides a.port b.port).0 six.0 i;
        values = (values_decide a.values b.values).0 six.1 i;
      },
  λ same. subst (λ k. is_same_key a k ≡ true) same (own a),
)

-- the test in the order of a key's parts
pub in_order : (a b : MatchKey) → is_same_key a b ≡ (is_same_text a.path b.path && (are_same_parameters a.parameters b.parameters
    && (option_eq is_same_text a.content b.content && (is_same_text a.method b.method && (option_eq is_same_text a.host b.host
    && (option_eq nat_eq a.port b.port && are_same_values a.values b.values))))))
in_order a b =
    later (is_same_text a.method b.method) (is_same_text a.path b.path) (are_same_parameters a.parameters b.parameters)
    (option_eq is_same_text a.content b.content) (option_eq is_same_text a.host b.host
    && (option_eq nat_eq a.port b.port && are_same_values a.values b.values))
  where
    later : (m p q c rest : Bool) → (m && (p && (q && (c && rest)))) ≡ (p && (q && (c && (m && rest))))
    later true p q c rest = refl
    later false true true true rest = refl
    later false true true false rest = refl
    later false true false c rest = refl
    later false false q c rest = refl

-- ---- what counts

counts : {T : Type 0} (ignored : Bool) (x y : T) → unless ignored x ≡ unless ignored y → ignored ≡ false → x ≡ y
counts true x y same does = absurd (let e = does in cc)
counts false x y same does = same_Some x y same

counts_not : {T : Type 0} (ignored : Bool) (x y : T) → (ignored ≡ false → x ≡ y) → unless ignored x ≡ unless ignored y
counts_not true x y same = refl
counts_not false x y same = ap Some (same refl)

abbrev first : {T : Type 0} → T → List T → T
first x [] = x
first x (y ∷ ys) = y

abbrev others : {T : Type 0} → List T → List T
others [] = []
others (y ∷ ys) = ys

each_same : (f g : List ℕ → List (List ℕ)) (names : List (List ℕ)) → map f names ≡ map g names → All (λ name. f name ≡ g name) names
each_same f g [] same = All-nil (λ name. f name ≡ g name)
each_same f g (name ∷ names) same =
    All-cons (λ name. f name ≡ g name) name names (ap (first (f name)) same) (each_same f g names (ap others same))

all_same : (f g : List ℕ → List (List ℕ)) (names : List (List ℕ)) → All (λ name. f name ≡ g name) names → map f names ≡ map g names
all_same f g [] each = refl
all_same f g (name ∷ names) each =
    ap₂ ◌∷◌ (All-head (λ name. f name ≡ g name) name names each) (all_same f g names (All-tail (λ name. f name ≡ g name) name names each))

pub keys_agree : (how : KeyOptions) (a b : Request) → key_of how a ≡ key_of how b → Agree how a b
keys_agree how a b same = record {
  method = ap (λ (k : MatchKey). k.method) same;
  path = ap (λ (k : MatchKey). k.path) same;
  parameters = ap (λ (k : MatchKey). k.parameters) same;
  content = counts how.ignore_content a.body b.body (ap (λ (k : MatchKey). k.content) same);
  host = counts how.ignore_host a.host b.host (ap (λ (k : MatchKey). k.host) same);
  port = counts how.ignore_port a.port b.port (ap (λ (k : MatchKey). k.port) same);
  values = each_same (λ name. values_of name a.fields) (λ name. values_of name b.fields) how.use_headers (ap (λ (k : MatchKey). k.values) same);
}

pub agreeing_keys : (how : KeyOptions) (a b : Request) → Agree how a b → key_of how a ≡ key_of how b
agreeing_keys how a b agree = λ i. record {
  method = agree.method i;
  path = agree.path i;
  parameters = agree.parameters i;
  content = counts_not how.ignore_content a.body b.body agree.content i;
  host = counts_not how.ignore_host a.host b.host agree.host i;
  port = counts_not how.ignore_port a.port b.port agree.port i;
  values = all_same (λ name. values_of name a.fields) (λ name. values_of name b.fields) how.use_headers agree.values i;
}
