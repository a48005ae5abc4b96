-- What is kept after flows that came one behind the other.
use Rattle.std.proofs.Common.{◌≡◌, ◌∙◌, ℕ, true, List, [], ◌∷◌, ◌++◌, length, take, drop, refl, sym, ap, append-nil, append_assoc}
use Rattle.std.specs.List.{flat_map, starts_with}
use Rattle.std.specs.Prelude.{nat_eq}
use Rattle.std.proofs.lemmas.List.{take-append-drop}
use Rattle.px_message.specs.declared.flow.Flow.{Flow}
use Rattle.px_text.specs.Prefix.{IsPrefixOf}
use Rattle.px_refresh.proofs.KeptLemmas.{kept_goes_on}
use Rattle.px_refresh.proofs.KeyLemmas.{cookie_decides, text_decides}
use Rattle.px_refresh.specs.Authorized.{Authorization, authorizations, shown_by}
use Rattle.px_refresh.specs.Cookies.{Cookie, jar, set_by}
use Rattle.px_refresh.specs.Laws.{jar_after, shown_after}
use Rattle.px_refresh.specs.Site.{is_same_cookie}
use Rattle.px_refresh.specs.Text.{is_same_text}

jar_on : (set : List Cookie) (flows : List Flow) → jar_after (jar set) flows ≡ jar (set ++ flat_map set_by flows)
jar_on set [] = ap jar (sym (append-nil set))
jar_on set (flow ∷ flows) =
    ap (λ cookies. jar_after cookies flows) (kept_goes_on is_same_cookie cookie_decides set (set_by flow))
    ∙ jar_on (set ++ set_by flow) flows ∙ ap jar (append_assoc set (set_by flow) (flat_map set_by flows))

pub jar_of_all : (flows : List Flow) → jar_after [] flows ≡ jar (flat_map set_by flows)
jar_of_all flows = jar_on [] flows

shown_on : (shown : List Authorization) (flows : List Flow) →
    shown_after (authorizations shown) flows ≡ authorizations (shown ++ flat_map (λ flow. shown_by flow.request) flows)
shown_on shown [] = ap authorizations (sym (append-nil shown))
shown_on shown (flow ∷ flows) =
    ap (λ kept. shown_after kept flows) (kept_goes_on is_same_text text_decides shown (shown_by flow.request))
    ∙ shown_on (shown ++ shown_by flow.request) flows
    ∙ ap authorizations (append_assoc shown (shown_by flow.request) (flat_map (λ f. shown_by f.request) flows))

pub shown_of_all : (flows : List Flow) → shown_after [] flows ≡ authorizations (flat_map (λ flow. shown_by flow.request) flows)
shown_of_all flows = shown_on [] flows

pub begins : (path own : List ℕ) → starts_with nat_eq path own ≡ true → IsPrefixOf own path
begins path own says =
    let front : own ≡ take (length own) path = (text_decides own (take (length own) path)).0 says in
    (drop (length own) path, sym (take-append-drop (length own) path) ∙ ap (λ t. t ++ drop (length own) path) (sym front))

pub is_begun : (path own : List ℕ) → IsPrefixOf own path → starts_with nat_eq path own ≡ true
is_begun path own prefix = (text_decides own (take (length own) path)).1 (sym (ap (take (length own)) prefix.1 ∙ take_front own prefix.0))
  where
    take_front : (a b : List ℕ) → take (length a) (a ++ b) ≡ a
    take_front [] b = refl
    take_front (x ∷ xs) b = ap (λ l. x ∷ l) (take_front xs b)
