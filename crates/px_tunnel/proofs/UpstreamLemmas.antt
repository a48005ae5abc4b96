-- What a proxy that is asked for a tunnel answers: a close decides only what is awaited, and what is decided stays. And what is left behind a head.
use Rattle.std.proofs.Common.{◌≡◌, ◌≢◌, ℕ, ◌≤◌, Bool, true, false, List, ◌++◌, length, drop, None, refl, ap, sym, ◌∙◌, subst}
use Rattle.px_head.specs.declared.front.Front.{Front}
use Rattle.px_head.specs.declared.front.Front.TheVariants.{BadHead, Nothing, Stands, TooLong}
use Rattle.px_head.specs.declared.front.Kind.TheVariants.{Response}
use Rattle.px_head.specs.Front.{front, response_front}
use Rattle.px_head.specs.Reader.{Reader, after, seen, seen_by}
use Rattle.px_head.proofs.FrontLemmas.{front-stays, used-within}
use Rattle.px_tunnel.specs.declared.upstream.ProxyAnswer.TheVariants as says
use Rattle.px_tunnel.specs.Upstream.{Granting, awaited, granted, granting, granting_by, grants, is_success, refused, said_by}
use Rattle.px_tunnel.specs.Reaching.{at_close}

-- ---- a close

closes_grants : (success : Bool) (used : ℕ) → grants success used ≡ at_close (grants success used)
closes_grants true used = refl
closes_grants false used = refl

closes_by : (found : Front) → granting_by found true ≡ at_close (granting_by found false)
closes_by Nothing = refl
closes_by TooLong = refl
closes_by BadHead = refl
closes_by (Stands raw used) = closes_grants (is_success raw.second) used

-- a close refuses what is awaited, and changes nothing of what is decided
pub at_its_close : (text : List ℕ) → granting text true ≡ at_close (granting text false)
at_its_close text = closes_by (response_front text)

pub close_refuses : (text : List ℕ) → granting text false ≡ awaited → granting text true ≡ refused
close_refuses text is = at_its_close text ∙ ap at_close is

-- ---- what is decided stays

same_granted : (found : Front) (closed later : Bool) (used : ℕ) → granting_by found closed ≡ granted used → granting_by found later ≡ granted used
same_granted Nothing true later used is = absurd (let no : refused ≡ granted used = is in cc)
same_granted Nothing false later used is = absurd (let no : awaited ≡ granted used = is in cc)
same_granted TooLong closed later used is = is
same_granted BadHead closed later used is = is
same_granted (Stands raw n) closed later used is = is

granted_found : (found : Front) (closed : Bool) (used : ℕ) → granting_by found closed ≡ granted used → found ≢ Nothing
granted_found found closed used is none = by closed (ap (λ (f : Front). granting_by f closed) (sym none) ∙ is)
  where
    by : (closed : Bool) → granting_by Nothing closed ≡ granted used → ⊥
    by true at = let no : refused ≡ granted used = at in cc
    by false at = let no : awaited ≡ granted used = at in cc

refused_found : (found : Front) → granting_by found false ≡ refused → found ≢ Nothing
refused_found found is none = let no : awaited ≡ refused = ap (λ (f : Front). granting_by f false) (sym none) ∙ is in cc

same_refused : (found : Front) (later : Bool) → granting_by found false ≡ refused → granting_by found later ≡ refused
same_refused Nothing later is = absurd (let no : awaited ≡ refused = is in cc)
same_refused TooLong later is = is
same_refused BadHead later is = is
same_refused (Stands raw used) later is = is

-- a tunnel that a text grants is granted, with as many bytes, whatever follows and whether it closes
pub granted_stays : (text more : List ℕ) (closed later : Bool) (used : ℕ) → granting text closed ≡ granted used → granting (text ++ more) later ≡ granted used
granted_stays text more closed later used is =
    ap (λ (f : Front). granting_by f later) (front-stays Response text more (granted_found (response_front text) closed used is))
    ∙ same_granted (response_front text) closed later used is

-- one that a text refuses before a close is refused, whatever follows
pub refused_stays : (text more : List ℕ) (closed : Bool) → granting text false ≡ refused → granting (text ++ more) closed ≡ refused
refused_stays text more closed is =
    ap (λ (f : Front). granting_by f closed) (front-stays Response text more (refused_found (response_front text) is))
    ∙ same_refused (response_front text) closed is

-- so what is awaited was awaited before
pub awaited_before : (text more : List ℕ) → granting (text ++ more) false ≡ awaited → granting text false ≡ awaited
awaited_before text more is = by (granting text false) refl
  where
    by : (answer : Granting) → granting text false ≡ answer → granting text false ≡ awaited
    by awaited at = at
    by (granted used) at = absurd (let no : granted used ≡ awaited = sym (granted_stays text more false false used at) ∙ is in cc)
    by refused at = absurd (let no : refused ≡ awaited = sym (refused_stays text more false at) ∙ is in cc)

-- a head that grants is within the text
pub granted_within : (text : List ℕ) (closed : Bool) (used : ℕ) → granting text closed ≡ granted used → used ≤ length text
granted_within text closed used is = by (response_front text) refl is
  where
    by : (found : Front) → response_front text ≡ found → granting_by found closed ≡ granted used → used ≤ length text
    by Nothing at grant = absurd (granted_found Nothing closed used grant refl)
    by TooLong at grant = absurd (let no : refused ≡ granted used = grant in cc)
    by BadHead at grant = absurd (let no : refused ≡ granted used = grant in cc)
    by (Stands raw n) at grant = on (is_success raw.second) grant
      where
        on : (success : Bool) → grants success n ≡ granted used → used ≤ length text
        on true same = let e : n ≡ used = (let given : granted n ≡ granted used = same in cc) in
            subst (λ (k : ℕ). k ≤ length text) e (used-within Response text raw n at).1
        on false same = absurd (let no : refused ≡ granted used = same in cc)

-- ---- the answer without its number

pub is_awaited : (answer : Granting) → said_by answer ≡ says.Awaited → answer ≡ awaited
is_awaited awaited is = refl
is_awaited (granted used) is = absurd (let no : says.Granted ≡ says.Awaited = is in cc)
is_awaited refused is = absurd (let no : says.Refused ≡ says.Awaited = is in cc)

pub is_granted : (answer : Granting) → said_by answer ≡ says.Granted → (used : ℕ) × (answer ≡ granted used)
is_granted awaited is = absurd (let no : says.Awaited ≡ says.Granted = is in cc)
is_granted (granted used) is = (used, refl)
is_granted refused is = absurd (let no : says.Refused ≡ says.Granted = is in cc)

pub is_refused : (answer : Granting) → said_by answer ≡ says.Refused → answer ≡ refused
is_refused awaited is = absurd (let no : says.Awaited ≡ says.Refused = is in cc)
is_refused (granted used) is = absurd (let no : says.Granted ≡ says.Refused = is in cc)
is_refused refused is = refl

-- ---- one call

leaves_by : (found : Front) (reader : Reader) (used : ℕ) → granting_by found false ≡ granted used → (after found reader).rest ≡ drop used reader.rest
leaves_by Nothing reader used is = absurd (let no : awaited ≡ granted used = is in cc)
leaves_by TooLong reader used is = absurd (let no : refused ≡ granted used = is in cc)
leaves_by BadHead reader used is = absurd (let no : refused ≡ granted used = is in cc)
leaves_by (Stands raw n) reader used is = by (is_success raw.second) is
  where
    by : (success : Bool) → grants success n ≡ granted used → drop n reader.rest ≡ drop used reader.rest
    by true at = let same : n ≡ used = (let e : granted n ≡ granted used = at in cc) in ap (λ (k : ℕ). drop k reader.rest) same
    by false at = absurd (let no : refused ≡ granted used = at in cc)

-- a reader that has failed with nothing, whose bytes are the text, was fed more and looked for a response's head
pub leaves_rest : (text bytes : List ℕ) (old fed new : Reader) → old.failed ≡ None → old.rest ≡ text → fed ≡ record old { rest = old.rest ++ bytes } →
    new ≡ after (seen Response fed) fed → (used : ℕ) → granting (text ++ bytes) false ≡ granted used → new.rest ≡ drop used (text ++ bytes)
leaves_rest text bytes old fed new unfailed holds feeds leaves used is =
    let none : fed.failed ≡ None = ap (λ (r : Reader). r.failed) feeds ∙ unfailed in
    let rest : fed.rest ≡ text ++ bytes = ap (λ (r : Reader). r.rest) feeds ∙ ap (λ (l : List ℕ). l ++ bytes) holds in
    let sees : seen Response fed ≡ response_front (text ++ bytes) = ap (seen_by (front Response fed.rest)) none ∙ ap (front Response) rest in
    ap (λ (r : Reader). r.rest) (leaves ∙ ap (λ (f : Front). after f fed) sees)
    ∙ (leaves_by (response_front (text ++ bytes)) fed used is ∙ ap (drop used) rest)
