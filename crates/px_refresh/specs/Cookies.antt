-- Cookies: what a response sets, and what a request is sent of it.
use Rattle.std.specs.Prelude.{◌≡◌, ℕ, Bool, not, ◌==◌, ◌&&◌, List, [], ◌∷◌, ◌++◌, length, take, drop, map, filter, codes, nat_eq, slice_index, Option, None, Some, if◌then◌else◌}
use Rattle.std.specs.List.{after_first, before_first, flat_map, list_any, slice_split, starts_with}
use Rattle.std.specs.Option.{option_to_list}
use Rattle.px_filter.specs.Expression.{Expression}
use Rattle.px_filter.specs.Holds.{holds}
use Rattle.px_message.specs.Fields.{is_same_name, set_in, trim_blanks, values_of}
use Rattle.px_message.specs.declared.flow.Flow.{Flow}
use Rattle.px_message.specs.declared.response.Response.{Response}
use Rattle.px_text.specs.Prefix.{IsPrefixOf}
use Rattle.px_refresh.specs.declared.key.CookieKey.{CookieKey}
use Rattle.px_refresh.specs.declared.key.Site.{Site}
use Rattle.px_refresh.specs.Fields.{with_fields}
use Rattle.px_refresh.specs.Kept.{kept}
use Rattle.px_refresh.specs.Site.{is_same_cookie, is_same_site, site_of}

-- a cookie: what it is kept under, and its value
abbrev pub Cookie : Type 0
Cookie = CookieKey × List ℕ

-- ---- what a response sets (RFC 6265 section 5.2)

abbrev pub is_semicolon : ℕ → Bool
is_semicolon b = b == 59

abbrev pub is_equals : ℕ → Bool
is_equals b = b == 61

-- the text in front of the first `;`, without blanks around it
abbrev pub pair_in : List ℕ → List ℕ
pair_in text = trim_blanks (before_first is_semicolon text)

-- what stands between the `;` of a text, each without blanks around it
abbrev pub attributes_in : List ℕ → List (List ℕ)
attributes_in text = map trim_blanks (slice_split is_semicolon text)

-- what stands in front of the first `=` of a pair, and behind it, each without blanks around it
abbrev pub name_in : List ℕ → List ℕ
name_in pair = trim_blanks (before_first is_equals pair)

abbrev pub value_in : List ℕ → List ℕ
value_in pair = trim_blanks (after_first is_equals pair)

-- a pair names a cookie: it has a `=`, and a name in front of it
abbrev pub names_cookie : List ℕ → Bool
names_cookie pair = list_any is_equals pair && not (length (name_in pair) == 0)

-- an attribute that gives a path: `path=` in any case, and `/` behind it
abbrev pub gives_path : List ℕ → Bool
gives_path attribute = is_same_name (take 5 attribute) (codes "path=") && slice_index attribute 5 == 47

-- the last of a list, or else this one
abbrev pub last_or : {T : Type 0} → T → List T → T
last_or other [] = other
last_or other (x ∷ xs) = last_or x xs

-- the paths that attributes give
abbrev pub paths_in : List ℕ → List (List ℕ)
paths_in text = map (drop 5) (filter gives_path (attributes_in text))

-- of what stands behind the first `;` the path of the last attribute that gives one, or else `/`
abbrev pub path_in : List ℕ → List ℕ
path_in text = last_or (codes "/") (paths_in (after_first is_semicolon text))

-- the cookie of a site that the value of a `Set-Cookie` sets, if it names one
abbrev pub cookie_in : Site → List ℕ → Option Cookie
cookie_in site text =
    if names_cookie (pair_in text)
    then Some ((record { site = site; path = path_in text; name = name_in (pair_in text) }), value_in (pair_in text))
    else None

-- the cookies that values of `Set-Cookie` set, in their order
abbrev pub cookies_in : Site → List (List ℕ) → List Cookie
cookies_in site values = flat_map (λ text. option_to_list (cookie_in site text)) values

-- the cookies that a response sets
abbrev pub cookies_of : Site → Option Response → List Cookie
cookies_of site None = []
cookies_of site (Some response) = cookies_in site (values_of (codes "Set-Cookie") response.fields)

-- the cookies that the response of a flow sets, for the host and the port of its request
abbrev pub set_by : Flow → List Cookie
set_by flow = cookies_of (site_of flow.request) flow.response

-- what is kept of cookies that were set one behind the other: each where it was first set, with the value that it was set to last
abbrev pub jar : List Cookie → List Cookie
jar set = kept is_same_cookie set

-- some first ones of cookies that were set are kept
pub record KeepsFront (set old new : List Cookie) : Type 0 where
  pub front : List Cookie
  pub first : IsPrefixOf front set
  pub kept : new ≡ jar (old ++ front)

-- ---- what a request is sent (RFC 6265 section 5.4)

-- the cookie is of that site
abbrev pub is_at : Site → CookieKey → Bool
is_at site key = is_same_site key.site site

-- the cookie is for the path: its own path is the beginning of that
abbrev pub is_for : List ℕ → CookieKey → Bool
is_for path key = starts_with nat_eq path key.path

-- the cookies that a request of a site for a path is sent: those of the site whose path is the beginning of it
abbrev pub sent_to : Site → List ℕ → List Cookie → List Cookie
sent_to site path cookies = filter (λ cookie. is_at site cookie.0 && is_for path cookie.0) cookies

-- `name=value`
abbrev pub pair_text : Cookie → List ℕ
pair_text cookie = cookie.0.name ++ 61 ∷ cookie.1

-- a text of pairs, and `; ` behind it, unless it has none
abbrev pub separated : List ℕ → List ℕ
separated [] = []
separated (b ∷ text) = (b ∷ text) ++ codes "; "

-- a text of pairs with one more
abbrev pub with_pair : List ℕ → List ℕ → List ℕ
with_pair text pair = separated text ++ pair

-- the pairs, with `; ` between each two
abbrev pub cookie_text : List Cookie → List ℕ
cookie_text [] = []
cookie_text (cookie ∷ []) = pair_text cookie
cookie_text (cookie ∷ next ∷ cookies) = pair_text cookie ++ codes "; " ++ cookie_text (next ∷ cookies)

-- the flow whose request has this text of cookies, if there is one
abbrev pub with_text : List ℕ → Flow → Flow
with_text [] flow = flow
with_text (b ∷ text) flow = with_fields (set_in (codes "Cookie") (b ∷ text)) flow

-- the flow whose request has these cookies, if there are some
abbrev pub with_cookies : List Cookie → Flow → Flow
with_cookies [] flow = flow
with_cookies (cookie ∷ cookies) flow = with_fields (set_in (codes "Cookie") (cookie_text (cookie ∷ cookies))) flow

-- where the filter holds, the request is sent the kept cookies that are for it
abbrev pub sticky : Expression → List Cookie → Flow → Flow
sticky filter cookies flow = if holds flow filter then with_cookies (sent_to (site_of flow.request) flow.request.path cookies) flow else flow
