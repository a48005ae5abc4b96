-- What is kept of cookies and authorizations over answers of chains, one behind the other.
use Rattle.std.specs.Prelude.{◌≡◌, ℕ, true, false, List, [], ◌∷◌, Option, None, Some, Result, Ok, Err, if◌then◌else◌}
use Rattle.std.specs.List.{flat_map}
use Rattle.px_message.specs.declared.flow.Flow.{Flow}
use Rattle.px_map.specs.Block.{block_status}
use Rattle.px_map.specs.Remote.{remote_rules}
use Rattle.px_map.specs.View.{block_views, remote_views}
use Rattle.px_rule.specs.Header.{header_rules, with_fields}
use Rattle.px_rule.specs.Requests.{uncached, uncoded}
use Rattle.px_rule.specs.View.{header_views}
use Rattle.px_refresh.specs.Authorized.{Authorization, authorizations, shown_by}
use Rattle.px_refresh.specs.Cookies.{Cookie, jar, set_by}
use Rattle.px_refresh.specs.declared.authorization.StickyAuth.{StickyAuth}
use Rattle.px_refresh.specs.declared.cookies.StickyCookies.{StickyCookies}
use Rattle.px_addons.specs.Mapped.{names_for}
use Rattle.px_addons.specs.Turns.{Given, of_request_head, of_response_head}
use Rattle.px_addons.specs.declared.rules.Rules.{Rules}

-- ---- cookies

-- the cookies that a response sets as the header rules leave its flow
abbrev pub set_at : Rules → Flow → List Cookie
set_at rules flow = set_by (header_rules true (header_views rules.headers) flow)

-- all cookies that were set by responses whose heads were asked about, in the order of the asks
abbrev pub cookies_set : Rules → List Given → List Cookie
cookies_set rules made = flat_map (λ (given : Given). of_response_head given.hook (set_at rules given.flow)) made

-- The filter is as it was, and kept is what comes of all cookies that were set.
pub record HasKeptSet (first : StickyCookies) (set : List Cookie) (last : Option StickyCookies) : Type 0 where
  pub cookies : StickyCookies
  pub is : last ≡ Some cookies
  pub filter : cookies.filter ≡ first.filter
  pub kept : cookies.jar ≡ jar set

-- ---- authorizations

-- the flow, unless a block rule holds
abbrev pub unless_blocked : Option ℕ → Option Flow → Option Flow
unless_blocked None flow = flow
unless_blocked (Some status) flow = None

-- the flow, unless a map local rule means a file
abbrev pub unless_local : List (Option (List ℕ)) → Option Flow → Option Flow
unless_local [] flow = flow
unless_local (name ∷ names) flow = None

-- a flow as the rules on its request's fields leave it
abbrev pub with_rules : Rules → Flow → Flow
with_rules rules flow =
    let modified = header_rules false (header_views rules.headers) flow in
    let cached = if rules.anticache then with_fields false uncached modified else modified in
    if rules.anticomp then with_fields false uncoded cached else cached

-- the flow at its new URL, as the rules behind map remote leave it, unless that makes a text that is none
abbrev pub sent_on : Rules → Result Flow Flow → Option Flow
sent_on rules (Ok flow) = Some (with_rules rules flow)
sent_on rules (Err flow) = None

-- The flow of a request's head as it comes to the sticky parts, unless a part in front of them answers it: no block rule and no map local rule holds on it, and
-- map remote makes a URL of it.
abbrev pub come_through : Rules → Flow → Option Flow
come_through rules flow =
    unless_blocked (block_status (block_views rules.block) flow)
    (unless_local (names_for rules flow) (sent_on rules (remote_rules (remote_views rules.remote) flow)))

abbrev pub shown_in : Option Flow → List Authorization
shown_in None = []
shown_in (Some flow) = shown_by flow.request

-- What a request shows that comes to the sticky parts. Sticky cookies stand in front of sticky authorization, and change nothing of it.
abbrev pub shown_at : Rules → Flow → List Authorization
shown_at rules flow = shown_in (come_through rules flow)

-- all that was shown by requests whose heads were asked about, in the order of the asks
abbrev pub all_shown : Rules → List Given → List Authorization
all_shown rules made = flat_map (λ (given : Given). of_request_head given.hook (shown_at rules given.flow)) made

-- The filter is as it was, and kept is what comes of all that was shown.
pub record HasKeptShown (first : StickyAuth) (shown : List Authorization) (last : Option StickyAuth) : Type 0 where
  pub auth : StickyAuth
  pub is : last ≡ Some auth
  pub filter : auth.filter ≡ first.filter
  pub kept : auth.shown ≡ authorizations shown
