-- What sticky cookies and sticky authorization make of a draft, and of what is kept for them.
use Rattle.std.specs.Prelude.{◌≡◌, ◌++◌, Option, None, Some}
use Rattle.px_core.specs.declared.answerer.Draft.{Draft}
use Rattle.px_filter.specs.View.{expression}
use Rattle.px_message.specs.declared.flow.Flow.{Flow}
use Rattle.px_refresh.specs.Authorized.{authorizations, authorized, shown_by}
use Rattle.px_refresh.specs.Cookies.{jar, set_by, sticky}
use Rattle.px_refresh.specs.declared.authorization.StickyAuth.{StickyAuth}
use Rattle.px_refresh.specs.declared.cookies.StickyCookies.{StickyCookies}

-- the flow whose request is sent the kept cookies that are for it, where the filter holds; where none are to be kept, as it is
abbrev pub sent_cookies : Option StickyCookies → Flow → Flow
sent_cookies None flow = flow
sent_cookies (Some cookies) flow = sticky (expression cookies.filter) cookies.jar flow

-- The cookies that the draft's response sets are kept, behind those that were set before them; the filter stays, and so does the draft.
pub record KeepsSet (draft : Draft) (old : StickyCookies) (left : Draft) (new : Option StickyCookies) : Type 0 where
  pub cookies : StickyCookies
  pub is : new ≡ Some cookies
  pub filter : cookies.filter ≡ old.filter
  pub kept : cookies.jar ≡ jar (old.jar ++ set_by draft.flow)
  pub drafted : left ≡ draft

-- what is made of a draft and of kept cookies, if cookies are to be kept; without the option nothing
abbrev pub KeepsCookies : Draft → Option StickyCookies → Draft → Option StickyCookies → Type 0
KeepsCookies draft None left new = (left ≡ draft) × (new ≡ None)
KeepsCookies draft (Some cookies) left new = KeepsSet draft cookies left new

-- What the draft's request shows is kept, behind what was shown before it; a request that shows nothing is given what was shown last for its host, where
-- the filter holds. The filter stays.
pub record KeepsShown (draft : Draft) (old : StickyAuth) (left : Draft) (new : Option StickyAuth) : Type 0 where
  pub auth : StickyAuth
  pub is : new ≡ Some auth
  pub filter : auth.filter ≡ old.filter
  pub kept : auth.shown ≡ authorizations (old.shown ++ shown_by draft.flow.request)
  pub drafted : left ≡ record draft { flow = authorized (expression old.filter) old.shown draft.flow }

-- what is made of a draft and of kept authorizations, if they are to be kept; without the option nothing
abbrev pub Authorizes : Draft → Option StickyAuth → Draft → Option StickyAuth → Type 0
Authorizes draft None left new = (left ≡ draft) × (new ≡ None)
Authorizes draft (Some auth) left new = KeepsShown draft auth left new
