-- Sites, and the keys of cookies.
use Rattle.std.specs.Prelude.{Bool, ◌&&◌, nat_eq}
use Rattle.px_text.specs.Ascii.{lowercase}
use Rattle.px_message.specs.declared.request.Request.{Request}
use Rattle.px_refresh.specs.declared.key.CookieKey.{CookieKey}
use Rattle.px_refresh.specs.declared.key.Site.{Site}
use Rattle.px_refresh.specs.Text.{is_same_text}

-- the site of a request: its host without the case of its letters, and its port
abbrev pub site_of : Request → Site
site_of request = record { host = lowercase request.host; port = request.port }

abbrev pub is_same_site : Site → Site → Bool
is_same_site a b = is_same_text a.host b.host && nat_eq a.port b.port

abbrev pub is_same_cookie : CookieKey → CookieKey → Bool
is_same_cookie a b = is_same_site a.site b.site && (is_same_text a.path b.path && is_same_text a.name b.name)
