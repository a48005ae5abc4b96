-- What is kept after flows that came one behind the other.
use Rattle.std.specs.Prelude.{List, [], ◌∷◌, ◌++◌}
use Rattle.px_message.specs.declared.flow.Flow.{Flow}
use Rattle.px_refresh.specs.Authorized.{Authorization, authorizations, shown_by}
use Rattle.px_refresh.specs.Cookies.{Cookie, jar, set_by}

-- each response is kept with what was kept before it
abbrev pub jar_after : List Cookie → List Flow → List Cookie
jar_after cookies [] = cookies
jar_after cookies (flow ∷ flows) = jar_after (jar (cookies ++ set_by flow)) flows

-- each request likewise
abbrev pub shown_after : List Authorization → List Flow → List Authorization
shown_after shown [] = shown
shown_after shown (flow ∷ flows) = shown_after (authorizations (shown ++ shown_by flow.request)) flows
