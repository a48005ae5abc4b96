-- What responses set, what is kept of it, and what requests are sent and given.
use Rattle.std.specs.Prelude.{ℕ, ◌==◌, List, [], ◌∷◌, ◌++◌, Option, Some, None, codes}
use Rattle.std.specs.List.{slice_split}
use Rattle.px_refresh.specs.declared.key.Site.{Site}
use Rattle.px_refresh.specs.Authorized.{Authorization, authorizations, value_for}
use Rattle.px_refresh.specs.Cookies.{Cookie, cookie_text, cookies_in, jar, sent_to}
use Rattle.px_text.specs.Ascii.{lowercase}
use Rattle.px_examples.specs.Rows.{◌gives◌}
use Prim.Native.String.{String}

-- ---- the cookie that the value of a `Set-Cookie` sets

abbrev pub site : String → ℕ → Site
site host port = record { host = lowercase (codes host); port = port }

-- path, name and value
abbrev pub cookie : String → String → String → Option Cookie
cookie path name value = Some ((record { site = site "h" 80; path = codes path; name = codes name }), codes value)

abbrev pub set : List (List ℕ × Option Cookie)
set =
    "s=1" gives cookie "/" "s" "1"
    ∷ "s=1; Path=/a; HttpOnly" gives cookie "/a" "s" "1"
    -- paths
    ∷ "s=1;path=/a" gives cookie "/a" "s" "1"
    ∷ "s=1; PATH=/A/b" gives cookie "/A/b" "s" "1"
    ∷ "s=1; Path=/" gives cookie "/" "s" "1"
    ∷ "s=1; Path=a" gives cookie "/" "s" "1"
    ∷ "s=1; Path=" gives cookie "/" "s" "1"
    ∷ "s=1; Path" gives cookie "/" "s" "1"
    ∷ "s=1; Path = /a" gives cookie "/" "s" "1"
    ∷ "s=1; Path= /a" gives cookie "/" "s" "1"
    ∷ "s=1; XPath=/a" gives cookie "/" "s" "1"
    ∷ "s=1; Path=/a; Path=/b" gives cookie "/b" "s" "1"
    ∷ "s=1; Path=/a; Path=b" gives cookie "/a" "s" "1"
    ∷ "s=1; Path=/a=b" gives cookie "/a=b" "s" "1"
    ∷ "Path=/a; s=1" gives cookie "/" "Path" "/a"
    -- other attributes
    ∷ "s=1; Domain=example.com; Expires=Thu, 01 Jan 1970 00:00:00 GMT; Max-Age=0; Secure; SameSite=None" gives cookie "/" "s" "1"
    ∷ "s=1; ; ;" gives cookie "/" "s" "1"
    -- blanks
    ∷ " \ts =\t 1 ;\t Path=/a \t" gives cookie "/a" "s" "1"
    ∷ "s=1 2" gives cookie "/" "s" "1 2"
    ∷ "a b=1" gives cookie "/" "a b" "1"
    -- values
    ∷ "s=" gives cookie "/" "s" ""
    ∷ "s= " gives cookie "/" "s" ""
    ∷ "s=a=b" gives cookie "/" "s" "a=b"
    ∷ "s==" gives cookie "/" "s" "="
    ∷ "s=\"1; Path=/a\"" gives cookie "/a\"" "s" "\"1"
    -- no `=`, and names that are empty
    ∷ "" gives None
    ∷ "s" gives None
    ∷ "s; t=1" gives None
    ∷ "; s=1" gives None
    ∷ "=1" gives None
    ∷ " \t=1" gives None
    ∷ "=" gives None
    ∷ []

-- ---- what is sent

-- the cookies of one response of a host and a port, whose `Set-Cookie` values stand one a line
abbrev pub by : String → ℕ → String → List Cookie
by host port values = cookies_in (site host port) (slice_split (λ b. b == 10) (codes values))

-- behind such responses, a request of a host and a port for a path
abbrev pub Asked : Type 0
Asked = List Cookie × Site × List ℕ

abbrev pub ask : String → ℕ → String → List Cookie → Asked
ask host port path set = (set, site host port, codes path)

-- the text of the cookies that it is sent
abbrev pub text_to : Asked → List ℕ
text_to asked = cookie_text (sent_to asked.1 asked.2 (jar asked.0))

abbrev pub sent : List (Asked × List ℕ)
sent =
    (ask "h" 80 "/" [], [])
    ∷ (ask "h" 80 "/a/x" (by "h" 80 "s=1; Path=/a; HttpOnly"), codes "s=1")
    ∷ (ask "h" 80 "/b" (by "h" 80 "s=1; Path=/a; HttpOnly"), [])
    -- two fields in one response, two responses, and the value that was set last in the place of the first
    ∷ (ask "h" 80 "/" (by "h" 80 "s=1\nt=2"), codes "s=1; t=2")
    ∷ (ask "h" 80 "/" (by "h" 80 "t=2" ++ by "h" 80 "s=1"), codes "t=2; s=1")
    ∷ (ask "h" 80 "/" (by "h" 80 "s=1\nt=2" ++ by "h" 80 "s=3"), codes "s=3; t=2")
    ∷ (ask "h" 80 "/" (by "h" 80 "s=1\ns=2\ns="), codes "s=")
    -- a name under two paths, and names that differ in case, are two cookies
    ∷ (ask "h" 80 "/a" (by "h" 80 "s=1\ns=2; Path=/a\nS=3"), codes "s=1; s=2; S=3")
    -- paths are compared byte by byte, as beginnings
    ∷ (ask "h" 80 "/" (by "h" 80 "s=1; Path=/a"), [])
    ∷ (ask "h" 80 "/ab?c" (by "h" 80 "s=1; Path=/a"), codes "s=1")
    ∷ (ask "h" 80 "/A" (by "h" 80 "s=1; Path=/a"), [])
    ∷ (ask "h" 80 "*" (by "h" 80 "s=1"), [])
    -- hosts in any case; ports; other hosts, whatever `Domain` said
    ∷ (ask "H.example" 80 "/" (by "h.Example" 80 "s=1"), codes "s=1")
    ∷ (ask "h" 80 "/" (by "H" 80 "s=1" ++ by "h" 80 "s=2"), codes "s=2")
    ∷ (ask "h" 81 "/" (by "h" 80 "s=1"), [])
    ∷ (ask "h" 80 "/" (by "h" 80 "s=1" ++ by "h" 81 "s=2"), codes "s=1")
    ∷ (ask "a.h" 80 "/" (by "h" 80 "s=1; Domain=a.h"), [])
    ∷ []

-- ---- what is given

abbrev pub shown_to : String → String → Authorization
shown_to host value = (codes host, codes value)

-- behind requests that showed these, the value that a request of a host is given
abbrev pub value_to : List Authorization × List ℕ → Option (List ℕ)
value_to asked = value_for asked.1 (authorizations asked.0)

abbrev pub given : List ((List Authorization × List ℕ) × Option (List ℕ))
given =
    (([], codes "h"), None)
    ∷ ((shown_to "h" "Basic QQ==" ∷ [], codes "h"), Some (codes "Basic QQ=="))
    ∷ ((shown_to "h" "Basic QQ==" ∷ [], codes "H"), None)
    ∷ ((shown_to "h" "a" ∷ shown_to "H" "b" ∷ [], codes "h"), Some (codes "a"))
    ∷ ((shown_to "h" "a" ∷ shown_to "k" "b" ∷ shown_to "h" "c" ∷ [], codes "h"), Some (codes "c"))
    ∷ ((shown_to "h" "a" ∷ shown_to "k" "b" ∷ shown_to "h" "c" ∷ [], codes "k"), Some (codes "b"))
    ∷ ((shown_to "h" "a" ∷ shown_to "h" "" ∷ [], codes "h"), Some [])
    ∷ []
