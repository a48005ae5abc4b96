-- The targets of requests, hosts, and URLs.
use Rattle.std.specs.Prelude.{ℕ, Bool, true, false, List, [], ◌∷◌, Option, Some, None, codes}
use Rattle.px_message.specs.Target.{Form, origin, absolute, authority, asterisk}
use Rattle.px_examples.specs.Rows.{◌gives◌}

-- of GET, and of any other method
abbrev pub of_get : List (List ℕ × Option Form)
of_get =
    "/a?b=c" gives Some (origin (codes "/a?b=c"))
    ∷ "//a" gives Some (origin (codes "//a"))
    ∷ "/a b" gives None
    ∷ "/\u{7f}" gives None
    ∷ "" gives None
    ∷ "a" gives None
    ∷ "h:80" gives None
    ∷ "*" gives Some asterisk
    ∷ "**" gives None
    ∷ "HTTP://h" gives Some (absolute (codes "h") 80 (codes "/"))
    ∷ "http://h?x" gives Some (absolute (codes "h") 80 (codes "/?x"))
    ∷ "http://h#x" gives None
    ∷ "http:///x" gives None
    ∷ "https://h/" gives None
    ∷ "http://[::1]:8080/a" gives Some (absolute (codes "[::1]") 8080 (codes "/a"))
    ∷ "http://h:65535/" gives Some (absolute (codes "h") 65535 (codes "/"))
    ∷ "http://h:65536/" gives None
    ∷ "http://h:0/" gives None
    ∷ "http://h:00080/" gives Some (absolute (codes "h") 80 (codes "/"))
    ∷ "http://h:000080/" gives None
    ∷ "http://a:b@h" gives None
    ∷ "http://:80" gives None
    ∷ "http://h:" gives None
    ∷ "http://h:+80" gives None
    ∷ "http://h:8a" gives None
    ∷ "http://[::1]x:80" gives None
    ∷ "http://x[]" gives Some (absolute (codes "x[]") 80 (codes "/"))
    ∷ "http://[::1" gives None
    ∷ "http://h%20" gives None
    ∷ "http://h:1:2" gives None
    ∷ "http://" gives None
    ∷ []

-- of CONNECT
abbrev pub of_connect : List (List ℕ × Option Form)
of_connect =
    "h:443" gives Some (authority (codes "h") 443)
    ∷ "[::1]:443" gives Some (authority (codes "[::1]") 443)
    ∷ "h" gives None
    ∷ "h:" gives None
    ∷ "*" gives None
    ∷ "/a" gives None
    ∷ "http://h:443/" gives None
    ∷ []

-- of another method, `connect`
abbrev pub of_lowercase : List (List ℕ × Option Form)
of_lowercase =
    "h:443" gives None
    ∷ []

-- hosts
abbrev pub hosts : List (List ℕ × Bool)
hosts =
    "127.0.0.1" gives true
    ∷ "[::1]" gives true
    ∷ "[]" gives true
    ∷ "x[]" gives true
    ∷ "" gives false
    ∷ "u@h" gives false
    ∷ "h:80" gives false
    ∷ "h:" gives false
    ∷ "[::1]x" gives false
    ∷ "[::1" gives false
    ∷ "h/" gives false
    ∷ "h%20" gives false
    ∷ []

-- the URL of a request whose URL was set to this, where it is one
abbrev pub urls : List (List ℕ × Option (List ℕ))
urls =
    "http://h:81/a?b" gives Some (codes "http://h:81/a?b")
    ∷ "http://k?x" gives Some (codes "http://k/?x")
    ∷ "HTTP://k" gives Some (codes "http://k/")
    ∷ "https://k/" gives None
    ∷ []
