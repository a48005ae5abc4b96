-- An address, as the doors of the program's own are told by it.
use Rattle.std.specs.Prelude.{◌≡◌}
use Rattle.std.specs.declared.net.ip_addr.IpAddr.{IpAddr}
use Rattle.std.specs.Net.Addr.{MatchIp, IsCanonicalOf, IsUnspecifiedV4, IsUnspecifiedV6}

-- the first address is seen as the second: an IPv4 address within an IPv6 one as that IPv4 address (RFC 4291 section 2.5.5.2), and each other as itself
abbrev pub IsSeenAs : IpAddr → IpAddr → Type 0
IsSeenAs address ip = MatchIp address (λ _. ip ≡ address) (λ a. IsCanonicalOf a ip)

-- the address is the unspecified one, which stands for each of the machine's
abbrev pub IsAnywhere : IpAddr → Type 0
IsAnywhere ip = MatchIp ip IsUnspecifiedV4 IsUnspecifiedV6
