use Rattle.std.proofs.Common.{◌≡◌, true, codes, refl}
use Rattle.httparse.specs.Grammar.{is_token, is_token_byte}
use Rattle.px_map.proofs.url.set_host.Goals as goal

is_name : is_token (codes "Host") ≡ true
unfolding is_token_byte
is_name = refl

pub of_token-requires : goal.of_token-requires
of_token-requires c = is_name
