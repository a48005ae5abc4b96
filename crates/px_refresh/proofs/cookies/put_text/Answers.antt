use Rattle.std.proofs.Common.{◌≡◌, true, codes, refl}
use Rattle.httparse.specs.Grammar.{is_token, is_token_byte}
use Rattle.px_refresh.proofs.cookies.put_text.Goals as goal

is_name : is_token (codes "Cookie") ≡ true
unfolding is_token_byte
is_name = refl

pub of_token-requires : goal.of_token-requires
of_token-requires c = is_name
