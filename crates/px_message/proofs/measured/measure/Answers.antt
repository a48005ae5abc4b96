use Rattle.std.proofs.Common.{◌≡◌, true, refl}
use Rattle.httparse.specs.Grammar.{is_token, is_token_byte}
use Rattle.px_message.specs.Length.{content_length}
use Rattle.px_message.proofs.measured.measure.Goals as goal

is_name : is_token content_length ≡ true
unfolding is_token_byte
is_name = refl

pub of_token-requires : goal.of_token-requires
of_token-requires c = is_name
