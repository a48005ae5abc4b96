use Rattle.std.proofs.Common.{◌≡◌, true, codes, refl}
use Rattle.httparse.specs.Grammar.{is_token, is_token_byte}
use Rattle.px_message.specs.Length.{content_length}
use Rattle.px_write.proofs.short.short_fields.Goals as goal

server_is_name : is_token (codes "Server") ≡ true
unfolding is_token_byte
server_is_name = refl

length_is_name : is_token content_length ≡ true
unfolding is_token_byte
length_is_name = refl

pub add-requires-clause-name : goal.add-requires-clause-name
add-requires-clause-name c = server_is_name

pub add-requires-then-code-ne304-clause-name : goal.add-requires-then-code-ne304-clause-name
add-requires-then-code-ne304-clause-name c = length_is_name
