use Rattle.std.proofs.Common.{◌≡◌, true, codes, refl}
use Rattle.httparse.specs.Grammar.{is_token, is_token_byte}
use Rattle.px_message.specs.Length.{content_length}
use Rattle.px_map.proofs.responses.fields_with.Goals as goal

server_is_name : is_token (codes "Server") ≡ true
unfolding is_token_byte
server_is_name = refl

length_is_name : is_token content_length ≡ true
unfolding is_token_byte
length_is_name = refl

pub add-requires : goal.add-requires
add-requires c = server_is_name

pub add-requires-2 : goal.add-requires-2
add-requires-2 c = length_is_name
