use Rattle.std.proofs.Common.{◌≡◌, true, codes, refl}
use Rattle.httparse.specs.Grammar.{is_token, is_token_byte}
use Rattle.px_message.specs.Length.{content_length}
use Rattle.px_addons.proofs.mapping.refusal_fields.Goals as goal

server_is_name : is_token (codes "Server") ≡ true
unfolding is_token_byte
server_is_name = refl

connection_is_name : is_token (codes "Connection") ≡ true
unfolding is_token_byte
connection_is_name = refl

type_is_name : is_token (codes "Content-Type") ≡ true
unfolding is_token_byte
type_is_name = refl

length_is_name : is_token content_length ≡ true
unfolding is_token_byte
length_is_name = refl

pub add-requires-clause-name : goal.add-requires-clause-name
add-requires-clause-name c = server_is_name

pub add-requires-2-clause-name : goal.add-requires-2-clause-name
add-requires-2-clause-name c = connection_is_name

pub add-requires-3-clause-name : goal.add-requires-3-clause-name
add-requires-3-clause-name c = type_is_name

pub add-requires-4-clause-name : goal.add-requires-4-clause-name
add-requires-4-clause-name c = length_is_name
