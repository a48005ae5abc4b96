use Rattle.std.proofs.Common.{refl}
use Rattle.httparse.specs.Grammar.{is_token_byte}
use Rattle.px_examples.proofs.valid.names_are_tokens.Goals as goal

pub returns : goal.returns
unfolding is_token_byte
returns c = refl
