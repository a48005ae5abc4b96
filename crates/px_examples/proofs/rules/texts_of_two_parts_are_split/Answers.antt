use Rattle.std.proofs.Common.{refl}
use Rattle.std.specs.Char.{encode_utf8}
use Rattle.std.specs.Str.{chars}
use Rattle.px_examples.proofs.rules.texts_of_two_parts_are_split.Goals as goal

pub returns : goal.returns
unfolding chars encode_utf8
returns c = refl
