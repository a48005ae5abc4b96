use Rattle.std.proofs.lemmas.Str.{encodes_same}
use Rattle.px_har.specs.Entry.{characters}
use Rattle.px_har.proofs.laws.characters_tell_the_bytes.Goals as goal

pub returns : goal.returns
unfolding characters
returns c = encodes_same
