use Rattle.std.proofs.Common.{◌∙◌, ap, drop, sym}
use Rattle.std.proofs.lemmas.List.{drop-drop}
use Rattle.px_replay.proofs.places.Places.give_first.Goals as goal

pub returns-then-self-len : goal.returns-then-self-len
returns-then-self-len c = sym (drop-drop 1 c.self.inside.given c.self.inside.all.items) ∙ ap (drop 1) c.self.view_is
