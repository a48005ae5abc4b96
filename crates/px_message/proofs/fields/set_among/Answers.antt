use Rattle.std.proofs.Common.{◌≡◌, ◌∙◌, None, Some, [], ◌∷◌, ◌++◌, refl}
use Rattle.std.proofs.lemmas.Result.{on_ok_weaker}
use Rattle.std.specs.Prelude.{position}
use Rattle.px_message.specs.Fields.{is_named}
use Rattle.px_message.proofs.SetLemmas.{put_at, same_position, set_in-None}
use Rattle.px_message.proofs.fields.set_among.Goals as goal

pub returns-in-None-clause-set : goal.returns-in-None-clause-set
returns-in-None-clause-set c =
    let fields = c.args.pairs.now.items in
    let none : position (is_named c.args.name) fields ≡ None =
    same_position _ _ _ _ _ c.bytes.ensures.bytes c.deref.ensures.value c.in-None.ensures in
    let end = set_in-None c.args.name c.args.value fields none in
    on_ok_weaker c.push_pair.result
    (λ (added : c.push_pair.new.pairs.items ≡ fields ++ (c.args.name, c.args.value) ∷ []). added ∙ end) c.push_pair.ensures.added

pub returns-in-Some-clause-set : goal.returns-in-Some-clause-set
returns-in-Some-clause-set c =
    let found : position (is_named c.args.name) c.args.pairs.now.items ≡ Some c.in-Some.first =
    same_position _ _ _ _ _ c.bytes.ensures.bytes c.deref.ensures.value c.in-Some.ensures in
    put_at _ c.args.name c.args.value _ _ c.args.pairs.now.items c.in-Some.first c.bytes-in-Some.ensures.bytes refl
    c.remove_from.ensures found
