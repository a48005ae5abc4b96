use Rattle.std.proofs.Common.{Err, ◌∙◌, sym, ap, option_map, inl, inr}
use Rattle.px_options.specs.View.{place}
use Rattle.px_options.proofs.AddressLemmas.{connect_said, connect_unsaid}
use Rattle.px_options.proofs.address.address_of.Goals as goal

pub returns-in-Some-clause-ok : goal.returns-in-Some-clause-ok
returns-in-Some-clause-ok c =
    connect_said c.args.text.now c.in-Ok.target c.in-Ok.ensures.ok ∙ sym c.authority_in.ensures ∙ ap (option_map place) c.in-Some.is

pub returns-in-None-clause-err : goal.returns-in-None-clause-err
returns-in-None-clause-err c =
    elim c.wrong_kind.ensures [
      | inl full ↦ inl full
      | inr wrong ↦ inr (
        wrong,
        connect_said c.args.text.now c.in-Ok.target c.in-Ok.ensures.ok ∙ sym c.authority_in.ensures ∙ ap (option_map place) c.in-None.is,
      )
    ]

pub returns-in-Err-BadTarget-clause-err : goal.returns-in-Err-BadTarget-clause-err
returns-in-Err-BadTarget-clause-err c =
    elim c.wrong_kind-in-Err-BadTarget.ensures [
      | inl full ↦ inl full
      | inr wrong ↦ inr (wrong, connect_unsaid c.args.text.now (c.read_target.ensures.bad (c.in-Err-BadTarget.is ∙ ap Err c.in-Err-BadTarget.field-0-is)))
    ]
