use Rattle.std.proofs.Common.{◌∙◌, sym, inl, inr}
use Rattle.toml.proofs.Views.{Entry}
use Rattle.px_options.proofs.GatherLemmas.{key_more, key_refused}
use Rattle.px_options.proofs.table.gather.Goals as goal

pub loop-name-preserved : goal.loop-name-preserved
loop-name-preserved c =
    let e : Entry = (c.in-Some.name.now, c.in-Some.value.now) in
    key_more c.loop-name.name-iterator c.next.new.self e _ _ _ c.in-Some.ensures.steps c.as_bytes.ensures.value c.in-Ok.ensures.ok ∙ c.loop-name.invariant

pub returns-in-Err-clause-err : goal.returns-in-Err-clause-err
returns-in-Err-clause-err c =
    let e : Entry = (c.in-Some.name.now, c.in-Some.value.now) in
    elim c.in-Err.ensures.err [
      | inl full ↦ inl full
      | inr bad ↦ inr (sym c.loop-name.invariant ∙ key_refused c.loop-name.name-iterator c.next.new.self e _ _ _ c.in-Some.ensures.steps c.as_bytes.ensures.value bad)
    ]
