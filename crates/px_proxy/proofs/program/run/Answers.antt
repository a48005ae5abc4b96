-- What lines keep says which calls were made, and their steps are those of the run: so what is said of the steps is said of
-- what the wire took.
use Rattle.px_proxy.proofs.ChainLemmas.{chain_connects_none}
use Rattle.px_proxy.proofs.EndLemmas.{fault_of, file_by, not_ended}
use Rattle.px_proxy.proofs.RunLemmas.{kept_obeys, agreed_steps, wired_by}
use Rattle.px_proxy.proofs.program.run.Goals as goal

pub returns-clause-obeys : goal.returns-clause-obeys
returns-clause-obeys g c = kept_obeys c.run-status.new.net.is_spent c.run-status.new.net.table (g.W.Wire.calls c.run-status.new.net.wire) c.wire-kept.ensures.keeps

pub returns-clause-steps : goal.returns-clause-steps
returns-clause-steps g c = agreed_steps (g.W.Wire.steps c.run-status.new.net.wire) (g.W.Wire.calls c.run-status.new.net.wire) c.wire-kept.ensures.agree

pub returns-clause-serves : goal.returns-clause-serves
returns-clause-serves g c = λ path words.
    let run = c.run-status.ensures.serves path words in
    let by = fault_of (g.W.Wire.faults c.args.lines.now.wire) c.args.lines.now.faults (g.W.Wire.faults c.run-status.new.net.wire) c.run-status.new.net.faults (g.W.Wire.calls c.run-status.new.net.wire)
    c.wire-kept.ensures.own_faults in (
      run.0,
      file_by _ _ _ _ _ _ _ _ _ _ _ _ by path run.0 _ _ _ run.1,
      wired_by _ _ _ _ _ (λ hook flow old old_files new new_files reply is. chain_connects_none _ _ _ hook flow _ _ old_files _ _ new_files reply is) _ _ _ _ _ _ path run.0 _ _ _
          (agreed_steps (g.W.Wire.steps c.run-status.new.net.wire) (g.W.Wire.calls c.run-status.new.net.wire) c.wire-kept.ensures.agree)
          (kept_obeys c.run-status.new.net.is_spent c.run-status.new.net.table (g.W.Wire.calls c.run-status.new.net.wire) c.wire-kept.ensures.keeps) run.1,
    )

pub returns-clause-endless : goal.returns-clause-endless
returns-clause-endless g c list told =
    not_ended list (kept_obeys c.run-status.new.net.is_spent c.run-status.new.net.table (g.W.Wire.calls c.run-status.new.net.wire) c.wire-kept.ensures.keeps list told)
