use Rattle.px_core.proofs.laws.an_end_lasts.Goals as goal

pub returns-clause-over : goal.returns-clause-over
returns-clause-over g c = λ made moves over more. g.C.Owes.lasts made moves over more

pub returns-clause-due : goal.returns-clause-due
returns-clause-due g c = λ made moves over more view. g.C.Owes.over made moves over more view
