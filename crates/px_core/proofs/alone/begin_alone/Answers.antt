use Rattle.px_core.proofs.alone.begin_alone.Goals as goal

pub returns-in-Ok-clause-ok : goal.returns-in-Ok-clause-ok
returns-in-Ok-clause-ok g c = λ due course trace owes stands now. c.in-Ok.ensures.ok due course trace owes stands now

pub returns-in-Err-clause-breaks : goal.returns-in-Err-clause-breaks
returns-in-Err-clause-breaks g c = λ due course trace told owes stands now is. c.in-Err.ensures.breaks due course trace told owes stands now is
