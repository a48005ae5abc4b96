use Rattle.px_wire.proofs.StepLemmas.{told_as, free_as}
use Rattle.px_wire.proofs.ready.take_ready.Goals as goal

pub returns-in-Accepted-clause-stands : goal.returns-in-Accepted-clause-stands
returns-in-Accepted-clause-stands g c = λ before calm rests free tells.
    c.accept.ensures.stands before calm rests (free_as c.args.ready _ _ _ before c.in-Accepted.is free) (told_as c.args.moment c.args.ready _ _ _ c.in-Accepted.is tells)

pub returns-in-Accepted-clause-err : goal.returns-in-Accepted-clause-err
returns-in-Accepted-clause-err g c = λ before calm rests free tells.
    c.accept.ensures.err before calm rests (free_as c.args.ready _ _ _ before c.in-Accepted.is free) (told_as c.args.moment c.args.ready _ _ _ c.in-Accepted.is tells)

pub returns-in-Readable-clause-stands : goal.returns-in-Readable-clause-stands
returns-in-Readable-clause-stands g c = λ before calm rests free tells. c.set_readable.ensures.stands before _ calm rests (told_as c.args.moment c.args.ready _ _ _ c.in-Readable.is tells)

pub returns-in-Writable-clause-stands : goal.returns-in-Writable-clause-stands
returns-in-Writable-clause-stands g c = λ before calm rests free tells. c.flush_slot.ensures.stands before calm rests (told_as c.args.moment c.args.ready _ _ _ c.in-Writable.is tells)

pub returns-in-Dialled-clause-stands : goal.returns-in-Dialled-clause-stands
returns-in-Dialled-clause-stands g c = λ before calm rests free tells. c.hear_dialled.ensures.stands before calm rests (told_as c.args.moment c.args.ready _ _ _ c.in-Dialled.is tells)

pub returns-in-Dialled-clause-err : goal.returns-in-Dialled-clause-err
returns-in-Dialled-clause-err g c = λ before calm rests free tells. c.hear_dialled.ensures.err before calm rests (told_as c.args.moment c.args.ready _ _ _ c.in-Dialled.is tells)
