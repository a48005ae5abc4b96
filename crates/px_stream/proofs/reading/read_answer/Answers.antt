use Rattle.std.proofs.Common.{◌≡◌, sym, ◌∙◌, subst}
use Rattle.px_read.specs.Reader.{State, to_come, IsNext}
use Rattle.px_read.specs.declared.head.ResponseHead.{ResponseHead}
use Rattle.px_read.specs.declared.part.Part.{Part}
use Rattle.px_read.specs.declared.part.Part.TheVariants as given
use Rattle.px_stream.specs.Responses.{GaveOne}
use Rattle.px_stream.proofs.ResponseLemmas.{sent_nothing, sent_more, less_left, read_answer_come, interim_part}
use Rattle.px_stream.proofs.reading.read_answer.Goals as goal

next_as : (got : Part) (head : ResponseHead) (state : State) → got ≡ given.Response head → IsNext got (to_come state) → IsNext (given.Response head) (to_come state)
next_as got head state is next = let P : Part → Type 0 = λ p. IsNext p (to_come state) in subst P is next

gave_as : (got : Part) (head : ResponseHead) (old new : State) → got ≡ given.Response head → GaveOne got old new → GaveOne (given.Response head) old new
gave_as got head old new is gave = let P : Part → Type 0 = λ p. GaveOne p old new in subst P is gave

pub answers-init : goal.answers-init
answers-init c = sent_nothing c.args.sends c.args.link.now c.args.out.now.items

pub answers-smaller : goal.answers-smaller
answers-smaller c =
    let part = interim_part c.in_ok-part.part c.in-Interim.head (sym c.came_of.ensures ∙ c.in-Interim.is) in
    less_left c.args.sends c.args.link.now c.answers.link c.begin_next.new.link c.args.out.now.items c.answers.out.items c.in-Interim.head c.next.new.self c.requires.kept c.answers.invariant
    (next_as c.in_ok-part.part c.in-Interim.head c.answers.link.responses part.0 c.in_ok-part.ensures.next)
    (gave_as c.in_ok-part.part c.in-Interim.head c.answers.link.responses c.next.new.self part.0 c.in_ok-part.ensures.reads) part.1 c.in_ok-begin_next.ensures

pub answers-preserved : goal.answers-preserved
answers-preserved c =
    let part = interim_part c.in_ok-part.part c.in-Interim.head (sym c.came_of.ensures ∙ c.in-Interim.is) in
    sent_more c.args.sends c.args.link.now c.answers.link c.begin_next.new.link c.args.out.now.items c.answers.out.items c.send_on.new.out.items c.in-Interim.head c.next.new.self c.answers.invariant
    (next_as c.in_ok-part.part c.in-Interim.head c.answers.link.responses part.0 c.in_ok-part.ensures.next)
    (gave_as c.in_ok-part.part c.in-Interim.head c.answers.link.responses c.next.new.self part.0 c.in_ok-part.ensures.reads) part.1 c.in_ok-begin_next.ensures
    c.in_ok-send_on.ensures

pub returns-in-Final : goal.returns-in-Final
returns-in-Final c =
    read_answer_come c.args.sends c.args.link.now c.answers.link c.args.out.now.items c.answers.out.items c.in_ok-part.part c.next.new.self c.in-Final.answer c.answers.invariant
    c.in_ok-part.ensures.next c.in_ok-part.ensures.reads (sym c.came_of.ensures ∙ c.in-Final.is)
