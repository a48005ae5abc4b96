use Rattle.std.proofs.Common.{◌≡◌, Option, Some, None, refl, sym, ◌∙◌}
use Rattle.px_read.specs.Marks.{marks_of}
use Rattle.px_read.specs.Reader.{to_come}
use Rattle.px_exchange.specs.Bodies.{stop_of}
use Rattle.px_exchange.proofs.BodyLemmas.{nothing_yet, one_more, falls, stops_here, tells_some}
use Rattle.px_exchange.proofs.body.read_body.Goals as goal

none_of : {A : Type 0} (o : Option A) → ((x : A) → o ≡ Some x → ⊥) → o ≡ None
none_of None not = refl
none_of (Some x) not = absurd (not x refl)

pub parts-init : goal.parts-init
parts-init c = nothing_yet c.args.reader.now c.args.body.now

pub returns-in-Some : goal.returns-in-Some
returns-in-Some c =
    stops_here c.in_ok-part.part c.in-Some.progress c.args.reader.now c.parts.reader c.next.new.self c.args.body.now c.parts.body c.hear_part.new.body
    (sym c.in_ok-progress.ensures.stops ∙ c.in-Some.is) c.parts.invariant c.in_ok-part.ensures.reads c.in_ok-part.ensures.next c.in_ok-part.ensures.stopped
    c.in_ok-progress.ensures.body

pub parts-smaller : goal.parts-smaller
parts-smaller c =
    let none : stop_of c.in_ok-part.part ≡ None = sym c.in_ok-progress.ensures.stops ∙ none_of _ c.in_default.not-Some in
    falls c.args.reader.now c.parts.reader c.next.new.self c.args.body.now c.parts.body (marks_of c.in_ok-part.part) c.requires.reads c.parts.invariant c.in_ok-part.ensures.reads
    (tells_some c.in_ok-part.part (to_come c.parts.reader) none c.in_ok-part.ensures.next)

pub parts-preserved : goal.parts-preserved
parts-preserved c =
    one_more c.args.reader.now c.parts.reader c.next.new.self c.args.body.now c.parts.body c.hear_part.new.body (marks_of c.in_ok-part.part) c.parts.invariant
    c.in_ok-part.ensures.reads c.in_ok-progress.ensures.body
