use Rattle.std.proofs.Common.{◌≡◌, None, sym, ◌∙◌}
use Rattle.px_read.specs.Marks.{marks_of}
use Rattle.px_read.specs.Reader.{to_come}
use Rattle.px_exchange.specs.Bodies.{stop_of}
use Rattle.px_exchange.proofs.BodyLemmas.{falls, tells_some}
use Rattle.px_stream.proofs.ComingLemmas.{collects_of, held_more, held_nothing, held_stops, none_of}
use Rattle.px_stream.proofs.coming.read_held.Goals as goal

pub parts-init : goal.parts-init
parts-init c = held_nothing c.args.reader.now c.args.body.now c.args.said.now.items

pub returns-in-Some : goal.returns-in-Some
returns-in-Some c =
    held_stops c.in_ok-part.part c.in-Some.progress c.args.reader.now c.parts.reader c.next.new.self c.args.body.now c.args.said.now.items c.parts.body c.parts.said.items c.collect.new.body c.collect.new.said.items
    (sym c.stop_of.ensures ∙ c.in-Some.is) c.parts.invariant c.in_ok-part.ensures.reads c.in_ok-part.ensures.next c.in_ok-part.ensures.stopped
    c.in_ok-collect.ensures.body c.in_ok-collect.ensures.said

pub parts-smaller : goal.parts-smaller
parts-smaller c =
    let none : stop_of c.in_ok-part.part ≡ None = sym c.stop_of.ensures ∙ none_of _ c.in_default.not-Some in
    falls c.args.reader.now c.parts.reader c.next.new.self c.args.body.now c.parts.body (marks_of c.in_ok-part.part) c.requires.reads (collects_of c.args.reader.now c.parts.reader c.args.body.now c.args.said.now.items c.parts.body c.parts.said.items c.parts.invariant) c.in_ok-part.ensures.reads
    (tells_some c.in_ok-part.part (to_come c.parts.reader) none c.in_ok-part.ensures.next)

pub parts-preserved : goal.parts-preserved
parts-preserved c =
    held_more c.args.reader.now c.parts.reader c.next.new.self c.args.body.now c.args.said.now.items c.parts.body c.parts.said.items c.collect.new.body c.collect.new.said.items c.in_ok-part.part c.parts.invariant
    c.in_ok-part.ensures.reads c.in_ok-collect.ensures.body c.in_ok-collect.ensures.said
