use Rattle.std.proofs.Common.{◌≡◌, [], ◌++◌, None, refl, sym, ◌∙◌}
use Rattle.px_read.specs.Marks.{marks_of}
use Rattle.px_read.specs.Reader.{to_come}
use Rattle.px_exchange.specs.Bodies.{content_of, stop_of}
use Rattle.px_exchange.proofs.BodyLemmas.{falls, tells_some}
use Rattle.px_stream.proofs.ComingLemmas.{collects_of, held_more, held_nothing, held_stops, none_of}
use Rattle.px_stream.proofs.coming.read_on.Goals as goal

pub parts-init : goal.parts-init
parts-init c = ([], held_nothing c.args.reader.now [] c.args.said.now.items)

pub returns-in-Some : goal.returns-in-Some
returns-in-Some c = record {
  body = c.parts.invariant.0 ++ content_of (marks_of c.in_ok-part.part);
  held = held_stops c.in_ok-part.part c.in-Some.progress c.args.reader.now c.parts.reader c.next.new.self [] c.args.said.now.items c.parts.invariant.0 c.parts.said.items _ c.say.new.said.items
      (sym c.stop_of.ensures ∙ c.in-Some.is) c.parts.invariant.1 c.in_ok-part.ensures.reads c.in_ok-part.ensures.next c.in_ok-part.ensures.stopped refl c.in_ok-say.ensures;
}

pub parts-smaller : goal.parts-smaller
parts-smaller c =
    let none : stop_of c.in_ok-part.part ≡ None = sym c.stop_of.ensures ∙ none_of _ c.in_default.not-Some in
    falls c.args.reader.now c.parts.reader c.next.new.self [] c.parts.invariant.0 (marks_of c.in_ok-part.part) c.requires.reads (collects_of c.args.reader.now c.parts.reader [] c.args.said.now.items c.parts.invariant.0 c.parts.said.items c.parts.invariant.1) c.in_ok-part.ensures.reads
    (tells_some c.in_ok-part.part (to_come c.parts.reader) none c.in_ok-part.ensures.next)

pub parts-preserved : goal.parts-preserved
parts-preserved c = (
  c.parts.invariant.0 ++ content_of (marks_of c.in_ok-part.part),
  held_more c.args.reader.now c.parts.reader c.next.new.self [] c.args.said.now.items c.parts.invariant.0 c.parts.said.items _ c.say.new.said.items c.in_ok-part.part c.parts.invariant.1
      c.in_ok-part.ensures.reads refl c.in_ok-say.ensures,
)
