use Rattle.std.proofs.Common.{arith, sym, ◌∙◌, inl, inr}
use Rattle.std.proofs.lemmas.List.{length-take-le}
use Rattle.px_read.proofs.TrailerTurnLemmas.{trailers_go, trailers_too_long, trailers_bad, trailers_parts, trailers_end, trailers_done}
use Rattle.px_read.proofs.chunk_reader.trailers.hear_trailers.Goals as goal

pub read_trailers-requires : goal.read_trailers-requires
read_trailers-requires c = trailers_parts c.args.reader c.feed.new.self _ c.in-Head.raw c.requires.going.0 c.in_ok-feed.ensures.ok
    (sym c.in-Head.is ∙ c.in_ok-take_trailers.ensures.found)

pub overflow_sub-result : goal.overflow_sub-result
overflow_sub-result c =
    let end = trailers_end c.args.reader c.feed.new.self c.take_trailers.new.self _ c.in-Head.raw c.unused.result c.requires.going.0 c.requires.going.1
    c.in_ok-feed.ensures.ok (sym c.in-Head.is ∙ c.in_ok-take_trailers.ensures.found) c.in_ok-take_trailers.ensures.state
    c.unused.ensures in
    let late = end.late in
    let sum = end.rest in
    let within = c.line_length-count.ensures.within in
    let size = length-take-le c.line_length-count.result c.args.bytes.now within in
    omega arith

pub returns-in-Partial : goal.returns-in-Partial
returns-in-Partial c =
    let count = c.line_length-count.ensures in
    trailers_go c.args.reader c.feed.new.self c.take_trailers.new.self c.line_length-count.result c.args.bytes.now c.requires.going.0
    (count.some c.requires.some) count.within c.in_ok-feed.ensures.ok (sym c.in-Partial.is ∙ c.in_ok-take_trailers.ensures.found)
    c.in_ok-take_trailers.ensures.state

pub returns-in-TooLong : goal.returns-in-TooLong
returns-in-TooLong c =
    let told = c.in_ok-take_trailers.ensures.found in
    elim c.in-TooLong.is [
      | inl is ↦ trailers_too_long c.args.reader c.feed.new.self c.line_length-count.result c.args.bytes.now c.requires.going.0
          c.in_ok-feed.ensures.ok (sym is ∙ told)
      | inr is ↦ trailers_bad c.args.reader c.feed.new.self c.line_length-count.result c.args.bytes.now c.requires.going.0
          c.in_ok-feed.ensures.ok (sym is ∙ told)
    ]

pub returns-in_ok-kept-in-Head : goal.returns-in_ok-kept-in-Head
returns-in_ok-kept-in-Head c =
    let end = trailers_end c.args.reader c.feed.new.self c.take_trailers.new.self _ c.in-Head.raw c.unused.result c.requires.going.0 c.requires.going.1
    c.in_ok-feed.ensures.ok (sym c.in-Head.is ∙ c.in_ok-take_trailers.ensures.found) c.in_ok-take_trailers.ensures.state
    c.unused.ensures in
    trailers_done c.args.reader c.line_length-count.result c.unused.result c.args.bytes.now c.in-Head.raw c.in_ok-trailers-in-Head.trailers
    c.in_ok-kept-in-Head.kept c.line_length-count.ensures.within end c.in_ok-trailers-in-Head.ensures c.in_ok-kept-in-Head.ensures
