use Rattle.std.proofs.Common.{Option, Some, refl, subst, sym}
use Rattle.px_stream.specs.declared.link.Link.{Link}
use Rattle.px_stream.specs.Looks.{EndsBy}
use Rattle.px_stream.specs.Stands.{StaysOpen}
use Rattle.px_stream.proofs.looking.coming.read_end.Goals as goal

pub returns : goal.returns
returns c =
    let later : Link = record c.in-Some.link { responses = c.next.new.self } in
    let P : Option Link → Type 0 = λ side. StaysOpen (EndsBy c.stop_of.result) side (Some later) in
    subst P (sym c.in-Some.is) (record {
      same = refl;
      ends = record {
        gave = record { got = c.in_ok-part-in-Some.part; next = c.in_ok-part-in-Some.ensures.next; gives = c.in_ok-part-in-Some.ensures.reads; stopped = c.in_ok-part-in-Some.ensures.stopped };
        stops = c.stop_of.ensures;
      };
    })
