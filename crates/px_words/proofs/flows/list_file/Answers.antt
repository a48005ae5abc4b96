use Rattle.std.proofs.Common.{ap, refl, subst}
use Rattle.px_outside.specs.Count.{Rose}
use Rattle.px_filter.specs.View.{expression}
use Rattle.px_words.specs.Flows.{Shows}
use Rattle.px_words.proofs.FetchLemmas.{is_there, not_read}
use Rattle.px_words.proofs.flows.list_file.Goals as goal

pub returns-in-Ok : goal.returns-in-Ok
returns-in-Ok g c =
    let e = c.in-Ok.ensures in
    let bytes = c.in-Ok.bytes.items in
    let now = c.list_bytes.new.out in
    let P : g.row.S.Denot → Type 0 = λ out. Shows (Rose (g.S.Sink.faults out) (g.S.Sink.faults now)) c.args.path.now bytes (expression c.args.filter.now) (g.S.Sink.written out) (g.S.Sink.written now) c.list_bytes.result in
    record { lists = λ text parses. is_there _ _ _ _ text _ _ _ _ bytes (expression c.args.filter.now) parses refl e.ok (subst P e.same_out c.list_bytes.ensures.shows) (ap (λ n. g.T.Sink.written n) e.same_notes) }

pub returns-in-Err : goal.returns-in-Err
returns-in-Err g c = record { lists = λ text parses. not_read _ _ _ _ text _ _ _ _ (expression c.args.filter.now) parses refl c.in-Err.ensures.err }
