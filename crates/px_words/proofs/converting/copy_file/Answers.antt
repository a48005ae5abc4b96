use Rattle.std.proofs.Common.{ℕ, ap, refl, subst}
use Rattle.std.specs.Prelude.{option_map}
use Rattle.px_outside.specs.Count.{Rose}
use Rattle.px_core.specs.Answers.{files_meaning}
use Rattle.px_filter.specs.View.{expression}
use Rattle.px_words.specs.Converts.{Copies}
use Rattle.px_words.proofs.ConvertLemmas.{is_taken, not_taken}
use Rattle.px_words.proofs.converting.copy_file.Goals as goal

pub returns-in-Ok : goal.returns-in-Ok
returns-in-Ok g c =
    let e = c.in-Ok.ensures in
    let bytes = c.in-Ok.bytes.items in
    let read = files_meaning g.F.Files.contents g.F.Files.calls g.F.Files.misses g.F.Files.faults g.F.Files.losses c.take_file.new.files in
    let after = files_meaning g.F.Files.contents g.F.Files.calls g.F.Files.misses g.F.Files.faults g.F.Files.losses c.copy_bytes.new.files in
    let now = c.copy_bytes.new.out in
    let P : g.row.S.Denot → Type 0 = λ out. Copies (Rose (g.S.Sink.faults out) (g.S.Sink.faults now)) (Rose read.losses after.losses) (option_map expression c.args.filter.now) c.args.path.now c.args.to.now bytes read after
    (g.S.Sink.written out) (g.S.Sink.written now) c.copy_bytes.result in
    let Q : ℕ → Type 0 = λ n. Copies (Rose (g.S.Sink.faults c.args.out.now) (g.S.Sink.faults now)) (Rose n after.losses) (option_map expression c.args.filter.now) c.args.path.now c.args.to.now bytes read after
    (g.S.Sink.written c.args.out.now) (g.S.Sink.written now) c.copy_bytes.result in
    record { copies = is_taken _ _ _ _ _ _ _ _ _ _ bytes read refl e.ok (subst Q e.losses (subst P e.same_out c.copy_bytes.ensures.copies)) (ap (λ n. g.T.Sink.written n) e.same_notes) }

pub returns-in-Err : goal.returns-in-Err
returns-in-Err g c = record { copies = not_taken _ _ _ _ _ _ _ _ _ _ refl c.in-Err.ensures.err }
