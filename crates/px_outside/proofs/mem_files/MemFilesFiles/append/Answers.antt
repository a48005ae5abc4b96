use Rattle.std.proofs.Common.{◌/◌, refl, ap, length}
use Rattle.px_outside.specs.MemFiles.{FilesState}
use Rattle.px_outside.proofs.StoredLemmas.{told, told_part}
use Rattle.px_outside.proofs.mem_files.MemFilesFiles.append.Goals as goal

pub returns-then-fails_next-clause-part : goal.returns-then-fails_next-clause-part
returns-then-fails_next-clause-part c =
    λ _. told_part c.args.self.now c.put.new.self c.args.path.now c.args.bytes.now (length c.args.bytes.now / 2) _ _
    c.in_ok-put.ensures.ok (ap (λ (s : FilesState). s.stored) c.self-then-fails_next.view_is)

pub returns-then-not-is_empty-2-clause-ok : goal.returns-then-not-is_empty-2-clause-ok
returns-then-not-is_empty-2-clause-ok c =
    told c.args.self.now c.put-2.new.self c.args.path.now c.args.bytes.now _ _
    c.in_ok-put-2.ensures.ok (ap (λ (s : FilesState). s.stored) c.self-2.view_is)

pub returns-else-not-is_empty-2-clause-ok : goal.returns-else-not-is_empty-2-clause-ok
returns-else-not-is_empty-2-clause-ok c =
    told c.args.self.now c.put-2.new.self c.args.path.now c.args.bytes.now _ _ c.in_ok-put-2.ensures.ok refl
