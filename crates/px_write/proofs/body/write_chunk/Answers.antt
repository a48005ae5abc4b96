use Rattle.std.proofs.Common.{◌≡◌, ◌∙◌, ◌==◌, ◌++◌, ℕ, List, length, false, append_assoc, sym}
use Rattle.std.proofs.lemmas.Bool.{cond-false}
use Rattle.px_text.specs.Number.{hexadecimal}
use Rattle.px_text.specs.Blank.{crlf}
use Rattle.px_write.specs.Text.{chunk_text}
use Rattle.px_text.proofs.PrefixLemmas.{err_adds, adds_first, adds_same}
use Rattle.px_write.proofs.body.write_chunk.Goals as goal

-- a chunk is its first line and the rest
chunk_text-parts : (content : List ℕ) → (length content == 0) ≡ false →
    (hexadecimal (length content) ++ crlf) ++ (content ++ crlf) ≡ chunk_text content
chunk_text-parts content some =
    sym (append_assoc (hexadecimal (length content) ++ crlf) content crlf) ∙ sym (cond-false _ _ _ some)

pub returns-in_err-write_chunk_start-clause-err : goal.returns-in_err-write_chunk_start-clause-err
returns-in_err-write_chunk_start-clause-err c =
    let some : (length c.args.content.now == 0) ≡ false = sym c.is_empty.ensures ∙ c.if-is_empty.false in
    err_adds c.from_residual.result _ _ _
    (adds_same _ _ _ _ (chunk_text-parts c.args.content.now some)
    (adds_first (hexadecimal (length c.args.content.now) ++ crlf) (c.args.content.now ++ crlf) _ _
    c.in_err-write_chunk_start.ensures.err))
