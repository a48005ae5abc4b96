use Rattle.std.proofs.Common.{◌+◌, ℕ, List, ◌∙◌, ap}
use Rattle.px_text.specs.Blank.{blank_end}
use Rattle.px_head.specs.declared.place.Marks.{Marks}
use Rattle.px_head.specs.Front.{blank_lines, place_at}
use Rattle.px_head.specs.Marks.{noted}
use Rattle.px_head.proofs.LineLemmas.{rest_slice}
use Rattle.px_head.proofs.SearchLemmas.{head_searched, starts}
use Rattle.px_head.proofs.place.head_place.Goals as goal

pub returns-clause-place : goal.returns-clause-place
returns-clause-place c =
    let marks = c.args.marks.now in
    let width = c.skip_blank-width.ensures.value ∙ ap (λ (l : List ℕ). blank_lines l) (rest_slice c.args.bytes.now marks.skipped) in
    let start = starts c.args.bytes.now marks c.skip_blank-width.result c.requires width in
    let end = c.find_end-search.ensures.end ∙ ap (λ (n : ℕ). blank_end c.args.bytes.now n) start in
    c.place_at-place.ensures ∙ (λ i. place_at c.args.bytes.now (start i) (end i))

pub returns-clause-marks : goal.returns-clause-marks
returns-clause-marks c =
    let marks = c.args.marks.now in
    let width = c.skip_blank-width.ensures.value ∙ ap (λ (l : List ℕ). blank_lines l) (rest_slice c.args.bytes.now marks.skipped) in
    c.note.ensures ∙ ap (λ (m : Marks). noted c.place_at-place.result m marks)
    (head_searched c.args.bytes.now marks _ c.skip_blank-width.result c.find_end-search.result.looked c.requires (λ i. marks.skipped + c.skip_blank-width.result) width c.find_end-search.ensures.looked)
