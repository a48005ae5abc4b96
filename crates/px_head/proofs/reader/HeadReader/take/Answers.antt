use Rattle.std.proofs.Common.{ℕ, List, ◌∙◌, sym, subst}
use Rattle.px_head.specs.Marks.{AreMarks}
use Rattle.px_head.proofs.SearchLemmas.{are_kept}
use Rattle.px_head.proofs.reader.HeadReader.take.Goals as goal

pub invariant_of-self-in-Nothing : goal.invariant_of-self-in-Nothing
invariant_of-self-in-Nothing c =
    are_kept c.args.kind c.as_slice.result.now c.own.new.self c.self.inside.marks c.read_front.new.marks c.in_ok-read_front.field-0
    (c.as_slice.ensures ∙ sym c.own.ensures) c.in_ok-read_front.ensures.value c.in_ok-read_front.ensures.marks
    (subst (λ (l : List ℕ). AreMarks l c.self.inside.marks) (sym c.own.ensures) c.self.invariant)
