-- What stands behind the interim responses that were sent on.
use Rattle.std.proofs.Common.{◌≡◌, ℕ, ◌+◌, Bool, List, [], ◌++◌, ap, sym, ◌∙◌}
use Rattle.std.proofs.lemmas.List.{append-nil}
use Rattle.px_read.specs.Items.{answer_list}
use Rattle.px_read.specs.declared.head.ResponseHead.{ResponseHead as ReadResponse}
use Rattle.px_stream.specs.Stands.{Passes}

-- what stands behind the interim responses that were sent on
pub final_behind : (asked_head shut : Bool) (bytes fed : List ℕ) (sent : List ReadResponse) → Passes asked_head bytes fed sent →
    (answer_list asked_head shut bytes).final ≡ (answer_list asked_head shut fed).final
final_behind asked_head shut bytes fed sent passes =
    ap (λ l. (answer_list asked_head shut l).final) (sym (append-nil bytes)) ∙ (passes.final shut [] ∙ ap (λ l. (answer_list asked_head shut l).final) (append-nil fed))

pub interim_behind : (asked_head shut : Bool) (bytes fed : List ℕ) (sent : List ReadResponse) → Passes asked_head bytes fed sent →
    (answer_list asked_head shut bytes).interim ≡ sent ++ (answer_list asked_head shut fed).interim
interim_behind asked_head shut bytes fed sent passes =
    ap (λ l. (answer_list asked_head shut l).interim) (sym (append-nil bytes)) ∙ (passes.interim shut [] ∙ ap (λ l. sent ++ (answer_list asked_head shut l).interim) (append-nil fed))

pub used_behind : (asked_head shut : Bool) (bytes fed : List ℕ) (sent : List ReadResponse) (passes : Passes asked_head bytes fed sent) →
    (answer_list asked_head shut bytes).used ≡ passes.used + (answer_list asked_head shut fed).used
used_behind asked_head shut bytes fed sent passes =
    ap (λ l. (answer_list asked_head shut l).used) (sym (append-nil bytes))
    ∙ (passes.counts shut [] ∙ ap (λ l. passes.used + (answer_list asked_head shut l).used) (append-nil fed))
