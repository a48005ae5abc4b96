use Rattle.std.proofs.Common.{List, ℕ, ◌∙◌, ◌≡◌, ap, ap₂, sym, subst, false}
use Rattle.px_read.specs.Marks.{marks_of}
use Rattle.px_read.specs.Reader.{State, Tells, Reads, request, opened, is_clients}
use Rattle.px_read.specs.Stages.{seen_as}
use Rattle.px_read.specs.declared.message_reader.stage.MessageStage.{MessageStage}
use Rattle.px_read.proofs.HeedLemmas.{unclosed-told}
use Rattle.px_read.proofs.ReaderLemmas.{reads-told}
use Rattle.px_read.proofs.message_reader.MessageReader.next.Goals as goal

pub returns-clause-reads : goal.returns-clause-reads
returns-clause-reads c message told fed closed =
    let turn = c.in_ok-turn.turn in
    let shut = c.self.inside.closed in
    let old : seen_as c.replace-stage.result c.replace-rest.result shut ≡ c.args.self.now =
    ap₂ (λ (kept : MessageStage) (rest : List ℕ). seen_as kept rest shut) c.replace-stage.ensures.value c.replace-rest.ensures.value
    ∙ c.self.view_is in
    reads-told message told (marks_of turn.part) fed closed c.args.self.now (seen_as turn.stage turn.rest shut)
    (subst (λ (s : State). Tells (marks_of turn.part) s (seen_as turn.stage turn.rest shut)) old c.in_ok-turn.ensures.turn.tells)

pub returns-clause-unclosed : goal.returns-clause-unclosed
returns-clause-unclosed c clients told fed r =
    let turn = c.in_ok-turn.turn in
    let shut = c.self.inside.closed in
    let old : seen_as c.replace-stage.result c.replace-rest.result shut ≡ c.args.self.now =
    ap₂ (λ (kept : MessageStage) (rest : List ℕ). seen_as kept rest shut) c.replace-stage.ensures.value c.replace-rest.ensures.value
    ∙ c.self.view_is in
    unclosed-told told fed c.replace-stage.result turn.stage c.replace-rest.result turn.rest shut turn.part
    (c.in_ok-turn.ensures.unclosed (ap (λ (s : State). is_clients s.place) old ∙ clients))
    (subst (λ (s : State). Reads request told fed false (opened s)) (sym old) r)
