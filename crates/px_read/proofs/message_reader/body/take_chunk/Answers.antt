use Rattle.std.proofs.Common.{List, ℕ, ◌≡◌, Bool, Ok, Err, IfOk, drop, ap₂, subst, sym}
use Rattle.std.proofs.lemmas.Result.{IfOk-weaker}
use Rattle.px_read.specs.ChunkSteps.{Steps}
use Rattle.px_read.specs.Reader.{IsTurn, has_shut}
use Rattle.px_read.specs.Stages.{IsStage, StandOnce, chunk_place, seen_as, state_at}
use Rattle.px_read.specs.Waits.{given}
use Rattle.px_read.specs.declared.chunk_reader.ChunkError.TheVariants as chunk_error
use Rattle.px_read.specs.declared.message_reader.stage.MessageStage.TheVariants as stage
use Rattle.px_read.specs.declared.message_reader.stage.MessageTurn.{MessageTurn}
use Rattle.px_read.proofs.BodyLemmas.{chunk-turn, chunk-stage, chunk-once, chunk-refused}
use Rattle.px_read.proofs.ReaderLemmas.{turn-made}
use Rattle.px_read.proofs.message_reader.body.take_chunk.Goals as goal

pub returns-in-Ok-clause-turn : goal.returns-in-Ok-clause-turn
returns-in-Ok-clause-turn c =
    let step = c.in-Ok.step in
    let after = c.step.new.self in
    let kept = stage.Chunked c.args.sender after in
    let steps : Steps c.args.reader c.args.rest (Ok step) after =
    subst (λ (bytes : List ℕ). Steps c.args.reader bytes (Ok step) after) c.bytes.ensures c.in-Ok.ensures.step in
    let same : given step.part kept c.skip.new.self c.is_shut.result
    ≡ given step.part kept (drop step.used c.args.rest) (has_shut c.args.sender c.args.closed) =
    ap₂ (λ (rest : List ℕ) (cut : Bool). given step.part kept rest cut) c.skip.ensures c.is_shut.ensures in
    turn-made c.give.result (given step.part kept (drop step.used c.args.rest) (has_shut c.args.sender c.args.closed))
    (state_at (chunk_place c.args.sender c.args.reader) c.args.rest c.args.closed) c.args.closed
    (chunk-turn c.args.sender c.args.reader c.args.rest c.args.closed step after c.requires steps)
    (subst (λ (t : MessageTurn). IfOk c.give.result (λ turn. turn ≡ t)) same c.give.ensures)

pub returns-in-Ok-clause-stage : goal.returns-in-Ok-clause-stage
returns-in-Ok-clause-stage c =
    let step = c.in-Ok.step in
    let after = c.step.new.self in
    let kept = stage.Chunked c.args.sender after in
    let made = given step.part kept c.skip.new.self c.is_shut.result in
    IfOk-weaker c.give.result (λ (turn : MessageTurn). turn ≡ made) (λ (turn : MessageTurn). IsStage turn.stage)
    (λ turn is. subst (λ (t : MessageTurn). IsStage t.stage) (sym is)
    (chunk-stage c.args.sender c.args.reader c.bytes.result.now c.skip.new.self c.is_shut.result step after c.requires c.in-Ok.ensures.step))
    c.give.ensures

pub returns-in-Ok-clause-once : goal.returns-in-Ok-clause-once
returns-in-Ok-clause-once c =
    let step = c.in-Ok.step in
    let after = c.step.new.self in
    let made = given step.part (stage.Chunked c.args.sender after) c.skip.new.self c.is_shut.result in
    IfOk-weaker c.give.result (λ (turn : MessageTurn). turn ≡ made) (λ (turn : MessageTurn). StandOnce turn.stage turn.rest)
    (λ turn is. subst (λ (t : MessageTurn). StandOnce t.stage t.rest) (sym is)
    (chunk-once step.part c.args.sender after c.skip.new.self c.is_shut.result))
    c.give.ensures

pub returns-in-Err-BadChunk-clause-turn : goal.returns-in-Err-BadChunk-clause-turn
returns-in-Err-BadChunk-clause-turn c =
    let after = c.step.new.self in
    let steps : Steps c.args.reader c.args.rest (Err chunk_error.BadChunk) after =
    subst (λ (bytes : List ℕ). Steps c.args.reader bytes (Err chunk_error.BadChunk) after) c.bytes.ensures
    (rw c.in-Err-BadChunk.field-0-is at c.in-Err-BadChunk.ensures.step) in
    subst
    (λ (t : MessageTurn). IsTurn (state_at (chunk_place c.args.sender c.args.reader) c.args.rest c.args.closed) t.part (seen_as t.stage t.rest c.args.closed))
    (sym c.refuse.ensures)
    (chunk-refused c.args.sender c.args.reader c.args.rest c.args.closed after c.chunk_fault.result c.requires steps c.chunk_fault.ensures)
