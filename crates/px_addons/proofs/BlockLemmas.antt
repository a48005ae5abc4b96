-- A block rule that holds at a request's head decides, and nothing behind it is asked.
use Rattle.std.proofs.Common.{◌≡◌, ℕ, Bool, true, false, ◌==◌, if◌then◌else◌, List, ◌∷◌, Option, Some, refl, sym, ap, ◌∙◌}
use Rattle.px_message.specs.declared.flow.Flow.{Flow}
use Rattle.px_event.specs.declared.ask.Hook.{Hook}
use Rattle.px_event.specs.declared.ask.Hook.TheVariants as hooks
use Rattle.px_event.specs.declared.reply.Reply.{Reply}
use Rattle.px_event.specs.declared.reply.Reply.TheVariants as replies
use Rattle.px_core.specs.Answers.{FilesMeaning}
use Rattle.px_core.specs.declared.answerer.Answer.{Answer}
use Rattle.px_core.specs.declared.answerer.Answer.TheVariants as answers
use Rattle.px_core.specs.declared.answerer.Draft.{Draft}
use Rattle.px_core.specs.declared.answerer.Verdict.TheVariants as verdicts
use Rattle.px_map.specs.Block.{block_status}
use Rattle.px_map.specs.View.{block_views}
use Rattle.px_write.specs.Short.{short_response}
use Rattle.px_addons.specs.Blocked.{blocked, blocked_with}
use Rattle.px_addons.specs.Moving.{Moves}
use Rattle.px_core.specs.Drafts.{reply_of}
use Rattle.px_addons.specs.Chain.{Movers, PartInTurn, by_part, past_part, PartsMove, no_part, next_part, PartsFail, fails_here, fails_later, ChainAnswers, ChainFails, part_failed, judging_failed, allowed, answer_by, begun, is_going}
use Rattle.px_addons.specs.declared.parts.Part.{Part}
use Rattle.px_addons.specs.declared.parts.Part.TheVariants as part
use Rattle.px_addons.specs.declared.rules.Rules.{Rules}
use Rattle.px_addons.proofs.WaitLemmas.{ended_allowed}

-- the reply of a status
abbrev pub block_reply : ℕ → Reply
block_reply status = if status == 444 then replies.Kill else replies.Respond (short_response status)

pub blocks : (status : ℕ) → is_going (blocked_with status) ≡ false
blocks status = by_test (status == 444)
  where
    by_test : (t : Bool) → is_going (if t then verdicts.Kill else verdicts.Respond (short_response status)) ≡ false
    by_test true = refl
    by_test false = refl

replied : (status : ℕ) (flow : Flow) (stream : Option ℕ) → reply_of (blocked (Some status) (begun flow stream)) ≡ block_reply status
replied status flow stream = by_test (status == 444)
  where
    by_test : (t : Bool) → reply_of (record { flow = flow; stream = stream; verdict = if t then verdicts.Kill else verdicts.Respond (short_response status) })
        ≡ (if t then replies.Kill else replies.Respond (short_response status))
    by_test true = refl
    by_test false = refl

module _ {B : Type 0} (title state : B → List ℕ) (moves : B → Moves) where
  part_passed : (rules : Rules) (hook : Hook) (one : Part) (draft after : Draft) (old new : Movers B) (files new_files : FilesMeaning) →
      PartInTurn title state moves rules hook one draft old files after new new_files → is_going draft.verdict ≡ false →
      (after ≡ draft) × (new ≡ old) × (new_files ≡ files)
  part_passed rules hook one draft after old new files new_files (by_part _ _ _ _ _ _ going moved) ended = absurd (let no : true ≡ false = sym going ∙ ended in cc)
  part_passed rules hook one draft after old new files new_files (past_part _ _ _ over) ended = (refl, refl, refl)

  -- behind an end nothing is asked
  pub all_passed : (rules : Rules) (hook : Hook) (list : List Part) (draft end : Draft) (old new : Movers B) (files new_files : FilesMeaning) →
      PartsMove title state moves rules hook list draft old files end new new_files → is_going draft.verdict ≡ false →
      (end ≡ draft) × (new ≡ old) × (new_files ≡ files)
  all_passed rules hook list draft end old new files new_files (no_part _ _ _) ended = (refl, refl, refl)
  all_passed rules hook list draft end old new files new_files (next_part one others _ after _ _ mid _ _ mid_files _ moved behind) ended =
      let first = part_passed rules hook one draft after old mid files mid_files moved ended in
      let rest = all_passed rules hook others after end mid new mid_files new_files behind (ap (λ (d : Draft). is_going d.verdict) first.0 ∙ ended) in
      (rest.0 ∙ first.0, rest.1 ∙ first.1, rest.2 ∙ first.2)

  none_fails : (rules : Rules) (hook : Hook) (list : List Part) (draft : Draft) (old : Movers B) (files new_files : FilesMeaning) →
      PartsFail title state moves rules hook list draft old files new_files → is_going draft.verdict ≡ false → ⊥
  none_fails rules hook list draft old files new_files (fails_here one others _ _ _ _ going failed) ended = let no : true ≡ false = sym going ∙ ended in cc
  none_fails rules hook list draft old files new_files (fails_later one others _ after _ mid _ mid_files _ moved behind) ended =
      let first = part_passed rules hook one draft after old mid files mid_files moved ended in
      none_fails rules hook others after mid mid_files new_files behind (ap (λ (d : Draft). is_going d.verdict) first.0 ∙ ended)

  -- the block part, where its rules tell a status
  block_asked : (rules : Rules) (hook : Hook) (status : ℕ) (draft after : Draft) (old new : Movers B) (files new_files : FilesMeaning) →
      is_going draft.verdict ≡ true → block_status (block_views rules.block) draft.flow ≡ Some status →
      PartInTurn title state moves rules hook part.Block draft old files after new new_files →
      (after ≡ blocked (Some status) draft) × (new ≡ old) × (new_files ≡ files)
  block_asked rules hook status draft after old new files new_files going holds (by_part _ _ _ _ _ _ _ moved) =
      (moved.0 ∙ ap (λ s. blocked s draft) holds, moved.1, moved.2)
  block_asked rules hook status draft after old new files new_files going holds (past_part _ _ _ over) = absurd (let no : true ≡ false = sym going ∙ over in cc)

  blocked_parts : (rules : Rules) (hook : Hook) (status : ℕ) (others : List Part) (draft end : Draft) (old new : Movers B) (files new_files : FilesMeaning) →
      is_going draft.verdict ≡ true → block_status (block_views rules.block) draft.flow ≡ Some status →
      PartsMove title state moves rules hook (part.Block ∷ others) draft old files end new new_files →
      (end ≡ blocked (Some status) draft) × (new ≡ old) × (new_files ≡ files)
  blocked_parts rules hook status others draft end old new files new_files going holds (next_part _ _ _ after _ _ mid _ _ mid_files _ moved behind) =
      let first = block_asked rules hook status draft after old mid files mid_files going holds moved in
      let rest = all_passed rules hook others after end mid new mid_files new_files behind (ap (λ (d : Draft). is_going d.verdict) first.0 ∙ blocks status) in
      (rest.0 ∙ first.0, rest.1 ∙ first.1, rest.2 ∙ first.2)

  blocked_failure : (rules : Rules) (hook : Hook) (status : ℕ) (others : List Part) (draft : Draft) (old : Movers B) (files new_files : FilesMeaning) →
      is_going draft.verdict ≡ true → block_status (block_views rules.block) draft.flow ≡ Some status →
      PartsFail title state moves rules hook (part.Block ∷ others) draft old files new_files → new_files ≡ files
  blocked_failure rules hook status others draft old files new_files going holds (fails_here _ _ _ _ _ _ _ failed) = failed
  blocked_failure rules hook status others draft old files new_files going holds (fails_later _ _ _ after _ mid _ mid_files _ moved behind) =
      let first = block_asked rules hook status draft after old mid files mid_files going holds moved in
      absurd (none_fails rules hook others after mid mid_files new_files behind (ap (λ (d : Draft). is_going d.verdict) first.0 ∙ blocks status))

  pub block_answers : (flow : Flow) (status : ℕ) (rules new_rules : Rules) (old new : Movers B) (files new_files : FilesMeaning) (answer : Answer) →
      block_status (block_views rules.block) flow ≡ Some status →
      ChainAnswers title state moves hooks.RequestHead flow rules old files new_rules new new_files answer →
      (answer ≡ answers.Reply (block_reply status)) × (new ≡ old) × (new_files ≡ files)
  block_answers flow status rules new_rules old new files new_files answer holds given =
      let all = blocked_parts rules hooks.RequestHead status _ (begun flow rules.stream) given.left old new files new_files refl holds given.moved in (
        given.answered
            ∙ ap (λ d. answer_by rules hooks.RequestHead d) given.limited
            ∙ ap (λ d. answer_by rules hooks.RequestHead (allowed rules old.replay d)) all.0
            ∙ ended_allowed rules hooks.RequestHead old.replay (blocked (Some status) (begun flow rules.stream)) (blocks status)
            ∙ ap (λ r. answers.Reply r) (replied status flow rules.stream),
        all.1,
        all.2,
      )

  pub block_failures : (flow : Flow) (status : ℕ) (rules : Rules) (old : Movers B) (files new_files : FilesMeaning) →
      block_status (block_views rules.block) flow ≡ Some status → ChainFails title state moves hooks.RequestHead flow rules old files new_files → new_files ≡ files
  block_failures flow status rules old files new_files holds (part_failed failed) =
      blocked_failure rules hooks.RequestHead status _ (begun flow rules.stream) old files new_files refl holds failed
  block_failures flow status rules old files new_files holds (judging_failed end new moved judged) =
      (blocked_parts rules hooks.RequestHead status _ (begun flow rules.stream) end old new files new_files refl holds moved).2
