-- Without a recorded list it makes no difference whether dates are to be moved.
use Rattle.std.proofs.Common.{◌≡◌, ◌∙◌, ℕ, Bool, List, Option, None, Some, ap}
use Rattle.px_message.specs.declared.flow.Flow.{Flow}
use Rattle.px_event.specs.declared.ask.Hook.{Hook}
use Rattle.px_core.specs.Answers.{FilesMeaning}
use Rattle.px_core.specs.declared.answerer.Answer.{Answer}
use Rattle.px_core.specs.declared.answerer.Draft.{Draft}
use Rattle.px_replay.specs.Replaying.{Replaying}
use Rattle.px_addons.specs.Chain.{Movers, PartMoves, PartInTurn, by_part, past_part, PartsMove, no_part, next_part, ChainAnswers, begun}
use Rattle.px_addons.specs.Mapped.{MapsLocal}
use Rattle.px_addons.specs.Moving.{Moves}
use Rattle.px_addons.specs.Parts.{parts}
use Rattle.px_addons.specs.Replays.{Replays}
use Rattle.px_addons.specs.declared.parts.Part.{Part}
use Rattle.px_addons.specs.declared.parts.Part.TheVariants as part
use Rattle.px_addons.specs.declared.rules.Rules.{Rules}

-- the rules, but for whether dates are to be moved
abbrev pub with_refresh : Bool → Rules → Rules
with_refresh refresh rules = record rules { refresh = refresh }

local_same : (refresh : Bool) (rules : Rules) (draft after : Draft) (files new_files : FilesMeaning) → MapsLocal rules draft files after new_files →
    MapsLocal (with_refresh refresh rules) draft files after new_files
local_same refresh rules draft after files new_files maps =
    record { answer = maps.answer; made = maps.made; answers = maps.answers; reads = maps.reads; drafted = maps.drafted; unread = maps.unread }

replay_same : (one other : Bool) (draft after : Draft) (old new : Option Replaying) → old ≡ None → Replays one draft old after new → Replays other draft old after new × (new ≡ None)
replay_same one other draft after None new none replays = (replays, replays.1)
replay_same one other draft after (Some recorded) new none replays = absurd cc

module _ {B : Type 0} (title state : B → List ℕ) (moves : B → Moves) where
  asked_same : (refresh : Bool) (rules : Rules) (hook : Hook) (one : Part) (draft after : Draft) (old new : Movers B) (files new_files : FilesMeaning) → old.replay ≡ None →
      PartMoves title state moves rules hook one draft old files after new new_files →
      PartMoves title state moves (with_refresh refresh rules) hook one draft old files after new new_files × (new.replay ≡ None)
  asked_same refresh rules hook part.Block draft after old new files new_files none moved = (moved, ap (λ (m : Movers B). m.replay) moved.1 ∙ none)
  asked_same refresh rules hook part.MapLocal draft after old new files new_files none moved =
      ((local_same refresh rules draft after files new_files moved.0, moved.1), ap (λ (m : Movers B). m.replay) moved.1 ∙ none)
  asked_same refresh rules hook part.MapRemote draft after old new files new_files none moved = (moved, ap (λ (m : Movers B). m.replay) moved.1 ∙ none)
  asked_same refresh rules hook part.ModifyHeaders draft after old new files new_files none moved = (moved, ap (λ (m : Movers B). m.replay) moved.1 ∙ none)
  asked_same refresh rules hook part.Anticache draft after old new files new_files none moved = (moved, ap (λ (m : Movers B). m.replay) moved.1 ∙ none)
  asked_same refresh rules hook part.Anticomp draft after old new files new_files none moved = (moved, ap (λ (m : Movers B). m.replay) moved.1 ∙ none)
  asked_same refresh rules hook part.StickyCookies draft after old new files new_files none moved = (moved, ap (λ (m : Movers B). m.replay) moved.1 ∙ none)
  asked_same refresh rules hook part.StickyAuth draft after old new files new_files none moved = (moved, ap (λ (m : Movers B). m.replay) moved.1 ∙ none)
  asked_same refresh rules hook part.KeepCookies draft after old new files new_files none moved = (moved, ap (λ (m : Movers B). m.replay) moved.1 ∙ none)
  asked_same refresh rules hook part.ServerReplay draft after old new files new_files none moved =
      let same = replay_same rules.refresh refresh draft after old.replay new.replay none moved.0 in
      ((same.0, moved.1, moved.2), same.1)
  asked_same refresh rules hook part.ModifyBody draft after old new files new_files none moved = (moved, ap (λ (m : Movers B). m.replay) moved.1 ∙ none)
  asked_same refresh rules hook part.Addons draft after old new files new_files none moved = (moved, ap (λ (m : Movers B). m.replay) moved.1 ∙ none)

  part_same : (refresh : Bool) (rules : Rules) (hook : Hook) (one : Part) (draft after : Draft) (old new : Movers B) (files new_files : FilesMeaning) → old.replay ≡ None →
      PartInTurn title state moves rules hook one draft old files after new new_files →
      PartInTurn title state moves (with_refresh refresh rules) hook one draft old files after new new_files × (new.replay ≡ None)
  part_same refresh rules hook one draft after old new files new_files none (by_part _ _ _ _ _ _ going moved) =
      let same = asked_same refresh rules hook one draft after old new files new_files none moved in
      (by_part draft after old new files new_files going same.0, same.1)
  part_same refresh rules hook one draft after old new files new_files none (past_part _ _ _ over) = (past_part draft old files over, none)

  parts_same : (refresh : Bool) (rules : Rules) (hook : Hook) (list : List Part) (draft end : Draft) (old new : Movers B) (files new_files : FilesMeaning) → old.replay ≡ None →
      PartsMove title state moves rules hook list draft old files end new new_files → PartsMove title state moves (with_refresh refresh rules) hook list draft old files end new new_files
  parts_same refresh rules hook list draft end old new files new_files none (no_part _ _ _) = no_part draft old files
  parts_same refresh rules hook list draft end old new files new_files none (next_part one others _ after _ _ mid _ _ mid_files _ moved behind) =
      let first = part_same refresh rules hook one draft after old mid files mid_files none moved in
      next_part one others draft after end old mid new files mid_files new_files first.0
      (parts_same refresh rules hook others after end mid new mid_files new_files first.1 behind)

  pub answers_same : (refresh : Bool) (hook : Hook) (flow : Flow) (rules new_rules : Rules) (old new : Movers B) (files new_files : FilesMeaning) (answer : Answer) → old.replay ≡ None →
      ChainAnswers title state moves hook flow rules old files new_rules new new_files answer →
      ChainAnswers title state moves hook flow (with_refresh refresh rules) old files (with_refresh refresh new_rules) new new_files answer
  answers_same refresh hook flow rules new_rules old new files new_files answer none given = record {
    left = given.left;
    moved = parts_same refresh rules hook (parts hook) (begun flow rules.stream) given.left old new files new_files none given.moved;
    end = given.end;
    limited = given.limited;
    answered = given.answered;
    rules = ap (with_refresh refresh) given.rules;
  }
