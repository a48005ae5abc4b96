-- Which size an answer allows: no part but the addons sets one, and where flows are recorded or wait there is none.
use Rattle.std.proofs.Common.{◌≡◌, ℕ, Bool, true, false, List, [], ◌∷◌, ◌++◌, Option, None, Some, Result, Ok, Err, ◌≢◌, ◌⊎◌, inl, inr, refl, sym, ap, subst, ◌∙◌}
use Rattle.px_message.specs.declared.flow.Flow.{Flow}
use Rattle.px_message.specs.declared.response.Response.{Response}
use Rattle.px_event.specs.declared.ask.Hook.{Hook}
use Rattle.px_event.specs.declared.reply.Reply.TheVariants as replies
use Rattle.px_core.specs.Answers.{FilesMeaning}
use Rattle.px_core.specs.Drafts.{reply_by, reply_of}
use Rattle.px_core.specs.declared.answerer.Answer.{Answer}
use Rattle.px_core.specs.declared.answerer.Answer.TheVariants as answers
use Rattle.px_core.specs.declared.answerer.Draft.{Draft}
use Rattle.px_core.specs.declared.answerer.Verdict.{Verdict}
use Rattle.px_core.specs.declared.answerer.Verdict.TheVariants as verdicts
use Rattle.px_filter.specs.declared.filter.Filter.{Filter}
use Rattle.px_map.specs.Block.{block_status}
use Rattle.px_map.specs.Remote.{remote_rules}
use Rattle.px_map.specs.View.{block_views, remote_views}
use Rattle.px_refresh.specs.declared.authorization.StickyAuth.{StickyAuth}
use Rattle.px_refresh.specs.declared.cookies.StickyCookies.{StickyCookies}
use Rattle.px_replay.specs.Replaying.{Replaying}
use Rattle.px_replay.specs.declared.replay.Extra.{Extra}
use Rattle.px_replay.specs.declared.replay.Extra.TheVariants as extras
use Rattle.px_replay.specs.declared.replay.Replay.{Replay}
use Rattle.px_replay.specs.declared.replay.Replay.TheVariants as replay
use Rattle.px_addons.specs.Blocked.{blocked}
use Rattle.px_addons.specs.Chain.{Movers, AddonMoves, by_addon, past_addon, AddonsMove, no_addon, next_addon, ByRules, PartMoves, PartInTurn, by_part, past_part, PartsMove, no_part, next_part, ChainAnswers, allowed_size, answer_if, begun, intercept_of, may_stream, waits}
use Rattle.px_addons.specs.Mapped.{answered_by, moved}
use Rattle.px_addons.specs.Moving.{Moves}
use Rattle.px_addons.specs.Parts.{made_by, parts}
use Rattle.px_addons.specs.Replays.{Replays, replayed_by, unmatched}
use Rattle.px_addons.specs.Sizes.{AllAllowNone, AllKeepSizes, KeepsSizes, size_in, size_of}
use Rattle.px_addons.specs.Sticky.{Authorizes, KeepsCookies}
use Rattle.px_addons.specs.Turns.{Given, InTurn, none_given, next_given}
use Rattle.px_addons.specs.declared.parts.Part.{Part}
use Rattle.px_addons.specs.declared.parts.Part.TheVariants as part
use Rattle.px_addons.specs.declared.rules.Rules.{Rules}
use Rattle.px_addons.proofs.StillLemmas.{parts_keep}

-- ---- what is answered

reply_allows : (verdict : Verdict) (flow : Flow) (size : Option ℕ) → size ≡ None → size_in (reply_by verdict flow size) ≡ None
reply_allows verdicts.Go flow size none = none
reply_allows (verdicts.Respond response) flow size none = refl
reply_allows verdicts.Kill flow size none = refl
reply_allows verdicts.Discard flow size none = refl

answer_allows : (waiting : Bool) (draft : Draft) → draft.stream ≡ None → size_of (answer_if waiting draft) ≡ None
answer_allows true draft none = none
answer_allows false draft none = reply_allows draft.verdict draft.flow draft.stream none

-- the size of a reply that goes on is that of its draft
goes_size : (verdict : Verdict) (flow goes : Flow) (draft_size size : Option ℕ) → replies.Go goes size ≡ reply_by verdict flow draft_size → size ≡ draft_size
goes_size verdicts.Go flow goes draft_size size is = cc
goes_size (verdicts.Respond response) flow goes draft_size size is = absurd cc
goes_size verdicts.Kill flow goes draft_size size is = absurd cc
goes_size verdicts.Discard flow goes draft_size size is = absurd cc

answer_size : (waiting : Bool) (draft : Draft) (goes : Flow) (size : Option ℕ) → answers.Reply (replies.Go goes size) ≡ answer_if waiting draft → size ≡ draft.stream
answer_size true draft goes size is = absurd cc
answer_size false draft goes size is = goes_size draft.verdict draft.flow goes draft.stream size (let same : replies.Go goes size ≡ reply_of draft = cc in same)

-- ---- no part but the addons sets a size

blocked_size : (status : Option ℕ) (draft : Draft) → (blocked status draft).stream ≡ draft.stream
blocked_size None draft = refl
blocked_size (Some status) draft = refl

moved_size : (by : Result Flow Flow) (draft : Draft) → (moved by draft).stream ≡ draft.stream
moved_size (Ok flow) draft = refl
moved_size (Err flow) draft = refl

answered_size : (answer : Option Response) (draft : Draft) → (answered_by answer draft).stream ≡ draft.stream
answered_size None draft = refl
answered_size (Some response) draft = refl

unmatched_size : (extra : Extra) (draft : Draft) → (unmatched extra draft).stream ≡ draft.stream
unmatched_size extras.Forward draft = refl
unmatched_size extras.Kill draft = refl
unmatched_size (extras.Code status) draft = refl

replayed_size : (refresh : Bool) (s : Replaying) (got : Replay) (draft : Draft) → (replayed_by refresh s got draft).stream ≡ draft.stream
replayed_size refresh s (replay.Found place response) draft = refl
replayed_size refresh s (replay.Extra extra) draft = unmatched_size extra draft

size_at : (after draft : Draft) → after ≡ draft → after.stream ≡ draft.stream
size_at after draft is = ap (λ (d : Draft). d.stream) is

replays_size : (refresh : Bool) (draft after : Draft) (old new : Option Replaying) → Replays refresh draft old after new → after.stream ≡ draft.stream
replays_size refresh draft after None new replays = size_at after draft replays.0
replays_size refresh draft after (Some recorded) new replays = ap (λ (d : Draft). d.stream) replays.drafted ∙ replayed_size refresh recorded replays.answer draft

cookies_size : (draft after : Draft) (old new : Option StickyCookies) → KeepsCookies draft old after new → after.stream ≡ draft.stream
cookies_size draft after None new keeps = size_at after draft keeps.0
cookies_size draft after (Some cookies) new keeps = size_at after draft keeps.drafted

auth_size : (draft after : Draft) (old new : Option StickyAuth) → Authorizes draft old after new → after.stream ≡ draft.stream
auth_size draft after None new keeps = size_at after draft keeps.0
auth_size draft after (Some auth) new keeps = ap (λ (d : Draft). d.stream) keeps.drafted

made_size : (rules : Rules) (hook : Hook) (one : Part) (draft : Draft) → (made_by rules hook one draft).stream ≡ draft.stream
made_size rules hook part.Block draft = blocked_size (block_status (block_views rules.block) draft.flow) draft
made_size rules hook part.MapLocal draft = refl
made_size rules hook part.MapRemote draft = moved_size (remote_rules (remote_views rules.remote) draft.flow) draft
made_size rules hook part.ModifyHeaders draft = refl
made_size rules hook part.Anticache draft = refl
made_size rules hook part.Anticomp draft = refl
made_size rules hook part.StickyCookies draft = refl
made_size rules hook part.StickyAuth draft = refl
made_size rules hook part.KeepCookies draft = refl
made_size rules hook part.ServerReplay draft = refl
made_size rules hook part.ModifyBody draft = refl
made_size rules hook part.Addons draft = refl

never_waiting : {T : Type 0} (filter : Option T) (recorded : Option Replaying) → filter ≢ None → may_stream filter recorded ≡ false
never_waiting None recorded some = absurd (some refl)
never_waiting (Some by) recorded some = refl

never_recorded : {T : Type 0} (filter : Option T) (recorded : Option Replaying) → recorded ≢ None → may_stream filter recorded ≡ false
never_recorded (Some by) recorded some = refl
never_recorded None None some = absurd (some refl)
never_recorded None (Some recorded) some = refl

-- where recorded flows answered, they do
replays_on : (refresh : Bool) (draft after : Draft) (old new : Option Replaying) (T : Type 0) (filter : Option T) → Replays refresh draft old after new →
    may_stream filter old ≡ false → may_stream filter new ≡ false
replays_on refresh draft after None new T filter replays never = ap (λ r. may_stream filter r) replays.1 ∙ never
replays_on refresh draft after (Some recorded) new T None replays never = ap (λ r. may_stream {A = T} None r) replays.used
replays_on refresh draft after (Some recorded) new T (Some by) replays never = refl

module _ {B : Type 0} (title state : B → List ℕ) (moves : B → Moves) where
  one_size : (hook : Hook) (draft after : Draft) (old new : B) → AddonMoves title state moves hook draft old after new → KeepsSizes (moves old) →
      (after.stream ≡ draft.stream) × KeepsSizes (moves new)
  one_size hook draft after old new (by_addon _ _ _ _ going same moved) keeps =
      (keeps hook _ draft _ after moved, λ h s d t e m. keeps h s d t e (same.moving.1 h s d t e m))
  one_size hook draft after old new (past_addon _ _ ended) keeps = (refl, keeps)

  all_sizes : (hook : Hook) (draft end : Draft) (olds news : List B) → AddonsMove title state moves hook draft olds end news → AllKeepSizes moves olds →
      (end.stream ≡ draft.stream) × AllKeepSizes moves news
  all_sizes hook draft end olds news (no_addon _) keep = (refl, tt)
  all_sizes hook draft end olds news (next_addon _ after _ old new others rest moved behind) keep =
      let first = one_size hook draft after old new moved keep.0 in
      let rest_keep = all_sizes hook after end others rest behind keep.1 in
      (rest_keep.0 ∙ first.0, (first.1, rest_keep.1))

  -- the addons are as they were, so they keep sizes still
  as_before : (old new : Movers B) → new.addons ≡ old.addons → AllKeepSizes moves old.addons → AllKeepSizes moves new.addons
  as_before old new same keep = subst (λ l. AllKeepSizes moves l) (sym same) keep

  by_rules : (rules : Rules) (hook : Hook) (one : Part) (draft after : Draft) (old new : Movers B) (files new_files : FilesMeaning) →
      ByRules title state moves rules hook one draft old files after new new_files → AllKeepSizes moves old.addons → (after.stream ≡ draft.stream) × AllKeepSizes moves new.addons
  by_rules rules hook one draft after old new files new_files made keep =
      (size_at after _ made.0 ∙ made_size rules hook one draft, as_before old new (ap (λ (m : Movers B). m.addons) made.1) keep)

  asked_size : (rules : Rules) (hook : Hook) (one : Part) (draft after : Draft) (old new : Movers B) (files new_files : FilesMeaning) →
      PartMoves title state moves rules hook one draft old files after new new_files → AllKeepSizes moves old.addons → (after.stream ≡ draft.stream) × AllKeepSizes moves new.addons
  asked_size rules hook part.Block draft after old new files new_files moved keep = by_rules rules hook part.Block draft after old new files new_files moved keep
  asked_size rules hook part.MapLocal draft after old new files new_files moved keep =
      (size_at after _ moved.0.drafted ∙ answered_size moved.0.answer draft, as_before old new (ap (λ (m : Movers B). m.addons) moved.1) keep)
  asked_size rules hook part.MapRemote draft after old new files new_files moved keep = by_rules rules hook part.MapRemote draft after old new files new_files moved keep
  asked_size rules hook part.ModifyHeaders draft after old new files new_files moved keep = by_rules rules hook part.ModifyHeaders draft after old new files new_files moved keep
  asked_size rules hook part.Anticache draft after old new files new_files moved keep = by_rules rules hook part.Anticache draft after old new files new_files moved keep
  asked_size rules hook part.Anticomp draft after old new files new_files moved keep = by_rules rules hook part.Anticomp draft after old new files new_files moved keep
  asked_size rules hook part.StickyCookies draft after old new files new_files moved keep =
      (size_at after _ moved.0, as_before old new (ap (λ (m : Movers B). m.addons) moved.1) keep)
  asked_size rules hook part.StickyAuth draft after old new files new_files moved keep =
      (auth_size draft after old.auth new.auth moved.0, as_before old new (ap (λ (m : Movers B). m.addons) moved.1) keep)
  asked_size rules hook part.KeepCookies draft after old new files new_files moved keep =
      (cookies_size draft after old.cookies new.cookies moved.0, as_before old new (ap (λ (m : Movers B). m.addons) moved.1) keep)
  asked_size rules hook part.ServerReplay draft after old new files new_files moved keep =
      (replays_size rules.refresh draft after old.replay new.replay moved.0, as_before old new (ap (λ (m : Movers B). m.addons) moved.1) keep)
  asked_size rules hook part.ModifyBody draft after old new files new_files moved keep = by_rules rules hook part.ModifyBody draft after old new files new_files moved keep
  asked_size rules hook part.Addons draft after old new files new_files moved keep = all_sizes hook draft after old.addons new.addons moved.0 keep

  part_size : (rules : Rules) (hook : Hook) (one : Part) (draft after : Draft) (old new : Movers B) (files new_files : FilesMeaning) →
      PartInTurn title state moves rules hook one draft old files after new new_files → AllKeepSizes moves old.addons → (after.stream ≡ draft.stream) × AllKeepSizes moves new.addons
  part_size rules hook one draft after old new files new_files (by_part _ _ _ _ _ _ going moved) keep = asked_size rules hook one draft after old new files new_files moved keep
  part_size rules hook one draft after old new files new_files (past_part _ _ _ ended) keep = (refl, keep)

  parts_size : (rules : Rules) (hook : Hook) (list : List Part) (draft end : Draft) (old new : Movers B) (files new_files : FilesMeaning) →
      PartsMove title state moves rules hook list draft old files end new new_files → AllKeepSizes moves old.addons → end.stream ≡ draft.stream
  parts_size rules hook list draft end old new files new_files (no_part _ _ _) keep = refl
  parts_size rules hook list draft end old new files new_files (next_part one others _ after _ _ mid _ _ mid_files _ moved behind) keep =
      let first = part_size rules hook one draft after old mid files mid_files moved keep in
      parts_size rules hook others after end mid new mid_files new_files behind first.1 ∙ first.0

  module _ (hook : Hook) (flow : Flow) (rules new_rules : Rules) (old new : Movers B) (files new_files : FilesMeaning) where
    -- where no body may be streamed, no answer allows a size
    pub allows_none : (answer : Answer) → may_stream rules.intercept old.replay ≡ false → ChainAnswers title state moves hook flow rules old files new_rules new new_files answer →
        size_of answer ≡ None
    allows_none answer never given =
        ap size_of given.answered
        ∙ answer_allows (waits (intercept_of rules) hook given.end) given.end
        (ap (λ (d : Draft). d.stream) given.limited ∙ ap (λ may. allowed_size may given.left.stream) never)

    pub allows_none_recorded : (answer : Answer) → old.replay ≢ None → ChainAnswers title state moves hook flow rules old files new_rules new new_files answer → size_of answer ≡ None
    allows_none_recorded answer some given = allows_none answer (never_recorded rules.intercept old.replay some) given

    pub allows_none_waiting : (answer : Answer) → rules.intercept ≢ None → ChainAnswers title state moves hook flow rules old files new_rules new new_files answer → size_of answer ≡ None
    allows_none_waiting answer some given = allows_none answer (never_waiting rules.intercept old.replay some) given

    -- where bodies may be, it is the size of the draft that the parts left
    pub size_stands : (goes : Flow) (size : Option ℕ) →
        (given : ChainAnswers title state moves hook flow rules old files new_rules new new_files (answers.Reply (replies.Go goes size))) →
        rules.intercept ≡ None → old.replay ≡ None → size ≡ given.left.stream
    size_stands goes size given no_filter no_replay =
        answer_size (waits (intercept_of rules) hook given.end) given.end goes size given.answered
        ∙ ap (λ (d : Draft). d.stream) given.limited
        ∙ ap (λ (filter : Option Filter). allowed_size (may_stream filter old.replay) given.left.stream) no_filter
        ∙ ap (λ (recorded : Option Replaying). allowed_size (may_stream {A = Filter} None recorded) given.left.stream) no_replay

    -- which is that of the rules, where no addon sets one
    pub size_of_rules : (goes : Flow) (size : Option ℕ) →
        ChainAnswers title state moves hook flow rules old files new_rules new new_files (answers.Reply (replies.Go goes size)) →
        rules.intercept ≡ None → old.replay ≡ None → AllKeepSizes moves old.addons → size ≡ rules.stream
    size_of_rules goes size given no_filter no_replay keep =
        size_stands goes size given no_filter no_replay
        ∙ parts_size rules hook (parts hook) (begun flow rules.stream) given.left old new files new_files given.moved keep

  -- ---- over answers one behind the other

  never_part : (rules : Rules) (hook : Hook) (one : Part) (draft after : Draft) (old new : Movers B) (files new_files : FilesMeaning) →
      PartMoves title state moves rules hook one draft old files after new new_files → may_stream rules.intercept old.replay ≡ false → may_stream rules.intercept new.replay ≡ false
  never_part rules hook part.Block draft after old new files new_files moved never = ap (λ (m : Movers B). may_stream rules.intercept m.replay) moved.1 ∙ never
  never_part rules hook part.MapLocal draft after old new files new_files moved never = ap (λ (m : Movers B). may_stream rules.intercept m.replay) moved.1 ∙ never
  never_part rules hook part.MapRemote draft after old new files new_files moved never = ap (λ (m : Movers B). may_stream rules.intercept m.replay) moved.1 ∙ never
  never_part rules hook part.ModifyHeaders draft after old new files new_files moved never = ap (λ (m : Movers B). may_stream rules.intercept m.replay) moved.1 ∙ never
  never_part rules hook part.Anticache draft after old new files new_files moved never = ap (λ (m : Movers B). may_stream rules.intercept m.replay) moved.1 ∙ never
  never_part rules hook part.Anticomp draft after old new files new_files moved never = ap (λ (m : Movers B). may_stream rules.intercept m.replay) moved.1 ∙ never
  never_part rules hook part.StickyCookies draft after old new files new_files moved never = ap (λ (m : Movers B). may_stream rules.intercept m.replay) moved.1 ∙ never
  never_part rules hook part.StickyAuth draft after old new files new_files moved never = ap (λ (m : Movers B). may_stream rules.intercept m.replay) moved.1 ∙ never
  never_part rules hook part.KeepCookies draft after old new files new_files moved never = ap (λ (m : Movers B). may_stream rules.intercept m.replay) moved.1 ∙ never
  never_part rules hook part.ServerReplay draft after old new files new_files moved never =
      replays_on rules.refresh draft after old.replay new.replay Filter rules.intercept moved.0 never
  never_part rules hook part.ModifyBody draft after old new files new_files moved never = ap (λ (m : Movers B). may_stream rules.intercept m.replay) moved.1 ∙ never
  never_part rules hook part.Addons draft after old new files new_files moved never = ap (λ (m : Movers B). may_stream rules.intercept m.replay) moved.1 ∙ never

  all_of : (earlier : List Given) (last : Given) → AllAllowNone earlier → size_of last.answer ≡ None → AllAllowNone (earlier ++ last ∷ [])
  all_of [] last so is = (is, tt)
  all_of (given ∷ earlier) last so is = (so.0, all_of earlier last so.1 is)

  -- what a run keeps: no answer so far allows a size, and none will
  record Never (rules : Rules) (made : List Given) (last : Movers B) : Type 0 where
    so_far : AllAllowNone made
    never : may_stream rules.intercept last.replay ≡ false

  never_in : (rules : Rules) (first last : Movers B) (made : List Given) → may_stream rules.intercept first.replay ≡ false → InTurn title state moves rules first made last →
      Never rules made last
  never_in rules first last made never none_given = record { so_far = tt; never = never }
  never_in rules first last made never (next_given earlier _ hook flow new_rules old _ addons files new_files answer before by split) =
      let given : Given = record { hook = hook; flow = flow; answer = answer } in
      let so = never_in rules first old earlier never before in
      record {
        so_far = subst (λ l. AllAllowNone l) (sym split)
            (all_of earlier given so.so_far (allows_none hook flow rules new_rules (record old { addons = addons }) last files new_files answer so.never by));
        never = parts_keep title state moves (λ m. may_stream rules.intercept m.replay ≡ false) rules hook (never_part rules hook) (parts hook) (begun flow rules.stream) by.left
            (record old { addons = addons }) last files new_files by.moved so.never;
      }

  pub none_over_runs : (rules : Rules) (first last : Movers B) (made : List Given) → (rules.intercept ≢ None) ⊎ (first.replay ≢ None) →
      InTurn title state moves rules first made last → AllAllowNone made
  none_over_runs rules first last made (inl some) by = (never_in rules first last made (never_waiting rules.intercept first.replay some) by).so_far
  none_over_runs rules first last made (inr some) by = (never_in rules first last made (never_recorded rules.intercept first.replay some) by).so_far
