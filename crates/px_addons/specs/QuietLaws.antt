-- A chain that changes nothing answers so, leaves files as they are, and stays such a chain. One without map local rules reads nothing.
use Rattle.std.proofs.Common.{◌≡◌, ℕ, Bool, true, false, option_map, List, [], Option, Some, None, refl, sym, ap, subst, ◌∙◌}
use Rattle.std.proofs.lemmas.List.Elements.{All-nil}
use Rattle.px_message.specs.declared.flow.Flow.{Flow}
use Rattle.px_message.specs.declared.response.Response.{Response}
use Rattle.px_event.specs.declared.ask.Hook.{Hook}
use Rattle.px_outside.specs.declared.files.FileCall.{FileCall}
use Rattle.px_core.specs.Answers.{FilesMeaning}
use Rattle.px_core.specs.declared.answerer.Answer.{Answer}
use Rattle.px_core.specs.declared.answerer.Answer.TheVariants as answers
use Rattle.px_core.specs.declared.answerer.Draft.{Draft}
use Rattle.px_filter.specs.View.{expression}
use Rattle.px_rule.proofs.LawLemmas.{headers_hold_nowhere}
use Rattle.px_rule.specs.Body.{body_rules}
use Rattle.px_rule.specs.Header.{header_rules}
use Rattle.px_map.specs.Block.{block_status}
use Rattle.px_map.specs.Reads.{IsAnswer}
use Rattle.px_map.specs.Remote.{remote_rules}
use Rattle.px_map.specs.Served.{local_names}
use Rattle.px_map.specs.View.{local_views}
use Rattle.px_refresh.specs.declared.authorization.StickyAuth.{StickyAuth}
use Rattle.px_refresh.specs.declared.cookies.StickyCookies.{StickyCookies}
use Rattle.px_replay.specs.Replaying.{Replaying}
use Rattle.px_addons.specs.Blocked.{blocked}
use Rattle.px_addons.specs.Mapped.{MapsLocal, answered_by, moved, names_for}
use Rattle.px_addons.specs.Moving.{KeepsDrafts, Moves}
use Rattle.px_addons.specs.Parts.{content_of, is_of_response, made_by, parts}
use Rattle.px_core.specs.Drafts.{reply_of}
use Rattle.px_addons.specs.Chain.{Movers, AddonMoves, by_addon, past_addon, AddonsMove, no_addon, next_addon, ByRules, PartMoves, PartInTurn, by_part, past_part, PartsMove, no_part, next_part, PartFails, PartsFail, fails_here, fails_later, ChainFails, part_failed, judging_failed, begun, ChainAnswers, allowed, allowed_size, answer_by, answer_if, may_stream, waits}
use Rattle.px_addons.specs.Quiet.{AllKeepDrafts, AreQuiet, ChangesNothing, NoRules, goes_on_unchanged}
use Rattle.px_addons.specs.Replays.{Replays}
use Rattle.px_addons.specs.Sticky.{Authorizes, KeepsCookies, sent_cookies}
use Rattle.px_addons.specs.declared.parts.Part.{Part}
use Rattle.px_addons.specs.declared.parts.Part.TheVariants as part
use Rattle.px_addons.specs.declared.rules.Rules.{Rules}

abbrev with_flow : Draft → Flow → Draft
with_flow draft flow = record draft { flow = flow }

-- no rule changes a draft
pub no_rule_changes : (rules : Rules) (hook : Hook) (one : Part) (draft : Draft) → NoRules rules → made_by rules hook one draft ≡ draft
no_rule_changes rules hook part.Block draft none = ap (λ list. blocked (block_status list draft.flow) draft) none.block
no_rule_changes rules hook part.MapLocal draft none = refl
no_rule_changes rules hook part.MapRemote draft none = ap (λ list. moved (remote_rules list draft.flow) draft) none.remote
no_rule_changes rules hook part.ModifyHeaders draft none =
    ap (λ list. with_flow draft (header_rules (is_of_response hook) list draft.flow)) none.headers
    ∙ ap (λ flow. with_flow draft flow) (headers_hold_nowhere (is_of_response hook) [] draft.flow (All-nil _))
no_rule_changes rules hook part.Anticache draft none = rw none.anticache refl
no_rule_changes rules hook part.Anticomp draft none = rw none.anticomp refl
no_rule_changes rules hook part.StickyCookies draft none = refl
no_rule_changes rules hook part.StickyAuth draft none = refl
no_rule_changes rules hook part.KeepCookies draft none = refl
no_rule_changes rules hook part.ServerReplay draft none = refl
no_rule_changes rules hook part.ModifyBody draft none = ap (λ list. with_flow draft (body_rules (content_of hook) list draft.flow)) none.bodies
no_rule_changes rules hook part.Addons draft none = refl

-- without a filter of the flows that wait a draft is answered by its reply
pub without_a_filter : (rules : Rules) (hook : Hook) (draft : Draft) → rules.intercept ≡ None → answer_by rules hook draft ≡ answers.Reply (reply_of draft)
without_a_filter rules hook draft none = ap (λ filter. answer_if (waits (option_map expression filter) hook draft) draft) none

-- no size stays none
none_allowed : (may : Bool) → allowed_size may None ≡ None
none_allowed true = refl
none_allowed false = refl

-- ---- without map local rules

-- no rule means no file
no_names : (rules : Rules) (flow : Flow) → local_views rules.local ≡ [] → names_for rules flow ≡ []
no_names rules flow none = ap (λ list. local_names list flow) none

answers_nothing : (rules : Rules) (draft after : Draft) (made : List FileCall) (answer : Option Response) → local_views rules.local ≡ [] →
    IsAnswer (names_for rules draft.flow) made answer → after ≡ answered_by answer draft → after ≡ draft
answers_nothing rules draft after made answer none answers drafted =
    drafted ∙ ap (λ a. answered_by a draft) (subst (λ names. IsAnswer names made answer) (no_names rules draft.flow none) answers).1

-- no map local rule leaves the draft as it is
pub no_local_changes : (rules : Rules) (draft after : Draft) (files new_files : FilesMeaning) → local_views rules.local ≡ [] → MapsLocal rules draft files after new_files →
    after ≡ draft
no_local_changes rules draft after files new_files none maps = answers_nothing rules draft after maps.made maps.answer none maps.answers maps.drafted

-- without a recorded list server replay leaves the draft as it is
no_replay_changes : (refresh : Bool) (draft after : Draft) (old new : Option Replaying) → old ≡ None → Replays refresh draft old after new → (after ≡ draft) × (new ≡ None)
no_replay_changes refresh draft after None new none replays = replays
no_replay_changes refresh draft after (Some recorded) new none replays = absurd cc

-- where nothing is kept, the sticky parts leave it so
no_cookies_sent : (cookies : Option StickyCookies) (draft : Draft) → cookies ≡ None → with_flow draft (sent_cookies cookies draft.flow) ≡ draft
no_cookies_sent cookies draft none = ap (λ c. with_flow draft (sent_cookies c draft.flow)) none

no_cookies_kept : (draft after : Draft) (old new : Option StickyCookies) → old ≡ None → KeepsCookies draft old after new → (after ≡ draft) × (new ≡ None)
no_cookies_kept draft after None new none keeps = keeps
no_cookies_kept draft after (Some cookies) new none keeps = absurd cc

no_auth_kept : (draft after : Draft) (old new : Option StickyAuth) → old ≡ None → Authorizes draft old after new → (after ≡ draft) × (new ≡ None)
no_auth_kept draft after None new none keeps = keeps
no_auth_kept draft after (Some auth) new none keeps = absurd cc

module _ {B : Type 0} (title state : B → List ℕ) (moves : B → Moves) where
  one_keeps : (hook : Hook) (draft after : Draft) (old new : B) → AddonMoves title state moves hook draft old after new → KeepsDrafts (moves old) →
      (after ≡ draft) × KeepsDrafts (moves new)
  one_keeps hook draft after old new (by_addon _ _ _ _ going same moved) keeps =
      (keeps hook _ draft _ after moved, λ h s d t e m. keeps h s d t e (same.moving.1 h s d t e m))
  one_keeps hook draft after old new (past_addon _ _ ended) keeps = (refl, keeps)

  all_keep : (hook : Hook) (draft end : Draft) (olds news : List B) → AddonsMove title state moves hook draft olds end news → AllKeepDrafts moves olds →
      (end ≡ draft) × AllKeepDrafts moves news
  all_keep hook draft end olds news (no_addon _) keep = (refl, tt)
  all_keep hook draft end olds news (next_addon _ after _ old new others rest moved behind) keep =
      let first = one_keeps hook draft after old new moved keep.0 in
      let rest_keep = all_keep hook after end others rest behind keep.1 in
      (rest_keep.0 ∙ first.0, (first.1, rest_keep.1))

  made_keeps : (rules : Rules) (hook : Hook) (one : Part) (draft after : Draft) (old new : Movers B) (files new_files : FilesMeaning) →
      ByRules title state moves rules hook one draft old files after new new_files → NoRules rules → AreQuiet moves old → (after ≡ draft) × AreQuiet moves new
  made_keeps rules hook one draft after old new files new_files made none keep =
      (made.0 ∙ no_rule_changes rules hook one draft none, subst (λ l. AreQuiet moves l) (sym made.1) keep)

  asked_keeps : (rules : Rules) (hook : Hook) (one : Part) (draft after : Draft) (old new : Movers B) (files new_files : FilesMeaning) →
      PartMoves title state moves rules hook one draft old files after new new_files → NoRules rules → AreQuiet moves old → (after ≡ draft) × AreQuiet moves new
  asked_keeps rules hook part.Block draft after old new files new_files moved none keep = made_keeps rules hook part.Block draft after old new files new_files moved none keep
  asked_keeps rules hook part.MapLocal draft after old new files new_files moved none keep =
      (no_local_changes rules draft after files new_files none.local moved.0, subst (λ l. AreQuiet moves l) (sym moved.1) keep)
  asked_keeps rules hook part.MapRemote draft after old new files new_files moved none keep = made_keeps rules hook part.MapRemote draft after old new files new_files moved none keep
  asked_keeps rules hook part.ModifyHeaders draft after old new files new_files moved none keep = made_keeps rules hook part.ModifyHeaders draft after old new files new_files moved none keep
  asked_keeps rules hook part.Anticache draft after old new files new_files moved none keep = made_keeps rules hook part.Anticache draft after old new files new_files moved none keep
  asked_keeps rules hook part.Anticomp draft after old new files new_files moved none keep = made_keeps rules hook part.Anticomp draft after old new files new_files moved none keep
  asked_keeps rules hook part.StickyCookies draft after old new files new_files moved none keep =
      (moved.0 ∙ no_cookies_sent old.cookies draft keep.no_cookies, subst (λ m. AreQuiet moves m) (sym moved.1) keep)
  asked_keeps rules hook part.StickyAuth draft after old new files new_files moved none keep =
      let still = no_auth_kept draft after old.auth new.auth keep.no_auth moved.0 in
      (still.0, subst (λ m. AreQuiet moves m) (sym moved.1) (record { unrecorded = keep.unrecorded; no_cookies = keep.no_cookies; no_auth = still.1; keep = keep.keep }))
  asked_keeps rules hook part.KeepCookies draft after old new files new_files moved none keep =
      let still = no_cookies_kept draft after old.cookies new.cookies keep.no_cookies moved.0 in
      (still.0, subst (λ m. AreQuiet moves m) (sym moved.1) (record { unrecorded = keep.unrecorded; no_cookies = still.1; no_auth = keep.no_auth; keep = keep.keep }))
  asked_keeps rules hook part.ServerReplay draft after old new files new_files moved none keep =
      let still = no_replay_changes rules.refresh draft after old.replay new.replay keep.unrecorded moved.0 in
      (still.0, subst (λ m. AreQuiet moves m) (sym moved.1) (record { unrecorded = still.1; no_cookies = keep.no_cookies; no_auth = keep.no_auth; keep = keep.keep }))
  asked_keeps rules hook part.ModifyBody draft after old new files new_files moved none keep = made_keeps rules hook part.ModifyBody draft after old new files new_files moved none keep
  asked_keeps rules hook part.Addons draft after old new files new_files moved none keep =
      let all = all_keep hook draft after old.addons new.addons moved.0 keep.keep in
      (all.0, subst (λ m. AreQuiet moves m) (sym moved.1) (record { unrecorded = keep.unrecorded; no_cookies = keep.no_cookies; no_auth = keep.no_auth; keep = all.1 }))

  part_keeps : (rules : Rules) (hook : Hook) (one : Part) (draft after : Draft) (old new : Movers B) (files new_files : FilesMeaning) →
      PartInTurn title state moves rules hook one draft old files after new new_files → NoRules rules → AreQuiet moves old → (after ≡ draft) × AreQuiet moves new
  part_keeps rules hook one draft after old new files new_files (by_part _ _ _ _ _ _ going moved) none keep =
      asked_keeps rules hook one draft after old new files new_files moved none keep
  part_keeps rules hook one draft after old new files new_files (past_part _ _ _ ended) none keep = (refl, keep)

  parts_keep : (rules : Rules) (hook : Hook) (list : List Part) (draft end : Draft) (old new : Movers B) (files new_files : FilesMeaning) →
      PartsMove title state moves rules hook list draft old files end new new_files → NoRules rules → AreQuiet moves old → (end ≡ draft) × AreQuiet moves new
  parts_keep rules hook list draft end old new files new_files (no_part _ _ _) none keep = (refl, keep)
  parts_keep rules hook list draft end old new files new_files (next_part one others _ after _ _ mid _ _ mid_files _ moved behind) none keep =
      let first = part_keeps rules hook one draft after old mid files mid_files moved none keep in
      let rest = parts_keep rules hook others after end mid new mid_files new_files behind none first.1 in
      (rest.0 ∙ first.0, rest.1)

  -- ---- files, where no rule is one of map local

  asked_leaves : (rules : Rules) (hook : Hook) (one : Part) (draft after : Draft) (old new : Movers B) (files new_files : FilesMeaning) →
      PartMoves title state moves rules hook one draft old files after new new_files → local_views rules.local ≡ [] → new_files ≡ files
  asked_leaves rules hook part.Block draft after old new files new_files moved none = moved.2
  asked_leaves rules hook part.MapLocal draft after old new files new_files moved none = moved.0.unread (no_names rules draft.flow none)
  asked_leaves rules hook part.MapRemote draft after old new files new_files moved none = moved.2
  asked_leaves rules hook part.ModifyHeaders draft after old new files new_files moved none = moved.2
  asked_leaves rules hook part.Anticache draft after old new files new_files moved none = moved.2
  asked_leaves rules hook part.Anticomp draft after old new files new_files moved none = moved.2
  asked_leaves rules hook part.StickyCookies draft after old new files new_files moved none = moved.2
  asked_leaves rules hook part.StickyAuth draft after old new files new_files moved none = moved.2
  asked_leaves rules hook part.KeepCookies draft after old new files new_files moved none = moved.2
  asked_leaves rules hook part.ServerReplay draft after old new files new_files moved none = moved.2
  asked_leaves rules hook part.ModifyBody draft after old new files new_files moved none = moved.2
  asked_leaves rules hook part.Addons draft after old new files new_files moved none = moved.2

  part_leaves : (rules : Rules) (hook : Hook) (one : Part) (draft after : Draft) (old new : Movers B) (files new_files : FilesMeaning) →
      PartInTurn title state moves rules hook one draft old files after new new_files → local_views rules.local ≡ [] → new_files ≡ files
  part_leaves rules hook one draft after old new files new_files (by_part _ _ _ _ _ _ going moved) none = asked_leaves rules hook one draft after old new files new_files moved none
  part_leaves rules hook one draft after old new files new_files (past_part _ _ _ ended) none = refl

  pub parts_leave : (rules : Rules) (hook : Hook) (list : List Part) (draft end : Draft) (old new : Movers B) (files new_files : FilesMeaning) →
      PartsMove title state moves rules hook list draft old files end new new_files → local_views rules.local ≡ [] → new_files ≡ files
  parts_leave rules hook list draft end old new files new_files (no_part _ _ _) none = refl
  parts_leave rules hook list draft end old new files new_files (next_part one others _ after _ _ mid _ _ mid_files _ moved behind) none =
      parts_leave rules hook others after end mid new mid_files new_files behind none ∙ part_leaves rules hook one draft after old mid files mid_files moved none

  failed_leaves : (rules : Rules) (one : Part) (draft : Draft) (files new_files : FilesMeaning) → PartFails rules one draft files new_files → local_views rules.local ≡ [] →
      new_files ≡ files
  failed_leaves rules part.Block draft files new_files failed none = failed
  failed_leaves rules part.MapLocal draft files new_files failed none = failed.unread (no_names rules draft.flow none)
  failed_leaves rules part.MapRemote draft files new_files failed none = failed
  failed_leaves rules part.ModifyHeaders draft files new_files failed none = failed
  failed_leaves rules part.Anticache draft files new_files failed none = failed
  failed_leaves rules part.Anticomp draft files new_files failed none = failed
  failed_leaves rules part.StickyCookies draft files new_files failed none = failed
  failed_leaves rules part.StickyAuth draft files new_files failed none = failed
  failed_leaves rules part.KeepCookies draft files new_files failed none = failed
  failed_leaves rules part.ServerReplay draft files new_files failed none = failed
  failed_leaves rules part.ModifyBody draft files new_files failed none = failed
  failed_leaves rules part.Addons draft files new_files failed none = failed

  pub failure_leaves : (rules : Rules) (hook : Hook) (list : List Part) (draft : Draft) (old : Movers B) (files new_files : FilesMeaning) →
      PartsFail title state moves rules hook list draft old files new_files → local_views rules.local ≡ [] → new_files ≡ files
  failure_leaves rules hook list draft old files new_files (fails_here one others _ _ _ _ going failed) none = failed_leaves rules one draft files new_files failed none
  failure_leaves rules hook list draft old files new_files (fails_later one others _ after _ mid _ mid_files _ moved behind) none =
      failure_leaves rules hook others after mid mid_files new_files behind none ∙ part_leaves rules hook one draft after old mid files mid_files moved none

  module _ (hook : Hook) (flow : Flow) (rules : Rules) (old : Movers B) (files : FilesMeaning) (new_rules : Rules) (new : Movers B) (new_files : FilesMeaning) (answer : Answer) where
    pub stays_quiet : ChangesNothing moves rules old → ChainAnswers title state moves hook flow rules old files new_rules new new_files answer →
        ChangesNothing moves new_rules new
    stays_quiet quiet given = record {
      no_rules = subst (λ r. NoRules r) (sym given.rules) quiet.no_rules;
      quiet = (parts_keep rules hook (parts hook) (begun flow rules.stream) given.left old new files new_files given.moved quiet.no_rules quiet.quiet).1;
    }

    pub answers_unchanged : ChangesNothing moves rules old → ChainAnswers title state moves hook flow rules old files new_rules new new_files answer →
        goes_on_unchanged hook flow answer
    answers_unchanged quiet given =
        given.answered
        ∙ without_a_filter rules hook given.end quiet.no_rules.intercept
        ∙ ap (λ d. answers.Reply (reply_of d)) given.limited
        ∙ ap (λ d. answers.Reply (reply_of (allowed rules old.replay d)))
        (parts_keep rules hook (parts hook) (begun flow rules.stream) given.left old new files new_files given.moved quiet.no_rules quiet.quiet).0
        ∙ ap (λ s. answers.Reply (reply_of (allowed rules old.replay (begun flow s)))) quiet.no_rules.stream
        ∙ ap (λ s. answers.Reply (reply_of (begun flow s))) (none_allowed (may_stream rules.intercept old.replay))

    -- an answer leaves files as they are
    pub answers_leave : local_views rules.local ≡ [] → ChainAnswers title state moves hook flow rules old files new_rules new new_files answer → new_files ≡ files
    answers_leave none given = parts_leave rules hook (parts hook) (begun flow rules.stream) given.left old new files new_files given.moved none

  -- and so does one that ran out of memory
  pub failures_leave : (hook : Hook) (flow : Flow) (rules : Rules) (old : Movers B) (files new_files : FilesMeaning) → local_views rules.local ≡ [] →
      ChainFails title state moves hook flow rules old files new_files → new_files ≡ files
  failures_leave hook flow rules old files new_files none (part_failed failed) = failure_leaves rules hook (parts hook) (begun flow rules.stream) old files new_files failed none
  failures_leave hook flow rules old files new_files none (judging_failed end new moved judged) =
      parts_leave rules hook (parts hook) (begun flow rules.stream) end old new files new_files moved none
