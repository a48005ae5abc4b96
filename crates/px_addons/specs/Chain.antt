-- What a chain makes of a flow, of itself and of files, and what it answers.
--
-- An addon stands here as a value of any type B, with a name, a state and a relation for each.
use Rattle.std.specs.Prelude.{◌≡◌, ℕ, Bool, true, false, ◌&&◌, List, [], ◌∷◌, Option, None, Some, is_some, is_none, option_map, ◌<◌, length, remove}
use Rattle.px_message.specs.declared.flow.Flow.{Flow}
use Rattle.px_event.specs.declared.ask.Hook.{Hook}
use Rattle.px_event.specs.declared.ask.Hook.TheVariants as hooks
use Rattle.px_filter.specs.Expression.{Expression}
use Rattle.px_filter.specs.Holds.{holds}
use Rattle.px_filter.specs.View.{expression}
use Rattle.px_core.specs.Addons.{has_name_by, without_first_by}
use Rattle.px_core.specs.Answers.{FilesMeaning}
use Rattle.px_core.specs.Drafts.{reply_of}
use Rattle.px_core.specs.declared.answerer.Answer.{Answer}
use Rattle.px_core.specs.declared.answerer.Answer.TheVariants as answers
use Rattle.px_core.specs.declared.answerer.Draft.{Draft}
use Rattle.px_core.specs.declared.answerer.Verdict.{Verdict}
use Rattle.px_core.specs.declared.answerer.Verdict.TheVariants as verdicts
use Rattle.px_refresh.specs.declared.authorization.StickyAuth.{StickyAuth}
use Rattle.px_refresh.specs.declared.cookies.StickyCookies.{StickyCookies}
use Rattle.px_replay.specs.Replaying.{Replaying}
use Rattle.px_addons.specs.Mapped.{LocalFails, MapsLocal}
use Rattle.px_addons.specs.Moving.{Moves, SameMoves}
use Rattle.px_addons.specs.Parts.{made_by, parts}
use Rattle.px_addons.specs.Replays.{Replays}
use Rattle.px_addons.specs.Sticky.{Authorizes, KeepsCookies, sent_cookies}
use Rattle.px_addons.specs.declared.parts.Part.{Part}
use Rattle.px_addons.specs.declared.parts.Part.TheVariants as part
use Rattle.px_addons.specs.declared.rules.Rules.{Rules}

-- whether the order goes on behind this verdict
abbrev pub is_going : Verdict → Bool
is_going verdicts.Go = true
is_going (verdicts.Respond _) = false
is_going verdicts.Kill = false
is_going verdicts.Discard = false

-- the filter of the flows that wait, if there is one
abbrev pub intercept_of : Rules → Option Expression
intercept_of rules = option_map expression rules.intercept

-- whether an answer at the hook may wait: where a request, a response or a WebSocket's message is whole
abbrev pub may_wait : Hook → Bool
may_wait hooks.RequestHead = false
may_wait hooks.RequestBody = true
may_wait hooks.ResponseHead = false
may_wait hooks.ResponseBody = true
may_wait (hooks.WsMessage _) = true

-- whether the filter, if there is one, is judged on a draft: where an answer may wait, and all parts let the flow go on
abbrev pub is_judged : Option Expression → Hook → Draft → Bool
is_judged filter hook draft = is_some filter && (may_wait hook && is_going draft.verdict)

-- whether a filter, if there is one, takes the flow
abbrev pub is_taken : Option Expression → Flow → Bool
is_taken None flow = false
is_taken (Some filter) flow = holds flow filter

-- whether a draft that all parts were asked about waits
abbrev pub waits : Option Expression → Hook → Draft → Bool
waits filter hook draft = is_judged filter hook draft && is_taken filter draft.flow

abbrev pub answer_if : Bool → Draft → Answer
answer_if true draft = answers.Wait draft
answer_if false draft = answers.Reply (reply_of draft)

-- the answer of a draft that all parts were asked about: it waits, or is the reply of the draft
abbrev pub answer_by : Rules → Hook → Draft → Answer
answer_by rules hook draft = answer_if (waits (intercept_of rules) hook draft) draft

-- whether a body may be streamed at all: not where flows wait by a filter, nor where recorded flows answer
abbrev pub may_stream : {A B : Type 0} → Option A → Option B → Bool
may_stream None replay = is_none replay
may_stream (Some filter) replay = false

-- the size that is allowed, of the one that a draft has
abbrev pub allowed_size : Bool → Option ℕ → Option ℕ
allowed_size true size = size
allowed_size false size = None

-- the draft that is answered, by the one that the parts left: it allows no size where no body may be streamed, whatever a part set
abbrev pub allowed : Rules → Option Replaying → Draft → Draft
allowed rules replay draft = record draft { stream = allowed_size (may_stream rules.intercept replay) draft.stream }

-- the draft that the first part gets
abbrev pub begun : Flow → Option ℕ → Draft
begun flow stream = record { flow = flow; stream = stream; verdict = verdicts.Go }

-- what a part that was asked and ran out of memory did to files: map local made some of its reads, and no other part touches a file
abbrev pub PartFails : Rules → Part → Draft → FilesMeaning → FilesMeaning → Type 0
PartFails rules part.Block draft files new_files = new_files ≡ files
PartFails rules part.MapLocal draft files new_files = LocalFails rules draft files new_files
PartFails rules part.MapRemote draft files new_files = new_files ≡ files
PartFails rules part.ModifyHeaders draft files new_files = new_files ≡ files
PartFails rules part.Anticache draft files new_files = new_files ≡ files
PartFails rules part.Anticomp draft files new_files = new_files ≡ files
PartFails rules part.StickyCookies draft files new_files = new_files ≡ files
PartFails rules part.StickyAuth draft files new_files = new_files ≡ files
PartFails rules part.KeepCookies draft files new_files = new_files ≡ files
PartFails rules part.ServerReplay draft files new_files = new_files ≡ files
PartFails rules part.ModifyBody draft files new_files = new_files ≡ files
PartFails rules part.Addons draft files new_files = new_files ≡ files

-- who moves at a hook beside the draft and files: the recorded list of server replay, the kept cookies and the kept authorizations, if there are such, and
-- the addons
pub record Movers (B : Type 0) : Type 0 where
  pub replay : Option Replaying
  pub cookies : Option StickyCookies
  pub auth : Option StickyAuth
  pub addons : List B

abbrev pub movers_of : {B : Type 0} → Option Replaying → Option StickyCookies → Option StickyAuth → List B → Movers B
movers_of replay cookies auth addons = record { replay = replay; cookies = cookies; auth = auth; addons = addons }

module _ {B : Type 0} (title state : B → List ℕ) (moves : B → Moves) where
  -- the same addon, with a state of its own
  pub record SameAddon (old new : B) : Type 0 where
    pub titled : title new ≡ title old
    pub moving : SameMoves (moves old) (moves new)

  -- the same addons in the same order, each with a state of its own
  abbrev pub SameAddons : List B → List B → Type 0
  SameAddons [] [] = Unit {0}
  SameAddons [] (_ ∷ _) = ⊥
  SameAddons (_ ∷ _) [] = ⊥
  SameAddons (old ∷ olds) (new ∷ news) = SameAddon old new × SameAddons olds news

  -- One addon in its turn: it is asked about the draft that those before it left, and moves the draft and itself by its own
  -- relation. Behind a verdict that is not Go it is passed over, and stays exactly as it was.
  pub data AddonMoves (hook : Hook) : Draft → B → Draft → B → Type 0 where
    by_addon : (draft after : Draft) (old new : B) → is_going draft.verdict ≡ true → SameAddon old new → moves old hook (state old) draft (state new) after →
        AddonMoves hook draft old after new
    past_addon : (draft : Draft) (addon : B) → is_going draft.verdict ≡ false → AddonMoves hook draft addon draft addon

  -- addons in their order
  pub data AddonsMove (hook : Hook) : Draft → List B → Draft → List B → Type 0 where
    no_addon : (draft : Draft) → AddonsMove hook draft [] draft []
    next_addon : (draft after end : Draft) (old new : B) (olds news : List B) → AddonMoves hook draft old after new → AddonsMove hook after olds end news →
        AddonsMove hook draft (old ∷ olds) end (new ∷ news)

  -- two addons in turn: the draft that the second is asked about is the one that the first left
  pub record TwoInTurn (hook : Hook) (draft : Draft) (one other : B) (end : Draft) (addons : List B) : Type 0 where
    pub left : Draft
    pub new_one : B
    pub new_other : B
    pub first : AddonMoves hook draft one left new_one
    pub second : AddonMoves hook left other end new_other
    pub news : addons ≡ new_one ∷ new_other ∷ []

  -- a part whose meaning is a function of the draft leaves all that moves, and files, as they are
  abbrev pub ByRules : Rules → Hook → Part → Draft → Movers B → FilesMeaning → Draft → Movers B → FilesMeaning → Type 0
  ByRules rules hook one draft old files after new new_files = (after ≡ made_by rules hook one draft) × (new ≡ old) × (new_files ≡ files)

  -- what a part that is asked makes of the draft, of what moves, and of files
  abbrev pub PartMoves : Rules → Hook → Part → Draft → Movers B → FilesMeaning → Draft → Movers B → FilesMeaning → Type 0
  PartMoves rules hook part.Block draft old files after new new_files = ByRules rules hook part.Block draft old files after new new_files
  PartMoves rules hook part.MapLocal draft old files after new new_files = MapsLocal rules draft files after new_files × (new ≡ old)
  PartMoves rules hook part.MapRemote draft old files after new new_files = ByRules rules hook part.MapRemote draft old files after new new_files
  PartMoves rules hook part.ModifyHeaders draft old files after new new_files = ByRules rules hook part.ModifyHeaders draft old files after new new_files
  PartMoves rules hook part.Anticache draft old files after new new_files = ByRules rules hook part.Anticache draft old files after new new_files
  PartMoves rules hook part.Anticomp draft old files after new new_files = ByRules rules hook part.Anticomp draft old files after new new_files
  PartMoves rules hook part.StickyCookies draft old files after new new_files =
      (after ≡ record draft { flow = sent_cookies old.cookies draft.flow }) × (new ≡ old) × (new_files ≡ files)
  PartMoves rules hook part.StickyAuth draft old files after new new_files =
      Authorizes draft old.auth after new.auth × (new ≡ record old { auth = new.auth }) × (new_files ≡ files)
  PartMoves rules hook part.KeepCookies draft old files after new new_files =
      KeepsCookies draft old.cookies after new.cookies × (new ≡ record old { cookies = new.cookies }) × (new_files ≡ files)
  PartMoves rules hook part.ServerReplay draft old files after new new_files =
      Replays rules.refresh draft old.replay after new.replay × (new ≡ record old { replay = new.replay }) × (new_files ≡ files)
  PartMoves rules hook part.ModifyBody draft old files after new new_files = ByRules rules hook part.ModifyBody draft old files after new new_files
  PartMoves rules hook part.Addons draft old files after new new_files =
      AddonsMove hook draft old.addons after new.addons × (new ≡ record old { addons = new.addons }) × (new_files ≡ files)

  -- one part in its turn; behind a verdict that is not Go it is passed over
  pub data PartInTurn (rules : Rules) (hook : Hook) (one : Part) : Draft → Movers B → FilesMeaning → Draft → Movers B → FilesMeaning → Type 0 where
    by_part : (draft after : Draft) (old new : Movers B) (files new_files : FilesMeaning) → is_going draft.verdict ≡ true →
        PartMoves rules hook one draft old files after new new_files → PartInTurn rules hook one draft old files after new new_files
    past_part : (draft : Draft) (movers : Movers B) (files : FilesMeaning) → is_going draft.verdict ≡ false → PartInTurn rules hook one draft movers files draft movers files

  -- parts in their order
  pub data PartsMove (rules : Rules) (hook : Hook) : List Part → Draft → Movers B → FilesMeaning → Draft → Movers B → FilesMeaning → Type 0 where
    no_part : (draft : Draft) (movers : Movers B) (files : FilesMeaning) → PartsMove rules hook [] draft movers files draft movers files
    next_part : (one : Part) (others : List Part) (draft after end : Draft) (old mid new : Movers B) (files mid_files new_files : FilesMeaning) →
        PartInTurn rules hook one draft old files after mid mid_files → PartsMove rules hook others after mid mid_files end new new_files →
        PartsMove rules hook (one ∷ others) draft old files end new new_files

  -- The answer to a hook about a flow, by rules, what moves and files before and after: what the draft is when all parts of the
  -- hook were asked, or one ended the order, and the size was taken away where none is allowed; or that the hook waits with that draft.
  pub record ChainAnswers (hook : Hook) (flow : Flow) (old_rules : Rules) (old : Movers B) (old_files : FilesMeaning)
      (new_rules : Rules) (new : Movers B) (new_files : FilesMeaning) (answer : Answer) : Type 0 where
    pub left : Draft
    pub moved : PartsMove old_rules hook (parts hook) (begun flow old_rules.stream) old old_files left new new_files
    pub end : Draft
    pub limited : end ≡ allowed old_rules old.replay left
    pub answered : answer ≡ answer_by old_rules hook end
    pub rules : new_rules ≡ old_rules

  -- Parts in their order, of which one that was asked ran out of memory: what those before it, and it, did to files.
  pub data PartsFail (rules : Rules) (hook : Hook) : List Part → Draft → Movers B → FilesMeaning → FilesMeaning → Type 0 where
    fails_here : (one : Part) (others : List Part) (draft : Draft) (movers : Movers B) (files new_files : FilesMeaning) → is_going draft.verdict ≡ true →
        PartFails rules one draft files new_files → PartsFail rules hook (one ∷ others) draft movers files new_files
    fails_later : (one : Part) (others : List Part) (draft after : Draft) (old mid : Movers B) (files mid_files new_files : FilesMeaning) →
        PartInTurn rules hook one draft old files after mid mid_files → PartsFail rules hook others after mid mid_files new_files →
        PartsFail rules hook (one ∷ others) draft old files new_files

  -- What an answer to a hook about a flow that ran out of memory did to files: a part ran out of memory; or none did, and judging the
  -- filter of the flows that wait did, which touches no file.
  pub data ChainFails (hook : Hook) (flow : Flow) (rules : Rules) (movers : Movers B) (files new_files : FilesMeaning) : Type 0 where
    part_failed : PartsFail rules hook (parts hook) (begun flow rules.stream) movers files new_files → ChainFails hook flow rules movers files new_files
    judging_failed : (end : Draft) (new : Movers B) → PartsMove rules hook (parts hook) (begun flow rules.stream) movers files end new new_files →
        is_judged (intercept_of rules) hook end ≡ true → ChainFails hook flow rules movers files new_files

module _ {B : Type 0} (title : B → List ℕ) where
  -- What taking the first addon of a name away makes of a chain.
  pub record ChainDrops (name : List ℕ) (old_rules : Rules) (old : Movers B) (new_rules : Rules) (new : Movers B) : Type 0 where
    pub named : has_name_by title name old.addons ≡ true
    pub dropped : new.addons ≡ without_first_by title name old.addons
    pub replay : new.replay ≡ old.replay
    pub cookies : new.cookies ≡ old.cookies
    pub auth : new.auth ≡ old.auth
    pub rules : new_rules ≡ old_rules

  -- at that place is the first addon of the name
  pub record IsFirstOfName (name : List ℕ) (addons : List B) (place : ℕ) : Type 0 where
    pub within : place < length addons
    pub named : has_name_by title name addons ≡ true
    pub others : remove addons place ≡ without_first_by title name addons
