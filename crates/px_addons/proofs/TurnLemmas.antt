-- Addons and parts that were asked in turn, up to one of them.
use Rattle.std.proofs.Common.{◌≡◌, Bool, true, ℕ, zero, suc, ◌+◌, ◌<◌, ◌≤◌, List, [], ◌∷◌, ◌++◌, Option, length, take, drop, slice_index_or, slice_set, refl, sym, ap, subst, arith, ◌∙◌}
use Rattle.std.proofs.Math.Seq.{drop-cons}
use Rattle.px_event.specs.declared.ask.Hook.{Hook}
use Rattle.px_core.specs.declared.answerer.Draft.{Draft}
use Rattle.px_addons.specs.Moving.{Moves}
use Rattle.px_addons.specs.Chain.{Movers, movers_of, AddonMoves, AddonsMove, no_addon, next_addon, PartMoves, PartInTurn, by_part, PartsMove, no_part, next_part, PartFails, PartsFail, fails_here, fails_later, is_going, begun, ChainAnswers, ChainFails, part_failed, judging_failed, allowed_size, answer_by, intercept_of, is_judged, may_stream}
use Rattle.px_refresh.specs.declared.authorization.StickyAuth.{StickyAuth}
use Rattle.px_refresh.specs.declared.cookies.StickyCookies.{StickyCookies}
use Rattle.px_replay.specs.Replaying.{Replaying}
use Rattle.px_addons.specs.Mapped.{MapsLocal}
use Rattle.px_addons.specs.Replays.{Replays}
use Rattle.px_addons.specs.Sticky.{Authorizes, KeepsCookies, sent_cookies}
use Rattle.px_addons.specs.Parts.{made_by, parts}
use Rattle.px_core.specs.Answers.{FilesMeaning}
use Rattle.px_core.specs.declared.answerer.Answer.{Answer}
use Rattle.px_message.specs.declared.flow.Flow.{Flow}
use Rattle.px_addons.specs.declared.parts.Part.{Part}
use Rattle.px_addons.specs.declared.parts.Part.TheVariants as part
use Rattle.px_addons.specs.declared.rules.Rules.{Rules}

drop_past : {X : Type 0} (xs : List X) (i : ℕ) (x : X) → drop (suc i) (slice_set xs i x) ≡ drop (suc i) xs
drop_past [] i x = refl
drop_past (y ∷ ys) zero x = refl
drop_past (y ∷ ys) (suc i) x = drop_past ys i x

take_past : {X : Type 0} (xs : List X) (i : ℕ) (x : X) (rest : List X) → i < length xs → take (suc i) (slice_set xs i x) ++ rest ≡ take i xs ++ x ∷ rest
take_past [] i x rest h = absurd (omega (arith, h))
take_past (y ∷ ys) zero x rest h = refl
take_past (y ∷ ys) (suc i) x rest h = ap (λ l. y ∷ l) (take_past ys i x rest (omega (arith, h)))

drop_all : {X : Type 0} (xs : List X) (i : ℕ) → length xs ≤ i → drop i xs ≡ []
drop_all [] zero h = refl
drop_all [] (suc i) h = refl
drop_all (x ∷ xs) zero h = absurd (omega (arith, h))
drop_all (x ∷ xs) (suc i) h = drop_all xs i (omega (arith, h))

take_all : {X : Type 0} (xs : List X) (i : ℕ) → length xs ≤ i → take i xs ++ [] ≡ xs
take_all [] zero h = refl
take_all [] (suc i) h = refl
take_all (x ∷ xs) zero h = absurd (omega (arith, h))
take_all (x ∷ xs) (suc i) h = ap (λ l. x ∷ l) (take_all xs i (omega (arith, h)))

take_front : {X : Type 0} (xs ys : List X) → take (length xs) (xs ++ ys) ≡ xs
take_front [] ys = refl
take_front (x ∷ xs) ys = ap (λ l. x ∷ l) (take_front xs ys)

written_back : {X : Type 0} (new old : List X) (len : ℕ) → length new ≡ len → take len (new ++ drop (length new) old) ≡ new
written_back new old len counted = subst (λ n. take n (new ++ drop (length new) old) ≡ new) counted (take_front new (drop (length new) old))

-- the draft with this flow
abbrev pub the_draft : Flow → Draft → Draft
the_draft flow draft = record draft { flow = flow }

the_next : (i : ℕ) → suc i ≡ i + 1
the_next i = omega arith

module _ {B : Type 0} (title state : B → List ℕ) (moves : B → Moves) where
  -- the first of the addons were asked, and the others are as they were: whatever the others make of the draft, follows
  abbrev pub AskedAddons : Hook → Draft → List B → ℕ → Draft → List B → Type 0
  AskedAddons hook first olds i draft addons =
      (end : Draft) (rest : List B) → AddonsMove title state moves hook draft (drop i addons) end rest → AddonsMove title state moves hook first olds end (take i addons ++ rest)

  next_asked_by : (hook : Hook) (first : Draft) (olds : List B) (i : ℕ) (draft after : Draft) (addons : List B) (d new : B) →
      AskedAddons hook first olds i draft addons → i < length addons → AddonMoves title state moves hook draft (slice_index_or addons i d) after new →
      AskedAddons hook first olds (suc i) after (slice_set addons i new)
  next_asked_by hook first olds i draft after addons d new before within moved end rest behind =
      let others : AddonsMove title state moves hook after (drop (suc i) addons) end rest =
      subst (λ l. AddonsMove title state moves hook after l end rest) (drop_past addons i new) behind in
      let old = slice_index_or addons i d in
      let here : drop i addons ≡ old ∷ drop (suc i) addons = drop-cons addons i d within in
      let all : AddonsMove title state moves hook draft (drop i addons) end (new ∷ rest) =
      subst (λ l. AddonsMove title state moves hook draft l end (new ∷ rest)) (sym here) (next_addon draft after end old new (drop (suc i) addons) rest moved others) in
      subst (λ l. AddonsMove title state moves hook first olds end l) (sym (take_past addons i new rest within)) (before end (new ∷ rest) all)

  pub next_asked : (hook : Hook) (first : Draft) (olds : List B) (i : ℕ) (draft after : Draft) (addons : List B) (d new : B) →
      AskedAddons hook first olds i draft addons → i < length addons → AddonMoves title state moves hook draft (slice_index_or addons i d) after new →
      AskedAddons hook first olds (i + 1) after (slice_set addons i new)
  next_asked hook first olds i draft after addons d new before within moved =
      subst (λ n. AskedAddons hook first olds n after (slice_set addons i new)) (the_next i)
      (next_asked_by hook first olds i draft after addons d new before within moved)

  pub all_asked : (hook : Hook) (first : Draft) (olds : List B) (i : ℕ) (draft : Draft) (addons : List B) →
      AskedAddons hook first olds i draft addons → length addons ≤ i → AddonsMove title state moves hook first olds draft addons
  all_asked hook first olds i draft addons before all =
      subst (λ l. AddonsMove title state moves hook first olds draft l) (take_all addons i all)
      (before draft [] (subst (λ l. AddonsMove title state moves hook draft l draft []) (sym (drop_all addons i all)) (no_addon draft)))

  -- the first of the parts were asked: whatever the others make, follows, and so does what is left where one of them runs out of memory
  pub record AskedParts (rules : Rules) (hook : Hook) (parts : List Part) (first : Draft) (olds : Movers B) (before : FilesMeaning)
      (i : ℕ) (draft : Draft) (movers : Movers B) (files : FilesMeaning) : Type 0 where
    pub going_on : (end : Draft) (news : Movers B) (after : FilesMeaning) → PartsMove title state moves rules hook (drop i parts) draft movers files end news after →
        PartsMove title state moves rules hook parts first olds before end news after
    pub failing : (after : FilesMeaning) → PartsFail title state moves rules hook (drop i parts) draft movers files after →
        PartsFail title state moves rules hook parts first olds before after

  pub none_asked : (rules : Rules) (hook : Hook) (parts : List Part) (draft : Draft) (movers : Movers B) (files : FilesMeaning) →
      AskedParts rules hook parts draft movers files 0 draft movers files
  none_asked rules hook parts draft movers files = record { going_on = λ end news after moved. moved; failing = λ after failed. failed }

  next_part_by : (rules : Rules) (hook : Hook) (parts : List Part) (first : Draft) (olds : Movers B) (before : FilesMeaning) (i : ℕ) (draft after : Draft) (old mid : Movers B)
      (files mid_files : FilesMeaning) (d : Part) → AskedParts rules hook parts first olds before i draft old files → i < length parts →
      PartInTurn title state moves rules hook (slice_index_or parts i d) draft old files after mid mid_files → AskedParts rules hook parts first olds before (suc i) after mid mid_files
  next_part_by rules hook parts first olds before i draft after old mid files mid_files d asked within moved =
      let one = slice_index_or parts i d in
      let here : drop i parts ≡ one ∷ drop (suc i) parts = drop-cons parts i d within in record {
        going_on = λ end news last behind. asked.going_on end news last
            (subst (λ l. PartsMove title state moves rules hook l draft old files end news last) (sym here)
            (next_part one (drop (suc i) parts) draft after end old mid news files mid_files last moved behind));
        failing = λ last behind. asked.failing last
            (subst (λ l. PartsFail title state moves rules hook l draft old files last) (sym here)
            (fails_later one (drop (suc i) parts) draft after old mid files mid_files last moved behind));
      }

  pub next_part_asked : (rules : Rules) (hook : Hook) (parts : List Part) (first : Draft) (olds : Movers B) (before : FilesMeaning) (i : ℕ) (draft after : Draft) (old mid : Movers B)
      (files mid_files : FilesMeaning) (d : Part) → AskedParts rules hook parts first olds before i draft old files → i < length parts →
      PartInTurn title state moves rules hook (slice_index_or parts i d) draft old files after mid mid_files → AskedParts rules hook parts first olds before (i + 1) after mid mid_files
  next_part_asked rules hook parts first olds before i draft after old mid files mid_files d asked within moved =
      subst (λ n. AskedParts rules hook parts first olds before n after mid mid_files) (the_next i)
      (next_part_by rules hook parts first olds before i draft after old mid files mid_files d asked within moved)

  pub next_part_failed : (rules : Rules) (hook : Hook) (parts : List Part) (first : Draft) (olds : Movers B) (before : FilesMeaning) (i : ℕ) (draft : Draft) (old : Movers B)
      (files after : FilesMeaning) (d : Part) → AskedParts rules hook parts first olds before i draft old files → i < length parts →
      (is_going draft.verdict ≡ true) × PartFails rules (slice_index_or parts i d) draft files after → PartsFail title state moves rules hook parts first olds before after
  next_part_failed rules hook parts first olds before i draft old files after d asked within failed =
      let one = slice_index_or parts i d in
      let here : drop i parts ≡ one ∷ drop (suc i) parts = drop-cons parts i d within in
      asked.failing after (subst (λ l. PartsFail title state moves rules hook l draft old files after) (sym here)
      (fails_here one (drop (suc i) parts) draft old files after failed.0 failed.1))

  pub all_parts_asked : (rules : Rules) (hook : Hook) (parts : List Part) (first : Draft) (olds : Movers B) (before : FilesMeaning) (i : ℕ) (draft : Draft) (movers : Movers B)
      (files : FilesMeaning) → AskedParts rules hook parts first olds before i draft movers files → length parts ≤ i →
      PartsMove title state moves rules hook parts first olds before draft movers files
  all_parts_asked rules hook parts first olds before i draft movers files asked all =
      asked.going_on draft movers files
      (subst (λ l. PartsMove title state moves rules hook l draft movers files draft movers files) (sym (drop_all parts i all)) (no_part draft movers files))

  -- the parts whose meaning is a function of the draft
  abbrev pub IsFunction : Part → Type 0
  IsFunction part.Block = Unit {0}
  IsFunction part.MapLocal = ⊥
  IsFunction part.MapRemote = Unit {0}
  IsFunction part.ModifyHeaders = Unit {0}
  IsFunction part.Anticache = Unit {0}
  IsFunction part.Anticomp = Unit {0}
  IsFunction part.StickyCookies = ⊥
  IsFunction part.StickyAuth = ⊥
  IsFunction part.KeepCookies = ⊥
  IsFunction part.ServerReplay = ⊥
  IsFunction part.ModifyBody = Unit {0}
  IsFunction part.Addons = ⊥

  by_function : (rules : Rules) (hook : Hook) (one : Part) (draft after : Draft) (movers : Movers B) (files : FilesMeaning) → IsFunction one →
      after ≡ made_by rules hook one draft → PartMoves title state moves rules hook one draft movers files after movers files
  by_function rules hook part.Block draft after movers files is made = (made, refl, refl)
  by_function rules hook part.MapLocal draft after movers files is made = absurd is
  by_function rules hook part.MapRemote draft after movers files is made = (made, refl, refl)
  by_function rules hook part.ModifyHeaders draft after movers files is made = (made, refl, refl)
  by_function rules hook part.Anticache draft after movers files is made = (made, refl, refl)
  by_function rules hook part.Anticomp draft after movers files is made = (made, refl, refl)
  by_function rules hook part.StickyCookies draft after movers files is made = absurd is
  by_function rules hook part.StickyAuth draft after movers files is made = absurd is
  by_function rules hook part.KeepCookies draft after movers files is made = absurd is
  by_function rules hook part.ServerReplay draft after movers files is made = absurd is
  by_function rules hook part.ModifyBody draft after movers files is made = (made, refl, refl)
  by_function rules hook part.Addons draft after movers files is made = absurd is

  pub by_rules : (rules : Rules) (hook : Hook) (one named : Part) (draft after : Draft) (movers : Movers B) (files : FilesMeaning) → IsFunction named → one ≡ named →
      is_going draft.verdict ≡ true → after ≡ made_by rules hook named draft → PartInTurn title state moves rules hook one draft movers files after movers files
  by_rules rules hook one named draft after movers files is same going made =
      subst (λ p. PartInTurn title state moves rules hook p draft movers files after movers files) (sym same)
      (by_part draft after movers movers files files going (by_function rules hook named draft after movers files is made))

  pub by_local : (rules : Rules) (hook : Hook) (one : Part) (draft after : Draft) (movers : Movers B) (files new_files : FilesMeaning) → one ≡ part.MapLocal →
      is_going draft.verdict ≡ true → MapsLocal rules draft files after new_files → PartInTurn title state moves rules hook one draft movers files after movers new_files
  by_local rules hook one draft after movers files new_files same going maps =
      subst (λ p. PartInTurn title state moves rules hook p draft movers files after movers new_files) (sym same)
      (by_part draft after movers movers files new_files going (maps, refl))

  pub by_cookies : (rules : Rules) (hook : Hook) (one : Part) (draft after : Draft) (movers : Movers B) (files : FilesMeaning) → one ≡ part.StickyCookies →
      is_going draft.verdict ≡ true → after ≡ the_draft (sent_cookies movers.cookies draft.flow) draft →
      PartInTurn title state moves rules hook one draft movers files after movers files
  by_cookies rules hook one draft after movers files same going sent =
      subst (λ p. PartInTurn title state moves rules hook p draft movers files after movers files) (sym same)
      (by_part draft after movers movers files files going (sent, refl, refl))

  pub by_auth : (rules : Rules) (hook : Hook) (one : Part) (draft after : Draft) (replay : Option Replaying) (cookies : Option StickyCookies) (old new : Option StickyAuth)
      (addons : List B) (files : FilesMeaning) → one ≡ part.StickyAuth → is_going draft.verdict ≡ true → Authorizes draft old after new →
      PartInTurn title state moves rules hook one draft (movers_of replay cookies old addons) files after (movers_of replay cookies new addons) files
  by_auth rules hook one draft after replay cookies old new addons files same going kept =
      let before : Movers B = movers_of replay cookies old addons in
      let behind : Movers B = movers_of replay cookies new addons in
      subst (λ p. PartInTurn title state moves rules hook p draft before files after behind files) (sym same)
      (by_part draft after before behind files files going (kept, refl, refl))

  pub by_keeping : (rules : Rules) (hook : Hook) (one : Part) (draft : Draft) (replay : Option Replaying) (old new : Option StickyCookies) (auth : Option StickyAuth)
      (addons : List B) (files : FilesMeaning) → one ≡ part.KeepCookies → is_going draft.verdict ≡ true → KeepsCookies draft old draft new →
      PartInTurn title state moves rules hook one draft (movers_of replay old auth addons) files draft (movers_of replay new auth addons) files
  by_keeping rules hook one draft replay old new auth addons files same going kept =
      let before : Movers B = movers_of replay old auth addons in
      let behind : Movers B = movers_of replay new auth addons in
      subst (λ p. PartInTurn title state moves rules hook p draft before files draft behind files) (sym same)
      (by_part draft draft before behind files files going (kept, refl, refl))

  pub by_replay : (rules : Rules) (hook : Hook) (one : Part) (draft after : Draft) (old new : Option Replaying) (cookies : Option StickyCookies) (auth : Option StickyAuth)
      (addons : List B) (files : FilesMeaning) → one ≡ part.ServerReplay → is_going draft.verdict ≡ true → Replays rules.refresh draft old after new →
      PartInTurn title state moves rules hook one draft (movers_of old cookies auth addons) files after (movers_of new cookies auth addons) files
  by_replay rules hook one draft after old new cookies auth addons files same going replays =
      let before : Movers B = movers_of old cookies auth addons in
      let behind : Movers B = movers_of new cookies auth addons in
      subst (λ p. PartInTurn title state moves rules hook p draft before files after behind files) (sym same)
      (by_part draft after before behind files files going (replays, refl, refl))

  pub by_addons : (rules : Rules) (hook : Hook) (one : Part) (draft after : Draft) (replay : Option Replaying) (cookies : Option StickyCookies) (auth : Option StickyAuth)
      (old new : List B) (files : FilesMeaning) → one ≡ part.Addons → is_going draft.verdict ≡ true → AddonsMove title state moves hook draft old after new →
      PartInTurn title state moves rules hook one draft (movers_of replay cookies auth old) files after (movers_of replay cookies auth new) files
  by_addons rules hook one draft after replay cookies auth old new files same going moved =
      let before : Movers B = movers_of replay cookies auth old in
      let behind : Movers B = movers_of replay cookies auth new in
      subst (λ p. PartInTurn title state moves rules hook p draft before files after behind files) (sym same)
      (by_part draft after before behind files files going (moved, refl, refl))

  -- what a chain answers, from what its parts made of a lent list
  pub answered : (rules : Rules) (hook : Hook) (flow : Flow) (files new_files : FilesMeaning) (replay new_replay : Option Replaying) (cookies new_cookies : Option StickyCookies)
      (auth new_auth : Option StickyAuth) (addons lent : List B) (asked : List Part)
      (left : Draft) (new : List B) (len : ℕ) (streams : Bool) (size : Option ℕ) (answer : Answer) →
      PartsMove title state moves rules hook asked (begun flow rules.stream) (movers_of replay cookies auth lent) files left (movers_of new_replay new_cookies new_auth new) new_files →
      asked ≡ parts hook → lent ≡ addons → length new ≡ len → streams ≡ may_stream rules.intercept replay → size ≡ allowed_size streams left.stream →
      answer ≡ answer_by rules hook (record left { stream = size }) →
      ChainAnswers title state moves hook flow rules (movers_of replay cookies auth addons) files rules
      (movers_of new_replay new_cookies new_auth (take len (new ++ drop (length new) addons))) new_files answer
  answered rules hook flow files new_files replay new_replay cookies new_cookies auth new_auth addons lent asked left new len streams size answer moved table same counted may limited is =
      record {
        left = left;
        moved = subst (λ l. PartsMove title state moves rules hook (parts hook) (begun flow rules.stream) (movers_of replay cookies auth addons) files left (movers_of new_replay new_cookies new_auth l) new_files)
            (sym (written_back new addons len counted))
            (subst (λ l. PartsMove title state moves rules hook (parts hook) (begun flow rules.stream) (movers_of replay cookies auth l) files left (movers_of new_replay new_cookies new_auth new) new_files) same
            (subst (λ l. PartsMove title state moves rules hook l (begun flow rules.stream) (movers_of replay cookies auth lent) files left (movers_of new_replay new_cookies new_auth new) new_files) table moved));
        end = record left { stream = size };
        limited = ap (λ (s : Option ℕ). record left { stream = s }) (limited ∙ ap (λ m. allowed_size m left.stream) may);
        answered = is;
        rules = refl;
      }

  -- and what it did to files where one of them ran out of memory
  pub failed : (rules : Rules) (hook : Hook) (flow : Flow) (files new_files : FilesMeaning) (replay : Option Replaying) (cookies : Option StickyCookies)
      (auth : Option StickyAuth) (addons lent : List B) (asked : List Part) →
      PartsFail title state moves rules hook asked (begun flow rules.stream) (movers_of replay cookies auth lent) files new_files → asked ≡ parts hook → lent ≡ addons →
      ChainFails title state moves hook flow rules (movers_of replay cookies auth addons) files new_files
  failed rules hook flow files new_files replay cookies auth addons lent asked ran_out table same =
      part_failed (subst (λ l. PartsFail title state moves rules hook (parts hook) (begun flow rules.stream) (movers_of replay cookies auth l) files new_files) same
      (subst (λ l. PartsFail title state moves rules hook l (begun flow rules.stream) (movers_of replay cookies auth lent) files new_files) table ran_out))

  -- or where judging the filter of the flows that wait did
  pub judging : (rules : Rules) (hook : Hook) (flow : Flow) (files new_files : FilesMeaning) (replay : Option Replaying) (cookies : Option StickyCookies)
      (auth : Option StickyAuth) (addons lent : List B) (asked : List Part)
      (end : Draft) (new : Movers B) → PartsMove title state moves rules hook asked (begun flow rules.stream) (movers_of replay cookies auth lent) files end new new_files →
      asked ≡ parts hook → lent ≡ addons → is_judged (intercept_of rules) hook end ≡ true →
      ChainFails title state moves hook flow rules (movers_of replay cookies auth addons) files new_files
  judging rules hook flow files new_files replay cookies auth addons lent asked end new moved table same judged =
      judging_failed end new
      (subst (λ l. PartsMove title state moves rules hook (parts hook) (begun flow rules.stream) (movers_of replay cookies auth l) files end new new_files) same
      (subst (λ l. PartsMove title state moves rules hook l (begun flow rules.stream) (movers_of replay cookies auth lent) files end new new_files) table moved))
      judged
