-- One thing heard, worked off: the steps that follow, and those that were told.
use Rattle.std.proofs.Common.{◌≡◌, ◌≢◌, Bool, true, false, nat_lt, ℕ, List, [], ◌∷◌, ◌++◌, Option, Some, None, refl, ap, sym, ◌∙◌, subst, append_assoc, ◌⊎◌, inl, inr, OnOk, OnErr, Result, Ok, Err}
use Rattle.std.proofs.lemmas.List.{append-nil}
use Rattle.std.specs.Prelude.{if◌then◌else◌}
use Rattle.std.specs.List.{flat_map}
use Rattle.std.proofs.lemmas.Grind.{flat_map-append}
use Rattle.px_text.specs.Prefix.{IsPrefixOf}
use Rattle.px_message.specs.declared.flow.Flow.{Flow}
use Rattle.px_message.specs.declared.address.Address.{Address}
use Rattle.px_event.specs.declared.ask.Ask.{Ask}
use Rattle.px_event.specs.declared.command.Command.{Command}
use Rattle.px_event.specs.declared.heard.Heard.{Heard}
use Rattle.px_event.specs.declared.heard.Heard.TheVariants as heard
use Rattle.px_event.specs.declared.side.Door.{Door}
use Rattle.px_event.specs.declared.side.Door.TheVariants.{Proxy, Control}
use Rattle.px_event.specs.declared.step.Step.{Step}
use Rattle.px_event.specs.declared.step.Step.TheVariants as steps
use Rattle.px_event.specs.Layer.{Move, Standing}
use Rattle.px_event.specs.Trace.{Trace}
use Rattle.px_core.specs.declared.news.News.{News}
use Rattle.px_core.specs.declared.news.News.TheVariants as news
use Rattle.px_core.specs.declared.table.Conversations.{Conversations}
use Rattle.px_core.specs.Answers.{Answering, AnswererState}
use Rattle.px_core.specs.Calls.{number_end, addressed}
use Rattle.px_core.specs.Course.{Course}
use Rattle.px_core.specs.Due.{Due, IsServed}
use Rattle.px_core.specs.Held.{IsOf, AllOf}
use Rattle.px_core.specs.declared.router.Router.{Router}
use Rattle.px_core.specs.Router.{found, TableStands, Admits, Routes}
use Rattle.px_core.specs.Run.{begun_by, done_of, Tells, IsTellable, AllTellable, ToldPart, IsOfHeard, TellsOfHeard, KeepsOthers}

-- steps of a conversation are said or noted
tellable_one : (conv : ℕ) (step : Step) → IsOf conv step → IsTellable step
tellable_one conv (steps.Heard moment what) of = of
tellable_one conv (steps.Begun number) of = absurd of
tellable_one conv (steps.Asked number ask) of = tt
tellable_one conv (steps.Answered number ask reply) of = tt
tellable_one conv (steps.Said number what) of = tt
tellable_one conv (steps.Done flow) of = tt

pub all_tellable : (conv : ℕ) (list : List Step) → AllOf conv list → AllTellable list
all_tellable conv [] all = tt
all_tellable conv (step ∷ list) (here, all) = (tellable_one conv step here, all_tellable conv list all)

-- a prefix of a served trace is served
pub served_front : {S : Type 0} (answers : Answering S) (due : Due) (trace rest : Trace) → IsServed answers due (trace ++ rest) → IsServed answers due trace
served_front answers due trace rest served = record {
  within = record { at = λ prefix back e. served.within.at prefix (back ++ rest) (ap (λ l. l ++ rest) e ∙ append_assoc prefix back rest) };
  told = record { at = λ prefix back moment what e. served.told.at prefix (back ++ rest) moment what (ap (λ l. l ++ rest) e ∙ append_assoc prefix (steps.Heard moment what ∷ back) rest) };
  met = record { at = λ prefix back e. served.met.at prefix (back ++ rest) (ap (λ l. l ++ rest) e ∙ append_assoc prefix back rest) };
  turns = record { at = λ prefix back e. served.turns.at prefix (back ++ rest) (ap (λ l. l ++ rest) e ∙ append_assoc prefix back rest) };
  waits = record { at = λ prefix back moment what e. served.waits.at prefix (back ++ rest) moment what (ap (λ l. l ++ rest) e ∙ append_assoc prefix (steps.Heard moment what ∷ back) rest) };
}

module _ {C : Type 0} (standing : Standing C) (awaited : C → Option Ask) (number : C → ℕ) (made_due : C → List Move → List Command) {S : Type 0} (answers : Answering S) where
  pub admitted : (conv moment : ℕ) (conversation : C) (before after : Conversations C) {old new : AnswererState S} (empty given : List Step) → empty ≡ [] →
      Admits standing awaited number made_due answers conv moment conversation before after old new empty given →
      (due : Due) (course : Course S) (trace : Trace) (what : Heard) (peer : Address) → addressed what ≡ Some (conv, news.Begun peer) → ((moves : List Move) → made_due conversation moves ≡ due conv (Some peer) moves) →
      TableStands standing awaited number made_due answers due course old before trace →
      TableStands standing awaited number made_due answers due course new after ((trace ++ steps.Heard moment what ∷ []) ++ given)
  admitted conv moment conversation before after {old} {new} empty given none a due course trace what peer is owes stands =
      let same : a.more ≡ given = sym (a.grown ∙ ap (λ l. l ++ a.more) none) in
      let P : Trace → Type 0 = λ l. TableStands standing awaited number made_due answers due course new after ((trace ++ steps.Heard moment what ∷ []) ++ l) in
      subst P same (a.stands due course trace what peer is owes stands)

  pub admitted_own : (conv moment : ℕ) (conversation : C) (before after : Conversations C) {old new : AnswererState S} (empty given : List Step) → empty ≡ [] →
      Admits standing awaited number made_due answers conv moment conversation before after old new empty given → AllOf conv given
  admitted_own conv moment conversation before after empty given none a =
      let P : Trace → Type 0 = AllOf conv in subst P (sym (a.grown ∙ ap (λ l. l ++ a.more) none)) a.own

  pub routed : (moment : ℕ) (what : Heard) (before after : Conversations C) {old new : AnswererState S} (empty given : List Step) → empty ≡ [] →
      Routes standing awaited number made_due answers moment what before after old new empty given →
      (due : Due) (course : Course S) (trace : Trace) → TableStands standing awaited number made_due answers due course old before trace →
      TableStands standing awaited number made_due answers due course new after ((trace ++ steps.Heard moment what ∷ []) ++ given)
  routed moment what before after {old} {new} empty given none r due course trace stands =
      let P : Trace → Type 0 = λ l. TableStands standing awaited number made_due answers due course new after ((trace ++ steps.Heard moment what ∷ []) ++ l) in
      subst P (sym (r.grown ∙ ap (λ l. l ++ r.more) none)) (r.stands due course trace stands)

  pub routed_tellable : (moment : ℕ) (what : Heard) (before after : Conversations C) {old new : AnswererState S} (empty given : List Step) → empty ≡ [] →
      Routes standing awaited number made_due answers moment what before after old new empty given → AllTellable given
  routed_tellable moment what before after empty given none r = by (addressed what) refl
    where
      same : given ≡ r.more
      same = r.grown ∙ ap (λ l. l ++ r.more) none

      by : (a : Option (ℕ × News)) → addressed what ≡ a → AllTellable given
      by None is = let P : Trace → Type 0 = AllTellable in subst P (sym (same ∙ (r.none is).0)) tt
      by (Some (conv, news)) is = let P : Trace → Type 0 = AllTellable in subst P (sym same) (all_tellable conv r.more (r.own conv news is))

tellable_behind : (prefix : List Step) (x : Step) (rest : List Step) → AllTellable (prefix ++ x ∷ rest) → IsTellable x
tellable_behind [] x rest (here, all) = here
tellable_behind (y ∷ prefix) x rest (here, all) = tellable_behind prefix x rest all

pub tellable_at : (prefix : List Step) (x : Step) (rest list : List Step) → prefix ++ x ∷ rest ≡ list → AllTellable list → IsTellable x
tellable_at prefix x rest list split all = let P : List Step → Type 0 = AllTellable in tellable_behind prefix x rest (subst P (sym split) all)

-- what is left begins with what comes next
pub rest_is : {A : Type 0} (prefix rest next list : List A) → rest ≡ next → prefix ++ rest ≡ list → prefix ++ next ≡ list
rest_is prefix rest next list is split = ap (λ l. prefix ++ l) (sym is) ∙ split

-- it moves from those that are left to those that are done
pub front_next : {A : Type 0} (prefix : List A) (x : A) (rest list : List A) → prefix ++ x ∷ rest ≡ list → (prefix ++ x ∷ []) ++ rest ≡ list
front_next prefix x rest list split = append_assoc prefix (x ∷ []) rest ∙ split

-- some of the steps were told, and the flows that those before finish were handed on
pub told_taken : (now : Option Trace) (list prefix : List Step) (x : Step) (rest : List Step) (trace : Trace) (before after : List Flow) → prefix ++ x ∷ rest ≡ list →
    (now ≡ Some (trace ++ prefix)) ⊎ (now ≡ Some ((trace ++ prefix) ++ x ∷ [])) → after ≡ before ++ flat_map done_of prefix →
    ToldPart list trace now before after
told_taken now list prefix x rest trace before after split (inl told) taken = record {
  given = prefix;
  prefix = (x ∷ rest, sym split);
  is = told;
  taken = flat_map done_of prefix;
  handed = ([], sym (append-nil (flat_map done_of prefix)));
  grown = taken;
}
told_taken now list prefix x rest trace before after split (inr told) taken = record {
  given = prefix ++ x ∷ [];
  prefix = (rest, sym (front_next prefix x rest list split));
  is = told ∙ ap Some (append_assoc trace prefix (x ∷ []));
  taken = flat_map done_of prefix;
  handed = (flat_map done_of (x ∷ []), flat_map-append done_of prefix (x ∷ []));
  grown = taken;
}

pub on_err : {T E P : Type 0} (result : Result T E) → P → OnErr result P
on_err (Ok t) p = tt
on_err (Err e) p = p

pub at_err : {T E P Q : Type 0} (result : Result T E) (all : P → Q) → OnErr result P → OnErr result Q
at_err (Ok t) all p = tt
at_err (Err e) all p = all p

pub on_ok_each : {T E : Type 0} (result : Result T E) {X : Type 0} {A P : X → Type 0} {Q : Type 0} → (((x : X) → A x → P x) → Q) → ((x : X) → A x → OnOk result (P x)) → OnOk result Q
on_ok_each (Ok t) all each = all each
on_ok_each (Err e) all each = tt

pub done_next : (prefix : List Step) (x : Step) → flat_map done_of (prefix ++ x ∷ []) ≡ flat_map done_of prefix ++ done_of x
done_next prefix x = flat_map-append done_of prefix (x ∷ []) ∙ ap (λ l. flat_map done_of prefix ++ l) (append-nil (done_of x))

-- the flows that were finished before, and those that these steps finish
pub taken_all : (trace list : Trace) (now : Option Trace) (before after : List Flow) → before ≡ flat_map done_of trace → now ≡ Some (trace ++ list) → after ≡ before ++ flat_map done_of list →
    Tells (λ told. after ≡ flat_map done_of told) trace now
taken_all trace list now before after same is taken = record {
  more = list;
  is = is;
  holds = taken ∙ (ap (λ l. l ++ flat_map done_of list) same ∙ sym (flat_map-append done_of trace list));
}

pub taken_front : (trace list : Trace) (now : Option Trace) (before after : List Flow) → before ≡ flat_map done_of trace → ToldPart list trace now before after →
    Tells (λ told. IsPrefixOf after (flat_map done_of told)) trace now
taken_front trace list now before after same t = record {
  more = t.given;
  is = t.is;
  holds = (
    t.handed.0,
    flat_map-append done_of trace t.given
        ∙ (ap (λ l. flat_map done_of trace ++ l) t.handed.1
        ∙ (sym (append_assoc (flat_map done_of trace) t.taken t.handed.0)
        ∙ ap (λ l. l ++ t.handed.0) (ap (λ l. l ++ t.taken) (sym same) ∙ sym t.grown))),
  );
}

pub taken_none : (trace : Trace) (now : Option Trace) (taken : List Flow) → taken ≡ flat_map done_of trace → now ≡ Some trace → Tells (λ told. IsPrefixOf taken (flat_map done_of told)) trace now
taken_none trace now taken same is = record {
  more = [];
  is = is ∙ ap Some (sym (append-nil trace));
  holds = ([], ap (flat_map done_of) (append-nil trace) ∙ (sym same ∙ sym (append-nil taken)));
}

pub own_front : (conv : ℕ) (prefix rest : List Step) → AllOf conv (prefix ++ rest) → AllOf conv prefix
own_front conv [] rest all = tt
own_front conv (x ∷ prefix) rest (here, all) = (here, own_front conv prefix rest all)

pub none_front : (prefix rest : List Step) → prefix ++ rest ≡ [] → prefix ≡ []
none_front [] rest e = refl
none_front (x ∷ prefix) rest e = absurd (cc)

-- a prefix of steps of the conversation that was heard
pub front_of_heard : (what : Heard) (prefix list : List Step) → IsPrefixOf prefix list → IsOfHeard what list → IsOfHeard what prefix
front_of_heard what prefix list (rest, whole) of = record {
  own = λ conv news is. let P : List Step → Type 0 = AllOf conv in own_front conv prefix rest (subst P whole (of.own conv news is));
  none = λ no. none_front prefix rest (sym whole ∙ of.none no);
}

same_conv : (p q : ℕ × News) → Some p ≡ Some q → p.0 ≡ q.0
same_conv p q e = let s : p ≡ q = cc in ap (λ (r : ℕ × News). r.0) s

-- a connection by which a conversation begins: whose it is, and where its client is
begun_if : (b : Bool) (number : ℕ) (at : Address) (conv : ℕ) → (if b then Some number else None) ≡ Some conv →
    if◌then◌else◌ {A = Option (ℕ × News)} b (Some (number, news.Begun at)) None ≡ Some (conv, news.Begun at)
begun_if true number at conv e = let s : number ≡ conv = cc in ap (λ n. Some (n, news.Begun at)) s
begun_if false number at conv e = absurd (let no : None ≡ Some conv = e in cc)

pub begun_at : (what : Heard) (conv : ℕ) → begun_by what ≡ Some conv → (peer : Address) × (addressed what ≡ Some (conv, news.Begun peer))
begun_at (heard.Accepted number Proxy at) conv is = (at, begun_if (nat_lt number number_end) number at conv is)
begun_at (heard.Accepted number Control at) conv is = absurd (let no : None ≡ Some conv = is in cc)
begun_at (heard.Piece number side bytes) conv is = absurd (let no : None ≡ Some conv = is in cc)
begun_at (heard.Closed number side) conv is = absurd (let no : None ≡ Some conv = is in cc)
begun_at (heard.Dialled number server ok) conv is = absurd (let no : None ≡ Some conv = is in cc)
begun_at heard.End conv is = absurd (let no : None ≡ Some conv = is in cc)

some_pair : (p q : ℕ × News) → Some p ≡ Some q → p ≡ q
some_pair p q e = cc

same_peer : (a b : Address) → news.Begun a ≡ news.Begun b → a ≡ b
same_peer a b e = cc

at_if : (b : Bool) (number : ℕ) (at : Address) (conv : ℕ) (peer : Address) → if◌then◌else◌ {A = Option (ℕ × News)} b (Some (number, news.Begun at)) None ≡ Some (conv, news.Begun peer) →
    peer ≡ at
at_if true number at conv peer e = same_peer peer at (sym (ap (λ (r : ℕ × News). r.1) (some_pair (number, news.Begun at) (conv, news.Begun peer) e)))
at_if false number at conv peer e = absurd (let no : None ≡ Some (conv, news.Begun peer) = e in cc)

pub peer_is : (number : ℕ) (door : Door) (at : Address) (conv : ℕ) (peer : Address) → addressed (heard.Accepted number door at) ≡ Some (conv, news.Begun peer) → peer ≡ at
peer_is number Proxy at conv peer is = at_if (nat_lt number number_end) number at conv peer is
peer_is number Control at conv peer is = absurd (let no : None ≡ Some (conv, news.Begun peer) = is in cc)

-- steps of the conversation that began
pub begun_of_heard : (what : Heard) (conv : ℕ) (peer : Address) (list : List Step) → addressed what ≡ Some (conv, news.Begun peer) → AllOf conv list → IsOfHeard what list
begun_of_heard what conv peer list is own = record {
  own = λ other news' some. let P : ℕ → Type 0 = λ k. AllOf k list in subst P (same_conv (conv, news.Begun peer) (other, news') (sym is ∙ some)) own;
  none = λ no. absurd (let wrong : Some (conv, news.Begun peer) ≡ None = sym is ∙ no in cc);
}

pub begun_keeps : {C A : Type 0} (what : Heard) (conv : ℕ) (peer : Address) (before after : Router C A) → addressed what ≡ Some (conv, news.Begun peer) →
    ((other : ℕ) → conv ≢ other → found after.table other ≡ found before.table other) → KeepsOthers what before after
begun_keeps what conv peer before after is kept = record {
  others = λ first other news' some apart. kept other (λ same. apart (sym (same_conv (conv, news.Begun peer) (first, news') (sym is ∙ some)) ∙ same));
  none = λ no. absurd (let wrong : Some (conv, news.Begun peer) ≡ None = sym is ∙ no in cc);
}

pub begun_keeps_by : {C A T E : Type 0} (result : Result T E) (what : Heard) (conv : ℕ) (peer : Address) (before after : Router C A) → addressed what ≡ Some (conv, news.Begun peer) →
    ((other : ℕ) → conv ≢ other → OnOk result (found after.table other ≡ found before.table other)) → OnOk result (KeepsOthers what before after)
begun_keeps_by (Ok t) what conv peer before after is kept = begun_keeps what conv peer before after is kept
begun_keeps_by (Err e) what conv peer before after is kept = tt

module _ {C : Type 0} (standing : Standing C) (awaited : C → Option Ask) (number : C → ℕ) (made_due : C → List Move → List Command) {S : Type 0} (answers : Answering S) where
  pub routed_of_heard : (moment : ℕ) (what : Heard) (before after : Conversations C) {old new : AnswererState S} (empty given : List Step) → empty ≡ [] →
      Routes standing awaited number made_due answers moment what before after old new empty given → IsOfHeard what given
  routed_of_heard moment what before after empty given none r =
      let same : r.more ≡ given = sym (r.grown ∙ ap (λ l. l ++ r.more) none) in
      record {
        own = λ conv news is. let P : List Step → Type 0 = AllOf conv in subst P same (r.own conv news is);
        none = λ no. sym same ∙ (r.none no).0;
      }

  pub routed_keeps : {A : Type 0} (moment : ℕ) (what : Heard) (before after : Router C A) {old new : AnswererState S} (out new_out : List Step) →
      Routes standing awaited number made_due answers moment what before.table after.table old new out new_out → KeepsOthers what before after
  routed_keeps moment what before after out new_out r = record {
    others = r.others;
    none = λ no. (r.none no).1;
  }

-- no step was told
pub tells_none : (what : Heard) (trace : Trace) (now : Option Trace) → now ≡ Some trace → TellsOfHeard what trace now
tells_none what trace now is = record {
  more = [];
  is = is ∙ ap Some (sym (append-nil trace));
  own = record { own = λ conv news some. tt; none = λ no. refl };
}

-- all were told, or a prefix of them
pub tells_by : {T E : Type 0} (result : Result T E) (what : Heard) (trace list : Trace) (now : Option Trace) (before after : List Flow) → IsOfHeard what list →
    OnOk result (now ≡ Some (trace ++ list)) → OnErr result (ToldPart list trace now before after) → TellsOfHeard what trace now
tells_by (Ok t) what trace list now before after of all part = record { more = list; is = all; own = of }
tells_by (Err e) what trace list now before after of all part = record { more = part.given; is = part.is; own = front_of_heard what part.given list part.prefix of }
