-- The records of a WebSocket's flow are those of the messages that were answered, step by step.
use Rattle.std.proofs.Common.{◌≡◌, ◌∙◌, ℕ, ◌+◌, ◌<◌, nat_lt, if◌then◌else◌, Bool, true, false, List, [], ◌∷◌, ◌++◌, append-nil, append_assoc, length, length-append, map, unwrap_or, Option, Some, None, refl, sym, ap, ap₂, subst, arith}
use Rattle.std.specs.Prelude.{⊤}
use Rattle.std.specs.List.{flat_map}
use Rattle.std.proofs.lemmas.Bool.{le-ltb, lt-ltb}
use Rattle.std.proofs.lemmas.Grind.{flat_map-append}
use Rattle.std.proofs.lemmas.List.{length-map, map-append}
use Rattle.px_message.specs.declared.flow.Flow.{Flow}
use Rattle.px_message.specs.declared.flow.WsMessage.{WsMessage}
use Rattle.px_message.specs.declared.messages.WsRecord.{WsRecord}
use Rattle.px_event.specs.declared.command.Command.{Command}
use Rattle.px_event.specs.declared.command.Command.TheVariants as commands
use Rattle.px_event.specs.declared.event.Event.{Event}
use Rattle.px_event.specs.declared.event.Event.TheVariants as events
use Rattle.px_event.specs.declared.event.Rests.{Rests}
use Rattle.px_event.specs.declared.reply.Reply.{Reply}
use Rattle.px_event.specs.declared.reply.Reply.TheVariants as replies
use Rattle.px_event.specs.Chain.{Asks, Chain, Ends, NotYet, Reached, Stamp, Stamped, Stop, Timed, found, never, owed_at, reach, reach_by, stop_at, worked_off}
use Rattle.px_event.specs.Laws.{IsFound}
use Rattle.px_event.specs.Layer.{Move, Replied, Took, asks_in}
use Rattle.px_event.specs.Stands.{stop_of}
use Rattle.px_event.proofs.Moves.{AllBelow}
use Rattle.px_event.proofs.Steps.{next_behind, next_event, next_reply}
use Rattle.px_event.proofs.Stops.{behind}
use Rattle.px_relay.specs.declared.peer.Peer.{Peer}
use Rattle.px_relay.specs.Chain.{ends, first_at, killed, look, message_ask, own_chain, pass, terms_at, turn, turn_by, with_message}
use Rattle.px_relay.specs.Laws.{settles}
use Rattle.px_relay.specs.Messages.{Message, Verdict, drops, kept_of, kills, payload_by, sends, verdict}
use Rattle.px_relay.specs.Peers.{is_client}
use Rattle.px_relay.specs.Records.{IsCourse, KeepsRecords, answers, asked_in, asked_of, as_read, begins, done_in, due_of, flows_asked, flows_done, hears, moment_by, moment_of, moments_behind, moments_of, record_in, record_of, records_of, replies_of, reply_in}
use Rattle.px_relay.specs.Sending.{Terms}
use Rattle.px_relay.specs.Sights.{Come, Sight, come_by, come_over, first_come, seen_over}
use Rattle.px_relay.specs.Stages.{At, Stage, holding, moment_at, over, relaying}
use Rattle.px_relay.proofs.AskLemmas.{NoAsks, ends_none, pass_none}
use Rattle.px_relay.proofs.OwedLemmas.{AreOwed, StageKeeps, both_keep, ends_owed}
use Rattle.px_relay.proofs.StandLemmas.{come_append}

-- ---- a message that was answered

pub record Answered : Type 0 where
  pub flow : Flow
  pub moment : ℕ
  pub reply : Reply

abbrev kept_in : Answered → List WsRecord
kept_in it = record_in it.flow.message it.moment it.reply

abbrev kept_all : List Answered → List WsRecord
kept_all done = flat_map kept_in done

abbrev flows_in : List Answered → List Flow
flows_in done = map (λ (it : Answered). it.flow) done

abbrev moments_in : List Answered → List ℕ
moments_in done = map (λ (it : Answered). it.moment) done

abbrev replies_in : List Answered → List Reply
replies_in done = map (λ (it : Answered). it.reply) done

-- whatever moments and replies follow
records_are : (done : List Answered) (moments : List ℕ) (more : List Reply) → records_of (flows_in done) (moments_in done ++ moments) (replies_in done ++ more) ≡ kept_all done
records_are [] moments more = refl
records_are (it ∷ done) moments more = ap (λ (l : List WsRecord). kept_in it ++ l) (records_are done moments more)

-- each was asked about with the records of those before it
abbrev EachHas : List WsRecord → List Answered → Type 0
EachHas before [] = ⊤
EachHas before (it ∷ done) = (it.flow.messages ≡ before) × EachHas (before ++ kept_in it) done

each_more : (before : List WsRecord) (done : List Answered) (it : Answered) → EachHas before done → it.flow.messages ≡ before ++ kept_all done → EachHas before (done ++ it ∷ [])
each_more before [] it each is = (is ∙ append-nil before, tt)
each_more before (first ∷ done) it (here, each) is = (here, each_more (before ++ kept_in first) done it each (is ∙ sym (append_assoc before (kept_in first) (kept_all done))))

-- of a list of flows that begins with these, this one stands behind so many
record StandsBehind (done : List Answered) (before : List Flow) (records : List WsRecord) (flow : Flow) : Type 0 where
  first : List Answered
  rest : List Answered
  is : done ≡ first ++ rest
  flows : flows_in first ≡ before
  has : flow.messages ≡ records ++ kept_all first

same_head : {A : Type 0} {x y : A} {xs ys : List A} → x ∷ xs ≡ y ∷ ys → x ≡ y
same_head is = cc

same_tail : {A : Type 0} {x y : A} {xs ys : List A} → x ∷ xs ≡ y ∷ ys → xs ≡ ys
same_tail is = cc

-- one of those that were answered, or the one behind them that is asked about
stands_behind : (records : List WsRecord) (done : List Answered) (asked : List Flow) (before after : List Flow) (flow : Flow) → EachHas records done →
    ((f : Flow) (rest : List Flow) → asked ≡ f ∷ rest → (f.messages ≡ records ++ kept_all done) × (rest ≡ [])) → flows_in done ++ asked ≡ before ++ flow ∷ after →
    StandsBehind done before records flow
stands_behind records [] asked [] after flow each last is =
    record { first = []; rest = []; is = refl; flows = refl; has = (last flow after is).0 }
stands_behind records [] asked (f ∷ before) after flow each last is =
    absurd (no_more before after flow (sym (last f (before ++ flow ∷ after) is).1))
  where
    no_more : (before after : List Flow) (flow : Flow) → [] ≡ before ++ flow ∷ after → ⊥
    no_more [] after flow is = cc
    no_more (f ∷ before) after flow is = cc
stands_behind records (it ∷ done) asked [] after flow (here, each) last is = record {
  first = [];
  rest = it ∷ done;
  is = refl;
  flows = refl;
  has = ap (λ (f : Flow). f.messages) (sym (same_head is)) ∙ (here ∙ sym (append-nil records));
}
stands_behind records (it ∷ done) asked (f ∷ before) after flow (here, each) last is =
    let on = stands_behind (records ++ kept_in it) done asked before after flow each
    (λ g rest same. let l = last g rest same in (l.0 ∙ sym (append_assoc records (kept_in it) (kept_all done)), l.1)) (same_tail is) in
    record {
      first = it ∷ on.first;
      rest = on.rest;
      is = ap (λ (l : List Answered). it ∷ l) on.is;
      flows = ap₂ (λ (g : Flow) (l : List Flow). g ∷ l) (same_head is) on.flows;
      has = on.has ∙ append_assoc records (kept_in it) (kept_all on.first);
    }

-- ---- what is kept of it

kept_same : (from : Peer) (message : Message) (moment : ℕ) (reply : Reply) →
    kept_of (is_client from) message moment (verdict message reply)
    ≡ record_of (record { from_client = is_client from; text = message.text; payload = message.payload }) moment reply
kept_same from message moment (replies.Go flow stream) = by flow.message
  where
    by : (changed : Option WsMessage) → kept_of (is_client from) message moment (sends (payload_by message changed))
        ≡ (record {
          from_client = is_client from;
          text = message.text;
          payload = payload_by (as_read (record { from_client = is_client from; text = message.text; payload = message.payload })) changed;
          moment = moment;
          dropped = false;
        } ∷ [])
    by None = refl
    by (Some changed) = refl
kept_same from message moment (replies.Respond response) = refl
kept_same from message moment replies.Discard = refl
kept_same from message moment replies.Kill = refl
kept_same from message moment replies.Dialled = refl
kept_same from message moment (replies.Refused fault) = refl

-- ---- nothing is asked, and nothing finished

asked_none : (owed : List Command) → NoAsks owed → flows_asked owed ≡ []
asked_none [] none = refl
asked_none (commands.Send side text ∷ owed) none = asked_none owed none
asked_none (commands.Close side ∷ owed) none = asked_none owed none
asked_none (commands.Dial server address inside ∷ owed) none = absurd (let no : _ ∷ _ ≡ [] = none in cc)
asked_none (commands.Ask ask flow ∷ owed) none = absurd (let no : ask ∷ flat_map asks_in owed ≡ [] = none in cc)
asked_none (commands.Done flow ∷ owed) none = asked_none owed none

-- all of these flows have these messages
abbrev AllHave : List WsRecord → List Flow → Type 0
AllHave records [] = ⊤
AllHave records (flow ∷ flows) = (flow.messages ≡ records) × AllHave records flows

done_all : (records : List WsRecord) (owed : List Command) → AreOwed over records owed → AllHave records (flows_done owed)
done_all records [] is = tt
done_all records (commands.Send side text ∷ owed) (here, is) = done_all records owed is
done_all records (commands.Close side ∷ owed) (here, is) = done_all records owed is
done_all records (commands.Dial server address inside ∷ owed) (here, is) = done_all records owed is
done_all records (commands.Ask ask flow ∷ owed) (here, is) = done_all records owed is
done_all records (commands.Done flow ∷ owed) (here, is) = (here, done_all records owed is)

-- a stage that is no end
abbrev GoesOn : Stage → Type 0
GoesOn over = ⊥
GoesOn stage = ⊤

done_none : (to : Stage) (records : List WsRecord) (owed : List Command) → GoesOn to → AreOwed to records owed → flows_done owed ≡ []
done_none to records [] on is = refl
done_none to records (commands.Send side text ∷ owed) on (here, is) = done_none to records owed on is
done_none to records (commands.Close side ∷ owed) on (here, is) = done_none to records owed on is
done_none to records (commands.Dial server address inside ∷ owed) on (here, is) = done_none to records owed on is
done_none to records (commands.Ask ask flow ∷ owed) on (here, is) = done_none to records owed on is
done_none (relaying at) records (commands.Done flow ∷ owed) on (here, is) = absurd here
done_none (holding from message at) records (commands.Done flow ∷ owed) on (here, is) = absurd here
done_none over records (commands.Done flow ∷ owed) on (here, is) = absurd on

all_have : (records : List WsRecord) (before after : List Flow) (flow : Flow) (flows : List Flow) → flows ≡ before ++ flow ∷ after → AllHave records flows → flow.messages ≡ records
all_have records [] after flow [] is have = absurd (let no : [] ≡ flow ∷ after = is in cc)
all_have records (f ∷ before) after flow [] is have = absurd (let no : [] ≡ f ∷ (before ++ flow ∷ after) = is in cc)
all_have records [] after flow (g ∷ flows) is (here, have) = ap (λ (f : Flow). f.messages) (sym (same_head is)) ∙ here
all_have records (f ∷ before) after flow (g ∷ flows) is (here, have) = all_have records before after flow flows (same_tail is) have

-- ---- the moment

now_by : (server : ℕ) (come : Come) (moment : ℕ) (event : Event) → (come_by server come moment event).seen.now ≡ moment
now_by server come moment events.Begun = refl
now_by server come moment (events.Piece side bytes) = refl
now_by server come moment (events.Closed side) = refl
now_by server come moment (events.Answered ask reply) = refl

module _ (terms : Terms) (rests : Rests) where
  abbrev its_chain : Chain Stage Event Reply Command
  its_chain = own_chain terms rests

  abbrev seen : List (Timed Event) → Sight
  seen prefix = seen_over terms.server rests prefix

  now_is : (prefix : List (Timed Event)) (e : Timed Event) → (seen (prefix ++ e ∷ [])).now ≡ e.moment
  now_is prefix e =
      ap (λ (c : Come). c.seen.now) (come_append terms.server (first_come rests) prefix e)
      ∙ now_by terms.server (come_over terms.server (first_come rests) prefix) e.moment e.value

  fresh_moment : (at : At) (prefix : List (Timed Event)) (e : Timed Event) → at.since ≡ None → moment_at at (seen (prefix ++ e ∷ [])) ≡ e.moment
  fresh_moment at prefix e is = ap (λ (s : Option ℕ). unwrap_or s (seen (prefix ++ e ∷ [])).now) is ∙ now_is prefix e

  -- ---- where a walk comes to, from a place with these records, at this moment

  abbrev Comes : List WsRecord → ℕ → Stage → List (Timed Event) → Type 0
  Comes records moment (relaying at) prefix = (at.records ≡ records) × (at.since ≡ None)
  Comes records moment (holding from message at) prefix = (at.records ≡ records) × (moment_at at (seen prefix) ≡ moment)
  Comes records moment over prefix = ⊤

  abbrev Finishes : List WsRecord → Stage → List Command → Type 0
  Finishes records over owed = AllHave records (flows_done owed)
  Finishes records stage owed = flows_done owed ≡ []

  pub record Passes (records : List WsRecord) (moment : ℕ) (stage : Stage) (prefix : List (Timed Event)) (owed : List Command) : Type 0 where
    pub comes : Comes records moment stage prefix
    pub asked : flows_asked owed ≡ []
    pub finishes : Finishes records stage owed

  passes_by : (at : At) (records : List WsRecord) (moment : ℕ) (prefix : List (Timed Event)) (stage : Stage) (owed : List Command) → at.records ≡ records →
      moment_at at (seen prefix) ≡ moment → StageKeeps at stage → AreOwed stage records owed → flows_asked owed ≡ [] → Passes records moment stage prefix owed
  passes_by at records moment prefix (relaying next) owed same is keeps owes none =
      record { comes = (keeps.0 ∙ same, keeps.1); asked = none; finishes = done_none (relaying next) records owed tt owes }
  passes_by at records moment prefix (holding from message next) owed same is keeps owes none =
      record {
        comes = (keeps.0 ∙ same, ap (λ (s : Option ℕ). unwrap_or s (seen prefix).now) keeps.1 ∙ is);
        asked = none;
        finishes = done_none (holding from message next) records owed tt owes;
      }
  passes_by at records moment prefix over owed same is keeps owes none = record { comes = tt; asked = none; finishes = done_all records owed owes }

  passes : (at : At) (records : List WsRecord) (moment : ℕ) (prefix : List (Timed Event)) → at.records ≡ records → moment_at at (seen prefix) ≡ moment →
      let turn = pass terms (relaying at) (seen prefix) in Passes records moment turn.stage prefix turn.owed
  passes at records moment prefix same is =
      let turn = pass terms (relaying at) (seen prefix) in
      let keeps = both_keep (terms_at terms at) (seen prefix) records same at in
      passes_by at records moment prefix turn.stage turn.owed same is keeps.stage keeps.owed (asked_none turn.owed (pass_none terms (relaying at) (seen prefix)))

  -- ---- behind a reply, through the events that waited for it

  pub record Reaches (records : List WsRecord) (last : Stamp) (before : List Command) (here : Reached Stage Event Command) : Type 0 where
    pub comes : Comes records last.moment here.stage here.prefix
    pub asked : flows_asked here.before ≡ flows_asked before
    pub finishes : Finishes records here.stage here.before
    pub below : AllBelow last.step here.rest

  -- an event of a step before is worked off at the moment of the reply
  waited : (last : Stamp) (e : Stamped Event) → e.stamp.step < last.step → (worked_off last e).moment ≡ last.moment
  waited last e less = let is : nat_lt last.step e.stamp.step ≡ false = le-ltb last.step e.stamp.step (omega arith) in rw is refl

  asked_both : (before owed : List Command) → flows_asked owed ≡ [] → flows_asked (before ++ owed) ≡ flows_asked before
  asked_both before owed none = flat_map-append asked_in before owed ∙ (ap (λ (l : List Flow). flows_asked before ++ l) none ∙ append-nil (flows_asked before))

  done_both : (before owed : List Command) → flows_done before ≡ [] → flows_done (before ++ owed) ≡ flows_done owed
  done_both before owed none = flat_map-append done_in before owed ∙ ap (λ (l : List Flow). l ++ flows_done owed) none

  finishes_both : (records : List WsRecord) (stage : Stage) (before owed : List Command) → flows_done before ≡ [] → Finishes records stage owed →
      Finishes records stage (before ++ owed)
  finishes_both records (relaying at) before owed none is = done_both before owed none ∙ is
  finishes_both records (holding from message at) before owed none is = done_both before owed none ∙ is
  finishes_both records over before owed none is = subst (AllHave records) (sym (done_both before owed none)) is

  reaches_by : (last : Stamp) (records : List WsRecord) (before : List Command) (prefix : List (Timed Event)) (e : Stamped Event) (es : List (Stamped Event))
      (stage : Stage) (owed : List Command) → flows_done before ≡ [] → AllBelow last.step (e ∷ es) → Passes records last.moment stage prefix owed →
      ((next : At) → next.records ≡ records → next.since ≡ None → flows_done (before ++ owed) ≡ [] →
      Reaches records last (before ++ owed) (reach its_chain last (before ++ owed) (relaying next) (prefix ++ worked_off last e ∷ []) es)) →
      Reaches records last before (reach_by (look terms stage) (reach its_chain last (before ++ owed) stage (prefix ++ worked_off last e ∷ []) es)
      (record { before = before ++ owed; stage = stage; prefix = prefix; rest = e ∷ es }))
  reaches_by last records before prefix e es (relaying next) owed none below p again =
      let on = again next p.comes.0 p.comes.1 (done_both before owed none ∙ p.finishes) in
      record { comes = on.comes; asked = on.asked ∙ asked_both before owed p.asked; finishes = on.finishes; below = on.below }
  reaches_by last records before prefix e es (holding from message next) owed none below p again = record {
    comes = p.comes;
    asked = asked_both before owed p.asked;
    finishes = finishes_both records (holding from message next) before owed none p.finishes;
    below = below;
  }
  reaches_by last records before prefix e es over owed none below p again =
      record { comes = tt; asked = asked_both before owed p.asked; finishes = finishes_both records over before owed none p.finishes; below = below }

  reaches : (last : Stamp) (records : List WsRecord) (before : List Command) (at : At) (prefix : List (Timed Event)) (rest : List (Stamped Event)) → at.records ≡ records →
      moment_at at (seen prefix) ≡ last.moment → flows_done before ≡ [] → AllBelow last.step rest →
      Reaches records last before (reach its_chain last before (relaying at) prefix rest)
  reaches last records before at prefix [] same is none below =
      let turn = pass terms (relaying at) (seen prefix) in
      let p = passes at records last.moment prefix same is in
      record {
        comes = p.comes;
        asked = asked_both before turn.owed p.asked;
        finishes = finishes_both records turn.stage before turn.owed none p.finishes;
        below = tt;
      }
  reaches last records before at prefix (e ∷ es) same is none below =
      let turn = pass terms (relaying at) (seen prefix) in
      reaches_by last records before prefix e es turn.stage turn.owed none below (passes at records last.moment prefix same is)
      (λ next kept rests_there done.
      reaches last records (before ++ turn.owed) next (prefix ++ worked_off last e ∷ []) es kept
      (fresh_moment next prefix (worked_off last e) rests_there ∙ waited last e below.0) done below.1)

  -- where it has ended nothing follows
  record StaysOver (last : Stamp) (before : List Command) (here : Reached Stage Event Command) : Type 0 where
    stage : here.stage ≡ over
    before_is : here.before ≡ before
    below : AllBelow last.step here.rest

  stays_over : (last : Stamp) (before : List Command) (prefix : List (Timed Event)) (rest : List (Stamped Event)) → AllBelow last.step rest →
      StaysOver last before (reach its_chain last before over prefix rest)
  stays_over last before prefix [] below = record { stage = refl; before_is = append-nil before; below = tt }
  stays_over last before prefix (e ∷ es) below = record { stage = refl; before_is = append-nil before; below = below }

  -- ---- all moves

  abbrev asked_here : Stage → List Flow
  asked_here (holding from message at) = with_message (terms_at terms at).flow from message ∷ []
  asked_here stage = []

  -- where the walk stopped, by these that were answered
  abbrev Stands : List Move → List Answered → List Command → Stage → List (Timed Event) → Type 0
  Stands moves done before (relaying at) prefix =
      (at.records ≡ kept_all done) × (at.since ≡ None) × (moments_of terms rests moves ≡ moments_in done) × (flows_done before ≡ [])
  Stands moves done before (holding from message at) prefix =
      (at.records ≡ kept_all done) × (moments_of terms rests moves ≡ moments_in done ++ moment_at at (seen prefix) ∷ []) × (flows_done before ≡ [])
  Stands moves done before over prefix = (moments_of terms rests moves ≡ moments_in done) × AllHave (kept_all done) (flows_done before)

  record Holds (moves : List Move) (done : List Answered) (before : List Command) (stage : Stage) (prefix : List (Timed Event)) (rest : List (Stamped Event)) : Type 0 where
    replied : replies_of moves ≡ replies_in done
    each : EachHas [] done
    below : AllBelow (1 + length moves) rest
    asked : flows_asked before ≡ flows_in done
    stands : Stands moves done before stage prefix

  abbrev start : Stage
  start = relaying first_at

  abbrev stopped : Stamp → List Command → Stage → List (Timed Event) → List (Stamped Event) → Stop Stage Event Reply Command
  stopped last before stage prefix rest = record { last = last; before = before; stage = stage; prefix = prefix; rest = rest; unused = [] }

  record Follows (moves : List Move) : Type 0 where
    done : List Answered
    last : Stamp
    before : List Command
    stage : Stage
    prefix : List (Timed Event)
    rest : List (Stamped Event)
    is : stop_of its_chain start moves ≡ stopped last before stage prefix rest
    holds : Holds moves done before stage prefix rest

  asked_found : (stage : Stage) → flows_asked (found (look terms stage)) ≡ asked_here stage
  asked_found (relaying at) = refl
  asked_found (holding from message at) = refl
  asked_found over = refl

  done_found : (stage : Stage) → flows_done (found (look terms stage)) ≡ []
  done_found (relaying at) = refl
  done_found (holding from message at) = refl
  done_found over = refl

  asked_are : (moves : List Move) (last : Stamp) (before : List Command) (stage : Stage) (prefix : List (Timed Event)) (rest : List (Stamped Event)) (flows : List Flow) →
      stop_of its_chain start moves ≡ stopped last before stage prefix rest → flows_asked before ≡ flows → asked_of terms rests moves ≡ flows ++ asked_here stage
  asked_are moves last before stage prefix rest flows is same =
      ap (λ (w : Stop Stage Event Reply Command). flows_asked (owed_at its_chain w)) is
      ∙ (flat_map-append asked_in before (found (look terms stage)) ∙ ap₂ (λ (a b : List Flow). a ++ b) same (asked_found stage))

  done_are : (moves : List Move) (last : Stamp) (before : List Command) (stage : Stage) (prefix : List (Timed Event)) (rest : List (Stamped Event)) →
      stop_of its_chain start moves ≡ stopped last before stage prefix rest → flows_done (due_of terms rests moves) ≡ flows_done before
  done_are moves last before stage prefix rest is =
      ap (λ (w : Stop Stage Event Reply Command). flows_done (owed_at its_chain w)) is
      ∙ (flat_map-append done_in before (found (look terms stage)) ∙ (ap (λ (l : List Flow). flows_done before ++ l) (done_found stage) ∙ append-nil (flows_done before)))

  -- ---- the moments

  moments_more : (before moves : List Move) (move : Move) →
      moments_behind terms rests before (moves ++ move ∷ []) ≡ moments_behind terms rests before moves ++ moment_by terms rests (before ++ moves) move
  moments_more before [] move = append-nil (moment_by terms rests before move) ∙ ap (λ (l : List Move). moment_by terms rests l move) (sym (append-nil before))
  moments_more before (first ∷ moves) move =
      ap (λ (l : List ℕ). moment_by terms rests before first ++ l)
      (moments_more (before ++ first ∷ []) moves move
      ∙ ap (λ (l : List Move). moments_behind terms rests (before ++ first ∷ []) moves ++ moment_by terms rests l move) (append_assoc before (first ∷ []) moves))
      ∙ sym (append_assoc (moment_by terms rests before first) (moments_behind terms rests (before ++ first ∷ []) moves) (moment_by terms rests (before ++ first ∷ moves) move))

  module _ (moves : List Move) (move : Move) (moments : List ℕ) (old new : List Flow) (had : moments_of terms rests moves ≡ moments)
      (was : asked_of terms rests moves ≡ old) (now : asked_of terms rests (moves ++ move ∷ []) ≡ new) where
    counted : nat_lt (length (asked_of terms rests moves)) (length (asked_of terms rests (moves ++ move ∷ []))) ≡ nat_lt (length old) (length new)
    counted = ap₂ (λ (a b : List Flow). nat_lt (length a) (length b)) was now

    -- nothing more is asked about
    moments_stay : length new ≡ length old → moments_of terms rests (moves ++ move ∷ []) ≡ moments
    moments_stay same =
        let none : nat_lt (length old) (length new) ≡ false = le-ltb (length old) (length new) (omega arith) in
        moments_more [] moves move
        ∙ (ap (λ (b : Bool). moments_of terms rests moves ++ (if b then moment_of move ∷ [] else [])) (counted ∙ none) ∙ (append-nil (moments_of terms rests moves) ∙ had))

    -- one more is
    moments_grow : length new ≡ length old + 1 → moments_of terms rests (moves ++ move ∷ []) ≡ moments ++ moment_of move ∷ []
    moments_grow same =
        let more : nat_lt (length old) (length new) ≡ true = lt-ltb (length old) (length new) (omega arith) in
        moments_more [] moves move
        ∙ (ap (λ (b : Bool). moments_of terms rests moves ++ (if b then moment_of move ∷ [] else [])) (counted ∙ more) ∙ ap (λ (l : List ℕ). l ++ moment_of move ∷ []) had)

  below_more : (step : ℕ) (es : List (Stamped Event)) → AllBelow step es → AllBelow (step + 1) es
  below_more step [] below = tt
  below_more step (e ∷ es) (here, below) = (omega arith, below_more step es below)

  below_end : (step : ℕ) (es : List (Stamped Event)) (e : Stamped Event) → AllBelow step es → e.stamp.step < step → AllBelow step (es ++ e ∷ [])
  below_end step [] e below less = (less, tt)
  below_end step (first ∷ es) e (here, below) less = (here, below_end step es e below less)

  longer : (moves : List Move) (move : Move) → 1 + length (moves ++ move ∷ []) ≡ (1 + length moves) + 1
  longer moves move = let l = length-append moves (move ∷ []) in omega arith

  still_below : (moves : List Move) (move : Move) (es : List (Stamped Event)) → AllBelow (1 + length moves) es → AllBelow (1 + length (moves ++ move ∷ [])) es
  still_below moves move es below = subst (λ (n : ℕ). AllBelow n es) (sym (longer moves move)) (below_more (1 + length moves) es below)

  no_reply : (moves : List Move) (done : List Answered) (moment : ℕ) (event : Event) → replies_of moves ≡ replies_in done →
      replies_of (moves ++ Took moment event ∷ []) ≡ replies_in done
  no_reply moves done moment event is = flat_map-append reply_in moves (Took moment event ∷ []) ∙ (append-nil (replies_of moves) ∙ is)

  -- ---- an event

  module _ (moves : List Move) (moment : ℕ) (event : Event) where
    abbrev took : List Move
    took = moves ++ Took moment event ∷ []

    abbrev e : Timed Event
    e = record { moment = moment; value = event }

    abbrev stamped : Stamped Event
    stamped = record { stamp = record { step = 1 + length moves; moment = moment }; value = event }

    -- where nothing was asked
    event_stands : (done : List Answered) (before owed : List Command) (prefix : List (Timed Event)) (stage : Stage) → moments_of terms rests moves ≡ moments_in done →
        asked_of terms rests moves ≡ flows_in done → asked_of terms rests took ≡ flows_in done ++ asked_here stage → flows_done before ≡ [] →
        Passes (kept_all done) moment stage prefix owed → Stands took done (before ++ owed) stage prefix
    event_stands done before owed prefix (relaying at) had was now none p = (
      p.comes.0,
      p.comes.1,
      moments_stay moves (Took moment event) (moments_in done) (flows_in done) (flows_in done ++ []) had was now (ap length (append-nil (flows_in done))),
      done_both before owed none ∙ p.finishes,
    )
    event_stands done before owed prefix (holding from message at) had was now none p = (
      p.comes.0,
      moments_grow moves (Took moment event) (moments_in done) (flows_in done) (flows_in done ++ asked_here (holding from message at)) had was now
          (length-append (flows_in done) (asked_here (holding from message at)))
          ∙ ap (λ (n : ℕ). moments_in done ++ n ∷ []) (sym p.comes.1),
      done_both before owed none ∙ p.finishes,
    )
    event_stands done before owed prefix over had was now none p = (
      moments_stay moves (Took moment event) (moments_in done) (flows_in done) (flows_in done ++ []) had was now (ap length (append-nil (flows_in done))),
      finishes_both (kept_all done) over before owed none p.finishes,
    )

    hears_at : (done : List Answered) (last : Stamp) (before : List Command) (at : At) (prefix : List (Timed Event)) (rest : List (Stamped Event)) →
        stop_of its_chain start moves ≡ stopped last before (relaying at) prefix rest → Holds moves done before (relaying at) prefix rest → Follows took
    hears_at done last before at prefix rest is holds =
        let longer_prefix = prefix ++ e ∷ [] in
        let turn = pass terms (relaying at) (seen longer_prefix) in
        let stands = holds.stands in
        let p = passes at (kept_all done) moment longer_prefix stands.0 (fresh_moment at prefix e stands.1) in
        let now : stop_of its_chain start took ≡ stopped last (before ++ turn.owed) turn.stage longer_prefix [] =
        next_event its_chain (settles terms seen) start (λ (s : ⊤) (stage : Stage) (f : List (Timed Event)). ⊤) moves moment event
        (ap (λ (w : Stop Stage Event Reply Command). w.unused) is) (ap (λ (w : Stop Stage Event Reply Command). look terms w.stage) is)
        ∙ ap (λ (w : Stop Stage Event Reply Command).
        stopped w.last (w.before ++ (pass terms w.stage (seen (w.prefix ++ e ∷ []))).owed) (pass terms w.stage (seen (w.prefix ++ e ∷ []))).stage (w.prefix ++ e ∷ []) []) is in
        let asked : flows_asked (before ++ turn.owed) ≡ flows_in done = asked_both before turn.owed p.asked ∙ holds.asked in
        record {
          done = done;
          last = last;
          before = before ++ turn.owed;
          stage = turn.stage;
          prefix = longer_prefix;
          rest = [];
          is = now;
          holds = record {
            replied = no_reply moves done moment event holds.replied;
            each = holds.each;
            below = tt;
            asked = asked;
            stands = event_stands done before turn.owed longer_prefix turn.stage stands.2
                (asked_are moves last before (relaying at) prefix rest (flows_in done) is holds.asked ∙ append-nil (flows_in done))
                (asked_are took last (before ++ turn.owed) turn.stage longer_prefix [] (flows_in done) now asked) stands.3 p;
          };
        }

    -- where something was, or it has ended
    waits_stand : (done : List Answered) (before : List Command) (prefix : List (Timed Event)) (stage : Stage) → asked_of terms rests moves ≡ flows_in done ++ asked_here stage →
        asked_of terms rests took ≡ flows_in done ++ asked_here stage → (look terms stage ≡ NotYet → ⊥) → Stands moves done before stage prefix → Stands took done before stage prefix
    waits_stand done before prefix (relaying at) was now found stands = absurd (found refl)
    waits_stand done before prefix (holding from message at) was now found stands =
        (stands.0, moments_stay moves (Took moment event) _ _ _ stands.1 was now refl, stands.2)
    waits_stand done before prefix over was now found stands = (moments_stay moves (Took moment event) _ _ _ stands.0 was now refl, stands.1)

    waits_at : (done : List Answered) (last : Stamp) (before : List Command) (stage : Stage) (prefix : List (Timed Event)) (rest : List (Stamped Event)) →
        stop_of its_chain start moves ≡ stopped last before stage prefix rest → IsFound (look terms stage) → (look terms stage ≡ NotYet → ⊥) →
        Holds moves done before stage prefix rest → Follows took
    waits_at done last before stage prefix rest is found apart holds =
        let now : stop_of its_chain start took ≡ stopped last before stage prefix (rest ++ stamped ∷ []) =
        next_behind its_chain (settles terms seen) start (λ (s : ⊤) (stage : Stage) (f : List (Timed Event)). ⊤) moves moment event
        (subst (λ (w : Stop Stage Event Reply Command). IsFound (look terms w.stage)) (sym is) found)
        ∙ ap (λ (w : Stop Stage Event Reply Command). behind w (stamped ∷ [])) is in
        record {
          done = done;
          last = last;
          before = before;
          stage = stage;
          prefix = prefix;
          rest = rest ++ stamped ∷ [];
          is = now;
          holds = record {
            replied = no_reply moves done moment event holds.replied;
            each = holds.each;
            below = below_end (1 + length took) rest stamped (still_below moves (Took moment event) rest holds.below) (let l = longer moves (Took moment event) in omega arith);
            asked = holds.asked;
            stands = waits_stand done before prefix stage (asked_are moves last before stage prefix rest (flows_in done) is holds.asked)
                (asked_are took last before stage prefix (rest ++ stamped ∷ []) (flows_in done) now holds.asked) apart holds.stands;
          };
        }

    hears_by : (done : List Answered) (last : Stamp) (before : List Command) (stage : Stage) (prefix : List (Timed Event)) (rest : List (Stamped Event)) →
        stop_of its_chain start moves ≡ stopped last before stage prefix rest → Holds moves done before stage prefix rest → Follows took
    hears_by done last before (relaying at) prefix rest is holds = hears_at done last before at prefix rest is holds
    hears_by done last before (holding from message at) prefix rest is holds =
        waits_at done last before (holding from message at) prefix rest is tt (λ no. let n : Asks _ ≡ NotYet = no in cc) holds
    hears_by done last before over prefix rest is holds = waits_at done last before over prefix rest is tt (λ no. let n : Ends [] ≡ NotYet = no in cc) holds

  -- ---- a reply

  flows_more : (done : List Answered) (it : Answered) → flows_in (done ++ it ∷ []) ≡ flows_in done ++ it.flow ∷ []
  flows_more [] it = refl
  flows_more (first ∷ done) it = ap (λ (l : List Flow). first.flow ∷ l) (flows_more done it)

  moments_end : (done : List Answered) (it : Answered) → moments_in (done ++ it ∷ []) ≡ moments_in done ++ it.moment ∷ []
  moments_end [] it = refl
  moments_end (first ∷ done) it = ap (λ (l : List ℕ). first.moment ∷ l) (moments_end done it)

  replies_end : (done : List Answered) (it : Answered) → replies_in (done ++ it ∷ []) ≡ replies_in done ++ it.reply ∷ []
  replies_end [] it = refl
  replies_end (first ∷ done) it = ap (λ (l : List Reply). first.reply ∷ l) (replies_end done it)

  kept_end : (done : List Answered) (it : Answered) → kept_all (done ++ it ∷ []) ≡ kept_all done ++ kept_in it
  kept_end done it = flat_map-append kept_in done (it ∷ []) ∙ ap (λ (l : List WsRecord). kept_all done ++ l) (append-nil (kept_in it))

  module _ (moves : List Move) (moment : ℕ) (reply : Reply) where
    abbrev replied_to : List Move
    replied_to = moves ++ Replied moment reply ∷ []

    abbrev stamp : Stamp
    stamp = record { step = 1 + length moves; moment = moment }

    module _ (done : List Answered) (from : Peer) (message : Message) (at : At) (prefix : List (Timed Event)) (before : List Command) (rest : List (Stamped Event))
        (last : Stamp) (is : stop_of its_chain start moves ≡ stopped last before (holding from message at) prefix rest)
        (holds : Holds moves done before (holding from message at) prefix rest) where
      abbrev asked_flow : Flow
      asked_flow = with_message (terms_at terms at).flow from message

      abbrev it : Answered
      it = record { flow = asked_flow; moment = moment_at at (seen prefix); reply = reply }

      abbrev all : List Answered
      all = done ++ it ∷ []

      abbrev the_ask : Command
      the_ask = commands.Ask (message_ask terms at) asked_flow

      -- behind it, with what is kept of it
      kept_now : at.records ++ kept_of (is_client from) message (moment_at at (seen prefix)) (verdict message reply) ≡ kept_all all
      kept_now =
          ap₂ (λ (a b : List WsRecord). a ++ b) holds.stands.0 (kept_same from message (moment_at at (seen prefix)) reply) ∙ sym (kept_end done it)

      asked_behind : (owed : List Command) → flows_asked owed ≡ [] → flows_asked (before ++ the_ask ∷ owed) ≡ flows_in all
      asked_behind owed none =
          flat_map-append asked_in before (the_ask ∷ owed) ∙ (ap₂ (λ (a b : List Flow). a ++ asked_flow ∷ b) holds.asked none ∙ sym (flows_more done it))

      done_behind : (owed : List Command) → flows_done (before ++ the_ask ∷ owed) ≡ flows_done owed
      done_behind owed = done_both before (the_ask ∷ owed) holds.stands.2

      was_asked : asked_of terms rests moves ≡ flows_in all
      was_asked = asked_are moves last before (holding from message at) prefix rest (flows_in done) is holds.asked ∙ sym (flows_more done it)

      had_moments : moments_of terms rests moves ≡ moments_in all
      had_moments = holds.stands.1 ∙ sym (moments_end done it)

      reply_stands : (after : List Command) (stage : Stage) (there : List (Timed Event)) → asked_of terms rests replied_to ≡ flows_in all ++ asked_here stage →
          Comes (kept_all all) moment stage there → Finishes (kept_all all) stage after → Stands replied_to all after stage there
      reply_stands after (relaying next) there now comes finishes = (
        comes.0,
        comes.1,
        moments_stay moves (Replied moment reply) (moments_in all) (flows_in all) (flows_in all ++ []) had_moments was_asked now (ap length (append-nil (flows_in all))),
        finishes,
      )
      reply_stands after (holding from_next next_message next) there now comes finishes = (
        comes.0,
        moments_grow moves (Replied moment reply) (moments_in all) (flows_in all) (flows_in all ++ asked_here (holding from_next next_message next)) had_moments was_asked now
            (length-append (flows_in all) (asked_here (holding from_next next_message next)))
            ∙ ap (λ (n : ℕ). moments_in all ++ n ∷ []) (sym comes.1),
        finishes,
      )
      reply_stands after over there now comes finishes = (
        moments_stay moves (Replied moment reply) (moments_in all) (flows_in all) (flows_in all ++ []) had_moments was_asked now (ap length (append-nil (flows_in all))),
        finishes,
      )

      follows_at : (here : Reached Stage Event Command) → stop_of its_chain start replied_to ≡ stop_at stamp here [] → flows_asked here.before ≡ flows_in all →
          AllBelow stamp.step here.rest → Comes (kept_all all) moment here.stage here.prefix → Finishes (kept_all all) here.stage here.before → Follows replied_to
      follows_at here now asked below comes finishes = record {
        done = all;
        last = stamp;
        before = here.before;
        stage = here.stage;
        prefix = here.prefix;
        rest = here.rest;
        is = now;
        holds = record {
          replied = flat_map-append reply_in moves (Replied moment reply ∷ []) ∙ (ap (λ (l : List Reply). l ++ reply ∷ []) holds.replied ∙ sym (replies_end done it));
          each = each_more [] done it holds.each holds.stands.0;
          below = still_below moves (Replied moment reply) here.rest below;
          asked = asked;
          stands = reply_stands here.before here.stage here.prefix (asked_are replied_to stamp here.before here.stage here.prefix here.rest (flows_in all) now asked) comes finishes;
        };
      }

      -- it goes on behind the message
      goes_on_at : (next : At) (owed : List Command) → stop_of its_chain start replied_to ≡ stop_at stamp (reach its_chain stamp (before ++ the_ask ∷ owed) (relaying next) prefix rest) [] →
          flows_asked owed ≡ [] → flows_done owed ≡ [] → next.records ≡ kept_all all → moment_at next (seen prefix) ≡ moment → Follows replied_to
      goes_on_at next owed now none nothing same at_once =
          let r = reaches stamp (kept_all all) (before ++ the_ask ∷ owed) next prefix rest same at_once (done_behind owed ∙ nothing) holds.below in
          follows_at (reach its_chain stamp (before ++ the_ask ∷ owed) (relaying next) prefix rest) now (r.asked ∙ asked_behind owed none) r.below r.comes r.finishes

      -- or it has ended
      over_at : (here : Reached Stage Event Command) (owed : List Command) → stop_of its_chain start replied_to ≡ stop_at stamp here [] → StaysOver stamp (before ++ the_ask ∷ owed) here →
          flows_asked owed ≡ [] → AllHave (kept_all all) (flows_done owed) → Follows replied_to
      over_at here owed now stays none have =
          let finished : flows_done here.before ≡ flows_done owed = ap flows_done stays.before_is ∙ done_behind owed in
          follows_at here now (ap flows_asked stays.before_is ∙ asked_behind owed none) stays.below
          (subst (λ (s : Stage). Comes (kept_all all) moment s here.prefix) (sym stays.stage) tt)
          (subst (λ (s : Stage). Finishes (kept_all all) s here.before) (sym stays.stage) (subst (AllHave (kept_all all)) (sym finished) have))

      answers_by : (said : Verdict) → verdict message reply ≡ said →
          (let to = turn_by terms from message at (seen prefix) said moment in
          stop_of its_chain start replied_to ≡ stop_at stamp (reach its_chain stamp (before ++ the_ask ∷ to.owed) to.stage prefix rest) []) → Follows replied_to
      answers_by (sends payload) said now =
          goes_on_at _ _ now refl refl (ap (λ (v : Verdict). at.records ++ kept_of (is_client from) message (moment_at at (seen prefix)) v) (sym said) ∙ kept_now) refl
      answers_by drops said now =
          goes_on_at _ _ now refl refl (ap (λ (v : Verdict). at.records ++ kept_of (is_client from) message (moment_at at (seen prefix)) v) (sym said) ∙ kept_now) refl
      answers_by kills said now =
          let flow = killed (terms_at terms at).flow moment in
          let owed = ends terms (seen prefix) flow in
          let same : at.records ≡ kept_all all =
          sym (append-nil at.records) ∙ (ap (λ (v : Verdict). at.records ++ kept_of (is_client from) message (moment_at at (seen prefix)) v) (sym said) ∙ kept_now) in
          over_at (reach its_chain stamp (before ++ the_ask ∷ owed) over prefix rest) owed now (stays_over stamp (before ++ the_ask ∷ owed) prefix rest holds.below)
          (asked_none owed (ends_none terms (seen prefix) flow)) (done_all (kept_all all) owed (ends_owed terms (seen prefix) (kept_all all) flow same))

      answered_follows : Follows replied_to
      answered_follows =
          answers_by (verdict message reply) refl
          (next_reply its_chain (settles terms seen) start (λ (s : ⊤) (stage : Stage) (f : List (Timed Event)). ⊤) moves moment reply the_ask
          (ap (λ (w : Stop Stage Event Reply Command). look terms w.stage) is)
          ∙ ap (λ (w : Stop Stage Event Reply Command).
          let to = turn terms w.stage (seen w.prefix) reply moment in
          stop_at stamp (reach its_chain stamp (w.before ++ the_ask ∷ to.owed) to.stage w.prefix w.rest) []) is)

    -- where nothing waits for a reply none comes
    none_waits : (done : List Answered) → replies_of moves ≡ replies_in done → asked_of terms rests moves ≡ flows_in done ++ [] →
        length (replies_of moves) < length (asked_of terms rests moves) → ⊥
    none_waits done a b less =
        let p : length (replies_of moves) ≡ length done = ap length a ∙ length-map done (λ (it : Answered). it.reply) in
        let q : length (asked_of terms rests moves) ≡ length done = ap length (b ∙ append-nil (flows_in done)) ∙ length-map done (λ (it : Answered). it.flow) in
        omega arith

    replies_by : (done : List Answered) (last : Stamp) (before : List Command) (stage : Stage) (prefix : List (Timed Event)) (rest : List (Stamped Event)) →
        stop_of its_chain start moves ≡ stopped last before stage prefix rest → length (replies_of moves) < length (asked_of terms rests moves) →
        Holds moves done before stage prefix rest → Follows replied_to
    replies_by done last before (holding from message at) prefix rest is less holds = answered_follows done from message at prefix before rest last is holds
    replies_by done last before (relaying at) prefix rest is less holds =
        absurd (none_waits done holds.replied (asked_are moves last before (relaying at) prefix rest (flows_in done) is holds.asked) less)
    replies_by done last before over prefix rest is less holds =
        absurd (none_waits done holds.replied (asked_are moves last before over prefix rest (flows_in done) is holds.asked) less)

  -- ---- the law

  first_holds : Follows []
  first_holds = record {
    done = [];
    last = never;
    before = [];
    stage = start;
    prefix = [];
    rest = [];
    is = refl;
    holds = record { replied = refl; each = tt; below = tt; asked = refl; stands = (refl, refl, refl, refl) };
  }

  follows : (moves : List Move) → IsCourse terms rests moves → Follows moves
  follows _ begins = first_holds
  follows _ (hears past next moment event course is) =
      let f = follows past course in subst Follows (sym is) (hears_by past moment event f.done f.last f.before f.stage f.prefix f.rest f.is f.holds)
  follows _ (answers past next moment reply course less is) =
      let f = follows past course in subst Follows (sym is) (replies_by past moment reply f.done f.last f.before f.stage f.prefix f.rest f.is less f.holds)

  -- by moments and replies that begin with theirs
  records_at : (moves : List Move) (first rest : List Answered) (more : List ℕ) → moments_of terms rests moves ≡ moments_in (first ++ rest) ++ more →
      replies_of moves ≡ replies_in (first ++ rest) → records_of (flows_in first) (moments_of terms rests moves) (replies_of moves) ≡ kept_all first
  records_at moves first rest more moments replied =
      ap₂ (λ (m : List ℕ) (r : List Reply). records_of (flows_in first) m r)
      (moments ∙ (ap (λ (l : List ℕ). l ++ more) (map-append (λ (it : Answered). it.moment) first rest) ∙ append_assoc (moments_in first) (moments_in rest) more))
      (replied ∙ map-append (λ (it : Answered). it.reply) first rest)
      ∙ records_are first (moments_in rest ++ more) (replies_in rest)

  module _ (moves : List Move) (done : List Answered) (last : Stamp) (before : List Command) (prefix : List (Timed Event)) (rest : List (Stamped Event)) where
    moments_all : (stage : Stage) → Holds moves done before stage prefix rest → (more : List ℕ) × (moments_of terms rests moves ≡ moments_in done ++ more)
    moments_all (relaying at) holds = ([], holds.stands.2 ∙ sym (append-nil (moments_in done)))
    moments_all (holding from message at) holds = (moment_at at (seen prefix) ∷ [], holds.stands.1)
    moments_all over holds = ([], holds.stands.0 ∙ sym (append-nil (moments_in done)))

    last_has : (stage : Stage) → Holds moves done before stage prefix rest → (f : Flow) (more : List Flow) → asked_here stage ≡ f ∷ more →
        (f.messages ≡ [] ++ kept_all done) × (more ≡ [])
    last_has (relaying at) holds f more is = absurd (let no : [] ≡ f ∷ more = is in cc)
    last_has (holding from message at) holds f more is = (ap (λ (g : Flow). g.messages) (sym (same_head is)) ∙ holds.stands.0, sym (same_tail is))
    last_has over holds f more is = absurd (let no : [] ≡ f ∷ more = is in cc)

    module _ (stage : Stage) (is : stop_of its_chain start moves ≡ stopped last before stage prefix rest) (holds : Holds moves done before stage prefix rest) where
      asks_have : (front after : List Flow) (flow : Flow) → asked_of terms rests moves ≡ front ++ flow ∷ after →
          flow.messages ≡ records_of front (moments_of terms rests moves) (replies_of moves)
      asks_have front after flow split =
          let s = stands_behind [] done (asked_here stage) front after flow holds.each (last_has stage holds)
          (sym (asked_are moves last before stage prefix rest (flows_in done) is holds.asked) ∙ split) in
          let m = moments_all stage holds in
          s.has
          ∙ (sym (records_at moves s.first s.rest m.0 (m.1 ∙ ap (λ (l : List Answered). moments_in l ++ m.0) s.is) (holds.replied ∙ ap replies_in s.is))
          ∙ ap (λ (l : List Flow). records_of l (moments_of terms rests moves) (replies_of moves)) s.flows)

    none_done : (flows front after : List Flow) (flow : Flow) → flows ≡ [] → flows ≡ front ++ flow ∷ after → ⊥
    none_done flows [] after flow none split = let no : [] ≡ flow ∷ after = sym none ∙ split in cc
    none_done flows (f ∷ front) after flow none split = let no : [] ≡ f ∷ (front ++ flow ∷ after) = sym none ∙ split in cc

    ends_have : (stage : Stage) → stop_of its_chain start moves ≡ stopped last before stage prefix rest → Holds moves done before stage prefix rest →
        (front after : List Flow) (flow : Flow) → flows_done before ≡ front ++ flow ∷ after →
        flow.messages ≡ records_of (asked_of terms rests moves) (moments_of terms rests moves) (replies_of moves)
    ends_have (relaying at) is holds front after flow split = absurd (none_done (flows_done before) front after flow holds.stands.3 split)
    ends_have (holding from message at) is holds front after flow split = absurd (none_done (flows_done before) front after flow holds.stands.2 split)
    ends_have over is holds front after flow split =
        let asked : asked_of terms rests moves ≡ flows_in done = asked_are moves last before over prefix rest (flows_in done) is holds.asked ∙ append-nil (flows_in done) in
        let nothing : done ≡ done ++ [] = sym (append-nil done) in
        all_have (kept_all done) front after flow (flows_done before) split holds.stands.1
        ∙ (sym (records_at moves done [] [] (holds.stands.0 ∙ (sym (append-nil (moments_in done)) ∙ ap (λ (l : List Answered). moments_in l ++ []) nothing))
        (holds.replied ∙ ap replies_in nothing))
        ∙ ap (λ (l : List Flow). records_of l (moments_of terms rests moves) (replies_of moves)) (sym asked))

  pub keeps_records : (moves : List Move) → IsCourse terms rests moves → KeepsRecords terms rests moves
  keeps_records moves course =
      let f = follows moves course in
      record {
        asks = asks_have moves f.done f.last f.before f.prefix f.rest f.stage f.is f.holds;
        ends = λ front after flow split. ends_have moves f.done f.last f.before f.prefix f.rest f.stage f.is f.holds front after flow
            (sym (done_are moves f.last f.before f.stage f.prefix f.rest f.is) ∙ split);
      }
