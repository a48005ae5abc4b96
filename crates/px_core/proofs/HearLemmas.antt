-- What is heard of a conversation: its calls one step further, and what a call that is worked off makes of it.
use Rattle.std.proofs.Common.{◌≡◌, ◌≢◌, inl, inr, ℕ, Bool, true, false, ◌==◌, List, [], ◌∷◌, ◌++◌, Option, Some, None, refl, ap, sym, ◌∙◌, subst, option_to_list}
use Rattle.std.specs.List.{flat_map}
use Rattle.std.proofs.lemmas.List.{append-nil}
use Rattle.std.proofs.lemmas.Bool.{ne_eqb}
use Rattle.px_message.specs.declared.address.Address.{Address}
use Rattle.px_event.specs.declared.ask.Ask.{Ask}
use Rattle.px_event.specs.declared.ask.Ask.TheVariants as asks
use Rattle.px_event.specs.declared.command.Command.{Command}
use Rattle.px_event.specs.declared.event.Event.{Event}
use Rattle.px_event.specs.declared.heard.Heard.{Heard}
use Rattle.px_event.specs.declared.side.Side.{Side}
use Rattle.px_event.specs.declared.step.Step.{Step}
use Rattle.px_event.specs.declared.step.Step.TheVariants as steps
use Rattle.px_event.specs.Layer.{Move, Took, Replied, Standing, Goes, asks_in}
use Rattle.px_event.specs.Trace.{Trace}
use Rattle.px_event.proofs.Seen.{seen_append}
use Rattle.px_event.specs.View.{View, line, questions, course, flows, order, seen_of, seen_in, step_atoms}
use Rattle.px_core.specs.declared.waiting.Waiting.{Waiting}
use Rattle.px_core.specs.declared.flows.Flows.{Flows}
use Rattle.px_core.specs.declared.held.Held.{Held}
use Rattle.px_core.specs.declared.news.News.{News}
use Rattle.px_core.specs.declared.news.News.TheVariants as news
use Rattle.px_core.specs.Answers.{Answering, AnswererState}
use Rattle.px_core.specs.Calls.{Calls, calls, calls_of, hears_by, takes, addressed, is_connected, is_dialling, dial_ends, dial_reply, moved}
use Rattle.px_core.specs.Conversation.{AllNamed, AsksWhile}
use Rattle.px_core.specs.Due.{Due, due_by, due_in, IsServed}
use Rattle.px_core.specs.Held.{is_side, servers_by, AreServers, dial_from, dial_of, IsSettled, IsReady, IsKept, IsDrafted, IsDraftedBehind, IsOneOn, Follows, kept_of, Gives, Within, Stood, Works, Takes, Hears}
use Rattle.px_core.specs.Hooks.{hook_of, AsksInTurn}
use Rattle.px_core.specs.Live.{shown_in}
use Rattle.px_core.specs.Runs.{has}
use Rattle.px_core.proofs.AskLemmas.{asks_one, dial_now, quiet}
use Rattle.px_core.proofs.CallLemmas.{calls_more, seen_more, same_number}
use Rattle.px_core.proofs.HookLemmas.{hook_heard, hook_is, one_turn, quiet_turn, quiet_same, kept_on}
use Rattle.px_core.proofs.ServedLemmas.{due_there}
use Rattle.px_core.proofs.SideLemmas.{servers_along, servers_same, side_connected, servers_end}
use Rattle.px_core.proofs.WorkLemmas.{alike_more}

pub heard_seen : (view : View) (conv moment : ℕ) (heard : Heard) → step_atoms view conv (steps.Heard moment heard) ≡ []
heard_seen (line side) conv moment heard = refl
heard_seen questions conv moment heard = refl
heard_seen course conv moment heard = refl
heard_seen flows conv moment heard = refl
heard_seen order conv moment heard = refl

pub seen_heard : (view : View) (conv : ℕ) (trace : Trace) (moment : ℕ) (heard : Heard) → seen_in view conv (trace ++ steps.Heard moment heard ∷ []) ≡ seen_in view conv trace
seen_heard view conv trace moment heard =
    seen_more view conv trace (steps.Heard moment heard) ∙ (ap (λ l. seen_in view conv trace ++ l) (heard_seen view conv moment heard) ∙ append-nil (seen_in view conv trace))

by_news : (conv moment : ℕ) (c : Calls) (a : Option (ℕ × News)) (what : News) → a ≡ Some (conv, what) → hears_by conv moment c a ≡ takes moment c what
by_news conv moment c a what is = ap (hears_by conv moment c) is ∙ (rw (same_number conv) refl)

-- what was heard of this conversation
pub calls_heard : (conv : ℕ) (trace : Trace) (moment : ℕ) (heard : Heard) (what : News) → addressed heard ≡ Some (conv, what) →
    calls conv (trace ++ steps.Heard moment heard ∷ []) ≡ record (takes moment (calls conv trace) what) { moment = moment }
calls_heard conv trace moment heard what is =
    calls_more conv trace (steps.Heard moment heard)
    ∙ ap (λ (c : Calls). record c { moment = moment }) (by_news conv moment (calls conv trace) (addressed heard) what is)

by_other : (conv moment number : ℕ) (c : Calls) (a : Option (ℕ × News)) (what : News) → a ≡ Some (number, what) → number ≢ conv → hears_by conv moment c a ≡ c
by_other conv moment number c a what is apart =
    let no : (number == conv) ≡ false = ne_eqb number conv apart in ap (hears_by conv moment c) is ∙ (rw no refl)

-- of another
pub calls_heard_other : (conv number : ℕ) (trace : Trace) (moment : ℕ) (heard : Heard) (what : News) → addressed heard ≡ Some (number, what) → number ≢ conv →
    calls conv (trace ++ steps.Heard moment heard ∷ []) ≡ record (calls conv trace) { moment = moment }
calls_heard_other conv number trace moment heard what is apart =
    calls_more conv trace (steps.Heard moment heard)
    ∙ ap (λ (c : Calls). record c { moment = moment }) (by_other conv moment number (calls conv trace) (addressed heard) what is apart)

-- or of none
pub calls_heard_none : (conv : ℕ) (trace : Trace) (moment : ℕ) (heard : Heard) → addressed heard ≡ None →
    calls conv (trace ++ steps.Heard moment heard ∷ []) ≡ record (calls conv trace) { moment = moment }
calls_heard_none conv trace moment heard is =
    calls_more conv trace (steps.Heard moment heard)
    ∙ ap (λ (c : Calls). record c { moment = moment }) (ap (hears_by conv moment (calls conv trace)) is)

-- what an event that was taken gave
pub gives_event : {C : Type 0} (standing : Standing C) (awaited : C → Option Ask) (conv : ℕ) (move : Move) (before after : C) (given : List Command) (was : Option Ask) →
    awaited before ≡ was → AllNamed conv given → Goes standing before after move [] given → AsksWhile was (awaited after) [] given →
    Gives standing awaited move (dial_of (awaited before)) before after given
gives_event standing awaited conv move before after given None is named goes (more, grown, one) = record {
  goes = goes;
  dials =
      let asked : flat_map asks_in given ≡ option_to_list (awaited after) = ap (λ l. flat_map asks_in l) grown ∙ one in
      ap (λ a. dial_from (dial_of a) given) is ∙ ((asks_one conv (awaited after) None given named asked).dials ∙ dial_now (awaited after));
  turn =
      let asked : flat_map asks_in given ≡ option_to_list (awaited after) = ap (λ l. flat_map asks_in l) grown ∙ one in
      let P : Option Ask → Type 0 = λ h. AsksInTurn h given (hook_of (awaited after)) in
      subst P (sym (ap hook_of is)) (one_turn conv (awaited after) given named asked);
}
gives_event standing awaited conv move before after given (Some ask) is named goes (still, (more, grown, none)) = record {
  goes = goes;
  dials =
      let asked : flat_map asks_in given ≡ [] = ap (λ l. flat_map asks_in l) grown ∙ none in
      (quiet given asked None (dial_of (awaited before))).dials ∙ ap dial_of (is ∙ sym still);
  turn =
      let asked : flat_map asks_in given ≡ [] = ap (λ l. flat_map asks_in l) grown ∙ none in
      let P : Option Ask → Type 0 = λ h. AsksInTurn (hook_of (awaited before)) given h in
      subst P (ap hook_of (is ∙ sym still)) (quiet_turn given asked (hook_of (awaited before)));
}

pub ready_event : {C : Type 0} (awaited : C → Option Ask) (before after : Held C) (given : List Command) (was : Option Ask) →
    awaited before.conversation ≡ was → IsSettled awaited before → after.draft ≡ before.draft → AsksWhile was (awaited after.conversation) [] given → IsReady awaited after given
ready_event awaited before after given None is settled same (more, grown, one) = inl (ap (λ l. flat_map asks_in l) grown ∙ one)
ready_event awaited before after given (Some ask) is settled same (still, (more, grown, none)) =
    inr (ap (λ l. flat_map asks_in l) grown ∙ none, λ flow hook waits. rw same (settled flow hook (is ∙ (sym still ∙ waits))))

-- what the end of a dial gave
pub gives_end : {C : Type 0} (standing : Standing C) (awaited : C → Option Ask) (conv : ℕ) (move : Move) (server : ℕ) (before after : C) (given : List Command) →
    awaited before ≡ Some (asks.Dial server) → AllNamed conv given → Goes standing before after move [] given → flat_map asks_in given ≡ option_to_list (awaited after) →
    Gives standing awaited move None before after given
gives_end standing awaited conv move server before after given is named goes one = record {
  goes = goes;
  dials = (asks_one conv (awaited after) None given named one).dials ∙ dial_now (awaited after);
  turn =
      let P : Option Ask → Type 0 = λ h. AsksInTurn h given (hook_of (awaited after)) in
      subst P (sym (ap hook_of is)) (one_turn conv (awaited after) given named one);
}

module _ {C : Type 0} (standing : Standing C) (awaited : C → Option Ask) (number : C → ℕ) (made_due : C → List Move → List Command) where
  -- a call was taken
  taken_stands : (due : Due) (conv : ℕ) (peer : Option Address) (moment : ℕ) (move : Move) (dial : Option ℕ) (servers : ℕ → Bool) (before after : Held C) (trace next : Trace) (given : List Command) →
      (w : Stood standing awaited number made_due due conv peer before.conversation trace) → IsOneOn conv peer moment move dial servers trace next →
      Gives standing awaited move dial before.conversation after.conversation given → standing w.made after.conversation (calls_of conv next) (w.given ++ given)
  taken_stands due conv peer moment move dial servers before after trace next given w on gives =
      let P : List Move → Type 0 = λ l. standing w.made after.conversation l (w.given ++ given) in
      let Q : List Command → Type 0 = λ l. standing w.made after.conversation (calls_of conv trace ++ move ∷ []) l in
      let all : w.given ++ gives.goes.more ≡ w.given ++ given = ap (λ l. w.given ++ l) (sym gives.goes.grown) in
      subst P (sym on.moves) (subst Q all (gives.goes.stands w.made (calls_of conv trace) w.given w.stands))

  -- and its commands are still to be told
  taken_within : (due : Due) (conv : ℕ) (peer : Option Address) (moment : ℕ) (move : Move) (dial : Option ℕ) (servers : ℕ → Bool) (before after : Held C) (trace next : Trace) (given : List Command) →
      Stood standing awaited number made_due due conv peer before.conversation trace → IsOneOn conv peer moment move dial servers trace next → number after.conversation ≡ conv →
      Gives standing awaited move dial before.conversation after.conversation given → ((n : ℕ) → servers n ≡ has after.connected n) →
      Within standing awaited number made_due due conv after next given
  taken_within due conv peer moment move dial servers before after trace next given w on named gives same =
      record {
        made = w.made;
        peer = peer;
        given = w.given ++ given;
        earlier = w.earlier;
        stands = taken_stands due conv peer moment move dial servers before after trace next given w on gives;
        alike = alike_more w.given w.earlier given w.alike;
        owes = w.owes;
        tells = λ view told. w.tells view told ∙ sym (on.sees view told);
        named = named;
        begun = on.begun;
        servers = servers_same servers (has after.connected) (calls conv next).connected same on.connected;
        dial = ap (λ d. dial_from d given) on.dials ∙ gives.dials;
        turn =
            let R : Option Ask → Type 0 = λ h. AsksInTurn h given (hook_of (awaited after.conversation)) in
            subst R (sym (on.hook ∙ w.hook)) gives.turn;
      }

  module _ {S : Type 0} (answers : Answering S) where
    -- where the call's commands ask nothing, a hook that was awaited goes on to wait with its draft
    drafted_taken : (gave : (made state : C) (moves : List Move) (given : List Command) → standing made state moves given →
        (view : View) → seen_of view given ≡ seen_of view (made_due made moves)) (due : Due) (conv : ℕ) (peer : Option Address) (moment : ℕ) (move : Move)
        (dial : Option ℕ) (servers : ℕ → Bool) (before after : Held C) (trace next : Trace) (given : List Command) →
        Stood standing awaited number made_due due conv peer before.conversation trace → IsOneOn conv peer moment move dial servers trace next →
        Gives standing awaited move dial before.conversation after.conversation given → after.draft ≡ before.draft →
        IsDrafted awaited answers due conv before trace → IsDraftedBehind awaited answers due conv after next given
    drafted_taken gave due conv peer moment move dial servers before after trace next given w on gives kept drafted none flow hook waits =
        let ask : Ask = asks.Hook flow hook in
        let was_open : hook_of (awaited before.conversation) ≡ Some ask =
        quiet_same given none (hook_of (awaited before.conversation)) (hook_of (awaited after.conversation)) gives.turn ∙ ap hook_of waits in
        let was : awaited before.conversation ≡ Some ask = hook_is (awaited before.conversation) ask was_open in
        let earlier : due_in due flows conv trace ≡ seen_of flows w.given =
        due_there due conv trace peer (w.there ask was_open) flows
        ∙ (ap (seen_of flows) (sym (w.owes (calls_of conv trace))) ∙ sym (gave w.made before.conversation (calls_of conv trace) w.given w.stands flows)) in
        let later : due_in due flows conv next ≡ seen_of flows w.given =
        due_there due conv next peer on.begun flows
        ∙ (ap (seen_of flows) (sym (w.owes (calls_of conv next)))
        ∙ (sym (gave w.made after.conversation (calls_of conv next) (w.given ++ given) (taken_stands due conv peer moment move dial servers before after trace next given w on gives) flows)
        ∙ (seen_append flows w.given given
        ∙ (ap (λ l. seen_of flows w.given ++ l) (quiet given none None None).sees ∙ append-nil (seen_of flows w.given))))) in
        let P : Option Waiting → Type 0 = λ d. IsKept answers due next conv ask d in
        subst P (sym kept) (kept_on answers due conv trace next ask before.draft (later ∙ sym earlier) (drafted flow hook was))

    pub works_taken : (gave : (made state : C) (moves : List Move) (given : List Command) → standing made state moves given →
        (view : View) → seen_of view given ≡ seen_of view (made_due made moves))
        (conv moment : ℕ) (move : Move) (dial : Option ℕ) (servers : ℕ → Bool) (before between after : Held C) (shown new_shown : Flows) {old new : AnswererState S} (given : List Command) (out new_out : List Step) →
        number between.conversation ≡ conv → Gives standing awaited move dial before.conversation between.conversation given → ((n : ℕ) → servers n ≡ has between.connected n) →
        between.draft ≡ before.draft → between.marks ≡ before.marks →
        Works standing awaited number made_due answers conv moment given between after shown new_shown old new None out new_out →
        Takes standing awaited number made_due answers conv moment move dial servers before after shown new_shown old new out new_out
    works_taken gave conv moment move dial servers before between after shown new_shown {old} {new} given out new_out named gives same kept marked works = record {
      more = works.more;
      grown = works.grown;
      own = works.own;
      takes = λ due course pending peer trace next w drafted on served follows.
          let P : Option Waiting → Type 0 = λ d. Follows answers due course pending conv (record { draft = d; marks = has before.marks; shown = shown_in shown conv }) old next in
          let Q : List (ℕ × ℕ) → Type 0 = λ r. Follows answers due course pending conv (record { draft = between.draft; marks = has r; shown = shown_in shown conv }) old next in
          let to = works.works due course pending next (taken_within due conv peer moment move dial servers before between trace next given w on named gives same) on.now served
          (drafted_taken gave due conv peer moment move dial servers before between trace next given w on gives kept drafted) (subst Q (sym marked) (subst P (sym kept) follows)) in
          (to.within, to.served, to.drafted, to.follows);
      settled = works.next;
      others = works.others;
    }

    -- the same where a side was noted before the call
    pub works_end : (gave : (made state : C) (moves : List Move) (given : List Command) → standing made state moves given →
        (view : View) → seen_of view given ≡ seen_of view (made_due made moves))
        (conv moment : ℕ) (move : Move) (dial : Option ℕ) (servers : ℕ → Bool) (before noted between after : Held C) (shown new_shown : Flows) {old new : AnswererState S} (given : List Command) (out new_out : List Step) →
        noted.conversation ≡ before.conversation → number between.conversation ≡ conv → Gives standing awaited move dial noted.conversation between.conversation given → ((n : ℕ) → servers n ≡ has between.connected n) →
        between.draft ≡ before.draft → between.marks ≡ before.marks →
        Works standing awaited number made_due answers conv moment given between after shown new_shown old new None out new_out →
        Takes standing awaited number made_due answers conv moment move dial servers before after shown new_shown old new out new_out
    works_end gave conv moment move dial servers before noted between after shown new_shown given out new_out same named gives are kept marked works =
        let P : C → Type 0 = λ s. Gives standing awaited move dial s between.conversation given in
        works_taken gave conv moment move dial servers before between after shown new_shown given out new_out named (subst P same gives) are kept marked works

    -- news that are no call
    pub ignored : (conv moment : ℕ) (what : News) (held : Held C) (shown : Flows) {state : AnswererState S} (out : List Step) →
        ((c : Calls) (peer : Option Address) → c.peer ≡ Some peer → AreServers (has held.connected) c.connected → c.dial ≡ dial_of (awaited held.conversation) → takes moment c what ≡ c) → IsSettled awaited held →
        Hears standing awaited number made_due answers conv moment what held held shown shown state state out out
    ignored conv moment what held shown {state} out nothing settled = record {
      more = [];
      grown = sym (append-nil out);
      own = tt;
      hears = λ due course pending trace heard is w drafted served follows.
          let on : calls conv (trace ++ steps.Heard moment heard ∷ []) ≡ record (calls conv trace) { moment = moment } =
          calls_heard conv trace moment heard what is ∙ ap (λ (c : Calls). record c { moment = moment }) (nothing (calls conv trace) w.peer w.begun w.servers w.dial) in
          let P : List Move → Type 0 = λ l. standing w.made held.conversation l w.given in
          let Q : Trace → Type 0 = λ t. Within standing awaited number made_due due conv held t [] × IsServed answers due t × IsDrafted awaited answers due conv held t × Follows answers due course pending conv (kept_of conv held shown) state t in
          let there : Trace = trace ++ steps.Heard moment heard ∷ [] in
          subst Q (sym (append-nil (trace ++ steps.Heard moment heard ∷ []))) (
            record {
              made = w.made;
              peer = w.peer;
              given = w.given;
              earlier = w.earlier;
              stands = subst P (sym (ap (λ (c : Calls). c.moves) on)) w.stands;
              alike = w.alike;
              owes = w.owes;
              tells = λ view told. w.tells view told ∙ sym (seen_heard view conv trace moment heard);
              named = w.named;
              begun = ap (λ (c : Calls). c.peer) on ∙ w.begun;
              servers = servers_along (has held.connected) _ _ (ap (λ (c : Calls). c.connected) on) w.servers;
              dial = ap (λ (c : Calls). c.dial) on ∙ w.dial;
              turn = hook_heard conv trace moment heard ∙ w.turn;
            },
            served,
            (λ flow hook waits. kept_on answers due conv trace there (asks.Hook flow hook) held.draft (ap (λ (c : Calls). seen_of flows (due_by due conv c)) on) (drafted flow hook waits)),
            follows,
          );
      settled = settled;
      others = λ other index apart. refl;
    }

    -- news that are a call
    pub taken : (conv moment : ℕ) (what : News) (move : Move) (dial : Option ℕ) (servers : ℕ → Bool) (before after : Held C) (shown new_shown : Flows) {old new : AnswererState S} (out new_out : List Step) →
        ((c : Calls) (peer : Option Address) → c.peer ≡ Some peer → AreServers (has before.connected) c.connected → c.dial ≡ dial_of (awaited before.conversation) →
        (takes moment c what).moves ≡ c.moves ++ move ∷ [] × ((takes moment c what).peer ≡ Some peer) × ((takes moment c what).dial ≡ dial) × AreServers servers (takes moment c what).connected) →
        Takes standing awaited number made_due answers conv moment move dial servers before after shown new_shown old new out new_out →
        Hears standing awaited number made_due answers conv moment what before after shown new_shown old new out new_out
    taken conv moment what move dial servers before after shown new_shown {old} {new} out new_out one t = record {
      more = t.more;
      grown = t.grown;
      own = t.own;
      hears = λ due course pending trace heard is w drafted served follows.
          let on = calls_heard conv trace moment heard what is in
          let facts = one (calls conv trace) w.peer w.begun w.servers w.dial in
          t.takes due course pending w.peer trace (trace ++ steps.Heard moment heard ∷ []) (record { made = w.made; given = w.given; earlier = w.earlier; stands = w.stands; alike = w.alike; owes = w.owes; tells = w.tells; hook = w.turn; there = λ _ _. w.begun }) drafted (record {
            moves = ap (λ (c : Calls). c.moves) on ∙ facts.0;
            begun = ap (λ (c : Calls). c.peer) on ∙ facts.1;
            dials = ap (λ (c : Calls). c.dial) on ∙ facts.2;
            connected = servers_along servers _ _ (ap (λ (c : Calls). c.connected) on) facts.3;
            now = ap (λ (c : Calls). c.moment) on;
            sees = λ view told. seen_heard view conv trace moment heard;
            hook = hook_heard conv trace moment heard;
          }) served follows;
      settled = t.settled;
      others = t.others;
    }

-- what each news takes
pub takes_begun : (moment : ℕ) (c : Calls) (peer : Option Address) (at : Address) → c.peer ≡ Some peer → takes moment c (news.Begun at) ≡ c
takes_begun moment c peer at is = rw is refl

pub takes_not_connected : (moment : ℕ) (c : Calls) (peer : Option Address) (side : Side) (event : Event) (servers : ℕ → Bool) → c.peer ≡ Some peer → AreServers servers c.connected → is_side side servers ≡ false →
    takes moment c (news.Event side event) ≡ c
takes_not_connected moment c peer side event servers begun are not =
    let none : is_connected side c.connected ≡ false = side_connected side servers c.connected are ∙ not in rw (begun, none) refl

pub takes_connected : (moment : ℕ) (c : Calls) (peer : Option Address) (side : Side) (event : Event) (servers : ℕ → Bool) → c.peer ≡ Some peer → AreServers servers c.connected → is_side side servers ≡ true →
    takes moment c (news.Event side event) ≡ moved (Took moment event) c
takes_connected moment c peer side event servers begun are is =
    let one : is_connected side c.connected ≡ true = side_connected side servers c.connected are ∙ is in rw (begun, one) refl

pub takes_no_end : (moment : ℕ) (c : Calls) (server : ℕ) (ok : Bool) (dial : Option ℕ) → c.dial ≡ dial → is_dialling server dial ≡ false →
    takes moment c (news.Dialled server ok) ≡ c
takes_no_end moment c server ok dial same not =
    let no : is_dialling server c.dial ≡ false = ap (is_dialling server) same ∙ not in rw no refl

pub takes_end : (moment : ℕ) (c : Calls) (server : ℕ) (ok : Bool) (dial : Option ℕ) → c.dial ≡ dial → is_dialling server dial ≡ true →
    takes moment c (news.Dialled server ok) ≡ dial_ends moment server ok c
takes_end moment c server ok dial same is =
    let yes : is_dialling server c.dial ≡ true = ap (is_dialling server) same ∙ is in rw yes refl

module _ {C : Type 0} (standing : Standing C) (awaited : C → Option Ask) (number : C → ℕ) (made_due : C → List Move → List Command) {S : Type 0} (answers : Answering S) where
  pub heard_event : (conv moment : ℕ) (what : News) (side : Side) (event : Event) (before after : Held C) (shown new_shown : Flows) {old new : AnswererState S} (out new_out : List Step) → what ≡ news.Event side event →
      is_side side (has before.connected) ≡ true →
      Takes standing awaited number made_due answers conv moment (Took moment event) (dial_of (awaited before.conversation)) (has before.connected) before after shown new_shown old new out new_out →
      Hears standing awaited number made_due answers conv moment what before after shown new_shown old new out new_out
  heard_event conv moment what side event before after shown new_shown out new_out is connected t =
      taken standing awaited number made_due answers conv moment what (Took moment event) (dial_of (awaited before.conversation)) (has before.connected) before after shown new_shown out new_out
      (λ c peer begun are dial.
      let on : takes moment c what ≡ moved (Took moment event) c = ap (takes moment c) is ∙ takes_connected moment c peer side event (has before.connected) begun are connected in
      (ap (λ (c : Calls). c.moves) on, ap (λ (c : Calls). c.peer) on ∙ begun, ap (λ (c : Calls). c.dial) on ∙ dial, servers_along (has before.connected) _ _ (ap (λ (c : Calls). c.connected) on) are)) t

  pub heard_end : (conv moment : ℕ) (what : News) (server : ℕ) (ok : Bool) (before after : Held C) (shown new_shown : Flows) {old new : AnswererState S} (out new_out : List Step) → what ≡ news.Dialled server ok →
      is_dialling server (dial_of (awaited before.conversation)) ≡ true →
      Takes standing awaited number made_due answers conv moment (Replied moment (dial_reply ok)) None (servers_by server ok (has before.connected)) before after shown new_shown old new out new_out →
      Hears standing awaited number made_due answers conv moment what before after shown new_shown old new out new_out
  heard_end conv moment what server ok before after shown new_shown out new_out is dialling t =
      taken standing awaited number made_due answers conv moment what (Replied moment (dial_reply ok)) None (servers_by server ok (has before.connected)) before after shown new_shown out new_out
      (λ c peer begun are dial.
      let on : takes moment c what ≡ dial_ends moment server ok c = ap (takes moment c) is ∙ takes_end moment c server ok (dial_of (awaited before.conversation)) dial dialling in
      (ap (λ (c : Calls). c.moves) on, ap (λ (c : Calls). c.peer) on ∙ begun, ap (λ (c : Calls). c.dial) on, servers_along (servers_by server ok (has before.connected)) _ _ (ap (λ (c : Calls). c.connected) on) (servers_end server ok (has before.connected) c.connected are))) t
