-- Steps of the conversation that was heard last or has begun since, or behind what an operator said, and what is due by a conversation's own steps and by what operators said alone.
use Rattle.std.proofs.Common.{◌≡◌, inl, inr, ℕ, Bool, true, false, cond, List, [], ◌∷◌, ◌++◌, Option, Some, None, refl, sym, ap, ◌∙◌, subst, append-nil}
use Rattle.std.specs.Prelude.{◌==◌, is_some}
use Rattle.std.proofs.lemmas.Bool.{eq-eqb}
use Rattle.std.proofs.lemmas.Bool.Decides.{eqb_tells}
use Rattle.std.proofs.lemmas.List.{append_assoc}
use Rattle.px_message.specs.declared.address.Address.{Address}
use Rattle.px_event.specs.declared.heard.Heard.{Heard}
use Rattle.px_event.specs.declared.said.Said.{Said}
use Rattle.px_event.specs.declared.said.Said.TheVariants as said
use Rattle.px_event.specs.declared.reply.Reply.{Reply}
use Rattle.px_event.specs.declared.step.Step.{Step}
use Rattle.px_event.specs.declared.step.Step.TheVariants as steps
use Rattle.px_event.specs.declared.event.Event.{Event}
use Rattle.px_event.specs.declared.event.Event.TheVariants as events
use Rattle.px_event.specs.declared.side.Side.{Side}
use Rattle.px_event.specs.Layer.{Move, Took, Replied}
use Rattle.px_event.specs.declared.ask.Ask.{Ask}
use Rattle.px_event.specs.Trace.{Trace, Always}
use Rattle.px_event.specs.View.{seen_of}
use Rattle.px_core.specs.declared.news.News.{News}
use Rattle.px_core.specs.declared.news.News.TheVariants as news
use Rattle.px_core.specs.Answers.{Answering, AnswererState}
use Rattle.px_core.specs.Calls.{Calls, no_calls, addressed, is_connected, is_dialling, connected_by, dial_reply, moved, takes, hears_by, begins, dials, calls, calls_on, calls_from}
use Rattle.px_core.specs.Course.{Course}
use Rattle.px_core.specs.Due.{Due, due_at}
use Rattle.px_core.specs.Held.{AllOf}
use Rattle.px_core.specs.Run.{IsFrontOfBegun, IsOfHeard}
use Rattle.px_app.specs.Operators.{Word, nothing, says, leaves, word_of}
use Rattle.px_app.specs.Own.{Actor, nobody, one, anybody, actor_of, actor_by, acts_behind, IsBy, OwnFrom, IsOwn, is_actor, is_step_of, alone_at, alone_from, IsIsolated}
use Rattle.px_app.specs.Worked.{Worked, WorkedPart, not_begun, one_worked, one_begun, all_worked, breaks_in, breaks_begun}
use Rattle.px_core.proofs.CallLemmas.{calls_more}
use Rattle.px_app.proofs.OperatorLemmas.{calls_from_more}
use Rattle.px_app.proofs.TurnLemmas.{Adds, NoneHeard, breaks_adds, turns_adds}

own_all : (trace : Trace) (conv : ℕ) (list : List Step) → AllOf conv list → OwnFrom trace (one conv) list
own_all trace conv [] all = tt
own_all trace conv (steps.Heard moment what ∷ list) (here, all) = absurd here
own_all trace conv (steps.Begun number ∷ list) (here, all) = absurd here
own_all trace conv (steps.Asked number ask ∷ list) (here, all) = (here, own_all (trace ++ steps.Asked number ask ∷ []) conv list all)
own_all trace conv (steps.Answered number ask reply ∷ list) (here, all) = (here, own_all (trace ++ steps.Answered number ask reply ∷ []) conv list all)
own_all trace conv (steps.Said number what ∷ list) (here, all) = (here, own_all (trace ++ steps.Said number what ∷ []) conv list all)
own_all trace conv (steps.Done flow ∷ list) (here, all) = (here, own_all (trace ++ steps.Done flow ∷ []) conv list all)

own_of : (trace : Trace) (a : Option (ℕ × News)) (list : List Step) → ((conv : ℕ) (news : News) → a ≡ Some (conv, news) → AllOf conv list) → (a ≡ None → list ≡ []) → OwnFrom trace (actor_of a) list
own_of trace None list own none = let P : List Step → Type 0 = OwnFrom trace nobody in subst P (sym (none refl)) tt
own_of trace (Some (conv, news)) list own none = own_all trace conv list (own conv news refl)

-- steps that follow what was heard of a conversation
pub own_heard : (trace before : Trace) (what : Heard) (list : List Step) → word_of trace what ≡ nothing → IsOfHeard what list → OwnFrom before (acts_behind trace what) list
own_heard trace before what list is of =
    let P : Word → Type 0 = λ w. OwnFrom before (actor_by w (addressed what)) list in subst P (sym is) (own_of before (addressed what) list of.own of.none)

-- steps behind something heard, or behind a conversation that begins, are judged by it
own_behind : (trace : Trace) (actor : Actor) (front : Trace) (first : Step) (acts : Trace → Actor) (list : List Step) →
    ((t : Trace) (a : Actor) → OwnFrom (t ++ first ∷ []) (acts t) list → OwnFrom t a (first ∷ list)) → (all : Trace) → trace ++ front ≡ all → OwnFrom trace actor front →
    OwnFrom (all ++ first ∷ []) (acts all) list → OwnFrom trace actor (front ++ first ∷ list)
own_behind trace actor [] first acts list begins all is own more =
    let P : Trace → Type 0 = λ t. OwnFrom (t ++ first ∷ []) (acts t) list in begins trace actor (subst P (sym is ∙ append-nil trace) more)
own_behind trace actor (steps.Heard m w ∷ front) first acts list begins all is own more =
    own_behind (trace ++ steps.Heard m w ∷ []) (acts_behind trace w) front first acts list begins all (append_assoc trace (steps.Heard m w ∷ []) front ∙ is) own more
own_behind trace actor (steps.Begun number ∷ front) first acts list begins all is own more =
    own_behind (trace ++ steps.Begun number ∷ []) (one number) front first acts list begins all (append_assoc trace (steps.Begun number ∷ []) front ∙ is) own more
own_behind trace actor (steps.Asked number ask ∷ front) first acts list begins all is (here, own) more =
    (here, own_behind (trace ++ steps.Asked number ask ∷ []) actor front first acts list begins all (append_assoc trace (steps.Asked number ask ∷ []) front ∙ is) own more)
own_behind trace actor (steps.Answered number ask reply ∷ front) first acts list begins all is (here, own) more =
    (here, own_behind (trace ++ steps.Answered number ask reply ∷ []) actor front first acts list begins all (append_assoc trace (steps.Answered number ask reply ∷ []) front ∙ is) own more)
own_behind trace actor (steps.Said number w ∷ front) first acts list begins all is (here, own) more =
    (here, own_behind (trace ++ steps.Said number w ∷ []) actor front first acts list begins all (append_assoc trace (steps.Said number w ∷ []) front ∙ is) own more)
own_behind trace actor (steps.Done flow ∷ front) first acts list begins all is (here, own) more =
    (here, own_behind (trace ++ steps.Done flow ∷ []) actor front first acts list begins all (append_assoc trace (steps.Done flow ∷ []) front ∙ is) own more)

-- one thing heard more, with the steps that follow
pub own_next : (trace : Trace) (moment : ℕ) (what : Heard) (list next : List Step) → next ≡ (trace ++ steps.Heard moment what ∷ []) ++ list → IsOwn trace →
    OwnFrom (trace ++ steps.Heard moment what ∷ []) (acts_behind trace what) list → IsOwn next
own_next trace moment what list next is own more =
    let P : Trace → Type 0 = IsOwn in
    subst P (sym (is ∙ append_assoc trace (steps.Heard moment what ∷ []) list))
    (own_behind [] nobody trace (steps.Heard moment what) (λ t. acts_behind t what) list (λ t actor so. so) trace refl own more)

-- a conversation that begins with no one heard, with steps of its own
pub own_begun : (trace : Trace) (conv : ℕ) (list next : List Step) → next ≡ (trace ++ steps.Begun conv ∷ []) ++ list → IsOwn trace → AllOf conv list → IsOwn next
own_begun trace conv list next is own all =
    let P : Trace → Type 0 = IsOwn in
    subst P (sym (is ∙ append_assoc trace (steps.Begun conv ∷ []) list))
    (own_behind [] nobody trace (steps.Begun conv) (λ t. one conv) list (λ t actor so. so) trace refl own (own_all (trace ++ steps.Begun conv ∷ []) conv list all))

-- or where memory ran out in it
pub own_front_of_begun : (trace : Trace) (conv : ℕ) (list next : List Step) → next ≡ trace ++ list → IsOwn trace → IsFrontOfBegun conv list → IsOwn next
own_front_of_begun trace conv [] next is own front = let P : Trace → Type 0 = IsOwn in subst P (sym (is ∙ append-nil trace)) own
own_front_of_begun trace conv (step ∷ list) next is own (first, all) =
    own_begun trace conv list next (is ∙ (ap (λ (s : Step). trace ++ s ∷ list) first ∙ sym (append_assoc trace (steps.Begun conv ∷ []) list))) own all

-- ---- what is due by a conversation's own steps

-- the same but for the moment
record Alike (c d : Calls) : Type 0 where
  pub peer : c.peer ≡ d.peer
  pub dial : c.dial ≡ d.dial
  pub connected : c.connected ≡ d.connected
  pub moves : c.moves ≡ d.moves

abbrev at_moment : ℕ → Calls → Calls
at_moment moment c = record c { moment = moment }

moment_alike : (moment other : ℕ) (c d : Calls) → Alike c d → Alike (at_moment moment c) (at_moment other d)
moment_alike moment other c d like = record { peer = like.peer; dial = like.dial; connected = like.connected; moves = like.moves }

-- a call at the same moment
moved_alike : (move : Move) (c d : Calls) → Alike c d → Alike (moved move c) (moved move d)
moved_alike move c d like = record { peer = like.peer; dial = like.dial; connected = like.connected; moves = ap (λ l. l ++ move ∷ []) like.moves }

begins_by : (moment other : ℕ) (at : Option Address) (c d : Calls) (begun : Bool) → is_some c.peer ≡ begun → is_some d.peer ≡ begun → moment ≡ other → Alike c d →
    Alike (begins moment at c) (begins other at d)
begins_by moment other at c d true was is same like = rw was (rw is (record { peer = like.peer; dial = like.dial; connected = like.connected; moves = like.moves }))
begins_by moment other at c d false was is same like = rw was (rw is (record {
  peer = refl;
  dial = like.dial;
  connected = like.connected;
  moves = ap (λ l. l ++ Took moment events.Begun ∷ []) like.moves ∙ ap (λ m. d.moves ++ Took m events.Begun ∷ []) same;
}))

begins_alike : (moment other : ℕ) (at : Option Address) (c d : Calls) → moment ≡ other → Alike c d → Alike (begins moment at c) (begins other at d)
begins_alike moment other at c d same like = begins_by moment other at c d (is_some d.peer) (ap (λ (p : Option (Option Address)). is_some p) like.peer) refl same like

-- it begins at no other moment than it is
begins_moment : (moment : ℕ) (at : Option Address) (c : Calls) (begun : Bool) → is_some c.peer ≡ begun → (begins moment at c).moment ≡ c.moment
begins_moment moment at c true was = rw was refl
begins_moment moment at c false was = rw was refl

hears_alike : (moment : ℕ) (side : Side) (event : Event) (c d : Calls) (begun open_side : Bool) → is_some c.peer ≡ begun → is_some d.peer ≡ begun →
    is_connected side c.connected ≡ open_side → is_connected side d.connected ≡ open_side → Alike c d →
    Alike (takes moment c (news.Event side event)) (takes moment d (news.Event side event))
hears_alike moment side event c d false open_side was is a b like = rw was (rw is (record { peer = like.peer; dial = like.dial; connected = like.connected; moves = like.moves }))
hears_alike moment side event c d true false was is a b like =
    rw was (rw is (rw a (rw b (record { peer = like.peer; dial = like.dial; connected = like.connected; moves = like.moves }))))
hears_alike moment side event c d true true was is a b like =
    rw was (rw is (rw a (rw b (record { peer = like.peer; dial = like.dial; connected = like.connected; moves = ap (λ l. l ++ Took moment event ∷ []) like.moves }))))

dialled_alike : (moment server : ℕ) (ok : Bool) (c d : Calls) (awaits : Bool) → is_dialling server c.dial ≡ awaits → is_dialling server d.dial ≡ awaits → Alike c d →
    Alike (takes moment c (news.Dialled server ok)) (takes moment d (news.Dialled server ok))
dialled_alike moment server ok c d false a b like = rw a (rw b like)
dialled_alike moment server ok c d true a b like = rw a (rw b (record {
  peer = like.peer;
  dial = refl;
  connected = ap (connected_by server ok) like.connected;
  moves = ap (λ l. l ++ Replied moment (dial_reply ok) ∷ []) like.moves;
}))

-- news are taken alike
takes_alike : (moment : ℕ) (c d : Calls) (what : News) → Alike c d → Alike (takes moment c what) (takes moment d what)
takes_alike moment c d (news.Begun peer) like = begins_alike moment moment (Some peer) c d refl like
takes_alike moment c d (news.Event side event) like =
    hears_alike moment side event c d (is_some d.peer) (is_connected side d.connected) (ap (λ (p : Option (Option Address)). is_some p) like.peer) refl (ap (is_connected side) like.connected) refl like
takes_alike moment c d (news.Dialled server ok) like = dialled_alike moment server ok c d (is_dialling server d.dial) (ap (is_dialling server) like.dial) refl like

dials_alike : (what : Said) (c d : Calls) → Alike c d → Alike (dials what c) (dials what d)
dials_alike (said.Send side text) c d like = like
dials_alike (said.Close side) c d like = like
dials_alike (said.Dial server address) c d like = record { peer = like.peer; dial = refl; connected = like.connected; moves = like.moves }

-- a step of another conversation is left out, and one of this is kept
alone_by : (conv : ℕ) (trace : Trace) (step : Step) (rest : Trace) (kept : Bool) → is_step_of conv trace step ≡ kept →
    alone_from conv trace (step ∷ rest) ≡ cond kept (alone_at conv trace step ++ alone_from conv (trace ++ step ∷ []) rest) (alone_from conv (trace ++ step ∷ []) rest)
alone_by conv trace step rest kept is = ap (λ (b : Bool). cond b (alone_at conv trace step ++ alone_from conv (trace ++ step ∷ []) rest) (alone_from conv (trace ++ step ∷ []) rest)) is

-- by what it is known what is due: where the client is, and the calls
abbrev told : Option (Option Address) → List Move → Option (Option Address) × List Move
told peer moves = (peer, moves)

abbrev told_of : Calls → Option (Option Address) × List Move
told_of c = told c.peer c.moves

same_told : (c d : Calls) → c.peer ≡ d.peer → c.moves ≡ d.moves → told_of c ≡ told_of d
same_told c d peer moves = ap (λ (x : Option (Option Address)). told x c.moves) peer ∙ ap (λ (x : List Move). told d.peer x) moves

-- what the calls are by all steps, and by the conversation's own
abbrev SameMoves : ℕ → Calls → Calls → Trace → Trace → Type 0
SameMoves conv c d all own = told_of (calls_from conv c all) ≡ told_of (calls_from conv d own)

-- the moment counts where the conversation may act
abbrev AtOne : ℕ → Actor → Calls → Calls → Type 0
AtOne conv actor c d = is_actor conv actor ≡ true → c.moment ≡ d.moment

number_is : (conv number : ℕ) → (number == conv) ≡ true → number ≡ conv
number_is conv number is = elim (eqb_tells number conv) [ inl t ↦ t.1 | inr f ↦ absurd (let wrong : true ≡ false = sym is ∙ f.0 in cc) ]

-- one step further, left out or kept
drop_step : (conv : ℕ) (trace : Trace) (step : Step) (c next d : Calls) (rest : Trace) → calls_on conv c step ≡ next → is_step_of conv trace step ≡ false →
    SameMoves conv next d rest (alone_from conv (trace ++ step ∷ []) rest) → SameMoves conv c d (step ∷ rest) (alone_from conv trace (step ∷ rest))
drop_step conv trace step c next d rest goes left same =
    ap (λ (x : Calls). told_of (calls_from conv x rest)) goes ∙ (same ∙ ap (λ (l : Trace). told_of (calls_from conv d l)) (sym (alone_by conv trace step rest false left)))

keep_step : (conv : ℕ) (trace : Trace) (step : Step) (c next d other : Calls) (rest : Trace) → calls_on conv c step ≡ next → calls_from conv d (alone_at conv trace step) ≡ other →
    is_step_of conv trace step ≡ true → SameMoves conv next other rest (alone_from conv (trace ++ step ∷ []) rest) → SameMoves conv c d (step ∷ rest) (alone_from conv trace (step ∷ rest))
keep_step conv trace step c next d other rest goes on kept same =
    let left : Trace = alone_from conv (trace ++ step ∷ []) rest in
    ap (λ (x : Calls). told_of (calls_from conv x rest)) goes
    ∙ (same
    ∙ (ap (λ (x : Calls). told_of (calls_from conv x left)) (sym on)
    ∙ (ap told_of (sym (calls_from_more conv d (alone_at conv trace step) left)) ∙ ap (λ (l : Trace). told_of (calls_from conv d l)) (sym (alone_by conv trace step rest true kept)))))

-- the calls are those of the trace, one step further
follow : (conv : ℕ) (trace : Trace) (step : Step) (c next : Calls) → calls_on conv c step ≡ next → c ≡ calls conv trace → next ≡ calls conv (trace ++ step ∷ [])
follow conv trace step c next goes is = sym goes ∙ (ap (λ (x : Calls). calls_on conv x step) is ∙ sym (calls_more conv trace step))

later_alike : (moment : ℕ) (c d : Calls) → Alike c d → Alike (at_moment moment c) d
later_alike moment c d like = record { peer = like.peer; dial = like.dial; connected = like.connected; moves = like.moves }

-- what is said of the rest, where the calls so far are those of the trace
abbrev Goes : ℕ → Trace → Actor → Trace → Type 0
Goes conv trace actor rest = (c d : Calls) → Alike c d → AtOne conv actor c d → c ≡ calls conv trace → SameMoves conv c d rest (alone_from conv trace rest)

-- where the conversation may not act its moment does not count
no_moment : (conv number : ℕ) (c d : Calls) → (number == conv) ≡ false → AtOne conv (one number) c d
no_moment conv number c d apart is = let wrong : true ≡ false = sym is ∙ apart in absurd (cc)

acts_so : (conv : ℕ) (trace : Trace) (moment : ℕ) (what : Heard) (word : Word) → word_of trace what ≡ word → is_step_of conv trace (steps.Heard moment what) ≡ is_actor conv (actor_by word (addressed what))
acts_so conv trace moment what word is = ap (λ (w : Word). is_actor conv (actor_by w (addressed what))) is

heard_some : (conv : ℕ) (trace : Trace) (c d : Calls) (moment : ℕ) (what : Heard) (rest : Trace) (number : ℕ) (about : News) (mine : Bool) → (number == conv) ≡ mine →
    addressed what ≡ Some (number, about) → word_of trace what ≡ nothing → Alike c d → c ≡ calls conv trace → Goes conv (trace ++ steps.Heard moment what ∷ []) (one number) rest →
    SameMoves conv c d (steps.Heard moment what ∷ rest) (alone_from conv trace (steps.Heard moment what ∷ rest))
heard_some conv trace c d moment what rest number about true m is quiet like so go =
    let on : (x : Calls) → calls_on conv x (steps.Heard moment what) ≡ at_moment moment (takes moment x about) = λ x.
    ap (λ a. at_moment moment (hears_by conv moment x a)) is ∙ ap (λ (b : Bool). at_moment moment (cond b (takes moment x about) x)) m in
    keep_step conv trace (steps.Heard moment what) c _ d _ rest (on c) (on d) (acts_so conv trace moment what nothing quiet ∙ (ap (λ a. is_actor conv (actor_of a)) is ∙ m))
    (go _ _ (moment_alike moment moment _ _ (takes_alike moment c d about like)) (λ _. refl) (follow conv trace (steps.Heard moment what) c _ (on c) so))
heard_some conv trace c d moment what rest number about false m is quiet like so go =
    let on : calls_on conv c (steps.Heard moment what) ≡ at_moment moment c =
    ap (λ a. at_moment moment (hears_by conv moment c a)) is ∙ ap (λ (b : Bool). at_moment moment (cond b (takes moment c about) c)) m in
    drop_step conv trace (steps.Heard moment what) c _ d rest on (acts_so conv trace moment what nothing quiet ∙ (ap (λ a. is_actor conv (actor_of a)) is ∙ m))
    (go _ _ (later_alike moment c d like) (no_moment conv number (at_moment moment c) d m) (follow conv trace (steps.Heard moment what) c _ on so))

heard_by : (conv : ℕ) (trace : Trace) (c d : Calls) (moment : ℕ) (what : Heard) (rest : Trace) (a : Option (ℕ × News)) → addressed what ≡ a → word_of trace what ≡ nothing → Alike c d → c ≡ calls conv trace →
    Goes conv (trace ++ steps.Heard moment what ∷ []) (actor_of a) rest → SameMoves conv c d (steps.Heard moment what ∷ rest) (alone_from conv trace (steps.Heard moment what ∷ rest))
heard_by conv trace c d moment what rest None is quiet like so go =
    let on : calls_on conv c (steps.Heard moment what) ≡ at_moment moment c = ap (λ a. at_moment moment (hears_by conv moment c a)) is in
    drop_step conv trace (steps.Heard moment what) c _ d rest on (acts_so conv trace moment what nothing quiet ∙ ap (λ a. is_actor conv (actor_of a)) is)
    (go _ _ (later_alike moment c d like) (λ (e : false ≡ true). absurd (cc)) (follow conv trace (steps.Heard moment what) c _ on so))
heard_by conv trace c d moment what rest (Some (number, about)) is quiet like so go = heard_some conv trace c d moment what rest number about (number == conv) refl is quiet like so go

-- what is heard is taken alike
heard_alike : (conv moment : ℕ) (a : Option (ℕ × News)) (c d : Calls) → Alike c d → Alike (hears_by conv moment c a) (hears_by conv moment d a)
heard_alike conv moment None c d like = like
heard_alike conv moment (Some (number, about)) c d like = by (number == conv)
  where
    by : (mine : Bool) → Alike (cond mine (takes moment c about) c) (cond mine (takes moment d about) d)
    by true = takes_alike moment c d about like
    by false = like

-- what an operator said is kept for each conversation
heard_kept : (conv : ℕ) (trace : Trace) (c d : Calls) (moment : ℕ) (what : Heard) (rest : Trace) → acts_behind trace what ≡ anybody → Alike c d → c ≡ calls conv trace →
    Goes conv (trace ++ steps.Heard moment what ∷ []) anybody rest → SameMoves conv c d (steps.Heard moment what ∷ rest) (alone_from conv trace (steps.Heard moment what ∷ rest))
heard_kept conv trace c d moment what rest is like so go =
    keep_step conv trace (steps.Heard moment what) c _ d _ rest refl refl (ap (is_actor conv) is)
    (go _ _ (moment_alike moment moment _ _ (heard_alike conv moment (addressed what) c d like)) (λ _. refl) (follow conv trace (steps.Heard moment what) c _ refl so))

heard_word : (conv : ℕ) (trace : Trace) (c d : Calls) (moment : ℕ) (what : Heard) (rest : Trace) (word : Word) → word_of trace what ≡ word → Alike c d → c ≡ calls conv trace →
    Goes conv (trace ++ steps.Heard moment what ∷ []) (actor_by word (addressed what)) rest →
    SameMoves conv c d (steps.Heard moment what ∷ rest) (alone_from conv trace (steps.Heard moment what ∷ rest))
heard_word conv trace c d moment what rest nothing is like so go = heard_by conv trace c d moment what rest (addressed what) refl is like so go
heard_word conv trace c d moment what rest (says by lines) is like so go = heard_kept conv trace c d moment what rest (ap (λ (w : Word). actor_by w (addressed what)) is) like so go
heard_word conv trace c d moment what rest (leaves by) is like so go = heard_kept conv trace c d moment what rest (ap (λ (w : Word). actor_by w (addressed what)) is) like so go

-- a step that is no call
still : (conv : ℕ) (trace : Trace) (step : Step) (c d : Calls) (rest : Trace) (mine : Bool) → is_step_of conv trace step ≡ mine → alone_at conv trace step ≡ step ∷ [] → ((x : Calls) → calls_on conv x step ≡ x) →
    SameMoves conv c d rest (alone_from conv (trace ++ step ∷ []) rest) → SameMoves conv c d (step ∷ rest) (alone_from conv trace (step ∷ rest))
still conv trace step c d rest true m kept on same = keep_step conv trace step c c d d rest (on c) (ap (calls_from conv d) kept ∙ on d) m same
still conv trace step c d rest false m kept on same = drop_step conv trace step c c d rest (on c) m same

-- a conversation begins with no one heard, at the moment of what was heard last
begins_so : (conv : ℕ) (trace : Trace) (number : ℕ) (c d : Calls) (rest : Trace) (mine : Bool) → (number == conv) ≡ mine → Alike c d → c ≡ calls conv trace →
    Goes conv (trace ++ steps.Begun number ∷ []) (one number) rest → SameMoves conv c d (steps.Begun number ∷ rest) (alone_from conv trace (steps.Begun number ∷ rest))
begins_so conv trace number c d rest true m like so go =
    let moment : ℕ = (calls conv trace).moment in
    let same : c.moment ≡ moment = ap (λ (x : Calls). x.moment) so in
    let on : (x : Calls) → calls_on conv x (steps.Begun number) ≡ begins x.moment None x = λ x. ap (λ (b : Bool). cond b (begins x.moment None x) x) m in
    keep_step conv trace (steps.Begun number) c _ d _ rest (on c) (on (at_moment moment d)) m
    (go _ _ (begins_alike c.moment moment None c (at_moment moment d) same (record { peer = like.peer; dial = like.dial; connected = like.connected; moves = like.moves }))
    (λ _. begins_moment c.moment None c (is_some c.peer) refl ∙ (same ∙ sym (begins_moment moment None (at_moment moment d) (is_some d.peer) refl)))
    (follow conv trace (steps.Begun number) c _ (on c) so))
begins_so conv trace number c d rest false m like so go =
    let on : calls_on conv c (steps.Begun number) ≡ c = ap (λ (b : Bool). cond b (begins c.moment None c) c) m in
    drop_step conv trace (steps.Begun number) c c d rest on m (go c d like (no_moment conv number c d m) (follow conv trace (steps.Begun number) c c on so))

-- a step of the conversation is one where it may act
acts : (conv number : ℕ) (actor : Actor) (ask : Ask) (reply : Reply) → IsBy actor (steps.Answered number ask reply) → (number == conv) ≡ true → is_actor conv actor ≡ true
acts conv number nobody ask reply here m = absurd here
acts conv number (one last) ask reply here m = eq-eqb last conv (sym here ∙ number_is conv number m)
acts conv number anybody ask reply here m = refl

replied_by : (conv : ℕ) (trace : Trace) (actor : Actor) (number : ℕ) (ask : Ask) (reply : Reply) (c d : Calls) (rest : Trace) (mine : Bool) → (number == conv) ≡ mine →
    IsBy actor (steps.Answered number ask reply) → Alike c d → AtOne conv actor c d → c ≡ calls conv trace → Goes conv (trace ++ steps.Answered number ask reply ∷ []) actor rest →
    SameMoves conv c d (steps.Answered number ask reply ∷ rest) (alone_from conv trace (steps.Answered number ask reply ∷ rest))
replied_by conv trace actor number ask reply c d rest true m is like at so go =
    let on : (x : Calls) → calls_on conv x (steps.Answered number ask reply) ≡ moved (Replied x.moment reply) x = λ x. ap (λ (b : Bool). cond b (moved (Replied x.moment reply) x) x) m in
    let same : c.moment ≡ d.moment = at (acts conv number actor ask reply is m) in
    keep_step conv trace (steps.Answered number ask reply) c _ d _ rest (on c) (on d) m
    (go _ _ (record {
      peer = like.peer;
      dial = like.dial;
      connected = like.connected;
      moves = ap (λ l. l ++ Replied c.moment reply ∷ []) like.moves ∙ ap (λ n. d.moves ++ Replied n reply ∷ []) same;
    }) (λ e. at e) (follow conv trace (steps.Answered number ask reply) c _ (on c) so))
replied_by conv trace actor number ask reply c d rest false m is like at so go =
    let on : calls_on conv c (steps.Answered number ask reply) ≡ c = ap (λ (b : Bool). cond b (moved (Replied c.moment reply) c) c) m in
    drop_step conv trace (steps.Answered number ask reply) c c d rest on m (go c d like at (follow conv trace (steps.Answered number ask reply) c c on so))

dials_moment : (what : Said) (c : Calls) → (dials what c).moment ≡ c.moment
dials_moment (said.Send side text) c = refl
dials_moment (said.Close side) c = refl
dials_moment (said.Dial server address) c = refl

said_by : (conv : ℕ) (trace : Trace) (actor : Actor) (number : ℕ) (what : Said) (c d : Calls) (rest : Trace) (mine : Bool) → (number == conv) ≡ mine → Alike c d → AtOne conv actor c d →
    c ≡ calls conv trace → Goes conv (trace ++ steps.Said number what ∷ []) actor rest → SameMoves conv c d (steps.Said number what ∷ rest) (alone_from conv trace (steps.Said number what ∷ rest))
said_by conv trace actor number what c d rest true m like at so go =
    let on : (x : Calls) → calls_on conv x (steps.Said number what) ≡ dials what x = λ x. ap (λ (b : Bool). cond b (dials what x) x) m in
    keep_step conv trace (steps.Said number what) c _ d _ rest (on c) (on d) m
    (go _ _ (dials_alike what c d like) (λ e. dials_moment what c ∙ (at e ∙ sym (dials_moment what d))) (follow conv trace (steps.Said number what) c _ (on c) so))
said_by conv trace actor number what c d rest false m like at so go =
    let on : calls_on conv c (steps.Said number what) ≡ c = ap (λ (b : Bool). cond b (dials what c) c) m in
    drop_step conv trace (steps.Said number what) c c d rest on m (go c d like at (follow conv trace (steps.Said number what) c c on so))

own_steps : (conv : ℕ) (trace : Trace) (actor : Actor) (rest : Trace) → OwnFrom trace actor rest → Goes conv trace actor rest
own_steps conv trace actor [] own c d like at so = same_told c d like.peer like.moves
own_steps conv trace actor (steps.Heard moment what ∷ rest) own c d like at so =
    heard_word conv trace c d moment what rest (word_of trace what) refl like so (own_steps conv (trace ++ steps.Heard moment what ∷ []) (acts_behind trace what) rest own)
own_steps conv trace actor (steps.Begun number ∷ rest) own c d like at so =
    begins_so conv trace number c d rest (number == conv) refl like so (own_steps conv (trace ++ steps.Begun number ∷ []) (one number) rest own)
own_steps conv trace actor (steps.Asked number ask ∷ rest) (here, own) c d like at so =
    still conv trace (steps.Asked number ask) c d rest (number == conv) refl refl (λ x. refl)
    (own_steps conv (trace ++ steps.Asked number ask ∷ []) actor rest own c d like at (follow conv trace (steps.Asked number ask) c c refl so))
own_steps conv trace actor (steps.Answered number ask reply ∷ rest) (here, own) c d like at so =
    replied_by conv trace actor number ask reply c d rest (number == conv) refl here like at so (own_steps conv (trace ++ steps.Answered number ask reply ∷ []) actor rest own)
own_steps conv trace actor (steps.Said number what ∷ rest) (here, own) c d like at so =
    said_by conv trace actor number what c d rest (number == conv) refl like at so (own_steps conv (trace ++ steps.Said number what ∷ []) actor rest own)
own_steps conv trace actor (steps.Done flow ∷ rest) (here, own) c d like at so =
    still conv trace (steps.Done flow) c d rest (flow.id.conv == conv) refl refl (λ x. refl)
    (own_steps conv (trace ++ steps.Done flow ∷ []) actor rest own c d like at (follow conv trace (steps.Done flow) c c refl so))

own_front : (trace : Trace) (actor : Actor) (prefix rest : Trace) → OwnFrom trace actor (prefix ++ rest) → OwnFrom trace actor prefix
own_front trace actor [] rest own = tt
own_front trace actor (steps.Heard moment what ∷ prefix) rest own = own_front (trace ++ steps.Heard moment what ∷ []) (acts_behind trace what) prefix rest own
own_front trace actor (steps.Begun number ∷ prefix) rest own = own_front (trace ++ steps.Begun number ∷ []) (one number) prefix rest own
own_front trace actor (steps.Asked number ask ∷ prefix) rest (here, own) = (here, own_front (trace ++ steps.Asked number ask ∷ []) actor prefix rest own)
own_front trace actor (steps.Answered number ask reply ∷ prefix) rest (here, own) = (here, own_front (trace ++ steps.Answered number ask reply ∷ []) actor prefix rest own)
own_front trace actor (steps.Said number what ∷ prefix) rest (here, own) = (here, own_front (trace ++ steps.Said number what ∷ []) actor prefix rest own)
own_front trace actor (steps.Done flow ∷ prefix) rest (here, own) = (here, own_front (trace ++ steps.Done flow ∷ []) actor prefix rest own)

isolated_now : (due : Due) (trace : Trace) → IsOwn trace → IsIsolated due trace
isolated_now due trace own conv view =
    let start : Alike no_calls no_calls = record { peer = refl; dial = refl; connected = refl; moves = refl } in
    ap (λ (t : Option (Option Address) × List Move). seen_of view (due_at due conv t.0 t.1)) (own_steps conv [] nobody trace own no_calls no_calls start (λ (e : false ≡ true). absurd (cc)) refl)

-- at every moment
pub isolated : (due : Due) (trace : Trace) → IsOwn trace → Always (IsIsolated due) trace
isolated due trace own = record {
  at = λ prefix rest is. let P : Trace → Type 0 = IsOwn in isolated_now due prefix (own_front [] nobody prefix rest (subst P is own));
}

-- ---- a run

own_anybody : (trace : Trace) (list : List Step) → NoneHeard list → OwnFrom trace anybody list
own_anybody trace [] none = tt
own_anybody trace (steps.Heard moment what ∷ list) none = absurd none
own_anybody trace (steps.Begun conv ∷ list) none = absurd none
own_anybody trace (steps.Asked number ask ∷ list) none = (tt, own_anybody (trace ++ steps.Asked number ask ∷ []) list none)
own_anybody trace (steps.Answered number ask reply ∷ list) none = (tt, own_anybody (trace ++ steps.Answered number ask reply ∷ []) list none)
own_anybody trace (steps.Said number what ∷ list) none = (tt, own_anybody (trace ++ steps.Said number what ∷ []) list none)
own_anybody trace (steps.Done flow ∷ list) none = (tt, own_anybody (trace ++ steps.Done flow ∷ []) list none)

-- steps that follow what was heard, of whomever it is
own_steps_of : (trace before : Trace) (what : Heard) (list : List Step) (word : Word) → word_of trace what ≡ word → (word_of trace what ≡ nothing → IsOfHeard what list) → NoneHeard list →
    OwnFrom before (acts_behind trace what) list
own_steps_of trace before what list nothing is of none = own_heard trace before what list is (of is)
own_steps_of trace before what list (says conv lines) is of none =
    let P : Word → Type 0 = λ w. OwnFrom before (actor_by w (addressed what)) list in subst P (sym is) (own_anybody before list none)
own_steps_of trace before what list (leaves conv) is of none =
    let P : Word → Type 0 = λ w. OwnFrom before (actor_by w (addressed what)) list in subst P (sym is) (own_anybody before list none)

module _ {S : Type 0} (answers : Answering S) (drops : List ℕ → S → S → Type 0) (names : S → List (List ℕ)) (due : Due) (first : AnswererState S) where
  adds_own : (trace : Trace) (course : Course S) (moment : ℕ) (what : Heard) (more : List Step) (next : Trace) (turned : Course S) → Adds drops trace course moment what more next turned → IsOwn trace → IsOwn next
  adds_own trace course moment what more next turned a own =
      own_next trace moment what a.added next a.is_next own (own_steps_of trace (trace ++ steps.Heard moment what ∷ []) what a.added (word_of trace what) refl a.own a.quiet)

  own_worked : (told trace : Trace) (course : Course S) (over : Bool) → Worked answers drops names due first told trace course over → IsOwn trace
  own_worked told trace course over not_begun = tt
  own_worked told trace course over (one_worked before told_now behind next from turned saved moment what more is_over old new worked turns is same is_saved) =
      adds_own behind from moment what more next turned (turns_adds answers drops names due behind from moment what more next turned is_over turns) (own_worked before behind from false worked)
  own_worked told trace course over (one_begun before told_now behind next from saved conv more old new worked all is is_next same is_saved) =
      own_begun behind conv more next is_next (own_worked before behind from false worked) all

  -- also where it broke off
  pub own_part : (told trace : Trace) (course : Course S) → WorkedPart answers drops names due first told trace course → IsOwn trace
  own_part told trace course (all_worked before behind from over worked) = own_worked before behind from over worked
  own_part told trace course (breaks_in before told_now behind next from broken moment what more worked breaks is) =
      adds_own behind from moment what more next broken (breaks_adds answers drops names due behind from moment what more next broken breaks) (own_worked before behind from false worked)
  own_part told trace course (breaks_begun before told_now behind next from conv more worked front is is_next) = own_front_of_begun behind conv more next is_next (own_worked before behind from false worked) front
