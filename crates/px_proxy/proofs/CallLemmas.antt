-- The calls of a conversation in a trace: no more of them connect a server than dials were said, and it has no client before one
-- was accepted.
use Rattle.std.proofs.Common.{◌≡◌, ◌∙◌, ℕ, ◌+◌, ◌≤◌, Bool, true, false, cond, refl, ap, arith, List, [], ◌∷◌, ◌++◌, ◌==◌, length, Option, Some, None}
use Rattle.std.specs.Prelude.{is_some, nat_lt}
use Rattle.std.specs.List.{flat_map}
use Rattle.std.proofs.lemmas.List.{append-nil, length-append}
use Rattle.px_message.specs.declared.address.Address.{Address}
use Rattle.px_event.specs.declared.side.Side.{Side}
use Rattle.px_event.specs.declared.side.Side.TheVariants.{Client}
use Rattle.px_event.specs.declared.side.Door.{Door}
use Rattle.px_event.specs.declared.side.Door.TheVariants.{Proxy, Control}
use Rattle.px_event.specs.declared.heard.Heard.{Heard}
use Rattle.px_event.specs.declared.heard.Heard.TheVariants as heard
use Rattle.px_event.specs.declared.event.Event.{Event}
use Rattle.px_event.specs.declared.event.Event.TheVariants as events
use Rattle.px_event.specs.declared.reply.Reply.{Reply}
use Rattle.px_event.specs.declared.ask.Ask.{Ask}
use Rattle.px_event.specs.declared.said.Said.{Said}
use Rattle.px_event.specs.declared.said.Said.TheVariants as said
use Rattle.px_event.specs.declared.step.Step.{Step}
use Rattle.px_event.specs.declared.step.Step.TheVariants as steps
use Rattle.px_event.specs.Layer.{Move, Took, Replied}
use Rattle.px_event.specs.Trace.{Trace, said_in}
use Rattle.px_core.specs.declared.news.News.{News}
use Rattle.px_core.specs.declared.news.News.TheVariants as news
use Rattle.px_core.specs.Calls.{Calls, begins, no_calls, number_end, moved, addressed, is_connected, is_dialling, dial_reply, dial_ends, takes, hears_by, hears, dials, calls_on, calls_from, calls}
use Rattle.px_app.specs.Servers.{server_of, dialled_in}
use Rattle.px_chain.specs.Silent.{connects, connections}
use Rattle.px_wire.specs.Taken.{opens, is_opened}
use Rattle.px_proxy.proofs.DialLemmas.{dialled_joined}

-- ---- the dials that were answered

-- no answer of a hook is that of a dial
abbrev pub NoDialAnswered : Trace → Type 0
NoDialAnswered trace = (prefix rest : Trace) (conv : ℕ) (ask : Ask) (reply : Reply) → trace ≡ prefix ++ steps.Answered conv ask reply ∷ rest → connects reply ≡ 0

abbrev awaits : Option ℕ → ℕ
awaits None = 0
awaits (Some server) = 1

-- so many connected, and the dial that is not answered may
abbrev Within : Calls → ℕ → Type 0
Within c n = connections c.moves + awaits c.dial ≤ n

connections_joined : (moves : List Move) (moment : ℕ) (reply : Reply) → connections (moves ++ Replied moment reply ∷ []) ≡ connections moves + connects reply
connections_joined [] moment reply = omega arith
connections_joined (Took at event ∷ moves) moment reply = connections_joined moves moment reply
connections_joined (Replied at other ∷ moves) moment reply = let e = connections_joined moves moment reply in omega arith

took_joined : (moves : List Move) (moment : ℕ) (event : Event) → connections (moves ++ Took moment event ∷ []) ≡ connections moves
took_joined [] moment event = refl
took_joined (Took at other ∷ moves) moment event = took_joined moves moment event
took_joined (Replied at other ∷ moves) moment event = let e = took_joined moves moment event in omega arith

dial_reply_connects : (ok : Bool) → connects (dial_reply ok) ≤ 1
dial_reply_connects true = omega arith
dial_reply_connects false = omega arith

begun_within : (moment n : ℕ) (c : Calls) (peer : Option Address) (begun : Bool) → is_some c.peer ≡ begun → Within c n → Within (begins moment peer c) n
begun_within moment n c peer true is within = rw is within
begun_within moment n c peer false is within = let e = took_joined c.moves moment events.Begun in rw is (omega arith)

event_within : (moment n : ℕ) (c : Calls) (side : Side) (event : Event) (begun connected : Bool) → is_some c.peer ≡ begun → is_connected side c.connected ≡ connected
    → Within c n → Within (takes moment c (news.Event side event)) n
event_within moment n c side event false connected is also within = rw is within
event_within moment n c side event true false is also within = rw (is, also) within
event_within moment n c side event true true is also within = let e = took_joined c.moves moment event in rw (is, also) (omega arith)

awaited : (server : ℕ) (dial : Option ℕ) → is_dialling server dial ≡ true → awaits dial ≡ 1
awaited server None is = let e : false ≡ true = is in absurd (cc)
awaited server (Some other) is = refl

dialled_within : (moment n : ℕ) (c : Calls) (server : ℕ) (ok : Bool) (dialling : Bool) → is_dialling server c.dial ≡ dialling → Within c n → Within (takes moment c (news.Dialled server ok)) n
dialled_within moment n c server ok false is within = rw is within
dialled_within moment n c server ok true is within =
    let e = connections_joined c.moves moment (dial_reply ok) in
    let one = awaited server c.dial is in
    let most = dial_reply_connects ok in
    rw is (omega arith)

takes_within : (moment n : ℕ) (c : Calls) (what : News) → Within c n → Within (takes moment c what) n
takes_within moment n c (news.Begun peer) within = begun_within moment n c (Some peer) (is_some c.peer) refl within
takes_within moment n c (news.Event side event) within = event_within moment n c side event (is_some c.peer) (is_connected side c.connected) refl refl within
takes_within moment n c (news.Dialled server ok) within = dialled_within moment n c server ok (is_dialling server c.dial) refl within

hears_within : (conv moment n : ℕ) (c : Calls) (a : Option (ℕ × News)) → Within c n → Within (hears_by conv moment c a) n
hears_within conv moment n c None within = within
hears_within conv moment n c (Some (number, what)) within = by (number == conv)
  where
    by : (mine : Bool) → Within (cond mine (takes moment c what) c) n
    by true = takes_within moment n c what within
    by false = within

began_within : (n : ℕ) (c : Calls) (mine : Bool) → Within c n → Within (cond mine (begins c.moment None c) c) n
began_within n c true within = begun_within c.moment n c None (is_some c.peer) refl within
began_within n c false within = within

answered_within : (moment n : ℕ) (c : Calls) (reply : Reply) (mine : Bool) → connects reply ≡ 0 → Within c n → Within (cond mine (record c { moves = c.moves ++ Replied moment reply ∷ [] }) c) n
answered_within moment n c reply true none within = let e = connections_joined c.moves moment reply in omega arith
answered_within moment n c reply false none within = within

said_within : (n : ℕ) (c : Calls) (what : Said) (mine : Bool) → Within c n → Within (cond mine (dials what c) c) (n + length (flat_map server_of (cond mine (what ∷ []) [])))
said_within n c (said.Dial server address) true within = omega arith
said_within n c (said.Dial server address) false within = omega arith
said_within n c (said.Send side text) true within = omega arith
said_within n c (said.Send side text) false within = omega arith
said_within n c (said.Close side) true within = omega arith
said_within n c (said.Close side) false within = omega arith

no_more : (n m : ℕ) (c : Calls) → m ≡ 0 → Within c n → Within c (n + m)
no_more n m c none within = omega arith

step_within : (conv n : ℕ) (c : Calls) (step : Step) → ((number : ℕ) (ask : Ask) (reply : Reply) → step ≡ steps.Answered number ask reply → connects reply ≡ 0)
    → Within c n → Within (calls_on conv c step) (n + length (flat_map server_of (said_in conv step)))
step_within conv n c (steps.Heard moment what) none within = no_more n 0 (calls_on conv c (steps.Heard moment what)) refl (hears_within conv moment n c (addressed what) within)
step_within conv n c (steps.Begun number) none within = no_more n 0 (calls_on conv c (steps.Begun number)) refl (began_within n c (number == conv) within)
step_within conv n c (steps.Asked number ask) none within = no_more n 0 c refl within
step_within conv n c (steps.Answered number ask reply) none within =
    no_more n 0 (calls_on conv c (steps.Answered number ask reply)) refl (answered_within c.moment n c reply (number == conv) (none number ask reply refl) within)
step_within conv n c (steps.Said number what) none within = said_within n c what (number == conv) within
step_within conv n c (steps.Done flow) none within = no_more n 0 c refl within

from_within : (conv n : ℕ) (c : Calls) (trace : Trace) → NoDialAnswered trace → Within c n → Within (calls_from conv c trace) (n + length (dialled_in trace conv))
from_within conv n c [] none within = no_more n 0 c refl within
from_within conv n c (step ∷ trace) none within =
    let first : Within (calls_on conv c step) (n + length (flat_map server_of (said_in conv step))) =
    step_within conv n c step (λ number ask reply is. none [] trace number ask reply (ap (λ (s : Step). s ∷ trace) is)) within in
    let rest = from_within conv (n + length (flat_map server_of (said_in conv step))) (calls_on conv c step) trace
    (λ prefix more number ask reply is. none (step ∷ prefix) more number ask reply (ap (λ (t : Trace). step ∷ t) is)) first in
    let all : length (dialled_in (step ∷ trace) conv) ≡ length (flat_map server_of (said_in conv step)) + length (dialled_in trace conv) =
    ap length (dialled_joined (step ∷ []) trace conv) ∙ (length-append (dialled_in (step ∷ []) conv) (dialled_in trace conv)
    ∙ ap (λ (l : List Said). length (flat_map server_of l) + length (dialled_in trace conv)) (append-nil (said_in conv step))) in
    omega arith

-- no more connect than were dialled
pub connections_most : (conv : ℕ) (trace : Trace) → NoDialAnswered trace → connections (calls conv trace).moves ≤ length (dialled_in trace conv)
connections_most conv trace none = let within = from_within conv 0 no_calls trace none (let e : 0 + 0 ≤ 0 = omega arith in e) in omega arith

-- ---- before the client

-- it has not begun, or it began without a client
abbrev pub HasNoClient : Option (Option Address) → Type 0
HasNoClient None = Unit {0}
HasNoClient (Some None) = Unit {0}
HasNoClient (Some (Some peer)) = ⊥

begun_by : (conv moment : ℕ) (c : Calls) (peer : Address) (number : ℕ) (below : Bool) → (number == conv) ≡ false → HasNoClient c.peer
    → HasNoClient (hears_by conv moment c (cond below (Some (number, news.Begun peer)) None)).peer
begun_by conv moment c peer number true other none = rw other none
begun_by conv moment c peer number false other none = none

accepted_by : (conv moment : ℕ) (c : Calls) (number : ℕ) (door : Door) (peer : Address) → (number == conv) ≡ false → HasNoClient c.peer
    → HasNoClient (hears conv moment c (heard.Accepted number door peer)).peer
accepted_by conv moment c number Proxy peer other none = begun_by conv moment c peer number (nat_lt number number_end) other none
accepted_by conv moment c number Control peer other none = none

mine_or : (mine : Bool) (a b : Calls) → HasNoClient a.peer → HasNoClient b.peer → HasNoClient (cond mine a b).peer
mine_or true a b one other = one
mine_or false a b one other = other

event_by : (moment : ℕ) (c : Calls) (side : Side) (event : Event) → HasNoClient c.peer → HasNoClient (takes moment c (news.Event side event)).peer
event_by moment c side event none =
    mine_or (is_some c.peer) (cond (is_connected side c.connected) (moved (Took moment event) c) c) c (mine_or (is_connected side c.connected) (moved (Took moment event) c) c none none) none

heard_by : (conv moment : ℕ) (c : Calls) (what : Heard) → opens conv Client (steps.Heard moment what) ≡ false → HasNoClient c.peer → HasNoClient (hears conv moment c what).peer
heard_by conv moment c (heard.Accepted number door peer) other none = accepted_by conv moment c number door peer other none
heard_by conv moment c (heard.Piece number side bytes) other none = mine_or (number == conv) (takes moment c (news.Event side (events.Piece side bytes))) c (event_by moment c side (events.Piece side bytes) none) none
heard_by conv moment c (heard.Closed number side) other none = mine_or (number == conv) (takes moment c (news.Event side (events.Closed side))) c (event_by moment c side (events.Closed side) none) none
heard_by conv moment c (heard.Dialled number server ok) other none =
    mine_or (number == conv) (takes moment c (news.Dialled server ok)) c (mine_or (is_dialling server c.dial) (dial_ends moment server ok c) c none none) none
heard_by conv moment c heard.End other none = none

dials_by : (what : Said) (c : Calls) → HasNoClient c.peer → HasNoClient (dials what c).peer
dials_by (said.Dial server address) c none = none
dials_by (said.Send side text) c none = none
dials_by (said.Close side) c none = none

began_by : (c : Calls) → HasNoClient c.peer → HasNoClient (begins c.moment None c).peer
began_by c none = mine_or (is_some c.peer) c (record c { peer = Some None; moves = c.moves ++ Took c.moment events.Begun ∷ [] }) none tt

step_by : (conv : ℕ) (c : Calls) (step : Step) → opens conv Client step ≡ false → HasNoClient c.peer → HasNoClient (calls_on conv c step).peer
step_by conv c (steps.Heard moment what) other none = heard_by conv moment c what other none
step_by conv c (steps.Begun number) other none = mine_or (number == conv) (begins c.moment None c) c (began_by c none) none
step_by conv c (steps.Asked number ask) other none = none
step_by conv c (steps.Answered number ask reply) other none = mine_or (number == conv) (moved (Replied c.moment reply) c) c none none
step_by conv c (steps.Said number what) other none = mine_or (number == conv) (dials what c) c (dials_by what c none) none
step_by conv c (steps.Done flow) other none = none

from_by : (conv : ℕ) (c : Calls) (trace : Trace) → is_opened conv Client trace ≡ false → HasNoClient c.peer → HasNoClient (calls_from conv c trace).peer
from_by conv c [] never none = none
from_by conv c (step ∷ trace) never none = by (opens conv Client step) refl (λ here rest. from_by conv (calls_on conv c step) trace rest (step_by conv c step here none))
  where
    by : (b : Bool) → opens conv Client step ≡ b → (opens conv Client step ≡ false → is_opened conv Client trace ≡ false → HasNoClient (calls_from conv (calls_on conv c step) trace).peer)
        → HasNoClient (calls_from conv (calls_on conv c step) trace).peer
    by true is onward = let e : true ≡ false = rw is at never in absurd (cc)
    by false is onward = let rest : is_opened conv Client trace ≡ false = rw is at never in onward is rest

-- it has no client before one was accepted
pub no_client : (conv : ℕ) (trace : Trace) → is_opened conv Client trace ≡ false → HasNoClient (calls conv trace).peer
no_client conv trace never = from_by conv no_calls trace never tt
