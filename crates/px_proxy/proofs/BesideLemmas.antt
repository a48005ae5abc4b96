-- What is told beside the steps of conversations: it is these, and what is said to operators.
use Rattle.std.proofs.Common.{◌≡◌, ◌∙◌, inl, inr, ℕ, Bool, true, false, cond, refl, ap, sym, subst, List, [], ◌∷◌, ◌++◌, ◌==◌, ◌||◌, Option, Some, None, append-nil}
use Rattle.std.specs.List.{flat_map}
use Rattle.std.proofs.lemmas.Bool.Decides.{eqb_tells}
use Rattle.std.proofs.lemmas.List.{append_assoc}
use Rattle.std.proofs.lemmas.List.Folds.{list_any-append}
use Rattle.std.proofs.lemmas.Grind.{flat_map-append}
use Rattle.px_message.specs.declared.address.Address.{Address}
use Rattle.px_event.specs.declared.heard.Heard.{Heard}
use Rattle.px_event.specs.declared.heard.Heard.TheVariants as heard
use Rattle.px_event.specs.declared.said.Said.{Said}
use Rattle.px_event.specs.declared.said.Said.TheVariants as said
use Rattle.px_event.specs.declared.side.Door.TheVariants.{Control, Proxy}
use Rattle.px_event.specs.declared.side.Side.{Side}
use Rattle.px_event.specs.declared.side.Side.TheVariants.{Client, Server}
use Rattle.px_event.specs.declared.step.Step.{Step}
use Rattle.px_event.specs.declared.step.Step.TheVariants as steps
use Rattle.px_event.specs.Trace.{Trace, Always, bytes_for, bytes_to, said_in, sent}
use Rattle.px_event.specs.Trace as traces
use Rattle.px_core.specs.Answers.{Answering, AnswererState}
use Rattle.px_core.specs.Calls.{Calls, calls, calls_from, calls_on, no_calls}
use Rattle.px_core.specs.Course.{Course}
use Rattle.px_core.specs.Due.{Due}
use Rattle.px_view.specs.Desk.{Stand, fresh, stands}
use Rattle.px_app.specs.Operators.{says_at, leaves_at, operator_stand, stand_by_step, stand_from, word_of}
use Rattle.px_app.specs.Servers.{CountsFrom, CountsServers, dialled_in, server_of}
use Rattle.px_app.specs.Worked.{Worked, WorkedPart, not_begun, one_worked, one_begun, all_worked, breaks_in, breaks_begun}
use Rattle.px_app.proofs.TurnLemmas.{Adds, Among, AmongAny, IsToOperator, breaks_adds, no_steps, operator_of, said_more, same_step, turns_adds}
use Rattle.px_wire.specs.Taken.{SendsToOpened, is_opened, opens}
use Rattle.px_proxy.specs.TakenDue.{accepts_operator, is_operators}

-- Behind these steps, what is told is those steps, and among them what is said to operators.
pub data Beside : Trace → List Step → List Step → Type 0 where
  none_beside : (before : Trace) → Beside before [] []
  same_beside : (before : Trace) (step : Step) (told trace : List Step) → Beside (before ++ step ∷ []) told trace → Beside before (step ∷ told) (step ∷ trace)
  said_beside : (before : Trace) (conv : ℕ) (what : Said) (told trace : List Step) → is_operators conv before ≡ true → IsToOperator what → Beside (before ++ steps.Said conv what ∷ []) told trace →
      Beside before (steps.Said conv what ∷ told) trace

-- ---- joined

pub operators_more : (conv : ℕ) (trace more : Trace) → is_operators conv trace ≡ true → is_operators conv (trace ++ more) ≡ true
operators_more conv trace more is = list_any-append (accepts_operator conv) trace more ∙ ap (λ (b : Bool). b || is_operators conv more) is

pub all_beside : (before : Trace) (list : List Step) → Beside before list list
all_beside before [] = none_beside before
all_beside before (step ∷ list) = same_beside before step list list (all_beside (before ++ step ∷ []) list)

pub beside_joined : (before : Trace) (told trace more added : List Step) → Beside before told trace → Beside (before ++ told) more added → Beside before (told ++ more) (trace ++ added)
beside_joined before told trace more added (none_beside early) b = let P : Trace → Type 0 = λ t. Beside t more added in subst P (append-nil early) b
beside_joined before told trace more added (same_beside early step list rest a) b =
    let P : Trace → Type 0 = λ t. Beside t more added in
    same_beside early step (list ++ more) (rest ++ added) (beside_joined (early ++ step ∷ []) list rest more added a (subst P (sym (append_assoc early (step ∷ []) list)) b))
beside_joined before told trace more added (said_beside early conv what list rest is to a) b =
    let P : Trace → Type 0 = λ t. Beside t more added in
    said_beside early conv what (list ++ more) (rest ++ added) is to
    (beside_joined (early ++ steps.Said conv what ∷ []) list rest more added a (subst P (sym (append_assoc early (steps.Said conv what ∷ []) list)) b))

among_beside : (conv : ℕ) (before : Trace) (more added : List Step) → is_operators conv before ≡ true → Among conv more added → Beside before more added
among_beside conv before more added is no_steps = none_beside before
among_beside conv before more added is (same_step step list rest a) =
    same_beside before step list rest (among_beside conv (before ++ step ∷ []) list rest (operators_more conv before (step ∷ []) is) a)
among_beside conv before more added is (said_more what list rest to a) =
    said_beside before conv what list rest is to (among_beside conv (before ++ steps.Said conv what ∷ []) list rest (operators_more conv before (steps.Said conv what ∷ []) is) a)

any_beside : (by : Option ℕ) (before : Trace) (more added : List Step) → ((conv : ℕ) → by ≡ Some conv → is_operators conv before ≡ true) → AmongAny by more added → Beside before more added
any_beside None before more added is same = let P : List Step → Type 0 = λ l. Beside before more l in subst P same (all_beside before more)
any_beside (Some conv) before more added is among = among_beside conv before more added (is conv refl) among

-- ---- who has lines was accepted as an operator

number_is : (conv number : ℕ) → (number == conv) ≡ true → number ≡ conv
number_is conv number is = elim (eqb_tells number conv) [ inl t ↦ t.1 | inr f ↦ absurd (let wrong : true ≡ false = sym is ∙ f.0 in cc) ]

stands_none : (bytes : List ℕ) → stands bytes None ≡ None
stands_none [] = refl
stands_none (b ∷ bytes) = stands_none bytes

either_none : (b : Bool) (stand : Stand) → stand ≡ None → cond b stand None ≡ None
either_none true stand is = is
either_none false stand is = refl

stand_still : (conv : ℕ) (step : Step) → accepts_operator conv step ≡ false → stand_by_step conv None step ≡ None
stand_still conv (steps.Heard moment (heard.Accepted number Control peer)) other = ap (λ (b : Bool). cond b fresh None) other
stand_still conv (steps.Heard moment (heard.Accepted number Proxy peer)) other = refl
stand_still conv (steps.Heard moment (heard.Piece number Client bytes)) other = either_none (number == conv) (stands bytes None) (stands_none bytes)
stand_still conv (steps.Heard moment (heard.Piece number (Server server) bytes)) other = refl
stand_still conv (steps.Heard moment (heard.Closed number Client)) other = either_none (number == conv) None refl
stand_still conv (steps.Heard moment (heard.Closed number (Server server))) other = refl
stand_still conv (steps.Heard moment (heard.Dialled number server ok)) other = refl
stand_still conv (steps.Heard moment heard.End) other = refl
stand_still conv (steps.Begun number) other = refl
stand_still conv (steps.Asked number ask) other = refl
stand_still conv (steps.Answered number ask reply) other = refl
stand_still conv (steps.Said number what) other = refl
stand_still conv (steps.Done flow) other = refl

-- neither is
no_first : (a b : Bool) → (a || b) ≡ false → a ≡ false
no_first true b is = is
no_first false b is = refl

no_second : (a b : Bool) → (a || b) ≡ false → b ≡ false
no_second true b is = let wrong : true ≡ false = is in absurd (cc)
no_second false b is = is

stand_none : (conv : ℕ) (trace : Trace) → is_operators conv trace ≡ false → stand_from conv None trace ≡ None
stand_none conv [] never = refl
stand_none conv (step ∷ trace) never =
    ap (λ (s : Stand). stand_from conv s trace) (stand_still conv step (no_first (accepts_operator conv step) (is_operators conv trace) never))
    ∙ stand_none conv trace (no_second (accepts_operator conv step) (is_operators conv trace) never)

stand_operators : (conv : ℕ) (trace : Trace) (kept : List ℕ) → operator_stand conv trace ≡ Some kept → is_operators conv trace ≡ true
stand_operators conv trace kept is = by (is_operators conv trace) refl
  where
    by : (b : Bool) → is_operators conv trace ≡ b → is_operators conv trace ≡ true
    by true so = so
    by false so = let e : None ≡ Some kept = sym (stand_none conv trace so) ∙ is in absurd (cc)

says_operators : (trace : Trace) (number conv : ℕ) (bytes : List ℕ) (stand : Stand) (peer : Option (Option Address)) → operator_stand number trace ≡ stand → operator_of (says_at number stand peer bytes) ≡ Some conv →
    is_operators conv trace ≡ true
says_operators trace number conv bytes None peer was is = let e : None ≡ Some conv = is in absurd (cc)
says_operators trace number conv bytes (Some kept) (Some at) was is = let e : None ≡ Some conv = is in absurd (cc)
says_operators trace number conv bytes (Some kept) None was is =
    let same : number ≡ conv = (let e : Some number ≡ Some conv = is in cc) in
    let P : ℕ → Type 0 = λ n. is_operators n trace ≡ true in subst P same (stand_operators number trace kept was)

leaves_operators : (trace : Trace) (number conv : ℕ) (stand : Stand) (peer : Option (Option Address)) → operator_stand number trace ≡ stand → operator_of (leaves_at number stand peer) ≡ Some conv →
    is_operators conv trace ≡ true
leaves_operators trace number conv None peer was is = let e : None ≡ Some conv = is in absurd (cc)
leaves_operators trace number conv (Some kept) (Some at) was is = let e : None ≡ Some conv = is in absurd (cc)
leaves_operators trace number conv (Some kept) None was is =
    let same : number ≡ conv = (let e : Some number ≡ Some conv = is in cc) in
    let P : ℕ → Type 0 = λ n. is_operators n trace ≡ true in subst P same (stand_operators number trace kept was)

word_operators : (trace : Trace) (what : Heard) (conv : ℕ) → operator_of (word_of trace what) ≡ Some conv → is_operators conv trace ≡ true
word_operators trace (heard.Accepted number door peer) conv is = let e : None ≡ Some conv = is in absurd (cc)
word_operators trace (heard.Piece number Client bytes) conv is = says_operators trace number conv bytes (operator_stand number trace) (calls number trace).peer refl is
word_operators trace (heard.Piece number (Server server) bytes) conv is = let e : None ≡ Some conv = is in absurd (cc)
word_operators trace (heard.Closed number Client) conv is = leaves_operators trace number conv (operator_stand number trace) (calls number trace).peer refl is
word_operators trace (heard.Closed number (Server server)) conv is = let e : None ≡ Some conv = is in absurd (cc)
word_operators trace (heard.Dialled number server ok) conv is = let e : None ≡ Some conv = is in absurd (cc)
word_operators trace heard.End conv is = let e : None ≡ Some conv = is in absurd (cc)

-- ---- what is the same in both

pub beside_operators : (conv : ℕ) (before : Trace) (told trace : List Step) → Beside before told trace → is_operators conv told ≡ is_operators conv trace
beside_operators conv before told trace (none_beside early) = refl
beside_operators conv before told trace (same_beside early step list rest b) = ap (λ (x : Bool). accepts_operator conv step || x) (beside_operators conv (early ++ step ∷ []) list rest b)
beside_operators conv before told trace (said_beside early number what list rest is to b) = beside_operators conv (early ++ steps.Said number what ∷ []) list rest b

same_either : {A : Type 0} (b : Bool) (x : A) → cond b x x ≡ x
same_either true x = refl
same_either false x = refl

said_still : (conv number : ℕ) (what : Said) (c : Calls) → IsToOperator what → calls_on conv c (steps.Said number what) ≡ c
said_still conv number (said.Send Client text) c to = same_either (number == conv) c
said_still conv number (said.Send (Server server) text) c to = absurd to
said_still conv number (said.Close Client) c to = same_either (number == conv) c
said_still conv number (said.Close (Server server)) c to = absurd to
said_still conv number (said.Dial server address) c to = absurd to

beside_from : (conv : ℕ) (c : Calls) (before : Trace) (told trace : List Step) → Beside before told trace → calls_from conv c told ≡ calls_from conv c trace
beside_from conv c before told trace (none_beside early) = refl
beside_from conv c before told trace (same_beside early step list rest b) = beside_from conv (calls_on conv c step) (early ++ step ∷ []) list rest b
beside_from conv c before told trace (said_beside early number what list rest is to b) =
    ap (λ (x : Calls). calls_from conv x list) (said_still conv number what c to) ∙ beside_from conv c (early ++ steps.Said number what ∷ []) list rest b

-- what is said to operators is no call
pub beside_calls : (conv : ℕ) (before : Trace) (told trace : List Step) → Beside before told trace → calls conv told ≡ calls conv trace
beside_calls conv before told trace b = beside_from conv no_calls before told trace b

beside_stand : (conv : ℕ) (stand : Stand) (before : Trace) (told trace : List Step) → Beside before told trace → stand_from conv stand told ≡ stand_from conv stand trace
beside_stand conv stand before told trace (none_beside early) = refl
beside_stand conv stand before told trace (same_beside early step list rest b) = beside_stand conv (stand_by_step conv stand step) (early ++ step ∷ []) list rest b
beside_stand conv stand before told trace (said_beside early number what list rest is to b) = beside_stand conv stand (early ++ steps.Said number what ∷ []) list rest b

-- nor does it change what something heard is to operators
pub beside_word : (told trace : Trace) (what : Heard) → Beside [] told trace → word_of told what ≡ word_of trace what
beside_word told trace (heard.Accepted number door peer) b = refl
beside_word told trace (heard.Piece number Client bytes) b =
    ap (λ (s : Stand). says_at number s (calls number told).peer bytes) (beside_stand number None [] told trace b)
    ∙ ap (λ (c : Calls). says_at number (operator_stand number trace) c.peer bytes) (beside_calls number [] told trace b)
beside_word told trace (heard.Piece number (Server server) bytes) b = refl
beside_word told trace (heard.Closed number Client) b =
    ap (λ (s : Stand). leaves_at number s (calls number told).peer) (beside_stand number None [] told trace b)
    ∙ ap (λ (c : Calls). leaves_at number (operator_stand number trace) c.peer) (beside_calls number [] told trace b)
beside_word told trace (heard.Closed number (Server server)) b = refl
beside_word told trace (heard.Dialled number server ok) b = refl
beside_word told trace heard.End b = refl

-- the same steps behind both
same_behind : (told next_told trace next : Trace) (more : List Step) → Beside [] told trace → next_told ≡ told ++ more → next ≡ trace ++ more → Beside [] next_told next
same_behind told next_told trace next more b is also =
    let all = beside_joined [] told trace more more b (all_beside told more) in
    let P : Trace → Type 0 = λ t. Beside [] t (trace ++ more) in
    let Q : Trace → Type 0 = λ t. Beside [] next_told t in
    subst Q (sym also) (subst P (sym is) all)

-- ---- a run

module _ {S : Type 0} (answers : Answering S) (drops : List ℕ → S → S → Type 0) (names : S → List (List ℕ)) (due : Due) (first : AnswererState S) where
  adds_beside : (told next_told trace : Trace) (course : Course S) (moment : ℕ) (what : Heard) (more : List Step) (next : Trace) (turned : Course S) →
      Beside [] told trace → Adds drops trace course moment what more next turned → next_told ≡ (told ++ steps.Heard moment what ∷ []) ++ more → Beside [] next_told next
  adds_beside told next_told trace course moment what more next turned b a is =
      let step = steps.Heard moment what in
      let heard_too : Beside [] (told ++ step ∷ []) (trace ++ step ∷ []) = beside_joined [] told trace (step ∷ []) (step ∷ []) b (all_beside told (step ∷ [])) in
      let by : (conv : ℕ) → operator_of (word_of trace what) ≡ Some conv → is_operators conv (told ++ step ∷ []) ≡ true = λ conv of.
      operators_more conv told (step ∷ []) (beside_operators conv [] told trace b ∙ word_operators trace what conv of) in
      let all = beside_joined [] (told ++ step ∷ []) (trace ++ step ∷ []) more a.added heard_too (any_beside (operator_of (word_of trace what)) (told ++ step ∷ []) more a.added by a.among) in
      let P : Trace → Type 0 = λ t. Beside [] t ((trace ++ step ∷ []) ++ a.added) in
      let Q : Trace → Type 0 = λ t. Beside [] next_told t in
      subst Q (sym a.is_next) (subst P (sym is) all)

  pub worked_beside : (told trace : Trace) (course : Course S) (over : Bool) → Worked answers drops names due first told trace course over → Beside [] told trace
  worked_beside told trace course over not_begun = none_beside []
  worked_beside told trace course over (one_worked before now behind next from turned saved moment what more is_over old new worked turns is same is_saved) =
      adds_beside before now behind from moment what more next turned (worked_beside before behind from false worked)
      (turns_adds answers drops names due behind from moment what more next turned is_over turns) is
  worked_beside told trace course over (one_begun before now behind next from saved conv more old new worked own joined also same is_saved) =
      same_behind before now behind next (steps.Begun conv ∷ more) (worked_beside before behind from false worked) (joined ∙ append_assoc before (steps.Begun conv ∷ []) more)
      (also ∙ append_assoc behind (steps.Begun conv ∷ []) more)

  -- also where it broke off
  pub part_beside : (told trace : Trace) (course : Course S) → WorkedPart answers drops names due first told trace course → Beside [] told trace
  part_beside told trace course (all_worked before behind from over worked) = worked_beside before behind from over worked
  part_beside told trace course (breaks_in before now behind next from broken moment what more worked breaks is) =
      adds_beside before now behind from moment what more next broken (worked_beside before behind from false worked)
      (breaks_adds answers drops names due behind from moment what more next broken breaks) is
  part_beside told trace course (breaks_begun before now behind next from conv more worked own joined also) = same_behind before now behind next more (worked_beside before behind from false worked) joined also

-- ---- fronts

-- what was told stands beside a front of the trace
pub record IsBesideFront (before : Trace) (prefix trace : List Step) : Type 0 where
  pub front : List Step
  pub later : List Step
  pub is : trace ≡ front ++ later
  pub beside : Beside before prefix front

pub beside_front : (before : Trace) (prefix rest trace : List Step) → Beside before (prefix ++ rest) trace → IsBesideFront before prefix trace
beside_front before [] rest trace b = record { front = []; later = trace; is = refl; beside = none_beside before }
beside_front before (step ∷ prefix) rest trace (same_beside early one list behind b) =
    let less = beside_front (before ++ step ∷ []) prefix rest behind b in
    record { front = step ∷ less.front; later = less.later; is = ap (λ (l : Trace). step ∷ l) less.is; beside = same_beside before step prefix less.front less.beside }
beside_front before (step ∷ prefix) rest trace (said_beside early conv what list behind is to b) =
    let less = beside_front (before ++ steps.Said conv what ∷ []) prefix rest behind b in
    record { front = less.front; later = less.later; is = less.is; beside = said_beside before conv what prefix less.front is to less.beside }

-- so what holds at every moment in the one does in the other
pub always_beside : (P Q : Trace → Type 0) → ((told trace : Trace) → Beside [] told trace → P trace → Q told) → (told trace : Trace) → Beside [] told trace → Always P trace → Always Q told
always_beside P Q by told trace b all = record {
  at = λ prefix rest is.
      (let B : Trace → Type 0 = λ t. Beside [] t trace in
      let front = beside_front [] prefix rest trace (subst B is b) in
      by prefix front.front front.beside (all.at front.front front.later front.is));
}

-- ---- what is sent

quiet_said : (f : Said → List ℕ) (mine : Bool) (what : Said) → f what ≡ [] → flat_map f (cond mine (what ∷ []) []) ≡ []
quiet_said f true what none = append-nil (f what) ∙ none
quiet_said f false what none = refl

-- what says nothing of what is said to operators says the same of both
quiet_same : (f : Said → List ℕ) → ((what : Said) → IsToOperator what → f what ≡ []) → (conv : ℕ) (before : Trace) (told trace : List Step) → Beside before told trace →
    flat_map f (traces.said told conv) ≡ flat_map f (traces.said trace conv)
quiet_same f none conv before told trace (none_beside early) = refl
quiet_same f none conv before told trace (same_beside early step list rest b) =
    flat_map-append f (said_in conv step) (traces.said list conv)
    ∙ (ap (λ (l : List ℕ). flat_map f (said_in conv step) ++ l) (quiet_same f none conv (early ++ step ∷ []) list rest b)
    ∙ sym (flat_map-append f (said_in conv step) (traces.said rest conv)))
quiet_same f none conv before told trace (said_beside early number what list rest is to b) =
    flat_map-append f (said_in conv (steps.Said number what)) (traces.said list conv)
    ∙ (ap (λ (l : List ℕ). l ++ flat_map f (traces.said list conv)) (quiet_said f (number == conv) what (none what to))
    ∙ quiet_same f none conv (early ++ steps.Said number what ∷ []) list rest b)

not_dialled : (what : Said) → IsToOperator what → server_of what ≡ []
not_dialled (said.Send side text) to = refl
not_dialled (said.Close side) to = refl
not_dialled (said.Dial server address) to = absurd to

not_server : (server : ℕ) (what : Said) → IsToOperator what → bytes_for (Server server) what ≡ []
not_server server (said.Send Client text) to = refl
not_server server (said.Send (Server other) text) to = absurd to
not_server server (said.Close side) to = refl
not_server server (said.Dial other address) to = refl

pub beside_dialled : (conv : ℕ) (told trace : Trace) → Beside [] told trace → dialled_in told conv ≡ dialled_in trace conv
beside_dialled conv told trace b = quiet_same server_of not_dialled conv [] told trace b

pub beside_counts : (told trace : Trace) → Beside [] told trace → CountsServers trace → CountsServers told
beside_counts told trace b counts conv = let P : List ℕ → Type 0 = CountsFrom 0 in subst P (sym (beside_dialled conv told trace b)) (counts conv)

-- another number than an operator's
other_number : (conv number : ℕ) (before : Trace) (mine : Bool) → (number == conv) ≡ mine → is_operators number before ≡ true → is_operators conv before ≡ false → (number == conv) ≡ false
other_number conv number before false m is never = m
other_number conv number before true m is never =
    let P : ℕ → Type 0 = λ n. is_operators n before ≡ true in
    let so : is_operators conv before ≡ true = subst P (number_is conv number m) is in
    let e : true ≡ false = sym so ∙ never in absurd (cc)

never_more : (conv : ℕ) (before : Trace) (step : Step) → is_operators conv before ≡ false → accepts_operator conv step ≡ false → is_operators conv (before ++ step ∷ []) ≡ false
never_more conv before step never other =
    list_any-append (accepts_operator conv) before (step ∷ [])
    ∙ (ap (λ (b : Bool). b || (accepts_operator conv step || false)) never ∙ ap (λ (b : Bool). b || false) other)

-- to a number that is no operator's nothing else is said
said_same : (conv : ℕ) (before : Trace) (told trace : List Step) → is_operators conv before ≡ false → is_operators conv told ≡ false → Beside before told trace → traces.said told conv ≡ traces.said trace conv
said_same conv before told trace never not_later (none_beside early) = refl
said_same conv before told trace never not_later (same_beside early step list rest b) =
    ap (λ (l : List Said). said_in conv step ++ l)
    (said_same conv (early ++ step ∷ []) list rest (never_more conv early step never (no_first (accepts_operator conv step) (is_operators conv list) not_later))
    (no_second (accepts_operator conv step) (is_operators conv list) not_later) b)
said_same conv before told trace never not_later (said_beside early number what list rest is to b) =
    ap (λ (mine : Bool). cond mine (what ∷ []) [] ++ traces.said list conv) (other_number conv number early (number == conv) refl is never)
    ∙ said_same conv (early ++ steps.Said number what ∷ []) list rest (never_more conv early (steps.Said number what) never refl) not_later b

pub beside_sent : (conv : ℕ) (side : Side) (told trace : Trace) → is_operators conv told ≡ false → Beside [] told trace → sent told conv side ≡ sent trace conv side
beside_sent conv side told trace never b = ap (bytes_to side) (said_same conv [] told trace refl never b)

to_operator_opens : (conv number : ℕ) (side : Side) (what : Said) → IsToOperator what → opens conv side (steps.Said number what) ≡ false
to_operator_opens conv number Client what to = refl
to_operator_opens conv number (Server server) (said.Send side text) to = refl
to_operator_opens conv number (Server server) (said.Close side) to = refl
to_operator_opens conv number (Server server) (said.Dial other address) to = absurd to

beside_opened : (conv : ℕ) (side : Side) (before : Trace) (told trace : List Step) → Beside before told trace → is_opened conv side told ≡ is_opened conv side trace
beside_opened conv side before told trace (none_beside early) = refl
beside_opened conv side before told trace (same_beside early step list rest b) = ap (λ (x : Bool). opens conv side step || x) (beside_opened conv side (early ++ step ∷ []) list rest b)
beside_opened conv side before told trace (said_beside early number what list rest is to b) =
    ap (λ (x : Bool). x || is_opened conv side list) (to_operator_opens conv number side what to) ∙ beside_opened conv side (early ++ steps.Said number what ∷ []) list rest b

accepts_opens : (conv : ℕ) (step : Step) → opens conv Client step ≡ false → accepts_operator conv step ≡ false
accepts_opens conv (steps.Heard moment (heard.Accepted number Control peer)) never = never
accepts_opens conv (steps.Heard moment (heard.Accepted number Proxy peer)) never = refl
accepts_opens conv (steps.Heard moment (heard.Piece number side bytes)) never = refl
accepts_opens conv (steps.Heard moment (heard.Closed number side)) never = refl
accepts_opens conv (steps.Heard moment (heard.Dialled number server ok)) never = refl
accepts_opens conv (steps.Heard moment heard.End) never = refl
accepts_opens conv (steps.Begun number) never = refl
accepts_opens conv (steps.Asked number ask) never = refl
accepts_opens conv (steps.Answered number ask reply) never = refl
accepts_opens conv (steps.Said number what) never = refl
accepts_opens conv (steps.Done flow) never = refl

neither : (a b : Bool) → a ≡ false → b ≡ false → (a || b) ≡ false
neither a b first second = ap (λ (x : Bool). x || b) first ∙ second

-- whose client was not accepted is no operator
unopened_operators : (conv : ℕ) (trace : Trace) → is_opened conv Client trace ≡ false → is_operators conv trace ≡ false
unopened_operators conv [] never = refl
unopened_operators conv (step ∷ trace) never =
    neither (accepts_operator conv step) (is_operators conv trace) (accepts_opens conv step (no_first (opens conv Client step) (is_opened conv Client trace) never))
    (unopened_operators conv trace (no_second (opens conv Client step) (is_opened conv Client trace) never))

-- nothing is said to an operator who was not accepted
pub beside_sends : (told trace : Trace) → Beside [] told trace → SendsToOpened trace → SendsToOpened told
beside_sends told trace b sends conv Client never =
    beside_sent conv Client told trace (unopened_operators conv told never) b ∙ sends conv Client (sym (beside_opened conv Client [] told trace b) ∙ never)
beside_sends told trace b sends conv (Server server) never =
    quiet_same (bytes_for (Server server)) (not_server server) conv [] told trace b ∙ sends conv (Server server) (sym (beside_opened conv (Server server) [] told trace b) ∙ never)
