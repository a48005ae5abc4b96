-- What is told beside the steps of conversations: the same calls, at the same moment. And a run one beginning further.
use Rattle.std.proofs.Common.{◌≡◌, ℕ, ◌+◌, ◌==◌, Bool, true, false, cond, List, [], ◌∷◌, ◌++◌, Option, Some, None, refl, sym, ap, append-nil, append_assoc, ◌∙◌}
use Rattle.px_event.specs.declared.heard.Heard.{Heard}
use Rattle.px_event.specs.declared.said.Said.{Said}
use Rattle.px_event.specs.declared.said.Said.TheVariants as said
use Rattle.px_event.specs.declared.side.Side.TheVariants.{Client, Server}
use Rattle.px_event.specs.declared.step.Step.{Step}
use Rattle.px_event.specs.declared.step.Step.TheVariants as steps
use Rattle.px_event.specs.Trace.{Trace}
use Rattle.px_core.specs.Answers.{Answering, AnswererState}
use Rattle.px_core.specs.Calls.{Calls, calls, calls_from, calls_on, dials, no_calls}
use Rattle.px_core.specs.Course.{Course}
use Rattle.px_core.specs.Due.{Due}
use Rattle.px_core.specs.Held.{AllOf}
use Rattle.px_core.specs.Run.{IsFrontOfBegun}
use Rattle.px_core.specs.Router.{IsNow}
use Rattle.px_app.specs.Operating.{OperatorsStand}
use Rattle.px_app.specs.Operators.{word_of}
use Rattle.px_app.specs.Over.{finished_in, rests_of}
use Rattle.px_app.specs.Statuses.{heard_count}
use Rattle.px_app.specs.Worked.{Worked, not_begun, one_begun, one_worked}
use Rattle.px_app.specs.declared.operators.Operators.{Operators}
use Rattle.px_app.proofs.CountLemmas.{count_begun, done_begun}
use Rattle.px_app.proofs.OperatorLemmas.{begun_on_alone, calls_from_more}
use Rattle.px_app.proofs.RestLemmas.{rests_first}
use Rattle.px_app.proofs.TurnLemmas.{Among, AmongAny, IsToOperator, no_steps, none_of, operator_of, said_more, same_step, turns_adds}

-- ---- what is said to operators is no call

dials_none : (what : Said) (c : Calls) → IsToOperator what → dials what c ≡ c
dials_none (said.Send Client text) c to = refl
dials_none (said.Send (Server server) text) c to = absurd to
dials_none (said.Close Client) c to = refl
dials_none (said.Close (Server server)) c to = absurd to
dials_none (said.Dial server address) c to = absurd to

cond_same : (test : Bool) (one c : Calls) → one ≡ c → cond test one c ≡ c
cond_same true one c same = same
cond_same false one c same = refl

among_calls : (n conv : ℕ) (c : Calls) (more added : List Step) → Among conv more added → calls_from n c more ≡ calls_from n c added
among_calls n conv c more added no_steps = refl
among_calls n conv c more added (same_step step list rest among) = among_calls n conv (calls_on n c step) list rest among
among_calls n conv c more added (said_more what list rest to among) =
    ap (λ (x : Calls). calls_from n x list) (cond_same (conv == n) (dials what c) c (dials_none what c to)) ∙ among_calls n conv c list rest among

any_calls : (n : ℕ) (conv : Option ℕ) (c : Calls) (more added : List Step) → AmongAny conv more added → calls_from n c more ≡ calls_from n c added
any_calls n None c more added same = ap (calls_from n c) same
any_calls n (Some conv) c more added among = among_calls n conv c more added among

-- the same step, and steps that come to the same calls, behind traces with the same calls
calls_both : (n : ℕ) (told trace : Trace) (step : Step) (more added : Trace) → calls n told ≡ calls n trace → ((c : Calls) → calls_from n c more ≡ calls_from n c added) →
    calls n ((told ++ step ∷ []) ++ more) ≡ calls n ((trace ++ step ∷ []) ++ added)
calls_both n told trace step more added same steps_same =
    let parts : (t m : Trace) → calls n ((t ++ step ∷ []) ++ m) ≡ calls_from n (calls_on n (calls n t) step) m = λ t m.
    calls_from_more n no_calls (t ++ step ∷ []) m ∙ ap (λ (c : Calls). calls_from n c m) (calls_from_more n no_calls t (step ∷ [])) in
    parts told more
    ∙ (ap (λ (c : Calls). calls_from n (calls_on n c step) more) same ∙ (steps_same (calls_on n (calls n trace) step) ∙ sym (parts trace added)))

-- ---- a run

module _ {S : Type 0} (answers : Answering S) (drops : List ℕ → S → S → Type 0) (names : S → List (List ℕ)) (due : Due) where
  module _ (first : AnswererState S) where
    -- what is told has the calls that the steps of conversations have
    pub calls_beside : (told trace : Trace) (course : Course S) (over : Bool) → Worked answers drops names due first told trace course over → (n : ℕ) → calls n told ≡ calls n trace
    calls_beside told trace course over not_begun n = refl
    calls_beside told trace course over (one_worked before told_now behind next from turned saved moment what more is_over old new worked turns is same is_saved) n =
        let adds = turns_adds answers drops names due behind from moment what more next turned is_over turns in
        ap (calls n) is
        ∙ (calls_both n before behind (steps.Heard moment what) more adds.added (calls_beside before behind from false worked n)
        (λ c. any_calls n (operator_of (word_of behind what)) c more adds.added adds.among) ∙ ap (calls n) (sym adds.is_next))
    calls_beside told trace course over (one_begun before told_now behind next from saved conv more old new worked own is is_next same is_saved) n =
        ap (calls n) is ∙ (calls_both n before behind (steps.Begun conv) more more (calls_beside before behind from false worked n) (λ c. refl) ∙ ap (calls n) (sym is_next))

    pub peer_beside : (told trace : Trace) (course : Course S) (over : Bool) → Worked answers drops names due first told trace course over → (n : ℕ) → (calls n told).peer ≡ (calls n trace).peer
    peer_beside told trace course over worked n = ap (λ (c : Calls). c.peer) (calls_beside told trace course over worked n)

    pub moment_beside : (told trace : Trace) (course : Course S) (over : Bool) → Worked answers drops names due first told trace course over → (n : ℕ) → (calls n told).moment ≡ (calls n trace).moment
    moment_beside told trace course over worked n = ap (λ (c : Calls). c.moment) (calls_beside told trace course over worked n)

    -- and so the same moment
    pub now_beside : (moment : ℕ) (told trace : Trace) (course : Course S) (over : Bool) → Worked answers drops names due first told trace course over → IsNow moment told → IsNow moment trace
    now_beside moment told trace course over worked now = λ n. sym (moment_beside told trace course over worked n) ∙ now n

-- ---- a conversation without a client has begun, with steps of its own behind

-- the trace is one rest further
pub rests_begun : (trace : Trace) (conv : ℕ) (more : Trace) → AllOf conv more →
    rests_of ((trace ++ steps.Begun conv ∷ []) ++ more) ≡ rests_of trace ++ ((trace ++ steps.Begun conv ∷ []) ++ more) ∷ []
rests_begun trace conv more all = rests_first trace (steps.Begun conv) more (λ prefix rest. refl) (none_of conv more all)

pub heard_begun : (trace : Trace) (conv : ℕ) (more : Trace) → AllOf conv more → heard_count ((trace ++ steps.Begun conv ∷ []) ++ more) ≡ heard_count trace
heard_begun trace conv more all = count_begun trace conv more (none_of conv more all)

-- so behind a front of them, memory ran out
pub heard_front : (trace : Trace) (conv : ℕ) (more : Trace) → IsFrontOfBegun conv more → heard_count (trace ++ more) ≡ heard_count trace
heard_front trace conv [] own = ap heard_count (append-nil trace)
heard_front trace conv (step ∷ more) (is, own) =
    ap (λ (s : Step). heard_count (trace ++ s ∷ more)) is ∙ (ap heard_count (sym (append_assoc trace (steps.Begun conv ∷ []) more)) ∙ heard_begun trace conv more own)

pub finished_begun : (trace : Trace) (conv : ℕ) (more : Trace) → finished_in ((trace ++ steps.Begun conv ∷ []) ++ more) ≡ finished_in trace ++ finished_in more
finished_begun trace conv more = done_begun trace conv more

-- operators stay as they are
pub operators_begun : (operators : Operators) (trace : Trace) (conv : ℕ) (more : Trace) → AllOf conv more → OperatorsStand operators trace → OperatorsStand operators ((trace ++ steps.Begun conv ∷ []) ++ more)
operators_begun operators trace conv more all they = begun_on_alone operators trace conv more (none_of conv more all) they
