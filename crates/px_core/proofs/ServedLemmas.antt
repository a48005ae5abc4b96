-- What a trace promises, one step of a conversation further.
use Rattle.std.proofs.Common.{◌≡◌, ◌≢◌, ◌⊎◌, inl, inr, ℕ, true, false, ◌==◌, List, [], ◌∷◌, ◌++◌, map, Option, Some, ap, sym, ◌∙◌, subst, append_assoc}
use Rattle.std.proofs.lemmas.List.{append-nil}
use Rattle.std.proofs.lemmas.Bool.Decides.{eqb_tells}
use Rattle.px_text.specs.Prefix.{IsPrefixOf}
use Rattle.px_message.specs.declared.address.Address.{Address}
use Rattle.px_event.specs.declared.ask.Ask.{Ask}
use Rattle.px_event.specs.declared.reply.Reply.{Reply}
use Rattle.px_event.specs.declared.command.Command.{Command}
use Rattle.px_event.specs.declared.command.Command.TheVariants as commands
use Rattle.px_event.specs.declared.heard.Heard.{Heard}
use Rattle.px_event.specs.declared.step.Step.{Step}
use Rattle.px_event.specs.declared.step.Step.TheVariants as steps
use Rattle.px_event.specs.Layer.{Move, Standing}
use Rattle.px_event.specs.Trace.{Trace, Always}
use Rattle.px_event.specs.View.{View, Atom, IsTold, seen_of, seen_in, command_atoms, step_atoms}
use Rattle.px_event.proofs.Seen.{seen_append}
use Rattle.px_event.proofs.TraceLemmas.{front_of_more, IsFrontOfMore, always_more, before_other}
use Rattle.px_core.specs.declared.held.Held.{Held}
use Rattle.px_core.specs.Answers.{Answering}
use Rattle.px_core.specs.Calls.{Calls, calls, calls_of}
use Rattle.px_core.specs.Conversation.{IsNamed, AllNamed}
use Rattle.px_core.specs.Due.{Due, due_at, due_by, due_in, IsWithinDue, IsAllTold, IsMet, EndsMet, OpenOnesWait, IsServed}
use Rattle.px_core.specs.Held.{step_of, IsOf, dial_by, dial_from, Within}
use Rattle.px_core.specs.Hooks.{IsInTurn, EndsInTurn, hook_of}
use Rattle.px_core.specs.Runs.{has}
use Rattle.px_core.specs.Unmarked.{all_unmarked, none_marked}
use Rattle.px_core.proofs.CallLemmas.{calls_more, seen_more, others_calls, others_seen, told_calls, told_seen, told_own}
use Rattle.px_core.proofs.HookLemmas.{turn_is, turn_on}
use Rattle.px_core.proofs.SideLemmas.{servers_along}
use Rattle.px_core.proofs.UnmarkedLemmas.{alike_seen, unmarked_append}

-- the last elements of two equal lists
last_in : (x y : Step) (trace prefix : Trace) → IsFrontOfMore trace x prefix (y ∷ []) → (prefix ≡ trace) × (y ≡ x)
last_in x y trace prefix (inl h) = absurd (let no : y ∷ [] ≡ [] = h.1 in cc)
last_in x y trace prefix (inr h) = by h.0 h.1 h.2
  where
    by : (most : List Step) → trace ≡ prefix ++ most → y ∷ [] ≡ most ++ x ∷ [] → (prefix ≡ trace) × (y ≡ x)
    by [] whole is = (sym (append-nil prefix) ∙ sym whole, cc)
    by (m ∷ most) whole is = absurd (none most (cc))
      where
        none : (most : List Step) → [] ≡ most ++ x ∷ [] → ⊥
        none [] e = cc
        none (n ∷ most) e = cc

pub last_step : (trace prefix : Trace) (x y : Step) → trace ++ x ∷ [] ≡ prefix ++ y ∷ [] → (prefix ≡ trace) × (y ≡ x)
last_step trace prefix x y e = last_in x y trace prefix (front_of_more trace x prefix (y ∷ []) e)

-- a trace that ends with a step in its turn
pub ends_in_turn : (trace : Trace) (step : Step) → IsInTurn trace step → EndsInTurn (trace ++ step ∷ [])
ends_in_turn trace step turn prefix other e =
    let last = last_step trace prefix step other e in
    let P : Trace → Type 0 = λ t. IsInTurn t other in
    let Q : Step → Type 0 = IsInTurn trace in
    subst P (sym last.0) (subst Q (sym last.1) turn)

no_answer : (conv number : ℕ) (ask : Ask) (reply : Reply) (command : Command) → steps.Answered number ask reply ≡ step_of conv command → ⊥
no_answer conv number ask reply (commands.Send side text) e = cc
no_answer conv number ask reply (commands.Close side) e = cc
no_answer conv number ask reply (commands.Dial server address inside) e = cc
no_answer conv number ask reply (commands.Ask other flow) e = cc
no_answer conv number ask reply (commands.Done flow) e = cc

no_heard : (conv : ℕ) (step : Step) → IsOf conv step → (moment : ℕ) (heard : Heard) → step ≡ steps.Heard moment heard → ⊥
no_heard conv step of moment heard is = let P : Step → Type 0 = IsOf conv in let no : ⊥ = subst P is of in no

-- what is due where its client is there
pub due_there : (due : Due) (conv : ℕ) (trace : Trace) (peer : Option Address) → (calls conv trace).peer ≡ Some peer → (view : View) →
    due_in due view conv trace ≡ seen_of view (due conv peer (calls_of conv trace))
due_there due conv trace peer is view = ap (λ at. seen_of view (due_at due conv at (calls_of conv trace))) is

-- what is due where the same is known
pub due_same : (due : Due) (conv : ℕ) (a b : Calls) → a.peer ≡ b.peer → a.moves ≡ b.moves → due_by due conv a ≡ due_by due conv b
due_same due conv a b peer moves = ap (λ at. due_at due conv at a.moves) peer ∙ ap (due_at due conv b.peer) moves

module _ {S : Type 0} (answers : Answering S) (due : Due) where
  -- the others stay within what is due to them
  pub step_within : (conv : ℕ) (trace : Trace) (step : Step) → IsOf conv step → IsWithinDue due trace →
      ((view : View) → IsTold view → IsPrefixOf (all_unmarked (seen_in view conv (trace ++ step ∷ []))) (all_unmarked (due_in due view conv (trace ++ step ∷ [])))) →
      IsWithinDue due (trace ++ step ∷ [])
  step_within conv trace step of before own other view told = by (eqb_tells conv other)
    where
      by : ((conv == other) ≡ true) × (conv ≡ other) ⊎ ((conv == other) ≡ false) × (conv ≢ other) →
          IsPrefixOf (all_unmarked (seen_in view other (trace ++ step ∷ []))) (all_unmarked (due_in due view other (trace ++ step ∷ [])))
      by (inl same) = let P : ℕ → Type 0 = λ k. IsPrefixOf (all_unmarked (seen_in view k (trace ++ step ∷ []))) (all_unmarked (due_in due view k (trace ++ step ∷ []))) in subst P same.1 (own view told)
      by (inr apart) =
          let seen = others_seen view conv other trace (step ∷ []) (of, tt) apart.1 in
          let made = others_calls conv other trace (step ∷ []) (of, tt) apart.1 in
          let P : List Atom → Type 0 = λ l. IsPrefixOf (all_unmarked l) (all_unmarked (due_in due view other (trace ++ step ∷ []))) in
          let Q : Calls → Type 0 = λ c. IsPrefixOf (all_unmarked (seen_in view other trace)) (all_unmarked (seen_of view (due_by due other c))) in
          subst P (sym seen) (subst Q (sym made) (before other view told))

  now_of : (P : Trace → Type 0) (trace : Trace) → Always P trace → P trace
  now_of P trace always = always.at trace [] (sym (append-nil trace))

  pub served_step : (conv : ℕ) (trace : Trace) (step : Step) → IsOf conv step → IsServed answers due trace →
      ((view : View) → IsTold view → IsPrefixOf (all_unmarked (seen_in view conv (trace ++ step ∷ []))) (all_unmarked (due_in due view conv (trace ++ step ∷ [])))) →
      EndsMet answers due (trace ++ step ∷ []) → IsInTurn trace step → IsServed answers due (trace ++ step ∷ [])
  served_step conv trace step of served own met turn = record {
    within = always_more (IsWithinDue due) trace step served.within (step_within conv trace step of (now_of (IsWithinDue due) trace served.within) own);
    told = before_other (IsAllTold due) trace step (no_heard conv step of) served.told;
    met = always_more (EndsMet answers due) trace step served.met met;
    turns = always_more EndsInTurn trace step served.turns (ends_in_turn trace step turn);
    waits = before_other (OpenOnesWait answers due) trace step (no_heard conv step of) served.waits;
  }

  -- a trace that ends with an answer that is met
  pub ends_met : (conv : ℕ) (trace : Trace) (ask : Ask) (reply : Reply) → IsMet answers due trace conv ask reply →
      EndsMet answers due (trace ++ steps.Answered conv ask reply ∷ [])
  ends_met conv trace ask reply met prefix number other answer e =
      let last = last_step trace prefix (steps.Answered conv ask reply) (steps.Answered number other answer) e in
      let parts = answered number conv other ask answer reply last.1 in
      let P : Trace → Type 0 = λ t. IsMet answers due t number other answer in
      let Q : ℕ → Type 0 = λ k. IsMet answers due trace k other answer in
      let R : Ask → Type 0 = λ a. IsMet answers due trace conv a answer in
      let T : Reply → Type 0 = λ r. IsMet answers due trace conv ask r in
      subst P (sym last.0) (subst Q (sym parts.0) (subst R (sym parts.1) (subst T (sym parts.2) met)))
    where
      answered : (a b : ℕ) (x y : Ask) (r s : Reply) → steps.Answered a x r ≡ steps.Answered b y s → (a ≡ b) × (x ≡ y) × (r ≡ s)
      answered a b x y r s e = (cc, cc, cc)

  pub ends_told : (conv : ℕ) (trace : Trace) (command : Command) → EndsMet answers due (trace ++ step_of conv command ∷ [])
  ends_told conv trace command prefix number ask reply e =
      absurd (no_answer conv number ask reply command (last_step trace prefix (step_of conv command) (steps.Answered number ask reply) e).1)

  module _ {C : Type 0} (standing : Standing C) (awaited : C → Option Ask) (number : C → ℕ) (made_due : C → List Move → List Command)
      (gave : (made state : C) (moves : List Move) (given : List Command) → standing made state moves given →
      (view : View) → seen_of view given ≡ seen_of view (made_due made moves)) where
    -- what is due is what the conversation gave
    pub due_given : (conv : ℕ) (held : Held C) (trace : Trace) (rest : List Command) (w : Within standing awaited number made_due due conv held trace rest) (view : View) →
        due_in due view conv trace ≡ seen_of view w.given
    due_given conv held trace rest w view =
        due_there due conv trace w.peer w.begun view
        ∙ (ap (seen_of view) (sym (w.owes (calls_of conv trace))) ∙ sym (gave w.made held.conversation (calls_of conv trace) w.given w.stands view))

    -- but for marks it is what the trace has, and what is still to be told
    pub due_is : (conv : ℕ) (held : Held C) (trace : Trace) (rest : List Command) (w : Within standing awaited number made_due due conv held trace rest) (view : View) →
        all_unmarked (due_in due view conv trace) ≡ all_unmarked (seen_of view w.earlier) ++ all_unmarked (seen_of view rest)
    due_is conv held trace rest w view =
        ap all_unmarked (due_given conv held trace rest w view)
        ∙ (alike_seen view w.given (w.earlier ++ rest) w.alike
        ∙ (ap all_unmarked (seen_append view w.earlier rest) ∙ unmarked_append (seen_of view w.earlier) (seen_of view rest)))

    pub within_due : (conv : ℕ) (held : Held C) (trace : Trace) (rest : List Command) → Within standing awaited number made_due due conv held trace rest →
        (view : View) → IsTold view → IsPrefixOf (all_unmarked (seen_in view conv trace)) (all_unmarked (due_in due view conv trace))
    within_due conv held trace rest w view told =
        (all_unmarked (seen_of view rest), due_is conv held trace rest w view ∙ ap (λ l. all_unmarked l ++ all_unmarked (seen_of view rest)) (w.tells view told))

    -- one command is told
    told_within : (conv : ℕ) (held : Held C) (trace : Trace) (command : Command) (rest : List Command) →
        Within standing awaited number made_due due conv held trace (command ∷ rest) → IsNamed conv command →
        Within standing awaited number made_due due conv held (trace ++ step_of conv command ∷ []) rest
    told_within conv held trace command rest w named =
        let on : calls conv (trace ++ step_of conv command ∷ []) ≡ record (calls conv trace) { dial = dial_by command (calls conv trace).dial } =
        calls_more conv trace (step_of conv command) ∙ told_calls conv (calls conv trace) command in
        let P : List Move → Type 0 = λ l. standing w.made held.conversation l w.given in
        record {
          made = w.made;
          peer = w.peer;
          given = w.given;
          earlier = w.earlier ++ command ∷ [];
          stands = subst P (sym (ap (λ (c : Calls). c.moves) on)) w.stands;
          alike = w.alike ∙ ap none_marked (sym (append_assoc w.earlier (command ∷ []) rest));
          owes = w.owes;
          tells = λ view told.
              seen_append view w.earlier (command ∷ [])
              ∙ (ap (λ l. seen_of view w.earlier ++ l) (append-nil (command_atoms view command) ∙ sym (told_seen view conv command told named))
              ∙ (ap (λ l. l ++ step_atoms view conv (step_of conv command)) (w.tells view told) ∙ sym (seen_more view conv trace (step_of conv command))));
          named = w.named;
          begun = ap (λ (c : Calls). c.peer) on ∙ w.begun;
          servers = servers_along (has held.connected) _ _ (ap (λ (c : Calls). c.connected) on) w.servers;
          dial = ap (λ (c : Calls). dial_from c.dial rest) on ∙ w.dial;
          turn = turn_on conv trace command rest (hook_of (awaited held.conversation)) w.turn;
        }

    -- where all are told
    pub record Told (conv moment : ℕ) (held : Held C) (trace : Trace) : Type 0 where
      pub within : Within standing awaited number made_due due conv held trace []
      pub now : (calls conv trace).moment ≡ moment
      pub served : IsServed answers due trace

    pub told_all : (conv moment : ℕ) (held : Held C) (given : List Command) (trace : Trace) → Within standing awaited number made_due due conv held trace given →
        (calls conv trace).moment ≡ moment → IsServed answers due trace → AllNamed conv given → Told conv moment held (trace ++ map (step_of conv) given)
    told_all conv moment held [] trace w now served named =
        let P : Trace → Type 0 = Told conv moment held in subst P (sym (append-nil trace)) (record { within = w; now = now; served = served })
    told_all conv moment held (command ∷ given) trace w now served named =
        let step = step_of conv command in
        let next = told_within conv held trace command given w named.0 in
        let same : (calls conv (trace ++ step ∷ [])).moment ≡ moment =
        ap (λ (c : Calls). c.moment) (calls_more conv trace step ∙ told_calls conv (calls conv trace) command) ∙ now in
        let P : Trace → Type 0 = Told conv moment held in
        subst P (append_assoc trace (step ∷ []) (map (step_of conv) given))
        (told_all conv moment held given (trace ++ step ∷ []) next same
        (served_step conv trace step (told_own conv command named.0) served (within_due conv held (trace ++ step ∷ []) given next) (ends_told conv trace command) (turn_is conv trace command given (hook_of (awaited held.conversation)) w.turn))
        named.1)
