-- Which hook is open, one step further, and what commands make of it.
use Rattle.std.proofs.Common.{◌≡◌, ◌≢◌, ℕ, false, ◌==◌, List, [], ◌∷◌, ◌++◌, Option, Some, None, refl, ap, sym, ◌∙◌, subst, append_assoc, option_to_list}
use Rattle.std.specs.List.{flat_map}
use Rattle.std.proofs.lemmas.Bool.{ne_eqb}
use Rattle.std.proofs.lemmas.List.{append-nil}
use Rattle.px_message.specs.declared.flow.Flow.{Flow}
use Rattle.px_event.specs.declared.ask.Ask.{Ask}
use Rattle.px_event.specs.declared.ask.Ask.TheVariants as asks
use Rattle.px_event.specs.declared.ask.Hook.{Hook}
use Rattle.px_event.specs.declared.command.Command.{Command}
use Rattle.px_event.specs.declared.command.Command.TheVariants as commands
use Rattle.px_event.specs.declared.heard.Heard.{Heard}
use Rattle.px_event.specs.declared.reply.Reply.{Reply}
use Rattle.px_event.specs.declared.step.Step.{Step}
use Rattle.px_event.specs.declared.step.Step.TheVariants as steps
use Rattle.px_event.specs.Layer.{asks_in}
use Rattle.px_event.specs.Trace.{Trace}
use Rattle.px_event.specs.View.{flows}
use Rattle.px_core.specs.declared.waiting.Waiting.{Waiting}
use Rattle.px_core.specs.Answers.{Answering}
use Rattle.px_core.specs.Conversation.{AllNamed, IsHookOf}
use Rattle.px_core.specs.Due.{Due, due_in, IsAskedLast}
use Rattle.px_core.specs.Held.{step_of, IsOf, AllOf, IsKept}
use Rattle.px_core.specs.Unmarked.{all_unmarked}
use Rattle.px_core.specs.Hooks.{hook_on, hook_from, open_hook, IsInTurn, hook_of, AsksInTurn}
use Rattle.px_core.proofs.CallLemmas.{same_number}

hook_from-more : (conv : ℕ) (hook : Option Ask) (trace : Trace) (step : Step) → hook_from conv hook (trace ++ step ∷ []) ≡ hook_on conv (hook_from conv hook trace) step
hook_from-more conv hook [] step = refl
hook_from-more conv hook (s ∷ trace) step = hook_from-more conv (hook_on conv hook s) trace step

pub hook_more : (conv : ℕ) (trace : Trace) (step : Step) → open_hook conv (trace ++ step ∷ []) ≡ hook_on conv (open_hook conv trace) step
hook_more conv trace step = hook_from-more conv None trace step

-- what is heard is neither asked nor answered
pub hook_heard : (conv : ℕ) (trace : Trace) (moment : ℕ) (heard : Heard) → open_hook conv (trace ++ steps.Heard moment heard ∷ []) ≡ open_hook conv trace
hook_heard conv trace moment heard = hook_more conv trace (steps.Heard moment heard)

-- an answer leaves none
pub hook_answered : (conv : ℕ) (trace : Trace) (ask : Ask) (reply : Reply) → open_hook conv (trace ++ steps.Answered conv ask reply ∷ []) ≡ None
hook_answered conv trace ask reply = hook_more conv trace (steps.Answered conv ask reply) ∙ (rw (same_number conv) refl)

pub hook_asked : (conv : ℕ) (trace : Trace) (ask : Ask) → open_hook conv (trace ++ steps.Asked conv ask ∷ []) ≡ Some ask
hook_asked conv trace ask = hook_more conv trace (steps.Asked conv ask) ∙ (rw (same_number conv) refl)

-- a step of another conversation
other_hook : (conv other : ℕ) (hook : Option Ask) (step : Step) → IsOf conv step → conv ≢ other → hook_on other hook step ≡ hook
other_hook conv other hook (steps.Heard moment heard) is apart = absurd is
other_hook conv other hook (steps.Begun number) is apart = absurd is
other_hook conv other hook (steps.Asked number ask) is apart =
    let no : (number == other) ≡ false = ne_eqb number other (λ same. apart (sym is ∙ same)) in rw no refl
other_hook conv other hook (steps.Answered number ask reply) is apart =
    let no : (number == other) ≡ false = ne_eqb number other (λ same. apart (sym is ∙ same)) in rw no refl
other_hook conv other hook (steps.Said number what) is apart = refl
other_hook conv other hook (steps.Done flow) is apart = refl

-- steps of another conversation
pub others_hook : (conv other : ℕ) (trace more : Trace) → AllOf conv more → conv ≢ other → open_hook other (trace ++ more) ≡ open_hook other trace
others_hook conv other trace [] all apart = ap (open_hook other) (append-nil trace)
others_hook conv other trace (step ∷ more) (here, all) apart =
    ap (open_hook other) (sym (append_assoc trace (step ∷ []) more))
    ∙ (others_hook conv other (trace ++ step ∷ []) more all apart
    ∙ (hook_more other trace step ∙ other_hook conv other (open_hook other trace) step here apart))

-- a command that is told is in its turn
pub turn_is : (conv : ℕ) (trace : Trace) (command : Command) (rest : List Command) (last : Option Ask) → AsksInTurn (open_hook conv trace) (command ∷ rest) last →
    IsInTurn trace (step_of conv command)
turn_is conv trace (commands.Send side text) rest last turn = tt
turn_is conv trace (commands.Close side) rest last turn = tt
turn_is conv trace (commands.Dial server address inside) rest last turn = tt
turn_is conv trace (commands.Ask ask flow) rest last (none, turn) = none
turn_is conv trace (commands.Done flow) rest last turn = tt

-- and so are those behind it
pub turn_on : (conv : ℕ) (trace : Trace) (command : Command) (rest : List Command) (last : Option Ask) → AsksInTurn (open_hook conv trace) (command ∷ rest) last →
    AsksInTurn (open_hook conv (trace ++ step_of conv command ∷ [])) rest last
turn_on conv trace command rest last turn = by command turn
  where
    P : Option Ask → Type 0
    P = λ h. AsksInTurn h rest last

    by : (command : Command) → AsksInTurn (open_hook conv trace) (command ∷ rest) last → AsksInTurn (open_hook conv (trace ++ step_of conv command ∷ [])) rest last
    by (commands.Send side text) turn = subst P (sym (hook_more conv trace (step_of conv (commands.Send side text)))) turn
    by (commands.Close side) turn = subst P (sym (hook_more conv trace (step_of conv (commands.Close side)))) turn
    by (commands.Dial server address inside) turn = subst P (sym (hook_more conv trace (step_of conv (commands.Dial server address inside)))) turn
    by (commands.Ask ask flow) (none, turn) = subst P (sym (hook_asked conv trace ask)) turn
    by (commands.Done flow) turn = subst P (sym (hook_more conv trace (steps.Done flow))) turn

-- commands that ask nothing
pub quiet_turn : (given : List Command) → flat_map asks_in given ≡ [] → (hook : Option Ask) → AsksInTurn hook given hook
quiet_turn [] none hook = refl
quiet_turn (commands.Send side text ∷ given) none hook = quiet_turn given none hook
quiet_turn (commands.Close side ∷ given) none hook = quiet_turn given none hook
quiet_turn (commands.Done flow ∷ given) none hook = quiet_turn given none hook
quiet_turn (commands.Dial server address inside ∷ given) none hook = absurd (let no : asks.Dial server ∷ flat_map asks_in given ≡ [] = none in cc)
quiet_turn (commands.Ask ask flow ∷ given) none hook = absurd (let no : ask ∷ flat_map asks_in given ≡ [] = none in cc)

pub quiet_same : (given : List Command) → flat_map asks_in given ≡ [] → (first last : Option Ask) → AsksInTurn first given last → first ≡ last
quiet_same [] none first last turn = turn
quiet_same (commands.Send side text ∷ given) none first last turn = quiet_same given none first last turn
quiet_same (commands.Close side ∷ given) none first last turn = quiet_same given none first last turn
quiet_same (commands.Done flow ∷ given) none first last turn = quiet_same given none first last turn
quiet_same (commands.Dial server address inside ∷ given) none first last turn = absurd (let no : asks.Dial server ∷ flat_map asks_in given ≡ [] = none in cc)
quiet_same (commands.Ask ask flow ∷ given) none first last turn = absurd (let no : ask ∷ flat_map asks_in given ≡ [] = none in cc)

head_tail : {A : Type 0} (a b : A) (xs ys : List A) → a ∷ xs ≡ b ∷ ys → (a ≡ b) × (xs ≡ ys)
head_tail a b xs ys e = (cc, cc)

dial_turn : (awaits : Option Ask) (server : ℕ) (given : List Command) → asks.Dial server ∷ flat_map asks_in given ≡ option_to_list awaits → AsksInTurn None given (hook_of awaits)
dial_turn None server given is = absurd (let no : asks.Dial server ∷ flat_map asks_in given ≡ [] = is in cc)
dial_turn (Some ask) server given is =
    let parts = head_tail (asks.Dial server) ask (flat_map asks_in given) [] is in
    let P : Option Ask → Type 0 = λ h. AsksInTurn None given h in
    subst P (ap (λ a. hook_of (Some a)) parts.0) (quiet_turn given parts.1 None)

ask_turn : (awaits : Option Ask) (ask : Ask) (flow : Flow) (given : List Command) → IsHookOf flow.id.index ask → ask ∷ flat_map asks_in given ≡ option_to_list awaits →
    AsksInTurn None (commands.Ask ask flow ∷ given) (hook_of awaits)
ask_turn None ask flow given of is = absurd (let no : ask ∷ flat_map asks_in given ≡ [] = is in cc)
ask_turn (Some other) (asks.Dial server) flow given of is = absurd of
ask_turn (Some other) (asks.Hook index hook) flow given of is =
    let parts = head_tail (asks.Hook index hook) other (flat_map asks_in given) [] is in
    let P : Option Ask → Type 0 = λ h. AsksInTurn (Some (asks.Hook index hook)) given h in
    (refl, subst P (ap (λ a. hook_of (Some a)) parts.0) (quiet_turn given parts.1 (Some (asks.Hook index hook))))

-- commands with at most one ask or dial, the one that is awaited then, where no hook was open
pub one_turn : (conv : ℕ) (awaits : Option Ask) (given : List Command) → AllNamed conv given → flat_map asks_in given ≡ option_to_list awaits → AsksInTurn None given (hook_of awaits)
one_turn conv None [] named is = refl
one_turn conv (Some ask) [] named is = absurd (let no : [] ≡ ask ∷ [] = is in cc)
one_turn conv awaits (commands.Send side text ∷ given) named is = one_turn conv awaits given named.1 is
one_turn conv awaits (commands.Close side ∷ given) named is = one_turn conv awaits given named.1 is
one_turn conv awaits (commands.Done flow ∷ given) named is = one_turn conv awaits given named.1 is
one_turn conv awaits (commands.Dial server address inside ∷ given) named is = dial_turn awaits server given is
one_turn conv awaits (commands.Ask ask flow ∷ given) named is = ask_turn awaits ask flow given named.0.1 is

-- a hook that is awaited is what is awaited
pub hook_is : (awaits : Option Ask) (ask : Ask) → hook_of awaits ≡ Some ask → awaits ≡ Some ask
hook_is None ask is = absurd (let no : None ≡ Some ask = is in cc)
hook_is (Some (asks.Dial server)) ask is = absurd (let no : None ≡ Some ask = is in cc)
hook_is (Some (asks.Hook flow hook)) ask is = is

-- and is a hook
pub hook_named : (awaits : Option Ask) (ask : Ask) → hook_of awaits ≡ Some ask → (flow : ℕ) × (hook : Hook) × (ask ≡ asks.Hook flow hook)
hook_named None ask is = absurd (let no : None ≡ Some ask = is in cc)
hook_named (Some (asks.Dial server)) ask is = absurd (let no : None ≡ Some ask = is in cc)
hook_named (Some (asks.Hook flow hook)) ask is = (flow, hook, some_one ask (asks.Hook flow hook) (sym is))
  where
    some_one : (a b : Ask) → Some a ≡ Some b → a ≡ b
    some_one a b e = cc

-- what was asked last is the same
pub asked_same : (due : Due) (conv : ℕ) (trace next : Trace) (ask : Ask) (flow : Flow) → due_in due flows conv next ≡ due_in due flows conv trace →
    IsAskedLast due trace conv ask flow → IsAskedLast due next conv ask flow
asked_same due conv trace next ask flow same a = record { earlier = a.earlier; last = ap all_unmarked same ∙ a.last }

-- a hook that waits goes on to wait where what was asked last is the same
pub kept_on : {S : Type 0} (answers : Answering S) (due : Due) (conv : ℕ) (trace next : Trace) (ask : Ask) (kept : Option Waiting) →
    due_in due flows conv next ≡ due_in due flows conv trace → IsKept answers due trace conv ask kept → IsKept answers due next conv ask kept
kept_on answers due conv trace next ask kept same k =
    let w = k.waits in
    record {
      draft = k.draft;
      edited = k.edited;
      is = k.is;
      waits = record {
        hook = w.hook;
        flow = w.flow;
        asked = w.asked;
        last = asked_same due conv trace next ask w.flow same w.last;
        old = w.old;
        old_files = w.old_files;
        new = w.new;
        new_files = w.new_files;
        answers_so = w.answers_so;
      };
      changes = k.changes;
      made = k.made;
    }
