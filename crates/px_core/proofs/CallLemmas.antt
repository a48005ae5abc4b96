-- The calls of a conversation, and what a view has of it, one step further.
use Rattle.std.proofs.Common.{◌≡◌, ◌≢◌, ℕ, true, false, ◌==◌, List, [], ◌∷◌, ◌++◌, refl, ap, sym, ◌∙◌, append_assoc}
use Rattle.std.proofs.lemmas.Bool.{eq-eqb, ne_eqb}
use Rattle.std.proofs.lemmas.Grind.{flat_map-append}
use Rattle.std.proofs.lemmas.List.{append-nil}
use Rattle.px_message.specs.declared.flow.Flow.{Flow}
use Rattle.px_event.specs.declared.ask.Ask.{Ask}
use Rattle.px_event.specs.declared.command.Command.{Command}
use Rattle.px_event.specs.declared.command.Command.TheVariants as commands
use Rattle.px_event.specs.declared.said.Said.{Said}
use Rattle.px_event.specs.declared.said.Said.TheVariants as said
use Rattle.px_event.specs.declared.side.Side.TheVariants.{Client, Server}
use Rattle.px_event.specs.declared.step.Step.{Step}
use Rattle.px_event.specs.declared.step.Step.TheVariants as steps
use Rattle.px_event.specs.Trace.{Trace}
use Rattle.px_event.specs.View.{View, line, questions, course, flows, order, IsTold, said_atoms, command_atoms, step_atoms, seen_in}
use Rattle.px_core.specs.Calls.{Calls, calls_on, calls_from, calls, no_calls}
use Rattle.px_core.specs.Conversation.{IsNamed}
use Rattle.px_core.specs.Held.{step_of, IsOf, AllOf, dial_by}

calls_from-more : (conv : ℕ) (c : Calls) (trace : Trace) (step : Step) → calls_from conv c (trace ++ step ∷ []) ≡ calls_on conv (calls_from conv c trace) step
calls_from-more conv c [] step = refl
calls_from-more conv c (s ∷ trace) step = calls_from-more conv (calls_on conv c s) trace step

pub calls_more : (conv : ℕ) (trace : Trace) (step : Step) → calls conv (trace ++ step ∷ []) ≡ calls_on conv (calls conv trace) step
calls_more conv trace step = calls_from-more conv no_calls trace step

pub seen_more : (view : View) (conv : ℕ) (trace : Trace) (step : Step) → seen_in view conv (trace ++ step ∷ []) ≡ seen_in view conv trace ++ step_atoms view conv step
seen_more view conv trace step =
    flat_map-append (step_atoms view conv) trace (step ∷ []) ∙ ap (λ l. seen_in view conv trace ++ l) (append-nil (step_atoms view conv step))

pub same_number : (n : ℕ) → (n == n) ≡ true
same_number n = eq-eqb n n refl

-- a step of another conversation
pub other_calls : (conv other : ℕ) (c : Calls) (step : Step) → IsOf conv step → conv ≢ other → calls_on other c step ≡ c
other_calls conv other c (steps.Heard moment heard) is apart = absurd is
other_calls conv other c (steps.Begun number) is apart = absurd is
other_calls conv other c (steps.Asked number ask) is apart = refl
other_calls conv other c (steps.Answered number ask reply) is apart =
    let no : (number == other) ≡ false = ne_eqb number other (λ same. apart (sym is ∙ same)) in rw no refl
other_calls conv other c (steps.Said number what) is apart =
    let no : (number == other) ≡ false = ne_eqb number other (λ same. apart (sym is ∙ same)) in rw no refl
other_calls conv other c (steps.Done flow) is apart = refl

pub other_seen : (view : View) (conv other : ℕ) (step : Step) → IsOf conv step → conv ≢ other → step_atoms view other step ≡ []
other_seen view conv other (steps.Heard moment heard) is apart = absurd is
other_seen view conv other (steps.Begun number) is apart = absurd is
other_seen view conv other (steps.Asked number ask) is apart = by view
  where
    no : (number == other) ≡ false
    no = ne_eqb number other (λ same. apart (sym is ∙ same))

    by : (view : View) → step_atoms view other (steps.Asked number ask) ≡ []
    by questions = rw no refl
    by (line side) = refl
    by course = rw no refl
    by flows = refl
    by order = rw no refl
other_seen view conv other (steps.Answered number ask reply) is apart = by view
  where
    by : (view : View) → step_atoms view other (steps.Answered number ask reply) ≡ []
    by questions = refl
    by (line side) = refl
    by course = refl
    by flows = refl
    by order = refl
other_seen view conv other (steps.Said number what) is apart =
    let no : (number == other) ≡ false = ne_eqb number other (λ same. apart (sym is ∙ same)) in rw no refl
other_seen view conv other (steps.Done flow) is apart = by view
  where
    no : (flow.id.conv == other) ≡ false
    no = ne_eqb flow.id.conv other (λ same. apart (sym is ∙ same))

    by : (view : View) → step_atoms view other (steps.Done flow) ≡ []
    by questions = refl
    by (line side) = rw no refl
    by course = rw no refl
    by flows = refl
    by order = rw no refl

-- steps of another conversation
pub others_calls : (conv other : ℕ) (trace more : Trace) → AllOf conv more → conv ≢ other → calls other (trace ++ more) ≡ calls other trace
others_calls conv other trace [] all apart = ap (calls other) (append-nil trace)
others_calls conv other trace (step ∷ more) (here, all) apart =
    ap (calls other) (sym (append_assoc trace (step ∷ []) more))
    ∙ (others_calls conv other (trace ++ step ∷ []) more all apart
    ∙ (calls_more other trace step ∙ other_calls conv other (calls other trace) step here apart))

pub others_seen : (view : View) (conv other : ℕ) (trace more : Trace) → AllOf conv more → conv ≢ other → seen_in view other (trace ++ more) ≡ seen_in view other trace
others_seen view conv other trace [] all apart = ap (seen_in view other) (append-nil trace)
others_seen view conv other trace (step ∷ more) (here, all) apart =
    ap (seen_in view other) (sym (append_assoc trace (step ∷ []) more))
    ∙ (others_seen view conv other (trace ++ step ∷ []) more all apart
    ∙ (seen_more view other trace step ∙ (ap (λ l. seen_in view other trace ++ l) (other_seen view conv other step here apart) ∙ append-nil (seen_in view other trace))))

-- the step of a command
pub told_calls : (conv : ℕ) (c : Calls) (command : Command) → calls_on conv c (step_of conv command) ≡ record c { dial = dial_by command c.dial }
told_calls conv c (commands.Send side text) = rw (same_number conv) refl
told_calls conv c (commands.Close side) = rw (same_number conv) refl
told_calls conv c (commands.Dial server address inside) = rw (same_number conv) refl
told_calls conv c (commands.Ask ask flow) = refl
told_calls conv c (commands.Done flow) = refl

said_seen : (view : View) (conv : ℕ) (what : Said) → step_atoms view conv (steps.Said conv what) ≡ said_atoms view what
said_seen view conv what = rw (same_number conv) refl

send_seen : (view : View) (side : _) (text : List ℕ) → said_atoms view (said.Send side text) ≡ command_atoms view (commands.Send side text)
send_seen (line to) side text = refl
send_seen questions side text = refl
send_seen course side text = refl
send_seen flows side text = refl
send_seen order Client text = refl
send_seen order (Server number) text = refl

close_seen : (view : View) (side : _) → said_atoms view (said.Close side) ≡ command_atoms view (commands.Close side)
close_seen (line to) side = refl
close_seen questions side = refl
close_seen course side = refl
close_seen flows side = refl
close_seen order side = refl

dial_seen : (view : View) (server : ℕ) (address : _) (inside : _) → said_atoms view (said.Dial server address) ≡ command_atoms view (commands.Dial server address inside)
dial_seen (line to) server address inside = refl
dial_seen questions server address inside = refl
dial_seen course server address inside = refl
dial_seen flows server address inside = refl
dial_seen order server address inside = refl

ask_seen : (view : View) (conv : ℕ) (ask : Ask) (flow : Flow) → IsTold view → step_atoms view conv (steps.Asked conv ask) ≡ command_atoms view (commands.Ask ask flow)
ask_seen (line to) conv ask flow told = refl
ask_seen questions conv ask flow told = rw (same_number conv) refl
ask_seen course conv ask flow told = rw (same_number conv) refl
ask_seen flows conv ask flow told = absurd told
ask_seen order conv ask flow told = rw (same_number conv) refl

done_seen : (view : View) (conv : ℕ) (flow : Flow) → (flow.id.conv == conv) ≡ true → step_atoms view conv (steps.Done flow) ≡ command_atoms view (commands.Done flow)
done_seen (line to) conv flow is = rw is refl
done_seen questions conv flow is = refl
done_seen course conv flow is = rw is refl
done_seen flows conv flow is = refl
done_seen order conv flow is = rw is refl

pub told_seen : (view : View) (conv : ℕ) (command : Command) → IsTold view → IsNamed conv command → step_atoms view conv (step_of conv command) ≡ command_atoms view command
told_seen view conv (commands.Send side text) told named = said_seen view conv (said.Send side text) ∙ send_seen view side text
told_seen view conv (commands.Close side) told named = said_seen view conv (said.Close side) ∙ close_seen view side
told_seen view conv (commands.Dial server address inside) told named = said_seen view conv (said.Dial server address) ∙ dial_seen view server address inside
told_seen view conv (commands.Ask ask flow) told named = ask_seen view conv ask flow told
told_seen view conv (commands.Done flow) told named = done_seen view conv flow (eq-eqb flow.id.conv conv named)

pub told_own : (conv : ℕ) (command : Command) → IsNamed conv command → IsOf conv (step_of conv command)
told_own conv (commands.Send side text) named = refl
told_own conv (commands.Close side) named = refl
told_own conv (commands.Dial server address inside) named = refl
told_own conv (commands.Ask ask flow) named = refl
told_own conv (commands.Done flow) named = named
