-- The law of the layer's two calls, from what they do.
use Rattle.std.proofs.Common.{◌≡◌, ℕ, ◌<◌, ◌≤◌, true, false, List, [], ◌∷◌, ◌++◌, length, take, drop, Option, Some, None, refl, ap, sym, ◌∙◌, arith, append_assoc, option_to_list}
use Rattle.std.specs.List.{flat_map}
use Rattle.std.proofs.lemmas.Grind.{flat_map-append}
use Rattle.std.proofs.lemmas.List.{append-nil}
use Rattle.px_message.specs.declared.flow.Flow.{Flow}
use Rattle.px_event.specs.declared.event.Event.{Event}
use Rattle.px_event.specs.declared.event.Event.TheVariants as events
use Rattle.px_event.specs.declared.reply.Reply.{Reply}
use Rattle.px_event.specs.declared.reply.Reply.TheVariants as replies
use Rattle.px_event.specs.declared.command.Command.{Command}
use Rattle.px_event.specs.declared.command.Command.TheVariants as commands
use Rattle.px_event.specs.declared.side.Side.TheVariants.{Client, Server}
use Rattle.px_event.specs.Chain.{Timed, Chain}
use Rattle.px_event.specs.Layer.{Took, Replied, IsSound, Goes, AsksOnly, asks_in, weight}
use Rattle.px_event.proofs.Steps.{Takes, Resumes, take_goes, resume_goes}
use Rattle.px_toy.specs.declared.echo.LineEcho.{LineEcho}
use Rattle.px_toy.specs.declared.echo.Phase.{Phase}
use Rattle.px_toy.specs.declared.echo.Phase.TheVariants as phases
use Rattle.px_toy.specs.Echo.{piece_in, closes_client, first_line, is_kill, EchoStage, Reading, echoed, echo_chain}
use Rattle.px_toy.specs.Stands.{phase_at, asks_at, awaited_in, IsAt, EchoStands}
use Rattle.px_toy.specs.Laws.{settles}
use Rattle.px_toy.proofs.EchoSteps.{asked_within, over_takes, piece_takes, close_takes, kill_resumes, line_resumes}

abbrev echo_of : LineEcho → Chain EchoStage Event Reply Command
echo_of made = echo_chain made.flow

pub take_law : (before after : LineEcho) (moment : ℕ) (event : Event) (more out new_out : List Command) → new_out ≡ out ++ more →
    ((flow : Flow) (stage : EchoStage) (prefix : List (Timed Event)) → IsAt flow before stage prefix → Takes (echo_chain flow) (IsAt flow) after moment event more stage prefix) →
    Goes EchoStands before after (Took moment event) out new_out
take_law before after moment event more out new_out grown takes =
    take_goes echo_of (λ made. settles made.flow) (λ made. Reading 0) (λ made. IsAt made.flow) before after moment event more out new_out grown
    (λ made stage prefix _ at. takes made.flow stage prefix at)

pub resume_law : (before after : LineEcho) (moment : ℕ) (reply : Reply) (more out new_out : List Command) → new_out ≡ out ++ more →
    ((flow : Flow) (stage : EchoStage) (prefix : List (Timed Event)) → IsAt flow before stage prefix → Resumes (echo_chain flow) (IsAt flow) after moment reply more stage prefix) →
    Goes EchoStands before after (Replied moment reply) out new_out
resume_law before after moment reply more out new_out grown resumes =
    resume_goes echo_of (λ made. settles made.flow) (λ made. Reading 0) (λ made. IsAt made.flow) before after moment reply more out new_out grown
    (λ made stage prefix _ at. resumes made.flow stage prefix at)

-- what is asked about is within what is kept
pub sound_within : (state : LineEcho) (size : ℕ) → IsSound EchoStands state → state.phase ≡ phases.Asked size → (0 < size) × (size ≤ length state.unread.items)
sound_within state size (made, moves, given, stands) asked = asked_within made.flow state size _ _ asked stands.place

-- the asks among what is given
asks_line : (flow : Flow) (line : Option ℕ) → flat_map asks_in (asks_at flow line) ≡ option_to_list (awaited_in flow (phase_at line))
asks_line flow None = refl
asks_line flow (Some size) = refl

echoes_ask_nothing : (reply : Reply) (line : List ℕ) → flat_map asks_in (echoed reply line) ≡ []
echoes_ask_nothing (replies.Go flow stream) line = refl
echoes_ask_nothing (replies.Respond response) line = refl
echoes_ask_nothing replies.Kill line = refl
echoes_ask_nothing replies.Discard line = refl
echoes_ask_nothing replies.Dialled line = refl
echoes_ask_nothing (replies.Refused fault) line = refl

pub asks_after : (flow new_flow : Flow) (phase : Phase) (line : Option ℕ) (out new_out : List Command) → new_flow ≡ flow → phase ≡ phase_at line →
    new_out ≡ out ++ asks_at flow line → AsksOnly (awaited_in new_flow phase) out new_out
asks_after flow new_flow phase line out new_out same is grown =
    (asks_at flow line, grown, rw (same, is) (asks_line flow line))

pub echo_asks : (flow new_flow : Flow) (phase : Phase) (reply : Reply) (text : List ℕ) (line : Option ℕ) (out between new_out : List Command) → new_flow ≡ flow → phase ≡ phase_at line →
    between ≡ out ++ echoed reply text → new_out ≡ between ++ asks_at flow line →
    AsksOnly (awaited_in new_flow phase) out new_out
echo_asks flow new_flow phase reply text line out between new_out same is said grown = (
  echoed reply text ++ asks_at flow line,
  grown ∙ (ap (λ l. l ++ asks_at flow line) said ∙ append_assoc out (echoed reply text) (asks_at flow line)),
  flat_map-append asks_in (echoed reply text) (asks_at flow line)
      ∙ (ap (λ l. l ++ flat_map asks_in (asks_at flow line)) (echoes_ask_nothing reply text) ∙ rw (same, is) (asks_line flow line)),
)

-- an event's bytes weigh no more than it does
pub piece_weighs : (event : Event) → length (piece_in event) ≤ weight event
piece_weighs events.Begun = omega arith
piece_weighs (events.Piece Client bytes) = omega arith
piece_weighs (events.Piece (Server n) bytes) = omega arith
piece_weighs (events.Closed side) = omega arith
piece_weighs (events.Answered ask reply) = omega arith

-- what each way through `take` and `resume` does
pub heard_over : (state : LineEcho) (moment : ℕ) (event : Event) (out : List Command) → state.phase ≡ phases.Over → Goes EchoStands state state (Took moment event) out out
heard_over state moment event out over =
    take_law state state moment event [] out out (sym (append-nil out)) (λ flow. over_takes flow state state moment event [] refl refl over)

pub heard_close : (before after : LineEcho) (moment : ℕ) (event : Event) (out new_out : List Command) → (before.phase ≡ phases.Over → ⊥) → awaited_in before.flow before.phase ≡ None →
    closes_client event ≡ true → after.flow ≡ before.flow → after.unread.items ≡ [] → after.phase ≡ phases.Over → new_out ≡ out ++ commands.Close Client ∷ [] →
    Goes EchoStands before after (Took moment event) out new_out
heard_close before after moment event out new_out live free close flow keeps phase grown =
    take_law before after moment event (commands.Close Client ∷ []) out new_out grown (λ kept. close_takes kept before after moment event (commands.Close Client ∷ []) flow live free close keeps phase refl)

pub heard_piece : (before after : LineEcho) (moment : ℕ) (event : Event) (bytes : List ℕ) (out new_out : List Command) → (before.phase ≡ phases.Over → ⊥) → awaited_in before.flow before.phase ≡ None →
    closes_client event ≡ false → bytes ≡ before.unread.items ++ piece_in event → after.flow ≡ before.flow → after.unread.items ≡ bytes → after.phase ≡ phase_at (first_line bytes) →
    new_out ≡ out ++ asks_at before.flow (first_line bytes) → Goes EchoStands before after (Took moment event) out new_out
heard_piece before after moment event bytes out new_out live free no_close joined flow keeps phase grown =
    take_law before after moment event (asks_at before.flow (first_line bytes)) out new_out grown
    (λ kept. piece_takes kept before after moment event (asks_at before.flow (first_line bytes)) flow live free no_close (keeps ∙ joined) (phase ∙ ap (λ l. phase_at (first_line l)) joined)
    (ap (λ l. asks_at before.flow (first_line l)) joined))

pub answered_kill : (before after : LineEcho) (moment : ℕ) (reply : Reply) (size : ℕ) (out new_out : List Command) → before.phase ≡ phases.Asked size → is_kill reply ≡ true →
    after.flow ≡ before.flow → after.unread.items ≡ [] → after.phase ≡ phases.Over → new_out ≡ out ++ commands.Close Client ∷ [] →
    Goes EchoStands before after (Replied moment reply) out new_out
answered_kill before after moment reply size out new_out asked kill flow keeps phase grown =
    resume_law before after moment reply (commands.Close Client ∷ []) out new_out grown (λ kept. kill_resumes kept before after moment reply size (commands.Close Client ∷ []) flow asked kill keeps phase refl)

pub answered_line : (before after : LineEcho) (moment : ℕ) (reply : Reply) (size : ℕ) (line rest : List ℕ) (out between new_out : List Command) → before.phase ≡ phases.Asked size →
    is_kill reply ≡ false → line ≡ take size before.unread.items → rest ≡ drop size before.unread.items →
    after.flow ≡ before.flow → after.unread.items ≡ rest → after.phase ≡ phase_at (first_line rest) →
    between ≡ out ++ echoed reply line → new_out ≡ between ++ asks_at before.flow (first_line rest) →
    Goes EchoStands before after (Replied moment reply) out new_out
answered_line before after moment reply size line rest out between new_out asked kill cut left flow keeps phase said grown =
    let more : List Command = echoed reply line ++ asks_at before.flow (first_line rest) in
    resume_law before after moment reply more out new_out
    (grown ∙ (ap (λ l. l ++ asks_at before.flow (first_line rest)) said ∙ append_assoc out (echoed reply line) (asks_at before.flow (first_line rest))))
    (λ kept. line_resumes kept before after moment reply size more flow asked kill (keeps ∙ left) (phase ∙ ap (λ l. phase_at (first_line l)) left)
    (ap (λ l. echoed reply l ++ asks_at before.flow (first_line rest)) cut ∙ ap (λ l. echoed reply (take size before.unread.items) ++ asks_at before.flow (first_line l)) left))
