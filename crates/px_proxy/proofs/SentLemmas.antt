-- The bytes of a side's line in a trace are the bytes that were sent to the side.
use Rattle.std.proofs.Common.{◌≡◌, ◌∙◌, ℕ, Bool, true, false, cond, refl, ap, sym, [], ◌∷◌, ◌++◌, ◌==◌, map}
use Rattle.std.specs.List.{flat_map}
use Rattle.std.proofs.lemmas.List.{append-nil}
use Rattle.std.proofs.lemmas.Grind.{flat_map-append}
use Rattle.px_message.specs.declared.flow.Flow.{Flow}
use Rattle.px_event.specs.declared.side.Side.{Side}
use Rattle.px_event.specs.declared.said.Said.{Said}
use Rattle.px_event.specs.declared.said.Said.TheVariants as said
use Rattle.px_event.specs.declared.step.Step.{Step}
use Rattle.px_event.specs.declared.step.Step.TheVariants as steps
use Rattle.px_event.specs.Trace.{Trace, sent, said_in, bytes_for, is_same_side}
use Rattle.px_event.specs.Trace as traces
use Rattle.px_event.specs.View.{byte, close, done, line, bytes_in, said_atoms, step_atoms, seen_in}
use Rattle.px_event.proofs.LineLemmas.{bytes_alone, bytes_join}

said_bytes : (side : Side) (what : Said) → bytes_in (said_atoms (line side) what) ≡ bytes_for side what
said_bytes side (said.Send other text) = by (is_same_side other side)
  where
    by : (b : Bool) → bytes_in (cond b (map byte text) []) ≡ cond b text []
    by true = bytes_alone text
    by false = refl
said_bytes side (said.Close other) = by (is_same_side other side)
  where
    by : (b : Bool) → bytes_in (cond b (close other ∷ []) []) ≡ []
    by true = refl
    by false = refl
said_bytes side (said.Dial server address) = refl

own_bytes : (side : Side) (mine : Bool) (what : Said) → bytes_in (cond mine (said_atoms (line side) what) []) ≡ flat_map (bytes_for side) (cond mine (what ∷ []) [])
own_bytes side true what = said_bytes side what ∙ sym (append-nil (bytes_for side what))
own_bytes side false what = refl

done_bytes : (mine : Bool) (flow : Flow) → bytes_in (cond mine (done flow ∷ []) []) ≡ []
done_bytes true flow = refl
done_bytes false flow = refl

step_bytes : (side : Side) (conv : ℕ) (step : Step) → bytes_in (step_atoms (line side) conv step) ≡ flat_map (bytes_for side) (said_in conv step)
step_bytes side conv (steps.Heard moment what) = refl
step_bytes side conv (steps.Begun number) = refl
step_bytes side conv (steps.Asked number ask) = refl
step_bytes side conv (steps.Answered number ask reply) = refl
step_bytes side conv (steps.Said number what) = own_bytes side (number == conv) what
step_bytes side conv (steps.Done flow) = done_bytes (flow.id.conv == conv) flow

pub seen_is_sent : (side : Side) (conv : ℕ) (trace : Trace) → bytes_in (seen_in (line side) conv trace) ≡ sent trace conv side
seen_is_sent side conv [] = refl
seen_is_sent side conv (step ∷ trace) =
    bytes_join (step_atoms (line side) conv step) (seen_in (line side) conv trace)
    ∙ (ap (λ l. l ++ bytes_in (seen_in (line side) conv trace)) (step_bytes side conv step)
    ∙ (ap (λ l. flat_map (bytes_for side) (said_in conv step) ++ l) (seen_is_sent side conv trace)
    ∙ sym (flat_map-append (bytes_for side) (said_in conv step) (traces.said trace conv))))
