-- What is sent in one conversation, and what is counted.
use Rattle.std.proofs.Common.{◌≡◌, ℕ, ◌+◌, Bool, true, false, [], ◌∷◌, ◌++◌, length, refl, sym, ap, ap₂, ◌∙◌, arith}
use Rattle.std.specs.Prelude.{All, ◌==◌, if◌then◌else◌}
use Rattle.std.proofs.lemmas.List.{append-nil, length-append}
use Rattle.std.proofs.lemmas.List.Concat.{flat_map-append}
use Rattle.std.proofs.lemmas.List.Elements.{All-head, All-tail}
use Rattle.std.proofs.lemmas.List.Sums.{sum_by-cons}
use Rattle.std.proofs.lemmas.Bool.Decides.{nat_tests}
use Rattle.px_event.specs.declared.said.Said.{Said}
use Rattle.px_event.specs.declared.said.Said.TheVariants.{Send, Close, Dial}
use Rattle.px_event.specs.declared.side.Side.TheVariants.{Client, Server}
use Rattle.px_event.specs.declared.step.Step.{Step}
use Rattle.px_event.specs.declared.step.Step.TheVariants as steps
use Rattle.px_event.specs.Trace.{Trace, bytes_for, bytes_to, said_in, said, sent}
use Rattle.px_gen.specs.Counts.{IsOfOne, by_said, bytes_to_client, client_bytes}

of_said : (given : Said) → client_bytes given ≡ length (bytes_for Client given ++ [])
of_said (Send Client bytes) = ap length (sym (append-nil bytes))
of_said (Send (Server number) bytes) = refl
of_said (Close side) = refl
of_said (Dial server address) = refl

same_number : (other conv : ℕ) → other ≡ conv → (other == conv) ≡ true
same_number other conv same = grind (arith, nat_tests)

of_test : (given : Said) (is : Bool) → is ≡ true → client_bytes given ≡ length (bytes_to Client (if is then given ∷ [] else []))
of_test given true same = of_said given
of_test given false same = absurd (cc)

of_step : (conv : ℕ) (step : Step) → IsOfOne conv step → by_said client_bytes step ≡ length (bytes_to Client (said_in conv step))
of_step conv (steps.Heard moment heard) one = refl
of_step conv (steps.Begun other) one = refl
of_step conv (steps.Asked other ask) one = refl
of_step conv (steps.Answered other ask reply) one = refl
of_step conv (steps.Said other given) one = of_test given (other == conv) (same_number other conv one)
of_step conv (steps.Done flow) one = refl

pub client_bytes_are_sent : (conv : ℕ) (trace : Trace) → All (IsOfOne conv) trace → bytes_to_client trace ≡ length (sent trace conv Client)
client_bytes_are_sent conv [] all = refl
client_bytes_are_sent conv (step ∷ trace) all =
    sum_by-cons (by_said client_bytes) step trace
    ∙ (ap₂ (λ m n. m + n) (of_step conv step (All-head (IsOfOne conv) step trace all)) (client_bytes_are_sent conv trace (All-tail (IsOfOne conv) step trace all))
    ∙ (sym (length-append (bytes_to Client (said_in conv step)) (sent trace conv Client))
    ∙ ap length (sym (flat_map-append (bytes_for Client) (said_in conv step) (said trace conv)))))
