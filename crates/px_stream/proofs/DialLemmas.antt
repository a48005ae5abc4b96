-- An answer to a dial that is none: nothing is owed, and nothing follows.
use Rattle.std.proofs.Common.{◌≡◌, ℕ, Bool, [], ◌++◌, Option, refl}
use Rattle.px_message.specs.declared.fault.Fault.{Fault}
use Rattle.px_message.specs.declared.flow.Flow.{Flow}
use Rattle.px_event.specs.declared.reply.Reply.{Reply}
use Rattle.px_event.specs.declared.reply.Reply.TheVariants as reply
use Rattle.px_exchange.specs.declared.place.Place.{Place}
use Rattle.px_chain.specs.Chain.{dial_leads, dial_owes_by, sequence}
use Rattle.px_chain.specs.Stages.{At, Sent, all_sent, going_up, over}
use Rattle.px_stream.specs.declared.going.Going.{Going}
use Rattle.px_stream.specs.Turns.{dialled_sends}

pub owes_none : (sent : Sent) (to : Place) (flow : Flow) (server : ℕ) (up : Option Going) (answer : Reply) (moment : ℕ) (closed : Bool) → (answer ≡ reply.Dialled → ⊥) → ((fault : Fault) → answer ≡ reply.Refused fault → ⊥) →
    dial_owes_by sent to flow server answer moment closed ++ dialled_sends server up answer ≡ []
owes_none sent to flow server up reply.Dialled moment closed not_dialled not_refused = absurd (not_dialled refl)
owes_none sent to flow server up (reply.Refused fault) moment closed not_dialled not_refused = absurd (not_refused fault refl)
owes_none all_sent to flow server up (reply.Go other stream) moment closed not_dialled not_refused = refl
owes_none all_sent to flow server up (reply.Respond given) moment closed not_dialled not_refused = refl
owes_none all_sent to flow server up reply.Kill moment closed not_dialled not_refused = refl
owes_none all_sent to flow server up reply.Discard moment closed not_dialled not_refused = refl
owes_none going_up to flow server up (reply.Go other stream) moment closed not_dialled not_refused = refl
owes_none going_up to flow server up (reply.Respond given) moment closed not_dialled not_refused = refl
owes_none going_up to flow server up reply.Kill moment closed not_dialled not_refused = refl
owes_none going_up to flow server up reply.Discard moment closed not_dialled not_refused = refl

pub leads_none : (to : Place) (at : At) (flow : Flow) (sent : Sent) (answer : Reply) → (answer ≡ reply.Dialled → ⊥) → over ≡ sequence (dial_leads to at flow sent answer)
leads_none to at flow sent reply.Dialled not_dialled = absurd (not_dialled refl)
leads_none to at flow sent (reply.Refused fault) not_dialled = refl
leads_none to at flow sent (reply.Go other stream) not_dialled = refl
leads_none to at flow sent (reply.Respond given) not_dialled = refl
leads_none to at flow sent reply.Kill not_dialled = refl
leads_none to at flow sent reply.Discard not_dialled = refl
