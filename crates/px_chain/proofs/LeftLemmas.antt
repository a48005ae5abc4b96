-- Where a conversation passes it can ask no more than before, also where the next flow begins there.
use Rattle.std.proofs.Common.{ℕ, ◌+◌, ◌<◌, ◌≤◌, arith, sym, subst}
use Rattle.px_message.specs.declared.flow.Flow.{Flow}
use Rattle.px_exchange.specs.declared.terms.Terms.{Terms}
use Rattle.px_chain.specs.Chain.{IsOnward, alone, is_alone, is_sequence, pass, sequence}
use Rattle.px_chain.specs.Left.{behind_left, doing_left, stages_left}
use Rattle.px_chain.specs.Sights.{Sight}
use Rattle.px_chain.specs.Stages.{At, Doing, Stage, busy, coming_down, connection, given_body, given_head, idle, next, over, request_body, response_body, response_head, upgraded}
use Rattle.px_chain.proofs.Quiet.{IsBehind, any_flow}
use Rattle.px_chain.proofs.QuietLemmas.{pass_led}

-- behind a flow that can ask so much less
pub sequence_behind : (flow dials count : ℕ) (stage : Stage) → 0 < count → IsBehind flow dials count stage → stages_left (sequence stage) < behind_left flow + count
sequence_behind flow dials count (idle at) some is = absurd is
sequence_behind flow dials count (busy at told (request_body given size)) some ((same, most), more) = omega arith
sequence_behind flow dials count (busy at told (connection how)) some ((same, most), more) = omega arith
sequence_behind flow dials count (busy at told (response_head side how)) some ((same, most), more) = omega arith
sequence_behind flow dials count (busy at told (response_body side how size)) some ((same, most), more) = omega arith
sequence_behind flow dials count (busy at told (coming_down side how)) some ((same, most), more) = omega arith
sequence_behind flow dials count (busy at told (upgraded side)) some ((same, most), more) = omega arith
sequence_behind flow dials count (busy at told given_head) some ((same, most), more) = omega arith
sequence_behind flow dials count (busy at told given_body) some ((same, most), more) = omega arith
sequence_behind flow dials count (next at) some ((same, most), less) = omega arith
sequence_behind flow dials count over some is = omega arith

-- alone no flow follows
pub alone_behind : (flow dials count : ℕ) (stage : Stage) → 0 < count → IsBehind flow dials count stage → stages_left (alone stage) < behind_left flow + count
alone_behind flow dials count (idle at) some is = absurd is
alone_behind flow dials count (busy at told doing) some is = sequence_behind flow dials count (busy at told doing) some is
alone_behind flow dials count (next at) some is = omega arith
alone_behind flow dials count over some is = omega arith

pub onward_behind : (onward : Stage → Stage) → IsOnward onward → (flow dials count : ℕ) (stage : Stage) → 0 < count → IsBehind flow dials count stage →
    stages_left (onward stage) < behind_left flow + count
onward_behind onward (is_alone same) flow dials count stage some is =
    subst (λ f. stages_left (f stage) < behind_left flow + count) (sym same) (alone_behind flow dials count stage some is)
onward_behind onward (is_sequence same) flow dials count stage some is =
    subst (λ f. stages_left (f stage) < behind_left flow + count) (sym same) (sequence_behind flow dials count stage some is)

-- at a flow, whatever it awaits
flow_left : (onward : Stage → Stage) → IsOnward onward → (terms : Terms) (at : At) (flow : Flow) (doing : Doing) (seen : Sight) →
    stages_left (onward (pass terms (busy at flow doing) seen).stage) ≤ behind_left at.flow + doing_left doing
flow_left onward goes terms at flow doing seen =
    let led = pass_led terms any_flow at flow doing seen tt in
    let less = onward_behind onward goes at.flow at.dials (doing_left doing + 1) (pass terms (busy at flow doing) seen).stage (omega arith) led.behind in
    omega arith

-- Where it passes, whether a flow ends there and the next one begins, it can ask no more.
pub passes_left : (terms : Terms) (at : At) (flow : Flow) (doing : Doing) (seen : Sight) (onward : Stage → Stage) → IsOnward onward →
    stages_left (onward (pass terms (busy at flow doing) seen).stage) ≤ stages_left (busy at flow doing)
passes_left terms at flow doing seen onward goes = flow_left onward goes terms at flow doing seen
