-- A server whose side is not the one that is open: it is sent nothing, and its side is not opened, but by the answer to its own dial.
use Rattle.std.proofs.Common.{◌≡◌, ℕ, ◌+◌, ◌<◌, ◌≤◌, Bool, true, false, Option, Some, None, refl, ap, sym, ◌∙◌, subst, arith}
use Rattle.std.specs.Prelude.{◌==◌}
use Rattle.std.proofs.lemmas.Bool.{eq-eqb, eqb-true}
use Rattle.px_message.specs.declared.flow.Flow.{Flow}
use Rattle.px_event.specs.declared.command.Command.{Command}
use Rattle.px_event.specs.declared.reply.Reply.{Reply}
use Rattle.px_event.specs.declared.reply.Reply.TheVariants as reply
use Rattle.px_event.specs.Chain.{Timed, Turn}
use Rattle.px_exchange.specs.declared.terms.Terms.{Terms}
use Rattle.px_chain.specs.Chain.{IsOnward, begin_up, dial_leads, pass, sight_past, turn, used_by_pass}
use Rattle.px_chain.specs.Keeping.{is_silent, unspoilt_at, unspoilt_by}
use Rattle.px_chain.specs.Sights.{Sight, UsedBytes, request_in}
use Rattle.px_chain.specs.Silent.{connects}
use Rattle.px_chain.specs.Stages.{At, Parked, Sent, Stage, busy, coming_down, connection, given_body, given_head, idle, next, over, request_body, response_body, response_head, side_of, side_parked, upgraded}
use Rattle.px_chain.proofs.CountedLemmas.{IsSilent}
use Rattle.px_chain.proofs.NotUp.{IsNotUpBy}
use Rattle.px_chain.proofs.Quiet.{IsBehind as IsQuietly}
use Rattle.px_chain.proofs.QuietLemmas.{turn_behind}
use Rattle.px_chain.proofs.SentLemmas.{connected_silent}
use Rattle.px_chain.proofs.SightLaws.{IsSideFrom, SidePassed, begin_side, is_new, no_side, same_server, same_side, side_closed, side_kept, side_onward, side_passed, side_turned}
use Rattle.px_chain.proofs.SilentLemmas.{Before, IsBetween, IsBeyond, ServersBelow, before_at, beyond_by, dialled, pass_silent, turn_leads}
use Rattle.px_chain.proofs.TellLemmas.{IsAt, IsUnanswered, at_onward, at_passed}
use Rattle.px_turns.specs.Turns.{connects_to}
use Rattle.px_turns.proofs.PlaceLemmas.{off_not_up}
use Rattle.px_turns.proofs.ReplyLemmas.{BodyLeads, StaysAt, body_leads, dial_quiet, for_there, goes_there, head_stays, not_later, still_free}

-- ---- how many servers were dialled

-- the server was dialled, or connected before the conversation
abbrev pub IsDialled : ℕ → Stage → Type 0
IsDialled server stage = IsAt (λ dials parked. server < dials) stage

dialled_between : (server : ℕ) (was : Before) (least most : ℕ) (stage : Stage) → IsBetween was least most stage → server < least → IsDialled server stage
dialled_between server was least most (idle at) between low = let more = between.0.0 in omega arith
dialled_between server was least most (busy at flow doing) between low = let more = between.0.0 in omega arith
dialled_between server was least most (next at) between low = let more = between.0.0 in omega arith
dialled_between server was least most over between low = tt

dialled_by : (server : ℕ) (from to : Stage) (most : ℕ) → IsDialled server from → (from ≡ over → to ≡ over) → IsBetween (before_at from) (dialled from) most to → IsDialled server to
dialled_by server (idle at) to most is ends between = dialled_between server (before_at (idle at)) at.dials most to between is
dialled_by server (busy at flow doing) to most is ends between = dialled_between server (before_at (busy at flow doing)) at.dials most to between is
dialled_by server (next at) to most is ends between = dialled_between server (before_at (next at)) at.dials most to between is
dialled_by server over to most is ends between = subst (IsDialled server) (sym (ends refl)) tt

pub dialled_turned : (server : ℕ) (terms : Terms) (from : Stage) (seen : Sight) (answer : Timed Reply) → ServersBelow from → IsDialled server from → IsDialled server (turn terms from seen answer).stage
dialled_turned server terms from seen answer below is =
    let led = turn_leads (dialled from + connects answer.value) terms from seen answer below (beyond_by (dialled from + connects answer.value) answer.value from (omega arith)) in
    dialled_by server from (turn terms from seen answer).stage (dialled from + connects answer.value) is (λ ends. ap (λ s. (turn terms s seen answer).stage) ends) led.1

-- a number that no side of the stage has
abbrev far : Stage → ℕ
far (busy at flow (response_body side how most)) = side + 1
far (busy at flow (coming_down side how)) = side + 1
far stage = 0

not_next : (side : ℕ) → (side == side + 1) ≡ true → ⊥
not_next side is = let same = eqb-true side (side + 1) is in let no : ⊥ = omega arith in no

far_unanswered : (stage : Stage) (seen : Sight) → IsUnanswered (far stage) stage seen
far_unanswered (idle at) seen = tt
far_unanswered (busy at flow (request_body given most)) seen = tt
far_unanswered (busy at flow (connection how)) seen = tt
far_unanswered (busy at flow (response_head side how)) seen = tt
far_unanswered (busy at flow (response_body side how most)) seen = λ is. absurd (not_next side is)
far_unanswered (busy at flow (coming_down side how)) seen = λ is. absurd (not_next side is)
far_unanswered (busy at flow (upgraded side)) seen = tt
far_unanswered (busy at flow given_head) seen = tt
far_unanswered (busy at flow given_body) seen = tt
far_unanswered (next at) seen = tt
far_unanswered over seen = tt

pub dialled_passed : (server : ℕ) (terms : Terms) (stage : Stage) (seen : Sight) → IsDialled server stage → IsDialled server (pass terms stage seen).stage
dialled_passed server terms stage seen is =
    at_passed (λ dials parked. server < dials) (λ dials parked held. held) (far stage) (λ dials parked own other held. held) terms stage seen (far_unanswered stage seen) is

pub dialled_onward : (server : ℕ) (onward : Stage → Stage) → IsOnward onward → (stage : Stage) → IsDialled server stage → IsDialled server (onward stage)
dialled_onward server onward goes stage is = at_onward (λ dials parked. server < dials) onward goes stage is

-- ---- its side is not open

pub off_from : (server : ℕ) (from : Stage) (side : Option ℕ) → IsDialled server from → IsNotUpBy server (side_of from) → IsSideFrom from side → IsNotUpBy server side
off_from server from side known off (no_side is) = subst (λ s. IsNotUpBy server s) (sym is) tt
off_from server from side known off (is_new at flow how is new) =
    let low : server < at.dials = subst (IsDialled server) is known in
    subst (λ s. IsNotUpBy server s) (sym new) (not_later server at.dials (at.dials == server) low refl)
off_from server from side known off (same_server none is) = subst (λ s. IsNotUpBy server s) (sym is) off

pub off_turned : (server : ℕ) (terms : Terms) (from : Stage) (seen : Sight) (answer : Timed Reply) → IsDialled server from → IsNotUpBy server (side_of from) →
    IsNotUpBy server (side_of (turn terms from seen answer).stage)
off_turned server terms from seen answer known off = off_from server from (side_of (turn terms from seen answer).stage) known off (side_turned terms from seen answer)

off_passed_by : (server : ℕ) (before : Option ℕ) (seen : Sight) (to : Stage) (used : UsedBytes → UsedBytes) (past : Sight) → SidePassed before seen to used past → IsNotUpBy server before → IsNotUpBy server (side_of to)
off_passed_by server before seen to used past (same_side is had bytes shut) off = subst (λ s. IsNotUpBy server s) (sym is) off
off_passed_by server before seen to used past (side_kept request is had bytes shut) off = subst (λ s. IsNotUpBy server s) (sym is) off
off_passed_by server before seen to used past (side_closed is had bytes shut) off = subst (λ s. IsNotUpBy server s) (sym is) tt

pub off_passed : (server : ℕ) (terms : Terms) (stage : Stage) (seen : Sight) → IsNotUpBy server (side_of stage) → IsNotUpBy server (side_of (pass terms stage seen).stage)
off_passed server terms stage seen off =
    off_passed_by server (side_of stage) seen (pass terms stage seen).stage (used_by_pass terms stage seen) (sight_past terms stage seen) (side_passed terms stage seen) off

pub off_onward : (server : ℕ) (onward : Stage → Stage) → IsOnward onward → (stage : Stage) → IsNotUpBy server (side_of stage) → IsNotUpBy server (side_of (onward stage))
off_onward server onward goes stage off = subst (λ s. IsNotUpBy server s) (sym (side_onward onward goes stage)) off

-- it is the same that is open where it passes, or none is
passed_by : (server : ℕ) (before : Option ℕ) (seen : Sight) (to : Stage) (used : UsedBytes → UsedBytes) (past : Sight) → SidePassed before seen to used past → side_of to ≡ Some server → before ≡ Some server
passed_by server before seen to used past (same_side same had bytes shut) is = sym same ∙ is
passed_by server before seen to used past (side_kept request same had bytes shut) is = sym same ∙ is
passed_by server before seen to used past (side_closed none had bytes shut) is = absurd (let e : None ≡ Some server = sym none ∙ is in cc)

pub side_before : (server : ℕ) (terms : Terms) (stage : Stage) (seen : Sight) → side_of (pass terms stage seen).stage ≡ Some server → side_of stage ≡ Some server
side_before server terms stage seen is =
    passed_by server (side_of stage) seen (pass terms stage seen).stage (used_by_pass terms stage seen) (sight_past terms stage seen) (side_passed terms stage seen) is

-- ---- it is sent nothing

pub off_pass : (server : ℕ) (terms : Terms) (stage : Stage) (seen : Sight) → IsNotUpBy server (side_of stage) → IsSilent server (pass terms stage seen).owed
off_pass server terms stage seen off =
    pass_silent server terms stage seen (off_not_up server (begin_up terms stage seen) (subst (λ s. IsNotUpBy server s) (sym (begin_side terms stage seen)) off))

silent_there : (silent : Bool) (parked : Option Parked) (own : Parked) → unspoilt_by silent parked ≡ Some own → parked ≡ Some own
silent_there true parked own is = is
silent_there false parked own is = absurd (let e : None ≡ Some own = is in cc)

body_quiet : (server : ℕ) (terms : Terms) (at : At) (seen : Sight) (turned : Turn Stage Command) → BodyLeads terms (unspoilt_at at seen) turned → IsNotUpBy server (side_parked at.parked) → IsSilent server turned.owed
body_quiet server terms at seen turned (still_free none stays) off = none server
body_quiet server terms at seen turned (goes_there flow side for same) off =
    let found = for_there terms.place flow.request (unspoilt_at at seen).parked side for in
    let was = silent_there (is_silent seen.server seen.shut) at.parked found.0 found.1 in
    let apart : (side == server) ≡ false = subst (λ s. IsNotUpBy server s) (ap side_parked was ∙ ap (λ n. Some n) found.2) off in
    subst (λ t. IsSilent server t.owed) (sym same) (connected_silent server terms flow side apart)

pub off_turn : (server : ℕ) (terms : Terms) (from : Stage) (seen : Sight) (answer : Timed Reply) → ServersBelow from → IsDialled server from → IsNotUpBy server (side_of from) →
    IsSilent server (turn terms from seen answer).owed
off_turn server terms (idle at) seen answer below known off = (turn_leads server terms (idle at) seen answer below tt).0
off_turn server terms (busy at flow (request_body given most)) seen answer below known off =
    body_quiet server terms at seen (turn terms (busy at flow (request_body given most)) seen answer) (body_leads terms (unspoilt_at at seen) flow (request_in seen) seen answer) off
off_turn server terms (busy at flow (connection how)) seen answer below known off =
    dial_quiet server terms how flow at.dials answer.value answer.moment seen.closed (not_later server at.dials (at.dials == server) known refl)
off_turn server terms (busy at flow (response_head side how)) seen answer below known off = (turn_leads server terms (busy at flow (response_head side how)) seen answer below tt).0
off_turn server terms (busy at flow (response_body side how most)) seen answer below known off = (turn_leads server terms (busy at flow (response_body side how most)) seen answer below tt).0
off_turn server terms (busy at flow (coming_down side how)) seen answer below known off = refl
off_turn server terms (busy at flow (upgraded side)) seen answer below known off = refl
off_turn server terms (busy at flow given_head) seen answer below known off = (turn_leads server terms (busy at flow given_head) seen answer below tt).0
off_turn server terms (busy at flow given_body) seen answer below known off = (turn_leads server terms (busy at flow given_body) seen answer below tt).0
off_turn server terms (next at) seen answer below known off = refl
off_turn server terms over seen answer below known off = refl

-- ---- a server that was not dialled

-- the answer is that of its dial, with the connection, or it is no such answer
pub record IsConnected (server : ℕ) (stage : Stage) (answer : Reply) : Type 0 where
  pub at : At
  pub flow : Flow
  pub how : Sent
  pub there : stage ≡ busy at flow (connection how)
  pub number : (at.dials == server) ≡ true
  pub value : answer ≡ reply.Dialled

no_dial : {A : Type 0} → false ≡ true → A
no_dial is = absurd (let e : false ≡ true = is in cc)

pub connected_is : (server : ℕ) (stage : Stage) (answer : Reply) → connects_to server stage answer ≡ true → IsConnected server stage answer
connected_is server (idle at) answer is = no_dial is
connected_is server (busy at flow (request_body given most)) answer is = no_dial is
connected_is server (busy at flow (connection how)) reply.Dialled is = record { at = at; flow = flow; how = how; there = refl; number = is; value = refl }
connected_is server (busy at flow (connection how)) (reply.Refused fault) is = no_dial is
connected_is server (busy at flow (connection how)) (reply.Go given stream) is = no_dial is
connected_is server (busy at flow (connection how)) (reply.Respond given) is = no_dial is
connected_is server (busy at flow (connection how)) reply.Kill is = no_dial is
connected_is server (busy at flow (connection how)) reply.Discard is = no_dial is
connected_is server (busy at flow (response_head side how)) answer is = no_dial is
connected_is server (busy at flow (response_body side how most)) answer is = no_dial is
connected_is server (busy at flow (coming_down side how)) answer is = no_dial is
connected_is server (busy at flow (upgraded side)) answer is = no_dial is
connected_is server (busy at flow given_head) answer is = no_dial is
connected_is server (busy at flow given_body) answer is = no_dial is
connected_is server (next at) answer is = no_dial is
connected_is server over answer is = no_dial is

-- another number is below it
below_it : (dials server : ℕ) → (dials == server) ≡ false → dials ≤ server → dials + 1 ≤ server
below_it dials server other few = strict (eqb-false' dials server other)
  where
    eqb-false' : (a b : ℕ) → (a == b) ≡ false → a ≡ b → ⊥
    eqb-false' a b is same = let e : true ≡ false = sym (eq-eqb a b same) ∙ is in cc

    strict : (dials ≡ server → ⊥) → dials + 1 ≤ server
    strict apart = omega arith

-- no more servers were dialled behind the answer to a hook
few_quietly : (flow dials count : ℕ) (to : Stage) → count ≤ 2 → IsQuietly flow dials count to → dialled to ≤ dials
few_quietly flow dials count (idle at) few led = absurd led
few_quietly flow dials count (busy at other (request_body given most)) few led = led.0.1
few_quietly flow dials count (busy at other (connection how)) few led = led.0.1
few_quietly flow dials count (busy at other (response_head side how)) few led = let more = led.1 in absurd (let no : ⊥ = omega arith in no)
few_quietly flow dials count (busy at other (response_body side how most)) few led = led.0.1
few_quietly flow dials count (busy at other (coming_down side how)) few led = led.0.1
few_quietly flow dials count (busy at other (upgraded side)) few led = led.0.1
few_quietly flow dials count (busy at other given_head) few led = led.0.1
few_quietly flow dials count (busy at other given_body) few led = led.0.1
few_quietly flow dials count (next at) few led = led.0.1
few_quietly flow dials count over few led = omega arith

few_stays : (at : At) (to : Stage) → StaysAt at to → dialled to ≤ at.dials
few_stays at (idle there) stays = let same = stays.0 in omega arith
few_stays at (busy there flow doing) stays = let same = stays.1.0 in omega arith
few_stays at (next there) stays = let same = stays.0 in omega arith
few_stays at over stays = omega arith

few_body : (terms : Terms) (at : At) (turned : Turn Stage Command) → BodyLeads terms at turned → dialled turned.stage ≤ at.dials
few_body terms at turned (still_free none stays) = few_stays at turned.stage stays
few_body terms at turned (goes_there flow side for same) = subst (λ t. dialled t.stage ≤ at.dials) (sym same) (omega arith)

few_dial : (server : ℕ) (terms : Terms) (at : At) (flow : Flow) (how : Sent) (answer : Reply) → at.dials ≤ server → connects_to server (busy at flow (connection how)) answer ≡ false →
    dialled (dial_leads terms.place at flow how answer) ≤ server
few_dial server terms at flow how reply.Dialled few other = below_it at.dials server other few
few_dial server terms at flow how (reply.Refused fault) few other = omega arith
few_dial server terms at flow how (reply.Go given stream) few other = omega arith
few_dial server terms at flow how (reply.Respond given) few other = omega arith
few_dial server terms at flow how reply.Kill few other = omega arith
few_dial server terms at flow how reply.Discard few other = omega arith

at_most : (a b c : ℕ) → a ≤ b → b ≤ c → a ≤ c
at_most a b c one two = omega arith

-- So it stays one that was not dialled where no answer connects it.
pub few_turned : (server : ℕ) (terms : Terms) (from : Stage) (seen : Sight) (answer : Timed Reply) → dialled from ≤ server → connects_to server from answer.value ≡ false →
    dialled (turn terms from seen answer).stage ≤ server
few_turned server terms (idle at) seen answer few other =
    at_most (dialled (turn terms (idle at) seen answer).stage) at.dials server
    (few_stays (unspoilt_at at seen) (turn terms (idle at) seen answer).stage (head_stays terms (unspoilt_at at seen) (request_in seen) seen answer)) few
few_turned server terms (busy at flow (request_body given most)) seen answer few other =
    at_most (dialled (turn terms (busy at flow (request_body given most)) seen answer).stage) at.dials server
    (few_body terms (unspoilt_at at seen) (turn terms (busy at flow (request_body given most)) seen answer) (body_leads terms (unspoilt_at at seen) flow (request_in seen) seen answer)) few
few_turned server terms (busy at flow (connection how)) seen answer few other = few_dial server terms (unspoilt_at at seen) flow how answer.value few (same_number answer.value other)
  where
    same_number : (value : Reply) → connects_to server (busy at flow (connection how)) value ≡ false → connects_to server (busy (unspoilt_at at seen) flow (connection how)) value ≡ false
    same_number reply.Dialled is = is
    same_number (reply.Refused fault) is = is
    same_number (reply.Go given stream) is = is
    same_number (reply.Respond given) is = is
    same_number reply.Kill is = is
    same_number reply.Discard is = is
few_turned server terms (busy at flow (response_head side how)) seen answer few other =
    at_most (dialled (turn terms (busy at flow (response_head side how)) seen answer).stage) at.dials server
    (few_quietly at.flow at.dials 2 (turn terms (busy at flow (response_head side how)) seen answer).stage (omega arith) (turn_behind terms (busy at flow (response_head side how)) seen answer tt)) few
few_turned server terms (busy at flow (response_body side how most)) seen answer few other =
    at_most (dialled (turn terms (busy at flow (response_body side how most)) seen answer).stage) at.dials server
    (few_quietly at.flow at.dials 1 (turn terms (busy at flow (response_body side how most)) seen answer).stage (omega arith) (turn_behind terms (busy at flow (response_body side how most)) seen answer tt)) few
few_turned server terms (busy at flow (coming_down side how)) seen answer few other = omega arith
few_turned server terms (busy at flow (upgraded side)) seen answer few other = omega arith
few_turned server terms (busy at flow given_head) seen answer few other =
    at_most (dialled (turn terms (busy at flow given_head) seen answer).stage) at.dials server
    (few_quietly at.flow at.dials 2 (turn terms (busy at flow given_head) seen answer).stage (omega arith) (turn_behind terms (busy at flow given_head) seen answer tt)) few
few_turned server terms (busy at flow given_body) seen answer few other =
    at_most (dialled (turn terms (busy at flow given_body) seen answer).stage) at.dials server
    (few_quietly at.flow at.dials 1 (turn terms (busy at flow given_body) seen answer).stage (omega arith) (turn_behind terms (busy at flow given_body) seen answer tt)) few
few_turned server terms (next at) seen answer few other = few
few_turned server terms over seen answer few other = omega arith

-- and it is sent nothing then
beyond_it : (server : ℕ) (from : Stage) (answer : Reply) → dialled from ≤ server → connects_to server from answer ≡ false → IsBeyond server answer from
beyond_it server (idle at) answer few other = tt
beyond_it server (busy at flow (request_body given most)) answer few other = few
beyond_it server (busy at flow (connection how)) reply.Dialled few other = below_it at.dials server other few
beyond_it server (busy at flow (connection how)) (reply.Refused fault) few other = omega arith
beyond_it server (busy at flow (connection how)) (reply.Go given stream) few other = omega arith
beyond_it server (busy at flow (connection how)) (reply.Respond given) few other = omega arith
beyond_it server (busy at flow (connection how)) reply.Kill few other = omega arith
beyond_it server (busy at flow (connection how)) reply.Discard few other = omega arith
beyond_it server (busy at flow (response_head side how)) answer few other = tt
beyond_it server (busy at flow (response_body side how most)) answer few other = tt
beyond_it server (busy at flow (coming_down side how)) answer few other = tt
beyond_it server (busy at flow (upgraded side)) answer few other = tt
beyond_it server (busy at flow given_head) answer few other = tt
beyond_it server (busy at flow given_body) answer few other = tt
beyond_it server (next at) answer few other = tt
beyond_it server over answer few other = tt

pub new_turn : (server : ℕ) (terms : Terms) (from : Stage) (seen : Sight) (answer : Timed Reply) → ServersBelow from → dialled from ≤ server → connects_to server from answer.value ≡ false →
    IsSilent server (turn terms from seen answer).owed
new_turn server terms from seen answer below few other = (turn_leads server terms from seen answer below (beyond_it server from answer.value few other)).0
