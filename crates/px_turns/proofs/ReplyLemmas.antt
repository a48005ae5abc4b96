-- What a server was sent so far, against what it said so far, while a stage waits, and behind a reply.
use Rattle.std.proofs.Common.{◌≡◌, ℕ, ◌<◌, Bool, true, false, List, ◌++◌, Option, Some, None, refl, ap, sym, ◌∙◌, subst, arith, append_assoc}
use Rattle.std.specs.Prelude.{⊤, ◌==◌}
use Rattle.std.proofs.lemmas.Bool.{eqb-true}
use Rattle.px_message.specs.declared.address.Address.{Address}
use Rattle.px_message.specs.declared.flow.Flow.{Flow}
use Rattle.px_message.specs.declared.request.Request.{Request}
use Rattle.px_message.specs.declared.response.Response.{Response}
use Rattle.px_event.specs.declared.command.Command.{Command}
use Rattle.px_event.specs.declared.reply.Reply.{Reply}
use Rattle.px_event.specs.declared.reply.Reply.TheVariants as reply
use Rattle.px_event.specs.Chain.{Timed, Turn}
use Rattle.px_read.specs.Items.{Item, missing, part, complete, bad_head, bad_body}
use Rattle.px_read.specs.declared.head.RequestHead.{RequestHead as ReadRequest}
use Rattle.px_exchange.specs.declared.asked.Judged.{Judged}
use Rattle.px_exchange.specs.declared.asked.Judged.TheVariants.{Refused, Accepted, Connects}
use Rattle.px_exchange.specs.declared.ending.Used.{Used}
use Rattle.px_exchange.specs.declared.ending.Used.TheVariants.{NoServer}
use Rattle.px_exchange.specs.declared.taken.Taken.{Taken}
use Rattle.px_exchange.specs.declared.taken.Taken.TheVariants.{GoesOn, Responds, Kills}
use Rattle.px_exchange.specs.declared.place.Place.{Place}
use Rattle.px_exchange.specs.declared.terms.Terms.{Terms}
use Rattle.px_exchange.specs.Endings.{connection_goes_on, killed_message}
use Rattle.px_exchange.specs.Flows.{with_body}
use Rattle.px_exchange.specs.Places.{is_same_address, server_for}
use Rattle.px_exchange.specs.Replies.{taken_at_request_body, taken_at_request_head}
use Rattle.px_exchange.specs.Requests.{expects, flow_of, judged}
use Rattle.px_chain.specs.Chain.{behind_flow, dial_leads, dial_owes_by, goes_on_by, parked_for, side_if, so_far, turn_body, turn_head, turn_judged, turn_response, turn_taken_body, turn_taken_given, turn_taken_head, turn_taken_returned}
use Rattle.px_chain.specs.Going.{allowed_up_by}
use Rattle.px_chain.specs.Sights.{Sight, server_parked}
use Rattle.px_chain.specs.Stages.{At, Doing, Parked, Sent, Stage, all_sent, busy, coming_down, connection, given_body, given_head, going_up, idle, next, over, request_body, response_body, response_head, side_of, upgraded}
use Rattle.px_chain.proofs.CountedLemmas.{IsSilent}
use Rattle.px_chain.proofs.NotUp.{IsNotUpBy}
use Rattle.px_chain.proofs.OnceLemmas.{sent_to}
use Rattle.px_chain.proofs.SentLemmas.{connected_silent}
use Rattle.px_chain.proofs.SilentLemmas.{early_silent, fault_silent, so_far_silent}
use Rattle.px_chain.proofs.TellLemmas.{told_on, unsaid, waits_tell, waits_tell_at}
use Rattle.px_turns.proofs.PassLemmas.{Answered, Exchanged, TellsNow, TurnsAt, at_rest, awaits_one, ends_full, ends_going, ends_rest, goes_on, is_off, off_behind, switched}
use Rattle.px_turns.proofs.PlaceLemmas.{AwaitsAt, AwaitsIn, GoesAt, IsFree, IsUpgraded, RestsAt, awaits_none, free_none, off_not_up}

-- ---- where a reply leads while no flow uses a side

-- the same side is parked there, or it is the end; and so many servers were dialled
abbrev pub IsSame : At → At → Type 0
IsSame at there = (there.dials ≡ at.dials) × (there.parked ≡ at.parked)

abbrev pub StaysAt : At → Stage → Type 0
StaysAt at (idle there) = IsSame at there
StaysAt at (busy there flow doing) = IsFree doing × IsSame at there
StaysAt at (next there) = IsSame at there
StaysAt at over = ⊤

taken_head_stays : (at : At) (flow : Flow) (expected : Bool) (most : Option ℕ) (taken : Taken Request) (moment : ℕ) (seen : Sight) → StaysAt at (turn_taken_head at flow expected most taken moment seen).stage
taken_head_stays at flow expected most (GoesOn request) moment seen = (tt, (refl, refl))
taken_head_stays at flow expected most (Responds response) moment seen = (tt, (refl, refl))
taken_head_stays at flow expected most Kills moment seen = tt

judged_stays : (terms : Terms) (at : At) (head : ReadRequest) (made : Judged) (seen : Sight) (answer : Timed Reply) → StaysAt at (turn_judged terms at head made seen answer).stage
judged_stays terms at head (Refused fault) seen answer = tt
judged_stays terms at head (Connects address) seen answer = tt
judged_stays terms at head (Accepted request) seen answer =
    taken_head_stays at (flow_of terms at.flow request seen.now) (expects head) (allowed_up_by terms.streams answer.value) (taken_at_request_head request answer.value) answer.moment seen

pub head_stays : (terms : Terms) (at : At) (item : Item ReadRequest) (seen : Sight) (answer : Timed Reply) → StaysAt at (turn_head terms at item seen answer).stage
head_stays terms at missing seen answer = tt
head_stays terms at (part head body) seen answer = judged_stays terms at head (judged terms.place head) seen answer
head_stays terms at (complete head body trailers used) seen answer = judged_stays terms at head (judged terms.place head) seen answer
head_stays terms at (bad_head fault) seen answer = tt
head_stays terms at (bad_body fault head body) seen answer = judged_stays terms at head (judged terms.place head) seen answer

pub response_stays : (at : At) (there : Option Response) (takes : Response → Taken Response) (goes : Taken Response → Turn Stage Command) → ((taken : Taken Response) → StaysAt at (goes taken).stage) →
    StaysAt at (turn_response there takes goes).stage
response_stays at None takes goes stays = tt
response_stays at (Some response) takes goes stays = stays (takes response)

pub given_stays : (at : At) (flow : Flow) (taken : Taken Response) (moment : ℕ) (parked : Used) (closed : Bool) → StaysAt at (turn_taken_given at flow taken moment parked closed).stage
given_stays at flow (GoesOn response) moment parked closed = (tt, (refl, refl))
given_stays at flow (Responds response) moment parked closed = tt
given_stays at flow Kills moment parked closed = tt

behind_stays : (stays : Bool) (at : At) → StaysAt at (behind_flow stays at)
behind_stays true at = (refl, refl)
behind_stays false at = tt

pub returned_stays : (at : At) (flow : Flow) (taken : Taken Response) (moment : ℕ) (parked : Used) (closed : Bool) → StaysAt at (turn_taken_returned at flow taken moment parked closed).stage
returned_stays at flow (GoesOn response) moment parked closed = behind_stays (connection_goes_on at.flow flow.request response) at
returned_stays at flow (Responds response) moment parked closed = tt
returned_stays at flow Kills moment parked closed = tt

-- The reply to the hook of a request's body: no flow uses a side then, or the request goes to the parked one.
pub data BodyLeads (terms : Terms) (at : At) (turned : Turn Stage Command) : Type 0 where
  still_free : ((server : ℕ) → IsSilent server turned.owed) → StaysAt at turned.stage → BodyLeads terms at turned
  goes_there : (flow : Flow) (side : ℕ) → parked_for terms.place flow.request at.parked ≡ Some side → turned ≡ goes_on_by (Some side) terms.place at flow → BodyLeads terms at turned

goes_on_leads : (terms : Terms) (at : At) (flow : Flow) (side : Option ℕ) → parked_for terms.place flow.request at.parked ≡ side → BodyLeads terms at (goes_on_by side terms.place at flow)
goes_on_leads terms at flow None is = still_free (λ server. refl) (tt, (refl, refl))
goes_on_leads terms at flow (Some side) is = goes_there flow side is refl

taken_body_leads : (terms : Terms) (at : At) (flow : Flow) (taken : Taken Request) (moment : ℕ) (seen : Sight) → BodyLeads terms at (turn_taken_body terms.place at flow taken moment seen)
taken_body_leads terms at flow (GoesOn request) moment seen = goes_on_leads terms at (record flow { request = request }) (parked_for terms.place request at.parked) refl
taken_body_leads terms at flow (Responds response) moment seen = still_free (λ server. refl) (tt, (refl, refl))
taken_body_leads terms at flow Kills moment seen =
    still_free (λ server. early_silent server flow killed_message moment (server_parked at.parked seen) seen.closed) tt

pub body_leads : (terms : Terms) (at : At) (flow : Flow) (item : Item ReadRequest) (seen : Sight) (answer : Timed Reply) → BodyLeads terms at (turn_body terms.place at flow item seen answer)
body_leads terms at flow missing seen answer = still_free (λ server. refl) tt
body_leads terms at flow (part head body) seen answer = still_free (λ server. refl) tt
body_leads terms at flow (complete head body trailers used) seen answer =
    let whole : Flow = with_body flow body.content trailers seen.now in
    taken_body_leads terms at whole (taken_at_request_body whole.request answer.value) answer.moment seen
body_leads terms at flow (bad_head fault) seen answer = still_free (λ server. refl) tt
body_leads terms at flow (bad_body fault head body) seen answer = still_free (λ server. refl) tt

-- a request goes to the parked side, at whose address it is
side_there : (to_it : Bool) (parked : Parked) (side : ℕ) → side_if to_it parked.server ≡ Some side → (to_it ≡ true) × (parked.server ≡ side)
side_there true parked side is = (refl, (let e : Some parked.server ≡ Some side = is in cc))
side_there false parked side is = absurd (let e : None ≡ Some side = is in cc)

pub for_there : (place : Place) (request : Request) (parked : Option Parked) (side : ℕ) → parked_for place request parked ≡ Some side →
    (own : Parked) × (parked ≡ Some own) × (own.server ≡ side) × (is_same_address own.address (server_for place request) ≡ true)
for_there place request None side is = absurd (let e : None ≡ Some side = is in cc)
for_there place request (Some parked) side is =
    let both = side_there (is_same_address parked.address (server_for place request)) parked side is in (parked, refl, both.1, both.0)

-- ---- where the answer to a dial leads

-- nothing is sent to another server
pub dial_quiet : (server : ℕ) (terms : Terms) (how : Sent) (flow : Flow) (number : ℕ) (answer : Reply) (moment : ℕ) (closed : Bool) → (number == server) ≡ false →
    IsSilent server (dial_owes_by how terms.place flow number answer moment closed)
dial_quiet server terms all_sent flow number reply.Dialled moment closed other = connected_silent server terms flow number other
dial_quiet server terms going_up flow number reply.Dialled moment closed other = refl
dial_quiet server terms all_sent flow number (reply.Refused fault) moment closed other = fault_silent server flow fault moment NoServer closed
dial_quiet server terms going_up flow number (reply.Refused fault) moment closed other = fault_silent server flow fault moment NoServer closed
dial_quiet server terms all_sent flow number (reply.Go given stream) moment closed other = refl
dial_quiet server terms going_up flow number (reply.Go given stream) moment closed other = refl
dial_quiet server terms all_sent flow number (reply.Respond given) moment closed other = refl
dial_quiet server terms going_up flow number (reply.Respond given) moment closed other = refl
dial_quiet server terms all_sent flow number reply.Kill moment closed other = refl
dial_quiet server terms going_up flow number reply.Kill moment closed other = refl
dial_quiet server terms all_sent flow number reply.Discard moment closed other = refl
dial_quiet server terms going_up flow number reply.Discard moment closed other = refl

-- and no side of one is used
pub dial_off : (server : ℕ) (terms : Terms) (how : Sent) (at : At) (flow : Flow) (answer : Reply) → (at.dials == server) ≡ false → IsNotUpBy server (side_of (dial_leads terms.place at flow how answer))
dial_off server terms how at flow reply.Dialled other = other
dial_off server terms how at flow (reply.Refused fault) other = tt
dial_off server terms how at flow (reply.Go given stream) other = tt
dial_off server terms how at flow (reply.Respond given) other = tt
dial_off server terms how at flow reply.Kill other = tt
dial_off server terms how at flow reply.Discard other = tt

pub not_later : (server dials : ℕ) (same : Bool) → server < dials → (dials == server) ≡ same → same ≡ false
not_later server dials true known is = let e = eqb-true dials server is in absurd (let no : ⊥ = omega arith in no)
not_later server dials false known is = refl

module _ (server : ℕ) (terms : Terms) (address : Address) where
  abbrev Turns : Stage → Sight → List ℕ → List ℕ → Type 0
  Turns stage seen sent heard = TurnsAt server terms address stage seen sent heard

  abbrev Ends : List ℕ → List ℕ → Type 0
  Ends sent heard = Exchanged server terms address sent heard

  abbrev All : List ℕ → List ℕ → Type 0
  All sent said = Answered server terms address sent said

  abbrev TellsOn : Stage → Sight → List ℕ → Type 0
  TellsOn stage seen now = TellsNow server terms address stage seen now

  -- ---- while it waits

  free_quiet : (stage : Stage) (seen : Sight) → RestsAt server terms.place address stage → IsSilent server (so_far terms stage seen)
  free_quiet (idle at) seen rests = so_far_silent server terms (idle at) seen tt
  free_quiet (busy at flow doing) seen rests = so_far_silent server terms (busy at flow doing) seen (subst (λ g. IsNotUpBy server g) (sym (free_none doing rests.0)) tt)
  free_quiet (next at) seen rests = so_far_silent server terms (next at) seen tt
  free_quiet over seen rests = absurd rests

  awaits_quiet : (stage : Stage) (seen : Sight) (text : List ℕ) → AwaitsAt server terms.place address stage text → IsSilent server (so_far terms stage seen)
  awaits_quiet (idle at) seen text awaits = absurd awaits
  awaits_quiet (busy at flow doing) seen text awaits =
      so_far_silent server terms (busy at flow doing) seen (subst (λ g. IsNotUpBy server g) (sym (awaits_none server terms.place address doing flow text awaits)) tt)
  awaits_quiet (next at) seen text awaits = absurd awaits
  awaits_quiet over seen text awaits = absurd awaits

  switched_quiet : (stage : Stage) (seen : Sight) → IsUpgraded server terms.place address stage → IsSilent server (so_far terms stage seen)
  switched_quiet (idle at) seen is = absurd is
  switched_quiet (busy at flow (request_body given most)) seen is = absurd is
  switched_quiet (busy at flow (connection how)) seen is = absurd is
  switched_quiet (busy at flow (response_head side how)) seen is = absurd is
  switched_quiet (busy at flow (response_body side how most)) seen is = absurd is
  switched_quiet (busy at flow (coming_down side how)) seen is = absurd is
  switched_quiet (busy at flow (upgraded side)) seen is = so_far_silent server terms (busy at flow (upgraded side)) seen tt
  switched_quiet (busy at flow given_head) seen is = absurd is
  switched_quiet (busy at flow given_body) seen is = absurd is
  switched_quiet (next at) seen is = absurd is
  switched_quiet over seen is = absurd is

  -- so it stays, with what earlier asks owed
  pub waited_turns : (stage : Stage) (seen : Sight) (sent heard : List ℕ) → Turns stage seen sent heard →
      Turns stage (told_on server terms None 0 stage seen) (sent ++ sent_to server (so_far terms stage seen)) heard
  waited_turns stage seen sent heard (at_rest said all come rests) =
      at_rest said (subst (λ s. All s said) (sym (unsaid server terms None 0 sent (so_far terms stage seen) (free_quiet stage seen rests))) all) come rests
  waited_turns stage seen sent heard (awaits_one before text said all same come awaits) =
      awaits_one before text said all (unsaid server terms None 0 sent (so_far terms stage seen) (awaits_quiet stage seen text awaits) ∙ same) come awaits
  waited_turns stage seen sent heard (goes_on before now said all same come tells goes) =
      let text : List ℕ = sent_to server (so_far terms stage seen) in
      goes_on before (now ++ text) said all (ap (λ s. s ++ text) same ∙ append_assoc before now text) come (waits_tell_at server terms None 0 stage seen now tells) goes
  waited_turns stage seen sent heard (is_off ends off) =
      off_behind server terms address stage (told_on server terms None 0 stage seen) sent heard (so_far terms stage seen) (so_far_silent server terms stage seen (off_not_up server stage off)) ends off
  waited_turns stage seen sent heard (switched ends is) =
      switched (subst (λ s. Ends s heard) (sym (unsaid server terms None 0 sent (so_far terms stage seen) (switched_quiet stage seen is))) ends) is

  tells_end : (stage : Stage) (seen : Sight) (sent before now said heard : List ℕ) → All before said → sent ≡ before ++ now → heard ≡ said ++ seen.server → TellsOn stage seen now →
      GoesAt server terms.place address stage → Ends (sent ++ sent_to server (so_far terms stage seen)) heard
  tells_end (idle at) seen sent before now said heard all same come tells goes = absurd tells
  tells_end (busy at flow doing) seen sent before now said heard all same come (up, tells) goes =
      ends_going server terms address flow seen sent before now _ said heard all same (waits_tell server terms None 0 at flow doing seen now up tells).0 come goes
  tells_end (next at) seen sent before now said heard all same come tells goes = absurd tells
  tells_end over seen sent before now said heard all same come tells goes = absurd tells

  awaits_end : (stage : Stage) (seen : Sight) (before text said sent heard : List ℕ) → All before said → sent ≡ before ++ text → heard ≡ said ++ seen.server → AwaitsAt server terms.place address stage text → Ends sent heard
  awaits_end (idle at) seen before text said sent heard all same come awaits = absurd awaits
  awaits_end (busy at flow doing) seen before text said sent heard all same come awaits =
      in_doing doing awaits
    where
      in_doing : (doing : Doing) → AwaitsIn server terms.place address doing flow text → Ends sent heard
      in_doing (request_body given most) is = absurd is
      in_doing (connection how) is = absurd is
      in_doing (response_head side all_sent) is = ends_full server terms address flow seen before text said sent heard all same come is.1
      in_doing (response_head side going_up) is = absurd is
      in_doing (response_body side all_sent most) is = ends_full server terms address flow seen before text said sent heard all same come is.1
      in_doing (response_body side going_up most) is = absurd is
      in_doing (coming_down side all_sent) is = ends_full server terms address flow seen before text said sent heard all same come is.1
      in_doing (coming_down side going_up) is = absurd is
      in_doing (upgraded side) is = absurd is
      in_doing given_head is = absurd is
      in_doing given_body is = absurd is
  awaits_end (next at) seen before text said sent heard all same come awaits = absurd awaits
  awaits_end over seen before text said sent heard all same come awaits = absurd awaits

  -- and so it is, if nothing more is sent
  pub waited_ends : (stage : Stage) (seen : Sight) (sent heard : List ℕ) → Turns stage seen sent heard → Ends (sent ++ sent_to server (so_far terms stage seen)) heard
  waited_ends stage seen sent heard (at_rest said all come rests) =
      subst (λ s. Ends s heard) (sym (unsaid server terms None 0 sent (so_far terms stage seen) (free_quiet stage seen rests))) (ends_rest server terms address seen sent said heard all come)
  waited_ends stage seen sent heard (awaits_one before text said all same come awaits) =
      subst (λ s. Ends s heard) (sym (unsaid server terms None 0 sent (so_far terms stage seen) (awaits_quiet stage seen text awaits)))
      (awaits_end stage seen before text said sent heard all same come awaits)
  waited_ends stage seen sent heard (goes_on before now said all same come tells goes) = tells_end stage seen sent before now said heard all same come tells goes
  waited_ends stage seen sent heard (is_off ends off) =
      subst (λ s. Ends s heard) (sym (unsaid server terms None 0 sent (so_far terms stage seen) (so_far_silent server terms stage seen (off_not_up server stage off)))) ends
  waited_ends stage seen sent heard (switched ends is) =
      subst (λ s. Ends s heard) (sym (unsaid server terms None 0 sent (so_far terms stage seen) (switched_quiet stage seen is))) ends
