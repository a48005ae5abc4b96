-- What is asked about at a stage: whether it is a dial, how many answers are left there, and the ask that the stage finds.
use Rattle.std.proofs.Common.{◌≡◌, ℕ, Bool, true, false, List, [], ◌∷◌, Option, Some, None, refl, ap, sym, ◌∙◌, subst}
use Rattle.std.specs.Prelude.{◌==◌, ◌&&◌, not, if◌then◌else◌, ⊤}
use Rattle.px_message.specs.declared.fault.Fault.{Fault}
use Rattle.px_message.specs.declared.flow.Flow.{Flow}
use Rattle.px_event.specs.declared.command.Command.{Command}
use Rattle.px_event.specs.Chain.{Look, NotYet, Asks, Ends}
use Rattle.px_event.specs.Layer.{asks_in}
use Rattle.px_read.specs.Items.{Item, missing, part, complete, bad_head, bad_body}
use Rattle.px_read.specs.Laws.{head_in}
use Rattle.px_read.specs.declared.head.RequestHead.{RequestHead as ReadRequest}
use Rattle.px_read.specs.declared.head.ResponseHead.{ResponseHead as ReadResponse}
use Rattle.px_exchange.specs.declared.asked.Judged.{Judged}
use Rattle.px_exchange.specs.declared.asked.Judged.TheVariants.{Refused, Accepted, Connects}
use Rattle.px_exchange.specs.declared.ending.Used.{Used}
use Rattle.px_exchange.specs.declared.terms.Terms.{Terms}
use Rattle.px_exchange.specs.Finds.{is_relayed, look_answer, look_body, look_head, look_judged, look_returned, or_leaves}
use Rattle.px_exchange.specs.Requests.{judged}
use Rattle.px_chain.specs.Chain.{bad_or, find, find_unspoilt, leaving, look, look_up}
use Rattle.px_chain.specs.Keeping.{unspoilt, unspoilt_at}
use Rattle.px_chain.specs.Left.{stage_left}
use Rattle.px_chain.specs.Behind.{dials_at}
use Rattle.px_chain.specs.Sights.{Sight, answers_in, request_in, server_in, server_parked}
use Rattle.px_chain.specs.Stages.{At, Doing, Sent, Stage, all_sent, busy, coming_down, connection, given_body, given_head, going_up, idle, next, over, place_of, request_body, response_body, response_head, upgraded}
use Rattle.px_stream.specs.declared.phase.Asked.{Asked}
use Rattle.px_stream.specs.declared.phase.Asked.TheVariants as asked
use Rattle.px_stream.specs.declared.phase.Phase.TheVariants as phase
use Rattle.px_stream.specs.Stands.{answer_asked, asked_for, asked_in, asked_of, bare, body_asked, head_asked, judged_asked, returned_asked}
use Rattle.px_stream.specs.Tells.{asked_left, uses_side}
use Rattle.px_stream.specs.Turns.{is_dial, used_at}

abbrev AsksOf : Look Command → Asked → Type 0
AsksOf (Asks ask) found = asks_in ask ≡ asked_of found ∷ []
AsksOf l found = ⊤

abbrev Facts : At → Sight → Bool → ℕ → Bool → Used → Look Command → Option Asked → Type 0
Facts at seen dials count uses used l None = ⊤
Facts at seen dials count uses used l (Some found) =
    (is_dial found ≡ dials) × (asked_left found ≡ count) × (uses_side (phase.Asked found) ≡ uses) × (used_at at found seen ≡ used) × AsksOf l found

-- the server whose side a stage uses
abbrev pub used_of : Stage → Sight → Used
used_of (busy at flow (response_head server how)) seen = server_in server seen
used_of (busy at flow (response_body server how most)) seen = server_in server seen
used_of (busy at flow (coming_down server how)) seen = server_in server seen
used_of stage seen = server_parked (place_of stage).parked seen

abbrev pub uses_of : Stage → Bool
uses_of (busy at flow (response_head server how)) = true
uses_of (busy at flow (response_body server how most)) = true
uses_of (busy at flow (coming_down server how)) = true
uses_of stage = false

-- it is the hook of a whole response that came of a server
abbrev pub returns : Asked → Bool
returns (asked.ResponseBody flow server up) = true
returns found = false

abbrev pub returns_at : Stage → Bool
returns_at stage = uses_of stage && (stage_left stage == 1)

returns_so : (found : Asked) → returns found ≡ (uses_side (phase.Asked found) && (asked_left found == 1))
returns_so (asked.Idle flow expects) = refl
returns_so (asked.RequestBody flow) = refl
returns_so (asked.Connection flow server up) = refl
returns_so (asked.ResponseHead flow server up) = refl
returns_so (asked.ResponseBody flow server up) = refl
returns_so (asked.GivenHead flow) = refl
returns_so (asked.GivenBody flow) = refl

module _ (at : At) (seen : Sight) where
  abbrev now : ℕ
  now = seen.now

  abbrev closed : Bool
  closed = seen.closed

  abbrev used : Used
  used = server_parked at.parked seen

  judged_facts : (terms : Terms) (head : ReadRequest) (made : Judged) → Facts at seen false 5 false used (look_judged terms at.flow head made now used closed) (judged_asked terms at head made now)
  judged_facts terms head (Refused fault) = tt
  judged_facts terms head (Accepted message) = (refl, refl, refl, refl, refl)
  judged_facts terms head (Connects address) = tt

  head_facts : (terms : Terms) (item : Item ReadRequest) → Facts at seen false 5 false used (look_head terms at.flow item now used closed) (head_asked terms at (head_in item) now)
  head_facts terms missing = tt
  head_facts terms (part head body) = judged_facts terms head (judged terms.place head)
  head_facts terms (complete head body trailers size) = judged_facts terms head (judged terms.place head)
  head_facts terms (bad_head fault) = tt
  head_facts terms (bad_body fault head body) = judged_facts terms head (judged terms.place head)

  body_facts : (flow : Flow) (item : Item ReadRequest) → Facts at seen false 4 false used (look_body flow item now used closed) (body_asked flow item now)
  body_facts flow missing = tt
  body_facts flow (part head body) = tt
  body_facts flow (complete head body trailers size) = (refl, refl, refl, refl, refl)
  body_facts flow (bad_head fault) = tt
  body_facts flow (bad_body fault head body) = tt

  relayed_facts : (b : Bool) (owed : List Command) (ask : Command) (found : Asked) → asks_in ask ≡ asked_of found ∷ [] → AsksOf (if not b then Ends owed else Asks ask) found
  relayed_facts true owed ask found is = is
  relayed_facts false owed ask found is = tt

  answer_facts : (flow : Flow) (server : ℕ) (item : Item ReadResponse) → Facts at seen false 2 true (server_in server seen) (look_answer flow item now (server_in server seen) closed) (answer_asked flow server (head_in item) now)
  answer_facts flow server missing = tt
  answer_facts flow server (part head body) = (refl, refl, refl, refl, relayed_facts (is_relayed head.code) _ _ _ refl)
  answer_facts flow server (complete head body trailers size) = (refl, refl, refl, refl, relayed_facts (is_relayed head.code) _ _ _ refl)
  answer_facts flow server (bad_head fault) = tt
  answer_facts flow server (bad_body fault head body) = (refl, refl, refl, refl, relayed_facts (is_relayed head.code) _ _ _ refl)

  returned_facts : (flow : Flow) (server : ℕ) (item : Item ReadResponse) → Facts at seen false 1 true (server_in server seen) (look_returned flow item now (server_in server seen) closed) (returned_asked flow server item now)
  returned_facts flow server missing = tt
  returned_facts flow server (part head body) = tt
  returned_facts flow server (complete head body trailers size) = (refl, refl, refl, refl, refl)
  returned_facts flow server (bad_head fault) = tt
  returned_facts flow server (bad_body fault head body) = tt

-- a fault of a request that goes up is no ask
bad_facts : (item : Item ReadRequest) (ends : Fault → List Command) (l : Look Command) (found : Asked) → AsksOf l found → AsksOf (bad_or item ends l) found
bad_facts missing ends l found is = is
bad_facts (part head body) ends l found is = is
bad_facts (complete head body trailers size) ends l found is = is
bad_facts (bad_head fault) ends l found is = is
bad_facts (bad_body fault head body) ends l found is = tt

up_facts : (at : At) (seen : Sight) (dials : Bool) (count : ℕ) (uses : Bool) (those : Used) (sent : Sent) (ends : Fault → List Command) (l : Look Command) (found : Option Asked) →
    Facts at seen dials count uses those l found → Facts at seen dials count uses those (look_up sent seen ends l) found
up_facts at seen dials count uses those sent ends l None is = tt
up_facts at seen dials count uses those all_sent ends l (Some found) is = is
up_facts at seen dials count uses those going_up ends l (Some found) is = (is.0, is.1, is.2, is.3, bad_facts (request_in seen) ends l found is.4)

facts_in : (terms : Terms) (stage : Stage) (seen : Sight) → Facts (place_of stage) seen (dials_at stage) (stage_left stage) (uses_of stage) (used_of stage seen) (find_unspoilt terms stage seen) (asked_in terms stage seen)
facts_in terms (idle at) seen = head_facts at seen terms (request_in seen)
facts_in terms (busy at flow (request_body given most)) seen = body_facts at seen flow (request_in seen)
facts_in terms (busy at flow (connection sent)) seen = (refl, refl, refl, refl, refl)
facts_in terms (busy at flow (response_head server how)) seen =
    up_facts at seen false 2 true (server_in server seen) how _ _ _ (answer_facts at seen flow server (answers_in flow.request seen).final)
facts_in terms (busy at flow (response_body server how most)) seen =
    up_facts at seen false 1 true (server_in server seen) how _ _ _ (returned_facts at seen flow server (answers_in flow.request seen).final)
facts_in terms (busy at flow (coming_down server how)) seen = tt
facts_in terms (busy at flow (upgraded server)) seen = tt
facts_in terms (busy at flow given_head) seen = (refl, refl, refl, refl, refl)
facts_in terms (busy at flow given_body) seen = (refl, refl, refl, refl, refl)
facts_in terms (next at) seen = tt
facts_in terms over seen = tt

-- how a request stands meanwhile changes nothing of these
asks_bare : (l : Look Command) (found other : Asked) → asked_of other ≡ asked_of found → AsksOf l other → AsksOf l found
asks_bare NotYet found other same is = tt
asks_bare (Asks ask) found other same is = is ∙ ap (λ a. a ∷ []) same
asks_bare (Ends owed) found other same is = tt

bare_facts : (at : At) (seen : Sight) (dials : Bool) (count : ℕ) (uses : Bool) (those : Used) (l : Look Command) (found : Asked) →
    Facts at seen dials count uses those l (Some (bare found)) → Facts at seen dials count uses those l (Some found)
bare_facts at seen dials count uses those l (asked.Idle flow expects) is = is
bare_facts at seen dials count uses those l (asked.RequestBody flow) is = is
bare_facts at seen dials count uses those l (asked.Connection flow server up) is =
    (is.0, is.1, is.2, is.3, asks_bare l (asked.Connection flow server up) (bare (asked.Connection flow server up)) refl is.4)
bare_facts at seen dials count uses those l (asked.ResponseHead flow server up) is =
    (is.0, is.1, is.2, is.3, asks_bare l (asked.ResponseHead flow server up) (bare (asked.ResponseHead flow server up)) refl is.4)
bare_facts at seen dials count uses those l (asked.ResponseBody flow server up) is =
    (is.0, is.1, is.2, is.3, asks_bare l (asked.ResponseBody flow server up) (bare (asked.ResponseBody flow server up)) refl is.4)
bare_facts at seen dials count uses those l (asked.GivenHead flow) is = is
bare_facts at seen dials count uses those l (asked.GivenBody flow) is = is

-- what is asked is the same whatever is parked
judged_apart : (terms : Terms) (at : At) (seen : Sight) (head : ReadRequest) (made : Judged) → judged_asked terms (unspoilt_at at seen) head made seen.now ≡ judged_asked terms at head made seen.now
judged_apart terms at seen head (Refused fault) = refl
judged_apart terms at seen head (Accepted message) = refl
judged_apart terms at seen head (Connects address) = refl

head_apart : (terms : Terms) (at : At) (seen : Sight) (o : Option ReadRequest) → head_asked terms (unspoilt_at at seen) o seen.now ≡ head_asked terms at o seen.now
head_apart terms at seen None = refl
head_apart terms at seen (Some head) = judged_apart terms at seen head (judged terms.place head)

for_apart : (at : At) (flow : Flow) (doing : Doing) (seen : Sight) → asked_for (unspoilt_at at seen) flow doing seen ≡ asked_for at flow doing seen
for_apart at flow (request_body given most) seen = refl
for_apart at flow (connection sent) seen = refl
for_apart at flow (response_head server how) seen = refl
for_apart at flow (response_body server how most) seen = refl
for_apart at flow (coming_down server how) seen = refl
for_apart at flow (upgraded server) seen = refl
for_apart at flow given_head seen = refl
for_apart at flow given_body seen = refl

pub asked_apart : (terms : Terms) (stage : Stage) (seen : Sight) → asked_in terms (unspoilt stage seen) seen ≡ asked_in terms stage seen
asked_apart terms (idle at) seen = head_apart terms at seen (head_in (request_in seen))
asked_apart terms (busy at flow doing) seen = for_apart at flow doing seen
asked_apart terms (next at) seen = refl
asked_apart terms over seen = refl

-- and so is what a stage can ask
dials_apart : (stage : Stage) (seen : Sight) → dials_at (unspoilt stage seen) ≡ dials_at stage
dials_apart (idle at) seen = refl
dials_apart (busy at flow doing) seen = refl
dials_apart (next at) seen = refl
dials_apart over seen = refl

left_doing : (at : At) (flow : Flow) (doing : Doing) (seen : Sight) → stage_left (busy (unspoilt_at at seen) flow doing) ≡ stage_left (busy at flow doing)
left_doing at flow (request_body given most) seen = refl
left_doing at flow (connection sent) seen = refl
left_doing at flow (response_head server how) seen = refl
left_doing at flow (response_body server how most) seen = refl
left_doing at flow (coming_down server how) seen = refl
left_doing at flow (upgraded server) seen = refl
left_doing at flow given_head seen = refl
left_doing at flow given_body seen = refl

left_apart : (stage : Stage) (seen : Sight) → stage_left (unspoilt stage seen) ≡ stage_left stage
left_apart (idle at) seen = refl
left_apart (busy at flow doing) seen = left_doing at flow doing seen
left_apart (next at) seen = refl
left_apart over seen = refl

uses_doing : (at : At) (flow : Flow) (doing : Doing) (seen : Sight) → uses_of (busy (unspoilt_at at seen) flow doing) ≡ uses_of (busy at flow doing)
uses_doing at flow (request_body given most) seen = refl
uses_doing at flow (connection sent) seen = refl
uses_doing at flow (response_head server how) seen = refl
uses_doing at flow (response_body server how most) seen = refl
uses_doing at flow (coming_down server how) seen = refl
uses_doing at flow (upgraded server) seen = refl
uses_doing at flow given_head seen = refl
uses_doing at flow given_body seen = refl

uses_apart : (stage : Stage) (seen : Sight) → uses_of (unspoilt stage seen) ≡ uses_of stage
uses_apart (idle at) seen = refl
uses_apart (busy at flow doing) seen = uses_doing at flow doing seen
uses_apart (next at) seen = refl
uses_apart over seen = refl

module _ (terms : Terms) (stage : Stage) (seen : Sight) (found : Asked) (is : asked_in terms stage seen ≡ Some (bare found)) where
  abbrev apart : Stage
  apart = unspoilt stage seen

  facts : Facts (place_of apart) seen (dials_at apart) (stage_left apart) (uses_of apart) (used_of apart seen) (find terms stage seen) (Some found)
  facts =
      bare_facts (place_of apart) seen (dials_at apart) (stage_left apart) (uses_of apart) (used_of apart seen) (find terms stage seen) found
      (subst (Facts (place_of apart) seen (dials_at apart) (stage_left apart) (uses_of apart) (used_of apart seen) (find terms stage seen)) (asked_apart terms stage seen ∙ is) (facts_in terms apart seen))

  -- it is a dial where a connection is awaited
  pub dial_asked : is_dial found ≡ dials_at stage
  dial_asked = facts.0 ∙ dials_apart stage seen

  -- as many answers are left as the stage can ask for
  pub left_asked : asked_left found ≡ stage_left stage
  left_asked = facts.1 ∙ left_apart stage seen

  -- it uses the side that the stage uses, unless the keeping of a parked one has ended
  pub used_asked : used_at (place_of apart) found seen ≡ used_of apart seen
  used_asked = facts.3

  -- if it uses one
  pub uses_asked : uses_side (phase.Asked found) ≡ uses_of stage
  uses_asked = facts.2 ∙ uses_apart stage seen

  -- and it asks about a whole response where the stage does
  pub whole_asked : returns found ≡ returns_at stage
  whole_asked = returns_so found ∙ (ap (λ b. b && (asked_left found == 1)) uses_asked ∙ ap (λ n. uses_of stage && (n == 1)) left_asked)

  asks_by : (closed : Bool) (leaves : List Command) (l : Look Command) (ask : Command) → or_leaves closed leaves l ≡ Asks ask → AsksOf l found → asks_in ask ≡ asked_of found ∷ []
  asks_by true leaves NotYet ask asks of = absurd (let no : Ends leaves ≡ Asks ask = asks in cc)
  asks_by false leaves NotYet ask asks of = absurd (let no : NotYet ≡ Asks ask = asks in cc)
  asks_by closed leaves (Asks own) ask asks of = (let e : Asks own ≡ Asks ask = asks in let f : own ≡ ask = cc in ap asks_in (sym f) ∙ of)
  asks_by closed leaves (Ends owed) ask asks of = absurd (let no : Ends owed ≡ Asks ask = asks in cc)

  -- and the ask that is found asks just that
  pub ask_asked : (ask : Command) → look terms stage seen ≡ Asks ask → asks_in ask ≡ asked_of found ∷ []
  ask_asked ask asks = asks_by seen.closed (leaving apart seen) (find terms stage seen) ask asks facts.4
