-- What a stage that does not pass shows; and where a conversation stands whose replies go on over any size, with one event more.
use Rattle.std.proofs.Common.{◌≡◌, ℕ, ◌+◌, Bool, true, false, List, [], ◌∷◌, ◌++◌, length, Option, Some, None, refl, ap, sym, ◌∙◌, subst, arith, inl, inr, length-append}
use Rattle.std.specs.Prelude.{◌||◌, ◌⊎◌, if◌then◌else◌, not, take}
use Rattle.px_message.specs.declared.fault.Fault.{Fault}
use Rattle.px_message.specs.declared.fault.Fault.TheVariants.{BadResponse}
use Rattle.px_message.specs.declared.flow.Flow.{Flow}
use Rattle.px_message.specs.declared.request.Request.{Request}
use Rattle.px_message.specs.declared.response.Response.{Response}
use Rattle.px_event.specs.declared.ask.Hook.TheVariants.{ResponseHead}
use Rattle.px_event.specs.declared.command.Command.{Command}
use Rattle.px_event.specs.declared.event.Event.{Event}
use Rattle.px_event.specs.declared.reply.Reply.{Reply}
use Rattle.px_event.specs.Chain.{Timed, Look, NotYet, Asks, Ends, Turn}
use Rattle.px_read.specs.Items.{Item, missing, part, complete, bad_head, bad_body, request_item}
use Rattle.px_read.specs.Laws.{head_in, is_begun, is_decided}
use Rattle.px_read.specs.declared.head.RequestHead.{RequestHead as ReadRequest}
use Rattle.px_read.specs.declared.head.ResponseHead.{ResponseHead as ReadResponse}
use Rattle.px_exchange.specs.declared.asked.Judged.{Judged}
use Rattle.px_exchange.specs.declared.asked.Judged.TheVariants.{Refused, Accepted, Connects}
use Rattle.px_exchange.specs.declared.ending.Used.{Used}
use Rattle.px_exchange.specs.declared.terms.Terms.{Terms}
use Rattle.px_exchange.specs.Endings.{ends_by_fault, ends_early}
use Rattle.px_write.specs.Error.{fault_message}
use Rattle.px_exchange.specs.Finds.{is_relayed, look_answer, look_body, look_head, look_judged, look_returned, or_leaves}
use Rattle.px_exchange.specs.Flows.{ask_of, response_of, with_answer}
use Rattle.px_exchange.specs.Requests.{judged}
use Rattle.px_chain.specs.Chain.{bad_or, behind_flow, goes_up_by, keeps_came, leaves, leaving, look, look_coming, look_up, parked_for, pass, pass_came, pass_kept, past_gone, sequence}
use Rattle.px_chain.specs.Coming.{Came, came_by, came_in, streaming, streams_in}
use Rattle.px_chain.specs.Going.{goes_up, is_sent, sending_on, whole_by, whole_in, with_whole}
use Rattle.px_chain.specs.Keeping.{parks, unspoilt_at}
use Rattle.px_chain.specs.Sights.{Sight, UsedBytes, answers_in, request_in, server_in, server_parked, sight_of}
use Rattle.px_chain.specs.Stages.{At, Doing, Sent, Stage, all_sent, busy, coming_down, connection, given_body, given_head, going_up, idle, next, over, request_body, response_body, response_head, side_of, side_parked, unparked, upgraded}
use Rattle.px_chain.specs.Streams.{Since, client_closed}
use Rattle.px_chain.proofs.ChainLaws.{open_still, passes_by}
use Rattle.px_chain.proofs.UpLaws.{goes_up_here}
use Rattle.px_said.specs.ClosedForm.{is_whole}
use Rattle.px_said.specs.Lines.{answers_to, client_bytes, ends_over, fault_by, fault_in, fault_up, goes_on_over, heard_of, is_ended, is_fault, sent_by}
use Rattle.px_said.proofs.ClosedFronts.{IsFront, Waits, same_taken, waits_more}
use Rattle.px_said.proofs.ClosedLooks.{none_found}
use Rattle.px_said.proofs.LineExact.{Stood, answering_stood, body_stood, coming_stood, connecting_stood, idle_stood, returning_stood}
use Rattle.px_said.proofs.LineFronts.{answers_on}
use Rattle.px_said.proofs.LineKept.{kept_on}
use Rattle.px_said.proofs.LineLooks.{Here}
use Rattle.px_said.proofs.LineReturns.{text_longer}
use Rattle.px_said.proofs.LineSeen.{carried, one_side, same_client, same_ends, same_goes_on}
use Rattle.px_said.proofs.LineStages.{IsAt, Onward, UpTo, begun_over, exchange_of, start_of, text_over, up_of}

-- ---- a stage that does not pass

behind_not : (stays : Bool) (there at : At) (flow : Flow) (doing : Doing) → sequence (behind_flow stays there) ≡ busy at flow doing → ⊥
behind_not true there at flow doing is = let no : idle (record there { flow = there.flow + 1 }) ≡ busy at flow doing = is in cc
behind_not false there at flow doing is = let no : over ≡ busy at flow doing = is in cc

module _ (terms : Terms) (at : At) (side : ℕ) where
  came_not : (came : Option Came) (flow other : Flow) (how way : Sent) (most : Option ℕ) (seen : Sight) →
      sequence (pass_came terms.place at flow side how seen came).stage ≡ busy at other (response_body side way most) → ⊥
  came_not None flow other how way most seen is = let no : busy at flow (coming_down side how) ≡ busy at other (response_body side way most) = is in cc
  came_not (Some came) flow other how way most seen is = behind_not _ (parks (keeps_came at flow how seen came) terms.place at flow.request side) at other (response_body side way most) is

  kept_by : (streams : Bool) (flow : Flow) (how : Sent) (most : Option ℕ) (seen : Sight) → streams_in flow most seen ≡ streams →
      sequence (pass_kept streams terms.place at flow side how most seen).stage ≡ busy at flow (response_body side how most) → streams_in flow most seen ≡ false
  kept_by true flow how most seen is settled = absurd (came_not (came_in (streaming flow) seen) (streaming flow) flow how how most seen settled)
  kept_by false flow how most seen is settled = is

  kept_not : (streams : Bool) (flow other : Flow) (most : Option ℕ) (seen : Sight) →
      sequence (pass_kept streams terms.place at flow side all_sent most seen).stage ≡ busy at other (response_body side going_up most) → ⊥
  kept_not true flow other most seen settled = came_not (came_in (streaming flow) seen) (streaming flow) other all_sent going_up most seen settled
  kept_not false flow other most seen settled = let no : busy at flow (response_body side all_sent most) ≡ busy at other (response_body side going_up most) = settled in cc

  body_up : (size : Option ℕ) (flow : Flow) (most : Option ℕ) (seen : Sight) → whole_in seen ≡ size →
      sequence (passes_by size terms at flow (response_body side going_up most) seen).stage ≡ busy at flow (response_body side going_up most) →
      (whole_in seen ≡ None) × (streams_in flow most seen ≡ false)
  body_up None flow most seen is settled = (is, kept_by (streams_in flow most seen) flow going_up most seen refl settled)
  body_up (Some size) flow most seen is settled =
      absurd (kept_not (streams_in (with_whole flow seen.now) most (past_gone (Some side) seen)) (with_whole flow seen.now) flow most (past_gone (Some side) seen) settled)

  came_by_none : (came : Option Came) (flow : Flow) (how : Sent) (seen : Sight) → came_in flow seen ≡ came →
      sequence (pass_came terms.place at flow side how seen came).stage ≡ busy at flow (coming_down side how) → came_in flow seen ≡ None
  came_by_none None flow how seen is settled = is
  came_by_none (Some came) flow how seen is settled = absurd (behind_not _ (parks (keeps_came at flow how seen came) terms.place at flow.request side) at flow (coming_down side how) settled)

  coming_not : (came : Option Came) (flow other : Flow) (seen : Sight) →
      sequence (pass_came terms.place at flow side all_sent seen came).stage ≡ busy at other (coming_down side going_up) → ⊥
  coming_not None flow other seen settled = let no : busy at flow (coming_down side all_sent) ≡ busy at other (coming_down side going_up) = settled in cc
  coming_not (Some came) flow other seen settled = behind_not _ (parks (keeps_came at flow all_sent seen came) terms.place at flow.request side) at other (coming_down side going_up) settled

  coming_up : (size : Option ℕ) (flow : Flow) (seen : Sight) → whole_in seen ≡ size →
      sequence (passes_by size terms at flow (coming_down side going_up) seen).stage ≡ busy at flow (coming_down side going_up) →
      (whole_in seen ≡ None) × (came_in flow seen ≡ None)
  coming_up None flow seen is settled = (is, came_by_none (came_in flow seen) flow going_up seen refl settled)
  coming_up (Some size) flow seen is settled =
      absurd (coming_not (came_in (with_whole flow seen.now) (past_gone (Some side) seen)) (with_whole flow seen.now) flow (past_gone (Some side) seen) settled)

undone : (item : Item ReadRequest) → whole_by item ≡ None → is_whole item ≡ false
undone missing is = refl
undone (part head body) is = refl
undone (complete head body trailers used) is = absurd (let no : Some used ≡ None = is in cc)
undone (bad_head fault) is = refl
undone (bad_body fault head body) is = refl

-- a response that is kept, and a request that goes up is not whole
pub body_settled : (terms : Terms) (at : At) (flow : Flow) (side : ℕ) (how : Sent) (most : Option ℕ) (since : Since) (opened : ℕ) (used : UsedBytes) (up : ℕ) (prefix : List (Timed Event)) →
    let seen = sight_of (Some side) since opened used up prefix in
    sequence (pass terms (busy at flow (response_body side how most)) seen).stage ≡ busy at flow (response_body side how most) →
    (streams_in flow most seen ≡ false) × (is_sent how ≡ sent_by (up_of how used.client) prefix)
body_settled terms at flow side all_sent most since opened used up prefix settled =
    (kept_by terms at side (streams_in flow most (sight_of (Some side) since opened used up prefix)) flow all_sent most (sight_of (Some side) since opened used up prefix) refl settled, refl)
body_settled terms at flow side going_up most since opened used up prefix settled =
    let seen = sight_of (Some side) since opened used up prefix in
    let both = body_up terms at side (whole_in seen) flow most seen refl settled in
    (both.1, sym (undone (request_item (client_bytes prefix used.client)) both.0))

-- one that comes down is not whole
pub coming_settled : (terms : Terms) (at : At) (flow : Flow) (side : ℕ) (how : Sent) (since : Since) (opened : ℕ) (used : UsedBytes) (up : ℕ) (prefix : List (Timed Event)) →
    let seen = sight_of (Some side) since opened used up prefix in
    sequence (pass terms (busy at flow (coming_down side how)) seen).stage ≡ busy at flow (coming_down side how) →
    (came_in flow seen ≡ None) × (is_sent how ≡ sent_by (up_of how used.client) prefix)
coming_settled terms at flow side all_sent since opened used up prefix settled =
    (came_by_none terms at side (came_in flow (sight_of (Some side) since opened used up prefix)) flow all_sent (sight_of (Some side) since opened used up prefix) refl settled, refl)
coming_settled terms at flow side going_up since opened used up prefix settled =
    let seen = sight_of (Some side) since opened used up prefix in
    let both = coming_up terms at side (whole_in seen) flow seen refl settled in
    (both.1, sym (undone (request_item (client_bytes prefix used.client)) both.0))

-- a request that is kept
head_not : (size : Option ℕ) (terms : Terms) (at there : At) (flow other : Flow) (side : ℕ) (most : Option ℕ) (seen : Sight) →
    sequence (passes_by size terms there other (response_head side going_up) seen).stage ≡ busy at flow (request_body None most) → ⊥
head_not None terms at there flow other side most seen is = let no : busy there other (response_head side going_up) ≡ busy at flow (request_body None most) = is in cc
head_not (Some size) terms at there flow other side most seen is =
    let no : busy there (with_whole other seen.now) (response_head side all_sent) ≡ busy at flow (request_body None most) = is in cc

up_not : (side : Option ℕ) (terms : Terms) (at : At) (flow other : Flow) (most : Option ℕ) (seen : Sight) →
    sequence (pass terms (goes_up_by side terms.place at other) seen).stage ≡ busy at flow (request_body None most) → ⊥
up_not None terms at flow other most seen is = let no : busy at other (connection going_up) ≡ busy at flow (request_body None most) = is in cc
up_not (Some side) terms at flow other most seen is = head_not (whole_in seen) terms at (unparked at) flow _ side most seen is

begins_by : (begins : Bool) (terms : Terms) (at : At) (flow : Flow) (most : Option ℕ) (seen : Sight) → goes_up most seen ≡ begins →
    sequence (pass terms (busy at flow (request_body None most)) seen).stage ≡ busy at flow (request_body None most) → goes_up most seen ≡ false
begins_by false terms at flow most seen is settled = is
begins_by true terms at flow most seen is settled =
    let there = goes_up_here terms at flow most seen is in
    absurd (up_not (parked_for terms.place flow.request (unspoilt_at at seen).parked) terms at flow (sending_on flow) most seen (ap (λ (t : Turn Stage Command). sequence t.stage) (sym there) ∙ settled))

pub begun_settled : (terms : Terms) (at : At) (flow : Flow) (most : Option ℕ) (seen : Sight) →
    sequence (pass terms (busy at flow (request_body None most)) seen).stage ≡ busy at flow (request_body None most) → goes_up most seen ≡ false
begun_settled terms at flow most seen settled = begins_by (goes_up most seen) terms at flow most seen refl settled

-- ---- where nothing is found

judged_found : (terms : Terms) (index : ℕ) (head : ReadRequest) (made : Judged) (moment : ℕ) (used : Used) (closed : Bool) → look_judged terms index head made moment used closed ≡ NotYet → ⊥
judged_found terms index head (Refused fault) moment used closed is = cc
judged_found terms index head (Connects address) moment used closed is = cc
judged_found terms index head (Accepted message) moment used closed is = cc

no_request : (terms : Terms) (index : ℕ) (item : Item ReadRequest) (moment : ℕ) (used : Used) (closed : Bool) → look_head terms index item moment used closed ≡ NotYet → is_begun item ≡ false
no_request terms index missing moment used closed is = refl
no_request terms index (part head body) moment used closed is = absurd (judged_found terms index head (judged terms.place head) moment used closed is)
no_request terms index (complete head body trailers size) moment used closed is = absurd (judged_found terms index head (judged terms.place head) moment used closed is)
no_request terms index (bad_head fault) moment used closed is = absurd (cc)
no_request terms index (bad_body fault head body) moment used closed is = absurd (judged_found terms index head (judged terms.place head) moment used closed is)

-- a request with a head
no_body : (flow : Flow) (item all : Item ReadRequest) (head : ReadRequest) (moment : ℕ) (used : Used) (closed : Bool) → head_in all ≡ Some head → (is_decided item ≡ true → all ≡ item) →
    look_body flow item moment used closed ≡ NotYet → is_decided item ≡ false
no_body flow missing all head moment used closed there stays is = refl
no_body flow (part other body) all head moment used closed there stays is = refl
no_body flow (complete other body trailers size) all head moment used closed there stays is = absurd (cc)
no_body flow (bad_head fault) all head moment used closed there stays is =
    absurd (let no : None ≡ Some head = sym (ap head_in (stays refl)) ∙ there in cc)
no_body flow (bad_body fault other body) all head moment used closed there stays is = absurd (cc)

relays_found : (flow : Flow) (head : ReadResponse) (moment : ℕ) (used : Used) (closed relays : Bool) →
    (if not relays then Ends (ends_by_fault flow BadResponse moment used closed) else Asks (ask_of (with_answer flow (response_of head) moment) ResponseHead)) ≡ NotYet → ⊥
relays_found flow head moment used closed true is = cc
relays_found flow head moment used closed false is = cc

no_answer : (flow : Flow) (item : Item ReadResponse) (moment : ℕ) (used : Used) (closed : Bool) → look_answer flow item moment used closed ≡ NotYet → item ≡ missing
no_answer flow missing moment used closed is = refl
no_answer flow (part head body) moment used closed is = absurd (relays_found flow head moment used closed (is_relayed head.code) is)
no_answer flow (complete head body trailers size) moment used closed is = absurd (relays_found flow head moment used closed (is_relayed head.code) is)
no_answer flow (bad_head fault) moment used closed is = absurd (cc)
no_answer flow (bad_body fault head body) moment used closed is = absurd (relays_found flow head moment used closed (is_relayed head.code) is)

part_ends : (other head : ReadResponse) → Some other ≡ Some head → is_relayed head.code ≡ true → not (is_relayed other.code) ≡ false
part_ends other head is relayed = let same : other ≡ head = cc in ap (λ (h : ReadResponse). not (is_relayed h.code)) same ∙ ap not relayed

no_return : (flow : Flow) (item : Item ReadResponse) (head : ReadResponse) (moment : ℕ) (used : Used) (closed : Bool) → head_in item ≡ Some head → is_relayed head.code ≡ true →
    look_returned flow item moment used closed ≡ NotYet → is_ended item ≡ false
no_return flow missing head moment used closed there relayed is = refl
no_return flow (part other body) head moment used closed there relayed is = part_ends other head there relayed
no_return flow (complete other body trailers size) head moment used closed there relayed is = absurd (cc)
no_return flow (bad_head fault) head moment used closed there relayed is = absurd (let no : None ≡ Some head = there in cc)
no_return flow (bad_body fault other body) head moment used closed there relayed is = absurd (cc)

no_coming : (flow : Flow) (item : Item ReadResponse) (head : ReadResponse) (given : Response) (moment : ℕ) (used : Used) (closed : Bool) → head_in item ≡ Some head → is_relayed head.code ≡ true →
    came_by (Some given) item ≡ None → look_coming flow item moment used closed ≡ NotYet → is_ended item ≡ false
no_coming flow missing head given moment used closed there relayed none is = refl
no_coming flow (part other body) head given moment used closed there relayed none is = part_ends other head there relayed
no_coming flow (complete other body trailers size) head given moment used closed there relayed none is = absurd (let no : Some (record { response = given; head = other }) ≡ None = none in cc)
no_coming flow (bad_head fault) head given moment used closed there relayed none is = absurd (let no : None ≡ Some head = there in cc)
no_coming flow (bad_body fault other body) head given moment used closed there relayed none is = absurd (cc)

no_fault : (item : Item ReadRequest) (closed : Bool) (leaving : List Command) (ends : Fault → List Command) (found : Look Command) →
    or_leaves closed leaving (bad_or item ends found) ≡ NotYet → (fault_in item ≡ None) × (or_leaves closed leaving found ≡ NotYet)
no_fault missing closed leaving ends found is = (refl, is)
no_fault (part head body) closed leaving ends found is = (refl, is)
no_fault (complete head body trailers size) closed leaving ends found is = (refl, is)
no_fault (bad_head fault) closed leaving ends found is = (refl, is)
no_fault (bad_body fault head body) closed leaving ends found is = absurd (let no : Ends (ends fault) ≡ NotYet = is in cc)

up_none : (how : Sent) (side : ℕ) (since : Since) (opened : ℕ) (used : UsedBytes) (up : ℕ) (prefix : List (Timed Event)) (closed : Bool) (leaving : List Command)
    (ends : Fault → List Command) (found : Look Command) → or_leaves closed leaving (look_up how (sight_of (Some side) since opened used up prefix) ends found) ≡ NotYet →
    (fault_by (up_of how used.client) prefix ≡ None) × (found ≡ NotYet)
up_none all_sent side since opened used up prefix closed leaving ends found is = (refl, none_found closed leaving found is)
up_none going_up side since opened used up prefix closed leaving ends found is =
    let both = no_fault (request_item (client_bytes prefix used.client)) closed leaving ends found is in (both.0, none_found closed leaving found both.1)

-- ---- where it stands

front_append : (prefix more : List (Timed Event)) → IsFront prefix (prefix ++ more)
front_append [] more = tt
front_append (e ∷ prefix) more = (refl, front_append prefix more)

both_no : (a b : Bool) → a ≡ false → b ≡ false → (a || b) ≡ false
both_no true b first second = first
both_no false b first second = second

over_here : (over_all : Type 0) (closed : Bool) → Here over_all closed (Ends []) [] []
over_here over_all closed = record { begins = λ view. ([], refl); is_all = λ no last view. refl; asks = λ ask no. absurd (let e : Ends [] ≡ Asks ask = no in cc) }

module _ (terms : Terms) (events : List (Timed Event)) (all : List Command) (flows : ℕ) (prefix : List (Timed Event)) (front : IsFront prefix events) where
  -- what is due at a stage that does not pass
  pub stage_stood : (stage : Stage) (since : Since) (opened : ℕ) (used : UsedBytes) (up : ℕ) (sent : List Command) (left : List Reply) →
      let seen = sight_of (side_of stage) since opened used up prefix in
      IsAt terms events all flows stage opened used up prefix sent left → sequence (pass terms stage seen).stage ≡ stage → Stood terms events all stage seen sent prefix
  stage_stood (idle at) since opened used up sent left stands settled = idle_stood terms events all flows prefix front sent left since opened used up at stands
  stage_stood (busy at flow (request_body None most)) since opened used up sent left stands settled =
      body_stood terms events all flows prefix front sent left since opened used up at flow most
      (begun_settled terms at flow most (sight_of (side_parked at.parked) since opened used up prefix) settled) stands
  stage_stood (busy at flow (request_body (Some response) most)) since opened used up sent left stands settled = absurd stands
  stage_stood (busy at flow (connection how)) since opened used up sent left stands settled =
      connecting_stood terms events all flows prefix front sent left since opened used up how at flow stands
  stage_stood (busy at flow (response_head side how)) since opened used up sent left stands settled =
      answering_stood terms events all flows prefix front sent left since opened used up at flow side how stands
  stage_stood (busy at flow (response_body side how most)) since opened used up sent left stands settled =
      returning_stood terms events all flows prefix front sent left since opened used up at flow side how most
      (body_settled terms at flow side how most since opened used up prefix settled).0 stands
  stage_stood (busy at flow (coming_down side all_sent)) since opened used up sent left stands settled =
      let both = coming_settled terms at flow side all_sent since opened used up prefix settled in
      coming_stood terms events all flows prefix front sent left since opened used up at flow side all_sent stands both.0
      (record { server = refl; shut = refl; ups = refl; sents = both.1 })
  stage_stood (busy at flow (coming_down side going_up)) since opened used up sent left stands settled =
      let both = coming_settled terms at flow side going_up since opened used up prefix settled in
      coming_stood terms events all flows prefix front sent left since opened used up at flow side going_up stands both.0
      (record { server = refl; shut = refl; ups = refl; sents = both.1 })
  stage_stood (busy at flow (upgraded side)) since opened used up sent left stands settled = record { left = []; is = stands.is_all; here = over_here _ _ }
  stage_stood (busy at flow given_head) since opened used up sent left stands settled = absurd stands
  stage_stood (busy at flow given_body) since opened used up sent left stands settled = absurd stands
  stage_stood (next at) since opened used up sent left stands settled = absurd stands
  stage_stood over since opened used up sent left stands settled = record { left = []; is = stands.is_all; here = over_here _ _ }

  -- ---- one event more

  module _ (e : Timed Event) (opened : ℕ) (used : UsedBytes) (up : ℕ) (sent : List Command) (left : List Reply) (since : Since) where
    abbrev later : List (Timed Event)
    later = prefix ++ e ∷ []

    longer : length prefix + 1 ≡ length later
    longer = sym (length-append prefix (e ∷ []))

    waits_later : (test : ℕ → Bool) (from : ℕ) → Waits test from (length prefix) → test (length prefix) ≡ false → Waits test from (length later)
    waits_later test from waits fails = let P : ℕ → Type 0 = λ n. Waits test from n in subst P longer (waits_more test from (length prefix) waits fails)

    onward_later : (how : Sent) (asked : Request) (side went : ℕ) → Onward terms events all flows how asked side opened used went prefix → ends_over (exchange_of how asked side opened used went) prefix ≡ false →
        Onward terms events all flows how asked side opened used went later
    onward_later how asked side went o fails = record {
      within = let so_many = o.within in let more = longer in omega arith;
      waits = waits_later (λ k. ends_over (exchange_of how asked side opened used went) (take k events)) went o.waits
          (sym (same_ends prefix (take (length prefix) events) (same_taken prefix events front) (exchange_of how asked side opened used went)) ∙ fails);
    }

    goes_later : (how : Sent) (flow : Flow) (side went : ℕ) → UpTo terms events all flows how flow.request side opened used up went prefix → UpTo terms events all flows how flow.request side opened used up went later
    goes_later all_sent flow side went goes = tt
    goes_later going_up flow side went goes = record {
      told = let grows = text_longer terms events all flows going_up flow side opened used went prefix later (front_append prefix (e ∷ [])) in
          let size = ap length grows.1 ∙ length-append (text_over terms events all flows going_up flow.request side opened used went prefix) grows.0 in
          let less = goes.told in omega arith;
      plain = goes.plain;
    }

    there_later : (how : Sent) (asked : Request) (side went : ℕ) (head : ReadResponse) → head_in (answers_to asked (heard_of (exchange_of how asked side opened used went) prefix)).final ≡ Some head →
        head_in (answers_to asked (heard_of (exchange_of how asked side opened used went) later)).final ≡ Some head
    there_later how asked side went head there = (answers_on asked side opened used.server prefix later (front_append prefix (e ∷ []))).final.head head there

    calm_later : (how : Sent) (asked : Request) (side went : ℕ) → client_closed prefix ≡ false → fault_up (exchange_of how asked side opened used went) prefix ≡ None →
        (answers_to asked (heard_of (exchange_of how asked side opened used went) prefix)).final ≡ missing →
        (fault_up (exchange_of how asked side opened used went) later ≡ None) ⊎ ((answers_to asked (heard_of (exchange_of how asked side opened used went) later)).final ≡ missing)
    calm_later all_sent asked side went open_client good none = inl refl
    calm_later going_up asked side went open_client good none = elim (one_side side opened used.server used.client prefix e open_client) [
      | inl same ↦ inl (ap (λ (l : List ℕ). fault_in (request_item l)) same ∙ good)
      | inr same ↦ inr (ap (λ t. (answers_to asked t).final) same ∙ none)
    ]

    ends_not : (how : Sent) (asked : Request) (side went : ℕ) → fault_up (exchange_of how asked side opened used went) prefix ≡ None →
        is_ended (answers_to asked (heard_of (exchange_of how asked side opened used went) prefix)).final ≡ false → ends_over (exchange_of how asked side opened used went) prefix ≡ false
    ends_not how asked side went good unended = both_no _ _ (ap is_fault good) unended

    pub stage_more : (stage : Stage) →
        let seen = sight_of (side_of stage) since opened used up prefix in
        IsAt terms events all flows stage opened used up prefix sent left → sequence (pass terms stage seen).stage ≡ stage → look terms stage seen ≡ NotYet →
        IsAt terms events all flows stage opened used up later sent left
    stage_more (idle at) b settled none =
        let seen = sight_of (side_parked at.parked) since opened used up prefix in
        let there = unspoilt_at at seen in
        let fails = no_request terms at.flow (request_in seen) seen.now (server_parked there.parked seen) seen.closed (none_found seen.closed (leaving (idle there) seen) _ none) in
        record {
          from = b.from;
          waiting = b.waiting;
          keeps = kept_on at.parked opened used.server b.waiting prefix later (front_append prefix (e ∷ [])) b.keeps;
          within = let so_many = b.within in let more = longer in omega arith;
          waits = waits_later (begun_over terms events all used.client) b.from b.waits
              (ap (λ (l : List ℕ). is_begun (request_item l)) (sym (same_client prefix (take (length prefix) events) (same_taken prefix events front) used.client)) ∙ fails);
          rest = b.rest;
        }
    stage_more (busy at flow (request_body None most)) b settled none =
        let seen = sight_of (side_parked at.parked) since opened used up prefix in
        let there = unspoilt_at at seen in
        let start = start_of at b.waiting used.client b.from left in
        let kept = begun_settled terms at flow most seen settled in
        let undecided = no_body flow (request_in seen) (request_item (client_bytes events used.client)) b.head seen.now (server_parked there.parked seen) seen.closed b.there
        (carried used.client prefix events front).stays (none_found seen.closed (leaves there flow (request_body None most) seen) _ none) in
        record {
          from = b.from;
          waiting = b.waiting;
          keeps = kept_on at.parked opened used.server b.waiting prefix later (front_append prefix (e ∷ [])) b.keeps;
          within = let so_many = b.within in let more = longer in omega arith;
          waits = waits_later (λ k. goes_on_over start most (take k events)) b.from b.waits
              (sym (same_goes_on prefix (take (length prefix) events) (same_taken prefix events front) start most) ∙ both_no _ _ undecided kept);
          head = b.head;
          there = b.there;
          accepted = b.accepted;
          untold = b.untold;
          rest = b.rest;
        }
    stage_more (busy at flow (request_body (Some response) most)) stands settled none = absurd stands
    stage_more (busy at flow (connection how)) stands settled none = absurd (cc)
    stage_more (busy at flow (response_head side how)) s settled none =
        let seen = sight_of (Some side) since opened used up prefix in
        let open_client = open_still terms (busy at flow (response_head side how)) seen none in
        let both = up_none how side since opened used up prefix seen.closed (leaves at flow (response_head side how) seen)
        (λ fault. ends_by_fault flow fault seen.now (server_in side seen) seen.closed) (look_answer flow (answers_in flow.request seen).final seen.now (server_in side seen) seen.closed) none in
        let nothing = no_answer flow (answers_in flow.request seen).final seen.now (server_in side seen) seen.closed both.1 in
        record {
          went = s.went;
          onward = onward_later how flow.request side s.went s.onward (ends_not how flow.request side s.went both.0 (ap is_ended nothing));
          goes = goes_later how flow side s.went s.goes;
          calm = calm_later how flow.request side s.went open_client both.0 nothing;
          rest = s.rest;
        }
    stage_more (busy at flow (response_body side how most)) s settled none =
        let seen = sight_of (Some side) since opened used up prefix in
        let both = up_none how side since opened used up prefix seen.closed (leaves at flow (response_body side how most) seen)
        (λ fault. ends_by_fault flow fault seen.now (server_in side seen) seen.closed) (look_returned flow (answers_in flow.request seen).final seen.now (server_in side seen) seen.closed) none in
        let no = no_return flow (answers_in flow.request seen).final s.head seen.now (server_in side seen) seen.closed s.there s.relayed both.1 in
        record {
          went = s.went;
          onward = onward_later how flow.request side s.went s.onward (ends_not how flow.request side s.went both.0 no);
          goes = goes_later how flow side s.went s.goes;
          head = s.head;
          there = there_later how flow.request side s.went s.head s.there;
          relayed = s.relayed;
          response = s.response;
          rest = s.rest;
        }
    stage_more (busy at flow (coming_down side how)) s settled none =
        let seen = sight_of (Some side) since opened used up prefix in
        let both = up_none how side since opened used up prefix seen.closed (leaves at flow (coming_down side how) seen)
        (λ fault. ends_early flow (fault_message fault) seen.now (server_in side seen) seen.closed) (look_coming flow (answers_in flow.request seen).final seen.now (server_in side seen) seen.closed) none in
        let uncame = ap (λ o. came_by o (answers_in flow.request seen).final) (sym s.response) ∙ (coming_settled terms at flow side how since opened used up prefix settled).0 in
        let no = no_coming flow (answers_in flow.request seen).final s.head _ seen.now (server_in side seen) seen.closed s.there s.relayed uncame both.1 in
        record {
          went = s.went;
          onward = onward_later how flow.request side s.went s.onward (ends_not how flow.request side s.went both.0 no);
          goes = goes_later how flow side s.went s.goes;
          head = s.head;
          there = there_later how flow.request side s.went s.head s.there;
          relayed = s.relayed;
          response = s.response;
          rest = s.rest;
        }
    stage_more (busy at flow (upgraded side)) stands settled none = stands
    stage_more (busy at flow given_head) stands settled none = absurd stands
    stage_more (busy at flow given_body) stands settled none = absurd stands
    stage_more (next at) stands settled none = absurd stands
    stage_more over stands settled none = stands
