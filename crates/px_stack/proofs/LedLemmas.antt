-- A flow whose server is reached through another proxy: where the machine says so the chain does.
use Rattle.std.proofs.Common.{◌≡◌, ℕ, List, Option, Some, None, refl, ap, sym, ◌∙◌, subst}
use Rattle.px_message.specs.declared.address.Address.{Address}
use Rattle.px_message.specs.declared.flow.Flow.{Flow}
use Rattle.px_event.specs.declared.event.Event.{Event}
use Rattle.px_event.specs.declared.reply.Reply.{Reply}
use Rattle.px_event.specs.declared.reply.Reply.TheVariants as reply
use Rattle.px_event.specs.Chain.{Timed}
use Rattle.px_exchange.specs.declared.place.Place.{Place}
use Rattle.px_exchange.specs.declared.place.Place.TheVariants as places
use Rattle.px_exchange.specs.declared.terms.Terms.{Terms}
use Rattle.px_exchange.specs.Places.{address_of, terms_of}
use Rattle.px_chain.specs.Chain.{look}
use Rattle.px_chain.specs.Sights.{Sight, Standing, sight_over}
use Rattle.px_chain.specs.Stages.{At, busy, coming_down, connection, given_body, given_head, idle, next, request_body, response_body, response_head, unparked, upgraded, Sent}
use Rattle.px_chain.specs.Stages as stages
use Rattle.px_chain.specs.Streams.{client_closed}
use Rattle.px_http.specs.declared.conversation.HttpConv.{HttpConv}
use Rattle.px_read.specs.Reader.{State}
use Rattle.px_stream.specs.declared.link.Link.{Link as KeptLink}
use Rattle.px_stream.specs.declared.phase.Asked.{Asked}
use Rattle.px_stream.specs.declared.phase.Asked.TheVariants as asked
use Rattle.px_stream.specs.declared.phase.Phase.{Phase}
use Rattle.px_stream.specs.declared.phase.Phase.TheVariants as phase
use Rattle.px_stream.specs.Anywhere.{IsInSequence}
use Rattle.px_stream.specs.Stands.{HasPlace, IsPlaced, PhaseAt, bare}
use Rattle.px_stream.specs.Tells.{IsDialling, dialled_flow, led_to, server_dialled}
use Rattle.px_stream.specs.Tells as tells
use Rattle.px_stream.proofs.WaitLemmas.{is_at_dial}
use Rattle.px_stack.specs.Chain.{led_at, led_by, turn_flows, turn_http}
use Rattle.px_stack.specs.Stages.{Dialling, Visitor}
use Rattle.px_stack.specs.Stands.{IsInFlows, ahead_at}
use Rattle.px_stack.specs.Steps.{IsPlain}

-- ---- a reply that is not the connection of another proxy

module _ (conv : ℕ) (client : Visitor) (place : Place) (standing : Standing) (prefix : List (Timed Event)) (answer : Timed Reply) where
  plain_by : (led : Option Dialling) (value : Reply) → (value ≡ reply.Dialled → led ≡ None) →
      turn_http conv client led place standing prefix answer value ≡ turn_flows conv client place standing prefix answer
  plain_by None reply.Dialled plain = refl
  plain_by None (reply.Refused fault) plain = refl
  plain_by None (reply.Go flow stream) plain = refl
  plain_by None (reply.Respond given) plain = refl
  plain_by None reply.Kill plain = refl
  plain_by None reply.Discard plain = refl
  plain_by (Some from) reply.Dialled plain = absurd (let no : Some from ≡ None = plain refl in cc)
  plain_by (Some from) (reply.Refused fault) plain = refl
  plain_by (Some from) (reply.Go flow stream) plain = refl
  plain_by (Some from) (reply.Respond given) plain = refl
  plain_by (Some from) reply.Kill plain = refl
  plain_by (Some from) reply.Discard plain = refl

-- ---- by the phase

same_asked : (a b : Asked) → Some b ≡ Some a → a ≡ b
same_asked a b is = cc

-- what it keeps of a request that goes up says nothing of the flow
dialled_bare : (awaits : Asked) → dialled_flow (phase.Asked (bare awaits)) ≡ dialled_flow (phase.Asked awaits)
dialled_bare (asked.Idle flow expects) = refl
dialled_bare (asked.RequestBody flow) = refl
dialled_bare (asked.Connection flow server up) = refl
dialled_bare (asked.ResponseHead flow server up) = refl
dialled_bare (asked.ResponseBody flow server up) = refl
dialled_bare (asked.GivenHead flow) = refl
dialled_bare (asked.GivenBody flow) = refl

-- where the server of the flow is that is dialled
dialled_server : (found : Phase) (flow : Flow) → dialled_flow found ≡ Some flow → server_dialled found ≡ Some (address_of flow.request)
dialled_server (phase.Asked (asked.Connection here server up)) flow is = let same : here ≡ flow = cc in ap (λ f. Some (address_of f.request)) same
dialled_server (phase.Asked (asked.Idle here expects)) flow is = absurd (let no : None ≡ Some flow = is in cc)
dialled_server (phase.Asked (asked.RequestBody here)) flow is = absurd (let no : None ≡ Some flow = is in cc)
dialled_server (phase.Asked (asked.ResponseHead here server up)) flow is = absurd (let no : None ≡ Some flow = is in cc)
dialled_server (phase.Asked (asked.ResponseBody here server up)) flow is = absurd (let no : None ≡ Some flow = is in cc)
dialled_server (phase.Asked (asked.GivenHead here)) flow is = absurd (let no : None ≡ Some flow = is in cc)
dialled_server (phase.Asked (asked.GivenBody here)) flow is = absurd (let no : None ≡ Some flow = is in cc)
dialled_server (phase.Ready looked) flow is = absurd (let no : None ≡ Some flow = is in cc)

module _ (terms : Terms) (here : At) (requests : State) (side : Option KeptLink) (found : Phase) (seen : Sight) where
  -- where a flow's dial is awaited in the chain, it is in the machine
  dialled_phase : (at : At) (flow : Flow) (sent : Sent) → PhaseAt (look terms (busy at flow (connection sent)) seen) terms here requests side found (busy at flow (connection sent)) seen →
      dialled_flow found ≡ Some flow
  dialled_phase at flow sent (awaits, same, is) =
      ap dialled_flow same ∙ (sym (dialled_bare awaits) ∙ ap (λ a. dialled_flow (phase.Asked a)) (same_asked (bare awaits) (asked.Connection flow at.dials None) is.asks))

  none_led : (used : ℕ) (stage : stages.Stage) → PhaseAt (look terms stage seen) terms here requests side found stage seen → server_dialled found ≡ None → led_by used stage ≡ None
  none_led used (idle at) is none = refl
  none_led used (busy at flow (request_body given most)) is none = refl
  none_led used (busy at flow (connection sent)) is none =
      absurd (let no : Some (address_of flow.request) ≡ None = sym (dialled_server found flow (dialled_phase at flow sent is)) ∙ none in cc)
  none_led used (busy at flow (response_head side how)) is none = refl
  none_led used (busy at flow (response_body side how most)) is none = refl
  none_led used (busy at flow (coming_down side how)) is none = refl
  none_led used (busy at flow (upgraded side)) is none = refl
  none_led used (busy at flow given_head) is none = refl
  none_led used (busy at flow given_body) is none = refl
  none_led used (next at) is none = refl
  none_led used stages.over is none = refl

none_at : (conv : ℕ) (client : Visitor) (place : Place) (flows : HttpConv) (standing : Standing) (prefix : List (Timed Event)) →
    IsInFlows conv client place flows standing prefix → led_to place flows.stream.phase ≡ None → led_at place standing ≡ None
none_at conv client places.Regular flows standing prefix at none = refl
none_at conv client (places.Upstream proxy) flows standing prefix at none = refl
none_at conv client (places.Fixed address None) flows standing prefix at none = refl
none_at conv client (places.Fixed address (Some proxy)) flows standing prefix at none =
    none_led (terms_of conv client.address (places.Fixed address (Some proxy))) flows.stream.at flows.stream.requests flows.stream.side flows.stream.phase
    (sight_over standing prefix) standing.used.client standing.stage
    at.is_at.is_in.phase none

pub plain_turn : (conv : ℕ) (client : Visitor) (place : Place) (flows : HttpConv) (standing : Standing) (prefix : List (Timed Event)) (moment : ℕ) (value : Reply) →
    IsInFlows conv client place flows standing prefix → IsPlain flows value →
    turn_http conv client (led_at place standing) place standing prefix (record { moment = moment; value = value }) value
    ≡ turn_flows conv client place standing prefix (record { moment = moment; value = value })
plain_turn conv client place flows standing prefix moment value at plain =
    let P : Terms → Type 0 = λ t. led_to t.place flows.stream.phase ≡ None in
    plain_by conv client place standing prefix (record { moment = moment; value = value }) (led_at place standing) value
    (λ is. none_at conv client place flows standing prefix at (subst P at.is_at.is_in.terms (plain is)))

-- ---- a flow whose dial is awaited

-- what it keeps there
module _ (terms : Terms) (ahead : ℕ) (flows : HttpConv) (standing : Standing) (prefix : List (Timed Event)) (at : At) (flow : Flow) (sent : Sent) (stage : standing.stage ≡ busy at flow (connection sent))
    (there : IsInSequence terms ahead flows.stream standing prefix) where
  abbrev seen_there : Sight
  seen_there = sight_over standing prefix

  placed : IsPlaced at seen_there flows.stream.at flows.stream.client_closed
  placed = let P : stages.Stage → Type 0 = λ s. HasPlace s seen_there flows.stream.at flows.stream.client_closed in subst P stage there.is_at.is_in.place

  -- whether its client has closed
  pub closed_there : flows.stream.client_closed ≡ client_closed prefix
  closed_there = placed.client

  -- the number of its server
  pub server_there : flows.stream.at.dials ≡ at.dials
  server_there = ap (λ (a : At). a.dials) placed.is_here

  -- and the flow
  pub flow_there : dialled_flow flows.stream.phase ≡ Some flow
  flow_there =
      let P : stages.Stage → Type 0 = λ s. PhaseAt (look terms s seen_there) terms flows.stream.at flows.stream.requests flows.stream.side flows.stream.phase s seen_there in
      dialled_phase terms flows.stream.at flows.stream.requests flows.stream.side flows.stream.phase seen_there at flow sent (subst P stage there.is_at.is_in.phase)

-- ---- a flow that is led on

-- its dial is awaited, of this server, and this is where its server is
pub record IsLed (place : Place) (flows : HttpConv) (standing : Standing) (address : Address) : Type 0 where
  pub at : At
  pub flow : Flow
  pub sent : Sent
  pub stage : standing.stage ≡ busy at flow (connection sent)
  pub led : led_at place standing ≡ Some (record { at = unparked at; used = standing.used.client; flow = flow; sent = sent })
  pub there : address ≡ address_of flow.request
  pub waits : IsDialling flows.stream.phase

led_dials : (proxy : Option Address) (found : Phase) (address : Address) → tells.led_by proxy found ≡ Some address → IsDialling found
led_dials None found address is = absurd (let no : None ≡ Some address = is in cc)
led_dials (Some proxy) (phase.Asked (asked.Connection flow server up)) address is = tt
led_dials (Some proxy) (phase.Asked (asked.Idle flow expects)) address is = absurd (let no : None ≡ Some address = is in cc)
led_dials (Some proxy) (phase.Asked (asked.RequestBody flow)) address is = absurd (let no : None ≡ Some address = is in cc)
led_dials (Some proxy) (phase.Asked (asked.ResponseHead flow server up)) address is = absurd (let no : None ≡ Some address = is in cc)
led_dials (Some proxy) (phase.Asked (asked.ResponseBody flow server up)) address is = absurd (let no : None ≡ Some address = is in cc)
led_dials (Some proxy) (phase.Asked (asked.GivenHead flow)) address is = absurd (let no : None ≡ Some address = is in cc)
led_dials (Some proxy) (phase.Asked (asked.GivenBody flow)) address is = absurd (let no : None ≡ Some address = is in cc)
led_dials (Some proxy) (phase.Ready looked) address is = absurd (let no : None ≡ Some address = is in cc)

same_address : (a b : Address) → Some a ≡ Some b → b ≡ a
same_address a b is = cc

module _ (conv : ℕ) (client : Visitor) (flows : HttpConv) (standing : Standing) (prefix : List (Timed Event)) (to : Address) where
  led_on : (address : Address) (proxy : Address) →
      IsInFlows conv client (places.Fixed address (Some proxy)) flows standing prefix → server_dialled flows.stream.phase ≡ Some to →
      IsLed (places.Fixed address (Some proxy)) flows standing to
  led_on address proxy at is =
      let place : Place = places.Fixed address (Some proxy) in
      let dials = led_dials (Some proxy) flows.stream.phase to is in
      let there = is_at_dial (terms_of conv client.address place) flows.stream standing.stage (sight_over standing prefix) dials at.is_at.is_in in
      let flow_is : dialled_flow flows.stream.phase ≡ Some there.flow =
      flow_there (terms_of conv client.address place) (ahead_at place) flows standing prefix there.at there.flow there.sent there.stage_is at in
      record {
        at = there.at;
        flow = there.flow;
        sent = there.sent;
        stage = there.stage_is;
        led = ap (led_by standing.used.client) there.stage_is;
        there = same_address (address_of there.flow.request) to (sym (dialled_server flows.stream.phase there.flow flow_is) ∙ is);
        waits = dials;
      }

  pub is_led : (place : Place) → IsInFlows conv client place flows standing prefix → led_to flows.stream.terms.place flows.stream.phase ≡ Some to →
      IsLed place flows standing to
  is_led place at is =
      let P : Terms → Type 0 = λ t. led_to t.place flows.stream.phase ≡ Some to in
      by place at (subst P at.is_at.is_in.terms is)
    where
      by : (place : Place) → IsInFlows conv client place flows standing prefix → led_to place flows.stream.phase ≡ Some to → IsLed place flows standing to
      by places.Regular at is = absurd (let no : None ≡ Some to = is in cc)
      by (places.Upstream proxy) at is = absurd (let no : None ≡ Some to = is in cc)
      by (places.Fixed address None) at is = absurd (let no : None ≡ Some to = is in cc)
      by (places.Fixed address (Some proxy)) at is = led_on address proxy at is
