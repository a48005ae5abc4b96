-- Where a reply that goes on over any size leads: before the request is sent on.
use Rattle.std.proofs.Common.{◌≡◌, ℕ, zero, suc, ◌+◌, Bool, true, false, List, [], ◌∷◌, ◌++◌, length, Option, Some, None, refl, ap, sym, ◌∙◌, subst, arith, inl, inr}
use Rattle.std.specs.Prelude.{◌||◌, take}
use Rattle.std.proofs.lemmas.List.{append-nil, drop-drop}
use Rattle.px_message.specs.declared.fault.Fault.{Fault}
use Rattle.px_message.specs.declared.flow.Flow.{Flow}
use Rattle.px_message.specs.declared.request.Request.{Request}
use Rattle.px_event.specs.declared.ask.Hook.TheVariants.{RequestHead, RequestBody}
use Rattle.px_event.specs.declared.command.Command.{Command}
use Rattle.px_event.specs.declared.command.Command.TheVariants as commands
use Rattle.px_event.specs.declared.event.Event.{Event}
use Rattle.px_event.specs.declared.reply.Reply.{Reply}
use Rattle.px_event.specs.declared.reply.Reply.TheVariants as reply
use Rattle.px_event.specs.declared.side.Side.TheVariants.{Client, Server}
use Rattle.px_event.specs.Chain.{Timed, Asks, Turn}
use Rattle.px_read.specs.Items.{Body, Item, missing, part, complete, bad_head, bad_body, request_item}
use Rattle.px_read.specs.Laws.{head_in, is_decided}
use Rattle.px_read.specs.declared.head.RequestHead.{RequestHead as ReadRequest}
use Rattle.px_exchange.specs.Places.{dialled_for, form_at}
use Rattle.px_exchange.specs.declared.asked.Judged.{Judged}
use Rattle.px_exchange.specs.declared.asked.Judged.TheVariants.{Refused, Accepted, Connects}
use Rattle.px_exchange.specs.declared.ending.Used.{Used}
use Rattle.px_exchange.specs.declared.ending.Used.TheVariants.{NoServer}
use Rattle.px_exchange.specs.declared.taken.Taken.{Taken}
use Rattle.px_exchange.specs.declared.taken.Taken.TheVariants as taken
use Rattle.px_exchange.specs.declared.terms.Terms.{Terms}
use Rattle.px_exchange.specs.Endings.{ends_by_fault, shut_server}
use Rattle.px_exchange.specs.Finds.{look_body, look_head, look_judged, or_leaves}
use Rattle.px_exchange.specs.Flows.{ask_of, with_body}
use Rattle.px_exchange.specs.Requests.{expects, flow_of, is_head, judged}
use Rattle.px_exchange.specs.Texts.{meets_expectation, onward_text}
use Rattle.px_chain.specs.Behind.{used_behind, used_by_turn}
use Rattle.px_chain.specs.Chain.{goes_on_by, parked_for, sequence, turn_body, turn_dial, turn_head, turn_judged, turn_taken_body, turn_taken_head}
use Rattle.px_chain.specs.Going.{allowed_up_by, goes_up}
use Rattle.px_chain.specs.Keeping.{unspoilt_at}
use Rattle.px_chain.specs.Sights.{Sight, UsedBytes, request_in, server_parked, sight_of, used_with}
use Rattle.px_chain.specs.Stages.{At, Sent, Stage, all_sent, busy, connection, going_up, idle, request_body, side_of, side_parked, unparked}
use Rattle.px_chain.specs.Streams.{Since, bytes_of}
use Rattle.px_chain.proofs.EndLemmas.{turns_in_order}
use Rattle.px_said.specs.ClosedForm.{fault_said, first_flows, flows_behind, request_items, said, said_of}
use Rattle.px_said.specs.Lines.{AllGoOn, Start, client_bytes, goes_on_at, goes_on_over, goes_up_over, said_head, said_kept, said_request, said_start, said_to, said_way, sent_from, side_over}
use Rattle.px_said.proofs.ClosedFronts.{IsFront, front_length, least_at, same_taken}
use Rattle.px_said.proofs.ClosedItems.{after_on, items_after, items_split}
use Rattle.px_said.proofs.ClosedQuiet.{said_join, says_expectation, says_fault, says_last_behind, says_sent, says_server}
use Rattle.px_said.proofs.ClosedLooks.{asks_nothing, asks_same, behind_these, ends_ask}
use Rattle.px_said.proofs.LineQuiet.{AllSends, NoQuestion, Rest, SaysEnd, closes_none, end_of, ends_none, none_both, rest_behind, rest_is, rest_said, sends_keep, server_closes, sends_none, skips, takes_request_body, takes_request_head}
use Rattle.px_said.proofs.LineKept.{kept_served, kept_side, kept_unspoilt}
use Rattle.px_said.proofs.LineSeen.{carried, new_missing, same_goes_on, same_goes_up, waits_on}
use Rattle.px_said.proofs.LineStages.{Begun, Between, Connecting, IsAt, Waiting, answers_left, down_of, further_after, further_behind, start_of}

meets_sends : (expected : Bool) → AllSends (meets_expectation expected)
meets_sends true = tt
meets_sends false = tt

module _ (terms : Terms) (events : List (Timed Event)) (all : List Command) where
  -- Where it stands behind the reply, with so many flows behind that one, and the replies that are left go on; or the last of these flows
  -- has ended.
  pub data Led (flows : ℕ) (turned : Turn Stage Command) (opened : ℕ) (used : Stage → UsedBytes) (up : ℕ) (prefix : List (Timed Event)) (sent so_far : List Command) (ask : Command)
      (waits : Bool) (rest : List Command) (replies : List Reply) : Type 0 where
    goes_on : (more : ℕ) → IsAt terms events all more (sequence turned.stage) opened (used (sequence turned.stage)) up prefix (sent ++ (so_far ++ ask ∷ turned.owed)) replies →
        first_flows (flows_behind flows ask) (turned.owed ++ rest) ≡ turned.owed ++ first_flows (suc more) rest → AllGoOn waits (first_flows (suc more) rest) replies →
        Led flows turned opened used up prefix sent so_far ask waits rest replies
    has_ended : Rest all (sent ++ (so_far ++ ask ∷ first_flows (flows_behind flows ask) (turned.owed ++ rest))) [] →
        Led flows turned opened used up prefix sent so_far ask waits rest replies

  abbrev pub Leads : ℕ → Turn Stage Command → ℕ → (Stage → UsedBytes) → ℕ → List (Timed Event) → List Command → List Command → Command → Bool → List Command → Reply → List Reply → Type 0
  Leads flows turned opened used up prefix sent so_far ask waits rest value replies =
      AllGoOn waits (ask ∷ first_flows (flows_behind flows ask) (turned.owed ++ rest)) (value ∷ replies) →
      Led flows turned opened used up prefix sent so_far ask waits rest replies

  module _ (turned : Turn Stage Command) (opened : ℕ) (used : Stage → UsedBytes) (up : ℕ) (prefix : List (Timed Event)) (sent so_far : List Command) (ask : Command)
      (waits : Bool) (rest : List Command) (replies : List Reply) where
    -- behind what ends no flow it goes on
    pub on_led : (flows : ℕ) → flows_behind flows ask ≡ suc flows →
        ((more : ℕ) (rest : List Command) → first_flows (suc more) (turned.owed ++ rest) ≡ turned.owed ++ first_flows (suc more) rest) → NoQuestion turned.owed →
        IsAt terms events all flows (sequence turned.stage) opened (used (sequence turned.stage)) up prefix (sent ++ (so_far ++ ask ∷ turned.owed)) replies →
        AllGoOn waits (first_flows (flows_behind flows ask) (turned.owed ++ rest)) replies → Led flows turned opened used up prefix sent so_far ask waits rest replies
    on_led flows behind keeps none stands goes =
        let cut : first_flows (flows_behind flows ask) (turned.owed ++ rest) ≡ turned.owed ++ first_flows (suc flows) rest =
        ap (λ n. first_flows n (turned.owed ++ rest)) behind ∙ keeps flows rest in
        let P : List Command → Type 0 = λ l. AllGoOn waits l replies in
        goes_on flows stands cut (skips turned.owed none waits (first_flows (suc flows) rest) replies (subst P cut goes))

    -- a reply that ends its flow
    pub ending_led : (flows : ℕ) (texts : List Command) → flows_behind flows ask ≡ suc flows → SaysEnd turned.owed texts → NoQuestion turned.owed →
        (flows ≡ 0 → Rest all (sent ++ (so_far ++ ask ∷ turned.owed)) []) →
        ((more : ℕ) → flows ≡ suc more → IsAt terms events all more (sequence turned.stage) opened (used (sequence turned.stage)) up prefix (sent ++ (so_far ++ ask ∷ turned.owed)) replies) →
        AllGoOn waits (first_flows (flows_behind flows ask) (turned.owed ++ rest)) replies → Led flows turned opened used up prefix sent so_far ask waits rest replies
    ending_led zero texts behind says none last more goes =
        let asked : List Command → List Command = λ l. sent ++ (so_far ++ ask ∷ l) in
        let split : (l : List Command) → said (asked l) ≡ said sent ++ (said so_far ++ (said_of ask ++ said l)) = λ l.
        said_join sent (so_far ++ ask ∷ l) ∙ ap (λ m. said sent ++ m) (said_join so_far (ask ∷ l)) in
        let same : said turned.owed ≡ said (first_flows (flows_behind 0 ask) (turned.owed ++ rest)) =
        says.is ∙ (sym (says.last rest) ∙ ap (λ n. said (first_flows n (turned.owed ++ rest))) (sym behind)) in
        has_ended (rest_said all (asked turned.owed) (asked (first_flows (flows_behind 0 ask) (turned.owed ++ rest))) []
        (split turned.owed ∙ (ap (λ l. said sent ++ (said so_far ++ (said_of ask ++ l))) same ∙ sym (split (first_flows (flows_behind 0 ask) (turned.owed ++ rest))))) (last refl))
    ending_led (suc more) texts behind says none last on goes =
        let cut : first_flows (flows_behind (suc more) ask) (turned.owed ++ rest) ≡ turned.owed ++ first_flows (suc more) rest =
        ap (λ n. first_flows n (turned.owed ++ rest)) behind ∙ says.keeps more rest in
        let P : List Command → Type 0 = λ l. AllGoOn waits l replies in
        goes_on more (on more refl) cut (skips turned.owed none waits (first_flows (suc more) rest) replies (subst P cut goes))

  -- behind the request's bytes
  abbrev behind_used : UsedBytes → ℕ → Option ℕ → UsedBytes
  behind_used used size side = record { client = used.client + size; server = used_behind false side used.server }

  -- a whole request that goes on: its server is dialled, or it goes to the parked side
  side_led : (flows : ℕ) (side : Option ℕ) (at : At) (whole : Flow) (opened : ℕ) (used : UsedBytes) (size from : ℕ) (waiting : Waiting) (sent strayed : List Command) → said strayed ≡ [] →
      (waits : Bool) (rest : List Command) (replies : List Reply) (prefix : List (Timed Event)) →
      ((server : ℕ) → side ≡ Some server → (waiting.opened ≡ opened) × (waiting.used ≡ used.server)) →
      let turned = goes_on_by side terms.place at whole in
      Rest all sent (said_to terms events (start_of at waiting (used.client + size) from replies) None whole.request (length prefix) side (further_behind terms events all flows (used.client + size))) →
      AllGoOn waits (first_flows (suc flows) (turned.owed ++ rest)) replies →
      Led flows turned opened (λ stage. behind_used used size (side_of stage)) 0 prefix sent strayed (ask_of whole RequestBody) waits rest replies
  side_led flows None at whole opened used size from waiting sent strayed quiet waits rest replies prefix served is goes =
      let ask : Command = ask_of whole RequestBody in
      on_led (goes_on_by None terms.place at whole) opened (λ stage. behind_used used size (side_of stage)) 0 prefix sent strayed ask waits rest replies flows refl (λ more rest. refl) tt
      (record {
        from = from;
        waiting = waiting;
        plain = tt;
        untold = refl;
        rest = rest_behind all sent strayed (ask ∷ []) [] _ _ is quiet refl refl;
      }) goes
  side_led flows (Some side) at whole opened used size from waiting sent strayed quiet waits rest replies prefix served is goes =
      let ask : Command = ask_of whole RequestBody in
      let text : Command = commands.Send (Server side) (onward_text (form_at terms.place) whole.request) in
      let same = served side refl in
      let left : ℕ → ℕ → List Command = λ behind n.
      answers_left terms (down_of terms events all flows all_sent whole.request side behind (record { client = used.client + size; server = n }) (length prefix)) (unparked at) whole.request replies in
      on_led (goes_on_by (Some side) terms.place at whole) opened (λ stage. behind_used used size (side_of stage)) 0 prefix sent strayed ask waits rest replies flows refl (λ more rest. refl) tt
      (record {
        went = length prefix;
        onward = record {
          within = omega arith;
          waits = λ k low high. absurd (omega arith);
        };
        goes = tt;
        calm = inl refl;
        rest = rest_behind all sent strayed (ask ∷ text ∷ []) (text ∷ []) _ (left opened used.server) is quiet refl
            (ap (λ o. text ∷ left o waiting.used) same.0 ∙ ap (λ n. text ∷ left opened n) same.1);
      }) goes

  module _ (flows : ℕ) (sent : List Command) (moment : ℕ) (value : Reply) (waits : Bool) (rest : List Command) (replies : List Reply)
      (since : Since) (opened : ℕ) (used : UsedBytes) (up : ℕ) (prefix : List (Timed Event)) (is_front : IsFront prefix events) (ask : Command) (leaving : List Command) (at : At)
      (strayed : List Command) (quiet : said strayed ≡ []) where
    abbrev answer : Timed Reply
    answer = record { moment = moment; value = value }

    -- while no flow uses a server's side
    abbrev seen : Sight
    seen = sight_of (side_parked at.parked) since opened used up prefix

    -- a reply forgets one of which something was heard
    abbrev at_there : At
    at_there = unspoilt_at at seen

    abbrev parked : Used
    parked = server_parked at_there.parked seen

    -- the replies that are left before this one, and behind it
    abbrev left : List Reply
    left = value ∷ replies

    abbrev bytes : List ℕ
    bytes = client_bytes events used.client

    abbrev from_start : Waiting → ℕ → List Reply → Start
    from_start waiting from replies = start_of at waiting used.client from replies

    -- ---- the head of a request

    -- behind its answer nothing more is used
    abbrev leads_on : Stage → UsedBytes
    leads_on stage = used_by_turn (idle at) seen used stage

    abbrev Stands : List Command → Type 0
    Stands told = Between terms events all flows at opened used prefix told left

    accepted_led : (head : ReadRequest) (message : Request) → Stands sent → head_in (request_item bytes) ≡ Some head → judged terms.place head ≡ Accepted message →
        Leads flows (turn_judged terms at_there head (Accepted message) seen answer) opened leads_on 0 prefix sent strayed (ask_of (flow_of terms at.flow message seen.now) RequestHead) waits rest value replies
    accepted_led head message b head_there accepted goes =
        let flow = flow_of terms at.flow message seen.now in
        let asked = ask_of flow RequestHead in
        let most = allowed_up_by terms.streams value in
        let meets = meets_expectation (expects head) in
        let start = from_start b.waiting b.from left in
        let F = further_after terms events all flows used.client in
        let said_then : List Command = said_request terms events (from_start b.waiting b.from replies) message most (request_item bytes) (goes_on_at events (from_start b.waiting b.from replies) most) F in
        let opening : further_behind terms events all (suc flows) used.client start ≡ meets ++ said_then =
        ap (λ l. sent_from terms events start (take (suc flows) l)) (items_split bytes)
        ∙ (ap (λ (o : Option ReadRequest). said_start terms events start o (request_item bytes) F) head_there
        ∙ ap (λ j. said_head terms events start head j (request_item bytes) F) accepted) in
        let begun : Begun terms events all flows at_there message most opened (leads_on (busy at_there flow (request_body None most))) 0 prefix (sent ++ (strayed ++ asked ∷ meets)) replies = record {
          from = b.from;
          waiting = b.waiting;
          keeps = kept_unspoilt at.parked since opened used up prefix b.waiting b.keeps;
          within = b.within;
          waits = λ k low high. waits_on (from_start b.waiting b.from replies) most (take k events) (b.waits k low high);
          head = head;
          there = head_there;
          accepted = accepted;
          untold = refl;
          rest = rest_behind all sent strayed (asked ∷ meets) meets _ said_then b.rest quiet (says_expectation (expects head)).is opening;
        } in
        let Q : Taken Request → Type 0 = λ t. Leads flows (turn_taken_head at_there flow (expects head) most t moment seen) opened leads_on 0 prefix sent strayed asked waits rest value replies in
        let led : Q (taken.GoesOn message) = λ on.
        on_led (turn_taken_head at_there flow (expects head) most (taken.GoesOn message) moment seen) opened leads_on 0 prefix sent strayed asked waits rest replies flows refl
        (sends_keep meets (meets_sends (expects head))) (sends_none meets (meets_sends (expects head)))
        begun on.1 in
        subst Q (sym (takes_request_head flow value goes.0)) led goes

    judged_led : (head : ReadRequest) (made : Judged) → judged terms.place head ≡ made → Stands sent → head_in (request_item bytes) ≡ Some head →
        or_leaves seen.closed leaving (look_judged terms at.flow head made seen.now parked seen.closed) ≡ Asks ask →
        Leads flows (turn_judged terms at_there head made seen answer) opened leads_on 0 prefix sent strayed ask waits rest value replies
    judged_led head (Refused fault) made b there asks = absurd (ends_ask _ ask asks)
    judged_led head (Connects address) made b there asks = absurd (ends_ask _ ask asks)
    judged_led head (Accepted message) made b there asks =
        let P : Command → Type 0 = λ c. Leads flows (turn_judged terms at_there head (Accepted message) seen answer) opened leads_on 0 prefix sent strayed c waits rest value replies in
        subst P (asks_same _ ask asks) (accepted_led head message b there made)

    pub idle_led : (item : Item ReadRequest) → request_in seen ≡ item → Stands sent →
        or_leaves seen.closed leaving (look_head terms at.flow item seen.now parked seen.closed) ≡ Asks ask →
        Leads flows (turn_head terms at_there item seen answer) opened leads_on 0 prefix sent strayed ask waits rest value replies
    idle_led missing is b asks = absurd (asks_nothing seen.closed leaving ask asks)
    idle_led (part head body) is b asks = judged_led head (judged terms.place head) refl b ((carried used.client prefix events is_front).head head (ap head_in is)) asks
    idle_led (complete head body trailers size) is b asks = judged_led head (judged terms.place head) refl b ((carried used.client prefix events is_front).head head (ap head_in is)) asks
    idle_led (bad_head fault) is b asks = absurd (ends_ask _ ask asks)
    idle_led (bad_body fault head body) is b asks = judged_led head (judged terms.place head) refl b ((carried used.client prefix events is_front).head head (ap head_in is)) asks

    -- ---- the request's body

    -- the bytes of the request are used, of so many
    abbrev behind_item : Item ReadRequest → Stage → UsedBytes
    behind_item item stage = record { client = used_with item used.client; server = used_behind false (side_of stage) used.server }

    module _ (flow : Flow) (most : Option ℕ) (kept : goes_up most seen ≡ false) (b : Begun terms events all flows at flow.request most opened used up prefix sent left) where
      abbrev behind_body : Stage → UsedBytes
      behind_body stage = used_by_turn (busy at flow (request_body None most)) seen used stage

      whole_there : (head : ReadRequest) (body : Body) (trailers : List (List ℕ × List ℕ)) (size : ℕ) → request_in seen ≡ complete head body trailers size →
          Leads flows (turn_body terms.place at_there flow (complete head body trailers size) seen answer) opened (behind_item (complete head body trailers size)) 0 prefix sent strayed
          (ask_of (with_body flow body.content trailers seen.now) RequestBody) waits rest value replies
      whole_there head body trailers size is goes =
          let whole = with_body flow body.content trailers seen.now in
          let asked = ask_of whole RequestBody in
          let come = length prefix in
          let taken_events = take come events in
          let alike = same_taken prefix events is_front in
          let item : request_item bytes ≡ complete head body trailers size = (carried used.client prefix events is_front).stays (rw is refl) ∙ is in
          let same : Some b.head ≡ Some head = sym b.there ∙ ap head_in item in
          let heads : b.head ≡ head = cc in
          let accepted : judged terms.place head ≡ Accepted flow.request = ap (judged terms.place) (sym heads) ∙ b.accepted in
          let start = from_start b.waiting b.from left in
          let test : ℕ → Bool = λ k. goes_on_over start most (take k events) in
          let here : test come ≡ true =
          sym (same_goes_on prefix taken_events alike start most)
          ∙ ap (λ (i : Item ReadRequest). is_decided i || goes_up_over start most prefix) is in
          let connected : goes_on_at events start most ≡ Some come =
          least_at test b.from come (length events) b.within (front_length prefix events is_front) b.waits here in
          let way : goes_up_over start most taken_events ≡ false =
          sym (same_goes_up prefix taken_events alike start most) ∙ kept in
          let after : items_after bytes ≡ request_items (client_bytes events (used.client + size)) =
          after_on terms.place bytes head body trailers size flow.request item accepted
          ∙ ap (λ l. request_items l) (drop-drop size used.client (bytes_of Client events)) in
          let F = further_after terms events all flows used.client in
          let side = parked_for terms.place whole.request at_there.parked in
          let behind : Start = start_of at b.waiting (used.client + size) b.from replies in
          let to : side_over terms.place behind whole.request taken_events ≡ side =
          kept_side at.parked since opened used up prefix b.waiting terms.place at whole.request (used.client + size) b.from replies taken_events alike b.keeps in
          let ends_here : List Command = said_to terms events behind None whole.request come side (further_behind terms events all flows (used.client + size)) in
          let on : said_request terms events start flow.request most (request_item bytes) (goes_on_at events start most) F ≡ ends_here =
          ap (λ i. said_request terms events start flow.request most i (goes_on_at events start most) F) item
          ∙ (ap (λ o. said_request terms events start flow.request most (complete head body trailers size) o F) connected
          ∙ (ap (λ w. said_way w terms events start flow.request (complete head body trailers size) come F) way
          ∙ (ap (λ l. said_kept terms events behind whole.request come (λ next. sent_from terms events next (take flows l))) after
          ∙ ap (λ o. said_to terms events behind None whole.request come o (further_behind terms events all flows (used.client + size))) to))) in
          let P : Taken Request → Type 0 = λ t.
          Leads flows (turn_taken_body terms.place at_there whole t moment seen) opened (behind_item (complete head body trailers size)) 0 prefix sent strayed asked waits rest value replies in
          let led : P (taken.GoesOn whole.request) = λ on_it.
          side_led flows side at_there whole opened used size b.from b.waiting sent strayed quiet waits rest replies prefix
          (λ server. kept_served at.parked since opened used up prefix b.waiting terms.place whole.request server b.keeps)
          (rest_is all sent _ ends_here b.rest on) on_it.1 in
          subst P (sym (takes_request_body whole value goes.0)) led goes

      whole_led : (head : ReadRequest) (body : Body) (trailers : List (List ℕ × List ℕ)) (size : ℕ) → request_in seen ≡ complete head body trailers size →
          Leads flows (turn_body terms.place at_there flow (complete head body trailers size) seen answer) opened behind_body 0 prefix sent strayed
          (ask_of (with_body flow body.content trailers seen.now) RequestBody) waits rest value replies
      whole_led head body trailers size is =
          let P : Item ReadRequest → Type 0 = λ i.
          Leads flows (turn_body terms.place at_there flow (complete head body trailers size) seen answer) opened (behind_item i) 0 prefix sent strayed
          (ask_of (with_body flow body.content trailers seen.now) RequestBody) waits rest value replies in
          subst P (sym is) (whole_there head body trailers size is)

      pub body_led : (item : Item ReadRequest) → request_in seen ≡ item →
          or_leaves seen.closed leaving (look_body flow item seen.now parked seen.closed) ≡ Asks ask →
          Leads flows (turn_body terms.place at_there flow item seen answer) opened behind_body 0 prefix sent strayed ask waits rest value replies
      body_led missing is asks = absurd (asks_nothing seen.closed leaving ask asks)
      body_led (part head body) is asks = absurd (asks_nothing seen.closed leaving ask asks)
      body_led (complete head body trailers size) is asks =
          let P : Command → Type 0 = λ c. Leads flows (turn_body terms.place at_there flow (complete head body trailers size) seen answer) opened behind_body 0 prefix sent strayed c waits rest value replies in
          subst P (asks_same _ ask asks) (whole_led head body trailers size is)
      body_led (bad_head fault) is asks = absurd (asks_nothing seen.closed leaving ask asks)
      body_led (bad_body fault head body) is asks = absurd (ends_ask _ ask asks)

    -- ---- the connection

    -- what the answer of a dial brings, behind the close of the parked side
    abbrev dial_turned : Sent → Flow → Reply → Turn Stage Command
    dial_turned how flow answered = behind_these (shut_server parked) (turn_dial terms.place at_there flow how (record { moment = moment; value = answered }) seen.closed)

    -- of the new side no byte was used
    abbrev behind_dial : Stage → UsedBytes
    behind_dial stage = record { client = used.client; server = 0 }

    abbrev Connects_to : Sent → Flow → List Reply → Type 0
    Connects_to how flow told = Connecting terms events all flows how at flow.request used up prefix sent told

    -- what is left of the response, where the server is new
    abbrev there_left : Sent → Flow → List Command
    there_left how flow =
        answers_left terms (down_of terms events all flows how flow.request at.dials (length prefix) (record { client = used.client; server = 0 }) (length prefix))
        (record at { dials = at.dials + 1; parked = None }) flow.request replies

    dialled_led : (how : Sent) (flow : Flow) → Connects_to how flow (reply.Dialled ∷ replies) →
        Leads flows (dial_turned how flow reply.Dialled) (length prefix) behind_dial 0 prefix sent strayed (commands.Dial at.dials (dialled_for terms.place flow.request) None) waits rest reply.Dialled replies
    dialled_led all_sent flow c goes =
        let dial = commands.Dial at.dials (dialled_for terms.place flow.request) None in
        let text = onward_text (form_at terms.place) flow.request in
        let send = commands.Send (Server at.dials) text in
        let owed = shut_server parked ++ send ∷ [] in
        let sends = says_sent (shut_server parked) (Server at.dials) text (says_server parked) in
        on_led (dial_turned all_sent flow reply.Dialled) (length prefix) behind_dial 0 prefix sent strayed dial waits rest replies flows refl
        sends.keeps (none_both (shut_server parked) (send ∷ []) (closes_none (shut_server parked) (server_closes parked)) tt)
        (record {
          went = length prefix;
          onward = record {
            within = omega arith;
            waits = λ k low high. absurd (omega arith);
          };
          goes = tt;
          calm = inl refl;
          rest = rest_behind all sent strayed (dial ∷ owed) (dial ∷ send ∷ []) _ (there_left all_sent flow) c.rest quiet (ap (λ l. dial ∷ l) sends.is) refl;
        }) goes.1
    dialled_led going_up flow c goes =
        let dial = commands.Dial at.dials (dialled_for terms.place flow.request) None in
        let owed = shut_server parked ++ [] in
        let closes : said owed ≡ [] = said_join (shut_server parked) [] ∙ (append-nil (said (shut_server parked)) ∙ (says_server parked).is) in
        let same : owed ≡ shut_server parked = append-nil (shut_server parked) in
        let keeps : (more : ℕ) (rest : List Command) → first_flows (suc more) (owed ++ rest) ≡ owed ++ first_flows (suc more) rest = λ more rest.
        ap (λ l. first_flows (suc more) (l ++ rest)) same ∙ ((says_server parked).keeps more rest ∙ ap (λ l. l ++ first_flows (suc more) rest) (sym same)) in
        on_led (dial_turned going_up flow reply.Dialled) (length prefix) behind_dial 0 prefix sent strayed dial waits rest replies flows refl
        keeps (none_both (shut_server parked) [] (closes_none (shut_server parked) (server_closes parked)) tt)
        (record {
          went = length prefix;
          onward = record {
            within = omega arith;
            waits = λ k low high. absurd (omega arith);
          };
          goes = record { told = omega arith; plain = c.plain };
          calm = inr (new_missing flow.request at.dials prefix);
          rest = rest_behind all sent strayed (dial ∷ owed) (dial ∷ []) _ _ c.rest quiet (ap (λ l. dial ∷ l) closes) refl;
        }) goes.1

    -- a refusal says the same of both
    refused_led : (how : Sent) (flow : Flow) (fault : Fault) → Connects_to how flow (reply.Refused fault ∷ replies) →
        (turn_dial terms.place at_there flow how (record { moment = moment; value = reply.Refused fault }) seen.closed).owed ≡ ends_by_fault flow fault moment NoServer seen.closed →
        Leads flows (dial_turned how flow (reply.Refused fault)) (length prefix) behind_dial 0 prefix sent strayed (commands.Dial at.dials (dialled_for terms.place flow.request) None) waits rest
        (reply.Refused fault) replies
    refused_led how flow fault c is goes =
        let texts = fault_said fault (is_head flow.request.method) in
        let ends = says_last_behind (shut_server parked) (ends_by_fault flow fault moment NoServer seen.closed) texts (says_server parked)
        (says_fault flow fault moment NoServer seen.closed) in
        let dial = commands.Dial at.dials (dialled_for terms.place flow.request) None in
        let turned = dial_turned how flow (reply.Refused fault) in
        let owed_is : turned.owed ≡ shut_server parked ++ ends_by_fault flow fault moment NoServer seen.closed = ap (λ l. shut_server parked ++ l) is in
        let S : List Command → Type 0 = λ l. SaysEnd l texts in
        let says : S turned.owed = subst S (sym owed_is) (end_of (shut_server parked ++ ends_by_fault flow fault moment NoServer seen.closed) texts ends) in
        let is_all : Rest all (sent ++ (strayed ++ dial ∷ turned.owed)) [] =
        rest_behind all sent strayed (dial ∷ turned.owed) (dial ∷ texts) _ [] c.rest quiet (ap (λ l. dial ∷ l) says.is) (sym (append-nil (dial ∷ texts))) in
        ending_led turned (length prefix) behind_dial 0 prefix sent strayed dial waits rest replies flows texts refl says
        (none_both (shut_server parked) (turn_dial terms.place at_there flow how (record { moment = moment; value = reply.Refused fault }) seen.closed).owed
        (closes_none (shut_server parked) (server_closes parked))
        (ends_none (turn_dial terms.place at_there flow how (record { moment = moment; value = reply.Refused fault }) seen.closed).owed
        (turns_in_order terms (busy at flow (connection how)) seen (record { moment = moment; value = reply.Refused fault }))))
        (λ none. is_all) (λ more is. record { is_all = is_all }) goes.1

    answered_led : (how : Sent) (flow : Flow) (answered : Reply) → Connects_to how flow (answered ∷ replies) →
        Leads flows (dial_turned how flow answered) (length prefix) behind_dial 0 prefix sent strayed (commands.Dial at.dials (dialled_for terms.place flow.request) None) waits rest answered replies
    answered_led how flow reply.Dialled c = dialled_led how flow c
    answered_led all_sent flow (reply.Refused fault) c = refused_led all_sent flow fault c refl
    answered_led going_up flow (reply.Refused fault) c = refused_led going_up flow fault c refl
    answered_led how flow (reply.Go given allowed) c = λ goes. absurd goes.0
    answered_led how flow (reply.Respond response) c = λ goes. absurd goes.0
    answered_led how flow reply.Kill c = λ goes. absurd goes.0
    answered_led how flow reply.Discard c = λ goes. absurd goes.0

    pub dial_led : (how : Sent) (flow : Flow) → Connects_to how flow left →
        or_leaves seen.closed leaving (Asks (commands.Dial at.dials (dialled_for terms.place flow.request) None)) ≡ Asks ask →
        Leads flows (dial_turned how flow value) (length prefix) behind_dial 0 prefix sent strayed ask waits rest value replies
    dial_led how flow c asks =
        let P : Command → Type 0 = λ d. Leads flows (dial_turned how flow value) (length prefix) behind_dial 0 prefix sent strayed d waits rest value replies in
        subst P (asks_same _ ask asks) (answered_led how flow value c)
