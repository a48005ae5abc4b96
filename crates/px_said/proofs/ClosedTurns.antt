-- Where a reply that goes on leads: before the request is sent on.
use Rattle.std.proofs.Common.{◌≡◌, ℕ, zero, suc, ◌+◌, Bool, false, List, [], ◌∷◌, ◌++◌, length, drop, Option, Some, None, refl, ap, sym, ◌∙◌, subst, arith}
use Rattle.std.specs.Prelude.{take}
use Rattle.std.proofs.lemmas.List.{append-nil, drop-drop}
use Rattle.px_message.specs.declared.fault.Fault.{Fault}
use Rattle.px_message.specs.declared.flow.Flow.{Flow}
use Rattle.px_message.specs.declared.request.Request.{Request}
use Rattle.px_event.specs.declared.ask.Hook.TheVariants.{RequestHead, RequestBody}
use Rattle.px_event.specs.declared.command.Command.{Command}
use Rattle.px_event.specs.declared.command.Command.TheVariants as commands
use Rattle.px_event.specs.declared.event.Event.{Event}
use Rattle.px_event.specs.declared.reply.Reply.{Reply}
use Rattle.px_event.specs.declared.reply.Reply.TheVariants as reply
use Rattle.px_event.specs.declared.side.Side.TheVariants.{Client, Server}
use Rattle.px_event.specs.Chain.{Timed, Asks, Turn}
use Rattle.px_read.specs.Items.{Body, Item, missing, part, complete, bad_head, bad_body, request_item}
use Rattle.px_read.specs.Laws.{head_in}
use Rattle.px_read.specs.declared.head.RequestHead.{RequestHead as ReadRequest}
use Rattle.px_read.proofs.ItemLemmas.{Carries, request_carries}
use Rattle.px_read.proofs.LawLemmas.{chunk_laws}
use Rattle.px_exchange.specs.Places.{dialled_for, form_at}
use Rattle.px_exchange.specs.declared.place.Place.{Place}
use Rattle.px_exchange.specs.declared.asked.Judged.{Judged}
use Rattle.px_exchange.specs.declared.asked.Judged.TheVariants.{Refused, Accepted, Connects}
use Rattle.px_exchange.specs.declared.ending.Used.{Used}
use Rattle.px_exchange.specs.declared.ending.Used.TheVariants.{NoServer}
use Rattle.px_exchange.specs.declared.taken.Taken.{Taken}
use Rattle.px_exchange.specs.declared.taken.Taken.TheVariants as taken
use Rattle.px_exchange.specs.declared.terms.Terms.{Terms}
use Rattle.px_exchange.specs.Endings.{ends_by_fault, shut_server}
use Rattle.px_exchange.specs.Finds.{look_body, look_head, look_judged, or_leaves}
use Rattle.px_exchange.specs.Flows.{ask_of, with_body}
use Rattle.px_exchange.specs.Replies.{taken_at_request_head}
use Rattle.px_exchange.specs.Requests.{expects, flow_of, is_head, judged}
use Rattle.px_exchange.specs.Texts.{meets_expectation, onward_text}
use Rattle.px_chain.specs.Chain.{goes_on_by, parked_for, sequence, turn_body, turn_dial, turn_head, turn_judged, turn_taken_body, turn_taken_head}
use Rattle.px_said.specs.ClosedForm.{GoesOn, request_items, behind_request, connected_at, dial_answers, fault_said, first_flows, flows_behind, is_whole, request_is_whole, said, said_answers, said_by, said_connected, said_from, said_of, said_on, said_whole}
use Rattle.px_chain.specs.Behind.{used_behind, used_by_turn}
use Rattle.px_chain.specs.Keeping.{unspoilt_at}
use Rattle.px_chain.specs.Sights.{Sight, UsedBytes, request_in, server_parked, sight_of, used_with}
use Rattle.px_chain.specs.Stages.{At, Parked, Stage, all_sent, busy, idle, request_body, side_of, side_parked, unparked}
use Rattle.px_chain.specs.Streams.{Since, bytes_of}
use Rattle.px_said.proofs.ClosedFronts.{IsFront, drop_on, front_length, least_at, same_bytes, same_taken, side_grows}
use Rattle.px_said.proofs.ClosedItems.{after_on, items_after, opening_on}
use Rattle.px_said.proofs.ClosedLooks.{asks_nothing, asks_same, behind_these, ends_ask}
use Rattle.px_said.proofs.ClosedQuiet.{Says, SaysLast, allows_up_none, goes_behind, no_dial, quiet_said, said_join, says_expectation, says_fault, says_last_behind, says_sent, says_server, takes_request_body, takes_request_head}
use Rattle.px_said.proofs.ClosedParked.{by_bare, forgotten, goes_now}
use Rattle.px_said.proofs.ClosedStages.{Begun, Between, Connecting, IsAt, all_bytes, further_after, further_behind, goes_further, items_behind, none_used, standing, told}

module _ (terms : Terms) (events : List (Timed Event)) (all : List Command) where
  -- Where it stands behind the reply, with so many flows behind that one, and the replies that are left go on; or the last of these flows
  -- has ended.
  pub data Led (flows : ℕ) (turned : Turn Stage Command) (opened : ℕ) (used : Stage → UsedBytes) (come : ℕ) (sent so_far : List Command) (ask : Command) (waits : Bool)
      (rest : List Command) (replies : List Reply) : Type 0 where
    goes_on : (more : ℕ) → IsAt terms events all more (sequence turned.stage) opened (used (sequence turned.stage)) come (sent ++ (so_far ++ ask ∷ turned.owed)) replies →
        first_flows (flows_behind flows ask) (turned.owed ++ rest) ≡ turned.owed ++ first_flows (suc more) rest → GoesOn waits (first_flows (suc more) rest) replies →
        Led flows turned opened used come sent so_far ask waits rest replies
    has_ended : said (sent ++ (so_far ++ ask ∷ first_flows (flows_behind flows ask) (turned.owed ++ rest))) ≡ all →
        Led flows turned opened used come sent so_far ask waits rest replies

  abbrev pub Leads : ℕ → Turn Stage Command → ℕ → (Stage → UsedBytes) → ℕ → List Command → List Command → Command → Bool → List Command → Reply → List Reply → Type 0
  Leads flows turned opened used come sent so_far ask waits rest value replies =
      GoesOn waits (ask ∷ first_flows (flows_behind flows ask) (turned.owed ++ rest)) (value ∷ replies) →
      Led flows turned opened used come sent so_far ask waits rest replies

  -- a reply that ends its flow
  pub ending_led : (flows : ℕ) (turned : Turn Stage Command) (opened : ℕ) (used : Stage → UsedBytes) (come : ℕ) (sent so_far : List Command) (ask : Command) (waits : Bool)
      (rest : List Command) (replies : List Reply) (texts : List Command) → flows_behind flows ask ≡ suc flows → SaysLast turned.owed texts →
      (flows ≡ 0 → all ≡ said (sent ++ (so_far ++ ask ∷ turned.owed))) →
      ((more : ℕ) → flows ≡ suc more → IsAt terms events all more (sequence turned.stage) opened (used (sequence turned.stage)) come (sent ++ (so_far ++ ask ∷ turned.owed)) replies) →
      GoesOn waits (first_flows (flows_behind flows ask) (turned.owed ++ rest)) replies → Led flows turned opened used come sent so_far ask waits rest replies
  ending_led zero turned opened used come sent so_far ask waits rest replies texts behind says last more goes =
      let asked : List Command → List Command = λ l. sent ++ (so_far ++ ask ∷ l) in
      let split : (l : List Command) → said (asked l) ≡ said sent ++ (said so_far ++ (said_of ask ++ said l)) = λ l.
      said_join sent (so_far ++ ask ∷ l) ∙ ap (λ m. said sent ++ m) (said_join so_far (ask ∷ l)) in
      has_ended
      (split (first_flows (flows_behind 0 ask) (turned.owed ++ rest))
      ∙ (ap (λ n. said sent ++ (said so_far ++ (said_of ask ++ said (first_flows n (turned.owed ++ rest))))) behind
      ∙ (ap (λ l. said sent ++ (said so_far ++ (said_of ask ++ l))) (says.last rest ∙ sym says.is)
      ∙ (sym (split turned.owed) ∙ sym (last refl)))))
  ending_led (suc more) turned opened used come sent so_far ask waits rest replies texts behind says last on goes =
      let cut : first_flows (flows_behind (suc more) ask) (turned.owed ++ rest) ≡ turned.owed ++ first_flows (suc more) rest =
      ap (λ n. first_flows n (turned.owed ++ rest)) behind ∙ says.keeps more rest in
      let P : List Command → Type 0 = λ l. GoesOn waits l replies in
      goes_on more (on more refl) cut (says.skips waits (first_flows (suc more) rest) replies (subst P cut goes))

  -- the parked side that a request goes to is one of which so many bytes were used
  parked_used : (place : Place) (request : Request) (parked : Option Parked) (used side : ℕ) → parked_for place request parked ≡ Some side →
      used_behind false (side_parked parked) used ≡ used
  parked_used place request None used side is = absurd (let no : None ≡ Some side = is in cc)
  parked_used place request (Some parked) used side is = refl

  -- behind the request's bytes
  abbrev behind_used : UsedBytes → ℕ → Option ℕ → UsedBytes
  behind_used used size side = record { client = used.client + size; server = used_behind false side used.server }

  -- a request that goes on, behind what its stage owes while it waits: its server is dialled, or it goes to the parked side
  side_led : (flows : ℕ) (side : Option ℕ) (at : At) (whole : Flow) (opened : ℕ) (used : UsedBytes) (size from : ℕ) (sent so_far : List Command) (waits : Bool) (rest : List Command)
      (replies : List Reply) (prefix : List (Timed Event)) → Says so_far [] → parked_for terms.place whole.request at.parked ≡ side →
      let ask = ask_of whole RequestBody in
      let turned = goes_on_by side terms.place at whole in
      all ≡ said sent
      ++ said_by terms events (behind_request (standing at opened used from (dial_answers replies)) size) whole.request (length prefix) side
      (further_behind terms events all flows (used.client + size)) →
      GoesOn waits (first_flows (suc flows) (turned.owed ++ rest)) replies →
      Led flows turned opened (λ stage. behind_used used size (side_of stage)) (length prefix) sent so_far ask waits rest replies
  side_led flows None at whole opened used size from sent so_far waits rest replies prefix quiet to is goes =
      let ask : Command = ask_of whole RequestBody in
      goes_on flows
      (record {
        from = from;
        rest = goes_further all sent (so_far ++ ask ∷ []) [] _ _ is (quiet_said so_far (ask ∷ []) quiet)
            (by_bare terms events (behind_request (standing at opened used from (dial_answers replies)) size) whole.request (length prefix)
            (further_behind terms events all flows (used.client + size)));
      })
      refl goes
  side_led flows (Some side) at whole opened used size from sent so_far waits rest replies prefix quiet to is goes =
      let ask : Command = ask_of whole RequestBody in
      let text : Command = commands.Send (Server side) (onward_text (form_at terms.place) whole.request) in
      let same = parked_used terms.place whole.request at.parked used.server side to in
      let left : ℕ → List Command = λ n.
      said_answers whole.request (told terms events all side opened n whole.request)
      (said_on terms.place events (standing (unparked at) opened (behind_used used size None) from (dial_answers replies))
      (record { server = side; opened = opened; used = n; went = length prefix }) (further_behind terms events all flows (used.client + size)) whole.request) in
      goes_on flows
      (record {
        went = length prefix;
        onward = record {
          within = omega arith;
          waits = λ k low high. absurd (omega arith);
        };
        from = from;
        rest = goes_further all sent (so_far ++ ask ∷ text ∷ []) (text ∷ []) _ _ is (quiet_said so_far (ask ∷ text ∷ []) quiet) (ap (λ n. text ∷ left n) same);
      })
      refl goes

  pub client_carried : (used : ℕ) (prefix : List (Timed Event)) → IsFront prefix events →
      Carries (request_item (drop used (bytes_of Client prefix))) (request_item (drop used (all_bytes terms events all)))
  client_carried used prefix is =
      let bytes = bytes_of Client prefix in
      let grows = side_grows Client prefix events is in
      let on = drop_on used bytes grows.more in
      let P : List ℕ → Type 0 = λ l. Carries (request_item (drop used bytes)) (request_item l) in
      subst P (sym (ap (drop used) grows.grown ∙ on.1)) (request_carries chunk_laws (drop used bytes) on.0)

  module _ (flows : ℕ) (sent : List Command) (moment : ℕ) (value : Reply) (waits : Bool) (rest : List Command) (replies : List Reply)
      (since : Since) (opened : ℕ) (used : UsedBytes) (up : ℕ) (prefix : List (Timed Event)) (is_front : IsFront prefix events) (ask : Command) (leaving so_far : List Command)
      (quiet : Says so_far []) (at : At) where
    abbrev answer : Timed Reply
    answer = record { moment = moment; value = value }

    -- so many events have come
    abbrev come : ℕ
    come = length prefix

    -- while no flow uses a server's side
    abbrev seen : Sight
    seen = sight_of (side_parked at.parked) since opened used up prefix

    -- and without one of which something was heard
    abbrev there : At
    there = unspoilt_at at seen

    abbrev parked : Used
    parked = server_parked there.parked seen

    -- the replies that are left before this one, and behind it
    abbrev left : List Reply
    left = value ∷ replies

    -- whether the request is whole over the prefix
    whole_here : (bytes : ℕ) → request_is_whole events bytes come ≡ is_whole (request_item (drop bytes (bytes_of Client prefix)))
    whole_here bytes =
        ap (λ l. is_whole (request_item (drop bytes l))) (sym (same_bytes Client prefix (take (length prefix) events) (same_taken prefix events is_front)))

    -- ---- the head of a request

    -- behind its answer nothing more is used
    abbrev leads_on : Stage → UsedBytes
    leads_on stage = used_by_turn (idle at) seen used stage

    accepted_led : (head : ReadRequest) (message : Request) → Between terms events all flows at opened used come sent left →
        head_in (request_item (drop used.client (all_bytes terms events all))) ≡ Some head → judged terms.place head ≡ Accepted message →
        Leads flows (turn_judged terms there head (Accepted message) seen answer) opened leads_on come sent so_far (ask_of (flow_of terms at.flow message seen.now) RequestHead) waits rest value replies
    accepted_led head message b is_head_there accepted goes =
        let flow = flow_of terms at.flow message seen.now in
        let asked = ask_of flow RequestHead in
        let bytes = drop used.client (all_bytes terms events all) in
        let texts = meets_expectation (expects head) in
        let meets = says_expectation (expects head) in
        let same = none_used (side_parked there.parked) used.server in
        let F = further_after terms events all flows used.client in
        let whole : At → List (Option Fault) → List Command = λ a d. said_whole terms events (standing a opened used b.from d) message (request_item bytes) F in
        let whole_used : ℕ → List Command = λ n.
        said_whole terms events (record (standing there opened used b.from (dial_answers replies)) { used = n }) message (request_item bytes) F in
        let opening = opening_on terms events (standing at opened used b.from (dial_answers left)) flows bytes head message is_head_there accepted in
        let P : Option ℕ → Taken Request → Type 0 = λ m t. Leads flows (turn_taken_head there flow (expects head) m t moment seen) opened leads_on come sent so_far asked waits rest value replies in
        let led : P None (taken.GoesOn message) = λ on.
        goes_on flows
        (record {
          from = b.from;
          within = b.within;
          waits = b.waits;
          head = head;
          there = is_head_there;
          accepted = accepted;
          rest = goes_further all sent (so_far ++ asked ∷ texts) texts _ (whole_used (used_behind false (side_parked there.parked) (used_behind false (side_parked there.parked) used.server))) b.rest
              (quiet_said so_far (asked ∷ texts) quiet ∙ meets.is)
              (opening ∙ (ap (λ d. texts ++ whole at d) (no_dial flow value replies on.0)
              ∙ (ap (λ l. texts ++ l) (forgotten terms events since opened used up prefix is_front at b.from (dial_answers replies) message (request_item bytes) F b.waits)
              ∙ ap (λ n. texts ++ whole_used n) (sym same))));
        })
        (meets.keeps flows rest)
        (goes_behind texts texts meets waits flows rest replies on.1) in
        let taken_so : P None (taken_at_request_head message value) = subst (λ t. P None t) (sym (takes_request_head flow value goes.0)) led in
        subst (λ m. P m (taken_at_request_head message value)) (sym (allows_up_none terms.streams flow value goes.0)) taken_so goes

    judged_led : (head : ReadRequest) (made : Judged) → judged terms.place head ≡ made → Between terms events all flows at opened used come sent left →
        head_in (request_item (drop used.client (all_bytes terms events all))) ≡ Some head →
        or_leaves seen.closed leaving (look_judged terms at.flow head made seen.now parked seen.closed) ≡ Asks ask →
        Leads flows (turn_judged terms there head made seen answer) opened leads_on come sent so_far ask waits rest value replies
    judged_led head (Refused fault) made b is asks = absurd (ends_ask _ ask asks)
    judged_led head (Connects address) made b is asks = absurd (ends_ask _ ask asks)
    judged_led head (Accepted message) made b is asks =
        let P : Command → Type 0 = λ c. Leads flows (turn_judged terms there head (Accepted message) seen answer) opened leads_on come sent so_far c waits rest value replies in
        subst P (asks_same _ ask asks) (accepted_led head message b is made)

    pub idle_led : (item : Item ReadRequest) → request_in seen ≡ item → Between terms events all flows at opened used come sent left →
        or_leaves seen.closed leaving (look_head terms at.flow item seen.now parked seen.closed) ≡ Asks ask →
        Leads flows (turn_head terms there item seen answer) opened leads_on come sent so_far ask waits rest value replies
    idle_led missing is b asks = absurd (asks_nothing seen.closed leaving ask asks)
    idle_led (part head body) is b asks =
        judged_led head (judged terms.place head) refl b ((client_carried used.client prefix is_front).head head (ap head_in is)) asks
    idle_led (complete head body trailers size) is b asks =
        judged_led head (judged terms.place head) refl b ((client_carried used.client prefix is_front).head head (ap head_in is)) asks
    idle_led (bad_head fault) is b asks = absurd (ends_ask _ ask asks)
    idle_led (bad_body fault head body) is b asks =
        judged_led head (judged terms.place head) refl b ((client_carried used.client prefix is_front).head head (ap head_in is)) asks

    -- ---- the request's body

    -- the bytes of the request are used, of so many
    abbrev behind_item : Item ReadRequest → Stage → UsedBytes
    behind_item item stage = record { client = used_with item used.client; server = used_behind false (side_of stage) used.server }

    abbrev behind_body : Flow → Stage → UsedBytes
    behind_body flow stage = used_by_turn (busy at flow (request_body None None)) seen used stage

    whole_there : (flow : Flow) (head : ReadRequest) (body : Body) (trailers : List (List ℕ × List ℕ)) (size : ℕ) →
        request_in seen ≡ complete head body trailers size → Begun terms events all flows at flow.request opened used come sent left →
        Leads flows (turn_body terms.place there flow (complete head body trailers size) seen answer) opened (behind_item (complete head body trailers size)) come sent so_far
        (ask_of (with_body flow body.content trailers seen.now) RequestBody) waits rest value replies
    whole_there flow head body trailers size is b goes =
        let whole = with_body flow body.content trailers seen.now in
        let asked = ask_of whole RequestBody in
        let bytes = drop used.client (all_bytes terms events all) in
        let item : request_item bytes ≡ complete head body trailers size = (client_carried used.client prefix is_front).stays (rw is refl) ∙ is in
        let same : Some b.head ≡ Some head = sym b.there ∙ ap head_in item in
        let heads : b.head ≡ head = cc in
        let accepted : judged terms.place head ≡ Accepted flow.request = ap (judged terms.place) (sym heads) ∙ b.accepted in
        let point = standing at opened used b.from (dial_answers replies) in
        let connected : connected_at events point ≡ Some come =
        least_at (request_is_whole events used.client) b.from come (length events) b.within (front_length prefix events is_front) b.waits
        (whole_here used.client ∙ ap is_whole is) in
        let after : items_after bytes ≡ items_behind terms events all (used.client + size) =
        after_on terms.place bytes head body trailers size flow.request item accepted
        ∙ ap (λ l. request_items l) (drop-drop size used.client (all_bytes terms events all)) in
        let F = further_after terms events all flows used.client in
        let ends_here : List Command = said_connected terms events (behind_request point size) whole.request (Some come) (further_behind terms events all flows (used.client + size)) in
        let on : dial_answers left ≡ dial_answers replies →
        said_whole terms events (standing at opened used b.from (dial_answers left)) flow.request (request_item bytes) F ≡ ends_here = λ same.
        ap (λ d. said_whole terms events (standing at opened used b.from d) flow.request (request_item bytes) F) same
        ∙ (ap (λ i. said_whole terms events point flow.request i F) item
        ∙ (ap (λ o. said_connected terms events (behind_request point size) whole.request o F) connected
        ∙ ap (λ l. said_connected terms events (behind_request point size) whole.request (Some come) (λ next. said_from terms events next (take flows l))) after)) in
        let P : Taken Request → Type 0 = λ t.
        Leads flows (turn_taken_body terms.place there whole t moment seen) opened (behind_item (complete head body trailers size)) come sent so_far asked waits rest value replies in
        let led : P (taken.GoesOn whole.request) = λ on_it.
        side_led flows (parked_for terms.place whole.request there.parked) there whole opened used size b.from sent so_far waits rest replies prefix quiet refl
        (b.rest ∙ ap (λ l. said sent ++ l)
        (on (no_dial whole value replies on_it.0)
        ∙ goes_now terms events since opened used up prefix is_front at b.from (dial_answers replies) size whole.request (further_behind terms events all flows (used.client + size)))) on_it.1 in
        subst P (sym (takes_request_body whole value goes.0)) led goes

    whole_led : (flow : Flow) (head : ReadRequest) (body : Body) (trailers : List (List ℕ × List ℕ)) (size : ℕ) →
        request_in seen ≡ complete head body trailers size → Begun terms events all flows at flow.request opened used come sent left →
        Leads flows (turn_body terms.place there flow (complete head body trailers size) seen answer) opened (behind_body flow) come sent so_far
        (ask_of (with_body flow body.content trailers seen.now) RequestBody) waits rest value replies
    whole_led flow head body trailers size is b =
        let P : Item ReadRequest → Type 0 = λ i.
        Leads flows (turn_body terms.place there flow (complete head body trailers size) seen answer) opened (behind_item i) come sent so_far
        (ask_of (with_body flow body.content trailers seen.now) RequestBody) waits rest value replies in
        subst P (sym is) (whole_there flow head body trailers size is b)

    pub body_led : (flow : Flow) (item : Item ReadRequest) → request_in seen ≡ item → Begun terms events all flows at flow.request opened used come sent left →
        or_leaves seen.closed leaving (look_body flow item seen.now parked seen.closed) ≡ Asks ask →
        Leads flows (turn_body terms.place there flow item seen answer) opened (behind_body flow) come sent so_far ask waits rest value replies
    body_led flow missing is b asks = absurd (asks_nothing seen.closed leaving ask asks)
    body_led flow (part head body) is b asks = absurd (asks_nothing seen.closed leaving ask asks)
    body_led flow (complete head body trailers size) is b asks =
        let P : Command → Type 0 = λ c.
        Leads flows (turn_body terms.place there flow (complete head body trailers size) seen answer) opened (behind_body flow) come sent so_far c waits rest value replies in
        subst P (asks_same _ ask asks) (whole_led flow head body trailers size is b)
    body_led flow (bad_head fault) is b asks = absurd (asks_nothing seen.closed leaving ask asks)
    body_led flow (bad_body fault head body) is b asks = absurd (ends_ask _ ask asks)

    -- ---- the connection

    -- what the answer of a dial brings, behind the close of the parked side
    abbrev dial_turned : Flow → Reply → Turn Stage Command
    dial_turned flow answered = behind_these (shut_server parked) (turn_dial terms.place there flow all_sent (record { moment = moment; value = answered }) seen.closed)

    -- of the new side no byte was used
    abbrev behind_dial : Stage → UsedBytes
    behind_dial stage = record { client = used.client; server = 0 }

    answered_led : (flow : Flow) (answered : Reply) → Connecting terms events all flows at flow.request opened used come sent (answered ∷ replies) →
        Leads flows (dial_turned flow answered) come behind_dial come sent so_far (commands.Dial at.dials (dialled_for terms.place flow.request) None) waits rest answered replies
    answered_led flow reply.Dialled c goes =
        let dial = commands.Dial at.dials (dialled_for terms.place flow.request) None in
        let text = onward_text (form_at terms.place) flow.request in
        let send = commands.Send (Server at.dials) text in
        let owed = shut_server parked ++ send ∷ [] in
        let sends = says_sent (shut_server parked) (Server at.dials) text (says_server parked) in
        goes_on flows
        (record {
          went = come;
          onward = record {
            within = omega arith;
            waits = λ k low high. absurd (omega arith);
          };
          from = c.from;
          rest = goes_further all sent (so_far ++ dial ∷ owed) (dial ∷ send ∷ []) _ _ c.rest (quiet_said so_far (dial ∷ owed) quiet ∙ ap (λ l. dial ∷ l) sends.is) refl;
        })
        (sends.keeps flows rest) (goes_behind owed (send ∷ []) sends waits flows rest replies goes.1)
    answered_led flow (reply.Refused fault) c goes =
        let texts = fault_said fault (is_head flow.request.method) in
        let ends = says_last_behind (shut_server parked) (ends_by_fault flow fault moment NoServer seen.closed) texts (says_server parked)
        (says_fault flow fault moment NoServer seen.closed) in
        let dial = commands.Dial at.dials (dialled_for terms.place flow.request) None in
        let owed = shut_server parked ++ ends_by_fault flow fault moment NoServer seen.closed in
        let on : all ≡ said (sent ++ (so_far ++ dial ∷ owed)) ++ [] =
        goes_further all sent (so_far ++ dial ∷ owed) (dial ∷ texts) _ [] c.rest (quiet_said so_far (dial ∷ owed) quiet ∙ ap (λ l. dial ∷ l) ends.is) refl in
        let is_all = on ∙ append-nil _ in
        ending_led flows (dial_turned flow (reply.Refused fault)) come behind_dial come sent so_far dial waits rest replies texts refl ends
        (λ none. is_all) (λ more is. record { is_all = is_all }) goes.1
    answered_led flow (reply.Go given streamed) c goes = absurd goes.0
    answered_led flow (reply.Respond response) c goes = absurd goes.0
    answered_led flow reply.Kill c goes = absurd goes.0
    answered_led flow reply.Discard c goes = absurd goes.0

    pub dial_led : (flow : Flow) → Connecting terms events all flows at flow.request opened used come sent left →
        or_leaves seen.closed leaving (Asks (commands.Dial at.dials (dialled_for terms.place flow.request) None)) ≡ Asks ask →
        Leads flows (dial_turned flow value) come behind_dial come sent so_far ask waits rest value replies
    dial_led flow c asks =
        let P : Command → Type 0 = λ d. Leads flows (dial_turned flow value) come behind_dial come sent so_far d waits rest value replies in
        subst P (asks_same _ ask asks) (answered_led flow value c)
