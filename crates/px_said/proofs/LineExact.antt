-- Where a conversation stands whose replies go on over any size: in each view, what is due there begins what is left of all that is said, or is it.
use Rattle.std.proofs.Common.{◌≡◌, ℕ, suc, ◌+◌, Bool, true, false, List, [], ◌∷◌, ◌++◌, length, drop, Option, Some, None, refl, ap, sym, ◌∙◌, subst, append_assoc, inl, inr}
use Rattle.std.specs.Prelude.{◌&&◌, ◌||◌, if◌then◌else◌, not, is_some, take}
use Rattle.std.proofs.lemmas.List.{append-nil}
use Rattle.px_text.specs.Prefix.{IsPrefixOf}
use Rattle.px_message.specs.declared.fault.Fault.{Fault}
use Rattle.px_message.specs.declared.fault.Fault.TheVariants.{BadResponse}
use Rattle.px_message.specs.declared.flow.Flow.{Flow}
use Rattle.px_message.specs.declared.request.Request.{Request}
use Rattle.px_message.specs.declared.response.Response.{Response}
use Rattle.px_event.specs.declared.ask.Hook.TheVariants.{ResponseHead}
use Rattle.px_event.specs.declared.command.Command.{Command}
use Rattle.px_event.specs.declared.command.Command.TheVariants as commands
use Rattle.px_event.specs.declared.event.Event.{Event}
use Rattle.px_event.specs.declared.reply.Reply.{Reply}
use Rattle.px_event.specs.declared.side.Side.TheVariants.{Client}
use Rattle.px_event.specs.Chain.{Timed, Look, Asks, Ends}
use Rattle.px_event.specs.View.{View, seen_of}
use Rattle.px_read.specs.Items.{Answers, Item, missing, part, complete, bad_head, bad_body, request_item}
use Rattle.px_read.specs.Laws.{head_in, is_begun, is_decided}
use Rattle.px_read.specs.declared.head.RequestHead.{RequestHead as ReadRequest}
use Rattle.px_read.specs.declared.head.ResponseHead.{ResponseHead as ReadResponse}
use Rattle.px_write.specs.Error.{fault_message}
use Rattle.px_exchange.specs.declared.terms.Terms.{Terms}
use Rattle.px_exchange.specs.Endings.{closed_message, ends_by_fault, ends_early, without_response}
use Rattle.px_exchange.specs.Finds.{is_relayed, look_answer, look_head, look_returned}
use Rattle.px_exchange.specs.Flows.{ask_of, response_of, with_answer}
use Rattle.px_exchange.specs.Places.{dialled_for}
use Rattle.px_exchange.specs.Requests.{is_head}
use Rattle.px_exchange.specs.Texts.{interim_commands}
use Rattle.px_chain.specs.Chain.{bad_or, finds, leaves, leaving, look, look_coming, look_up, so_far}
use Rattle.px_chain.specs.Coming.{came_by, came_in, coming_text, streams_by, streams_in}
use Rattle.px_chain.specs.Going.{goes_up, sends_up}
use Rattle.px_chain.specs.Keeping.{unspoilt_at}
use Rattle.px_chain.specs.Sights.{Sight, UsedBytes, answers_in, request_in, server_in, server_parked, sight_of}
use Rattle.px_chain.specs.Stages.{At, Sent, Stage, all_sent, busy, coming_down, connection, going_up, idle, request_body, response_body, response_head, side_parked}
use Rattle.px_chain.specs.Streams.{Since}
use Rattle.px_chain.proofs.ChainLaws.{IsUnseen, commands_append, interim_unseen, left_prefix, up_grows}
use Rattle.px_chain.proofs.ComingLaws.{in_two}
use Rattle.px_said.specs.ClosedForm.{Told, fault_said, is_whole, said, said_final, said_headed, said_relayed, said_returned}
use Rattle.px_parts.specs.Streamed.{response_streams}
use Rattle.px_parts.specs.Texts.{final_bytes}
use Rattle.px_text.specs.Least.{least}
use Rattle.px_said.specs.Lines.{Exchange, Start, client_bytes, comes_down, ends_over, fault_by, fault_in, fault_up, goes_on_at, goes_on_over, goes_up_over, is_ended, is_fault, next_allows, once_whole, said_down, said_request, said_response, said_start, said_way, sent_from, text_down, unless_fault}
use Rattle.px_said.proofs.ClosedFronts.{IsFront, IsSame, Waits, front_length, least_at, same_taken}
use Rattle.px_said.proofs.ClosedItems.{items_split}
use Rattle.px_said.proofs.ClosedQuiet.{early_said, says_fault, says_server, says_waiting}
use Rattle.px_said.proofs.ParkedFronts.{least_behind}
use Rattle.px_said.proofs.LineFronts.{answers_on, front_until, same_ended, same_more, same_until, text_grows, told_on}
use Rattle.px_said.proofs.LineLooks.{Here, Tells, body_tells, head_tells, here_of}
use Rattle.px_said.proofs.LineQuiet.{Rest, rest_is, seen_front, sends_said, waits_sends}
use Rattle.px_said.proofs.LinePasses.{Sees, text_seen}
use Rattle.px_said.proofs.LineReturns.{text_longer, ups_seen}
use Rattle.px_said.proofs.LineSeen.{carried, ended_here, same_client, same_down, same_goes_on, same_goes_up, same_text}
use Rattle.px_said.proofs.LineStages.{Answering, Begun, Between, Coming, Connecting, Down, Onward, Returning, after_kept, after_streamed, answers_left, coming_left, down_of, down_over, ended_by, exchange_of, further_after, heard_by, response_left, start_of, text_of, up_left, up_of}

-- ---- what grows

pub grows_up : (how : Sent) (side up : ℕ) (now heard : List ℕ) (client more : List Command) → IsPrefixOf now heard → IsUnseen client →
    ((view : View) → IsPrefixOf (seen_of view client) (seen_of view more)) → (view : View) → IsPrefixOf (seen_of view (up_left how side up now ++ client)) (seen_of view (up_left how side up heard ++ more))
grows_up all_sent side up now heard client more longer unseen on view = on view
grows_up going_up side up now heard client more longer unseen on view = up_grows view side _ _ client more (left_prefix up now heard longer) unseen (on view)

text_begins : (text later : List ℕ) (more : List Command) → IsPrefixOf text later → (view : View) →
    IsPrefixOf (seen_of view (commands.Send Client text ∷ [])) (seen_of view (commands.Send Client later ∷ more))
text_begins text later more (rest, is) view =
    (seen_of view (commands.Send Client rest ∷ more), ap (λ t. seen_of view (commands.Send Client t ∷ more)) is ∙ in_two view text rest more)

-- ---- what a stage that does not pass shows

or_both : (a b : Bool) → a ≡ false → b ≡ false → (a || b) ≡ false
or_both true b first second = first
or_both false b first second = second

false_right : (a b : Bool) → b ≡ false → (a && b) ≡ false
false_right true b is = is
false_right false b is = refl

or_true : (a : Bool) → (a || true) ≡ true
or_true true = refl
or_true false = refl

-- what is found where a request goes up that is at fault, or is not
pub up_tells : (over_all : Type 0) (how : Sent) (side : ℕ) (since : Since) (opened : ℕ) (used : UsedBytes) (up : ℕ) (prefix : List (Timed Event)) (texts left : List Command) (ends : Fault → List Command)
    (found : Look Command) → (fault_by (up_of how used.client) prefix ≡ None → Tells over_all texts found left) →
    ((fault : Fault) → fault_by (up_of how used.client) prefix ≡ Some fault → Tells over_all texts (Ends (ends fault)) left) →
    Tells over_all texts (look_up how (sight_of (Some side) since opened used up prefix) ends found) left
up_tells over_all all_sent side since opened used up prefix texts left ends found good bad = good refl
up_tells over_all going_up side since opened used up prefix texts left ends found good bad = by_item (request_item (client_bytes prefix used.client)) refl
  where
    by_item : (item : Item ReadRequest) → request_item (client_bytes prefix used.client) ≡ item → Tells over_all texts (bad_or item ends found) left
    by_item missing is = good (ap fault_in is)
    by_item (part head body) is = good (ap fault_in is)
    by_item (complete head body trailers size) is = good (ap fault_in is)
    by_item (bad_head fault) is = good (ap fault_in is)
    by_item (bad_body fault head body) is = bad fault (ap fault_in is)

module _ (terms : Terms) (events : List (Timed Event)) (all : List Command) where
  -- what is left of all that is said, and what is due there
  pub record Stood (stage : Stage) (seen : Sight) (sent : List Command) (prefix : List (Timed Event)) : Type 0 where
    pub left : List Command
    pub is : Rest all sent left
    pub here : Here (IsSame prefix events) seen.closed (look terms stage seen) (so_far terms stage seen) left

  module _ (flows : ℕ) (prefix : List (Timed Event)) (front : IsFront prefix events) (sent : List Command) (replies : List Reply) (since : Since) (opened : ℕ) (used : UsedBytes) (up : ℕ) where
    abbrev parked_seen : At → Sight
    parked_seen at = sight_of (side_parked at.parked) since opened used up prefix

    abbrev bytes : List ℕ
    bytes = client_bytes events used.client

    -- the request over all events, where those of the prefix are all
    request_same : IsSame prefix events → request_item bytes ≡ request_item (client_bytes prefix used.client)
    request_same same = ap (λ (l : List ℕ). request_item l) (sym (same_client prefix events same used.client))

    pub idle_stood : (at : At) → Between terms events all flows at opened used prefix sent replies → Stood (idle at) (parked_seen at) sent prefix
    idle_stood at b =
        let seen = parked_seen at in
        let there = unspoilt_at at seen in
        let parked = server_parked there.parked seen in
        let start = start_of at b.waiting used.client b.from replies in
        let further = further_after terms events all flows used.client in
        record {
          left = said_start terms events start (head_in (request_item bytes)) (request_item bytes) further;
          is = rest_is all sent _ _ b.rest (ap (λ l. sent_from terms events start (take (suc flows) l)) (items_split bytes));
          here = here_of (IsSame prefix events) seen.closed (leaving (idle there) seen) (look_head terms at.flow (request_in seen) seen.now parked seen.closed) (so_far terms (idle at) seen) [] _
              (says_waiting (idle at) seen).is
              (says_server parked).is
              (head_tells (IsSame prefix events) terms events start further at.flow (request_in seen) (request_item bytes) seen.now parked seen.closed
              (carried used.client prefix events front) request_same);
        }

    -- a request that is neither whole nor at fault says nothing more
    none_said : (item : Item ReadRequest) → fault_in item ≡ None → is_whole item ≡ false → (start : Start) (asked : Request) (come : ℕ) (further : Start → List Command) →
        said_way false terms events start asked item come further ≡ []
    none_said missing good unfinished start asked come further = refl
    none_said (part head body) good unfinished start asked come further = refl
    none_said (complete head body trailers size) good unfinished start asked come further = absurd (let no : true ≡ false = unfinished in cc)
    none_said (bad_head fault) good unfinished start asked come further = refl
    none_said (bad_body fault head body) good unfinished start asked come further = absurd (let no : Some fault ≡ None = good in cc)

    pub body_stood : (at : At) (flow : Flow) (most : Option ℕ) → goes_up most (parked_seen at) ≡ false →
        Begun terms events all flows at flow.request most opened used up prefix sent replies → Stood (busy at flow (request_body None most)) (parked_seen at) sent prefix
    body_stood at flow most kept b =
        let seen = parked_seen at in
        let there = unspoilt_at at seen in
        let parked = server_parked there.parked seen in
        let start = start_of at b.waiting used.client b.from replies in
        let F = further_after terms events all flows used.client in
        let item = request_item (client_bytes prefix used.client) in
        let not_up : goes_up_over start most prefix ≡ false = kept in
        let left : List Command = said_request terms events start flow.request most (request_item bytes) (goes_on_at events start most) F in
        record {
          left = left;
          is = b.rest;
          here = here_of (IsSame prefix events) seen.closed (leaves there flow (request_body None most) seen) (finds terms.place there flow (request_body None most) seen)
              (so_far terms (busy at flow (request_body None most)) seen) [] left (says_waiting (busy at flow (request_body None most)) seen).is
              (early_said flow closed_message seen.now parked true)
              (body_tells (IsSame prefix events) flow (request_in seen) left seen.now parked seen.closed
              (λ fault head body is.
              let come = length prefix in
              let alike = same_taken prefix events front in
              let taken = take come events in
              let test : goes_on_over start most taken ≡ true =
              sym (same_goes_on prefix taken alike start most) ∙ ap (λ (i : Item ReadRequest). is_decided i || goes_up_over start most prefix) is in
              let found : goes_on_at events start most ≡ Some come =
              least_at (λ k. goes_on_over start most (take k events)) b.from come (length events) b.within (front_length prefix events front) b.waits test in
              let way : goes_up_over start most taken ≡ false = sym (same_goes_up prefix taken alike start most) ∙ not_up in
              let all_is : request_item bytes ≡ bad_body fault head body = (carried used.client prefix events front).stays (ap is_decided is) ∙ is in
              ap (λ o. said_request terms events start flow.request most (request_item bytes) o F) found
              ∙ (ap (λ w. said_way w terms events start flow.request (request_item bytes) come F) way
              ∙ ap (λ i. said_way false terms events start flow.request i come F) all_is))
              (λ same good unfinished.
              let all_is = request_same same in
              never_said start flow.request most F b.from b.waits same not_up (ap fault_in all_is ∙ good) (ap is_whole all_is ∙ unfinished) (goes_on_at events start most) refl));
        }
      where
        never_said : (start : Start) (asked : Request) (most : Option ℕ) (F : Start → List Command) (from : ℕ) → Waits (λ k. goes_on_over start most (take k events)) from (length prefix) →
            IsSame prefix events → goes_up_over start most prefix ≡ false → fault_in (request_item bytes) ≡ None → is_whole (request_item bytes) ≡ false → (found : Option ℕ) →
            least (λ k. goes_on_over start most (take k events)) from (length events + 1) ≡ found → said_request terms events start asked most (request_item bytes) found F ≡ []
        never_said start asked most F from waits same not_up good unfinished None is = refl
        never_said start asked most F from waits same not_up good unfinished (Some k) is =
            let later = least_behind (λ k. goes_on_over start most (take k events)) from (length prefix) (length events + 1) k waits is in
            let alike = same_more k prefix events same later in
            ap (λ w. said_way w terms events start asked (request_item bytes) k F) (sym (same_goes_up prefix (take k events) alike start most) ∙ not_up)
            ∙ none_said (request_item bytes) good unfinished start asked k F

    pub connecting_stood : (how : Sent) (at : At) (flow : Flow) → Connecting terms events all flows how at flow.request used up prefix sent replies →
        Stood (busy at flow (connection how)) (parked_seen at) sent prefix
    connecting_stood how at flow c =
        let seen = parked_seen at in
        record {
          left = _;
          is = c.rest;
          here = here_of (IsSame prefix events) seen.closed [] (finds terms.place at flow (connection how) seen) (so_far terms (busy at flow (connection how)) seen) [] _
              (says_waiting (busy at flow (connection how)) seen).is refl (seen_front (commands.Dial at.dials (dialled_for terms.place flow.request) None ∷ []) _ (_, refl), λ goes. goes);
        }

    -- ---- behind a request that went to its server

    module _ (at : At) (flow : Flow) (side : ℕ) (how : Sent) where
      abbrev seen : Sight
      seen = sight_of (Some side) since opened used up prefix

      abbrev found_answers : Answers
      found_answers = answers_in flow.request seen

      abbrev first : List Command
      first = sends_up terms.place flow side how seen

      abbrev interim : List Command
      interim = interim_commands flow.request found_answers.interim

      module _ (went : ℕ) (onward : Onward terms events all flows how flow.request side opened used went prefix) where
        abbrev exchange : Exchange
        exchange = exchange_of how flow.request side opened used went

        abbrev heard : List (Timed Event)
        heard = heard_by terms events all flows how flow.request side opened used went

        front_heard : IsFront prefix heard
        front_heard = front_until (λ k. ends_over exchange (take k events)) went prefix events onward.waits front

        -- all that is heard is what was seen
        same_all : IsSame prefix events → IsSame prefix heard
        same_all same = same_until (λ k. ends_over exchange (take k events)) went prefix events onward.waits same

        same_end : ends_over exchange prefix ≡ true → IsSame prefix heard
        same_end ends =
            same_ended (λ k. ends_over exchange (take k events)) went prefix events onward.waits front
            (ended_here terms events all flows how flow.request side opened used went prefix front onward ends)

        abbrev down : Down
        down = down_of terms events all flows how flow.request side opened used went

        -- over the prefix
        abbrev now_down : Down
        now_down = down_over terms events all flows how flow.request side opened used went (ended_by terms events all flows how flow.request side opened used went) prefix

        down_now : IsSame prefix heard → down ≡ now_down
        down_now same = sym (same_down prefix heard same terms events all flows how flow.request side opened used went (ended_by terms events all flows how flow.request side opened used went))

        text_now : IsSame prefix heard → up_left how side up (text_of terms events all flows how flow.request side opened used went) ≡ first
        text_now same =
            ap (λ t. up_left how side up t) (sym (same_text prefix heard same terms exchange)) ∙ sym (ups_seen terms events all flows how flow side opened used up went since prefix)

        -- what is said of the request begins what is left
        begins_up : (client more : List Command) → IsUnseen client → ((view : View) → IsPrefixOf (seen_of view client) (seen_of view more)) → (view : View) →
            IsPrefixOf (seen_of view (first ++ client)) (seen_of view (up_left how side up (text_of terms events all flows how flow.request side opened used went) ++ more))
        begins_up client more unseen on view =
            let P : List Command → Type 0 = λ l.
            IsPrefixOf (seen_of view (l ++ client)) (seen_of view (up_left how side up (text_of terms events all flows how flow.request side opened used went) ++ more)) in
            subst P (sym (ups_seen terms events all flows how flow side opened used up went since prefix))
            (grows_up how side up _ _ client more (text_longer terms events all flows how flow side opened used went prefix heard front_heard) unseen on view)

        ends_by_response : (item : Item ReadResponse) → found_answers.final ≡ item → is_ended item ≡ true → ends_over exchange prefix ≡ true
        ends_by_response item is ended = ap (λ i. is_fault (fault_up exchange prefix) || is_ended i) is ∙ (ap (λ b. is_fault (fault_up exchange prefix) || b) ended ∙ or_true (is_fault (fault_up exchange prefix)))

        ends_by_request : (fault : Fault) → fault_up exchange prefix ≡ Some fault → ends_over exchange prefix ≡ true
        ends_by_request fault is = ap (λ f. is_fault f || is_ended found_answers.final) is

        -- what is said of the response over the prefix
        response_now : (most : Option ℕ) (streamed : ReadResponse → List Command) (kept : Response → List Command) (item : Item ReadResponse) (fault : Option Fault) →
            found_answers.final ≡ item → fault_up exchange prefix ≡ fault →
            said_response most flow.request now_down.told now_down.fault streamed kept
            ≡ said_down (comes_down most (is_head flow.request.method) now_down.told (head_in item)) flow.request now_down.told item fault streamed kept
        response_now most streamed kept item fault is faulty =
            ap (λ i. said_down (comes_down most (is_head flow.request.method) now_down.told (head_in i)) flow.request now_down.told i now_down.fault streamed kept) is
            ∙ ap (λ f. said_down (comes_down most (is_head flow.request.method) now_down.told (head_in item)) flow.request now_down.told item f streamed kept) faulty

        -- the closes of an end say nothing
        fault_says : (fault : Fault) (owed : List Command) → owed ≡ ends_by_fault flow fault seen.now (server_in side seen) seen.closed → said owed ≡ fault_said fault (is_head flow.request.method)
        fault_says fault owed is = ap said is ∙ (says_fault flow fault seen.now (server_in side seen) seen.closed).is

      -- its final response is awaited

      module _ (s : Answering terms events all flows how at flow.request side opened used up prefix sent replies) where
        abbrev answers_for : Down → List Command
        answers_for d = answers_left terms d at flow.request replies

        abbrev left_there : List Command
        left_there = up_left how side up (text_of terms events all flows how flow.request side opened used s.went) ++ answers_for (down s.went s.onward)

        abbrev texts : List Command
        texts = first ++ interim

        abbrev said_there : List Command
        said_there = response_left terms (now_down s.went s.onward) at flow.request (drop 1 replies) (next_allows terms replies)

        all_there : (more : List Command) → IsSame prefix (heard s.went s.onward) → said_there ≡ more → left_there ≡ texts ++ more
        all_there more same is =
            ap (λ l. l ++ answers_for (down s.went s.onward)) (text_now s.went s.onward same)
            ∙ (ap (λ d. first ++ answers_for d) (down_now s.went s.onward same)
            ∙ (ap (λ l. first ++ (interim ++ l)) is ∙ sym (append_assoc first interim more)))

        begins_there : (view : View) → IsPrefixOf (seen_of view texts) (seen_of view left_there)
        begins_there view =
            let carry = answers_on flow.request side opened used.server prefix (heard s.went s.onward) (front_heard s.went s.onward) in
            let longer = carry.interim in
            let more = interim_commands flow.request longer.0 in
            let d = down s.went s.onward in
            let tail : List Command = response_left terms d at flow.request (drop 1 replies) (next_allows terms replies) in
            let split : answers_for d ≡ interim ++ (more ++ tail) =
            ap (λ l. interim_commands flow.request l ++ tail) longer.1
            ∙ (ap (λ l. l ++ tail) (commands_append flow.request found_answers.interim longer.0) ∙ append_assoc interim more tail) in
            begins_up s.went s.onward interim (answers_for d) (interim_unseen flow.request.version flow.request found_answers.interim refl)
            (seen_front interim (answers_for d) (more ++ tail, split)) view

        ended_unrelayed : (item : Item ReadResponse) (head : ReadResponse) → head_in item ≡ Some head → is_relayed head.code ≡ false → is_ended item ≡ true
        ended_unrelayed missing head is unrelayed = absurd (let no : None ≡ Some head = is in cc)
        ended_unrelayed (part other body) head is unrelayed = let same : other ≡ head = cc in ap (λ (h : ReadResponse). not (is_relayed h.code)) same ∙ ap not unrelayed
        ended_unrelayed (complete other body trailers size) head is unrelayed = refl
        ended_unrelayed (bad_head fault) head is unrelayed = refl
        ended_unrelayed (bad_body fault other body) head is unrelayed = refl

        module _ (good : fault_up (exchange s.went s.onward) prefix ≡ None) where
          headed_tells : (relays : Bool) (item : Item ReadResponse) (head : ReadResponse) → is_relayed head.code ≡ relays → found_answers.final ≡ item → head_in item ≡ Some head →
              Tells (IsSame prefix events) texts
              (if not relays then Ends (ends_by_fault flow BadResponse seen.now (server_in side seen) seen.closed) else Asks (ask_of (with_answer flow (response_of head) seen.now) ResponseHead)) left_there
          headed_tells true item head relays is there = (
            λ view. (let P : List Command → Type 0 = λ l. IsPrefixOf (seen_of view l) (seen_of view left_there) in subst P (sym (append-nil texts)) (begins_there view)),
            λ goes. goes,
          )
          headed_tells false item head relays is there =
              let ends = ends_by_response s.went s.onward item is (ended_unrelayed item head there relays) in
              let d = now_down s.went s.onward in
              let most = next_allows terms replies in
              let asked_head = is_head flow.request.method in
              let streamed = after_streamed terms d at flow.request (drop 1 replies) in
              let kept = after_kept terms d at flow.request (drop 1 replies) in
              let so : said_there ≡ fault_said BadResponse asked_head =
              response_now s.went s.onward most streamed kept item None is good
              ∙ (ap (λ o. said_down (comes_down most asked_head d.told o) flow.request d.told item None streamed kept) there
              ∙ (ap (λ b. said_down (b && comes_of d.told head most) flow.request d.told item None streamed kept) relays
              ∙ (ap (λ o. said_headed flow.request o item kept) there ∙ ap (λ b. said_relayed b flow.request (said_returned flow.request item kept)) relays))) in
              λ view. ap (seen_of view) (ap (λ l. texts ++ l) (fault_says s.went s.onward BadResponse _ refl) ∙ sym (all_there (fault_said BadResponse asked_head) (same_end s.went s.onward ends) so))
            where
              comes_of : Told → ReadResponse → Option ℕ → Bool
              comes_of told head most = response_streams head.code (is_head flow.request.method) told.shut most (final_bytes (is_head flow.request.method) told.shut told.bytes)

          answer_tells : (item : Item ReadResponse) → found_answers.final ≡ item → Tells (IsSame prefix events) texts (look_answer flow item seen.now (server_in side seen) seen.closed) left_there
          answer_tells missing is = (
            begins_there,
            λ same view. ap (seen_of view)
                (sym (all_there [] (same_all s.went s.onward same) (response_now s.went s.onward (next_allows terms replies) _ _ missing None is good) ∙ append-nil texts)),
          )
          answer_tells (part head body) is = headed_tells (is_relayed head.code) (part head body) head refl is refl
          answer_tells (complete head body trailers size) is = headed_tells (is_relayed head.code) (complete head body trailers size) head refl is refl
          answer_tells (bad_head fault) is =
              let so : said_there ≡ fault_said fault (is_head flow.request.method) = response_now s.went s.onward (next_allows terms replies) _ _ (bad_head fault) None is good in
              λ view. ap (seen_of view)
              (ap (λ l. texts ++ l) (fault_says s.went s.onward fault _ refl) ∙ sym (all_there (fault_said fault (is_head flow.request.method)) (same_end s.went s.onward (ends_by_response s.went s.onward (bad_head fault) is refl)) so))
          answer_tells (bad_body fault head body) is = headed_tells (is_relayed head.code) (bad_body fault head body) head refl is refl

        -- a fault of the request comes before all of it
        fault_tells : (fault : Fault) → fault_up (exchange s.went s.onward) prefix ≡ Some fault →
            Tells (IsSame prefix events) texts (Ends (ends_by_fault flow fault seen.now (server_in side seen) seen.closed)) left_there
        fault_tells fault is =
            let none : found_answers.final ≡ missing = elim s.calm [ inl good ↦ absurd (let no : None ≡ Some fault = sym good ∙ is in cc) | inr none ↦ none ] in
            let so : said_there ≡ fault_said fault (is_head flow.request.method) = response_now s.went s.onward (next_allows terms replies) _ _ missing (Some fault) none is in
            λ view. ap (seen_of view)
            (ap (λ l. texts ++ l) (fault_says s.went s.onward fault _ refl) ∙ sym (all_there (fault_said fault (is_head flow.request.method)) (same_end s.went s.onward (ends_by_request s.went s.onward fault is)) so))

      pub answering_stood : Answering terms events all flows how at flow.request side opened used up prefix sent replies → Stood (busy at flow (response_head side how)) seen sent prefix
      answering_stood s = record {
        left = left_there s;
        is = s.rest;
        here = here_of (IsSame prefix events) seen.closed (leaves at flow (response_head side how) seen) (finds terms.place at flow (response_head side how) seen) (texts s) (texts s) (left_there s)
            (sends_said (texts s) (waits_sends terms (busy at flow (response_head side how)) seen))
            (early_said flow closed_message seen.now (server_in side seen) true)
            (up_tells (IsSame prefix events) how side since opened used up prefix (texts s) (left_there s)
            (λ fault. ends_by_fault flow fault seen.now (server_in side seen) seen.closed) (look_answer flow found_answers.final seen.now (server_in side seen) seen.closed)
            (λ good. answer_tells s good found_answers.final refl) (λ fault bad. fault_tells s fault bad));
      }

      -- ---- and that response's body, which is kept

      module _ (most : Option ℕ) (kept : streams_in flow most seen ≡ false) (s : Returning terms events all flows how at flow most side opened used up prefix sent replies) where
        abbrev returned_for : Down → List Command
        returned_for d = response_left terms d at flow.request replies most

        abbrev returned_left : List Command
        returned_left = up_left how side up (text_of terms events all flows how flow.request side opened used s.went) ++ returned_for (down s.went s.onward)

        abbrev kept_behind : Response → List Command
        kept_behind = after_kept terms (now_down s.went s.onward) at flow.request replies

        returned_now : (more : List Command) → IsSame prefix (heard s.went s.onward) → returned_for (now_down s.went s.onward) ≡ more → returned_left ≡ first ++ more
        returned_now more same is =
            ap (λ l. l ++ returned_for (down s.went s.onward)) (text_now s.went s.onward same)
            ∙ (ap (λ d. first ++ returned_for d) (down_now s.went s.onward same) ∙ ap (λ l. first ++ l) is)

        -- it is not streamed
        kept_now : (item : Item ReadResponse) (fault : Option Fault) → found_answers.final ≡ item → fault_up (exchange s.went s.onward) prefix ≡ fault →
            returned_for (now_down s.went s.onward) ≡ unless_fault fault (is_head flow.request.method) (said_final flow.request item kept_behind)
        kept_now item fault is faulty =
            let d = now_down s.went s.onward in
            let asked_head = is_head flow.request.method in
            let streamed = after_streamed terms d at flow.request replies in
            let there : head_in item ≡ Some s.head = ap head_in (sym is) ∙ s.there in
            let not_streamed : streams_by (Some (response_of s.head)) flow.request most d.told.shut d.told.bytes ≡ false =
            sym (ap (λ o. streams_by o flow.request most d.told.shut d.told.bytes) s.response) ∙ kept in
            response_now s.went s.onward most streamed kept_behind item fault is faulty
            ∙ (ap (λ o. said_down (comes_down most asked_head d.told o) flow.request d.told item fault streamed kept_behind) there
            ∙ ap (λ b. said_down b flow.request d.told item fault streamed kept_behind) (false_right (is_relayed s.head.code) _ not_streamed))

        -- its head is relayed
        final_now : (item : Item ReadResponse) → found_answers.final ≡ item → said_final flow.request item kept_behind ≡ said_returned flow.request item kept_behind
        final_now item is =
            ap (λ o. said_headed flow.request o item kept_behind) (ap head_in (sym is) ∙ s.there)
            ∙ ap (λ b. said_relayed b flow.request (said_returned flow.request item kept_behind)) s.relayed

        begins_returned : (view : View) → IsPrefixOf (seen_of view (first ++ [])) (seen_of view returned_left)
        begins_returned view = begins_up s.went s.onward [] (returned_for (down s.went s.onward)) (λ server. refl) (λ view. (_, refl)) view

        returned_begins : (view : View) → IsPrefixOf (seen_of view first) (seen_of view returned_left)
        returned_begins view = let P : List Command → Type 0 = λ l. IsPrefixOf (seen_of view l) (seen_of view returned_left) in subst P (append-nil first) (begins_returned view)

        returned_tells : (good : fault_up (exchange s.went s.onward) prefix ≡ None) → (item : Item ReadResponse) → found_answers.final ≡ item →
            Tells (IsSame prefix events) first (look_returned flow item seen.now (server_in side seen) seen.closed) returned_left
        returned_tells good missing is = absurd (let no : None ≡ Some s.head = ap head_in (sym is) ∙ s.there in cc)
        returned_tells good (part head body) is = (
          returned_begins,
          λ same view. ap (seen_of view)
              (sym (returned_now [] (same_all s.went s.onward same) (kept_now (part head body) None is good ∙ final_now (part head body) is) ∙ append-nil first)),
        )
        returned_tells good (complete head body trailers size) is = (begins_returned, λ goes. goes)
        returned_tells good (bad_head fault) is = absurd (let no : None ≡ Some s.head = ap head_in (sym is) ∙ s.there in cc)
        returned_tells good (bad_body fault head body) is = λ view.
            ap (seen_of view)
            (ap (λ l. first ++ l) (fault_says s.went s.onward fault _ refl)
            ∙ sym (returned_now (fault_said fault (is_head flow.request.method)) (same_end s.went s.onward (ends_by_response s.went s.onward (bad_body fault head body) is refl))
            (kept_now (bad_body fault head body) None is good ∙ final_now (bad_body fault head body) is)))

        fault_returned : (fault : Fault) → fault_up (exchange s.went s.onward) prefix ≡ Some fault →
            Tells (IsSame prefix events) first (Ends (ends_by_fault flow fault seen.now (server_in side seen) seen.closed)) returned_left
        fault_returned fault is = λ view.
            ap (seen_of view)
            (ap (λ l. first ++ l) (fault_says s.went s.onward fault _ refl)
            ∙ sym (returned_now (fault_said fault (is_head flow.request.method)) (same_end s.went s.onward (ends_by_request s.went s.onward fault is)) (kept_now found_answers.final (Some fault) refl is)))

        pub returning_stood : Stood (busy at flow (response_body side how most)) seen sent prefix
        returning_stood = record {
          left = returned_left;
          is = s.rest;
          here = here_of (IsSame prefix events) seen.closed (leaves at flow (response_body side how most) seen) (finds terms.place at flow (response_body side how most) seen) first first returned_left
              (sends_said first (waits_sends terms (busy at flow (response_body side how most)) seen))
              (early_said (without_response flow) closed_message seen.now (server_in side seen) true)
              (up_tells (IsSame prefix events) how side since opened used up prefix first returned_left
              (λ fault. ends_by_fault flow fault seen.now (server_in side seen) seen.closed) (look_returned flow found_answers.final seen.now (server_in side seen) seen.closed)
              (λ good. returned_tells good found_answers.final refl) (λ fault bad. fault_returned fault bad));
        }

      -- ---- or is streamed

      module _ (s : Coming terms events all flows how at flow side opened used up prefix sent replies) (none : came_in flow seen ≡ None)
          (sees : Sees terms events all flows prefix front how at side opened used up sent replies seen flow s.went) where
        abbrev coming_for : Down → List Command
        coming_for d = coming_left terms d at flow.request replies s.head

        abbrev coming_there : List Command
        coming_there = up_left how side up (text_of terms events all flows how flow.request side opened used s.went) ++ coming_for (down s.went s.onward)

        abbrev coming_texts : List Command
        coming_texts = first ++ commands.Send Client (coming_text flow seen) ∷ []

        text_is : coming_text flow seen ≡ text_down flow.request (now_down s.went s.onward).told (Some s.head)
        text_is = text_seen terms events all flows prefix front how at side opened used up sent replies seen flow s sees

        not_whole : (item : Item ReadResponse) → found_answers.final ≡ item → (behind : ReadResponse → List Command) → once_whole item behind ≡ []
        not_whole missing is behind = refl
        not_whole (part head body) is behind = refl
        not_whole (complete head body trailers size) is behind =
            let came : came_in flow seen ≡ Some (record { response = record (response_of s.head) { streamed = true }; head = head }) =
            ap (λ i. came_by flow.response i) is ∙ ap (λ o. came_by o (complete head body trailers size)) s.response in
            absurd (let no : None ≡ Some (record { response = record (response_of s.head) { streamed = true }; head = head }) = sym none ∙ came in cc)
        not_whole (bad_head fault) is behind = refl
        not_whole (bad_body fault head body) is behind = refl

        coming_now : IsSame prefix (heard s.went s.onward) → coming_there ≡ coming_texts
        coming_now same =
            ap (λ l. l ++ coming_for (down s.went s.onward)) (text_now s.went s.onward same)
            ∙ (ap (λ d. first ++ coming_for d) (down_now s.went s.onward same)
            ∙ (ap (λ t. first ++ (commands.Send Client t ∷ once_whole found_answers.final (after_streamed terms (now_down s.went s.onward) at flow.request replies))) (sym text_is)
            ∙ ap (λ l. first ++ (commands.Send Client (coming_text flow seen) ∷ l)) (not_whole found_answers.final refl _)))

        coming_begins : (view : View) → IsPrefixOf (seen_of view coming_texts) (seen_of view coming_there)
        coming_begins view =
            let told = (now_down s.went s.onward).told in
            let later = (down s.went s.onward).told in
            let on = told_on side opened used.server prefix (heard s.went s.onward) (front_heard s.went s.onward) in
            let grows : IsPrefixOf (text_down flow.request told (Some s.head)) (text_down flow.request later (Some s.head)) =
            text_grows flow.request told later s.head on (begun_so found_answers.final s.there) in
            let P : List ℕ → Type 0 = λ t. IsPrefixOf t (text_down flow.request later (Some s.head)) in
            begins_up s.went s.onward (commands.Send Client (coming_text flow seen) ∷ []) (coming_for (down s.went s.onward)) (λ server. refl)
            (text_begins (coming_text flow seen) (text_down flow.request later (Some s.head)) _ (subst P (sym text_is) grows)) view
          where
            begun_so : (item : Item ReadResponse) → head_in item ≡ Some s.head → is_begun item ≡ true
            begun_so item is = ap (λ (o : Option ReadResponse). is_some o || is_decided item) is

        -- an end behind it says nothing more
        ends_said : (owed : List Command) → said owed ≡ [] → ends_over (exchange s.went s.onward) prefix ≡ true → Tells (IsSame prefix events) coming_texts (Ends owed) coming_there
        ends_said owed is ends = λ view.
            ap (seen_of view) (ap (λ l. coming_texts ++ l) is ∙ (append-nil coming_texts ∙ sym (coming_now (same_end s.went s.onward ends))))

        coming_tells : (item : Item ReadResponse) → found_answers.final ≡ item → Tells (IsSame prefix events) coming_texts (look_coming flow item seen.now (server_in side seen) seen.closed) coming_there
        coming_tells missing is = (coming_begins, λ same view. ap (seen_of view) (sym (coming_now (same_all s.went s.onward same))))
        coming_tells (part head body) is = (coming_begins, λ same view. ap (seen_of view) (sym (coming_now (same_all s.went s.onward same))))
        coming_tells (complete head body trailers size) is = (coming_begins, λ same view. ap (seen_of view) (sym (coming_now (same_all s.went s.onward same))))
        coming_tells (bad_head fault) is = (coming_begins, λ same view. ap (seen_of view) (sym (coming_now (same_all s.went s.onward same))))
        coming_tells (bad_body fault head body) is =
            ends_said (ends_early flow (fault_message fault) seen.now (server_in side seen) seen.closed) (early_said flow (fault_message fault) seen.now (server_in side seen) seen.closed)
            (ends_by_response s.went s.onward (bad_body fault head body) is refl)

        pub coming_stood : Stood (busy at flow (coming_down side how)) seen sent prefix
        coming_stood = record {
          left = coming_there;
          is = s.rest;
          here = here_of (IsSame prefix events) seen.closed (leaves at flow (coming_down side how) seen) (finds terms.place at flow (coming_down side how) seen) coming_texts coming_texts coming_there
              (sends_said coming_texts (waits_sends terms (busy at flow (coming_down side how)) seen))
              (early_said flow closed_message seen.now (server_in side seen) true)
              (up_tells (IsSame prefix events) how side since opened used up prefix coming_texts coming_there
              (λ fault. ends_early flow (fault_message fault) seen.now (server_in side seen) seen.closed) (look_coming flow found_answers.final seen.now (server_in side seen) seen.closed)
              (λ good. coming_tells found_answers.final refl)
              (λ fault bad. ends_said (ends_early flow (fault_message fault) seen.now (server_in side seen) seen.closed) (early_said flow (fault_message fault) seen.now (server_in side seen) seen.closed)
              (ends_by_request s.went s.onward fault bad)));
        }
