-- One look, whatever is looked for: what is given is what the stage owes that is passed to, and the flow is there.
use Rattle.std.proofs.Common.{◌≡◌, ℕ, ◌+◌, Bool, true, false, List, [], ◌∷◌, ◌++◌, drop, Option, Some, None, refl, ap, sym, ◌∙◌, subst, append_assoc}
use Rattle.std.specs.Prelude.{⊤}
use Rattle.std.proofs.lemmas.List.{drop-drop}
use Rattle.px_message.specs.declared.fault.Fault.{Fault}
use Rattle.px_message.specs.declared.fault.Fault.TheVariants.{BadResponse}
use Rattle.px_message.specs.declared.flow.Flow.{Flow}
use Rattle.px_message.specs.declared.response.Response.{Response}
use Rattle.px_event.specs.declared.ask.Hook.TheVariants.{RequestHead, RequestBody, ResponseHead, ResponseBody}
use Rattle.px_event.specs.declared.command.Command.{Command}
use Rattle.px_event.specs.declared.command.Command.TheVariants as commands
use Rattle.px_event.specs.declared.side.Side.TheVariants.{Client}
use Rattle.px_event.specs.View.{View, seen_of}
use Rattle.px_event.proofs.Seen.{seen_append}
use Rattle.px_event.specs.Chain.{Look, NotYet, Asks, Ends, found, found_with}
use Rattle.px_read.specs.Heads.{is_interim}
use Rattle.px_read.specs.Items.{Body, Item, missing, part, complete, bad_head, bad_body, body_of}
use Rattle.px_read.specs.Laws.{head_in}
use Rattle.px_read.specs.Marks.{Mark, answers}
use Rattle.px_read.specs.Reader.{request, State, Reads}
use Rattle.px_read.specs.declared.head.RequestHead.{RequestHead as ReadRequest}
use Rattle.px_read.specs.declared.head.ResponseHead.{ResponseHead as ReadResponse}
use Rattle.px_exchange.specs.declared.asked.Judged.{Judged}
use Rattle.px_exchange.specs.declared.asked.Judged.TheVariants.{Refused, Accepted, Connects}
use Rattle.px_exchange.specs.declared.body.Progress.{Progress}
use Rattle.px_exchange.specs.declared.body.Progress.TheVariants as progress
use Rattle.px_exchange.specs.declared.ending.Used.{Used}
use Rattle.px_exchange.specs.declared.terms.Terms.{Terms}
use Rattle.px_exchange.specs.Bodies.{HasRead, content_of}
use Rattle.px_write.specs.Error.{fault_message}
use Rattle.px_parts.specs.Texts.{marks_text}
use Rattle.px_exchange.specs.Endings.{closed_message, ends_by_fault, ends_early, read_persists, refuses, shut_server, without_response}
use Rattle.px_exchange.specs.Finds.{is_relayed, look_answer, look_answer_head, look_head, look_judged, look_returned, or_leaves}
use Rattle.px_exchange.specs.Flows.{ask_of, response_of, with_answer, with_body, with_returned}
use Rattle.px_exchange.specs.Places.{dialled_for}
use Rattle.px_exchange.specs.Requests.{expects, flow_of, is_head, is_http11, judged}
use Rattle.px_exchange.specs.Texts.{interim_commands, sends_on}
use Rattle.px_chain.specs.Chain.{Connect, behind, come_down, connect_in, end_by, end_up, given_at, going_at, gone_by, leaving, look, look_coming, pass, pass_came, pass_given, pass_going, pass_kept, past_came, past_gone, past_kept, sight_come, sight_ended, sight_past, waits_at}
use Rattle.px_chain.specs.Keeping.{unspoilt_at}
use Rattle.px_chain.specs.Going.{sends_up, whole_in}
use Rattle.px_chain.specs.Sights.{Sight, answers_in, left_by, request_in, server_in, server_left, server_parked}
use Rattle.px_chain.specs.Stages.{At, Doing, Parked, Stage, busy, coming_down, connection, given_body, given_head, idle, over, request_body, response_body, response_head, upgraded}
use Rattle.px_chain.proofs.ChainLaws.{commands_append}
use Rattle.px_stream.specs.declared.coming.Held.{Held}
use Rattle.px_stream.specs.declared.going.HeldRequest.{HeldRequest}
use Rattle.px_stream.specs.declared.going.Sending.{Sending}
use Rattle.px_stream.specs.declared.link.Link.{Link}
use Rattle.px_stream.specs.declared.phase.Asked.TheVariants as asked
use Rattle.px_stream.specs.declared.phase.Phase.{Phase}
use Rattle.px_stream.specs.declared.phase.Phase.TheVariants as phase
use Rattle.px_stream.specs.declared.phase.Wanted.{Wanted}
use Rattle.px_stream.specs.declared.phase.Wanted.TheVariants as ready
use Rattle.px_stream.specs.declared.reading.FinalHead.{FinalHead}
use Rattle.px_stream.specs.declared.reading.FinalHead.TheVariants as answer
use Rattle.px_chain.specs.Coming.{Came, came_in, coming_text, sends_coming, streaming, streams_in}
use Rattle.px_stream.specs.Comings.{sends_text}
use Rattle.px_stream.specs.Goings.{sends_while, sent_by, sent_of}
use Rattle.px_stream.specs.GoingUp.{HasNoMoreUp, IsGoneFor, IsNotWhole, NoMoreUp}
use Rattle.px_stream.specs.Passes.{HasNoMore, HasNoMoreDown, IsPassed}
use Rattle.px_stream.specs.Looks.{AnswerFound, ComingFound, HeadRead, LookedAt, LookFound, ReturnFound, answer_gives, answer_phase, body_gives, body_phase, coming_gives, coming_phase, head_phase, is_over, judged_phase, relayed_phase, relays, returned_gives, returned_phase, unless_bad, unless_broken, unless_left, unless_over, where_left}
use Rattle.px_stream.specs.Responses.{AnswerCome}
use Rattle.px_stream.specs.Stands.{GoesOnUp, IsBehind, IsQuiet, HasPlace, HasRequest, HasSide, Holds, HoldsUp, ReadsBody, ReadsDown, WaitsUp, SentOn, none_sent, IsLastAt, IsLink, IsOpen, IsReady, Keeps, LinkEnds, LinkKeeps, PhaseAt, ReadsFinal, ReadsReturn, answer_asked, body_asked, head_asked, judged_asked, parked_link, returned_asked, sent_on, stage_of, used_in, whole_persists}
use Rattle.px_stream.proofs.DownLemmas.{DownShown, down_shown, sends_all}
use Rattle.px_stream.proofs.HeadLemmas.{connect_there, connect_whole, gives_at, gives_missing, look_at_head, no_connect, phase_at}
use Rattle.px_stream.proofs.NotedLemmas.{Lasts, come_noted, lasts_noted}
use Rattle.px_stream.proofs.ParkedLemmas.{parked_used}
use Rattle.px_stream.proofs.QuietLemmas.{missing_quiet}
use Rattle.px_stream.proofs.ShownLemmas.{BodyShown, ReturnShown, body_same, body_shown, return_shown, shown_same}
use Rattle.px_stream.proofs.UpLookLemmas.{UpFails, UpJudged, UpStays, beside, body_not, both, down_not, head_not, sent_all, up_judged}

-- ---- from what is found to where the flow is

module _ (terms : Terms) (at : At) (new : State) (later : Option Link) (out longer : List Command) (is_now : Phase) where
  abbrev pub Looked : Stage → Sight → List Command → Type 0
  Looked stage sees before = LookedAt terms at stage sees new later is_now before out longer

  at_seen : (stage : Stage) (seen : Sight) (before more : List Command) (l : Look Command) → look terms stage seen ≡ l → longer ≡ out ++ more →
      ((view : View) → seen_of view (before ++ more) ≡ seen_of view (waits_at terms stage seen ++ found_with (behind stage seen) l)) → PhaseAt l terms at new later is_now stage seen → Looked stage seen before
  at_seen stage seen before more l is grown owes there =
      let P : Look Command → Type 0 = λ k. (view : View) → seen_of view (before ++ more) ≡ seen_of view (waits_at terms stage seen ++ found_with (behind stage seen) k) in
      let Q : Look Command → Type 0 = λ k. PhaseAt k terms at new later is_now stage seen in
      record { more = more; grown = grown; owes = subst P (sym is) owes; phase = subst Q (sym is) there }

  at_look : (stage : Stage) (seen : Sight) (before more : List Command) (l : Look Command) → look terms stage seen ≡ l → longer ≡ out ++ more →
      before ++ more ≡ waits_at terms stage seen ++ found_with (behind stage seen) l → PhaseAt l terms at new later is_now stage seen → Looked stage seen before
  at_look stage seen before more l is grown owes there = at_seen stage seen before more l is grown (λ view. ap (seen_of view) owes) there

  -- ---- a request's head

  module _ (seen : Sight) (parked : later ≡ parked_link at.parked seen) where
    abbrev here : Item ReadRequest
    here = request_in seen

    abbrev used : Used
    used = server_parked (unspoilt_at at seen).parked seen

    -- what was read, where it is known whether a CONNECT is there
    read_as : (connects : Option Connect) → connect_in terms.place here ≡ connects → HeadRead (connect_in terms.place here) here seen.client new → HeadRead connects here seen.client new
    read_as connects is reads = let P : Option Connect → Type 0 = λ c. HeadRead c here seen.client new in subst P is reads

    -- the conversation ends, unless a CONNECT is there
    over_by : connect_in terms.place here ≡ None → IsLastAt at (connect_in terms.place here) seen new later ready.Over
    over_by is = let P : Option Connect → Type 0 = λ c. IsLastAt at c seen new later ready.Over in subst P (sym is) refl

    finds_by : (head : ReadRequest) (made : Judged) → judged terms.place head ≡ made → head_in here ≡ Some head →
        look terms (idle at) seen ≡ or_leaves seen.closed (shut_server used) (look_judged terms at.flow head made seen.now used seen.closed)
    finds_by head made accepts stands =
        ap (or_leaves seen.closed (shut_server used)) (look_at_head terms at.flow here head seen.now used seen.closed stands ∙ ap (λ j. look_judged terms at.flow head j seen.now used seen.closed) accepts)

    judged_by : (head : ReadRequest) (made : Judged) → judged terms.place head ≡ made → head_in here ≡ Some head → HeadRead (connect_in terms.place here) here seen.client new →
        longer ≡ out ++ found (look_judged terms at.flow head made seen.now used seen.closed) → is_now ≡ judged_phase terms at.flow head made seen.now → Looked (idle at) seen []
    judged_by head (Refused fault) accepts stands reads grown there =
        let none : connect_in terms.place here ≡ None = no_connect terms.place here head (Refused fault) stands accepts tt in
        at_look (idle at) seen [] (refuses fault (is_head head.method) used seen.closed) _ (finds_by head (Refused fault) accepts stands) grown refl (ready.Over, there, over_by none)
    judged_by head (Accepted message) accepts stands reads grown there =
        let flow : Flow = flow_of terms at.flow message seen.now in
        let none : connect_in terms.place here ≡ None = no_connect terms.place here head (Accepted message) stands accepts tt in
        at_look (idle at) seen [] (ask_of flow RequestHead ∷ []) _ (finds_by head (Accepted message) accepts stands) grown refl (
          asked.Idle flow (expects head),
          there,
          record {
            asks = ap (λ o. head_asked terms at o seen.now) stands ∙ ap (λ j. judged_asked terms at head j seen.now) accepts;
            how = refl;
            request = read_as None none reads;
            has_side = parked;
          },
        )
    judged_by head (Connects address) accepts stands reads grown there =
        let whole = connect_whole terms.place seen.client head address stands accepts in
        let connects : Connect = record { address = address; used = whole.0 } in
        let found_there : connect_in terms.place here ≡ Some connects = connect_there terms.place here head whole.0 address whole.1 accepts in
        let (rest, open_still, most) = read_as (Some connects) found_there reads in
        let P : Option Connect → Type 0 = λ c. IsLastAt at c seen new later (ready.Connects address) in
        let last : IsLastAt at (Some connects) seen new later (ready.Connects address) = record { phase = refl; keeps = record { rest = rest; open_still = open_still }; parked = parked } in
        at_look (idle at) seen [] [] (Ends []) (finds_by head (Connects address) accepts stands) grown refl (ready.Connects address, there, subst P (sym found_there) last)

    head_by : (head : ReadRequest) → head_in here ≡ Some head → HeadRead (connect_in terms.place here) here seen.client new →
        longer ≡ out ++ found (or_leaves seen.closed (shut_server used) (look_head terms at.flow here seen.now used seen.closed)) →
        is_now ≡ head_phase terms at.flow here seen.now seen.closed → Looked (idle at) seen []
    head_by head stands reads grown there =
        judged_by head (judged terms.place head) refl stands reads
        (grown ∙ ap (λ l. out ++ l) (sym (gives_at terms at.flow here head seen.now used seen.closed stands)))
        (there ∙ sym (phase_at terms at.flow here head seen.now seen.closed stands))

    no_head_by : (shut : Bool) → seen.closed ≡ shut → here ≡ missing → Reads request [] seen.client false new →
        longer ≡ out ++ where_left shut (shut_server used) → is_now ≡ unless_left shut ready.Idle → Looked (idle at) seen []
    no_head_by true shut is reads grown there =
        at_look (idle at) seen [] (shut_server used) (Ends (shut_server used)) (rw (shut, is) refl) grown refl (ready.Over, there, over_by (ap (connect_in terms.place) is))
    no_head_by false shut is reads grown there =
        at_look (idle at) seen [] [] NotYet (rw (shut, is) refl) grown refl (ready.Idle, none_sent, there, record { is_stage = refl; request = reads; has_side = parked }, λ view. refl, missing_quiet seen.client new reads is)

    idle_by : (item : Item ReadRequest) → here ≡ item → HeadRead (connect_in terms.place here) here seen.client new →
        longer ≡ out ++ found (or_leaves seen.closed (shut_server used) (look_head terms at.flow here seen.now used seen.closed)) →
        is_now ≡ head_phase terms at.flow here seen.now seen.closed → Looked (idle at) seen []
    idle_by missing is reads grown there =
        let P : Item ReadRequest → Type 0 = λ i. HeadRead (connect_in terms.place i) i seen.client new in
        no_head_by seen.closed refl is (subst P is reads)
        (grown ∙ ap (λ l. out ++ l) (gives_missing terms at.flow here seen.now used seen.closed is))
        (there ∙ ap (λ i. head_phase terms at.flow i seen.now seen.closed) is)
    idle_by (part head body) is reads grown there = head_by head (ap head_in is) reads grown there
    idle_by (complete head body trailers size) is reads grown there = head_by head (ap head_in is) reads grown there
    idle_by (bad_body fault head body) is reads grown there = head_by head (ap head_in is) reads grown there
    idle_by (bad_head fault) is reads grown there =
        at_look (idle at) seen [] (refuses fault false used seen.closed) (Ends (refuses fault false used seen.closed)) (rw is refl)
        (grown ∙ ap (λ i. out ++ found (or_leaves seen.closed (shut_server used) (look_head terms at.flow i seen.now used seen.closed))) is) refl
        (ready.Over, there ∙ ap (λ i. head_phase terms at.flow i seen.now seen.closed) is, over_by (ap (connect_in terms.place) is))

    -- ---- a request's body

    given_head_by : (flow : Flow) → Keeps seen.client new → longer ≡ out ++ ask_of (given_at flow seen.now) ResponseHead ∷ [] →
        is_now ≡ phase.Asked (asked.GivenHead (given_at flow seen.now)) → Looked (busy at flow given_head) seen []
    given_head_by flow keeps grown there =
        let ask : Command = ask_of (given_at flow seen.now) ResponseHead in
        at_look (busy at flow given_head) seen [] (ask ∷ []) (Asks ask) refl grown refl
        (asked.GivenHead (given_at flow seen.now), there, record { asks = refl; how = refl; request = keeps; has_side = parked })

    module _ (flow : Flow) (most : Option ℕ) where
      missing_by : (given : Option Response) (head : ReadRequest) (all : List Mark) (content : List ℕ) (held : Option HeldRequest) (shut : Bool) → seen.closed ≡ shut → here ≡ part head (body_of all) →
          ReadsBody given most seen content held new →
          longer ≡ out ++ where_left shut (ends_early flow closed_message seen.now used true) → is_now ≡ unless_left shut (ready.RequestBody flow given most content held) →
          Looked (busy at flow (request_body given most)) seen []
      missing_by given head all content held true shut is reads grown there =
          let owed : List Command = ends_early flow closed_message seen.now used true in
          at_look (busy at flow (request_body given most)) seen [] owed (Ends owed) (rw (shut, is) refl) grown refl (ready.Over, there, refl)
      missing_by given head all content held false shut is reads grown there =
          at_look (busy at flow (request_body given most)) seen [] [] NotYet (rw (shut, is) refl) grown refl (
            ready.RequestBody flow given most content held,
            none_sent,
            there,
            record { is_stage = refl; request = reads; has_side = parked },
            λ view. refl,
            tt,
          )

      bad_by : (given : Option Response) (head : ReadRequest) (body : Body) (fault : Fault) → here ≡ bad_body fault head body →
          longer ≡ out ++ ends_by_fault flow fault seen.now used seen.closed → is_now ≡ is_over → Looked (busy at flow (request_body given most)) seen []
      bad_by given head body fault is grown there =
          let owed : List Command = ends_by_fault flow fault seen.now used seen.closed in
          at_look (busy at flow (request_body given most)) seen [] owed (Ends owed) (rw is refl) grown refl (ready.Over, there, refl)

      whole_by : (head : ReadRequest) (body : Body) (trailers : List (List ℕ × List ℕ)) (size : ℕ) (content : List ℕ) → here ≡ complete head body trailers size → content ≡ body.content →
          new.rest ≡ drop size seen.client → new.closed ≡ false → IsBehind new.place → longer ≡ out ++ ask_of (with_body flow content trailers seen.now) RequestBody ∷ [] →
          is_now ≡ phase.Asked (asked.RequestBody (with_body flow content trailers seen.now)) → Looked (busy at flow (request_body None most)) seen []
      whole_by head body trailers size content is same rest open_still behind grown there =
          let told : Flow = with_body flow body.content trailers seen.now in
          at_look (busy at flow (request_body None most)) seen [] (ask_of told RequestBody ∷ []) (Asks (ask_of told RequestBody)) (rw is refl)
          (grown ∙ ap (λ l. out ++ ask_of (with_body flow l trailers seen.now) RequestBody ∷ []) same) refl (
            asked.RequestBody told,
            there ∙ ap (λ l. phase.Asked (asked.RequestBody (with_body flow l trailers seen.now))) same,
            record {
              asks = ap (λ i. body_asked flow i seen.now) is;
              how = refl;
              request = record { rest = rest ∙ sym (ap (λ i. left_by i seen.client) is); open_still = open_still; behind = behind };
              has_side = parked;
            },
          )

  -- ---- where the stage is passed

  module _ (seen : Sight) (flow : Flow) (most : Option ℕ) (parked : later ≡ parked_link at.parked seen) where
    -- behind the first step
    abbrev Behind : Stage → Sight → Type 0
    Behind to left = Looked (come_down terms (end_up terms to left).stage (sight_ended to left)).stage (sight_come (end_up terms to left).stage (sight_ended to left)) []

    -- the stage and the sight, by the item there
    abbrev PassedBy : Option Response → Item ReadRequest → Type 0
    PassedBy None item = Looked (busy at flow (request_body None most)) seen []
    PassedBy (Some response) item = Behind (pass_given at flow response most item seen.now) (record seen { client = left_by item seen.client })

    passed_by : (given : Option Response) (item : Item ReadRequest) → request_in seen ≡ item → IsGoneFor terms.place at flow (request_body given most) seen → PassedBy given item →
        Looked (pass terms (busy at flow (request_body given most)) seen).stage (sight_past terms (busy at flow (request_body given most)) seen) []
    passed_by None item is kept looked = let P : Bool → Type 0 = λ b. Behind (pass_going b terms.place at flow most seen) seen in subst P (sym kept) looked
    passed_by (Some response) item is kept looked = subst (PassedBy (Some response)) (sym is) looked

    part_by : (given : Option Response) (head : ReadRequest) (body : Body) → Looked (busy at flow (request_body given most)) seen [] → PassedBy given (part head body)
    part_by None head body looked = looked
    part_by (Some response) head body looked = looked

    fails_by : (given : Option Response) (fault : Fault) (head : ReadRequest) (body : Body) → Looked (busy at flow (request_body given most)) seen [] → PassedBy given (bad_body fault head body)
    fails_by None fault head body looked = looked
    fails_by (Some response) fault head body looked = looked

    -- where more is to come, what is held says what was read still
    abbrev pub StillBody : (got : Progress) (given : Option Response) (head : ReadRequest) (content : List ℕ) (held : Option HeldRequest) → BodyShown got head seen.client new content → Type 0
    StillBody progress.Missing given head content held shown = HoldsUp given most head shown.0 held
    StillBody got given head content held shown = ⊤

    body_by : (given : Option Response) (head : ReadRequest) (content : List ℕ) (held : Option HeldRequest) (got : Progress) (shown : BodyShown got head seen.client new content) →
        IsGoneFor terms.place at flow (request_body given most) seen → seen.told ≡ 0 → StillBody got given head content held shown →
        longer ≡ out ++ body_gives flow given got content seen.now (server_parked (unspoilt_at at seen).parked seen) seen.closed → is_now ≡ body_phase flow given most got content held seen.now seen.closed →
        Looked (pass terms (busy at flow (request_body given most)) seen).stage (sight_past terms (busy at flow (request_body given most)) seen) []
    body_by given head content held progress.Missing (all, is, same, reads) kept untold holds grown there =
        passed_by given (part head (body_of all)) is kept (part_by given head (body_of all)
        (missing_by seen parked flow most given head all content held seen.closed refl is
        (record { head = head; marks = all; is_content = same; holds = holds; untold = untold; reads = reads }) grown there))
    body_by given head content held (progress.Bad fault) (body, is) kept untold holds grown there =
        passed_by given (bad_body fault head body) is kept (fails_by given fault head body (bad_by seen parked flow most given head body fault is grown there))
    body_by None head content held (progress.Whole trailers) (body, size, is, same, rest, more, open_still, behind) kept untold holds grown there =
        passed_by None (complete head body trailers size) is kept (whole_by seen parked flow most head body trailers size content is same rest open_still behind grown there)
    body_by (Some response) head content held (progress.Whole trailers) (body, size, is, same, rest, more, open_still, behind) kept untold holds grown there =
        let told : List ℕ → Flow = λ l. record (with_body flow l trailers seen.now) { response = Some response } in
        passed_by (Some response) (complete head body trailers size) is kept
        (given_head_by (record seen { client = drop size seen.client }) (parked ∙ parked_same at.parked (drop size seen.client)) (told body.content) (record { rest = rest; open_still = open_still; behind = behind })
        (grown ∙ ap (λ l. out ++ ask_of (given_at (told l) seen.now) ResponseHead ∷ []) same)
        (there ∙ ap (λ l. phase.Asked (asked.GivenHead (given_at (told l) seen.now))) same))
      where
        parked_same : (parked : Option Parked) (client : List ℕ) → parked_link parked seen ≡ parked_link parked (record seen { client = client })
        parked_same None client = refl
        parked_same (Some parked) client = refl

  -- ---- where a server is connected: this was sent of a request that goes up, and that is all that is owed of it

  module _ (seen : Sight) (flow : Flow) (server : ℕ) (up : Sending) (was : List ℕ)
      (sent_up : (view : View) → seen_of view (sends_while (sent_of up) server was) ≡ seen_of view (sends_up terms.place flow server (sent_of up) seen)) where
    abbrev final : Item ReadResponse
    final = (answers_in flow.request seen).final

    abbrev its : List Command
    its = sends_while (sent_of up) server was

    abbrev owes_up : List Command
    owes_up = sends_up terms.place flow server (sent_of up) seen

    -- ---- the head of the final response

    abbrev heads : Stage
    heads = busy at flow (response_head server (sent_of up))

    same_look : (item : Item ReadResponse) (head : ReadResponse) → head_in item ≡ Some head →
        look_answer flow item seen.now (server_in server seen) seen.closed ≡ look_answer_head flow head seen.now (server_in server seen) seen.closed
    same_look missing head is = absurd (let e : None ≡ Some head = is in cc)
    same_look (part own body) head is = let e : own ≡ head = cc in rw e refl
    same_look (complete own body trailers size) head is = let e : own ≡ head = cc in rw e refl
    same_look (bad_head fault) head is = absurd (let e : None ≡ Some head = is in cc)
    same_look (bad_body fault own body) head is = let e : own ≡ head = cc in rw e refl

    module _ (sent more : List ReadResponse) (link : Link) (between : List Command) (open_is : later ≡ Some link) (grown : between ≡ out ++ sends_on (is_http11 flow.request.version) more)
        (all_come : (answers_in flow.request seen).interim ≡ sent ++ more) where
      abbrev heard : List Command
      heard = interim_commands flow.request sent

      -- what is given behind the interim responses is what is found
      answered : (l : Look Command) → look terms heads seen ≡ l → longer ≡ between ++ found l → PhaseAt l terms at new later is_now heads seen → Looked heads seen (its ++ heard)
      answered l is gives there =
          let told : List Command = interim_commands flow.request more in
          let all : List Command = interim_commands flow.request (answers_in flow.request seen).interim in
          at_seen heads seen (its ++ heard) (told ++ found l) l is
          (gives ∙ (ap (λ b. b ++ found l) grown ∙ append_assoc out told (found l)))
          (λ view. beside view its owes_up heard all (told ++ found l) (found_with (behind heads seen) l) (sent_up view)
          (sym (append_assoc heard told (found l))
          ∙ (ap (λ b. b ++ found l) (sym (commands_append flow.request sent more))
          ∙ (ap (λ b. interim_commands flow.request b ++ found l) (sym all_come) ∙ ap (λ b. all ++ b) (found_behind l)))))
          there
        where
          found_behind : (l : Look Command) → found l ≡ found_with (behind heads seen) l
          found_behind NotYet = refl
          found_behind (Asks ask) = refl
          found_behind (Ends owed) = refl

      -- a fault of the request is found first
      bad_up_by : (fault : Fault) → UpFails up seen fault → longer ≡ between ++ ends_by_fault flow fault seen.now (server_in server seen) seen.closed → is_now ≡ is_over → Looked heads seen (its ++ heard)
      bad_up_by fault fails gives there =
          answered (Ends (ends_by_fault flow fault seen.now (server_in server seen) seen.closed)) (ap (or_leaves seen.closed (leaving heads seen)) (fails _ _)) gives (ready.Over, there, refl)

      module _ (stays : UpStays terms flow seen up was new) where
        first_look : (l : Look Command) → or_leaves seen.closed (leaving heads seen) (look_answer flow final seen.now (server_in server seen) seen.closed) ≡ l → look terms heads seen ≡ l
        first_look l is = ap (or_leaves seen.closed (leaving heads seen)) (stays.finds _ _) ∙ is

        relayed_by : (head : ReadResponse) (b : Bool) → is_relayed head.code ≡ b → head_in final ≡ Some head → is_interim head ≡ false → link.persists ≡ read_persists flow.request head →
            IsLink flow.request server seen (sent ++ more) (answers head ∷ []) link →
            longer ≡ between ++ relays b flow head seen.now (server_in server seen) seen.closed → is_now ≡ relayed_phase b flow server up head seen.now → Looked heads seen (its ++ heard)
        relayed_by head true relayed stands is_final lasts is_link gives there =
            let told : Flow = with_answer flow (response_of head) seen.now in
            let asks_now : look_answer_head flow head seen.now (server_in server seen) seen.closed ≡ Asks (ask_of told ResponseHead) = rw relayed refl in
            let read : ReadsFinal flow.request server seen link = record { sent = sent ++ more; head = head; lasts = lasts; stands = stands; final = is_final; is_link = is_link } in
            answered (Asks (ask_of told ResponseHead)) (first_look _ (ap (or_leaves seen.closed (leaving heads seen)) (same_look final head stands ∙ asks_now))) gives (
              asked.ResponseHead told server up,
              there,
              record {
                asks = ap (λ o. answer_asked flow server o seen.now) stands;
                how = refl;
                request = stays.asked heads refl;
                has_side = subst (IsOpen (ReadsFinal flow.request server seen)) (sym open_is) read;
              },
            )
        relayed_by head false relayed stands is_final lasts is_link gives there =
            let owed : List Command = ends_by_fault flow BadResponse seen.now (server_in server seen) seen.closed in
            let ends_now : look_answer_head flow head seen.now (server_in server seen) seen.closed ≡ Ends owed = rw relayed refl in
            answered (Ends owed) (first_look _ (ap (or_leaves seen.closed (leaving heads seen)) (same_look final head stands ∙ ends_now))) gives (ready.Over, there, refl)

        no_answer_by : (shut : Bool) → seen.closed ≡ shut → final ≡ missing → IsLink flow.request server seen (sent ++ more) [] link → IsQuiet link.responses →
            longer ≡ between ++ where_left shut (ends_early flow closed_message seen.now (server_in server seen) true) → is_now ≡ unless_left shut (ready.ResponseHead flow server up) →
            Looked heads seen (its ++ heard)
        no_answer_by true shut is is_link quiet gives there =
            answered (Ends (ends_early flow closed_message seen.now (server_in server seen) true)) (first_look _ (rw (shut, is) refl)) gives (ready.Over, there, refl)
        no_answer_by false shut is is_link quiet gives there =
            answered NotYet (first_look _ (rw (shut, is) refl)) gives (
              ready.ResponseHead flow server up,
              record { interim = sent ++ more; text = []; up = was },
              there,
              record { is_stage = refl; request = stays.goes_on; has_side = subst (IsOpen (IsLink flow.request server seen (sent ++ more) [])) (sym open_is) is_link },
              λ view. both view owes_up its _ _ (sym (sent_up view)) (ap (interim_commands flow.request) all_come),
              (stays.quiet, subst (IsOpen (λ l. IsQuiet l.responses)) (sym open_is) quiet),
            )

        bad_answer_by : (fault : Fault) → final ≡ bad_head fault → longer ≡ between ++ ends_by_fault flow fault seen.now (server_in server seen) seen.closed → is_now ≡ is_over →
            Looked heads seen (its ++ heard)
        bad_answer_by fault is gives there =
            answered (Ends (ends_by_fault flow fault seen.now (server_in server seen) seen.closed)) (first_look _ (rw is refl)) gives (ready.Over, there, refl)

    interim_come : (got : FinalHead) (sent more : List ReadResponse) (link : Link) → AnswerCome got (is_head flow.request.method) server seen.server seen.shut (sent ++ more) link →
        (answers_in flow.request seen).interim ≡ sent ++ more
    interim_come (answer.Head head) sent more link (is_link, stands, is_final, interim) = interim
    interim_come (answer.Bad fault) sent more link (is_link, is, interim) = interim
    interim_come answer.Missing sent more link (is_link, is, interim, quiet) = interim

    answer_by : (bad : Option Fault) → UpJudged terms flow seen up was new bad → (sent more : List ReadResponse) (link : Link) (between : List Command) (got : FinalHead) → later ≡ Some link →
        between ≡ out ++ sends_on (is_http11 flow.request.version) more →
        AnswerCome got (is_head flow.request.method) server seen.server seen.shut (sent ++ more) link → Lasts flow.request got link →
        longer ≡ between ++ unless_bad bad flow seen.now (server_in server seen) seen.closed (answer_gives flow got seen.now (server_in server seen) seen.closed) →
        is_now ≡ unless_over bad (answer_phase flow server up got seen.now seen.closed) → Looked heads seen (its ++ interim_commands flow.request sent)
    answer_by (Some fault) fails sent more link between got open_is grown come lasts gives there =
        bad_up_by sent more link between open_is grown (interim_come got sent more link come) fault fails gives there
    answer_by None stays sent more link between (answer.Head head) open_is grown (is_link, stands, is_final, interim) lasts gives there =
        relayed_by sent more link between open_is grown interim stays head (is_relayed head.code) refl stands is_final lasts is_link gives there
    answer_by None stays sent more link between (answer.Bad fault) open_is grown (is_link, is, interim) lasts gives there =
        bad_answer_by sent more link between open_is grown interim stays fault is gives there
    answer_by None stays sent more link between answer.Missing open_is grown (is_link, is, interim, quiet) lasts gives there =
        no_answer_by sent more link between open_is grown interim stays seen.closed refl is is_link quiet gives there

    -- ---- the end of a response that is streamed

    module _ (sends : Response) (text : List ℕ) (link : Link) (reads : ReadsDown flow server seen (Some sends) text link) (responses : State) (open_is : later ≡ Some (record link { responses = responses })) where
      abbrev down : Stage
      down = busy at flow (coming_down server (sent_of up))

      -- what was sent is what it owes while it waits
      down_sent : coming_text flow seen ≡ text → sends_text text ≡ sends_coming flow seen
      down_sent is =
          ap sends_text reads.is_text
          ∙ (sends_all sends (marks_text reads.marks) ∙ ap (λ t. commands.Send Client t ∷ []) (sym reads.is_text ∙ sym is))

      down_at : (more : List Command) (l : Look Command) → coming_text flow seen ≡ text → look terms down seen ≡ l → more ≡ found_with [] l → longer ≡ out ++ more → PhaseAt l terms at new later is_now down seen →
          Looked down seen (its ++ sends_text text)
      down_at more l same is found_is grown there =
          at_seen down seen (its ++ sends_text text) more l is grown
          (λ view. beside view its owes_up (sends_text text) (sends_coming flow seen) more (found_with [] l) (sent_up view) (ap (λ t. t ++ more) (down_sent same) ∙ ap (λ m. sends_coming flow seen ++ m) found_is))
          there

      down_bad : (fault : Fault) → UpFails up seen fault → coming_text flow seen ≡ text →
          longer ≡ out ++ ends_early flow (fault_message fault) seen.now (server_in server seen) seen.closed → is_now ≡ is_over → Looked down seen (its ++ sends_text text)
      down_bad fault fails same grown there =
          let owed : List Command = ends_early flow (fault_message fault) seen.now (server_in server seen) seen.closed in
          down_at owed (Ends owed) same (ap (or_leaves seen.closed (leaving down seen)) (fails _ _)) refl grown (ready.Over, there, refl)

      module _ (stays : UpStays terms flow seen up was new) where
        down_look : (l : Look Command) → or_leaves seen.closed (leaving down seen) (look_coming flow final seen.now (server_in server seen) seen.closed) ≡ l → look terms down seen ≡ l
        down_look l is = ap (or_leaves seen.closed (leaving down seen)) (stays.finds _ _) ∙ is

        no_end_by : (shut : Bool) (body : Body) → seen.closed ≡ shut → final ≡ part reads.head body → coming_text flow seen ≡ text → ReadsDown flow server seen (Some sends) text (record link { responses = responses }) → IsQuiet responses →
            longer ≡ out ++ where_left shut (ends_early flow closed_message seen.now (server_in server seen) true) → is_now ≡ unless_left shut (ready.ComingDown flow server up sends) →
            Looked down seen (its ++ sends_text text)
        no_end_by true body shut is same further quiet grown there =
            let owed : List Command = ends_early flow closed_message seen.now (server_in server seen) true in
            down_at owed (Ends owed) same (down_look _ (rw (shut, is) refl)) refl grown (ready.Over, there, refl)
        no_end_by false body shut is same further quiet grown there =
            down_at [] NotYet same (down_look _ (rw (shut, is) refl)) refl grown (
              ready.ComingDown flow server up sends,
              record { interim = []; text = text; up = was },
              there,
              record { is_stage = refl; request = stays.goes_on; has_side = subst (IsOpen (ReadsDown flow server seen (Some sends) text)) (sym open_is) further },
              λ view. both view owes_up its _ _ (sym (sent_up view)) (sym (down_sent same)),
              (stays.quiet, subst (IsOpen (λ l. IsQuiet l.responses)) (sym open_is) quiet),
            )

        coming_on : (stop : Option Progress) → DownShown flow server seen sends text link reads stop (record link { responses = responses }) →
            longer ≡ out ++ coming_gives flow stop seen.now (server_in server seen) seen.closed → is_now ≡ coming_phase flow server up sends stop seen.closed → Looked down seen (its ++ sends_text text)
        coming_on (Some progress.Missing) (is, same, further, quiet) grown there = no_end_by seen.closed (body_of (reads.marks ++ [])) refl is same further quiet grown there
        coming_on (Some (progress.Bad fault)) (is, same) grown there =
            let owed : List Command = ends_early flow (fault_message fault) seen.now (server_in server seen) seen.closed in
            down_at owed (Ends owed) same (down_look _ (rw is refl)) refl grown (ready.Over, there, refl)
        coming_on (Some (progress.Whole trailers)) none grown there = absurd none
        coming_on None none grown there = absurd none

      text_come : (stop : Option Progress) → DownShown flow server seen sends text link reads stop (record link { responses = responses }) → coming_text flow seen ≡ text
      text_come (Some progress.Missing) (is, same, further, quiet) = same
      text_come (Some (progress.Bad fault)) (is, same) = same
      text_come (Some (progress.Whole trailers)) none = absurd none
      text_come None none = absurd none

      coming_by : (bad : Option Fault) → UpJudged terms flow seen up was new bad → (stop : Option Progress) → DownShown flow server seen sends text link reads stop (record link { responses = responses }) →
          longer ≡ out ++ unless_broken bad flow seen.now (server_in server seen) seen.closed (coming_gives flow stop seen.now (server_in server seen) seen.closed) →
          is_now ≡ unless_over bad (coming_phase flow server up sends stop seen.closed) → Looked down seen (its ++ sends_text text)
      coming_by (Some fault) fails stop shown grown there = down_bad fault fails (text_come stop shown) grown there
      coming_by None stays stop shown grown there = coming_on stays stop shown grown there

    -- ---- the response's body

    module _ (most : Option ℕ) (held : Option Held) where
      abbrev bodies : Stage
      bodies = busy at flow (response_body server (sent_of up) most)

      body_at : (more : List Command) (l : Look Command) → look terms bodies seen ≡ l → more ≡ found_with [] l → longer ≡ out ++ more → PhaseAt l terms at new later is_now bodies seen → Looked bodies seen its
      body_at more l is found_is grown there =
          at_seen bodies seen its more l is grown
          (λ view. seen_append view its more ∙ (ap (λ a. a ++ seen_of view more) (sent_up view) ∙ (sym (seen_append view owes_up more) ∙ ap (λ m. seen_of view (owes_up ++ m)) found_is))) there

      module _ (sent : List ReadResponse) (head : ReadResponse) (is_final : is_interim head ≡ false) (old : Link) (responses : State) (is_open : later ≡ Some (record old { responses = responses }))
          (number : old.server ≡ server) (shut_is : old.closed ≡ seen.shut) (lasts : old.persists ≡ read_persists flow.request head) where
        abbrev here_shown : Progress → List ℕ → Type 0
        here_shown got content = ReturnShown (is_head flow.request.method) server seen.server seen.shut sent head is_final got old responses content

        -- what is held says what was read, where more is to come
        abbrev pub StillHolds : (got : Progress) (content : List ℕ) → here_shown got content → Type 0
        StillHolds progress.Missing content shown = Holds flow most head shown.0 held
        StillHolds got content shown = ⊤

        module _ (stays : UpStays terms flow seen up was new) where
          body_look : (l : Look Command) → or_leaves seen.closed (leaving bodies seen) (look_returned flow final seen.now (server_in server seen) seen.closed) ≡ l → look terms bodies seen ≡ l
          body_look l is = ap (or_leaves seen.closed (leaving bodies seen)) (stays.finds _ _) ∙ is

          no_return_by : (all : List Mark) (content : List ℕ) (shut : Bool) → seen.closed ≡ shut → final ≡ part head (body_of all) → content ≡ content_of all →
              IsLink flow.request server seen sent (answers head ∷ all) (record old { responses = responses }) →
              longer ≡ out ++ where_left shut (ends_early (without_response flow) closed_message seen.now (server_in server seen) true) →
              is_now ≡ unless_left shut (ready.ResponseBody flow server up most content held) → Holds flow most head all held → Looked bodies seen its
          no_return_by all content true shut is same is_link grown there holds =
              let owed : List Command = ends_early (without_response flow) closed_message seen.now (server_in server seen) true in
              body_at owed (Ends owed) (body_look _ (rw (shut, is) refl)) refl grown (ready.Over, there, refl)
          no_return_by all content false shut is same is_link grown there holds =
              let read : ReadsReturn flow server most seen content held (record old { responses = responses }) =
              record { sent = sent; head = head; marks = all; is_content = same; holds = holds; final = is_final; lasts = lasts; is_link = is_link } in
              body_at [] NotYet (body_look _ (rw (shut, is) refl)) refl grown (
                ready.ResponseBody flow server up most content held,
                record { interim = []; text = []; up = was },
                there,
                record { is_stage = refl; request = stays.goes_on; has_side = subst (IsOpen (ReadsReturn flow server most seen content held)) (sym is_open) read },
                λ view. sym (sent_up view),
                stays.quiet,
              )

          returned_on : (got : Progress) (content : List ℕ) (shown : here_shown got content) →
              longer ≡ out ++ returned_gives flow got content seen.now (server_in server seen) seen.closed → is_now ≡ returned_phase flow server up most got content held seen.now seen.closed →
              StillHolds got content shown → Looked bodies seen its
          returned_on progress.Missing content (all, is, same, is_link) grown there holds = no_return_by all content seen.closed refl is same is_link grown there holds
          returned_on (progress.Bad fault) content (body, is) grown there holds =
              let owed : List Command = ends_by_fault flow fault seen.now (server_in server seen) seen.closed in
              body_at owed (Ends owed) (body_look _ (rw is refl)) refl grown (ready.Over, there, refl)
          returned_on (progress.Whole trailers) content (body, size, is, same, rest) grown there holds =
              let told : Flow = with_returned flow body.content trailers seen.now in
              let left : server_left bodies seen ≡ drop ((answers_in flow.request seen).used + size) seen.server =
              ap (λ i. left_by i (drop (answers_in flow.request seen).used seen.server)) is ∙ drop-drop size (answers_in flow.request seen).used seen.server in
              let ends : LinkEnds flow.request server (server_left bodies seen) seen (record old { responses = responses }) =
              record { keeps = record { server = number; closed = shut_is; rest = rest ∙ sym left }; lasts = lasts ∙ sym (ap (whole_persists flow.request) is) } in
              body_at (ask_of told ResponseBody ∷ []) (Asks (ask_of told ResponseBody)) (body_look _ (rw is refl)) refl
              (grown ∙ ap (λ l. out ++ ask_of (with_returned flow l trailers seen.now) ResponseBody ∷ []) same) (
                asked.ResponseBody told server up,
                there ∙ ap (λ l. phase.Asked (asked.ResponseBody (with_returned flow l trailers seen.now) server up)) same,
                record {
                  asks = ap (λ i. returned_asked flow server i seen.now) is;
                  how = refl;
                  request = stays.asked bodies refl;
                  has_side = subst (IsOpen (LinkEnds flow.request server (server_left bodies seen) seen)) (sym is_open) ends;
                },
              )

        return_by : (bad : Option Fault) → UpJudged terms flow seen up was new bad → (got : Progress) (content : List ℕ) (shown : here_shown got content) →
            longer ≡ out ++ unless_bad bad flow seen.now (server_in server seen) seen.closed (returned_gives flow got content seen.now (server_in server seen) seen.closed) →
            is_now ≡ unless_over bad (returned_phase flow server up most got content held seen.now seen.closed) →
            StillHolds got content shown → Looked bodies seen its
        return_by (Some fault) fails got content shown grown there holds =
            let owed : List Command = ends_by_fault flow fault seen.now (server_in server seen) seen.closed in
            body_at owed (Ends owed) (ap (or_leaves seen.closed (leaving bodies seen)) (fails _ _)) refl grown (ready.Over, there, refl)
        return_by None stays got content shown grown there holds = returned_on stays got content shown grown there holds

-- ---- all stages

-- by the moment and the closes that the sight shows
abbrev FoundIn : Terms → At → Wanted → State → State → Option Link → Option Link → List Command → List Command → Phase → Used → ℕ → Bool → Type 0
FoundIn terms at looked old new side later out longer is_now used moment closed = LookFound terms at used moment closed looked old new side later out longer is_now

found_in : (terms : Terms) (at : At) (looked : Wanted) (old new : State) (side later : Option Link) (out longer : List Command) (is_now : Phase) (used there : Used) (moment now : ℕ) (closed shut : Bool) →
    used ≡ there → moment ≡ now → closed ≡ shut → FoundIn terms at looked old new side later out longer is_now used moment closed →
    FoundIn terms at looked old new side later out longer is_now there now shut
found_in terms at looked old new side later out longer is_now used there moment now closed shut one two three is =
    subst (λ u. FoundIn terms at looked old new side later out longer is_now u now shut) one
    (subst (λ m. FoundIn terms at looked old new side later out longer is_now used m shut) two
    (subst (λ c. FoundIn terms at looked old new side later out longer is_now used moment c) three is))

keeps_same : (bytes : List ℕ) (old new : State) → new ≡ old → Keeps bytes old → Keeps bytes new
keeps_same bytes old new same keeps = subst (Keeps bytes) (sym same) keeps

-- One look, in the sight that the stage that is looked at sees.
module _ (terms : Terms) (at : At) (seen : Sight) (old new : State) (side later : Option Link) (moment : ℕ) (closed : Bool) (out longer : List Command) (is_now : Phase) (sent : SentOn) (now : moment ≡ seen.now) where
  -- where the stage is passed, and the flow is there
  abbrev pub Advanced : Stage → Type 0
  Advanced stage = LookedAt terms at (pass terms stage seen).stage (sight_past terms stage seen) new later is_now (sent_on stage sent) out longer

  -- where no request that goes up is whole, a response comes down
  gone_there : (flow : Flow) (doing : Doing) (before : List Command) → gone_by (going_at doing) (whole_in seen) ≡ None →
      LookedAt terms at (come_down terms (busy at flow doing) seen).stage (sight_come (busy at flow doing) seen) new later is_now before out longer →
      LookedAt terms at (come_down terms (end_up terms (busy at flow doing) seen).stage (sight_ended (busy at flow doing) seen)).stage
      (sight_come (end_up terms (busy at flow doing) seen).stage (sight_ended (busy at flow doing) seen)) new later is_now before out longer
  gone_there flow doing before is looked =
      let P : Option ℕ → Type 0 = λ g. LookedAt terms at (come_down terms (end_by g terms.place at flow doing seen).stage (past_gone g seen)).stage
      (sight_come (end_by g terms.place at flow doing seen).stage (past_gone g seen)) new later is_now before out longer in
      subst P (sym is) looked

  -- the server of an open side is that of the stage
  open_used : (server : ℕ) (link : Link) → link.server ≡ server → link.closed ≡ seen.shut → used_in (Some link) ≡ server_in server seen
  open_used server link one two = rw (one, two) refl

  answer_looked : (flow : Flow) (server : ℕ) (up : Sending) (old_side new_side : Option Link) → new_side ≡ later → GoesOnUp terms flow seen up sent.up old → NoMoreUp up old → closed ≡ seen.closed →
      IsOpen (IsLink flow.request server seen sent.interim []) old_side → IsNotWhole (response_head server (sent_of up)) seen →
      AnswerFound flow server up old new old_side new_side moment (used_in old_side) closed out longer is_now →
      Advanced (busy at flow (response_head server (sent_of up)))
  answer_looked flow server up None new_side is reads none shut is_open kept it = absurd is_open
  answer_looked flow server up (Some link) None is reads none shut is_open kept it = absurd it.read
  answer_looked flow server up (Some link) (Some further) is reads none shut is_open kept it =
      let read = it.read.reads (is_head flow.request.method) server seen.server seen.shut sent.interim is_open in
      let all : List ReadResponse = sent.interim ++ read.more in
      let P : Link → Type 0 = λ l. AnswerCome it.got (is_head flow.request.method) server seen.server seen.shut all l in
      let come : P further = subst P (sym it.read.noted) (come_noted flow.request it.got (is_head flow.request.method) server seen.server seen.shut all it.read.read read.come) in
      let lasts : Lasts flow.request it.got further = subst (Lasts flow.request it.got) (sym it.read.noted) (lasts_noted flow.request it.got it.read.read) in
      let used : used_in (Some link) ≡ server_in server seen = open_used server link is_open.server is_open.closed in
      let not = head_not up server seen kept in
      let given : ℕ → Used → Bool → List Command = λ m u c. it.between ++ unless_bad it.bad flow m u c (answer_gives flow it.got m u c) in
      gone_there flow (response_head server (sent_of up)) (sent_on (busy at flow (response_head server (sent_of up))) sent) kept
      (answer_by terms at new later out longer is_now seen flow server up sent.up (sent_all terms flow server seen up sent.up old reads none not)
      it.bad (up_judged terms flow seen up sent.up old new it.bad reads none not it.up_read) sent.interim read.more further it.between it.got (sym is) read.grown come lasts
      (it.gives ∙ (ap (λ m. given m (used_in (Some link)) closed) now ∙ (ap (λ u. given seen.now u closed) used ∙ ap (λ c. given seen.now (server_in server seen) c) shut)))
      (it.phase ∙ (ap (λ m. unless_over it.bad (answer_phase flow server up it.got m closed)) now ∙ ap (λ c. unless_over it.bad (answer_phase flow server up it.got seen.now c)) shut)))

  -- What is held says what was read, since a look reads nothing more.
  still_holds : (flow : Flow) (server : ℕ) (up : Sending) (sent_up : (view : View) → seen_of view (sends_while (sent_of up) server sent.up) ≡ seen_of view (sends_up terms.place flow server (sent_of up) seen))
      (most : Option ℕ) (content body : List ℕ) (held : Option Held) (got : Progress) (link : Link) (responses : State) (link_is : later ≡ Some (record link { responses = responses }))
      (read : ReadsReturn flow server most seen content held link) (come : HasRead got link.responses content responses body) → HasNoMoreDown (ready.ResponseBody flow server up most content held) (Some link) →
      StillHolds terms at new later out longer is_now seen flow server up sent.up sent_up most held read.sent read.head read.final link responses link_is read.is_link.server read.is_link.closed read.lasts got body
      (return_shown (is_head flow.request.method) server seen.server seen.shut read.sent read.head read.final got read.marks link responses content body read.is_link read.is_content come)
  still_holds flow server up sent_up most content body None progress.Missing link responses link_is read come no_more = read.holds
  still_holds flow server up sent_up most content body (Some held) progress.Missing link responses link_is read come no_more =
      subst (λ l. Holds flow most read.head l (Some held))
      (sym (shown_same (is_head flow.request.method) server seen.server seen.shut read.sent read.head read.final read.marks link responses content body read.is_link read.is_content come no_more)) read.holds
  still_holds flow server up sent_up most content body held (progress.Whole trailers) link responses link_is read come no_more = tt
  still_holds flow server up sent_up most content body held (progress.Bad fault) link responses link_is read come no_more = tt

  return_looked : (flow : Flow) (server : ℕ) (up : Sending) (most : Option ℕ) (content : List ℕ) (held : Option Held) (old_side new_side : Option Link) → new_side ≡ later →
      GoesOnUp terms flow seen up sent.up old → NoMoreUp up old → closed ≡ seen.closed → IsOpen (ReadsReturn flow server most seen content held) old_side →
      IsNotWhole (response_body server (sent_of up) most) seen → streams_in flow most seen ≡ false → HasNoMoreDown (ready.ResponseBody flow server up most content held) old_side →
      ReturnFound flow server up most content held old new old_side new_side moment (used_in old_side) closed out longer is_now → Advanced (busy at flow (response_body server (sent_of up) most))
  return_looked flow server up most content held None new_side is reads none shut is_open kept came no_more it = absurd is_open
  return_looked flow server up most content held (Some link) None is reads none shut is_open kept came no_more it = absurd it.read
  return_looked flow server up most content held (Some link) (Some further) is reads none shut is_open kept came no_more it =
      let used : used_in (Some link) ≡ server_in server seen = open_used server link is_open.is_link.server is_open.is_link.closed in
      let not = body_not up server most seen kept in
      let shown = return_shown (is_head flow.request.method) server seen.server seen.shut is_open.sent is_open.head is_open.final it.got is_open.marks link further.responses content it.body
      is_open.is_link is_open.is_content it.read.read in
      let before : List Command = sends_while (sent_of up) server sent.up in
      let P : Bool → Type 0 = λ b. LookedAt terms at (pass_kept b terms.place at flow server (sent_of up) most seen).stage (past_kept b (came_in (streaming flow) seen) seen) new later is_now before out longer in
      let there : later ≡ Some (record link { responses = further.responses }) = sym is ∙ ap Some it.read.same in
      let sent_up = sent_all terms flow server seen up sent.up old reads none not in
      let given : ℕ → Used → Bool → List Command = λ m u c. out ++ unless_bad it.bad flow m u c (returned_gives flow it.got it.body m u c) in
      gone_there flow (response_body server (sent_of up) most) before kept (subst P (sym came)
      (return_by terms at new later out longer is_now seen flow server up sent.up sent_up most held is_open.sent is_open.head is_open.final link further.responses
      there is_open.is_link.server is_open.is_link.closed is_open.lasts it.bad (up_judged terms flow seen up sent.up old new it.bad reads none not it.up_read) it.got it.body shown
      (it.gives ∙ (ap (λ m. given m (used_in (Some link)) closed) now ∙ (ap (λ u. given seen.now u closed) used ∙ ap (λ c. given seen.now (server_in server seen) c) shut)))
      (it.phase ∙ (ap (λ m. unless_over it.bad (returned_phase flow server up most it.got it.body held m closed)) now ∙ ap (λ c. unless_over it.bad (returned_phase flow server up most it.got it.body held seen.now c)) shut))
      (still_holds flow server up sent_up most content it.body held it.got link further.responses there is_open it.read.read no_more)))

  -- Of a response that is streamed: a fault, or the client's close.
  coming_looked : (flow : Flow) (server : ℕ) (up : Sending) (is_sent : Response) (old_side new_side : Option Link) → new_side ≡ later → GoesOnUp terms flow seen up sent.up old → NoMoreUp up old → closed ≡ seen.closed →
      IsOpen (ReadsDown flow server seen (Some is_sent) sent.text) old_side → IsNotWhole (coming_down server (sent_of up)) seen → came_in flow seen ≡ None →
      HasNoMoreDown (ready.ComingDown flow server up is_sent) old_side →
      ComingFound flow server up is_sent old new old_side new_side moment (used_in old_side) closed out longer is_now → Advanced (busy at flow (coming_down server (sent_of up)))
  coming_looked flow server up is_sent None new_side is reads none shut is_open kept came no_more it = absurd is_open
  coming_looked flow server up is_sent (Some link) None is reads none shut is_open kept came no_more it = absurd it.read
  coming_looked flow server up is_sent (Some link) (Some further) is reads none shut is_open kept came no_more it =
      let used : used_in (Some link) ≡ server_in server seen = open_used server link is_open.is_link.server is_open.is_link.closed in
      let not = down_not up server seen kept in
      let before : List Command = sends_while (sent_of up) server sent.up ++ sends_text sent.text in
      let P : Option Came → Type 0 = λ c. LookedAt terms at (pass_came terms.place at flow server (sent_of up) seen c).stage (past_came c seen) new later is_now before out longer in
      let given : ℕ → Used → Bool → List Command = λ m u c. out ++ unless_broken it.bad flow m u c (coming_gives flow it.stop m u c) in
      gone_there flow (coming_down server (sent_of up)) before kept (subst P (sym came)
      (coming_by terms at new later out longer is_now seen flow server up sent.up (sent_all terms flow server seen up sent.up old reads none not)
      is_sent sent.text link is_open further.responses (sym is ∙ ap Some it.read.same)
      it.bad (up_judged terms flow seen up sent.up old new it.bad reads none not it.up_read) it.stop
      (down_shown flow server seen is_sent sent.text link is_open it.stop further.responses came no_more it.read.ends)
      (it.gives ∙ (ap (λ m. given m (used_in (Some link)) closed) now ∙ (ap (λ u. given seen.now u closed) used ∙ ap (λ c. given seen.now (server_in server seen) c) shut)))
      (it.phase ∙ ap (λ c. unless_over it.bad (coming_phase flow server up is_sent it.stop c)) shut)))

  -- a parked side stays, and its server is the one that is seen
  parked_looked : (looked : Wanted) → side ≡ parked_link at.parked seen → closed ≡ seen.closed → LookFound terms at (used_in side) moment closed looked old new side later out longer is_now →
      LookFound terms at (server_parked (unspoilt_at at seen).parked seen) seen.now seen.closed looked old new side later out longer is_now
  parked_looked looked parked shut it =
      found_in terms at looked old new side later out longer is_now (used_in side) (server_parked (unspoilt_at at seen).parked seen) moment seen.now closed seen.closed
      (ap used_in parked ∙ parked_used at.parked seen) now shut it

  still_body : (flow : Flow) (given : Option Response) (most : Option ℕ) (content body : List ℕ) (held : Option HeldRequest) (got : Progress) (parked : later ≡ parked_link at.parked seen)
      (reads : ReadsBody given most seen content held old) (come : HasRead got old content new body) → HasNoMoreUp (ready.RequestBody flow given most content held) old →
      StillBody terms at new later out longer is_now seen flow most parked got given reads.head body held (body_shown got reads.head reads.marks seen.client old new content body reads.reads reads.is_content come)
  still_body flow given most content body None progress.Missing parked reads come no_more = reads.holds
  still_body flow given most content body (Some held) progress.Missing parked reads come no_more =
      subst (λ l. HoldsUp given most reads.head l (Some held)) (sym (body_same reads.head reads.marks seen.client old new content body reads.reads reads.is_content come no_more)) reads.holds
  still_body flow given most content body held (progress.Whole trailers) parked reads come no_more = tt
  still_body flow given most content body held (progress.Bad fault) parked reads come no_more = tt

  advanced_by : (looked : Wanted) → HasRequest terms (stage_of at looked) seen sent.up looked old → HasSide (stage_of at looked) seen sent looked side →
      HasPlace (stage_of at looked) seen at closed → IsPassed terms.place (stage_of at looked) seen → HasNoMore looked old side → LookFound terms at (used_in side) moment closed looked old new side later out longer is_now →
      Advanced (stage_of at looked)
  advanced_by ready.Idle reads parked place kept no_more it =
      let (same, head) = parked_looked ready.Idle parked place.client it in
      idle_by terms at new later out longer is_now seen (same ∙ parked) (request_in seen) refl (head.reads seen.client reads) (head.gives seen.client reads) (head.phase seen.client reads)
  advanced_by (ready.RequestBody flow given most content held) reads parked place kept no_more it =
      let (same, body) = parked_looked (ready.RequestBody flow given most content held) parked place.client it in
      body_by terms at new later out longer is_now seen flow most (same ∙ parked) given reads.head body.body held body.got
      (body_shown body.got reads.head reads.marks seen.client old new content body.body reads.reads reads.is_content body.read) kept.gone reads.untold
      (still_body flow given most content body.body held body.got (same ∙ parked) reads body.read no_more.up) body.gives body.phase
  advanced_by (ready.Connection flow up) reads parked place kept no_more it =
      let (same, once) = parked_looked (ready.Connection flow up) parked place.client it in
      let dial : Command = commands.Dial at.dials (dialled_for terms.place flow.request) None in
      at_look terms at new later out longer is_now (busy at flow (connection (sent_by up))) seen [] (dial ∷ shut_server (server_parked (unspoilt_at at seen).parked seen)) (Asks dial) refl once.gives refl
      (asked.Connection flow at.dials up, once.phase, record { asks = refl; how = refl; request = subst (WaitsUp terms flow seen up) (sym once.same) reads; has_side = same ∙ parked })
  advanced_by (ready.ResponseHead flow server up) reads is_open place kept no_more it = answer_looked flow server up side later refl reads no_more.up place.client is_open kept.gone it
  advanced_by (ready.ResponseBody flow server up most content held) reads is_open place kept no_more it =
      return_looked flow server up most content held side later refl reads no_more.up place.client is_open kept.gone kept.come no_more.down it
  advanced_by (ready.ComingDown flow server up is_sent) reads is_open place kept no_more it =
      coming_looked flow server up is_sent side later refl reads no_more.up place.client is_open kept.gone kept.come no_more.down it
  advanced_by (ready.Upgraded flow server) keeps is_open place kept no_more (same, once) =
      at_look terms at new later out longer is_now (busy at flow (upgraded server)) seen [] [] (Ends []) refl once.gives refl
      (ready.Upgraded flow server, once.phase, record { phase = refl; keeps = keeps_same seen.client old new once.same keeps; is_open = subst (IsOpen (LinkKeeps server seen.server seen.shut)) (sym same) is_open })
  advanced_by (ready.GivenHead flow) keeps parked place kept no_more it =
      let (same, once) = parked_looked (ready.GivenHead flow) parked place.client it in
      given_head_by terms at new later out longer is_now seen (same ∙ parked) flow (keeps_same seen.client old new once.same keeps) once.gives once.phase
  advanced_by (ready.GivenBody flow) keeps parked place kept no_more it =
      let (same, once) = parked_looked (ready.GivenBody flow) parked place.client it in
      let ask : Command = ask_of flow ResponseBody in
      at_look terms at new later out longer is_now (busy at flow given_body) seen [] (ask ∷ []) (Asks ask) refl once.gives refl
      (asked.GivenBody flow, once.phase, record { asks = refl; how = refl; request = keeps_same seen.client old new once.same keeps; has_side = same ∙ parked })
  advanced_by (ready.Connects address) none is_open place kept no_more it = absurd none
  advanced_by ready.Over keeps is_open place kept no_more (same, once) =
      at_look terms at new later out longer is_now over seen [] [] (Ends []) refl once.gives refl (ready.Over, once.phase, refl)

  -- What is given is what the stage owes that is passed to, and the flow is there.
  pub advanced : (stage : Stage) (looked : Wanted) → IsReady terms at old side looked stage seen sent → HasPlace stage seen at closed → IsPassed terms.place stage seen → HasNoMore looked old side →
      LookFound terms at (used_in side) moment closed looked old new side later out longer is_now → Advanced stage
  advanced stage looked is place kept no_more it =
      let same : stage_of at looked ≡ stage = is.is_stage in
      subst Advanced same
      (advanced_by looked (subst (λ s. HasRequest terms s seen sent.up looked old) (sym same) is.request) (subst (λ s. HasSide s seen sent looked side) (sym same) is.has_side)
      (subst (λ s. HasPlace s seen at closed) (sym same) place) (subst (λ s. IsPassed terms.place s seen) (sym same) kept) no_more it)
