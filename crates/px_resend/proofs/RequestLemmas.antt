-- A request that is sent again before its flow goes on: it begins, and its hooks are answered.
use Rattle.std.proofs.Common.{◌≡◌, ℕ, List, [], ◌∷◌, ◌++◌, Some, refl, ap, sym, subst}
use Rattle.std.specs.Prelude.{IfOk, OnOk, Result, Ok, Err}
use Rattle.std.proofs.lemmas.List.{append-nil}
use Rattle.px_message.specs.declared.flow.Flow.{Flow}
use Rattle.px_message.specs.declared.request.Request.{Request}
use Rattle.px_message.specs.declared.response.Response.{Response}
use Rattle.px_event.specs.declared.ask.Hook.TheVariants.{RequestBody, RequestHead}
use Rattle.px_event.specs.declared.command.Command.{Command}
use Rattle.px_event.specs.declared.event.Event.{Event}
use Rattle.px_event.specs.declared.reply.Reply.{Reply}
use Rattle.px_event.specs.Chain.{Timed, Look, NotYet, Asks, Ends, Turn}
use Rattle.px_event.specs.Laws.{owed_over}
use Rattle.px_event.specs.View.{View, seen_of}
use Rattle.px_event.proofs.Steps.{Takes, onward, past_end, Resumes}
use Rattle.px_exchange.specs.declared.taken.Taken.{Taken}
use Rattle.px_exchange.specs.declared.taken.Taken.TheVariants.{GoesOn, Responds, Kills}
use Rattle.px_exchange.specs.declared.terms.Terms.{Terms}
use Rattle.px_exchange.specs.Flows.{ask_of}
use Rattle.px_exchange.specs.Replies.{taken_at_request_body, taken_at_request_head}
use Rattle.px_resend.specs.declared.child.Child.{Child}
use Rattle.px_resend.specs.declared.child.Child.TheVariants as children
use Rattle.px_resend.specs.Chain.{Stage, asks_head, asks_whole, first_flow, going, goes_on, killed, leads_to, over, resend_chain, turn_head, turn_whole, waiting, whole_flow}
use Rattle.px_resend.specs.Heard.{all_of_servers}
use Rattle.px_resend.specs.Laws.{ends_by}
use Rattle.px_resend.specs.Stands.{IsChild, Keeps, KeepsBy}
use Rattle.px_resend.specs.Steps.{Adds, GoesOnAs, ResumesChild, TakesChild}

-- ---- it begins

-- where nothing was kept it has not begun, and nothing was heard
record IsUnheard (stage : Stage) (prefix : List (Timed Event)) : Type 0 where
  is : stage ≡ waiting
  unheard : prefix ≡ []

keeps_waiting : (terms : Terms) (stage : Stage) (prefix : List (Timed Event)) → Keeps terms children.Waiting stage prefix → IsUnheard stage prefix
keeps_waiting terms waiting prefix is = record { is = refl; unheard = is.1 }
keeps_waiting terms (asks_head flow) prefix is = absurd (let no : children.Waiting ≡ children.AsksHead flow = is in cc)
keeps_waiting terms (asks_whole flow) prefix is = absurd (let no : children.Waiting ≡ children.AsksWhole flow = is in cc)
keeps_waiting terms (goes_on place) prefix is = absurd (let no : children.Waiting ≡ children.GoesOn is.stream = is.is in cc)
keeps_waiting terms over prefix is = absurd is

waiting_by_look : (l : Look Command) (terms : Terms) (stage : Stage) (prefix : List (Timed Event)) → KeepsBy l terms children.Waiting stage prefix → IsUnheard stage prefix
waiting_by_look NotYet terms stage prefix is = keeps_waiting terms stage prefix is
waiting_by_look (Asks ask) terms stage prefix is = keeps_waiting terms stage prefix is
waiting_by_look (Ends owed) terms stage prefix is = absurd (let no : children.Waiting ≡ children.Over = is in cc)

begins_there : (terms : Terms) (recorded : Request) (moment : ℕ) (event : Event) →
    Takes (resend_chain terms recorded) (IsChild terms recorded) (children.AsksHead (first_flow terms recorded moment)) moment event
    (ask_of (first_flow terms recorded moment) RequestHead ∷ []) waiting []
begins_there terms recorded moment event = onward refl refl (λ view. refl)

pub begins : (terms : Terms) (recorded : Request) (flow : Flow) (moment : ℕ) (event : Event) → flow ≡ first_flow terms recorded moment →
    TakesChild terms recorded children.Waiting (children.AsksHead flow) moment event (ask_of flow RequestHead ∷ [])
begins terms recorded flow moment event is stage prefix kept =
    let there = waiting_by_look ((resend_chain terms recorded).look stage prefix) terms stage prefix kept in
    let P : Stage → Type 0 = λ s. Takes (resend_chain terms recorded) (IsChild terms recorded) (children.AsksHead flow) moment event (ask_of flow RequestHead ∷ []) s prefix in
    let Q : List (Timed Event) → Type 0 = λ p. Takes (resend_chain terms recorded) (IsChild terms recorded) (children.AsksHead flow) moment event (ask_of flow RequestHead ∷ []) waiting p in
    let F : Flow → Type 0 = λ f. Takes (resend_chain terms recorded) (IsChild terms recorded) (children.AsksHead f) moment event (ask_of f RequestHead ∷ []) waiting [] in
    subst P (sym there.is) (subst Q (sym there.unheard) (subst F (sym is) (begins_there terms recorded moment event)))

pub began : {E : Type 0} (terms : Terms) (recorded : Request) (child : Child) (moment : ℕ) (event : Event) (out longer : List Command) (result : Result Child E) → child ≡ children.Waiting →
    IfOk result (λ next. Adds (λ more. (event : Event) → TakesChild terms recorded children.Waiting next moment event more) out longer) →
    IfOk result (λ next. Adds (TakesChild terms recorded child next moment event) out longer)
began terms recorded child moment event out longer (Ok next) is adds =
    let P : Child → Type 0 = λ c. TakesChild terms recorded c next moment event adds.more in
    record { more = adds.more; grown = adds.grown; holds = subst P (sym is) (adds.holds event) }
began terms recorded child moment event out longer (Err error) is adds = tt

-- ---- behind the end nothing follows

pub over_takes : (terms : Terms) (recorded : Request) (moment : ℕ) (event : Event) → TakesChild terms recorded children.Over children.Over moment event []
over_takes terms recorded moment event stage prefix is =
    let there = ends_by terms recorded children.Over stage prefix ((resend_chain terms recorded).look stage prefix) is refl in
    past_end there.0 there.1 is (λ view. refl)

-- ---- the hook of the request's head

keeps_head : (terms : Terms) (flow : Flow) (stage : Stage) (prefix : List (Timed Event)) → Keeps terms (children.AsksHead flow) stage prefix → stage ≡ asks_head flow
keeps_head terms flow waiting prefix is = absurd (let no : children.AsksHead flow ≡ children.Waiting = is.0 in cc)
keeps_head terms flow (asks_head other) prefix is = let same : flow ≡ other = (let e : children.AsksHead flow ≡ children.AsksHead other = is in cc) in ap asks_head (sym same)
keeps_head terms flow (asks_whole other) prefix is = absurd (let no : children.AsksHead flow ≡ children.AsksWhole other = is in cc)
keeps_head terms flow (goes_on place) prefix is = absurd (let no : children.AsksHead flow ≡ children.GoesOn is.stream = is.is in cc)
keeps_head terms flow over prefix is = absurd is

head_by_look : (l : Look Command) (terms : Terms) (flow : Flow) (stage : Stage) (prefix : List (Timed Event)) → KeepsBy l terms (children.AsksHead flow) stage prefix →
    stage ≡ asks_head flow
head_by_look NotYet terms flow stage prefix is = keeps_head terms flow stage prefix is
head_by_look (Asks ask) terms flow stage prefix is = keeps_head terms flow stage prefix is
head_by_look (Ends owed) terms flow stage prefix is = absurd (let no : children.AsksHead flow ≡ children.Over = is in cc)

-- ---- and that of the whole request

keeps_whole : (terms : Terms) (flow : Flow) (stage : Stage) (prefix : List (Timed Event)) → Keeps terms (children.AsksWhole flow) stage prefix → stage ≡ asks_whole flow
keeps_whole terms flow waiting prefix is = absurd (let no : children.AsksWhole flow ≡ children.Waiting = is.0 in cc)
keeps_whole terms flow (asks_head other) prefix is = absurd (let no : children.AsksWhole flow ≡ children.AsksHead other = is in cc)
keeps_whole terms flow (asks_whole other) prefix is = let same : flow ≡ other = (let e : children.AsksWhole flow ≡ children.AsksWhole other = is in cc) in ap asks_whole (sym same)
keeps_whole terms flow (goes_on place) prefix is = absurd (let no : children.AsksWhole flow ≡ children.GoesOn is.stream = is.is in cc)
keeps_whole terms flow over prefix is = absurd is

whole_by_look : (l : Look Command) (terms : Terms) (flow : Flow) (stage : Stage) (prefix : List (Timed Event)) → KeepsBy l terms (children.AsksWhole flow) stage prefix →
    stage ≡ asks_whole flow
whole_by_look NotYet terms flow stage prefix is = keeps_whole terms flow stage prefix is
whole_by_look (Asks ask) terms flow stage prefix is = keeps_whole terms flow stage prefix is
whole_by_look (Ends owed) terms flow stage prefix is = absurd (let no : children.AsksWhole flow ≡ children.Over = is in cc)

-- ---- where a reply leads

-- It comes to where a turn leads, over every prefix, and gave what the turn owes and what is owed there.
pub record LeadsOn (terms : Terms) (recorded : Request) (next : Child) (more : List Command) (turn : List (Timed Event) → Turn Stage Command) : Type 0 where
  pub there : (prefix : List (Timed Event)) → IsChild terms recorded next ((resend_chain terms recorded).pass (turn (all_of_servers prefix)).stage prefix).stage prefix
  pub gives : (prefix : List (Timed Event)) (view : View) → seen_of view more
      ≡ seen_of view ((turn (all_of_servers prefix)).owed ++ owed_over (resend_chain terms recorded) (turn (all_of_servers prefix)).stage prefix)

module _ (terms : Terms) (recorded : Request) (flow : Flow) (moment : ℕ) (reply : Reply) (next : Child) (more : List Command) where
  head_resumes : LeadsOn terms recorded next more (λ heard. turn_head recorded flow heard moment (taken_at_request_head flow.request reply)) →
      ResumesChild terms recorded (children.AsksHead flow) next moment reply more
  head_resumes leads stage prefix kept =
      let is = head_by_look ((resend_chain terms recorded).look stage prefix) terms flow stage prefix kept in
      let P : Stage → Type 0 = λ s. Resumes (resend_chain terms recorded) (IsChild terms recorded) next moment reply more s prefix in
      subst P (sym is) (record { ask = ask_of flow RequestHead; asked = refl; place = leads.there prefix; gives = λ view. leads.gives prefix view })

  whole_resumes : LeadsOn terms recorded next more (λ heard. turn_whole flow heard moment (taken_at_request_body flow.request reply)) →
      ResumesChild terms recorded (children.AsksWhole flow) next moment reply more
  whole_resumes leads stage prefix kept =
      let is = whole_by_look ((resend_chain terms recorded).look stage prefix) terms flow stage prefix kept in
      let P : Stage → Type 0 = λ s. Resumes (resend_chain terms recorded) (IsChild terms recorded) next moment reply more s prefix in
      subst P (sym is) (record { ask = ask_of flow RequestBody; asked = refl; place = leads.there prefix; gives = λ view. leads.gives prefix view })

module _ (terms : Terms) (recorded : Request) where
  -- the whole request is asked about
  asks_on : (flow : Flow) → LeadsOn terms recorded (children.AsksWhole flow) (ask_of flow RequestBody ∷ []) (λ heard. leads_to (asks_whole flow))
  asks_on flow = record { there = λ prefix. refl; gives = λ prefix view. refl }

  -- the flow goes on
  goes_as : (flow : Flow) (moment : ℕ) (next : Child) (more : List Command) → GoesOnAs terms recorded flow moment next more →
      LeadsOn terms recorded next more (λ heard. leads_to (going flow moment heard))
  goes_as flow moment next more goes = record { there = λ prefix. (goes prefix).there; gives = λ prefix view. (goes prefix).gives view }

  -- it is killed
  kills_on : (flow : Flow) (moment : ℕ) → LeadsOn terms recorded children.Over (killed flow moment).owed (λ heard. killed flow moment)
  kills_on flow moment = record { there = λ prefix. refl; gives = λ prefix view. ap (seen_of view) (sym (append-nil (killed flow moment).owed)) }

  -- ---- by what a reply is taken for

  abbrev HeadLeads : Flow → ℕ → Taken Request → Child → List Command → Type 0
  HeadLeads flow moment taken next more = LeadsOn terms recorded next more (λ heard. turn_head recorded flow heard moment taken)

  abbrev WholeLeads : Flow → ℕ → Taken Request → Child → List Command → Type 0
  WholeLeads flow moment taken next more = LeadsOn terms recorded next more (λ heard. turn_whole flow heard moment taken)

  -- The reply to the hook of the head: one lemma for each way.
  head_by : (flow : Flow) (moment : ℕ) (reply : Reply) (taken : Taken Request) (next : Child) (out longer : List Command) → taken ≡ taken_at_request_head flow.request reply →
      Adds (HeadLeads flow moment taken next) out longer → Adds (ResumesChild terms recorded (children.AsksHead flow) next moment reply) out longer
  head_by flow moment reply taken next out longer is adds =
      let P : Taken Request → Type 0 = λ t. HeadLeads flow moment t next adds.more in
      record { more = adds.more; grown = adds.grown; holds = head_resumes terms recorded flow moment reply next adds.more (subst P is adds.holds) }

  whole_by : (flow : Flow) (moment : ℕ) (reply : Reply) (taken : Taken Request) (next : Child) (out longer : List Command) → taken ≡ taken_at_request_body flow.request reply →
      Adds (WholeLeads flow moment taken next) out longer → Adds (ResumesChild terms recorded (children.AsksWhole flow) next moment reply) out longer
  whole_by flow moment reply taken next out longer is adds =
      let P : Taken Request → Type 0 = λ t. WholeLeads flow moment t next adds.more in
      record { more = adds.more; grown = adds.grown; holds = whole_resumes terms recorded flow moment reply next adds.more (subst P is adds.holds) }

  module _ {E : Type 0} (result : Result Child E) (flow : Flow) (moment : ℕ) (reply : Reply) (taken : Taken Request) (out longer : List Command) where
    -- the hook of the whole request is asked
    pub head_goes : taken ≡ taken_at_request_head flow.request reply → (request : Request) → taken ≡ GoesOn request → (asked : Flow) → asked ≡ record flow { request = request } →
        IfOk result (λ next. next ≡ children.AsksWhole (whole_flow recorded asked)) → OnOk result (longer ≡ out ++ ask_of (whole_flow recorded asked) RequestBody ∷ []) →
        IfOk result (λ next. Adds (ResumesChild terms recorded (children.AsksHead flow) next moment reply) out longer)
    head_goes is request goes asked with_request next_is grown = by result next_is grown
      where
        there : Flow
        there = whole_flow recorded asked

        leads : HeadLeads flow moment taken (children.AsksWhole there) (ask_of there RequestBody ∷ [])
        leads =
            let P : Flow → Type 0 = λ f. HeadLeads flow moment (GoesOn request) (children.AsksWhole (whole_flow recorded f)) (ask_of (whole_flow recorded f) RequestBody ∷ []) in
            let Q : Taken Request → Type 0 = λ t. HeadLeads flow moment t (children.AsksWhole there) (ask_of there RequestBody ∷ []) in
            subst Q (sym goes) (subst P (sym with_request) (asks_on (whole_flow recorded (record flow { request = request }))))

        by : (found : Result Child E) → IfOk found (λ next. next ≡ children.AsksWhole there) → OnOk found (longer ≡ out ++ ask_of there RequestBody ∷ []) →
            IfOk found (λ next. Adds (ResumesChild terms recorded (children.AsksHead flow) next moment reply) out longer)
        by (Ok next) next_is grown =
            let P : Child → Type 0 = λ c. HeadLeads flow moment taken c (ask_of there RequestBody ∷ []) in
            head_by flow moment reply taken next out longer is (record { more = ask_of there RequestBody ∷ []; grown = grown; holds = subst P (sym next_is) leads })
        by (Err error) next_is grown = tt

    -- a response was given
    pub head_responds : taken ≡ taken_at_request_head flow.request reply → (response : Response) → taken ≡ Responds response → (given : Flow) →
        given ≡ record (whole_flow recorded flow) { response = Some response } → IfOk result (λ next. Adds (GoesOnAs terms recorded given moment next) out longer) →
        IfOk result (λ next. Adds (ResumesChild terms recorded (children.AsksHead flow) next moment reply) out longer)
    head_responds is response responds given with_response goes = by result goes
      where
        by : (found : Result Child E) → IfOk found (λ next. Adds (GoesOnAs terms recorded given moment next) out longer) →
            IfOk found (λ next. Adds (ResumesChild terms recorded (children.AsksHead flow) next moment reply) out longer)
        by (Ok next) adds =
            let P : Flow → Type 0 = λ f. LeadsOn terms recorded next adds.more (λ heard. leads_to (going f moment heard)) in
            let Q : Taken Request → Type 0 = λ t. HeadLeads flow moment t next adds.more in
            head_by flow moment reply taken next out longer is
            (record { more = adds.more; grown = adds.grown; holds = subst Q (sym responds) (subst P with_response (goes_as given moment next adds.more adds.holds)) })
        by (Err error) adds = tt

    -- it is killed
    pub head_kills : taken ≡ taken_at_request_head flow.request reply → taken ≡ Kills → IfOk result (λ next. next ≡ children.Over) → OnOk result (longer ≡ out ++ (killed flow moment).owed) →
        IfOk result (λ next. Adds (ResumesChild terms recorded (children.AsksHead flow) next moment reply) out longer)
    head_kills is kills next_is grown = by result next_is grown
      where
        by : (found : Result Child E) → IfOk found (λ next. next ≡ children.Over) → OnOk found (longer ≡ out ++ (killed flow moment).owed) →
            IfOk found (λ next. Adds (ResumesChild terms recorded (children.AsksHead flow) next moment reply) out longer)
        by (Ok next) next_is grown =
            let P : Child → Type 0 = λ c. HeadLeads flow moment taken c (killed flow moment).owed in
            let Q : Taken Request → Type 0 = λ t. HeadLeads flow moment t children.Over (killed flow moment).owed in
            head_by flow moment reply taken next out longer is
            (record { more = (killed flow moment).owed; grown = grown; holds = subst P (sym next_is) (subst Q (sym kills) (kills_on flow moment)) })
        by (Err error) next_is grown = tt

    -- the request goes on, or a response was given
    pub whole_goes : taken ≡ taken_at_request_body flow.request reply → (request : Request) → taken ≡ GoesOn request → (given : Flow) → given ≡ record flow { request = request } →
        IfOk result (λ next. Adds (GoesOnAs terms recorded given moment next) out longer) →
        IfOk result (λ next. Adds (ResumesChild terms recorded (children.AsksWhole flow) next moment reply) out longer)
    whole_goes is request takes given with_request goes = by result goes
      where
        by : (found : Result Child E) → IfOk found (λ next. Adds (GoesOnAs terms recorded given moment next) out longer) →
            IfOk found (λ next. Adds (ResumesChild terms recorded (children.AsksWhole flow) next moment reply) out longer)
        by (Ok next) adds =
            let P : Flow → Type 0 = λ f. LeadsOn terms recorded next adds.more (λ heard. leads_to (going f moment heard)) in
            let Q : Taken Request → Type 0 = λ t. WholeLeads flow moment t next adds.more in
            whole_by flow moment reply taken next out longer is
            (record { more = adds.more; grown = adds.grown; holds = subst Q (sym takes) (subst P with_request (goes_as given moment next adds.more adds.holds)) })
        by (Err error) adds = tt

    pub whole_responds : taken ≡ taken_at_request_body flow.request reply → (response : Response) → taken ≡ Responds response → (given : Flow) →
        given ≡ record flow { response = Some response } → IfOk result (λ next. Adds (GoesOnAs terms recorded given moment next) out longer) →
        IfOk result (λ next. Adds (ResumesChild terms recorded (children.AsksWhole flow) next moment reply) out longer)
    whole_responds is response responds given with_response goes = by result goes
      where
        by : (found : Result Child E) → IfOk found (λ next. Adds (GoesOnAs terms recorded given moment next) out longer) →
            IfOk found (λ next. Adds (ResumesChild terms recorded (children.AsksWhole flow) next moment reply) out longer)
        by (Ok next) adds =
            let P : Flow → Type 0 = λ f. LeadsOn terms recorded next adds.more (λ heard. leads_to (going f moment heard)) in
            let Q : Taken Request → Type 0 = λ t. WholeLeads flow moment t next adds.more in
            whole_by flow moment reply taken next out longer is
            (record { more = adds.more; grown = adds.grown; holds = subst Q (sym responds) (subst P with_response (goes_as given moment next adds.more adds.holds)) })
        by (Err error) adds = tt

    pub whole_kills : taken ≡ taken_at_request_body flow.request reply → taken ≡ Kills → IfOk result (λ next. next ≡ children.Over) → OnOk result (longer ≡ out ++ (killed flow moment).owed) →
        IfOk result (λ next. Adds (ResumesChild terms recorded (children.AsksWhole flow) next moment reply) out longer)
    whole_kills is kills next_is grown = by result next_is grown
      where
        by : (found : Result Child E) → IfOk found (λ next. next ≡ children.Over) → OnOk found (longer ≡ out ++ (killed flow moment).owed) →
            IfOk found (λ next. Adds (ResumesChild terms recorded (children.AsksWhole flow) next moment reply) out longer)
        by (Ok next) next_is grown =
            let P : Child → Type 0 = λ c. WholeLeads flow moment taken c (killed flow moment).owed in
            let Q : Taken Request → Type 0 = λ t. WholeLeads flow moment t children.Over (killed flow moment).owed in
            whole_by flow moment reply taken next out longer is
            (record { more = (killed flow moment).owed; grown = grown; holds = subst P (sym next_is) (subst Q (sym kills) (kills_on flow moment)) })
        by (Err error) next_is grown = tt
